-- The commands of the script of a book.
use Rattle.std.proofs.Common.{◌≡◌, ◌≢◌, ℕ, List, [], ◌∷◌, codes, Some, None, refl, sym, ap, subst}
use Rattle.reading.specs.Reading.{past_text}
use Rattle.xhtml_items.proofs.StepLaws.{past_text_takes}
use Rattle.edit_script.specs.declared.action.Action.{Action}
use Rattle.edit_script.specs.declared.action.Action.TheVariants.{Undo, Redo, Enter}
use Rattle.edit_script.specs.declared.script_kind.ScriptKind.{ScriptKind}
use Rattle.edit_script.specs.declared.script_kind.ScriptKind.TheVariants.{Edits, History, Book}
use Rattle.edit_script.specs.Machinery.Operands.{keyword_at}
use Rattle.edit_script.specs.Scripts.{IsBookCommand, IsCommand, IsEditCommand, IsHistoryCommand, document_command, edit_command, in_command, spaced}
use Rattle.edit_script.proofs.CommandLaws.{no_keyword}

-- The line `in NAME`.

abbrev in_line : List ℕ → List ℕ
in_line name = spaced (codes "in" ∷ name ∷ [])

-- it is no command of a script of edits
in_no_edit : (name : List ℕ) (action : Action) → IsEditCommand (in_line name) action → ⊥
unfolding keyword_at
in_no_edit name action is = no_keyword (in_line name) refl action is

in_takes : (line name : List ℕ) → past_text (codes "in ") line ≡ Some name → line ≡ in_line name
in_takes line name read = past_text_takes (codes "in ") line name read

pub in_found : (line name copy : List ℕ) → past_text (codes "in ") line ≡ Some name → name ≢ [] → copy ≡ name → IsBookCommand line (Enter copy)
in_found line name copy read some same =
    subst (λ (t : List ℕ). IsBookCommand t (Enter copy)) (sym (in_takes line name read))
    (subst (λ (n : List ℕ). IsBookCommand (in_line name) (Enter n)) (sym same) (in_command name some))

-- without a NAME it is none
pub in_nowhere : (line : List ℕ) → past_text (codes "in ") line ≡ Some [] → (action : Action) → IsBookCommand line action → ⊥
in_nowhere line read action (document_command is) = in_no_edit [] action (subst (λ (t : List ℕ). IsEditCommand t action) (in_takes line [] read) is)
in_nowhere line read action (in_command name some) = some (cc read)

-- A line that does not begin so is as in a script of edits.

pub only_document : (line : List ℕ) (action : Action) → past_text (codes "in ") line ≡ None → IsBookCommand line action → IsEditCommand line action
only_document line action other (document_command is) = is
only_document line action other (in_command name some) = absurd (cc other)

-- A line has one action.

in_action : (line name : List ℕ) (action : Action) → line ≡ in_line name → IsBookCommand line action → action ≡ Enter name
in_action line name action same (document_command is) = absurd (in_no_edit name action (rw same at is))
in_action line name action same (in_command other some) = ap Enter (cc same)

pub one_book_action : (line : List ℕ) (action other : Action) → ((action other : Action) → IsEditCommand line action → IsEditCommand line other → action ≡ other)
    → IsBookCommand line action → IsBookCommand line other → action ≡ other
one_book_action line action other one (document_command is) (document_command too) = one action other is too
one_book_action line action other one (document_command is) (in_command name some) = absurd (in_no_edit name action is)
one_book_action line action other one (in_command name some) too = sym (in_action line name other refl too)

-- What only one kind of script has.

no_undo : (line : List ℕ) → IsEditCommand line Undo → ⊥
no_undo line is = elim is [ ]

no_redo : (line : List ℕ) → IsEditCommand line Redo → ⊥
no_redo line is = elim is [ ]

no_enter : (line name : List ℕ) → IsEditCommand line (Enter name) → ⊥
no_enter line name is = elim is [ ]

history_stays : (line name : List ℕ) → IsHistoryCommand line (Enter name) → ⊥
history_stays line name (edit_command is) = no_enter line name is

book_undo : (line : List ℕ) → IsBookCommand line Undo → ⊥
book_undo line (document_command is) = no_undo line is

book_redo : (line : List ℕ) → IsBookCommand line Redo → ⊥
book_redo line (document_command is) = no_redo line is

pub undo_of_history : (kind : ScriptKind) (line : List ℕ) → IsCommand kind line Undo → kind ≡ History
undo_of_history Edits line is = absurd (no_undo line is)
undo_of_history History line is = refl
undo_of_history Book line is = absurd (book_undo line is)

pub redo_of_history : (kind : ScriptKind) (line : List ℕ) → IsCommand kind line Redo → kind ≡ History
redo_of_history Edits line is = absurd (no_redo line is)
redo_of_history History line is = refl
redo_of_history Book line is = absurd (book_redo line is)

pub enter_of_book : (kind : ScriptKind) (line name : List ℕ) → IsCommand kind line (Enter name) → kind ≡ Book
enter_of_book Edits line name is = absurd (no_enter line name is)
enter_of_book History line name is = absurd (history_stays line name is)
enter_of_book Book line name is = refl
