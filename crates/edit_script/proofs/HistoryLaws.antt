-- The commands of a script with a history.
use Rattle.std.proofs.Common.{◌≡◌, ◌≢◌, ℕ, List, codes, encode_utf8_all, refl, sym, ap, subst, ◌∙◌}
use Rattle.std.specs.Str.{IsAscii, IsUtf8, bytes_eq, chars}
use Rattle.std.proofs.lemmas.Bool.Decides.{not_from_Decides}
use Rattle.std.proofs.lemmas.Slice.Eq.{bytes_eq-Decides}
use Rattle.std.proofs.lemmas.Str.{chars-IsAscii, encodes-IsAscii, encodes-chars}
use Rattle.xhtml_items.proofs.Texts.{IsAscii-from_test}
use Rattle.edit_script.specs.declared.action.Action.{Action}
use Rattle.edit_script.specs.declared.action.Action.TheVariants.{Undo, Redo}
use Rattle.edit_script.specs.declared.line_fault.LineFault.{LineFault}
use Rattle.edit_script.specs.Machinery.LineFaults.{IsLineFault}
use Rattle.edit_script.specs.Machinery.Operands.{keyword_at}
use Rattle.edit_script.specs.Scripts.{IsEditCommand, IsHistoryCommand, edit_command, undo_command, redo_command}
use Rattle.edit_script.proofs.CommandLaws.{no_keyword}
use Rattle.edit_script.proofs.FaultLaws.{fault_of_whole}

-- The two words.

undo_ascii : IsAscii (codes "undo")
undo_ascii = IsAscii-from_test (codes "undo") refl

redo_ascii : IsAscii (codes "redo")
redo_ascii = IsAscii-from_test (codes "redo") refl

-- bytes that are one of these words, and characters that are
word_chars : (word line : List ℕ) → IsAscii word → line ≡ word → chars line ≡ word
word_chars word line ascii same = ap chars same ∙ chars-IsAscii word ascii

word_bytes : (word line : List ℕ) → IsAscii word → IsUtf8 line → line ≢ word → chars line ≢ word
word_bytes word line ascii utf8 other is = other (sym (encodes-chars line utf8) ∙ ap encode_utf8_all is ∙ encodes-IsAscii word ascii)

pub undo_found : (line : List ℕ) → line ≡ codes "undo" → IsHistoryCommand (chars line) Undo
undo_found line same = subst (λ (t : List ℕ). IsHistoryCommand t Undo) (sym (word_chars (codes "undo") line undo_ascii same)) undo_command

pub redo_found : (line : List ℕ) → line ≡ codes "redo" → IsHistoryCommand (chars line) Redo
redo_found line same = subst (λ (t : List ℕ). IsHistoryCommand t Redo) (sym (word_chars (codes "redo") line redo_ascii same)) redo_command

pub undo_no : (line : List ℕ) → IsUtf8 line → line ≢ codes "undo" → chars line ≢ codes "undo"
undo_no line utf8 other = word_bytes (codes "undo") line undo_ascii utf8 other

pub redo_no : (line : List ℕ) → IsUtf8 line → line ≢ codes "redo" → chars line ≢ codes "redo"
redo_no line utf8 other = word_bytes (codes "redo") line redo_ascii utf8 other

-- A line that is neither is as in a script of edits.

pub only_edit : (line : List ℕ) (action : Action) → line ≢ codes "undo" → line ≢ codes "redo" → IsHistoryCommand line action → IsEditCommand line action
only_edit line action not_undo not_redo (edit_command is) = is
only_edit line action not_undo not_redo undo_command = absurd (not_undo refl)
only_edit line action not_undo not_redo redo_command = absurd (not_redo refl)

pub fault_of_edit : (line : List ℕ) (fault : LineFault) → line ≢ codes "undo" → line ≢ codes "redo" → IsLineFault (IsEditCommand line) fault → IsLineFault (IsHistoryCommand line) fault
fault_of_edit line fault not_undo not_redo none =
    fault_of_whole (IsEditCommand line) (IsHistoryCommand line) fault (λ action is. (action, only_edit line action not_undo not_redo is)) none

-- The two words are no commands of a script of edits.

pub undo_no_edit : (action : Action) → IsEditCommand (codes "undo") action → ⊥
unfolding keyword_at
undo_no_edit action is = no_keyword (codes "undo") refl action is

pub redo_no_edit : (action : Action) → IsEditCommand (codes "redo") action → ⊥
unfolding keyword_at
redo_no_edit action is = no_keyword (codes "redo") refl action is

words_differ : codes "undo" ≢ codes "redo"
words_differ same = not_from_Decides (bytes_eq (codes "undo") (codes "redo")) (bytes_eq-Decides (codes "undo") (codes "redo")) refl same

undo_action : (line : List ℕ) (action : Action) → line ≡ codes "undo" → IsHistoryCommand line action → action ≡ Undo
undo_action line action same (edit_command is) = absurd (undo_no_edit action (rw same at is))
undo_action line action same undo_command = refl
undo_action line action same redo_command = absurd (words_differ (sym same))

redo_action : (line : List ℕ) (action : Action) → line ≡ codes "redo" → IsHistoryCommand line action → action ≡ Redo
redo_action line action same (edit_command is) = absurd (redo_no_edit action (rw same at is))
redo_action line action same undo_command = absurd (words_differ same)
redo_action line action same redo_command = refl

pub one_history_action : (line : List ℕ) (action other : Action) → ((action other : Action) → IsEditCommand line action → IsEditCommand line other → action ≡ other)
    → IsHistoryCommand line action → IsHistoryCommand line other → action ≡ other
one_history_action line action other one (edit_command is) (edit_command too) = one action other is too
one_history_action line action other one (edit_command is) undo_command = absurd (undo_no_edit action is)
one_history_action line action other one (edit_command is) redo_command = absurd (redo_no_edit action is)
one_history_action line action other one undo_command too = sym (undo_action line other refl too)
one_history_action line action other one redo_command too = sym (redo_action line other refl too)
