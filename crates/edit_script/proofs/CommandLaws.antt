-- A line is a command where it is a keyword and operands.
use Rattle.std.proofs.Common.{◌≡◌, ℕ, List, [], ◌++◌, Some, None, inl, inr, refl, sym, ap, subst, ◌∙◌}
use Rattle.xhtml_items.proofs.StepLaws.{either_cases, past_text_takes}
use Rattle.reading.specs.Reading.{past_text}
use Rattle.edit_script.specs.declared.action.Action.{Action}
use Rattle.edit_script.specs.declared.keyword.Keyword.{Keyword}
use Rattle.edit_script.specs.declared.keyword.Keyword.TheVariants.{Insert, Remove, Move, Set, Unset, Sheet, Show}
use Rattle.edit_script.specs.Machinery.Operands.{AreOperands, of_insert, of_remove, of_move, of_set, of_set_empty, of_unset, of_sheet, of_show, found, keyword_at, keyword_text}
use Rattle.edit_script.specs.Scripts.{IsEditCommand, insert_command, remove_command, move_command, set_command, set_empty_command, unset_command, sheet_command, show_command}

taken : (keyword : Keyword) (line rest : List ℕ) (x : Keyword × List ℕ) → past_text (keyword_text keyword) line ≡ Some rest → found keyword rest ≡ Some x
    → line ≡ keyword_text x.0 ++ x.1
taken keyword line rest x read is =
    past_text_takes (keyword_text keyword) line rest read ∙ ap (λ (pair : Keyword × List ℕ). keyword_text pair.0 ++ pair.1) (let e : (keyword, rest) ≡ x = cc in e)

pub keyword_takes : (line : List ℕ) (x : Keyword × List ℕ) → keyword_at line ≡ Some x → line ≡ keyword_text x.0 ++ x.1
unfolding keyword_at
keyword_takes line x e = elim (either_cases (past_text (keyword_text Insert) line) (λ (rest : List ℕ). found Insert rest) _ _ e) [
  | inl w ↦ taken Insert line w.0 x w.1 w.2
  | inr w ↦ elim (either_cases (past_text (keyword_text Remove) line) (λ (rest : List ℕ). found Remove rest) _ _ w.1) [
    | inl w ↦ taken Remove line w.0 x w.1 w.2
    | inr w ↦ elim (either_cases (past_text (keyword_text Move) line) (λ (rest : List ℕ). found Move rest) _ _ w.1) [
      | inl w ↦ taken Move line w.0 x w.1 w.2
      | inr w ↦ elim (either_cases (past_text (keyword_text Set) line) (λ (rest : List ℕ). found Set rest) _ _ w.1) [
        | inl w ↦ taken Set line w.0 x w.1 w.2
        | inr w ↦ elim (either_cases (past_text (keyword_text Unset) line) (λ (rest : List ℕ). found Unset rest) _ _ w.1) [
          | inl w ↦ taken Unset line w.0 x w.1 w.2
          | inr w ↦ elim (either_cases (past_text (keyword_text Sheet) line) (λ (rest : List ℕ). found Sheet rest) _ _ w.1) [
            | inl w ↦ taken Sheet line w.0 x w.1 w.2
            | inr w ↦ elim (either_cases (past_text (keyword_text Show) line) (λ (rest : List ℕ). found Show rest) _ _ w.1) [
              | inl w ↦ taken Show line w.0 x w.1 w.2
              | inr w ↦ absurd (let h = w.1 in cc)
            ]
          ]
        ]
      ]
    ]
  ]
]

pub keyword_again : (keyword : Keyword) (operands : List ℕ) → keyword_at (keyword_text keyword ++ operands) ≡ Some (keyword, operands)
unfolding keyword_at
keyword_again Insert operands = refl
keyword_again Remove operands = refl
keyword_again Move operands = refl
keyword_again Set operands = refl
keyword_again Unset operands = refl
keyword_again Sheet operands = refl
keyword_again Show operands = refl

pub command_is : (keyword : Keyword) (operands : List ℕ) (action : Action) → AreOperands keyword operands action → IsEditCommand (keyword_text keyword ++ operands) action
command_is Insert operands action (of_insert parent index markup fragment path position reads) = insert_command parent index markup fragment path position reads
command_is Remove operands action (of_remove path sound) = remove_command path sound
command_is Move operands action (of_move from parent index path sound position) = move_command from parent index path sound position
command_is Set operands action (of_set path name value sound named) = set_command path name value sound named
command_is Set operands action (of_set_empty path name sound named) = set_empty_command path name sound named
command_is Unset operands action (of_unset path name sound named) = unset_command path name sound named
command_is Sheet operands action (of_sheet name some) = sheet_command name some
command_is Show operands action of_show = show_command

pub record HasOperands (line : List ℕ) (action : Action) : Type 0 where
  pub keyword : Keyword
  pub operands : List ℕ
  pub parts : line ≡ keyword_text keyword ++ operands
  pub are : AreOperands keyword operands action

pub command_parts : (line : List ℕ) (action : Action) → IsEditCommand line action → HasOperands line action
command_parts line action (insert_command parent index markup fragment path position reads) =
    record { keyword = Insert; operands = _; parts = refl; are = of_insert parent index markup fragment path position reads }
command_parts line action (remove_command path sound) = record { keyword = Remove; operands = _; parts = refl; are = of_remove path sound }
command_parts line action (move_command from parent index path sound position) =
    record { keyword = Move; operands = _; parts = refl; are = of_move from parent index path sound position }
command_parts line action (set_command path name value sound named) = record { keyword = Set; operands = _; parts = refl; are = of_set path name value sound named }
command_parts line action (set_empty_command path name sound named) = record { keyword = Set; operands = _; parts = refl; are = of_set_empty path name sound named }
command_parts line action (unset_command path name sound named) = record { keyword = Unset; operands = _; parts = refl; are = of_unset path name sound named }
command_parts line action (sheet_command name some) = record { keyword = Sheet; operands = _; parts = refl; are = of_sheet name some }
command_parts line action show_command = record { keyword = Show; operands = []; parts = refl; are = of_show }

pub command_reads : (line : List ℕ) (action : Action) (is : HasOperands line action) → keyword_at line ≡ Some (is.keyword, is.operands)
command_reads line action is = ap keyword_at is.parts ∙ keyword_again is.keyword is.operands

pub no_keyword : (line : List ℕ) → keyword_at line ≡ None → (action : Action) → IsEditCommand line action → ⊥
no_keyword line none action is = let e = sym (command_reads line action (command_parts line action is)) ∙ none in cc

pub found_command : (line operands : List ℕ) (keyword : Keyword) (action : Action) → keyword_at line ≡ Some (keyword, operands) → AreOperands keyword operands action → IsEditCommand line action
found_command line operands keyword action read are =
    subst (λ (t : List ℕ). IsEditCommand t action) (sym (keyword_takes line (keyword, operands) read)) (command_is keyword operands action are)

pub command_operands : (line operands : List ℕ) (keyword : Keyword) (action : Action) → keyword_at line ≡ Some (keyword, operands) → IsEditCommand line action → AreOperands keyword operands action
command_operands line operands keyword action read is =
    let parts = command_parts line action is in
    let same : (parts.keyword, parts.operands) ≡ (keyword, operands) = (let e = sym (command_reads line action parts) ∙ read in cc) in
    subst (λ (x : Keyword × List ℕ). AreOperands x.0 x.1 action) same parts.are
