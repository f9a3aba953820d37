-- Each text has a reading as a script.
use Rattle.std.proofs.Common.{◌≡◌, ℕ, zero, suc, ◌+◌, ◌≤◌, false, List, [], ◌∷◌, ◌++◌, length, codes, subst, Option, Some, None, ◌⊎◌, inl, inr, refl, sym, ap, ◌∙◌, arith}
use Rattle.std.specs.Prelude.{Result, Ok, Err}
use Rattle.std.specs.Fmt.{decimal}
use Rattle.std.specs.Str.{bytes_eq}
use Rattle.std.specs.Str.Parse.{digits_value}
use Rattle.std.proofs.lemmas.Bool.{cases_Bool, cases_lt}
use Rattle.std.proofs.lemmas.Bool.Decides.{not_from_Decides}
use Rattle.std.proofs.lemmas.Fmt.{decimal_is_IsNumeral}
use Rattle.std.proofs.lemmas.List.{length-append}
use Rattle.std.proofs.lemmas.Slice.Eq.{bytes_eq-Decides}
use Rattle.forest.specs.Forest.{Forest}
use Rattle.plain_types.specs.declared.edit.Edit.TheVariants as edit
use Rattle.plain_types.specs.declared.node.Node.{Node}
use Rattle.reading.specs.Characters.{is_digit}
use Rattle.reading.specs.Reading.{past_text, span}
use Rattle.xml_definitions.specs.Characters.{is_name}
use Rattle.xml_definitions.specs.Texts.{IsFragmentText}
use Rattle.xhtml_items.proofs.StepLaws.{past_text_again}
use Rattle.xhtml_items.specs.Reading.{split_once}
use Rattle.xhtml_reader.proofs.Totals.{some_fragment}
use Rattle.xhtml_reader.specs.Readings.{ReadsAsFragment}
use Rattle.edit_script.specs.Lines.{is_skipped}
use Rattle.edit_script.specs.Machinery.Operands.{AreOperands, keyword_at, of_show}
use Rattle.edit_script.specs.Machinery.Words.{AreParts, ArePositions, IsNameAndValue, IsNameText, IsPositionFront, IsPositionText, IsWordAndRest, positions_text, with_value, without_value}
use Rattle.edit_script.specs.Scripts.{AreCommands, IsBookCommand, IsCommand, IsEditCommand, IsFirstBad, IsHistoryCommand, IsPathText, ReadsAsScript, bad_here, bad_later, command, command_line, document_command, edit_command, no_line, redo_command, script_lines, skipped_line, undo_command}
use Rattle.edit_script.specs.declared.action.Action.TheVariants as actions
use Rattle.edit_script.specs.declared.command.Command.{Command}
use Rattle.edit_script.specs.declared.keyword.Keyword.{Keyword}
use Rattle.edit_script.specs.declared.keyword.Keyword.TheVariants.{Insert, Remove, Move, Set, Unset, Sheet, Show}
use Rattle.edit_script.specs.declared.script_kind.ScriptKind.{ScriptKind}
use Rattle.edit_script.specs.declared.script_kind.ScriptKind.TheVariants.{Edits, History, Book}
use Rattle.edit_script.proofs.BookLaws.{in_found, in_nowhere, only_document}
use Rattle.edit_script.proofs.CommandLaws.{command_operands, found_command, no_keyword}
use Rattle.edit_script.proofs.HistoryLaws.{only_edit}
use Rattle.edit_script.proofs.OperandLaws.{insert_index, insert_is, insert_markup, insert_path, insert_rest, insert_split, move_from, move_index, move_is, move_parent, move_rest, move_split, remove_is, remove_path, set_is, set_name, set_path, set_split, sheet_is, sheet_some, show_none, unset_is, unset_name, unset_path, unset_split}
use Rattle.edit_script.proofs.PathLaws.{front_position, path-deeper, path-positions, path-root}
use Rattle.edit_script.proofs.WordLaws.{lacks_all, position_digits, position_front, same_position, small, split_finds, split_is}

-- there is one, or there is none
data Decided {X : Type 0} (Is : X → Type 0) : Type 0 where
  found : (x : X) → Is x → Decided Is
  none : ((x : X) → Is x → ⊥) → Decided Is

-- the whole needs a part: where there is none, there is no whole
part_of : {X Y : Type 0} {Part : X → Type 0} {Whole : Y → Type 0} → Decided Part → ((y : Y) → Whole y → (x : X) × Part x) → ((x : X) → Part x → Decided Whole) → Decided Whole
part_of (found x is) needs next = next x is
part_of (none lacking) needs next = none (λ y is. let x = needs y is in lacking x.0 x.1)

-- Words.

parts_of : {Y : Type 0} {Whole : Y → Type 0} (text : List ℕ) → ((y : Y) → Whole y → (x : List ℕ × List ℕ) × AreParts text x)
    → ((word rest : List ℕ) → IsWordAndRest text word rest → Decided Whole) → Decided Whole
parts_of {Y} {Whole} text needs next = told (split_once (32 ∷ []) text) refl
  where
    told : (o : Option (List ℕ × List ℕ)) → split_once (32 ∷ []) text ≡ o → Decided Whole
    told (Some x) e = next x.0 x.1 (split_is text x e)
    told None e = none (λ y is. let x = needs y is in split_finds 32 x.0.0 x.0.1 (ap (split_once (32 ∷ [])) (sym x.1) ∙ e))

name_and_value : (text : List ℕ) → (x : List ℕ × List ℕ) × IsNameAndValue text x.0 x.1
name_and_value text = told (split_once (32 ∷ []) text) refl
  where
    told : (o : Option (List ℕ × List ℕ)) → split_once (32 ∷ []) text ≡ o → (x : List ℕ × List ℕ) × IsNameAndValue text x.0 x.1
    told (Some x) e = (x, with_value (split_is text x e))
    told None e = ((text, []), without_value (lacks_all 32 text e) refl refl)

name_decided : (text : List ℕ) → Decided (IsNameText text)
name_decided text = elim (cases_Bool (is_name text)) [
  | inl named ↦ found text (record { same = refl; named = named })
  | inr other ↦ none (λ name is. let named = is.named in let e = sym named ∙ other in cc)
]

fragment_decided : (text : List ℕ) → Decided (IsFragmentText text)
fragment_decided text = let reading = some_fragment text in told reading.0 reading.1
  where
    told : (reading : Result (Forest Node) (ℕ × ℕ)) → ReadsAsFragment text reading → Decided (IsFragmentText text)
    told (Ok tree) is = found tree is
    told (Err place) fails = none fails.none

-- Positions and paths.

number_is : (text : List ℕ) (number : ℕ) → IsPositionText text number → digits_value 10 text ≡ number
number_is text number is = ap (digits_value 10) is.written ∙ (decimal_is_IsNumeral number (small number is.sound)).1

position_decided : (text : List ℕ) → Decided (IsPositionText text)
position_decided text = elim (cases_Bool (bytes_eq text (decimal (digits_value 10 text)))) [
  | inl same ↦ elim (cases_lt 4294967295 (digits_value 10 text)) [
    | inl large ↦ none (λ number is. omega (arith, large, number_is text number is, is.sound))
    | inr sound ↦ found (digits_value 10 text) (record { written = (bytes_eq-Decides text (decimal (digits_value 10 text))).0 same; sound = sound })
  ]
  | inr other ↦ none (λ number is.
      not_from_Decides (bytes_eq text (decimal (digits_value 10 text))) (bytes_eq-Decides text (decimal (digits_value 10 text))) other
      (is.written ∙ ap decimal (sym (number_is text number is))))
]

front_decided : (text : List ℕ) → Decided (IsPositionFront text)
front_decided text = told (past_text (47 ∷ []) text) refl
  where
    told : (o : Option (List ℕ)) → past_text (47 ∷ []) text ≡ o → Decided (IsPositionFront text)
    told None e = none (λ x is. let read = sym e ∙ ap (past_text (47 ∷ [])) is.parts ∙ past_text_again (47 ∷ []) (decimal x.0 ++ x.1) in cc)
    told (Some after) slash =
        part_of (position_decided (span is_digit after).0)
        (λ x is. (x.0, position_digits text after (span is_digit after).0 (span is_digit after).1 x slash refl is))
        (λ number is. found (number, (span is_digit after).1) (position_front text after (span is_digit after).0 (span is_digit after).1 number slash refl is))

positions_decided : (most : ℕ) (text : List ℕ) → length text ≤ most → Decided (ArePositions text)
positions_decided most [] le = found [] (record { written = refl; sound = tt })
positions_decided zero (c ∷ cs) le = absurd (omega arith)
positions_decided (suc most) (c ∷ cs) le = part_of (front_decided (c ∷ cs)) first (λ x is. rest (λ text. positions_decided most text) x is)
  where
    first : (path : List ℕ) → ArePositions (c ∷ cs) path → (x : ℕ × List ℕ) × IsPositionFront (c ∷ cs) x
    first [] are = absurd (let e = are.written in cc)
    first (position ∷ path) are = ((position, positions_text path), front_position (c ∷ cs) position path are)

    later : (x : ℕ × List ℕ) → IsPositionFront (c ∷ cs) x → (path : List ℕ) → ArePositions (c ∷ cs) path → (more : List ℕ) × ArePositions x.1 more
    later x is [] are = absurd (let e = are.written in cc)
    later x is (position ∷ path) are =
        let same = same_position (c ∷ cs) position x.0 (positions_text path) x.1 (front_position (c ∷ cs) position path are) is in
        (path, record { written = sym same.1; sound = are.sound.1 })

    rest : ((text : List ℕ) → length text ≤ most → Decided (ArePositions text)) → (x : ℕ × List ℕ) → IsPositionFront (c ∷ cs) x → Decided (ArePositions (c ∷ cs))
    rest go x is =
        part_of (go x.1 (omega (arith, ap length is.parts, length-append (decimal x.0) x.1))) (later x is)
        (λ path are. found (x.0 ∷ path) (record { written = is.parts ∙ ap (λ (t : List ℕ). 47 ∷ (decimal x.0 ++ t)) are.written; sound = (is.sound, are.sound) }))

path_decided : (text : List ℕ) → Decided (IsPathText text)
path_decided [] = none no_path
  where
    no_path : (path : List ℕ) → IsPathText [] path → ⊥
    no_path [] is = let e = is.written in cc
    no_path (position ∷ path) is = let e = is.written in cc
path_decided (c ∷ cs) = elim (cases_Bool (bytes_eq (c ∷ cs) (47 ∷ []))) [
  | inl same ↦ found [] (path-root (c ∷ cs) ((bytes_eq-Decides (c ∷ cs) (47 ∷ [])).0 same))
  | inr other ↦ part_of (positions_decided (length (c ∷ cs)) (c ∷ cs) (omega arith))
      (λ path is. (path, (path-positions (c ∷ cs) path (not_from_Decides (bytes_eq (c ∷ cs) (47 ∷ [])) (bytes_eq-Decides (c ∷ cs) (47 ∷ [])) other) is).0))
      deeper
]
  where
    deeper : (path : List ℕ) → ArePositions (c ∷ cs) path → Decided (IsPathText (c ∷ cs))
    deeper [] are = absurd (let e = are.written in cc)
    deeper (position ∷ path) are = found (position ∷ path) (path-deeper (c ∷ cs) (position ∷ path) (λ e. cc) are)

-- Operands.

insert_decided : (text : List ℕ) → Decided (AreOperands Insert text)
insert_decided text =
    parts_of text (insert_split text) (λ word rest split. parts_of rest (insert_rest text word rest split) (λ digits markup more.
    part_of (path_decided word) (insert_path text word rest split) (λ parent path.
    part_of (position_decided digits) (insert_index text word rest split digits markup more) (λ index position.
    part_of (fragment_decided markup) (insert_markup text word rest split digits markup more) (λ fragment reads.
    found (actions.Change (edit.Insert parent index fragment)) (insert_is text word rest split digits markup more parent index fragment path position reads))))))

remove_decided : (text : List ℕ) → Decided (AreOperands Remove text)
remove_decided text = part_of (path_decided text) (remove_path text) (λ path is. found (actions.Change (edit.Remove path)) (remove_is text path is))

move_decided : (text : List ℕ) → Decided (AreOperands Move text)
move_decided text =
    parts_of text (move_split text) (λ word rest split. parts_of rest (move_rest text word rest split) (λ second digits more.
    part_of (path_decided word) (move_from text word rest split) (λ from first.
    part_of (path_decided second) (move_parent text word rest split second digits more) (λ parent path.
    part_of (position_decided digits) (move_index text word rest split second digits more) (λ index position.
    found (actions.Change (edit.Move from parent index)) (move_is text word rest split second digits more from parent index first path position))))))

set_decided : (text : List ℕ) → Decided (AreOperands Set text)
set_decided text =
    parts_of text (set_split text) (λ word rest split. let parts = name_and_value rest in
    part_of (path_decided word) (set_path text word rest split) (λ path first.
    part_of (name_decided parts.0.0) (set_name text word rest split parts.0.0 parts.0.1 parts.1) (λ name named.
    found (actions.Change (edit.SetAttr path name parts.0.1)) (set_is text word rest split parts.0.0 parts.0.1 path name parts.1 first named))))

unset_decided : (text : List ℕ) → Decided (AreOperands Unset text)
unset_decided text =
    parts_of text (unset_split text) (λ word rest split.
    part_of (path_decided word) (unset_path text word rest split) (λ path first.
    part_of (name_decided rest) (unset_name text word rest split) (λ name named.
    found (actions.Change (edit.UnsetAttr path name)) (unset_is text word rest split path name first named))))

operands_decided : (keyword : Keyword) (text : List ℕ) → Decided (AreOperands keyword text)
operands_decided Insert text = insert_decided text
operands_decided Remove text = remove_decided text
operands_decided Move text = move_decided text
operands_decided Set text = set_decided text
operands_decided Unset text = unset_decided text
operands_decided Sheet [] = none (λ action is. sheet_some [] action is refl)
operands_decided Sheet (c ∷ cs) = found (actions.SheetFile (c ∷ cs)) (sheet_is (c ∷ cs) (c ∷ cs) refl (λ e. cc))
operands_decided Show [] = found actions.Show of_show
operands_decided Show (c ∷ cs) = none (λ action is. let e = show_none (c ∷ cs) action is in cc)

-- Lines.

edit_decided : (line : List ℕ) → Decided (IsEditCommand line)
edit_decided line = told (keyword_at line) refl
  where
    told : (o : Option (Keyword × List ℕ)) → keyword_at line ≡ o → Decided (IsEditCommand line)
    told None e = none (no_keyword line e)
    told (Some (keyword, operands)) e =
        part_of (operands_decided keyword operands) (λ action is. (action, command_operands line operands keyword action e is))
        (λ action are. found action (found_command line operands keyword action e are))

history_decided : (line : List ℕ) → Decided (IsHistoryCommand line)
history_decided line = elim (cases_Bool (bytes_eq line (codes "undo"))) [
  | inl same ↦ found actions.Undo (subst (λ (t : List ℕ). IsHistoryCommand t actions.Undo) (sym ((bytes_eq-Decides line (codes "undo")).0 same)) undo_command)
  | inr not_undo ↦ elim (cases_Bool (bytes_eq line (codes "redo"))) [
    | inl same ↦ found actions.Redo (subst (λ (t : List ℕ). IsHistoryCommand t actions.Redo) (sym ((bytes_eq-Decides line (codes "redo")).0 same)) redo_command)
    | inr not_redo ↦ part_of (edit_decided line)
        (λ action is. (
          action,
          only_edit line action (not_from_Decides (bytes_eq line (codes "undo")) (bytes_eq-Decides line (codes "undo")) not_undo)
              (not_from_Decides (bytes_eq line (codes "redo")) (bytes_eq-Decides line (codes "redo")) not_redo) is,
        ))
        (λ action is. found action (edit_command is))
  ]
]

book_decided : (line : List ℕ) → Decided (IsBookCommand line)
book_decided line = told (past_text (codes "in ") line) refl
  where
    told : (o : Option (List ℕ)) → past_text (codes "in ") line ≡ o → Decided (IsBookCommand line)
    told None e = part_of (edit_decided line) (λ action is. (action, only_document line action e is)) (λ action is. found action (document_command is))
    told (Some []) e = none (in_nowhere line e)
    told (Some (c ∷ cs)) e = found (actions.Enter (c ∷ cs)) (in_found line (c ∷ cs) (c ∷ cs) e (λ e. cc) refl)

command_decided : (kind : ScriptKind) (line : List ℕ) → Decided (IsCommand kind line)
command_decided Edits line = edit_decided line
command_decided History line = history_decided line
command_decided Book line = book_decided line

-- the lines, from this number on, are commands, or one is bad
abbrev LinesRead : ScriptKind → ℕ → List (List ℕ) → Type 0
LinesRead kind number lines = ((commands : List Command) × AreCommands kind number lines commands) ⊎ ((bad : ℕ) × IsFirstBad kind number lines bad)

lines_read : (kind : ScriptKind) (number : ℕ) (lines : List (List ℕ)) → LinesRead kind number lines
lines_read kind number [] = inl ([], no_line number)
lines_read kind number (line ∷ rest) = elim (cases_Bool (is_skipped line)) [
  | inl skipped ↦ elim (lines_read kind (number + 1) rest) [
    | inl are ↦ inl (are.0, skipped_line skipped are.1)
    | inr bad ↦ inr (bad.0, bad_later (inl skipped) bad.1)
  ]
  | inr counts ↦ told counts (command_decided kind line) (lines_read kind (number + 1) rest)
]
  where
    told : is_skipped line ≡ false → Decided (IsCommand kind line) → LinesRead kind (number + 1) rest → LinesRead kind number (line ∷ rest)
    told counts (none lacking) later = inr (number, bad_here (record { counts = counts; none = lacking }))
    told counts (found action is) (inl are) = inl (command number action ∷ are.0, command_line action counts is are.1)
    told counts (found action is) (inr bad) = inr (bad.0, bad_later (inr (action, is)) bad.1)

pub some_reading : (kind : ScriptKind) (text : List ℕ) → (reading : Result (List Command) ℕ) × ReadsAsScript kind text reading
some_reading kind text = elim (lines_read kind 1 (script_lines text)) [
  | inl are ↦ (Ok are.0, are.1)
  | inr bad ↦ (Err bad.0, bad.1)
]
