-- A text has one reading.
use Rattle.std.proofs.Common.{◌≡◌, ℕ, ◌+◌, true, false, List, [], ◌∷◌, inl, inr, refl, sym, ap, ◌∙◌}
use Rattle.std.specs.Prelude.{Result, Ok, Err}
use Rattle.edit_script.specs.declared.action.Action.{Action}
use Rattle.edit_script.specs.declared.command.Command.{Command}
use Rattle.edit_script.specs.declared.script_kind.ScriptKind.{ScriptKind}
use Rattle.edit_script.specs.declared.script_kind.ScriptKind.TheVariants.{Edits, History, Book}
use Rattle.edit_script.specs.Lines.{is_skipped}
use Rattle.edit_script.specs.Scripts.{AreCommands, no_line, skipped_line, command_line, IsBad, IsCommand, IsEditCommand, IsFirstBad, IsGood, bad_here, bad_later, command, ReadsAsScript, script_lines}
use Rattle.edit_script.proofs.BookLaws.{one_book_action}
use Rattle.edit_script.proofs.CommandLaws.{command_operands, command_parts, command_reads}
use Rattle.edit_script.proofs.HistoryLaws.{one_history_action}
use Rattle.edit_script.proofs.OperandLaws.{one_operands}

one_edit_action : (line : List ℕ) (action other : Action) → IsEditCommand line action → IsEditCommand line other → action ≡ other
one_edit_action line action other is too =
    let parts = command_parts line action is in
    one_operands parts.operands action other parts.keyword parts.are (command_operands line parts.operands parts.keyword other (command_reads line action parts) too)

pub one_action : (kind : ScriptKind) (line : List ℕ) (action other : Action) → IsCommand kind line action → IsCommand kind line other → action ≡ other
one_action Edits line action other is too = one_edit_action line action other is too
one_action History line action other is too = one_history_action line action other (one_edit_action line) is too
one_action Book line action other is too = one_book_action line action other (one_edit_action line) is too

not_both : {P : Type 0} (line : List ℕ) → is_skipped line ≡ true → is_skipped line ≡ false → P
not_both line skipped counts = absurd (let e = sym skipped ∙ counts in cc)

one_list : (kind : ScriptKind) (number : ℕ) (lines : List (List ℕ)) (commands others : List Command) → AreCommands kind number lines commands → AreCommands kind number lines others → commands ≡ others
one_list kind number [] commands others (no_line same) (no_line again) = refl
one_list kind number (line ∷ rest) commands others (skipped_line skipped are) (skipped_line too these) = one_list kind (number + 1) rest commands others are these
one_list kind number (line ∷ rest) commands others (skipped_line skipped are) (command_line action counts is these) = not_both line skipped counts
one_list kind number (line ∷ rest) commands others (command_line action counts is are) (skipped_line skipped these) = not_both line skipped counts
one_list kind number (line ∷ rest) (first ∷ commands) (second ∷ others) (command_line action counts is are) (command_line other too that these) =
    ap (λ (a : Action). command number a ∷ commands) (one_action kind line action other is that) ∙ ap (λ (more : List Command). command number other ∷ more) (one_list kind (number + 1) rest commands others are these)

no_good : {P : Type 0} (kind : ScriptKind) (line : List ℕ) → IsBad kind line → IsGood kind line → P
no_good kind line bad (inl skipped) = not_both line skipped bad.counts
no_good kind line bad (inr command) = absurd (bad.none command.0 command.1)

one_bad : (kind : ScriptKind) (number : ℕ) (lines : List (List ℕ)) (first second : ℕ) → IsFirstBad kind number lines first → IsFirstBad kind number lines second → first ≡ second
one_bad kind number [] first second is too = elim is [ ]
one_bad kind number (line ∷ rest) first second (bad_here bad) (bad_here too) = refl
one_bad kind number (line ∷ rest) first second (bad_here bad) (bad_later good later) = no_good kind line bad good
one_bad kind number (line ∷ rest) first second (bad_later good later) (bad_here bad) = no_good kind line bad good
one_bad kind number (line ∷ rest) first second (bad_later good later) (bad_later fine more) = one_bad kind (number + 1) rest first second later more

no_bad : {P : Type 0} (kind : ScriptKind) (number : ℕ) (lines : List (List ℕ)) (commands : List Command) (bad : ℕ) → AreCommands kind number lines commands → IsFirstBad kind number lines bad → P
no_bad kind number [] commands named are is = elim is [ ]
no_bad kind number (line ∷ rest) commands named (skipped_line skipped are) (bad_here bad) = not_both line skipped bad.counts
no_bad kind number (line ∷ rest) commands named (skipped_line skipped are) (bad_later good later) = no_bad kind (number + 1) rest commands named are later
no_bad kind number (line ∷ rest) commands named (command_line action counts is are) (bad_here bad) = absurd (bad.none action is)
no_bad kind number (line ∷ rest) (first ∷ commands) named (command_line action counts is are) (bad_later good later) = no_bad kind (number + 1) rest commands named are later

pub one_reading : (kind : ScriptKind) (text : List ℕ) (reading other : Result (List Command) ℕ) → ReadsAsScript kind text reading → ReadsAsScript kind text other → reading ≡ other
one_reading kind text (Ok commands) (Ok others) is too = ap Ok (one_list kind 1 (script_lines text) commands others is too)
one_reading kind text (Ok commands) (Err bad) is too = no_bad kind 1 (script_lines text) commands bad is too
one_reading kind text (Err bad) (Ok commands) is too = no_bad kind 1 (script_lines text) commands bad too is
one_reading kind text (Err first) (Err second) is too = ap Err (one_bad kind 1 (script_lines text) first second is too)
