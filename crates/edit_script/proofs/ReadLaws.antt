-- A script, line by line.
use Rattle.std.proofs.Common.{◌≡◌, ℕ, ◌+◌, ◌<◌, List, [], ◌∷◌, ◌++◌, length, inl, inr, sym, ap, subst, ◌∙◌, append_assoc, append-nil, arith}
use Rattle.std.specs.Prelude.{Result, Ok, Err, IfErr, encode_utf8_all}
use Rattle.std.specs.Result.{IsErr, IsErrAnd}
use Rattle.std.specs.Str.{chars, IsUtf8}
use Rattle.std.proofs.lemmas.Str.{encodes-chars, length-le-encodes}
use Rattle.edit_script.specs.declared.command.Command.{Command}
use Rattle.edit_script.specs.declared.fault.ScriptFault.{ScriptFault}
use Rattle.edit_script.specs.declared.fault.ScriptFault.TheVariants.{BadLine, Memory}
use Rattle.edit_script.specs.declared.script_kind.ScriptKind.{ScriptKind}
use Rattle.edit_script.specs.Faults.{IsFault}
use Rattle.edit_script.specs.Lines.{lines}
use Rattle.edit_script.specs.Machinery.Reading.{AddsLine, adds_nothing, adds_command, HasLines, IsBadLine}
use Rattle.edit_script.specs.Scripts.{AreCommands, no_line, skipped_line, command_line, IsFirstBad, IsGood, bad_here, bad_later, command}

module _ (kind : ScriptKind) (text rest line after : List ℕ) (number : ℕ) (old : List Command) (so_far : HasLines kind text number old rest) (split : lines rest ≡ line ∷ lines after) where
  found_more : (new : List Command) → AddsLine kind (number + 1) line old new → (more : List Command) → AreCommands kind (number + 1 + 1) (lines after) more → AreCommands kind 1 (lines text) (new ++ more)
  found_more new (adds_nothing skipped same) more are =
      subst (λ (commands : List Command). AreCommands kind 1 (lines text) (commands ++ more)) (sym same)
      (so_far.found more (subst (λ (all : List (List ℕ)). AreCommands kind (number + 1) all more) (sym split) (skipped_line skipped are)))
  found_more new (adds_command action counts is same) more are =
      subst (λ (commands : List Command). AreCommands kind 1 (lines text) commands) (sym (ap (λ (commands : List Command). commands ++ more) same ∙ append_assoc old (command (number + 1) action ∷ []) more))
      (so_far.found (command (number + 1) action ∷ more) (subst (λ (all : List (List ℕ)). AreCommands kind (number + 1) all (command (number + 1) action ∷ more)) (sym split) (command_line action counts is are)))

  good : (new : List Command) → AddsLine kind (number + 1) line old new → IsGood kind line
  good new (adds_nothing skipped same) = inl skipped
  good new (adds_command action counts is same) = inr (action, is)

  pub lines-more : (new : List Command) → AddsLine kind (number + 1) line old new → length after < length rest → HasLines kind text (number + 1) new after
  lines-more new adds shorter = record {
    found = found_more new adds;
    fault = λ bad later. so_far.fault bad (subst (λ (all : List (List ℕ)). IsFirstBad kind (number + 1) all bad) (sym split) (bad_later (good new adds) later));
    counted = omega (arith, so_far.counted);
  }

  pub lines-bad : (named : ℕ) → IsBadLine kind (number + 1) line named → IsFirstBad kind 1 (lines text) named
  lines-bad named bad =
      subst (λ (n : ℕ). IsFirstBad kind 1 (lines text) n) (sym bad.same)
      (so_far.fault (number + 1) (subst (λ (all : List (List ℕ)). IsFirstBad kind (number + 1) all (number + 1)) (sym split) (bad_here bad.bad)))

  pub stopped_line : {T : Type 0} (result : Result T ScriptFault) (fault : ScriptFault) → IsErr result × IsErrAnd result (λ error. error ≡ fault)
      → IsFault (IsBadLine kind (number + 1) line) fault → IfErr result (IsFault (λ (named : ℕ). IsFirstBad kind 1 (lines text) named))
  stopped_line (Ok x) fault is bad = absurd is.1
  stopped_line (Err error) fault is bad = subst (IsFault (λ (named : ℕ). IsFirstBad kind 1 (lines text) named)) (sym is.1) (named_fault fault bad)
    where
      named_fault : (fault : ScriptFault) → IsFault (IsBadLine kind (number + 1) line) fault → IsFault (λ (named : ℕ). IsFirstBad kind 1 (lines text) named) fault
      named_fault (BadLine named) bad = lines-bad named bad
      named_fault Memory bad = tt

pub lines-end : (kind : ScriptKind) (text rest : List ℕ) (number : ℕ) (commands : List Command) → HasLines kind text number commands rest → rest ≡ [] → AreCommands kind 1 (lines text) commands
unfolding lines
lines-end kind text rest number commands so_far none =
    subst (λ (all : List Command). AreCommands kind 1 (lines text) all) (append-nil commands)
    (so_far.found [] (subst (λ (t : List ℕ). AreCommands kind (number + 1) (lines t) []) (sym none) (no_line (number + 1))))

-- a line more can be counted: a text has no more lines than bytes
pub number_fits : (kind : ScriptKind) (bytes text rest after : List ℕ) (number : ℕ) (commands : List Command) → IsUtf8 bytes → chars bytes ≡ text → HasLines kind text number commands rest
    → length after < length rest → number < length bytes
number_fits kind bytes text rest after number commands utf8 same so_far shorter =
    let encoded : length (encode_utf8_all (chars bytes)) ≡ length bytes = ap length (encodes-chars bytes utf8) in
    omega (arith, so_far.counted, length-le-encodes (chars bytes), ap length same)
