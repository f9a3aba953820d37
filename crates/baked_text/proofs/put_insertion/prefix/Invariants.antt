use Rattle.std.proofs.Common.{length, not, eqb}
use denote.Text.{Utf8}
use denote.Shadow.{shadow}
use Rattle.xhtml_items.proofs.Cuts.{Runs}
use Rattle.baked_text.proofs.put_insertion.prefix.Given as goal

abbrev pub invariant-loop-c : goal.invariant-loop-c
invariant-loop-c l = record { utf8 : shadow (Utf8 l.rest); runs : Runs (λ d. not (eqb d 58)) l.name l.rest }

abbrev pub decreases-loop-c : goal.decreases-loop-c
decreases-loop-c l = length l.rest
