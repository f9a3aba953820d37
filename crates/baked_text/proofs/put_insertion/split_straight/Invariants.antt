use Rattle.std.proofs.Common.{length}
use denote.Text.{Utf8}
use denote.Shadow.{shadow}
use Rattle.xhtml_items.proofs.Cuts.{Runs}
use Rattle.baked_text.specs.Machinery.{is_straight}
use Rattle.baked_text.proofs.put_insertion.split_straight.Given as goal

abbrev pub invariant-loop-c : goal.invariant-loop-c
invariant-loop-c l = record { utf8 : shadow (Utf8 l.rest); runs : Runs is_straight l.text l.rest }

abbrev pub decreases-loop-c : goal.decreases-loop-c
decreases-loop-c l = length l.rest
