use Rattle.std.proofs.Common.{◌≡◌, take}
use Rattle.kept_elements.specs.Known.{all_flat_texts_of}
use Rattle.kept_elements.proofs.flat_texts.all_flat_texts.Given as goal

abbrev pub invariant-loop-key : goal.invariant-loop-key
invariant-loop-key g l = l.texts ≡ all_flat_texts_of l.table (g.T.Targets.known l.targets) (take l.key-index l.records)
