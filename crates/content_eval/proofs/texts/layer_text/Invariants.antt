use Rattle.std.proofs.Common.{◌≡◌, ◌++◌, drop}
use Rattle.content_eval.specs.Layers.{layer_text}
use Rattle.content_eval.proofs.texts.layer_text.Given as goal

abbrev pub invariant-loop-piece : goal.invariant-loop-piece
invariant-loop-piece g l =
    let known = g.T.Targets.known l.targets in
    l.text ++ layer_text l.layer l.table known (drop l.piece-index l.piece-items) ≡ layer_text l.layer l.table known l.piece-items
