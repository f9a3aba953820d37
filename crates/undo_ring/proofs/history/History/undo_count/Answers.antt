use Rattle.std.proofs.Common.{◌∙◌, sym, ap, length}
use Rattle.undo_ring.specs.Histories.{EditHistory, past, version_of}
use Rattle.undo_ring.proofs.Moves.{length_versions}
use Rattle.undo_ring.proofs.history.History.undo_count.Goals as goal

pub returns : goal.returns
returns c = record { count = c.len.ensures.len ∙ sym (length_versions c.self.inside.undos.items (version_of c.self.inside.engine)) ∙ ap (λ (history : EditHistory). length (past history)) c.self.view_is }
