use Rattle.std.proofs.Common.{◌∙◌}
use Rattle.box_eval.specs.Starts.{no_starts}
use Rattle.dirty_walk.specs.Machinery.DocumentWalks.{told_without_starts}
use Rattle.dirty_walk.proofs.BookLemmas.{walk_told}
use Rattle.dirty_walk.proofs.evaluation.told_without_starts.Goals as goal

pub returns-clause-told : goal.returns-clause-told
unfolding told_without_starts
returns-clause-told g c =
    let document = c.args.document.now in
    c.in_ok-told.ensures.told ∙ walk_told document.arena.now.tree document.agent.now document.styles.now document.styles.now.sheet no_starts document.agent_is document.styles_are
