use Rattle.std.proofs.Common.{◌∙◌}
use Rattle.counter_index.specs.Indexes.{value_at}
use Rattle.dirty_walk.specs.Machinery.DocumentWalks.{told_by_index}
use Rattle.dirty_walk.proofs.BookLemmas.{walk_told}
use Rattle.dirty_walk.proofs.evaluation.told_by_index.Goals as goal

pub returns-clause-told : goal.returns-clause-told
unfolding told_by_index
returns-clause-told g c =
    let document = c.args.document.now in
    c.in_ok-told.ensures.told ∙ walk_told document.arena.now.tree document.agent.now document.styles.now document.styles.now.sheet (value_at c.args.index.now) document.agent_is document.styles_are
