use Rattle.std.proofs.Common.{sym, ◌∙◌}
use Rattle.node_arena.proofs.LevelFacts.{both-none}
use Rattle.node_arena.proofs.arena.Arena.distinct_parents.Goals as goal

pub returns-in_err-above_first-clause-none : goal.returns-in_err-above_first-clause-none
returns-in_err-above_first-clause-none c =
    rw c.from_residual.ensures
    (both-none c.args.self.now.tree c.args.first c.args.second c.arena_holds_document.ensures.document.distinct c.requires.first c.requires.second c.requires.level (sym c.parent.ensures.link ∙ c.in_err-above_first.was))

pub returns-in_err-above_second-clause-none : goal.returns-in_err-above_second-clause-none
returns-in_err-above_second-clause-none c =
    rw c.from_residual-in_err-above_second.ensures
    (sym (both-none c.args.self.now.tree c.args.second c.args.first c.arena_holds_document.ensures.document.distinct c.requires.second c.requires.first (sym c.requires.level) (sym c.parent-2.ensures.link ∙ c.in_err-above_second.was)))
