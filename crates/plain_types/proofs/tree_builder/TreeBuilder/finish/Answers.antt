use Rattle.std.proofs.Common.{sym, subst, ◌∙◌, ap}
use Rattle.std.specs.Prelude.{IsTrue}
use Rattle.plain_types.specs.Building.{is_whole}
use Rattle.plain_types.proofs.RowLemmas.{building-finish, whole-some, rows-forest_of}
use Rattle.plain_types.proofs.tree_builder.TreeBuilder.finish.Goals as goal

pub invariant_of-result : goal.invariant_of-result
invariant_of-result c =
    building-finish _ _ c.self.invariant (whole-some _ _ (subst (λ building. IsTrue (is_whole building)) (sym c.self.view_is) c.requires))

pub returns-clause-rows : goal.returns-clause-rows
returns-clause-rows c = rows-forest_of c.self.inside.nodes c.self.invariant.fits ∙ ap (λ building. building.rows) c.self.view_is
