use Rattle.std.proofs.Common.{filter, map, List, Bool, refl, sym, ◌∙◌}
use Rattle.mini_cascade.proofs.Winning.{picked, passed}
use Rattle.style_sources.specs.Properties.{declares}
use Rattle.style_sources.specs.Sources.{Placed, gives_way}
use Rattle.style_sources.specs.declared.placed.PlacedDeclaration.{PlacedDeclaration}
use Rattle.style_sources.proofs.PlacedLaws.{placed_of, placed_order}
use Rattle.style_sources.proofs.greatest.winner.Goals as goal
use Rattle.style_sources.proofs.greatest.winner.Goals.{then-is_declared_by, else-is_declared_by}

pub loop-declaration-preserved : goal.loop-declaration-preserved
loop-declaration-preserved c =
    let test : PlacedDeclaration → Bool = λ d. declares c.args.property d.what.now in
    let chosen : List PlacedDeclaration → List Placed = λ all. filter (λ (p : Placed). declares c.args.property p.applied.what) (map placed_of all) in
    elim c.if-is_declared_by.branch [
      | then-is_declared_by w ↦
          rw w.best-is (picked gives_way placed_order test placed_of chosen (λ first rest. refl)
          c.args.declarations.now c.loop-declaration.declaration-index c.declaration-item.result _ _ c.loop-declaration-test.true c.declaration-item.is
          (sym c.is_declared_by.ensures ∙ w.if-is_declared_by.true) w.greater.ensures c.loop-declaration.invariant)
      | else-is_declared_by w ↦
          rw w.best-is (passed gives_way placed_order test placed_of chosen (λ first rest. refl)
          c.args.declarations.now c.loop-declaration.declaration-index c.declaration-item.result _ c.loop-declaration-test.true c.declaration-item.is
          (sym c.is_declared_by.ensures ∙ w.if-is_declared_by.false) c.loop-declaration.invariant)
    ]
