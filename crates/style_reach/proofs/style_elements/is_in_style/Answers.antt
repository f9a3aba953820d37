use Rattle.std.proofs.Common.{◌||◌, sym, ap, ◌∙◌, arith}
use Rattle.forest.proofs.PathLaws.{parent-live}
use Rattle.forest.proofs.WalkLaws.{shorter-route}
use Rattle.style_reach.specs.TouchedSheets.{is_in_style}
use Rattle.style_reach.proofs.StyleLookups.{is_in_style-at, is_in_style-child, is_in_style-root}
use Rattle.style_reach.proofs.style_elements.is_in_style.Goals as goal

pub returns-then-is_style : goal.returns-then-is_style
returns-then-is_style c =
    sym (is_in_style-at c.args.arena.now.tree c.climb.at c.arena_holds_document.ensures.document.distinct c.climb.invariant.live (sym c.is_style.ensures ∙ c.if-is_style.true))
    ∙ c.climb.invariant.same

pub climb-smaller : goal.climb-smaller
climb-smaller c = omega (arith, shorter-route c.args.arena.now.tree c.climb.at c.in-Some.parent c.arena_holds_document.ensures.document.distinct c.climb.invariant.live (sym c.in-Some.ensures.link))

pub climb-preserved : goal.climb-preserved
climb-preserved c =
    let tree = c.args.arena.now.tree in
    let distinct = c.arena_holds_document.ensures.document.distinct in
    record {
      live = parent-live tree c.climb.at c.in-Some.parent distinct c.climb.invariant.live (sym c.in-Some.ensures.link);
      same =
          ap (λ b. b || is_in_style tree c.in-Some.parent) (sym c.if-is_style.false ∙ c.is_style.ensures)
          ∙ sym (is_in_style-child tree c.climb.at c.in-Some.parent distinct c.climb.invariant.live (sym c.in-Some.ensures.link))
          ∙ c.climb.invariant.same;
    }

pub returns-in-None : goal.returns-in-None
returns-in-None c =
    sym c.if-is_style.false
    ∙ c.is_style.ensures
    ∙ sym (is_in_style-root c.args.arena.now.tree c.climb.at c.arena_holds_document.ensures.document.distinct c.climb.invariant.live (sym c.in-None.ensures.link))
    ∙ c.climb.invariant.same
