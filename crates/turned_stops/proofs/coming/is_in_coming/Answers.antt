use Rattle.std.proofs.Common.{Some, None, sym, ◌∙◌}
use Rattle.std.specs.List.{list_any}
use Rattle.turned_stops.specs.Machinery.ComingAt.{comes_at}
use Rattle.turned_stops.proofs.WayLemmas.{step-up, test-above, test-here}
use Rattle.turned_stops.proofs.coming.is_in_coming.Goals as goal

pub returns-then-is_root_coming : goal.returns-then-is_root_coming
returns-then-is_root_coming c = record {
  comes =
      sym
      (c.climb.invariant.same
      ∙ test-here c.args.arena.now.tree c.arena_holds_document.ensures.document.distinct (λ node. list_any (comes_at node) c.args.stops.now) c.climb.at c.climb.invariant.live
      (sym c.is_root_coming.ensures.comes ∙ c.if-is_root_coming.true));
}

pub climb-smaller : goal.climb-smaller
climb-smaller c = step-up c.args.arena.now.tree c.arena_holds_document.ensures.document.distinct c.climb.at c.in-Some.parent c.climb.invariant.live c.in-Some.ensures.link

pub climb-preserved : goal.climb-preserved
climb-preserved c = record {
  live = c.in-Some.ensures.live;
  same =
      c.climb.invariant.same
      ∙ test-above c.args.arena.now.tree c.arena_holds_document.ensures.document.distinct (λ node. list_any (comes_at node) c.args.stops.now) c.climb.at (Some c.in-Some.parent)
      c.climb.invariant.live (sym c.is_root_coming.ensures.comes ∙ c.if-is_root_coming.false) c.in-Some.ensures.link;
}

pub returns-in-None : goal.returns-in-None
returns-in-None c = record {
  comes =
      sym
      (c.climb.invariant.same
      ∙ test-above c.args.arena.now.tree c.arena_holds_document.ensures.document.distinct (λ node. list_any (comes_at node) c.args.stops.now) c.climb.at None
      c.climb.invariant.live (sym c.is_root_coming.ensures.comes ∙ c.if-is_root_coming.false) c.in-None.ensures.link);
}
