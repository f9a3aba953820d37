use Rattle.std.proofs.Common.{◌&&◌, sym, ap, ◌∙◌}
use Rattle.std.specs.List.{list_any}
use Rattle.start_reach.specs.TurnedElements.{way_to}
use Rattle.turned_stops.specs.Machinery.ComingAt.{comes_at}
use Rattle.turned_stops.proofs.ComingLemmas.{coming-is}
use Rattle.turned_stops.proofs.coming.is_coming.Goals as goal

pub returns-then-is_element : goal.returns-then-is_element
returns-then-is_element c = record {
  test =
      c.is_in_coming.ensures.comes
      ∙ sym
      (coming-is c.args.arena.now.tree c.arena_holds_document.ensures.document.distinct c.args.key c.requires.live c.args.stops.now
      ∙ ap (λ b. b && list_any (λ node. list_any (comes_at node) c.args.stops.now) (way_to c.args.arena.now.tree c.args.key)) (sym c.is_element.ensures.element ∙ c.if-is_element.true));
}

pub returns-else-is_element : goal.returns-else-is_element
returns-else-is_element c = record {
  test =
      c.if-is_element.false
      ∙ sym
      (coming-is c.args.arena.now.tree c.arena_holds_document.ensures.document.distinct c.args.key c.requires.live c.args.stops.now
      ∙ ap (λ b. b && list_any (λ node. list_any (comes_at node) c.args.stops.now) (way_to c.args.arena.now.tree c.args.key)) (sym c.is_element.ensures.element ∙ c.if-is_element.false));
}
