use Rattle.std.proofs.Common.{◌≤◌, ◌+◌, reverse}
use Rattle.dirty_walk.specs.Books.{fresh_entry}
use Rattle.forest.specs.Keys.{without_keys}
use Rattle.document_walk.specs.Elements.{element_count}
use Rattle.marker_engine.proofs.LinesLeft.{elements_left, turns_left}
use Rattle.marker_engine.proofs.Turns.{Walks}
use Rattle.marker_engine.proofs.lines.put_lines.Given as goal

abbrev pub invariant-walk : goal.invariant-walk
invariant-walk g l = record {
  walks : Walks l.arena.tree (fresh_entry l.book) (reverse l.inside.items) l.link (g.O.Sink.out l.fn.out) (g.O.Sink.out l.out);
  later : g.O.Sink.faults l.fn.out ≤ g.O.Sink.faults l.out;
  spent : l.steps + elements_left l.arena.tree (reverse l.inside.items) l.link ≤ l.fn.steps + element_count (without_keys l.arena.tree);
}

abbrev pub decreases-walk : goal.decreases-walk
decreases-walk g l = turns_left l.arena.tree (reverse l.inside.items) l.link
