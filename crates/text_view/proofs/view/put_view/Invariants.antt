use Rattle.std.proofs.Common.{◌≤◌, ◌+◌, reverse}
use Rattle.dirty_walk.specs.Books.{fresh_entry}
use Rattle.forest.specs.Keys.{without_keys}
use Rattle.document_walk.specs.Elements.{element_count}
use Rattle.text_view.proofs.LeftToWalk.{elements_left, turns_left}
use Rattle.text_view.proofs.WalkLaws.{Walks}
use Rattle.text_view.proofs.view.put_view.Given as goal

abbrev pub invariant-walk : goal.invariant-walk
invariant-walk g l = record {
  walks : Walks l.book.tree (fresh_entry l.book) (reverse l.inside.items) l.link l.writer (g.O.Sink.out l.fn.out) (g.O.Sink.out l.out);
  later : g.O.Sink.faults l.fn.out ≤ g.O.Sink.faults l.out;
  spent : l.steps + elements_left l.book.tree (reverse l.inside.items) l.link ≤ l.fn.steps + element_count (without_keys l.book.tree);
}

abbrev pub decreases-walk : goal.decreases-walk
decreases-walk g l = turns_left l.book.tree (reverse l.inside.items) l.link
