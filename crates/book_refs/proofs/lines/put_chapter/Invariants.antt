use Rattle.std.proofs.Common.{◌≤◌, ◌+◌, ◌*◌, reverse}
use Rattle.book_definitions.specs.Lines.{chapter_entries}
use Rattle.generated_texts.specs.References.{kept_at}
use Rattle.book_refs.specs.Machinery.VolumeBoxes.{entry_alone, first_cost, last_cost}
use Rattle.book_refs.specs.ShowWork.{chapter_work}
use Rattle.book_refs.proofs.Walks.{Walks, spent_left, turns_left}
use Rattle.book_refs.proofs.lines.put_chapter.Given as goal

abbrev pub invariant-walk : goal.invariant-walk
invariant-walk g l = record {
  walks :
      Walks l.own.document (entry_alone l.own) (kept_at (chapter_entries l.volume l.own)) (first_cost l.volume l.own) (last_cost l.volume l.own)
      (reverse l.inside.items) l.link (g.O.Sink.out l.fn.out) (g.O.Sink.out l.out);
  later : g.O.Sink.faults l.fn.out ≤ g.O.Sink.faults l.out;
  spent :
      l.steps + spent_left l.own.document (entry_alone l.own) (kept_at (chapter_entries l.volume l.own)) (first_cost l.volume l.own) (last_cost l.volume l.own) (reverse l.inside.items) l.link
      ≤ l.fn.steps + 4 * chapter_work l.volume l.own;
}

abbrev pub decreases-walk : goal.decreases-walk
decreases-walk g l = turns_left l.own.document (reverse l.inside.items) l.link
