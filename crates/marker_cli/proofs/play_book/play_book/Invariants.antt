use Rattle.std.proofs.Common.{◌≡◌, ◌≤◌, ◌+◌, ℕ, List, drop}
use Rattle.std.specs.Prelude.{Some, sum}
use Rattle.ports.specs.Files.{Files}
use Rattle.marker_cli.specs.Book.{play_book}
use Rattle.marker_cli.specs.BookSteps.{book_script_steps}
use Rattle.marker_cli.specs.BookWork.{BookScriptTakes}
use Rattle.marker_cli.specs.Machinery.Stands.{IsAt}
use Rattle.marker_cli.proofs.ReadLemmas.{HaveRead}
use Rattle.marker_cli.specs.OpenVolumes.{book_of}
use Rattle.marker_cli.proofs.play_book.play_book.Given as goal

abbrev pub invariant-loop-command : goal.invariant-loop-command
invariant-loop-command g l = record {
  told : (files : Files) → g.S.Shelf.held l.initial.shelf ≡ Some files
      → IsAt (play_book files l.commands (book_of l.initial.book)) (g.O.Sink.out l.initial.out) (g.O.Sink.out l.out)
      (play_book files (drop l.command-index l.commands) (book_of l.book));
  held : g.S.Shelf.held l.shelf ≡ g.S.Shelf.held l.initial.shelf;
  honest : g.S.Shelf.honest l.shelf ≡ g.S.Shelf.honest l.initial.shelf;
  faults : g.S.Shelf.faults l.initial.shelf ≤ g.S.Shelf.faults l.shelf;
  taken : g.S.Shelf.taken l.initial.shelf ≤ g.S.Shelf.taken l.shelf;
  put_faults : g.O.Sink.faults l.initial.out ≤ g.O.Sink.faults l.out;
  reads : (files : Files) → g.S.Shelf.held l.initial.shelf ≡ Some files
      → HaveRead files l.commands l.command-index (g.S.Shelf.taken l.initial.shelf) (g.S.Shelf.taken l.shelf);
  steps : (files : Files) → g.S.Shelf.held l.initial.shelf ≡ Some files
      → l.steps + book_script_steps files (drop l.command-index l.commands) (book_of l.book) ≤ l.initial.steps + book_script_steps files l.commands (book_of l.initial.book);
  takes : (files : Files) → g.S.Shelf.held l.initial.shelf ≡ Some files → (rest : List ℕ) → BookScriptTakes files (drop l.command-index l.commands) l.book rest
      → (taken : List ℕ) × BookScriptTakes files l.commands l.initial.book taken × (l.steps + sum rest ≤ l.initial.steps + sum taken);
}
