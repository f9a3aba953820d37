use Rattle.std.proofs.Common.{◌≡◌, ◌≤◌, ◌+◌, ℕ, List, Option, drop, length, map, take}
use Rattle.std.specs.Prelude.{Some, sum}
use Rattle.ports.specs.Causes.{Raises}
use Rattle.ports.specs.Files.{Files}
use Rattle.marker_cli.specs.Output.{Output}
use Rattle.marker_cli.specs.Parts.{HaveTexts, with_texts}
use Rattle.marker_cli.specs.Run.{size_of}
use Rattle.marker_cli.specs.Machinery.Stands.{IsAt}
use Rattle.marker_cli.proofs.book.fetch_texts.Given as goal

abbrev pub invariant-loop-place : goal.invariant-loop-place
invariant-loop-place g l = record {
  told : (files : Files) (before : Option (List ℕ)) (next : Output) → g.S.Shelf.held l.initial.shelf ≡ Some files
      → IsAt (with_texts files 3 l.names next) before before (with_texts files (l.place + 3) (drop l.place l.names) next);
  texts : (files : Files) → g.S.Shelf.held l.initial.shelf ≡ Some files → HaveTexts files 3 (take l.place l.names) l.texts;
  each : length l.texts ≡ length (take l.place l.names);
  held : g.S.Shelf.held l.shelf ≡ g.S.Shelf.held l.initial.shelf;
  honest : g.S.Shelf.honest l.shelf ≡ g.S.Shelf.honest l.initial.shelf;
  faults : g.S.Shelf.faults l.initial.shelf ≤ g.S.Shelf.faults l.shelf;
  taken : g.S.Shelf.taken l.initial.shelf ≤ g.S.Shelf.taken l.shelf;
  came : (files : Files) → g.S.Shelf.held l.initial.shelf ≡ Some files
      → Raises (g.S.Shelf.taken l.initial.shelf) (g.S.Shelf.taken l.shelf) (sum (map (size_of files) (take l.place l.names)));
}
