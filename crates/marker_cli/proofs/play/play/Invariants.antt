use Rattle.std.proofs.Common.{◌≡◌, ◌≤◌, ◌+◌, ℕ, List, drop}
use Rattle.std.specs.Prelude.{Some, sum}
use Rattle.ports.specs.Files.{Files}
use Rattle.marker_cli.specs.Edit.{play}
use Rattle.marker_cli.specs.EditSteps.{script_steps}
use Rattle.marker_cli.specs.Editors.{depth_of, document_of, versions_of}
use Rattle.marker_cli.specs.Machinery.Stands.{IsAt}
use Rattle.marker_cli.specs.WorkSteps.{ScriptTakes}
use Rattle.marker_cli.proofs.ReadLemmas.{HaveRead}
use Rattle.marker_cli.proofs.play.play.Given as goal

abbrev pub invariant-loop-command : goal.invariant-loop-command
invariant-loop-command g l = record {
  told : (files : Files) → g.S.Shelf.held l.initial.shelf ≡ Some files
      → IsAt (play files (depth_of l.initial.editor) l.commands (versions_of l.initial.editor)) (g.O.Sink.out l.initial.out) (g.O.Sink.out l.out)
      (play files (depth_of l.initial.editor) (drop l.command-index l.commands) (versions_of l.editor));
  depth : depth_of l.editor ≡ depth_of l.initial.editor;
  held : g.S.Shelf.held l.shelf ≡ g.S.Shelf.held l.initial.shelf;
  honest : g.S.Shelf.honest l.shelf ≡ g.S.Shelf.honest l.initial.shelf;
  faults : g.S.Shelf.faults l.initial.shelf ≤ g.S.Shelf.faults l.shelf;
  taken : g.S.Shelf.taken l.initial.shelf ≤ g.S.Shelf.taken l.shelf;
  put_faults : g.O.Sink.faults l.initial.out ≤ g.O.Sink.faults l.out;
  reads : (files : Files) → g.S.Shelf.held l.initial.shelf ≡ Some files
      → HaveRead files l.commands l.command-index (g.S.Shelf.taken l.initial.shelf) (g.S.Shelf.taken l.shelf);
  steps : (files : Files) → g.S.Shelf.held l.initial.shelf ≡ Some files
      → l.steps + script_steps files (depth_of l.initial.editor) (drop l.command-index l.commands) (versions_of l.editor)
      ≤ l.initial.steps + script_steps files (depth_of l.initial.editor) l.commands (versions_of l.initial.editor);
  takes : (files : Files) → g.S.Shelf.held l.initial.shelf ≡ Some files → (rest : List ℕ)
      → ScriptTakes files (depth_of l.initial.editor) (drop l.command-index l.commands) (versions_of l.editor) (document_of l.editor) rest
      → (taken : List ℕ) × ScriptTakes files (depth_of l.initial.editor) l.commands (versions_of l.initial.editor) (document_of l.initial.editor) taken × (l.steps + sum rest ≤ l.initial.steps + sum taken);
}
