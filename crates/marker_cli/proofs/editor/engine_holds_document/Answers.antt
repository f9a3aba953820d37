use Rattle.std.proofs.Common.{◌∙◌, ap}
use Rattle.marker_cli.proofs.editor.engine_holds_document.Goals as goal

pub returns : goal.returns
returns c = rw (c.arena.ensures.tree ∙ ap (λ book. book.tree) c.book.ensures.book) at c.arena_holds_document.ensures.document
