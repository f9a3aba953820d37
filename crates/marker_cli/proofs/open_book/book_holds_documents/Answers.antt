use Rattle.std.proofs.Common.{subst}
use Rattle.std.specs.List.{AllByRecursion}
use Rattle.book_definitions.specs.Chapters.{Chapter}
use Rattle.node_arena.specs.Document.{IsKeyedDocument}
use Rattle.marker_cli.specs.OpenVolumes.{OpenVolume}
use Rattle.marker_cli.proofs.open_book.book_holds_documents.Goals as goal

pub returns : goal.returns
returns c =
    subst (λ (volume : OpenVolume). AllByRecursion (λ (chapter : Chapter). IsKeyedDocument chapter.document) volume.chapters) c.book.view_is c.volume_holds_chapters.ensures.volume.documents
