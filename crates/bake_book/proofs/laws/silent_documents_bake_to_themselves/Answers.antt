use Rattle.bake_book.specs.Dressing.{dressed_document}
use Rattle.bake_definitions.specs.Places.{placed}
use Rattle.bake_book.proofs.SilentLaws.{silent_document}
use Rattle.bake_book.proofs.laws.silent_documents_bake_to_themselves.Goals as goal

pub returns : goal.returns
returns c = record {
  stays = λ sheet_text text output tree sound silent baked.
      c.bakes_to_itself.ensures text output (placed (dressed_document sheet_text tree)) (silent_document sheet_text tree sound silent) baked;
}
