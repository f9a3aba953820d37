use Rattle.std.proofs.Common.{ap, ◌∙◌}
use Rattle.std.specs.Str.{bytes_eq, chars}
use Rattle.book_definitions.specs.Chapters.{Chapter}
use Rattle.plain_types.proofs.TextLemmas.{bytes_eq-chars}
use Rattle.book_refs.proofs.evaluated_chapter.EvaluatedChapter.is_named.Goals as goal

pub returns : goal.returns
returns c = record {
  test =
      c.eq.ensures
      ∙ bytes_eq-chars _ _ c.utf8.name c.as_str.utf8
      ∙ ap (λ name. bytes_eq (chars c.args.name.now) name) (c.as_str.ensures.characters ∙ ap (λ (chapter : Chapter). chapter.name) c.self.view_is);
}
