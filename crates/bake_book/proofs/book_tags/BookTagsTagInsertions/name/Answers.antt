use Rattle.std.proofs.Common.{List, ◌∙◌, ap, sym}
use Rattle.std.proofs.lemmas.Str.{chars-nil}
use Rattle.bake_definitions.specs.Tags.{Tag, next_tag}
use Rattle.bake_book.proofs.BookLaws.{none_left}
use Rattle.bake_book.proofs.book_tags.BookTagsTagInsertions.name.Goals as goal

pub returns-in_default-clause-name : goal.returns-in_default-clause-name
returns-in_default-clause-name c =
    chars-nil ∙ ap (λ (left : List Tag). (next_tag left).name) (sym (none_left c.self.inside.book.now c.self.inside.next c.self.inside.walk c.self.invariant _ c.self.view_is c.in_default.is))
