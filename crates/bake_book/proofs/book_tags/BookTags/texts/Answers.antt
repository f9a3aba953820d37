use Rattle.std.proofs.Common.{List, ◌++◌, ◌∙◌, Some, ap, ap₂, append-nil, sym}
use Rattle.std.specs.Prelude.{if◌then◌else◌}
use Rattle.bake_definitions.specs.Tags.{Tag, next_tag}
use Rattle.bake_book.proofs.BookLaws.{insertions_next, none_left}
use Rattle.bake_book.specs.Dressing.{first_insertions, last_insertions}
use Rattle.bake_book.specs.Machinery.{one_text}
use Rattle.bake_book.proofs.book_tags.BookTags.texts.Goals as goal

-- behind the last tag
pub returns-in_default-clause-texts : goal.returns-in_default-clause-texts
returns-in_default-clause-texts c =
    ap (λ (left : List Tag). (next_tag left).insertions) (sym (none_left c.self.inside.book.now c.self.inside.next c.self.inside.walk c.self.invariant _ c.self.view_is c.in_default.is))

pub returns-then-next-clause-texts : goal.returns-then-next-clause-texts
returns-then-next-clause-texts c =
    append-nil (one_text c.some_text.result) ∙ c.some_text.ensures.text
    ∙ ap (λ is_end. if is_end then last_insertions (Some c.in-Some.next.entry.now) else first_insertions (Some c.in-Some.next.entry.now)) (sym c.if-next.true)
    ∙ sym (insertions_next c.self.inside.book.now c.self.inside.next c.self.inside.walk c.self.invariant _ c.self.view_is c.in-Some.next c.in-Some.is)

pub returns-clause-texts : goal.returns-clause-texts
returns-clause-texts c =
    ap₂ (λ first second. first ++ second) c.some_text-marker.ensures.text c.some_text-2.ensures.text
    ∙ ap (λ is_end. if is_end then last_insertions (Some c.in-Some.next.entry.now) else first_insertions (Some c.in-Some.next.entry.now)) (sym c.if-next.false)
    ∙ sym (insertions_next c.self.inside.book.now c.self.inside.next c.self.inside.walk c.self.invariant _ c.self.view_is c.in-Some.next c.in-Some.is)
