use Rattle.std.proofs.Common.{◌∙◌, ap, sym}
use Rattle.bake_book.proofs.BookLaws.{no_text}
use Rattle.bake_book.specs.Dressing.{box_insertions, some_insertion}
use Rattle.bake_book.proofs.book_tags.some_text.Goals as goal

pub returns-then-is_empty-clause-text : goal.returns-then-is_empty-clause-text
returns-then-is_empty-clause-text c =
    ap (some_insertion c.args.kind) (no_text c.as_str-full.result.now c.in-Some.text.full c.as_str-full.ensures.characters (sym c.is_empty.ensures ∙ c.if-is_empty.true))
    ∙ ap (box_insertions c.args.kind) (sym c.in-Some.is)
