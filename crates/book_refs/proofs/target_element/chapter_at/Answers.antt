use Rattle.std.proofs.Common.{sym, ◌∙◌}
use Rattle.book_refs.proofs.UrlLemmas.{named, unnamed}
use Rattle.book_refs.proofs.target_element.chapter_at.Goals as goal

pub returns-then-is_empty : goal.returns-then-is_empty
returns-then-is_empty c = record { chapter = sym (unnamed c.args.volume.now c.args.own.now c.args.name.now (sym c.is_empty.ensures ∙ c.if-is_empty.true)) }

pub returns : goal.returns
returns c = record { chapter = c.chapter_named.ensures.chapter ∙ sym (named c.args.volume.now c.args.own.now c.args.name.now c.utf8.name (sym c.is_empty.ensures ∙ c.if-is_empty.false)) }
