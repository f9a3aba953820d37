use Rattle.std.proofs.Common.{[], option_copied, ◌∙◌, ◌∷◌}
use Rattle.std.specs.Str.{chars}
use Rattle.reading.specs.Punctuation.{number_sign}
use Rattle.content_eval.specs.Targets.{flat_text}
use Rattle.book_definitions.specs.Texts.{with_url}
use Rattle.book_refs.specs.Machinery.TargetElements.{known_at}
use Rattle.book_refs.proofs.TargetTexts.{alone_text, appended}
use Rattle.book_refs.proofs.flat_texts.push_reference.Goals as goal

pub returns-clause-ok : goal.returns-clause-ok
returns-clause-ok g c =
    appended c.push_str.result c.args.out.now c.push_str.new.self (chars c.as_str.result.now)
    (flat_text c.args.table.now (known_at c.args.there.now.chapter.now c.args.there.now.key) (with_url (number_sign ∷ []) c.args.piece.now ∷ []))
    (c.as_str.ensures.characters
    ∙ alone_text c.args.table.now c.args.there.now.chapter.now c.args.there.now.key c.element_entry-entry.result.now (option_copied c.box_counters.result) c.arena.result.now.tree
    c.new-alone.result c.push.new.self c.in_ok-with_sign.field-0 c.args.piece.now c.in_ok-text.text
    c.element_entry-entry.ensures.entry c.box_counters.ensures.counters c.arena.ensures.tree c.new-alone.ensures.empty c.in_ok-push.ensures.ok c.in_ok-with_sign.ensures.piece c.in_ok-text.ensures.text)
    c.push_str.ensures.ok
