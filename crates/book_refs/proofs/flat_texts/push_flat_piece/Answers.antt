use Rattle.std.proofs.Common.{List, [], ap, sym, ◌∙◌, ◌∷◌}
use Rattle.std.specs.Str.{chars}
use Rattle.book_definitions.specs.BoxLaws.{flat_piece}
use Rattle.book_definitions.specs.Texts.{with_url}
use Rattle.content_eval.specs.Targets.{flat_text}
use Rattle.plain_types.specs.declared.counter_style.CounterStyle.{CounterStyle}
use Rattle.reading.specs.Punctuation.{number_sign}
use Rattle.book_refs.specs.Machinery.TargetElements.{known_at}
use Rattle.book_refs.proofs.TargetTexts.{appended, flat_reference}
use Rattle.book_refs.proofs.flat_texts.push_flat_piece.Goals as goal

pub returns-in-Some-target-clause-ok : goal.returns-in-Some-target-clause-ok
returns-in-Some-target-clause-ok g c =
    let chapter = c.in-Some-target.there.chapter.now in
    let key = c.in-Some-target.there.key in
    appended c.push_reference.result c.args.out.now c.push_reference.new.out
    (flat_text c.table.result.now (known_at chapter key) (with_url (number_sign ∷ []) c.args.piece.now ∷ []))
    (flat_piece c.args.volume.now c.args.own.now c.args.piece.now)
    (ap (λ (table : List CounterStyle). flat_text table (known_at chapter key) (with_url (number_sign ∷ []) c.args.piece.now ∷ [])) c.table.ensures.table
    ∙ sym (flat_reference c.args.volume.now c.args.own.now c.texts_are_told_piece_by_piece.ensures.pieces c.args.piece.now (chars c.in-Some.url.now) chapter key
    (sym c.in-Some.ensures.url) (sym c.in-Some-target.ensures.target)))
    c.push_reference.ensures.ok
