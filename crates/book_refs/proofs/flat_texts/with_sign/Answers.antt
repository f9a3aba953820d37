use Rattle.std.proofs.Common.{[], ap, sym, ◌∙◌, ◌∷◌}
use Rattle.std.specs.Str.{chars}
use Rattle.reading.specs.Punctuation.{number_sign}
use Rattle.content_eval.specs.declared.generated.Piece.TheVariants as piece
use Rattle.book_definitions.specs.Texts.{with_url}
use Rattle.book_refs.proofs.flat_texts.with_sign.Goals as goal

pub returns-in_ok-duplicate-in-TargetCounter-2 : goal.returns-in_ok-duplicate-in-TargetCounter-2
unfolding chars
returns-in_ok-duplicate-in-TargetCounter-2 c =
    let url = c.url-in-TargetCounter.view_is ∙ c.in_ok-url.ensures.characters in
    let name = c.in_ok-duplicate-in-TargetCounter.ensures.same in
    let style = c.in_ok-duplicate-in-TargetCounter-2.ensures.same in
    record { piece = (λ i. piece.TargetCounter (url i) (name i) (style i)) ∙ sym (ap (with_url (number_sign ∷ [])) c.in-TargetCounter.is) }

pub returns-in_ok-duplicate-in-TargetCounters-3 : goal.returns-in_ok-duplicate-in-TargetCounters-3
unfolding chars
returns-in_ok-duplicate-in-TargetCounters-3 c =
    let url = c.url-in-TargetCounters.view_is ∙ c.in_ok-url.ensures.characters in
    let name = c.in_ok-duplicate-in-TargetCounters.ensures.same in
    let between = c.in_ok-duplicate-in-TargetCounters-2.ensures.same in
    let style = c.in_ok-duplicate-in-TargetCounters-3.ensures.same in
    record { piece = (λ i. piece.TargetCounters (url i) (name i) (between i) (style i)) ∙ sym (ap (with_url (number_sign ∷ [])) c.in-TargetCounters.is) }

pub returns-in-TargetText : goal.returns-in-TargetText
unfolding chars
returns-in-TargetText c =
    let url = c.in_ok-url.ensures.characters in
    record { piece = (λ i. piece.TargetText (url i) c.in-TargetText.part) ∙ sym (ap (with_url (number_sign ∷ [])) c.in-TargetText.is) }
