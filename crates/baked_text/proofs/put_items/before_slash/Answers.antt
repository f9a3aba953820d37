use Rattle.std.proofs.Common.{codes, encode_utf8_all, sym, ◌∙◌}
use Rattle.std.proofs.lemmas.Bool.Decides.{Decides-eqb}
use Rattle.std.proofs.lemmas.Slice.Eq.{strip_suffix_is}
use Rattle.std.specs.Prelude.{Some, None}
use Rattle.baked_text.proofs.ItemWriting.{slash_front, slash_whole}
use Rattle.baked_text.proofs.put_items.before_slash.Goals as goal

pub returns-in-Some : goal.returns-in-Some
returns-in-Some c = λ front is.
    let parts = strip_suffix_is Decides-eqb _ _ (Some c.in-Some.front) c.in-Some.ensures.cases in
    slash_front c.args.tag.now c.in-Some.front.now front c.utf8.tag (sym c.as_bytes.ensures.value ∙ parts) is

pub returns-in-None : goal.returns-in-None
returns-in-None c = λ front is.
    let none = strip_suffix_is Decides-eqb _ (codes "/>") None c.in-None.ensures.cases in
    absurd (none (encode_utf8_all front) (c.as_bytes.ensures.value ∙ slash_whole c.args.tag.now front c.utf8.tag is))
