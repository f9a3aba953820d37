use Rattle.std.proofs.Common.{◌≡◌, [], false, refl, sym, ◌∙◌}
use Rattle.std.specs.Str.{chars}
use Rattle.std.proofs.lemmas.Str.{IsCharBoundary-start, chars-nil}
use Rattle.reading.specs.Reading.{span}
use Rattle.xml_definitions.specs.Characters.{is_plain}
use Rattle.xhtml_items.proofs.passing.split_plain.Goals as goal
use Rattle.xhtml_items.proofs.passing.split_plain.Goals.{in_default-via-in-Some+else-is_plain, in_default-via-in_default}

pub split_at-requires : goal.split_at-requires
split_at-requires c = IsCharBoundary-start c.args.text.now c.utf8.text

pub returns-in_default-clause-reads : goal.returns-in_default-clause-reads
unfolding span
returns-in_default-clause-reads c =
    let stops : span (λ x. is_plain x) (chars c.args.text.now) ≡ ([], chars c.args.text.now) =
    elim c.in_default.branch [
      | in_default-via-in-Some+else-is_plain w ↦ (let stop : is_plain w.in-Some.c ≡ false = sym w.is_plain.ensures ∙ w.if-is_plain.false in rw (w.in-Some.ensures.chars, stop) refl)
      | in_default-via-in_default w ↦ rw w.in_default.ensures.chars refl
    ] in
    rw (c.split_at.ensures.front, c.split_at.ensures.back, chars-nil) stops
