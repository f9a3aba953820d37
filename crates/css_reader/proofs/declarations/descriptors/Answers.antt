use Rattle.css_reader.specs.Declarations.{descriptors}
use Rattle.css_reader.specs.Rules.{parts}
use Rattle.css_reader.proofs.Keeping.{Keeps-start, Keeps-more, Keeps-read}
use Rattle.css_reader.proofs.declarations.descriptors.Goals as goal

pub parts-init : goal.parts-init
parts-init c = Keeps-start c.args.content.now _ c.new-kept.ensures.items

pub parts-preserved : goal.parts-preserved
parts-preserved c = let gives = rw c.in-Some.is at c.in_ok-entry.ensures.part in Keeps-more _ _ _ _ _ _ c.parts.invariant gives c.in_ok-put_part.ensures.ok

pub returns : goal.returns
unfolding descriptors parts
returns c =
    let gives = rw c.in_default.is at c.in_ok-entry.ensures.part in
    let kept = Keeps-read c.args.content.now c.parts.kept.items c.parts.rest.now c.parts.invariant gives in
    rw kept at c.to_list.ensures
