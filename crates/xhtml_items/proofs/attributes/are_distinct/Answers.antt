use Rattle.std.proofs.Common.{◌≡◌, ◌+◌, Bool, true, false, not, take, drop, refl, ap, sym, ◌∙◌, arith}
use Rattle.std.proofs.lemmas.List.{take_all}
use Rattle.xhtml_items.specs.Machinery.Items.{are_distinct}
use Rattle.xhtml_items.proofs.Names.{Seen-start, Seen-more, Seen-repeated, around, one_more}
use Rattle.xhtml_items.proofs.attributes.are_distinct.Goals as goal

new_lacked : (had new : Bool) → new ≡ not had → new ≡ true → had ≡ false
new_lacked true new e h = absurd cc
new_lacked false new e h = refl

old_had : (had new : Bool) → new ≡ not had → new ≡ false → had ≡ true
old_had true new e h = refl
old_had false new e h = absurd cc

pub loop-attr-init : goal.loop-attr-init
loop-attr-init c = Seen-start c.new-seen.result c.new-seen.ensures.empty

pub returns-then-not-is_new : goal.returns-then-not-is_new
returns-then-not-is_new c =
    let i = c.loop-attr.attr-index in
    let attr = c.attr-item.result in
    sym (ap are_distinct (around c.args.attrs.now i attr (omega arith) c.attr-item.is)
    ∙ Seen-repeated c.loop-attr.seen (take i c.args.attrs.now) attr (drop (i + 1) c.args.attrs.now) c.as_str.result c.loop-attr.invariant c.as_str.ensures.bytes
    (old_had _ _ c.in_ok-is_new.ensures.added c.if-not-is_new.true))

pub loop-attr-preserved : goal.loop-attr-preserved
loop-attr-preserved c =
    let i = c.loop-attr.attr-index in
    let attr = c.attr-item.result in
    rw (one_more c.args.attrs.now i attr (omega arith) c.attr-item.is)
    (Seen-more c.loop-attr.seen c.insert.new.self (take i c.args.attrs.now) attr c.as_str.result c.loop-attr.invariant c.as_str.ensures.bytes
    (new_lacked _ _ c.in_ok-is_new.ensures.added c.if-not-is_new.false) c.in_ok-is_new.ensures.updates)

pub returns : goal.returns
returns c = let all = take_all c.loop-attr.attr-index c.args.attrs.now (omega arith) in sym c.loop-attr.invariant.distinct ∙ ap are_distinct all
