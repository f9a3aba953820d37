use Rattle.std.proofs.Common.{◌≡◌, ◌∙◌, codes, false, true, sym}
use Rattle.plain_types.specs.Attributes.{is_named}
use Rattle.node_arena.proofs.NodeLaws.{find-more, same-test, value-found}
use Rattle.dirty_walk.proofs.FormerLemmas.{id-bytes, id-characters}
use Rattle.dirty_walk.proofs.former_targets.id_in.Goals as goal

pub returns-then-eq : goal.returns-then-eq
returns-then-eq c =
    let named : is_named (codes "id") c.attr-item.result ≡ true = sym (same-test c.as_str.result.now (codes "id") c.attr-item.result.name (codes "id") c.as_str.ensures.characters c.as_str.ensures.bytes id-characters id-bytes) ∙ sym c.eq.ensures ∙ c.if-eq.true in
    record {
      id = sym (value-found (codes "id") c.args.attrs.now c.loop-attr.attr-index c.attr-item.result c.loop-attr-test.true c.attr-item.is c.loop-attr.invariant named);
    }

pub loop-attr-preserved : goal.loop-attr-preserved
loop-attr-preserved c =
    let other : is_named (codes "id") c.attr-item.result ≡ false = sym (same-test c.as_str.result.now (codes "id") c.attr-item.result.name (codes "id") c.as_str.ensures.characters c.as_str.ensures.bytes id-characters id-bytes) ∙ sym c.eq.ensures ∙ c.if-eq.false in
    find-more (is_named (codes "id")) c.args.attrs.now c.loop-attr.attr-index c.attr-item.result c.loop-attr-test.true c.attr-item.is c.loop-attr.invariant other
