use Rattle.std.proofs.Common.{◌≡◌, ◌∙◌, sym, ap, chars, true, false, Some, option_map, encode_utf8_all, refl}
use Rattle.std.proofs.lemmas.Str.{encodes-chars}
use Rattle.plain_types.specs.Attributes.{is_named, value_of}
use Rattle.node_arena.specs.Nodes.{attr_of}
use Rattle.node_arena.proofs.NodeLaws.{same-test, find-more, value-found}
use Rattle.node_arena.proofs.arena.Arena.attr.Goals as goal

found : (c : goal.After-t19-1) → attr_of c.args.self.now.tree c.args.key (chars c.args.name.now) ≡ Some c.attr-item.result.value
found c =
    let name = chars c.args.name.now in
    let named : is_named name c.attr-item.result ≡ true = sym (same-test c.as_str.result.now c.args.name.now c.attr-item.result.name name c.as_str.ensures.characters c.as_str.ensures.bytes refl (sym (encodes-chars c.args.name.now c.utf8.name))) ∙ sym c.eq.ensures ∙ c.if-eq.true in
    ap (value_of name) (sym c.attrs-attr-items.ensures)
    ∙ value-found name c.attrs-attr-items.result.now c.loop-attr.attr-index c.attr-item.result c.loop-attr-test.true c.attr-item.is c.loop-attr.invariant named

pub returns-then-eq-clause-characters : goal.returns-then-eq-clause-characters
returns-then-eq-clause-characters c = ap Some c.as_str-then-eq.ensures.characters ∙ sym (found c)

pub returns-then-eq-clause-bytes : goal.returns-then-eq-clause-bytes
returns-then-eq-clause-bytes c = ap Some c.as_str-then-eq.ensures.bytes ∙ ap (option_map encode_utf8_all) (sym (found c))

pub loop-attr-preserved : goal.loop-attr-preserved
loop-attr-preserved c =
    let name = chars c.args.name.now in
    let other : is_named name c.attr-item.result ≡ false = sym (same-test c.as_str.result.now c.args.name.now c.attr-item.result.name name c.as_str.ensures.characters c.as_str.ensures.bytes refl (sym (encodes-chars c.args.name.now c.utf8.name))) ∙ sym c.eq.ensures ∙ c.if-eq.false in
    find-more (is_named name) c.attrs-attr-items.result.now c.loop-attr.attr-index c.attr-item.result c.loop-attr-test.true c.attr-item.is c.loop-attr.invariant other
