use Rattle.std.proofs.Common.{◌≡◌, ◌++◌, ◌∙◌, [], Some, ap, append-nil, codes, cond, false, sym, true}
use Rattle.std.specs.Str.{bytes_eq}
use Rattle.node_arena.proofs.NodeLaws.{same-test}
use Rattle.dirty_walk.specs.Machinery.FormerLists.{former_of}
use Rattle.dirty_walk.proofs.FormerLemmas.{id-bytes, id-characters}
use Rattle.dirty_walk.proofs.former_targets.put_value.Goals as goal

pub returns-in_ok-put_id : goal.returns-in_ok-put_id
returns-in_ok-put_id c =
    let tree = c.args.lookup.now.arena.now.tree in
    let named : bytes_eq c.args.name.now (codes "id") ≡ true = sym (same-test c.as_str.result.now (codes "id") c.args.name.now (codes "id") c.as_str.ensures.characters c.as_str.ensures.bytes id-characters id-bytes) ∙ sym c.eq.ensures ∙ c.if-eq.true in
    record { ok = c.in_ok-put_id.ensures.ok ∙ ap (λ b. c.args.former.now ++ cond b (former_of tree (Some c.args.value.now)) []) (sym named) }

pub returns-else-eq : goal.returns-else-eq
returns-else-eq c =
    let tree = c.args.lookup.now.arena.now.tree in
    let other : bytes_eq c.args.name.now (codes "id") ≡ false = sym (same-test c.as_str.result.now (codes "id") c.args.name.now (codes "id") c.as_str.ensures.characters c.as_str.ensures.bytes id-characters id-bytes) ∙ sym c.eq.ensures ∙ c.if-eq.false in
    record { ok = sym (append-nil c.args.former.now) ∙ ap (λ b. c.args.former.now ++ cond b (former_of tree (Some c.args.value.now)) []) (sym other) }
