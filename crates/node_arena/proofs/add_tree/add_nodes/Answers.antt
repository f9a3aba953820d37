use Rattle.std.proofs.Common.{◌≡◌, ◌<◌, ◌≤◌, ◌+◌, ◌++◌, ◌∷◌, [], length, None, get_or, take, sym, ap, subst, ◌∙◌, arith, ◌-◌, refl}
use Rattle.plain_types.specs.Rows.{row, rows}
use Rattle.plain_types.specs.declared.node.Node.TheVariants.{Text}
use Rattle.plain_types.specs.declared.row.Row.{Row}
use Rattle.node_arena.specs.Added.{AddsOnly}
use Rattle.node_arena.proofs.AddLaws.{adds-none, adds-more, adds-same, no-links, parent-among, is-added}
use Rattle.node_arena.proofs.FromTree.{IsSoFar, shown-is, deep, started, parent-there, parent-listed, goes-on, rows-some}
use Rattle.node_arena.proofs.add_tree.add_nodes.Goals as goal
use Rattle.slab.specs.Slab.{get}
use Rattle.node_arena.proofs.CountLaws.{found}

-- any row
abbrev one : Row
one = row 0 (Text [])

pub node-requires : goal.node-requires
node-requires c = rows-some c.args.tree.now c.len-count.ensures.sound

pub push_reserved-requires : goal.push_reserved-requires
push_reserved-requires c = omega (arith, rows-some c.args.tree.now c.len-count.ensures.sound, c.args.keys.now.ok.0, ap length c.requires.empty, c.requires.room)

pub loop-place-init : goal.loop-place-init
loop-place-init c =
    let tree = c.args.tree.now in
    let root = c.in_ok-root.root in
    let new = c.insert.new.self in
    let open_is : c.push.new.self.items ≡ root ∷ [] = c.in_ok-push.ensures.items ∙ ap (λ front. front ++ root ∷ []) c.new-open.ensures.items in
    let keys_are : c.push_reserved.new.self.items ≡ root ∷ [] = c.push_reserved.ensures.items ∙ ap (λ front. front ++ root ∷ []) c.requires.empty in
    let first : IsSoFar new root (root ∷ []) (root ∷ []) 1 tree =
    started c.args.nodes.now new root _ tree c.in_ok-root.ensures.updates c.in_ok-root.ensures.len refl refl c.new.ensures.items (rows-some tree c.len-count.ensures.sound)
    (λ any. c.in_ok-copied_node.ensures.same ∙ shown-is _ _ (c.node.ensures.shown any)) in
    record {
      so_far = subst (λ ks. IsSoFar new root ks c.push_reserved.new.self.items 1 tree) (sym open_is) (subst (λ ks. IsSoFar new root (root ∷ []) ks 1 tree) (sym keys_are) first);
      only = subst (AddsOnly c.args.nodes.now new) (sym c.push_reserved.ensures.items) (adds-more c.args.nodes.now c.args.nodes.now new c.args.keys.now.items root (adds-none c.args.nodes.now c.args.keys.now.items c.requires.empty) c.in_ok-root.ensures.was_vacant (λ other differ _. c.in_ok-root.ensures.updates.others other differ));
      room = omega (arith, c.push_reserved.ensures.len, c.push_reserved.ensures.capacity, c.args.keys.now.ok.0, ap length c.requires.empty, c.requires.room);
    }

pub overflow_sub-len : goal.overflow_sub-len
overflow_sub-len c =
    let within : c.loop-place.place < length (rows 0 c.args.tree.now) = omega (arith, c.loop-place-test.true, c.len-count.ensures.nodes) in
    let low = deep _ _ _ _ c.loop-place.place c.args.tree.now c.depth.result one c.loop-place.invariant.so_far c.len-count.ensures.sound c.loop-place.auto.place within (c.depth.ensures.depth one) in
    omega arith

pub index-parent-requires : goal.index-parent-requires
index-parent-requires c =
    let within : c.loop-place.place < length (rows 0 c.args.tree.now) = omega (arith, c.loop-place-test.true, c.len-count.ensures.nodes) in
    let low = deep _ _ _ _ c.loop-place.place c.args.tree.now c.depth.result one c.loop-place.invariant.so_far c.len-count.ensures.sound c.loop-place.auto.place within (c.depth.ensures.depth one) in
    omega arith

pub append-requires : goal.append-requires
append-requires c =
    let within : c.loop-place.place < length (rows 0 c.args.tree.now) = omega (arith, c.loop-place-test.true, c.len-count.ensures.nodes) in
    let low = deep _ _ _ _ c.loop-place.place c.args.tree.now c.depth.result one c.loop-place.invariant.so_far c.len-count.ensures.sound c.loop-place.auto.place within (c.depth.ensures.depth one) in
    let parent = c.index-parent.result.now in
    record {
      parent =
          parent-there c.loop-place.nodes c.in_ok-root.root c.loop-place.open.items c.loop-place.keys.items c.loop-place.place c.args.tree.now c.depth.result (c.len.result - 1) parent one c.loop-place.invariant.so_far c.len-count.ensures.sound c.loop-place.auto.place within (c.depth.ensures.depth one) (omega arith)
          (c.index-parent.ensures ∙ ap (λ keys. get_or keys (c.len.result - 1) parent) c.truncate.ensures.items);
    }

pub returns-in_err-key-clause-only : goal.returns-in_err-key-clause-only
returns-in_err-key-clause-only c =
    let within : c.loop-place.place < length (rows 0 c.args.tree.now) = omega (arith, c.loop-place-test.true, c.len-count.ensures.nodes) in
    let low = deep _ _ _ _ c.loop-place.place c.args.tree.now c.depth.result one c.loop-place.invariant.so_far c.len-count.ensures.sound c.loop-place.auto.place within (c.depth.ensures.depth one) in
    let parent = c.index-parent.result.now in
    let keys = c.loop-place.keys.items in
    let among : 0 < found parent keys = parent-listed c.loop-place.nodes c.in_ok-root.root c.loop-place.open.items keys c.loop-place.place c.args.tree.now c.depth.result (c.len.result - 1) parent one c.loop-place.invariant.so_far c.len-count.ensures.sound c.loop-place.auto.place within (c.depth.ensures.depth one) (omega arith)
    (c.index-parent.ensures ∙ ap (λ ks. get_or ks (c.len.result - 1) parent) c.truncate.ensures.items) in
    adds-same c.args.nodes.now c.loop-place.nodes c.append.new.nodes keys c.loop-place.invariant.only (λ other outside. c.in_err-key.ensures.err other (parent-among keys parent other among outside))

pub returns-in_err-push-2-clause-only : goal.returns-in_err-push-2-clause-only
returns-in_err-push-2-clause-only c =
    let within : c.loop-place.place < length (rows 0 c.args.tree.now) = omega (arith, c.loop-place-test.true, c.len-count.ensures.nodes) in
    let low = deep _ _ _ _ c.loop-place.place c.args.tree.now c.depth.result one c.loop-place.invariant.so_far c.len-count.ensures.sound c.loop-place.auto.place within (c.depth.ensures.depth one) in
    let parent = c.index-parent.result.now in
    let keys = c.loop-place.keys.items in
    let among : 0 < found parent keys = parent-listed c.loop-place.nodes c.in_ok-root.root c.loop-place.open.items keys c.loop-place.place c.args.tree.now c.depth.result (c.len.result - 1) parent one c.loop-place.invariant.so_far c.len-count.ensures.sound c.loop-place.auto.place within (c.depth.ensures.depth one) (omega arith)
    (c.index-parent.ensures ∙ ap (λ ks. get_or ks (c.len.result - 1) parent) c.truncate.ensures.items) in
    let key = c.in_ok-key.key in
    let none : get c.loop-place.nodes key ≡ None = no-links (get c.loop-place.nodes key) c.in_ok-key.ensures.appends.fresh in
    let only : AddsOnly c.args.nodes.now c.append.new.nodes (keys ++ key ∷ []) =
    adds-more c.args.nodes.now c.loop-place.nodes c.append.new.nodes keys key c.loop-place.invariant.only none (λ other differ outside. c.in_ok-key.ensures.others other differ (parent-among keys parent other among outside)) in
    subst (AddsOnly c.args.nodes.now c.append.new.nodes) (sym c.push_reserved-in-loop-place.ensures.items) only

pub loop-place-preserved : goal.loop-place-preserved
loop-place-preserved c =
    let within : c.loop-place.place < length (rows 0 c.args.tree.now) = omega (arith, c.loop-place-test.true, c.len-count.ensures.nodes) in
    let low = deep _ _ _ _ c.loop-place.place c.args.tree.now c.depth.result one c.loop-place.invariant.so_far c.len-count.ensures.sound c.loop-place.auto.place within (c.depth.ensures.depth one) in
    let parent = c.index-parent.result.now in
    let keys = c.loop-place.keys.items in
    let among : 0 < found parent keys = parent-listed c.loop-place.nodes c.in_ok-root.root c.loop-place.open.items keys c.loop-place.place c.args.tree.now c.depth.result (c.len.result - 1) parent one c.loop-place.invariant.so_far c.len-count.ensures.sound c.loop-place.auto.place within (c.depth.ensures.depth one) (omega arith)
    (c.index-parent.ensures ∙ ap (λ ks. get_or ks (c.len.result - 1) parent) c.truncate.ensures.items) in
    let key = c.in_ok-key.key in
    let none : get c.loop-place.nodes key ≡ None = no-links (get c.loop-place.nodes key) c.in_ok-key.ensures.appends.fresh in
    let only : AddsOnly c.args.nodes.now c.append.new.nodes (keys ++ key ∷ []) =
    adds-more c.args.nodes.now c.loop-place.nodes c.append.new.nodes keys key c.loop-place.invariant.only none (λ other differ outside. c.in_ok-key.ensures.others other differ (parent-among keys parent other among outside)) in
    let tree = c.args.tree.now in
    let open_is : c.push-in-loop-place.new.self.items ≡ take c.depth.result c.loop-place.open.items ++ key ∷ [] = c.in_ok-push-2.ensures.items ∙ ap (λ ks. ks ++ key ∷ []) c.truncate.ensures.items in
    let keys_are : c.push_reserved-in-loop-place.new.self.items ≡ keys ++ key ∷ [] = c.push_reserved-in-loop-place.ensures.items in
    let next : IsSoFar c.append.new.nodes c.in_ok-root.root (take c.depth.result c.loop-place.open.items ++ key ∷ []) (keys ++ key ∷ []) (c.loop-place.place + 1) tree =
    goes-on c.loop-place.nodes c.append.new.nodes c.in_ok-root.root c.loop-place.open.items keys c.loop-place.place tree c.depth.result (c.len.result - 1) parent key c.in_ok-node.node one c.loop-place.invariant.so_far c.len-count.ensures.sound c.loop-place.auto.place within (c.depth.ensures.depth one) (omega arith)
    (c.index-parent.ensures ∙ ap (λ ks. get_or ks (c.len.result - 1) parent) c.truncate.ensures.items)
    (c.in_ok-node.ensures.same ∙ shown-is _ _ (c.node-in-loop-place.ensures.shown one))
    c.in_ok-key.ensures.appends c.in_ok-key.ensures.len in
    record {
      so_far = subst (λ ks. IsSoFar c.append.new.nodes c.in_ok-root.root ks c.push_reserved-in-loop-place.new.self.items (c.loop-place.place + 1) tree) (sym open_is) (subst (λ ks. IsSoFar c.append.new.nodes c.in_ok-root.root (take c.depth.result c.loop-place.open.items ++ key ∷ []) ks (c.loop-place.place + 1) tree) (sym keys_are) next);
      only = subst (AddsOnly c.args.nodes.now c.append.new.nodes) (sym keys_are) only;
      room = omega (arith, c.push_reserved-in-loop-place.ensures.len, c.push_reserved-in-loop-place.ensures.capacity, c.loop-place.invariant.room);
    }

pub returns-clause-added : goal.returns-clause-added
returns-clause-added c =
    let all : length (rows 0 c.args.tree.now) ≤ c.loop-place.place = omega (arith, c.loop-place-test.false, c.len-count.ensures.nodes) in
    is-added c.args.nodes.now c.loop-place.nodes c.in_ok-root.root c.loop-place.open.items c.loop-place.keys.items c.loop-place.place c.args.tree.now c.loop-place.invariant.so_far c.loop-place.invariant.only all c.len-count.ensures.sound
