use Rattle.std.proofs.Common.{◌≡◌, ◌<◌, ◌≤◌, ◌+◌, ◌++◌, ◌∷◌, [], length, refl, subst, sym, ap, ◌∙◌, arith}
use Rattle.forest.specs.Spots.{root_keys, children_of}
use Rattle.std.proofs.lemmas.Option.{slice_get_read}
use Rattle.node_arena.proofs.UnderLaws.{AreFound, found-first, found-more, found-few, found-all}
use Rattle.node_arena.proofs.arena.Arena.keys_under.Goals as goal

pub level-init : goal.level-init
level-init c =
    let tree = c.args.self.now.tree in
    let items : c.push.new.self.items ≡ c.args.key ∷ [] = c.in_ok-push.ensures.items ∙ ap (λ front. front ++ c.args.key ∷ []) c.new-keys.ensures.items in
    subst (λ ks. AreFound tree ks 0 c.args.key) (sym items) (found-first tree c.args.key c.requires)

pub entry-requires : goal.entry-requires
entry-requires c =
    let keys = c.level.keys.items in
    let within : c.level.next < length keys = omega (arith, c.len.ensures, c.level-test.true, c.level.keys.ok.0) in
    c.level.invariant.live c.level.next c.index-at.result.now (slice_get_read keys (length keys) c.level.next c.index-at.result.now refl within c.index-at.ensures)

pub level-preserved : goal.level-preserved
level-preserved c =
    let tree = c.args.self.now.tree in
    let keys = c.level.keys.items in
    let within : c.level.next < length keys = omega (arith, c.len.ensures, c.level-test.true, c.level.keys.ok.0) in
    let items : c.extend_from_slice.new.self.items ≡ keys ++ root_keys (children_of tree c.index-at.result.now) = c.in_ok-extend_from_slice.ensures.items ∙ ap (λ more. keys ++ more) (c.as_slice.ensures.value ∙ c.entry.ensures.says.children) in
    subst (λ ks. AreFound tree ks (c.level.next + 1) c.args.key) (sym items)
    (found-more tree keys c.level.next c.args.key c.index-at.result.now c.arena_holds_document.ensures.document.distinct within (slice_get_read keys (length keys) c.level.next c.index-at.result.now refl within c.index-at.ensures) c.level.invariant)

pub level-smaller : goal.level-smaller
level-smaller c =
    let few = found-few c.args.self.now.tree c.level.keys.items c.level.next c.args.key c.level.invariant in
    let within : c.level.next < length c.level.keys.items = omega (arith, c.len.ensures, c.level-test.true, c.level.keys.ok.0) in
    omega arith

pub returns : goal.returns
returns c =
    let done : length c.level.keys.items ≤ c.level.next = omega (arith, c.len.ensures, c.level-test.false, c.level.keys.ok.0) in
    found-all c.args.self.now.tree c.level.keys.items c.level.next c.args.key c.requires done c.level.invariant
