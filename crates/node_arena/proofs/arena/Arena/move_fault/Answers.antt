use Rattle.std.proofs.Common.{◌≡◌, ◌≢◌, ◌+◌, ◌⊎◌, nat_le, true, false, Some, sym, ap, ◌∙◌, arith, inl, inr}
use Rattle.forest.specs.Keys.{without_keys}
use Rattle.forest.specs.Spots.{parent_of, child_count_of}
use Rattle.forest.proofs.PathLaws.{path-live}
use Rattle.forest.proofs.SiblingLaws.{index-within}
use Rattle.node_arena.specs.AtPaths.{leads_into}
use Rattle.node_arena.specs.Edits.{no_place_unless}
use Rattle.node_arena.proofs.MoveLaws.{inner-long, parent-same, parent-other, leads-into-test, into-itself, by-index, count-once-out}
use Rattle.node_arena.proofs.arena.Arena.move_fault.Goals as goal
use Rattle.node_arena.proofs.arena.Arena.move_fault.Goals.{then-eq, else-eq}

pub returns-then-starts_with : goal.returns-then-starts_with
returns-then-starts_with c =
    let into : leads_into c.args.from.now c.args.parent.now ≡ true = leads-into-test _ _ _ _ _ c.as_slice-2.ensures.steps c.as_slice.ensures.steps c.starts_with.ensures.value ∙ c.if-starts_with.true in
    sym (into-itself c.args.from.now c.args.parent.now c.args.index (without_keys c.args.self.now.tree) (sym c.in-Some-Some.ensures.found) (sym c.in-Some-Some.ensures'.found) into)

pub child_count-count-requires : goal.child_count-count-requires
child_count-count-requires c = path-live c.args.self.now.tree c.args.parent.now c.in-Some-Some.target c.in-Some-Some.ensures'.key

pub parent-requires : goal.parent-requires
parent-requires c = path-live c.args.self.now.tree c.args.from.now c.in-Some-Some.key c.in-Some-Some.ensures.key

pub overflow_sub-count : goal.overflow_sub-count
overflow_sub-count c =
    let tree = c.args.self.now.tree in
    let key = c.in-Some-Some.key in
    let target = c.in-Some-Some.target in
    let above : parent_of tree key ≡ Some target = sym c.parent.ensures.link ∙ parent-same c.parent.result target (sym c.eq.ensures ∙ c.if-eq.true) in
    omega (arith, index-within tree key target c.arena_holds_document.ensures.document.distinct (path-live tree c.args.from.now key c.in-Some-Some.ensures.key) above)

counted : (c : goal.After-no_place_unless) → ((parent_of c.args.self.now.tree c.in-Some-Some.key ≡ Some c.in-Some-Some.target) × (c.if-eq.count + 1 ≡ child_count_of c.args.self.now.tree c.in-Some-Some.target)) ⊎ ((parent_of c.args.self.now.tree c.in-Some-Some.key ≢ Some c.in-Some-Some.target) × (c.if-eq.count ≡ child_count_of c.args.self.now.tree c.in-Some-Some.target))
counted c =
    let tree = c.args.self.now.tree in
    let key = c.in-Some-Some.key in
    let target = c.in-Some-Some.target in
    elim c.if-eq.branch [
      | then-eq w ↦
          let above : parent_of tree key ≡ Some target = sym c.parent.ensures.link ∙ parent-same c.parent.result target (sym c.eq.ensures ∙ w.if-eq.true) in
          let within = index-within tree key target c.arena_holds_document.ensures.document.distinct (path-live tree c.args.from.now key c.in-Some-Some.ensures.key) above in
          inl (above, omega (arith, w.count-is, c.child_count-count.ensures))
      | else-eq w ↦ inr ((λ above. parent-other c.parent.result target (sym c.eq.ensures ∙ w.if-eq.false) (c.parent.ensures.link ∙ above)), w.count-is ∙ c.child_count-count.ensures)
    ]

pub returns : goal.returns
returns c =
    let tree = c.args.self.now.tree in
    let from = c.args.from.now in
    let parent = c.args.parent.now in
    let out : leads_into from parent ≡ false = leads-into-test _ _ _ _ _ c.as_slice-2.ensures.steps c.as_slice.ensures.steps c.starts_with.ensures.value ∙ c.if-starts_with.false in
    let count = count-once-out tree from parent c.in-Some-Some.key c.in-Some-Some.target c.if-eq.count c.arena_holds_document.ensures.document c.in-Some-Some.ensures.key c.in-Some-Some.ensures'.key (inner-long from (without_keys tree) (sym c.in-Some-Some.ensures.found)) out (counted c) in
    c.no_place_unless.ensures
    ∙ ap (λ n. no_place_unless (nat_le c.args.index n)) (sym count)
    ∙ sym (by-index from parent c.args.index (without_keys tree) (sym c.in-Some-Some.ensures.found) (sym c.in-Some-Some.ensures'.found) out)
