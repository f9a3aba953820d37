use Rattle.std.proofs.Common.{◌≡◌, nat_le, true, sym, ap, ◌∙◌}
use Rattle.forest.specs.Keys.{without_keys}
use Rattle.forest.proofs.PathLaws.{path-live}
use Rattle.node_arena.specs.Edits.{is_element_at, has_room_at}
use Rattle.node_arena.proofs.KeyAtLaws.{count-found}
use Rattle.node_arena.proofs.arena.Arena.has_room_at.Goals as goal

pub child_count-requires : goal.child_count-requires
child_count-requires c = path-live c.args.self.now.tree c.args.parent.now c.in-Some.key c.in-Some.ensures.key

pub returns-in-Some : goal.returns-in-Some
returns-in-Some c =
    let tree = c.args.self.now.tree in
    let element : is_element_at c.args.parent.now (without_keys tree) ≡ true = sym c.in-Some.ensures.found in
    rw (element, has_room_at) (ap (nat_le c.args.index) (c.child_count.ensures ∙ sym (count-found tree c.args.parent.now c.in-Some.key c.arena_holds_document.ensures.document.distinct c.in-Some.ensures.key)))
