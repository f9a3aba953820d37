use Rattle.std.proofs.Common.{◌≡◌, refl, ap, ◌∙◌, option_map}
use Rattle.forest.proofs.PathLaws.{path-live}
use Rattle.node_arena.specs.Changes.{KeepsAside}
use Rattle.node_arena.specs.Document.{Document}
use Rattle.node_arena.specs.Entries.{links_of}
use Rattle.node_arena.proofs.AddLaws.{arena-added, tree-added}
use Rattle.node_arena.proofs.PrepareLaws.{keeps-aside, prepares-insertion}
use Rattle.node_arena.proofs.StepLaws.{seen, arena-same, tree-same}
use Rattle.node_arena.proofs.arena.Arena.prepare_insertion.Goals as goal

pub make_room-requires : goal.make_room-requires
make_room-requires c = path-live c.args.self.now.tree c.args.parent.now c.in-Some.parent c.in-Some.ensures.key

pub invariant_of-self : goal.invariant_of-self
invariant_of-self c = arena-same c.self.inside.nodes c.self.inside.root c.make_room.new.self c.self.invariant c.self.view_is c.add_tree.new.nodes (λ key. ap (option_map links_of) (c.in_err-key.ensures.same key))

pub returns-in_err-key-clause-tree : goal.returns-in_err-key-clause-tree
returns-in_err-key-clause-tree c =
    tree-same c.self.inside.nodes c.self.inside.root c.make_room.new.self c.self.invariant c.self.view_is c.add_tree.new.nodes (λ key. ap (option_map links_of) (c.in_err-key.ensures.same key)) ∙ c.in_ok-make_room.ensures.tree

pub invariant_of-self-2 : goal.invariant_of-self-2
invariant_of-self-2 c = arena-added c.self.inside.nodes c.add_tree.new.nodes c.self.inside.root c.self.invariant c.args.fragment.now c.in_ok-key.keys.items c.in_ok-key.key c.in_ok-key.ensures.added

pub returns : goal.returns
returns c =
    let old = c.args.self.now in
    let mid = c.make_room.new.self in
    let new = c.add_tree.new.nodes in
    let root = c.self.inside.root in
    let keys = c.in_ok-key.keys in
    let kept : KeepsAside mid (seen new root) c.args.fragment.now keys.items c.in_ok-key.key = keeps-aside c.self.inside.nodes new root mid c.args.fragment.now keys.items c.in_ok-key.key c.self.invariant c.self.view_is c.in_ok-key.ensures.added in
    let stays : (seen new root).tree ≡ mid.tree =
    tree-added c.self.inside.nodes new root c.self.invariant c.args.fragment.now keys.items c.in_ok-key.key c.in_ok-key.ensures.added ∙ ap (λ (d : Document). d.tree) c.self.view_is in
    record {
      tree = stays ∙ c.in_ok-make_room.ensures.tree;
      prepares = prepares-insertion mid (seen new root) c.args.fragment.now keys.items c.in_ok-key.key kept old c.args.parent.now c.args.index c.in-Some.parent keys refl c.in_ok-make_room.ensures.tree stays c.in_ok-make_room.ensures.entries c.arena_holds_document.ensures.document c.in-Some.ensures.key c.requires.element c.requires.room c.in_ok-make_room.ensures.room;
      err = tt;
    }
