use Rattle.std.proofs.Common.{◌≡◌, ◌<◌, ◌∙◌, sym, ap, Some, None, take, drop, ◌+◌, get_or, length, take-append-drop}
use Rattle.std.proofs.lemmas.List.{take_more}
use Rattle.forest.specs.Paths.{key_at}
use Rattle.forest.specs.Spots.{child_of}
use Rattle.forest.proofs.PathLaws.{path-live, key_at-child, key_at-past}
use Rattle.node_arena.proofs.arena.Arena.at.Goals as goal

pub child-requires : goal.child-requires
child-requires c = path-live c.args.self.now.tree (take c.loop-position.position-index c.as_slice-position-items.result.now) c.loop-position.key c.loop-position.invariant

pub returns-in_err-key-clause-link : goal.returns-in_err-key-clause-link
returns-in_err-key-clause-link c =
    let tree = c.args.self.now.tree in
    let items = c.as_slice-position-items.result.now in
    let index = c.loop-position.position-index in
    let none : child_of tree c.loop-position.key (get_or items index 0) ≡ None = sym c.child.ensures.link ∙ c.in_err-key.was in
    let within : index < length items = c.loop-position-test.true in
    let past : key_at tree (take (index + 1) items) ≡ None = ap (key_at tree) (take_more items index 0 within) ∙ key_at-child tree (take index items) c.loop-position.key (get_or items index 0) c.root-key.ensures.document.distinct c.loop-position.invariant ∙ none in
    c.from_residual.ensures
    ∙ sym (ap (key_at tree) (sym c.as_slice-position-items.ensures.steps ∙ sym (take-append-drop (index + 1) items)) ∙ key_at-past tree (take (index + 1) items) (drop (index + 1) items) past)

pub loop-position-preserved : goal.loop-position-preserved
loop-position-preserved c =
    let tree = c.args.self.now.tree in
    let items = c.as_slice-position-items.result.now in
    let index = c.loop-position.position-index in
    let some : child_of tree c.loop-position.key (get_or items index 0) ≡ Some c.in_ok-key.key = sym c.child.ensures.link ∙ c.in_ok-key.was in
    let within : index < length items = c.loop-position-test.true in
    ap (key_at tree) (take_more items index 0 within) ∙ key_at-child tree (take index items) c.loop-position.key (get_or items index 0) c.root-key.ensures.document.distinct c.loop-position.invariant ∙ some

pub returns-clause-live : goal.returns-clause-live
returns-clause-live c = path-live c.args.self.now.tree (take c.loop-position.position-index c.as_slice-position-items.result.now) c.loop-position.key c.loop-position.invariant
