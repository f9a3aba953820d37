use Rattle.std.proofs.Common.{◌≡◌, ◌∙◌, ◌+◌, ◌∷◌, [], ◌++◌, Vec, Global, get_or, take, sym, ap, subst, arith}
use Rattle.std.proofs.lemmas.List.{take_more}
use Rattle.forest.specs.Spots.{IsLink}
use Rattle.merged_walk.specs.declared.stop.Stop.{Stop}
use Rattle.edit_merge.proofs.ApproachLaws.{way-ended, way-entered}
use Rattle.edit_merge.proofs.stops.way_to.Goals as goal
use Rattle.edit_merge.proofs.stops.way_to.Goals.{in-Some+in_ok-push, in_default}

pub loop-position-preserved : goal.loop-position-preserved
loop-position-preserved c =
    let tree = c.args.arena.now.tree in
    let path = c.args.path.now in
    let index = c.loop-position.position-index in
    let more : take (index + 1) path ≡ take index path ++ get_or path index 0 ∷ [] = take_more path index 0 c.loop-position-test.true in
    elim c.match-link.branch [
      | in-Some+in_ok-push w ↦
          way-entered tree (take index path) (take (index + 1) path) (get_or path index 0) more c.loop-position.stops.items c.match-link.stops.items c.loop-position.link c.match-link.link c.loop-position.invariant
          w.in-Some.key w.len-depth.result c.arena_holds_document.ensures.document.distinct w.in-Some.is (omega (arith, w.len-depth.ensures, c.loop-position.stops.ok.0))
          (ap (λ (v : Vec Stop Global). v.items) w.stops-is ∙ w.in_ok-push.ensures.items) (w.link-is ∙ w.child-link.ensures.link) (subst (IsLink tree) (sym w.link-is) w.child-link.ensures.live)
      | in_default w ↦
          way-ended tree (take index path) (take (index + 1) path) (get_or path index 0) more c.loop-position.stops.items c.match-link.stops.items c.loop-position.link c.match-link.link c.loop-position.invariant
          w.in_default.is (ap (λ (v : Vec Stop Global). v.items) w.stops-is) w.link-is
    ]
