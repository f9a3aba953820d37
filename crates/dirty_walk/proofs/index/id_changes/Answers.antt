use Rattle.std.proofs.Common.{◌++◌, ◌∙◌, ap, sym}
use Rattle.dirty_walk.proofs.IdLemmas.{id_change}
use Rattle.referring_elements.proofs.WalkLemmas.{fewer_left}
use Rattle.dirty_walk.proofs.WalkLemmas.{last_told, next_told}
use Rattle.dirty_walk.proofs.index.id_changes.Goals as goal

pub walk-smaller : goal.walk-smaller
walk-smaller c = fewer_left c.args.arena.now.tree c.root-at.ensures.document.distinct c.walk.at c.walk.invariant.live c.in-Some.next (sym c.in-Some.ensures.link)

pub walk-preserved : goal.walk-preserved
walk-preserved c =
    let tree = c.args.arena.now.tree in
    record {
      live = c.in-Some.ensures.live;
      made = c.in_ok-put_id_change.ensures.ok
          ∙ ap (λ made. made ++ id_change tree c.walk.at) c.walk.invariant.made
          ∙ sym (next_told tree c.root-at.ensures.document.distinct c.walk.at c.walk.invariant.live (id_change tree) c.in-Some.next (sym c.in-Some.ensures.link));
    }

pub returns-in-None : goal.returns-in-None
returns-in-None c =
    let tree = c.args.arena.now.tree in
    record {
      changes = c.in_ok-put_id_change.ensures.ok
          ∙ ap (λ made. made ++ id_change tree c.walk.at) c.walk.invariant.made
          ∙ sym (last_told tree c.root-at.ensures.document.distinct c.walk.at c.walk.invariant.live (id_change tree) (sym c.in-None.ensures.link));
    }
