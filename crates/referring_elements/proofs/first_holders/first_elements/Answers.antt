use Rattle.std.proofs.Common.{◌∙◌, ap, sym}
use Rattle.std.specs.Option.{option_or}
use Rattle.referring_elements.specs.ElementsById.{if_holder}
use Rattle.referring_elements.proofs.FirstHolderLemmas.{last_first, next_first}
use Rattle.referring_elements.proofs.WalkLemmas.{fewer_left}
use Rattle.referring_elements.proofs.first_holders.first_elements.Goals as goal

pub walk-smaller : goal.walk-smaller
walk-smaller c = fewer_left c.args.arena.now.tree c.root-at.ensures.document.distinct c.walk.at c.walk.invariant.live c.in-Some.next (sym c.in-Some.ensures.link)

pub walk-preserved : goal.walk-preserved
walk-preserved c =
    let tree = c.args.arena.now.tree in
    record {
      live = c.in-Some.ensures.live;
      first = λ id.
          c.in_ok-put_holder.ensures.ok id
          ∙ ap (λ one. option_or one (if_holder tree id c.walk.at)) (c.walk.invariant.first id)
          ∙ sym (next_first tree c.root-at.ensures.document.distinct c.walk.at c.walk.invariant.live id c.in-Some.next (sym c.in-Some.ensures.link));
    }

pub returns-in-None : goal.returns-in-None
returns-in-None c =
    let tree = c.args.arena.now.tree in
    record {
      first = λ id.
          c.in_ok-put_holder.ensures.ok id
          ∙ ap (λ one. option_or one (if_holder tree id c.walk.at)) (c.walk.invariant.first id)
          ∙ sym (last_first tree c.root-at.ensures.document.distinct c.walk.at c.walk.invariant.live id (sym c.in-None.ensures.link));
    }
