use Rattle.std.proofs.Common.{◌++◌, ◌∙◌, ap, ap₂}
use Rattle.dirty_walk.specs.Machinery.FormerLists.{coming_formers, formers_of}
use Rattle.dirty_walk.proofs.FormerLemmas.{former_are}
use Rattle.dirty_walk.proofs.former_targets.former_targets.Goals as goal

pub returns : goal.returns
returns c =
    let tree = c.args.arena.now.tree in
    let edit = c.args.edit.now in
    record {
      former = former_are c.targets_stay.ensures.others edit tree c.put_coming.new.former
          (c.in_ok-put_coming.ensures.ok
          ∙ ap₂ (λ tree former. former ++ coming_formers tree edit) (c.put_elements.ensures.tree ∙ c.new-lookup.ensures.tree)
          (c.in_ok-put_elements.ensures.ok
          ∙ ap₂ (λ tree former. former ++ formers_of tree c.args.gone.now) c.new-lookup.ensures.tree c.new-former.ensures.empty
          ∙ ap (formers_of tree) c.requires.gone));
    }
