use Rattle.std.proofs.Common.{◌≡◌, ◌++◌, ◌∷◌, [], ap, unwrap_or, ◌∙◌}
use Rattle.box_eval.proofs.GroupLemmas.{put_behind}
use Rattle.box_eval.proofs.changed_starts.add.Goals as goal
use Rattle.box_eval.proofs.changed_starts.add.Goals.{in-Some, in-None}

pub returns : goal.returns
returns c =
    let event = c.args.change.now.event in
    let taken : c.match-remove.events ≡ unwrap_or c.remove.result [] = elim c.match-remove.branch [
      | in-Some w ↦ rw w.in-Some.is w.events-is
      | in-None w ↦ rw w.in-None.is (w.events-is ∙ w.new-events.ensures.empty)
    ] in
    let longer : c.push.new.self ≡ unwrap_or c.remove.result [] ++ event ∷ [] = c.in_ok-push.ensures.ok ∙ ap (λ events. events ++ event ∷ []) taken in
    record {
      added = put_behind c.args.groups.now c.remove.new.self c.insert.new.self c.as_str.result c.args.change.now c.push.new.self c.as_str.utf8 c.as_str.ensures.characters
          c.remove.ensures.updates.0 c.in_ok-insert.ensures.updates.0
          (longer ∙ ap (λ held. unwrap_or held [] ++ event ∷ []) c.remove.ensures.value);
    }
