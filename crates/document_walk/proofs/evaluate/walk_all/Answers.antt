use Rattle.std.proofs.Common.{◌∙◌, ℕ, None, ap, refl}
use Rattle.std.specs.FinMap.{get, get-empty}
use Rattle.std.specs.Ordering.{nat_cmp}
use Rattle.std.specs.Prelude.{option_map}
use Rattle.box_eval.specs.Evaluation.{all_changes}
use Rattle.merged_walk.specs.Merges.{all_come}
use Rattle.surroundings.specs.declared.walked.Walked.{Walked}
use Rattle.document_walk.specs.Catching.{document_of, kept_on, reading, stops_left, with_changes}
use Rattle.document_walk.proofs.DocumentLemmas.{can_come}
use Rattle.document_walk.proofs.evaluate.walk_all.Goals as goal

pub go-requires-clause-stands : goal.go-requires-clause-stands
go-requires-clause-stands g c =
    let from = reading g.T.Starts.starts c.args.sources.now in
    let none = λ (key : ℕ). ap (λ held. option_map (λ (walked : Walked). walked) (get held key)) c.new-board.ensures.held ∙ ap (option_map (λ (walked : Walked). walked)) (get-empty nat_cmp key) in
    let can = can_come from (kept_on (λ (walked : Walked). walked) c.new-board.result) c.root-root.result (stops_left c.in_ok-walk.walk) c.root-root.ensures.document c.root-root.ensures.root none
    (c.in_ok-walk.ensures.stops ∙ c.in_ok-stops.ensures.stops) in
    (all_come (document_of from), (λ _. None, can))

pub returns-in_err-go-clause-steps : goal.returns-in_err-go-clause-steps
returns-in_err-go-clause-steps g c =
    let from = reading g.T.Starts.starts c.args.sources.now in
    let none = λ (key : ℕ). ap (λ held. option_map (λ (walked : Walked). walked) (get held key)) c.new-board.ensures.held ∙ ap (option_map (λ (walked : Walked). walked)) (get-empty nat_cmp key) in
    let can = can_come from (kept_on (λ (walked : Walked). walked) c.new-board.result) c.root-root.result (stops_left c.in_ok-walk.walk) c.root-root.ensures.document c.root-root.ensures.root none
    (c.in_ok-walk.ensures.stops ∙ c.in_ok-stops.ensures.stops) in
    c.go.ensures.three (all_come (document_of from)) (λ _. None) can refl

pub returns-clause-told : goal.returns-clause-told
returns-clause-told g c =
    let from = reading g.T.Starts.starts c.args.sources.now in
    let none = λ (key : ℕ). ap (λ held. option_map (λ (walked : Walked). walked) (get held key)) c.new-board.ensures.held ∙ ap (option_map (λ (walked : Walked). walked)) (get-empty nat_cmp key) in
    let can = can_come from (kept_on (λ (walked : Walked). walked) c.new-board.result) c.root-root.result (stops_left c.in_ok-walk.walk) c.root-root.ensures.document c.root-root.ensures.root none
    (c.in_ok-walk.ensures.stops ∙ c.in_ok-stops.ensures.stops) in
    c.in_ok-go.ensures.all (all_come (document_of from)) (λ _. None) can refl

pub returns-clause-changes : goal.returns-clause-changes
returns-clause-changes g c =
    let from = reading g.T.Starts.starts c.args.sources.now in
    let none = λ (key : ℕ). ap (λ held. option_map (λ (walked : Walked). walked) (get held key)) c.new-board.ensures.held ∙ ap (option_map (λ (walked : Walked). walked)) (get-empty nat_cmp key) in
    let can = can_come from (kept_on (λ (walked : Walked). walked) c.new-board.result) c.root-root.result (stops_left c.in_ok-walk.walk) c.root-root.ensures.document c.root-root.ensures.root none
    (c.in_ok-walk.ensures.stops ∙ c.in_ok-stops.ensures.stops) in
    c.in_ok-go.ensures.changes (all_come (document_of from)) (λ _. None) can refl
    ∙ ap (λ before. with_changes before (all_changes from.table (document_of from))) c.in_ok-walk.ensures.changes

pub returns-clause-steps : goal.returns-clause-steps
returns-clause-steps g c =
    let from = reading g.T.Starts.starts c.args.sources.now in
    let none = λ (key : ℕ). ap (λ held. option_map (λ (walked : Walked). walked) (get held key)) c.new-board.ensures.held ∙ ap (option_map (λ (walked : Walked). walked)) (get-empty nat_cmp key) in
    let can = can_come from (kept_on (λ (walked : Walked). walked) c.new-board.result) c.root-root.result (stops_left c.in_ok-walk.walk) c.root-root.ensures.document c.root-root.ensures.root none
    (c.in_ok-walk.ensures.stops ∙ c.in_ok-stops.ensures.stops) in
    c.go.ensures.three (all_come (document_of from)) (λ _. None) can refl
