use Rattle.std.proofs.Common.{◌≡◌, ◌∙◌, ap, subst, sym, true, IfSome, Option, Some, None}
use Rattle.std.specs.Prelude.{IfNone}
use Rattle.forest.specs.Forest.{Forest}
use Rattle.forest.specs.Keys.{Keyed, without_keys}
use Rattle.plain_types.specs.declared.edit.Edit.{Edit}
use Rattle.plain_types.specs.declared.node.Node.{Node}
use Rattle.node_arena.specs.Edits.{place_fault}
use Rattle.style_reach.specs.Reaches.{reach}
use Rattle.style_reach.specs.declared.extent.Reach.{Reach}
use Rattle.styled_merge.specs.Laws.{looks_beside}
use Rattle.styled_merge.specs.ReachStops.{reach_stops}
use Rattle.dirty_walk.specs.Books.{StyledDocument}
use Rattle.dirty_walk.specs.Exchanges.{elements_in, leaving, taken_keys}
use Rattle.dirty_walk.specs.FormerTargets.{AreFormerTargetsOf}
use Rattle.dirty_walk.proofs.PlaceLemmas.{its_reach}
use Rattle.dirty_walk.proofs.book.Book.ahead.Goals as goal

-- what holds where there is no value
of_no_value : {A : Type 0} (P Q : Type 0) → (P → Q) → (o : Option A) → IfNone o P → IfNone o Q
of_no_value P Q so None holds = so holds
of_no_value P Q so (Some value) holds = tt

-- how far the edit of a document reaches
abbrev reach_in : Edit → StyledDocument → Reach
reach_in edit styled = reach (looks_beside styled.sheet styled.tree) styled.tree edit

pub stops_at_place-requires : goal.stops_at_place-requires
stops_at_place-requires c = record { allowed = ap (λ (styled : StyledDocument). place_fault c.args.edit.now (without_keys styled.tree)) c.self.view_is ∙ c.requires.allowed }

pub returns-clause-gone : goal.returns-clause-gone
returns-clause-gone c = c.in_ok-gone.ensures.elements ∙ ap (λ (styled : StyledDocument). elements_in (leaving c.args.edit.now styled.tree)) c.self.view_is

pub returns-clause-takes : goal.returns-clause-takes
returns-clause-takes c =
    c.in_ok-takes.ensures.keys
    ∙ ap (taken_keys c.args.edit.now)
    (c.as_slice.ensures.items ∙ c.in_ok-gone.ensures.elements ∙ ap (λ (styled : StyledDocument). elements_in (leaving c.args.edit.now styled.tree)) c.self.view_is)

pub former_targets-requires : goal.former_targets-requires
former_targets-requires c = record { indexed = c.self.invariant.indexed; gone = c.as_slice-2.ensures.items ∙ c.in_ok-gone.ensures.elements }

pub returns-clause-former : goal.returns-clause-former
returns-clause-former c =
    subst (λ (tree : Forest (Keyed Node)). AreFormerTargetsOf c.args.edit.now tree c.in_ok-former.former) (ap (λ (styled : StyledDocument). styled.tree) c.self.view_is) c.in_ok-former.ensures.former

pub returns-clause-extent : goal.returns-clause-extent
returns-clause-extent c =
    subst (λ (extent : Reach). IfSome c.in_ok-stops.stops (λ local. local.extent ≡ extent))
    (its_reach c.args.edit.now c.self.inside.agent c.self.inside.styles c.self.inside.arena.tree c.self.invariant.agent_is c.self.invariant.styles_are ∙ ap (reach_in c.args.edit.now) c.self.view_is)
    c.in_ok-stops.ensures.extent

pub returns-clause-stops : goal.returns-clause-stops
returns-clause-stops c =
    subst (λ (tree : Forest (Keyed Node)). IfSome c.in_ok-stops.stops (λ local. local.stops.items ≡ reach_stops local.extent c.args.edit.now 0 tree))
    (ap (λ (styled : StyledDocument). styled.tree) c.self.view_is) c.in_ok-stops.ensures.stops

pub returns-clause-none : goal.returns-clause-none
returns-clause-none c =
    let reaches : reach_in c.args.edit.now (record { tree = c.self.inside.arena.tree; sheet = c.self.inside.styles.sheet; settled = true; kept = c.self.inside.board.held }) ≡ reach_in c.args.edit.now c.args.self.now =
    ap (λ (styled : StyledDocument). reach_in c.args.edit.now styled) c.self.view_is in
    of_no_value _ _
    (λ all. sym (its_reach c.args.edit.now c.self.inside.agent c.self.inside.styles c.self.inside.arena.tree c.self.invariant.agent_is c.self.invariant.styles_are ∙ reaches) ∙ all)
    c.in_ok-stops.stops c.in_ok-stops.ensures.none
