use Rattle.std.proofs.Common.{◌≡◌, IfNone, IfSome, Option, Some, None, true, subst, sym}
use Rattle.std.specs.Prelude.{is_some}
use Rattle.std.proofs.lemmas.Bool.{true≢false}
use Rattle.std.proofs.lemmas.Result.{IfOk-weaker, on_err_weaker}
use Rattle.target_index.specs.declared.index.Index.{Index}
use Rattle.started_walk.specs.declared.counting.Counting.{Counting}
use Rattle.started_walk.specs.Countings.{Counts}
use Rattle.referring_elements.specs.Indexes.{IsIndexOf, TellsReferences}
use Rattle.dirty_walk.specs.declared.local_stops.LocalStops.{LocalStops}
use Rattle.dirty_walk.specs.declared.planning.Renewal.{Renewal}
use Rattle.dirty_walk.specs.Machinery.CountedEdits.{IsWithinEdit, IsWithinEditElements}
use Rattle.dirty_walk.specs.Machinery.EditedArenas.{evaluated_after}
use Rattle.dirty_walk.specs.Countings.{StandsCounted, StaysCounted}
use Rattle.dirty_walk.proofs.planning.renewed.Goals as goal

-- what holds of stops that are there, and where there are none
there : (P : LocalStops → Type 0) (o : Option LocalStops) (local : LocalStops) → o ≡ Some local → IfSome o P → P local
there P o local is holds = subst (λ (o : Option LocalStops). IfSome o P) is holds

of_stops : (P : LocalStops → Type 0) (o : Option LocalStops) (local : LocalStops) → o ≡ Some local → P local → IfSome o P
of_stops P o local is holds = subst (λ (o : Option LocalStops). IfSome o P) (sym is) holds

no_stops : (P : LocalStops → Type 0) (o : Option LocalStops) → o ≡ None → IfSome o P
no_stops P o is = subst (λ (o : Option LocalStops). IfSome o P) (sym is) tt

some_stops : (P : Type 0) (o : Option LocalStops) (local : LocalStops) → o ≡ Some local → IfNone o P
some_stops P o local is = subst (λ (o : Option LocalStops). IfNone o P) (sym is) tt

-- from a walk comes no new index, and from a whole evaluation one
no_index : (P : Index → Type 0) (made : Renewal) → made.index ≡ None → IfSome made.index P
no_index P made none = subst (λ (o : Option Index). IfSome o P) (sym none) tt

old_index : (P : Type 0) (made : Option Index) → P → IfNone made P
old_index P None holds = holds
old_index P (Some index) holds = tt

new_index : (P : Type 0) (made : Option Index) → is_some made ≡ true → IfNone made P
new_index P None some = absurd (true≢false (sym some))
new_index P (Some index) some = tt

same_counting : (old new : Counting) → new ≡ old → StaysCounted old new
same_counting old new same = λ source counts. subst (λ (its : Counting). Counts source its) (sym same) counts

pub from_place-requires : goal.from_place-requires
from_place-requires g c =
    let document = c.args.document.now in
    record {
      place = there (λ local. StandsCounted document.edit.now document.styles.now c.args.board.now.held local document.arena.now.tree c.args.ahead.now c.args.index.now c.args.counting.now)
          c.args.stops c.in-Some.local c.in-Some.is c.requires.place;
      indexed = c.requires.indexed;
    }

pub returns-in-Some-clause-index : goal.returns-in-Some-clause-index
returns-in-Some-clause-index g c =
    let document = c.args.document.now in
    IfOk-weaker c.from_place.result _ _
    (λ made none. no_index (λ index. IsIndexOf index document.arena.now.tree × TellsReferences index (evaluated_after document)) made none)
    c.from_place.ensures.index

pub returns-in-Some-clause-refers : goal.returns-in-Some-clause-refers
returns-in-Some-clause-refers g c =
    let refers = TellsReferences c.from_place.new.index (evaluated_after c.args.document.now) in
    IfOk-weaker c.from_place.result (λ _. refers) (λ made. IfNone made.index refers) (λ made holds. old_index refers made.index holds) c.from_place.ensures.refers

pub returns-in-Some-clause-few : goal.returns-in-Some-clause-few
returns-in-Some-clause-few g c =
    let document = c.args.document.now in
    IfOk-weaker c.from_place.result _ _
    (λ made within.
    of_stops (λ local. IsWithinEdit document.edit.now document.styles.now c.args.board.now.held local document.arena.now.tree c.args.ahead.now c.args.index.now c.args.counting.now c.args.steps.now _)
    c.args.stops c.in-Some.local c.in-Some.is within)
    c.from_place.ensures.few

pub returns-in-Some-clause-most : goal.returns-in-Some-clause-most
returns-in-Some-clause-most g c =
    let document = c.args.document.now in
    of_stops
    (λ local.
    IsWithinEdit document.edit.now document.styles.now c.args.board.now.held local document.arena.now.tree c.args.ahead.now c.args.index.now c.args.counting.now c.args.steps.now c.from_place.new.steps)
    c.args.stops c.in-Some.local c.in-Some.is c.from_place.ensures.most

pub returns-in-Some-clause-steps : goal.returns-in-Some-clause-steps
returns-in-Some-clause-steps g c =
    let document = c.args.document.now in
    of_stops
    (λ local.
    IsWithinEditElements document.edit.now document.styles.now c.args.board.now.held local document.arena.now.tree c.args.ahead.now c.args.index.now c.args.counting.now c.args.steps.now c.from_place.new.steps)
    c.args.stops c.in-Some.local c.in-Some.is c.from_place.ensures.steps

pub returns-in-Some-clause-whole : goal.returns-in-Some-clause-whole
returns-in-Some-clause-whole g c = some_stops _ c.args.stops c.in-Some.local c.in-Some.is

pub returns-in-None-clause-stays_counted : goal.returns-in-None-clause-stays_counted
returns-in-None-clause-stays_counted g c =
    on_err_weaker c.from_whole.result (λ same. same_counting c.args.counting.now c.from_whole.new.counting same) c.from_whole.ensures.same

pub returns-in-None-clause-refers : goal.returns-in-None-clause-refers
returns-in-None-clause-refers g c =
    IfOk-weaker c.from_whole.result _ _
    (λ made some. new_index (TellsReferences c.args.index.now (evaluated_after c.args.document.now)) made.index some) c.from_whole.ensures.some

pub returns-in-None-clause-few : goal.returns-in-None-clause-few
returns-in-None-clause-few g c =
    IfOk-weaker c.from_whole.result _ _ (λ made some. no_stops _ c.args.stops c.in-None.is) c.from_whole.ensures.some

pub returns-in-None-clause-most : goal.returns-in-None-clause-most
returns-in-None-clause-most g c = no_stops _ c.args.stops c.in-None.is

pub returns-in-None-clause-steps : goal.returns-in-None-clause-steps
returns-in-None-clause-steps g c = no_stops _ c.args.stops c.in-None.is
