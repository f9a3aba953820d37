use Rattle.std.proofs.Common.{◌∙◌, ◌+◌, ◌*◌, ℕ, List, ap, arith, length, subst, sym}
use Rattle.std.specs.Prelude.{Err, Ok, OnErr, Result}
use Rattle.generated_texts.specs.StyleElements.{author_sheet}
use Rattle.kept_elements.specs.declared.kept_change.KeptChange.{KeptChange}
use Rattle.kept_elements.specs.Changes.{AreBelow, Renews, TellWere}
use Rattle.kept_elements.specs.Evaluations.{document_kept}
use Rattle.started_walk.proofs.SavedLemmas.{below-stay, length-stays}
use Rattle.dirty_walk.specs.Countings.{StaysCounted}
use Rattle.dirty_walk.proofs.CountedLemmas.{all_within, can_walk, is_walked, renews_without, second_there, settled_are, still_counts, walks_within}
use Rattle.dirty_walk.proofs.counted.changes_at_place.Goals as goal

-- what holds in any case holds where a result is an error
on_err : {T E : Type 0} (result : Result T E) (Holds : Type 0) → Holds → OnErr result Holds
on_err (Ok value) Holds it = tt
on_err (Err error) Holds it = it

pub walk_twice-requires : goal.walk_twice-requires
walk_twice-requires g c =
    let document = c.args.document.now in
    record { stands = can_walk document document.agent_is document.styles_are c.args.board.now.held c.args.stops.now c.args.ahead.now c.args.index.now c.args.counting.now c.requires.place }

pub second_changes-requires : goal.second_changes-requires
second_changes-requires g c =
    let document = c.args.document.now in
    record {
      walk =
          second_there document document.agent_is document.styles_are c.args.board.now.held c.args.stops.now c.args.ahead.now c.args.index.now c.args.counting.now
          c.in_ok-told.field-0.stops.items c.in_ok-told.field-0.told c.args.steps.now c.walk_twice.new.steps c.in_ok-told.ensures.walked
          c.as_slice-2.result.now c.as_slice.result.now c.as_slice-2.ensures.value c.as_slice.ensures.items c.requires.place;
      count = omega (arith, ap length c.as_slice.ensures.items, c.in_ok-told.ensures.count);
      indexed = c.requires.indexed;
    }

pub settle-requires : goal.settle-requires
settle-requires g c = record { room = c.in_ok-told.ensures.room }

pub restore-requires : goal.restore-requires
restore-requires g c = record { back = (c.args.counting.now.index, c.in_ok-told.ensures.back) }

pub returns-in_err-told-clause-stays_counted : goal.returns-in_err-told-clause-stays_counted
returns-in_err-told-clause-stays_counted g c =
    on_err c.from_residual.result (StaysCounted c.args.counting.now c.walk_twice.new.counting)
    (λ source counts. still_counts source c.args.counting.now c.walk_twice.new.counting c.walk_twice.ensures.zeros c.in_err-told.ensures.err counts)

pub returns-in_err-told-clause-most : goal.returns-in_err-told-clause-most
returns-in_err-told-clause-most g c =
    let document = c.args.document.now in
    walks_within document document.agent_is document.styles_are c.args.board.now.held c.args.stops.now c.args.ahead.now c.args.index.now c.args.counting.now
    c.args.steps.now c.walk_twice.new.steps c.walk_twice.ensures.most

pub returns-in_err-told-clause-steps : goal.returns-in_err-told-clause-steps
returns-in_err-told-clause-steps g c = λ some. omega (arith, c.walk_twice.ensures.whole)

pub returns-in-Ok-clause-counts : goal.returns-in-Ok-clause-counts
returns-in-Ok-clause-counts g c =
    let document = c.args.document.now in
    let held = c.args.board.now.held in
    let kept = document_kept (author_sheet document.styles.now.sheet document.arena.now.tree) document.arena.now.tree in
    let stands = can_walk document document.agent_is document.styles_are held c.args.stops.now c.args.ahead.now c.args.index.now c.args.counting.now c.requires.place in
    let twice = c.in_ok-told.field-0 in
    c.settle.ensures.counts stands.place.before stands.place.after
    (is_walked document document.agent_is document.styles_are held c.args.stops.now c.args.ahead.now c.args.index.now c.args.counting.now c.requires.place
    c.walk_twice.new.counting c.walk_twice.ensures.zeros (c.in_ok-told.ensures.index stands) twice.zeros.items (c.in_ok-told.ensures.tells stands)
    twice.stops.items twice.told c.args.steps.now c.walk_twice.new.steps (c.in_ok-told.ensures.walked stands) c.in_ok-told.ensures.told_room c.as_mut_slice.result.now
    (subst (Renews held kept) (sym c.as_mut_slice.ensures.value) c.in-Ok.ensures.changes)
    (subst (TellWere held) (sym c.as_mut_slice.ensures.value) c.in-Ok.ensures.were))

-- what comes to the board is what came, without what elements were handed before
pub returns-in-Ok-clause-changes : goal.returns-in-Ok-clause-changes
returns-in-Ok-clause-changes g c =
    let document = c.args.document.now in
    let held = c.args.board.now.held in
    let kept = document_kept (author_sheet document.styles.now.sheet document.arena.now.tree) document.arena.now.tree in
    let changes = c.in-Ok.changes in
    subst (Renews held kept) (sym (settled_are changes.len changes.items c.as_mut_slice.result.now c.settle.new.changes c.as_mut_slice.ensures.value c.settle.ensures.changes changes.ok.0))
    (renews_without held kept changes.items c.in-Ok.ensures.changes)

pub returns-in-Ok-clause-room : goal.returns-in-Ok-clause-room
returns-in-Ok-clause-room g c =
    let changes = c.in-Ok.changes in
    let room = c.second_changes.new.board.room in
    subst (λ (items : List (ℕ × KeptChange)). AreBelow room items)
    (sym (settled_are changes.len changes.items c.as_mut_slice.result.now c.settle.new.changes c.as_mut_slice.ensures.value c.settle.ensures.changes changes.ok.0))
    (below-stay room changes.items c.in-Ok.ensures.room)

pub returns-clause-stays_counted : goal.returns-clause-stays_counted
returns-clause-stays_counted g c = λ source counts.
    still_counts source c.args.counting.now c.restore.new.self (ap (λ zeros. zeros.held) c.restore.ensures.zeros ∙ c.walk_twice.ensures.zeros)
    (c.restore.ensures.back c.args.counting.now.index c.in_ok-told.ensures.back) counts

pub returns-in-Ok-clause-few : goal.returns-in-Ok-clause-few
returns-in-Ok-clause-few g c =
    let document = c.args.document.now in
    let changes = c.in-Ok.changes in
    let same = settled_are changes.len changes.items c.as_mut_slice.result.now c.settle.new.changes c.as_mut_slice.ensures.value c.settle.ensures.changes changes.ok.0 in
    let within =
    all_within document document.agent_is document.styles_are c.args.board.now.held c.args.stops.now c.args.ahead.now c.args.index.now c.args.counting.now
    c.in_ok-told.field-0.stops.items c.in_ok-told.field-0.told c.args.steps.now c.walk_twice.new.steps c.in_ok-told.ensures.walked
    c.as_slice-2.result.now c.as_slice.result.now c.as_slice-2.ensures.value c.as_slice.ensures.items (c.second_changes.new.steps + 2 * length changes.items) c.in-Ok.ensures.few in
    λ some. omega (arith, within some, ap length same, length-stays changes.items)

pub returns-in-Ok-clause-most : goal.returns-in-Ok-clause-most
returns-in-Ok-clause-most g c =
    let document = c.args.document.now in
    all_within document document.agent_is document.styles_are c.args.board.now.held c.args.stops.now c.args.ahead.now c.args.index.now c.args.counting.now
    c.in_ok-told.field-0.stops.items c.in_ok-told.field-0.told c.args.steps.now c.walk_twice.new.steps c.in_ok-told.ensures.walked
    c.as_slice-2.result.now c.as_slice.result.now c.as_slice-2.ensures.value c.as_slice.ensures.items c.second_changes.new.steps c.second_changes.ensures.most

pub returns-clause-most : goal.returns-clause-most
returns-clause-most g c =
    let document = c.args.document.now in
    all_within document document.agent_is document.styles_are c.args.board.now.held c.args.stops.now c.args.ahead.now c.args.index.now c.args.counting.now
    c.in_ok-told.field-0.stops.items c.in_ok-told.field-0.told c.args.steps.now c.walk_twice.new.steps c.in_ok-told.ensures.walked
    c.as_slice-2.result.now c.as_slice.result.now c.as_slice-2.ensures.value c.as_slice.ensures.items c.second_changes.new.steps c.second_changes.ensures.most

pub returns-in-Ok-clause-steps : goal.returns-in-Ok-clause-steps
returns-in-Ok-clause-steps g c =
    let document = c.args.document.now in
    λ some.
    omega (
      arith,
      c.walk_twice.ensures.whole,
      c.second_changes.ensures.steps (second_there document document.agent_is document.styles_are c.args.board.now.held c.args.stops.now c.args.ahead.now c.args.index.now c.args.counting.now
          c.in_ok-told.field-0.stops.items c.in_ok-told.field-0.told c.args.steps.now c.walk_twice.new.steps c.in_ok-told.ensures.walked
          c.as_slice-2.result.now c.as_slice.result.now c.as_slice-2.ensures.value c.as_slice.ensures.items some),
    )

pub returns-clause-steps : goal.returns-clause-steps
returns-clause-steps g c =
    let document = c.args.document.now in
    λ some.
    omega (
      arith,
      c.walk_twice.ensures.whole,
      c.second_changes.ensures.steps (second_there document document.agent_is document.styles_are c.args.board.now.held c.args.stops.now c.args.ahead.now c.args.index.now c.args.counting.now
          c.in_ok-told.field-0.stops.items c.in_ok-told.field-0.told c.args.steps.now c.walk_twice.new.steps c.in_ok-told.ensures.walked
          c.as_slice-2.result.now c.as_slice.result.now c.as_slice-2.ensures.value c.as_slice.ensures.items some),
    )
