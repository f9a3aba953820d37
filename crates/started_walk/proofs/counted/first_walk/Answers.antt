use Rattle.std.proofs.Common.{◌≡◌, ◌+◌, ◌∙◌, All, ap, length, subst, sym, true}
use Rattle.box_eval.specs.Starts.{has_starts, no_starts}
use Rattle.document_walk.specs.Catching.{reading}
use Rattle.counter_index.specs.Indexes.{asked_at}
use Rattle.counter_index.specs.Retold.{other_keys}
use Rattle.counter_index.specs.Told.{told_exchange}
use Rattle.started_walk.proofs.CountedLemmas.{first-within, index-is, some-deeds, turned-are, turned-ask, walk}
use Rattle.started_walk.proofs.EditLemmas.{links-first}
use Rattle.started_walk.proofs.counted.first_walk.Goals as goal

pub turned_walk-requires : goal.turned_walk-requires
turned_walk-requires g c =
    let from = reading (λ _. no_starts) c.args.document.now in
    let kept = g.B.Snapshots.kept c.args.board.now in
    record { stands = walk from c.args.counting.now kept c.args.takes.now c.args.stops.now c.requires.stands }

pub moved_keys-requires : goal.moved_keys-requires
moved_keys-requires g c =
    let from = reading (λ _. no_starts) c.args.document.now in
    record { links = links-first from c.args.takes.now c.args.stops.now c.requires.stands.place }

pub turn-requires : goal.turn-requires
turn-requires g c =
    let from = reading (λ _. no_starts) c.args.document.now in
    let kept = g.B.Snapshots.kept c.args.board.now in
    let takes = c.args.takes.now in
    let stops = c.args.stops.now in
    record {
      deeds =
          some-deeds from c.args.counting.now kept takes stops c.requires.stands c.in_ok-told.told
          (c.in_ok-told.ensures.finds (walk from c.args.counting.now kept takes stops c.requires.stands))
          c.in_ok-deeds.deeds.items (c.in_ok-deeds.ensures.entries ∙ ap (told_exchange takes) c.as_slice.ensures.items);
    }

pub returns-in_err-told-clause-most : goal.returns-in_err-told-clause-most
returns-in_err-told-clause-most g c =
    let from = reading (λ _. no_starts) c.args.document.now in
    let kept = g.B.Snapshots.kept c.args.board.now in
    first-within from c.args.counting.now kept c.args.takes.now c.args.stops.now c.args.steps.now c.turned_walk.new.steps c.turned_walk.ensures.most

pub returns-in_err-deeds-clause-most : goal.returns-in_err-deeds-clause-most
returns-in_err-deeds-clause-most g c =
    let from = reading (λ _. no_starts) c.args.document.now in
    let kept = g.B.Snapshots.kept c.args.board.now in
    first-within from c.args.counting.now kept c.args.takes.now c.args.stops.now c.args.steps.now c.turned_walk.new.steps c.turned_walk.ensures.most

pub returns-in_err-keys-clause-most : goal.returns-in_err-keys-clause-most
returns-in_err-keys-clause-most g c =
    let from = reading (λ _. no_starts) c.args.document.now in
    let kept = g.B.Snapshots.kept c.args.board.now in
    first-within from c.args.counting.now kept c.args.takes.now c.args.stops.now c.args.steps.now c.turned_walk.new.steps c.turned_walk.ensures.most

pub returns-in_err-back-clause-most : goal.returns-in_err-back-clause-most
returns-in_err-back-clause-most g c =
    let from = reading (λ _. no_starts) c.args.document.now in
    let kept = g.B.Snapshots.kept c.args.board.now in
    first-within from c.args.counting.now kept c.args.takes.now c.args.stops.now c.args.steps.now c.turned_walk.new.steps c.turned_walk.ensures.most

pub returns-clause-most : goal.returns-clause-most
returns-clause-most g c =
    let from = reading (λ _. no_starts) c.args.document.now in
    let kept = g.B.Snapshots.kept c.args.board.now in
    first-within from c.args.counting.now kept c.args.takes.now c.args.stops.now c.args.steps.now c.turned_walk.new.steps c.turned_walk.ensures.most

pub returns-clause-few : goal.returns-clause-few
returns-clause-few g c =
    let from = reading (λ _. no_starts) c.args.document.now in
    let kept = g.B.Snapshots.kept c.args.board.now in
    first-within from c.args.counting.now kept c.args.takes.now c.args.stops.now c.args.steps.now (c.turned_walk.new.steps + length c.in_ok-told.told) c.in_ok-told.ensures.few

pub returns-clause-finds : goal.returns-clause-finds
returns-clause-finds g c =
    let from = reading (λ _. no_starts) c.args.document.now in
    let kept = g.B.Snapshots.kept c.args.board.now in
    λ stands. c.in_ok-told.ensures.finds (walk from c.args.counting.now kept c.args.takes.now c.args.stops.now stands)

pub returns-clause-index : goal.returns-clause-index
returns-clause-index g c =
    let from = reading (λ _. no_starts) c.args.document.now in
    let kept = g.B.Snapshots.kept c.args.board.now in
    let takes = c.args.takes.now in
    let stops = c.args.stops.now in
    λ stands.
    index-is from c.args.counting.now kept takes stops stands c.in_ok-told.told (c.in_ok-told.ensures.finds (walk from c.args.counting.now kept takes stops stands))
    c.in_ok-deeds.deeds.items (c.in_ok-deeds.ensures.entries ∙ ap (told_exchange takes) c.as_slice.ensures.items)
    c.as_slice-moved.result.now (c.as_slice-moved.ensures.items ∙ c.in_ok-keys.ensures.moved)
    c.turn.new.index c.in_ok-back.field-0.back c.in_ok-back.ensures.brought c.in_ok-back.ensures.back

pub returns-clause-turned : goal.returns-clause-turned
returns-clause-turned g c =
    let from = reading (λ _. no_starts) c.args.document.now in
    let kept = g.B.Snapshots.kept c.args.board.now in
    let takes = c.args.takes.now in
    let stops = c.args.stops.now in
    λ stands.
    turned-are from c.args.counting.now kept takes stops stands c.in_ok-told.told (c.in_ok-told.ensures.finds (walk from c.args.counting.now kept takes stops stands))
    c.in_ok-deeds.deeds.items (c.in_ok-deeds.ensures.entries ∙ ap (told_exchange takes) c.as_slice.ensures.items)
    c.as_slice-moved.result.now (c.as_slice-moved.ensures.items ∙ c.in_ok-keys.ensures.moved)
    c.turn.new.index c.in_ok-back.field-0.back c.in_ok-back.ensures.brought c.in_ok-back.ensures.back
    c.in_ok-back.field-0.keys c.in_ok-back.ensures.keys

pub returns-clause-asking : goal.returns-clause-asking
returns-clause-asking g c =
    let index = c.turn.new.index in
    subst (All (λ key. has_starts (asked_at index key) ≡ true)) (sym c.in_ok-back.ensures.keys)
    (turned-ask c.args.document.now.arena.now.tree index c.args.stops.now (other_keys index c.in_ok-back.field-0.back.starts.items))
