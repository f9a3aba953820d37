use Rattle.std.proofs.Common.{◌∙◌, ℕ, List, Option, ap, arith, length, sym, subst}
use Rattle.std.specs.Prelude.{unwrap_or}
use Rattle.std.specs.FinMap.{get}
use Rattle.box_eval.specs.Starts.{document_starts}
use Rattle.merged_walk.specs.Entries.{first_at, last_at}
use Rattle.counter_index.specs.declared.deeds.CounterDeeds.{CounterDeeds}
use Rattle.counter_index.specs.Exchanges.{HasRoomFor, after_exchange, restored}
use Rattle.counter_index.specs.Indexes.{deeds_at}
use Rattle.counter_index.specs.Retold.{told_entries}
use Rattle.counter_index.specs.Touched.{AreTouched}
use Rattle.started_walk.proofs.BringLemmas.{keys-length, room-grown, written}
use Rattle.started_walk.proofs.bring.bring_index.Goals as goal

pub exchange-requires : goal.exchange-requires
exchange-requires c =
    let has =
    subst (λ (entries : List (ℕ × Option CounterDeeds)). HasRoomFor c.in_ok-room.room entries) (c.as_slice.ensures.value ∙ sym c.as_mut_slice.ensures.value) c.in_ok-room.ensures.room in
    record { room = room-grown c.in_ok-room.room c.reserve.new.self.deeds.room c.as_mut_slice.result.now has c.in_ok-reserve.ensures.room }

pub restore-requires : goal.restore-requires
restore-requires c =
    let deeds = c.args.deeds in
    let after = c.exchange.new.entries in
    let put = written deeds.len after deeds.items (omega (arith, keys-length after c.as_mut_slice.result.now c.exchange.ensures.keys, ap length c.as_mut_slice.ensures.value, deeds.ok.0)) in
    record {
      room =
          subst (λ (entries : List (ℕ × Option CounterDeeds)). HasRoomFor c.bring_starts.new.index.deeds.room entries) (sym (c.as_mut_slice-in-Err.ensures.value ∙ put))
          (room-grown c.exchange.new.self.deeds.room c.bring_starts.new.index.deeds.room after c.exchange.ensures.back_room c.bring_starts.ensures.grown);
    }

pub returns-in-Ok-clause-brought : goal.returns-in-Ok-clause-brought
returns-in-Ok-clause-brought c =
    let was = c.args.index.now in
    let now = c.bring_starts.new.index in
    let brought = c.in-Ok.ensures.brought in
    record {
      does =
          λ key.
          ap (λ held. get held key) c.bring_starts.ensures.deeds
          ∙ c.exchange.ensures.deeds key
          ∙ ap (λ entries. after_exchange entries (deeds_at c.reserve.new.self) key) c.as_mut_slice.ensures.value
          ∙ ap (λ held. unwrap_or (last_at c.args.deeds.items key) (get held key)) c.reserve.ensures.deeds;
      keys = brought.keys;
      touched = subst (λ former. AreTouched former c.args.moved.now now brought.keys) c.as_slice-2.ensures.value brought.touched;
      starts =
          λ table style keeps key.
          brought.starts table style keeps key
          ∙ ap (λ held. after_exchange (told_entries (document_starts table style c.args.arena.now.tree) now brought.keys) (get held) key)
          (ap (λ slots. slots.held) c.exchange.ensures.starts ∙ c.reserve.ensures.starts);
    }

pub returns-in-Ok-clause-back : goal.returns-in-Ok-clause-back
returns-in-Ok-clause-back c =
    let deeds = c.args.deeds in
    let after = c.exchange.new.entries in
    let was = c.args.index.now in
    let now = c.bring_starts.new.index in
    let brought = c.in-Ok.ensures.brought in
    let put = written deeds.len after deeds.items (omega (arith, keys-length after c.as_mut_slice.result.now c.exchange.ensures.keys, ap length c.as_mut_slice.ensures.value, deeds.ok.0)) in
    record {
      deeds =
          λ key.
          ap (λ entries. restored entries (deeds_at now) key) put
          ∙ ap (λ held. unwrap_or (first_at after key) (get held key)) c.bring_starts.ensures.deeds
          ∙ c.exchange.ensures.back key
          ∙ ap (λ held. get held key) c.reserve.ensures.deeds;
      once = brought.once;
      starts = λ key. brought.back key ∙ ap (λ held. get held key) (ap (λ slots. slots.held) c.exchange.ensures.starts ∙ c.reserve.ensures.starts);
      deeds_room =
          subst (λ (entries : List (ℕ × Option CounterDeeds)). HasRoomFor now.deeds.room entries) (sym put)
          (room-grown c.exchange.new.self.deeds.room now.deeds.room after c.exchange.ensures.back_room c.bring_starts.ensures.grown);
      starts_room = brought.room;
    }
