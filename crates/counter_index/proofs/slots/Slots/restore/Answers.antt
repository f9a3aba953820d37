use Rattle.counter_index.proofs.ExchangeLemmas.{exchange_room, restore_held, room_for_reversed}
use Rattle.counter_index.proofs.slots.Slots.restore.Goals as goal

pub exchange_all-requires : goal.exchange_all-requires
exchange_all-requires g c =
    record {
      room =
          room_for_reversed c.self.inside.slots.items c.self.inside.slots.items c.args.self.now c.self.view_is
          c.args.former.now c.reverse.new.self c.reverse.ensures.after c.requires.room;
      asking = c.self.invariant;
    }

pub returns-clause-held : goal.returns-clause-held
returns-clause-held g c =
    restore_held c.self.inside.slots.items c.exchange_all.new.slots.items c.args.self.now c.self.view_is
    c.args.former.now c.reverse.new.self c.reverse.ensures.after c.exchange_all.ensures.slots c.requires.room

pub returns-clause-room : goal.returns-clause-room
returns-clause-room g c =
    exchange_room c.self.inside.slots.items c.exchange_all.new.slots.items c.args.self.now c.self.view_is
    c.reverse.new.self c.exchange_all.ensures.slots
