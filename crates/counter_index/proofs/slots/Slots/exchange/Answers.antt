use Rattle.counter_index.proofs.ExchangeLemmas.{exchange_back, exchange_back_room, exchange_held, exchange_keys, exchange_room, room_for}
use Rattle.counter_index.proofs.slots.Slots.exchange.Goals as goal

pub exchange_all-requires : goal.exchange_all-requires
exchange_all-requires g c =
    record {
      room = room_for c.self.inside.slots.items c.self.inside.slots.items c.args.self.now c.self.view_is c.args.entries.now c.requires.room;
      asking = c.self.invariant;
    }

pub returns-clause-held : goal.returns-clause-held
returns-clause-held g c =
    exchange_held c.self.inside.slots.items c.exchange_all.new.slots.items c.args.self.now c.self.view_is
    c.args.entries.now c.exchange_all.ensures.slots c.requires.room

pub returns-clause-back : goal.returns-clause-back
returns-clause-back g c =
    exchange_back c.self.inside.slots.items c.exchange_all.new.slots.items c.args.self.now c.self.view_is
    c.args.entries.now c.exchange_all.ensures.slots c.exchange_all.new.entries c.exchange_all.ensures.entries c.requires.room

pub returns-clause-keys : goal.returns-clause-keys
returns-clause-keys g c =
    exchange_keys c.self.inside.slots.items c.exchange_all.new.slots.items c.args.self.now c.self.view_is
    c.args.entries.now c.exchange_all.ensures.slots c.exchange_all.new.entries c.exchange_all.ensures.entries

pub returns-clause-room : goal.returns-clause-room
returns-clause-room g c =
    exchange_room c.self.inside.slots.items c.exchange_all.new.slots.items c.args.self.now c.self.view_is
    c.args.entries.now c.exchange_all.ensures.slots

pub returns-clause-back_room : goal.returns-clause-back_room
returns-clause-back_room g c =
    exchange_back_room c.self.inside.slots.items c.exchange_all.new.slots.items c.args.self.now c.self.view_is
    c.args.entries.now c.exchange_all.ensures.slots c.exchange_all.new.entries c.exchange_all.ensures.entries
