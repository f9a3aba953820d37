use Rattle.std.proofs.Common.{false}
use Rattle.std.specs.String.{string_bytes}
use Rattle.std.proofs.lemmas.Str.{IsUtf8-string_bytes}
use Rattle.target_index.proofs.WriteLemmas.{no_pair, pair_is, room_stays}
use Rattle.target_index.proofs.pairs.Pairs.remove.Goals as goal

pub returns-in_default-clause-pair : goal.returns-in_default-clause-pair
returns-in_default-clause-pair c =
    rw (← c.self.view_is, c.get_mut.follows.holds-at-none) (no_pair string_bytes IsUtf8-string_bytes c.args.id.now c.utf8.id c.self.inside.by_id.entries c.in_default.ensures.value c.args.key)

pub returns-clause-pair : goal.returns-clause-pair
returns-clause-pair c =
    rw (← c.self.view_is) (pair_is string_bytes IsUtf8-string_bytes c.args.id.now c.utf8.id c.self.inside.by_id.entries c.in-Some.keys.now c.in-Some.ensures.value _ c.swap_remove.new.self (c.get_mut.follows.holds c.swap_remove.new.self).0 c.args.key false c.swap_remove.ensures.updates.0)

pub returns-clause-room : goal.returns-clause-room
returns-clause-room c =
    rw (← c.self.view_is) (room_stays string_bytes IsUtf8-string_bytes c.args.id.now c.utf8.id c.self.inside.by_id.entries c.in-Some.keys.now c.in-Some.ensures.value _ c.swap_remove.new.self (c.get_mut.follows.holds c.swap_remove.new.self).0 c.swap_remove.ensures.room.0)
