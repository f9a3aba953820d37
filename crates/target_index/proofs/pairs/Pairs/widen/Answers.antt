use Rattle.std.proofs.Common.{◌≤◌, subst, sym}
use Rattle.std.specs.Str.{chars}
use Rattle.std.specs.String.{string_bytes}
use Rattle.target_index.specs.Pairs.{IsEntered}
use Rattle.std.proofs.lemmas.Str.{IsUtf8-string_bytes}
use Rattle.target_index.proofs.WriteLemmas.{has_room, keys_stay, not_entered, room_stays}
use Rattle.target_index.proofs.pairs.Pairs.widen.Goals as goal

pub returns-in_err-reserve-clause-keys : goal.returns-in_err-reserve-clause-keys
returns-in_err-reserve-clause-keys c =
    rw (← c.self.view_is) (keys_stay string_bytes IsUtf8-string_bytes c.args.id.now c.utf8.id c.self.inside.by_id.entries c.in-Some.keys.now c.in-Some.ensures.value _ c.reserve.new.self (c.get_mut.follows.holds c.reserve.new.self).0 c.in_err-reserve.ensures.keys)

pub returns-in_err-reserve-clause-kept : goal.returns-in_err-reserve-clause-kept
returns-in_err-reserve-clause-kept c =
    rw (← c.self.view_is) (room_stays string_bytes IsUtf8-string_bytes c.args.id.now c.utf8.id c.self.inside.by_id.entries c.in-Some.keys.now c.in-Some.ensures.value _ c.reserve.new.self (c.get_mut.follows.holds c.reserve.new.self).0 c.in_err-reserve.ensures.room.0)

pub returns-clause-keys : goal.returns-clause-keys
returns-clause-keys c =
    rw (← c.self.view_is) (keys_stay string_bytes IsUtf8-string_bytes c.args.id.now c.utf8.id c.self.inside.by_id.entries c.in-Some.keys.now c.in-Some.ensures.value _ c.reserve.new.self (c.get_mut.follows.holds c.reserve.new.self).0 c.in_ok-reserve.ensures.keys)

pub returns-clause-kept : goal.returns-clause-kept
returns-clause-kept c =
    rw (← c.self.view_is) (room_stays string_bytes IsUtf8-string_bytes c.args.id.now c.utf8.id c.self.inside.by_id.entries c.in-Some.keys.now c.in-Some.ensures.value _ c.reserve.new.self (c.get_mut.follows.holds c.reserve.new.self).0 c.in_ok-reserve.ensures.room.0)

pub returns-in_default-clause-room : goal.returns-in_default-clause-room
returns-in_default-clause-room c =
    absurd (not_entered string_bytes IsUtf8-string_bytes c.args.id.now c.utf8.id c.self.inside.by_id.entries c.in_default.ensures.value (subst (λ pairs. IsEntered pairs (chars c.args.id.now)) (sym c.self.view_is) c.requires.entered))

pub returns-clause-room : goal.returns-clause-room
returns-clause-room c =
    subst (λ n. c.args.additional ≤ n) (sym (has_room string_bytes IsUtf8-string_bytes c.args.id.now c.utf8.id c.self.inside.by_id.entries c.in-Some.keys.now c.in-Some.ensures.value _ c.reserve.new.self (c.get_mut.follows.holds c.reserve.new.self).0)) c.in_ok-reserve.ensures.ok
