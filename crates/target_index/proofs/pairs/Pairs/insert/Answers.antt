use Rattle.std.proofs.Common.{◌<◌, nat_eq, true, OnOk, subst, sym, arith}
use Rattle.std.specs.Str.{chars}
use Rattle.std.specs.String.{string_bytes}
use Rattle.std.proofs.lemmas.Str.{IsUtf8-string_bytes}
use Rattle.indexmap.specs.IndexSet.{Updates}
use Rattle.target_index.specs.Pairs.{room_of}
use Rattle.target_index.proofs.WriteLemmas.{had_room, no_room, pair_is, room_falls}
use Rattle.target_index.proofs.pairs.Pairs.insert.Goals as goal

pub returns-in_default-clause-pair : goal.returns-in_default-clause-pair
returns-in_default-clause-pair c =
    absurd (let none : 0 < 0 = (subst (λ n. 0 < n) (no_room string_bytes IsUtf8-string_bytes c.args.id.now c.utf8.id c.self.inside.by_id.entries c.in_default.ensures.value) (subst (λ pairs. 0 < room_of pairs (chars c.args.id.now)) (sym c.self.view_is) c.requires.room)) in omega (arith, none))

pub unwrap-requires : goal.unwrap-requires
unwrap-requires c =
    c.insert.ensures.succeeds (subst (λ n. 0 < n) (had_room string_bytes IsUtf8-string_bytes c.args.id.now c.utf8.id c.self.inside.by_id.entries c.in-Some.keys.now c.in-Some.ensures.value) (subst (λ pairs. 0 < room_of pairs (chars c.args.id.now)) (sym c.self.view_is) c.requires.room))

pub returns-clause-pair : goal.returns-clause-pair
returns-clause-pair c =
    rw (← c.self.view_is) (pair_is string_bytes IsUtf8-string_bytes c.args.id.now c.utf8.id c.self.inside.by_id.entries c.in-Some.keys.now c.in-Some.ensures.value _ c.insert.new.self (c.get_mut.follows.holds c.insert.new.self).0 c.args.key true (subst (λ r. OnOk r (Updates nat_eq c.in-Some.keys.now c.insert.new.self c.args.key true)) c.unwrap.ensures c.insert.ensures.updates).0)

pub returns-clause-room : goal.returns-clause-room
returns-clause-room c =
    rw (← c.self.view_is) (room_falls string_bytes IsUtf8-string_bytes c.args.id.now c.utf8.id c.self.inside.by_id.entries c.in-Some.keys.now c.in-Some.ensures.value _ c.insert.new.self (c.get_mut.follows.holds c.insert.new.self).0 c.insert.ensures.spare)
