use Rattle.std.proofs.Common.{◌<◌, ◌≤◌, ◌+◌, ℕ, List, [], ◌∷◌, cond, subst, sym}
use Rattle.std.specs.Str.{bytes_eq}
use Rattle.target_index.specs.declared.change.Relation.TheVariants.{Holder, Reference}
use Rattle.target_index.specs.Changes.{AreReserved, added_ids}
use Rattle.target_index.specs.Pairs.{room_of}
use Rattle.target_index.proofs.ReservedLemmas.{room_after, room_after_insert, room_first}
use Rattle.target_index.proofs.index.Index.apply.Goals as goal

pub insert-requires : goal.insert-requires
insert-requires c =
    let reserved = subst (λ change. AreReserved c.args.self.now (change ∷ [])) c.in-Hold.is c.requires.reserved in
    record {
      room = subst (λ id. 0 < room_of c.args.self.now.holders id) (sym c.as_str.ensures.characters) (room_first c.args.self.now.holders c.in-Hold.id [] reserved.holders);
    }

pub insert-requires-in-Refer : goal.insert-requires-in-Refer
insert-requires-in-Refer c =
    let reserved = subst (λ change. AreReserved c.args.self.now (change ∷ [])) c.in-Refer.is c.requires.reserved in
    record {
      room = subst (λ id. 0 < room_of c.args.self.now.references id) (sym c.as_str-in-Refer.ensures.characters) (room_first c.args.self.now.references c.in-Refer.id [] reserved.references);
    }

pub returns-in-Hold-clause-reserved : goal.returns-in-Hold-clause-reserved
returns-in-Hold-clause-reserved c changes h =
    let reserved = subst (λ change. AreReserved c.args.self.now (change ∷ changes)) c.in-Hold.is h in
    record {
      holders = room_after_insert c.args.self.now.holders c.insert.new.self (added_ids Holder changes) c.in-Hold.id (subst (λ id. (other : List ℕ) → room_of c.args.self.now.holders other ≤ room_of c.insert.new.self other + cond (bytes_eq other id) 1 0) c.as_str.ensures.characters c.insert.ensures.room) reserved.holders;
      references = reserved.references;
    }

pub returns-in-Unhold-clause-reserved : goal.returns-in-Unhold-clause-reserved
returns-in-Unhold-clause-reserved c changes h =
    let reserved = subst (λ change. AreReserved c.args.self.now (change ∷ changes)) c.in-Unhold.is h in
    record {
      holders = room_after c.args.self.now.holders c.remove.new.self (added_ids Holder changes) c.remove.ensures.room reserved.holders;
      references = reserved.references;
    }

pub returns-in-Refer-clause-reserved : goal.returns-in-Refer-clause-reserved
returns-in-Refer-clause-reserved c changes h =
    let reserved = subst (λ change. AreReserved c.args.self.now (change ∷ changes)) c.in-Refer.is h in
    record {
      holders = reserved.holders;
      references = room_after_insert c.args.self.now.references c.insert-in-Refer.new.self (added_ids Reference changes) c.in-Refer.id (subst (λ id. (other : List ℕ) → room_of c.args.self.now.references other ≤ room_of c.insert-in-Refer.new.self other + cond (bytes_eq other id) 1 0) c.as_str-in-Refer.ensures.characters c.insert-in-Refer.ensures.room) reserved.references;
    }

pub returns-in-Unrefer-clause-reserved : goal.returns-in-Unrefer-clause-reserved
returns-in-Unrefer-clause-reserved c changes h =
    let reserved = subst (λ change. AreReserved c.args.self.now (change ∷ changes)) c.in-Unrefer.is h in
    record {
      holders = reserved.holders;
      references = room_after c.args.self.now.references c.remove-in-Unrefer.new.self (added_ids Reference changes) c.remove-in-Unrefer.ensures.room reserved.references;
    }
