use Rattle.std.proofs.Common.{◌≤◌, subst}
use Rattle.target_index.specs.declared.change.Relation.TheVariants.{Holder, Reference}
use Rattle.target_index.specs.Changes.{added_ids}
use Rattle.target_index.specs.Pairs.{room_of}
use Rattle.target_index.proofs.ReservedLemmas.{room_after}
use Rattle.target_index.proofs.index.Index.reserve_for.Goals as goal

pub returns-clause-reserved : goal.returns-clause-reserved
returns-clause-reserved c = record {
  holders = λ id. subst (λ n. n ≤ room_of c.reserve_all.new.self id) (c.in_ok-held.ensures.counts id) (c.in_ok-reserve_all.ensures.room id);
  references = λ id. subst (λ n. n ≤ room_of c.reserve_all-2.new.self id) (c.in_ok-referred.ensures.counts id) (c.in_ok-reserve_all-2.ensures.room id);
}

pub returns-clause-stay : goal.returns-clause-stay
returns-clause-stay c before there = record {
  holders = room_after c.args.self.now.holders c.reserve_all.new.self (added_ids Holder before) c.reserve_all.ensures.kept there.holders;
  references = room_after c.args.self.now.references c.reserve_all-2.new.self (added_ids Reference before) c.reserve_all-2.ensures.kept there.references;
}

pub returns-in_err-reserve_all-clause-stay : goal.returns-in_err-reserve_all-clause-stay
returns-in_err-reserve_all-clause-stay c before there = record {
  holders = room_after c.args.self.now.holders c.reserve_all.new.self (added_ids Holder before) c.reserve_all.ensures.kept there.holders;
  references = there.references;
}

pub returns-in_err-reserve_all-2-clause-stay : goal.returns-in_err-reserve_all-2-clause-stay
returns-in_err-reserve_all-2-clause-stay c before there = record {
  holders = room_after c.args.self.now.holders c.reserve_all.new.self (added_ids Holder before) c.reserve_all.ensures.kept there.holders;
  references = room_after c.args.self.now.references c.reserve_all-2.new.self (added_ids Reference before) c.reserve_all-2.ensures.kept there.references;
}
