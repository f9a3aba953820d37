use Rattle.selector_match.proofs.OutcomeLaws.{outcome-more}
use Rattle.selector_match.proofs.outcomes.PartOutcomes.keep.Goals as goal

pub returns : goal.returns
returns c = record {
  right = λ tree right is. outcome-more tree c.args.self.now.part.selector c.args.self.now.part.place c.args.self.now.by_key.entries c.insert.new.self.entries c.args.key c.args.outcome c.in_ok-insert.ensures.updates.0 right is;
}
