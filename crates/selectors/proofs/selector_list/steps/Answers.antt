use Rattle.reading.proofs.Following.{takes_shorter}
use Rattle.selectors.specs.Selectors.{step_at}
use Rattle.selectors.proofs.Shortening.{step_takes}
use Rattle.selectors.proofs.Stepping.{Leads-start, Leads-more, Leads-read, same_sequence}
use Rattle.selectors.proofs.selector_list.steps.Goals as goal

pub pieces-init : goal.pieces-init
pieces-init c = Leads-start c.args.text.now c.args.first c.args.tokens.now _ _ _ c.new-compounds.ensures.empty c.in_ok-push.ensures.ok c.new-joins.ensures.empty

pub pieces-smaller : goal.pieces-smaller
pieces-smaller c = let gives = rw c.in-Some.is at c.in_ok-join.ensures in takes_shorter (step_at c.args.text.now) (step_takes c.args.text.now) _ _ gives

pub pieces-preserved : goal.pieces-preserved
pieces-preserved c = let gives = rw c.in-Some.is at c.in_ok-join.ensures in Leads-more c.args.text.now c.args.first c.args.tokens.now _ _ _ _ _ c.in-Some.join c.in-Some.compound _ c.pieces.invariant gives c.in_ok-push-2.ensures.ok c.in_ok-push-3.ensures.ok

pub returns-clause-all : goal.returns-clause-all
returns-clause-all c = let gives = rw c.in_default.is at c.in_ok-join.ensures in let read = Leads-read c.args.text.now c.args.first c.args.tokens.now _ _ _ c.pieces.invariant gives in same_sequence _ _ _ _ read.0 read.1

pub returns-clause-rest : goal.returns-clause-rest
returns-clause-rest c = let gives = rw c.in_default.is at c.in_ok-join.ensures in (Leads-read c.args.text.now c.args.first c.args.tokens.now _ _ _ c.pieces.invariant gives).2
