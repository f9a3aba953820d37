use Rattle.std.proofs.Common.{refl, ◌∙◌}
use Rattle.selectors.proofs.Adding.{Adds-start, Adds-more, Adds-read}
use Rattle.selectors.proofs.Shortening.{after_selector_shorter}
use Rattle.selectors.proofs.selector_list.with_others.Goals as goal

pub pieces-init : goal.pieces-init
pieces-init c = Adds-start _ _ _ _ (c.in_ok-push.ensures.ok ∙ rw c.new-selectors.ensures.empty refl)

pub pieces-smaller : goal.pieces-smaller
pieces-smaller c = let gives = rw c.in-Some.is at c.in_ok-selector.ensures in after_selector_shorter c.args.text.now _ _ gives

pub pieces-preserved : goal.pieces-preserved
pieces-preserved c = let gives = rw c.in-Some.is at c.in_ok-selector.ensures in Adds-more _ _ _ _ _ _ c.in-Some.selector _ c.pieces.invariant gives c.in_ok-push-2.ensures.ok

pub returns-clause-all : goal.returns-clause-all
returns-clause-all c = let gives = rw c.in_default.is at c.in_ok-selector.ensures in (Adds-read _ _ _ (after_selector_shorter c.args.text.now) _ _ c.pieces.invariant gives).0

pub returns-clause-rest : goal.returns-clause-rest
returns-clause-rest c = let gives = rw c.in_default.is at c.in_ok-selector.ensures in (Adds-read _ _ _ (after_selector_shorter c.args.text.now) _ _ c.pieces.invariant gives).1
