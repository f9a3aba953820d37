use Rattle.std.proofs.Common.{◌≡◌, ◌∙◌, true, ap, refl}
use Rattle.dirty_walk.specs.Books.{StyledDocument}
use Rattle.dirty_walk.specs.Plans.{settled_after}
use Rattle.dirty_walk.specs.declared.plan.Plan.{Plan}
use Rattle.engine_rows.proofs.books.edit_book.Goals as goal

-- a plan that is committed leaves a settled book
is_settled : (book : StyledDocument) (plan : Plan) → (settled_after book plan).settled ≡ true
unfolding settled_after
is_settled book plan = refl

pub returns-in_ok-plan : goal.returns-in_ok-plan
returns-in_ok-plan g c = ap (λ (book : StyledDocument). book.settled) c.commit.ensures.settled ∙ is_settled _ _
