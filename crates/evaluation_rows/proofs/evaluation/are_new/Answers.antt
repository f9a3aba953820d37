use Rattle.std.proofs.Common.{◌∙◌, sym}
use Rattle.evaluation_rows.proofs.NewBoxes.{none_of}
use Rattle.evaluation_rows.proofs.evaluation.are_new.Goals as goal

pub returns-then-has_none_of : goal.returns-then-has_none_of
returns-then-has_none_of c = λ yes.
    record {
      parent = none_of c.args.boxes.now c.args.inputs.now.parent (sym c.has_none_of.ensures ∙ c.if-has_none_of.true);
      sibling = rw c.in-Some.is (none_of c.args.boxes.now c.in-Some.set (sym c.has_none_of-then-has_none_of.ensures ∙ yes));
    }

pub returns-in-None : goal.returns-in-None
returns-in-None c = λ yes.
    record {
      parent = none_of c.args.boxes.now c.args.inputs.now.parent (sym c.has_none_of-in-None.ensures ∙ yes);
      sibling = rw c.in-None.is tt;
    }
