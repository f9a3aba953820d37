use Rattle.std.proofs.Common.{◌∙◌, ◌&&◌, not, sym, ap}
use Rattle.std.specs.List.{list_any}
use Rattle.std.specs.Str.{chars}
use Rattle.box_eval.specs.Properties.{is_for, list_item}
use Rattle.box_eval.proofs.counting.has_implicit_step.Goals as goal

pub returns-then-is_item : goal.returns-then-is_item
unfolding chars
returns-then-is_item c = record {
  test = ap not c.is_named_in.ensures.test ∙ sym (ap (λ is_item. is_item && not (list_any (is_for list_item) c.args.increments.now)) c.if-is_item.true);
}
