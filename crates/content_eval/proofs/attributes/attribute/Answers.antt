use Rattle.std.proofs.Common.{ap, sym, ◌∙◌}
use Rattle.std.proofs.lemmas.List.{drop_all}
use Rattle.std.specs.Str.{chars}
use Rattle.content_eval.specs.Contents.{attribute}
use Rattle.content_eval.proofs.attributes.attribute.Goals as goal

pub returns : goal.returns
unfolding chars
returns c = record {
  value = sym (ap (λ attrs. attribute attrs (chars c.args.name.now)) (drop_all c.loop-attr.attr-index c.args.attrs.now c.loop-attr-test.false)) ∙ c.loop-attr.invariant;
}
