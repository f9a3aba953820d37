use Rattle.std.proofs.Common.{◌≡◌, drop}
use Rattle.std.specs.Str.{chars}
use Rattle.content_eval.specs.Contents.{attribute}
use Rattle.content_eval.proofs.attributes.attribute.Given as goal

abbrev pub invariant-loop-attr : goal.invariant-loop-attr
invariant-loop-attr l = attribute (drop l.attr-index l.attrs) (chars l.name) ≡ attribute l.attrs (chars l.name)
