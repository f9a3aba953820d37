use Rattle.std.proofs.Common.{refl}
use Rattle.content_eval.proofs.laws.no_reference_is_circular.Goals as goal

pub returns : goal.returns
returns c = record {
  flat = λ table pieces known flat. refl;
}
