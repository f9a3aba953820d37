use Rattle.styled_merge.proofs.LawLemmas.{kept_are_outside, kept_are_untouched}
use Rattle.styled_merge.proofs.laws.kept_elements_are_untouched.Goals as goal

pub returns : goal.returns
returns c = record { untouched = kept_are_untouched; outside = kept_are_outside }
