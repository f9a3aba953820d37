use Rattle.kept_elements.proofs.PaidLemmas.{news_are_paid, renewal_is_paid}
use Rattle.kept_elements.proofs.laws.work_pays_for_renewals.Goals as goal

pub returns : goal.returns
returns c = record { paid = renewal_is_paid; news = news_are_paid }
