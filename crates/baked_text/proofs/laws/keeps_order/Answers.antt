use Rattle.baked_text.proofs.ShownLaws.{order_kept}
use Rattle.baked_text.proofs.laws.keeps_order.Goals as goal

pub returns : goal.returns
returns c = λ document. order_kept document
