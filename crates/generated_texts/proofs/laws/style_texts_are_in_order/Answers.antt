use Rattle.generated_texts.proofs.StyleTexts.{style_texts-by_keys}
use Rattle.generated_texts.proofs.laws.style_texts_are_in_order.Goals as goal

pub returns : goal.returns
returns c = record { keys = style_texts-by_keys }
