use Rattle.generated_texts.proofs.BoxesOfAll.{each_has_box}
use Rattle.generated_texts.proofs.laws.elements_have_boxes.Goals as goal

pub returns : goal.returns
returns c = record { boxes = each_has_box }
