use Rattle.same_texts.proofs.SameLines.{sheet_same, texts_same}
use Rattle.same_texts.proofs.SameStyles.{style_same}
use Rattle.same_texts.proofs.laws.same_documents_are_styled_alike.Goals as goal

pub returns : goal.returns
returns c = record { elements = texts_same; sheets = sheet_same; styles = λ document other same author. style_same author document other same }
