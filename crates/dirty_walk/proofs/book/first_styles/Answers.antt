use Rattle.std.proofs.Common.{◌∙◌, ap₂}
use Rattle.std.proofs.lemmas.Result.{IfOk-weaker}
use Rattle.dirty_walk.specs.DocumentStyles.{read_styles}
use Rattle.dirty_walk.proofs.book.first_styles.Goals as goal

pub returns : goal.returns
returns c = record {
  styles = IfOk-weaker c.read.result _ _ (λ styles told. told ∙ ap₂ read_styles c.in_ok-sheet.ensures.characters c.in_ok-texts.ensures.texts) c.read.ensures.styles;
}
