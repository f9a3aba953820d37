use Rattle.std.proofs.Common.{◌∙◌, ap₂}
use Rattle.std.proofs.lemmas.Result.{IfOk-weaker}
use Rattle.dirty_walk.specs.DocumentStyles.{read_styles}
use Rattle.dirty_walk.proofs.planning.renewed_styles.Goals as goal

pub returns : goal.returns
returns c = record {
  styles = IfOk-weaker c.renewed.result _ _
      (λ new told. told ∙ ap₂ read_styles (c.in_ok-sheet.ensures.sheet c.args.styles.now.sheet) c.in_ok-texts.ensures.texts)
      c.renewed.ensures.styles;
}
