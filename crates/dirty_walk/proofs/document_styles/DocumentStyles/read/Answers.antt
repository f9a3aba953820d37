use Rattle.std.proofs.Common.{◌∙◌, ◌∷◌, ap, sym}
use Rattle.css_reader.specs.Features.{features}
use Rattle.css_reader.specs.Sheets.{sheets}
use Rattle.generated_texts.specs.Documents.{counter_styles}
use Rattle.dirty_walk.proofs.StyleLemmas.{are_read}
use Rattle.dirty_walk.proofs.document_styles.DocumentStyles.read.Goals as goal

pub returns : goal.returns
returns c = record {
  styles = are_read c.args.sheet c.args.texts c.in_ok-rules.rules c.features-features.result c.in_ok-table.table
      (c.in_ok-rules.ensures.sheet ∙ c.in_ok-author.ensures.sheet ∙ ap (λ texts. sheets (c.args.sheet ∷ texts)) c.as_slice.ensures.items)
      (c.features-features.ensures.features ∙ ap features (sym c.in_ok-rules.ensures.sheet)) (c.in_ok-table.ensures.styles ∙ ap counter_styles (sym c.in_ok-rules.ensures.sheet));
}
