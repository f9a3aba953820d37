use Rattle.std.proofs.Common.{◌≡◌, ◌∷◌, ◌∙◌, ℕ, List, IfOk, ap, subst, take_all}
use Rattle.css_reader.specs.Sheets.{sheets}
use Rattle.dirty_walk.proofs.document_styles.author_sheet.Goals as goal

pub returns : goal.returns
returns c = record {
  sheet = subst (λ (all : List (List ℕ)). IfOk c.read_sheets.result (λ found. found ≡ sheets all))
      (c.as_slice.ensures.items ∙ c.loop-text.invariant ∙ ap (λ texts. c.args.sheet.now ∷ texts) (take_all c.loop-text.text-index c.args.texts.now c.loop-text-test.false))
      c.read_sheets.ensures.sheet;
}
