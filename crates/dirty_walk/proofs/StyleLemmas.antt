-- What a document's sheet and style elements say, read part by part.
use Rattle.std.proofs.Common.{◌≡◌, ◌<◌, ◌+◌, ◌∙◌, ℕ, Bool, true, false, not, List, ◌∷◌, length, get_or, take, encode_utf8_all, refl, sym, ap, arith}
use Rattle.std.specs.Str.{bytes_eq}
use Rattle.std.proofs.lemmas.List.{take_more_same}
use Rattle.std.proofs.lemmas.Slice.Eq.{bytes_eq-Decides}
use Rattle.std.proofs.lemmas.Str.{encodes_same}
use Rattle.plain_types.specs.declared.counter_style.CounterStyle.{CounterStyle}
use Rattle.plain_types.specs.declared.sheet.Features.{Features}
use Rattle.plain_types.specs.declared.sheet.Sheet.{Sheet}
use Rattle.css_reader.specs.Features.{features}
use Rattle.css_reader.specs.Sheets.{sheets}
use Rattle.generated_texts.specs.Documents.{counter_styles}
use Rattle.dirty_walk.specs.declared.document_styles.DocumentStyles.{DocumentStyles}
use Rattle.dirty_walk.specs.DocumentStyles.{read_styles}

module _ (sheet_text : List ℕ) (texts : List (List ℕ)) where
  abbrev parts : Sheet → Features → List CounterStyle → DocumentStyles
  parts author found table = record { sheet = sheet_text; texts = texts; author = author; features = found; table = table }

  pub are_read : (author : Sheet) (found : Features) (table : List CounterStyle) → author ≡ sheets (sheet_text ∷ texts) → found ≡ features author → table ≡ counter_styles author
      → parts author found table ≡ read_styles sheet_text texts
  unfolding read_styles
  are_read author found table is_author is_found is_table =
      ap (λ t. parts author found t) is_table
      ∙ ap (λ f. parts author f (counter_styles author)) is_found
      ∙ ap (λ a. parts a (features a) (counter_styles a)) is_author

same_from : (test : Bool) → not test ≡ false → test ≡ true
same_from true is = refl
same_from false is = cc

-- texts are the same up to a place, and at it
pub one_more : (texts others : List (List ℕ)) (place : ℕ) (text other written other_written : List ℕ) (differ : Bool)
    → place < length texts → length texts ≡ length others → take place texts ≡ take place others
    → text ≡ get_or texts place text → other ≡ get_or others place other
    → written ≡ encode_utf8_all text → other_written ≡ encode_utf8_all other → differ ≡ not (bytes_eq written other_written) → differ ≡ false
    → take (place + 1) texts ≡ take (place + 1) others
one_more texts others place text other written other_written differ within lengths before is other_is is_written other_is_written test alike =
    let bytes : written ≡ other_written = (bytes_eq-Decides written other_written).0 (same_from (bytes_eq written other_written) (sym test ∙ alike)) in
    let same : text ≡ other = encodes_same text other (sym is_written ∙ bytes ∙ other_is_written) in
    take_more_same texts others place text within (omega (arith, within, lengths)) before
    (sym is ∙ same ∙ other_is ∙ ap (get_or others place) (sym same))
