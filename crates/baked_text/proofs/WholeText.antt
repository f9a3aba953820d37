-- A text with its mark, and what its document's tags have put in.
use Rattle.std.proofs.Common.{◌≡◌, ℕ, List, ◌++◌, Option, length, sym, ap, subst, ◌∙◌, encode_utf8_all}
use Rattle.std.proofs.lemmas.List.{append_cancel_right}
use Rattle.bake_definitions.specs.Baked.{Annotated, without_insertions}
use Rattle.bake_definitions.specs.Pieces.{IsMadeOf, Piece, characters_of, items_of, mark_of}
use Rattle.bake_definitions.specs.Places.{left_out, placed}
use Rattle.bake_definitions.specs.Tags.{Tag, tags_of}
use Rattle.bake_definitions.specs.Woven.{IsBaked, woven}
use Rattle.baked_text.proofs.BakedLaws.{are_pieces}
use Rattle.baked_text.proofs.Growing.{mark_parts}
use Rattle.baked_text.proofs.OutLemmas.{stops_first, stops_then, went_then}
use Rattle.baked_text.proofs.SomeBaked.{some_pieces}
use Rattle.baked_text.proofs.TagLaws.{left_out_tags, put_at_tags, tags_counted}
use Rattle.baked_text.specs.Machinery.{IsRead, left_out_on, tags_among, woven_text}
use Rattle.baked_text.specs.Walks.{saturated}
use Rattle.forest.specs.Forest.{Forest}
use Rattle.ports.proofs.GrownLemmas.{front_same}
use Rattle.ports.specs.Grown.{grown, GrowsByFront}
use Rattle.xhtml_reader.proofs.Places.{only_items}
use Rattle.xml_definitions.specs.Items.{ArePieces}
use Rattle.xml_definitions.specs.Normalized.{normalized, with_line_feeds}
use Rattle.reading.specs.Reading.{without_mark}
use Rattle.xml_definitions.specs.Spelling.{Spells}
use Rattle.xml_definitions.specs.Texts.{IsDocumentText}

-- what stands before the rest is the mark
pub mark_found : (text kept : List ℕ) → kept ≡ without_mark text → (front : List ℕ) × (text ≡ front ++ kept)
mark_found text kept is = (mark_of text, mark_parts text ∙ ap (λ t. mark_of text ++ t) (sym is))

pub mark_is : (text front kept : List ℕ) → kept ≡ without_mark text → front ++ kept ≡ text → front ≡ mark_of text
mark_is text front kept is parts = append_cancel_right front (mark_of text) kept (parts ∙ mark_parts text ∙ ap (λ t. mark_of text ++ t) (sym is))

module _ (text kept read : List ℕ) (tree : Forest Annotated) (tags : List Tag) (kept_is : kept ≡ without_mark text) (reads : with_line_feeds kept ≡ read) (begun : tags ≡ tags_of tree) where
  read_pieces : (pieces : List Piece) → IsMadeOf (without_mark text) pieces → IsRead kept read pieces
  read_pieces pieces made = record { made_of = subst (λ t. IsMadeOf t pieces) (sym kept_is) made; read_is = reads }

  baked_parts : (output : List ℕ) → (b : IsBaked text (placed tree) output) → output ≡ mark_of text ++ woven_text b.pieces tags
  baked_parts output b = b.output_is ∙ ap (λ t. mark_of text ++ characters_of (woven b.pieces t)) (sym (put_at_tags tree)) ∙ ap (λ t. mark_of text ++ woven_text b.pieces t) (sym begun)

  pub baked_went : (before middle now : Option (List ℕ)) → middle ≡ grown before (encode_utf8_all (mark_of text)) → ((pieces : List Piece) → IsRead kept read pieces → now ≡ grown middle (encode_utf8_all (woven_text pieces tags)))
      → (output : List ℕ) → IsBaked text (placed tree) output → now ≡ grown before (encode_utf8_all output)
  baked_went before middle now mark grew output b =
      went_then before middle now (mark_of text) (woven_text b.pieces tags) mark (grew b.pieces (read_pieces b.pieces b.made_of)) ∙ ap (λ t. grown before (encode_utf8_all t)) (sym (baked_parts output b))

  pub baked_stops : (before middle now : Option (List ℕ)) → middle ≡ grown before (encode_utf8_all (mark_of text))
      → ((pieces : List Piece) → IsRead kept read pieces → GrowsByFront middle now (encode_utf8_all (woven_text pieces tags)))
      → (output : List ℕ) → IsBaked text (placed tree) output → GrowsByFront before now (encode_utf8_all output)
  baked_stops before middle now mark grows output b =
      front_same (ap encode_utf8_all (sym (baked_parts output b))) (stops_then before middle now (mark_of text) (woven_text b.pieces tags) mark (grows b.pieces (read_pieces b.pieces b.made_of)))

  pub baked_counts : (count : ℕ) → IsDocumentText text (without_insertions tree) → ((pieces : List Piece) → IsRead kept read pieces → length tags ≡ tags_among pieces → count ≡ saturated (left_out_on tags))
      → count ≡ saturated (left_out tree)
  baked_counts count is counts =
      let s = some_pieces is.items (without_mark text) is.spelled in
      let spelled = subst (λ t. ArePieces Spells t (items_of s.pieces)) (sym s.made_of.apart) (are_pieces s.pieces s.made_of.spelled) in
      let items = only_items is.items (items_of s.pieces) (normalized text) is.spelled spelled in
      counts s.pieces (read_pieces s.pieces s.made_of) (ap length begun ∙ tags_counted s.pieces is.items tree items is.allowed)
      ∙ ap saturated (ap left_out_on begun ∙ left_out_tags tree)

-- only the mark was tried
pub mark_stops : (text : List ℕ) (tree : Forest Annotated) (before now : Option (List ℕ)) → GrowsByFront before now (encode_utf8_all (mark_of text)) → (output : List ℕ) → IsBaked text (placed tree) output
    → GrowsByFront before now (encode_utf8_all output)
mark_stops text tree before now grows output b = front_same (ap encode_utf8_all (sym b.output_is)) (stops_first before now (mark_of text) _ grows)
