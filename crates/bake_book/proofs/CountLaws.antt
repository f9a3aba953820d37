-- Each insertion of a document has a place, or is counted as without one.
use Rattle.std.proofs.Common.{◌≡◌, ℕ, ◌+◌, Bool, true, false, cond, List, [], ◌∷◌, ◌++◌, length, sym, ap, ◌∙◌, arith}
use Rattle.std.proofs.lemmas.Grind.{flat_map-append}
use Rattle.std.proofs.lemmas.List.{length-append}
use Rattle.std.specs.List.{flat_map}
use Rattle.bake_definitions.specs.Baked.{Annotated}
use Rattle.bake_definitions.specs.Insertions.{Insertion, takes_span}
use Rattle.bake_definitions.specs.Places.{left_out, placed, with_place, without_place}
use Rattle.bake_definitions.specs.Tags.{Tag, tag, tags_of, tags_round}
use Rattle.bake_book.proofs.LineLaws.{document_told}
use Rattle.bake_book.specs.Dressing.{dressed_document, insertion_of_line, insertions_of}
use Rattle.forest.specs.Forest.{Forest, Empty, Tree}
use Rattle.generated_texts.specs.Laws.{EntriesHaveKeysOfElements}
use Rattle.generated_texts.specs.Lines.{document_lines}
use Rattle.plain_types.specs.declared.node.Node.{Node}
use Rattle.plain_types.specs.declared.node.Node.TheVariants.{Element, Text}

abbrev count : List Tag → ℕ
count tags = length (flat_map (λ (t : Tag). t.insertions) tags)

count-append : (tags others : List Tag) → count (tags ++ others) ≡ count tags + count others
count-append tags others =
    ap length (flat_map-append (λ (t : Tag). t.insertions) tags others) ∙ length-append (flat_map (λ (t : Tag). t.insertions) tags) (flat_map (λ (t : Tag). t.insertions) others)

count_element : (name : List ℕ) (first last : List Insertion) (inside : List Tag) → count (tag name first ∷ (inside ++ tag name last ∷ [])) ≡ length first + (count inside + length last)
count_element name first last inside =
    omega (
      arith,
      length-append first (flat_map (λ (t : Tag). t.insertions) (inside ++ tag name last ∷ [])),
      count-append inside (tag name last ∷ []),
      length-append last (flat_map (λ (t : Tag). t.insertions) []),
    )

round_counts : (node : Node) (first last : List Insertion) (inside others : List Tag) (left : ℕ) → count others + left ≡ count inside
    → count (tags_round node (with_place node first) (with_place node last) others) + ((without_place node first + without_place node last) + left) ≡ count (tags_round node first last inside)
round_counts (Text characters) first last inside others left e = omega (arith, e)
round_counts (Element name attrs) first last inside others left e = go (takes_span name)
  where
    go : (b : Bool) → count (tag name (cond b first []) ∷ (others ++ tag name (cond b last []) ∷ [])) + ((cond b 0 (length first) + cond b 0 (length last)) + left) ≡ count (tag name first ∷ (inside ++ tag name last ∷ []))
    go true = omega (arith, e, count_element name first last others, count_element name first last inside)
    go false = omega (arith, e, count_element name [] [] others, count_element name first last inside)

counts : (document : Forest Annotated) → length (insertions_of (placed document)) + left_out document ≡ length (insertions_of document)
counts Empty = omega arith
counts (Tree a children after) =
    let first = with_place a.node a.first in
    let last = with_place a.node a.last in
    omega (
      arith,
      count-append (tags_round a.node first last (tags_of (placed children))) (tags_of (placed after)),
      count-append (tags_round a.node a.first a.last (tags_of children)) (tags_of after),
      round_counts a.node a.first a.last (tags_of children) (tags_of (placed children)) (left_out children) (counts children),
      counts after,
    )

pub none_is_lost : EntriesHaveKeysOfElements → (sheet_text : List ℕ) (tree : Forest Node)
    → length (flat_map insertion_of_line (document_lines sheet_text tree)) ≡ length (insertions_of (placed (dressed_document sheet_text tree))) + left_out (dressed_document sheet_text tree)
none_is_lost law sheet_text tree = sym (counts (dressed_document sheet_text tree) ∙ ap length (document_told law sheet_text tree))
