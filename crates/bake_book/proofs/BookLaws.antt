-- The tags of a book's document that are to come.
use Rattle.std.proofs.Common.{◌≡◌, ◌==◌, ◌+◌, ◌*◌, ℕ, true, List, [], ◌∷◌, Option, Some, None, length, refl, sym, ap, subst, ◌∙◌, arith, length-append}
use Rattle.std.proofs.lemmas.Bool.{eqb-true}
use Rattle.std.proofs.lemmas.Str.{chars-nil}
use Rattle.std.specs.Prelude.{IfSome, is_some, if◌then◌else◌}
use Rattle.std.specs.Str.{chars}
use Rattle.bake_definitions.specs.Insertions.{Insertion}
use Rattle.bake_definitions.specs.Tags.{Tag, next_tag, tag, tags_of, tags_round}
use Rattle.bake_book.specs.Dressing.{dressed_trees, first_insertions, last_insertions}
use Rattle.bake_book.specs.Machinery.{IsAt, IsKept, TagsToCome, dressed_left, tags_to_come}
use Rattle.bake_book.specs.declared.book_tags.NextTag.{NextTag}
use Rattle.bake_book.specs.declared.tag_walk.TagWalk.{TagWalk}
use Rattle.dirty_walk.specs.Books.{StyledDocument}
use Rattle.document_walk.specs.Elements.{element_count, one_where}
use Rattle.forest.specs.Forest.{Forest, Empty, Tree}
use Rattle.forest.specs.Keys.{Keyed, without_keys}
use Rattle.generated_texts.specs.declared.entry.NodeEntry.{NodeEntry}
use Rattle.node_arena.specs.Nodes.{node_name}
use Rattle.plain_types.specs.declared.node.Node.{Node}
use Rattle.plain_types.specs.declared.node.Node.TheVariants.{Element, Text}

-- an element has two tags, a text none
tags_at : (node : Node) (first last : List Insertion) (inside : List Tag) (count : ℕ) → length inside ≡ 2 * count → length (tags_round node first last inside) ≡ 2 * (one_where (is_some (node_name node)) + count)
tags_at (Text characters) first last inside count is = omega (arith, is)
tags_at (Element name attrs) first last inside count is = let all = length-append inside (tag name last ∷ []) in omega (arith, all, is)

pub tags_counted : (entry_of : ℕ → Option NodeEntry) (trees : Forest (Keyed Node)) → length (tags_of (dressed_trees entry_of trees)) ≡ 2 * element_count (without_keys trees)
tags_counted entry_of Empty = refl
tags_counted entry_of (Tree node children after) =
    let first = first_insertions (entry_of node.key) in
    let last = last_insertions (entry_of node.key) in
    let inside = tags_of (dressed_trees entry_of children) in
    let here = tags_at node.label first last inside (element_count (without_keys children)) (tags_counted entry_of children) in
    let rest = tags_counted entry_of after in
    let all = length-append (tags_round node.label first last inside) (tags_of (dressed_trees entry_of after)) in
    omega (arith, all, here, rest)

pub no_text : (bytes text : List ℕ) → chars bytes ≡ text → (length bytes == 0) ≡ true → [] ≡ text
no_text [] text is none = sym chars-nil ∙ is
no_text (b ∷ bytes) text is none = let long = eqb-true (length (b ∷ bytes)) 0 none in absurd (omega arith)

module _ (book : StyledDocument) (next : Option NextTag) (walk : TagWalk) (at : IsAt book next walk) (tags : TagsToCome) (told : tags_to_come book next walk ≡ tags) where
  pub none_left : next ≡ None → dressed_left tags ≡ []
  unfolding dressed_left
  none_left none = ap dressed_left (sym told) ∙ rw (none, at.end none) refl

  -- what is put in at the next tag, by what is kept of its element
  pub insertions_next : (n : NextTag) → next ≡ Some n → (next_tag (dressed_left tags)).insertions ≡ (if n.tag.is_end then last_insertions (Some n.entry.now) else first_insertions (Some n.entry.now))
  unfolding dressed_left
  insertions_next n is =
      let kept = subst (λ o. IfSome o (IsKept book)) is at.kept in
      ap (λ (tags : TagsToCome). (next_tag (dressed_left tags)).insertions) (sym told)
      ∙ rw is (ap (λ o. if n.tag.is_end then last_insertions o else first_insertions o) (sym kept.entry))
