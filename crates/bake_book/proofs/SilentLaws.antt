-- Under a silent sheet nothing is put into a document.
use Rattle.std.proofs.Common.{◌≡◌, ℕ, ◌==◌, ◌&&◌, ◌++◌, Bool, true, false, if◌then◌else◌, List, [], Option, Some, None, length, refl, ap, ap₂, ◌∙◌, sym, subst}
use Rattle.std.proofs.lemmas.List.Folds.{list_all-append}
use Rattle.std.specs.List.{list_all}
use Rattle.bake_definitions.specs.Baked.{is_bare}
use Rattle.bake_definitions.specs.Insertions.{Insertion, takes_span}
use Rattle.bake_definitions.specs.Places.{placed, with_place, with_places}
use Rattle.bake_book.specs.Dressing.{box_insertions, dressed_document, dressed_node, dressed_trees, first_insertions, last_insertions}
use Rattle.forest.proofs.PlaceLaws.{without_keys-numbered}
use Rattle.forest.specs.Forest.{Forest, Empty, Tree, labels}
use Rattle.forest.specs.Keys.{Keyed, numbered}
use Rattle.generated_texts.specs.Entries.{document_entries}
use Rattle.generated_texts.specs.References.{kept_at}
use Rattle.generated_texts.specs.StyleElements.{author_sheet}
use Rattle.generated_texts.specs.declared.entry.NodeEntry.{NodeEntry}
use Rattle.plain_types.specs.Tree.{AreSound}
use Rattle.plain_types.specs.declared.box_kind.BoxKind.TheVariants.{Marker, Before, After}
use Rattle.plain_types.specs.declared.node.Node.{Node}
use Rattle.plain_types.specs.declared.node.Node.TheVariants.{Element, Text}
use Rattle.silent_sheets.specs.Silence.{IsSilent}
use Rattle.silent_sheets.proofs.SilentLines.{silent_entries}
use Rattle.silent_sheets.proofs.SilentRecords.{IsBareEntry}

none_first : (entry : Option NodeEntry) → IsBareEntry entry → first_insertions entry ≡ []
none_first None bare = refl
none_first (Some entry) bare = ap₂ (λ a b. a ++ b) (ap (box_insertions Marker) bare.0) (ap (box_insertions Before) bare.1)

none_last : (entry : Option NodeEntry) → IsBareEntry entry → last_insertions entry ≡ []
none_last None bare = refl
none_last (Some entry) bare = ap (box_insertions After) bare.2

abbrev nothing : List Insertion
nothing = []

none_placed : (node : Node) → with_place node nothing ≡ nothing
none_placed (Text characters) = refl
none_placed (Element name attrs) = either (takes_span name)
  where
    either : (takes : Bool) → (if takes then nothing else nothing) ≡ nothing
    either true = refl
    either false = refl

module _ (entry_of : ℕ → Option NodeEntry) (bare : (key : ℕ) → IsBareEntry (entry_of key)) where
  bare_node : (node : Keyed Node) → is_bare (with_places (dressed_node entry_of node)) ≡ true
  bare_node node =
      ap₂ (λ first last. length (with_place node.label first) == 0 && length (with_place node.label last) == 0) (none_first (entry_of node.key) (bare node.key)) (none_last (entry_of node.key) (bare node.key))
      ∙ ap (λ (none : List Insertion). length none == 0 && length none == 0) (none_placed node.label)

  bare_trees : (trees : Forest (Keyed Node)) → list_all is_bare (labels (placed (dressed_trees entry_of trees))) ≡ true
  bare_trees Empty = refl
  bare_trees (Tree node children after) =
      ap₂ (λ a b. a && b) (bare_node node)
      (list_all-append is_bare (labels (placed (dressed_trees entry_of children))) (labels (placed (dressed_trees entry_of after))) ∙ ap₂ (λ a b. a && b) (bare_trees children) (bare_trees after))

pub silent_document : (sheet_text : List ℕ) (tree : Forest Node) → AreSound tree → IsSilent (author_sheet sheet_text (numbered 0 tree)) → list_all is_bare (labels (placed (dressed_document sheet_text tree))) ≡ true
unfolding dressed_document
silent_document sheet_text tree sound silent =
    let document = numbered 0 tree in
    let author = author_sheet sheet_text document in
    bare_trees (kept_at (document_entries author document)) (λ key. silent_entries author document key (subst AreSound (sym (without_keys-numbered 0 tree)) sound) silent) document
