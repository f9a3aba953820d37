-- What a document gives, whichever keys its nodes have.
use Rattle.std.proofs.Common.{◌≡◌, ◌==◌, ℕ, Bool, List, ◌++◌, Option, Some, None, refl, ap, ap₂, ◌∙◌}
use Rattle.std.specs.Prelude.{find, option_map}
use Rattle.forest.specs.Forest.{Forest, Empty, Tree}
use Rattle.forest.specs.Keys.{HasDistinctKeys, Keyed, numbered, without_keys}
use Rattle.plain_types.specs.declared.node.Node.{Node}
use Rattle.plain_types.specs.declared.node.Node.TheVariants.{Element, Text}
use Rattle.plain_types.specs.declared.sheet.Sheet.{Sheet}
use Rattle.generated_texts.specs.declared.entry.NodeEntry.{NodeEntry}
use Rattle.generated_texts.specs.Entries.{document_entries}
use Rattle.generated_texts.specs.Keyings.{KeepsApart, rekeyed, rekeyed_entries, rekeyed_entry}
use Rattle.generated_texts.specs.Laws.{EachKeyingIsAnother, EntriesFollowKeys, SheetsKeepNoKeys}
use Rattle.generated_texts.specs.References.{kept_at}
use Rattle.generated_texts.specs.StyleElements.{author_sheet}
use Rattle.generated_texts.proofs.ListLemmas.{find_map, option_map_past}
use Rattle.generated_texts.proofs.Rekeyed.{tests_apart}
use Rattle.text_view.specs.Lines.{Piece}
use Rattle.text_view.specs.Views.{document_pieces, keyed_pieces, node_pieces, tree_pieces}

module _ (rekey : ℕ → ℕ) (apart : KeepsApart rekey) where
  kept_rekeyed : (kept : List (ℕ × NodeEntry)) (key : ℕ) → kept_at (rekeyed_entries rekey kept) (rekey key) ≡ option_map (rekeyed_entry rekey) (kept_at kept key)
  kept_rekeyed kept key =
      let renamed : ℕ × NodeEntry → ℕ × NodeEntry = λ entry. (rekey entry.0, rekeyed_entry rekey entry.1) in
      let test : ℕ × NodeEntry → Bool = λ entry. entry.0 == key in
      let test_too : ℕ × NodeEntry → Bool = λ entry. entry.0 == rekey key in
      let read : ℕ × NodeEntry → NodeEntry = λ entry. entry.1 in
      ap (option_map read) (find_map renamed test test_too (λ (entry : ℕ × NodeEntry). tests_apart rekey apart entry.0 key) kept)
      ∙ option_map_past renamed (rekeyed_entry rekey) read read (λ _. refl) (find test kept)

  node_rekeyed : (entry : Option NodeEntry) (node : Node) (inside : List Piece) → node_pieces (option_map (rekeyed_entry rekey) entry) node inside ≡ node_pieces entry node inside
  node_rekeyed entry (Text characters) inside = refl
  node_rekeyed None (Element name attrs) inside = refl
  node_rekeyed (Some entry) (Element name attrs) inside = refl

  trees_rekeyed : (old new : ℕ → Option NodeEntry) → ((key : ℕ) → new (rekey key) ≡ option_map (rekeyed_entry rekey) (old key)) → (trees : Forest (Keyed Node)) → tree_pieces new (rekeyed rekey trees) ≡ tree_pieces old trees
  trees_rekeyed old new tied Empty = refl
  trees_rekeyed old new tied (Tree node children after) =
      ap₂ (λ first rest. first ++ rest)
      (ap (λ entry. node_pieces entry node.label (tree_pieces new (rekeyed rekey children))) (tied node.key)
      ∙ node_rekeyed (old node.key) node.label (tree_pieces new (rekeyed rekey children))
      ∙ ap (node_pieces (old node.key) node.label) (trees_rekeyed old new tied children))
      (trees_rekeyed old new tied after)

  pieces_rekeyed : (sheet_text : List ℕ) → SheetsKeepNoKeys → EntriesFollowKeys → (document : Forest (Keyed Node)) → keyed_pieces sheet_text (rekeyed rekey document) ≡ keyed_pieces sheet_text document
  pieces_rekeyed sheet_text sheets law document =
      let author = author_sheet sheet_text document in
      let kept = document_entries author document in
      ap (λ (author : Sheet). tree_pieces (kept_at (document_entries author (rekeyed rekey document))) (rekeyed rekey document)) (sheets sheet_text document rekey)
      ∙ ap (λ all. tree_pieces (kept_at all) (rekeyed rekey document)) (law author document rekey apart)
      ∙ trees_rekeyed (kept_at kept) (kept_at (rekeyed_entries rekey kept)) (kept_rekeyed kept) document

-- it gives what its tree gives
pub pieces_of_tree : EachKeyingIsAnother → SheetsKeepNoKeys → EntriesFollowKeys → (sheet_text : List ℕ) (document : Forest (Keyed Node)) → HasDistinctKeys document
    → keyed_pieces sheet_text document ≡ document_pieces sheet_text (without_keys document)
unfolding document_pieces
pieces_of_tree keyings sheets law sheet_text document distinct =
    let keying = keyings document distinct in
    ap (keyed_pieces sheet_text) keying.2 ∙ pieces_rekeyed keying.0 keying.1 sheet_text sheets law (numbered 0 (without_keys document))
