-- What is put into a document, whichever keys its nodes have.
use Rattle.std.proofs.Common.{◌≡◌, ◌==◌, ℕ, Bool, List, Option, Some, None, refl, ap, ◌∙◌}
use Rattle.std.specs.Prelude.{find, option_map}
use Rattle.bake_definitions.specs.Baked.{Annotated}
use Rattle.bake_book.specs.Dressing.{dressed_document, dressed_node, dressed_trees, first_insertions, keyed_dressed, last_insertions}
use Rattle.forest.specs.Forest.{Forest, Empty, Tree}
use Rattle.forest.specs.Keys.{HasDistinctKeys, Keyed, numbered, without_keys}
use Rattle.generated_texts.proofs.ListLemmas.{find_map, option_map_past}
use Rattle.generated_texts.proofs.Rekeyed.{tests_apart}
use Rattle.generated_texts.specs.Entries.{document_entries}
use Rattle.generated_texts.specs.Keyings.{KeepsApart, rekeyed, rekeyed_entries, rekeyed_entry}
use Rattle.generated_texts.specs.Laws.{EachKeyingIsAnother, EntriesFollowKeys, SheetsKeepNoKeys}
use Rattle.generated_texts.specs.References.{kept_at}
use Rattle.generated_texts.specs.StyleElements.{author_sheet}
use Rattle.generated_texts.specs.declared.entry.NodeEntry.{NodeEntry}
use Rattle.plain_types.specs.declared.node.Node.{Node}
use Rattle.plain_types.specs.declared.sheet.Sheet.{Sheet}

module _ (rekey : ℕ → ℕ) (apart : KeepsApart rekey) where
  kept_rekeyed : (kept : List (ℕ × NodeEntry)) (key : ℕ) → kept_at (rekeyed_entries rekey kept) (rekey key) ≡ option_map (rekeyed_entry rekey) (kept_at kept key)
  kept_rekeyed kept key =
      let renamed : ℕ × NodeEntry → ℕ × NodeEntry = λ entry. (rekey entry.0, rekeyed_entry rekey entry.1) in
      let test : ℕ × NodeEntry → Bool = λ entry. entry.0 == key in
      let test_too : ℕ × NodeEntry → Bool = λ entry. entry.0 == rekey key in
      let read : ℕ × NodeEntry → NodeEntry = λ entry. entry.1 in
      ap (option_map read) (find_map renamed test test_too (λ (entry : ℕ × NodeEntry). tests_apart rekey apart entry.0 key) kept)
      ∙ option_map_past renamed (rekeyed_entry rekey) read read (λ _. refl) (find test kept)

  first_rekeyed : (entry : Option NodeEntry) → first_insertions (option_map (rekeyed_entry rekey) entry) ≡ first_insertions entry
  first_rekeyed None = refl
  first_rekeyed (Some entry) = refl

  last_rekeyed : (entry : Option NodeEntry) → last_insertions (option_map (rekeyed_entry rekey) entry) ≡ last_insertions entry
  last_rekeyed None = refl
  last_rekeyed (Some entry) = refl

  abbrev node_of : Node → Option NodeEntry → Option NodeEntry → Annotated
  node_of node first last = record { node = node; first = first_insertions first; last = last_insertions last }

  trees_rekeyed : (old new : ℕ → Option NodeEntry) → ((key : ℕ) → new (rekey key) ≡ option_map (rekeyed_entry rekey) (old key)) → (trees : Forest (Keyed Node)) → dressed_trees new (rekeyed rekey trees) ≡ dressed_trees old trees
  trees_rekeyed old new tied Empty = refl
  trees_rekeyed old new tied (Tree node children after) =
      ap (λ entry. Tree (node_of node.label entry entry) (dressed_trees new (rekeyed rekey children)) (dressed_trees new (rekeyed rekey after))) (tied node.key)
      ∙ ap (λ (first : _). Tree (record { node = node.label; first = first; last = last_insertions (option_map (rekeyed_entry rekey) (old node.key)) }) (dressed_trees new (rekeyed rekey children)) (dressed_trees new (rekeyed rekey after))) (first_rekeyed (old node.key))
      ∙ ap (λ (last : _). Tree (record { node = node.label; first = first_insertions (old node.key); last = last }) (dressed_trees new (rekeyed rekey children)) (dressed_trees new (rekeyed rekey after))) (last_rekeyed (old node.key))
      ∙ ap (λ t. Tree (dressed_node old node) t (dressed_trees new (rekeyed rekey after))) (trees_rekeyed old new tied children)
      ∙ ap (λ t. Tree (dressed_node old node) (dressed_trees old children) t) (trees_rekeyed old new tied after)

  dressed_rekeyed : (sheet_text : List ℕ) → SheetsKeepNoKeys → EntriesFollowKeys → (document : Forest (Keyed Node)) → keyed_dressed sheet_text (rekeyed rekey document) ≡ keyed_dressed sheet_text document
  dressed_rekeyed sheet_text sheets law document =
      let author = author_sheet sheet_text document in
      let kept = document_entries author document in
      ap (λ (author : Sheet). dressed_trees (kept_at (document_entries author (rekeyed rekey document))) (rekeyed rekey document)) (sheets sheet_text document rekey)
      ∙ ap (λ all. dressed_trees (kept_at all) (rekeyed rekey document)) (law author document rekey apart)
      ∙ trees_rekeyed (kept_at kept) (kept_at (rekeyed_entries rekey kept)) (kept_rekeyed kept) document

pub dressed_tree : EachKeyingIsAnother → SheetsKeepNoKeys → EntriesFollowKeys → (sheet_text : List ℕ) (document : Forest (Keyed Node)) → HasDistinctKeys document
    → keyed_dressed sheet_text document ≡ dressed_document sheet_text (without_keys document)
unfolding dressed_document
dressed_tree keyings sheets law sheet_text document distinct =
    let keying = keyings document distinct in
    ap (keyed_dressed sheet_text) keying.2 ∙ dressed_rekeyed keying.0 keying.1 sheet_text sheets law (numbered 0 (without_keys document))
