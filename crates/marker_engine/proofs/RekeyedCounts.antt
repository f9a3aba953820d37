-- The boxes of a document, whichever keys its nodes have.
use Rattle.std.proofs.Common.{◌≡◌, ◌==◌, ℕ, Bool, List, refl, ap, ◌∙◌, arith}
use Rattle.std.specs.Prelude.{find, option_map}
use Rattle.std.specs.Option.{option_map_or}
use Rattle.forest.specs.Forest.{Forest, Empty, Tree, map_labels, weigh}
use Rattle.forest.specs.Keys.{HasDistinctKeys, Keyed, numbered, without_keys}
use Rattle.plain_types.specs.declared.node.Node.{Node}
use Rattle.plain_types.specs.declared.sheet.Sheet.{Sheet}
use Rattle.generated_texts.specs.declared.entry.NodeEntry.{NodeEntry}
use Rattle.generated_texts.specs.Entries.{document_entries}
use Rattle.generated_texts.specs.Keyings.{KeepsApart, rekeyed, rekeyed_entries, rekeyed_entry, rekeyed_node}
use Rattle.generated_texts.specs.Laws.{EachKeyingIsAnother, EntriesFollowKeys, SheetsKeepNoKeys}
use Rattle.generated_texts.specs.References.{kept_at}
use Rattle.generated_texts.specs.StyleElements.{author_sheet}
use Rattle.generated_texts.proofs.ListLemmas.{find_map, map_or_map, option_map_past}
use Rattle.generated_texts.proofs.Rekeyed.{tests_apart}
use Rattle.marker_engine.specs.Census.{box_count, boxes_in, keyed_box_count}

weigh_mapped : {L M : Type 0} (f : L → M) (old : L → ℕ) (new : M → ℕ) → ((x : L) → new (f x) ≡ old x) → (trees : Forest L) → weigh new (map_labels f trees) ≡ weigh old trees
weigh_mapped f old new tied Empty = refl
weigh_mapped f old new tied (Tree label children after) =
    let here = tied label in
    let below = weigh_mapped f old new tied children in
    let beside = weigh_mapped f old new tied after in
    omega (arith, here, below, beside)

module _ (rekey : ℕ → ℕ) (apart : KeepsApart rekey) where
  kept_rekeyed : (kept : List (ℕ × NodeEntry)) (key : ℕ) → kept_at (rekeyed_entries rekey kept) (rekey key) ≡ option_map (rekeyed_entry rekey) (kept_at kept key)
  kept_rekeyed kept key =
      let renamed : ℕ × NodeEntry → ℕ × NodeEntry = λ entry. (rekey entry.0, rekeyed_entry rekey entry.1) in
      let test : ℕ × NodeEntry → Bool = λ entry. entry.0 == key in
      let test_too : ℕ × NodeEntry → Bool = λ entry. entry.0 == rekey key in
      let read : ℕ × NodeEntry → NodeEntry = λ entry. entry.1 in
      ap (option_map read) (find_map renamed test test_too (λ (entry : ℕ × NodeEntry). tests_apart rekey apart entry.0 key) kept)
      ∙ option_map_past renamed (rekeyed_entry rekey) read read (λ _. refl) (find test kept)

  boxes_rekeyed : (sheet_text : List ℕ) → SheetsKeepNoKeys → EntriesFollowKeys → (document : Forest (Keyed Node)) → keyed_box_count sheet_text (rekeyed rekey document) ≡ keyed_box_count sheet_text document
  boxes_rekeyed sheet_text sheets law document =
      let author = author_sheet sheet_text document in
      let kept = document_entries author document in
      let boxes : List (ℕ × NodeEntry) → Keyed Node → ℕ = λ all node. option_map_or boxes_in (kept_at all node.key) 0 in
      ap (λ (author : Sheet). weigh (boxes (document_entries author (rekeyed rekey document))) (rekeyed rekey document)) (sheets sheet_text document rekey)
      ∙ ap (λ all. weigh (boxes all) (rekeyed rekey document)) (law author document rekey apart)
      ∙ weigh_mapped (rekeyed_node rekey) (boxes kept) (boxes (rekeyed_entries rekey kept))
      (λ (node : Keyed Node). ap (λ entry. option_map_or boxes_in entry 0) (kept_rekeyed kept node.key)
      ∙ map_or_map (rekeyed_entry rekey) boxes_in boxes_in (λ _. refl) (kept_at kept node.key) 0) document

-- the boxes are those of the tree
pub boxes_of_tree : EachKeyingIsAnother → SheetsKeepNoKeys → EntriesFollowKeys → (sheet_text : List ℕ) (document : Forest (Keyed Node)) → HasDistinctKeys document
    → keyed_box_count sheet_text document ≡ box_count sheet_text (without_keys document)
unfolding box_count
boxes_of_tree keyings sheets law sheet_text document distinct =
    let keying = keyings document distinct in
    ap (keyed_box_count sheet_text) keying.2 ∙ boxes_rekeyed keying.0 keying.1 sheet_text sheets law (numbered 0 (without_keys document))
