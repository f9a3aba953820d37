-- The account of an element, whichever keys the nodes of its document have.
use Rattle.std.proofs.Common.{◌≡◌, ◌==◌, ◌∷◌, ◌++◌, ◌&&◌, ℕ, zero, suc, ◌+◌, Bool, true, false, if◌then◌else◌, List, [], Option, Some, None, map, refl, ap, ap₂, ◌∙◌, codes, encode_utf8_all}
use Rattle.std.specs.Prelude.{filter, find, flat_map, is_none, is_some, option_map, unwrap_or}
use Rattle.std.specs.Option.{option_and_then, option_map_or}
use Rattle.forest.specs.Forest.{Forest, Empty, Tree}
use Rattle.forest.specs.Keys.{HasDistinctKeys, Keyed, numbered, without_keys}
use Rattle.forest.specs.Paths.{key_at, on_path, trees_from}
use Rattle.forest.specs.Spots.{Spot, first_key, parent_of, spot_of}
use Rattle.node_arena.specs.Nodes.{name_of, node_attrs, node_name}
use Rattle.plain_types.specs.Attributes.{value_of}
use Rattle.plain_types.specs.declared.counter.Counter.{Counter}
use Rattle.plain_types.specs.declared.node.Node.{Node}
use Rattle.plain_types.specs.declared.selector.Selector.{Selector}
use Rattle.plain_types.specs.declared.selector_parts.PseudoElement.TheVariants.{Own}
use Rattle.plain_types.specs.declared.sheet.Sheet.{Sheet}
use Rattle.plain_types.specs.declared.sheet.StyleRule.{StyleRule}
use Rattle.css_reader.specs.Sheets.{inline_declarations}
use Rattle.selector_match.specs.Elements.{Standing}
use Rattle.selector_match.specs.Matching.{matches_complex}
use Rattle.selectors.specs.Specificity.{is_less, specificity}
use Rattle.mini_cascade.specs.Declarations.{is_same}
use Rattle.mini_cascade.specs.Greatest.{greatest}
use Rattle.mini_cascade.specs.Hints.{hints}
use Rattle.generated_texts.specs.declared.entry.NodeEntry.{NodeEntry}
use Rattle.generated_texts.specs.Documents.{agent_sheet}
use Rattle.generated_texts.specs.Entries.{document_entries}
use Rattle.generated_texts.specs.Keyings.{KeepsApart, rekeyed, rekeyed_counter, rekeyed_entries, rekeyed_entry, rekeyed_set}
use Rattle.generated_texts.specs.Laws.{EachKeyingIsAnother, EntriesFollowKeys, SheetsKeepNoKeys}
use Rattle.generated_texts.specs.References.{kept_at}
use Rattle.generated_texts.specs.StyleElements.{author_sheet}
use Rattle.generated_texts.proofs.ListLemmas.{find_map, option_map_past}
use Rattle.generated_texts.proofs.Rekeyed.{AreApart, rekeyed_spot, same_label, same_path, spot_of_rekeyed, tests_apart}
use Rattle.generated_texts.proofs.RekeyedStyles.{same_element}
use Rattle.style_sources.specs.Sources.{attached, declared_from, declared_in, declared_with, hinted, placed_declarations, value_source_at, value_source_of}
use Rattle.style_sources.specs.declared.place.DeclarationPlace.{DeclarationPlace}
use Rattle.style_sources.specs.declared.place.DeclarationPlace.TheVariants.{Rule}
use Rattle.style_sources.specs.declared.place.SheetOrigin.{SheetOrigin}
use Rattle.style_sources.specs.declared.place.SheetOrigin.TheVariants.{UserAgent, Author}
use Rattle.why_report.specs.Accounts.{account, counter_line, counter_lines, element_account, element_at, keyed_account, source_lines}

module _ (rekey : ℕ → ℕ) where
  -- The element at a path.

  trees_from_rekeyed : (position : ℕ) (trees : Forest (Keyed Node)) → trees_from position (rekeyed rekey trees) ≡ rekeyed rekey (trees_from position trees)
  trees_from_rekeyed zero trees = refl
  trees_from_rekeyed (suc position) Empty = refl
  trees_from_rekeyed (suc position) (Tree node children after) = trees_from_rekeyed position after

  on_path_rekeyed : (path : List ℕ) (trees : Forest (Keyed Node)) → on_path path (rekeyed rekey trees) ≡ rekeyed rekey (on_path path trees)
  on_path_rekeyed [] trees = refl
  on_path_rekeyed (position ∷ path) Empty = refl
  on_path_rekeyed (position ∷ path) (Tree node children after) =
      ap (on_path path) (trees_from_rekeyed position children) ∙ on_path_rekeyed path (trees_from position children)

  first_rekeyed : (trees : Forest (Keyed Node)) → first_key (rekeyed rekey trees) ≡ option_map rekey (first_key trees)
  first_rekeyed Empty = refl
  first_rekeyed (Tree node children after) = refl

  key_rekeyed : (document : Forest (Keyed Node)) (path : List ℕ) → key_at (rekeyed rekey document) path ≡ option_map rekey (key_at document path)
  key_rekeyed document path = ap first_key (on_path_rekeyed path document) ∙ first_rekeyed (on_path path document)

  where_named : (named : Bool) (key : ℕ) → (if named then Some (rekey key) else None) ≡ option_map rekey (if named then Some key else None)
  where_named true key = refl
  where_named false key = refl

  module _ (apart : AreApart rekey) (document : Forest (Keyed Node)) where
    element_of : (key : Option ℕ)
        → option_and_then (λ key. if is_some (name_of (rekeyed rekey document) key) then Some key else None) (option_map rekey key)
        ≡ option_map rekey (option_and_then (λ key. if is_some (name_of document key) then Some key else None) key)
    element_of None = refl
    element_of (Some key) =
        ap (λ label. if is_some (option_and_then node_name label) then Some (rekey key) else None) (same_label rekey apart document key)
        ∙ where_named (is_some (name_of document key)) key

    element_rekeyed : (path : List ℕ) → element_at (rekeyed rekey document) path ≡ option_map rekey (element_at document path)
    element_rekeyed path =
        ap (option_and_then (λ key. if is_some (name_of (rekeyed rekey document) key) then Some key else None)) (key_rekeyed document path)
        ∙ element_of (key_at document path)

    -- The sources of its properties: they are told by where it stands and by its own label.
    module _ (key : ℕ) where
      rule_rekeyed : (place : DeclarationPlace) (rule : StyleRule) → declared_in (rekeyed rekey document) (rekey key) place rule ≡ declared_in document key place rule
      rule_rekeyed place rule =
          ap (λ (standing : Option Standing). unwrap_or (option_map (declared_with place rule.declared)
          (greatest is_less (map specificity (filter (λ (selector : Selector). is_same selector.pseudo Own && option_map_or (matches_complex selector) standing false) rule.selectors)))) [])
          (same_element rekey apart document key)

      rules_rekeyed : (origin : SheetOrigin) (number : ℕ) (rules : List StyleRule)
          → declared_from (rekeyed rekey document) (rekey key) origin number rules ≡ declared_from document key origin number rules
      rules_rekeyed origin number [] = refl
      rules_rekeyed origin number (rule ∷ rules) =
          ap₂ (λ first rest. first ++ rest) (rule_rekeyed (Rule origin number) rule) (rules_rekeyed origin (number + 1) rules)

      declarations_rekeyed : (agent author : Sheet) → placed_declarations (rekeyed rekey document) (rekey key) agent author ≡ placed_declarations document key agent author
      declarations_rekeyed agent author =
          ap₂ (λ first rest. first ++ rest) (rules_rekeyed UserAgent 0 agent.rules)
          (ap₂ (λ first rest. first ++ rest)
          (ap (λ label. hinted (hints (unwrap_or (option_and_then node_name label) []) (unwrap_or (option_map node_attrs label) []))) (same_label rekey apart document key))
          (ap₂ (λ first rest. first ++ rest) (rules_rekeyed Author 0 author.rules)
          (ap (λ label. attached (option_map_or inline_declarations (value_of (codes "style") (unwrap_or (option_map node_attrs label) [])) [])) (same_label rekey apart document key))))

      root_in : (place : Option (Spot Node)) → is_none (option_and_then (λ (s : Spot Node). s.parent) (option_map (rekeyed_spot rekey) place)) ≡ is_none (option_and_then (λ (s : Spot Node). s.parent) place)
      root_in None = refl
      root_in (Some place) = root_of place.parent
        where
          root_of : (parent : Option ℕ) → is_none (option_map rekey parent) ≡ is_none parent
          root_of None = refl
          root_of (Some parent) = refl

      root_rekeyed : is_none (parent_of (rekeyed rekey document) (rekey key)) ≡ is_none (parent_of document key)
      root_rekeyed =
          ap (λ place. is_none (option_and_then (λ (s : Spot Node). s.parent) place)) (spot_of_rekeyed rekey apart document key) ∙ root_in (spot_of document key)

      sources_rekeyed : (agent author : Sheet) → source_lines (value_source_at (rekeyed rekey document) agent author (rekey key)) ≡ source_lines (value_source_at document agent author key)
      sources_rekeyed agent author =
          ap₂ (λ is_root all. source_lines (λ property. value_source_of is_root property all)) root_rekeyed (declarations_rekeyed agent author)

    -- Its counters: each is told by the path of its creator.

    counter_rekeyed : (counter : Counter) → counter_line (rekeyed rekey document) (rekeyed_counter rekey counter) ≡ counter_line document counter
    counter_rekeyed counter = rw (same_path rekey apart document counter.creator.key) refl

    set_rekeyed : (set : List Counter) → flat_map (counter_line (rekeyed rekey document)) (rekeyed_set rekey set) ≡ flat_map (counter_line document) set
    set_rekeyed [] = refl
    set_rekeyed (counter ∷ set) = ap₂ (λ first rest. first ++ rest) (counter_rekeyed counter) (set_rekeyed set)

    counters_rekeyed : (entry : Option NodeEntry) → counter_lines (rekeyed rekey document) (option_map (rekeyed_entry rekey) entry) ≡ counter_lines document entry
    counters_rekeyed None = refl
    counters_rekeyed (Some entry) = set_rekeyed entry.own

  pub kept_rekeyed : AreApart rekey → (kept : List (ℕ × NodeEntry)) (key : ℕ) → kept_at (rekeyed_entries rekey kept) (rekey key) ≡ option_map (rekeyed_entry rekey) (kept_at kept key)
  kept_rekeyed apart kept key =
      let renamed : ℕ × NodeEntry → ℕ × NodeEntry = λ entry. (rekey entry.0, rekeyed_entry rekey entry.1) in
      let test : ℕ × NodeEntry → Bool = λ entry. entry.0 == key in
      let test_too : ℕ × NodeEntry → Bool = λ entry. entry.0 == rekey key in
      let read : ℕ × NodeEntry → NodeEntry = λ entry. entry.1 in
      ap (option_map read) (find_map renamed test test_too (λ (entry : ℕ × NodeEntry). apart entry.0 key) kept)
      ∙ option_map_past renamed (rekeyed_entry rekey) read read (λ _. refl) (find test kept)

  module _ (keeps : KeepsApart rekey) (entries : EntriesFollowKeys) (author : Sheet) (document : Forest (Keyed Node)) where
    account_rekeyed : (key : ℕ) → element_account author (rekeyed rekey document) (rekey key) ≡ element_account author document key
    unfolding element_account
    account_rekeyed key =
        let apart = tests_apart rekey keeps in
        let kept = document_entries author document in
        ap₂ (λ first rest. first ++ rest) (sources_rekeyed apart document key agent_sheet author)
        (ap (λ all. counter_lines (rekeyed rekey document) (kept_at all (rekey key))) (entries author document rekey keeps)
        ∙ ap (counter_lines (rekeyed rekey document)) (kept_rekeyed apart kept key)
        ∙ counters_rekeyed apart document (kept_at kept key))

    accounts_rekeyed : (key : Option ℕ) → option_map (element_account author (rekeyed rekey document)) (option_map rekey key) ≡ option_map (element_account author document) key
    accounts_rekeyed None = refl
    accounts_rekeyed (Some key) = ap Some (account_rekeyed key)

  keyed_rekeyed : KeepsApart rekey → SheetsKeepNoKeys → EntriesFollowKeys → (sheet_text : List ℕ) (document : Forest (Keyed Node)) (path : List ℕ)
      → keyed_account sheet_text (rekeyed rekey document) path ≡ keyed_account sheet_text document path
  keyed_rekeyed keeps sheets entries sheet_text document path =
      let author = author_sheet sheet_text document in
      ap (λ (author : Sheet). option_map (element_account author (rekeyed rekey document)) (element_at (rekeyed rekey document) path)) (sheets sheet_text document rekey)
      ∙ ap (option_map (element_account author (rekeyed rekey document))) (element_rekeyed (tests_apart rekey keeps) document path)
      ∙ accounts_rekeyed keeps entries author document (element_at document path)

-- it is that of its tree
pub account_of_tree : EachKeyingIsAnother → SheetsKeepNoKeys → EntriesFollowKeys → (sheet_text : List ℕ) (document : Forest (Keyed Node)) (path : List ℕ) → HasDistinctKeys document
    → option_map encode_utf8_all (keyed_account sheet_text document path) ≡ account sheet_text (without_keys document) path
unfolding account
account_of_tree keyings sheets entries sheet_text document path distinct =
    let keying = keyings document distinct in
    ap (option_map encode_utf8_all)
    (ap (λ (trees : Forest (Keyed Node)). keyed_account sheet_text trees path) keying.2
    ∙ keyed_rekeyed keying.0 keying.1 sheets entries sheet_text (numbered 0 (without_keys document)) path)
