-- What an evaluation tells of a document's elements, and what is kept of it: with what is told of an element comes what is
-- said of it.
use Rattle.std.proofs.Common.{◌≡◌, ℕ, ℤ, List, [], ◌∷◌, length, map, Option, Some, None, refl, sym, ap, ap₂, subst, ◌∙◌}
use Rattle.std.specs.Prelude.{is_some, option_map}
use Rattle.std.proofs.lemmas.List.{length-map}
use Rattle.forest.specs.Forest.{Forest, Empty, Tree}
use Rattle.forest.specs.Keys.{Keyed, HasDistinctKeys, times, without_keys}
use Rattle.plain_types.specs.declared.box_id.BoxId.{BoxId}
use Rattle.plain_types.specs.declared.node.Node.{Node}
use Rattle.plain_types.specs.declared.sheet.Sheet.{Sheet}
use Rattle.plain_types.specs.declared.style.ElementStyle.{ElementStyle}
use Rattle.plain_types.specs.declared.style.Style.{Style}
use Rattle.node_arena.specs.Nodes.{name_of}
use Rattle.box_eval.specs.declared.element_record.ElementRecord.{ElementRecord}
use Rattle.box_eval.specs.Evaluation.{style_within, styled_trees}
use Rattle.box_eval.specs.Starts.{document_starts, started}
use Rattle.generated_texts.specs.declared.entry.NodeEntry.{NodeEntry}
use Rattle.generated_texts.specs.Documents.{counter_styles, document_evaluation, document_style}
use Rattle.generated_texts.specs.Entries.{document_entries, node_entries, node_entry}
use Rattle.generated_texts.specs.References.{kept_at, known_targets}
use Rattle.generated_texts.proofs.EntryKeys.{elements_keys}
use Rattle.document_walk.specs.Elements.{element_count}
use Rattle.surroundings.specs.declared.told.Told.{Told}
use Rattle.surroundings.proofs.Said.{said-document}
use Rattle.kept_elements.specs.declared.kept.Kept.{Kept}
use Rattle.kept_elements.specs.Evaluations.{document_kept, document_told, kept_of}
use Rattle.referring_elements.specs.References.{said_of}
use Rattle.kept_elements.proofs.ChangeLemmas.{HasKeysOnce}
use Rattle.kept_elements.proofs.KnownLemmas.{kept_mapped}
use Rattle.kept_elements.proofs.RecordLemmas.{has_key-mapped, length-document_records, records_once}

module _ (style : ℕ → Option Style → ElementStyle) (start : BoxId → List ℕ → ℤ) where
  -- to give nodes styles changes no key
  styled_times : (key : ℕ) (trees : Forest (Keyed Node)) (parent : Option Style) → times key (styled_trees style start parent trees) ≡ times key trees
  styled_times key Empty parent = refl
  styled_times key (Tree node children after) parent =
      let below = styled_times key children (style_within style start parent node.key node.label) in
      let beside = styled_times key after parent in
      rw (below, beside) refl

  pub styled_distinct : (trees : Forest (Keyed Node)) (parent : Option Style) → HasDistinctKeys trees → HasDistinctKeys (styled_trees style start parent trees)
  styled_distinct trees parent distinct key = rw (styled_times key trees parent) (distinct key)

some_mapped : {V W : Type 0} (f : V → W) (o : Option V) → is_some (option_map f o) ≡ is_some o
some_mapped f None = refl
some_mapped f (Some v) = refl

-- keys that come once do so with other values
once_mapped : {V W : Type 0} (f : V → W) (kept : List (ℕ × V)) → HasKeysOnce (map (λ (entry : ℕ × V). (entry.0, f entry.1)) kept) → HasKeysOnce kept
once_mapped f [] once = tt
once_mapped f (entry ∷ kept) once = (sym (has_key-mapped f entry.0 kept) ∙ once.0, once_mapped f kept once.1)

-- what is kept of an element has the entry by what is said of it
entries_made : (f : ElementRecord → NodeEntry) (make : Told → Kept) → ((told : Told) → (make told).entry ≡ f told.said) → (told : List (ℕ × Told))
    → map {B = ℕ × NodeEntry} (λ (one : ℕ × Kept). (one.0, one.1.entry)) (map (λ (one : ℕ × Told). (one.0, make one.1)) told)
    ≡ map {B = ℕ × NodeEntry} (λ (one : ℕ × ElementRecord). (one.0, f one.1)) (said_of told)
entries_made f make same [] = refl
entries_made f make same (one ∷ told) = ap₂ (λ (entry : NodeEntry) (rest : List (ℕ × NodeEntry)). (one.0, entry) ∷ rest) (same one.1) (entries_made f make same told)

module _ (author : Sheet) (tree : Forest (Keyed Node)) (distinct : HasDistinctKeys tree) where
  pub said_is : said_of (document_told author tree) ≡ document_evaluation author tree
  said_is =
      let style = document_style author tree in
      said-document (counter_styles author) (started (counter_styles author) style tree)
      (styled_distinct style (document_starts (counter_styles author) style tree) tree None distinct)

  -- the entries in what is kept of the elements
  entries_in : map {B = ℕ × NodeEntry} (λ (one : ℕ × Kept). (one.0, one.1.entry)) (document_kept author tree) ≡ document_entries author tree
  entries_in =
      let table = counter_styles author in
      let told = document_told author tree in
      let known = known_targets table tree (said_of told) in
      entries_made (node_entry table known) (kept_of table known) (λ _. refl) told
      ∙ ap (λ (records : List (ℕ × ElementRecord)). node_entries table (known_targets table tree records) records) said_is

  pub entry_in : (key : ℕ) → option_map (λ (kept : Kept). kept.entry) (kept_at (document_kept author tree) key) ≡ kept_at (document_entries author tree) key
  entry_in key = sym (kept_mapped (λ (kept : Kept). kept.entry) (document_kept author tree) key) ∙ ap (λ (entries : List (ℕ × NodeEntry)). kept_at entries key) entries_in

  -- something is kept of exactly the elements
  pub kept_keys : (key : ℕ) → is_some (kept_at (document_kept author tree) key) ≡ is_some (name_of tree key)
  kept_keys key =
      sym (some_mapped (λ (kept : Kept). kept.entry) (kept_at (document_kept author tree) key))
      ∙ ap (λ (o : Option NodeEntry). is_some o) (entry_in key)
      ∙ elements_keys author tree key distinct

  pub kept_once : HasKeysOnce (document_kept author tree)
  kept_once =
      let table = counter_styles author in
      once_mapped (λ (kept : Kept). kept.entry) (document_kept author tree)
      (subst HasKeysOnce (sym entries_in)
      (records_once table (document_style author tree) tree (node_entry table (known_targets table tree (document_evaluation author tree))) distinct))

  pub told_once : HasKeysOnce (document_told author tree)
  told_once =
      let table = counter_styles author in
      let told = document_told author tree in
      once_mapped (kept_of table (known_targets table tree (said_of told))) told kept_once

  -- each element is told once
  pub told_count : length (document_told author tree) ≡ element_count (without_keys tree)
  told_count =
      sym (length-map (document_told author tree) (λ (one : ℕ × Told). (one.0, one.1.said)))
      ∙ ap length said_is
      ∙ length-document_records (counter_styles author) (document_style author tree) tree

  pub kept_count : length (document_kept author tree) ≡ element_count (without_keys tree)
  kept_count =
      let table = counter_styles author in
      let told = document_told author tree in
      length-map told (λ (one : ℕ × Told). (one.0, kept_of table (known_targets table tree (said_of told)) one.1)) ∙ told_count
