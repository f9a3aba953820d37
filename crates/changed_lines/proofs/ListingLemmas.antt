-- All lines of a document are those of its dump, by elements.
use Rattle.std.proofs.Common.{◌≡◌, ◌∷◌, ◌++◌, ℕ, List, [], Bool, Option, Some, None, IsPermutation, filter, flat_map, map, refl, sym, ap, ap₂, subst, ◌∙◌, inl, inr, append_assoc, append-nil}
use Rattle.std.specs.Option.{option_map_or}
use Rattle.std.proofs.lemmas.Bool.{cases_Bool}
use Rattle.std.proofs.lemmas.Grind.{flat_map-append}
use Rattle.std.proofs.lemmas.List.{map-append}
use Rattle.std.proofs.lemmas.List.Elements.{filter-append}
use Rattle.std.proofs.lemmas.List.Sorted.{IsPermutation-append, IsPermutation-append_comm, IsPermutation-append_left, IsPermutation-append_right, IsPermutation-map, IsPermutation-refl, IsPermutation-trans}
use Rattle.forest.specs.Forest.{Forest, Empty, Tree}
use Rattle.forest.specs.Keys.{Keyed, keys}
use Rattle.forest.specs.Paths.{path_of}
use Rattle.forest.proofs.OrderLaws.{keys-tree}
use Rattle.plain_types.specs.declared.box_kind.BoxKind.TheVariants.{Marker, Before, After}
use Rattle.plain_types.specs.declared.node.Node.{Node}
use Rattle.dump_definitions.specs.Dump.{Line}
use Rattle.generated_texts.specs.declared.entry.BoxText.{BoxText}
use Rattle.generated_texts.specs.declared.entry.NodeEntry.{NodeEntry}
use Rattle.generated_texts.specs.Lines.{first_lines, keyed_lines, last_lines, lines_of, tree_lines}
use Rattle.edit_work.specs.KeyedSources.{KeyedSource}
use Rattle.changed_lines.specs.declared.changed_line.ChangedLine.{ChangedLine}
use Rattle.changed_lines.specs.Changes.{changed_line, element_lines, entry_in, lines_at}
use Rattle.changed_lines.specs.Listings.{lines_from_nothing, listed_lines, shown_line, stands_first}

-- Lists.

-- what is behind the children may come before them
moved : {A : Type 0} (first last below other_below behind other_behind : List A) → IsPermutation below other_below → IsPermutation behind other_behind
    → IsPermutation ((first ++ last) ++ (below ++ behind)) (first ++ (other_below ++ (last ++ other_behind)))
moved {A} first last below other_below behind other_behind same_below same_behind =
    let rests = IsPermutation-append_right last (below ++ behind) (other_below ++ other_behind) (IsPermutation-append below other_below behind other_behind same_below same_behind) in
    let crossed =
    subst (λ (l : List A). IsPermutation (last ++ (other_below ++ other_behind)) l) (append_assoc other_below last other_behind)
    (subst (λ (l : List A). IsPermutation l ((other_below ++ last) ++ other_behind)) (append_assoc last other_below other_behind)
    (IsPermutation-append_left other_behind (last ++ other_below) (other_below ++ last) (IsPermutation-append_comm last other_below))) in
    subst (λ (l : List A). IsPermutation l (first ++ (other_below ++ (last ++ other_behind)))) (sym (append_assoc first last (below ++ behind)))
    (IsPermutation-append_right first (last ++ (below ++ behind)) (other_below ++ (last ++ other_behind))
    (IsPermutation-trans (last ++ (below ++ behind)) (last ++ (other_below ++ other_behind)) (other_below ++ (last ++ other_behind)) rests crossed))

-- a test of what items become
filter_of_map : {A B : Type 0} (f : A → B) (p : B → Bool) (xs : List A) → filter p (map f xs) ≡ map f (filter (λ x. p (f x)) xs)
filter_of_map f p [] = refl
filter_of_map f p (x ∷ xs) = elim (cases_Bool (p (f x))) [
  | inl e ↦ rw e (ap (λ ys. f x ∷ ys) (filter_of_map f p xs))
  | inr e ↦ rw e (filter_of_map f p xs)
]

-- Of a document, what is kept of its elements.
module _ (document : Forest (Keyed Node)) (entry_of : ℕ → Option NodeEntry) where
  abbrev told_at : ℕ → List ChangedLine
  told_at key = lines_at document (λ _. None) entry_of key

  abbrev first_of : ℕ → Option NodeEntry → List Line
  first_of key kept = option_map_or (λ (entry : NodeEntry). lines_of document key Marker entry.marker ++ lines_of document key Before entry.before) kept []

  abbrev last_of : ℕ → Option NodeEntry → List Line
  last_of key kept = option_map_or (λ (entry : NodeEntry). lines_of document key After entry.after) kept []

  -- a box of an element
  marker_line : (key : ℕ) (entry : NodeEntry) (box : Option BoxText) → entry.marker ≡ box → changed_line (path_of document key) None (Some entry) Marker ≡ map shown_line (lines_of document key Marker box)
  marker_line key entry None is = rw is refl
  marker_line key entry (Some text) is = rw is refl

  before_line : (key : ℕ) (entry : NodeEntry) (box : Option BoxText) → entry.before ≡ box → changed_line (path_of document key) None (Some entry) Before ≡ map shown_line (lines_of document key Before box)
  before_line key entry None is = rw is refl
  before_line key entry (Some text) is = rw is refl

  after_line : (key : ℕ) (entry : NodeEntry) (box : Option BoxText) → entry.after ≡ box → changed_line (path_of document key) None (Some entry) After ≡ map shown_line (lines_of document key After box)
  after_line key entry None is = rw is refl
  after_line key entry (Some text) is = rw is refl

  -- a node
  node_lines : (key : ℕ) (kept : Option NodeEntry) → element_lines (path_of document key) None kept ≡ map shown_line (first_of key kept ++ last_of key kept)
  node_lines key None = refl
  node_lines key (Some entry) =
      let marker = lines_of document key Marker entry.marker in
      let before = lines_of document key Before entry.before in
      let after = lines_of document key After entry.after in
      ap₂ (λ (one more : List ChangedLine). one ++ more) (marker_line key entry entry.marker refl)
      (ap₂ (λ (one more : List ChangedLine). one ++ more) (before_line key entry entry.before refl) (after_line key entry entry.after refl))
      ∙ sym (append_assoc (map shown_line marker) (map shown_line before) (map shown_line after))
      ∙ ap (λ (own : List ChangedLine). own ++ map shown_line after) (sym (map-append shown_line marker before))
      ∙ sym (map-append shown_line (marker ++ before) after)

  -- trees
  by_elements : (trees : Forest (Keyed Node)) → flat_map told_at (keys trees) ≡ map shown_line (listed_lines document entry_of trees)
  by_elements Empty = refl
  by_elements (Tree node children rest) =
      let own = first_of node.key (entry_of node.key) ++ last_of node.key (entry_of node.key) in
      let below = listed_lines document entry_of children in
      let behind = listed_lines document entry_of rest in
      ap (flat_map told_at) (keys-tree node children rest)
      ∙ ap (λ (more : List ChangedLine). told_at node.key ++ more)
      (flat_map-append told_at (keys children) (keys rest)
      ∙ ap₂ (λ (one more : List ChangedLine). one ++ more) (by_elements children) (by_elements rest)
      ∙ sym (map-append shown_line below behind))
      ∙ ap (λ (here : List ChangedLine). here ++ map shown_line (below ++ behind)) (node_lines node.key (entry_of node.key))
      ∙ sym (map-append shown_line own (below ++ behind))

  each_once : (trees : Forest (Keyed Node)) → IsPermutation (listed_lines document entry_of trees) (tree_lines document entry_of trees)
  each_once Empty = IsPermutation-refl []
  each_once (Tree node children rest) =
      moved (first_lines document entry_of node.key) (last_lines document entry_of node.key)
      (listed_lines document entry_of children) (tree_lines document entry_of children) (listed_lines document entry_of rest) (tree_lines document entry_of rest)
      (each_once children) (each_once rest)

  abbrev is_first : Line → Bool
  is_first line = stands_first line.kind

  no_first : (key : ℕ) (kept : Option NodeEntry) → filter is_first (last_of key kept) ≡ []
  no_first key None = refl
  no_first key (Some entry) = by entry.after
    where
      by : (box : Option BoxText) → filter is_first (lines_of document key After box) ≡ []
      by None = refl
      by (Some text) = refl

  in_order : (trees : Forest (Keyed Node)) → filter is_first (listed_lines document entry_of trees) ≡ filter is_first (tree_lines document entry_of trees)
  in_order Empty = refl
  in_order (Tree node children rest) =
      let first = first_lines document entry_of node.key in
      let last = last_lines document entry_of node.key in
      let below = tree_lines document entry_of children in
      let behind = tree_lines document entry_of rest in
      let none = no_first node.key (entry_of node.key) in
      filter-append is_first (first ++ last) (listed_lines document entry_of children ++ listed_lines document entry_of rest)
      ∙ ap₂ (λ (one more : List Line). one ++ more)
      (filter-append is_first first last ∙ ap (λ (more : List Line). filter is_first first ++ more) none ∙ append-nil (filter is_first first))
      (filter-append is_first (listed_lines document entry_of children) (listed_lines document entry_of rest)
      ∙ ap₂ (λ (one more : List Line). one ++ more) (in_order children) (in_order rest)
      ∙ ap (λ (more : List Line). filter is_first below ++ more)
      (ap (λ (more : List Line). more ++ filter is_first behind) (sym none) ∙ sym (filter-append is_first last behind))
      ∙ sym (filter-append is_first below (last ++ behind)))
      ∙ sym (filter-append is_first first (below ++ (last ++ behind)))

module _ (source : KeyedSource) where
  pub all_by_elements : lines_from_nothing source ≡ map shown_line (listed_lines source.tree (entry_in source) source.tree)
  all_by_elements = by_elements source.tree (entry_in source) source.tree

  pub all_once : IsPermutation (lines_from_nothing source) (map shown_line (keyed_lines source.sheet source.tree))
  all_once =
      subst (λ (lines : List ChangedLine). IsPermutation lines (map shown_line (keyed_lines source.sheet source.tree))) (sym all_by_elements)
      (IsPermutation-map shown_line (listed_lines source.tree (entry_in source) source.tree) (keyed_lines source.sheet source.tree)
      (each_once source.tree (entry_in source) source.tree))

  pub all_in_order : filter (λ (line : ChangedLine). stands_first line.kind) (lines_from_nothing source)
      ≡ map shown_line (filter (λ (line : Line). stands_first line.kind) (keyed_lines source.sheet source.tree))
  all_in_order =
      ap (filter (λ (line : ChangedLine). stands_first line.kind)) all_by_elements
      ∙ filter_of_map shown_line (λ (line : ChangedLine). stands_first line.kind) (listed_lines source.tree (entry_in source) source.tree)
      ∙ ap (map shown_line) (in_order source.tree (entry_in source) source.tree)
