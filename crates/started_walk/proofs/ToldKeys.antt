-- Each element is told once, whatever the starts are. Throughout, n is a node, c what is under it, r what is after it.
use Rattle.std.proofs.Common.{◌≡◌, ◌==◌, ◌++◌, ◌∷◌, ◌||◌, ◌∙◌, ℕ, false, cond, List, [], Option, None, refl, sym, ap, subst}
use Rattle.std.specs.Prelude.{Contains, Some, is_some, option_map}
use Rattle.std.specs.List.{list_any}
use Rattle.std.proofs.lemmas.List.{map-append}
use Rattle.std.proofs.lemmas.List.Elements.{All-contains_itself, All-weaker}
use Rattle.forest.specs.Forest.{Forest, Empty, Tree}
use Rattle.forest.specs.Keys.{HasDistinctKeys, Keyed}
use Rattle.plain_types.specs.declared.counter_style.CounterStyle.{CounterStyle}
use Rattle.plain_types.specs.declared.node.Node.{Node}
use Rattle.plain_types.specs.declared.node.Node.TheVariants as node
use Rattle.plain_types.specs.declared.style.Style.{Style}
use Rattle.node_arena.specs.Nodes.{name_of}
use Rattle.box_eval.specs.Evaluation.{StyledNode, style_within, styled_node, styled_trees}
use Rattle.generated_texts.specs.Documents.{document_style}
use Rattle.generated_texts.specs.References.{kept_at, known_targets}
use Rattle.merged_walk.specs.Entries.{Holds, first_at}
use Rattle.merged_walk.specs.Evaluators.{past_all, told, told_all}
use Rattle.surroundings.specs.declared.surroundings.Surroundings.{Surroundings}
use Rattle.surroundings.specs.declared.told.Told.{Told}
use Rattle.surroundings.specs.declared.walked.Walked.{Walked}
use Rattle.surroundings.specs.StyledEvaluators.{inside_node, past_styled, root_surroundings, styled_evaluator}
use Rattle.edit_merge.specs.EditMerges.{is_element}
use Rattle.styled_merge.specs.StyledMerges.{Starting, Styling}
use Rattle.edit_work.specs.KeyedSources.{KeyedSource, author, own_starts, table}
use Rattle.reference_reach.specs.ToldLaws.{keys_of, told_of, told_with}
use Rattle.referring_elements.specs.References.{said_of}
use Rattle.kept_elements.specs.declared.kept.Kept.{Kept}
use Rattle.kept_elements.specs.Evaluations.{document_kept, kept_of}
use Rattle.kept_elements.proofs.ChangeLemmas.{HasKeysOnce, has_key, some-kept}
use Rattle.kept_elements.proofs.KnownLemmas.{kept_mapped}
use Rattle.kept_elements.proofs.RenewalLemmas.{at_first, once_there}
use Rattle.kept_elements.proofs.ToldLemmas.{kept_keys, told_once}
use Rattle.started_walk.specs.Countings.{walked_with}

-- the keys of the elements of trees, in the order in which these are left
abbrev keys_left : Forest (Keyed Node) → List ℕ
keys_left Empty = []
keys_left (Tree n c r) = keys_left c ++ (cond (is_element n.label) (n.key ∷ []) [] ++ keys_left r)

module _ (table : List CounterStyle) (style : Styling) (start : Starting) where
  own-key : (key : ℕ) (label : Node) (parent : Option Style) (handed behind : Option Surroundings)
      → keys_of (told (styled_evaluator table) (record { key = key; label = styled_node style start parent key label }) handed behind) ≡ cond (is_element label) (key ∷ []) []
  own-key key (node.Element name attrs) parent handed behind = refl
  own-key key (node.Text characters) parent handed behind = refl

  keys-left : (trees : Forest (Keyed Node)) (parent : Option Style) (handed : Option Surroundings) → keys_of (told_all (styled_evaluator table) handed (styled_trees style start parent trees)) ≡ keys_left trees
  keys-left Empty parent handed = refl
  keys-left (Tree n c r) parent handed =
      let node : Keyed StyledNode = record { key = n.key; label = styled_node style start parent n.key n.label } in
      let children : Forest (Keyed StyledNode) = styled_trees style start (style_within style start parent n.key n.label) c in
      let inside : Option Surroundings = inside_node table node handed in
      let behind : Option Surroundings = past_all (styled_evaluator table) inside children in
      let next : Option Surroundings = past_styled table node handed behind in
      let key : ℕ × Told → ℕ = λ element. element.0 in
      let own : List (ℕ × Told) = told (styled_evaluator table) node handed behind in
      let later : List (ℕ × Told) = told_all (styled_evaluator table) next (styled_trees style start parent r) in
      let below = keys-left c (style_within style start parent n.key n.label) inside in
      let here = own-key n.key n.label parent handed behind in
      let beside = keys-left r parent next in
      map-append key (told_all (styled_evaluator table) inside children) (own ++ later)
      ∙ ap (λ keys. keys_of (told_all (styled_evaluator table) inside children) ++ keys) (map-append key own later)
      ∙ (λ i. below i ++ (here i ++ beside i))

-- Keys that come once.

abbrev AreOnce : List ℕ → Type 0
AreOnce [] = Unit {0}
AreOnce (key ∷ keys) = (list_any (λ other. other == key) keys ≡ false) × AreOnce keys

any-key : (key : ℕ) (told : List (ℕ × Told)) → has_key key told ≡ list_any (λ other. other == key) (keys_of told)
any-key key [] = refl
any-key key (one ∷ told) = ap (λ b. (one.0 == key) || b) (any-key key told)

once-keys : (told : List (ℕ × Told)) → HasKeysOnce told → AreOnce (keys_of told)
once-keys [] once = tt
once-keys (one ∷ told) once = (sym (any-key one.0 told) ∙ once.0, once-keys told once.1)

keys-once : (told : List (ℕ × Told)) → AreOnce (keys_of told) → HasKeysOnce told
keys-once [] once = tt
keys-once (one ∷ told) once = (any-key one.0 told ∙ once.0, keys-once told once.1)

module _ (source : KeyedSource) (distinct : HasDistinctKeys source.tree) (start : Starting) where
  same-keys : keys_of (told_of source) ≡ keys_of (told_with source start)
  same-keys =
      let style = document_style (author source) source.tree in
      keys-left (table source) style (own_starts source) source.tree None root_surroundings
      ∙ sym (keys-left (table source) style start source.tree None root_surroundings)

  pub once : HasKeysOnce (told_with source start)
  once = keys-once (told_with source start) (subst AreOnce same-keys (once-keys (told_of source) (told_once (author source) source.tree distinct)))

  -- what is told of each element is what stands first under its key
  pub holds : Holds (first_at (told_with source start)) (told_with source start)
  holds =
      let all : List (ℕ × Told) = told_with source start in
      All-weaker (Contains all) (λ (one : ℕ × Told). first_at all one.0 ≡ Some one.1)
      (λ one there. at_first all one.0 ∙ once_there all once one there)
      all (All-contains_itself all)

-- Which elements are told.

some-mapped : {V W : Type 0} (f : V → W) (o : Option V) → is_some (option_map f o) ≡ is_some o
some-mapped f None = refl
some-mapped f (Some it) = refl

some-told : (told : List (ℕ × Told)) (key : ℕ) → is_some (first_at told key) ≡ list_any (λ other. other == key) (keys_of told)
some-told told key = ap (λ (o : Option Told). is_some o) (at_first told key) ∙ some-kept key told ∙ any-key key told

walked-twice : (make : Told → Kept) → ((told : Told) → (make told).walked ≡ told.walked) → (o : Option Told)
    → option_map (λ (kept : Kept). kept.walked) (option_map make o) ≡ option_map (λ (told : Told). told.walked) o
walked-twice make same None = refl
walked-twice make same (Some told) = ap (λ (walked : Walked). Some walked) (same told)

module _ (source : KeyedSource) (distinct : HasDistinctKeys source.tree) where
  -- what is kept of an element of a document is what is told of it with the document's own starts
  pub kept-walked : (key : ℕ) → option_map (λ (kept : Kept). kept.walked) (kept_at (document_kept (author source) source.tree) key) ≡ walked_with source (own_starts source) key
  kept-walked key =
      let told : List (ℕ × Told) = told_of source in
      let make : Told → Kept = kept_of (table source) (known_targets (table source) source.tree (said_of told)) in
      ap (option_map (λ (kept : Kept). kept.walked)) (kept_mapped make told key)
      ∙ walked-twice make (λ told. refl) (kept_at told key)
      ∙ ap (option_map (λ (told : Told). told.walked)) (sym (at_first told key))

  own-named : (key : ℕ) → is_some (walked_with source (own_starts source) key) ≡ is_some (name_of source.tree key)
  own-named key =
      ap (λ (o : Option Walked). is_some o) (sym (kept-walked key))
      ∙ some-mapped (λ (kept : Kept). kept.walked) (kept_at (document_kept (author source) source.tree) key)
      ∙ kept_keys (author source) source.tree distinct key

  -- exactly its elements are told, whatever the starts are
  pub walked-named : (start : Starting) (key : ℕ) → is_some (walked_with source start key) ≡ is_some (name_of source.tree key)
  walked-named start key =
      some-mapped (λ (told : Told). told.walked) (first_at (told_with source start) key)
      ∙ some-told (told_with source start) key
      ∙ ap (λ (keys : List ℕ). list_any (λ other. other == key) keys) (sym (same-keys source distinct start))
      ∙ sym (some-told (told_of source) key)
      ∙ sym (some-mapped (λ (told : Told). told.walked) (first_at (told_of source) key))
      ∙ own-named key
