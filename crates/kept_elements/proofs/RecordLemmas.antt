-- What is said of a document's elements: once of each, and of nothing else.
use Rattle.std.proofs.Common.{◌≡◌, ◌==◌, ◌≤◌, ◌+◌, ◌||◌, ◌∷◌, ◌++◌, ℕ, ℤ, List, [], Bool, true, cond, length, map, Option, None, refl, sym, ap, ap₂, ◌∙◌, arith, length-append}
use Rattle.std.specs.Prelude.{is_some}
use Rattle.forest.specs.Forest.{Forest, Empty, Tree, weigh}
use Rattle.forest.specs.Keys.{Keyed, HasDistinctKeys, times, without_keys}
use Rattle.plain_types.specs.declared.box_id.BoxId.{BoxId}
use Rattle.plain_types.specs.declared.counter_style.CounterStyle.{CounterStyle}
use Rattle.plain_types.specs.declared.node.Node.{Node}
use Rattle.plain_types.specs.declared.node.Node.TheVariants as node
use Rattle.plain_types.specs.declared.style.ElementStyle.{ElementStyle}
use Rattle.plain_types.specs.declared.style.Style.{Style}
use Rattle.node_arena.specs.Nodes.{node_name}
use Rattle.box_eval.specs.Elements.{Handed, at_root, by_peers}
use Rattle.box_eval.specs.Evaluation.{is_boxed, past_node, past_trees, records, records_of, style_within, styled_node, styled_trees, within}
use Rattle.box_eval.specs.Starts.{document_records, document_starts}
use Rattle.box_eval.specs.declared.element_record.ElementRecord.{ElementRecord}
use Rattle.document_walk.specs.Elements.{element_count, one_where}
use Rattle.kept_elements.proofs.ChangeLemmas.{HasKeysOnce, has_key, key_count, once_counted}

key_count-append : {V : Type 0} (key : ℕ) (some more : List (ℕ × V)) → key_count key (some ++ more) ≡ key_count key some + key_count key more
key_count-append key [] more = omega arith
key_count-append key (entry ∷ some) more = omega (arith, key_count-append key some more)

key_count-mapped : {V W : Type 0} (f : V → W) (key : ℕ) (kept : List (ℕ × V)) → key_count key (map (λ (entry : ℕ × V). (entry.0, f entry.1)) kept) ≡ key_count key kept
key_count-mapped f key [] = refl
key_count-mapped f key (entry ∷ kept) = ap (λ n. cond (entry.0 == key) 1 0 + n) (key_count-mapped f key kept)

pub has_key-mapped : {V W : Type 0} (f : V → W) (key : ℕ) (kept : List (ℕ × V)) → has_key key (map (λ (entry : ℕ × V). (entry.0, f entry.1)) kept) ≡ has_key key kept
has_key-mapped f key [] = refl
has_key-mapped f key (entry ∷ kept) = ap (λ b. (entry.0 == key) || b) (has_key-mapped f key kept)

count-without_keys : (trees : Forest (Keyed Node)) → element_count (without_keys trees) ≡ weigh (λ (one : Keyed Node). one_where (is_some (node_name one.label))) trees
count-without_keys Empty = refl
count-without_keys (Tree one children after) = ap₂ (λ a b. one_where (is_some (node_name one.label)) + (a + b)) (count-without_keys children) (count-without_keys after)

module _ (table : List CounterStyle) (style : ℕ → Option Style → ElementStyle) (start : BoxId → List ℕ → ℤ) where
  -- of a node alone
  node-length : (boxed : Bool) (parent : Option Style) (own : ℕ) (label : Node) (handed behind : Handed)
      → length (records_of table by_peers boxed own (styled_node style start parent own label) handed behind) ≡ one_where (is_some (node_name label))
  node-length boxed parent own (node.Element name attrs) handed behind = refl
  node-length boxed parent own (node.Text characters) handed behind = refl

  node-counted : (key : ℕ) (boxed : Bool) (parent : Option Style) (own : ℕ) (label : Node) (handed behind : Handed)
      → key_count key (records_of table by_peers boxed own (styled_node style start parent own label) handed behind) ≤ cond (own == key) 1 0
  node-counted key boxed parent own (node.Element name attrs) handed behind = omega arith
  node-counted key boxed parent own (node.Text characters) handed behind = omega arith

  -- of trees side by side
  trees-length : (trees : Forest (Keyed Node)) (boxed : Bool) (parent : Option Style) (handed : Handed)
      → length (records table by_peers boxed handed (styled_trees style start parent trees)) ≡ weigh (λ (one : Keyed Node). one_where (is_some (node_name one.label))) trees
  trees-length Empty boxed parent handed = refl
  trees-length (Tree one children after) boxed parent handed =
      let label = styled_node style start parent one.key one.label in
      let inner = style_within style start parent one.key one.label in
      let inside = styled_trees style start inner children in
      let has = is_boxed boxed label in
      let first = within table by_peers has one.key label handed in
      let behind = past_trees table by_peers has first inside in
      let next = past_node table by_peers has one.key label handed behind in
      let below : List (ℕ × ElementRecord) = records table by_peers has first inside in
      let here : List (ℕ × ElementRecord) = records_of table by_peers has one.key label handed behind in
      let beside : List (ℕ × ElementRecord) = records table by_peers boxed next (styled_trees style start parent after) in
      three (length below) (length here) (length beside)
      (length-append below (here ++ beside) ∙ ap (λ n. length below + n) (length-append here beside))
      (trees-length children has inner first) (node-length has parent one.key one.label handed behind) (trees-length after boxed parent next)
    where
      three : {all : ℕ} (below here beside : ℕ) {inside own after : ℕ} → all ≡ below + (here + beside) → below ≡ inside → here ≡ own → beside ≡ after → all ≡ own + (inside + after)
      three below here beside all is own after = omega arith

  trees-counted : (key : ℕ) (trees : Forest (Keyed Node)) (boxed : Bool) (parent : Option Style) (handed : Handed)
      → key_count key (records table by_peers boxed handed (styled_trees style start parent trees)) ≤ times key trees
  trees-counted key Empty boxed parent handed = omega arith
  trees-counted key (Tree one children after) boxed parent handed =
      let label = styled_node style start parent one.key one.label in
      let inner = style_within style start parent one.key one.label in
      let inside = styled_trees style start inner children in
      let has = is_boxed boxed label in
      let first = within table by_peers has one.key label handed in
      let behind = past_trees table by_peers has first inside in
      let next = past_node table by_peers has one.key label handed behind in
      let below : List (ℕ × ElementRecord) = records table by_peers has first inside in
      let here : List (ℕ × ElementRecord) = records_of table by_peers has one.key label handed behind in
      let beside : List (ℕ × ElementRecord) = records table by_peers boxed next (styled_trees style start parent after) in
      three (key_count key below) (key_count key here) (key_count key beside)
      (key_count-append key below (here ++ beside) ∙ ap (λ n. key_count key below + n) (key_count-append key here beside))
      (trees-counted key children has inner first) (node-counted key has parent one.key one.label handed behind) (trees-counted key after boxed parent next)
    where
      three : {all : ℕ} (below here beside : ℕ) {inside own after : ℕ} → all ≡ below + (here + beside) → below ≤ inside → here ≤ own → beside ≤ after → all ≤ own + (inside + after)
      three below here beside all is own after = omega arith

module _ (table : List CounterStyle) (style : ℕ → Option Style → ElementStyle) (document : Forest (Keyed Node)) where
  pub length-document_records : length (document_records table style document) ≡ element_count (without_keys document)
  length-document_records = trees-length table style (document_starts table style document) document true None at_root ∙ sym (count-without_keys document)

  -- and of what is made of them under the same keys
  pub records_once : {W : Type 0} (f : ElementRecord → W) → HasDistinctKeys document
      → HasKeysOnce (map (λ (element : ℕ × ElementRecord). (element.0, f element.1)) (document_records table style document))
  records_once f distinct =
      once_counted (map (λ (element : ℕ × ElementRecord). (element.0, f element.1)) (document_records table style document))
      (λ key.
      omega (arith, key_count-mapped f key (document_records table style document), trees-counted table style (document_starts table style document) key document true None at_root, distinct key))
