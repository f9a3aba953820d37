-- Nodes counted one by one, in tree order.
use Rattle.std.proofs.Common.{◌≡◌, ◌==◌, ◌<◌, ◌≤◌, ◌+◌, ◌-◌, ℕ, zero, suc, cond, List, [], ◌∷◌, ◌++◌, Option, Some, None, length, take, slice_get, refl, sym, ap, ◌∙◌, ◌⊎◌, inl, inr, arith, add-one, eq-eqb, length-append}
use Rattle.std.specs.Prelude.{is_some, option_and_then}
use Rattle.std.specs.List.{position_or_len}
use Rattle.std.specs.Option.{option_map_or}
use Rattle.std.proofs.lemmas.Bool.{cases_Bool}
use Rattle.std.proofs.lemmas.Option.{none-some, same_Some, slice_get_cases}
use Rattle.forest.specs.Forest.{Forest, Empty, Tree, size, weigh}
use Rattle.forest.specs.Keys.{HasDistinctKeys, Keyed, keys, times, without_keys}
use Rattle.forest.specs.Order.{next_in_order_of, place_of}
use Rattle.forest.specs.Spots.{IsLink, IsLive, Spot, label_of, spot}
use Rattle.forest.proofs.OrderLaws.{keys-tree, length-keys, place-within}
use Rattle.forest.proofs.SpotLaws.{distinct-parts, live-counted, spot-below, spot-beside, spot-root}
use Rattle.forest.proofs.WalkLaws.{key-at-place}
use Rattle.plain_types.specs.declared.box_kind.BoxKind.{BoxKind}
use Rattle.plain_types.specs.declared.box_kind.BoxKind.TheVariants as kind
use Rattle.plain_types.specs.declared.node.Node.{Node}
use Rattle.generated_texts.specs.declared.entry.BoxText.{BoxText}
use Rattle.generated_texts.specs.declared.entry.NodeEntry.{NodeEntry}
use Rattle.generated_texts.specs.Lines.{first_lines, last_lines, lines_of, tree_lines}
use Rattle.node_arena.specs.Nodes.{name_of, node_name}
use Rattle.marker_engine.specs.declared.census.Census.{Census}
use Rattle.document_walk.proofs.ElementLemmas.{weigh-without_keys}
use Rattle.document_walk.specs.Elements.{element_count, one_where}
use Rattle.marker_engine.specs.Census.{boxes_in, lines_in, saturated}
use Rattle.marker_engine.proofs.Counting.{census_before, nodes_before, total, total_before, with_node, element_weight}

-- Lists of keys.

-- how often a key is among others
abbrev among : ℕ → List ℕ → ℕ
among key [] = 0
among key (first ∷ rest) = cond (first == key) 1 0 + among key rest

among_append : (key : ℕ) (some others : List ℕ) → among key (some ++ others) ≡ among key some + among key others
among_append key [] others = omega arith
among_append key (first ∷ some) others = let more = among_append key some others in omega (arith, more)

there : (all : List ℕ) (place key : ℕ) → slice_get all place ≡ Some key → 0 < among key all
there [] place key at = absurd (none-some key at)
there (first ∷ rest) zero key at = rw (eq-eqb first key (same_Some _ _ at)) (omega arith)
there (first ∷ rest) (suc place) key at = let later = there rest place key at in omega (arith, later)

-- a key that is there once has one place
one_place : (all : List ℕ) (place key : ℕ) → among key all ≤ 1 → slice_get all place ≡ Some key → position_or_len (λ other. other == key) all ≡ place
one_place [] place key once at = absurd (none-some key at)
one_place (first ∷ rest) zero key once at = rw (eq-eqb first key (same_Some _ _ at)) refl
one_place (first ∷ rest) (suc place) key once at =
    elim (cases_Bool (first == key)) [
      | inl e ↦ absurd (let twice : 1 + among key rest ≤ 1 = rw e at once in let later = there rest place key at in omega (arith, twice, later))
      | inr e ↦ let left : 0 + among key rest ≤ 1 = rw e at once in rw e (ap (λ n. 1 + n) (one_place rest place key (omega (arith, left)) at) ∙ omega arith)
    ]

module _ (weight : ℕ → ℕ) where
  total-append : (some others : List ℕ) → total weight (some ++ others) ≡ total weight some + total weight others
  total-append [] others = omega arith
  total-append (key ∷ some) others = let more = total-append some others in omega (arith, more)

  total-next : (all : List ℕ) (place key : ℕ) → slice_get all place ≡ Some key → total weight (take (suc place) all) ≡ total weight (take place all) + weight key
  total-next [] place key at = absurd (none-some key at)
  total-next (first ∷ rest) zero key at = rw (same_Some first key at) (omega arith)
  total-next (first ∷ rest) (suc place) key at = let later = total-next rest place key at in omega (arith, later)

  total-all : (all : List ℕ) (place : ℕ) → length all ≤ place → total weight (take place all) ≡ total weight all
  total-all [] zero past = refl
  total-all [] (suc place) past = refl
  total-all (key ∷ rest) zero past = absurd (omega arith)
  total-all (key ∷ rest) (suc place) past = ap (λ n. weight key + n) (total-all rest place (omega arith))

  -- the weights of a document's keys
  pub weigh-keys : {L : Type 0} (trees : Forest (Keyed L)) → weigh (λ (node : Keyed L). weight node.key) trees ≡ total weight (keys trees)
  weigh-keys Empty = refl
  weigh-keys (Tree node children after) =
      let below = weigh-keys children in
      let beside = weigh-keys after in
      let both = total-append (keys children) (keys after) in
      let all = ap (total weight) (keys-tree node children after) in
      omega (arith, below, beside, both, all)

-- Sums end at the end of a usize.
saturated-more : (sum more : ℕ) → saturated (saturated sum + more) ≡ saturated (sum + more)
saturated-more sum more = grind arith

module _ {L : Type 0} where
  times_among : (trees : Forest (Keyed L)) (key : ℕ) → times key trees ≡ among key (keys trees)
  times_among Empty key = refl
  times_among (Tree node children after) key =
      let below = times_among children key in
      let beside = times_among after key in
      let both = among_append key (keys children) (keys after) in
      let all = ap (among key) (keys-tree node children after) in
      omega (arith, below, beside, both, all)

  -- each node of a document is one of its keys
  abbrev EachNode : (Keyed L → Type 0) → Forest (Keyed L) → Type 0
  EachNode P Empty = Unit {0}
  EachNode P (Tree node children after) = P node × (EachNode P children × EachNode P after)

  each_weaker : (P Q : Keyed L → Type 0) → ((node : Keyed L) → P node → Q node) → (trees : Forest (Keyed L)) → EachNode P trees → EachNode Q trees
  each_weaker P Q more Empty all = tt
  each_weaker P Q more (Tree node children after) all = (more node all.0, (each_weaker P Q more children all.1.0, each_weaker P Q more after all.1.1))

  abbrev IsSpotOf : Option ℕ → List (Keyed L) → Forest (Keyed L) → Keyed L → Type 0
  IsSpotOf parent earlier trees node = (s : Spot L) × (spot parent earlier trees node.key ≡ Some s) × (s.label ≡ node.label)

  spots : (parent : Option ℕ) (earlier : List (Keyed L)) (trees : Forest (Keyed L)) → HasDistinctKeys trees → EachNode (IsSpotOf parent earlier trees) trees
  spots parent earlier Empty distinct = tt
  spots parent earlier (Tree node children after) distinct =
      let parts = distinct-parts node children after distinct in (
        (record { parent = parent; earlier = earlier; label = node.label; children = children; after = after }, spot-root parent earlier node children after, refl),
        (
          each_weaker (IsSpotOf (Some node.key) [] children) (IsSpotOf parent earlier (Tree node children after))
              (λ other at. (at.0, spot-below parent earlier node children after other.key at.0 distinct at.1, at.2)) children (spots (Some node.key) [] children parts.0),
          each_weaker (IsSpotOf parent (earlier ++ node ∷ []) after) (IsSpotOf parent earlier (Tree node children after))
              (λ other at. (at.0, spot-beside parent earlier node children after other.key at.0 distinct at.1, at.2)) after (spots parent (earlier ++ node ∷ []) after parts.1),
        ),
      )

  weigh-same : (one other : Keyed L → ℕ) (trees : Forest (Keyed L)) → EachNode (λ node. one node ≡ other node) trees → weigh one trees ≡ weigh other trees
  weigh-same one other Empty all = refl
  weigh-same one other (Tree node children after) all =
      let here = all.0 in
      let below = weigh-same one other children all.1.0 in
      let beside = weigh-same one other after all.1.1 in
      omega (arith, here, below, beside)

  -- the label of a node, by its key
  pub weigh-labels : (weight : Option L → ℕ) (trees : Forest (Keyed L)) → HasDistinctKeys trees
      → weigh (λ (node : Keyed L). weight (Some node.label)) trees ≡ weigh (λ (node : Keyed L). weight (label_of trees node.key)) trees
  weigh-labels weight trees distinct =
      weigh-same (λ node. weight (Some node.label)) (λ node. weight (label_of trees node.key)) trees
      (each_weaker (IsSpotOf None [] trees) (λ node. weight (Some node.label) ≡ weight (label_of trees node.key)) (λ node at. rw at.1 (ap (λ l. weight (Some l)) (sym at.2))) trees (spots None [] trees distinct))

module _ (f : Forest (Keyed Node)) (d : HasDistinctKeys f) where
  -- from one node to the next in tree order
  next_place : (key : ℕ) → IsLive f key → nodes_before f (next_in_order_of f key) ≡ suc (place_of f key)
  next_place key live = by (slice_get_cases (keys f) (place_of f key + 1)).1
    where
      within : place_of f key < size f
      within = place-within f key (live-counted f key live)

      many : length (keys f) ≡ size f
      many = length-keys f

      by : ((next : ℕ) × (place_of f key + 1 < length (keys f)) × (slice_get (keys f) (place_of f key + 1) ≡ Some next) × (lib.ListN.get_or (keys f) (place_of f key + 1) next ≡ next))
          ⊎ ((length (keys f) ≤ place_of f key + 1) × (slice_get (keys f) (place_of f key + 1) ≡ None))
          → nodes_before f (next_in_order_of f key) ≡ suc (place_of f key)
      by (inl at) =
          let once : among at.0 (keys f) ≤ 1 = omega (arith, times_among f at.0, d at.0) in
          rw at.2 (one_place (keys f) (place_of f key + 1) at.0 once at.2 ∙ add-one (place_of f key))
      by (inr past) = rw past.1 (omega (arith, past.0, within, many))

  module _ (weight : ℕ → ℕ) where
    total-turn : (key : ℕ) → IsLive f key → total_before f weight (next_in_order_of f key) ≡ total_before f weight (Some key) + weight key
    total-turn key live =
        ap (λ n. total weight (take n (keys f))) (next_place key live)
        ∙ total-next weight (keys f) (place_of f key) key (key-at-place f key d live)

    total-end : total_before f weight None ≡ weigh (λ (node : Keyed Node). weight node.key) f
    total-end = total-all weight (keys f) (size f) (let many = length-keys f in omega (arith, many)) ∙ sym (weigh-keys weight f)

  -- the elements of a document, by the keys of its nodes
  pub element-weights : weigh (λ (node : Keyed Node). element_weight f node.key) f ≡ element_count (without_keys f)
  element-weights =
      let named : Option Node → ℕ = λ o. one_where (is_some (option_and_then node_name o)) in
      sym (weigh-labels named f d) ∙ sym (weigh-without_keys (λ (node : Node). one_where (is_some (node_name node))) f)

  -- at the end all are counted
  pub elements-end : total_before f (element_weight f) None ≡ element_count (without_keys f)
  elements-end = total-end (element_weight f) ∙ element-weights

  module _ (entry_of : ℕ → Option NodeEntry) where
    -- The turn of the code.
    pub turn : (key : ℕ) (link next : Option ℕ) (before now : Census) (entry : Option NodeEntry) → link ≡ Some key → IsLink f link
        → before ≡ census_before f entry_of link → is_some entry ≡ is_some (name_of f key) → entry ≡ entry_of key → now ≡ with_node before entry → next ≡ next_in_order_of f key
        → (now ≡ census_before f entry_of next) × ((size f - nodes_before f next < size f - nodes_before f link) × (total_before f (element_weight f) next ≡ total_before f (element_weight f) link + element_weight f key))
    turn key link next before now entry at link_is was element kept is follows =
        let live : IsLive f key = rw at at link_is in
        let boxes : ℕ → ℕ = λ k. option_map_or boxes_in (entry_of k) 0 in
        let lines : ℕ → ℕ = λ k. option_map_or lines_in (entry_of k) 0 in
        let here : before ≡ census_before f entry_of (Some key) = rw at at was in
        let more : (weight : ℕ → ℕ) → total_before f weight next ≡ total_before f weight (Some key) + weight key =
        λ weight. ap (total_before f weight) follows ∙ total-turn weight key live in
        let added : (weight : ℕ → ℕ) → saturated (saturated (total_before f weight (Some key)) + weight key) ≡ saturated (total_before f weight next) =
        λ weight. saturated-more (total_before f weight (Some key)) (weight key) ∙ ap saturated (sym (more weight)) in
        let named : is_some (entry_of key) ≡ is_some (name_of f key) = ap is_some (sym kept) ∙ element in
        let counted : saturated (saturated (total_before f (element_weight f) (Some key)) + one_where (is_some (entry_of key))) ≡ saturated (total_before f (element_weight f) next) =
        ap (λ b. saturated (saturated (total_before f (element_weight f) (Some key)) + one_where b)) named ∙ added (element_weight f) in
        let later = next_place key live in
        let within = place-within f key (live-counted f key live) in (
          is ∙ (λ i. with_node (here i) (kept i)) ∙ (λ i. record { elements = counted i; boxes = added boxes i; lines = added lines i }),
          (
            rw (at, follows, later) (omega (arith, within)),
            more (element_weight f) ∙ ap (λ l. total_before f (element_weight f) l + element_weight f key) (sym at),
          ),
        )

    -- At the end all nodes are counted.

    one_line : (key : ℕ) (which : BoxKind) (box : Option BoxText) → length (lines_of f key which box) ≡ one_where (is_some box)
    one_line key which None = refl
    one_line key which (Some text) = refl

    node_lines : (key : ℕ) → length (first_lines f entry_of key) + length (last_lines f entry_of key) ≡ option_map_or lines_in (entry_of key) 0
    node_lines key = by (entry_of key)
      where
        by : (o : Option NodeEntry) → length (option_map_or (λ (e : NodeEntry). lines_of f key kind.Marker e.marker ++ lines_of f key kind.Before e.before) o [])
            + length (option_map_or (λ (e : NodeEntry). lines_of f key kind.After e.after) o []) ≡ option_map_or lines_in o 0
        by None = refl
        by (Some e) =
            let both = length-append (lines_of f key kind.Marker e.marker) (lines_of f key kind.Before e.before) in
            let marker = one_line key kind.Marker e.marker in
            let before = one_line key kind.Before e.before in
            let after = one_line key kind.After e.after in
            omega (arith, both, marker, before, after)

    pub line_count : (trees : Forest (Keyed Node)) → length (tree_lines f entry_of trees) ≡ weigh (λ (node : Keyed Node). option_map_or lines_in (entry_of node.key) 0) trees
    line_count Empty = refl
    line_count (Tree node children after) =
        let first = first_lines f entry_of node.key in
        let last = last_lines f entry_of node.key in
        let inside = tree_lines f entry_of children in
        let behind = tree_lines f entry_of after in
        let here = node_lines node.key in
        let below = line_count children in
        let beside = line_count after in
        let all = length-append first (inside ++ (last ++ behind)) in
        let most = length-append inside (last ++ behind) in
        let rest = length-append last behind in
        omega (arith, here, below, beside, all, most, rest)

    pub ends : (link : Option ℕ) (census : Census) → link ≡ None → census ≡ census_before f entry_of link
        → (census.elements ≡ saturated (element_count (without_keys f)))
        × ((census.boxes ≡ saturated (weigh (λ (node : Keyed Node). option_map_or boxes_in (entry_of node.key) 0) f))
        × (census.lines ≡ saturated (length (tree_lines f entry_of f))))
    ends link census at is =
        let all : census ≡ census_before f entry_of None = rw at at is in (
          ap (λ (c : Census). c.elements) all ∙ ap saturated elements-end,
          (
            ap (λ (c : Census). c.boxes) all ∙ ap saturated (total-end (λ key. option_map_or boxes_in (entry_of key) 0)),
            ap (λ (c : Census). c.lines) all ∙ ap saturated (total-end (λ key. option_map_or lines_in (entry_of key) 0) ∙ sym (line_count f)),
          ),
        )
