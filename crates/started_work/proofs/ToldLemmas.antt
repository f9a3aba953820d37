-- An element that a merge does not enter is told what is held of it, where it is handed the same, also where others are turned.
-- Throughout, i is what a level is handed, j what it was handed, n a node, c what is under it, r what is after it, g trees, m a merge,
-- and k a key.
use Rattle.std.proofs.Common.{◌≡◌, ◌||◌, ◌&&◌, ◌++◌, ◌∙◌, ℕ, Bool, true, false, cond, List, [], ◌∷◌, Option, Some, None, refl, sym, ap, eq-eqb}
use Rattle.std.specs.Prelude.{All, is_some}
use Rattle.std.proofs.lemmas.Bool.{true≢false}
use Rattle.std.proofs.lemmas.List.Elements.{All-append, All-cons, All-head, All-nil, All-weaker}
use Rattle.forest.specs.Forest.{Forest, Empty, Tree}
use Rattle.forest.specs.Keys.{Keyed}
use Rattle.plain_types.specs.declared.counter_style.CounterStyle.{CounterStyle}
use Rattle.plain_types.specs.declared.node.Node.{Node}
use Rattle.plain_types.specs.declared.node.Node.TheVariants as node
use Rattle.plain_types.specs.declared.style.Style.{Style}
use Rattle.box_eval.specs.Evaluation.{StyledNode, style_within, styled_node, styled_trees}
use Rattle.merged_walk.specs.Entries.{Holds}
use Rattle.merged_walk.specs.Evaluators.{Evaluator, input, inputs, past_all, told, told_all}
use Rattle.merged_walk.specs.Merges.{Merge, End, Kept, Turned, Gone, Come, has_place, new_of, old_of}
use Rattle.merged_walk.proofs.EntryLaws.{all-left, all-right}
use Rattle.merged_walk.proofs.MergeLaws.{old-new}
use Rattle.surroundings.specs.declared.surroundings.Surroundings.{Surroundings}
use Rattle.surroundings.specs.declared.told.Told.{Told}
use Rattle.surroundings.specs.StyledEvaluators.{inside_node, past_styled, styled_evaluator}
use Rattle.surroundings.specs.StyledEvaluators.{is_element as is_styled_element}
use Rattle.surroundings.proofs.Asking.{past-some}
use Rattle.edit_merge.specs.EditMerges.{is_element}
use Rattle.styled_merge.specs.Stays.{HasSameStyle, IsUnturned, OfEachKept, OfElement}
use Rattle.styled_merge.specs.StyledMerges.{Starting, Styling, styled_by, styled_merge}
use Rattle.styled_merge.proofs.ShapeLaws.{has-shape}
use Rattle.edit_work.specs.KeyedSources.{element_key, elements_in, is_among}
use Rattle.reference_reach.specs.MergedNodes.{entered_elements}
use Rattle.start_reach.specs.TurnedElements.{turned_where}
use Rattle.start_reach.proofs.TurnedLaws.{at_node}
use Rattle.kept_elements.proofs.KeptTold.{left_among, right_among}
use Rattle.started_work.proofs.HandedLemmas.{Entry, Has, kept-some, parts-apart, turned-some}

-- the first of keys is among them
first-among : (k : ℕ) (more : List ℕ) → is_among (k ∷ more) k ≡ true
first-among k more = ap (λ b. b || is_among more k) (eq-eqb k k refl)

-- a key apart from what a merge enters is apart from what is under a node and after it
parts-out : (k : ℕ) (own : List ℕ) (c r : Merge Node) → is_among (own ++ (entered_elements c ++ entered_elements r)) k ≡ false
    → (is_among (entered_elements c) k ≡ false) × (is_among (entered_elements r) k ≡ false)
parts-out k own c r out = parts-apart k (entered_elements c) (entered_elements r) (parts-apart k own (entered_elements c ++ entered_elements r) out).1

own-entered : (k : ℕ) (n : Keyed Node) (more : List ℕ) (b : Bool) → is_among (cond b (n.key ∷ []) []) k ≡ true → is_among (n.key ∷ more) k ≡ true
own-entered k n more true h = left_among k (n.key ∷ []) more h
own-entered k n more false h = absurd (true≢false (sym h))

not-entered : (n : Keyed Node) (c r : Merge Node) (b : Bool) → has_place c ≡ b → is_among (cond b (n.key ∷ []) [] ++ (entered_elements c ++ entered_elements r)) n.key ≡ false → has_place c ≡ false
not-entered n c r true is out = absurd (true≢false (sym (first-among n.key (entered_elements c ++ entered_elements r)) ∙ out))
not-entered n c r false is out = is

module _ (table : List CounterStyle) where
  abbrev e : Evaluator StyledNode Told (Option Surroundings)
  e = styled_evaluator table

  -- What is told of trees is told of their elements.
  module _ (style : Styling) (start : Starting) where
    listed-own : (parent : Option Style) (n : Keyed Node) (i b : Option Surroundings)
        → All (λ (x : ℕ × Told). is_among (element_key n) x.0 ≡ true) (told e (styled_by style start parent n) i b)
    listed-own parent n i b = by n.label
      where
        by : (label : Node) → All (λ (x : ℕ × Told). is_among (cond (is_element label) (n.key ∷ []) []) x.0 ≡ true)
            (cond (is_styled_element (styled_node style start parent n.key label)) ((n.key, e.kept (styled_by style start parent n) i b) ∷ []) [])
        by (node.Element name attrs) =
            All-cons (λ (x : ℕ × Told). is_among (n.key ∷ []) x.0 ≡ true) (n.key, e.kept (styled_by style start parent n) i b) [] (first-among n.key [])
            (All-nil (λ (x : ℕ × Told). is_among (n.key ∷ []) x.0 ≡ true))
        by (node.Text characters) = All-nil (λ (x : ℕ × Told). is_among [] x.0 ≡ true)

    pub told-listed : (parent : Option Style) (g : Forest (Keyed Node)) (i : Option Surroundings)
        → All (λ (x : ℕ × Told). is_among (elements_in g) x.0 ≡ true) (told_all e i (styled_trees style start parent g))
    told-listed parent Empty i = All-nil (λ (x : ℕ × Told). is_among [] x.0 ≡ true)
    told-listed parent (Tree n c r) i =
        let one = styled_by style start parent n in
        let below = styled_trees style start (style_within style start parent n.key n.label) c in
        let beside = styled_trees style start parent r in
        let inside = e.within one i in
        let x = past_all e inside below in
        let behind = e.past one i x in
        let own = element_key n in
        let under = elements_in c in
        let after = elements_in r in
        let Listed : ℕ × Told → Type 0 = λ (x : ℕ × Told). is_among (own ++ (under ++ after)) x.0 ≡ true in
        All-append Listed (told_all e inside below) (told e one i x ++ told_all e behind beside)
        (All-weaker (λ (y : ℕ × Told). is_among under y.0 ≡ true) Listed (λ y h. right_among y.0 own (under ++ after) (left_among y.0 under after h)) (told_all e inside below)
        (told-listed (style_within style start parent n.key n.label) c inside))
        (All-append Listed (told e one i x) (told_all e behind beside)
        (All-weaker (λ (y : ℕ × Told). is_among own y.0 ≡ true) Listed (λ y h. left_among y.0 own (under ++ after) h) (told e one i x) (listed-own parent n i x))
        (All-weaker (λ (y : ℕ × Told). is_among after y.0 ≡ true) Listed (λ y h. right_among y.0 own (under ++ after) (right_among y.0 under after h)) (told_all e behind beside) (told-listed parent r behind)))

  module _ (old new : Styling) (was_start start : Starting) where
    abbrev styled_of : Option Style → Merge Node → Merge StyledNode
    styled_of = styled_merge old new was_start start

    abbrev inner : Option Style → Keyed Node → Option Style
    inner parent n = style_within old was_start parent n.key n.label

    -- a node that is turned hands something on where it did
    abbrev pub IsSteady : Option Style → Merge Node → Type 0
    IsSteady parent End = Unit {0}
    IsSteady parent (Kept n c r) = IsSteady (inner parent n) c × IsSteady parent r
    IsSteady parent (Turned was n c r) =
        ((i j : Option Surroundings) → is_some i ≡ is_some j → is_some (inside_node table (styled_by new start parent n) i) ≡ is_some (inside_node table (styled_by old was_start parent was) j))
        × IsSteady (inner parent was) c
        × IsSteady parent r
    IsSteady parent (Gone n c r) = IsSteady parent r
    IsSteady parent (Come n c r) = IsSteady parent r

    module _ (p : ℕ → Bool) where
      steady-node : (b : Bool) (n : Keyed Node) (c r : Merge Node) (parent : Option Style) → OfElement (HasSameStyle old new) n.key n.label → IsSteady (inner parent n) c → IsSteady parent r
          → IsSteady parent (at_node is_element b n c r)
      steady-node true n c r parent same below beside = (λ i j some. turned-some table old new was_start start n parent i j same some, below, beside)
      steady-node false n c r parent same below beside = (below, beside)

      pub steady-turned : (m : Merge Node) (parent : Option Style) → IsUnturned m → OfEachKept (HasSameStyle old new) m → IsSteady parent (turned_where is_element p m)
      steady-turned End parent unturned same = tt
      steady-turned (Kept n c r) parent unturned same =
          steady-node (is_element n.label && p n.key) n (turned_where is_element p c) (turned_where is_element p r) parent same.0
          (steady-turned c (inner parent n) unturned.0 same.1) (steady-turned r parent unturned.1 same.2)
      steady-turned (Turned was n c r) parent unturned same = absurd unturned.0
      steady-turned (Gone n c r) parent unturned same = steady-turned r parent unturned same
      steady-turned (Come n c r) parent unturned same = steady-turned r parent unturned same

    module _ (held : ℕ → Option Told) (before now : ℕ → Option Surroundings) (Same : ℕ → Type 0)
        (same : (k : ℕ) → Same k → (a b : Surroundings) → now k ≡ Some a → before k ≡ Some b → a ≡ b) where
      -- an element that is not entered, and is handed the same, is told as it is held
      abbrev pub IsHeld : Merge Node → ℕ × Told → Type 0
      IsHeld m x = is_among (entered_elements m) x.0 ≡ false → Same x.0 → held x.0 ≡ Some x.1

      abbrev has : ℕ × Told → Type 0
      has x = held x.0 ≡ Some x.1

      handed-same : (k : ℕ) (i j : Option Surroundings) → is_some i ≡ is_some j → Same k → Has now ((k, i) ∷ []) → Has before ((k, j) ∷ []) → i ≡ j
      handed-same k None None some is hi hj = refl
      handed-same k None (Some b) some is hi hj = absurd (cc some)
      handed-same k (Some a) None some is hi hj = absurd (cc some)
      handed-same k (Some a) (Some b) some is hi hj =
          ap (λ (s : Surroundings). Some s) (same k is a b (All-head (Entry now) (k, Some a) [] hi a refl) (All-head (Entry before) (k, Some b) [] hj b refl))

      -- the node itself
      held-own : (n : Keyed Node) (c r : Merge Node) (parent : Option Style) (i j : Option Surroundings) → is_some i ≡ is_some j → (b : Bool)
          → Has now (cond b ((n.key, i) ∷ []) []) → Has before (cond b ((n.key, j) ∷ []) [])
          → Holds held (cond b ((n.key, e.kept (styled_by old was_start parent n) j (past_all e (inside_node table (styled_by old was_start parent n) j) (old_of (styled_of (inner parent n) c)))) ∷ []) [])
          → All (IsHeld (Kept n c r))
          (cond b ((n.key, e.kept (styled_by old was_start parent n) i (past_all e (inside_node table (styled_by old was_start parent n) i) (new_of (styled_of (inner parent n) c)))) ∷ []) [])
      held-own n c r parent i j some false hi hj holds = All-nil (IsHeld (Kept n c r))
      held-own n c r parent i j some true hi hj holds =
          let one = styled_by old was_start parent n in
          let below = styled_of (inner parent n) c in
          let entry : ℕ × Told = (n.key, e.kept one i (past_all e (inside_node table one i) (new_of below))) in
          All-cons (IsHeld (Kept n c r)) entry []
          (λ out is.
          let none : has_place c ≡ false = not-entered n c r (has_place c) refl out in
          let trees : old_of below ≡ new_of below = old-new below ((has-shape old new was_start start (inner parent n) c).has_place ∙ none) in
          let handed : j ≡ i = sym (handed-same n.key i j some is hi hj) in
          let was : held n.key ≡ Some (e.kept one j (past_all e (inside_node table one j) (old_of below))) =
          All-head has (n.key, e.kept one j (past_all e (inside_node table one j) (old_of below))) [] holds in
          was ∙ (λ t. Some (e.kept one (handed t) (past_all e (inside_node table one (handed t)) (trees t)))))
          (All-nil (IsHeld (Kept n c r)))

      -- what comes is entered
      held-come : (n : Keyed Node) (c : Forest (Keyed Node)) (r : Merge Node) (xs : List (ℕ × Told)) → All (λ (x : ℕ × Told). is_among (elements_in (Tree n c Empty)) x.0 ≡ true) xs
          → All (IsHeld (Come n c r)) xs
      held-come n c r xs come =
          let comes = elements_in (Tree n c Empty) in
          All-weaker (λ (x : ℕ × Told). is_among comes x.0 ≡ true) (IsHeld (Come n c r)) (λ x is out _. absurd (true≢false (sym (left_among x.0 comes (entered_elements r) is) ∙ out))) xs come

      pub all-held : (m : Merge Node) (parent : Option Style) (i j : Option Surroundings) → IsSteady parent m → is_some i ≡ is_some j
          → Has now (inputs e i (new_of (styled_of parent m))) → Has before (inputs e j (old_of (styled_of parent m)))
          → Holds held (told_all e j (old_of (styled_of parent m))) → All (IsHeld m) (told_all e i (new_of (styled_of parent m)))
      all-held End parent i j steady some hi hj holds = All-nil (IsHeld End)
      all-held (Kept n c r) parent i j steady some hi hj holds =
          let one = styled_by old was_start parent n in
          let below = styled_of (inner parent n) c in
          let beside = styled_of parent r in
          let x = past_all e (inside_node table one i) (new_of below) in
          let y = past_all e (inside_node table one j) (old_of below) in
          let inside = inputs e (inside_node table one i) (new_of below) in
          let was_inside = inputs e (inside_node table one j) (old_of below) in
          let after = inputs e (past_styled table one i x) (new_of beside) in
          let was_after = inputs e (past_styled table one j y) (old_of beside) in
          let rest_i = all-right (Entry now) (input e one i) (inside ++ after) hi in
          let rest_j = all-right (Entry before) (input e one j) (was_inside ++ was_after) hj in
          let told_below = told_all e (inside_node table one i) (new_of below) in
          let told_beside = told_all e (past_styled table one i x) (new_of beside) in
          let was_below = told_all e (inside_node table one j) (old_of below) in
          let was_beside = told_all e (past_styled table one j y) (old_of beside) in
          let rest_held = all-right has was_below (told e one j y ++ was_beside) holds in
          let own : List ℕ = cond (has_place c) (n.key ∷ []) [] in
          All-append (IsHeld (Kept n c r)) told_below (told e one i x ++ told_beside)
          (All-weaker (IsHeld c) (IsHeld (Kept n c r)) (λ z h out is. h (parts-out z.0 own c r out).0 is) told_below
          (all-held c (inner parent n) (inside_node table one i) (inside_node table one j) steady.0 (kept-some table one i j some) (all-left (Entry now) inside after rest_i)
          (all-left (Entry before) was_inside was_after rest_j) (all-left has was_below (told e one j y ++ was_beside) holds)))
          (All-append (IsHeld (Kept n c r)) (told e one i x) told_beside
          (held-own n c r parent i j some (is_styled_element one.label) (all-left (Entry now) (input e one i) (inside ++ after) hi) (all-left (Entry before) (input e one j) (was_inside ++ was_after) hj)
          (all-left has (told e one j y) was_beside rest_held))
          (All-weaker (IsHeld r) (IsHeld (Kept n c r)) (λ z h out is. h (parts-out z.0 own c r out).1 is) told_beside
          (all-held r parent (past_styled table one i x) (past_styled table one j y) steady.1 (past-some table one i x ∙ some ∙ sym (past-some table one j y)) (all-right (Entry now) inside after rest_i)
          (all-right (Entry before) was_inside was_after rest_j) (all-right has (told e one j y) was_beside rest_held))))
      all-held (Turned was n c r) parent i j steady some hi hj holds =
          let one = styled_by new start parent n in
          let other = styled_by old was_start parent was in
          let below = styled_of (inner parent was) c in
          let beside = styled_of parent r in
          let x = past_all e (inside_node table one i) (new_of below) in
          let y = past_all e (inside_node table other j) (old_of below) in
          let inside = inputs e (inside_node table one i) (new_of below) in
          let was_inside = inputs e (inside_node table other j) (old_of below) in
          let after = inputs e (past_styled table one i x) (new_of beside) in
          let was_after = inputs e (past_styled table other j y) (old_of beside) in
          let rest_i = all-right (Entry now) (input e one i) (inside ++ after) hi in
          let rest_j = all-right (Entry before) (input e other j) (was_inside ++ was_after) hj in
          let told_below = told_all e (inside_node table one i) (new_of below) in
          let told_beside = told_all e (past_styled table one i x) (new_of beside) in
          let was_below = told_all e (inside_node table other j) (old_of below) in
          let was_beside = told_all e (past_styled table other j y) (old_of beside) in
          let rest_held = all-right has was_below (told e other j y ++ was_beside) holds in
          All-append (IsHeld (Turned was n c r)) told_below (told e one i x ++ told_beside)
          (All-weaker (IsHeld c) (IsHeld (Turned was n c r)) (λ z h out is. h (parts-out z.0 (n.key ∷ []) c r out).0 is) told_below
          (all-held c (inner parent was) (inside_node table one i) (inside_node table other j) steady.1 (steady.0 i j some) (all-left (Entry now) inside after rest_i)
          (all-left (Entry before) was_inside was_after rest_j) (all-left has was_below (told e other j y ++ was_beside) holds)))
          (All-append (IsHeld (Turned was n c r)) (told e one i x) told_beside
          (All-weaker (λ (z : ℕ × Told). is_among (element_key n) z.0 ≡ true) (IsHeld (Turned was n c r))
          (λ z its out _. absurd (true≢false (sym (own-entered z.0 n (entered_elements c ++ entered_elements r) (is_element n.label) its) ∙ out))) (told e one i x) (listed-own new start parent n i x))
          (All-weaker (IsHeld r) (IsHeld (Turned was n c r)) (λ z h out is. h (parts-out z.0 (n.key ∷ []) c r out).1 is) told_beside
          (all-held r parent (past_styled table one i x) (past_styled table other j y) steady.2 (past-some table one i x ∙ some ∙ sym (past-some table other j y)) (all-right (Entry now) inside after rest_i)
          (all-right (Entry before) was_inside was_after rest_j) (all-right has (told e other j y) was_beside rest_held))))
      all-held (Gone n c r) parent i j steady some hi hj holds =
          let gone = styled_by old was_start parent n in
          let children = styled_trees old was_start (inner parent n) c in
          let y = past_all e (inside_node table gone j) children in
          let was_inside = inputs e (inside_node table gone j) children in
          let was_after = inputs e (past_styled table gone j y) (old_of (styled_of parent r)) in
          let was_below = told_all e (inside_node table gone j) children in
          let was_beside = told_all e (past_styled table gone j y) (old_of (styled_of parent r)) in
          all-held r parent i (past_styled table gone j y) steady (some ∙ sym (past-some table gone j y)) hi
          (all-right (Entry before) was_inside was_after (all-right (Entry before) (input e gone j) (was_inside ++ was_after) hj))
          (all-right has (told e gone j y) was_beside (all-right has was_below (told e gone j y ++ was_beside) holds))
      all-held (Come n c r) parent i j steady some hi hj holds =
          let it = styled_by new start parent n in
          let within = style_within new start parent n.key n.label in
          let children = styled_trees new start within c in
          let x = past_all e (inside_node table it i) children in
          let inside = inputs e (inside_node table it i) children in
          let after = inputs e (past_styled table it i x) (new_of (styled_of parent r)) in
          let told_below = told_all e (inside_node table it i) children in
          let told_beside = told_all e (past_styled table it i x) (new_of (styled_of parent r)) in
          let comes = elements_in (Tree n c Empty) in
          let Comes : ℕ × Told → Type 0 = λ (z : ℕ × Told). is_among comes z.0 ≡ true in
          All-append (IsHeld (Come n c r)) told_below (told e it i x ++ told_beside)
          (held-come n c r told_below
          (All-weaker (λ (z : ℕ × Told). is_among (elements_in c) z.0 ≡ true) Comes (λ z h. right_among z.0 (element_key n) (elements_in c ++ []) (left_among z.0 (elements_in c) [] h)) told_below
          (told-listed new start within c (inside_node table it i))))
          (All-append (IsHeld (Come n c r)) (told e it i x) told_beside
          (held-come n c r (told e it i x)
          (All-weaker (λ (z : ℕ × Told). is_among (element_key n) z.0 ≡ true) Comes (λ z h. left_among z.0 (element_key n) (elements_in c ++ []) h) (told e it i x) (listed-own new start parent n i x)))
          (All-weaker (IsHeld r) (IsHeld (Come n c r)) (λ z h out is. h (parts-apart z.0 comes (entered_elements r) out).1 is) told_beside
          (all-held r parent (past_styled table it i x) j steady (past-some table it i x ∙ some) (all-right (Entry now) inside after (all-right (Entry now) (input e it i) (inside ++ after) hi)) hj holds)))
