-- An element that a merge does not enter is told as before, where the same is handed as before. Throughout, n is a node, c what is
-- under it, r what is after it, g trees, m a merge, i and j what a level is handed now and was handed, and p the parent's style.
use Rattle.std.proofs.Common.{◌≡◌, ◌==◌, ◌∙◌, ◌||◌, ℕ, Bool, true, false, cond, List, [], ◌∷◌, ◌++◌, Option, None, refl, sym, ap, ap₂, eq-eqb, arith}
use Rattle.std.specs.Prelude.{All, Contains}
use Rattle.std.proofs.lemmas.Bool.{or_parts, true≢false}
use Rattle.std.proofs.lemmas.List.Elements.{All-append, All-cons, All-contains, All-nil, All-weaker, Contains-append_left, Contains-append_right}
use Rattle.std.proofs.lemmas.List.Folds.{list_any-append}
use Rattle.std.proofs.lemmas.Option.{same_Some}
use Rattle.forest.specs.Forest.{Forest, Empty, Tree}
use Rattle.forest.specs.Keys.{Keyed}
use Rattle.plain_types.specs.declared.counter_style.CounterStyle.{CounterStyle}
use Rattle.plain_types.specs.declared.node.Node.{Node}
use Rattle.plain_types.specs.declared.node.Node.TheVariants as node
use Rattle.plain_types.specs.declared.style.Style.{Style}
use Rattle.box_eval.specs.Evaluation.{StyledNode, style_within, styled_node, styled_trees}
use Rattle.merged_walk.specs.Evaluators.{Evaluator, past_all, told, told_all}
use Rattle.merged_walk.specs.Merges.{Merge, End, Kept, Turned, Gone, Come, has_place, new_of, old_of}
use Rattle.surroundings.specs.declared.surroundings.Surroundings.{Surroundings}
use Rattle.surroundings.specs.declared.told.Told.{Told}
use Rattle.surroundings.specs.declared.walked.Walked.{Walked}
use Rattle.surroundings.specs.StyledEvaluators.{is_element as is_styled_element, root_surroundings, styled_evaluator}
use Rattle.edit_merge.specs.EditMerges.{is_element}
use Rattle.edit_work.specs.KeyedSources.{element_key, elements_in, is_among}
use Rattle.styled_merge.specs.StyledMerges.{Starting, Styling, styled_by, styled_merge}
use Rattle.reference_reach.specs.MergedNodes.{entered_elements}
use Rattle.kept_elements.specs.News.{StyledMergesKeepTold}
use Rattle.kept_elements.proofs.AgainLemmas.{or_right}
use Rattle.kept_elements.proofs.RenewalLemmas.{kept_there, once_there}
use Rattle.kept_elements.proofs.RenewedLemmas.{once_keys}

pub left_among : (k : ℕ) (xs ys : List ℕ) → is_among xs k ≡ true → is_among (xs ++ ys) k ≡ true
left_among k xs ys there = list_any-append (λ other. other == k) xs ys ∙ ap (λ b. b || is_among ys k) there

pub right_among : (k : ℕ) (xs ys : List ℕ) → is_among ys k ≡ true → is_among (xs ++ ys) k ≡ true
right_among k xs ys there = list_any-append (λ other. other == k) xs ys ∙ or_right (is_among xs k) (is_among ys k) there

-- a key that is not listed is in neither part
parts_apart : (k : ℕ) (xs ys : List ℕ) → is_among (xs ++ ys) k ≡ false → (is_among xs k ≡ false) × (is_among ys k ≡ false)
parts_apart k xs ys apart = or_parts (is_among xs k) (is_among ys k) (sym (list_any-append (λ other. other == k) xs ys) ∙ apart)

module _ (table : List CounterStyle) where
  abbrev e : Evaluator StyledNode Told (Option Surroundings)
  e = styled_evaluator table

  -- what is told of trees is told of their elements

  module _ (style : Styling) (start : Starting) where
    listed_own : (p : Option Style) (n : Keyed Node) (i b : Option Surroundings)
        → All (λ (x : ℕ × Told). is_among (element_key n) x.0 ≡ true) (told e (styled_by style start p n) i b)
    listed_own p n i b = by n.label
      where
        by : (label : Node) → All (λ (x : ℕ × Told). is_among (cond (is_element label) (n.key ∷ []) []) x.0 ≡ true)
            (cond (is_styled_element (styled_node style start p n.key label)) ((n.key, e.kept (styled_by style start p n) i b) ∷ []) [])
        by (node.Element name attrs) =
            All-cons (λ (x : ℕ × Told). is_among (n.key ∷ []) x.0 ≡ true) (n.key, e.kept (styled_by style start p n) i b) [] (ap (λ b. b || false) (eq-eqb n.key n.key refl)) (All-nil (λ (x : ℕ × Told). is_among (n.key ∷ []) x.0 ≡ true))
        by (node.Text characters) = All-nil (λ (x : ℕ × Told). is_among [] x.0 ≡ true)

    told_listed : (p : Option Style) (g : Forest (Keyed Node)) (i : Option Surroundings) → All (λ (x : ℕ × Told). is_among (elements_in g) x.0 ≡ true) (told_all e i (styled_trees style start p g))
    told_listed p Empty i = All-nil (λ (x : ℕ × Told). is_among [] x.0 ≡ true)
    told_listed p (Tree n c r) i =
        let one = styled_by style start p n in
        let below = styled_trees style start (style_within style start p n.key n.label) c in
        let beside = styled_trees style start p r in
        let inside = e.within one i in
        let x = past_all e inside below in
        let behind = e.past one i x in
        let own = element_key n in
        let under = elements_in c in
        let after = elements_in r in
        let Listed : ℕ × Told → Type 0 = λ (x : ℕ × Told). is_among (own ++ (under ++ after)) x.0 ≡ true in
        All-append Listed (told_all e inside below) (told e one i x ++ told_all e behind beside)
        (All-weaker (λ (y : ℕ × Told). is_among under y.0 ≡ true) Listed (λ y h. right_among y.0 own (under ++ after) (left_among y.0 under after h)) (told_all e inside below)
        (told_listed (style_within style start p n.key n.label) c inside))
        (All-append Listed (told e one i x) (told_all e behind beside)
        (All-weaker (λ (y : ℕ × Told). is_among own y.0 ≡ true) Listed (λ y h. left_among y.0 own (under ++ after) h) (told e one i x) (listed_own p n i x))
        (All-weaker (λ (y : ℕ × Told). is_among after y.0 ≡ true) Listed (λ y h. right_among y.0 own (under ++ after) (right_among y.0 under after h)) (told_all e behind beside) (told_listed p r behind)))

  module _ (old new : Styling) (was_start start : Starting) where
    abbrev styled_of : Option Style → Merge Node → Merge StyledNode
    styled_of p m = styled_merge old new was_start start p m

    -- this was told of the element, and is told now where the same is handed
    record Was (before : List (ℕ × Told)) (x : ℕ × Told) : Type 0 where
      was : Told
      there : Contains before (x.0, was)
      same : was.walked ≡ x.1.walked → was ≡ x.1

    was_left : (xs ys : List (ℕ × Told)) (x : ℕ × Told) → Was xs x → Was (xs ++ ys) x
    was_left xs ys x w = record { was = w.was; there = Contains-append_left xs ys (x.0, w.was) w.there; same = w.same }

    was_right : (xs ys : List (ℕ × Told)) (x : ℕ × Told) → Was ys x → Was (xs ++ ys) x
    was_right xs ys x w = record { was = w.was; there = Contains-append_right xs ys (x.0, w.was) w.there; same = w.same }

    abbrev Stays : Merge Node → List (ℕ × Told) → ℕ × Told → Type 0
    Stays m before x = is_among (entered_elements m) x.0 ≡ false → Was before x

    -- the node itself, where it is kept
    kept_own : (n : Keyed StyledNode) (i j b d : Option Surroundings) → All (λ (x : ℕ × Told). Was (told e n j d) x) (told e n i b)
    kept_own n i j b d = by (is_styled_element n.label)
      where
        by : (t : Bool) → All (λ (x : ℕ × Told). Was (cond t ((n.key, e.kept n j d) ∷ []) []) x) (cond t ((n.key, e.kept n i b) ∷ []) [])
        by false = All-nil (λ (x : ℕ × Told). Was [] x)
        by true =
            All-cons (λ (x : ℕ × Told). Was ((n.key, e.kept n j d) ∷ []) x) (n.key, e.kept n i b) []
            (record {
              was = e.kept n j d;
              there = (0, omega arith, refl);
              same = λ h. ap₂ (e.kept n) (ap (λ (w : Walked). w.handed) h) (ap (λ (w : Walked). w.behind) h);
            })
            (All-nil (λ (x : ℕ × Told). Was ((n.key, e.kept n j d) ∷ []) x))

    all_kept : (p : Option Style) (m : Merge Node) (i j : Option Surroundings) → All (Stays m (told_all e j (old_of (styled_of p m)))) (told_all e i (new_of (styled_of p m)))
    all_kept p End i j = All-nil (Stays End [])
    all_kept p (Kept n c r) i j =
        let one = styled_by old was_start p n in
        let inner = style_within old was_start p n.key n.label in
        let below = new_of (styled_of inner c) in
        let beside = new_of (styled_of p r) in
        let was_below = old_of (styled_of inner c) in
        let was_beside = old_of (styled_of p r) in
        let x = past_all e (e.within one i) below in
        let y = past_all e (e.within one j) was_below in
        let before = told_all e j (old_of (styled_of p (Kept n c r))) in
        let S = Stays (Kept n c r) before in
        let first = cond (has_place c) (n.key ∷ []) [] in
        let was_first = told_all e (e.within one j) was_below in
        let was_own = told e one j y in
        let was_last = told_all e (e.past one j y) was_beside in
        let apart : (k : ℕ) → is_among (entered_elements (Kept n c r)) k ≡ false → (is_among (entered_elements c) k ≡ false) × (is_among (entered_elements r) k ≡ false) =
        λ k h. parts_apart k (entered_elements c) (entered_elements r) (parts_apart k first (entered_elements c ++ entered_elements r) h).1 in
        All-append S (told_all e (e.within one i) below) (told e one i x ++ told_all e (e.past one i x) beside)
        (All-weaker (Stays c was_first) S (λ z stays h. was_left was_first (was_own ++ was_last) z (stays (apart z.0 h).0)) (told_all e (e.within one i) below) (all_kept inner c (e.within one i) (e.within one j)))
        (All-append S (told e one i x) (told_all e (e.past one i x) beside)
        (All-weaker (Was was_own) S (λ z w h. was_right was_first (was_own ++ was_last) z (was_left was_own was_last z w)) (told e one i x) (kept_own one i j x y))
        (All-weaker (Stays r was_last) S (λ z stays h. was_right was_first (was_own ++ was_last) z (was_right was_own was_last z (stays (apart z.0 h).1))) (told_all e (e.past one i x) beside)
        (all_kept p r (e.past one i x) (e.past one j y))))
    all_kept p (Turned was n c r) i j =
        let one = styled_by new start p n in
        let other = styled_by old was_start p was in
        let inner = style_within old was_start p was.key was.label in
        let below = new_of (styled_of inner c) in
        let beside = new_of (styled_of p r) in
        let was_below = old_of (styled_of inner c) in
        let was_beside = old_of (styled_of p r) in
        let x = past_all e (e.within one i) below in
        let y = past_all e (e.within other j) was_below in
        let before = told_all e j (old_of (styled_of p (Turned was n c r))) in
        let S = Stays (Turned was n c r) before in
        let was_first = told_all e (e.within other j) was_below in
        let was_own = told e other j y in
        let was_last = told_all e (e.past other j y) was_beside in
        let apart : (k : ℕ) → is_among (entered_elements (Turned was n c r)) k ≡ false → (is_among (entered_elements c) k ≡ false) × (is_among (entered_elements r) k ≡ false) =
        λ k h. parts_apart k (entered_elements c) (entered_elements r) (parts_apart k (n.key ∷ []) (entered_elements c ++ entered_elements r) h).1 in
        All-append S (told_all e (e.within one i) below) (told e one i x ++ told_all e (e.past one i x) beside)
        (All-weaker (Stays c was_first) S (λ z stays h. was_left was_first (was_own ++ was_last) z (stays (apart z.0 h).0)) (told_all e (e.within one i) below) (all_kept inner c (e.within one i) (e.within other j)))
        (All-append S (told e one i x) (told_all e (e.past one i x) beside)
        (All-weaker (λ (z : ℕ × Told). is_among (element_key n) z.0 ≡ true) S
        (λ z own h. absurd (true≢false (sym (own_entered z.0 n (entered_elements c ++ entered_elements r) (is_element n.label) own) ∙ h))) (told e one i x) (listed_own new start p n i x))
        (All-weaker (Stays r was_last) S (λ z stays h. was_right was_first (was_own ++ was_last) z (was_right was_own was_last z (stays (apart z.0 h).1))) (told_all e (e.past one i x) beside)
        (all_kept p r (e.past one i x) (e.past other j y))))
      where
        own_entered : (k : ℕ) (n : Keyed Node) (more : List ℕ) (t : Bool) → is_among (cond t (n.key ∷ []) []) k ≡ true → is_among (n.key ∷ more) k ≡ true
        own_entered k n more true h = left_among k (n.key ∷ []) more h
        own_entered k n more false h = absurd (true≢false (sym h))
    all_kept p (Gone n c r) i j =
        let other = styled_by old was_start p n in
        let gone = styled_trees old was_start (style_within old was_start p n.key n.label) c in
        let y = past_all e (e.within other j) gone in
        let was_beside = old_of (styled_of p r) in
        let was_first = told_all e (e.within other j) gone in
        let was_own = told e other j y in
        let was_last = told_all e (e.past other j y) was_beside in
        All-weaker (Stays r was_last) (Stays (Gone n c r) (told_all e j (old_of (styled_of p (Gone n c r)))))
        (λ z stays h. was_right was_first (was_own ++ was_last) z (was_right was_own was_last z (stays h)))
        (told_all e i (new_of (styled_of p r))) (all_kept p r i (e.past other j y))
    all_kept p (Come n c r) i j =
        let one = styled_by new start p n in
        let inner = style_within new start p n.key n.label in
        let below = styled_trees new start inner c in
        let beside = new_of (styled_of p r) in
        let inside = e.within one i in
        let x = past_all e inside below in
        let behind = e.past one i x in
        let before = told_all e j (old_of (styled_of p r)) in
        let S = Stays (Come n c r) before in
        let coming = elements_in (Tree n c Empty) in
        let own = element_key n in
        let under = elements_in c in
        let never : (k : ℕ) → is_among coming k ≡ true → is_among (entered_elements (Come n c r)) k ≡ false → ⊥ =
        λ k there h. true≢false (sym (left_among k coming (entered_elements r) there) ∙ h) in
        All-append S (told_all e inside below) (told e one i x ++ told_all e behind beside)
        (All-weaker (λ (z : ℕ × Told). is_among under z.0 ≡ true) S (λ z there h. absurd (never z.0 (right_among z.0 own (under ++ []) (left_among z.0 under [] there)) h)) (told_all e inside below)
        (told_listed new start inner c inside))
        (All-append S (told e one i x) (told_all e behind beside)
        (All-weaker (λ (z : ℕ × Told). is_among own z.0 ≡ true) S (λ z there h. absurd (never z.0 (left_among z.0 own (under ++ []) there) h)) (told e one i x) (listed_own new start p n i x))
        (All-weaker (Stays r before) S (λ z stays h. stays (parts_apart z.0 coming (entered_elements r) h).1) (told_all e behind beside) (all_kept p r behind j)))

pub styled_merges_keep_told : StyledMergesKeepTold
styled_merges_keep_told table old new was_start start merge once key before now was is apart same =
    let whole = styled_merge old new was_start start None merge in
    let first = told_all (styled_evaluator table) root_surroundings (old_of whole) in
    let second = told_all (styled_evaluator table) root_surroundings (new_of whole) in
    let found = All-contains (Stays table old new was_start start merge first) second (key, now) (all_kept table old new was_start start None merge root_surroundings root_surroundings) (kept_there second key now is) apart in
    let its : before ≡ found.was = same_Some before found.was (sym was ∙ once_there first (once_keys first once) (key, found.was) found.there) in
    its ∙ found.same (ap (λ (t : Told). t.walked) (sym its) ∙ same)
