-- What is read of a row of siblings tells all that they do to a counter. Throughout, a is the box that creates it.
use Rattle.std.proofs.Common.{◌≡◌, ◌==◌, ◌++◌, ◌∷◌, ◌||◌, ◌&&◌, ℕ, List, [], Bool, true, false, cond, map, Option, Some, None, refl, sym, ap, ◌∙◌, inl, inr}
use Rattle.std.proofs.lemmas.Bool.{cases_Bool}
use Rattle.std.proofs.lemmas.List.Elements.{filter-append}
use Rattle.std.proofs.lemmas.List.{map-append}
use Rattle.std.specs.Prelude.{filter}
use Rattle.std.specs.List.{AllByRecursion}
use Rattle.std.specs.Str.{bytes_eq}
use Rattle.forest.specs.Forest.{Forest, Empty, Tree}
use Rattle.forest.specs.Keys.{Keyed, times}
use Rattle.plain_types.specs.declared.box_id.BoxId.{BoxId}
use Rattle.plain_types.specs.declared.box_kind.BoxKind.TheVariants as kind
use Rattle.plain_types.specs.declared.counter.Counter.{Counter}
use Rattle.plain_types.specs.declared.counter_style.CounterStyle.{CounterStyle}
use Rattle.counter_sets.specs.Sets.{is_same_box}
use Rattle.reversed_start.specs.declared.event.Event.{Event}
use Rattle.box_eval.specs.declared.change.Change.{Change}
use Rattle.box_eval.specs.declared.made.Made.{Made}
use Rattle.box_eval.specs.Boxes.{box_of, has_pseudo_box}
use Rattle.box_eval.specs.Elements.{Handed, Styled, before_of, behind_marker, by_parent, children_handed, inherited_by, inside, marker_of, own_counted, past_formed}
use Rattle.box_eval.specs.Evaluation.{Element, StyledNode, Text, changes, changes_in, first_changes, is_boxed, last_changes, past_node, past_trees, within}
use Rattle.box_eval.specs.Starts.{events_of}
use Rattle.box_eval.proofs.DocumentLemmas.{AreGood}
use Rattle.box_eval.proofs.ElementLemmas.{Holds, marker_good, pseudo_good}
use Rattle.box_eval.proofs.EntryLemmas.{next_inherits}
use Rattle.box_eval.proofs.KeptLemmas.{inherited_good}
use Rattle.box_eval.proofs.ListLemmas.{each_append}
use Rattle.scope_reading.specs.ScopeChanges.{has_it, is_among, is_it, row_changes}
use Rattle.scope_reading.proofs.OtherCounters.{IsOther, IsOfOther, do_nothing, names-other, steady, not-box, mine, formed-other, after-other, apart-parts, next-good}

none-it : (a : BoxId) (name : List ℕ) (set : List Counter) → has_it a name set ≡ false → AllByRecursion (IsOther a name) set
none-it a name [] h = tt
none-it a name (c ∷ set) h = elim (cases_Bool (is_it a name c)) [
  | inl e ↦ absurd (let bad : (true || has_it a name set) ≡ false = rw e at h in cc)
  | inr e ↦ (e, none-it a name set (let rest : (false || has_it a name set) ≡ false = rw e at h in rest))
]

module _ (a : BoxId) (name : List ℕ) where
  abbrev pub its : List Change → List Event
  its cs = events_of cs a name

  pub its-none : (cs : List Change) → AllByRecursion (IsOfOther a name) cs → its cs ≡ []
  its-none cs h = ap (map (λ (c : Change). c.event)) (nothing cs h)
    where
      nothing : (cs : List Change) → AllByRecursion (IsOfOther a name) cs → filter (λ (c : Change). is_same_box c.creator a && bytes_eq c.name name) cs ≡ []
      nothing [] h = refl
      nothing (c ∷ cs) h = ap (λ b. cond b (c ∷ filter (λ (c : Change). is_same_box c.creator a && bytes_eq c.name name) cs) (filter (λ (c : Change). is_same_box c.creator a && bytes_eq c.name name) cs)) h.0 ∙ nothing cs h.1

  pub its-split : (xs ys : List Change) → its (xs ++ ys) ≡ its xs ++ its ys
  its-split xs ys =
      ap (map (λ (c : Change). c.event)) (filter-append (λ (c : Change). is_same_box c.creator a && bytes_eq c.name name) xs ys)
      ∙ map-append (λ (c : Change). c.event) (filter (λ (c : Change). is_same_box c.creator a && bytes_eq c.name name) xs) (filter (λ (c : Change). is_same_box c.creator a && bytes_eq c.name name) ys)

  formed-next : (box : BoxId) (made : Option Made) (depth : ℕ) (handed : Handed) → AreGood (IsOther a name) handed → Holds (AllByRecursion (IsOther a name)) made → AreGood (IsOther a name) (past_formed box (record { made = made; depth = depth }) handed)
  formed-next box None depth handed good h = record { parent = good.parent; sibling = good.sibling }
  formed-next box (Some made) depth handed good h = record { parent = good.parent; sibling = h }

  module _ (table : List CounterStyle) where
    -- an element with a box, of whose own set this is known alone
    module _ (key : ℕ) (element : Styled) (apart : (key == a.key) ≡ false) (handed : Handed) (own_good : AllByRecursion (IsOther a name) (own_counted table by_parent key element handed).set) where
      abbrev own : List Counter
      own = (own_counted table by_parent key element handed).set

      marker-good : Holds (AllByRecursion (IsOther a name)) (marker_of table by_parent key element handed).made
      marker-good =
          marker_good (IsOther a name) (steady a name) table by_parent key element (inside own handed.depth) (inherited_good (IsOther a name) (steady a name) own None (Some own) own_good tt)
          (λ _ counter e. mine a name table key element apart kind.Marker counter e)

      before-inherits : AllByRecursion (IsOther a name) (inherited_by (behind_marker table by_parent key element handed))
      before-inherits =
          let marker = marker_of table by_parent key element handed in
          next_inherits (IsOther a name) (steady a name) (box_of key kind.Marker) own handed.depth marker.depth marker.made own_good marker-good

      before-good : Holds (AllByRecursion (IsOther a name)) (before_of table by_parent key element handed).made
      before-good =
          pseudo_good (IsOther a name) (steady a name) table by_parent key element kind.Before element.style.before (behind_marker table by_parent key element handed) before-inherits
          (λ _ counter e. mine a name table key element apart kind.Before counter e)

      inside-is-good : AreGood (IsOther a name) (children_handed table by_parent key element handed)
      inside-is-good =
          let marker = marker_of table by_parent key element handed in
          let before = before_of table by_parent key element handed in
          formed-next (box_of key kind.Before) before.made before.depth (behind_marker table by_parent key element handed)
          (formed-next (box_of key kind.Marker) marker.made marker.depth (inside own handed.depth) (record { parent = own_good; sibling = tt }) marker-good) before-good

      first-other : AllByRecursion (IsOfOther a name) (first_changes table by_parent true key (Element element) handed)
      first-other =
          each_append (IsOfOther a name) (own_counted table by_parent key element handed).changes (changes_in (before_of table by_parent key element handed).made)
          (names-other a name (box_of key kind.Element) _ _ own (not-box a name table key element apart kind.Element) own_good _)
          (formed-other a name table key element apart kind.Before element.style.before (behind_marker table by_parent key element handed) before-inherits (has_pseudo_box element.style.before))

    -- From a sibling on whose own set lacks the counter, nothing is done to it, where the parent lacks it too.
    pub stops : (key : ℕ) (element : Styled) (c r : Forest (Keyed StyledNode)) (boxed : Bool) (handed : Handed)
        → (key == a.key) ≡ false → times a.key c ≡ 0 → times a.key r ≡ 0 → AllByRecursion (IsOther a name) handed.parent
        → has_it a name (own_counted table by_parent key element handed).set ≡ false
        → let first = within table by_parent true key (Element element) handed in
        let behind = past_trees table by_parent true first c in
        AllByRecursion (IsOfOther a name)
        (first_changes table by_parent true key (Element element) handed
        ++ (changes table by_parent true first c
        ++ (last_changes table by_parent true key (Element element) behind
        ++ changes table by_parent boxed (past_node table by_parent true key (Element element) handed behind) r)))
    stops key element c r boxed handed apart none_c none_r parent lacks =
        let own_good = none-it a name (own_counted table by_parent key element handed).set lacks in
        let inside_good = inside-is-good key element apart handed own_good in
        let below = do_nothing a name table c true (children_handed table by_parent key element handed) none_c inside_good in
        let behind = past_trees table by_parent true (children_handed table by_parent key element handed) c in
        let beside = do_nothing a name table r boxed (past_node table by_parent true key (Element element) handed behind) none_r (record { parent = parent; sibling = own_good }) in
        each_append (IsOfOther a name) (first_changes table by_parent true key (Element element) handed) _ (first-other key element apart handed own_good)
        (each_append (IsOfOther a name) (changes table by_parent true (children_handed table by_parent key element handed) c) _ below.changes
        (each_append (IsOfOther a name) (last_changes table by_parent true key (Element element) behind) _ (after-other a name table key element apart behind below.past) beside.changes))

    pub split-four : (xs ys zs ws vs : List Change) → its ws ≡ its vs → its (xs ++ (ys ++ (zs ++ ws))) ≡ its (xs ++ (ys ++ (zs ++ vs)))
    split-four xs ys zs ws vs h =
        its-split xs (ys ++ (zs ++ ws)) ∙ ap (λ es. its xs ++ es) (its-split ys (zs ++ ws) ∙ ap (λ es. its ys ++ es) (its-split zs ws ∙ ap (λ es. its zs ++ es) h ∙ sym (its-split zs vs)) ∙ sym (its-split ys (zs ++ vs))) ∙ sym (its-split xs (ys ++ (zs ++ vs)))

    unboxed : (trees : Forest (Keyed StyledNode)) (handed : Handed) → changes table by_parent false handed trees ≡ []
    unboxed Empty handed = refl
    unboxed (Tree n c r) handed = by-label n.key n.label (unboxed c handed) (unboxed r handed)
      where
        by-label : (k : ℕ) (l : StyledNode) → changes table by_parent false handed c ≡ [] → changes table by_parent false handed r ≡ [] → changes table by_parent false handed (Tree (record { key = k; label = l }) c r) ≡ []
        by-label k (Element element) below beside = ap (λ (xs : List Change). xs ++ changes table by_parent false handed r) below ∙ beside
        by-label k Text below beside = ap (λ (xs : List Change). xs ++ changes table by_parent false handed r) below ∙ beside

    -- a node without a box is passed
    passes : (c r : Forest (Keyed StyledNode)) (boxed : Bool) (handed : Handed) → its (changes table by_parent boxed handed r) ≡ its (row_changes a name table boxed handed r)
        → its (changes table by_parent false handed c ++ changes table by_parent boxed handed r) ≡ its (row_changes a name table boxed handed r)
    passes c r boxed handed beside = ap (λ (xs : List Change). its (xs ++ changes table by_parent boxed handed r)) (unboxed c handed) ∙ beside

    -- So what is read of the later siblings tells all that they do to it.
    pub row_is_enough : (trees : Forest (Keyed StyledNode)) (boxed : Bool) (handed : Handed) → times a.key trees ≡ 0 → AllByRecursion (IsOther a name) handed.parent
        → its (changes table by_parent boxed handed trees) ≡ its (row_changes a name table boxed handed trees)
    row_is_enough Empty boxed handed none parent = refl
    row_is_enough (Tree n c r) boxed handed none parent = by-node n.key n.label none boxed handed parent (row_is_enough r)
      where
        by-node : (k : ℕ) (l : StyledNode) → times a.key (Tree (record { key = k; label = l }) c r) ≡ 0 → (boxed : Bool) (handed : Handed) → AllByRecursion (IsOther a name) handed.parent
            → ((boxed : Bool) (handed : Handed) → times a.key r ≡ 0 → AllByRecursion (IsOther a name) handed.parent → its (changes table by_parent boxed handed r) ≡ its (row_changes a name table boxed handed r))
            → its (changes table by_parent boxed handed (Tree (record { key = k; label = l }) c r)) ≡ its (row_changes a name table boxed handed (Tree (record { key = k; label = l }) c r))
        by-node k Text none boxed handed parent beside =
            let parts = apart-parts a name table k Text c r none in passes c r boxed handed (beside boxed handed parts.2 parent)
        by-node k (Element element) none boxed handed parent beside =
            let parts = apart-parts a name table k (Element element) c r none in
            let first : Bool → Handed = λ b. within table by_parent b k (Element element) handed in
            let behind : Bool → Handed = λ b. past_trees table by_parent b (first b) c in
            let next : Bool → Handed = λ b. past_node table by_parent b k (Element element) handed (behind b) in
            elim (is_boxed boxed (Element element)) as (λ b.
            its (first_changes table by_parent b k (Element element) handed ++ (changes table by_parent b (first b) c ++ (last_changes table by_parent b k (Element element) (behind b) ++ changes table by_parent boxed (next b) r)))
            ≡ its (cond b (cond (has_it a name (own_counted table by_parent k element handed).set)
            (first_changes table by_parent b k (Element element) handed ++ (changes table by_parent b (first b) c ++ (last_changes table by_parent b k (Element element) (behind b) ++ row_changes a name table boxed (next b) r))) [])
            (row_changes a name table boxed handed r))) [
              | true ↦ elim (cases_Bool (has_it a name (own_counted table by_parent k element handed).set)) [
                | inl e ↦
                    split-four (first_changes table by_parent true k (Element element) handed) (changes table by_parent true (first true) c) (last_changes table by_parent true k (Element element) (behind true)) _ _ (beside boxed (next true) parts.2 parent)
                    ∙ sym (ap (λ b. its (cond b (first_changes table by_parent true k (Element element) handed ++ (changes table by_parent true (first true) c ++ (last_changes table by_parent true k (Element element) (behind true) ++ row_changes a name table boxed (next true) r))) [])) e)
                | inr e ↦
                    its-none _ (stops k element c r boxed handed parts.0 parts.1 parts.2 parent e)
                    ∙ sym (ap (λ b. its (cond b (first_changes table by_parent true k (Element element) handed ++ (changes table by_parent true (first true) c ++ (last_changes table by_parent true k (Element element) (behind true) ++ row_changes a name table boxed (next true) r))) [])) e)
              ]
              | false ↦ passes c r boxed handed (beside boxed handed parts.2 parent)
            ]

    -- What a node hands on is good, whatever is in it, where it isn't the creator.
    pub past-good : (has : Bool) (k : ℕ) (l : StyledNode) (handed behind : Handed) → (k == a.key) ≡ false → AreGood (IsOther a name) handed → AreGood (IsOther a name) (past_node table by_parent has k l handed behind)
    past-good true k (Element element) handed behind apart good = next-good a name table k element apart handed behind good
    past-good true k Text handed behind apart good = good
    past-good false k (Element element) handed behind apart good = good
    past-good false k Text handed behind apart good = good

    pub past-parent : (has : Bool) (k : ℕ) (l : StyledNode) (handed behind : Handed) → AllByRecursion (IsOther a name) handed.parent → AllByRecursion (IsOther a name) (past_node table by_parent has k l handed behind).parent
    past-parent true k (Element element) handed behind good = good
    past-parent true k Text handed behind good = good
    past-parent false k (Element element) handed behind good = good
    past-parent false k Text handed behind good = good

    or-parts : (b c : Bool) → (b || c) ≡ false → (b ≡ false) × (c ≡ false)
    or-parts true c h = absurd (cc)
    or-parts false c h = (refl, h)

    pub among-good : (trees : Forest (Keyed StyledNode)) (boxed : Bool) (handed : Handed) → is_among a name table trees ≡ false → AreGood (IsOther a name) handed → AreGood (IsOther a name) (past_trees table by_parent boxed handed trees)
    among-good Empty boxed handed none good = good
    among-good (Tree n c r) boxed handed none good =
        let parts = or-parts (n.key == a.key) (is_among a name table r) none in
        let has = is_boxed boxed n.label in
        let behind = past_trees table by_parent has (within table by_parent has n.key n.label handed) c in
        among-good r boxed (past_node table by_parent has n.key n.label handed behind) parts.1 (past-good has n.key n.label handed behind parts.0 good)

    pub last-part : (b : Bool) (cs : List Change) → (b ≡ false → AllByRecursion (IsOfOther a name) cs) → its cs ≡ its (cond b cs [])
    last-part true cs h = refl
    last-part false cs h = its-none cs (h refl)

    pub join-parts : (first cs cs' ls ls' rs rs' : List Change) → its first ≡ [] → its cs ≡ its cs' → its ls ≡ its ls' → its rs ≡ its rs' → its (first ++ (cs ++ (ls ++ rs))) ≡ its (cs' ++ (ls' ++ rs'))
    join-parts first cs cs' ls ls' rs rs' f c l r =
        its-split first (cs ++ (ls ++ rs)) ∙ ap (λ (es : List Event). es ++ its (cs ++ (ls ++ rs))) f
        ∙ its-split cs (ls ++ rs) ∙ ap (λ (es : List Event). es ++ its (ls ++ rs)) c
        ∙ ap (λ (es : List Event). its cs' ++ es) (its-split ls rs ∙ ap (λ (es : List Event). es ++ its rs) l ∙ ap (λ (es : List Event). its ls' ++ es) r ∙ sym (its-split ls' rs'))
        ∙ sym (its-split cs' (ls' ++ rs'))
