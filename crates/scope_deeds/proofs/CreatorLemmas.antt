-- What is read by keys in the scope of a counter does the same to it as what is read of the document. Throughout, a is the box that
-- creates the counter, n a node, c what is under it, r what is after it, and g trees.
use Rattle.std.proofs.Common.{◌≡◌, ◌==◌, ◌++◌, ◌+◌, ◌≤◌, ◌&&◌, ◌||◌, ℕ, List, [], Option, Bool, true, false, cond, refl, sym, ap, subst, ◌∙◌, inl, inr, arith}
use Rattle.std.proofs.lemmas.Bool.{cases_Bool, eqb-true}
use Rattle.forest.specs.Forest.{Forest, Empty, Tree}
use Rattle.forest.specs.Keys.{Keyed, times}
use Rattle.forest.specs.Spots.{root_keys}
use Rattle.plain_types.specs.declared.box_id.BoxId.{BoxId}
use Rattle.plain_types.specs.declared.box_kind.BoxKind.{BoxKind}
use Rattle.plain_types.specs.declared.box_kind.BoxKind.TheVariants as kind
use Rattle.plain_types.specs.declared.counter_style.CounterStyle.{CounterStyle}
use Rattle.reversed_start.specs.declared.event.Event.{Event}
use Rattle.box_eval.specs.declared.change.Change.{Change}
use Rattle.box_eval.specs.Boxes.{box_of}
use Rattle.box_eval.specs.Elements.{Handed, Styled, before_of, by_parent, own_counted}
use Rattle.box_eval.specs.Evaluation.{Element, StyledNode, Text, changes, changes_in, is_boxed, last_changes, past_node, past_trees, within}
use Rattle.box_eval.proofs.DocumentLemmas.{AreGood}
use Rattle.edit_work.specs.KeyedSources.{is_among}
use Rattle.scope_reading.specs.ScopeChanges.{creator_changes, read_changes, row_changes}
use Rattle.scope_reading.specs.ScopeChanges.{is_among as stands_among}
use Rattle.scope_reading.proofs.OtherCounters.{IsOther, do_nothing, node-step}
use Rattle.scope_reading.proofs.PseudoLemmas.{own-changes}
use Rattle.scope_reading.proofs.RowLemmas.{its, its-none, its-split, past-good, row_is_enough}
use Rattle.scope_deeds.specs.Counting.{Counting}
use Rattle.scope_deeds.specs.KeptScopes.{kept_after, kept_before, kept_from, kept_scope}
use Rattle.scope_deeds.proofs.KeptNodes.{HasNode, HasTrees}
use Rattle.scope_deeds.proofs.ReadLemmas.{changes-kept, row-kept}

and-false : (b : Bool) → (b && false) ≡ false
and-false true = refl
and-false false = refl

module _ (name : List ℕ) (table : List CounterStyle) (kept : ℕ → Option Counting) where
  -- In an element without a box nothing is done.

  unboxed-changes : (g : Forest (Keyed StyledNode)) (handed : Handed) → changes table by_parent false handed g ≡ []
  unboxed-changes Empty handed = refl
  unboxed-changes (Tree n c r) handed = by n.key n.label (unboxed-changes c handed) (unboxed-changes r handed)
    where
      by : (key : ℕ) (label : StyledNode) → changes table by_parent false handed c ≡ [] → changes table by_parent false handed r ≡ [] → changes table by_parent false handed (Tree (record { key = key; label = label }) c r) ≡ []
      by key (Element element) below beside = λ i. below i ++ beside i
      by key Text below beside = λ i. below i ++ beside i

  unboxed-row : (a : BoxId) (g : Forest (Keyed StyledNode)) (handed : Handed) → row_changes a name table false handed g ≡ []
  unboxed-row a Empty handed = refl
  unboxed-row a (Tree n c r) handed = by n.key n.label (unboxed-row a r handed)
    where
      by : (key : ℕ) (label : StyledNode) → row_changes a name table false handed r ≡ [] → row_changes a name table false handed (Tree (record { key = key; label = label }) c r) ≡ []
      by key (Element element) beside = beside
      by key Text beside = beside

  -- A node without a box, and its later siblings: they do nothing to a counter that one of its boxes would create.
  module _ (key : ℕ) (c r : Forest (Keyed StyledNode)) (boxed : Bool) (handed : Handed) (none_r : times key r ≡ 0) where
    row-none : (a : BoxId) → a.key ≡ key → AreGood (IsOther a name) handed → its a name (row_changes a name table boxed handed r) ≡ []
    row-none a is good =
        let none : times a.key r ≡ 0 = ap (λ k. times k r) is ∙ none_r in
        sym (row_is_enough a name table r boxed handed none good.parent) ∙ its-none a name (changes table by_parent boxed handed r) (do_nothing a name table r boxed handed none good).changes

    all-none : (a : BoxId) → a.key ≡ key → AreGood (IsOther a name) handed → its a name (changes table by_parent false handed c ++ row_changes a name table boxed handed r) ≡ []
    all-none a is good = ap (λ (cs : List Change). its a name (cs ++ row_changes a name table boxed handed r)) (unboxed-changes c handed) ∙ row-none a is good

    from-unboxed : (which : BoxKind) → AreGood (IsOther (box_of key which) name) handed → kept_before kept key ≡ [] → kept_after kept key ≡ []
        → HasTrees table kept false handed c → HasTrees table kept boxed handed r
        → its (box_of key which) name (kept_from kept (box_of key which) name which key c r)
        ≡ its (box_of key which) name (changes table by_parent false handed c ++ row_changes (box_of key which) name table boxed handed r)
    from-unboxed kind.Before good before after below beside =
        let a = box_of key kind.Before in
        let row = row-kept table kept a name c false handed below ∙ unboxed-row a c handed in
        ap (its a name) (λ i. before i ++ (row i ++ after i)) ∙ sym (all-none a refl good)
    from-unboxed kind.After good before after below beside = let a = box_of key kind.After in ap (its a name) after ∙ sym (all-none a refl good)
    from-unboxed kind.Element good before after below beside =
        let a = box_of key kind.Element in
        let inner = changes-kept table kept c false handed below in
        let row = row-kept table kept a name r boxed handed beside in
        ap (its a name) (λ i. before i ++ (inner i ++ (after i ++ row i)))
    from-unboxed kind.Marker good before after below beside =
        let a = box_of key kind.Marker in
        let inner = changes-kept table kept c false handed below in
        let row = row-kept table kept a name r boxed handed beside in
        ap (its a name) (λ i. before i ++ (inner i ++ (after i ++ row i)))

    unboxed-reads : (a : BoxId) (which : BoxKind) (label : StyledNode)
        → creator_changes a name table boxed false which key label handed c r ≡ changes table by_parent false handed c ++ row_changes a name table boxed handed r
    unboxed-reads a kind.Before (Element element) = refl
    unboxed-reads a kind.Before Text = refl
    unboxed-reads a kind.After (Element element) = refl
    unboxed-reads a kind.After Text = refl
    unboxed-reads a kind.Element (Element element) = refl
    unboxed-reads a kind.Element Text = refl
    unboxed-reads a kind.Marker (Element element) = refl
    unboxed-reads a kind.Marker Text = refl

    -- An element, by whether it has a box.
    module _ (element : Styled) where
      abbrev first : Bool → Handed
      first b = within table by_parent b key (Element element) handed

      abbrev behind : Bool → Handed
      behind b = past_trees table by_parent b (first b) c

      abbrev next : Bool → Handed
      next b = past_node table by_parent b key (Element element) handed (behind b)

      from-boxed : (which : BoxKind) → AreGood (IsOther (box_of key which) name) handed → HasNode table kept true key (Element element) handed (behind true)
          → HasTrees table kept true (first true) c → HasTrees table kept boxed (next true) r
          → its (box_of key which) name (kept_from kept (box_of key which) name which key c r)
          ≡ its (box_of key which) name (creator_changes (box_of key which) name table boxed true which key (Element element) handed c r)
      from-boxed kind.Before good node below beside =
          let a = box_of key kind.Before in
          let own = (own_counted table by_parent key element handed).changes in
          let before = changes_in (before_of table by_parent key element handed).made in
          let last = last_changes table by_parent true key (Element element) (behind true) in
          let rest = row_changes a name table true (first true) c ++ last in
          let row = row-kept table kept a name c true (first true) below in
          ap (its a name) (λ i. node.before i ++ (row i ++ node.after i))
          ∙ its-split a name (own ++ before) rest
          ∙ ap (λ (es : List Event). es ++ its a name rest)
          (its-split a name own before ∙ ap (λ (es : List Event). es ++ its a name before) (its-none a name own (own-changes key name table element handed a (and-false (key == key)) good)))
          ∙ sym (its-split a name before rest)
      from-boxed kind.After good node below beside = ap (its (box_of key kind.After) name) node.after
      from-boxed kind.Element good node below beside =
          let a = box_of key kind.Element in
          let inner = changes-kept table kept c true (first true) below in
          let row = row-kept table kept a name r boxed (next true) beside in
          ap (its a name) (λ i. node.before i ++ (inner i ++ (node.after i ++ row i)))
      from-boxed kind.Marker good node below beside =
          let a = box_of key kind.Marker in
          let inner = changes-kept table kept c true (first true) below in
          let row = row-kept table kept a name r boxed (next true) beside in
          ap (its a name) (λ i. node.before i ++ (inner i ++ (node.after i ++ row i)))

      from-if : (which : BoxKind) (b : Bool) → AreGood (IsOther (box_of key which) name) handed → HasNode table kept b key (Element element) handed (behind b)
          → HasTrees table kept b (first b) c → HasTrees table kept boxed (next b) r
          → its (box_of key which) name (kept_from kept (box_of key which) name which key c r)
          ≡ its (box_of key which) name (creator_changes (box_of key which) name table boxed b which key (Element element) handed c r)
      from-if which true good node below beside = from-boxed which good node below beside
      from-if which false good node below beside =
          from-unboxed which good node.before node.after below beside
          ∙ sym (ap (its (box_of key which) name) (unboxed-reads (box_of key which) which (Element element)))

    from-node : (which : BoxKind) (label : StyledNode) → AreGood (IsOther (box_of key which) name) handed → HasTrees table kept boxed handed (Tree (record { key = key; label = label }) c r)
        → its (box_of key which) name (kept_from kept (box_of key which) name which key c r)
        ≡ its (box_of key which) name (creator_changes (box_of key which) name table boxed (is_boxed boxed label) which key label handed c r)
    from-node which (Element element) good h = from-if element which (is_boxed boxed (Element element)) good h.0 h.1 h.2
    from-node which Text good h =
        from-unboxed which good h.0.before h.0.after h.1 h.2
        ∙ sym (ap (its (box_of key which) name) (unboxed-reads (box_of key which) which Text))

module _ (a : BoxId) (name : List ℕ) (table : List CounterStyle) (kept : ℕ → Option Counting) where
  among-roots : (g : Forest (Keyed StyledNode)) → is_among (root_keys g) a.key ≡ stands_among a name table g
  among-roots Empty = refl
  among-roots (Tree n c r) = ap (λ b. (n.key == a.key) || b) (among-roots r)

  three : (xs ys zs xs' ys' zs' : List Change) → its a name xs ≡ its a name xs' → ys ≡ ys' → its a name zs ≡ its a name zs' → its a name (xs ++ (ys ++ zs)) ≡ its a name (xs' ++ (ys' ++ zs'))
  three xs ys zs xs' ys' zs' x y z =
      its-split a name xs (ys ++ zs)
      ∙ ap (λ (es : List Event). its a name xs ++ es) (its-split a name ys zs)
      ∙ (λ i. x i ++ (its a name (y i) ++ z i))
      ∙ ap (λ (es : List Event). its a name xs' ++ es) (sym (its-split a name ys' zs'))
      ∙ sym (its-split a name xs' (ys' ++ zs'))

  pub scope-kept : (g : Forest (Keyed StyledNode)) (boxed : Bool) (handed : Handed) → times a.key g ≤ 1 → AreGood (IsOther a name) handed → HasTrees table kept boxed handed g
      → its a name (kept_scope kept a name g) ≡ its a name (read_changes a name table boxed handed g)
  scope-kept Empty boxed handed once good h = refl
  scope-kept (Tree n c r) boxed handed once good h =
      let has = is_boxed boxed n.label in
      let first = within table by_parent has n.key n.label handed in
      let behind = past_trees table by_parent has first c in
      let next = past_node table by_parent has n.key n.label handed behind in
      let last = last_changes table by_parent has n.key n.label behind in
      let mine = kept_from kept a name a.kind n.key c r in
      let its_own = creator_changes a name table boxed has a.kind n.key n.label handed c r in
      let middle = cond (is_among (root_keys c) a.key) (kept_after kept n.key) [] in
      let its_middle = cond (stands_among a name table c) last [] in
      let under = kept_scope kept a name c in
      let its_under = read_changes a name table has first c in
      let beside = kept_scope kept a name r in
      let its_beside = read_changes a name table boxed next r in
      elim (cases_Bool (n.key == a.key)) [
        | inl e ↦
            let one : 1 + (times a.key c + times a.key r) ≤ 1 = rw e at once in
            let key : n.key ≡ a.key = eqb-true n.key a.key e in
            let box : box_of n.key a.kind ≡ a = ap (λ k. box_of k a.kind) key in
            let none_r : times n.key r ≡ 0 = ap (λ k. times k r) key ∙ omega arith in
            ap (λ b. its a name (cond b mine (under ++ (middle ++ beside)))) e
            ∙ subst (λ (b : BoxId). its b name (kept_from kept b name a.kind n.key c r) ≡ its b name (creator_changes b name table boxed has a.kind n.key n.label handed c r)) box
            (from-node name table kept n.key c r boxed handed none_r a.kind n.label (subst (λ (b : BoxId). AreGood (IsOther b name) handed) (sym box) good) h)
            ∙ sym (ap (λ b. its a name (cond b its_own (its_under ++ (its_middle ++ its_beside)))) e)
        | inr e ↦
            let rest : 0 + (times a.key c + times a.key r) ≤ 1 = rw e at once in
            let step = node-step a name table has n.key n.label handed e good in
            let same = among-roots c in
            ap (λ b. its a name (cond b mine (under ++ (middle ++ beside)))) e
            ∙ three under middle beside its_under its_middle its_beside
            (scope-kept c has first (omega (arith, rest)) step.1 h.1)
            (λ i. cond (same i) (h.0.after i) [])
            (scope-kept r boxed next (omega (arith, rest)) (past-good a name table has n.key n.label handed behind e good) h.2)
            ∙ sym (ap (λ b. its a name (cond b its_own (its_under ++ (its_middle ++ its_beside)))) e)
      ]
