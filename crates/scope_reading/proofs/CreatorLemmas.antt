-- The events of a counter are those that are read of its creator and behind it, by the kind of box that creates it. Throughout, a is
-- that box.
use Rattle.std.proofs.Common.{◌≡◌, ◌==◌, ◌++◌, ◌+◌, ◌≤◌, ℕ, List, [], Bool, true, false, cond, refl, sym, ap, subst, ◌∙◌, inl, inr, arith}
use Rattle.std.proofs.lemmas.Bool.{cases_Bool, eqb-true}
use Rattle.forest.specs.Forest.{Forest, Empty, Tree}
use Rattle.forest.specs.Keys.{Keyed, times}
use Rattle.plain_types.specs.declared.box_id.BoxId.{BoxId}
use Rattle.plain_types.specs.declared.box_kind.BoxKind.{BoxKind}
use Rattle.plain_types.specs.declared.box_kind.BoxKind.TheVariants as kind
use Rattle.plain_types.specs.declared.counter_style.CounterStyle.{CounterStyle}
use Rattle.box_eval.specs.declared.change.Change.{Change}
use Rattle.box_eval.specs.Boxes.{box_of}
use Rattle.box_eval.specs.Elements.{Handed, by_parent}
use Rattle.box_eval.specs.Evaluation.{Element, StyledNode, Text, changes, first_changes, is_boxed, last_changes, past_node, past_trees, within}
use Rattle.box_eval.proofs.DocumentLemmas.{AreGood}
use Rattle.scope_reading.specs.ScopeChanges.{creator_changes, is_among, read_changes, row_changes}
use Rattle.scope_reading.proofs.OtherCounters.{IsOther, node-step}
use Rattle.scope_reading.proofs.RowLemmas.{among-good, its, its-none, join-parts, last-part, past-good, past-parent, row_is_enough, split-four}
use Rattle.scope_reading.proofs.PseudoLemmas.{after_reads, before_reads}

module _ (name : List ℕ) (table : List CounterStyle) (boxed : Bool) (c r : Forest (Keyed StyledNode)) (handed : Handed) where
  abbrev whole : Bool → ℕ → StyledNode → List Change
  whole has key label =
      let first = within table by_parent has key label handed in
      let behind = past_trees table by_parent has first c in
      first_changes table by_parent has key label handed
      ++ (changes table by_parent has first c
      ++ (last_changes table by_parent has key label behind
      ++ changes table by_parent boxed (past_node table by_parent has key label handed behind) r))

  by-row : (a : BoxId) (has : Bool) (key : ℕ) (label : StyledNode) → times a.key r ≡ 0 → AreGood (IsOther a name) handed
      → let first = within table by_parent has key label handed in
      let behind = past_trees table by_parent has first c in
      its a name (whole has key label)
      ≡ its a name (first_changes table by_parent has key label handed ++ (changes table by_parent has first c ++ (last_changes table by_parent has key label behind ++ row_changes a name table boxed (past_node table by_parent has key label handed behind) r)))
  by-row a has key label none good =
      let first = within table by_parent has key label handed in
      let behind = past_trees table by_parent has first c in
      split-four a name table (first_changes table by_parent has key label handed) (changes table by_parent has first c) (last_changes table by_parent has key label behind) _ _
      (row_is_enough a name table r boxed (past_node table by_parent has key label handed behind) none (past-parent a name table has key label handed behind good.parent))

  creator_reads : (which : BoxKind) (has : Bool) (key : ℕ) (label : StyledNode) → times key c ≡ 0 → times key r ≡ 0 → AreGood (IsOther (box_of key which) name) handed
      → its (box_of key which) name (whole has key label) ≡ its (box_of key which) name (creator_changes (box_of key which) name table boxed has which key label handed c r)
  creator_reads kind.Before true key (Element element) none_c none_r good = before_reads key name table element handed boxed c r none_c none_r good
  creator_reads kind.After true key (Element element) none_c none_r good = after_reads key name table element handed boxed c r none_c none_r good
  creator_reads kind.Before true key Text none_c none_r good = by-row (box_of key kind.Before) true key Text none_r good
  creator_reads kind.After true key Text none_c none_r good = by-row (box_of key kind.After) true key Text none_r good
  creator_reads kind.Before false key label none_c none_r good = by-row (box_of key kind.Before) false key label none_r good
  creator_reads kind.After false key label none_c none_r good = by-row (box_of key kind.After) false key label none_r good
  creator_reads kind.Element true key (Element element) none_c none_r good = by-row (box_of key kind.Element) true key (Element element) none_r good
  creator_reads kind.Element true key Text none_c none_r good = by-row (box_of key kind.Element) true key Text none_r good
  creator_reads kind.Element false key label none_c none_r good = by-row (box_of key kind.Element) false key label none_r good
  creator_reads kind.Marker true key (Element element) none_c none_r good = by-row (box_of key kind.Marker) true key (Element element) none_r good
  creator_reads kind.Marker true key Text none_c none_r good = by-row (box_of key kind.Marker) true key Text none_r good
  creator_reads kind.Marker false key label none_c none_r good = by-row (box_of key kind.Marker) false key label none_r good

module _ (a : BoxId) (name : List ℕ) (table : List CounterStyle) where
  pub kind_reads : (trees : Forest (Keyed StyledNode)) (boxed : Bool) (handed : Handed) → times a.key trees ≤ 1 → AreGood (IsOther a name) handed
      → its a name (changes table by_parent boxed handed trees) ≡ its a name (read_changes a name table boxed handed trees)
  kind_reads Empty boxed handed once good = refl
  kind_reads (Tree n c r) boxed handed once good =
      let has = is_boxed boxed n.label in
      let first = within table by_parent has n.key n.label handed in
      let behind = past_trees table by_parent has first c in
      let next = past_node table by_parent has n.key n.label handed behind in
      let here = creator_changes a name table boxed has a.kind n.key n.label handed c r in
      let there = read_changes a name table has first c ++ (cond (is_among a name table c) (last_changes table by_parent has n.key n.label behind) [] ++ read_changes a name table boxed next r) in
      elim (cases_Bool (n.key == a.key)) [
        | inl e ↦
            let one : 1 + (times a.key c + times a.key r) ≤ 1 = rw e at once in
            let key : n.key ≡ a.key = eqb-true n.key a.key e in
            let box : box_of n.key a.kind ≡ a = ap (λ k. box_of k a.kind) key in
            let none_c : times n.key c ≡ 0 = ap (λ k. times k c) key ∙ omega arith in
            let none_r : times n.key r ≡ 0 = ap (λ k. times k r) key ∙ omega arith in
            subst (λ (b : BoxId). its b name (whole name table boxed c r handed has n.key n.label) ≡ its b name (creator_changes b name table boxed has a.kind n.key n.label handed c r)) box
            (creator_reads name table boxed c r handed a.kind has n.key n.label none_c none_r (subst (λ (b : BoxId). AreGood (IsOther b name) handed) (sym box) good))
            ∙ sym (ap (λ b. its a name (cond b here there)) e)
        | inr e ↦
            let rest : 0 + (times a.key c + times a.key r) ≤ 1 = rw e at once in
            let step = node-step a name table has n.key n.label handed e good in
            join-parts a name table (first_changes table by_parent has n.key n.label handed) (changes table by_parent has first c) (read_changes a name table has first c)
            (last_changes table by_parent has n.key n.label behind) (cond (is_among a name table c) (last_changes table by_parent has n.key n.label behind) [])
            (changes table by_parent boxed next r) (read_changes a name table boxed next r)
            (its-none a name (first_changes table by_parent has n.key n.label handed) step.0)
            (kind_reads c has first (omega arith) step.1)
            (last-part a name table (is_among a name table c) (last_changes table by_parent has n.key n.label behind) (λ none. (step.2 behind (among-good a name table c has first none step.1)).0))
            (kind_reads r boxed next (omega arith) (past-good a name table has n.key n.label handed behind e good))
            ∙ sym (ap (λ b. its a name (cond b here there)) e)
      ]
