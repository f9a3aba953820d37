-- The work of an edit pays for the texts that are made again. Throughout, n is a node, ns are nodes, and k is a key.
use Rattle.std.proofs.Common.{◌≡◌, ◌==◌, ◌≤◌, ◌+◌, ◌++◌, ◌||◌, ◌∙◌, ◌⊎◌, ℕ, nat_eq, Bool, true, false, cond, List, [], ◌∷◌, Some, arith, flat_map, refl, sym, ap, subst, eq-eqb, eqb-true, inl, inr}
use Rattle.std.specs.Prelude.{filter, sum_by}
use Rattle.std.specs.Cmp.{nat_eq_equiv}
use Rattle.std.specs.List.{AllByRecursion, IsDistinct}
use Rattle.std.proofs.lemmas.Bool.{cases_Bool, or_parts, true≢false}
use Rattle.std.proofs.lemmas.List.Elements.{All-contains, filter-append}
use Rattle.std.proofs.lemmas.List.Folds.{list_any-append}
use Rattle.std.proofs.lemmas.List.Sums.{sum_by-append}
use Rattle.std.proofs.lemmas.Map.Keys.{IsDistinct-cons}
use Rattle.forest.specs.Forest.{Forest, labels}
use Rattle.forest.specs.Keys.{HasDistinctKeys, Keyed}
use Rattle.plain_types.specs.declared.edit.Edit.{Edit}
use Rattle.plain_types.specs.declared.node.Node.{Node}
use Rattle.box_eval.specs.declared.element_record.ElementRecord.{ElementRecord}
use Rattle.generated_texts.specs.References.{kept_at}
use Rattle.edit_merge.specs.EditMerges.{is_element}
use Rattle.edit_work.specs.KeyedSources.{KeyedSource, author, element_key, elements_in, is_among, weight}
use Rattle.edit_work.specs.Work.{around_places, differing, in_scopes, placed, referring, walk_work, work}
use Rattle.surroundings.specs.declared.told.Told.{Told}
use Rattle.reference_reach.specs.ChangedTargets.{Evaluated}
use Rattle.reference_reach.specs.Laws.{evaluated, other_points}
use Rattle.reference_reach.specs.MergedNodes.{entered_elements}
use Rattle.reference_reach.specs.ToldLaws.{keys_of, told_of, whole_merge}
use Rattle.reference_reach.proofs.LawLemmas.{entered_are_placed, referring_is_paid, unstarted_changes_are_told}
use Rattle.kept_elements.specs.News.{NewsArePaid}
use Rattle.kept_elements.specs.RenewalSteps.{RenewalIsPaid, renewal_weight}
use Rattle.kept_elements.specs.Renewals.{evaluated_as, is_told}
use Rattle.kept_elements.proofs.ChangeLemmas.{some-kept, some_of}
use Rattle.kept_elements.proofs.KeptTold.{left_among, right_among}
use Rattle.kept_elements.proofs.RenewalLemmas.{kept_there}
use Rattle.kept_elements.proofs.RenewedLemmas.{caught_there}
use Rattle.kept_elements.proofs.KeyWeights.{either_true, elements_labels, weigh_less}
use Rattle.kept_elements.proofs.SaidLemmas.{often, often-cons, times-often}
use Rattle.kept_elements.proofs.StepLemmas.{keys_told}
use Rattle.kept_elements.proofs.ToldLemmas.{said_is}

-- The elements of trees stand there once.

pub apart_all : (k : ℕ) (ks : List ℕ) → is_among ks k ≡ false → AllByRecursion (λ y. nat_eq k y ≡ false) ks
apart_all k [] apart = tt
apart_all k (y ∷ ks) apart = let parts = or_parts (y == k) (is_among ks k) apart in (nat_eq_equiv.symm k y ∙ parts.0, apart_all k ks parts.1)

pub none_once : IsDistinct nat_eq []
unfolding IsDistinct
none_once = tt

module _ (test : ℕ → Bool) where
  abbrev of : List (Keyed Node) → List ℕ
  of ns = filter test (flat_map element_key ns)

  own_key : (n : Keyed Node) (k : ℕ) → is_among (filter test (element_key n)) k ≡ true → (n.key == k) ≡ true
  own_key n k there = by (is_element n.label) (test n.key) refl there
    where
      by : (e t : Bool) → test n.key ≡ t → is_among (filter test (cond e (n.key ∷ []) [])) k ≡ true → (n.key == k) ≡ true
      by false t is h = absurd (true≢false (sym h))
      by true t is h = two t (ap (λ b. is_among (cond b (n.key ∷ []) []) k) (sym is) ∙ h)
        where
          two : (t : Bool) → is_among (cond t (n.key ∷ []) []) k ≡ true → (n.key == k) ≡ true
          two false h = absurd (true≢false (sym h))
          two true h = elim (either_true (n.key == k) false h) [ inl same ↦ same | inr never ↦ absurd (true≢false (sym never)) ]

  parts : (n : Keyed Node) (ns : List (Keyed Node)) → of (n ∷ ns) ≡ filter test (element_key n) ++ of ns
  parts n ns = filter-append test (element_key n) (flat_map element_key ns)

  counted : (ns : List (Keyed Node)) (k : ℕ) → is_among (of ns) k ≡ true → 1 ≤ often k ns
  counted [] k there = absurd (true≢false (sym there))
  counted (n ∷ ns) k there =
      elim (either_true (is_among (filter test (element_key n)) k) (is_among (of ns) k)
      (sym (list_any-append (λ other. other == k) (filter test (element_key n)) (of ns)) ∙ sym (ap (λ ks. is_among ks k) (parts n ns)) ∙ there)) [
        | inl own ↦ omega (arith, often-cons k n ns, ap (λ b. cond {A = ℕ} b 1 0) (own_key n k own))
        | inr rest ↦ omega (arith, often-cons k n ns, counted ns k rest)
      ]

  once : (ns : List (Keyed Node)) → ((k : ℕ) → often k ns ≤ 1) → IsDistinct nat_eq (of ns)
  once [] few = none_once
  once (n ∷ ns) few = subst (λ (ks : List ℕ). IsDistinct nat_eq ks) (sym (parts n ns)) (by (is_element n.label) (once ns (λ k. omega (arith, often-cons k n ns, few k))))
    where
      absent : is_among (of ns) n.key ≡ false
      absent = elim (cases_Bool (is_among (of ns) n.key)) [
        | inl there ↦ absurd (omega (arith, often-cons n.key n ns, few n.key, counted ns n.key there, ap (λ b. cond {A = ℕ} b 1 0) (eq-eqb n.key n.key refl)))
        | inr apart ↦ apart
      ]

      by : (e : Bool) → IsDistinct nat_eq (of ns) → IsDistinct nat_eq (filter test (cond e (n.key ∷ []) []) ++ of ns)
      by false rest = rest
      by true rest = two (test n.key)
        where
          two : (t : Bool) → IsDistinct nat_eq (cond t (n.key ∷ []) [] ++ of ns)
          two false = rest
          two true = IsDistinct-cons nat_eq n.key (of ns) (apart_all n.key (of ns) absent) rest

  passes : (ks : List ℕ) (k : ℕ) → is_among (filter test ks) k ≡ true → test k ≡ true
  passes [] k there = absurd (true≢false (sym there))
  passes (x ∷ ks) k there = by (test x) refl there (λ h. passes ks k h)
    where
      by : (t : Bool) → test x ≡ t → is_among (cond t (x ∷ filter test ks) (filter test ks)) k ≡ true → (is_among (filter test ks) k ≡ true → test k ≡ true) → test k ≡ true
      by false is h rest = rest h
      by true is h rest = elim (either_true (x == k) (is_among (filter test ks) k) h) [
        | inl same ↦ ap test (sym (eqb-true x k same)) ∙ is
        | inr behind ↦ rest behind
      ]

  -- so those that pass a test weigh no more than a list that has them
  pub weigh_passing : (w : ℕ → ℕ) (trees : Forest (Keyed Node)) → HasDistinctKeys trees → (points : List ℕ) → ((k : ℕ) → test k ≡ true → is_among points k ≡ true)
      → sum_by w (filter test (elements_in trees)) ≤ sum_by w points
  weigh_passing w trees distinct points there =
      weigh_less w (filter test (elements_in trees)) points
      (subst (λ (ks : List ℕ). IsDistinct nat_eq (filter test ks)) (sym (elements_labels trees)) (once (labels trees) (λ k. omega (arith, times-often k trees, distinct k))))
      (λ k among. there k (passes (elements_in trees) k among))

all_pass : (ks : List ℕ) → filter (λ (k : ℕ). true) ks ≡ ks
all_pass [] = refl
all_pass (k ∷ ks) = ap (λ rest. k ∷ rest) (all_pass ks)

work_is : (edit : Edit) (before after : KeyedSource) → let w = weight before after in work edit before after ≡ sum_by w (other_points edit before after) + sum_by w (referring edit before after)
unfolding work walk_work
work_is edit before after =
    let w = weight before after in
    let first = placed edit before after in
    let second = differing edit before after in
    let third = in_scopes edit before after in
    let fourth = around_places edit before after in
    omega (
      arith,
      sum_by-append w first (second ++ fourth),
      sum_by-append w second fourth,
      sum_by-append w third (referring edit before after),
      sum_by-append w first (second ++ (third ++ fourth)),
      sum_by-append w second (third ++ fourth),
      sum_by-append w third fourth,
    )

-- what is placed or around places is under them
among_points : (first second third fourth : List ℕ) (k : ℕ) → is_among (first ++ fourth) k ≡ true → is_among (first ++ (second ++ (third ++ fourth))) k ≡ true
among_points first second third fourth k there = elim (either_true (is_among first k) (is_among fourth k) (sym (list_any-append (λ other. other == k) first fourth) ∙ there)) [
  | inl placed ↦ left_among k first (second ++ (third ++ fourth)) placed
  | inr around ↦ right_among k first (second ++ (third ++ fourth)) (right_among k second (third ++ fourth) (right_among k third fourth around))
]

pub renewal_is_paid : RenewalIsPaid
renewal_is_paid edit before after merge caught distinct points =
    let changed = keys_of caught ++ entered_elements merge in
    let told = weigh_passing (is_told caught) (weight before after) after.tree distinct (other_points edit before after)
    (λ k does. points k (list_any-append (λ other. other == k) (keys_of caught) (entered_elements merge) ∙ ap (λ b. b || is_among (entered_elements merge) k) (keys_told caught k ∙ does))) in
    let paid = referring_is_paid edit before after changed distinct (λ k named among. points k among) in
    omega (arith, told, paid, work_is edit before after)

-- What is told otherwise than before, or is entered, falls under such a point.

-- what is told of a document says its evaluation
told_so : (source : KeyedSource) → HasDistinctKeys source.tree → evaluated source ≡ evaluated_as source.tree (told_of source)
told_so source distinct = ap (λ (said : List (ℕ × ElementRecord)). record { tree = source.tree; said = said }) (sym (said_is (author source) source.tree distinct))

pub news_are_paid : NewsArePaid
news_are_paid edit before after leads other was_unstarted is_unstarted table news held tells =
    let merge = whole_merge edit before after in
    let changes = unstarted_changes_are_told edit before after leads other was_unstarted is_unstarted in
    let entered : (k : ℕ) → is_among (entered_elements merge) k ≡ true → is_among (other_points edit before after) k ≡ true =
    λ k there. among_points (placed edit before after) (differing edit before after) (in_scopes edit before after) (around_places edit before after) k (entered_are_placed edit before after leads other k there) in
    let of_news : (k : ℕ) → is_among (keys_of news) k ≡ true → is_among (other_points edit before after) k ≡ true =
    λ k there.
    let t = some_of (kept_at news k) (some-kept k news ∙ sym (keys_told news k) ∙ there) in
    let now : kept_at (told_of after) k ≡ Some t.0 = caught_there news (told_of after) tells.tells.once tells.tells.among k t.0 t.1 in
    elim (All-contains (λ (x : ℕ × Told). (is_among (entered_elements merge) x.0 ≡ true) ⊎ (kept_at (told_of before) x.0 ≡ Some x.1 → ⊥)) news (k, t.0) tells.each (kept_there news k t.0 t.1)) [
      | inl enters ↦ entered k enters
      | inr otherwise ↦ changes.points k t.0 now otherwise
    ] in
    let paid =
    renewal_is_paid edit before after merge news tells.tells.distinct_after
    (λ k there. elim (either_true (is_among (keys_of news) k) (is_among (entered_elements merge) k) (sym (list_any-append (λ other. other == k) (keys_of news) (entered_elements merge)) ∙ there)) [
      | inl told ↦ of_news k told
      | inr enters ↦ entered k enters
    ]) in
    subst (λ (was : Evaluated). renewal_weight was (evaluated_as after.tree (told_of after)) merge news ≤ work edit before after) (told_so before tells.tells.distinct_before)
    (subst (λ (is : Evaluated). renewal_weight (evaluated before) is merge news ≤ work edit before after) (told_so after tells.tells.distinct_after) paid)
