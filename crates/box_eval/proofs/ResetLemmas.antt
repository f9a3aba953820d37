-- The counters that a box's resets create are not there before.
use Rattle.std.proofs.Common.{◌≡◌, ◌∷◌, ◌∙◌, ◌||◌, ℕ, List, [], Bool, true, false, map, refl, subst, inl, inr}
use Rattle.std.proofs.lemmas.Bool.{cases_Bool}
use Rattle.std.specs.List.{AllByRecursion, fold, list_any}
use Rattle.std.specs.Str.{bytes_eq}
use Rattle.plain_types.specs.declared.box_id.BoxId.{BoxId}
use Rattle.plain_types.specs.declared.counter.Counter.{Counter}
use Rattle.plain_types.specs.declared.style.ResetOp.{ResetOp}
use Rattle.counter_sets.specs.Indexes.{HaveOwnNames}
use Rattle.counter_sets.specs.Sets.{AreDistinct, instantiated, is_missing_in, is_named, is_same, is_same_box}
use Rattle.counter_sets.proofs.DistinctLemmas.{instantiated_distinct, instantiated_lacks}
use Rattle.box_eval.specs.declared.inputs.Start.{Start}
use Rattle.box_eval.specs.Properties.{first_value, last_of_each, last_resets, reset_by}
use Rattle.box_eval.specs.Scopes.{HasNoneOf}
use Rattle.box_eval.proofs.BoxLemmas.{box_self, creator_prop}
use Rattle.box_eval.proofs.ListLemmas.{each_imp, each_both, or_none, or_parts}
use Rattle.box_eval.proofs.OpLemmas.{last_here, last_later}
use Rattle.box_eval.proofs.PlaceLemmas.{name_swapped}

-- what holds of each entry holds of the last of each name
each_last : {Entry : Type 0} (name_of : Entry → List ℕ) (P : Entry → Type 0) (entries : List Entry) → AllByRecursion P entries → AllByRecursion P (last_of_each name_of entries)
each_last name_of P [] h = tt
each_last name_of P (entry ∷ later) h = elim (cases_Bool (list_any (λ other. bytes_eq (name_of other) (name_of entry)) later)) [
  | inl e ↦ rw e (each_last name_of P later h.1)
  | inr e ↦ rw e (h.0, each_last name_of P later h.1)
]

each_fails : {A : Type 0} (test : A → Bool) (xs : List A) → list_any test xs ≡ false → AllByRecursion (λ x. test x ≡ false) xs
each_fails test [] h = tt
each_fails test (x ∷ xs) h = let parts = or_parts (test x) (list_any test xs) h in (parts.0, each_fails test xs parts.1)

module _ (box : BoxId) (starts : List Start) where
  abbrev pub new : ResetOp → Counter
  new op = record { name = op.name; creator = box; reversed = op.reversed; value = first_value starts box op }

  -- the set has no counter yet that these entries create
  abbrev pub LacksAll : List ResetOp → List Counter → Type 0
  LacksAll ops set = AllByRecursion (λ op. is_missing_in set (new op) ≡ true) (last_resets ops)

  missing_new : (set : List Counter) (op : ResetOp) → HasNoneOf (box ∷ []) set → is_missing_in set (new op) ≡ true
  missing_new set op none = elim (cases_Bool (is_missing_in set (new op))) [
    | inl e ↦ e
    | inr e ↦
        let apart : (is_same_box box box || false) ≡ false = creator_prop (λ creator. list_any (is_same_box creator) (box ∷ []) ≡ false) set (new op) none e in
        let whole : (is_same_box box box || false) ≡ true = rw (box_self box) refl in
        absurd (cc)
  ]

  all_missing : (ops : List ResetOp) (set : List Counter) → HasNoneOf (box ∷ []) set → AllByRecursion (λ op. is_missing_in set (new op) ≡ true) ops
  all_missing [] set none = tt
  all_missing (op ∷ ops) set none = (missing_new set op none, all_missing ops set none)

  pub lacks_at_first : (ops : List ResetOp) (set : List Counter) → HasNoneOf (box ∷ []) set → LacksAll ops set
  lacks_at_first ops set none = all_missing (last_resets ops) set none

  -- The new counters, all at once.

  none_named : (name : List ℕ) (ops : List ResetOp) → AllByRecursion (λ (other : ResetOp). bytes_eq other.name name ≡ false) ops → list_any (is_named name) (map new ops) ≡ false
  none_named name [] h = refl
  none_named name (op ∷ ops) h = or_none (is_named name (new op)) (list_any (is_named name) (map new ops)) (name_swapped name op.name ∙ h.0) (none_named name ops h.1)

  pub own_names : (ops : List ResetOp) → HaveOwnNames (map new (last_resets ops))
  own_names [] = tt
  own_names (op ∷ later) = elim (cases_Bool (list_any (λ (other : ResetOp). bytes_eq other.name op.name) later)) [
    | inl e ↦ rw e (own_names later)
    | inr e ↦
        let others = each_last (λ (op : ResetOp). op.name) (λ (other : ResetOp). bytes_eq other.name op.name ≡ false) later (each_fails (λ (other : ResetOp). bytes_eq other.name op.name) later e) in
        rw e (none_named op.name (last_resets later) others, own_names later)
  ]

  pub all_at_once : (is_replaced : Counter → Bool) (ops : List ResetOp) (set : List Counter) → fold (instantiated is_replaced) set (map new ops) ≡ fold (reset_by is_replaced box starts) set ops
  all_at_once is_replaced [] set = refl
  all_at_once is_replaced (op ∷ ops) set = all_at_once is_replaced ops (reset_by is_replaced box starts set op)

  module _ (is_replaced : Counter → Bool) (rest later : List ResetOp) (op : ResetOp) (begins : rest ≡ op ∷ later) (set : List Counter) where
    pub first_lacks : list_any (λ (other : ResetOp). bytes_eq other.name op.name) later ≡ false → LacksAll rest set → is_missing_in set (new op) ≡ true
    first_lacks last lacks =
        (subst (λ ops. AllByRecursion (λ op. is_missing_in set (new op) ≡ true) ops) (last_here (λ (op : ResetOp). op.name) rest later op begins last) lacks).0

    pub reset_distinct : list_any (λ (other : ResetOp). bytes_eq other.name op.name) later ≡ false → LacksAll rest set → AreDistinct set → AreDistinct (reset_by is_replaced box starts set op)
    reset_distinct last lacks distinct = instantiated_distinct is_replaced set (new op) distinct (first_lacks last lacks)

    apart : (other : ResetOp) → bytes_eq other.name op.name ≡ false → is_same (new other) (new op) ≡ false
    apart other e = rw e refl

    pub later_lack : list_any (λ (other : ResetOp). bytes_eq other.name op.name) later ≡ false → LacksAll rest set → LacksAll later (reset_by is_replaced box starts set op)
    later_lack last lacks =
        let both = subst (λ ops. AllByRecursion (λ op. is_missing_in set (new op) ≡ true) ops) (last_here (λ (op : ResetOp). op.name) rest later op begins last) lacks in
        let others = each_last (λ (op : ResetOp). op.name) (λ (other : ResetOp). bytes_eq other.name op.name ≡ false) later (each_fails (λ (other : ResetOp). bytes_eq other.name op.name) later last) in
        each_imp (λ (other : ResetOp). (bytes_eq other.name op.name ≡ false) × (is_missing_in set (new other) ≡ true)) (λ (other : ResetOp). is_missing_in (reset_by is_replaced box starts set op) (new other) ≡ true)
        (λ other h. instantiated_lacks is_replaced set (new op) (new other) (apart other h.0) h.1) (last_resets later)
        (each_both (λ (other : ResetOp). bytes_eq other.name op.name ≡ false) (λ (other : ResetOp). is_missing_in set (new other) ≡ true) (last_resets later) others both.1)

    pub later_lacked : list_any (λ (other : ResetOp). bytes_eq other.name op.name) later ≡ true → LacksAll rest set → LacksAll later set
    later_lacked again lacks =
        subst (λ ops. AllByRecursion (λ op. is_missing_in set (new op) ≡ true) ops) (last_later (λ (op : ResetOp). op.name) rest later op begins again) lacks

  pub all_distinct : (is_replaced : Counter → Bool) (ops : List ResetOp) (set : List Counter) → LacksAll ops set → AreDistinct set → AreDistinct (fold (reset_by is_replaced box starts) set (last_resets ops))
  all_distinct is_replaced [] set lacks distinct = distinct
  all_distinct is_replaced (op ∷ later) set lacks distinct = elim (cases_Bool (list_any (λ (other : ResetOp). bytes_eq other.name op.name) later)) [
    | inl e ↦ rw e (all_distinct is_replaced later set (later_lacked is_replaced (op ∷ later) later op refl set e lacks) distinct)
    | inr e ↦
        rw e
        (all_distinct is_replaced later (reset_by is_replaced box starts set op) (later_lack is_replaced (op ∷ later) later op refl set e lacks)
        (reset_distinct is_replaced (op ∷ later) later op refl set e lacks distinct))
  ]
