-- The elements that have other starts than before. Throughout, k is a key, x an entry, and xs are entries.
use Rattle.std.proofs.Common.{◌≡◌, ◌==◌, ◌&&◌, ◌||◌, ◌∷◌, ℕ, Bool, true, false, cond, All, List, [], Option, Some, None, refl, sym, ap, ◌∙◌, eq-eqb, eqb-true}
use Rattle.std.specs.Prelude.{filter, flat_map, unwrap_or}
use Rattle.std.specs.FinMap.{get}
use Rattle.std.proofs.lemmas.Bool.{or_parts}
use Rattle.std.proofs.lemmas.List.Elements.{All-append, All-cons, All-head, All-nil, All-tail, All-weaker}
use Rattle.std.proofs.lemmas.List.Folds.{list_any-append}
use Rattle.std.proofs.lemmas.Map.Views.{any-filter_same}
use Rattle.box_eval.specs.declared.inputs.Start.{Start}
use Rattle.merged_walk.specs.Entries.{first_at}
use Rattle.edit_work.specs.KeyedSources.{is_among}
use Rattle.counter_index.specs.declared.index.CounterIndex.{CounterIndex}
use Rattle.counter_index.specs.Indexes.{starts_at, starts_by}
use Rattle.counter_index.specs.Retold.{other_key, other_keys}
use Rattle.edit_work.specs.Inputs.{are_same_starts}
use Rattle.counter_index.proofs.ListLemmas.{first-has}
use Rattle.counter_index.proofs.TouchedLemmas.{starts-decide}
use Rattle.touched_starts.specs.Laws.{WereExchanged}
use Rattle.touched_starts.proofs.EntryCounts.{first-held, once-few}

-- a key is among those that pass a test where it passes and is among all
pub among-passing : (test : ℕ → Bool) (keys : List ℕ) (k : ℕ) → is_among (filter test keys) k ≡ (test k && is_among keys k)
among-passing test keys k = any-filter_same (λ (other : ℕ). other == k) test (test k) (λ other is. ap test (eqb-true other k is)) keys

-- what is true of all keys is true of those that pass, and they pass
module _ (P : ℕ → Type 0) (test : ℕ → Bool) where
  abbrev Passes : ℕ → Type 0
  Passes k = P k × (test k ≡ true)

  pass-step : (k : ℕ) (keys : List ℕ) (t : Bool) → test k ≡ t → P k → All Passes keys → All Passes (cond t (k ∷ keys) keys)
  pass-step k keys true is its rest = All-cons Passes k keys (its, is) rest
  pass-step k keys false is its rest = rest

  pub all-passing : (keys : List ℕ) → All P keys → All Passes (filter test keys)
  all-passing [] all = All-nil Passes
  all-passing (k ∷ keys) all = pass-step k (filter test keys) (test k) refl (All-head P k keys all) (all-passing keys (All-tail P k keys all))

module _ (former : List (ℕ × Option (List Start))) (was now : CounterIndex) (exchanged : WereExchanged former was now) where
  -- an entry has what was kept of its element
  abbrev WasKept : ℕ × Option (List Start) → Type 0
  WasKept x = starts_by x.1 ≡ starts_at was x.0

  all-were : All WasKept former
  all-were =
      All-weaker (λ (x : ℕ × Option (List Start)). first_at former x.0 ≡ Some x.1) WasKept
      (λ x first. ap starts_by (sym (ap (λ o. unwrap_or o (get now.starts.held x.0)) first) ∙ exchanged.back x.0)) former
      (first-held former (once-few former exchanged.once))

  abbrev pub HasOther : ℕ → Type 0
  HasOther k = starts_at now k ≡ starts_at was k → ⊥

  own-other : (x : ℕ × Option (List Start)) (same : Bool) → are_same_starts (starts_at now x.0) (starts_by x.1) ≡ same → WasKept x → All HasOther (cond same [] (x.0 ∷ []))
  own-other x true is kept = All-nil HasOther
  own-other x false is kept =
      All-cons HasOther x.0 []
      (λ equal. (let same : are_same_starts (starts_at now x.0) (starts_by x.1) ≡ true = (starts-decide (starts_at now x.0) (starts_by x.1)).1 (equal ∙ sym kept) in let never : true ≡ false = sym same ∙ is in absurd (cc never)))
      (All-nil HasOther)

  others-in : (xs : List (ℕ × Option (List Start))) → All WasKept xs → All HasOther (flat_map (other_key now) xs)
  others-in [] all = All-nil HasOther
  others-in (x ∷ xs) all =
      All-append HasOther (other_key now x) (flat_map (other_key now) xs)
      (own-other x (are_same_starts (starts_at now x.0) (starts_by x.1)) refl (All-head WasKept x xs all))
      (others-in xs (All-tail WasKept x xs all))

  pub all-other : All HasOther (other_keys now former)
  all-other = others-in former all-were

  -- each other element has the same

  module _ (k : ℕ) where
    abbrev Lacks : ℕ × Option (List Start) → Type 0
    Lacks x = is_among (other_key now x) k ≡ false

    all-lack : (xs : List (ℕ × Option (List Start))) → is_among (flat_map (other_key now) xs) k ≡ false → All Lacks xs
    all-lack [] none = All-nil Lacks
    all-lack (x ∷ xs) none =
        let parts = or_parts (is_among (other_key now x) k) (is_among (flat_map (other_key now) xs) k)
        (sym (list_any-append (λ (other : ℕ). other == k) (other_key now x) (flat_map (other_key now) xs)) ∙ none) in
        All-cons Lacks x xs parts.0 (all-lack xs parts.1)

    same-here : (same : Bool) (starts others : List Start) → are_same_starts starts others ≡ same → is_among (cond same [] (k ∷ [])) k ≡ false → starts ≡ others
    same-here true starts others is none = (starts-decide starts others).0 is
    same-here false starts others is none = absurd (let there : true ≡ false = sym (ap (λ b. b || false) (eq-eqb k k refl)) ∙ none in cc there)

    kept-here : (first : Option (Option (List Start))) → first_at former k ≡ first → is_among (other_keys now former) k ≡ false → starts_at now k ≡ starts_by (unwrap_or first (get now.starts.held k))
    kept-here None at none = refl
    kept-here (Some kept) at none =
        same-here (are_same_starts (starts_at now k) (starts_by kept)) (starts_at now k) (starts_by kept) refl
        (first-has Lacks former (all-lack former none) k kept at)

    pub others-same : is_among (other_keys now former) k ≡ false → starts_at now k ≡ starts_at was k
    others-same none = kept-here (first_at former k) refl none ∙ ap starts_by (exchanged.back k)
