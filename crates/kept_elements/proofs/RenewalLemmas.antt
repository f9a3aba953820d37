-- What comes to a map of which all that is to be kept is known.
use Rattle.std.proofs.Common.{◌≡◌, ◌==◌, ◌<◌, ◌≤◌, ℕ, nat_eq, Bool, true, false, cond, not, ◌&&◌, ◌||◌, List, [], ◌∷◌, length, Option, Some, None, refl, sym, ap, subst, ◌∙◌, arith, ◌⊎◌, inl, inr, eqb-true, eq-eqb}
use Rattle.std.specs.Prelude.{Contains, is_some}
use Rattle.std.specs.Cmp.{nat_eq_equiv}
use Rattle.std.specs.FinMap.{FinMap, get}
use Rattle.std.specs.List.{AllByRecursion, list_any}
use Rattle.std.specs.Option.{option_or}
use Rattle.std.specs.Ordering.{nat_cmp}
use Rattle.std.proofs.lemmas.Bool.{both_ways, cases_Bool}
use Rattle.std.proofs.lemmas.List.Elements.{All-cons, All-contains, All-from_recursion, All-nil, All-weaker, Contains-append_cases, Contains-append_right, recursion_from_All}
use Rattle.std.proofs.lemmas.Option.{none-some, same_Some}
use Rattle.generated_texts.specs.References.{kept_at}
use Rattle.snapshot_board.specs.Records.{put_all, take_all}
use Rattle.merged_walk.specs.Entries.{AgreeByKeys, first_at, last_at, put_over}
use Rattle.merged_walk.proofs.EntryLaws.{contains-first}
use Rattle.merged_walk.proofs.LawLemmas.{changes_are_enough}
use Rattle.kept_elements.specs.declared.kept.Kept.{Kept}
use Rattle.kept_elements.specs.declared.kept_change.KeptChange.{KeptChange}
use Rattle.kept_elements.specs.Changes.{AreBelow, AreChanges, Renews, TellWere, puts_of}
use Rattle.kept_elements.proofs.ChangeLemmas.{HasKeysOnce, get-put_all, get-take_all, has_key}

module _ {A : Type 0} where
  pub later : (first one : A) (rest : List A) → Contains rest one → Contains (first ∷ rest) one
  later first one rest there = Contains-append_right (first ∷ []) rest one there

  pub the_one : (first one : A) → Contains (first ∷ []) one → first ≡ one
  the_one first one there = All-contains (λ other. first ≡ other) (first ∷ []) one (All-cons (λ other. first ≡ other) first [] refl (All-nil (λ other. first ≡ other))) there

module _ {V : Type 0} where
  -- Entries of a list, and what is kept under their keys.

  first_is : (kept : List (ℕ × V)) (key : ℕ) → first_at kept key ≡ kept_at kept key
  first_is [] key = refl
  first_is (entry ∷ kept) key = by (entry.0 == key) refl (first_is kept key)
    where
      by : (b : Bool) → (entry.0 == key) ≡ b → first_at kept key ≡ kept_at kept key → first_at (entry ∷ kept) key ≡ kept_at (entry ∷ kept) key
      by true e rest = rw e refl
      by false e rest = rw e rest

  pub at_first : (kept : List (ℕ × V)) (key : ℕ) → first_at kept key ≡ kept_at kept key
  at_first = first_is

  -- what is kept under a key stands in the list
  pub kept_there : (kept : List (ℕ × V)) (key : ℕ) (v : V) → kept_at kept key ≡ Some v → Contains kept (key, v)
  kept_there [] key v is = absurd (none-some v is)
  kept_there (entry ∷ kept) key v is = by (entry.0 == key) refl (kept_there kept key v)
    where
      by : (b : Bool) → (entry.0 == key) ≡ b → (kept_at kept key ≡ Some v → Contains kept (key, v)) → Contains (entry ∷ kept) (key, v)
      by true e rest =
          let value : entry.1 ≡ v = same_Some entry.1 v (rw e at is) in
          let its : (key, v) ≡ entry = λ i. (sym (eqb-true entry.0 key e) i, sym value i) in
          rw its (contains-first entry kept)
      by false e rest = later entry (key, v) kept (rest (rw e at is))

  -- the key of what stands there is one of the list
  pub key_there : (kept : List (ℕ × V)) (entry : ℕ × V) → Contains kept entry → has_key entry.0 kept ≡ true
  key_there [] one there = absurd (omega (arith, there.1))
  key_there (entry ∷ kept) one there = elim (Contains-append_cases (entry ∷ []) kept one there) [
    | inl first ↦ ap (λ (e : ℕ × V). (e.0 == one.0) || has_key one.0 kept) (the_one entry one first) ∙ ap (λ b. b || has_key one.0 kept) (eq-eqb one.0 one.0 refl)
    | inr rest ↦ ap (λ b. (entry.0 == one.0) || b) (key_there kept one rest) ∙ or_true (entry.0 == one.0)
  ]
    where
      or_true : (b : Bool) → (b || true) ≡ true
      or_true true = refl
      or_true false = refl

  -- where no key comes twice, each stands there first
  pub once_there : (kept : List (ℕ × V)) → HasKeysOnce kept → (entry : ℕ × V) → Contains kept entry → kept_at kept entry.0 ≡ Some entry.1
  once_there [] once one there = absurd (omega (arith, there.1))
  once_there (entry ∷ kept) once one there = elim (Contains-append_cases (entry ∷ []) kept one there) [
    | inl first ↦ let same = the_one entry one first in subst (λ (e : ℕ × V). kept_at (entry ∷ kept) e.0 ≡ Some e.1) same (head (eq-eqb entry.0 entry.0 refl))
    | inr rest ↦ tail (cases_Bool (entry.0 == one.0)) (once_there kept once.1 one rest) (key_there kept one rest)
  ]
    where
      head : (entry.0 == entry.0) ≡ true → kept_at (entry ∷ kept) entry.0 ≡ Some entry.1
      head e = rw e refl

      tail : ((entry.0 == one.0) ≡ true) ⊎ ((entry.0 == one.0) ≡ false) → kept_at kept one.0 ≡ Some one.1 → has_key one.0 kept ≡ true → kept_at (entry ∷ kept) one.0 ≡ Some one.1
      tail (inl e) is some = absurd (both_ways (has_key one.0 kept) (ap (λ k. has_key k kept) (sym (eqb-true entry.0 one.0 e)) ∙ once.0) some)
      tail (inr e) is some = rw e is

  pub once_agrees : (kept : List (ℕ × V)) → HasKeysOnce kept → AgreeByKeys kept
  once_agrees kept once one other first second same =
      let values = same_Some one.1 other.1 (sym (once_there kept once one first) ∙ ap (kept_at kept) same ∙ once_there kept once other second) in
      λ i. (same i, values i)

  none_there : (kept : List (ℕ × V)) (key : ℕ) → ((v : V) → Contains kept (key, v) → ⊥) → kept_at kept key ≡ None
  none_there kept key nowhere = by (kept_at kept key) refl
    where
      by : (o : Option V) → kept_at kept key ≡ o → kept_at kept key ≡ None
      by None is = is
      by (Some v) is = absurd (nowhere v (kept_there kept key v is))

  -- a look-up of the last among entries
  over : (changes : List (ℕ × V)) (takes : List ℕ) (held : FinMap nat_cmp V) (key : ℕ) → get (put_all changes (take_all takes held)) key ≡ put_over changes takes (get held) key
  over changes takes held key =
      get-put_all changes (take_all takes held) key
      ∙ ap (option_or (last_at changes key)) (get-take_all takes held key ∙ ap (λ b. cond b None (get held key)) (turned takes))
    where
      turned : (takes : List ℕ) → list_any (nat_eq key) takes ≡ list_any (λ taken. taken == key) takes
      turned [] = refl
      turned (taken ∷ takes) = ap (λ b. b || list_any (nat_eq key) takes) (nat_eq_equiv.symm key taken) ∙ ap (λ b. (taken == key) || b) (turned takes)

module _ (held : FinMap nat_cmp Kept) where
  -- the entries of a list that a map does not hold bring all of the list
  pub renews : (all : List (ℕ × Kept)) (changes : List (ℕ × KeptChange)) → AreChanges held all changes → Renews held all changes
  renews [] changes are = subst (Renews held []) (sym are) (record { among = All-nil (Contains []); covers = All-nil (λ (one : ℕ × Kept). Contains [] one ⊎ (get held one.0 ≡ Some one.1)); others = tt; shown = tt; few = omega arith })
  renews (entry ∷ all) changes are = elim are [
    | inl h ↦
        let rest = renews all changes h.1 in
        record {
          among = All-weaker (Contains all) (Contains (entry ∷ all)) (λ one there. later entry one all there) (puts_of changes) rest.among;
          covers = All-cons (λ (one : ℕ × Kept). Contains (puts_of changes) one ⊎ (get held one.0 ≡ Some one.1)) entry all (inr h.0) rest.covers;
          others = rest.others;
          shown = rest.shown;
          few = let fewer : length changes ≤ length all = rest.few in omega (arith, fewer);
        }
    | inr h ↦
        let rest = renews all h.1.0 h.1.2 in
        subst (Renews held (entry ∷ all)) (sym h.1.1) (record {
          among = All-cons (Contains (entry ∷ all)) entry (puts_of h.1.0) (contains-first entry all)
              (All-weaker (Contains all) (Contains (entry ∷ all)) (λ one there. later entry one all there) (puts_of h.1.0) rest.among);
          covers = All-cons (λ (one : ℕ × Kept). Contains (entry ∷ puts_of h.1.0) one ⊎ (get held one.0 ≡ Some one.1)) entry all (inl (contains-first entry (puts_of h.1.0)))
              (All-weaker (λ (one : ℕ × Kept). Contains (puts_of h.1.0) one ⊎ (get held one.0 ≡ Some one.1)) (λ (one : ℕ × Kept). Contains (entry ∷ puts_of h.1.0) one ⊎ (get held one.0 ≡ Some one.1))
              (λ one is. elim is [ inl there ↦ inl (later entry one (puts_of h.1.0) there) | inr same ↦ inr same ]) all rest.covers);
          others = (h.0, rest.others);
          shown = (refl, rest.shown);
          few = let fewer : length h.1.0 ≤ length all = rest.few in omega (arith, fewer);
        })
  ]

  -- and each tells what its element was handed before
  pub tell_were : (all : List (ℕ × Kept)) (changes : List (ℕ × KeptChange)) → AreChanges held all changes → TellWere held changes
  tell_were [] changes are = subst (TellWere held) (sym are) tt
  tell_were (entry ∷ all) changes are = elim are [
    | inl h ↦ tell_were all changes h.1
    | inr h ↦ subst (TellWere held) (sym h.1.1) (refl, tell_were all h.1.0 h.1.2)
  ]

  -- The elements of one document go and those of another come: the map has all that is kept of these.
  module _ (was is : ℕ → Bool) (all : List (ℕ × Kept)) (changes : List (ℕ × KeptChange)) (once : HasKeysOnce all) (renewal : Renews held all changes)
      (before : (key : ℕ) → is_some (get held key) ≡ was key) (after : (key : ℕ) → is_some (kept_at all key) ≡ is key) where
    is_there : (key : ℕ) (v : Kept) → Contains all (key, v) → is key ≡ true
    is_there key v there = sym (after key) ∙ ap (λ (o : Option Kept). is_some o) (once_there all once (key, v) there)

    no_more : (b : Bool) (o : Option Kept) → is_some o ≡ b → (o ≡ None) ⊎ ((b && true) ≡ true)
    no_more true o is = inr refl
    no_more false None is = inl refl
    no_more false (Some v) is = absurd (cc is)

    never : (b : Bool) → (b && false) ≡ false
    never true = refl
    never false = refl

    pub settles : (takes : List ℕ) → ((key : ℕ) → list_any (nat_eq key) takes ≡ (was key && not (is key))) → (key : ℕ) → get (put_all (puts_of changes) (take_all takes held)) key ≡ kept_at all key
    settles takes taken key =
        over (puts_of changes) takes held key
        ∙ changes_are_enough Kept all (puts_of changes) takes (get held) (once_agrees all once) renewal.among renewal.covers
        (λ key v there. takes_of key ∙ ap (λ b. was key && not b) (is_there key v there) ∙ never (was key))
        (λ key nowhere.
        let gone : is key ≡ false = sym (after key) ∙ ap (λ (o : Option Kept). is_some o) (none_there all key nowhere) in
        elim (no_more (was key) (get held key) (before key)) [
          | inl none ↦ inl none
          | inr out ↦ inr (takes_of key ∙ ap (λ b. was key && not b) gone ∙ out)
        ])
        key
        ∙ first_is all key
      where
        turned : (key : ℕ) (takes : List ℕ) → list_any (λ taken. taken == key) takes ≡ list_any (nat_eq key) takes
        turned key [] = refl
        turned key (taken ∷ takes) = ap (λ b. b || list_any (λ taken. taken == key) takes) (nat_eq_equiv.symm taken key) ∙ ap (λ b. nat_eq key taken || b) (turned key takes)

        takes_of : (key : ℕ) → list_any (λ taken. taken == key) takes ≡ (was key && not (is key))
        takes_of key = turned key takes ∙ taken key

    -- what comes is of these
    pub are_of : AllByRecursion (λ (entry : ℕ × Kept). is entry.0 ≡ true) (puts_of changes)
    are_of = recursion_from_All (λ (entry : ℕ × Kept). is entry.0 ≡ true) (puts_of changes) (All-weaker (Contains all) (λ (entry : ℕ × Kept). is entry.0 ≡ true) (λ entry there. is_there entry.0 entry.1 there) (puts_of changes) renewal.among)

    -- and there is room where they have it, or had it before
    pub room_for_all : (room more : ℕ) → ((key : ℕ) → was key ≡ true → key < room) → room ≤ more → AreBelow more changes → (key : ℕ) → is key ≡ true → key < more
    room_for_all room more had grown below key there = by (kept_at all key) refl
      where
        below_puts : (some : List (ℕ × KeptChange)) → AreBelow more some → AreBelow more (puts_of some)
        below_puts [] low = tt
        below_puts (change ∷ some) low = (low.0, below_puts some low.1)

        by : (o : Option Kept) → kept_at all key ≡ o → key < more
        by None none = absurd (both_ways (is key) (sym (after key) ∙ ap (λ (o : Option Kept). is_some o) none) there)
        by (Some v) found = elim (All-contains (λ (one : ℕ × Kept). Contains (puts_of changes) one ⊎ (get held one.0 ≡ Some one.1)) all (key, v) renewal.covers (kept_there all key v found)) [
          | inl change ↦ All-contains (λ (one : ℕ × Kept). one.0 < more) (puts_of changes) (key, v) (All-from_recursion (λ (one : ℕ × Kept). one.0 < more) (puts_of changes) (below_puts changes below)) change
          | inr kept ↦ let low : key < room = had key (sym (before key) ∙ ap (λ (o : Option Kept). is_some o) kept) in omega (arith, low, grown)
        ]
