-- Entries that come to a board and go from it.
use Rattle.std.proofs.Common.{◌≡◌, ◌==◌, ◌<◌, ◌≤◌, ◌+◌, ℕ, zero, suc, nat_eq, Bool, true, false, cond, ◌||◌, List, [], ◌∷◌, ◌++◌, get_or, length, map, take, append-nil, Option, Some, None, refl, sym, ap, subst, ◌∙◌, arith, inl, inr, eqb-true, eq-eqb}
use Rattle.std.specs.Prelude.{is_some}
use Rattle.std.specs.Cmp.{nat_cmp_total, nat_eq_equiv, unsigned_tied}
use Rattle.std.specs.FinMap.{FinMap, get, insert, remove, get-insert, get-remove}
use Rattle.std.specs.List.{AllByRecursion, list_any}
use Rattle.std.specs.Option.{option_or}
use Rattle.std.specs.Ordering.{nat_cmp}
use Rattle.std.proofs.lemmas.Bool.{cases_Bool}
use Rattle.std.proofs.lemmas.List.{map-append, take_more}
use Rattle.merged_walk.specs.Entries.{last_at}
use Rattle.kept_elements.specs.declared.kept.Kept.{Kept}
use Rattle.kept_elements.specs.declared.kept_change.KeptChange.{KeptChange}
use Rattle.generated_texts.specs.References.{kept_at}
use Rattle.snapshot_board.specs.Records.{put_all, take_all}
use Rattle.kept_elements.specs.Changes.{AreBelow, AreChanges, change_from}

module _ {V : Type 0} where
  -- What is kept under keys.

  -- whether something is
  abbrev pub has_key : ℕ → List (ℕ × V) → Bool
  has_key key kept = list_any (λ (entry : ℕ × V). entry.0 == key) kept

  -- how often a key comes
  abbrev pub key_count : ℕ → List (ℕ × V) → ℕ
  key_count key [] = 0
  key_count key (entry ∷ entries) = cond (entry.0 == key) 1 0 + key_count key entries

  -- no key comes twice
  abbrev pub HasKeysOnce : List (ℕ × V) → Type 0
  HasKeysOnce [] = Unit {0}
  HasKeysOnce (entry ∷ entries) = (has_key entry.0 entries ≡ false) × HasKeysOnce entries

  pub some-kept : (key : ℕ) (kept : List (ℕ × V)) → is_some (kept_at kept key) ≡ has_key key kept
  some-kept key [] = refl
  some-kept key (entry ∷ entries) = elim (cases_Bool (entry.0 == key)) [
    | inl e ↦ rw e refl
    | inr e ↦ rw e (some-kept key entries)
  ]

  some_last : (o : Option V) (b : Bool) (v : V) → is_some (option_or o (cond b (Some v) None)) ≡ (b || is_some o)
  some_last None true v = refl
  some_last None false v = refl
  some_last (Some x) true v = refl
  some_last (Some x) false v = refl

  some-last : (key : ℕ) (kept : List (ℕ × V)) → is_some (last_at kept key) ≡ has_key key kept
  some-last key [] = refl
  some-last key (entry ∷ entries) = some_last (last_at entries key) (entry.0 == key) entry.1 ∙ ap (λ b. (entry.0 == key) || b) (some-last key entries)

  none_of : (o : Option V) → is_some o ≡ false → o ≡ None
  none_of None e = refl
  none_of (Some x) e = absurd (cc)

  pub some_of : (o : Option V) → is_some o ≡ true → (v : V) × (o ≡ Some v)
  some_of None e = absurd (cc)
  some_of (Some x) e = (x, refl)

  -- the first that is kept under a key
  pub kept-first : (entry : ℕ × V) (entries : List (ℕ × V)) (key : ℕ) → kept_at (entry ∷ entries) key ≡ cond (entry.0 == key) (Some entry.1) (kept_at entries key)
  kept-first entry entries key = elim (cases_Bool (entry.0 == key)) [
    | inl e ↦ rw e refl
    | inr e ↦ rw e refl
  ]

  none_counted : (key : ℕ) (kept : List (ℕ × V)) → key_count key kept ≡ 0 → has_key key kept ≡ false
  none_counted key [] none = refl
  none_counted key (entry ∷ entries) none = elim (cases_Bool (entry.0 == key)) [
    | inl e ↦ absurd (let more : 1 + key_count key entries ≡ 0 = rw e at none in omega (arith, more))
    | inr e ↦ rw e (none_counted key entries (let rest : 0 + key_count key entries ≡ 0 = rw e at none in omega (arith, rest)))
  ]

  pub once_counted : (kept : List (ℕ × V)) → ((key : ℕ) → key_count key kept ≤ 1) → HasKeysOnce kept
  once_counted [] few = tt
  once_counted (entry ∷ entries) few = (
    none_counted entry.0 entries (let one : 1 + key_count entry.0 entries ≤ 1 = rw (eq-eqb entry.0 entry.0 refl) at (few entry.0) in omega (arith, one)),
    once_counted entries (λ key. let all : cond (entry.0 == key) 1 0 + key_count key entries ≤ 1 = few key in omega (arith, all)),
  )

  -- What a map has once some go and others come.

  inserted : (held : FinMap nat_cmp V) (at : ℕ) (kept : V) (key : ℕ) → get (insert held at kept) key ≡ cond (at == key) (Some kept) (get held key)
  inserted held at kept key =
      get-insert nat_cmp_total held at kept key ∙ ap (λ b. cond b (Some kept) (get held key)) (unsigned_tied key at ∙ nat_eq_equiv.symm key at)

  removed : (held : FinMap nat_cmp V) (at key : ℕ) → get (remove held at) key ≡ cond (nat_eq key at) None (get held key)
  removed held at key = get-remove nat_cmp_total held at key ∙ ap (λ b. cond b None (get held key)) (unsigned_tied key at)

  behind : (o : Option V) (b : Bool) (v : V) (before : Option V) → option_or o (cond b (Some v) before) ≡ option_or (option_or o (cond b (Some v) None)) before
  behind None true v before = refl
  behind None false v before = refl
  behind (Some x) b v before = refl

  pub get-put_all : (puts : List (ℕ × V)) (held : FinMap nat_cmp V) (key : ℕ) → get (put_all puts held) key ≡ option_or (last_at puts key) (get held key)
  get-put_all [] held key = refl
  get-put_all (put ∷ puts) held key =
      get-put_all puts (insert held put.0 put.1) key
      ∙ ap (λ o. option_or (last_at puts key) o) (inserted held put.0 put.1 key)
      ∙ behind (last_at puts key) (put.0 == key) put.1 (get held key)

  gone : (a b : Bool) (before : Option V) → cond a None (cond b None before) ≡ cond (b || a) None before
  gone true true before = refl
  gone true false before = refl
  gone false true before = refl
  gone false false before = refl

  pub get-take_all : (keys : List ℕ) (held : FinMap nat_cmp V) (key : ℕ) → get (take_all keys held) key ≡ cond (list_any (nat_eq key) keys) None (get held key)
  get-take_all [] held key = refl
  get-take_all (at ∷ keys) held key =
      get-take_all keys (remove held at) key
      ∙ ap (λ o. cond (list_any (nat_eq key) keys) None o) (removed held at key)
      ∙ gone (list_any (nat_eq key) keys) (nat_eq key at) (get held key)

  pub put_all-append : (puts more : List (ℕ × V)) (held : FinMap nat_cmp V) → put_all (puts ++ more) held ≡ put_all more (put_all puts held)
  put_all-append [] more held = refl
  put_all-append (put ∷ puts) more held = put_all-append puts more (insert held put.0 put.1)

  pub take_all-append : (keys more : List ℕ) (held : FinMap nat_cmp V) → take_all (keys ++ more) held ≡ take_all more (take_all keys held)
  take_all-append [] more held = refl
  take_all-append (key ∷ keys) more held = take_all-append keys more (remove held key)

  -- where no key comes twice, all are put
  last_is : (kept : List (ℕ × V)) (key : ℕ) → HasKeysOnce kept → last_at kept key ≡ kept_at kept key
  last_is [] key once = refl
  last_is (entry ∷ entries) key once =
      ap (λ o. option_or o (cond (entry.0 == key) (Some entry.1) None)) (last_is entries key once.1)
      ∙ by (entry.0 == key) refl
      ∙ sym (kept-first entry entries key)
    where
      by : (b : Bool) → (entry.0 == key) ≡ b → option_or (kept_at entries key) (cond b (Some entry.1) None) ≡ cond b (Some entry.1) (kept_at entries key)
      by true e =
          let none : kept_at entries key ≡ None = none_of (kept_at entries key) (some-kept key entries ∙ ap (λ k. has_key k entries) (sym (eqb-true entry.0 key e)) ∙ once.0) in
          rw none refl
      by false e = or_none (kept_at entries key)
        where
          or_none : (o : Option V) → option_or o None ≡ o
          or_none None = refl
          or_none (Some x) = refl

  pub put_whole : (kept : List (ℕ × V)) (held : FinMap nat_cmp V) → HasKeysOnce kept → ((key : ℕ) → get held key ≡ None) → (key : ℕ) → get (put_all kept held) key ≡ kept_at kept key
  put_whole kept held once none key =
      get-put_all kept held key ∙ ap (λ o. option_or (last_at kept key) o) (none key) ∙ or_none (last_at kept key) ∙ last_is kept key once
    where
      or_none : (o : Option V) → option_or o None ≡ o
      or_none None = refl
      or_none (Some x) = refl

  -- What holds of all keys of a list.

  pub key_of : (P : ℕ → Type 0) (kept : List (ℕ × V)) → AllByRecursion (λ (entry : ℕ × V). P entry.0) kept → (key : ℕ) → has_key key kept ≡ true → P key
  key_of P [] all key there = absurd (cc)
  key_of P (entry ∷ entries) all key there = elim (cases_Bool (entry.0 == key)) [
    | inl e ↦ subst P (eqb-true entry.0 key e) all.0
    | inr e ↦ key_of P entries all.1 key (rw e at there)
  ]

module _ (held : FinMap nat_cmp Kept) where
  -- Entries of a list that a map does not hold.

  pub changes-append : (some more : List (ℕ × Kept)) (changes others : List (ℕ × KeptChange)) → AreChanges held some changes → AreChanges held more others
      → AreChanges held (some ++ more) (changes ++ others)
  changes-append [] more changes others are behind = subst (λ c. AreChanges held more (c ++ others)) (sym are) behind
  changes-append (entry ∷ some) more changes others are behind = elim are [
    | inl h ↦ inl (h.0, changes-append some more changes others h.1 behind)
    | inr h ↦ inr (h.0, (h.1.0 ++ others, ap (λ c. c ++ others) h.1.1, changes-append some more h.1.0 others h.1.2 behind))
  ]

-- Keys below a room.

module _ {V : Type 0} where
  pub below-at : (room : ℕ) (kept : List (ℕ × V)) (place : ℕ) (entry : ℕ × V) → AreBelow room kept → place < length kept → entry ≡ get_or kept place entry → entry.0 < room
  below-at room [] place entry all within is = absurd (omega arith)
  below-at room (first ∷ rest) zero entry all within is = subst (λ (e : ℕ × V). e.0 < room) (sym is) all.0
  below-at room (first ∷ rest) (suc place) entry all within is = below-at room rest place entry all.1 (omega arith) is

  pub below-more : (room more : ℕ) (kept : List (ℕ × V)) → room ≤ more → AreBelow room kept → AreBelow more kept
  below-more room more [] le all = tt
  below-more room more (entry ∷ kept) le all = (let low : entry.0 < room = all.0 in omega (arith, low, le), below-more room more kept le all.1)

  pub below-append : (room : ℕ) (kept : List (ℕ × V)) (entry : ℕ × V) → AreBelow room kept → entry.0 < room → AreBelow room (kept ++ entry ∷ [])
  below-append room [] entry all low = (low, tt)
  below-append room (first ∷ kept) entry all low = (all.0, below-append room kept entry all.1 low)

-- What a loop over records has made of one more of them.

module _ {V W : Type 0} (f : V → W) (kept : List (ℕ × V)) (place : ℕ) (entry : ℕ × V) (within : place < length kept) (is : entry ≡ get_or kept place entry) where
  abbrev pub made : List (ℕ × V) → List (ℕ × W)
  made entries = map (λ (one : ℕ × V). (one.0, f one.1)) entries

  one_more : made (take (place + 1) kept) ≡ made (take place kept) ++ (entry.0, f entry.1) ∷ []
  one_more =
      ap made (take_more kept place entry within ∙ ap (λ e. take place kept ++ e ∷ []) (sym is))
      ∙ map-append (λ (one : ℕ × V). (one.0, f one.1)) (take place kept) (entry ∷ [])

  pub put_more : (held : FinMap nat_cmp W) → put_all (made (take (place + 1) kept)) held ≡ insert (put_all (made (take place kept)) held) entry.0 (f entry.1)
  put_more held = ap (λ puts. put_all puts held) one_more ∙ put_all-append (made (take place kept)) ((entry.0, f entry.1) ∷ []) held

module _ {V : Type 0} (f : V → Kept) (kept : List (ℕ × V)) (place : ℕ) (entry : ℕ × V) (within : place < length kept) (is : entry ≡ get_or kept place entry) (held : FinMap nat_cmp Kept)
    (changes : List (ℕ × KeptChange)) (are : AreChanges held (map (λ (one : ℕ × V). (one.0, f one.1)) (take place kept)) changes) where
  pub change_more : (get held entry.0 ≡ Some (f entry.1) → ⊥) → AreChanges held (map (λ (one : ℕ × V). (one.0, f one.1)) (take (place + 1) kept)) (changes ++ (entry.0, change_from held entry.0 (f entry.1)) ∷ [])
  change_more absent =
      subst (λ all. AreChanges held all (changes ++ (entry.0, change_from held entry.0 (f entry.1)) ∷ [])) (sym (one_more f kept place entry within is))
      (changes-append held (map (λ (one : ℕ × V). (one.0, f one.1)) (take place kept)) ((entry.0, f entry.1) ∷ []) changes ((entry.0, change_from held entry.0 (f entry.1)) ∷ []) are (inr (absent, ([], refl, refl))))

  pub none_more : get held entry.0 ≡ Some (f entry.1) → AreChanges held (map (λ (one : ℕ × V). (one.0, f one.1)) (take (place + 1) kept)) changes
  none_more there =
      subst (λ all. AreChanges held all changes) (sym (one_more f kept place entry within is))
      (subst (λ c. AreChanges held (map (λ (one : ℕ × V). (one.0, f one.1)) (take place kept) ++ (entry.0, f entry.1) ∷ []) c) (append-nil changes)
      (changes-append held (map (λ (one : ℕ × V). (one.0, f one.1)) (take place kept)) ((entry.0, f entry.1) ∷ []) changes [] are (inl (there, refl))))
