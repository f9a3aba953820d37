-- Two lists of stops made one, and the two paths of a move.
use Rattle.std.proofs.Common.{◌≡◌, ◌≢◌, ◌==◌, ◌<◌, ◌≤◌, ◌+◌, ◌&&◌, inl, inr, min, ℕ, zero, suc, nat_eq, nat_lt, Bool, true, false, not, cond, List, [], ◌∷◌, ◌++◌, length, take, drop, get_or, refl, sym, ap, ap₂, ◌∙◌, arith, eq-eqb, eqb-true, length-append, append-nil, append_assoc, drop-cons}
use Rattle.std.proofs.Math.ListN.{set}
use Rattle.std.proofs.Math.Seq.{get_or-append_seam, set-append_seam}
use Rattle.std.specs.Cmp.Lexicographic.{pointwise}
use Rattle.std.proofs.lemmas.Bool.{and_parts, cases_lt}
use Rattle.std.proofs.lemmas.Bool.Decides.{nat_tests}
use Rattle.std.proofs.lemmas.List.{take_more}
use Rattle.merged_walk.specs.declared.stop.Stop.{Stop}
use Rattle.merged_walk.specs.EditStops.{is_before, is_common, joined, old_index}
use Rattle.edit_merge.specs.Joining.{parted}

drop-next : {A : Type 0} (xs : List A) (i : ℕ) (x : A) → i < length xs → drop i xs ≡ get_or xs i x ∷ drop (i + 1) xs
drop-next xs i x low = drop-cons xs i x low ∙ (let next : suc i ≡ i + 1 = omega arith in ap (λ k. get_or xs i x ∷ drop k xs) next)

-- a list that has ended
drop-ended : {A : Type 0} (xs : List A) (i : ℕ) → length xs ≤ i → drop i xs ≡ []
drop-ended [] zero low = refl
drop-ended [] (suc i) low = refl
drop-ended (x ∷ xs) zero low = absurd (omega arith)
drop-ended (x ∷ xs) (suc i) low = drop-ended xs i (omega arith)

-- Stops that are in common stand once.

pub record IsJoined (stops others : List Stop) (count : ℕ) : Type 0 where
  pub within : count ≤ length stops
  pub among : count ≤ length others
  pub same : (is_first : Bool) → joined is_first stops others ≡ take count stops ++ joined is_first (drop count stops) (drop count others)

pub joined-begins : (stops others : List Stop) → IsJoined stops others 0
joined-begins stops others = record { within = omega arith; among = omega arith; same = λ is_first. refl }

pub joined-common : (is_first : Bool) (stop other : Stop) (stops others : List Stop) → is_common stop other ≡ true → joined is_first (stop ∷ stops) (other ∷ others) ≡ stop ∷ joined is_first stops others
joined-common is_first stop other stops others common = ap (λ b. cond b (stop ∷ joined is_first stops others) (cond is_first ((stop ∷ stops) ++ (other ∷ others)) ((other ∷ others) ++ (stop ∷ stops)))) common

pub joined-other : (is_first : Bool) (stop other : Stop) (stops others : List Stop) → is_common stop other ≡ false → joined is_first (stop ∷ stops) (other ∷ others) ≡ parted is_first (stop ∷ stops) (other ∷ others)
joined-other is_first stop other stops others common = ap (λ b. cond b (stop ∷ joined is_first stops others) (cond is_first ((stop ∷ stops) ++ (other ∷ others)) ((other ∷ others) ++ (stop ∷ stops)))) common

-- one of the lists has ended
pub joined-none : (is_first : Bool) (others : List Stop) → joined is_first [] others ≡ parted is_first [] others
joined-none true others = refl
joined-none false others = sym (append-nil others)

pub none-joined : (is_first : Bool) (stops : List Stop) → joined is_first stops [] ≡ parted is_first stops []
none-joined is_first [] = joined-none is_first []
none-joined true (stop ∷ stops) = sym (append-nil (stop ∷ stops))
none-joined false (stop ∷ stops) = refl

module _ (stops others : List Stop) (count : ℕ) (so_far : IsJoined stops others count) where
  module _ (stop other : Stop) (low : count < length stops) (few : count < length others) (stop_is : get_or stops count stop ≡ stop) (other_is : get_or others count other ≡ other) where
    rest-is : (is_first : Bool) → joined is_first (drop count stops) (drop count others) ≡ joined is_first (stop ∷ drop (count + 1) stops) (other ∷ drop (count + 1) others)
    rest-is is_first =
        ap₂ (joined is_first) (drop-next stops count stop low ∙ ap (λ s. s ∷ drop (count + 1) stops) stop_is) (drop-next others count other few ∙ ap (λ s. s ∷ drop (count + 1) others) other_is)

    pub joined-more : is_common stop other ≡ true → IsJoined stops others (count + 1)
    joined-more common = record {
      within = omega arith;
      among = omega arith;
      same = λ is_first.
          so_far.same is_first
          ∙ ap (λ rest. take count stops ++ rest) (rest-is is_first ∙ joined-common is_first stop other (drop (count + 1) stops) (drop (count + 1) others) common)
          ∙ sym (append_assoc (take count stops) (stop ∷ []) (joined is_first (drop (count + 1) stops) (drop (count + 1) others)))
          ∙ ap (λ front. front ++ joined is_first (drop (count + 1) stops) (drop (count + 1) others)) (sym (take_more stops count stop low ∙ ap (λ s. take count stops ++ s ∷ []) stop_is));
    }

    pub joined-parts : is_common stop other ≡ false → (is_first : Bool) → joined is_first stops others ≡ take count stops ++ parted is_first (drop count stops) (drop count others)
    joined-parts common is_first =
        so_far.same is_first
        ∙ ap (λ rest. take count stops ++ rest)
        (rest-is is_first ∙ joined-other is_first stop other (drop (count + 1) stops) (drop (count + 1) others) common
        ∙ sym (ap₂ (parted is_first) (drop-next stops count stop low ∙ ap (λ s. s ∷ drop (count + 1) stops) stop_is) (drop-next others count other few ∙ ap (λ s. s ∷ drop (count + 1) others) other_is)))

  pub stops-ended : length stops ≤ count → (is_first : Bool) → joined is_first stops others ≡ take count stops ++ parted is_first (drop count stops) (drop count others)
  stops-ended low is_first =
      so_far.same is_first
      ∙ ap (λ rest. take count stops ++ rest)
      (ap (λ rest. joined is_first rest (drop count others)) (drop-ended stops count low) ∙ joined-none is_first (drop count others) ∙ ap (λ rest. parted is_first rest (drop count others)) (sym (drop-ended stops count low)))

  pub others-ended : length others ≤ count → (is_first : Bool) → joined is_first stops others ≡ take count stops ++ parted is_first (drop count stops) (drop count others)
  others-ended low is_first =
      so_far.same is_first
      ∙ ap (λ rest. take count stops ++ rest)
      (ap (joined is_first (drop count stops)) (drop-ended others count low) ∙ none-joined is_first (drop count stops) ∙ ap (parted is_first (drop count stops)) (sym (drop-ended others count low)))

-- Which of two paths comes first.

module _ (path place : List ℕ) (k : ℕ) where
  module _ (low : k < length path) (few : k < length place) where
    rests : is_before (drop k path) (drop k place) ≡ is_before (get_or path k 0 ∷ drop (k + 1) path) (get_or place k 0 ∷ drop (k + 1) place)
    rests = ap₂ is_before (drop-next path k 0 low) (drop-next place k 0 few)

    pub before-more : get_or path k 0 ≡ get_or place k 0 → is_before (drop k path) (drop k place) ≡ is_before (drop (k + 1) path) (drop (k + 1) place)
    before-more same =
        rests
        ∙ ap (λ s. is_before (s ∷ drop (k + 1) path) (get_or place k 0 ∷ drop (k + 1) place)) same
        ∙ by-same (get_or place k 0) (drop (k + 1) path) (drop (k + 1) place)
      where
        by-same : (s : ℕ) (xs ys : List ℕ) → is_before (s ∷ xs) (s ∷ ys) ≡ is_before xs ys
        by-same s xs ys = let itself : nat_lt s s ≡ false = grind (arith, nat_tests) in rw (itself, eq-eqb s s refl) refl

    pub before-parts : get_or path k 0 ≢ get_or place k 0 → is_before (drop k path) (drop k place) ≡ nat_lt (get_or path k 0) (get_or place k 0)
    before-parts other = rests ∙ by-other (get_or path k 0) (get_or place k 0) (drop (k + 1) path) (drop (k + 1) place) other
      where
        by-other : (s q : ℕ) (xs ys : List ℕ) → s ≢ q → is_before (s ∷ xs) (q ∷ ys) ≡ nat_lt s q
        by-other s q xs ys other =
            elim (s == q) as (λ b. (s == q) ≡ b → cond (nat_lt s q) true (cond b (is_before xs ys) false) ≡ nat_lt s q) [
              | true ↦ λ is. absurd (other (eqb-true s q is))
              | false ↦ λ is. elim (nat_lt s q) as (λ t. cond t true false ≡ t) [ true ↦ refl | false ↦ refl ]
            ] refl

  no-path : (xs ys : List ℕ) → xs ≡ [] → is_before xs ys ≡ false
  no-path [] ys is = refl
  no-path (x ∷ xs) ys is = absurd (cc)

  no-place : (xs ys : List ℕ) → ys ≡ [] → is_before xs ys ≡ false
  no-place [] ys is = refl
  no-place (x ∷ xs) [] is = refl
  no-place (x ∷ xs) (y ∷ ys) is = absurd (cc)

  before-path : length path ≤ k → is_before (drop k path) (drop k place) ≡ false
  before-path low = no-path (drop k path) (drop k place) (drop-ended path k low)

  before-place : length place ≤ k → is_before (drop k path) (drop k place) ≡ false
  before-place low = no-place (drop k path) (drop k place) (drop-ended place k low)

  pub before-ends : min (length path) (length place) ≤ k → is_before (drop k path) (drop k place) ≡ false
  before-ends low = elim (cases_lt k (length path)) [ inl less ↦ before-place (omega arith) | inr more ↦ before-path more ]

-- The index of a moved node among its siblings before the move.

pub index-none : (parent : List ℕ) (index : ℕ) → old_index [] parent index ≡ index
index-none parent index = refl

pub index-more : (above parent : List ℕ) (gone index : ℕ) → pointwise nat_eq above parent ≡ true → gone < index → old_index (above ++ gone ∷ []) parent index ≡ index + 1
index-more [] [] gone index same low = let less : nat_lt gone index ≡ true = grind (arith, nat_tests) in rw less (omega arith)
index-more [] (position ∷ parent) gone index same low = absurd (cc same)
index-more (step ∷ []) [] gone index same low = absurd (cc same)
index-more (step ∷ (next ∷ above)) [] gone index same low = absurd (cc same)
index-more (step ∷ []) (position ∷ parent) gone index same low =
    let parts = and_parts (step == position) (pointwise nat_eq [] parent) same in rw parts.0 (index-more [] parent gone index parts.1 low)
index-more (step ∷ (next ∷ above)) (position ∷ parent) gone index same low =
    let parts = and_parts (step == position) (pointwise nat_eq (next ∷ above) parent) same in rw parts.0 (index-more (next ∷ above) parent gone index parts.1 low)

pub index-behind : (above parent : List ℕ) (gone index : ℕ) → index ≤ gone → old_index (above ++ gone ∷ []) parent index ≡ index
index-behind [] [] gone index low = let less : nat_lt gone index ≡ false = grind (arith, nat_tests) in rw less refl
index-behind [] (position ∷ parent) gone index low = refl
index-behind (step ∷ []) [] gone index low = refl
index-behind (step ∷ []) (position ∷ parent) gone index low =
    elim (step == position) as (λ b. cond b (old_index (gone ∷ []) parent index) index ≡ index) [ true ↦ index-behind [] parent gone index low | false ↦ refl ]
index-behind (step ∷ (next ∷ above)) [] gone index low = refl
index-behind (step ∷ (next ∷ above)) (position ∷ parent) gone index low =
    elim (step == position) as (λ b. cond b (old_index (next ∷ (above ++ gone ∷ [])) parent index) index ≡ index) [ true ↦ index-behind (next ∷ above) parent gone index low | false ↦ refl ]

pub index-other : (above parent : List ℕ) (gone index : ℕ) → pointwise nat_eq above parent ≡ false → old_index (above ++ gone ∷ []) parent index ≡ index
index-other [] [] gone index other = absurd (cc other)
index-other [] (position ∷ parent) gone index other = refl
index-other (step ∷ []) [] gone index other = refl
index-other (step ∷ []) (position ∷ parent) gone index other =
    elim (step == position) as (λ b. b && pointwise nat_eq [] parent ≡ false → cond b (old_index (gone ∷ []) parent index) index ≡ index) [
      | true ↦ λ is. index-other [] parent gone index is
      | false ↦ λ is. refl
    ] other
index-other (step ∷ (next ∷ above)) [] gone index other = refl
index-other (step ∷ (next ∷ above)) (position ∷ parent) gone index other =
    elim (step == position) as (λ b. b && pointwise nat_eq (next ∷ above) parent ≡ false → cond b (old_index (next ∷ (above ++ gone ∷ [])) parent index) index ≡ index) [
      | true ↦ λ is. index-other (next ∷ above) parent gone index is
      | false ↦ λ is. refl
    ] other

pub not-true : (b : Bool) → not b ≡ true → b ≡ false
not-true true h = absurd (cc h)
not-true false h = refl

pub not-false : (b : Bool) → not b ≡ false → b ≡ true
not-false true h = refl
not-false false h = absurd (cc h)

-- The last stop of a list.

pub last-set : (stops before : List Stop) (stop put : Stop) (last : ℕ) → stops ≡ before ++ stop ∷ [] → last + 1 ≡ length stops → set stops last put ≡ before ++ put ∷ []
last-set stops before stop put last is long =
    let place : last ≡ length before = omega (arith, ap length is, length-append before (stop ∷ [])) in
    ap₂ (λ (xs : List Stop) (i : ℕ). set xs i put) is place ∙ set-append_seam before stop [] put

pub last-get : (stops before : List Stop) (stop got : Stop) (last : ℕ) → stops ≡ before ++ stop ∷ [] → last + 1 ≡ length stops → got ≡ get_or stops last got → got ≡ stop
last-get stops before stop got last is long read =
    let place : last ≡ length before = omega (arith, ap length is, length-append before (stop ∷ [])) in
    read ∙ ap₂ (λ (xs : List Stop) (i : ℕ). get_or xs i got) is place ∙ get_or-append_seam before stop [] got
