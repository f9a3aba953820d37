-- A list that grows by the parts of another, as a walk from its front appends them.
use Rattle.std.proofs.Common.{◌≡◌, ℕ, ◌+◌, ◌<◌, Bool, true, false, cond, List, [], ◌∷◌, ◌++◌, length, get_or, drop, map, filter, refl, sym, ap, ◌∙◌, append_assoc}
use Rattle.std.proofs.lemmas.List.{at_drop_more}

module _ {A X : Type 0} (part : A → List X) (whole : List A → List X) (splits : (first : A) (rest : List A) → whole (first ∷ rest) ≡ part first ++ whole rest) where
  pub appended : (all : List A) (place : ℕ) (item : A) (old next end : List X) → place < length all → item ≡ get_or all place item → next ≡ old ++ part item
      → old ++ whole (drop place all) ≡ end → next ++ whole (drop (place + 1) all) ≡ end
  appended all place item old next end within here is reaches =
      let opened = at_drop_more (λ rest. old ++ whole rest) all place item within in
      let named : old ++ whole (get_or all place item ∷ drop (place + 1) all) ≡ old ++ whole (item ∷ drop (place + 1) all) = ap (λ (first : A). old ++ whole (first ∷ drop (place + 1) all)) (sym here) in
      let parted : old ++ whole (item ∷ drop (place + 1) all) ≡ (old ++ part item) ++ whole (drop (place + 1) all) =
      ap (λ (list : List X). old ++ list) (splits item (drop (place + 1) all)) ∙ sym (append_assoc old (part item) (whole (drop (place + 1) all))) in
      ap (λ (list : List X). list ++ whole (drop (place + 1) all)) is ∙ sym parted ∙ sym named ∙ sym opened ∙ reaches

-- what is made of the elements that pass
module _ {A X : Type 0} (test : A → Bool) (make : A → X) where
  pub map-cond : (answer : Bool) (first : A) (rest : List A) → map make (cond answer (first ∷ rest) rest) ≡ cond answer (make first ∷ map make rest) (map make rest)
  map-cond true first rest = refl
  map-cond false first rest = refl

  abbrev pub passing : A → List X
  passing item = cond (test item) (make item ∷ []) []

  part-cond : (answer : Bool) (first : A) (rest : List A) → map make (cond answer (first ∷ rest) rest) ≡ cond answer (make first ∷ []) [] ++ map make rest
  part-cond true first rest = refl
  part-cond false first rest = refl

  pub map-filter : (first : A) (rest : List A) → map make (filter test (first ∷ rest)) ≡ passing first ++ map make (filter test rest)
  map-filter first rest = part-cond (test first) first (filter test rest)
