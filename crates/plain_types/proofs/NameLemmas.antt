-- The names of styles in a set of texts, in the order of the styles.
use Rattle.std.proofs.Common.{◌≡◌, ◌≢◌, ◌+◌, ◌<◌, ℕ, List, [], ◌∷◌, ◌++◌, Bool, false, ◌||◌, length, map, take, get_or, refl, sym, ap, ◌∙◌, inl, inr, arith}
use Rattle.std.specs.List.{AllPairs, list_any, position}
use Rattle.std.specs.Str.{bytes_eq, chars, IsUtf8}
use Rattle.std.proofs.lemmas.Bool.{cases_Bool}
use Rattle.std.proofs.lemmas.Bool.Decides.{same_from_decides, Decides-like}
use Rattle.std.proofs.lemmas.Slice.Eq.{bytes_eq-Decides}
use Rattle.std.proofs.lemmas.List.{get_or-take, get_or_default, length-take-le, map-append, take_more}
use Rattle.std.proofs.lemmas.List.Folds.{list_any_none}
use Rattle.indexmap.specs.IndexSet.{insert_key}
use Rattle.plain_types.specs.declared.counter_style.CounterStyle.{CounterStyle}
use Rattle.plain_types.proofs.PlaceLemmas.{position-agree}
use Rattle.plain_types.proofs.TextLemmas.{bytes_eq-chars}

bytes_eq-swap : (a b : List ℕ) → bytes_eq a b ≡ bytes_eq b a
bytes_eq-swap a b = same_from_decides _ _ (Decides-like _ (λ e. sym e) (λ e. sym e) (bytes_eq-Decides a b)) (bytes_eq-Decides b a)

list_any-agree : {A B : Type 0} (p : A → Bool) (q : B → Bool) (xs : List A) (ys : List B) → map p xs ≡ map q ys → list_any p xs ≡ list_any q ys
list_any-agree p q [] [] e = refl
list_any-agree p q [] (y ∷ ys) e = absurd (cc)
list_any-agree p q (x ∷ xs) [] e = absurd (cc)
list_any-agree p q (x ∷ xs) (y ∷ ys) e =
    let first : p x ≡ q y = cc in
    let rest : map p xs ≡ map q ys = cc in
    ap (λ b. b || list_any p xs) first ∙ ap (λ b. q y || b) (list_any-agree p q xs ys rest)

-- no style before a place has the name of the one at it
none_before : (styles : List CounterStyle) (place : ℕ) (style : CounterStyle) → AllPairs (λ (first second : CounterStyle). first.name ≢ second.name) styles → place < length styles → style ≡ get_or styles place style
    → list_any (λ (other : CounterStyle). bytes_eq other.name style.name) (take place styles) ≡ false
none_before styles place style distinct within at =
    list_any_none _ (take place styles)
    (λ k d h. elim (cases_Bool (bytes_eq (get_or (take place styles) k d).name style.name)) [
      | inl same ↦ absurd (differ k d h ((bytes_eq-Decides _ _).0 same))
      | inr h ↦ h
    ])
  where
    differ : (k : ℕ) (d : CounterStyle) → k < length (take place styles) → (get_or (take place styles) k d).name ≢ style.name
    differ k d h e =
        let short : length (take place styles) ≡ place = length-take-le place styles (omega arith) in
        let before : k < place = omega arith in
        distinct k place d before within
        (ap (λ (other : CounterStyle). other.name) (sym (get_or-take place styles k d before)) ∙ e ∙ ap (λ (other : CounterStyle). other.name) (at ∙ get_or_default styles place style d within))

module _ {K : Type 0} (bytes : K → List ℕ) (text : (k : K) → IsUtf8 (bytes k)) where
  abbrev pub AreNames : List K → List CounterStyle → Type 0
  AreNames keys styles = map (λ key. chars (bytes key)) keys ≡ map (λ (style : CounterStyle). style.name) styles

  tests_agree : (keys : List K) (styles : List CounterStyle) (name query : List ℕ) → AreNames keys styles → IsUtf8 query → chars query ≡ name
      → map (λ key. bytes_eq query (bytes key)) keys ≡ map (λ (style : CounterStyle). bytes_eq style.name name) styles
  tests_agree [] [] name query named u e = refl
  tests_agree [] (style ∷ styles) name query named u e = absurd (cc)
  tests_agree (key ∷ keys) [] name query named u e = absurd (cc)
  tests_agree (key ∷ keys) (style ∷ styles) name query named u e =
      let first : chars (bytes key) ≡ style.name = cc in
      let rest : AreNames keys styles = cc in
      let test : bytes_eq query (bytes key) ≡ bytes_eq style.name name =
      bytes_eq-chars query (bytes key) u (text key) ∙ ap (λ n. bytes_eq n (chars (bytes key))) e ∙ ap (bytes_eq name) first ∙ bytes_eq-swap name style.name in
      ap (λ b. b ∷ map (λ other. bytes_eq query (bytes other)) keys) test ∙ ap (λ tests. bytes_eq style.name name ∷ tests) (tests_agree keys styles name query rest u e)

  pub find_style : (keys : List K) (styles : List CounterStyle) (name query : List ℕ) → AreNames keys styles → IsUtf8 query → chars query ≡ name
      → position (λ key. bytes_eq query (bytes key)) keys ≡ position (λ (style : CounterStyle). bytes_eq style.name name) styles
  find_style keys styles name query named u e = position-agree _ _ _ _ (tests_agree keys styles name query named u e)

  -- a style more, whose name is new, has its name at the end
  pub names_more : (styles : List CounterStyle) (place : ℕ) (style : CounterStyle) (keys : List K) (key : K) → AllPairs (λ (first second : CounterStyle). first.name ≢ second.name) styles
      → place < length styles → style ≡ get_or styles place style → AreNames keys (take place styles) → chars (bytes key) ≡ style.name
      → AreNames (insert_key (λ a b. bytes_eq (bytes a) (bytes b)) keys key) (take (place + 1) styles)
  names_more styles place style keys key distinct within at named e =
      let more : take (place + 1) styles ≡ take place styles ++ style ∷ [] = take_more styles place style within ∙ ap (λ s. take place styles ++ s ∷ []) (sym at) in
      let fresh : list_any (λ other. bytes_eq (bytes key) (bytes other)) keys ≡ false =
      list_any-agree _ _ keys (take place styles) (tests_agree keys (take place styles) style.name (bytes key) named (text key) e) ∙ none_before styles place style distinct within at in
      rw (more, fresh)
      (map-append (λ k. chars (bytes k)) keys (key ∷ []) ∙ ap (λ names. names ++ chars (bytes key) ∷ []) named
      ∙ ap (λ name. map (λ (other : CounterStyle). other.name) (take place styles) ++ name ∷ []) e
      ∙ sym (map-append (λ (other : CounterStyle). other.name) (take place styles) (style ∷ [])))
