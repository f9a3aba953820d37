-- The steps of which reading is made: what each takes from the front, and that it takes it again.
use Rattle.std.proofs.Common.{◌≡◌, ◌≢◌, ℕ, ◌<◌, ◌≤◌, Bool, true, false, eqb, List, [], ◌∷◌, ◌++◌, length, Option, Some, None, ◌⊎◌, inl, inr, refl, sym, ap, ◌∙◌, append_assoc, map, arith}
use Rattle.std.specs.Char.{to_ascii_uppercase}
use Rattle.std.specs.List.{list_all}
use Rattle.std.proofs.lemmas.List.{length-append, nil_from_length}
use Rattle.std.proofs.lemmas.Bool.{and_parts, cases_Bool, eqb-true}
use Rattle.std.proofs.lemmas.Bool.Decides.{nat_tests}
use Rattle.reading.specs.Characters.{is_blank}
use Rattle.reading.specs.Reading.{span, past_character, past_text}
use Rattle.reading.proofs.Runs.{chosen, then_some}
use Rattle.xml_definitions.specs.Characters.{is_character, is_name_start, is_name_character}
use Rattle.xml_definitions.specs.Spelling.{are_some, AreBlanks, AreSomeBlanks, IsName, AreUpTo}
use Rattle.xhtml_items.specs.Reading.{either_way, name_at, with_first, split_once}
use Rattle.xhtml_items.specs.Machinery.Items.{past_capital, past_capitals, skip_blanks, past_some_blanks, if_allowed, up_to}

pub either_cases : {A B : Type 0} (o : Option A) (f : A → B) (d y : B) → either_way o f d ≡ y → ((x : A) × (o ≡ Some x) × (f x ≡ y)) ⊎ ((o ≡ None) × (d ≡ y))
either_cases (Some x) f d y e = inl (x, refl, e)
either_cases None f d y e = inr (refl, e)

pub none_from : {A : Type 0} (o : Option A) → ((x : A) → o ≡ Some x → ⊥) → o ≡ None
none_from (Some x) h = absurd (h x refl)
none_from None h = refl

eqb-same : (c : ℕ) → eqb c c ≡ true
eqb-same c = grind (arith, nat_tests)

-- Words.

pub past_takes : (wanted : ℕ) (cs rest : List ℕ) → past_character wanted cs ≡ Some rest → cs ≡ wanted ∷ rest
past_takes wanted [] rest e = absurd cc
past_takes wanted (c ∷ cs) rest e = elim (chosen (eqb c wanted) _ _ _ e) [
  | inl w ↦ (let same : c ≡ wanted = eqb-true c wanted w.0 in let tail : cs ≡ rest = (let h = w.1 in cc) in rw (same, tail) refl)
  | inr w ↦ absurd (let h = w.1 in cc)
]

pub past_again : (wanted : ℕ) (rest : List ℕ) → past_character wanted (wanted ∷ rest) ≡ Some rest
past_again wanted rest = rw (eqb-same wanted) refl

pub past_none : (wanted c : ℕ) (rest : List ℕ) → eqb c wanted ≡ false → past_character wanted (c ∷ rest) ≡ None
past_none wanted c rest e = rw e refl

pub past_text_takes : (word cs rest : List ℕ) → past_text word cs ≡ Some rest → cs ≡ word ++ rest
past_text_takes [] cs rest e = cc
past_text_takes (letter ∷ letters) cs rest e =
    let t = then_some (past_character letter cs) (λ (r : List ℕ). past_text letters r) rest e in
    past_takes letter cs t.0 t.1 ∙ ap (λ (r : List ℕ). letter ∷ r) (past_text_takes letters t.0 rest t.2)

pub past_text_again : (word rest : List ℕ) → past_text word (word ++ rest) ≡ Some rest
past_text_again [] rest = refl
past_text_again (letter ∷ letters) rest = rw (eqb-same letter) (past_text_again letters rest)

pub past_capital_takes : (wanted : ℕ) (cs rest : List ℕ) → past_capital wanted cs ≡ Some rest → (c : ℕ) × (to_ascii_uppercase c ≡ wanted) × (cs ≡ c ∷ rest)
past_capital_takes wanted [] rest e = absurd cc
past_capital_takes wanted (c ∷ cs) rest e = elim (chosen (eqb (to_ascii_uppercase c) wanted) _ _ _ e) [
  | inl w ↦ (c, eqb-true (to_ascii_uppercase c) wanted w.0, let tail : cs ≡ rest = (let h = w.1 in cc) in rw tail refl)
  | inr w ↦ absurd (let h = w.1 in cc)
]

pub past_capitals_takes : (word cs rest : List ℕ) → past_capitals word cs ≡ Some rest → (front : List ℕ) × (map to_ascii_uppercase front ≡ word) × (cs ≡ front ++ rest)
past_capitals_takes [] cs rest e = ([], refl, cc)
past_capitals_takes (letter ∷ letters) cs rest e =
    let t = then_some (past_capital letter cs) (λ (r : List ℕ). past_capitals letters r) rest e in
    let c = past_capital_takes letter cs t.0 t.1 in
    let f = past_capitals_takes letters t.0 rest t.2 in
    (c.0 ∷ f.0, rw (c.1, f.1) refl, c.2 ∙ ap (λ (r : List ℕ). c.0 ∷ r) f.2)

pub past_capitals_again : (word front rest : List ℕ) → map to_ascii_uppercase front ≡ word → past_capitals word (front ++ rest) ≡ Some rest
past_capitals_again word [] rest e = rw (← e) refl
past_capitals_again word (c ∷ cs) rest e = rw (← e) (rw (eqb-same (to_ascii_uppercase c)) (past_capitals_again (map to_ascii_uppercase cs) cs rest refl))

-- Fronts of characters that pass a test.

pub span_takes : (test : ℕ → Bool) (cs : List ℕ) → (list_all test (span test cs).0 ≡ true) × (cs ≡ (span test cs).0 ++ (span test cs).1)
unfolding span
span_takes test [] = (refl, refl)
span_takes test (c ∷ cs) = elim (cases_Bool (test c)) [
  | inl same ↦ (let r = span_takes test cs in rw same (rw (same, r.0) refl, ap (λ (t : List ℕ). c ∷ t) r.1))
  | inr other ↦ rw other (refl, refl)
]

pub span_again : (test : ℕ → Bool) (xs : List ℕ) (d : ℕ) (more : List ℕ) → list_all test xs ≡ true → test d ≡ false → span test (xs ++ d ∷ more) ≡ (xs, d ∷ more)
unfolding span
span_again test [] d more h stops = rw stops refl
span_again test (c ∷ cs) d more h stops = let p = and_parts (test c) (list_all test cs) h in rw (p.0, span_again test cs d more p.1 stops) refl

pub all_from_some : (test : ℕ → Bool) (cs : List ℕ) → are_some test cs ≡ true → list_all test cs ≡ true
all_from_some test [] h = absurd cc
all_from_some test (c ∷ cs) h = h

pub some_filled : (test : ℕ → Bool) (cs : List ℕ) → are_some test cs ≡ true → 0 < length cs
some_filled test [] h = absurd cc
some_filled test (c ∷ cs) h = omega arith

pub skip_takes : (cs : List ℕ) → (front : List ℕ) × AreBlanks front × (cs ≡ front ++ skip_blanks cs)
skip_takes cs = let t = span_takes is_blank cs in ((span is_blank cs).0, t.0, t.1)

pub skip_again : (bs : List ℕ) (d : ℕ) (more : List ℕ) → AreBlanks bs → is_blank d ≡ false → skip_blanks (bs ++ d ∷ more) ≡ d ∷ more
skip_again bs d more h stops = ap (λ (x : List ℕ × List ℕ). x.1) (span_again is_blank bs d more h stops)

pub past_some_blanks_takes : (cs rest : List ℕ) → past_some_blanks cs ≡ Some rest → (front : List ℕ) × AreSomeBlanks front × (cs ≡ front ++ rest)
past_some_blanks_takes [] rest e = absurd cc
past_some_blanks_takes (c ∷ cs) rest e = elim (chosen (is_blank c) _ _ _ e) [
  | inl w ↦ (
      let t = skip_takes cs in
      let is : skip_blanks cs ≡ rest = (let h = w.1 in cc) in
      (c ∷ t.0, rw (w.0, t.1) refl, ap (λ (r : List ℕ). c ∷ r) (t.2 ∙ ap (λ (r : List ℕ). t.0 ++ r) is)))
  | inr w ↦ absurd (let h = w.1 in cc)
]

pub past_some_blanks_again : (bs : List ℕ) (d : ℕ) (more : List ℕ) → AreSomeBlanks bs → is_blank d ≡ false → past_some_blanks (bs ++ d ∷ more) ≡ Some (d ∷ more)
past_some_blanks_again [] d more h stops = absurd cc
past_some_blanks_again (b ∷ bs) d more h stops = let p = and_parts (is_blank b) (list_all is_blank bs) h in rw (p.0, skip_again bs d more p.1 stops) refl

-- Names.

pub start_goes_on : (c : ℕ) → is_name_start c ≡ true → is_name_character c ≡ true
start_goes_on c h = rw h refl

pub name_takes : (cs : List ℕ) (n : List ℕ × List ℕ) → name_at cs ≡ Some n → IsName n.0 × (cs ≡ n.0 ++ n.1)
unfolding name_at span
name_takes [] n e = absurd cc
name_takes (c ∷ cs) n e = elim (chosen (is_name_start c) _ _ _ e) [
  | inl w ↦ (
      let r = span_takes is_name_character cs in
      let on : is_name_character c ≡ true = start_goes_on c w.0 in
      let n-is : (c ∷ (span is_name_character cs).0, (span is_name_character cs).1) ≡ n = (let h = rw on at w.1 in cc) in
      rw (← n-is) (rw (w.0, r.0) refl, ap (λ (t : List ℕ). c ∷ t) r.1))
  | inr w ↦ absurd (let h = w.1 in cc)
]

pub name_again : (name : List ℕ) (d : ℕ) (more : List ℕ) → IsName name → is_name_character d ≡ false → name_at (name ++ d ∷ more) ≡ Some (name, d ∷ more)
unfolding name_at
name_again [] d more h stops = absurd cc
name_again (c ∷ cs) d more h stops =
    let p = and_parts (is_name_start c) (list_all is_name_character cs) h in
    let all : list_all is_name_character (c ∷ cs) ≡ true = rw (start_goes_on c p.0, p.1) refl in
    rw (p.0, span_again is_name_character (c ∷ cs) d more all stops) refl

-- a name begins with a character that begins names
pub name_first : (name : List ℕ) → IsName name → (c : ℕ) × (cs : List ℕ) × (name ≡ c ∷ cs) × (is_name_start c ≡ true)
name_first [] h = absurd cc
name_first (c ∷ cs) h = (c, cs, refl, (and_parts (is_name_start c) (list_all is_name_character cs) h).0)

-- Characters up to a word.

nothing_after : (stop before after : List ℕ) → stop ≡ before ++ stop ++ after → after ≡ []
nothing_after stop before after e = nil_from_length after (omega (arith, ap length e, length-append (before ++ stop) after, length-append before stop))

-- of two fronts of one list, the longer begins with the shorter
front_of : (xs stop rest w : List ℕ) → xs ++ rest ≡ stop ++ w → length stop ≤ length xs → (after : List ℕ) × (xs ≡ stop ++ after)
front_of xs [] rest w e le = (xs, refl)
front_of [] (s ∷ stop) rest w e le = absurd (omega arith)
front_of (x ∷ xs) (s ∷ stop) rest w e le =
    let head : x ≡ s = cc in
    let tail : xs ++ rest ≡ stop ++ w = cc in
    let more = front_of xs stop rest w tail (omega arith) in
    (more.0, rw head (ap (λ (t : List ℕ). s ∷ t) more.1))

-- the word stands behind these characters, and nowhere before
abbrev pub IsFirst : List ℕ → List ℕ → Type 0
IsFirst stop inside = (before after : List ℕ) → inside ++ stop ≡ before ++ stop ++ after → after ≡ []

pub split_takes : (stop cs : List ℕ) (x : List ℕ × List ℕ) → split_once stop cs ≡ Some x → IsFirst stop x.0 × (cs ≡ x.0 ++ (stop ++ x.1))
unfolding split_once
split_takes stop [] x e = absurd cc
split_takes stop (c ∷ cs) x e = elim (either_cases (past_text stop (c ∷ cs)) (λ (rest : List ℕ). Some ([], rest)) _ _ e) [
  | inl w ↦ (
      let is : ([], w.0) ≡ x = (let h = w.2 in cc) in
      rw (← is) ((λ before after e. nothing_after stop before after e), past_text_takes stop (c ∷ cs) w.0 w.1))
  | inr w ↦ (
      let t = then_some (split_once stop cs) (λ (text : List ℕ × List ℕ). with_first c text) x w.1 in
      let is : (c ∷ t.0.0, t.0.1) ≡ x = (let h = t.2 in cc) in
      let more = split_takes stop cs t.0 t.1 in
      rw (← is) ((λ before after e. later t.0.0 t.0.1 w.0 more.0 more.1 before after e), ap (λ (r : List ℕ). c ∷ r) more.1))
] where
  later : (inside rest : List ℕ) → past_text stop (c ∷ cs) ≡ None → IsFirst stop inside → cs ≡ inside ++ (stop ++ rest)
      → (before after : List ℕ) → (c ∷ inside) ++ stop ≡ before ++ stop ++ after → after ≡ []
  later inside rest none first parts [] after e =
      let whole : c ∷ cs ≡ stop ++ (after ++ rest) =
      ap (λ (r : List ℕ). c ∷ r) (parts ∙ sym (append_assoc inside stop rest)) ∙ ap (λ (r : List ℕ). r ++ rest) e ∙ append_assoc stop after rest in
      let again : past_text stop (c ∷ cs) ≡ Some (after ++ rest) = rw whole (past_text_again stop (after ++ rest)) in
      absurd cc
  later inside rest none first parts (b ∷ before) after e = first before after cc

pub split_again : (stop inside rest : List ℕ) → 0 < length stop → IsFirst stop inside → split_once stop (inside ++ (stop ++ rest)) ≡ Some (inside, rest)
unfolding split_once
split_again [] [] rest filled first = absurd (omega arith)
split_again (s ∷ stop) [] rest filled first = rw (past_text_again (s ∷ stop) rest) refl
split_again stop (c ∷ inside) rest filled first =
    let none : past_text stop (c ∷ (inside ++ (stop ++ rest))) ≡ None = none_from _ (λ w e. earlier w (past_text_takes stop _ w e)) in
    rw (none, split_again stop inside rest filled (λ before after e. first (c ∷ before) after (ap (λ (r : List ℕ). c ∷ r) e))) refl
  where
    earlier : (w : List ℕ) → c ∷ (inside ++ (stop ++ rest)) ≡ stop ++ w → ⊥
    earlier w e =
        let whole : (c ∷ inside ++ stop) ++ rest ≡ stop ++ w = append_assoc (c ∷ inside) stop rest ∙ e in
        let f = front_of (c ∷ inside ++ stop) stop rest w whole (omega (arith, length-append (c ∷ inside) stop)) in
        let nil : f.0 ≡ [] = first [] f.0 f.1 in
        omega (arith, length-append (c ∷ inside) stop, ap length f.1, length-append stop f.0, ap length nil)

-- without the word nothing is split
pub split_none : (stop cs : List ℕ) → ((before after : List ℕ) → cs ≢ before ++ (stop ++ after)) → split_once stop cs ≡ None
split_none stop cs h = none_from _ (λ x e. h x.0 x.1 (split_takes stop cs x e).1)

pub up_to_takes : (stop cs : List ℕ) (x : List ℕ × List ℕ) → up_to stop cs ≡ Some x → AreUpTo stop x.0 × (cs ≡ x.0 ++ (stop ++ x.1))
unfolding up_to
up_to_takes stop cs x e =
    let t = then_some (split_once stop cs) (λ (text : List ℕ × List ℕ). if_allowed text) x e in
    elim (chosen (list_all is_character t.0.0) _ _ _ t.2) [
      | inl w ↦ (
          let is : t.0 ≡ x = (let h = w.1 in cc) in
          let parts = split_takes stop cs t.0 t.1 in
          rw (← is) (record { allowed = w.0; first = parts.0 }, parts.1))
      | inr w ↦ absurd (let h = w.1 in cc)
    ]

pub up_to_again : (stop inside rest : List ℕ) → 0 < length stop → AreUpTo stop inside → up_to stop (inside ++ (stop ++ rest)) ≡ Some (inside, rest)
unfolding up_to
up_to_again stop inside rest filled up = rw (split_again stop inside rest filled up.first, up.allowed) refl
