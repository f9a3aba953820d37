-- References are read as they are spelled.
use Rattle.std.proofs.Common.{◌≡◌, ℕ, Bool, true, false, IsTrue, List, [], ◌∷◌, ◌++◌, Some, None, inl, inr, refl, sym, ap, ◌∙◌, append_assoc, arith}
use Rattle.std.specs.List.{list_all}
use Rattle.std.specs.Map.{lookup}
use Rattle.std.specs.Str.{bytes_eq}
use Rattle.std.specs.Str.Parse.{digits_value}
use Rattle.std.proofs.lemmas.Bool.{and_parts}
use Rattle.std.proofs.lemmas.Bool.Decides.{nat_tests}
use Rattle.std.proofs.lemmas.Slice.Eq.{bytes_eq-Decides}
use Rattle.reading.specs.Characters.{is_digit, is_hexadecimal_digit}
use Rattle.reading.specs.Reading.{◌then◌, span, past_character}
use Rattle.reading.proofs.Runs.{chosen, then_some}
use Rattle.xml_definitions.specs.Characters.{is_name, is_name_start, is_name_character}
use Rattle.xml_definitions.specs.Spelling.{are_some, is_legal, entities, entity, IsName, IsReference, decimal_reference, hexadecimal_reference, entity_reference}
use Rattle.xhtml_items.specs.Reading.{name_at}
use Rattle.xhtml_items.specs.Machinery.Items.{numbered, number_at, numeric_at, entity_at, reference_at}
use Rattle.xhtml_items.proofs.StepLaws.{either_cases, past_takes, past_none, span_takes, span_again, all_from_some, name_takes, name_again}

numbered_takes : (test : ℕ → Bool) (base : ℕ) (digits : List ℕ) (c : ℕ) → list_all test digits ≡ true → numbered base digits ≡ Some c
    → IsTrue (are_some test digits) × IsTrue (is_legal (digits_value base digits)) × (c ≡ digits_value base digits)
numbered_takes test base [] c all e = absurd cc
numbered_takes test base (first ∷ rest) c all e = elim (chosen (is_legal (digits_value base (first ∷ rest))) _ _ _ e) [
  | inl w ↦ (all, w.0, let h = w.1 in cc)
  | inr w ↦ absurd (let h = w.1 in cc)
]

numbered_again : (test : ℕ → Bool) (base : ℕ) (digits : List ℕ) → are_some test digits ≡ true → is_legal (digits_value base digits) ≡ true
    → numbered base digits ≡ Some (digits_value base digits)
numbered_again test base [] some allowed = absurd cc
numbered_again test base (first ∷ rest) some allowed = rw allowed refl

number_takes : (test : ℕ → Bool) (base : ℕ) (cs : List ℕ) (x : ℕ × List ℕ) → number_at test base cs ≡ Some x
    → (digits : List ℕ) × IsTrue (are_some test digits) × IsTrue (is_legal (digits_value base digits)) × (x.0 ≡ digits_value base digits) × (cs ≡ digits ++ 59 ∷ x.1)
unfolding number_at
number_takes test base cs x e =
    let digits = (span test cs).0 in
    let t = then_some (past_character 59 (span test cs).1) (λ (rest : List ℕ). numbered base digits then λ c. Some (c, rest)) x e in
    let n = then_some (numbered base digits) (λ (c : ℕ). Some (c, t.0)) x t.2 in
    let is : (n.0, t.0) ≡ x = (let h = n.2 in cc) in
    let s = span_takes test cs in
    let r = numbered_takes test base digits n.0 s.0 n.1 in
    rw (← is) (digits, r.0, r.1, r.2, s.1 ∙ ap (λ (r : List ℕ). digits ++ r) (past_takes 59 (span test cs).1 t.0 t.1))

number_again : (test : ℕ → Bool) (base : ℕ) (digits rest : List ℕ) → test 59 ≡ false → are_some test digits ≡ true → is_legal (digits_value base digits) ≡ true
    → number_at test base (digits ++ 59 ∷ rest) ≡ Some (digits_value base digits, rest)
unfolding number_at
number_again test base digits rest stops some allowed =
    rw (span_again test digits 59 rest (all_from_some test digits some) stops, numbered_again test base digits some allowed) refl

decimal_is : (digits : List ℕ) (c : ℕ) → IsTrue (are_some is_digit digits) → IsTrue (is_legal (digits_value 10 digits)) → c ≡ digits_value 10 digits
    → IsReference (38 ∷ 35 ∷ (digits ++ 59 ∷ [])) c
decimal_is digits c some allowed e = rw e (decimal_reference digits some allowed)

hexadecimal_is : (digits : List ℕ) (c : ℕ) → IsTrue (are_some is_hexadecimal_digit digits) → IsTrue (is_legal (digits_value 16 digits)) → c ≡ digits_value 16 digits
    → IsReference (38 ∷ 35 ∷ 120 ∷ (digits ++ 59 ∷ [])) c
hexadecimal_is digits c some allowed e = rw e (hexadecimal_reference digits some allowed)

-- what stands behind `&` is the rest of a reference
pub reference_takes : (cs : List ℕ) (x : ℕ × List ℕ) → reference_at cs ≡ Some x → (front : List ℕ) × IsReference (38 ∷ front) x.0 × (cs ≡ front ++ x.1)
unfolding reference_at numeric_at entity_at
reference_takes cs x e = elim (either_cases (past_character 35 cs) (λ (rest : List ℕ). numeric_at rest) (entity_at cs) _ e) [
  | inl w ↦ (
      let t = numeric_takes w.0 x w.2 in
      (35 ∷ t.0, t.1, past_takes 35 cs w.0 w.1 ∙ ap (λ (r : List ℕ). 35 ∷ r) t.2))
  | inr w ↦ entity_takes cs x w.1
] where
  numeric_takes : (cs : List ℕ) (x : ℕ × List ℕ) → numeric_at cs ≡ Some x → (front : List ℕ) × IsReference (38 ∷ 35 ∷ front) x.0 × (cs ≡ front ++ x.1)
  numeric_takes cs x e = elim (either_cases (past_character 120 cs) (λ (rest : List ℕ). number_at is_hexadecimal_digit 16 rest) (number_at is_digit 10 cs) _ e) [
    | inl w ↦ (
        let t = number_takes is_hexadecimal_digit 16 w.0 x w.2 in
        (120 ∷ (t.0 ++ 59 ∷ []), hexadecimal_is t.0 x.0 t.1 t.2 t.3, past_takes 120 cs w.0 w.1 ∙ ap (λ (r : List ℕ). 120 ∷ r) (t.4 ∙ sym (append_assoc t.0 (59 ∷ []) x.1))))
    | inr w ↦ (
        let t = number_takes is_digit 10 cs x w.1 in
        (t.0 ++ 59 ∷ [], decimal_is t.0 x.0 t.1 t.2 t.3, t.4 ∙ sym (append_assoc t.0 (59 ∷ []) x.1)))
  ]

  entity_takes : (cs : List ℕ) (x : ℕ × List ℕ) → entity_at cs ≡ Some x → (front : List ℕ) × IsReference (38 ∷ front) x.0 × (cs ≡ front ++ x.1)
  entity_takes cs x e =
      let n = then_some (name_at cs) (λ (name : List ℕ × List ℕ). past_character 59 name.1 then λ rest. entity name.0 then λ c. Some (c, rest)) x e in
      let p = then_some (past_character 59 n.0.1) (λ (rest : List ℕ). entity n.0.0 then λ c. Some (c, rest)) x n.2 in
      let c = then_some (entity n.0.0) (λ (c : ℕ). Some (c, p.0)) x p.2 in
      let is : (c.0, p.0) ≡ x = (let h = c.2 in cc) in
      let parts : cs ≡ n.0.0 ++ (59 ∷ p.0) = (name_takes cs n.0 n.1).1 ∙ ap (λ (r : List ℕ). n.0.0 ++ r) (past_takes 59 n.0.1 p.0 p.1) in
      rw (← is) (n.0.0 ++ 59 ∷ [], entity_reference n.0.0 c.0 c.1, parts ∙ sym (append_assoc n.0.0 (59 ∷ []) p.0))

-- each name of a table passes a test that all its names pass
looked_up : (test : List ℕ → Bool) (table : List (List ℕ × ℕ)) (name : List ℕ) (c : ℕ) → list_all (λ (e : List ℕ × ℕ). test e.0) table ≡ true
    → lookup (bytes_eq name) table ≡ Some c → test name ≡ true
looked_up test [] name c all e = absurd cc
looked_up test (entry ∷ table) name c all e =
    let p = and_parts (test entry.0) (list_all (λ (e : List ℕ × ℕ). test e.0) table) all in
    elim (chosen (bytes_eq name entry.0) _ _ _ e) [
      | inl w ↦ (let same : name ≡ entry.0 = (bytes_eq-Decides name entry.0).0 w.0 in rw same p.0)
      | inr w ↦ looked_up test table name c p.1 w.1
    ]

entity_named : (name : List ℕ) (c : ℕ) → entity name ≡ Some c → IsName name
unfolding entities
entity_named name c e = looked_up is_name entities name c refl e

-- a reference that is spelled is read, behind its `&`
pub record Referred (characters : List ℕ) (c : ℕ) (rest : List ℕ) : Type 0 where
  pub tail : List ℕ
  pub parts : characters ≡ 38 ∷ tail
  pub again : reference_at (tail ++ rest) ≡ Some (c, rest)

no_letter : (digits : List ℕ) (rest : List ℕ) → are_some is_digit digits ≡ true → past_character 120 (digits ++ rest) ≡ None
no_letter [] rest some = absurd cc
no_letter (c ∷ cs) rest some =
    let p = and_parts (is_digit c) (list_all is_digit cs) some in
    let digit = p.0 in
    past_none 120 c (cs ++ rest) (grind (arith, nat_tests))

no_number_sign : (name : List ℕ) (rest : List ℕ) → IsName name → past_character 35 (name ++ rest) ≡ None
no_number_sign [] rest h = absurd cc
no_number_sign (c ∷ cs) rest h =
    let p = and_parts (is_name_start c) (list_all is_name_character cs) h in
    let start = p.0 in
    past_none 35 c (cs ++ rest) (grind (arith, nat_tests))

pub reference_again : {characters : List ℕ} {c : ℕ} → IsReference characters c → (rest : List ℕ) → Referred characters c rest
unfolding reference_at numeric_at entity_at
reference_again (decimal_reference digits some allowed) rest = record {
  tail = 35 ∷ (digits ++ 59 ∷ []);
  parts = refl;
  again = rw (append_assoc digits (59 ∷ []) rest, no_letter digits (59 ∷ rest) some) (number_again is_digit 10 digits rest refl some allowed);
}
reference_again (hexadecimal_reference digits some allowed) rest = record {
  tail = 35 ∷ 120 ∷ (digits ++ 59 ∷ []);
  parts = refl;
  again = rw (append_assoc digits (59 ∷ []) rest) (number_again is_hexadecimal_digit 16 digits rest refl some allowed);
}
reference_again (entity_reference name c e) rest = record {
  tail = name ++ 59 ∷ [];
  parts = refl;
  again =
      let named = entity_named name c e in
      rw (append_assoc name (59 ∷ []) rest, no_number_sign name (59 ∷ rest) named, name_again name 59 rest named refl, e) refl;
}
