-- Attributes are read as they are spelled.
use Rattle.std.proofs.Common.{◌≡◌, ℕ, ◌<◌, Bool, true, false, cond, not, ◌&&◌, eqb, IsTrue, List, [], ◌∷◌, ◌++◌, length, Option, Some, None, inl, inr, refl, sym, ap, ◌∙◌, append_assoc, arith}
use Rattle.std.specs.List.{list_all}
use Rattle.std.proofs.lemmas.Bool.{and_parts, eqb-true}
use Rattle.std.proofs.lemmas.Bool.Decides.{nat_tests}
use Rattle.std.proofs.lemmas.List.{length-append}
use Rattle.plain_types.specs.declared.attr.Attr.{Attr}
use Rattle.reading.specs.Characters.{is_blank, is_quote}
use Rattle.reading.specs.Reading.{run_at, ◌then◌, past_character}
use Rattle.reading.proofs.Runs.{chosen, then_some, run_is}
use Rattle.reading.proofs.Following.{run_Run}
use Rattle.xml_definitions.specs.Characters.{is_plain, is_name_start, is_name_character}
use Rattle.xml_definitions.specs.Items.{ArePieces}
use Rattle.xml_definitions.specs.Spelling.{as_read, AreBlanks, AreSomeBlanks, IsName, IsValuePart, written_character, referred_character, IsAttribute}
use Rattle.xhtml_items.specs.Reading.{name_at}
use Rattle.xhtml_items.specs.Machinery.Items.{past_some_blanks, skip_blanks, reference_at, value_part_at, quoted_at, attribute, attribute_at}
use Rattle.xhtml_items.proofs.StepLaws.{past_takes, past_again, name_takes, name_again, skip_takes, skip_again, past_some_blanks_takes, past_some_blanks_again, some_filled}
use Rattle.xhtml_items.proofs.ReferenceLaws.{reference_takes, reference_again}
use Rattle.xhtml_items.proofs.RunLaws.{IsReader, Run-takes, Run-again, shorter, takes_one}

-- Parts of values.

part_takes : (quote : ℕ) (cs : List ℕ) (x : ℕ × List ℕ) → value_part_at quote cs ≡ Some x → (front : List ℕ) × IsValuePart quote front x.0 × (cs ≡ front ++ x.1)
unfolding value_part_at
part_takes quote [] x e = absurd cc
part_takes quote (c ∷ cs) x e = elim (chosen (eqb c 38) _ _ _ e) [
  | inl w ↦ (
      let t = reference_takes cs x w.1 in
      let same : c ≡ 38 = eqb-true c 38 w.0 in
      rw same (38 ∷ t.0, referred_character t.1, ap (λ (r : List ℕ). 38 ∷ r) t.2))
  | inr w ↦ elim (chosen (is_plain c && not (eqb c quote)) _ _ _ w.1) [
    | inl v ↦ (let is : (as_read c, cs) ≡ x = (let h = v.1 in cc) in rw (← is) (c ∷ [], written_character c v.0, refl))
    | inr v ↦ absurd (let h = v.1 in cc)
  ]
]

no_ampersand : (c quote : ℕ) → (is_plain c && not (eqb c quote)) ≡ true → eqb c 38 ≡ false
no_ampersand c quote h = let p = and_parts (is_plain c) (not (eqb c quote)) h in grind (arith, nat_tests, p.0)

second : {A : Type 0} (a b : Bool) (x y z : A) → a ≡ false → b ≡ true → cond a x (cond b y z) ≡ y
second a b x y z p q = rw (p, q) refl

part_again : (quote : ℕ) {front : List ℕ} {c : ℕ} → IsValuePart quote front c → (rest : List ℕ) → value_part_at quote (front ++ rest) ≡ Some (c, rest)
unfolding value_part_at
part_again quote (written_character c h) rest = second (eqb c 38) (is_plain c && not (eqb c quote)) (reference_at rest) (Some (as_read c, rest)) None (no_ampersand c quote h) h
part_again quote (referred_character {characters} {character} h) rest =
    let r = reference_again h rest in
    ap (λ (cs : List ℕ). value_part_at quote (cs ++ rest)) r.parts ∙ r.again

part_filled : (quote : ℕ) {front : List ℕ} {c : ℕ} → IsValuePart quote front c → 0 < length front
part_filled quote (written_character c h) = omega arith
part_filled quote (referred_character {characters} {character} h) = let r = reference_again h [] in omega (arith, ap length r.parts)

pub part_reader : (quote : ℕ) → IsReader (IsValuePart quote) (value_part_at quote)
part_reader quote = record {
  takes = part_takes quote;
  again = λ c front rest h. part_again quote h rest;
  filled = λ c front h. part_filled quote h;
}

no_part : (quote : ℕ) → is_quote quote ≡ true → (rest : List ℕ) → value_part_at quote (quote ∷ rest) ≡ None
unfolding value_part_at
no_part quote h rest = neither (eqb quote 38) (is_plain quote && not (eqb quote quote)) _ _ (grind (arith, nat_tests)) (grind (arith, nat_tests))
  where
    neither : {A : Type 0} (a b : Bool) (x y : Option A) → a ≡ false → b ≡ false → cond a x (cond b y None) ≡ None
    neither a b x y p q = rw (p, q) refl

-- Values.

-- a value that was read between two quotes
pub record TakenValue (cs : List ℕ) (x : List ℕ × List ℕ) : Type 0 where
  pub quote : ℕ
  pub value : List ℕ
  pub quoted : IsTrue (is_quote quote)
  pub reads : ArePieces (IsValuePart quote) value x.0
  pub parts : cs ≡ quote ∷ (value ++ quote ∷ x.1)

quoted_takes : (cs : List ℕ) (x : List ℕ × List ℕ) → quoted_at cs ≡ Some x → TakenValue cs x
unfolding quoted_at
quoted_takes [] x e = absurd cc
quoted_takes (quote ∷ cs) x e = elim (chosen (is_quote quote) _ _ _ e) [
  | inl w ↦ (
      let run = run_at (value_part_at quote) cs in
      let t = then_some (past_character quote run.1) (λ (rest : List ℕ). Some (run.0, rest)) x w.1 in
      let is : (run.0, t.0) ≡ x = (let h = t.2 in cc) in
      let took = Run-takes (IsValuePart quote) (value_part_at quote) (part_reader quote) (run_Run (value_part_at quote) (takes_one (IsValuePart quote) (value_part_at quote) (part_reader quote)) cs) in
      rw (← is) (record {
        quote = quote;
        value = took.0;
        quoted = w.0;
        reads = took.1;
        parts = ap (λ (r : List ℕ). quote ∷ r) (took.2 ∙ ap (λ (r : List ℕ). took.0 ++ r) (past_takes quote run.1 t.0 t.1));
      }))
  | inr w ↦ absurd (let h = w.1 in cc)
]

quoted_again : (quote : ℕ) (written value rest : List ℕ) → is_quote quote ≡ true → ArePieces (IsValuePart quote) written value
    → quoted_at (quote ∷ (written ++ quote ∷ rest)) ≡ Some (value, rest)
unfolding quoted_at
quoted_again quote written value rest h p =
    let run = run_is (value_part_at quote) (shorter (IsValuePart quote) (value_part_at quote) (part_reader quote))
    (Run-again (IsValuePart quote) (value_part_at quote) (part_reader quote) value written (quote ∷ rest) p (no_part quote h rest)) in
    rw (h, run, past_again quote rest) refl

-- Attributes.

attribute_takes : (cs : List ℕ) (x : Attr × List ℕ) → attribute_at cs ≡ Some x → (front : List ℕ) × IsAttribute front x.0 × (cs ≡ front ++ x.1)
unfolding attribute_at
attribute_takes cs x e =
    let b = then_some (past_some_blanks cs) (λ (start : List ℕ).
    name_at start then λ name. past_character 61 (skip_blanks name.1) then λ sign. quoted_at (skip_blanks sign) then λ value. Some (attribute name.0 value.0, value.1)) x e in
    let n = then_some (name_at b.0) (λ (name : List ℕ × List ℕ).
    past_character 61 (skip_blanks name.1) then λ sign. quoted_at (skip_blanks sign) then λ value. Some (attribute name.0 value.0, value.1)) x b.2 in
    let s = then_some (past_character 61 (skip_blanks n.0.1)) (λ (sign : List ℕ). quoted_at (skip_blanks sign) then λ value. Some (attribute n.0.0 value.0, value.1)) x n.2 in
    let v = then_some (quoted_at (skip_blanks s.0)) (λ (value : List ℕ × List ℕ). Some (attribute n.0.0 value.0, value.1)) x s.2 in
    let is : (attribute n.0.0 v.0.0, v.0.1) ≡ x = (let h = v.2 in cc) in
    rw (← is) (made cs b.0 n.0 s.0 v.0 (past_some_blanks_takes cs b.0 b.1) (name_takes b.0 n.0 n.1) (skip_takes n.0.1) (past_takes 61 (skip_blanks n.0.1) s.0 s.1) (skip_takes s.0) (quoted_takes (skip_blanks s.0) v.0 v.1))
  where
    made : (cs start : List ℕ) (name : List ℕ × List ℕ) (sign : List ℕ) (value : List ℕ × List ℕ)
        → ((before : List ℕ) × AreSomeBlanks before × (cs ≡ before ++ start)) → IsName name.0 × (start ≡ name.0 ++ name.1)
        → ((after_name : List ℕ) × AreBlanks after_name × (name.1 ≡ after_name ++ skip_blanks name.1)) → skip_blanks name.1 ≡ 61 ∷ sign
        → ((after_sign : List ℕ) × AreBlanks after_sign × (sign ≡ after_sign ++ skip_blanks sign)) → TakenValue (skip_blanks sign) value
        → (front : List ℕ) × IsAttribute front (attribute name.0 value.0) × (cs ≡ front ++ value.1)
    made cs start name sign value b n f s g v = (
      b.0 ++ name.0 ++ f.0 ++ 61 ∷ [] ++ g.0 ++ v.quote ∷ [] ++ v.value ++ v.quote ∷ [],
      record {
        before = b.0;
        after_name = f.0;
        after_sign = g.0;
        quote = v.quote;
        value = v.value;
        parted = b.1;
        named = n.0;
        blanks = (f.1, g.1);
        quoted = v.quoted;
        reads = v.reads;
        parts = refl;
      },
      b.2
          ∙ ap (λ (r : List ℕ). b.0 ++ r) (n.1 ∙ ap (λ (r : List ℕ). name.0 ++ r) (f.2 ∙ ap (λ (r : List ℕ). f.0 ++ r) (s
          ∙ ap (λ (r : List ℕ). 61 ∷ r) (g.2 ∙ ap (λ (r : List ℕ). g.0 ++ r) v.parts))))
          ∙ sym (simp append_assoc),
    )

not_blank : (quote : ℕ) → is_quote quote ≡ true → is_blank quote ≡ false
not_blank quote h = grind (arith, nat_tests)

blank_ends_name : (c : ℕ) → is_blank c ≡ true → is_name_character c ≡ false
blank_ends_name c h = grind (arith, nat_tests)

name_not_blank : (c : ℕ) → is_name_start c ≡ true → is_blank c ≡ false
name_not_blank c h = grind (arith, nat_tests)

-- a name ends where blanks, or what is no part of a name, follow
pub name_before : (name bs : List ℕ) (d : ℕ) (more : List ℕ) → IsName name → AreBlanks bs → is_name_character d ≡ false
    → name_at (name ++ (bs ++ d ∷ more)) ≡ Some (name, bs ++ d ∷ more)
name_before name [] d more h k stops = name_again name d more h stops
name_before name (b ∷ bs) d more h k stops = name_again name b (bs ++ d ∷ more) h (blank_ends_name b (and_parts (is_blank b) (list_all is_blank bs) k).0)

-- blanks before a name
pub blanks_before : (bs name more : List ℕ) → AreSomeBlanks bs → IsName name → past_some_blanks (bs ++ (name ++ more)) ≡ Some (name ++ more)
blanks_before bs [] more k h = absurd cc
blanks_before bs (c ∷ cs) more k h = past_some_blanks_again bs c (cs ++ more) k (name_not_blank c (and_parts (is_name_start c) (list_all is_name_character cs) h).0)

attribute_again : (attr : Attr) (front rest : List ℕ) → IsAttribute front attr → attribute_at (front ++ rest) ≡ Some (attr, rest)
unfolding attribute_at
attribute_again attr front rest s =
    let whole : front ++ rest ≡ s.before ++ (attr.name ++ (s.after_name ++ 61 ∷ (s.after_sign ++ s.quote ∷ (s.value ++ s.quote ∷ rest)))) = rw s.parts (simp append_assoc) in
    ap attribute_at whole ∙ chain s.before attr.name s.after_name s.after_sign s.quote (s.value ++ s.quote ∷ rest) (attr.value, rest)
    (blanks_before s.before attr.name _ s.parted s.named) (name_before attr.name s.after_name 61 _ s.named s.blanks.0 refl)
    (skip_again s.after_name 61 _ s.blanks.0 refl) (skip_again s.after_sign s.quote _ s.blanks.1 (not_blank s.quote s.quoted)) (quoted_again s.quote s.value attr.value rest s.quoted s.reads)
  where
    chain : (before name after_name after_sign : List ℕ) (q : ℕ) (more : List ℕ) (v : List ℕ × List ℕ)
        → past_some_blanks (before ++ (name ++ (after_name ++ 61 ∷ (after_sign ++ q ∷ more)))) ≡ Some (name ++ (after_name ++ 61 ∷ (after_sign ++ q ∷ more)))
        → name_at (name ++ (after_name ++ 61 ∷ (after_sign ++ q ∷ more))) ≡ Some (name, after_name ++ 61 ∷ (after_sign ++ q ∷ more))
        → skip_blanks (after_name ++ 61 ∷ (after_sign ++ q ∷ more)) ≡ 61 ∷ (after_sign ++ q ∷ more)
        → skip_blanks (after_sign ++ q ∷ more) ≡ q ∷ more
        → quoted_at (q ∷ more) ≡ Some v
        → attribute_at (before ++ (name ++ (after_name ++ 61 ∷ (after_sign ++ q ∷ more)))) ≡ Some (attribute name v.0, v.1)
    chain before name after_name after_sign q more v a b c d e = rw (a, b, c, d, e) refl

attribute_filled : (attr : Attr) (front : List ℕ) → IsAttribute front attr → 0 < length front
attribute_filled attr front s = begun s.before (attr.name ++ (s.after_name ++ 61 ∷ (s.after_sign ++ s.quote ∷ (s.value ++ s.quote ∷ [])))) front (some_filled is_blank s.before s.parted) (s.parts ∙ simp append_assoc)
  where
    begun : (before more front : List ℕ) → 0 < length before → front ≡ before ++ more → 0 < length front
    begun before more front filled e = omega (arith, ap length e, length-append before more)

pub attribute_reader : IsReader IsAttribute attribute_at
attribute_reader = record { takes = attribute_takes; again = attribute_again; filled = attribute_filled }
