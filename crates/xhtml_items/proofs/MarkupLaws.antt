-- Instructions and doctypes are read as they are spelled.
use Rattle.std.proofs.Common.{◌≡◌, ℕ, true, false, not, ◌&&◌, eqb, List, [], ◌∷◌, ◌++◌, Option, Some, None, ◌⊎◌, inl, inr, refl, sym, ap, ◌∙◌, append_assoc, codes, map, arith}
use Rattle.std.specs.Char.{to_ascii_uppercase}
use Rattle.std.specs.List.{list_all}
use Rattle.std.proofs.lemmas.Bool.{and_parts}
use Rattle.std.proofs.lemmas.Bool.Decides.{nat_tests}
use Rattle.reading.specs.Characters.{is_blank, is_quote}
use Rattle.reading.specs.Reading.{◌then◌, span, past_character, past_text}
use Rattle.reading.proofs.Runs.{chosen, then_some}
use Rattle.xml_definitions.specs.Characters.{is_character, is_name_character}
use Rattle.xml_definitions.specs.Items.{Item, doctype, instruction}
use Rattle.xml_definitions.specs.Spelling.{AreBlanks, AreSomeBlanks, IsName, AreUpTo, IsInstruction, bare_instruction, instruction_text, IsLiteral, literal, IsExternalId, no_identifier, system_identifier, public_identifier, both_identifiers, IsDoctype}
use Rattle.xhtml_items.specs.Reading.{either_way, name_at}
use Rattle.xhtml_items.specs.Machinery.Items.{past_capitals, past_some_blanks, skip_blanks, up_to, found, instruction_text_at, instruction_at, past_literal, past_second, past_system, past_public, past_identifier, past_external, doctype_at}
use Rattle.xhtml_items.proofs.StepLaws.{either_cases, past_takes, past_again, past_text_takes, past_capitals_takes, past_capitals_again, span_takes, span_again, past_some_blanks_takes, past_some_blanks_again, name_takes, name_again, skip_takes, skip_again, up_to_takes, up_to_again}
use Rattle.xhtml_items.proofs.AttributeLaws.{name_before, blanks_before}

-- Instructions.

pub instruction_takes : (cs : List ℕ) (x : Item × List ℕ) → instruction_at cs ≡ Some x
    → (front : List ℕ) × (x.0 ≡ instruction) × IsInstruction (60 ∷ 63 ∷ front) × (cs ≡ front ++ x.1)
unfolding instruction_at instruction_text_at
instruction_takes cs x e =
    let n = then_some (name_at cs) (λ (target : List ℕ × List ℕ). either_way (past_text (codes "?>") target.1) (λ rest. found instruction rest) (instruction_text_at target.1)) x e in
    let p = name_takes cs n.0 n.1 in
    elim (either_cases (past_text (codes "?>") n.0.1) (λ (rest : List ℕ). found instruction rest) _ _ n.2) [
      | inl w ↦ (
          let is : (instruction, w.0) ≡ x = (let h = w.2 in cc) in
          rw (← is) (
            n.0.0 ++ codes "?>",
            refl,
            bare_instruction n.0.0 p.0,
            p.1 ∙ ap (λ (r : List ℕ). n.0.0 ++ r) (past_text_takes (codes "?>") n.0.1 w.0 w.1) ∙ sym (append_assoc n.0.0 (codes "?>") w.0),
          ))
      | inr w ↦ (
          let t = text_takes n.0.0 n.0.1 x p.0 w.1 in
          (n.0.0 ++ t.0, t.1, t.2, p.1 ∙ ap (λ (r : List ℕ). n.0.0 ++ r) t.3 ∙ sym (append_assoc n.0.0 t.0 x.1)))
    ]
  where
    spelled : (target : List ℕ) (blank : ℕ) (inside : List ℕ) → IsName target → is_blank blank ≡ true → AreUpTo (codes "?>") inside
        → IsInstruction (60 ∷ 63 ∷ (target ++ (blank ∷ inside ++ codes "?>")))
    spelled target blank inside named h up = rw append_assoc at (instruction_text target blank named h up)

    text_takes : (target cs : List ℕ) (x : Item × List ℕ) → IsName target → instruction_text_at cs ≡ Some x
        → (front : List ℕ) × (x.0 ≡ instruction) × IsInstruction (60 ∷ 63 ∷ (target ++ front)) × (cs ≡ front ++ x.1)
    text_takes target [] x named e = absurd cc
    text_takes target (c ∷ cs) x named e = elim (chosen (is_blank c) _ _ _ e) [
      | inl v ↦ (
          let t = then_some (up_to (codes "?>") cs) (λ (text : List ℕ × List ℕ). found instruction text.1) x v.1 in
          let is : (instruction, t.0.1) ≡ x = (let h = t.2 in cc) in
          let u = up_to_takes (codes "?>") cs t.0 t.1 in
          rw (← is) (c ∷ t.0.0 ++ codes "?>", refl, spelled target c t.0.0 named v.0 u.0, ap (λ (r : List ℕ). c ∷ r) (u.1 ∙ sym (append_assoc t.0.0 (codes "?>") t.0.1))))
      | inr v ↦ absurd (let h = v.1 in cc)
    ]

-- an instruction that is spelled is read, behind its `<?`
pub instruction_again : {characters : List ℕ} → IsInstruction characters → (rest : List ℕ)
    → (tail : List ℕ) × (characters ≡ 60 ∷ 63 ∷ tail) × (instruction_at (tail ++ rest) ≡ Some (instruction, rest))
unfolding instruction_at instruction_text_at
instruction_again (bare_instruction target named) rest =
    (target ++ codes "?>", refl, rw (append_assoc target (codes "?>") rest, name_again target 63 (62 ∷ rest) named refl) refl)
instruction_again (instruction_text target blank {inside} named h up) rest =
    let whole : (target ++ blank ∷ inside ++ codes "?>") ++ rest ≡ target ++ blank ∷ (inside ++ (codes "?>" ++ rest)) = simp append_assoc in
    let ends : is_name_character blank ≡ false = grind (arith, nat_tests) in
    let other : past_text (codes "?>") (blank ∷ (inside ++ (codes "?>" ++ rest))) ≡ None = (let unlike : eqb blank 63 ≡ false = grind (arith, nat_tests) in rw unlike refl) in (
      target ++ blank ∷ inside ++ codes "?>",
      refl,
      ap instruction_at whole
          ∙ rw (name_again target blank (inside ++ (codes "?>" ++ rest)) named ends, other, h, up_to_again (codes "?>") inside rest (omega arith) up) refl,
    )

-- Literals and external identifiers.

literal_takes : (cs rest : List ℕ) → past_literal cs ≡ Some rest → (front : List ℕ) × IsLiteral front × (cs ≡ front ++ rest)
unfolding past_literal
literal_takes [] rest e = absurd cc
literal_takes (quote ∷ cs) rest e = elim (chosen (is_quote quote) _ _ _ e) [
  | inl w ↦ (
      let s = span_takes (λ c. is_character c && not (eqb c quote)) cs in
      let inside = (span (λ c. is_character c && not (eqb c quote)) cs).0 in (
        quote ∷ inside ++ quote ∷ [],
        literal quote inside w.0 s.0,
        ap (λ (r : List ℕ). quote ∷ r) (s.1 ∙ ap (λ (r : List ℕ). inside ++ r) (past_takes quote _ rest w.1) ∙ sym (append_assoc inside (quote ∷ []) rest)),
      ))
  | inr w ↦ absurd (let h = w.1 in cc)
]

not_blank : (quote : ℕ) → is_quote quote ≡ true → is_blank quote ≡ false
not_blank quote h = grind (arith, nat_tests)

-- blanks and a literal are passed
literal_again : (between : List ℕ) {text : List ℕ} → AreSomeBlanks between → IsLiteral text → (rest : List ℕ)
    → (past_some_blanks (between ++ (text ++ rest)) ≡ Some (text ++ rest)) × (past_literal (text ++ rest) ≡ Some rest)
unfolding past_literal
literal_again between some (literal quote inside quoted all) rest = (
  past_some_blanks_again between quote (inside ++ quote ∷ [] ++ rest) some (not_blank quote quoted),
  rw (quoted, append_assoc inside (quote ∷ []) rest)
      (ap (λ (x : List ℕ × List ℕ). past_character quote x.1) (span_again (λ c. is_character c && not (eqb c quote)) inside quote rest all (excluded quote)) ∙ past_again quote rest),
)
  where
    excluded : (quote : ℕ) → (is_character quote && not (eqb quote quote)) ≡ false
    excluded quote = grind (arith, nat_tests)

system_takes : (cs rest : List ℕ) → past_system cs ≡ Some rest
    → (between : List ℕ) × (text : List ℕ) × AreSomeBlanks between × IsLiteral text × (cs ≡ between ++ (text ++ rest))
unfolding past_system
system_takes cs rest e =
    let b = then_some (past_some_blanks cs) (λ (start : List ℕ). past_literal start) rest e in
    let s = past_some_blanks_takes cs b.0 b.1 in
    let l = literal_takes b.0 rest b.2 in
    (s.0, l.0, s.1, l.1, s.2 ∙ ap (λ (r : List ℕ). s.0 ++ r) l.2)

-- what a second literal leaves: it was there, or nothing was passed
second_takes : (cs : List ℕ)
    → (past_second cs ≡ cs) ⊎ ((after : List ℕ) × (text : List ℕ) × AreSomeBlanks after × IsLiteral text × (cs ≡ after ++ (text ++ past_second cs)))
unfolding past_second
second_takes cs = go (past_system cs) refl
  where
    go : (o : Option (List ℕ)) → past_system cs ≡ o
        → (either_way o (λ rest. rest) cs ≡ cs) ⊎ ((after : List ℕ) × (text : List ℕ) × AreSomeBlanks after × IsLiteral text × (cs ≡ after ++ (text ++ either_way o (λ rest. rest) cs)))
    go (Some rest) e = inr (system_takes cs rest e)
    go None e = inl refl

external_takes : (cs rest : List ℕ) → past_external cs ≡ Some rest → (front : List ℕ) × IsExternalId front × (cs ≡ front ++ rest)
unfolding past_external past_identifier past_public
external_takes cs rest e = elim (either_cases (past_some_blanks cs) (λ (start : List ℕ). past_identifier cs start) (Some cs) _ e) [
  | inl w ↦ (let b = past_some_blanks_takes cs w.0 w.1 in identifier_takes b.0 w.0 b.1 b.2 w.2)
  | inr w ↦ ([], no_identifier, let h = w.1 in cc)
] where
  public_takes : (before start : List ℕ) → AreSomeBlanks before → cs ≡ before ++ (codes "PUBLIC" ++ start) → past_public start ≡ Some rest
      → (front : List ℕ) × IsExternalId front × (cs ≡ front ++ rest)
  public_takes before start some parts e =
      let l = then_some (past_system start) (λ (more : List ℕ). Some (past_second more)) rest e in
      let t = system_takes start l.0 l.1 in
      let is : past_second l.0 ≡ rest = (let h = l.2 in cc) in
      let whole : cs ≡ before ++ (codes "PUBLIC" ++ (t.0 ++ (t.1 ++ l.0))) = parts ∙ ap (λ (r : List ℕ). before ++ (codes "PUBLIC" ++ r)) t.4 in
      elim (second_takes l.0) [
        | inl same ↦ (
          before ++ codes "PUBLIC" ++ t.0 ++ t.1,
          public_identifier before t.0 some t.2 t.3,
          whole ∙ ap (λ (r : List ℕ). before ++ (codes "PUBLIC" ++ (t.0 ++ (t.1 ++ r)))) (sym same ∙ is) ∙ sym (simp append_assoc),
        )
        | inr w ↦ (
          before ++ codes "PUBLIC" ++ t.0 ++ t.1 ++ w.0 ++ w.1,
          both_identifiers before t.0 w.0 some t.2 t.3 w.2 w.3,
          whole ∙ ap (λ (r : List ℕ). before ++ (codes "PUBLIC" ++ (t.0 ++ (t.1 ++ r)))) (w.4 ∙ ap (λ (r : List ℕ). w.0 ++ (w.1 ++ r)) is) ∙ sym (simp append_assoc),
        )
      ]

  identifier_takes : (before start : List ℕ) → AreSomeBlanks before → cs ≡ before ++ start → past_identifier cs start ≡ Some rest
      → (front : List ℕ) × IsExternalId front × (cs ≡ front ++ rest)
  identifier_takes before start some parts e = elim (either_cases (past_text (codes "SYSTEM") start) (λ (rest : List ℕ). past_system rest) _ _ e) [
    | inl w ↦ (
        let s = system_takes w.0 rest w.2 in (
          before ++ codes "SYSTEM" ++ s.0 ++ s.1,
          system_identifier before s.0 some s.2 s.3,
          parts ∙ ap (λ (r : List ℕ). before ++ r) (past_text_takes (codes "SYSTEM") start w.0 w.1 ∙ ap (λ (r : List ℕ). codes "SYSTEM" ++ r) s.4) ∙ sym (simp append_assoc),
        ))
    | inr w ↦ elim (either_cases (past_text (codes "PUBLIC") start) (λ (rest : List ℕ). past_public rest) (Some cs) _ w.1) [
      | inl v ↦ (
          let whole : cs ≡ before ++ (codes "PUBLIC" ++ v.0) = parts ∙ ap (λ (r : List ℕ). before ++ r) (past_text_takes (codes "PUBLIC") start v.0 v.1) in
          public_takes before v.0 some whole v.2)
      | inr v ↦ ([], no_identifier, let h = v.1 in cc)
    ]
  ]

-- nothing more is passed before the end of a doctype
no_second : (blanks rest : List ℕ) → AreBlanks blanks → past_second (blanks ++ 62 ∷ rest) ≡ blanks ++ 62 ∷ rest
unfolding past_second past_system past_literal
no_second [] rest blank = refl
no_second (b ∷ blanks) rest blank = rw (past_some_blanks_again (b ∷ blanks) 62 rest blank refl) refl

no_external : (blanks rest : List ℕ) → AreBlanks blanks → past_external (blanks ++ 62 ∷ rest) ≡ Some (blanks ++ 62 ∷ rest)
unfolding past_external past_identifier
no_external [] rest blank = refl
no_external (b ∷ blanks) rest blank = rw (past_some_blanks_again (b ∷ blanks) 62 rest blank refl) refl

external_again : {identifier : List ℕ} → IsExternalId identifier → (blanks rest : List ℕ) → AreBlanks blanks
    → past_external (identifier ++ (blanks ++ 62 ∷ rest)) ≡ Some (blanks ++ 62 ∷ rest)
unfolding past_external past_identifier past_system past_public past_second
external_again no_identifier blanks rest blank = no_external blanks rest blank
external_again (system_identifier before between {system} some parted text) blanks rest blank =
    let end = blanks ++ 62 ∷ rest in
    let whole : (before ++ codes "SYSTEM" ++ between ++ system) ++ end ≡ before ++ (codes "SYSTEM" ++ (between ++ (system ++ end))) = simp append_assoc in
    let l = literal_again between parted text end in
    ap past_external whole ∙ rw (past_some_blanks_again before 83 (89 ∷ 83 ∷ 84 ∷ 69 ∷ 77 ∷ (between ++ (system ++ end))) some refl, l.0, l.1) refl
external_again (public_identifier before between {public} some parted text) blanks rest blank =
    let end = blanks ++ 62 ∷ rest in
    let whole : (before ++ codes "PUBLIC" ++ between ++ public) ++ end ≡ before ++ (codes "PUBLIC" ++ (between ++ (public ++ end))) = simp append_assoc in
    let l = literal_again between parted text end in
    ap past_external whole ∙ rw (past_some_blanks_again before 80 (85 ∷ 66 ∷ 76 ∷ 73 ∷ 67 ∷ (between ++ (public ++ end))) some refl, l.0, l.1, no_second blanks rest blank) refl
external_again (both_identifiers before between after {public} {system} some parted text apart other) blanks rest blank =
    let end = blanks ++ 62 ∷ rest in
    let whole : (before ++ codes "PUBLIC" ++ between ++ public ++ after ++ system) ++ end ≡ before ++ (codes "PUBLIC" ++ (between ++ (public ++ (after ++ (system ++ end))))) = simp append_assoc in
    let l = literal_again between parted text (after ++ (system ++ end)) in
    let m = literal_again after apart other end in
    ap past_external whole
    ∙ rw (past_some_blanks_again before 80 (85 ∷ 66 ∷ 76 ∷ 73 ∷ 67 ∷ (between ++ (public ++ (after ++ (system ++ end))))) some refl, l.0, l.1, m.0, m.1) refl

-- Doctypes.

-- the parts of a doctype, one behind the other
joined : (cs word a front b name c identifier d after e rest : List ℕ) → cs ≡ word ++ a → a ≡ front ++ b → b ≡ name ++ c → c ≡ identifier ++ d → d ≡ after ++ e → e ≡ 62 ∷ rest
    → cs ≡ (word ++ front ++ name ++ identifier ++ after ++ 62 ∷ []) ++ rest
joined cs word a front b name c identifier d after e rest p q r s t u = rw (p, q, r, s, t, u) (sym (simp append_assoc))

made : (word before name identifier after : List ℕ) → map to_ascii_uppercase word ≡ codes "DOCTYPE" → AreSomeBlanks before → IsName name → IsExternalId identifier → AreBlanks after
    → IsDoctype (60 ∷ 33 ∷ (word ++ before ++ name ++ identifier ++ after ++ 62 ∷ []))
made word before name identifier after spelled parted named external blank = record {
  word = word;
  before = before;
  name = name;
  identifier = identifier;
  after = after;
  spelled = spelled;
  parted = parted;
  named = named;
  external = external;
  blank = blank;
  parts = refl;
}

pub doctype_takes : (cs : List ℕ) (x : Item × List ℕ) → doctype_at cs ≡ Some x
    → (front : List ℕ) × (x.0 ≡ doctype) × IsDoctype (60 ∷ 33 ∷ front) × (cs ≡ front ++ x.1)
unfolding doctype_at
doctype_takes cs x e =
    let w = then_some (past_capitals (codes "DOCTYPE") cs) (λ (word : List ℕ).
    past_some_blanks word then λ start. name_at start then λ name. past_external name.1 then λ rest. past_character 62 (skip_blanks rest) then λ rest. found doctype rest) x e in
    let b = then_some (past_some_blanks w.0) (λ (start : List ℕ).
    name_at start then λ name. past_external name.1 then λ rest. past_character 62 (skip_blanks rest) then λ rest. found doctype rest) x w.2 in
    let n = then_some (name_at b.0) (λ (name : List ℕ × List ℕ). past_external name.1 then λ rest. past_character 62 (skip_blanks rest) then λ rest. found doctype rest) x b.2 in
    let i = then_some (past_external n.0.1) (λ (rest : List ℕ). past_character 62 (skip_blanks rest) then λ rest. found doctype rest) x n.2 in
    let t = then_some (past_character 62 (skip_blanks i.0)) (λ (rest : List ℕ). found doctype rest) x i.2 in
    let is : (doctype, t.0) ≡ x = (let h = t.2 in cc) in
    let f = past_capitals_takes (codes "DOCTYPE") cs w.0 w.1 in
    let s = past_some_blanks_takes w.0 b.0 b.1 in
    let p = name_takes b.0 n.0 n.1 in
    let d = external_takes n.0.1 i.0 i.1 in
    let k = skip_takes i.0 in
    rw (← is) (
      f.0 ++ s.0 ++ n.0.0 ++ d.0 ++ k.0 ++ 62 ∷ [],
      refl,
      made f.0 s.0 n.0.0 d.0 k.0 f.1 s.1 p.0 d.1 k.1,
      joined cs f.0 w.0 s.0 b.0 n.0.0 n.0.1 d.0 i.0 k.0 (skip_blanks i.0) t.0 f.2 s.2 p.1 d.2 k.2 (past_takes 62 (skip_blanks i.0) t.0 t.1),
    )

-- blanks end a name
parted_name : (name before more end identifier : List ℕ) → IsName name → AreSomeBlanks before → identifier ≡ before ++ more
    → name_at (name ++ (identifier ++ end)) ≡ Some (name, identifier ++ end)
parted_name name [] more end identifier named some e = absurd cc
parted_name name (b ∷ bs) more end identifier named some e =
    let first : is_blank b ≡ true = (and_parts (is_blank b) (list_all is_blank bs) some).0 in
    rw e (name_again name b (bs ++ more ++ end) named (grind (arith, nat_tests)))

-- an external identifier begins with a blank, and so ends a name
name_before_external : (name : List ℕ) {identifier : List ℕ} → IsExternalId identifier → (blanks rest : List ℕ) → IsName name → AreBlanks blanks
    → name_at (name ++ (identifier ++ (blanks ++ 62 ∷ rest))) ≡ Some (name, identifier ++ (blanks ++ 62 ∷ rest))
name_before_external name no_identifier blanks rest named blank = name_before name blanks 62 rest named blank refl
name_before_external name (system_identifier before between {system} some parted text) blanks rest named blank =
    parted_name name before (codes "SYSTEM" ++ between ++ system) (blanks ++ 62 ∷ rest) (before ++ codes "SYSTEM" ++ between ++ system) named some (simp append_assoc)
name_before_external name (public_identifier before between {public} some parted text) blanks rest named blank =
    parted_name name before (codes "PUBLIC" ++ between ++ public) (blanks ++ 62 ∷ rest) (before ++ codes "PUBLIC" ++ between ++ public) named some (simp append_assoc)
name_before_external name (both_identifiers before between after {public} {system} some parted text apart other) blanks rest named blank =
    parted_name name before (codes "PUBLIC" ++ between ++ public ++ after ++ system) (blanks ++ 62 ∷ rest) (before ++ codes "PUBLIC" ++ between ++ public ++ after ++ system) named some (simp append_assoc)

pub doctype_again : (characters rest : List ℕ) → IsDoctype characters
    → (tail : List ℕ) × (characters ≡ 60 ∷ 33 ∷ tail) × (doctype_at (tail ++ rest) ≡ Some (doctype, rest))
unfolding doctype_at
doctype_again characters rest s = (
  s.word ++ s.before ++ s.name ++ s.identifier ++ s.after ++ 62 ∷ [],
  s.parts,
  ap doctype_at (regrouped s.word s.before s.name s.identifier s.after (62 ∷ []) rest)
      ∙ rw (
        past_capitals_again (codes "DOCTYPE") s.word (s.before ++ (s.name ++ (s.identifier ++ (s.after ++ 62 ∷ rest)))) s.spelled,
        blanks_before s.before s.name (s.identifier ++ (s.after ++ 62 ∷ rest)) s.parted s.named,
        name_before_external s.name s.external s.after rest s.named s.blank,
        external_again s.external s.after rest s.blank,
        skip_again s.after 62 rest s.blank refl,
      ) refl,
)
  where
    regrouped : (a b c d e f rest : List ℕ) → (a ++ b ++ c ++ d ++ e ++ f) ++ rest ≡ a ++ (b ++ (c ++ (d ++ (e ++ (f ++ rest)))))
    regrouped a b c d e f rest = simp append_assoc
