-- Tags are read as they are spelled.
use Rattle.std.proofs.Common.{◌≡◌, ◌≢◌, ℕ, suc, Bool, true, false, not, ◌||◌, List, [], ◌∷◌, ◌++◌, Some, None, inl, inr, refl, sym, ap, ◌∙◌, append_assoc, arith}
use Rattle.std.specs.List.{list_all, list_any, All}
use Rattle.std.specs.Str.{bytes_eq}
use Rattle.std.proofs.lemmas.Bool.{and_parts}
use Rattle.std.proofs.lemmas.Bool.Decides.{nat_tests}
use Rattle.std.proofs.lemmas.List.Elements.{All-cons}
use Rattle.std.proofs.lemmas.List.Folds.{list_any_none}
use Rattle.std.proofs.lemmas.List.Kept.{AllPairs-cons}
use Rattle.std.proofs.lemmas.Slice.Eq.{bytes_eq-Decides}
use Rattle.plain_types.specs.Tree.{HasDistinctNames}
use Rattle.plain_types.specs.declared.attr.Attr.{Attr}
use Rattle.reading.specs.Characters.{is_blank}
use Rattle.reading.specs.Reading.{run_at, ◌then◌, past_character, past_text}
use Rattle.reading.proofs.Runs.{chosen, then_some, run_is}
use Rattle.reading.proofs.Following.{run_Run}
use Rattle.xml_definitions.specs.Characters.{is_name_start, is_name_character}
use Rattle.xml_definitions.specs.Items.{Item, ArePieces, start_tag, empty_tag, end_tag}
use Rattle.xml_definitions.specs.Spelling.{AreBlanks, AreSomeBlanks, IsName, IsAttribute, IsTag, IsEndTag, Spells}
use Rattle.xhtml_items.specs.Reading.{name_at}
use Rattle.xhtml_items.specs.Machinery.Items.{skip_blanks, attribute_at, are_distinct, found, tag_end_at, attributes_at, tag_at, end_tag_at}
use Rattle.xhtml_items.proofs.StepLaws.{either_cases, past_takes, past_text_takes, past_some_blanks_again, name_takes, name_again, skip_takes, skip_again}
use Rattle.xhtml_items.proofs.AttributeLaws.{name_before, attribute_reader}
use Rattle.xhtml_items.proofs.RunLaws.{Run-takes, Run-again, shorter, takes_one}

-- Distinct names.

no_other : (name : List ℕ) (attrs : List Attr) → list_any (λ (other : Attr). bytes_eq name other.name) attrs ≡ false → All (λ (other : Attr). name ≢ other.name) attrs
no_other name [] e = λ k d lt. absurd (omega arith)
no_other name (first ∷ rest) e =
    let parts = neither (bytes_eq name first.name) (list_any (λ (other : Attr). bytes_eq name other.name) rest) e in
    All-cons (λ (other : Attr). name ≢ other.name) first rest (differs parts.0) (no_other name rest parts.1)
  where
    neither : (a b : Bool) → (a || b) ≡ false → (a ≡ false) × (b ≡ false)
    neither true b e = absurd cc
    neither false b e = (refl, e)

    differs : bytes_eq name first.name ≡ false → name ≢ first.name
    differs unlike same = let alike = (bytes_eq-Decides name first.name).1 same in absurd cc

pub distinct_from_test : (attrs : List Attr) → are_distinct attrs ≡ true → HasDistinctNames attrs
distinct_from_test [] h = λ i j d before within. absurd (omega arith)
distinct_from_test (first ∷ rest) h =
    let p = and_parts (not (list_any (λ (other : Attr). bytes_eq first.name other.name) rest)) (are_distinct rest) h in
    AllPairs-cons (λ (one other : Attr). one.name ≢ other.name) first rest (no_other first.name rest (negated _ p.0)) (distinct_from_test rest p.1)
  where
    negated : (b : Bool) → not b ≡ true → b ≡ false
    negated true e = absurd cc
    negated false e = refl

pub test_from_distinct : (attrs : List Attr) → HasDistinctNames attrs → are_distinct attrs ≡ true
test_from_distinct [] h = refl
test_from_distinct (first ∷ rest) h =
    let none : list_any (λ (other : Attr). bytes_eq first.name other.name) rest ≡ false =
    list_any_none (λ (other : Attr). bytes_eq first.name other.name) rest (λ k d lt. differs first.name _ (h 0 (suc k) d (omega arith) (omega arith))) in
    rw none (test_from_distinct rest (λ i j d before within. h (suc i) (suc j) d (omega arith) (omega arith)))
  where
    differs : (a b : List ℕ) → a ≢ b → bytes_eq a b ≡ false
    differs a b h = elim (bytes_eq a b) as (λ t. bytes_eq a b ≡ t → t ≡ false) [ true ↦ (λ e. absurd (h ((bytes_eq-Decides a b).0 e))) | false ↦ (λ e. refl) ] refl

-- Start tags and empty tags.

-- an item that was read behind these characters
pub record Behind (before characters : List ℕ) (x : Item × List ℕ) : Type 0 where
  pub front : List ℕ
  pub spelled : Spells (before ++ front) x.0
  pub parts : characters ≡ front ++ x.1

tag_end_takes : (name written blanks : List ℕ) (attrs : List Attr) (cs : List ℕ) (x : Item × List ℕ)
    → IsName name → ArePieces IsAttribute written attrs → HasDistinctNames attrs → AreBlanks blanks → tag_end_at name attrs cs ≡ Some x
    → Behind (60 ∷ name ++ written ++ blanks) cs x
unfolding tag_end_at
tag_end_takes name written blanks attrs cs x named pieces distinct blank e = elim (either_cases (past_text (47 ∷ 62 ∷ []) cs) (λ (rest : List ℕ). found (empty_tag name attrs) rest) _ _ e) [
  | inl w ↦ (
      let is : (empty_tag name attrs, w.0) ≡ x = (let h = w.2 in cc) in
      rw (← is) (record {
        front = 47 ∷ 62 ∷ [];
        spelled = record { written = written; blanks = blanks; named = named; attributes = pieces; distinct = distinct; blank = blank; parts = refl };
        parts = past_text_takes (47 ∷ 62 ∷ []) cs w.0 w.1;
      }))
  | inr w ↦ (
      let t = then_some (past_character 62 cs) (λ (rest : List ℕ). found (start_tag name attrs) rest) x w.1 in
      let is : (start_tag name attrs, t.0) ≡ x = (let h = t.2 in cc) in
      rw (← is) (record {
        front = 62 ∷ [];
        spelled = record { written = written; blanks = blanks; named = named; attributes = pieces; distinct = distinct; blank = blank; parts = refl };
        parts = past_takes 62 cs t.0 t.1;
      }))
]

-- more that was read stands in front
pub Behind-more : (before more cs rest : List ℕ) (x : Item × List ℕ) → Behind (before ++ more) rest x → cs ≡ more ++ rest → Behind before cs x
Behind-more before more cs rest x b e = record {
  front = more ++ b.front;
  spelled = rw append_assoc at b.spelled;
  parts = e ∙ ap (λ (r : List ℕ). more ++ r) b.parts ∙ sym (append_assoc more b.front x.1);
}

attributes_takes : (name cs : List ℕ) (x : Item × List ℕ) → IsName name → attributes_at name cs ≡ Some x → Behind (60 ∷ name) cs x
unfolding attributes_at
attributes_takes name cs x named e = elim (chosen (are_distinct (run_at attribute_at cs).0) _ _ _ e) [
  | inl w ↦ (
      let run = run_at attribute_at cs in
      let t = Run-takes IsAttribute attribute_at attribute_reader (run_Run attribute_at (takes_one IsAttribute attribute_at attribute_reader) cs) in
      let s = skip_takes run.1 in
      let b = tag_end_takes name t.0 s.0 run.0 (skip_blanks run.1) x named t.1 (distinct_from_test run.0 w.0) s.1 w.1 in
      Behind-more (60 ∷ name) t.0 cs run.1 x (Behind-more (60 ∷ name ++ t.0) s.0 run.1 (skip_blanks run.1) x b s.2) t.2)
  | inr w ↦ absurd (let h = w.1 in cc)
]

pub tag_takes : (cs : List ℕ) (x : Item × List ℕ) → tag_at cs ≡ Some x → Behind (60 ∷ []) cs x
unfolding tag_at
tag_takes cs x e =
    let n = then_some (name_at cs) (λ (name : List ℕ × List ℕ). attributes_at name.0 name.1) x e in
    let p = name_takes cs n.0 n.1 in
    Behind-more (60 ∷ []) n.0.0 cs n.0.1 x (attributes_takes n.0.0 n.0.1 x p.0 n.2) p.1

-- no attribute stands before the end of a tag
no_attribute : (blanks : List ℕ) (d : ℕ) (more : List ℕ) → AreBlanks blanks → is_blank d ≡ false → is_name_start d ≡ false → attribute_at (blanks ++ d ∷ more) ≡ None
unfolding attribute_at name_at
no_attribute [] d more h stops starts = rw stops refl
no_attribute (b ∷ blanks) d more h stops starts = rw (past_some_blanks_again (b ∷ blanks) d more h stops, starts) refl

-- attributes begin with a blank
name_before_attributes : (name written : List ℕ) (attrs : List Attr) (blanks : List ℕ) (d : ℕ) (more : List ℕ)
    → IsName name → ArePieces IsAttribute written attrs → AreBlanks blanks → is_name_character d ≡ false
    → name_at (name ++ (written ++ (blanks ++ d ∷ more))) ≡ Some (name, written ++ (blanks ++ d ∷ more))
name_before_attributes name written [] blanks d more named pieces blank stops = rw pieces (name_before name blanks d more named blank stops)
name_before_attributes name written (attr ∷ attrs) blanks d more named pieces blank stops =
    let s = pieces.2 in
    begun s.before s.parted (attr.name ++ (s.after_name ++ 61 ∷ (s.after_sign ++ s.quote ∷ (s.value ++ s.quote ∷ pieces.1)))) (pieces.4 ∙ ap (λ (r : List ℕ). r ++ pieces.1) s.parts ∙ simp append_assoc)
  where
    begun : (before : List ℕ) → AreSomeBlanks before → (after : List ℕ) → written ≡ before ++ after
        → name_at (name ++ (written ++ (blanks ++ d ∷ more))) ≡ Some (name, written ++ (blanks ++ d ∷ more))
    begun [] some after e = absurd cc
    begun (b ∷ bs) some after e =
        let first : is_blank b ≡ true = (and_parts (is_blank b) (list_all is_blank bs) some).0 in
        rw e (name_again name b (bs ++ after ++ (blanks ++ d ∷ more)) named (grind (arith, nat_tests)))

pub tag_again : (d : ℕ) (end characters name : List ℕ) (attrs : List Attr) (item : Item) (rest : List ℕ) → IsTag (d ∷ end) characters name attrs
    → is_blank d ≡ false → is_name_character d ≡ false → is_name_start d ≡ false → tag_end_at name attrs (d ∷ (end ++ rest)) ≡ Some (item, rest)
    → (tail : List ℕ) × (characters ≡ 60 ∷ tail) × (tag_at (tail ++ rest) ≡ Some (item, rest))
unfolding tag_at attributes_at
tag_again d end characters name attrs item rest s not_blank not_name not_start ends =
    let more = s.blanks ++ d ∷ (end ++ rest) in
    let run = run_is attribute_at (shorter IsAttribute attribute_at attribute_reader)
    (Run-again IsAttribute attribute_at attribute_reader attrs s.written more s.attributes (no_attribute s.blanks d (end ++ rest) s.blank not_blank not_start)) in (
      name ++ s.written ++ s.blanks ++ d ∷ end,
      s.parts,
      ap tag_at (regrouped name s.written s.blanks (d ∷ end) rest)
          ∙ chain name s.written more (d ∷ (end ++ rest)) (name_before_attributes name s.written attrs s.blanks d (end ++ rest) s.named s.attributes s.blank not_name)
          run (test_from_distinct attrs s.distinct) (skip_again s.blanks d (end ++ rest) s.blank not_blank) ends,
    )
  where
    regrouped : (a b c e rest : List ℕ) → (a ++ b ++ c ++ e) ++ rest ≡ a ++ (b ++ (c ++ (e ++ rest)))
    regrouped a b c e rest = simp append_assoc

    chain : (name written more last : List ℕ) → name_at (name ++ (written ++ more)) ≡ Some (name, written ++ more) → run_at attribute_at (written ++ more) ≡ (attrs, more)
        → are_distinct attrs ≡ true → skip_blanks more ≡ last → tag_end_at name attrs last ≡ Some (item, rest)
        → tag_at (name ++ (written ++ more)) ≡ Some (item, rest)
    chain name written more last a b c d e = rw (a, b, c, d, e) refl

-- End tags.

pub end_tag_takes : (cs : List ℕ) (x : Item × List ℕ) → end_tag_at cs ≡ Some x → Behind (60 ∷ 47 ∷ []) cs x
unfolding end_tag_at
end_tag_takes cs x e =
    let n = then_some (name_at cs) (λ (name : List ℕ × List ℕ). past_character 62 (skip_blanks name.1) then λ rest. found (end_tag name.0) rest) x e in
    let t = then_some (past_character 62 (skip_blanks n.0.1)) (λ (rest : List ℕ). found (end_tag n.0.0) rest) x n.2 in
    let is : (end_tag n.0.0, t.0) ≡ x = (let h = t.2 in cc) in
    let p = name_takes cs n.0 n.1 in
    let s = skip_takes n.0.1 in
    rw (← is) (record {
      front = n.0.0 ++ s.0 ++ 62 ∷ [];
      spelled = record { blanks = s.0; named = p.0; blank = s.1; parts = ap (λ (r : List ℕ). 60 ∷ 47 ∷ r) refl };
      parts = p.1 ∙ ap (λ (r : List ℕ). n.0.0 ++ r) (s.2 ∙ ap (λ (r : List ℕ). s.0 ++ r) (past_takes 62 (skip_blanks n.0.1) t.0 t.1)) ∙ sym (simp append_assoc);
    })

pub end_tag_again : (characters name rest : List ℕ) → IsEndTag characters name
    → (tail : List ℕ) × (characters ≡ 60 ∷ 47 ∷ tail) × (end_tag_at (tail ++ rest) ≡ Some (end_tag name, rest))
unfolding end_tag_at
end_tag_again characters name rest s = (
  name ++ s.blanks ++ 62 ∷ [],
  s.parts,
  ap end_tag_at (regrouped name s.blanks (62 ∷ []) rest)
      ∙ rw (name_before name s.blanks 62 rest s.named s.blank refl, skip_again s.blanks 62 rest s.blank refl) refl,
)
  where
    regrouped : (a b e rest : List ℕ) → (a ++ b ++ e) ++ rest ≡ a ++ (b ++ (e ++ rest))
    regrouped a b e rest = simp append_assoc
