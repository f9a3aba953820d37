-- The first item that reading gives is spelled there, and an item that is spelled there is given.
use Rattle.std.specs.Prelude.{IfOk, MatchOption, Result, Ok, Err}
use Rattle.std.specs.Borrow.{Bor}
use Rattle.std.specs.Str.{chars}
use Rattle.std.proofs.Common.{◌≡◌, ℕ, ◌<◌, Bool, true, false, cond, eqb, List, [], ◌∷◌, ◌++◌, length, Option, Some, None, ◌⊎◌, inl, inr, refl, sym, ap, ◌∙◌, append_assoc, codes, map, arith}
use Rattle.std.specs.Char.{to_ascii_uppercase}
use Rattle.std.proofs.lemmas.Bool.{eqb-true}
use Rattle.std.proofs.lemmas.Bool.Decides.{nat_tests}
use Rattle.std.proofs.lemmas.List.{append-nil, length-append}
use Rattle.plain_types.specs.Tree.{HasDistinctNames}
use Rattle.plain_types.specs.declared.attr.Attr.{Attr}
use Rattle.reading.specs.Reading.{Reads, ◌then◌, past_text}
use Rattle.reading.proofs.Runs.{chosen, then_some}
use Rattle.xml_definitions.specs.Characters.{is_plain, is_name_start}
use Rattle.xml_definitions.specs.Items.{Item, doctype, comment, instruction, start_tag, empty_tag, end_tag, reference, section, plain_character}
use Rattle.xml_definitions.specs.Spelling.{IsName, IsTag, IsComment, comment_text, IsSection, section_text, IsDoctype, IsInstruction, Spells}
use Rattle.xhtml_items.specs.FirstItem.{BeginsWith, BeginsWithNone}
use Rattle.xhtml_items.specs.Tokens.{item_of, token_view}
use Rattle.xhtml_items.specs.declared.token.Token.{Token}
use Rattle.xhtml_items.specs.Machinery.Items.{up_to, reference_at, found, tag_end_at, tag_at, doctype_at, declaration_at, markup_at, item_at}
use Rattle.xhtml_items.proofs.StepLaws.{either_cases, past_text_takes, up_to_takes, up_to_again, name_first}
use Rattle.xhtml_items.proofs.ReferenceLaws.{reference_takes, reference_again}
use Rattle.xhtml_items.proofs.TagLaws.{Behind, tag_takes, tag_again, end_tag_takes, end_tag_again}
use Rattle.xhtml_items.proofs.MarkupLaws.{instruction_takes, instruction_again, doctype_takes, doctype_again}

as_doctype : (characters : List ℕ) (item : Item) → item ≡ doctype → IsDoctype characters → Spells characters item
as_doctype characters item e s = rw e s

as_instruction : (characters : List ℕ) (item : Item) → item ≡ instruction → IsInstruction characters → Spells characters item
as_instruction characters item e s = rw e s

declaration_takes : (cs : List ℕ) (x : Item × List ℕ) → declaration_at cs ≡ Some x → Behind (60 ∷ 33 ∷ []) cs x
unfolding declaration_at
declaration_takes cs x e = elim (either_cases (past_text (codes "--") cs) (λ (rest : List ℕ). up_to (codes "-->") rest then λ text. found comment text.1) _ _ e) [
  | inl w ↦ (
      let t = then_some (up_to (codes "-->") w.0) (λ (text : List ℕ × List ℕ). found comment text.1) x w.2 in
      let u = up_to_takes (codes "-->") w.0 t.0 t.1 in
      let is : (comment, t.0.1) ≡ x = (let h = t.2 in cc) in
      rw (← is) (record {
        front = codes "--" ++ t.0.0 ++ codes "-->";
        spelled = comment_text u.0;
        parts = past_text_takes (codes "--") cs w.0 w.1 ∙ ap (λ (r : List ℕ). codes "--" ++ r) (u.1 ∙ sym (append_assoc t.0.0 (codes "-->") t.0.1));
      }))
  | inr w ↦ elim (either_cases (past_text (codes "[CDATA[") cs) (λ (rest : List ℕ). up_to (codes "]]>") rest then λ text. found (section text.0) text.1) _ _ w.1) [
    | inl v ↦ (
        let t = then_some (up_to (codes "]]>") v.0) (λ (text : List ℕ × List ℕ). found (section text.0) text.1) x v.2 in
        let u = up_to_takes (codes "]]>") v.0 t.0 t.1 in
        let is : (section t.0.0, t.0.1) ≡ x = (let h = t.2 in cc) in
        rw (← is) (record {
          front = codes "[CDATA[" ++ t.0.0 ++ codes "]]>";
          spelled = section_text u.0;
          parts = past_text_takes (codes "[CDATA[") cs v.0 v.1 ∙ ap (λ (r : List ℕ). codes "[CDATA[" ++ r) (u.1 ∙ sym (append_assoc t.0.0 (codes "]]>") t.0.1));
        }))
    | inr v ↦ (let t = doctype_takes cs x v.1 in record { front = t.0; spelled = as_doctype _ x.0 t.1 t.2; parts = t.3 })
  ]
]

markup_takes : (cs : List ℕ) (x : Item × List ℕ) → markup_at cs ≡ Some x → Behind (60 ∷ []) cs x
unfolding markup_at
markup_takes [] x e = absurd cc
markup_takes (c ∷ cs) x e = elim (chosen (eqb c 33) _ _ _ e) [
  | inl w ↦ behind 33 (eqb-true c 33 w.0) (declaration_takes cs x w.1)
  | inr w ↦ elim (chosen (eqb c 63) _ _ _ w.1) [
    | inl v ↦ (let t = instruction_takes cs x v.1 in behind 63 (eqb-true c 63 v.0) (record { front = t.0; spelled = as_instruction _ x.0 t.1 t.2; parts = t.3 }))
    | inr v ↦ elim (chosen (eqb c 47) _ _ _ v.1) [
      | inl u ↦ behind 47 (eqb-true c 47 u.0) (end_tag_takes cs x u.1)
      | inr u ↦ tag_takes (c ∷ cs) x u.1
    ]
  ]
] where
  behind : (d : ℕ) → c ≡ d → Behind (60 ∷ d ∷ []) cs x → Behind (60 ∷ []) (c ∷ cs) x
  behind d same b = rw same (record { front = d ∷ b.front; spelled = b.spelled; parts = ap (λ (r : List ℕ). d ∷ r) b.parts })

-- What reading gives is spelled at the front.
pub item_takes : (cs : List ℕ) (x : Item × List ℕ) → item_at cs ≡ Some x → (front : List ℕ) × Spells front x.0 × (cs ≡ front ++ x.1)
unfolding item_at
item_takes [] x e = absurd cc
item_takes (c ∷ cs) x e = elim (chosen (eqb c 60) _ _ _ e) [
  | inl w ↦ (
      let b = markup_takes cs x w.1 in
      let same : c ≡ 60 = eqb-true c 60 w.0 in
      rw same (60 ∷ b.front, b.spelled, ap (λ (r : List ℕ). 60 ∷ r) b.parts))
  | inr w ↦ elim (chosen (eqb c 38) _ _ _ w.1) [
    | inl v ↦ (
        let t = then_some (reference_at cs) (λ (referred : ℕ × List ℕ). found (reference referred.0) referred.1) x v.1 in
        let is : (reference t.0.0, t.0.1) ≡ x = (let h = t.2 in cc) in
        let same : c ≡ 38 = eqb-true c 38 v.0 in
        let r = reference_takes cs t.0 t.1 in
        rw (← is, same) (38 ∷ r.0, r.1, ap (λ (u : List ℕ). 38 ∷ u) r.2))
    | inr v ↦ elim (chosen (is_plain c) _ _ _ v.1) [
      | inl u ↦ (let is : (plain_character c, cs) ≡ x = (let h = u.1 in cc) in rw (← is) (c ∷ [], (u.0, refl), refl))
      | inr u ↦ absurd (let h = u.1 in cc)
    ]
  ]
]

-- the word of a doctype begins neither a comment nor a section
no_word : (first : ℕ) (word front more : List ℕ) → map to_ascii_uppercase front ≡ codes "DOCTYPE" → eqb (to_ascii_uppercase first) 68 ≡ false
    → past_text (first ∷ word) (front ++ more) ≡ None
no_word first word [] more e unlike = absurd cc
no_word first word (c ∷ front) more e unlike =
    let capital : to_ascii_uppercase c ≡ 68 = cc in
    none (eqb c first) refl capital
  where
    none : (b : Bool) → eqb c first ≡ b → to_ascii_uppercase c ≡ 68 → past_text (first ∷ word) ((c ∷ front) ++ more) ≡ None
    none true p capital = (let same : c ≡ first = eqb-true c first p in let alike : to_ascii_uppercase first ≡ 68 = ap to_ascii_uppercase (sym same) ∙ capital in absurd (let h = rw alike at unlike in cc))
    none false p capital = rw p refl

doctype_behind : (characters rest : List ℕ) → IsDoctype characters → (tail : List ℕ) × (characters ≡ 60 ∷ 33 ∷ tail) × (declaration_at (tail ++ rest) ≡ Some (doctype, rest))
unfolding declaration_at
doctype_behind characters rest s =
    let t = doctype_again characters rest s in
    let more = s.before ++ s.name ++ s.identifier ++ s.after ++ 62 ∷ [] in
    let same : t.0 ++ rest ≡ s.word ++ (more ++ rest) = ap (λ (u : List ℕ). u ++ rest) (tail_of t.0 (s.word ++ s.before ++ s.name ++ s.identifier ++ s.after ++ 62 ∷ []) (sym t.1 ∙ s.parts)) ∙ simp append_assoc in (
      t.0,
      t.1,
      neither (t.0 ++ rest) (ap (λ (u : List ℕ). past_text (codes "--") u) same ∙ no_word 45 (45 ∷ []) s.word (more ++ rest) s.spelled refl)
          (ap (λ (u : List ℕ). past_text (codes "[CDATA[") u) same ∙ no_word 91 (codes "CDATA[") s.word (more ++ rest) s.spelled refl) ∙ t.2,
    )
  where
    tail_of : (a b : List ℕ) → 60 ∷ 33 ∷ a ≡ 60 ∷ 33 ∷ b → a ≡ b
    tail_of a b e = cc

    neither : (cs : List ℕ) → past_text (codes "--") cs ≡ None → past_text (codes "[CDATA[") cs ≡ None → declaration_at cs ≡ doctype_at cs
    neither cs p q = rw (p, q) refl

name_not_mark : (c : ℕ) → is_name_start c ≡ true → (eqb c 33 ≡ false) × (eqb c 63 ≡ false) × (eqb c 47 ≡ false)
name_not_mark c h = (grind (arith, nat_tests), grind (arith, nat_tests), grind (arith, nat_tests))

-- a tag is what stands behind `<` where a name does
tag_there : (end characters name : List ℕ) (attrs : List Attr) (rest tail : List ℕ) → IsTag end characters name attrs → characters ≡ 60 ∷ tail → markup_at (tail ++ rest) ≡ tag_at (tail ++ rest)
unfolding markup_at
tag_there end characters name attrs rest tail s e =
    let n = name_first name s.named in
    let whole : tail ≡ n.0 ∷ (n.1 ++ s.written ++ s.blanks ++ end) = tail_of tail _ (sym e ∙ s.parts ∙ ap (λ (u : List ℕ). 60 ∷ u ++ s.written ++ s.blanks ++ end) n.2) in
    rw whole (fourth n.0 (n.1 ++ s.written ++ s.blanks ++ end ++ rest) (name_not_mark n.0 n.3))
  where
    tail_of : (a b : List ℕ) → 60 ∷ a ≡ 60 ∷ b → a ≡ b
    tail_of a b e = cc

    fourth : (c : ℕ) (cs : List ℕ) → (eqb c 33 ≡ false) × (eqb c 63 ≡ false) × (eqb c 47 ≡ false) → markup_at (c ∷ cs) ≡ tag_at (c ∷ cs)
    fourth c cs h = rw (h.0, h.1, h.2) refl

plain_is : (c : ℕ) → is_plain c ≡ true → (eqb c 60 ≡ false) × (eqb c 38 ≡ false)
plain_is c h = (grind (arith, nat_tests), grind (arith, nat_tests))

comment_again : {characters : List ℕ} → IsComment characters → (rest : List ℕ) → item_at (characters ++ rest) ≡ Some (comment, rest)
unfolding item_at markup_at declaration_at
comment_again (comment_text {inside} up) rest = rw (append_assoc inside (codes "-->") rest, up_to_again (codes "-->") inside rest (omega arith) up) refl

section_again : {characters inside : List ℕ} → IsSection characters inside → (rest : List ℕ) → item_at (characters ++ rest) ≡ Some (section inside, rest)
unfolding item_at markup_at declaration_at
section_again (section_text {inside} up) rest = rw (append_assoc inside (codes "]]>") rest, up_to_again (codes "]]>") inside rest (omega arith) up) refl

third : {A : Type 0} (a b c : Bool) (x y z w : A) → a ≡ false → b ≡ false → c ≡ true → cond a x (cond b y (cond c z w)) ≡ z
third a b c x y z w p q r = rw (p, q, r) refl

-- What is spelled at the front is given.
pub item_again : (item : Item) (front rest : List ℕ) → Spells front item → item_at (front ++ rest) ≡ Some (item, rest)
unfolding item_at markup_at declaration_at tag_end_at
item_again doctype front rest s = let t = doctype_behind front rest s in ap (λ (u : List ℕ). item_at (u ++ rest)) t.1 ∙ t.2
item_again comment front rest s = comment_again s rest
item_again instruction front rest s = let t = instruction_again s rest in ap (λ (u : List ℕ). item_at (u ++ rest)) t.1 ∙ t.2
item_again (start_tag name attrs) front rest s =
    let t = tag_again 62 [] front name attrs (start_tag name attrs) rest s refl refl refl refl in
    ap (λ (u : List ℕ). item_at (u ++ rest)) t.1 ∙ tag_there (62 ∷ []) front name attrs rest t.0 s t.1 ∙ t.2
item_again (empty_tag name attrs) front rest s =
    let t = tag_again 47 (62 ∷ []) front name attrs (empty_tag name attrs) rest s refl refl refl refl in
    ap (λ (u : List ℕ). item_at (u ++ rest)) t.1 ∙ tag_there (47 ∷ 62 ∷ []) front name attrs rest t.0 s t.1 ∙ t.2
item_again (end_tag name) front rest s = let t = end_tag_again front name rest s in ap (λ (u : List ℕ). item_at (u ++ rest)) t.1 ∙ t.2
item_again (reference character) front rest s =
    let r = reference_again s rest in
    ap (λ (u : List ℕ). item_at (u ++ rest)) r.parts ∙ rw r.again refl
item_again (section inside) front rest s = section_again s rest
item_again (plain_character character) front rest s =
    let p = plain_is character s.0 in
    ap (λ (u : List ℕ). item_at (u ++ rest)) s.1 ∙ third (eqb character 60) (eqb character 38) (is_plain character) _ _ _ _ p.0 p.1 s.0

abbrev some_item : Item × List ℕ → Option (Item × List ℕ)
some_item x = Some x

pub begins_again : (text : List ℕ) (item : Item) (rest : List ℕ) → BeginsWith text item rest → item_at text ≡ some_item (item, rest)
begins_again text item rest begins = ap item_at begins.parts ∙ item_again item begins.front rest begins.spelled

pub item_begins : (text : List ℕ) (item : Item) (rest : List ℕ) → item_at text ≡ some_item (item, rest) → BeginsWith text item rest
item_begins text item rest e = let t = item_takes text (item, rest) e in record { front = t.0; spelled = t.1; parts = t.2 }

pub none_begins : (text : List ℕ) → item_at text ≡ None → BeginsWithNone text
none_begins text none item rest begins = let e = sym none ∙ begins_again text item rest begins in cc

-- A text begins with an item, or with none.
pub begins_or_not : (text : List ℕ) → BeginsWithNone text ⊎ ((item : Item) × (rest : List ℕ) × BeginsWith text item rest)
begins_or_not text = told (item_at text) refl
  where
    told : (o : Option (Item × List ℕ)) → item_at text ≡ o → BeginsWithNone text ⊎ ((item : Item) × (rest : List ℕ) × BeginsWith text item rest)
    told None e = inl (none_begins text e)
    told (Some x) e = inr (x.0, x.1, item_begins text x.0 x.1 e)

-- What was read, if anything was, is the item that is spelled at the front.
pub item_found : {E : Type 0} (text : List ℕ) (read : Result (Option (Token × Bor (List ℕ))) E) → IfOk read (λ found. Reads token_view found (item_at text))
    → IfOk read (λ found. MatchOption found (BeginsWithNone text) (λ x. BeginsWith text (item_of x.0) (chars x.1.now)))
item_found text (Err fault) reads = tt
item_found text (Ok None) reads = none_begins text reads
item_found text (Ok (Some x)) reads = item_begins text (item_of x.0) (chars x.1.now) reads

pub one_first : (text : List ℕ) (item other : Item) (rest after : List ℕ) → BeginsWith text item rest → BeginsWith text other after → (item ≡ other) × (rest ≡ after)
one_first text item other rest after is too =
    let same : some_item (item, rest) ≡ some_item (other, after) = sym (begins_again text item rest is) ∙ begins_again text other after too in
    let pairs : ◌≡◌ {A = Item × List ℕ} (item, rest) (other, after) = cc in
    (ap (λ (x : Item × List ℕ). x.0) pairs, ap (λ (x : Item × List ℕ). x.1) pairs)

-- No item begins another one.
pub same_first : (one other : Item) (front rest others more : List ℕ) → Spells front one → Spells others other → front ++ rest ≡ others ++ more → (one ≡ other) × (rest ≡ more)
same_first one other front rest others more s t e =
    one_first (front ++ rest) one other rest more (record { front = front; spelled = s; parts = refl }) (record { front = others; spelled = t; parts = e })

-- Each item has a character, so what is left behind it is shorter.

pub item_filled : (item : Item) (front : List ℕ) → Spells front item → 0 < length front
unfolding item_at
item_filled item [] s = let none : item_at ([] ++ []) ≡ some_item (item, []) = item_again item [] [] s in absurd (let h : ◌≡◌ {A = Option (Item × List ℕ)} None (some_item (item, [])) = none in cc)
item_filled item (c ∷ cs) s = omega arith

pub begins_shorter : (text : List ℕ) (item : Item) (rest : List ℕ) → BeginsWith text item rest → length rest < length text
begins_shorter text item rest begins = omega (arith, item_filled item begins.front begins.spelled, ap length begins.parts, length-append begins.front rest)

-- What can be said of tags, and how they can be spelled.

pub start_tag_named : (front name : List ℕ) (attrs : List Attr) → Spells front (start_tag name attrs) → IsName name
start_tag_named front name attrs s = s.named

pub start_tag_distinct : (front name : List ℕ) (attrs : List Attr) → Spells front (start_tag name attrs) → HasDistinctNames attrs
start_tag_distinct front name attrs s = s.distinct

pub empty_tag_distinct : (front name : List ℕ) (attrs : List Attr) → Spells front (empty_tag name attrs) → HasDistinctNames attrs
empty_tag_distinct front name attrs s = s.distinct

pub end_tag_spelled : (name : List ℕ) → IsName name → Spells (60 ∷ 47 ∷ (name ++ 62 ∷ [])) (end_tag name)
end_tag_spelled name named = record { blanks = []; named = named; blank = refl; parts = ap (λ (u : List ℕ). 60 ∷ 47 ∷ u) (ap (λ (u : List ℕ). u ++ 62 ∷ []) (sym (append-nil name))) }

pub empty_tag_spelled : (name : List ℕ) → IsName name → Spells (60 ∷ (name ++ 47 ∷ 62 ∷ [])) (empty_tag name [])
empty_tag_spelled name named = record {
  written = [];
  blanks = [];
  named = named;
  attributes = refl;
  distinct = λ i j d before within. absurd (omega arith);
  blank = refl;
  parts = ap (λ (u : List ℕ). 60 ∷ (u ++ 47 ∷ 62 ∷ [])) (sym (append-nil (name ++ []) ∙ append-nil name));
}
