-- What stands at the front where a part of a selector begins, and where none does.
use Rattle.std.proofs.Common.{◌≡◌, ℕ, Bool, true, false, ◌||◌, ◌==◌, List, [], ◌∷◌, Option, Some, None, ◌⊎◌, inl, inr, refl, sym, ap, ◌∙◌, subst}
use Rattle.std.proofs.lemmas.Bool.{cases_Bool, eqb-true}
use Rattle.plain_types.specs.declared.selector.Compound.{Compound}
use Rattle.plain_types.specs.declared.selector.Simple.{Simple}
use Rattle.plain_types.specs.declared.selector_parts.Join.{Join}
use Rattle.plain_types.specs.declared.selector_parts.PseudoElement.{PseudoElement}
use Rattle.reading.specs.Reading.{◌then◌, ◌otherwise◌}
use Rattle.reading.proofs.Runs.{chosen, then_some}
use Rattle.css_tokens.specs.declared.token.Token.{Token}
use Rattle.css_tokens.specs.declared.token.TokenKind.{TokenKind}
use Rattle.css_tokens.specs.declared.token.TokenKind.TheVariants as kind
use Rattle.css_tokens.specs.TokenReading.{is_sign, is_whitespace, ident_of, held_at, ident_at, function_of, function_at, past_delimiter, past_close, skip_whitespace}
use Rattle.selectors.specs.Simples.{type_of, type_at, id_of, id_at, class_at, attribute_at}
use Rattle.selectors.specs.Compounds.{plain_class_at, class_function_at, pseudo_class_at, subclass_at}
use Rattle.selectors.specs.Selectors.{combinator_of, combinator_at, legacy_pseudo_element, modern_pseudo_element_at, legacy_pseudo_element_at, pseudo_element_at}
use Rattle.selectors.proofs.Words.{legacy_no_plain}

-- ---- the first token

sign_is : (c : ℕ) (k : TokenKind) → is_sign c k ≡ true → k ≡ kind.Sign c
sign_is c (kind.Sign x) e = let same : x ≡ c = eqb-true x c e in ap (λ (n : ℕ). kind.Sign n) same
sign_is c _ e = absurd cc

pub sign_head : (c : ℕ) (ts more : List Token) → past_delimiter c ts ≡ Some more → (t : Token) × (ts ≡ t ∷ more) × (t.kind ≡ kind.Sign c)
sign_head c [] more e = absurd cc
sign_head c (t ∷ us) more e = elim (chosen (is_sign c t.kind) (Some us) None (Some more) e) [
  | inl holds ↦ (let same : us ≡ more = let h = holds.1 in cc in (t, ap (λ (x : List Token). t ∷ x) same, sign_is c t.kind holds.0))
  | inr fails ↦ absurd (let h = fails.1 in cc)
]

abbrev some_read : {X : Type 0} → X × List Token → Option (X × List Token)
some_read x = Some x

read_is : {X : Type 0} (x y : X × List Token) → some_read x ≡ some_read y → x ≡ y
read_is x y e = cc

held_head : {X : Type 0} (held : TokenKind → Option X) (ts more : List Token) (x : X) → held_at held ts ≡ Some (x, more) → (t : Token) × (ts ≡ t ∷ more) × (held t.kind ≡ Some x)
held_head held [] more x e = absurd cc
held_head {X = X} held (t ∷ us) more x e = go (held t.kind) refl e
  where
    go : (o : Option X) → held t.kind ≡ o → (o then λ y. some_read (y, us)) ≡ some_read (x, more) → (s : Token) × (t ∷ us ≡ s ∷ more) × (held s.kind ≡ Some x)
    go None w h = absurd cc
    go (Some y) w h =
        let same = read_is (y, us) (x, more) h in
        let rest_is : us ≡ more = ap (λ (p : X × List Token). p.1) same in
        let held_is : y ≡ x = ap (λ (p : X × List Token). p.0) same in
        (t, ap (λ (z : List Token). t ∷ z) rest_is, w ∙ ap (λ (z : X). Some z) held_is)

-- whether a simple selector that is no type, or a pseudo-element, may begin with this token
abbrev pub begins_subclass : TokenKind → Bool
begins_subclass (kind.Hash true name) = true
begins_subclass (kind.Sign c) = c == 46 || (c == 91 || c == 58)
begins_subclass _ = false

or_parts : (a b : Bool) → (a || b) ≡ false → (a ≡ false) × (b ≡ false)
or_parts true b e = absurd cc
or_parts false b e = (refl, e)

begins_parts : (k : TokenKind) → begins_subclass k ≡ false → (id_of k ≡ None) × (is_sign 46 k ≡ false) × (is_sign 91 k ≡ false) × (is_sign 58 k ≡ false)
begins_parts (kind.Hash true name) e = absurd cc
begins_parts (kind.Hash false name) e = (refl, refl, refl, refl)
begins_parts (kind.Sign c) e = let p = or_parts (c == 46) (c == 91 || c == 58) e in let q = or_parts (c == 91) (c == 58) p.1 in (refl, p.0, q.0, q.1)
begins_parts _ e = (refl, refl, refl, refl)

-- where none of these begins
pub data Halts : List Token → Type 0 where
  at_end : Halts []
  at_token : (t : Token) (more : List Token) → begins_subclass t.kind ≡ false → Halts (t ∷ more)

pub halt_no_pseudo : {ts : List Token} → Halts ts → pseudo_element_at ts ≡ None
unfolding pseudo_element_at
halt_no_pseudo at_end = refl
halt_no_pseudo (at_token t more e) = let p = begins_parts t.kind e in rw p.3 refl

module _ (text : List ℕ) (choices : List Token → Option (List Compound × List Token)) where
  pub halt_no_subclass : {ts : List Token} → Halts ts → subclass_at text choices ts ≡ None
  unfolding subclass_at attribute_at pseudo_class_at
  halt_no_subclass at_end = refl
  halt_no_subclass (at_token t more e) = let p = begins_parts t.kind e in rw (p.0, p.1, p.2, p.3) refl

  -- at a colon only a pseudo-class may stand
  pub colon_alone : (ts after : List Token) → past_delimiter 58 ts ≡ Some after → subclass_at text choices ts ≡ (plain_class_at after otherwise (function_at after then λ name. class_function_at text choices name.0 name.1))
  unfolding subclass_at attribute_at pseudo_class_at
  colon_alone ts after e = let h = sign_head 58 ts after e in rw (h.1, h.2) refl

  -- no pseudo-element is a pseudo-class
  pub pseudo_no_subclass : (ts : List Token) (x : PseudoElement × List Token) → pseudo_element_at ts ≡ Some x → subclass_at text choices ts ≡ None
  unfolding pseudo_element_at
  pseudo_no_subclass ts x e =
      let colon = then_some (past_delimiter 58 ts) _ x e in
      colon_alone ts colon.0 colon.1 ∙ go colon.0 (past_delimiter 58 colon.0) refl colon.2
    where
      modern : (after next : List Token) → past_delimiter 58 after ≡ Some next → (plain_class_at after otherwise (function_at after then λ name. class_function_at text choices name.0 name.1)) ≡ None
      modern after next e = let h = sign_head 58 after next e in rw (h.1, h.2) refl

      legacy : (after : List Token) → legacy_pseudo_element_at after ≡ Some x → (plain_class_at after otherwise (function_at after then λ name. class_function_at text choices name.0 name.1)) ≡ None
      legacy after e =
          let name = then_some (ident_at after) _ x e in
          let pseudo = then_some (legacy_pseudo_element name.0.0) _ x name.2 in
          let head = held_head ident_of after name.0.1 name.0.0 name.1 in
          let no_class = legacy_no_plain name.0.0 pseudo.0 pseudo.1 in
          let no_function : function_at after ≡ None = rw head.1 (word_alone head.0 name.0.1 name.0.0 head.2) in
          rw (name.1, no_class, no_function) refl
        where
          word_alone : (t : Token) (more : List Token) (word : List ℕ) → ident_of t.kind ≡ Some word → function_at (t ∷ more) ≡ None
          word_alone t more word e = let no = no_function t.kind word e in rw no refl
            where
              no_function : (k : TokenKind) (word : List ℕ) → ident_of k ≡ Some word → function_of k ≡ None
              no_function (kind.Word w) word e = refl
              no_function _ word e = absurd cc

      go : (after : List Token) (o : Option (List Token)) → past_delimiter 58 after ≡ o → ((o then modern_pseudo_element_at) otherwise legacy_pseudo_element_at after) ≡ Some x
          → (plain_class_at after otherwise (function_at after then λ name. class_function_at text choices name.0 name.1)) ≡ None
      go after (Some next) w e = modern after next w
      go after None w e = legacy after e

-- a function's name is no name
pub function_no_plain : (after : List Token) (x : List ℕ × List Token) → function_at after ≡ Some x → plain_class_at after ≡ None
function_no_plain after x e = let head = held_head function_of after x.1 x.0 e in rw head.1 (let no = no_word head.0.kind x.0 head.2 in rw no refl)
  where
    no_word : (k : TokenKind) (name : List ℕ) → function_of k ≡ Some name → ident_of k ≡ None
    no_word (kind.Function f) name e = refl
    no_word _ name e = absurd cc

-- ---- whitespace

blank_is : (k : TokenKind) → is_whitespace k ≡ true → k ≡ kind.Blank
blank_is kind.Blank e = refl
blank_is _ e = absurd cc

pub blank_halts : (t : Token) (more : List Token) → is_whitespace t.kind ≡ true → Halts (t ∷ more)
blank_halts t more e = let is = blank_is t.kind e in at_token t more (rw is refl)

pub space_or : (ts : List Token) → (skip_whitespace ts ≡ ts) ⊎ Halts ts
space_or [] = inl refl
space_or (t ∷ more) = elim (cases_Bool (is_whitespace t.kind)) [
  | inl holds ↦ inr (blank_halts t more holds)
  | inr fails ↦ inl (rw fails refl)
]

-- what halts behind whitespace halts
pub spaced_halts : (ts : List Token) → Halts (skip_whitespace ts) → Halts ts
spaced_halts ts h = elim (space_or ts) [
  | inl same ↦ rw same at h
  | inr halts ↦ halts
]

pub comma_halts : (ts next : List Token) → past_delimiter 44 ts ≡ Some next → Halts ts
comma_halts ts next e = let h = sign_head 44 ts next e in rw h.1 (at_token h.0 next (let is = h.2 in rw is refl))

pub close_halts : (ts rest : List Token) → past_close 41 ts ≡ Some rest → Halts ts
close_halts [] rest e = at_end
close_halts (t ∷ more) rest e = elim (chosen (is_sign 41 t.kind) (Some more) None (Some rest) e) [
  | inl holds ↦ (let is = sign_is 41 t.kind holds.0 in at_token t more (rw is refl))
  | inr fails ↦ absurd (let h = fails.1 in cc)
]

pub close_no_comma : (t : Token) (more rest : List Token) → past_close 41 (t ∷ more) ≡ Some rest → past_delimiter 44 (t ∷ more) ≡ None
close_no_comma t more rest e = elim (chosen (is_sign 41 t.kind) (Some more) None (Some rest) e) [
  | inl holds ↦ (let is = sign_is 41 t.kind holds.0 in rw is refl)
  | inr fails ↦ absurd (let h = fails.1 in cc)
]

-- ---- types and combinators

join_halts : (k : TokenKind) (join : Join) → combinator_of k ≡ Some join → begins_subclass k ≡ false
join_halts (kind.Sign c) join e = elim (chosen (c == 62) _ _ _ e) [
  | inl is ↦ (let same : c ≡ 62 = eqb-true c 62 is.0 in rw same refl)
  | inr fails ↦ elim (chosen (c == 43) _ _ _ fails.1) [
    | inl is ↦ (let same : c ≡ 43 = eqb-true c 43 is.0 in rw same refl)
    | inr fails ↦ elim (chosen (c == 126) _ _ _ fails.1) [
      | inl is ↦ (let same : c ≡ 126 = eqb-true c 126 is.0 in rw same refl)
      | inr fails ↦ absurd (let h = fails.1 in cc)
    ]
  ]
]
join_halts _ join e = absurd cc

pub combinator_halts : (ts : List Token) (x : Join × List Token) → held_at combinator_of ts ≡ Some x → Halts ts
combinator_halts ts x e = let h = held_head combinator_of ts x.1 x.0 e in rw h.1 (at_token h.0 x.1 (join_halts h.0.kind x.0 h.2))

type_kind : (k : TokenKind) (type : Simple) → type_of k ≡ Some type → (combinator_of k ≡ None) × (is_sign 58 k ≡ false)
type_kind (kind.Word w) type e = (refl, refl)
type_kind (kind.Sign c) type e = elim (chosen (c == 42) _ _ _ e) [
  | inl is ↦ (let same : c ≡ 42 = eqb-true c 42 is.0 in rw same (refl, refl))
  | inr fails ↦ absurd (let h = fails.1 in cc)
]
type_kind _ type e = absurd cc

pub type_begins : (ts : List Token) (x : Simple × List Token) → type_at ts ≡ Some x → (held_at combinator_of ts ≡ None) × (pseudo_element_at ts ≡ None)
unfolding pseudo_element_at
type_begins ts x e =
    let h = held_head type_of ts x.1 x.0 e in
    let k = type_kind h.0.kind x.0 h.2 in
    (rw (h.1, k.0) refl, rw (h.1, k.1) refl)

id_kind : (k : TokenKind) (simple : Simple) → id_of k ≡ Some simple → (type_of k ≡ None) × (combinator_of k ≡ None)
id_kind (kind.Hash true name) simple e = (refl, refl)
id_kind _ simple e = absurd cc

pub id_begins : (ts : List Token) (x : Simple × List Token) → id_at ts ≡ Some x → (type_at ts ≡ None) × (held_at combinator_of ts ≡ None)
id_begins ts x e =
    let h = held_head id_of ts x.1 x.0 e in
    let k = id_kind h.0.kind x.0 h.2 in
    (rw (h.1, k.0) refl, rw (h.1, k.1) refl)

pub class_begins : (ts : List Token) (x : Simple × List Token) → class_at ts ≡ Some x → (type_at ts ≡ None) × (held_at combinator_of ts ≡ None) × (id_at ts ≡ None)
class_begins ts x e = let dot = then_some (past_delimiter 46 ts) _ x e in let h = sign_head 46 ts dot.0 dot.1 in (rw (h.1, h.2) refl, rw (h.1, h.2) refl, rw (h.1, h.2) refl)

pub attribute_begins : (ts : List Token) (x : Simple × List Token) → attribute_at ts ≡ Some x → (type_at ts ≡ None) × (held_at combinator_of ts ≡ None) × (id_at ts ≡ None) × (class_at ts ≡ None)
unfolding attribute_at
attribute_begins ts x e = let bracket = then_some (past_delimiter 91 ts) _ x e in let h = sign_head 91 ts bracket.0 bracket.1 in (rw (h.1, h.2) refl, rw (h.1, h.2) refl, rw (h.1, h.2) refl, rw (h.1, h.2) refl)

pub colon_begins : (ts after : List Token) → past_delimiter 58 ts ≡ Some after → (type_at ts ≡ None) × (held_at combinator_of ts ≡ None)
colon_begins ts after e = let h = sign_head 58 ts after e in (rw (h.1, h.2) refl, rw (h.1, h.2) refl)

pub pseudo_begins : (ts : List Token) (x : PseudoElement × List Token) → pseudo_element_at ts ≡ Some x → (type_at ts ≡ None) × (held_at combinator_of ts ≡ None)
unfolding pseudo_element_at
pseudo_begins ts x e = let colon = then_some (past_delimiter 58 ts) _ x e in colon_begins ts colon.0 colon.1

pub pseudo_no_combinator : (ts : List Token) (x : PseudoElement × List Token) → pseudo_element_at ts ≡ Some x → combinator_at ts ≡ None
unfolding pseudo_element_at
pseudo_no_combinator ts x e = let colon = then_some (past_delimiter 58 ts) _ x e in let h = sign_head 58 ts colon.0 colon.1 in subst (λ (us : List Token). combinator_at us ≡ None) (sym h.1) (here h.0 colon.0 h.2)
  where
    here : (t : Token) (more : List Token) → t.kind ≡ kind.Sign 58 → combinator_at (t ∷ more) ≡ None
    here t more is = rw is refl
