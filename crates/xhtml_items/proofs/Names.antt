-- Names that were seen so far, as a set of their bytes.
use Rattle.std.proofs.Common.{◌≡◌, ℕ, ◌+◌, ◌<◌, Bool, true, false, not, ◌&&◌, ◌||◌, cond, Bor, BTreeSet, List, [], ◌∷◌, ◌++◌, length, take, drop, get_or, drop-cons, add-one, refl, sym, ap, ◌∙◌}
use Rattle.std.specs.BTreeSet.{contains, IsEmpty, Updates}
use Rattle.std.specs.Cmp.Lexicographic.{slice_cmp}
use Rattle.std.specs.declared.cmp.Ordering.{Ordering}
use Rattle.std.specs.List.{list_any}
use Rattle.std.specs.Ordering.{nat_cmp, is_eq}
use Rattle.std.specs.Str.{bytes_eq, encode_utf8_all}
use Rattle.std.proofs.lemmas.Bool.{and_parts}
use Rattle.std.proofs.lemmas.Bool.Decides.{same_from_decides}
use Rattle.std.proofs.lemmas.List.{take-append-drop, take_more}
use Rattle.std.proofs.lemmas.List.Folds.{list_any-append}
use Rattle.std.proofs.lemmas.Map.Text.{is_eq-slice_cmp}
use Rattle.std.proofs.lemmas.Slice.Eq.{bytes_eq-Decides}
use Rattle.std.proofs.lemmas.Str.{encodes_same}
use Rattle.plain_types.specs.declared.attr.Attr.{Attr}
use Rattle.xhtml_items.specs.Machinery.Items.{are_distinct}

-- the order of `&str`
abbrev pub str_cmp : Bor (List ℕ) → Bor (List ℕ) → Ordering
str_cmp x y = slice_cmp nat_cmp x.now y.now

flipped : (xs ys : List ℕ) → bytes_eq xs ys ≡ bytes_eq ys xs
flipped xs ys = same_from_decides (bytes_eq xs ys) (bytes_eq ys xs) (bytes_eq-Decides xs ys)
    ((λ e. sym ((bytes_eq-Decides ys xs).0 e)), (λ e. (bytes_eq-Decides ys xs).1 (sym e)))

encoded : (cs ds : List ℕ) → bytes_eq (encode_utf8_all cs) (encode_utf8_all ds) ≡ bytes_eq cs ds
encoded cs ds = same_from_decides (bytes_eq (encode_utf8_all cs) (encode_utf8_all ds)) (bytes_eq cs ds) (bytes_eq-Decides (encode_utf8_all cs) (encode_utf8_all ds))
    ((λ e. ap encode_utf8_all ((bytes_eq-Decides cs ds).0 e)), (λ e. (bytes_eq-Decides cs ds).1 (encodes_same cs ds e)))

neither : (a b : Bool) → (a || b) ≡ false → (a ≡ false) × (b ≡ false)
neither true b e = absurd cc
neither false b e = (refl, e)

negated : (b : Bool) → not b ≡ true → b ≡ false
negated true e = absurd cc
negated false e = refl

-- Distinct names, from the left.

distinct-push : (attrs : List Attr) (attr : Attr) → are_distinct attrs ≡ true → list_any (λ (other : Attr). bytes_eq attr.name other.name) attrs ≡ false
    → are_distinct (attrs ++ attr ∷ []) ≡ true
distinct-push [] attr h fresh = refl
distinct-push (first ∷ rest) attr h fresh =
    let p = and_parts (not (list_any (λ (other : Attr). bytes_eq first.name other.name) rest)) (are_distinct rest) h in
    let f = neither (bytes_eq attr.name first.name) (list_any (λ (other : Attr). bytes_eq attr.name other.name) rest) fresh in
    let unlike : bytes_eq first.name attr.name ≡ false = flipped first.name attr.name ∙ f.0 in
    let none : list_any (λ (other : Attr). bytes_eq first.name other.name) rest ≡ false = negated _ p.0 in
    let all : list_any (λ (other : Attr). bytes_eq first.name other.name) (rest ++ attr ∷ []) ≡ false =
    list_any-append (λ (other : Attr). bytes_eq first.name other.name) rest (attr ∷ []) ∙ rw (none, unlike) refl in
    rw (all, distinct-push rest attr p.1 f.1) refl

repeated : (attrs : List Attr) (attr : Attr) (after : List Attr) → list_any (λ (other : Attr). bytes_eq attr.name other.name) attrs ≡ true
    → are_distinct (attrs ++ attr ∷ after) ≡ false
repeated [] attr after h = absurd cc
repeated (first ∷ rest) attr after h = go (bytes_eq attr.name first.name) refl h (λ later. repeated rest attr after later)
  where
    both : (a b : Bool) → b ≡ false → (a && b) ≡ false
    both true b e = e
    both false b e = refl

    either : (a : Bool) → (a || true) ≡ true
    either true = refl
    either false = refl

    go : (b : Bool) → bytes_eq attr.name first.name ≡ b → (b || list_any (λ (other : Attr). bytes_eq attr.name other.name) rest) ≡ true
        → (list_any (λ (other : Attr). bytes_eq attr.name other.name) rest ≡ true → are_distinct (rest ++ attr ∷ after) ≡ false)
        → are_distinct ((first ∷ rest) ++ attr ∷ after) ≡ false
    go true e h earlier =
        let alike : bytes_eq first.name attr.name ≡ true = flipped first.name attr.name ∙ e in
        let some : list_any (λ (other : Attr). bytes_eq first.name other.name) (rest ++ attr ∷ after) ≡ true =
        list_any-append (λ (other : Attr). bytes_eq first.name other.name) rest (attr ∷ after) ∙ rw alike (either (list_any (λ (other : Attr). bytes_eq first.name other.name) rest)) in
        rw some refl
    go false e h earlier = both (not (list_any (λ (other : Attr). bytes_eq first.name other.name) (rest ++ attr ∷ after))) _ (earlier h)

-- The set of the names of some attributes.

pub record Seen (seen : BTreeSet (Bor (List ℕ))) (attrs : List Attr) : Type 0 where
  pub has : (q : Bor (List ℕ)) → contains str_cmp seen q ≡ list_any (λ (attr : Attr). bytes_eq q.now (encode_utf8_all attr.name)) attrs
  pub distinct : are_distinct attrs ≡ true

pub Seen-start : (seen : BTreeSet (Bor (List ℕ))) → IsEmpty seen → Seen seen []
Seen-start seen e = record { has = λ q. rw e refl; distinct = refl }

-- whether the set has a name, as its characters tell
among : (attrs : List Attr) (q name : List ℕ) → q ≡ encode_utf8_all name
    → list_any (λ (attr : Attr). bytes_eq q (encode_utf8_all attr.name)) attrs ≡ list_any (λ (attr : Attr). bytes_eq name attr.name) attrs
among [] q name e = refl
among (first ∷ rest) q name e =
    let same : bytes_eq q (encode_utf8_all first.name) ≡ bytes_eq name first.name = ap (λ (t : List ℕ). bytes_eq t (encode_utf8_all first.name)) e ∙ encoded name first.name in
    rw (same, among rest q name e) refl

pub Seen-more : (seen after : BTreeSet (Bor (List ℕ))) (attrs : List Attr) (attr : Attr) (key : Bor (List ℕ)) → Seen seen attrs → key.now ≡ encode_utf8_all attr.name
    → contains str_cmp seen key ≡ false → Updates str_cmp seen after key true → Seen after (attrs ++ attr ∷ [])
Seen-more seen after attrs attr key s e fresh u = record {
  has = λ q. u.0 q ∙ grown q ∙ sym (list_any-append (λ (other : Attr). bytes_eq q.now (encode_utf8_all other.name)) attrs (attr ∷ []));
  distinct = distinct-push attrs attr s.distinct (sym (among attrs key.now attr.name e) ∙ sym (s.has key) ∙ fresh);
} where
  alike : (q : Bor (List ℕ)) → is_eq (str_cmp key q) ≡ bytes_eq q.now (encode_utf8_all attr.name)
  alike q = is_eq-slice_cmp key.now q.now ∙ flipped key.now q.now ∙ ap (bytes_eq q.now) e

  swapped : (a b : Bool) → cond a true b ≡ (b || (a || false))
  swapped true true = refl
  swapped true false = refl
  swapped false true = refl
  swapped false false = refl

  grown : (q : Bor (List ℕ)) → cond (is_eq (str_cmp key q)) true (contains str_cmp seen q)
      ≡ (list_any (λ (other : Attr). bytes_eq q.now (encode_utf8_all other.name)) attrs || list_any (λ (other : Attr). bytes_eq q.now (encode_utf8_all other.name)) (attr ∷ []))
  grown q = swapped (is_eq (str_cmp key q)) (contains str_cmp seen q) ∙ rw (alike q, s.has q) refl

pub Seen-repeated : (seen : BTreeSet (Bor (List ℕ))) (attrs : List Attr) (attr : Attr) (after : List Attr) (key : Bor (List ℕ)) → Seen seen attrs → key.now ≡ encode_utf8_all attr.name
    → contains str_cmp seen key ≡ true → are_distinct (attrs ++ attr ∷ after) ≡ false
Seen-repeated seen attrs attr after key s e old = repeated attrs attr after (sym (among attrs key.now attr.name e) ∙ sym (s.has key) ∙ old)

-- a list around an item
pub around : (attrs : List Attr) (i : ℕ) (attr : Attr) → i < length attrs → attr ≡ get_or attrs i attr → attrs ≡ take i attrs ++ attr ∷ drop (i + 1) attrs
around attrs i attr lt e =
    sym (take-append-drop i attrs) ∙ ap (λ (t : List Attr). take i attrs ++ t) (drop-cons attrs i attr lt ∙ rw (← e, add-one) refl)

pub one_more : (attrs : List Attr) (i : ℕ) (attr : Attr) → i < length attrs → attr ≡ get_or attrs i attr → take (i + 1) attrs ≡ take i attrs ++ attr ∷ []
one_more attrs i attr lt e = take_more attrs i attr lt ∙ ap (λ (last : Attr). take i attrs ++ last ∷ []) (sym e)
