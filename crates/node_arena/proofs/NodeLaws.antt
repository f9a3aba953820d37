-- Attributes by name, and nodes as they are shown.
use Rattle.std.proofs.Common.{◌≡◌, ◌<◌, ◌+◌, ℕ, Bool, true, false, cond, nat_eq, List, [], ◌∷◌, ◌++◌, length, take, drop, get_or, find, Some, None, option_map, refl, sym, ap, ◌∙◌, chars, encode_utf8_all, take-append-drop, append_assoc, Decides}
use Rattle.std.specs.Cmp.Lexicographic.{pointwise}
use Rattle.std.specs.Str.{bytes_eq}
use Rattle.std.proofs.lemmas.Bool.Decides.{same_from_decides}
use Rattle.std.proofs.lemmas.List.{take_more}
use Rattle.std.proofs.lemmas.Slice.Eq.{bytes_eq-Decides}
use Rattle.plain_types.specs.declared.attr.Attr.{Attr}
use Rattle.plain_types.specs.Attributes.{is_named, value_of}

-- two texts have the same bytes where they have the same characters
pub same-test : (x y a b : List ℕ) → chars x ≡ a → x ≡ encode_utf8_all a → chars y ≡ b → y ≡ encode_utf8_all b → pointwise nat_eq x y ≡ pointwise nat_eq a b
same-test x y a b read_x written_x read_y written_y =
    let of_bytes : Decides (bytes_eq x y) (x ≡ y) = bytes_eq-Decides x y in
    let of_characters : Decides (bytes_eq a b) (a ≡ b) = bytes_eq-Decides a b in
    same_from_decides (bytes_eq x y) (bytes_eq a b) of_bytes (
      (λ e. written_x ∙ ap encode_utf8_all (of_characters.0 e) ∙ sym written_y),
      (λ e. of_characters.1 (sym read_x ∙ ap chars e ∙ read_y)),
    )

find-past : {X : Type 0} (test : X → Bool) (xs ys : List X) → find test xs ≡ None → find test (xs ++ ys) ≡ find test ys
find-past test [] ys none = refl
find-past test (x ∷ xs) ys none =
    elim (test x) as (λ b. cond b (Some x) (find test xs) ≡ None → cond b (Some x) (find test (xs ++ ys)) ≡ find test ys) [
      | true ↦ λ e. absurd (cc)
      | false ↦ λ e. find-past test xs ys e
    ] none

found-one : {X : Type 0} (test : X → Bool) (x : X) (b : Bool) (rest : List X) → test x ≡ b → find test (x ∷ rest) ≡ cond b (Some x) (find test rest)
found-one test x b rest is = rw is refl

-- none of the first passes, and this one does
pub find-at : {X : Type 0} (test : X → Bool) (xs : List X) (i : ℕ) (x : X) → i < length xs → x ≡ get_or xs i x → find test (take i xs) ≡ None → test x ≡ true → find test xs ≡ Some x
find-at test xs i x within is none passes =
    ap (find test) (sym (take-append-drop (i + 1) xs) ∙ ap (λ front. front ++ drop (i + 1) xs) (take_more xs i x within ∙ ap (λ y. take i xs ++ y ∷ []) (sym is)) ∙ append_assoc (take i xs) (x ∷ []) (drop (i + 1) xs))
    ∙ find-past test (take i xs) (x ∷ drop (i + 1) xs) none
    ∙ found-one test x true (drop (i + 1) xs) passes

-- nor does the next
pub find-more : {X : Type 0} (test : X → Bool) (xs : List X) (i : ℕ) (x : X) → i < length xs → x ≡ get_or xs i x → find test (take i xs) ≡ None → test x ≡ false → find test (take (i + 1) xs) ≡ None
find-more test xs i x within is none fails =
    ap (find test) (take_more xs i x within ∙ ap (λ y. take i xs ++ y ∷ []) (sym is))
    ∙ find-past test (take i xs) (x ∷ []) none
    ∙ found-one test x false [] fails

-- so the value that is wanted is its value
pub value-found : (name : List ℕ) (attrs : List Attr) (i : ℕ) (attr : Attr) → i < length attrs → attr ≡ get_or attrs i attr → find (is_named name) (take i attrs) ≡ None → is_named name attr ≡ true → value_of name attrs ≡ Some attr.value
value-found name attrs i attr within is none passes = ap (option_map (λ (one : Attr). one.value)) (find-at (is_named name) attrs i attr within is none passes)
