-- A chapter's name before a `#` names the chapter.
use Rattle.std.proofs.Common.{◌≡◌, ◌≢◌, ◌<◌, ◌∷◌, ◌++◌, ◌==◌, ℕ, zero, suc, true, List, [], Option, Some, ap, arith, bytes_eq, length, option_and_then, option_map, refl, sym, ◌∙◌, inl, inr}
use Rattle.std.proofs.lemmas.Bool.{cases_Bool, eqb-true}
use Rattle.std.proofs.lemmas.Option.{get_or_from_slice_get}
use Rattle.std.proofs.lemmas.Slice.Eq.{bytes_eq-Decides}
use Rattle.std.specs.List.{AllByRecursion, AllPairs, slice_get}
use Rattle.reading.specs.Punctuation.{number_sign}
use Rattle.book_definitions.specs.Aims.{Address, Aim, address, chapter_at, chapter_named}
use Rattle.book_definitions.specs.Chapters.{Chapter, IsChapterName}
use Rattle.book_definitions.specs.Laws.{NamesAimAtTheirChapters}

-- the address of a name and an id
pub address_of_name : (id name : List ℕ) → AllByRecursion (λ character. character ≢ number_sign) name → address (name ++ number_sign ∷ id) ≡ Some (record { name = name; id = id })
address_of_name id [] no_sign = refl
address_of_name id (first ∷ rest) no_sign = elim (cases_Bool (first == number_sign)) [
  | inl e ↦ absurd (no_sign.0 (eqb-true first number_sign e))
  | inr e ↦ rw e (ap (λ behind. option_map {U = Address} (λ (behind : Address). record { name = first ∷ behind.name; id = behind.id }) behind) (address_of_name id rest no_sign.1))
]

below : {X : Type 0} (xs : List X) (place : ℕ) (x : X) → slice_get xs place ≡ Some x → place < length xs
below [] place x e = absurd (cc)
below (y ∷ ys) zero x e = omega arith
below (y ∷ ys) (suc place) x e = let rest = below ys place x e in omega (arith, rest)

at_place : (holds : Chapter → Type 0) (chapters : List Chapter) (place : ℕ) (chapter : Chapter) → slice_get chapters place ≡ Some chapter → AllByRecursion holds chapters → holds chapter
at_place holds [] place chapter e all = absurd (cc)
at_place holds (first ∷ rest) zero chapter e all = let same : first ≡ chapter = cc in rw same at all.0
at_place holds (first ∷ rest) (suc place) chapter e all = at_place holds rest place chapter e all.1

named : (chapters : List Chapter) (place : ℕ) (chapter : Chapter) → AllPairs (λ (first second : Chapter). first.name ≢ second.name) chapters → slice_get chapters place ≡ Some chapter
    → chapter_named chapters chapter.name ≡ Some chapter
named [] place chapter apart e = absurd (cc)
named (first ∷ rest) zero chapter apart e =
    let same : first ≡ chapter = cc in
    let test : bytes_eq chapter.name first.name ≡ true = (let decides = bytes_eq-Decides chapter.name first.name in decides.1 (ap (λ (c : Chapter). c.name) (sym same))) in
    rw test (ap Some same)
named (first ∷ rest) (suc place) chapter apart e = elim (cases_Bool (bytes_eq chapter.name first.name)) [
  | inl t ↦
      let same : chapter.name ≡ first.name = (let decides = bytes_eq-Decides chapter.name first.name in decides.0 t) in
      let inside : place < length rest = below rest place chapter e in
      let differ = apart 0 (suc place) chapter (omega arith) (omega (arith, inside)) in
      absurd (differ (sym same ∙ ap (λ (c : Chapter). c.name) (sym (get_or_from_slice_get rest place chapter chapter e))))
  | inr t ↦ rw t (named rest place chapter (λ i j d less inside. apart (suc i) (suc j) d (omega (arith, less)) (omega (arith, inside))) e)
]

at_name : (volume : List Chapter) (own : Chapter) (name : List ℕ) → name ≢ [] → chapter_at volume own name ≡ chapter_named volume name
at_name volume own [] some = absurd (some refl)
at_name volume own (first ∷ rest) some = refl

abbrev into : List Chapter → Chapter → Option Address → Option Aim
into volume own found = option_and_then {U = Aim} (λ (found : Address). option_map {U = Aim} (λ (chapter : Chapter). record { chapter = chapter; id = found.id }) (chapter_at volume own found.name)) found

pub names_aim : NamesAimAtTheirChapters
names_aim volume own place chapter id sound e =
    let name : IsChapterName chapter.name = at_place (λ (chapter : Chapter). IsChapterName chapter.name) volume place chapter e sound.names in
    ap (into volume own) (address_of_name id chapter.name name.has_no_sign)
    ∙ ap (option_map {U = Aim} (λ (chapter : Chapter). record { chapter = chapter; id = id })) (at_name volume own chapter.name name.is_not_empty ∙ named volume place chapter sound.distinct e)
