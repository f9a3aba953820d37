-- Drafts that grow.
use Rattle.std.proofs.Common.{◌≡◌, ◌<◌, ◌≤◌, ◌+◌, ◌-◌, ◌*◌, ◌/◌, ◌≢◌, ℕ, zero, suc, List, [], ◌∷◌, ◌++◌, Option, Some, None, Result, Ok, Err, OnErr, length, Bool, true, false, cond, refl, sym, ap, ◌∙◌, arith, append_assoc, length-append, append-nil, add-one, inl, inr}
use Rattle.std.specs.List.{repeat}
use Rattle.std.proofs.lemmas.Bool.{le-leb, lt-leb, cases_lt}
use Rattle.std.proofs.lemmas.Nat.{div-add-mod', mul-le, le-div}
use Rattle.css_definitions.specs.Representation.{limited}
use Rattle.representation.specs.Draft.{extended}

pub extended-nil : (draft : Option (List ℕ)) → extended draft [] ≡ draft
extended-nil None = refl
extended-nil (Some text) = refl

pub limited-over : (text : List ℕ) → 120 < length text → limited text ≡ None
limited-over text h = rw (lt-leb (length text) 120 h) refl

pub limited-within : (text : List ℕ) → length text ≤ 120 → limited text ≡ Some text
limited-within text h = rw (le-leb (length text) 120 h) refl

extended-over : (text piece : List ℕ) → length text ≤ 120 → 120 < length (text ++ piece) → extended (Some text) piece ≡ None
extended-over text [] h k = absurd (omega (arith, length-append text []))
extended-over text (c ∷ cs) h k = limited-over (text ++ c ∷ cs) k

extended-within : (text piece : List ℕ) → length (text ++ piece) ≤ 120 → extended (Some text) piece ≡ Some (text ++ piece)
extended-within text [] h = ap Some (sym (append-nil text))
extended-within text (c ∷ cs) h = limited-within (text ++ c ∷ cs) h

extended-limited : (text : List ℕ) (y : ℕ) (ys : List ℕ) → extended (limited text) (y ∷ ys) ≡ limited (text ++ y ∷ ys)
extended-limited text y ys = elim (cases_lt 120 (length text)) [
  | inl h ↦ rw (limited-over text h, limited-over (text ++ y ∷ ys) (omega (arith, length-append text (y ∷ ys)))) refl
  | inr h ↦ rw (limited-within text h) refl
]

pub extended-append : (draft : Option (List ℕ)) (xs ys : List ℕ) → extended (extended draft xs) ys ≡ extended draft (xs ++ ys)
extended-append None xs ys = refl
extended-append (Some text) [] ys = refl
extended-append (Some text) (x ∷ xs) [] = extended-nil (limited (text ++ x ∷ xs)) ∙ ap (λ zs. limited (text ++ x ∷ zs)) (sym (append-nil xs))
extended-append (Some text) (x ∷ xs) (y ∷ ys) = extended-limited (text ++ x ∷ xs) y ys ∙ ap limited (append_assoc text (x ∷ xs) (y ∷ ys))

-- from the empty draft on, a draft is a text with its limit
pub extended-empty : (piece : List ℕ) → extended (Some []) piece ≡ limited piece
extended-empty [] = refl
extended-empty (c ∷ cs) = refl

pub length-repeat : (times : ℕ) (piece : List ℕ) → length (repeat times piece) ≡ times * length piece
length-repeat zero piece = omega arith
length-repeat (suc times) piece = omega (arith, length-append piece (repeat times piece), length-repeat times piece)

pub repeat-nil : (times : ℕ) (piece : List ℕ) → length piece ≡ 0 → repeat times piece ≡ []
repeat-nil zero piece e = refl
repeat-nil (suc times) [] e = repeat-nil times [] e
repeat-nil (suc times) (c ∷ cs) e = absurd (omega arith)

pub repeat-one : (piece : List ℕ) → repeat 1 piece ≡ piece
repeat-one piece = append-nil piece

repeat-turned : (times : ℕ) (piece : List ℕ) → piece ++ repeat times piece ≡ repeat times piece ++ piece
repeat-turned zero piece = append-nil piece
repeat-turned (suc times) piece = ap (λ more. piece ++ more) (repeat-turned times piece) ∙ sym (append_assoc piece (repeat times piece) piece)

repeat-more : (times : ℕ) (piece : List ℕ) → repeat (times + 1) piece ≡ repeat times piece ++ piece
repeat-more times piece = ap (λ n. repeat n piece) (add-one times) ∙ repeat-turned times piece

pub extended-by_nothing : (draft : Option (List ℕ)) (times : ℕ) (piece : List ℕ) → repeat times piece ≡ [] → draft ≡ extended draft (repeat times piece)
extended-by_nothing draft times piece e = rw e (sym (extended-nil draft))

-- what a draft shows
abbrev view : Bool → List ℕ → Option (List ℕ)
view is_over text = cond is_over None (Some text)

open_view : (value : Option (List ℕ)) (is_over : Bool) (text : List ℕ) → view is_over text ≡ value → is_over ≡ false → value ≡ Some text
open_view value is_over text e f = sym e ∙ ap (λ b. view b text) f

too_many : (room times size : ℕ) → 0 < size → room / size < times → room < times * size
too_many room times size p h = elim (cases_lt room (times * size)) [
  | inl l ↦ l
  | inr l ↦ absurd (omega (arith, le-div times room size p l))
]

few_enough : (room times size : ℕ) → times ≤ room / size → times * size ≤ room
few_enough room times size h = omega (arith, div-add-mod' room size, mul-le times size (room / size) size h (omega arith))

pub was_over : (value : Option (List ℕ)) (is_over : Bool) (text piece : List ℕ) → view is_over text ≡ value → is_over ≡ true → value ≡ extended value piece
was_over value is_over text piece v e = let none : value ≡ None = sym v ∙ ap (λ b. view b text) e in rw none refl

pub goes_over : (value : Option (List ℕ)) (is_over : Bool) (text piece : List ℕ) (room size times : ℕ) → view is_over text ≡ value → is_over ≡ false → length text + room ≡ 120 → size ≡ length piece → size ≢ 0 → room / size < times → None ≡ extended value (repeat times piece)
goes_over value is_over text piece room size times v f fits e p h =
    let many : room < times * size = too_many room times size (omega arith) h in
    rw (open_view value is_over text v f) (sym (extended-over text (repeat times piece) (omega arith) (omega (arith, length-append text (repeat times piece), length-repeat times piece, ap (λ n. times * n) e))))

pub stays_within : (value : Option (List ℕ)) (is_over is_over' : Bool) (text text' piece : List ℕ) (room size times : ℕ) → view is_over text ≡ value → is_over ≡ false → is_over' ≡ false → length text + room ≡ 120 → size ≡ length piece → times ≤ room / size → text' ≡ text ++ repeat times piece → view is_over' text' ≡ extended value (repeat times piece)
stays_within value is_over is_over' text text' piece room size times v f f' fits e h grew =
    let few : times * size ≤ room = few_enough room times size h in
    rw (f', grew, open_view value is_over text v f) (sym (extended-within text (repeat times piece) (omega (arith, length-append text (repeat times piece), length-repeat times piece, ap (λ n. times * n) e))))

pub stops_short : {T E : Type 0} (r : Result T E) (value : Option (List ℕ)) (is_over is_over' : Bool) (text text' piece : List ℕ) (room size times done : ℕ) → view is_over text ≡ value → is_over ≡ false → is_over' ≡ false → length text + room ≡ 120 → size ≡ length piece → times ≤ room / size → done < times → text' ≡ text ++ repeat done piece → OnErr r ((done : ℕ) × (done < times) × view is_over' text' ≡ extended value (repeat done piece))
stops_short (Ok x) value is_over is_over' text text' piece room size times done v f f' fits e h d grew = tt
stops_short (Err x) value is_over is_over' text text' piece room size times done v f f' fits e h d grew =
    (done, d, stays_within value is_over is_over' text text' piece room size done v f f' fits e (omega arith) grew)

pub grows : (text before after piece : List ℕ) (done : ℕ) → before ≡ text ++ repeat done piece → after ≡ before ++ piece → after ≡ text ++ repeat (done + 1) piece
grows text before after piece done e f = rw (f, e, repeat-more done piece) (append_assoc text (repeat done piece) piece)

pub room_left : (text text' piece : List ℕ) (room room' size done : ℕ) → length text + room ≡ 120 → size ≡ length piece → text' ≡ text ++ repeat done piece → room' + done * size ≡ room → length text' + room' ≡ 120
room_left text text' piece room room' size done fits e grew left = omega (arith, ap length grew, length-append text (repeat done piece), length-repeat done piece, ap (λ n. done * n) e)

pub room_falls : (all left size done times : ℕ) → left + done * size ≡ all → times ≤ all / size → done < times → (left - size) + (done + 1) * size ≡ all
room_falls all left size done times e h d = omega (arith, few_enough all times size h, mul-le (done + 1) size times size (omega arith) (omega arith))
