-- What holds of each item of a list.
use Rattle.std.proofs.Common.{◌≡◌, ◌+◌, ◌<◌, ◌++◌, ◌∷◌, ◌||◌, ℕ, zero, suc, List, [], Bool, true, false, cond, Some, take, drop, length, get_or, refl, sym, subst, ap, ◌∙◌, add-one}
use Rattle.std.proofs.Math.Seq.{drop-cons}
use Rattle.std.specs.Prelude.{slice_get}
use Rattle.std.specs.List.{AllByRecursion, fold, list_any}

module _ {A : Type 0} (P : A → Type 0) where
  pub each_append : (xs ys : List A) → AllByRecursion P xs → AllByRecursion P ys → AllByRecursion P (xs ++ ys)
  each_append [] ys h k = k
  each_append (x ∷ xs) ys h k = (h.0, each_append xs ys h.1 k)

  pub each_take : (n : ℕ) (xs : List A) → AllByRecursion P xs → AllByRecursion P (take n xs)
  each_take zero xs h = tt
  each_take (suc n) [] h = tt
  each_take (suc n) (x ∷ xs) h = (h.0, each_take n xs h.1)

  pub each_drop : (n : ℕ) (xs : List A) → AllByRecursion P xs → AllByRecursion P (drop n xs)
  each_drop zero xs h = h
  each_drop (suc n) [] h = tt
  each_drop (suc n) (x ∷ xs) h = each_drop n xs h.1

  pub each_get : (xs : List A) (n : ℕ) (x : A) → slice_get xs n ≡ Some x → AllByRecursion P xs → P x
  each_get [] n x e h = absurd (cc)
  each_get (y ∷ ys) zero x e h = let same : y ≡ x = cc in subst P same h.0
  each_get (y ∷ ys) (suc n) x e h = each_get ys n x e h.1

  pub either : (b : Bool) (x y : A) → P x → P y → P (cond b x y)
  either true x y h k = h
  either false x y h k = k

pub each_imp : {A : Type 0} (P Q : A → Type 0) → ((x : A) → P x → Q x) → (xs : List A) → AllByRecursion P xs → AllByRecursion Q xs
each_imp P Q i [] h = tt
each_imp P Q i (x ∷ xs) h = (i x h.0, each_imp P Q i xs h.1)

pub each_both : {A : Type 0} (P Q : A → Type 0) (xs : List A) → AllByRecursion P xs → AllByRecursion Q xs → AllByRecursion (λ x. P x × Q x) xs
each_both P Q [] h k = tt
each_both P Q (x ∷ xs) h k = ((h.0, k.0), each_both P Q xs h.1 k.1)

-- Steps one after the other.

pub fold_keeps : {A B : Type 0} (Good : B → Type 0) (f : B → A → B) → ((before : B) (item : A) → Good before → Good (f before item)) → (items : List A) (first : B) → Good first → Good (fold f first items)
fold_keeps Good f keeps [] first h = h
fold_keeps Good f keeps (item ∷ items) first h = fold_keeps Good f keeps items (f first item) (keeps first item h)

-- two kinds of steps that do the same to what is good, and keep it so
pub fold_same : {A B : Type 0} (Good : B → Type 0) (f g : B → A → B) → ((set : B) (item : A) → Good set → f set item ≡ g set item) → ((set : B) (item : A) → Good set → Good (g set item)) → (items : List A) (set : B) → Good set → (fold f set items ≡ fold g set items) × Good (fold g set items)
fold_same Good f g same keeps [] set h = (refl, h)
fold_same Good f g same keeps (item ∷ items) set h =
    let rest = fold_same Good f g same keeps items (g set item) (keeps set item h) in
    (ap (λ before. fold f before items) (same set item h) ∙ rest.0, rest.1)

-- one step of a loop over a list
pub fold_step : {A B : Type 0} (f : B → A → B) (items : List A) (at : ℕ) (item : A) (before after end : B) → at < length items → item ≡ get_or items at item → after ≡ f before item → fold f before (drop at items) ≡ end → fold f after (drop (at + 1) items) ≡ end
fold_step f items at item before after end below read done rest =
    let next : drop at items ≡ item ∷ drop (suc at) items = drop-cons items at item below ∙ ap (λ first. first ∷ drop (suc at) items) (sym read) in
    rw add-one (ap (λ now. fold f now (drop (suc at) items)) done ∙ sym (ap (fold f before) next) ∙ rest)

-- Tests.

pub or_parts : (a b : Bool) → (a || b) ≡ false → (a ≡ false) × (b ≡ false)
or_parts true b h = absurd (cc)
or_parts false b h = (refl, h)

pub or_none : (a b : Bool) → a ≡ false → b ≡ false → (a || b) ≡ false
or_none a b h k = rw (h, k) refl

pub any_front : {A : Type 0} (test : A → Bool) (xs ys : List A) → list_any test (xs ++ ys) ≡ false → list_any test xs ≡ false
any_front test [] ys h = refl
any_front test (x ∷ xs) ys h = let parts = or_parts (test x) (list_any test (xs ++ ys)) h in or_none (test x) (list_any test xs) parts.0 (any_front test xs ys parts.1)

pub any_back : {A : Type 0} (test : A → Bool) (xs ys : List A) → list_any test (xs ++ ys) ≡ false → list_any test ys ≡ false
any_back test [] ys h = h
any_back test (x ∷ xs) ys h = any_back test xs ys (or_parts (test x) (list_any test (xs ++ ys)) h).1
