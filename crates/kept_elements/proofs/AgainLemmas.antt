-- What is told again of elements, looked up by key.
use Rattle.std.proofs.Common.{◌≡◌, ◌==◌, ◌≤◌, ◌+◌, ◌++◌, ◌||◌, ◌∙◌, ℕ, nat_eq, Bool, true, false, cond, List, [], ◌∷◌, length, Option, Some, None, arith, flat_map, refl, sym, ap, ap₂, eqb-true, inl, inr, if◌then◌else◌}
use Rattle.std.specs.Prelude.{option_map}
use Rattle.std.specs.FinMap.{FinMap, get}
use Rattle.std.specs.List.{AllByRecursion, IsDistinct}
use Rattle.std.specs.Option.{option_and_then, option_map_or, option_or}
use Rattle.std.specs.Ordering.{nat_cmp}
use Rattle.std.proofs.lemmas.Bool.{cases_Bool, true≢false}
use Rattle.std.proofs.lemmas.Map.Keys.{IsDistinct-head, IsDistinct-tail}
use Rattle.box_pieces.specs.declared.box_pieces.BoxPieces.{BoxPieces}
use Rattle.box_pieces.specs.BoxPieces.{pieces_of}
use Rattle.box_eval.specs.declared.made.Made.{Made}
use Rattle.content_eval.specs.Targets.{Known}
use Rattle.edit_work.specs.KeyedSources.{is_among, references_of}
use Rattle.generated_texts.specs.References.{kept_at}
use Rattle.plain_types.specs.declared.counter.Counter.{Counter}
use Rattle.plain_types.specs.declared.counter_style.CounterStyle.{CounterStyle}
use Rattle.surroundings.specs.declared.told.Told.{Told}
use Rattle.kept_elements.specs.declared.kept.Kept.{Kept}
use Rattle.kept_elements.specs.Evaluations.{kept_of}
use Rattle.kept_elements.specs.Known.{flat_texts_of}
use Rattle.kept_elements.specs.Machinery.Renewals.{AreRead, again, told_again}
use Rattle.kept_elements.proofs.ChangeLemmas.{has_key, kept-first}

-- Lists.

pub apart_of : (k key : ℕ) (keys : List ℕ) → AllByRecursion (λ y. nat_eq k y ≡ false) keys → is_among keys key ≡ true → nat_eq k key ≡ false
apart_of k key [] all there = absurd (true≢false (sym there))
apart_of k key (y ∷ keys) all there = elim (cases_Bool (y == key)) [
  | inl e ↦ ap (nat_eq k) (sym (eqb-true y key e)) ∙ all.0
  | inr e ↦ apart_of k key keys all.1 (ap (λ b. b || is_among keys key) (sym e) ∙ there)
]

pub or_right : (a b : Bool) → b ≡ true → (a || b) ≡ true
or_right true b h = refl
or_right false b h = h

same : (k : ℕ) → (k == k) ≡ true
same k = grind arith

module _ {V : Type 0} where
  pub kept-append : (xs ys : List (ℕ × V)) (key : ℕ) → kept_at (xs ++ ys) key ≡ option_or (kept_at xs key) (kept_at ys key)
  kept-append [] ys key = refl
  kept-append (x ∷ xs) ys key =
      kept-first x (xs ++ ys) key
      ∙ ap (cond (x.0 == key) (Some x.1)) (kept-append xs ys key)
      ∙ by (x.0 == key) (kept_at xs key)
      ∙ ap (λ o. option_or o (kept_at ys key)) (sym (kept-first x xs key))
    where
      by : (b : Bool) (o : Option V) → cond b (Some x.1) (option_or o (kept_at ys key)) ≡ option_or (cond b (Some x.1) o) (kept_at ys key)
      by true o = refl
      by false o = refl

  -- keys, each once, of entries that are there are no more than the entries

  abbrev without : ℕ → List (ℕ × V) → List (ℕ × V)
  without k [] = []
  without k (x ∷ xs) = cond (x.0 == k) (without k xs) (x ∷ without k xs)

  no_longer : (k : ℕ) (xs : List (ℕ × V)) → length (without k xs) ≤ length xs
  no_longer k [] = omega arith
  no_longer k (x ∷ xs) = by (x.0 == k) (no_longer k xs)
    where
      by : (b : Bool) → length (without k xs) ≤ length xs → length (cond b (without k xs) (x ∷ without k xs)) ≤ length (x ∷ xs)
      by true rest = omega (arith, rest)
      by false rest = omega (arith, rest)

  shorter : (k : ℕ) (xs : List (ℕ × V)) → has_key k xs ≡ true → length (without k xs) + 1 ≤ length xs
  shorter k [] there = absurd (true≢false (sym there))
  shorter k (x ∷ xs) there = by (x.0 == k) there (no_longer k xs) (λ h. shorter k xs h)
    where
      by : (b : Bool) → (b || has_key k xs) ≡ true → length (without k xs) ≤ length xs → (has_key k xs ≡ true → length (without k xs) + 1 ≤ length xs)
          → length (cond b (without k xs) (x ∷ without k xs)) + 1 ≤ length (x ∷ xs)
      by true h longer rest = omega (arith, longer)
      by false h longer rest = let less : length (without k xs) + 1 ≤ length xs = rest h in omega (arith, less)

  stays : (k key : ℕ) (xs : List (ℕ × V)) → nat_eq k key ≡ false → has_key key xs ≡ true → has_key key (without k xs) ≡ true
  stays k key [] other there = there
  stays k key (x ∷ xs) other there = elim (cases_Bool (x.0 == k)) [
    | inl e ↦
        let apart : (x.0 == key) ≡ false = ap (λ n. nat_eq n key) (eqb-true x.0 k e) ∙ other in
        rw e (stays k key xs other (ap (λ b. b || has_key key xs) (sym apart) ∙ there))
    | inr e ↦ rw e (by (x.0 == key) there (λ h. stays k key xs other h))
  ]
    where
      by : (b : Bool) → (b || has_key key xs) ≡ true → (has_key key xs ≡ true → has_key key (without k xs) ≡ true) → (b || has_key key (without k xs)) ≡ true
      by true h rest = refl
      by false h rest = rest h

  pub no_more_keys : (keys : List ℕ) (xs : List (ℕ × V)) → IsDistinct nat_eq keys → ((key : ℕ) → is_among keys key ≡ true → has_key key xs ≡ true) → length keys ≤ length xs
  no_more_keys [] xs once there = omega arith
  no_more_keys (k ∷ keys) xs once there =
      let head = IsDistinct-head nat_eq k keys once in
      let rest : length keys ≤ length (without k xs) =
      no_more_keys keys (without k xs) (IsDistinct-tail nat_eq k keys once)
      (λ key among. stays k key xs (apart_of k key keys head among) (there key (or_right (k == key) (is_among keys key) among))) in
      omega (arith, rest, shorter k xs (there k (ap (λ b. b || is_among keys k) (same k))))

-- What is held, told again.

module _ (held : FinMap nat_cmp Kept) where
  abbrev own_of : Option Kept → Option Told
  own_of o = option_and_then (λ (kept : Kept). option_map (told_again kept) kept.pieces) o

  -- of the element of this key
  abbrev pub own : ℕ → Option Told
  own key = own_of (get held key)

  again-own : (k key : ℕ) → kept_at (again held k) key ≡ cond (k == key) (own key) None
  again-own k key = one (get held k) ∙ turned
    where
      both : (b : Bool) (o : Option Told) → o ≡ None → o ≡ cond b o None
      both true o e = refl
      both false o e = e

      none : (b : Bool) → kept_at [] key ≡ cond b (own_of None) None
      none b = both b None refl

      two : (kept : Kept) (o : Option BoxPieces) → kept_at (option_map_or (λ (pieces : BoxPieces). (k, told_again kept pieces) ∷ []) o []) key ≡ cond (k == key) (option_map (told_again kept) o) None
      two kept None = none (k == key)
      two kept (Some pieces) = kept-first (k, told_again kept pieces) [] key

      one : (o : Option Kept) → kept_at (option_map_or (λ (kept : Kept). option_map_or (λ (pieces : BoxPieces). (k, told_again kept pieces) ∷ []) kept.pieces []) o []) key ≡ cond (k == key) (own_of o) None
      one None = none (k == key)
      one (Some kept) = two kept kept.pieces

      turned : cond (k == key) (own k) None ≡ cond (k == key) (own key) None
      turned = elim (cases_Bool (k == key)) [
        | inl e ↦ ap (λ n. cond (k == key) (own n) None) (eqb-true k key e)
        | inr e ↦ rw e refl
      ]

  join : (a b : Bool) (o : Option Told) → option_or (cond a o None) (cond b o None) ≡ cond (a || b) o None
  join true true None = refl
  join true true (Some t) = refl
  join true false None = refl
  join true false (Some t) = refl
  join false b o = refl

  pub all-again : (keys : List ℕ) (key : ℕ) → kept_at (flat_map (again held) keys) key ≡ cond (is_among keys key) (own key) None
  all-again [] key = refl
  all-again (k ∷ keys) key =
      kept-append (again held k) (flat_map (again held) keys) key
      ∙ ap₂ (λ a b. option_or a b) (again-own k key) (all-again keys key)
      ∙ join (k == key) (is_among keys key) (own key)

-- What was read of an element is what is held of it.
pub read_there : (keys : List ℕ) (read : ℕ → Option Kept) (held : FinMap nat_cmp Kept) → AreRead keys read held → (key : ℕ) → is_among keys key ≡ true → read key ≡ get held key
read_there keys read held are key there = are key ∙ ap (λ (b : Bool). if b then get held key else None) there

-- Elements of which the same is told, as far as what is kept of them and of those that refer to them rests on it.

abbrev pub told_counters : Told → Option (List Counter)
told_counters told = cond told.said.has_box (Some told.said.own) None

pub record Tells (table : List CounterStyle) (one other : Told) : Type 0 where
  pub kept : (known : Known) → kept_of table known one ≡ kept_of table known other
  pub flats : (known : Known) → flat_texts_of table known one.said ≡ flat_texts_of table known other.said
  pub counters : told_counters one ≡ told_counters other
  pub references : references_of one.said ≡ references_of other.said

pub tells_itself : (table : List CounterStyle) (told : Told) → Tells table told told
tells_itself table told = record { kept = λ known. refl; flats = λ known. refl; counters = refl; references = refl }

abbrev with_boxes : Told → (marker before after : Option Made) → Told
with_boxes told marker before after = record told { said = record told.said { marker = marker; before = before; after = after } }

pub again_tells : (table : List CounterStyle) (known : Known) (told : Told) → Tells table (told_again (kept_of table known told) (pieces_of told.said)) told
again_tells table known told = by told.said.marker told.said.before told.said.after
  where
    by : (marker before after : Option Made) → Tells table (told_again (kept_of table known (with_boxes told marker before after)) (pieces_of (with_boxes told marker before after).said)) (with_boxes told marker before after)
    by None None None = record { kept = λ known. refl; flats = λ known. refl; counters = refl; references = refl }
    by None None (Some after) = record { kept = λ known. refl; flats = λ known. refl; counters = refl; references = refl }
    by None (Some before) None = record { kept = λ known. refl; flats = λ known. refl; counters = refl; references = refl }
    by None (Some before) (Some after) = record { kept = λ known. refl; flats = λ known. refl; counters = refl; references = refl }
    by (Some marker) None None = record { kept = λ known. refl; flats = λ known. refl; counters = refl; references = refl }
    by (Some marker) None (Some after) = record { kept = λ known. refl; flats = λ known. refl; counters = refl; references = refl }
    by (Some marker) (Some before) None = record { kept = λ known. refl; flats = λ known. refl; counters = refl; references = refl }
    by (Some marker) (Some before) (Some after) = record { kept = λ known. refl; flats = λ known. refl; counters = refl; references = refl }
