-- Entries at places: the first and the last of their names, and what comes by one entry more.
use Rattle.std.proofs.Common.{◌≡◌, ◌+◌, ◌<◌, ◌∷◌, ◌++◌, ◌==◌, ℕ, zero, suc, ℤ, pos, List, [], Bool, true, false, cond, not, Option, Some, None, add-one, is_some, length, take, drop, get_or, refl, sym, ap, ◌∙◌, arith, inl, inr}
use Rattle.std.specs.Prelude.{filter, find, unwrap_or}
use Rattle.std.specs.List.{fold, list_any}
use Rattle.std.specs.Option.{option_map, option_or}
use Rattle.std.specs.Str.{bytes_eq}
use Rattle.std.specs.Cmp.Lexicographic.{nat_list_eq_equiv}
use Rattle.std.proofs.lemmas.Bool.{cases_Bool}
use Rattle.std.proofs.lemmas.Bool.Decides.{nat_tests}
use Rattle.std.proofs.lemmas.List.{drop_more, length-take-le, take_more}
use Rattle.std.proofs.lemmas.List.Elements.{filter-append}
use Rattle.std.proofs.lemmas.Slice.Eq.{bytes_eq-Decides}
use Rattle.plain_types.specs.Counts.{count_sum}
use Rattle.plain_types.specs.declared.style.CounterOp.{CounterOp}
use Rattle.counter_sets.specs.ByNames.{is_at}
use Rattle.counter_sets.specs.Sets.{last_place}
use Rattle.counter_sets.proofs.LookupLemmas.{last_at}
use Rattle.box_eval.specs.Lookups.{first_place}
use Rattle.box_eval.specs.Properties.{is_for, last_of_each, number_for, sum_for}

opposite : (a b : Bool) → a ≡ not b → b ≡ not a
opposite a true e = sym (ap not e)
opposite a false e = sym (ap not e)

-- First items.

or_more : (o : Option ℕ) (b : Bool) (n : ℕ) → option_map (λ place. suc place) (option_or o (cond b (Some n) None)) ≡ option_or (option_map (λ place. suc place) o) (cond b (Some (suc n)) None)
or_more None true n = refl
or_more None false n = refl
or_more (Some place) b n = refl

later_first : (o : Option ℕ) (place : ℕ) → is_at (option_map (λ at. suc at) o) (suc place) ≡ is_at o place
later_first None place = refl
later_first (Some at) place = let e : (suc at == suc place) ≡ (at == place) = grind (arith, nat_tests) in e

module _ {X : Type 0} (test : X → Bool) where
  first_push : (xs : List X) (x : X) → first_place test (xs ++ x ∷ []) ≡ option_or (first_place test xs) (cond (test x) (Some (length xs)) None)
  first_push [] x = refl
  first_push (y ∷ xs) x = elim (cases_Bool (test y)) [
    | inl e ↦ rw e refl
    | inr e ↦ rw e (ap (option_map (λ place. suc place)) (first_push xs x) ∙ or_more (first_place test xs) (test x) (length xs))
  ]

  found_push : (xs : List X) (x : X) → find test (xs ++ x ∷ []) ≡ option_or (find test xs) (cond (test x) (Some x) None)
  found_push [] x = refl
  found_push (y ∷ xs) x = elim (cases_Bool (test y)) [
    | inl e ↦ rw e refl
    | inr e ↦ rw e (found_push xs x)
  ]

  -- the place of an item that passes is the first one where no earlier item does
  pub first_at : (xs : List X) (place : ℕ) (x : X) → place < length xs → x ≡ get_or xs place x → test x ≡ true → is_at (first_place test xs) place ≡ not (list_any test (take place xs))
  first_at [] place x below read passes = absurd (omega (arith, below))
  first_at (y ∷ ys) zero x below read passes =
      let here : test y ≡ true = ap test (sym read) ∙ passes in
      rw here refl
  first_at (y ∷ ys) (suc place) x below read passes = elim (cases_Bool (test y)) [
    | inl e ↦ let no : (0 == suc place) ≡ false = grind (arith, nat_tests) in rw e no
    | inr e ↦ rw e (later_first (first_place test ys) place ∙ first_at ys place x (omega (arith, below)) read passes)
  ]

  -- one more item
  module _ (xs : List X) (i : ℕ) (x : X) (below : i < length xs) (read : x ≡ get_or xs i x) where
    more : take (i + 1) xs ≡ take i xs ++ x ∷ []
    more = take_more xs i x below ∙ ap (λ y. take i xs ++ y ∷ []) (sym read)

    pub first_more : first_place test (take (i + 1) xs) ≡ option_or (first_place test (take i xs)) (cond (test x) (Some i) None)
    first_more =
        ap (first_place test) more ∙ first_push (take i xs) x
        ∙ ap (λ n. option_or (first_place test (take i xs)) (cond (test x) (Some n) None)) (length-take-le i xs (omega (arith, below)))

    pub found_more : find test (take (i + 1) xs) ≡ option_or (find test (take i xs)) (cond (test x) (Some x) None)
    found_more = ap (find test) more ∙ found_push (take i xs) x

-- Numbers of entries.

map_or : {X Y : Type 0} (f : X → Y) (o : Option X) (b : Bool) (x : X) → option_map f (option_or o (cond b (Some x) None)) ≡ option_or (option_map f o) (cond b (Some (f x)) None)
map_or f None true x = refl
map_or f None false x = refl
map_or f (Some y) b x = refl

pub or_nothing : {X : Type 0} (o : Option X) → o ≡ option_or o None
or_nothing None = refl
or_nothing (Some x) = refl

-- the value of a found item, where none was found there is none
pub value_more : {X Y : Type 0} (f : X → Y) (test : X → Bool) (xs : List X) (i : ℕ) (x : X) → i < length xs → x ≡ get_or xs i x
    → option_map f (find test (take (i + 1) xs)) ≡ option_or (option_map f (find test (take i xs))) (cond (test x) (Some (f x)) None)
value_more f test xs i x below read = ap (option_map f) (found_more test xs i x below read) ∙ map_or f (find test (take i xs)) (test x) x

mapped_some : {X Y : Type 0} (f : X → Y) (o : Option X) → is_some (option_map f o) ≡ is_some o
mapped_some f None = refl
mapped_some f (Some x) = refl

found_any : {X : Type 0} (test : X → Bool) (xs : List X) → is_some (find test xs) ≡ list_any test xs
found_any test [] = refl
found_any test (x ∷ xs) = elim (cases_Bool (test x)) [
  | inl e ↦ rw e refl
  | inr e ↦ rw e (found_any test xs)
]

-- a name has a number where an entry is for it
pub number_any : (name : List ℕ) (ops : List CounterOp) → is_some (number_for name ops) ≡ list_any (is_for name) ops
number_any name ops = mapped_some (λ (op : CounterOp). op.value) (find (is_for name) ops) ∙ found_any (is_for name) ops

pub name_swapped : (one two : List ℕ) → bytes_eq one two ≡ bytes_eq two one
name_swapped one two = nat_list_eq_equiv.symm one two

fold_push : {A B : Type 0} (f : B → A → B) (first : B) (xs : List A) (x : A) → fold f first (xs ++ x ∷ []) ≡ f (fold f first xs) x
fold_push f first [] x = refl
fold_push f first (y ∷ xs) x = fold_push f (f first y) xs x

module _ (name : List ℕ) where
  abbrev add : ℤ → CounterOp → ℤ
  add sum op = count_sum sum op.value

  sum_push : (ops : List CounterOp) (op : CounterOp) → sum_for name (ops ++ op ∷ []) ≡ cond (is_for name op) (count_sum (sum_for name ops) op.value) (sum_for name ops)
  sum_push ops op = ap (fold add (pos 0)) (filter-append (is_for name) ops (op ∷ [])) ∙ elim (cases_Bool (is_for name op)) [
    | inl e ↦ rw e (fold_push add (pos 0) (filter (is_for name) ops) op)
    | inr e ↦ rw e (fold_nothing (filter (is_for name) ops) (pos 0))
  ]
    where
      fold_nothing : (ops : List CounterOp) (first : ℤ) → fold add first (ops ++ []) ≡ fold add first ops
      fold_nothing [] first = refl
      fold_nothing (o ∷ ops) first = fold_nothing ops (add first o)

-- the sums with one entry more: where its own name has the sum before, and other names keep theirs
pub sum_more : (ops : List CounterOp) (i : ℕ) (op : CounterOp) → i < length ops → op ≡ get_or ops i op → (sums : List ℕ → Option ℤ) → ((name : List ℕ) → unwrap_or (sums name) (pos 0) ≡ sum_for name (take i ops))
    → (name : List ℕ) → unwrap_or (cond (bytes_eq name op.name) (Some (count_sum (unwrap_or (sums op.name) (pos 0)) op.value)) (sums name)) (pos 0) ≡ sum_for name (take (i + 1) ops)
sum_more ops i op below read sums has name =
    elim (cases_Bool (bytes_eq name op.name)) [
      | inl e ↦
          let same : name ≡ op.name = (bytes_eq-Decides name op.name).0 e in
          let own : is_for name op ≡ true = name_swapped op.name name ∙ e in
          rw e
          (ap (λ sum. count_sum sum op.value) (has op.name ∙ ap (λ n. sum_for n (take i ops)) (sym same))
          ∙ sym (ap (sum_for name) (more (is_for name) ops i op below read) ∙ sum_push name (take i ops) op ∙ ap (λ b. cond b (count_sum (sum_for name (take i ops)) op.value) (sum_for name (take i ops))) own))
      | inr e ↦
          let other : is_for name op ≡ false = name_swapped op.name name ∙ e in
          rw e
          (has name
          ∙ sym (ap (sum_for name) (more (is_for name) ops i op below read) ∙ sum_push name (take i ops) op ∙ ap (λ b. cond b (count_sum (sum_for name (take i ops)) op.value) (sum_for name (take i ops))) other))
    ]

-- First entries of names.

module _ (ops : List CounterOp) (place : ℕ) (op : CounterOp) (below : place < length ops) (read : op ≡ get_or ops place op) (found : Option ℕ) (finds : found ≡ first_place (is_for op.name) ops) where
  at_first : is_at found place ≡ not (list_any (is_for op.name) (take place ops))
  at_first =
      let own : is_for op.name op ≡ true = (bytes_eq-Decides op.name op.name).1 refl in
      ap (λ o. is_at o place) finds ∙ first_at (is_for op.name) ops place op below read own

  pub is_first : is_at found place ≡ true → list_any (is_for op.name) (take place ops) ≡ false
  is_first h = opposite true (list_any (is_for op.name) (take place ops)) (sym h ∙ at_first)

  pub not_first : is_at found place ≡ false → list_any (is_for op.name) (take place ops) ≡ true
  not_first h = opposite false (list_any (is_for op.name) (take place ops)) (sym h ∙ at_first)

-- Last entries of names.

module _ {Entry : Type 0} (name_of : Entry → List ℕ) (entries : List Entry) (place : ℕ) (entry : Entry) (below : place < length entries) (read : entry ≡ get_or entries place entry) where
  pub rest_at : drop place entries ≡ entry ∷ drop (place + 1) entries
  rest_at = drop_more entries place entry below ∙ ap (λ e. e ∷ drop (place + 1) entries) (sym read)

  abbrev is_own : Entry → Bool
  is_own other = bytes_eq (name_of other) (name_of entry)

  at_last : (found : Option ℕ) → found ≡ last_place is_own entries → is_at found place ≡ not (list_any is_own (drop (place + 1) entries))
  at_last found e =
      let own : is_own entry ≡ true = (bytes_eq-Decides (name_of entry) (name_of entry)).1 refl in
      ap (λ o. is_at o place) e ∙ last_at is_own entries place entry below read own ∙ ap (λ n. not (list_any is_own (drop n entries))) (sym (add-one place))

  pub is_last : (found : Option ℕ) → found ≡ last_place is_own entries → is_at found place ≡ true → last_of_each name_of (drop place entries) ≡ entry ∷ last_of_each name_of (drop (place + 1) entries)
  is_last found e h = ap (last_of_each name_of) rest_at ∙ ap (λ again. cond again (last_of_each name_of (drop (place + 1) entries)) (entry ∷ last_of_each name_of (drop (place + 1) entries))) (opposite true (list_any is_own (drop (place + 1) entries)) (sym h ∙ at_last found e))

  pub not_last : (found : Option ℕ) → found ≡ last_place is_own entries → is_at found place ≡ false → last_of_each name_of (drop place entries) ≡ last_of_each name_of (drop (place + 1) entries)
  not_last found e h = ap (last_of_each name_of) rest_at ∙ ap (λ again. cond again (last_of_each name_of (drop (place + 1) entries)) (entry ∷ last_of_each name_of (drop (place + 1) entries))) (opposite false (list_any is_own (drop (place + 1) entries)) (sym h ∙ at_last found e))
