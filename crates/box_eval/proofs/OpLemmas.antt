-- Entries of counter properties.
use Rattle.std.proofs.Common.{◌≡◌, ◌++◌, ◌∷◌, ◌||◌, ℕ, List, [], Bool, true, false, cond, not, map, refl, sym, ap, ◌∙◌, inl, inr, append-nil, Option, Some, None, pos, negsuc}
use Rattle.std.proofs.lemmas.List.{map-append}
use Rattle.std.proofs.lemmas.List.Elements.{filter-append}
use Rattle.std.proofs.lemmas.Bool.{cases_Bool, or_right}
use Rattle.std.specs.Prelude.{filter}
use Rattle.std.specs.List.{list_any}
use Rattle.std.specs.Option.{option_map_or}
use Rattle.std.specs.Str.{bytes_eq}
use Rattle.css_definitions.specs.CounterStyles.{distinct}
use Rattle.plain_types.specs.declared.counter.Counter.{Counter}
use Rattle.plain_types.specs.declared.style.CounterOp.{CounterOp}
use Rattle.box_eval.specs.Properties.{is_for, last_of_each, names}

-- behind a name: one more name, which is the first, or there already, or neither
pushed : (y : List ℕ) (front : List (List ℕ)) (x : List ℕ) (known whole : Bool) → (bytes_eq y x || known) ≡ whole
    → y ∷ filter (λ other. not (bytes_eq y other)) (cond known front (front ++ x ∷ [])) ≡ cond whole (y ∷ filter (λ other. not (bytes_eq y other)) front) (y ∷ filter (λ other. not (bytes_eq y other)) front ++ x ∷ [])
pushed y front x true whole e = let all : whole ≡ true = sym e ∙ or_right (bytes_eq y x) true refl in rw all refl
pushed y front x false whole e =
    let test : List ℕ → Bool = λ other. not (bytes_eq y other) in
    let split = filter-append test front (x ∷ []) in
    elim (cases_Bool (bytes_eq y x)) [
      | inl f ↦ let all : whole ≡ true = sym e ∙ rw f refl in rw all (ap (λ xs. y ∷ xs) (split ∙ rw f (append-nil (filter test front))))
      | inr f ↦ let all : whole ≡ false = sym e ∙ rw f refl in rw all (ap (λ xs. y ∷ xs) (split ∙ rw f refl))
    ]

-- one name more, which is there already or not
distinct_push : (xs : List (List ℕ)) (x : List ℕ) (known : Bool) → list_any (λ y. bytes_eq y x) xs ≡ known → distinct (xs ++ x ∷ []) ≡ cond known (distinct xs) (distinct xs ++ x ∷ [])
distinct_push [] x true e = absurd (cc)
distinct_push [] x false e = refl
distinct_push (y ∷ xs) x known e =
    let later : List (List ℕ) → List (List ℕ) = λ all. y ∷ filter (λ other. not (bytes_eq y other)) all in
    let rest = distinct_push xs x (list_any (λ z. bytes_eq z x) xs) refl in
    ap later rest ∙ pushed y (distinct xs) x (list_any (λ z. bytes_eq z x) xs) known e

names-push : (ops : List CounterOp) (op : CounterOp) → names (ops ++ op ∷ []) ≡ names ops ++ op.name ∷ []
names-push [] op = refl
names-push (first ∷ ops) op = ap (λ all. first.name ∷ all) (names-push ops op)

any_names : (name : List ℕ) (ops : List CounterOp) → list_any (λ other. bytes_eq other name) (names ops) ≡ list_any (is_for name) ops
any_names name [] = refl
any_names name (op ∷ ops) = ap (λ b. bytes_eq op.name name || b) (any_names name ops)

-- The entries of each name added.

names_more : (front more : List CounterOp) (op : CounterOp) (known : Bool) → more ≡ front ++ op ∷ [] → list_any (is_for op.name) front ≡ known → distinct (names more) ≡ cond known (distinct (names front)) (distinct (names front) ++ op.name ∷ [])
names_more front more op known m e =
    ap (λ ops. distinct (names ops)) m ∙ ap distinct (names-push front op) ∙ distinct_push (names front) op.name known (any_names op.name front ∙ e)

-- an entry of a new name
pub merged_more : (whole : List ℕ → CounterOp) (front more all : List CounterOp) (op : CounterOp) → more ≡ front ++ op ∷ [] → all ≡ map whole (distinct (names front)) → list_any (is_for op.name) front ≡ false → all ++ whole op.name ∷ [] ≡ map whole (distinct (names more))
merged_more whole front more all op m h e =
    ap (λ ops. ops ++ whole op.name ∷ []) h ∙ sym (map-append whole (distinct (names front)) (op.name ∷ [])) ∙ sym (ap (map whole) (names_more front more op false m e))

-- an entry of a name that came before
pub merged_kept : (whole : List ℕ → CounterOp) (front more all : List CounterOp) (op : CounterOp) → more ≡ front ++ op ∷ [] → all ≡ map whole (distinct (names front)) → list_any (is_for op.name) front ≡ true → all ≡ map whole (distinct (names more))
merged_kept whole front more all op m h e = h ∙ sym (ap (map whole) (names_more front more op true m e))

-- The last entry of each name.

module _ {Entry : Type 0} (name_of : Entry → List ℕ) where
  pub last_here : (entries later : List Entry) (entry : Entry) → entries ≡ entry ∷ later → list_any (λ other. bytes_eq (name_of other) (name_of entry)) later ≡ false → last_of_each name_of entries ≡ entry ∷ last_of_each name_of later
  last_here entries later entry s e = ap (last_of_each name_of) s ∙ ap (λ again. cond again (last_of_each name_of later) (entry ∷ last_of_each name_of later)) e

  pub last_later : (entries later : List Entry) (entry : Entry) → entries ≡ entry ∷ later → list_any (λ other. bytes_eq (name_of other) (name_of entry)) later ≡ true → last_of_each name_of entries ≡ last_of_each name_of later
  last_later entries later entry s e = ap (last_of_each name_of) s ∙ ap (λ again. cond again (last_of_each name_of later) (entry ∷ last_of_each name_of later)) e

-- The implicit step of a list item.

pub implicit_found : (found : Option Counter) (counter : Counter) (reversed : Bool) → Some counter ≡ found → counter.reversed ≡ reversed → cond reversed (negsuc 0) (pos 1) ≡ option_map_or (λ (counter : Counter). cond counter.reversed (negsuc 0) (pos 1)) found (pos 1)
implicit_found found counter reversed e r =
    sym (ap (λ is. cond is (negsuc 0) (pos 1)) r) ∙ ap (λ found. option_map_or (λ (counter : Counter). cond counter.reversed (negsuc 0) (pos 1)) found (pos 1)) e

pub implicit_missing : (found : Option Counter) → None ≡ found → pos 1 ≡ option_map_or (λ (counter : Counter). cond counter.reversed (negsuc 0) (pos 1)) found (pos 1)
implicit_missing found e = ap (λ found. option_map_or (λ (counter : Counter). cond counter.reversed (negsuc 0) (pos 1)) found (pos 1)) e
