-- How the entries of counter properties and the starts of a box are looked up (our own).
use Rattle.std.specs.Prelude.{◌≡◌, ◌&&◌, ℕ, suc, ℤ, Bool, List, [], ◌∷◌, Option, Some, None, IfSome, cond, find}
use Rattle.std.specs.Option.{option_map}
use Rattle.std.specs.Str.{bytes_eq}
use Rattle.plain_types.specs.declared.box_id.BoxId.{BoxId}
use Rattle.plain_types.specs.declared.counter.Counter.{Counter}
use Rattle.plain_types.specs.declared.style.CounterOp.{CounterOp}
use Rattle.plain_types.specs.declared.style.ResetOp.{ResetOp}
use Rattle.counter_sets.specs.ByNames.{value_of}
use Rattle.counter_sets.specs.Sets.{is_same_box}
use Rattle.box_eval.specs.declared.inputs.Start.{Start}
use Rattle.box_eval.specs.Properties.{first_value, number_for}

-- the first place at which a test holds
abbrev pub first_place : {X : Type 0} → (X → Bool) → List X → Option ℕ
first_place test [] = None
first_place test (x ∷ xs) = cond (test x) (Some 0) (option_map (λ place. suc place) (first_place test xs))

-- these are the numbers of the first entries of their names, where they are kept
abbrev pub HasNumbers : Option (List (List ℕ × ℤ)) → List CounterOp → Type 0
HasNumbers numbers ops = IfSome numbers (λ kept. (name : List ℕ) → value_of kept name ≡ number_for name ops)

-- the start of a box's reversed counter of a name, where it is given
abbrev pub start_given : List Start → BoxId → List ℕ → Option ℤ
start_given starts creator name =
    option_map (λ (start : Start). start.value) (find (λ (start : Start). is_same_box start.creator creator && bytes_eq start.name name) starts)

-- these are the starts of a box's reversed counters
abbrev pub HasStarts : List (List ℕ × ℤ) → List Start → BoxId → Type 0
HasStarts kept starts creator = (name : List ℕ) → value_of kept name ≡ start_given starts creator name

-- the counter that an entry of a box's `counter-reset` creates
abbrev pub created : List Start → BoxId → ResetOp → Counter
created starts box reset = record { name = reset.name; creator = box; reversed = reset.reversed; value = first_value starts box reset }
