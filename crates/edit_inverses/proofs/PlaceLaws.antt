-- What is known of the places of an edit that is allowed.
use Rattle.std.proofs.Common.{◌≡◌, ◌<◌, ◌≤◌, ◌&&◌, ℕ, Bool, true, false, nat_lt, cond, List, length, Option, Some, None, is_some, refl, ap, ◌∙◌, arith, leb-true, le-leb, lt-ltb, ltb-true}
use Rattle.forest.specs.Forest.{Forest, Empty, Tree}
use Rattle.forest.specs.Spots.{roots}
use Rattle.forest.specs.Paths.{on_path}
use Rattle.plain_types.specs.declared.node.Node.{Node}
use Rattle.node_arena.specs.AtPaths.{first_children, first_label}
use Rattle.node_arena.specs.Copies.{is_element}
use Rattle.node_arena.specs.Edits.{has_room_at, is_element_at, is_inner_at, no_place_unless}
use Rattle.node_arena.specs.declared.place_fault.PlaceFault.{PlaceFault}
use Rattle.edit_inverses.proofs.TreeLaws.{HasPlace, StandsFirst}

pub there_unless : (there : Bool) → no_place_unless there ≡ None → there ≡ true
there_unless true e = refl
there_unless false e = absurd (cc)

pub both_true : (a b : Bool) → a && b ≡ true → (a ≡ true) × (b ≡ true)
both_true true b e = (refl, e)
both_true false b e = absurd (cc)

-- the test of an element at a path
abbrev pub is_element_label : Option Node → Bool
is_element_label label = elim label [ None ↦ false | Some node ↦ is_element node ]

-- an element stands first
pub record HasElementFirst (x : Forest Node) : Type 0 where
  pub first : StandsFirst x
  pub element : is_element first.label ≡ true

pub element_first : (x : Forest Node) → is_element_label (first_label x) ≡ true → HasElementFirst x
element_first Empty e = absurd (cc)
element_first (Tree n c r) e = record { first = record { label = n; children = c; after = r; is = refl }; element = e }

pub node_first : (x : Forest Node) → is_some (first_label x) ≡ true → StandsFirst x
node_first Empty e = absurd (cc)
node_first (Tree n c r) e = record { label = n; children = c; after = r; is = refl }

-- the other way round
pub element_there : (path : List ℕ) (x : Forest Node) (n : Node) (c r : Forest Node) → on_path path x ≡ Tree n c r → is_element n ≡ true → is_element_at path x ≡ true
element_there path x n c r is element = ap (λ y. is_element_label (first_label y)) is ∙ element

pub inner_there : (path : List ℕ) (x : Forest Node) (n : Node) (c r : Forest Node) → 0 < length path → on_path path x ≡ Tree n c r → is_inner_at path x ≡ true
inner_there path x n c r long is =
    ap (λ b. b && is_some (first_label (on_path path x))) (lt-ltb 0 (length path) long) ∙ ap (λ y. is_some (first_label y)) is

-- an inner node
pub record HasInner (path : List ℕ) (x : Forest Node) : Type 0 where
  pub long : 0 < length path
  pub first : StandsFirst (on_path path x)

pub inner : (path : List ℕ) (x : Forest Node) → is_inner_at path x ≡ true → HasInner path x
inner path x e =
    let both = both_true (nat_lt 0 (length path)) (is_some (first_label (on_path path x))) e in
    record { long = ltb-true 0 (length path) both.0; first = node_first (on_path path x) both.1 }

-- room for one more child of an element
pub record HasElementPlace (parent : List ℕ) (index : ℕ) (x : Forest Node) : Type 0 where
  pub place : HasPlace parent index x
  pub element : is_element place.first.label ≡ true

pub element_place : (parent : List ℕ) (index : ℕ) (x : Forest Node) → is_element_at parent x ≡ true → has_room_at parent index x ≡ true → HasElementPlace parent index x
element_place parent index x element room =
    let found = element_first (on_path parent x) element in
    let count : length (roots (first_children (on_path parent x))) ≡ length (roots found.first.children) = ap (λ y. length (roots (first_children y))) found.first.is in
    let low : index ≤ length (roots (first_children (on_path parent x))) = leb-true index (length (roots (first_children (on_path parent x)))) room in
    record { place = record { first = found.first; low = omega (arith, count, low) }; element = found.element }

pub room_there : (parent : List ℕ) (index : ℕ) (x : Forest Node) → HasPlace parent index x → has_room_at parent index x ≡ true
room_there parent index x place =
    let count : length (roots (first_children (on_path parent x))) ≡ length (roots place.first.children) = ap (λ y. length (roots (first_children y))) place.first.is in
    le-leb index (length (roots (first_children (on_path parent x)))) (omega (arith, count, place.low))

-- The parts of the test of a move.

pub move_parts : (refused into : Bool) (one other third : Option PlaceFault) (some : PlaceFault) → cond refused (Some some) (cond into other third) ≡ None → (refused ≡ false) × (cond into other third ≡ None)
move_parts true into one other third some e = absurd (cc)
move_parts false into one other third some e = (refl, e)
