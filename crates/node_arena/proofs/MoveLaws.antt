-- Moves: whether one goes into itself, and how many children its parent has once the node is taken out.
use Rattle.std.proofs.Common.{◌≡◌, ◌≢◌, ◌==◌, ◌<◌, ◌+◌, ◌⊎◌, ℕ, nat_eq, Bool, true, false, not, ◌&&◌, cond, List, [], ◌∷◌, ◌++◌, length, take, drop, Option, Some, None, refl, sym, ap, ◌∙◌, inl, inr, arith, eqb-true}
use Rattle.std.specs.Cmp.Lexicographic.{pointwise}
use Rattle.std.specs.List.{starts_with}
use Rattle.std.specs.Option.{option_eq}
use Rattle.std.proofs.lemmas.Bool.{eqb-false}
use Rattle.std.proofs.lemmas.Option.{none-some, same_Some}
use Rattle.forest.specs.Forest.{Forest, Empty, Tree}
use Rattle.forest.specs.Keys.{Keyed, without_keys}
use Rattle.forest.specs.Spots.{roots, child_count_of, IsLive, parent_of, index_of}
use Rattle.forest.specs.Paths.{on_path, key_at, path_of}
use Rattle.forest.proofs.PathLaws.{path_of-key_at, path-live, route-child, route_of-path_of}
use Rattle.forest.proofs.SiblingLaws.{index-within}
use Rattle.plain_types.specs.declared.node.Node.{Node}
use Rattle.node_arena.specs.declared.place_fault.PlaceFault.{PlaceFault}
use Rattle.node_arena.specs.declared.place_fault.PlaceFault.TheVariants.{NoPlace, IntoItself}
use Rattle.node_arena.specs.AtPaths.{from_position, without_first, with_children, first_children, child_count_at, removed_at, leads_into, once_out}
use Rattle.node_arena.specs.Document.{IsKeyedDocument}
use Rattle.node_arena.specs.Edits.{is_inner_at, is_element_at, has_room_at, no_place_unless, move_fault}
use Rattle.node_arena.proofs.AtPathLaws.{stays, removed-child, on-changed, once-out-parent, count-without}
use Rattle.node_arena.proofs.EntryLaws.{one-tree}
use Rattle.node_arena.proofs.KeyAtLaws.{count-found, parent-found}

-- a path leads into another where it begins with it
pub leads-into-is : (above path : List ℕ) → leads_into above path ≡ pointwise nat_eq above (take (length above) path)
leads-into-is [] path = refl
leads-into-is (s ∷ above) [] = refl
leads-into-is (s ∷ above) (p ∷ path) = ap (λ b. (s == p) && b) (leads-into-is above path)

-- an inner node has a step in its path
pub inner-long : (path : List ℕ) (g : Forest Node) → is_inner_at path g ≡ true → 0 < length path
inner-long [] g e = absurd (cc)
inner-long (p ∷ path) g e = omega arith

-- the tests of the code
pub parent-same : (o : Option ℕ) (t : ℕ) → option_eq nat_eq o (Some t) ≡ true → o ≡ Some t
parent-same None t e = absurd (cc)
parent-same (Some p) t e = ap (λ k. Some k) (eqb-true p t e)

pub parent-other : (o : Option ℕ) (t : ℕ) → option_eq nat_eq o (Some t) ≡ false → o ≢ Some t
parent-other None t e is = none-some t is
parent-other (Some p) t e is = eqb-false p t e (same_Some p t is)

pub leads-into-test : (above path shown_above shown_path : List ℕ) (r : Bool) → shown_above ≡ above → shown_path ≡ path → r ≡ starts_with nat_eq shown_path shown_above → leads_into above path ≡ r
leads-into-test above path shown_above shown_path r same_above same_path e =
    leads-into-is above path ∙ rw (e, same_above, same_path) refl

-- the path of a child
pub path-child : (f : Forest (Keyed Node)) (q t : ℕ) → IsKeyedDocument f → IsLive f q → IsLive f t → parent_of f q ≡ Some t → path_of f q ≡ path_of f t ++ index_of f q ∷ []
path-child f q t d live above e =
    ap (drop 1) (route-child f q t d.distinct live e ∙ ap (λ way. way ++ index_of f q ∷ []) (route_of-path_of f t (one-tree f d) above))

module _ {L : Type 0} where
  count-out : (i : ℕ) (g : Forest L) → i < length (roots (first_children g)) → length (roots (first_children (with_children (from_position without_first i) g))) + 1 ≡ length (roots (first_children g))
  count-out i Empty low = absurd (omega arith)
  count-out i (Tree n c r) low = count-without i c low

  -- the parent of the node that goes has one child less
  pub fewer : (parent : List ℕ) (i : ℕ) (g : Forest L) → i < child_count_at parent g → child_count_at (once_out (parent ++ i ∷ []) parent) (removed_at (parent ++ i ∷ []) g) + 1 ≡ child_count_at parent g
  fewer parent i g low =
      let there : on_path (once_out (parent ++ i ∷ []) parent) (removed_at (parent ++ i ∷ []) g) ≡ with_children (from_position without_first i) (on_path parent g) =
      ap (λ path. on_path path (removed_at (parent ++ i ∷ []) g)) (once-out-parent parent i)
      ∙ ap (on_path parent) (removed-child parent i g)
      ∙ on-changed (with_children (from_position without_first i)) parent g refl in
      ap (λ t. length (roots (first_children t)) + 1) there ∙ count-out i (on_path parent g) low

-- how many children the new parent has once the node is taken out
pub count-once-out : (f : Forest (Keyed Node)) (from parent : List ℕ) (q t count : ℕ) → IsKeyedDocument f → key_at f from ≡ Some q → key_at f parent ≡ Some t → 0 < length from → leads_into from parent ≡ false
    → ((parent_of f q ≡ Some t) × (count + 1 ≡ child_count_of f t)) ⊎ ((parent_of f q ≢ Some t) × (count ≡ child_count_of f t))
    → child_count_at (once_out from parent) (removed_at from (without_keys f)) ≡ count
count-once-out f from parent q t count d is above some out (inl h) =
    let g : Forest Node = without_keys f in
    let live : IsLive f q = path-live f from q is in
    let live_above : IsLive f t = path-live f parent t above in
    let i : ℕ = index_of f q in
    let way : from ≡ parent ++ i ∷ [] =
    sym (path_of-key_at f from q d.distinct is) ∙ path-child f q t d live live_above h.0 ∙ ap (λ path. path ++ i ∷ []) (path_of-key_at f parent t d.distinct above) in
    let within : i < child_count_of f t = index-within f q t d.distinct live h.0 in
    let all : child_count_at parent g ≡ child_count_of f t = count-found f parent t d.distinct above in
    let one : child_count_at (once_out (parent ++ i ∷ []) parent) (removed_at (parent ++ i ∷ []) g) + 1 ≡ child_count_at parent g = fewer parent i g (omega arith) in
    let same : child_count_at (once_out from parent) (removed_at from g) ≡ child_count_at (once_out (parent ++ i ∷ []) parent) (removed_at (parent ++ i ∷ []) g) = ap (λ path. child_count_at (once_out path parent) (removed_at path g)) way in
    omega arith
count-once-out f from parent q t count d is above some out (inr h) =
    let s = stays from parent (without_keys f) some out in
    elim s.1 [
      | inl same ↦ same ∙ count-found f parent t d.distinct above ∙ sym h.1
      | inr child ↦ absurd (h.0 (parent-found f parent child.0 t q d.distinct above (ap (key_at f) (sym child.1) ∙ is)).0)
    ]

-- the three answers
pub into-itself : (from parent : List ℕ) (index : ℕ) (g : Forest Node) → is_inner_at from g ≡ true → is_element_at parent g ≡ true → leads_into from parent ≡ true → move_fault from parent index g ≡ Some IntoItself
into-itself from parent index g there element into = faults (is_inner_at from g) (is_element_at parent g) (leads_into from parent) _ there element into
  where
    faults : (a b l : Bool) (rest : Option PlaceFault) → a ≡ true → b ≡ true → l ≡ true → cond (not (a && b)) (Some NoPlace) (cond l (Some IntoItself) rest) ≡ Some IntoItself
    faults a b l rest x y z = rw (x, y, z) refl

pub by-index : (from parent : List ℕ) (index : ℕ) (g : Forest Node) → is_inner_at from g ≡ true → is_element_at parent g ≡ true → leads_into from parent ≡ false → move_fault from parent index g ≡ no_place_unless (has_room_at (once_out from parent) index (removed_at from g))
by-index from parent index g there element out = faults (is_inner_at from g) (is_element_at parent g) (leads_into from parent) _ there element out
  where
    faults : (a b l : Bool) (rest : Option PlaceFault) → a ≡ true → b ≡ true → l ≡ false → cond (not (a && b)) (Some NoPlace) (cond l (Some IntoItself) rest) ≡ rest
    faults a b l rest x y z = rw (x, y, z) refl
