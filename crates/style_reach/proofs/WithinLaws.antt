-- What stands in a node is that node and what stands under it.
use Rattle.std.proofs.Common.{◌≡◌, ◌==◌, ◌<◌, ◌≤◌, ◌||◌, ◌⊎◌, ℕ, zero, suc, Bool, true, false, List, [], ◌∷◌, ◌++◌, length, Option, Some, None, is_some, refl, sym, ap, subst, ◌∙◌, inl, inr, arith, eqb-true, eq-eqb}
use Rattle.std.specs.List.{list_any}
use Rattle.std.proofs.lemmas.Option.{none-some, same_Some}
use Rattle.forest.specs.Forest.{Forest, Empty, Tree}
use Rattle.forest.specs.Keys.{Keyed, HasDistinctKeys, times}
use Rattle.forest.specs.Spots.{Spot, spot, spot_of, IsLive, children_of, index_of, label_of, parent_of}
use Rattle.forest.proofs.PathLaws.{parent-live}
use Rattle.forest.proofs.SiblingLaws.{child-index}
use Rattle.forest.proofs.SpotLaws.{chosen, distinct-parts, first_found, live-spot, spot-absent, spot-below, spot-beside, spot-some, the_some}
use Rattle.plain_types.specs.declared.node.Node.{Node}
use Rattle.node_arena.specs.Reversals.{is_live}
use Rattle.node_arena.proofs.HangLaws.{root-counted}
use Rattle.style_reach.specs.Ancestors.{inclusive_ancestors, is_within}
use Rattle.style_reach.specs.Laws.{IsWithinByChildren}
use Rattle.style_reach.proofs.AncestorLaws.{begins-with, of-child, of-root, outside}
use Rattle.style_reach.proofs.Replaced.{few}

module _ {L : Type 0} where
  -- where a node stands under another, it stands among the other's children
  spot-inside : (f : Forest (Keyed L)) (p : Option ℕ) (e : List (Keyed L)) (g q : ℕ) (s t : Spot L) → HasDistinctKeys f → spot p e f g ≡ Some s → spot p e f q ≡ Some t → 0 < times q s.children
      → spot (Some g) [] s.children q ≡ Some t
  spot-inside Empty p e g q s t d is at some = absurd (none-some s is)
  spot-inside (Tree n c r) p e g q s t d is at some =
      let parts = distinct-parts n c r d in
      elim (chosen (n.key == g) _ _ _ is) [
        | inl h ↦
            let children : c ≡ s.children = ap (λ (u : Spot L). u.children) (same_Some _ _ h.1) in
            let there : 0 < times q c = subst (λ x. 0 < times q x) (sym children) some in
            subst (λ k. spot (Some k) [] s.children q ≡ Some t) (eqb-true n.key g h.0) (subst (λ x. spot (Some n.key) [] x q ≡ Some t) children (in-children n c r p e q t d at there))
        | inr h ↦ elim (first_found _ _ s h.1) [
          | inl a ↦
              let within : times q s.children ≤ times q c = few c (Some n.key) [] g q s a in
              let there : 0 < times q c = omega arith in
              spot-inside c (Some n.key) [] g q s t parts.0 a (in-children n c r p e q t d at there) some
          | inr b ↦
              let within : times q s.children ≤ times q r = few r p (e ++ n ∷ []) g q s b.1 in
              let there : 0 < times q r = omega arith in
              spot-inside r p (e ++ n ∷ []) g q s t parts.1 b.1 (among-others n c r p e q t d at there) some
        ]
      ]
    where
      in-children : (n : Keyed L) (c r : Forest (Keyed L)) (p : Option ℕ) (e : List (Keyed L)) (q : ℕ) (t : Spot L) → HasDistinctKeys (Tree n c r) → spot p e (Tree n c r) q ≡ Some t → 0 < times q c → spot (Some n.key) [] c q ≡ Some t
      in-children n c r p e q t d at there =
          let u = the_some (spot (Some n.key) [] c q) (spot-some c (Some n.key) [] q there) in
          u.1 ∙ sym (spot-below p e n c r q u.0 d u.1) ∙ at

      among-others : (n : Keyed L) (c r : Forest (Keyed L)) (p : Option ℕ) (e : List (Keyed L)) (q : ℕ) (t : Spot L) → HasDistinctKeys (Tree n c r) → spot p e (Tree n c r) q ≡ Some t → 0 < times q r → spot p (e ++ n ∷ []) r q ≡ Some t
      among-others n c r p e q t d at there =
          let u = the_some (spot p (e ++ n ∷ []) r q) (spot-some r p (e ++ n ∷ []) q there) in
          u.1 ∙ sym (spot-beside p e n c r q u.0 d u.1) ∙ at

module _ (f : Forest (Keyed Node)) (top : ℕ) (s : Spot Node) (d : HasDistinctKeys f) (at : spot_of f top ≡ Some s) where
  -- a node that is in it is it, or comes under it
  inside : (n q : ℕ) → length (inclusive_ancestors f q) ≤ n → IsLive f q → is_within f top q ≡ true → (top ≡ q) ⊎ (0 < times q s.children)
  inside zero q few_are live within = let first = begins-with f q d live in absurd (omega (arith, ap length first.2))
  inside (suc n) q few_are live within =
      let t = live-spot f q live in
      let label : Some t.0.label ≡ label_of f q = rw t.1 refl in
      let test : Keyed Node → Bool = λ m. m.key == top in
      elim (q == top) as (λ b. (q == top) ≡ b → (top ≡ q) ⊎ (0 < times q s.children)) [
        | true ↦ λ is. inl (sym (eqb-true q top is))
        | false ↦ λ other. elim (parent_of f q) as (λ (o : Option ℕ). parent_of f q ≡ o → (top ≡ q) ⊎ (0 < times q s.children)) [
          | None ↦ λ parent.
              absurd (let never : false ≡ true = sym (ap (λ b. b || false) other) ∙ sym (ap (list_any test) (of-root f q t.0.label d live label parent)) ∙ within in cc)
          | Some x ↦ λ parent.
              let all = of-child f q x t.0.label d live label parent in
              let live_x = parent-live f q x d live parent in
              let child : 0 < times q (children_of f x) = root-counted (children_of f x) (index_of f q) q (child-index f q x d live parent) in
              inr (elim (inside n x (omega (arith, ap length all)) live_x (sym (ap (λ b. b || is_within f top x) other) ∙ sym (ap (list_any test) all) ∙ within)) [
                | inl here ↦ let children : children_of f top ≡ s.children = rw at refl in subst (λ g. 0 < times q g) (ap (children_of f) (sym here) ∙ children) child
                | inr below ↦
                    let u = live-spot f x live_x in
                    let children : children_of f x ≡ u.0.children = rw u.1 refl in
                    let there : 0 < times q u.0.children = subst (λ g. 0 < times q g) children child in
                    let within_x : times q u.0.children ≤ times q s.children = few s.children (Some top) [] x q u.0 (spot-inside f None [] top x s u.0 d at u.1 below) in
                    omega arith
              ])
        ] refl
      ] refl

  or-true : (b : Bool) → (b || true) ≡ true
  or-true true = refl
  or-true false = refl

  by-children : (q : ℕ) → IsLive f q → is_within f top q ≡ ((top == q) || is_live s.children q)
  by-children q live =
      elim (is_within f top q) as (λ b. is_within f top q ≡ b → b ≡ ((top == q) || is_live s.children q)) [
        | true ↦ λ is. elim (inside (length (inclusive_ancestors f q)) q (omega arith) live is) [
          | inl same ↦ sym (ap (λ b. b || is_live s.children q) (eq-eqb top q same))
          | inr below ↦ sym (ap (λ b. (top == q) || b) (spot-some s.children None [] q below) ∙ or-true (top == q))
        ]
        | false ↦ λ is.
            let out = outside f top q s d at live is in
            sym (ap (λ b. b || is_live s.children q) out.0 ∙ ap (λ o. is_some o) (spot-absent s.children None [] q out.1))
      ] refl

pub within-by-children : IsWithinByChildren
within-by-children tree distinct top key live there =
    let s = live-spot tree top live in
    let children : children_of tree top ≡ s.0.children = rw s.1 refl in
    by-children tree top s.0 distinct s.1 key there ∙ ap (λ g. (top == key) || is_live g key) (sym children)
