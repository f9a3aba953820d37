-- A document from which a node is taken out: what else stands in it stands under the same ancestors.
use Rattle.std.proofs.Common.{◌≡◌, ◌==◌, ◌<◌, ◌+◌, ◌^◌, ℕ, zero, suc, true, false, cond, List, [], ◌∷◌, ◌++◌, length, Option, Some, None, option_map, refl, sym, ap, subst, ◌∙◌, arith}
use Rattle.std.specs.List.{list_any}
use Rattle.forest.specs.Forest.{Forest, Empty, Tree, size, weigh}
use Rattle.forest.specs.Keys.{Keyed, HasDistinctKeys, times}
use Rattle.forest.specs.Paths.{key_at, on_path, trees_from}
use Rattle.forest.specs.Spots.{Spot, keyed, IsLive, first_key, label_of, on_link, parent_of, children_of}
use Rattle.forest.specs.Changes.{put_children}
use Rattle.forest.proofs.PathLaws.{parent-live}
use Rattle.forest.proofs.SpotLaws.{live-spot, live-counted, counted-live}
use Rattle.plain_types.specs.declared.node.Node.{Node}
use Rattle.node_arena.specs.declared.change.ChildPlace.{ChildPlace}
use Rattle.node_arena.specs.AtPaths.{first_label, from_position, inserted_at, leads_into, moved, once_out, removed_at, with_tree, without_first}
use Rattle.node_arena.specs.Changes.{HasPlace, cut}
use Rattle.node_arena.specs.Document.{IsKeyedDocument}
use Rattle.node_arena.proofs.AtPathLaws.{stays}
use Rattle.node_arena.proofs.EditLaws.{children-changed}
use Rattle.node_arena.proofs.KeyAtLaws.{is-at, on-link-at}
use Rattle.node_arena.proofs.PrepareLaws.{removed-is}
use Rattle.node_arena.proofs.SoundLaws.{document-put_children, sound-around, sound-cut}
use Rattle.node_arena.proofs.TakeLaws.{Taken, branch, taken, weigh-taken}
use Rattle.style_reach.specs.Ancestors.{ancestors_in, inclusive_ancestors, is_within}
use Rattle.style_reach.proofs.AncestorLaws.{ancestors-absent, begins-with, of-child, of-root}
use Rattle.style_reach.proofs.Replaced.{IsReplaced, below, beside, here, put-children}

module _ {L : Type 0} where
  -- where what stands under a node now tells of the same ancestors, so does the document
  ancestors-replaced : (k : ℕ) (l : L) (before now : Forest (Keyed L)) (q : ℕ) → ((above : List (Keyed L)) → ancestors_in above now q ≡ ancestors_in above before q)
      → (f g : Forest (Keyed L)) → IsReplaced k l l before now f g → (above : List (Keyed L)) → ancestors_in above g q ≡ ancestors_in above f q
  ancestors-replaced k l before now q same _ _ (here r) above =
      ap (λ ns. cond (k == q) (keyed k l ∷ above) (ns ++ ancestors_in above r q)) (same (keyed k l ∷ above))
  ancestors-replaced k l before now q same _ _ (below n c c' r deeper) above =
      ap (λ ns. cond (n.key == q) (n ∷ above) (ns ++ ancestors_in above r q)) (ancestors-replaced k l before now q same c c' deeper (n ∷ above))
  ancestors-replaced k l before now q same _ _ (beside n c r r' later) above =
      ap (λ ns. cond (n.key == q) (n ∷ above) (ancestors_in (n ∷ above) c q ++ ns)) (ancestors-replaced k l before now q same r r' later above)

  -- the trees without one of them that does not have the node
  ancestors-without : (i : ℕ) (c : Forest (Keyed L)) (above : List (Keyed L)) (q : ℕ) (m : Keyed L) (t s : Forest (Keyed L)) → trees_from i c ≡ Tree m t s → (m.key == q) ≡ false → times q t ≡ 0
      → ancestors_in above (from_position without_first i c) q ≡ ancestors_in above c q
  ancestors-without zero Empty above q m t s at other none = absurd (cc)
  ancestors-without zero (Tree n d r) above q m t s at other none =
      ap (λ g. ancestors_in above (without_first g) q) at
      ∙ sym (ap (λ g. ancestors_in above g q) at ∙ rw (other, ancestors-absent t (m ∷ above) q none) refl)
  ancestors-without (suc i) Empty above q m t s at other none = absurd (cc)
  ancestors-without (suc i) (Tree n d r) above q m t s at other none =
      ap (λ ns. cond (n.key == q) (n ∷ above) (ancestors_in (n ∷ above) d q ++ ns)) (ancestors-without i r above q m t s at other none)

  -- the same ancestors tell of the same parent
  pub same-parent : (f g : Forest (Keyed L)) (q : ℕ) → HasDistinctKeys f → HasDistinctKeys g → IsLive f q → IsLive g q → inclusive_ancestors f q ≡ inclusive_ancestors g q → parent_of f q ≡ parent_of g q
  same-parent f g q d d' live live' same =
      let s = live-spot f q live in
      let t = live-spot g q live' in
      let label : Some s.0.label ≡ label_of f q = rw s.1 refl in
      let label' : Some t.0.label ≡ label_of g q = rw t.1 refl in
      elim (parent_of f q) as (λ (o : Option ℕ). parent_of f q ≡ o → o ≡ parent_of g q) [
        | None ↦ λ is. elim (parent_of g q) as (λ (o : Option ℕ). parent_of g q ≡ o → None ≡ o) [
          | None ↦ λ is'. refl
          | Some y ↦ λ is'.
              let first = begins-with g y d' (parent-live g q y d' live' is') in
              let one = of-root f q s.0.label d live label is in
              let two = of-child g q y t.0.label d' live' label' is' in
              absurd (cc)
        ] refl
        | Some x ↦ λ is. elim (parent_of g q) as (λ (o : Option ℕ). parent_of g q ≡ o → Some x ≡ o) [
          | None ↦ λ is'.
              let first = begins-with f x d (parent-live f q x d live is) in
              let one = of-child f q x s.0.label d live label is in
              let two = of-root g q t.0.label d' live' label' is' in
              absurd (cc)
          | Some y ↦ λ is'.
              let first = begins-with f x d (parent-live f q x d live is) in
              let second = begins-with g y d' (parent-live g q y d' live' is') in
              let one = of-child f q x s.0.label d live label is in
              let two = of-child g q y t.0.label d' live' label' is' in
              let heads : keyed x first.0 ≡ keyed y second.0 = cc in
              ap (λ (n : Keyed L). Some n.key) heads
        ] refl
      ] refl

-- A node of a document that is taken out, and the document without it.
module _ (f : Forest (Keyed Node)) (q : ℕ) (place : ChildPlace) (d : IsKeyedDocument f) (stands : HasPlace f q place) where
  abbrev pub rest : Forest (Keyed Node)
  rest = cut place f

  abbrev pub its : Taken f q place
  its = taken f q place d stands

  counted : (w : Keyed Node → ℕ) → weigh w rest + weigh w (branch f q place its) ≡ weigh w f
  counted w = weigh-taken w f q place d.distinct its

  pub distinct-rest : HasDistinctKeys rest
  distinct-rest x = omega (arith, counted (λ (n : Keyed Node). cond (n.key == x) 1 0), d.distinct x)

  pub document-rest : IsKeyedDocument rest
  document-rest =
      let children = its.above.children in
      let sound = sound-around f None [] place.parent its.above d.is_tree.sound its.above_at in
      let same : rest ≡ put_children place.parent (from_position without_first place.index children) f = its.rest in
      subst IsKeyedDocument (sym same)
      (document-put_children f place.parent (from_position without_first place.index children) its.above d its.above_at its.element (sound-cut place.index children sound.0)
      (subst HasDistinctKeys same distinct-rest)
      (subst (λ g. size g < 2 ^ 64) same (omega (arith, counted (λ _. 1), d.few))))

  -- what is not in the node that is taken out stays
  pub live-rest : (x : ℕ) → IsLive f x → (q == x) ≡ false → times x its.own.children ≡ 0 → IsLive rest x
  live-rest x live other none =
      let all : times x rest + (cond (q == x) 1 0 + (times x its.own.children + 0)) ≡ times x f = counted (λ (n : Keyed Node). cond (n.key == x) 1 0) in
      let less : times x rest + (0 + (times x its.own.children + 0)) ≡ times x f = rw other at all in
      counted-live rest x (omega (arith, live-counted f x live))

  -- and what stays was not in it
  away : (x : ℕ) → IsLive rest x → ((q == x) ≡ false) × (times x its.own.children ≡ 0)
  away x live =
      let all : times x rest + (cond (q == x) 1 0 + (times x its.own.children + 0)) ≡ times x f = counted (λ (n : Keyed Node). cond (n.key == x) 1 0) in (
        elim (q == x) as (λ b. times x rest + (cond b 1 0 + (times x its.own.children + 0)) ≡ times x f → b ≡ false) [
          | true ↦ λ all. absurd (omega (arith, live-counted rest x live, d.distinct x))
          | false ↦ λ all. refl
        ] all,
        omega (arith, live-counted rest x live, d.distinct x),
      )

  live-whole : (x : ℕ) → IsLive rest x → IsLive f x
  live-whole x live = counted-live f x (omega (arith, counted (λ (n : Keyed Node). cond (n.key == x) 1 0), live-counted rest x live))

  pub ancestors-rest : (x : ℕ) → IsLive rest x → inclusive_ancestors rest x ≡ inclusive_ancestors f x
  ancestors-rest x live =
      let no = away x live in
      let now = from_position without_first place.index its.above.children in
      ap (λ g. inclusive_ancestors g x) its.rest
      ∙ ancestors-replaced place.parent its.above.label its.above.children now x
      (λ above. ancestors-without place.index its.above.children above x (keyed q its.own.label) its.own.children its.own.after its.here no.0 no.1)
      f (put_children place.parent now f) (put-children f None [] place.parent now its.above d.distinct its.above_at) []

  pub within-rest : (top x : ℕ) → IsLive rest x → is_within rest top x ≡ is_within f top x
  within-rest top x live = ap (list_any (λ (n : Keyed Node). n.key == top)) (ancestors-rest x live)

  pub parent-rest : (x : ℕ) → IsLive rest x → parent_of rest x ≡ parent_of f x
  parent-rest x live = same-parent rest f x distinct-rest d.distinct live (live-whole x live) (ancestors-rest x live)

  -- A node that is moved.
  module _ (from parent : List ℕ) (index t : ℕ) (at_q : key_at f from ≡ Some q) (at_t : key_at f parent ≡ Some t) (long : 0 < length from) (out : leads_into from parent ≡ false) where
    first-key : (g : Forest (Keyed Node)) → first_key g ≡ option_map (λ (n : Keyed Node). n.key) (first_label g)
    first-key Empty = refl
    first-key (Tree n c r) = refl

    gone : removed_at from f ≡ rest
    gone = removed-is f from q place d at_q stands

    same-node : first_label (on_path (once_out from parent) rest) ≡ first_label (on_path parent f)
    same-node = ap (λ x. first_label (on_path (once_out from parent) x)) (sym gone) ∙ (stays from parent f long out).0

    pub there : key_at rest (once_out from parent) ≡ Some t
    there =
        first-key (on_path (once_out from parent) rest)
        ∙ ap (option_map (λ (n : Keyed Node). n.key)) same-node
        ∙ sym (first-key (on_path parent f))
        ∙ at_t

    -- its new parent keeps its label
    pub label-rest : label_of rest t ≡ label_of f t
    label-rest =
        let mid = is-at rest (once_out from parent) t distinct-rest there in
        let old = is-at f parent t d.distinct at_t in
        let same : Some (keyed t mid.spot.label) ≡ Some (keyed t old.spot.label) = ap first_label (sym mid.on) ∙ same-node ∙ ap first_label old.on in
        ap (option_map (λ (s : Spot Node). s.label)) mid.at ∙ ap (option_map (λ (n : Keyed Node). n.label)) same ∙ sym (ap (option_map (λ (s : Spot Node). s.label)) old.at)

    pub moved-is : moved from parent index f ≡ put_children t (with_tree index (on_link f (Some q)) (children_of rest t)) rest
    moved-is =
        ap (λ x. inserted_at (once_out from parent) index x (removed_at from f)) (on-link-at f from q d.distinct at_q)
        ∙ ap (inserted_at (once_out from parent) index (on_link f (Some q))) gone
        ∙ children-changed (with_tree index (on_link f (Some q))) rest (once_out from parent) t distinct-rest there
