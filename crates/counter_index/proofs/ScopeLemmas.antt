-- The scope of a counter, read from where its creator's element stands.
use Rattle.std.proofs.Common.{◌≡◌, ◌==◌, ◌<◌, ◌+◌, ◌++◌, ◌∷◌, ◌||◌, ℕ, Bool, true, false, cond, List, [], Option, Some, None, inl, inr, refl, sym, ap, ◌∙◌, arith, append-nil, eqb-true}
use Rattle.std.specs.Option.{option_map_or}
use Rattle.std.proofs.lemmas.Option.{none-some, same_Some}
use Rattle.forest.specs.Forest.{Forest, Empty, Tree}
use Rattle.forest.specs.Keys.{Keyed, HasDistinctKeys, times}
use Rattle.forest.specs.Spots.{IsLive, Spot, after_of, children_of, parent_of, root_keys, spot}
use Rattle.forest.proofs.SpotLaws.{below-or-after, chosen, distinct-parts, first_found, live-spot, spot-counted}
use Rattle.plain_types.specs.declared.box_id.BoxId.{BoxId}
use Rattle.box_eval.specs.declared.change.Change.{Change}
use Rattle.edit_work.specs.KeyedSources.{is_among}
use Rattle.scope_deeds.specs.Counting.{Counting}
use Rattle.scope_deeds.specs.KeptScopes.{kept_after, kept_from, kept_scope}

no_parent : (b : Bool) (read : List Change) → read ++ cond b [] [] ≡ read
no_parent true read = append-nil read
no_parent false read = append-nil read

module _ (kept : ℕ → Option Counting) where
  -- what the after box of a parent does
  abbrev pub up : Option ℕ → List Change
  up parent = option_map_or (kept_after kept) parent []

module _ {L : Type 0} (kept : ℕ → Option Counting) (creator : BoxId) (name : List ℕ) where
  -- where the creator's element does not stand nothing is read
  absent : (f : Forest (Keyed L)) → times creator.key f ≡ 0 → (kept_scope kept creator name f ≡ []) × (is_among (root_keys f) creator.key ≡ false)
  absent Empty none = (refl, refl)
  absent (Tree n c r) none =
      elim (n.key == creator.key) as (λ b. cond b 1 0 + (times creator.key c + times creator.key r) ≡ 0
      → (cond b (kept_from kept creator name creator.kind n.key c r)
      (kept_scope kept creator name c ++ (cond (is_among (root_keys c) creator.key) (kept_after kept n.key) [] ++ kept_scope kept creator name r)) ≡ [])
      × ((b || is_among (root_keys r) creator.key) ≡ false)) [
        | true ↦ λ none. absurd (omega arith)
        | false ↦ λ none.
            let below = absent c (omega arith) in
            let beside = absent r (omega arith) in
            rw (below.0, below.1, beside.0, beside.1) (refl, refl)
      ] none

  scope-spot : (f : Forest (Keyed L)) (p : Option ℕ) (e : List (Keyed L)) (s : Spot L) → HasDistinctKeys f → spot p e f creator.key ≡ Some s
      → kept_scope kept creator name f ++ cond (is_among (root_keys f) creator.key) (up kept p) []
      ≡ kept_from kept creator name creator.kind creator.key s.children s.after ++ up kept s.parent
  scope-spot Empty p e s d at = absurd (none-some s at)
  scope-spot (Tree n c r) p e s d at =
      let parts = distinct-parts n c r d in
      elim (chosen (n.key == creator.key) _ _ _ at) [
        | inl h ↦
            rw h.0
            (ap (λ (there : Spot L). kept_from kept creator name creator.kind n.key there.children there.after ++ up kept there.parent) (same_Some _ _ h.1)
            ∙ ap (λ key. kept_from kept creator name creator.kind key s.children s.after ++ up kept s.parent) (eqb-true n.key creator.key h.0))
        | inr h ↦ elim (first_found _ _ s h.1) [
          | inl a ↦
              let there : 0 < times creator.key c = spot-counted c (Some n.key) [] creator.key s a in
              let none : times creator.key r ≡ 0 = omega (arith, d creator.key) in
              let beside = absent r none in
              let last : List Change = cond (is_among (root_keys c) creator.key) (kept_after kept n.key) [] in
              rw (h.0, beside.0, beside.1)
              (append-nil (kept_scope kept creator name c ++ (last ++ []))
              ∙ ap (λ read. kept_scope kept creator name c ++ read) (append-nil last)
              ∙ scope-spot c (Some n.key) [] s parts.0 a)
          | inr b ↦
              let there : 0 < times creator.key r = spot-counted r p (e ++ n ∷ []) creator.key s b.1 in
              let below = absent c (below-or-after n c r creator.key d there) in
              rw (h.0, below.0, below.1) (scope-spot r p (e ++ n ∷ []) s parts.1 b.1)
        ]
      ]

  pub scope-at : (f : Forest (Keyed L)) → HasDistinctKeys f → IsLive f creator.key
      → kept_scope kept creator name f
      ≡ kept_from kept creator name creator.kind creator.key (children_of f creator.key) (after_of f creator.key) ++ up kept (parent_of f creator.key)
  scope-at f d live =
      let s = live-spot f creator.key live in
      rw s.1 (sym (no_parent (is_among (root_keys f) creator.key) (kept_scope kept creator name f)) ∙ scope-spot f None [] s.0 d s.1)
