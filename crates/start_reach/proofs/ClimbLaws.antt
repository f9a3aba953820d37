-- The way to a node is that to its parent, and the node. Throughout, n is a node, c what is under it, r what is after it, f trees, p
-- the parent of a level and e the nodes of the level before it, and k a key.
use Rattle.std.proofs.Common.{◌≡◌, ◌==◌, ◌<◌, ◌+◌, ◌⊎◌, ℕ, Bool, true, false, cond, List, [], ◌∷◌, ◌++◌, Option, Some, None, refl, sym, ap, ◌∙◌, inl, inr, arith, eq-eqb, eqb-true}
use Rattle.std.specs.Prelude.{option_and_then, option_map, unwrap_or}
use Rattle.std.specs.Option.{option_map_or, option_or}
use Rattle.std.proofs.lemmas.Bool.{cases_Bool}
use Rattle.std.proofs.lemmas.Option.{none-some, same_Some}
use Rattle.forest.specs.Forest.{Forest, Empty, Tree}
use Rattle.forest.specs.Keys.{Keyed, HasDistinctKeys, times}
use Rattle.forest.specs.Spots.{Spot, spot, spot_of}
use Rattle.forest.proofs.SpotLaws.{below-or-after, distinct-parts, first_found, live-spot, not-root, some_or_none, the_spot}
use Rattle.start_reach.specs.Laws.{WaysAreClimbed}
use Rattle.start_reach.specs.TurnedElements.{way_in, way_to}

module _ {L : Type 0} where
  abbrev go_on : Keyed L → (c r : Forest (Keyed L)) → ℕ → Option (List ℕ)
  go_on n c r k = option_or (option_map (λ way. n.key ∷ way) (way_in c k)) (way_in r k)

  way-there : (n : Keyed L) (c r : Forest (Keyed L)) (k : ℕ) (b : Bool) → (n.key == k) ≡ b → way_in (Tree n c r) k ≡ cond b (Some (n.key ∷ [])) (go_on n c r k)
  way-there n c r k b is = ap (λ b. cond b (Some (n.key ∷ [])) (go_on n c r k)) is

  -- under a key that no node has there is no way
  no-way : (f : Forest (Keyed L)) (k : ℕ) → times k f ≡ 0 → way_in f k ≡ None
  no-way Empty k none = refl
  no-way (Tree n c r) k none =
      let other : (n.key == k) ≡ false =
      elim (n.key == k) as (λ b. cond {A = ℕ} b 1 0 + (times k c + times k r) ≡ 0 → b ≡ false) [ true ↦ λ h. absurd (omega (arith, h)) | false ↦ λ h. refl ] none in
      way-there n c r k false other
      ∙ ap (λ o. option_or (option_map (λ way. n.key ∷ way) o) (way_in r k)) (no-way c k (omega (arith, none)))
      ∙ no-way r k (omega (arith, none))

  -- a way leads to a node
  way-counted : (f : Forest (Keyed L)) (k : ℕ) (way : List ℕ) → way_in f k ≡ Some way → 0 < times k f
  way-counted f k way is = elim (some_or_none (times k f)) [
    | inl none ↦ absurd (none-some way (sym (no-way f k none) ∙ is))
    | inr some ↦ some
  ]

  -- a node with a way in the children of another, and one with a way behind it
  way-inside : (n : Keyed L) (c r : Forest (Keyed L)) (k : ℕ) (way : List ℕ) → HasDistinctKeys (Tree n c r) → way_in c k ≡ Some way → way_in (Tree n c r) k ≡ Some (n.key ∷ way)
  way-inside n c r k way d is =
      let there = way-counted c k way is in
      way-there n c r k false (not-root n c r k d (omega (arith, there))) ∙ ap (λ o. option_or (option_map (λ way. n.key ∷ way) o) (way_in r k)) is

  way-after : (n : Keyed L) (c r : Forest (Keyed L)) (k : ℕ) (way : List ℕ) → HasDistinctKeys (Tree n c r) → way_in r k ≡ Some way → way_in (Tree n c r) k ≡ Some way
  way-after n c r k way d is =
      let there = way-counted r k way is in
      way-there n c r k false (not-root n c r k d (omega (arith, there)))
      ∙ ap (λ o. option_or (option_map (λ way. n.key ∷ way) o) (way_in r k)) (no-way c k (below-or-after n c r k d there))
      ∙ is

  way-own : (n : Keyed L) (c r : Forest (Keyed L)) → way_in (Tree n c r) n.key ≡ Some (n.key ∷ [])
  way-own n c r = way-there n c r n.key true (eq-eqb n.key n.key refl)

  -- A node is a root, or has a parent, to which there is a way.
  record Under (f : Forest (Keyed L)) (k q : ℕ) : Type 0 where
    pub way : List ℕ
    pub above : way_in f q ≡ Some way
    pub there : way_in f k ≡ Some (way ++ k ∷ [])

  record HasParent (f : Forest (Keyed L)) (k : ℕ) (s : Spot L) : Type 0 where
    pub parent : ℕ
    pub is : s.parent ≡ Some parent
    pub under : Under f k parent

  abbrev Climbs : Option ℕ → Forest (Keyed L) → ℕ → Spot L → Type 0
  Climbs p f k s = ((s.parent ≡ p) × (way_in f k ≡ Some (k ∷ []))) ⊎ HasParent f k s

  climbs : (f : Forest (Keyed L)) (p : Option ℕ) (e : List (Keyed L)) (k : ℕ) (s : Spot L) → HasDistinctKeys f → spot p e f k ≡ Some s → Climbs p f k s
  climbs Empty p e k s d at = absurd (none-some s at)
  climbs (Tree n c r) p e k s d at =
      let parts = distinct-parts n c r d in
      let here : Option (Spot L) = Some (the_spot p e n.label c r) in
      let rest : Option (Spot L) = option_or (spot (Some n.key) [] c k) (spot p (e ++ n ∷ []) r k) in
      elim (cases_Bool (n.key == k)) [
        | inl is ↦
            let same : the_spot p e n.label c r ≡ s = same_Some (the_spot p e n.label c r) s (sym (ap (λ b. cond b here rest) is) ∙ at) in
            inl (sym (ap (λ (s : Spot L). s.parent) same), way-there n c r k true is ∙ ap (λ key. Some (key ∷ [])) (eqb-true n.key k is))
        | inr other ↦
            elim (first_found (spot (Some n.key) [] c k) (spot p (e ++ n ∷ []) r k) s (sym (ap (λ b. cond b here rest) other) ∙ at)) [
              | inl below ↦ in-children (climbs c (Some n.key) [] k s parts.0 below)
              | inr beside ↦ in-rest (climbs r p (e ++ n ∷ []) k s parts.1 beside.1)
            ]
      ]
    where
      in-children : Climbs (Some n.key) c k s → Climbs p (Tree n c r) k s
      in-children (inl root) =
          inr (record { parent = n.key; is = root.0; under = record { way = n.key ∷ []; above = way-own n c r; there = way-inside n c r k (k ∷ []) d root.1 } })
      in-children (inr h) =
          inr (record {
            parent = h.parent;
            is = h.is;
            under = record { way = n.key ∷ h.under.way; above = way-inside n c r h.parent h.under.way d h.under.above; there = way-inside n c r k (h.under.way ++ k ∷ []) d h.under.there };
          })

      in-rest : Climbs p r k s → Climbs p (Tree n c r) k s
      in-rest (inl root) = inl (root.0, way-after n c r k (k ∷ []) d root.1)
      in-rest (inr h) =
          inr (record {
            parent = h.parent;
            is = h.is;
            under = record { way = h.under.way; above = way-after n c r h.parent h.under.way d h.under.above; there = way-after n c r k (h.under.way ++ k ∷ []) d h.under.there };
          })

  -- so it is in a document
  climbs-by : (f : Forest (Keyed L)) (k : ℕ) (s : Spot L) → HasDistinctKeys f → spot_of f k ≡ Some s → (o : Option ℕ) → s.parent ≡ o → way_to f k ≡ option_map_or (way_to f) o [] ++ k ∷ []
  climbs-by f k s d at o is = by (climbs f None [] k s d at) o is
    where
      by : Climbs None f k s → (o : Option ℕ) → s.parent ≡ o → way_to f k ≡ option_map_or (way_to f) o [] ++ k ∷ []
      by (inl h) None is = ap (λ o. unwrap_or o []) h.1
      by (inl h) (Some q) is = absurd (none-some q (sym h.0 ∙ is))
      by (inr h) None is = absurd (none-some h.parent (sym is ∙ h.is))
      by (inr h) (Some q) is =
          let same : h.parent ≡ q = same_Some h.parent q (sym h.is ∙ is) in
          ap (λ o. unwrap_or o []) h.under.there
          ∙ ap (λ way. way ++ k ∷ []) (sym (ap (λ o. unwrap_or o []) h.under.above))
          ∙ ap (λ q. way_to f q ++ k ∷ []) same

pub ways_are_climbed : (L : Type 0) → WaysAreClimbed L
ways_are_climbed L document distinct key live =
    let s = live-spot document key live in
    climbs-by document key s.0 distinct s.1 s.0.parent refl
    ∙ ap (λ o. option_map_or (way_to document) o [] ++ key ∷ []) (sym (ap (option_and_then (λ (s : Spot L). s.parent)) s.1))
