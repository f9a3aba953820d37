-- What documents say of nodes, under other keys.
use Rattle.std.proofs.Common.{◌≡◌, ◌+◌, ◌∷◌, ◌++◌, ◌==◌, ℕ, List, [], cond, Option, Some, None, map, refl, sym, ap, ◌∙◌, inl, inr, eq-eqb, eqb-true}
use Rattle.std.proofs.lemmas.Bool.{both_ways, cases_Bool}
use Rattle.std.proofs.lemmas.List.{map-append}
use Rattle.std.specs.Prelude.{option_map, unwrap_or}
use Rattle.std.specs.Option.{option_or}
use Rattle.forest.specs.Forest.{Forest, Empty, Tree, labels}
use Rattle.forest.specs.Keys.{Keyed, without_keys}
use Rattle.forest.specs.Paths.{path_of, route}
use Rattle.forest.specs.Spots.{Spot, children_of, label_of, spot, spot_of}
use Rattle.generated_texts.specs.Keyings.{KeepsApart, rekeyed, rekeyed_node}
use Rattle.generated_texts.proofs.ListLemmas.{or_map}

-- different keys stay different, as a test
abbrev pub AreApart : (ℕ → ℕ) → Type 0
AreApart rekey = (one other : ℕ) → (rekey one == rekey other) ≡ (one == other)

pub tests_apart : (rekey : ℕ → ℕ) → KeepsApart rekey → AreApart rekey
tests_apart rekey keeps one other = elim (cases_Bool (one == other)) [
  | inl e ↦ eq-eqb (rekey one) (rekey other) (ap rekey (eqb-true one other e)) ∙ sym e
  | inr e ↦ elim (cases_Bool (rekey one == rekey other)) [
    | inl f ↦ absurd (both_ways (one == other) e (eq-eqb one other (keeps one other (eqb-true (rekey one) (rekey other) f))))
    | inr f ↦ f ∙ sym e
  ]
]

module _ {L : Type 0} (rekey : ℕ → ℕ) where
  pub same_bare : (trees : Forest (Keyed L)) → without_keys (rekeyed rekey trees) ≡ without_keys trees
  same_bare Empty = refl
  same_bare (Tree node children after) =
      ap (λ below. Tree node.label below (without_keys (rekeyed rekey after))) (same_bare children)
      ∙ ap (Tree node.label (without_keys children)) (same_bare after)

  pub labels_rekeyed : (trees : Forest (Keyed L)) → labels (rekeyed rekey trees) ≡ map (rekeyed_node rekey) (labels trees)
  labels_rekeyed Empty = refl
  labels_rekeyed (Tree node children after) =
      ap (λ nodes. rekeyed_node rekey node ∷ (nodes ++ labels (rekeyed rekey after))) (labels_rekeyed children)
      ∙ ap (λ nodes. rekeyed_node rekey node ∷ (map (rekeyed_node rekey) (labels children) ++ nodes)) (labels_rekeyed after)
      ∙ ap (λ nodes. rekeyed_node rekey node ∷ nodes) (sym (map-append (rekeyed_node rekey) (labels children) (labels after)))

  abbrev pub rekeyed_spot : Spot L → Spot L
  rekeyed_spot place = record {
    parent = option_map rekey place.parent;
    earlier = map (rekeyed_node rekey) place.earlier;
    label = place.label;
    children = rekeyed rekey place.children;
    after = rekeyed rekey place.after;
  }

  module _ (apart : AreApart rekey) where
    same_route : (position : ℕ) (trees : Forest (Keyed L)) (key : ℕ) → route position (rekeyed rekey trees) (rekey key) ≡ route position trees key
    same_route position Empty key = refl
    same_route position (Tree node children after) key =
        ap (λ b. cond b (Some (position ∷ [])) (option_or (option_map (λ steps. position ∷ steps) (route 0 (rekeyed rekey children) (rekey key))) (route (position + 1) (rekeyed rekey after) (rekey key)))) (apart node.key key)
        ∙ ap (λ o. cond (node.key == key) (Some (position ∷ [])) (option_or (option_map (λ steps. position ∷ steps) o) (route (position + 1) (rekeyed rekey after) (rekey key)))) (same_route 0 children key)
        ∙ ap (λ o. cond (node.key == key) (Some (position ∷ [])) (option_or (option_map (λ steps. position ∷ steps) (route 0 children key)) o)) (same_route (position + 1) after key)

    pub same_path : (document : Forest (Keyed L)) (key : ℕ) → path_of (rekeyed rekey document) (rekey key) ≡ path_of document key
    same_path document key = rw (same_route 0 document key) refl

    spot_rekeyed : (parent : Option ℕ) (earlier : List (Keyed L)) (trees : Forest (Keyed L)) (key : ℕ) → spot (option_map rekey parent) (map (rekeyed_node rekey) earlier) (rekeyed rekey trees) (rekey key) ≡ option_map rekeyed_spot (spot parent earlier trees key)
    spot_rekeyed parent earlier Empty key = refl
    spot_rekeyed parent earlier (Tree node children after) key = elim (cases_Bool (node.key == key)) [
      | inl e ↦ rw (apart node.key key, e) refl
      | inr e ↦ rw (apart node.key key, e)
          (ap (λ o. option_or o (spot (option_map rekey parent) (map (rekeyed_node rekey) earlier ++ rekeyed_node rekey node ∷ []) (rekeyed rekey after) (rekey key))) (spot_rekeyed (Some node.key) [] children key)
          ∙ ap (λ nodes. option_or (option_map rekeyed_spot (spot (Some node.key) [] children key)) (spot (option_map rekey parent) nodes (rekeyed rekey after) (rekey key))) (sym (map-append (rekeyed_node rekey) earlier (node ∷ [])))
          ∙ ap (option_or (option_map rekeyed_spot (spot (Some node.key) [] children key))) (spot_rekeyed parent (earlier ++ node ∷ []) after key)
          ∙ or_map rekeyed_spot (spot (Some node.key) [] children key) (spot parent (earlier ++ node ∷ []) after key))
    ]

    pub spot_of_rekeyed : (document : Forest (Keyed L)) (key : ℕ) → spot_of (rekeyed rekey document) (rekey key) ≡ option_map rekeyed_spot (spot_of document key)
    spot_of_rekeyed document key = spot_rekeyed None [] document key

    label_in : (place : Option (Spot L)) → option_map (λ (s : Spot L). s.label) (option_map rekeyed_spot place) ≡ option_map (λ (s : Spot L). s.label) place
    label_in None = refl
    label_in (Some place) = refl

    pub same_label : (document : Forest (Keyed L)) (key : ℕ) → label_of (rekeyed rekey document) (rekey key) ≡ label_of document key
    same_label document key = ap (option_map (λ (s : Spot L). s.label)) (spot_of_rekeyed document key) ∙ label_in (spot_of document key)

    children_in : (place : Option (Spot L)) → unwrap_or (option_map (λ (s : Spot L). s.children) (option_map rekeyed_spot place)) Empty ≡ rekeyed rekey (unwrap_or (option_map (λ (s : Spot L). s.children) place) Empty)
    children_in None = refl
    children_in (Some place) = refl

    pub children_of_rekeyed : (document : Forest (Keyed L)) (key : ℕ) → children_of (rekeyed rekey document) (rekey key) ≡ rekeyed rekey (children_of document key)
    children_of_rekeyed document key = ap (λ place. unwrap_or (option_map (λ (s : Spot L). s.children) place) Empty) (spot_of_rekeyed document key) ∙ children_in (spot_of document key)
