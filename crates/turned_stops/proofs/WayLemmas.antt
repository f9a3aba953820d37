-- A climb from a node to the root, which gathers its way. Throughout, f is a document, k the node's key, and o the link of the next node.
use Rattle.std.proofs.Common.{◌≡◌, ◌<◌, ◌||◌, ℕ, Bool, true, false, List, [], ◌∷◌, ◌++◌, Option, Some, length, reverse, sym, ap, subst, ◌∙◌, arith, append_assoc, append-nil, length-append}
use Rattle.std.specs.Prelude.{All}
use Rattle.std.specs.List.{list_any}
use Rattle.std.specs.Option.{option_map_or}
use Rattle.std.proofs.Math.Bool.{or-false}
use Rattle.std.proofs.lemmas.Bool.{or_right}
use Rattle.std.proofs.lemmas.List.{reverse-append}
use Rattle.std.proofs.lemmas.List.Elements.{All-cons, All-nil}
use Rattle.std.proofs.lemmas.List.Folds.{list_any-append}
use Rattle.forest.specs.Forest.{Forest}
use Rattle.forest.specs.Keys.{Keyed, HasDistinctKeys}
use Rattle.forest.specs.Spots.{IsLink, IsLive, parent_of}
use Rattle.plain_types.specs.declared.node.Node.{Node}
use Rattle.start_reach.specs.TurnedElements.{way_to}
use Rattle.start_reach.proofs.ClimbLaws.{ways_are_climbed}

module _ (f : Forest (Keyed Node)) where
  abbrev pub way_on : Option ℕ → List ℕ
  way_on o = option_map_or (way_to f) o []

  -- the climb has these nodes of the way, from the node up, and goes on at the link
  pub record IsClimbed (k : ℕ) (o : Option ℕ) (nodes : List ℕ) : Type 0 where
    pub link_is : IsLink f o
    pub way : way_to f k ≡ way_on o ++ reverse nodes
    pub live : All (IsLive f) (reverse nodes)

  pub climb-begins : (k : ℕ) (nodes : List ℕ) → IsLive f k → nodes ≡ [] → IsClimbed k (Some k) nodes
  climb-begins k nodes live none =
      subst (λ nodes. IsClimbed k (Some k) nodes) (sym none) (record { link_is = live; way = sym (append-nil (way_to f k)); live = All-nil (IsLive f) })

  module _ (distinct : HasDistinctKeys f) where
    climbed : (at : ℕ) → IsLive f at → way_to f at ≡ way_on (parent_of f at) ++ at ∷ []
    climbed at live = ways_are_climbed Node f distinct at live

    shorter : (at : ℕ) → IsLive f at → length (way_on (parent_of f at)) < length (way_to f at)
    shorter at live = omega (arith, ap (λ (way : List ℕ). length way) (climbed at live), length-append (way_on (parent_of f at)) (at ∷ []))

    pub climb-turn : (k at : ℕ) (o next : Option ℕ) (nodes grown : List ℕ) → IsClimbed k o nodes → o ≡ Some at → grown ≡ nodes ++ at ∷ [] → next ≡ parent_of f at → IsLink f next
        → IsClimbed k next grown × (length (way_on next) < length (way_on o))
    climb-turn k at o next nodes grown h is more above link =
        let live : IsLive f at = subst (IsLink f) is h.link_is in
        let reversed : reverse grown ≡ at ∷ reverse nodes = ap reverse more ∙ reverse-append nodes (at ∷ []) in
        let way : way_to f k ≡ way_on next ++ reverse grown =
        h.way
        ∙ ap (λ o. way_on o ++ reverse nodes) is
        ∙ ap (λ way. way ++ reverse nodes) (climbed at live)
        ∙ append_assoc (way_on (parent_of f at)) (at ∷ []) (reverse nodes)
        ∙ ap (λ o. way_on o ++ (at ∷ reverse nodes)) (sym above)
        ∙ ap (λ nodes. way_on next ++ nodes) (sym reversed) in
        let less : length (way_on (parent_of f at)) < length (way_to f at) = shorter at live in
        let fewer : length (way_on next) < length (way_on o) =
        subst (λ o. length (way_on next) < length (way_on o)) (sym is) (subst (λ o. length (way_on o) < length (way_to f at)) (sym above) less) in (
          record { link_is = link; way = way; live = subst (All (IsLive f)) (sym reversed) (All-cons (IsLive f) at (reverse nodes) live h.live) },
          fewer,
        )

    -- A test of the nodes on the way.
    module _ (test : ℕ → Bool) where
      either-part : (at : ℕ) → IsLive f at → list_any test (way_to f at) ≡ (list_any test (way_on (parent_of f at)) || (test at || false))
      either-part at live = ap (list_any test) (climbed at live) ∙ list_any-append test (way_on (parent_of f at)) (at ∷ [])

      pub test-here : (at : ℕ) → IsLive f at → test at ≡ true → list_any test (way_to f at) ≡ true
      test-here at live is =
          either-part at live ∙ or_right (list_any test (way_on (parent_of f at))) (test at || false) (ap (λ b. b || false) is)

      pub test-above : (at : ℕ) (next : Option ℕ) → IsLive f at → test at ≡ false → next ≡ parent_of f at → list_any test (way_to f at) ≡ list_any test (way_on next)
      test-above at next live not above =
          either-part at live
          ∙ ap (λ b. list_any test (way_on (parent_of f at)) || (b || false)) not
          ∙ or-false (list_any test (way_on (parent_of f at)))
          ∙ ap (λ o. list_any test (way_on o)) (sym above)

    pub step-up : (at x : ℕ) → IsLive f at → Some x ≡ parent_of f at → length (way_to f x) < length (way_to f at)
    step-up at x live above = subst (λ o. length (way_on o) < length (way_to f at)) (sym above) (shorter at live)
