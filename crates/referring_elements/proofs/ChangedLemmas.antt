-- The elements of trees, and those at stops. Throughout, n is a node, c what is under it, r what is after it, and k a key.
use Rattle.std.proofs.Common.{◌≡◌, ◌==◌, ◌||◌, ◌<◌, ◌+◌, ℕ, Bool, true, false, List, [], ◌∷◌, ◌++◌, get_or, length, take, refl, sym, ap, ap₂, ◌∙◌}
use Rattle.std.proofs.Math.Bool.{or-false}
use Rattle.std.proofs.lemmas.Grind.{flat_map-append}
use Rattle.std.proofs.lemmas.List.{take_more}
use Rattle.std.proofs.lemmas.List.Folds.{list_any-append}
use Rattle.forest.specs.Forest.{Forest, Empty, Tree, labels}
use Rattle.forest.specs.Keys.{Keyed}
use Rattle.plain_types.specs.declared.node.Node.{Node}
use Rattle.edit_work.specs.KeyedSources.{element_key, elements_in, is_among}
use Rattle.merged_walk.specs.declared.stop.Stop.{Stop}
use Rattle.reference_reach.specs.MergedNodes.{elements_at_stops, elements_by}
use Rattle.referring_elements.proofs.NodesLeft.{told_of}

pub told-elements : (trees : Forest (Keyed Node)) → told_of element_key trees ≡ elements_in trees
told-elements Empty = refl
told-elements (Tree n c r) =
    ap (λ keys. element_key n ++ keys) (flat_map-append element_key (labels c) (labels r) ∙ ap₂ (λ xs ys. xs ++ ys) (told-elements c) (told-elements r))

or-again : (a b c : Bool) → ((a || b) || c) ≡ (a || (b || c))
or-again true b c = refl
or-again false b c = refl

module _ (tree : Forest (Keyed Node)) (k : ℕ) where
  at-append : (some more : List Stop) → is_among (elements_at_stops tree (some ++ more)) k ≡ (is_among (elements_at_stops tree some) k || is_among (elements_at_stops tree more) k)
  at-append some more =
      ap (λ keys. is_among keys k) (flat_map-append (λ (stop : Stop). elements_by tree stop.way stop.link) some more)
      ∙ list_any-append (λ other. other == k) (elements_at_stops tree some) (elements_at_stops tree more)

  one-stop : (stop : Stop) → is_among (elements_at_stops tree (stop ∷ [])) k ≡ is_among (elements_by tree stop.way stop.link) k
  one-stop stop =
      list_any-append (λ other. other == k) (elements_by tree stop.way stop.link) []
      ∙ or-false (is_among (elements_by tree stop.way stop.link) k)

  -- a stop more
  pub stops-more : (stops : List Stop) (place : ℕ) (default : Stop) (before now next : Bool) → place < length stops
      → now ≡ (before || is_among (elements_at_stops tree (take place stops)) k)
      → next ≡ (now || is_among (elements_by tree (get_or stops place default).way (get_or stops place default).link) k)
      → next ≡ (before || is_among (elements_at_stops tree (take (place + 1) stops)) k)
  stops-more stops place default before now next within had has =
      let stop : Stop = get_or stops place default in
      has
      ∙ ap (λ b. b || is_among (elements_by tree stop.way stop.link) k) had
      ∙ or-again before (is_among (elements_at_stops tree (take place stops)) k) (is_among (elements_by tree stop.way stop.link) k)
      ∙ ap (λ b. before || (is_among (elements_at_stops tree (take place stops)) k || b)) (sym (one-stop stop))
      ∙ ap (λ b. before || b) (sym (at-append (take place stops) (stop ∷ [])))
      ∙ ap (λ some. before || is_among (elements_at_stops tree some) k) (sym (take_more stops place default within))
