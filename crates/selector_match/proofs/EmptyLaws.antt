-- Children that are nothing.
use Rattle.std.proofs.Common.{◌≡◌, ◌==◌, ◌<◌, ◌+◌, ℕ, Bool, true, false, List, length, Option, Some, option_and_then, refl, sym, ap, ◌∙◌, arith}
use Rattle.std.specs.Option.{option_map_or}
use Rattle.forest.specs.Forest.{Forest, Tree, size}
use Rattle.forest.specs.Keys.{Keyed, HasDistinctKeys, without_keys}
use Rattle.forest.specs.Spots.{keyed, IsLive, on_link, label_of, children_of, after_of, next_sibling_of}
use Rattle.forest.proofs.SpotLaws.{live-spot, on_next, on_key}
use Rattle.plain_types.specs.declared.node.Node.{Node}
use Rattle.plain_types.specs.declared.node.Node.TheVariants as node
use Rattle.node_arena.specs.Nodes.{node_characters, characters_of}
use Rattle.selector_match.specs.Elements.{are_nothing}

abbrev is_nothing : Option (List ℕ) → Bool
is_nothing o = option_map_or (λ characters. length characters == 0) o false

nothing-step : (k : ℕ) (l : Node) (c r : Forest (Keyed Node)) → is_nothing (node_characters l) ≡ true → are_nothing (without_keys (Tree (keyed k l) c r)) ≡ are_nothing (without_keys r)
nothing-step k (node.Element name attrs) c r h = absurd (cc)
nothing-step k (node.Text characters) c r h = rw h refl

something-step : (k : ℕ) (l : Node) (c r : Forest (Keyed Node)) → is_nothing (node_characters l) ≡ false → are_nothing (without_keys (Tree (keyed k l) c r)) ≡ false
something-step k (node.Element name attrs) c r h = refl
something-step k (node.Text characters) c r h = rw h refl

module _ (f : Forest (Keyed Node)) (q : ℕ) (live : IsLive f q) where
  label : Node
  label = (live-spot f q live).0.label

  label-is : label_of f q ≡ Some label
  unfolding label
  label-is = rw (live-spot f q live).1 refl

  here : on_link f (Some q) ≡ Tree (keyed q label) (children_of f q) (after_of f q)
  here = on_key f q label live (sym label-is)

  pub something : is_nothing (characters_of f q) ≡ false → are_nothing (without_keys (on_link f (Some q))) ≡ false
  something h = ap (λ g. are_nothing (without_keys g)) here ∙ something-step q label (children_of f q) (after_of f q) (ap (λ o. is_nothing (option_and_then node_characters o)) (sym label-is) ∙ h)

  pub nothing : HasDistinctKeys f → is_nothing (characters_of f q) ≡ true → are_nothing (without_keys (on_link f (next_sibling_of f q))) ≡ are_nothing (without_keys (on_link f (Some q)))
  nothing d h =
      ap (λ g. are_nothing (without_keys g)) (on_next f q d live).0
      ∙ sym (ap (λ g. are_nothing (without_keys g)) here ∙ nothing-step q label (children_of f q) (after_of f q) (ap (λ o. is_nothing (option_and_then node_characters o)) (sym label-is) ∙ h))

  pub fewer : HasDistinctKeys f → size (on_link f (next_sibling_of f q)) < size (on_link f (Some q))
  fewer d =
      let after : size (on_link f (next_sibling_of f q)) ≡ size (after_of f q) = ap size (on_next f q d live).0 in
      let all : size (on_link f (Some q)) ≡ 1 + (size (children_of f q) + size (after_of f q)) = ap size here in
      omega arith
