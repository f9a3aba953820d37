-- The turns of a walk over the nodes under a node, which tells something of each: a node is reached, and left.
use Rattle.std.proofs.Common.{◌≡◌, ◌<◌, ◌+◌, ℕ, List, [], ◌∷◌, ◌++◌, Option, Some, None, flat_map, reverse, refl, sym, ap, subst, ◌∙◌, arith, append_assoc, append-nil}
use Rattle.std.specs.Option.{option_map_or}
use Rattle.std.proofs.lemmas.Grind.{flat_map-append}
use Rattle.std.proofs.lemmas.List.{reverse-append}
use Rattle.forest.specs.Forest.{Forest, Tree, labels}
use Rattle.forest.specs.Keys.{Keyed, HasDistinctKeys}
use Rattle.forest.specs.Spots.{IsLink, IsLive, after_of, children_of, first_child_of, keyed, label_of, next_sibling_of, on_link}
use Rattle.forest.proofs.SpotLaws.{live-spot, on_first, on_key, on_next}
use Rattle.plain_types.specs.declared.node.Node.{Node}
use Rattle.node_arena.specs.Changes.{alone}
use Rattle.referring_elements.proofs.NodesLeft.{AreLive, nodes_left, told_left, told_of, turns_left}

pushed : (keys grown_keys : List ℕ) (key : ℕ) → grown_keys ≡ keys ++ key ∷ [] → reverse grown_keys ≡ key ∷ reverse keys
pushed keys grown_keys key e = ap reverse e ∙ reverse-append keys (key ∷ [])

module _ {A : Type 0} (told : Keyed Node → List A) (f : Forest (Keyed Node)) where
  abbrev pub left_at : List ℕ → Option ℕ → List A
  left_at inside link = told_left told f inside (on_link f link)

  -- what is told of the node of this key
  abbrev pub told_at : ℕ → List A
  told_at key = option_map_or (λ label. told (keyed key label)) (label_of f key) []

  -- where the walk stands, and what it has of all that it tells
  pub record Tells (all : List A) (inside : List ℕ) (link : Option ℕ) (made : List A) : Type 0 where
    pub link_is : IsLink f link
    pub live : AreLive f inside
    pub to_do : made ++ left_at inside link ≡ all

  of_tree : (node : Keyed Node) (children after : Forest (Keyed Node)) → told_of told (Tree node children after) ≡ told node ++ (told_of told children ++ told_of told after)
  of_tree node children after = ap (λ rest. told node ++ rest) (flat_map-append told (labels children) (labels after))

  reach_told : (inside : List ℕ) (node : Keyed Node) (children after : Forest (Keyed Node)) → after_of f node.key ≡ after
      → told_left told f inside (Tree node children after) ≡ told node ++ told_left told f (node.key ∷ inside) children
  reach_told [] node children after e = of_tree node children after ∙ ap (λ g. told node ++ (told_of told children ++ told_of told g)) (sym e)
  reach_told (key ∷ inside) node children after e =
      let rest : List A = told_left told f inside (after_of f key) in
      ap (λ xs. xs ++ rest) (of_tree node children after)
      ∙ append_assoc (told node) (told_of told children ++ told_of told after) rest
      ∙ ap (λ xs. told node ++ xs) (append_assoc (told_of told children) (told_of told after) rest)
      ∙ ap (λ g. told node ++ (told_of told children ++ (told_of told g ++ rest))) (sym e)

  reach_count : (inside : List ℕ) (node : Keyed Node) (children after : Forest (Keyed Node)) → after_of f node.key ≡ after
      → nodes_left f inside (Tree node children after) ≡ nodes_left f (node.key ∷ inside) children + 1
  reach_count [] node children after e = rw e (omega arith)
  reach_count (key ∷ inside) node children after e = rw e (omega arith)

  -- a node, and all that is under it
  pub of_subtree : (key : ℕ) → IsLive f key → told_at key ++ told_of told (children_of f key) ≡ told_of told (alone (on_link f (Some key)))
  of_subtree key live =
      let s = live-spot f key live in
      let label : label_of f key ≡ Some s.0.label = rw s.1 refl in
      let here : on_link f (Some key) ≡ Tree (keyed key s.0.label) (children_of f key) (after_of f key) = on_key f key s.0.label live (sym label) in
      ap (λ o. option_map_or (λ l. told (keyed key l)) o [] ++ told_of told (children_of f key)) label
      ∙ ap (λ nodes. told (keyed key s.0.label) ++ flat_map told nodes) (sym (append-nil (labels (children_of f key))))
      ∙ ap (λ t. told_of told (alone t)) (sym here)

  module _ (d : HasDistinctKeys f) where
    reach_at : (inside : List ℕ) (key : ℕ) → IsLive f key
        → (left_at inside (Some key) ≡ told_at key ++ left_at (key ∷ inside) (first_child_of f key))
        × (nodes_left f inside (on_link f (Some key)) ≡ nodes_left f (key ∷ inside) (on_link f (first_child_of f key)) + 1)
    reach_at inside key live =
        let s = live-spot f key live in
        let node : Keyed Node = keyed key s.0.label in
        let label : label_of f key ≡ Some s.0.label = rw s.1 refl in
        let here : on_link f (Some key) ≡ Tree node (children_of f key) (after_of f key) = on_key f key s.0.label live (sym label) in
        let below = (on_first f key d live).0 in (
          ap (told_left told f inside) here
              ∙ reach_told inside node (children_of f key) (after_of f key) refl
              ∙ ap (λ g. told node ++ told_left told f (key ∷ inside) g) (sym below)
              ∙ ap (λ o. option_map_or (λ l. told (keyed key l)) o [] ++ left_at (key ∷ inside) (first_child_of f key)) (sym label),
          ap (nodes_left f inside) here
              ∙ reach_count inside node (children_of f key) (after_of f key) refl
              ∙ ap (λ g. nodes_left f (key ∷ inside) g + 1) (sym below),
        )

    leave_at : (inside : List ℕ) (key : ℕ) → IsLive f key
        → (left_at (key ∷ inside) None ≡ left_at inside (next_sibling_of f key))
        × (nodes_left f (key ∷ inside) (on_link f None) ≡ nodes_left f inside (on_link f (next_sibling_of f key)))
    leave_at inside key live =
        let beside = (on_next f key d live).0 in (
          ap (λ g. told_left told f inside g) (sym beside),
          rw beside (omega arith),
        )

    module _ (all : List A) (stack stack' : List ℕ) (link link' : Option ℕ) (key : ℕ) (made made' : List A) where
      pub reach_turn : Tells all (reverse stack) link made → link ≡ Some key → made' ≡ made ++ told_at key
          → stack' ≡ stack ++ key ∷ [] → link' ≡ first_child_of f key
          → Tells all (reverse stack') link' made' × (turns_left f (reverse stack') link' < turns_left f (reverse stack) link)
      reach_turn tells at grew more next =
          let here = subst (λ l. Tells all (reverse stack) l made) at tells in
          let turn = reach_at (reverse stack) key here.link_is in
          rw (pushed stack stack' key more, next, at, grew) (
            record {
              link_is = (on_first f key d here.link_is).1;
              live = (here.link_is, here.live);
              to_do =
                  append_assoc made (told_at key) (left_at (key ∷ reverse stack) (first_child_of f key))
                  ∙ ap (λ xs. made ++ xs) (sym turn.0)
                  ∙ here.to_do;
            },
            omega (arith, turn.1),
          )

      pub leave_turn : Tells all (reverse stack) link made → link ≡ None → stack ≡ stack' ++ key ∷ [] → link' ≡ next_sibling_of f key
          → Tells all (reverse stack') link' made × (turns_left f (reverse stack') link' < turns_left f (reverse stack) link)
      leave_turn tells at more next =
          let here = subst (λ l. Tells all (key ∷ reverse stack') l made) at (subst (λ keys. Tells all keys link made) (pushed stack' stack key more) tells) in
          let turn = leave_at (reverse stack') key here.live.0 in
          rw (pushed stack' stack key more, next, at) (
            record {
              link_is = (on_next f key d here.live.0).1;
              live = here.live.1;
              to_do = ap (λ xs. made ++ xs) (sym turn.0) ∙ here.to_do;
            },
            omega (arith, turn.1),
          )

      pub leave_live : Tells all (reverse stack) link made → stack ≡ stack' ++ key ∷ [] → IsLive f key
      leave_live tells more = (subst (λ keys. Tells all keys link made) (pushed stack' stack key more) tells).live.0

    -- all that is under a node is still to be told, and what was told before stays in front
    pub begins : (key : ℕ) (made : List A) → IsLive f key → Tells (made ++ told_of told (children_of f key)) [] (first_child_of f key) made
    begins key made live = record { link_is = (on_first f key d live).1; live = tt; to_do = ap (λ g. made ++ told_of told g) (on_first f key d live).0 }

  pub done : (all made : List A) → Tells all [] None made → made ≡ all
  done all made tells = sym (append-nil made) ∙ tells.to_do
