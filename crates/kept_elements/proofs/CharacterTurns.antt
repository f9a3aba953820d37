-- The turns of a walk that gathers the characters under a node: a node is reached, and left.
use Rattle.std.proofs.Common.{◌≡◌, ◌<◌, ◌+◌, ℕ, List, [], ◌∷◌, ◌++◌, Option, Some, None, reverse, refl, sym, ap, subst, ◌∙◌, arith, append_assoc, append-nil}
use Rattle.std.specs.Prelude.{option_and_then, unwrap_or}
use Rattle.std.proofs.lemmas.Grind.{flat_map-append}
use Rattle.std.proofs.lemmas.List.{reverse-append}
use Rattle.forest.specs.Forest.{Forest, Tree, labels}
use Rattle.forest.specs.Keys.{Keyed, HasDistinctKeys}
use Rattle.forest.specs.Spots.{IsLink, IsLive, after_of, children_of, first_child_of, label_of, next_sibling_of, on_link}
use Rattle.forest.proofs.SpotLaws.{live-spot, on_first, on_key, on_next}
use Rattle.plain_types.specs.declared.node.Node.{Node}
use Rattle.node_arena.specs.Nodes.{characters_of, node_characters}
use Rattle.generated_texts.specs.References.{characters_in}
use Rattle.kept_elements.proofs.CharactersLeft.{AreLive, characters_left, nodes_left, turns_left}

pushed : (keys grown_keys : List ℕ) (key : ℕ) → grown_keys ≡ keys ++ key ∷ [] → reverse grown_keys ≡ key ∷ reverse keys
pushed keys grown_keys key e = ap reverse e ∙ reverse-append keys (key ∷ [])

module _ (f : Forest (Keyed Node)) where
  abbrev pub left_at : List ℕ → Option ℕ → List ℕ
  left_at inside link = characters_left f inside (on_link f link)

  -- where the walk stands, and what it has of all characters
  pub record Gathers (all : List ℕ) (inside : List ℕ) (link : Option ℕ) (text : List ℕ) : Type 0 where
    pub link_is : IsLink f link
    pub live : AreLive f inside
    pub to_do : text ++ left_at inside link ≡ all

  of_tree : (node : Keyed Node) (children after : Forest (Keyed Node))
      → characters_in (Tree node children after) ≡ unwrap_or (node_characters node.label) [] ++ (characters_in children ++ characters_in after)
  of_tree node children after =
      ap (λ rest. unwrap_or (node_characters node.label) [] ++ rest)
      (flat_map-append (λ (n : Keyed Node). unwrap_or (node_characters n.label) []) (labels children) (labels after))

  reach_characters : (inside : List ℕ) (node : Keyed Node) (children after : Forest (Keyed Node)) → after_of f node.key ≡ after
      → characters_left f inside (Tree node children after) ≡ unwrap_or (node_characters node.label) [] ++ characters_left f (node.key ∷ inside) children
  reach_characters [] node children after e = of_tree node children after ∙ ap (λ g. unwrap_or (node_characters node.label) [] ++ (characters_in children ++ characters_in g)) (sym e)
  reach_characters (key ∷ inside) node children after e =
      let rest : List ℕ = characters_left f inside (after_of f key) in
      let own : List ℕ = unwrap_or (node_characters node.label) [] in
      ap (λ cs. cs ++ rest) (of_tree node children after)
      ∙ append_assoc own (characters_in children ++ characters_in after) rest
      ∙ ap (λ cs. own ++ cs) (append_assoc (characters_in children) (characters_in after) rest)
      ∙ ap (λ g. own ++ (characters_in children ++ (characters_in g ++ rest))) (sym e)

  reach_count : (inside : List ℕ) (node : Keyed Node) (children after : Forest (Keyed Node)) → after_of f node.key ≡ after
      → nodes_left f inside (Tree node children after) ≡ nodes_left f (node.key ∷ inside) children + 1
  reach_count [] node children after e = rw e (omega arith)
  reach_count (key ∷ inside) node children after e = rw e (omega arith)

  module _ (d : HasDistinctKeys f) where
    reach_at : (inside : List ℕ) (key : ℕ) → IsLive f key
        → (left_at inside (Some key) ≡ unwrap_or (characters_of f key) [] ++ left_at (key ∷ inside) (first_child_of f key))
        × (nodes_left f inside (on_link f (Some key)) ≡ nodes_left f (key ∷ inside) (on_link f (first_child_of f key)) + 1)
    reach_at inside key live =
        let s = live-spot f key live in
        let node : Keyed Node = record { key = key; label = s.0.label } in
        let label : label_of f key ≡ Some s.0.label = rw s.1 refl in
        let here : on_link f (Some key) ≡ Tree node (children_of f key) (after_of f key) = on_key f key s.0.label live (sym label) in
        let below = (on_first f key d live).0 in (
          ap (characters_left f inside) here
              ∙ reach_characters inside node (children_of f key) (after_of f key) refl
              ∙ ap (λ g. unwrap_or (node_characters s.0.label) [] ++ characters_left f (key ∷ inside) g) (sym below)
              ∙ ap (λ o. unwrap_or (option_and_then node_characters o) [] ++ left_at (key ∷ inside) (first_child_of f key)) (sym label),
          ap (nodes_left f inside) here
              ∙ reach_count inside node (children_of f key) (after_of f key) refl
              ∙ ap (λ g. nodes_left f (key ∷ inside) g + 1) (sym below),
        )

    leave_at : (inside : List ℕ) (key : ℕ) → IsLive f key
        → (left_at (key ∷ inside) None ≡ left_at inside (next_sibling_of f key))
        × (nodes_left f (key ∷ inside) (on_link f None) ≡ nodes_left f inside (on_link f (next_sibling_of f key)))
    leave_at inside key live =
        let beside = (on_next f key d live).0 in (
          ap (λ g. characters_left f inside g) (sym beside),
          rw beside (omega arith),
        )

    module _ (all : List ℕ) (stack stack' : List ℕ) (link link' : Option ℕ) (key : ℕ) (text text' : List ℕ) where
      pub reach_turn : Gathers all (reverse stack) link text → link ≡ Some key → text' ≡ text ++ unwrap_or (characters_of f key) []
          → stack' ≡ stack ++ key ∷ [] → link' ≡ first_child_of f key
          → Gathers all (reverse stack') link' text' × (turns_left f (reverse stack') link' < turns_left f (reverse stack) link)
      reach_turn gathers at grew more next =
          let here = subst (λ l. Gathers all (reverse stack) l text) at gathers in
          let turn = reach_at (reverse stack) key here.link_is in
          rw (pushed stack stack' key more, next, at, grew) (
            record {
              link_is = (on_first f key d here.link_is).1;
              live = (here.link_is, here.live);
              to_do =
                  append_assoc text (unwrap_or (characters_of f key) []) (left_at (key ∷ reverse stack) (first_child_of f key))
                  ∙ ap (λ cs. text ++ cs) (sym turn.0)
                  ∙ here.to_do;
            },
            omega (arith, turn.1),
          )

      pub leave_turn : Gathers all (reverse stack) link text → link ≡ None → stack ≡ stack' ++ key ∷ [] → link' ≡ next_sibling_of f key
          → Gathers all (reverse stack') link' text × (turns_left f (reverse stack') link' < turns_left f (reverse stack) link)
      leave_turn gathers at more next =
          let here = subst (λ l. Gathers all (key ∷ reverse stack') l text) at (subst (λ keys. Gathers all keys link text) (pushed stack' stack key more) gathers) in
          let turn = leave_at (reverse stack') key here.live.0 in
          rw (pushed stack' stack key more, next, at) (
            record {
              link_is = (on_next f key d here.live.0).1;
              live = here.live.1;
              to_do = ap (λ cs. text ++ cs) (sym turn.0) ∙ here.to_do;
            },
            omega (arith, turn.1),
          )

      pub leave_live : Gathers all (reverse stack) link text → stack ≡ stack' ++ key ∷ [] → IsLive f key
      leave_live gathers more = (subst (λ keys. Gathers all keys link text) (pushed stack' stack key more) gathers).live.0

    pub begins : (key : ℕ) → IsLive f key → Gathers (characters_in (children_of f key)) [] (first_child_of f key) []
    begins key live = record { link_is = (on_first f key d live).1; live = tt; to_do = ap characters_in (on_first f key d live).0 }

  pub done : (all text : List ℕ) → Gathers all [] None text → text ≡ all
  done all text gathers = sym (append-nil text) ∙ gathers.to_do
