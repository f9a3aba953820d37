-- A walk that puts the lines of a chapter: a node is entered, and left. What is left of the lines and of the steps, where it
-- stands.
use Rattle.std.proofs.Common.{◌≡◌, ◌<◌, ◌≤◌, ◌+◌, ◌*◌, ℕ, List, [], ◌∷◌, ◌++◌, Option, Some, None, reverse, refl, sym, ap, subst, ◌∙◌, arith, append-nil, append_assoc, encode_utf8_all, option_copied}
use Rattle.std.proofs.lemmas.Grind.{flat_map-append}
use Rattle.std.proofs.lemmas.List.{reverse-append}
use Rattle.std.proofs.lemmas.Str.{encodes-append}
use Rattle.std.specs.List.{flat_map}
use Rattle.forest.specs.Forest.{Forest, Empty, Tree, weigh}
use Rattle.forest.specs.Keys.{Keyed, HasDistinctKeys}
use Rattle.forest.specs.Spots.{IsLink, IsLive, after_of, children_of, first_child_of, first_key, keyed, next_sibling_of, on_link}
use Rattle.forest.proofs.SpotLaws.{live-spot, on_first, on_key, on_next, on_root, root_link}
use Rattle.plain_types.specs.declared.node.Node.{Node}
use Rattle.dump_definitions.specs.Dump.{Line, dump, line_text}
use Rattle.generated_texts.specs.declared.entry.NodeEntry.{NodeEntry}
use Rattle.generated_texts.specs.Lines.{first_lines, last_lines, tree_lines}
use Rattle.ports.specs.Grown.{grown, GrowsByFront}
use Rattle.ports.proofs.GrownLemmas.{front_after, grown_after, grown-nil}
use Rattle.book_refs.specs.declared.lines.OpenNode.{OpenNode}

pub dump-append : (first second : List Line) → dump (first ++ second) ≡ dump first ++ dump second
dump-append first second = ap encode_utf8_all (flat_map-append line_text first second) ∙ encodes-append (flat_map line_text first) (flat_map line_text second)

pushed : (stack grown_stack : List OpenNode) (node : OpenNode) → grown_stack ≡ stack ++ node ∷ [] → reverse grown_stack ≡ node ∷ reverse stack
pushed stack grown_stack node e = ap reverse e ∙ reverse-append stack (node ∷ [])

-- What is left of a cost that a node has where it is entered, and another where it is left.
module _ (f : Forest (Keyed Node)) (first last : ℕ → ℕ) where
  abbrev both : Keyed Node → ℕ
  both node = first node.key + last node.key

  abbrev pub cost_left : List OpenNode → Forest (Keyed Node) → ℕ
  cost_left [] trees = weigh both trees
  cost_left (node ∷ inside) trees = weigh both trees + (last node.key + cost_left inside (after_of f node.key))

  enter_costs : (inside : List OpenNode) (node : OpenNode) (label : Node) (children after : Forest (Keyed Node)) → after_of f node.key ≡ after
      → cost_left inside (Tree (keyed node.key label) children after) ≡ cost_left (node ∷ inside) children + first node.key
  enter_costs [] node label children after e = rw e (omega arith)
  enter_costs (outer ∷ inside) node label children after e = rw e (omega arith)

  module _ (d : HasDistinctKeys f) where
    enter_cost : (inside : List OpenNode) (node : OpenNode) → IsLive f node.key
        → cost_left inside (on_link f (Some node.key)) ≡ cost_left (node ∷ inside) (on_link f (first_child_of f node.key)) + first node.key
    enter_cost inside node live =
        let s = live-spot f node.key live in
        ap (cost_left inside) (on_key f node.key s.0.label live (rw s.1 refl))
        ∙ enter_costs inside node s.0.label (children_of f node.key) (after_of f node.key) refl
        ∙ ap (λ g. cost_left (node ∷ inside) g + first node.key) (sym (on_first f node.key d live).0)

    leave_cost : (inside : List OpenNode) (node : OpenNode) → IsLive f node.key
        → cost_left (node ∷ inside) (on_link f None) ≡ cost_left inside (on_link f (next_sibling_of f node.key)) + last node.key
    leave_cost inside node live = rw (on_next f node.key d live).0 (omega arith)

-- a node that is entered, and one that is left, is a turn each
abbrev one_turn : ℕ → ℕ
one_turn key = 1

module _ (f : Forest (Keyed Node)) where
  abbrev pub turns_left : List OpenNode → Option ℕ → ℕ
  turns_left inside link = cost_left f one_turn one_turn inside (on_link f link)

module _ (f : Forest (Keyed Node)) (kept_of entry_of : ℕ → Option NodeEntry) (first last : ℕ → ℕ) where
  -- the lines of these trees, and then, for each node that the walk is in, the innermost first, its last lines and
  -- those of the trees after it
  abbrev lines_left : List OpenNode → Forest (Keyed Node) → List Line
  lines_left [] trees = tree_lines f entry_of trees
  lines_left (node ∷ inside) trees = tree_lines f entry_of trees ++ (last_lines f entry_of node.key ++ lines_left inside (after_of f node.key))

  -- the walk is in nodes of the document, with what is kept of each
  abbrev AreOpen : List OpenNode → Type 0
  AreOpen [] = Unit {0}
  AreOpen (node ∷ inside) = (IsLive f node.key × (option_copied node.entry ≡ kept_of node.key)) × AreOpen inside

  abbrev all_lines : List Line
  all_lines = tree_lines f entry_of f

  abbrev left_at : List OpenNode → Option ℕ → List Line
  left_at inside link = lines_left inside (on_link f link)

  abbrev pub spent_left : List OpenNode → Option ℕ → ℕ
  spent_left inside link = cost_left f first last inside (on_link f link)

  -- where the walk stands, and what went out
  pub record Walks (inside : List OpenNode) (link : Option ℕ) (before now : Option (List ℕ)) : Type 0 where
    pub written : List Line
    pub link_is : IsLink f link
    pub opened : AreOpen inside
    pub to_do : written ++ left_at inside link ≡ all_lines
    pub went_out : now ≡ grown before (dump written)

  enter_lines : (inside : List OpenNode) (node : OpenNode) (label : Node) (children after : Forest (Keyed Node)) → after_of f node.key ≡ after
      → lines_left inside (Tree (keyed node.key label) children after) ≡ first_lines f entry_of node.key ++ lines_left (node ∷ inside) children
  enter_lines [] node label children after e = rw e refl
  enter_lines (outer ∷ inside) node label children after e = rw (e, append_assoc, append_assoc, append_assoc) refl

  module _ (d : HasDistinctKeys f) where
    enter_at : (inside : List OpenNode) (node : OpenNode) → IsLive f node.key
        → left_at inside (Some node.key) ≡ first_lines f entry_of node.key ++ left_at (node ∷ inside) (first_child_of f node.key)
    enter_at inside node live =
        let s = live-spot f node.key live in
        ap (lines_left inside) (on_key f node.key s.0.label live (rw s.1 refl))
        ∙ enter_lines inside node s.0.label (children_of f node.key) (after_of f node.key) refl
        ∙ ap (λ g. first_lines f entry_of node.key ++ lines_left (node ∷ inside) g) (sym (on_first f node.key d live).0)

    leave_at : (inside : List OpenNode) (node : OpenNode) → IsLive f node.key
        → left_at (node ∷ inside) None ≡ last_lines f entry_of node.key ++ left_at inside (next_sibling_of f node.key)
    leave_at inside node live = ap (λ g. last_lines f entry_of node.key ++ lines_left inside g) (sym (on_next f node.key d live).0)

    -- at the start all is left
    pub spent_at_root : (root : ℕ) → Some root ≡ first_key f → spent_left [] (Some root) ≡ weigh (λ (node : Keyed Node). first node.key + last node.key) f
    spent_at_root root is = ap (spent_left []) is ∙ ap (cost_left f first last []) (on_root f)

    module _ (before : Option (List ℕ)) where
      pub begins : (root : ℕ) → Some root ≡ first_key f → Walks [] (Some root) before before
      begins root is = record {
        written = [];
        link_is = subst (IsLink f) (sym is) (root_link f);
        opened = tt;
        to_do = ap (λ link. left_at [] link) is ∙ ap (tree_lines f entry_of) (on_root f);
        went_out = grown-nil before;
      }

      -- at the end all lines went out
      pub ends : (link : Option ℕ) (stack : List OpenNode) (now : Option (List ℕ)) → Walks (reverse stack) link before now → link ≡ None → stack ≡ [] → now ≡ grown before (dump all_lines)
      ends link stack now walks at none =
          let here = subst (λ nodes. Walks (reverse nodes) None before now) none (subst (λ l. Walks (reverse stack) l before now) at walks) in
          here.went_out ∙ ap (λ lines. grown before (dump lines)) (sym (append-nil here.written) ∙ here.to_do)

      enters : (inside : List OpenNode) (node : OpenNode) (now after : Option (List ℕ)) → Walks inside (Some node.key) before now
          → option_copied node.entry ≡ kept_of node.key → after ≡ grown now (dump (first_lines f entry_of node.key)) → Walks (node ∷ inside) (first_child_of f node.key) before after
      enters inside node now after walks kept grew = record {
        written = walks.written ++ first_lines f entry_of node.key;
        link_is = (on_first f node.key d walks.link_is).1;
        opened = ((walks.link_is, kept), walks.opened);
        to_do =
            append_assoc walks.written (first_lines f entry_of node.key) (left_at (node ∷ inside) (first_child_of f node.key))
            ∙ ap (λ lines. walks.written ++ lines) (sym (enter_at inside node walks.link_is))
            ∙ walks.to_do;
        went_out =
            grown_after before now after (dump walks.written) (dump (first_lines f entry_of node.key)) walks.went_out grew
            ∙ ap (grown before) (sym (dump-append walks.written (first_lines f entry_of node.key)));
      }

      leaves : (inside : List OpenNode) (node : OpenNode) (now after : Option (List ℕ)) → Walks (node ∷ inside) None before now
          → after ≡ grown now (dump (last_lines f entry_of node.key)) → Walks inside (next_sibling_of f node.key) before after
      leaves inside node now after walks grew = record {
        written = walks.written ++ last_lines f entry_of node.key;
        link_is = (on_next f node.key d walks.opened.0.0).1;
        opened = walks.opened.1;
        to_do =
            append_assoc walks.written (last_lines f entry_of node.key) (left_at inside (next_sibling_of f node.key))
            ∙ ap (λ lines. walks.written ++ lines) (sym (leave_at inside node walks.opened.0.0))
            ∙ walks.to_do;
        went_out =
            grown_after before now after (dump walks.written) (dump (last_lines f entry_of node.key)) walks.went_out grew
            ∙ ap (grown before) (sym (dump-append walks.written (last_lines f entry_of node.key)));
      }

      -- a front of the lines went out, where a call put a front of some more
      stops : (inside : List OpenNode) (link : Option ℕ) (now after : Option (List ℕ)) (more rest : List Line) → Walks inside link before now
          → left_at inside link ≡ more ++ rest → GrowsByFront now after (dump more) → GrowsByFront before after (dump all_lines)
      stops inside link now after more rest walks left grows =
          front_after before now after (dump walks.written) (dump more) (dump rest) (dump all_lines) walks.went_out grows
          (ap (λ bytes. bytes ++ dump rest) (sym (dump-append walks.written more))
          ∙ sym (dump-append (walks.written ++ more) rest)
          ∙ ap dump (append_assoc walks.written more rest ∙ ap (λ lines. walks.written ++ lines) (sym left) ∙ walks.to_do))

    -- The turns of the code, whose variables are known by equations.
    module _ (before now after : Option (List ℕ)) (stack stack' : List OpenNode) (link link' : Option ℕ) (node : OpenNode) where
      -- from a node that is entered the walk goes on inside it
      pub enter_turn : Walks (reverse stack) link before now → link ≡ Some node.key → option_copied node.entry ≡ kept_of node.key
          → after ≡ grown now (dump (first_lines f entry_of node.key)) → stack' ≡ stack ++ node ∷ [] → link' ≡ first_child_of f node.key
          → Walks (reverse stack') link' before after × ((turns_left f (reverse stack') link' < turns_left f (reverse stack) link) × (spent_left (reverse stack) link ≡ spent_left (reverse stack') link' + first node.key))
      enter_turn walks at kept grew more next =
          let here = subst (λ l. Walks (reverse stack) l before now) at walks in
          let count = enter_cost f one_turn one_turn d (reverse stack) node here.link_is in
          rw (pushed stack stack' node more, next, at)
          (enters before (reverse stack) node now after here kept grew, (omega (arith, count), enter_cost f first last d (reverse stack) node here.link_is))

      -- and from one that is left behind it
      pub leave_turn : Walks (reverse stack) link before now → link ≡ None → after ≡ grown now (dump (last_lines f entry_of node.key))
          → stack ≡ stack' ++ node ∷ [] → link' ≡ next_sibling_of f node.key
          → Walks (reverse stack') link' before after × ((turns_left f (reverse stack') link' < turns_left f (reverse stack) link) × (spent_left (reverse stack) link ≡ spent_left (reverse stack') link' + last node.key))
      leave_turn walks at grew more next =
          let here = subst (λ l. Walks (node ∷ reverse stack') l before now) at (subst (λ nodes. Walks nodes link before now) (pushed stack' stack node more) walks) in
          let count = leave_cost f one_turn one_turn d (reverse stack') node here.opened.0.0 in
          rw (pushed stack' stack node more, next, at)
          (leaves before (reverse stack') node now after here grew, (omega (arith, count), leave_cost f first last d (reverse stack') node here.opened.0.0))

      -- a turn stops while it puts lines
      pub enter_stops : Walks (reverse stack) link before now → link ≡ Some node.key
          → GrowsByFront now after (dump (first_lines f entry_of node.key)) → GrowsByFront before after (dump all_lines)
      enter_stops walks at grows =
          let here = subst (λ l. Walks (reverse stack) l before now) at walks in
          stops before (reverse stack) (Some node.key) now after (first_lines f entry_of node.key) (left_at (node ∷ reverse stack) (first_child_of f node.key)) here
          (enter_at (reverse stack) node here.link_is) grows

      pub leave_stops : Walks (reverse stack) link before now → link ≡ None → stack ≡ stack' ++ node ∷ []
          → GrowsByFront now after (dump (last_lines f entry_of node.key)) → GrowsByFront before after (dump all_lines)
      leave_stops walks at more grows =
          let here = subst (λ l. Walks (node ∷ reverse stack') l before now) at (subst (λ nodes. Walks nodes link before now) (pushed stack' stack node more) walks) in
          stops before (node ∷ reverse stack') None now after (last_lines f entry_of node.key) (left_at (reverse stack') (next_sibling_of f node.key)) here
          (leave_at (reverse stack') node here.opened.0.0) grows

      -- a node that is open is one of the document, with what is kept of it
      pub leave_open : Walks (reverse stack) link before now → stack ≡ stack' ++ node ∷ [] → IsLive f node.key × (option_copied node.entry ≡ kept_of node.key)
      leave_open walks more = (subst (λ nodes. Walks nodes link before now) (pushed stack' stack node more) walks).opened.0

    -- what entering a node costs was left before; and so was what leaving it does
    pub enter_left : (before now : Option (List ℕ)) (stack : List OpenNode) (link : Option ℕ) (node : OpenNode) → Walks (reverse stack) link before now → link ≡ Some node.key
        → first node.key ≤ spent_left (reverse stack) link
    enter_left before now stack link node walks at =
        let here = subst (λ l. Walks (reverse stack) l before now) at walks in
        let more = enter_cost f first last d (reverse stack) node here.link_is in
        rw at (omega (arith, more))

    pub leave_left : (before now : Option (List ℕ)) (stack stack' : List OpenNode) (link : Option ℕ) (node : OpenNode) → Walks (reverse stack) link before now → link ≡ None → stack ≡ stack' ++ node ∷ []
        → last node.key ≤ spent_left (reverse stack) link
    leave_left before now stack stack' link node walks at more =
        let here = subst (λ l. Walks (node ∷ reverse stack') l before now) at (subst (λ nodes. Walks nodes link before now) (pushed stack' stack node more) walks) in
        let count = leave_cost f first last d (reverse stack') node here.opened.0.0 in
        rw (at, pushed stack' stack node more) (omega (arith, count))

-- the costs of all nodes, each of which is bounded
pub weigh_within : (cost bound : ℕ → ℕ) → ((key : ℕ) → cost key ≤ 4 * bound key) → (trees : Forest (Keyed Node))
    → weigh (λ (node : Keyed Node). cost node.key) trees ≤ 4 * weigh (λ (node : Keyed Node). bound node.key) trees
weigh_within cost bound each Empty = omega arith
weigh_within cost bound each (Tree node children after) =
    let here = each node.key in
    let below = weigh_within cost bound each children in
    let beside = weigh_within cost bound each after in
    omega (arith, here, below, beside)
