-- The turns of a walk that puts the lines of a document: a node is reached, and left.
use Rattle.std.proofs.Common.{◌≡◌, ◌<◌, ◌≤◌, ◌+◌, ℕ, List, [], ◌∷◌, ◌++◌, Option, Some, None, reverse, refl, sym, ap, subst, ◌∙◌, arith, append_assoc, encode_utf8_all, option_copied}
use Rattle.std.proofs.lemmas.Grind.{flat_map-append}
use Rattle.std.proofs.lemmas.List.{reverse-append}
use Rattle.std.proofs.lemmas.Str.{encodes-append}
use Rattle.std.specs.List.{flat_map}
use Rattle.forest.specs.Forest.{Forest, Tree}
use Rattle.forest.specs.Keys.{Keyed, HasDistinctKeys, without_keys}
use Rattle.forest.specs.Spots.{IsLink, IsLive, after_of, children_of, first_child_of, first_key, keyed, next_sibling_of, on_link}
use Rattle.forest.proofs.SpotLaws.{live-spot, on_first, on_key, on_next, on_root, root_link}
use Rattle.plain_types.specs.declared.box_kind.BoxKind.TheVariants.{Marker, Before}
use Rattle.plain_types.specs.declared.node.Node.{Node}
use Rattle.dump_definitions.specs.Dump.{Line, dump, line_text}
use Rattle.generated_texts.specs.declared.entry.NodeEntry.{NodeEntry}
use Rattle.generated_texts.specs.Lines.{first_lines, last_lines, lines_of, tree_lines}
use Rattle.ports.specs.Grown.{grown, GrowsByFront}
use Rattle.ports.proofs.GrownLemmas.{front_after, grown_after, grown-nil}
use Rattle.document_walk.specs.Elements.{element_count}
use Rattle.marker_engine.specs.declared.lines.OpenNode.{OpenNode}
use Rattle.marker_engine.proofs.Counting.{element_weight}
use Rattle.marker_engine.proofs.Counts.{element-weights}
use Rattle.marker_engine.proofs.LinesLeft.{AreOpen, elements_left, lines_left, turns_left, weight_left}

pub dump-append : (first second : List Line) → dump (first ++ second) ≡ dump first ++ dump second
dump-append first second = ap encode_utf8_all (flat_map-append line_text first second) ∙ encodes-append (flat_map line_text first) (flat_map line_text second)

-- the lines before those of an element's children
pub first_bytes : (f : Forest (Keyed Node)) (kept : Option NodeEntry) (key : ℕ) (entry : NodeEntry) → kept ≡ Some entry
    → dump (lines_of f key Marker entry.marker) ++ dump (lines_of f key Before entry.before) ≡ dump (first_lines f (λ _. kept) key)
first_bytes f kept key entry is =
    sym (dump-append (lines_of f key Marker entry.marker) (lines_of f key Before entry.before))
    ∙ ap (λ (o : Option NodeEntry). dump (first_lines f (λ _. o) key)) (sym is)

pub pushed : (stack grown_stack : List OpenNode) (node : OpenNode) → grown_stack ≡ stack ++ node ∷ [] → reverse grown_stack ≡ node ∷ reverse stack
pushed stack grown_stack node e = ap reverse e ∙ reverse-append stack (node ∷ [])

-- The weights of the nodes that a walk has not reached.
module _ (f : Forest (Keyed Node)) (weight : ℕ → ℕ) where
  reach_weights : (inside : List OpenNode) (node : OpenNode) (label : Node) (children after : Forest (Keyed Node)) → after_of f node.key ≡ after
      → weight_left f weight inside (Tree (keyed node.key label) children after) ≡ weight_left f weight (node ∷ inside) children + weight node.key
  reach_weights [] node label children after e = rw e (omega arith)
  reach_weights (outer ∷ inside) node label children after e = rw e (omega arith)

  module _ (d : HasDistinctKeys f) where
    reach_weight : (inside : List OpenNode) (node : OpenNode) → IsLive f node.key
        → weight_left f weight inside (on_link f (Some node.key)) ≡ weight_left f weight (node ∷ inside) (on_link f (first_child_of f node.key)) + weight node.key
    reach_weight inside node live =
        let s = live-spot f node.key live in
        ap (weight_left f weight inside) (on_key f node.key s.0.label live (rw s.1 refl))
        ∙ reach_weights inside node s.0.label (children_of f node.key) (after_of f node.key) refl
        ∙ ap (λ g. weight_left f weight (node ∷ inside) g + weight node.key) (sym (on_first f node.key d live).0)

    leave_weight : (inside : List OpenNode) (node : OpenNode) → IsLive f node.key
        → weight_left f weight (node ∷ inside) (on_link f None) ≡ weight_left f weight inside (on_link f (next_sibling_of f node.key))
    leave_weight inside node live = rw (on_next f node.key d live).0 (omega arith)

module _ (f : Forest (Keyed Node)) (entry_of : ℕ → Option NodeEntry) where
  abbrev pub all_lines : List Line
  all_lines = tree_lines f entry_of f

  abbrev pub left_at : List OpenNode → Option ℕ → List Line
  left_at inside link = lines_left f entry_of inside (on_link f link)

  -- where the walk stands, and what went out
  pub record Walks (inside : List OpenNode) (link : Option ℕ) (before now : Option (List ℕ)) : Type 0 where
    pub written : List Line
    pub link_is : IsLink f link
    pub opened : AreOpen f entry_of inside
    pub to_do : written ++ left_at inside link ≡ all_lines
    pub went_out : now ≡ grown before (dump written)

  reach_lines : (inside : List OpenNode) (node : OpenNode) (label : Node) (children after : Forest (Keyed Node)) → after_of f node.key ≡ after
      → lines_left f entry_of inside (Tree (keyed node.key label) children after) ≡ first_lines f entry_of node.key ++ lines_left f entry_of (node ∷ inside) children
  reach_lines [] node label children after e = rw e refl
  reach_lines (outer ∷ inside) node label children after e = rw (e, append_assoc, append_assoc, append_assoc) refl

  module _ (d : HasDistinctKeys f) where
    reach_at : (inside : List OpenNode) (node : OpenNode) → IsLive f node.key
        → left_at inside (Some node.key) ≡ first_lines f entry_of node.key ++ left_at (node ∷ inside) (first_child_of f node.key)
    reach_at inside node live =
        let s = live-spot f node.key live in
        ap (lines_left f entry_of inside) (on_key f node.key s.0.label live (rw s.1 refl))
        ∙ reach_lines inside node s.0.label (children_of f node.key) (after_of f node.key) refl
        ∙ ap (λ g. first_lines f entry_of node.key ++ lines_left f entry_of (node ∷ inside) g) (sym (on_first f node.key d live).0)

    leave_at : (inside : List OpenNode) (node : OpenNode) → IsLive f node.key
        → left_at (node ∷ inside) None ≡ last_lines f entry_of node.key ++ left_at inside (next_sibling_of f node.key)
    leave_at inside node live = ap (λ g. last_lines f entry_of node.key ++ lines_left f entry_of inside g) (sym (on_next f node.key d live).0)

    -- at the start no element is reached
    pub elements_at_root : (root : ℕ) → Some root ≡ first_key f → elements_left f [] (Some root) ≡ element_count (without_keys f)
    elements_at_root root is = ap (elements_left f []) is ∙ ap (weight_left f (element_weight f) []) (on_root f) ∙ element-weights f d

    module _ (before : Option (List ℕ)) where
      pub begins : (root : ℕ) → Some root ≡ first_key f → Walks [] (Some root) before before
      begins root is = record {
        written = [];
        link_is = subst (IsLink f) (sym is) (root_link f);
        opened = tt;
        to_do = ap (λ link. left_at [] link) is ∙ ap (tree_lines f entry_of) (on_root f);
        went_out = grown-nil before;
      }

      reaches : (inside : List OpenNode) (node : OpenNode) (now after : Option (List ℕ)) → Walks inside (Some node.key) before now
          → option_copied node.entry ≡ entry_of node.key → after ≡ grown now (dump (first_lines f entry_of node.key)) → Walks (node ∷ inside) (first_child_of f node.key) before after
      reaches inside node now after walks kept grew = record {
        written = walks.written ++ first_lines f entry_of node.key;
        link_is = (on_first f node.key d walks.link_is).1;
        opened = ((walks.link_is, kept), walks.opened);
        to_do =
            append_assoc walks.written (first_lines f entry_of node.key) (left_at (node ∷ inside) (first_child_of f node.key))
            ∙ ap (λ lines. walks.written ++ lines) (sym (reach_at inside node walks.link_is))
            ∙ walks.to_do;
        went_out =
            grown_after before now after (dump walks.written) (dump (first_lines f entry_of node.key)) walks.went_out grew
            ∙ ap (grown before) (sym (dump-append walks.written (first_lines f entry_of node.key)));
      }

      leaves : (inside : List OpenNode) (node : OpenNode) (now after : Option (List ℕ)) → Walks (node ∷ inside) None before now
          → after ≡ grown now (dump (last_lines f entry_of node.key)) → Walks inside (next_sibling_of f node.key) before after
      leaves inside node now after walks grew = record {
        written = walks.written ++ last_lines f entry_of node.key;
        link_is = (on_next f node.key d walks.opened.0.0).1;
        opened = walks.opened.1;
        to_do =
            append_assoc walks.written (last_lines f entry_of node.key) (left_at inside (next_sibling_of f node.key))
            ∙ ap (λ lines. walks.written ++ lines) (sym (leave_at inside node walks.opened.0.0))
            ∙ walks.to_do;
        went_out =
            grown_after before now after (dump walks.written) (dump (last_lines f entry_of node.key)) walks.went_out grew
            ∙ ap (grown before) (sym (dump-append walks.written (last_lines f entry_of node.key)));
      }

      -- a front of the lines went out, where a call put a front of some more
      stops : (inside : List OpenNode) (link : Option ℕ) (now after : Option (List ℕ)) (more rest : List Line) → Walks inside link before now
          → left_at inside link ≡ more ++ rest → GrowsByFront now after (dump more) → GrowsByFront before after (dump all_lines)
      stops inside link now after more rest walks left grows =
          front_after before now after (dump walks.written) (dump more) (dump rest) (dump all_lines) walks.went_out grows
          (ap (λ bytes. bytes ++ dump rest) (sym (dump-append walks.written more))
          ∙ sym (dump-append (walks.written ++ more) rest)
          ∙ ap dump (append_assoc walks.written more rest ∙ ap (λ lines. walks.written ++ lines) (sym left) ∙ walks.to_do))

    -- The turns of the code, whose variables are known by equations.
    module _ (before now after : Option (List ℕ)) (stack stack' : List OpenNode) (link link' : Option ℕ) (node : OpenNode) where
      -- from a node that is reached the walk goes on inside it
      pub reach_turn : Walks (reverse stack) link before now → link ≡ Some node.key → option_copied node.entry ≡ entry_of node.key
          → after ≡ grown now (dump (first_lines f (λ _. option_copied node.entry) node.key)) → stack' ≡ stack ++ node ∷ [] → link' ≡ first_child_of f node.key
          → Walks (reverse stack') link' before after × ((turns_left f (reverse stack') link' < turns_left f (reverse stack) link) × (elements_left f (reverse stack) link ≡ elements_left f (reverse stack') link' + element_weight f node.key))
      reach_turn walks at kept grew more next =
          let here = subst (λ l. Walks (reverse stack) l before now) at walks in
          let went = grew ∙ ap (λ (o : Option NodeEntry). grown now (dump (first_lines f (λ _. o) node.key))) kept in
          let count = reach_weight f (λ _. 1) d (reverse stack) node here.link_is in
          rw (pushed stack stack' node more, next, at)
          (reaches before (reverse stack) node now after here kept went, (omega (arith, count), reach_weight f (element_weight f) d (reverse stack) node here.link_is))

      -- and from one that is left behind it
      pub leave_turn : Walks (reverse stack) link before now → link ≡ None → after ≡ grown now (dump (last_lines f (λ _. option_copied node.entry) node.key))
          → stack ≡ stack' ++ node ∷ [] → link' ≡ next_sibling_of f node.key
          → Walks (reverse stack') link' before after × ((turns_left f (reverse stack') link' < turns_left f (reverse stack) link) × (elements_left f (reverse stack) link ≡ elements_left f (reverse stack') link'))
      leave_turn walks at grew more next =
          let here = subst (λ l. Walks (node ∷ reverse stack') l before now) at (subst (λ nodes. Walks nodes link before now) (pushed stack' stack node more) walks) in
          let went = grew ∙ ap (λ (o : Option NodeEntry). grown now (dump (last_lines f (λ _. o) node.key))) here.opened.0.1 in
          let count = leave_weight f (λ _. 1) d (reverse stack') node here.opened.0.0 in
          rw (pushed stack' stack node more, next, at)
          (leaves before (reverse stack') node now after here went, (omega (arith, count), leave_weight f (element_weight f) d (reverse stack') node here.opened.0.0))

      -- a turn stops while it puts lines
      pub reach_stops : Walks (reverse stack) link before now → link ≡ Some node.key → option_copied node.entry ≡ entry_of node.key
          → GrowsByFront now after (dump (first_lines f (λ _. option_copied node.entry) node.key)) → GrowsByFront before after (dump all_lines)
      reach_stops walks at kept grows =
          let here = subst (λ l. Walks (reverse stack) l before now) at walks in
          stops before (reverse stack) (Some node.key) now after (first_lines f entry_of node.key) (left_at (node ∷ reverse stack) (first_child_of f node.key)) here
          (reach_at (reverse stack) node here.link_is) (subst (λ (o : Option NodeEntry). GrowsByFront now after (dump (first_lines f (λ _. o) node.key))) kept grows)

      pub leave_stops : Walks (reverse stack) link before now → link ≡ None → stack ≡ stack' ++ node ∷ []
          → GrowsByFront now after (dump (last_lines f (λ _. option_copied node.entry) node.key)) → GrowsByFront before after (dump all_lines)
      leave_stops walks at more grows =
          let here = subst (λ l. Walks (node ∷ reverse stack') l before now) at (subst (λ nodes. Walks nodes link before now) (pushed stack' stack node more) walks) in
          stops before (node ∷ reverse stack') None now after (last_lines f entry_of node.key) (left_at (reverse stack') (next_sibling_of f node.key)) here
          (leave_at (reverse stack') node here.opened.0.0) (subst (λ (o : Option NodeEntry). GrowsByFront now after (dump (last_lines f (λ _. o) node.key))) here.opened.0.1 grows)

      pub leave_live : Walks (reverse stack) link before now → stack ≡ stack' ++ node ∷ [] → IsLive f node.key
      leave_live walks more = (subst (λ nodes. Walks nodes link before now) (pushed stack' stack node more) walks).opened.0.0

    -- an element that is reached was left before
    pub reach_left : (before now : Option (List ℕ)) (stack : List OpenNode) (link : Option ℕ) (node : OpenNode) → Walks (reverse stack) link before now → link ≡ Some node.key
        → element_weight f node.key ≤ elements_left f (reverse stack) link
    reach_left before now stack link node walks at =
        let here = subst (λ l. Walks (reverse stack) l before now) at walks in
        let more = reach_weight f (element_weight f) d (reverse stack) node here.link_is in
        rw at (omega (arith, more))
