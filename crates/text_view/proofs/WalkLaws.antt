-- The turns of a walk that writes a document: it goes into a node, passes one, and leaves one.
use Rattle.std.proofs.Common.{◌≡◌, ◌<◌, ◌≤◌, ◌+◌, ℕ, List, [], ◌∷◌, ◌++◌, Option, Some, None, reverse, refl, sym, ap, subst, ◌∙◌, arith, append_assoc, append-nil, encode_utf8_all}
use Rattle.std.proofs.lemmas.List.{reverse-append}
use Rattle.std.specs.Prelude.{Bool, true, false, if◌then◌else◌}
use Rattle.text_view.specs.Breaks.{is_breaking}
use Rattle.forest.specs.Forest.{Forest, Tree}
use Rattle.forest.specs.Keys.{Keyed, HasDistinctKeys, without_keys}
use Rattle.forest.specs.Spots.{IsLink, IsLive, after_of, children_of, first_child_of, first_key, keyed, label_of, next_sibling_of, on_link}
use Rattle.forest.proofs.SpotLaws.{live-spot, on_first, on_key, on_next, on_root, root_link}
use Rattle.plain_types.specs.declared.node.Node.{Node}
use Rattle.plain_types.specs.declared.node.Node.TheVariants.{Element, Text}
use Rattle.generated_texts.specs.declared.entry.NodeEntry.{NodeEntry}
use Rattle.ports.specs.Grown.{grown, GrowsByFront}
use Rattle.ports.proofs.GrownLemmas.{front_after, grown_after, grown-nil}
use Rattle.document_walk.specs.Elements.{element_count}
use Rattle.marker_engine.proofs.Counts.{element-weights}
use Rattle.text_view.specs.Lines.{Piece, lines}
use Rattle.text_view.specs.Views.{first_pieces, last_pieces, node_pieces, tree_pieces}
use Rattle.text_view.specs.Machinery.Walking.{IsEnteredAt, entered, entered_at}
use Rattle.text_view.specs.Machinery.Writing.{behind_pieces, bytes_shown, line_end}
use Rattle.text_view.specs.declared.line_state.LineState.{LineState}
use Rattle.text_view.specs.declared.line_state.LineState.TheVariants.{Start}
use Rattle.text_view.specs.declared.open_element.OpenElement.{OpenElement}
use Rattle.text_view.proofs.LeftToWalk.{AreOpen, element_weight, elements_left, last_of, pieces_left, turns_left, weight_left}
use Rattle.text_view.proofs.PieceLaws.{all_lines, bytes_shown-append, then_stands, then_stops, then_written}

pub pushed : (stack grown_stack : List OpenElement) (element : OpenElement) → grown_stack ≡ stack ++ element ∷ [] → reverse grown_stack ≡ element ∷ reverse stack
pushed stack grown_stack element e = ap reverse e ∙ reverse-append stack (element ∷ [])

-- what is put where a node is reached is the first that it gives
front_of_node : (entry : Option NodeEntry) (node : Node) (between : List Piece) → (rest : List Piece) × (node_pieces entry node between ≡ entered entry node ++ rest)
front_of_node entry (Text characters) between = ([], refl)
front_of_node None (Element name attrs) between = ([], refl)
front_of_node (Some entry) (Element name attrs) between = by entry.has_box
  where
    by : (has_box : Bool)
        → (rest : List Piece) × ((if has_box then first_pieces (is_breaking name) entry ++ (between ++ last_pieces (is_breaking name) entry) else []) ≡ (if has_box then first_pieces (is_breaking name) entry else []) ++ rest)
    by true = (between ++ last_pieces (is_breaking name) entry, refl)
    by false = ([], refl)

-- The weights of the nodes that a walk has not reached.
module _ (f : Forest (Keyed Node)) (weight : ℕ → ℕ) where
  into_weights : (inside : List OpenElement) (element : OpenElement) (label : Node) (children after : Forest (Keyed Node)) → after_of f element.key ≡ after
      → weight_left f weight inside (Tree (keyed element.key label) children after) ≡ weight_left f weight (element ∷ inside) children + weight element.key
  into_weights [] element label children after e = rw e (omega arith)
  into_weights (outer ∷ inside) element label children after e = rw e (omega arith)

  past_weights : (inside : List OpenElement) (key : ℕ) (label : Node) (children after : Forest (Keyed Node))
      → weight_left f weight inside after + weight key ≤ weight_left f weight inside (Tree (keyed key label) children after)
  past_weights [] key label children after = omega arith
  past_weights (outer ∷ inside) key label children after = omega arith

  module _ (d : HasDistinctKeys f) where
    into_weight : (inside : List OpenElement) (element : OpenElement) → IsLive f element.key
        → weight_left f weight inside (on_link f (Some element.key)) ≡ weight_left f weight (element ∷ inside) (on_link f (first_child_of f element.key)) + weight element.key
    into_weight inside element live =
        let s = live-spot f element.key live in
        ap (weight_left f weight inside) (on_key f element.key s.0.label live (rw s.1 refl))
        ∙ into_weights inside element s.0.label (children_of f element.key) (after_of f element.key) refl
        ∙ ap (λ g. weight_left f weight (element ∷ inside) g + weight element.key) (sym (on_first f element.key d live).0)

    past_weight : (inside : List OpenElement) (key : ℕ) → IsLive f key
        → weight_left f weight inside (on_link f (next_sibling_of f key)) + weight key ≤ weight_left f weight inside (on_link f (Some key))
    past_weight inside key live =
        let s = live-spot f key live in
        let here = ap (weight_left f weight inside) (on_key f key s.0.label live (rw s.1 refl)) in
        let next = ap (weight_left f weight inside) (on_next f key d live).0 in
        let less = past_weights inside key s.0.label (children_of f key) (after_of f key) in
        omega arith

    leave_weight : (inside : List OpenElement) (element : OpenElement) → IsLive f element.key
        → weight_left f weight (element ∷ inside) (on_link f None) ≡ weight_left f weight inside (on_link f (next_sibling_of f element.key))
    leave_weight inside element live = rw (on_next f element.key d live).0 (omega arith)

module _ (f : Forest (Keyed Node)) (entry_of : ℕ → Option NodeEntry) where
  abbrev pub all_pieces : List Piece
  all_pieces = tree_pieces entry_of f

  abbrev pub left_at : List OpenElement → Option ℕ → List Piece
  left_at inside link = pieces_left f entry_of inside (on_link f link)

  -- the bytes of the lines
  abbrev pub all_bytes : List ℕ
  all_bytes = encode_utf8_all (lines all_pieces)

  -- where the walk stands, where its line stands, and what went out
  pub record Walks (inside : List OpenElement) (link : Option ℕ) (state : LineState) (before now : Option (List ℕ)) : Type 0 where
    pub written : List Piece
    pub link_is : IsLink f link
    pub opened : AreOpen f inside
    pub to_do : written ++ left_at inside link ≡ all_pieces
    pub stands : state ≡ behind_pieces Start written
    pub went_out : now ≡ grown before (bytes_shown Start written)

  -- what stands before the children of an element that the walk goes into
  into_pieces : (inside : List OpenElement) (element : OpenElement) (label : Node) (children after : Forest (Keyed Node)) (first : List Piece) → after_of f element.key ≡ after
      → ((between : List Piece) → node_pieces (entry_of element.key) label between ≡ first ++ (between ++ last_of element))
      → pieces_left f entry_of inside (Tree (keyed element.key label) children after) ≡ first ++ pieces_left f entry_of (element ∷ inside) children
  into_pieces [] element label children after first e parts =
      ap (λ pieces. pieces ++ tree_pieces entry_of after) (parts (tree_pieces entry_of children))
      ∙ append_assoc first (tree_pieces entry_of children ++ last_of element) (tree_pieces entry_of after)
      ∙ ap (λ rest. first ++ rest) (append_assoc (tree_pieces entry_of children) (last_of element) (tree_pieces entry_of after))
      ∙ ap (λ trees. first ++ (tree_pieces entry_of children ++ (last_of element ++ tree_pieces entry_of trees))) (sym e)
  into_pieces (outer ∷ inside) element label children after first e parts =
      let rest = last_of outer ++ pieces_left f entry_of inside (after_of f outer.key) in
      ap (λ pieces. (pieces ++ tree_pieces entry_of after) ++ rest) (parts (tree_pieces entry_of children))
      ∙ append_assoc (first ++ (tree_pieces entry_of children ++ last_of element)) (tree_pieces entry_of after) rest
      ∙ append_assoc first (tree_pieces entry_of children ++ last_of element) (tree_pieces entry_of after ++ rest)
      ∙ ap (λ pieces. first ++ pieces) (append_assoc (tree_pieces entry_of children) (last_of element) (tree_pieces entry_of after ++ rest))
      ∙ ap (λ trees. first ++ (tree_pieces entry_of children ++ (last_of element ++ (tree_pieces entry_of trees ++ rest)))) (sym e)

  -- all that a node gives that the walk passes
  past_pieces : (inside : List OpenElement) (key : ℕ) (label : Node) (children after : Forest (Keyed Node)) (all : List Piece)
      → ((between : List Piece) → node_pieces (entry_of key) label between ≡ all)
      → pieces_left f entry_of inside (Tree (keyed key label) children after) ≡ all ++ pieces_left f entry_of inside after
  past_pieces [] key label children after all parts = ap (λ pieces. pieces ++ tree_pieces entry_of after) (parts (tree_pieces entry_of children))
  past_pieces (outer ∷ inside) key label children after all parts =
      let rest = last_of outer ++ pieces_left f entry_of inside (after_of f outer.key) in
      ap (λ pieces. (pieces ++ tree_pieces entry_of after) ++ rest) (parts (tree_pieces entry_of children))
      ∙ append_assoc all (tree_pieces entry_of after) rest

  -- what is put where a node is reached comes first
  front_of_all : (inside : List OpenElement) (key : ℕ) (label : Node) (children after : Forest (Keyed Node))
      → (rest : List Piece) × (pieces_left f entry_of inside (Tree (keyed key label) children after) ≡ entered (entry_of key) label ++ rest)
  front_of_all [] key label children after =
      let front = front_of_node (entry_of key) label (tree_pieces entry_of children) in (
        front.0 ++ tree_pieces entry_of after,
        ap (λ pieces. pieces ++ tree_pieces entry_of after) front.1 ∙ append_assoc (entered (entry_of key) label) front.0 (tree_pieces entry_of after),
      )
  front_of_all (outer ∷ inside) key label children after =
      let front = front_of_node (entry_of key) label (tree_pieces entry_of children) in
      let rest = last_of outer ++ pieces_left f entry_of inside (after_of f outer.key) in (
        (front.0 ++ tree_pieces entry_of after) ++ rest,
        ap (λ pieces. (pieces ++ tree_pieces entry_of after) ++ rest) front.1
            ∙ ap (λ pieces. pieces ++ rest) (append_assoc (entered (entry_of key) label) front.0 (tree_pieces entry_of after))
            ∙ append_assoc (entered (entry_of key) label) (front.0 ++ tree_pieces entry_of after) rest,
      )

  module _ (d : HasDistinctKeys f) where
    into_at : (inside : List OpenElement) (element : OpenElement) (key : ℕ) → IsLive f key → IsEnteredAt (entry_of key) (label_of f key) key (Some element)
        → (element.key ≡ key) × (left_at inside (Some key) ≡ entered_at (entry_of key) (label_of f key) ++ left_at (element ∷ inside) (first_child_of f key))
    into_at inside element key live is =
        let s = live-spot f key live in
        let label : label_of f key ≡ Some s.0.label = rw s.1 refl in
        let parts = subst (λ o. IsEnteredAt (entry_of key) o key (Some element)) label is in
        let same : element.key ≡ key = parts.0 in (
          same,
          ap (pieces_left f entry_of inside) (on_key f key s.0.label live (sym label))
              ∙ ap (λ k. pieces_left f entry_of inside (Tree (keyed k s.0.label) (children_of f key) (after_of f key))) (sym same)
              ∙ into_pieces inside element s.0.label (children_of f key) (after_of f key) (entered (entry_of key) s.0.label) (ap (after_of f) same)
              (λ between. ap (λ k. node_pieces (entry_of k) s.0.label between) same ∙ parts.1 between)
              ∙ ap (λ g. entered (entry_of key) s.0.label ++ pieces_left f entry_of (element ∷ inside) g) (sym (on_first f key d live).0)
              ∙ ap (λ o. entered_at (entry_of key) o ++ left_at (element ∷ inside) (first_child_of f key)) (sym label),
        )

    past_at : (inside : List OpenElement) (key : ℕ) → IsLive f key → IsEnteredAt (entry_of key) (label_of f key) key None
        → left_at inside (Some key) ≡ entered_at (entry_of key) (label_of f key) ++ left_at inside (next_sibling_of f key)
    past_at inside key live is =
        let s = live-spot f key live in
        let label : label_of f key ≡ Some s.0.label = rw s.1 refl in
        let parts = subst (λ o. IsEnteredAt (entry_of key) o key None) label is in
        ap (pieces_left f entry_of inside) (on_key f key s.0.label live (sym label))
        ∙ past_pieces inside key s.0.label (children_of f key) (after_of f key) (entered (entry_of key) s.0.label) parts
        ∙ ap (λ g. entered (entry_of key) s.0.label ++ pieces_left f entry_of inside g) (sym (on_next f key d live).0)
        ∙ ap (λ o. entered_at (entry_of key) o ++ left_at inside (next_sibling_of f key)) (sym label)

    -- what is put where a node is reached comes first
    front_at : (inside : List OpenElement) (key : ℕ) → IsLive f key
        → (rest : List Piece) × (left_at inside (Some key) ≡ entered_at (entry_of key) (label_of f key) ++ rest)
    front_at inside key live =
        let s = live-spot f key live in
        let label : label_of f key ≡ Some s.0.label = rw s.1 refl in
        let rest = front_of_all inside key s.0.label (children_of f key) (after_of f key) in (
          rest.0,
          ap (pieces_left f entry_of inside) (on_key f key s.0.label live (sym label)) ∙ rest.1
              ∙ ap (λ o. entered_at (entry_of key) o ++ rest.0) (sym label),
        )

    leave_at : (inside : List OpenElement) (element : OpenElement) → IsLive f element.key
        → left_at (element ∷ inside) None ≡ last_of element ++ left_at inside (next_sibling_of f element.key)
    leave_at inside element live = ap (λ g. last_of element ++ pieces_left f entry_of inside g) (sym (on_next f element.key d live).0)

    -- at the start no element is reached
    pub elements_at_root : (root : ℕ) → Some root ≡ first_key f → elements_left f [] (Some root) ≡ element_count (without_keys f)
    elements_at_root root is = ap (elements_left f []) is ∙ ap (weight_left f (element_weight f) []) (on_root f) ∙ element-weights f d

    module _ (before : Option (List ℕ)) where
      pub begins : (root : ℕ) → Some root ≡ first_key f → Walks [] (Some root) Start before before
      begins root is = record {
        written = [];
        link_is = subst (IsLink f) (sym is) (root_link f);
        opened = tt;
        to_do = ap (λ link. left_at [] link) is ∙ ap (tree_pieces entry_of) (on_root f);
        stands = refl;
        went_out = grown-nil before;
      }

      -- some more went out
      moves : (inside inside' : List OpenElement) (link link' : Option ℕ) (state state' : LineState) (now after : Option (List ℕ)) (more : List Piece) → Walks inside link state before now
          → left_at inside link ≡ more ++ left_at inside' link' → state' ≡ behind_pieces state more → after ≡ grown now (bytes_shown state more)
          → IsLink f link' → AreOpen f inside' → Walks inside' link' state' before after
      moves inside inside' link link' state state' now after more walks left stands grew link_is opened = record {
        written = walks.written ++ more;
        link_is = link_is;
        opened = opened;
        to_do = append_assoc walks.written more (left_at inside' link') ∙ ap (λ pieces. walks.written ++ pieces) (sym left) ∙ walks.to_do;
        stands = then_stands Start state walks.written more before now after state' walks.stands stands;
        went_out = then_written Start state walks.written more before now after walks.went_out walks.stands grew;
      }

      whole : (written rest : List Piece) → written ++ rest ≡ all_pieces
          → bytes_shown Start written ++ (bytes_shown (behind_pieces Start written) rest ++ line_end (behind_pieces Start all_pieces)) ≡ all_bytes
      whole written rest parts =
          sym (append_assoc (bytes_shown Start written) (bytes_shown (behind_pieces Start written) rest) (line_end (behind_pieces Start all_pieces)))
          ∙ ap (λ bytes. bytes ++ line_end (behind_pieces Start all_pieces)) (sym (bytes_shown-append Start written rest) ∙ ap (bytes_shown Start) parts)
          ∙ all_lines all_pieces

      -- a front of the bytes went out, where a call put a front of some more
      stops : (inside : List OpenElement) (link : Option ℕ) (state : LineState) (now after : Option (List ℕ)) (more rest : List Piece) → Walks inside link state before now
          → left_at inside link ≡ more ++ rest → GrowsByFront now after (bytes_shown state more) → GrowsByFront before after all_bytes
      stops inside link state now after more rest walks left grows =
          let front = then_stops Start state walks.written more before now after walks.went_out walks.stands grows in
          let parts = append_assoc walks.written more rest ∙ ap (λ pieces. walks.written ++ pieces) (sym left) ∙ walks.to_do in
          front_after before before after [] (bytes_shown Start (walks.written ++ more)) (bytes_shown (behind_pieces Start (walks.written ++ more)) rest ++ line_end (behind_pieces Start all_pieces)) all_bytes
          (grown-nil before) front (whole (walks.written ++ more) rest parts)

      -- at the end all pieces are written, and the last line ends
      ended_state : (state : LineState) (now : Option (List ℕ)) (walks : Walks [] None state before now) → bytes_shown Start walks.written ++ line_end state ≡ all_bytes
      ended_state state now walks =
          let same : walks.written ≡ all_pieces = sym (append-nil walks.written) ∙ walks.to_do in
          ap (λ s. bytes_shown Start walks.written ++ line_end s) walks.stands
          ∙ ap (λ pieces. bytes_shown Start pieces ++ line_end (behind_pieces Start pieces)) same
          ∙ all_lines all_pieces

      pub ends : (inside : List OpenElement) (link : Option ℕ) (state : LineState) (now after : Option (List ℕ)) → Walks inside link state before now → inside ≡ [] → link ≡ None
          → after ≡ grown now (line_end state) → after ≡ grown before all_bytes
      ends inside link state now after walks none at grew =
          let here = subst (λ l. Walks [] l state before now) at (subst (λ stack. Walks stack link state before now) none walks) in
          grown_after before now after (bytes_shown Start here.written) (line_end state) here.went_out grew ∙ ap (grown before) (ended_state state now here)

      pub ends_early : (inside : List OpenElement) (link : Option ℕ) (state : LineState) (now after : Option (List ℕ)) → Walks inside link state before now → inside ≡ [] → link ≡ None
          → GrowsByFront now after (line_end state) → GrowsByFront before after all_bytes
      ends_early inside link state now after walks none at grows =
          let here = subst (λ l. Walks [] l state before now) at (subst (λ stack. Walks stack link state before now) none walks) in
          front_after before now after (bytes_shown Start here.written) (line_end state) [] all_bytes here.went_out grows
          (append-nil (bytes_shown Start here.written ++ line_end state) ∙ ended_state state now here)

    -- The turns of the code, whose variables are known by equations.
    module _ (before now after : Option (List ℕ)) (stack stack' : List OpenElement) (link link' : Option ℕ) (state state' : LineState) where
      -- into an element
      pub into_turn : (element : OpenElement) (key : ℕ) → Walks (reverse stack) link state before now → link ≡ Some key → IsEnteredAt (entry_of key) (label_of f key) key (Some element)
          → state' ≡ behind_pieces state (entered_at (entry_of key) (label_of f key)) → after ≡ grown now (bytes_shown state (entered_at (entry_of key) (label_of f key)))
          → stack' ≡ stack ++ element ∷ [] → link' ≡ first_child_of f key
          → Walks (reverse stack') link' state' before after
          × ((turns_left f (reverse stack') link' < turns_left f (reverse stack) link) × (elements_left f (reverse stack') link' + element_weight f key ≤ elements_left f (reverse stack) link))
      into_turn element key walks at is stands grew more next =
          let here = subst (λ l. Walks (reverse stack) l state before now) at walks in
          let to = into_at (reverse stack) element key here.link_is is in
          let live : IsLive f element.key = subst (IsLive f) (sym to.0) here.link_is in
          let count = into_weight f (λ _. 1) d (reverse stack) element live in
          let elements = into_weight f (element_weight f) d (reverse stack) element live in
          let count_here = subst (λ k. weight_left f (λ _. 1) (reverse stack) (on_link f (Some k)) ≡ weight_left f (λ _. 1) (element ∷ reverse stack) (on_link f (first_child_of f k)) + 1) to.0 count in
          let elements_here = subst (λ k. weight_left f (element_weight f) (reverse stack) (on_link f (Some k)) ≡ weight_left f (element_weight f) (element ∷ reverse stack) (on_link f (first_child_of f k)) + element_weight f k) to.0 elements in
          rw (pushed stack stack' element more, next, at) (
            moves before (reverse stack) (element ∷ reverse stack) (Some key) (first_child_of f key) state state' now after (entered_at (entry_of key) (label_of f key)) here to.1 stands grew
                (on_first f key d here.link_is).1 (live, here.opened),
            (omega (arith, count_here), omega (arith, elements_here)),
          )

      -- past a node
      pub past_turn : (key : ℕ) → Walks (reverse stack) link state before now → link ≡ Some key → IsEnteredAt (entry_of key) (label_of f key) key None
          → state' ≡ behind_pieces state (entered_at (entry_of key) (label_of f key)) → after ≡ grown now (bytes_shown state (entered_at (entry_of key) (label_of f key)))
          → link' ≡ next_sibling_of f key
          → Walks (reverse stack) link' state' before after
          × ((turns_left f (reverse stack) link' < turns_left f (reverse stack) link) × (elements_left f (reverse stack) link' + element_weight f key ≤ elements_left f (reverse stack) link))
      past_turn key walks at is stands grew next =
          let here = subst (λ l. Walks (reverse stack) l state before now) at walks in
          let count = past_weight f (λ _. 1) d (reverse stack) key here.link_is in
          let elements = past_weight f (element_weight f) d (reverse stack) key here.link_is in
          rw (next, at) (
            moves before (reverse stack) (reverse stack) (Some key) (next_sibling_of f key) state state' now after (entered_at (entry_of key) (label_of f key)) here
                (past_at (reverse stack) key here.link_is is) stands grew (on_next f key d here.link_is).1 here.opened,
            (omega (arith, count), omega (arith, elements)),
          )

      -- and out of an element
      pub leave_turn : (element : OpenElement) → Walks (reverse stack) link state before now → link ≡ None → state' ≡ behind_pieces state (last_of element) → after ≡ grown now (bytes_shown state (last_of element))
          → stack ≡ stack' ++ element ∷ [] → link' ≡ next_sibling_of f element.key
          → Walks (reverse stack') link' state' before after
          × ((turns_left f (reverse stack') link' < turns_left f (reverse stack) link) × (elements_left f (reverse stack') link' ≤ elements_left f (reverse stack) link))
      leave_turn element walks at stands grew more next =
          let here = subst (λ l. Walks (element ∷ reverse stack') l state before now) at (subst (λ nodes. Walks nodes link state before now) (pushed stack' stack element more) walks) in
          let count = leave_weight f (λ _. 1) d (reverse stack') element here.opened.0 in
          let elements = leave_weight f (element_weight f) d (reverse stack') element here.opened.0 in
          rw (pushed stack' stack element more, next, at) (
            moves before (element ∷ reverse stack') (reverse stack') None (next_sibling_of f element.key) state state' now after (last_of element) here
                (leave_at (reverse stack') element here.opened.0) stands grew (on_next f element.key d here.opened.0).1 here.opened.1,
            (omega (arith, count), omega (arith, elements)),
          )

      -- a turn stops while it puts something
      pub enter_stops : (key : ℕ) → Walks (reverse stack) link state before now → link ≡ Some key
          → GrowsByFront now after (bytes_shown state (entered_at (entry_of key) (label_of f key))) → GrowsByFront before after all_bytes
      enter_stops key walks at grows =
          let here = subst (λ l. Walks (reverse stack) l state before now) at walks in
          let front = front_at (reverse stack) key here.link_is in
          stops before (reverse stack) (Some key) state now after (entered_at (entry_of key) (label_of f key)) front.0 here front.1 grows

      pub leave_stops : (element : OpenElement) → Walks (reverse stack) link state before now → link ≡ None → stack ≡ stack' ++ element ∷ []
          → GrowsByFront now after (bytes_shown state (last_of element)) → GrowsByFront before after all_bytes
      leave_stops element walks at more grows =
          let here = subst (λ l. Walks (element ∷ reverse stack') l state before now) at (subst (λ nodes. Walks nodes link state before now) (pushed stack' stack element more) walks) in
          stops before (element ∷ reverse stack') None state now after (last_of element) (left_at (reverse stack') (next_sibling_of f element.key)) here
          (leave_at (reverse stack') element here.opened.0) grows

      pub leave_live : (element : OpenElement) → Walks (reverse stack) link state before now → stack ≡ stack' ++ element ∷ [] → IsLive f element.key
      leave_live element walks more = (subst (λ nodes. Walks nodes link state before now) (pushed stack' stack element more) walks).opened.0

      -- an element that is reached was left before
      pub reach_left : (key : ℕ) → Walks (reverse stack) link state before now → link ≡ Some key → element_weight f key ≤ elements_left f (reverse stack) link
      reach_left key walks at =
          let here = subst (λ l. Walks (reverse stack) l state before now) at walks in
          let less = past_weight f (element_weight f) d (reverse stack) key here.link_is in
          rw at (omega (arith, less))
