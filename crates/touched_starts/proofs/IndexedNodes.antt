-- What the nodes of a document ask for and do. Throughout, b is whether the parent of a node has a box, p the style of the parent, n a
-- node, c what is under it, r what is after it, g trees, i what they are handed, k a key, and l a label.
use Rattle.std.proofs.Common.{◌≡◌, ◌&&◌, ◌++◌, ◌∷◌, ℕ, pos, Bool, true, false, All, List, [], Option, Some, None, IsSome, cond, map, refl, sym, ap, subst, ◌∙◌}
use Rattle.std.specs.Prelude.{filter, is_some, not, option_and_then, option_map, unwrap_or}
use Rattle.std.specs.Option.{option_map_or}
use Rattle.std.proofs.lemmas.List.{map-append}
use Rattle.std.proofs.lemmas.List.Elements.{All-head}
use Rattle.forest.specs.Forest.{Forest, Empty, Tree}
use Rattle.forest.specs.Keys.{Keyed, HasDistinctKeys}
use Rattle.forest.specs.Spots.{IsLive, Spot}
use Rattle.plain_types.specs.declared.box_id.BoxId.{BoxId}
use Rattle.plain_types.specs.declared.box_kind.BoxKind.{BoxKind}
use Rattle.plain_types.specs.declared.box_kind.BoxKind.TheVariants as kind
use Rattle.plain_types.specs.declared.counter.Counter.{Counter}
use Rattle.plain_types.specs.declared.counter_style.CounterStyle.{CounterStyle}
use Rattle.plain_types.specs.declared.node.Node.{Node}
use Rattle.plain_types.specs.declared.node.Node.TheVariants as node
use Rattle.plain_types.specs.declared.style.ElementStyle.{ElementStyle}
use Rattle.plain_types.specs.declared.style.ResetOp.{ResetOp}
use Rattle.plain_types.specs.declared.style.Style.{Style}
use Rattle.node_arena.specs.Nodes.{name_of, node_name}
use Rattle.reversed_start.specs.Starts.{start}
use Rattle.box_eval.specs.declared.change.Change.{Change}
use Rattle.box_eval.specs.declared.inputs.Start.{Start}
use Rattle.box_eval.specs.Boxes.{box_of, generates_box, has_pseudo_box}
use Rattle.box_eval.specs.Elements.{Styled, by_parent}
use Rattle.box_eval.specs.Evaluation.{Element, StyledNode, box_starts, changes_in, element_starts, is_boxed, record_of, styled_node, styled_trees}
use Rattle.box_eval.specs.Properties.{last_resets}
use Rattle.box_eval.specs.Starts.{document_starts, events_of, no_starts}
use Rattle.box_eval.proofs.GroupLemmas.{no_event}
use Rattle.merged_walk.specs.Evaluators.{past_all}
use Rattle.merged_walk.proofs.EntryLaws.{all-left, all-right}
use Rattle.surroundings.specs.declared.surroundings.Surroundings.{Surroundings}
use Rattle.surroundings.specs.StyledEvaluators.{inside_node, past_styled, root_surroundings, starts_in, styled_evaluator}
use Rattle.surroundings.specs.StyledEvaluators.{is_element as is_styled_element}
use Rattle.surroundings.specs.Surroundings.{handed_by}
use Rattle.surroundings.proofs.Asking.{inside-some, past-some}
use Rattle.edit_merge.specs.EditMerges.{is_element}
use Rattle.styled_merge.specs.StyledMerges.{Starting}
use Rattle.scope_reading.specs.ScopeChanges.{has_it}
use Rattle.scope_deeds.specs.Counting.{Counting}
use Rattle.scope_deeds.proofs.LawLemmas.{kept_scopes_tell_starts}
use Rattle.scope_deeds.specs.KeptScopes.{kept_after, kept_before, kept_changes, kept_from, kept_own, kept_row, kept_scope}
use Rattle.counter_index.specs.declared.deeds.CounterDeeds.{CounterDeeds}
use Rattle.counter_index.specs.Documents.{all_deeds, counter_deeds_in, counter_deeds_of}
use Rattle.counter_index.specs.Indexes.{asked_by, counting_by, with_values}
use Rattle.counter_index.proofs.IndexLemmas.{all_deeds_keep_counting}
use Rattle.counter_index.proofs.ScopeLemmas.{scope-at, up}
use Rattle.touched_starts.proofs.EntryCounts.{deeds-held}
use Rattle.touched_starts.proofs.IndexedDeeds.{nothing-done, stands-named}
use Rattle.touched_starts.proofs.NodeFacts.{OfNodes, Stands, stands-below, stands-beside, stands-top, within_of}

-- The starts of an element are those for which it asks, with their values.
module _ (told : Starting) where
  abbrev of_reset : Starting → BoxId → ResetOp → Start
  of_reset given creator reset = record { creator = creator; name = reset.name; value = given creator reset.name }

  resets-told : (creator : BoxId) (resets : List ResetOp) → with_values told (map (of_reset no_starts creator) resets) ≡ map (of_reset told creator) resets
  resets-told creator [] = refl
  resets-told creator (reset ∷ resets) = ap (λ rest. of_reset told creator reset ∷ rest) (resets-told creator resets)

  if-told : (b : Bool) (starts others : List Start) → with_values told starts ≡ others → with_values told (cond b starts []) ≡ cond b others []
  if-told true starts others is = is
  if-told false starts others is = refl

  box-told : (creator : BoxId) (style : Style) → with_values told (box_starts no_starts creator style) ≡ box_starts told creator style
  box-told creator style = resets-told creator (filter (λ (reset : ResetOp). reset.reversed && not (is_some reset.value)) (last_resets style.resets))

  pub told-starts : (k : ℕ) (style : ElementStyle) → with_values told (element_starts no_starts k style) ≡ element_starts told k style
  told-starts k style =
      let own : Starting → List Start = λ given. box_starts given (box_of k kind.Element) style.own in
      let before : Starting → List Start = λ given. cond (has_pseudo_box style.before) (box_starts given (box_of k kind.Before) style.before) [] in
      let after : Starting → List Start = λ given. cond (has_pseudo_box style.after) (box_starts given (box_of k kind.After) style.after) [] in
      let value : Start → Start = λ start. record { creator = start.creator; name = start.name; value = told start.creator start.name } in
      let first = box-told (box_of k kind.Element) style.own in
      let second = if-told (has_pseudo_box style.before) (box_starts no_starts (box_of k kind.Before) style.before) (box_starts told (box_of k kind.Before) style.before) (box-told (box_of k kind.Before) style.before) in
      let third = if-told (has_pseudo_box style.after) (box_starts no_starts (box_of k kind.After) style.after) (box_starts told (box_of k kind.After) style.after) (box-told (box_of k kind.After) style.after) in
      if-told (generates_box style) (own no_starts ++ (before no_starts ++ after no_starts)) (own told ++ (before told ++ after told))
      (map-append value (own no_starts) (before no_starts ++ after no_starts)
      ∙ ap (λ rest. map value (own no_starts) ++ rest) (map-append value (before no_starts) (after no_starts))
      ∙ (λ i. first i ++ (second i ++ third i)))

module _ (table : List CounterStyle) (style : ℕ → Option Style → ElementStyle) (tree : Forest (Keyed Node)) where
  -- What elements ask for: what their styles do, where their parents have boxes.

  abbrev pub Asks : Bool → Option Style → Keyed Node → Type 0
  Asks b p n = is_element n.label ≡ true → asked_by (all_deeds table style tree n.key) ≡ cond b (element_starts no_starts n.key (style n.key p)) []

  abbrev IsHeld : ℕ × CounterDeeds → Type 0
  IsHeld entry = all_deeds table style tree entry.0 ≡ Some entry.1

  asked-if : (b : Bool) (all : List Start) (element : Styled) → element.starts ≡ cond b all [] → starts_in b (Element element) ≡ element.starts
  asked-if true all element is = refl
  asked-if false all element is = sym is

  own-asked : (k : ℕ) (element : Styled) (all : List Start) → element.starts ≡ cond (generates_box element.style) all [] → (i behind : Option Surroundings)
      → (counter_deeds_of table (record { key = k; label = Element element }) i behind).asked ≡ cond (is_some i) element.starts []
  own-asked k element all is None behind = refl
  own-asked k element all is (Some around) behind = asked-if (generates_box element.style) all element is

  own-asks : (k : ℕ) (l : Node) (p : Option Style) (i behind : Option Surroundings)
      → let node : Keyed StyledNode = record { key = k; label = styled_node style no_starts p k l } in
      All IsHeld (cond (is_styled_element node.label) ((k, counter_deeds_of table node i behind) ∷ []) []) → is_element l ≡ true
      → asked_by (all_deeds table style tree k) ≡ cond (is_some i) (element_starts no_starts k (style k p)) []
  own-asks k (node.Text characters) p i behind all is = absurd (cc is)
  own-asks k (node.Element name attrs) p i behind all is =
      let its : ElementStyle = style k p in
      let element : Styled = record { attrs = attrs; style = its; starts = element_starts no_starts k its } in
      let starts : List Start =
      box_starts no_starts (box_of k kind.Element) its.own
      ++ (cond (has_pseudo_box its.before) (box_starts no_starts (box_of k kind.Before) its.before) []
      ++ cond (has_pseudo_box its.after) (box_starts no_starts (box_of k kind.After) its.after) []) in
      ap asked_by (All-head IsHeld (k, counter_deeds_of table (record { key = k; label = Element element }) i behind) [] all)
      ∙ own-asked k element starts refl i behind

  pub all-ask : (g : Forest (Keyed Node)) (p : Option Style) (i : Option Surroundings) → All IsHeld (counter_deeds_in table i (styled_trees style no_starts p g)) → OfNodes style Asks (is_some i) p g
  all-ask Empty p i all = tt
  all-ask (Tree n c r) p i all =
      let node : Keyed StyledNode = record { key = n.key; label = styled_node style no_starts p n.key n.label } in
      let inner : Option Style = within_of style p n in
      let children : Forest (Keyed StyledNode) = styled_trees style no_starts inner c in
      let inside : Option Surroundings = inside_node table node i in
      let behind : Option Surroundings = past_all (styled_evaluator table) inside children in
      let next : Option Surroundings = past_styled table node i behind in
      let below : List (ℕ × CounterDeeds) = counter_deeds_in table inside children in
      let own : List (ℕ × CounterDeeds) = cond (is_styled_element node.label) ((n.key, counter_deeds_of table node i behind) ∷ []) [] in
      let beside : List (ℕ × CounterDeeds) = counter_deeds_in table next (styled_trees style no_starts p r) in
      let rest = all-right IsHeld below (own ++ beside) all in (
        own-asks n.key n.label p i behind (all-left IsHeld own beside rest),
        subst (λ b. OfNodes style Asks b inner c) (inside-some table n.key node.label i) (all-ask c inner inside (all-left IsHeld below (own ++ beside) all)),
        subst (λ b. OfNodes style Asks b p r) (past-some table node i behind) (all-ask r p next (all-right IsHeld own beside rest)),
      )

  -- Counters of elements under one without a box: none is created, and so all have the start 0.

  -- a node stands in the document, and where its parent has no box none of its counters has a start that is not 0
  pub record Stays (b : Bool) (p : Option Style) (n : Keyed Node) : Type 0 where
    pub named : is_element n.label ≡ true → IsSome (name_of tree n.key)
    pub zero : b ≡ false → (which : BoxKind) (name : List ℕ) → document_starts table style tree (box_of n.key which) name ≡ pos 0

  module _ (distinct : HasDistinctKeys tree) where
    abbrev kept : ℕ → Option Counting
    kept key = option_map counting_by (all_deeds table style tree key)

    -- what is kept of an element tells what is kept for counters
    before-by : (k : ℕ) (o : Option CounterDeeds) → all_deeds table style tree k ≡ o → kept_before kept k ≡ option_map_or (λ (its : CounterDeeds). its.before_children) o []
    before-by k None at = ap (λ (o : Option CounterDeeds). option_map_or (λ (its : Counting). its.deeds.before_children) (option_map counting_by o) []) at
    before-by k (Some its) at = ap (λ (o : Option CounterDeeds). option_map_or (λ (its : Counting). its.deeds.before_children) (option_map counting_by o) []) at

    after-by : (k : ℕ) (o : Option CounterDeeds) → all_deeds table style tree k ≡ o → kept_after kept k ≡ option_map_or (λ (its : CounterDeeds). its.after_children) o []
    after-by k None at = ap (λ (o : Option CounterDeeds). option_map_or (λ (its : Counting). its.deeds.after_children) (option_map counting_by o) []) at
    after-by k (Some its) at = ap (λ (o : Option CounterDeeds). option_map_or (λ (its : Counting). its.deeds.after_children) (option_map counting_by o) []) at

    own-by : (k : ℕ) (o : Option CounterDeeds) → all_deeds table style tree k ≡ o → kept_own kept k ≡ option_and_then (λ (its : CounterDeeds). its.own) o
    own-by k None at = ap (λ (o : Option CounterDeeds). option_and_then (λ (its : Counting). its.own) (option_map counting_by o)) at
    own-by k (Some its) at = ap (λ (o : Option CounterDeeds). option_and_then (λ (its : Counting). its.own) (option_map counting_by o)) at

    abbrev Own : ℕ → Node → Option Style → (i behind : Option Surroundings) → Type 0
    Own k l p i behind =
        let node : Keyed StyledNode = record { key = k; label = styled_node style no_starts p k l } in
        All IsHeld (cond (is_styled_element node.label) ((k, counter_deeds_of table node i behind) ∷ []) [])

    -- an element does nothing that is handed nothing, nor does a text
    pub record DoesNothing (k : ℕ) : Type 0 where
      pub before : kept_before kept k ≡ []
      pub after : kept_after kept k ≡ []
      pub own : kept_own kept k ≡ None

    node-none : (k : ℕ) (l : Node) (p : Option Style) (behind : Option Surroundings) → name_of tree k ≡ node_name l → Own k l p None behind → DoesNothing k
    node-none k (node.Text characters) p behind named all =
        let none = nothing-done table style tree distinct k named in
        record { before = before-by k None none; after = after-by k None none; own = own-by k None none }
    node-none k (node.Element name attrs) p behind named all =
        let element : Styled = record { attrs = attrs; style = style k p; starts = element_starts no_starts k (style k p) } in
        let its : CounterDeeds = counter_deeds_of table (record { key = k; label = Element element }) None behind in
        let held = All-head IsHeld (k, its) [] all in
        record { before = before-by k (Some its) held; after = after-by k (Some its) held; own = own-by k (Some its) held }

    -- behind its children no node does anything that has no box
    unboxed-after : (k : ℕ) (element : Styled) (i behind : Option Surroundings) → is_boxed (is_some i) (Element element) ≡ false
        → (counter_deeds_of table (record { key = k; label = Element element }) i behind).after_children ≡ []
    unboxed-after k element None behind none = refl
    unboxed-after k element (Some around) behind none =
        ap (λ boxed. changes_in (record_of table by_parent boxed k element (handed_by around) (handed_by (unwrap_or behind around))).after) none

    node-after : (k : ℕ) (l : Node) (p : Option Style) (i behind : Option Surroundings) → name_of tree k ≡ node_name l → Own k l p i behind
        → is_boxed (is_some i) (styled_node style no_starts p k l) ≡ false → kept_after kept k ≡ []
    node-after k (node.Text characters) p i behind named all none = after-by k None (nothing-done table style tree distinct k named)
    node-after k (node.Element name attrs) p i behind named all none =
        let element : Styled = record { attrs = attrs; style = style k p; starts = element_starts no_starts k (style k p) } in
        let its : CounterDeeds = counter_deeds_of table (record { key = k; label = Element element }) i behind in
        after-by k (Some its) (All-head IsHeld (k, its) [] all) ∙ unboxed-after k element i behind none

    abbrev Held : Option Style → Option Surroundings → Forest (Keyed Node) → Type 0
    Held p i g = All IsHeld (counter_deeds_in table i (styled_trees style no_starts p g))

    -- what is kept of a node, of what is under it and of what is behind it
    pub record HeldParts (n : Keyed Node) (c r : Forest (Keyed Node)) (p : Option Style) (i inside behind next : Option Surroundings) : Type 0 where
      pub own : Own n.key n.label p i behind
      pub below : Held (within_of style p n) inside c
      pub beside : Held p next r

    abbrev inside_of : Keyed Node → Option Style → Option Surroundings → Option Surroundings
    inside_of n p i = inside_node table (record { key = n.key; label = styled_node style no_starts p n.key n.label }) i

    abbrev behind_of : Keyed Node → Forest (Keyed Node) → Option Style → Option Surroundings → Option Surroundings
    behind_of n c p i = past_all (styled_evaluator table) (inside_of n p i) (styled_trees style no_starts (within_of style p n) c)

    abbrev next_of : Keyed Node → Forest (Keyed Node) → Option Style → Option Surroundings → Option Surroundings
    next_of n c p i = past_styled table (record { key = n.key; label = styled_node style no_starts p n.key n.label }) i (behind_of n c p i)

    parts-of : (n : Keyed Node) (c r : Forest (Keyed Node)) (p : Option Style) (i : Option Surroundings) → Held p i (Tree n c r)
        → HeldParts n c r p i (inside_of n p i) (behind_of n c p i) (next_of n c p i)
    parts-of n c r p i all =
        let node : Keyed StyledNode = record { key = n.key; label = styled_node style no_starts p n.key n.label } in
        let below : List (ℕ × CounterDeeds) = counter_deeds_in table (inside_of n p i) (styled_trees style no_starts (within_of style p n) c) in
        let own : List (ℕ × CounterDeeds) = cond (is_styled_element node.label) ((n.key, counter_deeds_of table node i (behind_of n c p i)) ∷ []) [] in
        let beside : List (ℕ × CounterDeeds) = counter_deeds_in table (next_of n c p i) (styled_trees style no_starts p r) in
        let rest = all-right IsHeld below (own ++ beside) all in
        record { own = all-left IsHeld own beside rest; below = all-left IsHeld below (own ++ beside) all; beside = all-right IsHeld own beside rest }

    module _ (creator : BoxId) (name : List ℕ) where
      none-read : (g : Forest (Keyed Node)) (parent : Option ℕ) (earlier : List (Keyed Node)) (p : Option Style) → Stands tree parent earlier g → Held p None g
          → (kept_changes kept g ≡ []) × (kept_row kept creator name g ≡ [])
      none-read Empty parent earlier p at all = (refl, refl)
      none-read (Tree n c r) parent earlier p at all =
          let parts = parts-of n c r p None all in
          let none = node-none n.key n.label p (behind_of n c p None) (stands-named table style tree distinct parent earlier n c r at) parts.own in
          let under = none-read c (Some n.key) [] (within_of style p n) (stands-below tree distinct parent earlier n c r at c refl) parts.below in
          let rest = none-read r parent (earlier ++ n ∷ []) p (stands-beside tree distinct parent earlier n c r at r refl) parts.beside in
          let before = none.before in
          let after = none.after in
          let changes = under.0 in
          let later = rest.0 in
          let here : List Change = kept_before kept n.key ++ (kept_changes kept c ++ (kept_after kept n.key ++ kept_row kept creator name r)) in (
            λ x. before x ++ (changes x ++ (after x ++ later x)),
            ap (λ own. option_map_or (λ (its : List Counter). cond (has_it creator name its) here []) own (kept_row kept creator name r)) none.own ∙ rest.1,
          )

      from-none : (which : BoxKind) (k : ℕ) (c r : Forest (Keyed Node)) → DoesNothing k → kept_changes kept c ≡ [] → kept_row kept creator name c ≡ [] → kept_row kept creator name r ≡ []
          → kept_from kept creator name which k c r ≡ []
      from-none kind.Before k c r none changes row later = let before = none.before in let after = none.after in λ x. before x ++ (row x ++ after x)
      from-none kind.After k c r none changes row later = none.after
      from-none kind.Element k c r none changes row later = let before = none.before in let after = none.after in λ x. before x ++ (changes x ++ (after x ++ later x))
      from-none kind.Marker k c r none changes row later = let before = none.before in let after = none.after in λ x. before x ++ (changes x ++ (after x ++ later x))

    zero-here : (n : Keyed Node) (c r : Forest (Keyed Node)) (parent : Option ℕ) (earlier : List (Keyed Node)) (p : Option Style) → Stands tree parent earlier (Tree n c r)
        → up kept parent ≡ [] → Held p None (Tree n c r) → (which : BoxKind) (name : List ℕ) → document_starts table style tree (box_of n.key which) name ≡ pos 0
    zero-here n c r parent earlier p at above all which name =
        let creator : BoxId = box_of n.key which in
        let parts = parts-of n c r p None all in
        let none = node-none n.key n.label p (behind_of n c p None) (stands-named table style tree distinct parent earlier n c r at) parts.own in
        let under = none-read creator name c (Some n.key) [] (within_of style p n) (stands-below tree distinct parent earlier n c r at c refl) parts.below in
        let rest = none-read creator name r parent (earlier ++ n ∷ []) p (stands-beside tree distinct parent earlier n c r at r refl) parts.beside in
        let own = from-none creator name which n.key c r none under.0 under.1 rest.1 in
        let live : IsLive tree n.key = subst (λ (o : Option (Spot Node)). IsSome o) (sym at) refl in
        let read : kept_scope kept creator name tree ≡ [] =
        scope-at kept creator name tree distinct live
        ∙ ap (λ (o : Option (Spot Node)).
        kept_from kept creator name which n.key (unwrap_or (option_map (λ (s : Spot Node). s.children) o) Empty) (unwrap_or (option_map (λ (s : Spot Node). s.after) o) Empty)
        ++ up kept (option_and_then (λ (s : Spot Node). s.parent) o)) at
        ∙ (λ x. own x ++ above x) in
        kept_scopes_tell_starts table style tree distinct kept (all_deeds_keep_counting table style tree) creator name ∙ ap (λ (read : List Change). start (events_of read creator name)) read ∙ no_event

    -- by whether something is handed
    zero-by : (n : Keyed Node) (c r : Forest (Keyed Node)) (parent : Option ℕ) (earlier : List (Keyed Node)) (p : Option Style) (i : Option Surroundings) → Stands tree parent earlier (Tree n c r)
        → (is_some i ≡ false → up kept parent ≡ []) → Held p i (Tree n c r) → is_some i ≡ false
        → (which : BoxKind) (name : List ℕ) → document_starts table style tree (box_of n.key which) name ≡ pos 0
    zero-by n c r parent earlier p None at above all none = zero-here n c r parent earlier p at (above refl) all
    zero-by n c r parent earlier p (Some around) at above all none = absurd (cc none)

    all-stay : (g : Forest (Keyed Node)) (parent : Option ℕ) (earlier : List (Keyed Node)) (p : Option Style) (i : Option Surroundings) → Stands tree parent earlier g
        → (is_some i ≡ false → up kept parent ≡ []) → Held p i g → OfNodes style Stays (is_some i) p g
    all-stay Empty parent earlier p i at above all = tt
    all-stay (Tree n c r) parent earlier p i at above all =
        let label : StyledNode = styled_node style no_starts p n.key n.label in
        let parts = parts-of n c r p i all in
        let named = stands-named table style tree distinct parent earlier n c r at in
        let inside : is_some (inside_of n p i) ≡ is_boxed (is_some i) label = inside-some table n.key label i in
        let next : is_some (next_of n c p i) ≡ is_some i = past-some table (record { key = n.key; label = label }) i (behind_of n c p i) in
        let under =
        all-stay c (Some n.key) [] (within_of style p n) (inside_of n p i) (stands-below tree distinct parent earlier n c r at c refl)
        (λ none. node-after n.key n.label p i (behind_of n c p i) named parts.own (sym inside ∙ none)) parts.below in
        let rest = all-stay r parent (earlier ++ n ∷ []) p (next_of n c p i) (stands-beside tree distinct parent earlier n c r at r refl) (λ none. above (sym next ∙ none)) parts.beside in (
          record {
            named = λ is. ap (λ (o : Option (List ℕ)). is_some o) named ∙ is;
            zero = zero-by n c r parent earlier p i at above all;
          },
          subst (λ b. OfNodes style Stays b (within_of style p n) c) inside under,
          subst (λ b. OfNodes style Stays b p r) next rest,
        )

    pub whole-asks : OfNodes style Asks true None tree
    whole-asks = all-ask tree None root_surroundings (deeds-held table style tree distinct)

    pub whole-stays : OfNodes style Stays true None tree
    whole-stays = all-stay tree None [] None root_surroundings (stands-top tree tree refl) (λ none. refl) (deeds-held table style tree distinct)
