-- A box that asks for the start of a counter creates it reversed. Throughout, n is a node, c what is under it, r what is after it, and g
-- trees.
use Rattle.std.proofs.Common.{◌≡◌, ◌==◌, ◌++◌, ◌∷◌, ◌||◌, ◌&&◌, ℕ, Bool, true, false, cond, not, pos, List, [], map, Option, Some, None, refl, sym, ap, subst, ◌∙◌, inl, inr}
use Rattle.std.proofs.lemmas.Bool.{cases_Bool}
use Rattle.std.proofs.lemmas.List.Folds.{list_any-append}
use Rattle.std.specs.Prelude.{filter, find, is_some}
use Rattle.std.specs.List.{AllByRecursion, list_any}
use Rattle.std.specs.Option.{option_map_or}
use Rattle.std.specs.Str.{bytes_eq}
use Rattle.forest.specs.Forest.{Forest, Empty, Tree, labels}
use Rattle.forest.specs.Keys.{Keyed}
use Rattle.plain_types.specs.declared.attr.Attr.{Attr}
use Rattle.plain_types.specs.declared.box_id.BoxId.{BoxId}
use Rattle.plain_types.specs.declared.box_kind.BoxKind.{BoxKind}
use Rattle.plain_types.specs.declared.box_kind.BoxKind.TheVariants as kind
use Rattle.plain_types.specs.declared.counter.Counter.{Counter}
use Rattle.plain_types.specs.declared.counter_style.CounterStyle.{CounterStyle}
use Rattle.plain_types.specs.declared.node.Node.{Node}
use Rattle.plain_types.specs.declared.node.Node.TheVariants as node
use Rattle.plain_types.specs.declared.style.ElementStyle.{ElementStyle}
use Rattle.plain_types.specs.declared.style.ResetOp.{ResetOp}
use Rattle.plain_types.specs.declared.style.Style.{Style}
use Rattle.counter_sets.specs.Sets.{is_same_box, is_same_kind}
use Rattle.box_eval.specs.declared.inputs.Start.{Start}
use Rattle.box_eval.specs.Boxes.{box_of, generates_box, has_marker, has_pseudo_box}
use Rattle.box_eval.specs.Elements.{Styled}
use Rattle.box_eval.specs.Evaluation.{Element, StyledNode, box_starts, element_starts, is_boxed, style_within, styled_node, styled_trees}
use Rattle.box_eval.specs.Properties.{first_value, last_resets}
use Rattle.box_eval.specs.Starts.{no_starts}
use Rattle.box_eval.proofs.BoxLemmas.{box_eq}
use Rattle.box_eval.proofs.ListLemmas.{each_append, or_parts}
use Rattle.counter_scopes.specs.Boxes.{DocumentBox, beside, boxes_in, child_boxes, leaf, marker_box, node_boxes, own_box, pseudo_box}
use Rattle.counter_scopes.specs.Counting.{created, reset_for}
use Rattle.counter_scopes.proofs.OpLemmas.{Once, once_last}
use Rattle.counter_scopes.proofs.ToldLemmas.{each_back, each_front}
use Rattle.merged_walk.specs.Evaluators.{past_all, told, told_all}
use Rattle.surroundings.specs.declared.surroundings.Surroundings.{Surroundings}
use Rattle.surroundings.specs.declared.told.Told.{Told}
use Rattle.surroundings.specs.StyledEvaluators.{inside_node, past_styled, starts_in, styled_evaluator}
use Rattle.surroundings.proofs.Asking.{inside-some, past-some}
use Rattle.scope_deeds.specs.Reversed.{is_start_of}
use Rattle.scope_deeds.proofs.ReversedSets.{CreatesReversed}

and-parts : (b c : Bool) → (b && c) ≡ true → (b ≡ true) × (c ≡ true)
and-parts true c h = (refl, h)
and-parts false c h = absurd (cc)

and-none : (b c : Bool) → c ≡ false → (b && c) ≡ false
and-none true c h = h
and-none false c h = refl

-- Boxes side by side.

each-beside : (P : DocumentBox → Type 0) (f g : Forest DocumentBox) → AllByRecursion P (labels f) → AllByRecursion P (labels g) → AllByRecursion P (labels (beside f g))
each-beside P Empty g h i = i
each-beside P (Tree root c r) g h i = (
  h.0,
  each_append P (labels c) (labels (beside r g)) (each_front P (labels c) (labels r) h.1) (each-beside P r g (each_back P (labels c) (labels r) h.1) i),
)

each-leaf : (P : DocumentBox → Type 0) (b : Bool) (box : DocumentBox) → P box → AllByRecursion P (labels (leaf b box))
each-leaf P true box h = (h, tt)
each-leaf P false box h = tt

-- What a box resets, and for which starts it asks.
module _ (a : BoxId) (name : List ℕ) (creator : BoxId) where
  abbrev asked : ResetOp → Start
  asked reset = record { creator = creator; name = reset.name; value = no_starts creator reset.name }

  abbrev is_for_start : ResetOp → Bool
  is_for_start reset = reset.reversed && not (is_some reset.value)

  abbrev is_named : ResetOp → Bool
  is_named reset = bytes_eq reset.name name

  abbrev is_its : Start → Bool
  is_its start = is_same_box start.creator a && bytes_eq start.name name

  none-named : (resets : List ResetOp) → list_any is_named resets ≡ false → list_any is_its (map asked (filter is_for_start resets)) ≡ false
  none-named [] h = refl
  none-named (reset ∷ resets) h =
      let parts = or_parts (is_named reset) (list_any is_named resets) h in
      elim (cases_Bool (is_for_start reset)) [
        | inl e ↦ rw e (ap (λ b. b || list_any is_its (map asked (filter is_for_start resets))) (and-none (is_same_box creator a) (is_named reset) parts.0) ∙ none-named resets parts.1)
        | inr e ↦ rw e (none-named resets parts.1)
      ]

  -- it resets the name as a reversed one
  reset-reversed : (resets : List ResetOp) → Once is_named resets → list_any is_its (map asked (filter is_for_start resets)) ≡ true
      → option_map_or (λ (reset : ResetOp). reset.reversed) (find is_named resets) false ≡ true
  reset-reversed [] once h = absurd (cc)
  reset-reversed (reset ∷ resets) once h = elim (cases_Bool (is_named reset)) [
    | inl named ↦ elim (cases_Bool (is_for_start reset)) [
      | inl e ↦ rw named (and-parts reset.reversed (not (is_some reset.value)) e).0
      | inr e ↦
          let later : list_any is_its (map asked (filter is_for_start resets)) ≡ true = rw e at h in
          absurd (let none = none-named resets (once.0 named) in cc)
    ]
    | inr other ↦ rw other (elim (cases_Bool (is_for_start reset)) [
      | inl e ↦
          let either : (is_its (asked reset) || list_any is_its (map asked (filter is_for_start resets))) ≡ true = rw e at h in
          reset-reversed resets once.1
          (sym (ap (λ b. b || list_any is_its (map asked (filter is_for_start resets))) (and-none (is_same_box creator a) (is_named reset) other)) ∙ either)
      | inr e ↦ reset-reversed resets once.1 (rw e at h)
    ])
  ]

  -- another box asks for none of its
  pub others-ask : (style : Style) → is_same_box creator a ≡ false → is_start_of a name (box_starts no_starts creator style) ≡ false
  others-ask style not = each (filter is_for_start (last_resets style.resets))
    where
      each : (resets : List ResetOp) → list_any is_its (map asked resets) ≡ false
      each [] = refl
      each (reset ∷ resets) = ap (λ b. (b && is_named reset) || list_any is_its (map asked resets)) not ∙ each resets

  pub asks-reversed : (box : DocumentBox) (style : Style) → box.resets ≡ style.resets → is_start_of a name (box_starts no_starts creator style) ≡ true → (created name box).reversed ≡ true
  asks-reversed box style same h =
      by (reset_for name box)
      (ap (λ (resets : List ResetOp). option_map_or (λ (reset : ResetOp). reset.reversed) (find is_named (last_resets resets)) false) same
      ∙ reset-reversed (last_resets style.resets) (once_last (λ (reset : ResetOp). reset.name) name style.resets) h)
    where
      by : (found : Option ResetOp) → option_map_or (λ (reset : ResetOp). reset.reversed) found false ≡ true
          → (option_map_or {U = Counter} (λ (reset : ResetOp). record { name = name; creator = box.id; reversed = reset.reversed; value = first_value box.starts box.id reset }) found (record { name = name; creator = box.id; reversed = false; value = pos 0 })).reversed
          ≡ true
      by (Some reset) h = h
      by None h = absurd (cc)

first-of : (x y z : Bool) → y ≡ false → z ≡ false → (x || (y || z)) ≡ true → x ≡ true
first-of true y z e f h = refl
first-of false y z e f h = absurd (let neither : (false || (false || false)) ≡ true = rw (e, f) at h in cc)

second-of : (x y z : Bool) → x ≡ false → z ≡ false → (x || (y || z)) ≡ true → y ≡ true
second-of x true z e f h = refl
second-of x false z e f h = absurd (let neither : (false || (false || false)) ≡ true = rw (e, f) at h in cc)

third-of : (x y z : Bool) → x ≡ false → y ≡ false → (x || (y || z)) ≡ true → z ≡ true
third-of x y true e f h = refl
third-of x y false e f h = absurd (let neither : (false || (false || false)) ≡ true = rw (e, f) at h in cc)

-- The boxes of one element.
module _ (name : List ℕ) (key : ℕ) (element : Styled) where
  abbrev asked_of : BoxId → List Start → Bool
  asked_of a starts = is_start_of a name starts

  abbrev own_asked : BoxId → Bool
  own_asked a = asked_of a (box_starts no_starts (box_of key kind.Element) element.style.own)

  abbrev pseudo_asked : BoxKind → Style → BoxId → Bool
  pseudo_asked which style a = asked_of a (cond (has_pseudo_box style) (box_starts no_starts (box_of key which) style) [])

  asked-parts : (a : BoxId) → asked_of a (element_starts no_starts key element.style) ≡ true
      → (own_asked a || (pseudo_asked kind.Before element.style.before a || pseudo_asked kind.After element.style.after a)) ≡ true
  asked-parts a h = by (generates_box element.style) h
    where
      own : List Start
      own = box_starts no_starts (box_of key kind.Element) element.style.own

      before : List Start
      before = cond (has_pseudo_box element.style.before) (box_starts no_starts (box_of key kind.Before) element.style.before) []

      after : List Start
      after = cond (has_pseudo_box element.style.after) (box_starts no_starts (box_of key kind.After) element.style.after) []

      is_its : Start → Bool
      is_its start = is_same_box start.creator a && bytes_eq start.name name

      by : (b : Bool) → asked_of a (cond b (own ++ (before ++ after)) []) ≡ true → (own_asked a || (pseudo_asked kind.Before element.style.before a || pseudo_asked kind.After element.style.after a)) ≡ true
      by true h = sym (list_any-append is_its own (before ++ after) ∙ ap (λ b. asked_of a own || b) (list_any-append is_its before after)) ∙ h
      by false h = absurd (cc)

  pseudo-none : (which : BoxKind) (style : Style) (a : BoxId) → is_same_box (box_of key which) a ≡ false → pseudo_asked which style a ≡ false
  pseudo-none which style a not = by (has_pseudo_box style)
    where
      by : (b : Bool) → asked_of a (cond b (box_starts no_starts (box_of key which) style) []) ≡ false
      by true = others-ask a name (box_of key which) style not
      by false = refl

  pseudo-some : (which : BoxKind) (style : Style) (a : BoxId) → pseudo_asked which style a ≡ true → asked_of a (box_starts no_starts (box_of key which) style) ≡ true
  pseudo-some which style a h = by (has_pseudo_box style) h
    where
      by : (b : Bool) → asked_of a (cond b (box_starts no_starts (box_of key which) style) []) ≡ true → asked_of a (box_starts no_starts (box_of key which) style) ≡ true
      by true h = h
      by false h = absurd (cc)

  -- two of its boxes are not the same
  apart : (which other : BoxKind) → is_same_kind which other ≡ false → is_same_box (box_of key which) (box_of key other) ≡ false
  apart which other not = and-none (key == key) (is_same_kind which other) not

  abbrev AsksFor : BoxId → Type 0
  AsksFor a = asked_of a (element_starts no_starts key element.style) ≡ true

  own-reversed : AsksFor (box_of key kind.Element) → (created name (own_box key element)).reversed ≡ true
  own-reversed h =
      let a : BoxId = box_of key kind.Element in
      asks-reversed a name a (own_box key element) element.style.own refl
      (first-of (own_asked a) (pseudo_asked kind.Before element.style.before a) (pseudo_asked kind.After element.style.after a) (pseudo-none kind.Before element.style.before a (apart kind.Before kind.Element refl))
      (pseudo-none kind.After element.style.after a (apart kind.After kind.Element refl)) (asked-parts a h))

  before-reversed : AsksFor (box_of key kind.Before) → (created name (pseudo_box key element kind.Before element.style.before)).reversed ≡ true
  before-reversed h =
      let a : BoxId = box_of key kind.Before in
      asks-reversed a name a (pseudo_box key element kind.Before element.style.before) element.style.before refl
      (pseudo-some kind.Before element.style.before a
      (second-of (own_asked a) (pseudo_asked kind.Before element.style.before a) (pseudo_asked kind.After element.style.after a)
      (others-ask a name (box_of key kind.Element) element.style.own (apart kind.Element kind.Before refl)) (pseudo-none kind.After element.style.after a (apart kind.After kind.Before refl)) (asked-parts a h)))

  after-reversed : AsksFor (box_of key kind.After) → (created name (pseudo_box key element kind.After element.style.after)).reversed ≡ true
  after-reversed h =
      let a : BoxId = box_of key kind.After in
      asks-reversed a name a (pseudo_box key element kind.After element.style.after) element.style.after refl
      (pseudo-some kind.After element.style.after a
      (third-of (own_asked a) (pseudo_asked kind.Before element.style.before a) (pseudo_asked kind.After element.style.after a)
      (others-ask a name (box_of key kind.Element) element.style.own (apart kind.Element kind.After refl)) (pseudo-none kind.Before element.style.before a (apart kind.Before kind.After refl)) (asked-parts a h)))

  -- a marker asks for none
  marker-none : AsksFor (box_of key kind.Marker) → (created name (marker_box key element)).reversed ≡ true
  marker-none h =
      let a : BoxId = box_of key kind.Marker in
      let own : own_asked a ≡ true =
      first-of (own_asked a) (pseudo_asked kind.Before element.style.before a) (pseudo_asked kind.After element.style.after a) (pseudo-none kind.Before element.style.before a (apart kind.Before kind.Marker refl))
      (pseudo-none kind.After element.style.after a (apart kind.After kind.Marker refl)) (asked-parts a h) in
      absurd (let none = others-ask a name (box_of key kind.Element) element.style.own (apart kind.Element kind.Marker refl) in cc)

  module _ (a : BoxId) (asks : (key == a.key) ≡ true → AsksFor a) where
    -- a box of the element, which is reversed where it is asked for
    one-box : (which : BoxKind) (box : DocumentBox) → box.id ≡ box_of key which → (AsksFor (box_of key which) → (created name box).reversed ≡ true) → CreatesReversed a name box
    one-box which box is reversed same =
        let its : is_same_box (box_of key which) a ≡ true = ap (λ (id : BoxId). is_same_box id a) (sym is) ∙ same in
        reversed (subst AsksFor (sym (box_eq (box_of key which) a its)) (asks (and-parts (key == a.key) (is_same_kind which a.kind) its).0))

    each-box : (inside : Forest DocumentBox) → AllByRecursion (CreatesReversed a name) (labels inside) → AllByRecursion (CreatesReversed a name) (labels (node_boxes true key (Element element) inside))
    each-box inside h =
        let P : DocumentBox → Type 0 = CreatesReversed a name in
        let before : DocumentBox = pseudo_box key element kind.Before element.style.before in
        let after : DocumentBox = pseudo_box key element kind.After element.style.after in
        let last = leaf (has_pseudo_box element.style.after) after in
        let first = leaf (has_pseudo_box element.style.before) before in
        let marker = leaf (has_marker element.style) (marker_box key element) in
        let all : AllByRecursion P (labels (child_boxes key element inside)) =
        each-beside P marker (beside first (beside inside last)) (each-leaf P (has_marker element.style) (marker_box key element) (one-box kind.Marker (marker_box key element) refl marker-none))
        (each-beside P first (beside inside last) (each-leaf P (has_pseudo_box element.style.before) before (one-box kind.Before before refl before-reversed))
        (each-beside P inside last h (each-leaf P (has_pseudo_box element.style.after) after (one-box kind.After after refl after-reversed)))) in
        (one-box kind.Element (own_box key element) refl own-reversed, each_append P (labels (child_boxes key element inside)) [] all tt)

-- The boxes of a document.
module _ (a : BoxId) (name : List ℕ) (table : List CounterStyle) (style : ℕ → Option Style → ElementStyle) where
  -- where the element is the creator's, it asks for the start of the counter
  abbrev pub IsAsking : ℕ × Told → Type 0
  IsAsking entry = (entry.0 == a.key) ≡ true → is_start_of a name entry.1.starts ≡ true

  abbrev AllReversed : Forest DocumentBox → Type 0
  AllReversed boxes = AllByRecursion (CreatesReversed a name) (labels boxes)

  -- an element that has a box, or none
  by-box : (key : ℕ) (attrs : List Attr) (its : ElementStyle) (inside : Forest DocumentBox) (b : Bool)
      → let element : StyledNode = Element (record { attrs = attrs; style = its; starts = element_starts no_starts key its }) in
      ((key == a.key) ≡ true → is_start_of a name (starts_in b element) ≡ true) → AllReversed inside → AllReversed (node_boxes b key element inside)
  by-box key attrs its inside true asks h = each-box name key (record { attrs = attrs; style = its; starts = element_starts no_starts key its }) a asks inside h
  by-box key attrs its inside false asks h = tt

  node-reversed : (key : ℕ) (label : Node) (parent : Option Style) (handed behind : Option Surroundings) (inside : Forest DocumentBox)
      → let its : StyledNode = styled_node style no_starts parent key label in
      AllByRecursion IsAsking (told (styled_evaluator table) (record { key = key; label = its }) handed behind) → AllReversed inside
      → AllReversed (node_boxes (is_boxed (is_some handed) its) key its inside)
  node-reversed key (node.Text characters) parent handed behind inside asks h = tt
  node-reversed key (node.Element tag attrs) parent None behind inside asks h = tt
  node-reversed key (node.Element tag attrs) parent (Some around) behind inside asks h = by-box key attrs (style key parent) inside (generates_box (style key parent)) asks.0 h

  pub all-reversed : (g : Forest (Keyed Node)) (parent : Option Style) (handed : Option Surroundings) → AllByRecursion IsAsking (told_all (styled_evaluator table) handed (styled_trees style no_starts parent g))
      → AllReversed (boxes_in (is_some handed) (styled_trees style no_starts parent g))
  all-reversed Empty parent handed asks = tt
  all-reversed (Tree n c r) parent handed asks =
      let here : Keyed StyledNode = record { key = n.key; label = styled_node style no_starts parent n.key n.label } in
      let within : Option Style = style_within style no_starts parent n.key n.label in
      let children : Forest (Keyed StyledNode) = styled_trees style no_starts within c in
      let after : Forest (Keyed StyledNode) = styled_trees style no_starts parent r in
      let inside : Option Surroundings = inside_node table here handed in
      let behind : Option Surroundings = past_all (styled_evaluator table) inside children in
      let next : Option Surroundings = past_styled table here handed behind in
      let has : Bool = is_boxed (is_some handed) here.label in
      let first : List (ℕ × Told) = told_all (styled_evaluator table) inside children in
      let own : List (ℕ × Told) = told (styled_evaluator table) here handed behind in
      let later : List (ℕ × Told) = told_all (styled_evaluator table) next after in
      let rest = each_back IsAsking first (own ++ later) asks in
      let below : AllReversed (boxes_in has children) = subst (λ b. AllReversed (boxes_in b children)) (inside-some table n.key here.label handed) (all-reversed c within inside (each_front IsAsking first (own ++ later) asks)) in
      let beside_it : AllReversed (boxes_in (is_some handed) after) = subst (λ b. AllReversed (boxes_in b after)) (past-some table here handed behind) (all-reversed r parent next (each_back IsAsking own later rest)) in
      each-beside (CreatesReversed a name) (node_boxes has n.key here.label (boxes_in has children)) (boxes_in (is_some handed) after)
      (node-reversed n.key n.label parent handed behind (boxes_in has children) (each_front IsAsking own later rest) below) beside_it
