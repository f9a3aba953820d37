-- What the index of a document tells.
use Rattle.std.proofs.Common.{◌≡◌, ◌++◌, ◌∷◌, ◌&&◌, ◌||◌, ◌<◌, ℕ, ℤ, pos, Bool, true, false, not, All, List, [], map, Option, Some, None, cond, refl, sym, ap, subst, ◌∙◌, arith, eq-eqb, inl, inr}
use Rattle.std.specs.Prelude.{filter, is_some, option_and_then, option_map}
use Rattle.std.specs.List.{find, list_any}
use Rattle.std.specs.Option.{option_map_or}
use Rattle.std.specs.Str.{bytes_eq}
use Rattle.std.proofs.lemmas.Bool.{and_parts, cases_Bool, or_parts}
use Rattle.std.proofs.lemmas.List.{map-append}
use Rattle.std.proofs.lemmas.List.Elements.{All-append, All-cons, All-head, All-map, All-nil, All-tail, All-weaker}
use Rattle.std.proofs.lemmas.Slice.Eq.{bytes_eq-Decides}
use Rattle.forest.specs.Forest.{Forest, Empty, Tree}
use Rattle.forest.specs.Keys.{Keyed, HasDistinctKeys, times}
use Rattle.forest.specs.Spots.{IsLive}
use Rattle.forest.proofs.SpotLaws.{counted-live}
use Rattle.plain_types.specs.declared.box_id.BoxId.{BoxId}
use Rattle.plain_types.specs.declared.box_kind.BoxKind.{BoxKind}
use Rattle.plain_types.specs.declared.box_kind.BoxKind.TheVariants as kind
use Rattle.plain_types.specs.declared.counter_style.CounterStyle.{CounterStyle}
use Rattle.plain_types.specs.declared.node.Node.{Node}
use Rattle.plain_types.specs.declared.node.Node.TheVariants as node
use Rattle.plain_types.specs.declared.style.ElementStyle.{ElementStyle}
use Rattle.plain_types.specs.declared.style.ResetOp.{ResetOp}
use Rattle.plain_types.specs.declared.style.Style.{Style}
use Rattle.counter_sets.specs.Sets.{is_same_box}
use Rattle.reversed_start.specs.Starts.{start}
use Rattle.box_eval.specs.declared.inputs.Start.{Start}
use Rattle.box_eval.specs.Boxes.{box_of, generates_box, has_pseudo_box}
use Rattle.box_eval.specs.Elements.{Styled}
use Rattle.box_eval.specs.Evaluation.{Element, StyledNode, box_starts, element_starts, is_boxed, style_within, styled, styled_node, styled_trees}
use Rattle.box_eval.specs.Properties.{last_resets, start_in}
use Rattle.box_eval.specs.Starts.{document_starts, events_of, has_starts, no_starts}
use Rattle.box_eval.proofs.BoxLemmas.{box_eq, box_self}
use Rattle.merged_walk.specs.Entries.{first_at}
use Rattle.merged_walk.specs.Evaluators.{past_all}
use Rattle.surroundings.specs.declared.surroundings.Surroundings.{Surroundings}
use Rattle.surroundings.specs.declared.told.Told.{Told}
use Rattle.surroundings.specs.StyledEvaluators.{inside_node, is_element, past_styled, root_surroundings, starts_in, starts_of, styled_evaluator}
use Rattle.edit_work.specs.Counters.{Identity}
use Rattle.start_reach.specs.Deeds.{AreAlike}
use Rattle.scope_deeds.specs.Counting.{Counting, KeepsCounting, counting_in}
use Rattle.scope_deeds.specs.Reversed.{asks_for, counting_told, has_reversed, has_reversed_in, is_start_of, meets_reversed, reversed_counting}
use Rattle.scope_deeds.proofs.ReversedLemmas.{asks-told, others_are_idle, reversed_scopes_tell_starts}
use Rattle.counter_index.specs.declared.deeds.CounterDeeds.{CounterDeeds}
use Rattle.counter_index.specs.declared.index.CounterIndex.{CounterIndex}
use Rattle.counter_index.specs.Documents.{KeepsDeeds, all_deeds, counter_deeds_in, counter_deeds_of}
use Rattle.counter_index.specs.Indexes.{asked_at, asked_by, counting_at, counting_by, deeds_at, is_asked, told_by_scope, with_values}
use Rattle.counter_index.specs.Laws.{AskedAreOwn, AskedStartsAreKept, IndexKeepsReversed, IndexKeepsWhatIsAsked, IndexKeepsWhatIsDone, OtherStartsAreZero, ScopesTellStarts}
use Rattle.counter_index.specs.Retold.{told_entries}
use Rattle.counter_index.specs.Told.{deeds_kept, deeds_told, told_without_starts}
use Rattle.counter_index.specs.Touched.{deeds_by}
use Rattle.counter_index.proofs.ListLemmas.{first-has, first-mapped}
use Rattle.counter_index.proofs.ToldLemmas.{all-told}

-- What it has, by keys.

abbrev counted : ℕ × CounterDeeds → ℕ × Counting
counted entry = (entry.0, counting_by entry.1)

own-counted : (key : ℕ) (deeds : CounterDeeds) (here : Bool) → map counted (cond here ((key, deeds) ∷ []) []) ≡ cond here ((key, counting_by deeds) ∷ []) []
own-counted key deeds true = refl
own-counted key deeds false = refl

all-counted : (table : List CounterStyle) (handed : Option Surroundings) (trees : Forest (Keyed StyledNode)) → map counted (counter_deeds_in table handed trees) ≡ counting_in table handed trees
all-counted table handed Empty = refl
all-counted table handed (Tree n c r) =
    let inside : Option Surroundings = inside_node table n handed in
    let behind : Option Surroundings = past_all (styled_evaluator table) inside c in
    let next : Option Surroundings = past_styled table n handed behind in
    let own : List (ℕ × CounterDeeds) = cond (is_element n.label) ((n.key, counter_deeds_of table n handed behind) ∷ []) [] in
    let below = all-counted table inside c in
    let here = own-counted n.key (counter_deeds_of table n handed behind) (is_element n.label) in
    let beside = all-counted table next r in
    map-append counted (counter_deeds_in table inside c) (own ++ counter_deeds_in table next r)
    ∙ ap (λ all. map counted (counter_deeds_in table inside c) ++ all) (map-append counted own (counter_deeds_in table next r))
    ∙ (λ i. below i ++ (here i ++ beside i))

-- where all is kept that elements do, it tells the starts
pub all_deeds_keep_counting : (table : List CounterStyle) (style : ℕ → Option Style → ElementStyle) (tree : Forest (Keyed Node))
    → KeepsCounting table (styled style no_starts tree) (λ key. option_map counting_by (all_deeds table style tree key))
all_deeds_keep_counting table style tree key =
    sym (first-mapped counting_by (counter_deeds_in table root_surroundings (styled style no_starts tree)) key)
    ∙ ap (λ entries. first_at entries key) (all-counted table root_surroundings (styled style no_starts tree))

reversed-kept : (found : Option Told) → option_map counting_by (option_and_then deeds_kept found) ≡ option_and_then reversed_counting found
reversed-kept None = refl
reversed-kept (Some told) = by (meets_reversed told)
  where
    by : (b : Bool) → option_map counting_by (cond b (Some (deeds_told told)) None) ≡ cond b (Some (counting_told told)) None
    by true = refl
    by false = refl

pub index_keeps_reversed : IndexKeepsReversed
index_keeps_reversed table style tree index keeps key = ap (option_map counting_by) (keeps key) ∙ reversed-kept (first_at (told_without_starts table style tree) key)

module _ (creator : BoxId) (name : List ℕ) where
  asks-told-of : (found : Option Told) → is_start_of creator name (asked_by (option_and_then deeds_kept found)) ≡ true
      → option_map_or (λ (told : Told). is_start_of creator name told.starts) found false ≡ true
  asks-told-of None asks = absurd (cc)
  asks-told-of (Some told) asks = by (meets_reversed told) asks
    where
      by : (b : Bool) → is_start_of creator name (asked_by (cond b (Some (deeds_told told)) None)) ≡ true → is_start_of creator name told.starts ≡ true
      by true asks = asks
      by false asks = absurd (cc)

  -- what an index is asked for, its document is asked for
  document-asks : (table : List CounterStyle) (style : ℕ → Option Style → ElementStyle) (tree : Forest (Keyed Node)) (index : CounterIndex) → KeepsDeeds table style tree index
      → is_asked index creator name ≡ true → asks_for table (styled style no_starts tree) creator name ≡ true
  document-asks table style tree index keeps asks =
      asks-told-of (first_at (told_without_starts table style tree) creator.key) (sym (ap (λ deeds. is_start_of creator name (asked_by deeds)) (keeps creator.key)) ∙ asks)

pub scopes_tell_starts : ScopesTellStarts
scopes_tell_starts table style tree index distinct keeps creator name asks =
    reversed_scopes_tell_starts table style tree distinct creator name (document-asks creator name table style tree index keeps asks) (counting_at index) (index_keeps_reversed table style tree index keeps)

none-given : (starts : List Start) → has_starts starts ≡ false → [] ≡ starts
none-given [] none = refl
none-given (start ∷ starts) none = absurd (cc)

pub index_keeps_what_is_asked : IndexKeepsWhatIsAsked
index_keeps_what_is_asked table style tree index keeps key =
    ap asked_by (keeps key)
    ∙ by (first_at (told_without_starts table style tree) key) (asks-told table (styled style no_starts tree) key)
    ∙ sym (ap asked_by (all-told table style tree key))
  where
    met : (told : Told) (b : Bool) → meets_reversed told ≡ b → told.asks ≡ has_starts told.starts → asked_by (cond b (Some (deeds_told told)) None) ≡ told.starts
    met told true is asks = refl
    met told false is asks = none-given told.starts (sym asks ∙ (or_parts told.asks (has_reversed told.said.own || (has_reversed_in told.said.before || has_reversed_in told.said.after)) is).0)

    by : (found : Option Told) → ((told : Told) → found ≡ Some told → told.asks ≡ has_starts told.starts)
        → asked_by (option_and_then deeds_kept found) ≡ asked_by (option_map deeds_told found)
    by None asks = refl
    by (Some told) asks = met told (meets_reversed told) refl (asks told refl)

abbrev IsNoEvent : Identity → Told → Type 0
IsNoEvent counter told = (events_of (counting_told told).deeds.before_children counter.creator counter.name ≡ []) × (events_of (counting_told told).deeds.after_children counter.creator counter.name ≡ [])

pub index_keeps_what_is_done : IndexKeepsWhatIsDone
index_keeps_what_is_done table style tree index distinct keeps counter asks key =
    subst (λ deeds. AreAlike counter (option_map deeds_by deeds) (option_map deeds_by (deeds_at index key))) (sym (all-told table style tree key))
    (subst (λ deeds. AreAlike counter (option_map deeds_by (option_map deeds_told (first_at (told_without_starts table style tree) key))) (option_map deeds_by deeds)) (sym (keeps key))
    (by (first_at (told_without_starts table style tree) key)
    (others_are_idle table style tree distinct counter.creator counter.name (document-asks counter.creator counter.name table style tree index keeps asks) key)))
  where
    met : (told : Told) (b : Bool) → (b ≡ false → IsNoEvent counter told) → AreAlike counter (Some (deeds_by (deeds_told told))) (option_map deeds_by (cond b (Some (deeds_told told)) None))
    met told true none = record { before_children = refl; after_children = refl }
    met told false none = let idle = none refl in record { before_children = idle.0; after_children = idle.1 }

    by : (found : Option Told) → ((told : Told) → found ≡ Some told → meets_reversed told ≡ false → IsNoEvent counter told)
        → AreAlike counter (option_map deeds_by (option_map deeds_told found)) (option_map deeds_by (option_and_then deeds_kept found))
    by None idle = record { before_children = refl; after_children = refl }
    by (Some told) idle = met told (meets_reversed told) (λ none. idle told refl none)

-- What elements ask for.

all-either : {X : Type 0} (P : X → Type 0) (b : Bool) (items others : List X) → All P items → All P others → All P (cond b items others)
all-either P true items others all rest = all
all-either P false items others all rest = rest

module _ (key : ℕ) where
  abbrev IsOwnStart : Start → Type 0
  IsOwnStart asked = asked.creator.key ≡ key

  box-own : (start : BoxId → List ℕ → ℤ) (kind : BoxKind) (style : Style) → All IsOwnStart (box_starts start (box_of key kind) style)
  box-own start kind style =
      All-map IsOwnStart (λ (reset : ResetOp). record { creator = box_of key kind; name = reset.name; value = start (box_of key kind) reset.name })
      (filter (λ (reset : ResetOp). reset.reversed && not (is_some reset.value)) (last_resets style.resets)) (λ place default within. refl)

  element-own : (start : BoxId → List ℕ → ℤ) (style : ElementStyle) → All IsOwnStart (element_starts start key style)
  element-own start style =
      let own : List Start = box_starts start (box_of key kind.Element) style.own in
      let before : List Start = cond (has_pseudo_box style.before) (box_starts start (box_of key kind.Before) style.before) [] in
      let after : List Start = cond (has_pseudo_box style.after) (box_starts start (box_of key kind.After) style.after) [] in
      all-either IsOwnStart (generates_box style) (own ++ (before ++ after)) []
      (All-append IsOwnStart own (before ++ after) (box-own start kind.Element style.own)
      (All-append IsOwnStart before after
      (all-either IsOwnStart (has_pseudo_box style.before) (box_starts start (box_of key kind.Before) style.before) [] (box-own start kind.Before style.before) (All-nil IsOwnStart))
      (all-either IsOwnStart (has_pseudo_box style.after) (box_starts start (box_of key kind.After) style.after) [] (box-own start kind.After style.after) (All-nil IsOwnStart))))
      (All-nil IsOwnStart)

  asked-in-own : (boxed : Bool) (element : Styled) → All IsOwnStart element.starts → All IsOwnStart (starts_in boxed (Element element))
  asked-in-own true element all = all
  asked-in-own false element all = All-nil IsOwnStart

  asked-own : (element : Styled) (handed : Option Surroundings) → All IsOwnStart element.starts
      → All IsOwnStart (starts_of (record { key = key; label = Element element }) handed)
  asked-own element None all = All-nil IsOwnStart
  asked-own element (Some around) all = asked-in-own (is_boxed true (Element element)) element all

-- the starts for which an element asks are its own, and it stands in these trees
abbrev pub IsOwnEntry : Forest (Keyed Node) → ℕ × CounterDeeds → Type 0
IsOwnEntry trees entry = All (IsOwnStart entry.0) entry.1.asked × (0 < times entry.0 trees)

module _ (table : List CounterStyle) (style : ℕ → Option Style → ElementStyle) (start : BoxId → List ℕ → ℤ) where
  node-own : (n : Keyed Node) (c r : Forest (Keyed Node)) (label : Node) (parent : Option Style) (handed behind : Option Surroundings)
      → let node : Keyed StyledNode = record { key = n.key; label = styled_node style start parent n.key label } in
      All (IsOwnEntry (Tree n c r)) (cond (is_element node.label) ((n.key, counter_deeds_of table node handed behind) ∷ []) [])
  node-own n c r (node.Element name attrs) parent handed behind =
      All-cons (IsOwnEntry (Tree n c r)) _ [] (
        asked-own n.key (record { attrs = attrs; style = style n.key parent; starts = element_starts start n.key (style n.key parent) }) handed (element-own n.key start (style n.key parent)),
        rw (eq-eqb n.key n.key refl) (omega arith),
      )
      (All-nil (IsOwnEntry (Tree n c r)))
  node-own n c r (node.Text characters) parent handed behind = All-nil (IsOwnEntry (Tree n c r))

  pub all-own : (trees : Forest (Keyed Node)) (parent : Option Style) (handed : Option Surroundings)
      → All (IsOwnEntry trees) (counter_deeds_in table handed (styled_trees style start parent trees))
  all-own Empty parent handed = All-nil (IsOwnEntry Empty)
  all-own (Tree n c r) parent handed =
      let node : Keyed StyledNode = record { key = n.key; label = styled_node style start parent n.key n.label } in
      let children : Forest (Keyed StyledNode) = styled_trees style start (style_within style start parent n.key n.label) c in
      let inside : Option Surroundings = inside_node table node handed in
      let behind : Option Surroundings = past_all (styled_evaluator table) inside children in
      let next : Option Surroundings = past_styled table node handed behind in
      let first : List (ℕ × CounterDeeds) = counter_deeds_in table inside children in
      let own : List (ℕ × CounterDeeds) = cond (is_element node.label) ((n.key, counter_deeds_of table node handed behind) ∷ []) [] in
      let later : List (ℕ × CounterDeeds) = counter_deeds_in table next (styled_trees style start parent r) in
      All-append (IsOwnEntry (Tree n c r)) first (own ++ later)
      (All-weaker (IsOwnEntry c) (IsOwnEntry (Tree n c r)) (λ entry its. (its.0, omega (arith, its.1))) first (all-own c (style_within style start parent n.key n.label) inside))
      (All-append (IsOwnEntry (Tree n c r)) own later (node-own n c r n.label parent handed behind)
      (All-weaker (IsOwnEntry r) (IsOwnEntry (Tree n c r)) (λ entry its. (its.0, omega (arith, its.1))) later (all-own r parent next)))

module _ (table : List CounterStyle) (style : ℕ → Option Style → ElementStyle) (tree : Forest (Keyed Node)) (key : ℕ) where
  abbrev IsOwnAndLive : Start → Type 0
  IsOwnAndLive asked = (asked.creator.key ≡ key) × IsLive tree key

  abbrev entries : List (ℕ × CounterDeeds)
  entries = counter_deeds_in table root_surroundings (styled style no_starts tree)

  own-first : (first : Option CounterDeeds) → first_at entries key ≡ first → All IsOwnAndLive (asked_by first)
  own-first None at = All-nil IsOwnAndLive
  own-first (Some deeds) at =
      let own = first-has (IsOwnEntry tree) entries (all-own table style no_starts tree None root_surroundings) key deeds at in
      let live : IsLive tree key = counted-live tree key own.1 in
      All-weaker (IsOwnStart key) IsOwnAndLive (λ asked is. (is, live)) deeds.asked own.0

pub asked_are_own : AskedAreOwn
asked_are_own table style tree index keeps key =
    subst (All (λ (asked : Start). (asked.creator.key ≡ key) × IsLive tree key)) (sym (index_keeps_what_is_asked table style tree index keeps key))
    (own-first table style tree key (all_deeds table style tree key) refl)

-- Starts, by counters.

module _ (told : BoxId → List ℕ → ℤ) (creator : BoxId) (name : List ℕ) where
  abbrev is_it : Start → Bool
  is_it start = is_same_box start.creator creator && bytes_eq start.name name

  same : (start : Start) → is_it start ≡ true → told start.creator start.name ≡ told creator name
  same start e =
      let parts = and_parts (is_same_box start.creator creator) (bytes_eq start.name name) e in
      let decides = bytes_eq-Decides start.name name in
      ap (λ box. told box start.name) (box_eq start.creator creator parts.0) ∙ ap (told creator) (decides.0 parts.1)

  value_step : (here : Bool) (start : Start) (rest : List Start) → is_it start ≡ here
      → (list_any is_it rest ≡ true → start_in (with_values told rest) creator name ≡ told creator name)
      → (here || list_any is_it rest) ≡ true
      → option_map_or (λ (s : Start). s.value) (cond here (Some (record { creator = start.creator; name = start.name; value = told start.creator start.name })) (find is_it (with_values told rest))) (pos 0) ≡ told creator name
  value_step true start rest e later any = same start e
  value_step false start rest e later any = later any

  value-asked : (asked : List Start) → list_any is_it asked ≡ true → start_in (with_values told asked) creator name ≡ told creator name
  value-asked [] any = absurd (cc)
  value-asked (start ∷ rest) any = value_step (is_it start) start rest refl (value-asked rest) any

  zero_step : (here : Bool) (start : Start) (rest : List Start)
      → (list_any is_it rest ≡ false → start_in (with_values told rest) creator name ≡ pos 0)
      → (here || list_any is_it rest) ≡ false
      → option_map_or (λ (s : Start). s.value) (cond here (Some (record { creator = start.creator; name = start.name; value = told start.creator start.name })) (find is_it (with_values told rest))) (pos 0) ≡ pos 0
  zero_step true start rest later none = absurd (cc)
  zero_step false start rest later none = later none

  value-unasked : (asked : List Start) → list_any is_it asked ≡ false → start_in (with_values told asked) creator name ≡ pos 0
  value-unasked [] none = refl
  value-unasked (start ∷ rest) none = zero_step (is_it start) start rest (value-unasked rest) none

pub asked_starts_are_kept : AskedStartsAreKept
asked_starts_are_kept table style tree index keeps creator name any =
    ap (λ starts. start_in starts creator name) (keeps creator.key)
    ∙ value-asked (document_starts table style tree) creator name (asked_at index creator.key) any

pub other_starts_are_zero : OtherStartsAreZero
other_starts_are_zero table style tree index keeps creator name none =
    ap (λ starts. start_in starts creator name) (keeps creator.key)
    ∙ value-unasked (document_starts table style tree) creator name (asked_at index creator.key) none

-- Starts that are told again.

-- a start is among those that have it
is-its-own : (start : Start) → (is_same_box start.creator start.creator && bytes_eq start.name start.name) ≡ true
is-its-own start = rw (box_self start.creator, (bytes_eq-Decides start.name start.name).1 refl) refl

or-true : (b : Bool) → (b || true) ≡ true
or-true true = refl
or-true false = refl

-- where each of these starts is the same by both, they are the same with both's values
pub same-told : (told others : BoxId → List ℕ → ℤ) (starts : List Start)
    → ((creator : BoxId) (name : List ℕ) → is_start_of creator name starts ≡ true → told creator name ≡ others creator name)
    → with_values told starts ≡ with_values others starts
same-told told others [] same = refl
same-told told others (start ∷ starts) same =
    let first = same start.creator start.name (ap (λ b. b || is_start_of start.creator start.name starts) (is-its-own start)) in
    let rest =
    same-told told others starts
    (λ creator name is. same creator name (ap (λ b. (is_same_box start.creator creator && bytes_eq start.name name) || b) is ∙ or-true (is_same_box start.creator creator && bytes_eq start.name name))) in
    λ i. record { creator = start.creator; name = start.name; value = first i } ∷ rest i

-- each of these is of a box of one element
pub one-key : (key : ℕ) (live : Type 0) (creator : BoxId) (name : List ℕ) (starts : List Start) → All (λ (start : Start). (start.creator.key ≡ key) × live) starts
    → is_start_of creator name starts ≡ true → creator.key ≡ key
one-key key live creator name [] all is = absurd (cc is)
one-key key live creator name (start ∷ starts) all is =
    elim (cases_Bool (is_same_box start.creator creator && bytes_eq start.name name)) [
      | inl same ↦
          sym (ap (λ (box : BoxId). box.key) (box_eq start.creator creator (and_parts (is_same_box start.creator creator) (bytes_eq start.name name) same).0))
          ∙ (All-head (λ (start : Start). (start.creator.key ≡ key) × live) start starts all).0
      | inr apart ↦
          one-key key live creator name starts (All-tail (λ (start : Start). (start.creator.key ≡ key) × live) start starts all)
          (sym (ap (λ b. b || is_start_of creator name starts) apart) ∙ is)
    ]

module _ (table : List CounterStyle) (style : ℕ → Option Style → ElementStyle) (tree : Forest (Keyed Node)) (index : CounterIndex) (distinct : HasDistinctKeys tree) (keeps : KeepsDeeds table style tree index) where
  -- an element asks for the starts of its own counters
  pub asks-of-its-own : (key : ℕ) (creator : BoxId) (name : List ℕ) → is_start_of creator name (asked_at index key) ≡ true → is_asked index creator name ≡ true
  asks-of-its-own key creator name is =
      let here : creator.key ≡ key = one-key key (IsLive tree key) creator name (asked_at index key) (asked_are_own table style tree index keeps key) is in
      ap (λ at. is_start_of creator name (asked_at index at)) here ∙ is

  told_again : (key : ℕ) → with_values (told_by_scope (counting_at index) tree) (asked_at index key) ≡ with_values (document_starts table style tree) (asked_at index key)
  told_again key =
      same-told (told_by_scope (counting_at index) tree) (document_starts table style tree) (asked_at index key)
      (λ creator name is. sym (scopes_tell_starts table style tree index distinct keeps creator name (asks-of-its-own key creator name is)))

  pub all_told_again : (keys : List ℕ) → told_entries (told_by_scope (counting_at index) tree) index keys ≡ told_entries (document_starts table style tree) index keys
  all_told_again [] = refl
  all_told_again (key ∷ keys) =
      let first = told_again key in
      let rest = all_told_again keys in
      λ i. (key, Some (first i)) ∷ rest i
