-- What is told of elements, and what is kept of them.
use Rattle.std.proofs.Common.{◌≡◌, ◌==◌, ◌≤◌, ◌++◌, ◌∷◌, ◌&&◌, ◌||◌, ◌⊎◌, ℕ, Bool, true, false, not, cond, List, [], map, Option, Some, None, refl, sym, ap, ap₂, ◌∙◌, inl, inr, arith}
use Rattle.std.specs.Prelude.{Contains, is_some, option_and_then, option_map, unwrap_or}
use Rattle.std.specs.List.{list_any}
use Rattle.std.specs.Option.{option_or}
use Rattle.std.proofs.lemmas.Bool.{cases_Bool}
use Rattle.std.proofs.lemmas.List.{map-append}
use Rattle.std.proofs.lemmas.List.Elements.{All-contains, All-contains_itself, All-weaker}
use Rattle.std.proofs.lemmas.List.Folds.{list_any-append}
use Rattle.std.proofs.lemmas.Option.{same_Some}
use Rattle.forest.specs.Forest.{Forest, Empty, Tree}
use Rattle.forest.specs.Keys.{Keyed, HasDistinctKeys, times}
use Rattle.plain_types.specs.declared.counter_style.CounterStyle.{CounterStyle}
use Rattle.plain_types.specs.declared.node.Node.{Node}
use Rattle.plain_types.specs.declared.node.Node.TheVariants as node
use Rattle.plain_types.specs.declared.style.ElementStyle.{ElementStyle}
use Rattle.plain_types.specs.declared.style.Style.{Style}
use Rattle.node_arena.specs.Nodes.{name_of, node_name}
use Rattle.box_eval.specs.Evaluation.{StyledNode, style_within, styled_node, styled_trees}
use Rattle.box_eval.specs.Starts.{no_starts}
use Rattle.generated_texts.proofs.EntryKeys.{has_element, named-element}
use Rattle.merged_walk.specs.Entries.{AgreeByKeys, Holds, first_at, last_at}
use Rattle.merged_walk.specs.Evaluators.{past_all, told, told_all}
use Rattle.merged_walk.proofs.LawLemmas.{changes_are_enough}
use Rattle.surroundings.specs.declared.surroundings.Surroundings.{Surroundings}
use Rattle.surroundings.specs.declared.told.Told.{Told}
use Rattle.surroundings.specs.StyledEvaluators.{inside_node, is_element, kept_of, past_styled, root_surroundings, said_of, starts_of, styled_evaluator}
use Rattle.document_walk.specs.TreeChanges.{changes_after_children}
use Rattle.document_walk.proofs.StyledKeys.{styled_distinct}
use Rattle.scope_deeds.specs.Counting.{own_set}
use Rattle.scope_deeds.proofs.ReversedLemmas.{before-told}
use Rattle.counter_index.specs.declared.deeds.CounterDeeds.{CounterDeeds}
use Rattle.counter_index.specs.Documents.{all_deeds, counter_deeds_of}
use Rattle.counter_index.specs.Exchanges.{takes_out}
use Rattle.counter_index.specs.Indexes.{deeds_at}
use Rattle.counter_index.specs.Laws.{CaughtIsPutOver, DeedsAreTold, ExchangesKeepDeeds, NewIndexesKeepDeeds}
use Rattle.counter_index.specs.Told.{all_deeds_kept, deeds_kept, deeds_told, told_without_starts}
use Rattle.counter_index.proofs.ExchangeLemmas.{last-append}
use Rattle.counter_index.proofs.ListLemmas.{first-has, first-mapped, last-mapped, once-held, times-append, times_in}
use Rattle.counter_index.proofs.PutLemmas.{last-taken}

-- Of one element.

module _ (table : List CounterStyle) where
  one_told : (node : Keyed StyledNode) (handed behind : Option Surroundings) → deeds_told (kept_of table node handed behind) ≡ counter_deeds_of table node handed behind
  one_told node handed behind =
      let before = before-told table node handed behind in
      λ i. record {
        own = own_set (said_of table node handed behind);
        asked = starts_of node handed;
        before_children = before i;
        after_children = changes_after_children table node handed behind;
      }

abbrev entry : ℕ × Told → ℕ × CounterDeeds
entry element = (element.0, deeds_told element.1)

own_told : (key : ℕ) (told : Told) (deeds : CounterDeeds) (here : Bool) → deeds_told told ≡ deeds → map entry (cond here ((key, told) ∷ []) []) ≡ cond here ((key, deeds) ∷ []) []
own_told key told deeds true is = ap (λ its. (key, its) ∷ []) is
own_told key told deeds false is = refl

-- And of those of trees.
pub deeds_are_told : DeedsAreTold
deeds_are_told table handed Empty = refl
deeds_are_told table handed (Tree n c r) =
    let inside : Option Surroundings = inside_node table n handed in
    let behind : Option Surroundings = past_all (styled_evaluator table) inside c in
    let next : Option Surroundings = past_styled table n handed behind in
    let first : List (ℕ × Told) = told_all (styled_evaluator table) inside c in
    let own : List (ℕ × Told) = told (styled_evaluator table) n handed behind in
    let later : List (ℕ × Told) = told_all (styled_evaluator table) next r in
    let below = deeds_are_told table inside c in
    let here = own_told n.key (kept_of table n handed behind) (counter_deeds_of table n handed behind) (is_element n.label) (one_told table n handed behind) in
    let beside = deeds_are_told table next r in
    map-append entry first (own ++ later)
    ∙ ap (λ all. map entry first ++ all) (map-append entry own later)
    ∙ (λ i. below i ++ (here i ++ beside i))

-- What each element of a document does, by what is told of it.
pub all-told : (table : List CounterStyle) (style : ℕ → Option Style → ElementStyle) (tree : Forest (Keyed Node)) (key : ℕ)
    → all_deeds table style tree key ≡ option_map deeds_told (first_at (told_without_starts table style tree) key)
all-told table style tree key =
    ap (λ entries. first_at entries key) (sym (deeds_are_told table root_surroundings (styled_trees style no_starts None tree))) ∙ first-mapped deeds_told (told_without_starts table style tree) key

-- Of which elements something is told.

abbrev has_key : {R : Type 0} → ℕ → List (ℕ × R) → Bool
has_key {R} key entries = list_any (λ (its : ℕ × R). its.0 == key) entries

some-first : {R : Type 0} (entries : List (ℕ × R)) (key : ℕ) → is_some (first_at entries key) ≡ has_key key entries
some-first [] key = refl
some-first (its ∷ entries) key = elim (cases_Bool (its.0 == key)) [
  | inl e ↦ rw e refl
  | inr e ↦ rw e (some-first entries key)
]

own_times : (key own : ℕ) (told : Told) (here : Bool) → times_in key (cond here ((own, told) ∷ []) []) ≤ cond (own == key) 1 0
own_times key own told true = omega arith
own_times key own told false = omega arith

told-times : (table : List CounterStyle) (key : ℕ) (handed : Option Surroundings) (trees : Forest (Keyed StyledNode)) → times_in key (told_all (styled_evaluator table) handed trees) ≤ times key trees
told-times table key handed Empty = omega arith
told-times table key handed (Tree n c r) =
    let inside : Option Surroundings = inside_node table n handed in
    let behind : Option Surroundings = past_all (styled_evaluator table) inside c in
    let next : Option Surroundings = past_styled table n handed behind in
    let own : List (ℕ × Told) = told (styled_evaluator table) n handed behind in
    let later : List (ℕ × Told) = told_all (styled_evaluator table) next r in
    omega (
      arith,
      times-append key (told_all (styled_evaluator table) inside c) (own ++ later),
      times-append key own later,
      own_times key n.key (kept_of table n handed behind) (is_element n.label),
      told-times table key inside c,
      told-times table key next r,
    )

module _ (table : List CounterStyle) (style : ℕ → Option Style → ElementStyle) where
  node_told : (key own : ℕ) (label : Node) (parent : Option Style) (told : Told)
      → has_key key (cond (is_element (styled_node style no_starts parent own label)) ((own, told) ∷ []) []) ≡ (own == key && is_some (node_name label))
  node_told key own (node.Element name attrs) parent told = elim (cases_Bool (own == key)) [ inl e ↦ rw e refl | inr e ↦ rw e refl ]
  node_told key own (node.Text characters) parent told = elim (cases_Bool (own == key)) [ inl e ↦ rw e refl | inr e ↦ rw e refl ]

  trees_told : (key : ℕ) (trees : Forest (Keyed Node)) (parent : Option Style) (handed : Option Surroundings)
      → has_key key (told_all (styled_evaluator table) handed (styled_trees style no_starts parent trees)) ≡ has_element key trees
  trees_told key Empty parent handed = refl
  trees_told key (Tree n c r) parent handed =
      let here : Keyed StyledNode = record { key = n.key; label = styled_node style no_starts parent n.key n.label } in
      let inner : Option Style = style_within style no_starts parent n.key n.label in
      let children : Forest (Keyed StyledNode) = styled_trees style no_starts inner c in
      let inside : Option Surroundings = inside_node table here handed in
      let behind : Option Surroundings = past_all (styled_evaluator table) inside children in
      let next : Option Surroundings = past_styled table here handed behind in
      let first : List (ℕ × Told) = told_all (styled_evaluator table) inside children in
      let own : List (ℕ × Told) = told (styled_evaluator table) here handed behind in
      let later : List (ℕ × Told) = told_all (styled_evaluator table) next (styled_trees style no_starts parent r) in
      list_any-append (λ (its : ℕ × Told). its.0 == key) first (own ++ later)
      ∙ ap₂ (λ a b. a || b) (trees_told key c inner inside)
      (list_any-append (λ (its : ℕ × Told). its.0 == key) own later
      ∙ ap₂ (λ a b. a || b) (node_told key n.key n.label parent (kept_of table here handed behind)) (trees_told key r parent next))

  module _ (tree : Forest (Keyed Node)) (distinct : HasDistinctKeys tree) where
    abbrev all : List (ℕ × Told)
    all = told_without_starts table style tree

    -- exactly of its elements
    told_named : (key : ℕ) → is_some (first_at all key) ≡ is_some (name_of tree key)
    told_named key = some-first all key ∙ trees_told key tree None root_surroundings ∙ sym (named-element key tree None [] (distinct key))

    -- of each of them once
    told_first : Holds (first_at all) all
    told_first =
        let trees : Forest (Keyed StyledNode) = styled_trees style no_starts None tree in
        once-held all (λ key. let few = styled_distinct style no_starts tree None distinct key in omega (arith, few, told-times table key root_surroundings trees))

    first_there : (its : ℕ × Told) → Contains all its → first_at all its.0 ≡ Some its.1
    first_there its there = All-contains (λ (one : ℕ × Told). first_at all one.0 ≡ Some one.1) all its told_first there

    told_agree : AgreeByKeys all
    told_agree one more first second same =
        let values = same_Some one.1 more.1 (sym (first_there one first) ∙ ap (first_at all) same ∙ first_there more second) in
        λ i. (same i, values i)

    none_there : (key : ℕ) (first : Option Told) → first_at all key ≡ first → ((told : Told) → Contains all (key, told) → ⊥) → is_some (name_of tree key) ≡ false
    none_there key None is nowhere = sym (told_named key) ∙ ap (λ (o : Option Told). is_some o) is
    none_there key (Some told) is nowhere = absurd (nowhere told (first-has (Contains all) all (All-contains_itself all) key told is))

    some_there : (key : ℕ) (told : Told) → Contains all (key, told) → is_some (name_of tree key) ≡ true
    some_there key told there = sym (told_named key) ∙ ap (λ (o : Option Told). is_some o) (first_there (key, told) there)

-- Edits.

never : (b : Bool) → (b && not true) ≡ false
never true = refl
never false = refl

goes_or_none : (b : Bool) (first : Option Told) → is_some first ≡ b → (first ≡ None) ⊎ ((b && not false) ≡ true)
goes_or_none true first is = inr refl
goes_or_none false None is = inl refl
goes_or_none false (Some told) is = absurd (cc is)

pub caught_is_put_over : CaughtIsPutOver
caught_is_put_over was_table table was_style style old new takes caught tells key =
    let was : List (ℕ × Told) = told_without_starts was_table was_style old in
    changes_are_enough Told (told_without_starts table style new) caught takes (first_at was)
    (told_agree table style new tells.distinct_after) tells.among tells.covers
    (λ key told there. tells.taken key ∙ ap (λ b. is_some (name_of old key) && not b) (some_there table style new tells.distinct_after key told there) ∙ never (is_some (name_of old key)))
    (λ key nowhere.
    let gone : is_some (name_of new key) ≡ false = none_there table style new tells.distinct_after key (first_at (told_without_starts table style new) key) refl nowhere in
    elim (goes_or_none (is_some (name_of old key)) (first_at was key) (told_named was_table was_style old tells.distinct_before key)) [
      | inl none ↦ inl none
      | inr out ↦ inr (tells.taken key ∙ ap (λ b. is_some (name_of old key) && not b) gone ∙ out)
    ])
    key

exchanged-kept : (last : Option Told) (any : Bool) (held : Option CounterDeeds) (was : Option Told) → held ≡ option_and_then deeds_kept was
    → unwrap_or (option_or (option_map deeds_kept last) (cond any (Some None) None)) held ≡ option_and_then deeds_kept (option_or last (cond any None was))
exchanged-kept (Some told) any held was is = refl
exchanged-kept None true held was is = refl
exchanged-kept None false held was is = is

pub exchanges_keep_deeds : ExchangesKeepDeeds
exchanges_keep_deeds was_table table was_style style old new takes caught tells was now keeps exchanged key =
    let held : Option Told = first_at (told_without_starts was_table was_style old) key in
    let any : Bool = list_any (λ (taken : ℕ). taken == key) takes in
    exchanged key
    ∙ ap (λ last. unwrap_or last (deeds_at was key)) (last-append (takes_out takes) (all_deeds_kept caught) key)
    ∙ ap (λ last. unwrap_or (option_or last (last_at (takes_out takes) key)) (deeds_at was key)) (last-mapped deeds_kept caught key)
    ∙ ap (λ taken. unwrap_or (option_or (option_map deeds_kept (last_at caught key)) taken) (deeds_at was key)) (last-taken takes key)
    ∙ exchanged-kept (last_at caught key) any (deeds_at was key) held (keeps key)
    ∙ ap (option_and_then deeds_kept) (caught_is_put_over was_table table was_style style old new takes caught tells key)

-- a document that comes as a whole
pub new_indexes_keep_deeds : NewIndexesKeepDeeds
new_indexes_keep_deeds table style tree now distinct was none exchanged =
    let all : List (ℕ × Told) = told_without_starts table style tree in
    exchanges_keep_deeds table table style style Empty tree [] all
    (record {
      distinct_before = λ key. omega arith;
      distinct_after = distinct;
      covers = All-weaker (Contains all) (λ (its : ℕ × Told). Contains all its ⊎ (first_at [] its.0 ≡ Some its.1)) (λ its there. inl there) all (All-contains_itself all);
      among = All-contains_itself all;
      taken = λ key. refl;
    })
    was now none exchanged
