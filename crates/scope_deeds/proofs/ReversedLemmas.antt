-- The laws of elements that meet reversed counters, from their lemmas. Throughout, n is a node, c what is under it, r what is after it, k
-- a key, and a the box that creates the counter.
use Rattle.std.proofs.Common.{◌≡◌, ◌==◌, ◌++◌, ◌∷◌, ◌||◌, ℕ, Bool, true, false, cond, List, [], map, Option, Some, None, refl, sym, ap, subst, ◌∙◌, inl, inr, arith}
use Rattle.std.proofs.lemmas.Bool.{cases_Bool, eqb-true}
use Rattle.std.proofs.lemmas.List.{map-append}
use Rattle.std.specs.Prelude.{All, option_and_then, option_map}
use Rattle.std.specs.List.{AllByRecursion}
use Rattle.std.specs.Option.{option_map_or}
use Rattle.std.proofs.lemmas.List.Elements.{All-head, All-tail}
use Rattle.forest.specs.Forest.{Forest, Empty, Tree}
use Rattle.forest.specs.Keys.{Keyed, HasDistinctKeys}
use Rattle.plain_types.specs.declared.box_id.BoxId.{BoxId}
use Rattle.plain_types.specs.declared.box_kind.BoxKind.TheVariants as kind
use Rattle.plain_types.specs.declared.counter.Counter.{Counter}
use Rattle.plain_types.specs.declared.counter_style.CounterStyle.{CounterStyle}
use Rattle.plain_types.specs.declared.node.Node.{Node}
use Rattle.plain_types.specs.declared.style.ElementStyle.{ElementStyle}
use Rattle.plain_types.specs.declared.style.Style.{Style}
use Rattle.reversed_start.specs.Starts.{start}
use Rattle.counter_scopes.specs.Boxes.{document_boxes}
use Rattle.counter_scopes.specs.Laws.{HasTheirValues, HoldsOfBoxes, HoldsOfElement, HoldsOfMade}
use Rattle.counter_scopes.proofs.KeyLemmas.{distinct_boxes}
use Rattle.counter_scopes.proofs.LawLemmas.{values_hold}
use Rattle.counter_scopes.proofs.ToldLemmas.{HasDistinctBoxes}
use Rattle.box_eval.specs.declared.change.Change.{Change}
use Rattle.box_eval.specs.declared.element_record.ElementRecord.{ElementRecord}
use Rattle.box_eval.specs.declared.inputs.Start.{Start}
use Rattle.box_eval.specs.declared.made.Made.{Made}
use Rattle.box_eval.specs.Boxes.{box_of}
use Rattle.box_eval.specs.Elements.{Handed, by_parent}
use Rattle.box_eval.specs.Evaluation.{Element, StyledNode, Text, changes_in, first_changes, is_boxed, styled}
use Rattle.box_eval.specs.Starts.{has_starts, no_starts}
use Rattle.box_eval.proofs.ElementLemmas.{Holds}
use Rattle.box_eval.proofs.ListLemmas.{or_parts}
use Rattle.merged_walk.specs.Entries.{first_at}
use Rattle.merged_walk.specs.Evaluators.{past_all, told, told_all}
use Rattle.surroundings.specs.declared.surroundings.Surroundings.{Surroundings}
use Rattle.surroundings.specs.declared.told.Told.{Told}
use Rattle.surroundings.specs.Laws.{told_document}
use Rattle.surroundings.specs.StyledEvaluators.{inside_node, is_element, kept_of, own_changes_in, own_changes_of, past_styled, root_surroundings, said_in, said_of, styled_evaluator}
use Rattle.surroundings.specs.Surroundings.{handed_by}
use Rattle.surroundings.proofs.Asking.{asks-starts}
use Rattle.surroundings.proofs.Said.{said-document}
use Rattle.document_walk.specs.TreeChanges.{changes_after_children, changes_before_children}
use Rattle.document_walk.proofs.StyledKeys.{styled_distinct}
use Rattle.scope_reading.specs.ScopeChanges.{scope_changes}
use Rattle.scope_reading.proofs.LawLemmas.{scopes_tell_events, scopes_tell_starts}
use Rattle.scope_reading.proofs.RowLemmas.{its}
use Rattle.scope_deeds.specs.Counting.{Counting, KeepsCounting, counting_in, counting_of, own_set}
use Rattle.scope_deeds.specs.KeptScopes.{kept_changes, kept_scope}
use Rattle.scope_deeds.specs.Laws.{OthersAreIdle, ReversedScopesTellStarts}
use Rattle.scope_deeds.specs.Reversed.{KeepsReversed, asks_for, counting_told, has_reversed, has_reversed_in, is_start_of, meets_reversed, reversed_counting}
use Rattle.scope_deeds.proofs.AskedBoxes.{IsAsking, all-reversed}
use Rattle.scope_deeds.proofs.FewerKept.{IsFewer, fewer-enough}
use Rattle.scope_deeds.proofs.IdleElements.{AllOther, IsIdle, IsIdleWhereLacking, LackIt, each-first, each-idle, each-told}
use Rattle.scope_deeds.proofs.KeyLemmas.{counted, entries, first-held, scope-styled}
use Rattle.scope_deeds.proofs.LawLemmas.{changes_are_kept, scopes_are_kept}
use Rattle.scope_deeds.proofs.ReversedSets.{lacks-it}

-- What is kept of elements is told by what is told of them.

module _ (table : List CounterStyle) where
  before-in : (boxed : Bool) (key : ℕ) (label : StyledNode) (handed behind : Handed)
      → own_changes_in table boxed key label handed ++ changes_in (said_in table boxed key label handed behind).before ≡ first_changes table by_parent boxed key label handed
  before-in true key (Element element) handed behind = refl
  before-in false key (Element element) handed behind = refl
  before-in true key Text handed behind = refl
  before-in false key Text handed behind = refl

  pub before-told : (node : Keyed StyledNode) (handed behind : Option Surroundings)
      → own_changes_of table node handed ++ changes_in (said_of table node handed behind).before ≡ changes_before_children table node handed
  before-told node None behind = refl
  before-told node (Some around) behind = before-in (is_boxed true node.label) node.key node.label (handed_by around) _

  one-told : (node : Keyed StyledNode) (handed behind : Option Surroundings) → counting_told (kept_of table node handed behind) ≡ counting_of table node handed behind
  one-told node handed behind =
      let before = before-told node handed behind in
      λ i. record { own = own_set (said_of table node handed behind); deeds = record { before_children = before i; after_children = changes_after_children table node handed behind } }

abbrev counting : ℕ × Told → ℕ × Counting
counting entry = (entry.0, counting_told entry.1)

own-told : (key : ℕ) (told : Told) (its : Counting) (b : Bool) → counting_told told ≡ its → map counting (cond b ((key, told) ∷ []) []) ≡ cond b ((key, its) ∷ []) []
own-told key told its true is = ap (λ its. (key, its) ∷ []) is
own-told key told its false is = refl

counting-told : (table : List CounterStyle) (handed : Option Surroundings) (g : Forest (Keyed StyledNode)) → map counting (told_all (styled_evaluator table) handed g) ≡ counting_in table handed g
counting-told table handed Empty = refl
counting-told table handed (Tree n c r) =
    let inside : Option Surroundings = inside_node table n handed in
    let behind : Option Surroundings = past_all (styled_evaluator table) inside c in
    let next : Option Surroundings = past_styled table n handed behind in
    let first : List (ℕ × Told) = told_all (styled_evaluator table) inside c in
    let own : List (ℕ × Told) = told (styled_evaluator table) n handed behind in
    let later : List (ℕ × Told) = told_all (styled_evaluator table) next r in
    let below = counting-told table inside c in
    let here = own-told n.key (kept_of table n handed behind) (counting_of table n handed behind) (is_element n.label) (one-told table n handed behind) in
    let beside = counting-told table next r in
    map-append counting first (own ++ later)
    ∙ ap (λ all. map counting first ++ all) (map-append counting own later)
    ∙ (λ i. below i ++ (here i ++ beside i))

first-counting : (entries : List (ℕ × Told)) (key : ℕ) → first_at (map counting entries) key ≡ option_map counting_told (first_at entries key)
first-counting [] key = refl
first-counting (entry ∷ entries) key = elim (cases_Bool (entry.0 == key)) [
  | inl e ↦ rw e refl
  | inr e ↦ rw e (first-counting entries key)
]

entries-counting : (k : ℕ) (es : List (ℕ × Told)) → entries k (map counting es) ≡ entries k es
entries-counting k [] = refl
entries-counting k (entry ∷ es) = let rest = entries-counting k es in omega (arith, rest)

-- What holds of each of these holds of those that all hold.

held-each : {R : Type 0} (P : ℕ × R → Type 0) (es : List (ℕ × R)) → All P es → AllByRecursion P es
held-each P [] h = tt
held-each P (entry ∷ es) h = (All-head P entry es h, held-each P es (All-tail P entry es h))

abbrev said : ℕ × Told → ℕ × ElementRecord
said entry = (entry.0, entry.1.said)

unmapped : (P : ℕ × ElementRecord → Type 0) (es : List (ℕ × Told)) → AllByRecursion P (map said es) → AllByRecursion (λ entry. P (said entry)) es
unmapped P [] h = tt
unmapped P (entry ∷ es) h = (h.0, unmapped P es h.1)

each-imp : {R : Type 0} (P Q : R → Type 0) → ((x : R) → P x → Q x) → (xs : List R) → AllByRecursion P xs → AllByRecursion Q xs
each-imp P Q imp [] h = tt
each-imp P Q imp (x ∷ xs) h = (imp x h.0, each-imp P Q imp xs h.1)

-- an element asks where there are starts that it was given
pub asks-told : (table : List CounterStyle) (document : Forest (Keyed StyledNode)) (key : ℕ) (told : Told) → first_at (told_document table document) key ≡ Some told → told.asks ≡ has_starts told.starts
asks-told table document =
    each-first (λ (entry : ℕ × Told). entry.1.asks ≡ has_starts entry.1.starts) (told_document table document)
    (each-told table (λ (entry : ℕ × Told). entry.1.asks ≡ has_starts entry.1.starts) (λ node handed behind. asks-starts node handed) root_surroundings document)

-- A document in which an element asks for the start of a counter.
module _ (table : List CounterStyle) (style : ℕ → Option Style → ElementStyle) (tree : Forest (Keyed Node)) (distinct : HasDistinctKeys tree) (a : BoxId) (name : List ℕ)
    (asks : asks_for table (styled style no_starts tree) a name ≡ true) where
  abbrev document : Forest (Keyed StyledNode)
  document = styled style no_starts tree

  distinct-document : HasDistinctKeys document
  distinct-document = styled_distinct style no_starts tree None distinct

  abbrev all : List (ℕ × Told)
  all = told_document table document

  all-first : AllByRecursion (λ (entry : ℕ × Told). first_at all entry.0 ≡ Some entry.1) all
  all-first =
      held-each (λ (entry : ℕ × Told). first_at all entry.0 ≡ Some entry.1) all
      (first-held all (λ k. (let is = counted k table document root_surroundings in let same = ap (entries k) (counting-told table root_surroundings document) in let once = distinct-document k in omega (arith, is, same, entries-counting k all, once))))

  -- each element with the creator's key asks for the start
  asking : AllByRecursion (IsAsking a name table style) all
  asking = each-imp (λ (entry : ℕ × Told). first_at all entry.0 ≡ Some entry.1) (IsAsking a name table style) by all all-first
    where
      by : (entry : ℕ × Told) → first_at all entry.0 ≡ Some entry.1 → IsAsking a name table style entry
      by entry first same =
          let here : first_at all a.key ≡ Some entry.1 = subst (λ k. first_at all k ≡ Some entry.1) (eqb-true entry.0 a.key same) first in
          sym (ap (λ found. option_map_or (λ (told : Told). is_start_of a name told.starts) found false) here) ∙ asks

  boxes-apart : HasDistinctBoxes (document_boxes document)
  boxes-apart = distinct_boxes document distinct-document

  -- what is told of an element is told so of an element of its evaluation
  values : AllByRecursion (λ (entry : ℕ × Told). HoldsOfElement (HasTheirValues (document_boxes document)) (said entry)) all
  values =
      unmapped (HoldsOfElement (HasTheirValues (document_boxes document))) all
      (subst (AllByRecursion (HoldsOfElement (HasTheirValues (document_boxes document)))) (sym (said-document table document distinct-document)) (values_hold table document distinct-document))

  abbrev HasBoxes : BoxId → List Counter → Type 0
  HasBoxes = HasTheirValues (document_boxes document)

  set-lacks : (box : BoxId) (set : List Counter) → HasBoxes box set → has_reversed set ≡ false → AllOther a name set
  set-lacks box set held none = lacks-it a name (document_boxes document) boxes-apart (all-reversed a name table style tree None root_surroundings asking) box set held none

  made-lacks : (box : BoxId) (made : Option Made) → HoldsOfMade HasBoxes box made → has_reversed_in made ≡ false → Holds (AllOther a name) made
  made-lacks box None held none = tt
  made-lacks box (Some made) held none = set-lacks box made.set held none

  lack-it : (key : ℕ) (element : ElementRecord) → HoldsOfBoxes HasBoxes key element → (has_reversed element.own || (has_reversed_in element.before || has_reversed_in element.after)) ≡ false
      → LackIt a name element
  lack-it key element held none =
      let own = or_parts (has_reversed element.own) (has_reversed_in element.before || has_reversed_in element.after) none in
      let pseudo = or_parts (has_reversed_in element.before) (has_reversed_in element.after) own.1 in
      record {
        own = set-lacks (box_of key kind.Element) element.own held.own own.0;
        before = made-lacks (box_of key kind.Before) element.before held.before pseudo.0;
        after = made-lacks (box_of key kind.After) element.after held.after pseudo.1;
      }

  some-start : (starts : List Start) → is_start_of a name starts ≡ true → has_starts starts ≡ true
  some-start [] h = absurd (cc)
  some-start (start ∷ starts) h = refl

  -- an element that meets no reversed counter does nothing to it, and its own set lacks it
  idle : (key : ℕ) (told : Told) → first_at all key ≡ Some told → meets_reversed told ≡ false → IsIdle a name told
  idle key told first none =
      let parts = or_parts told.asks (has_reversed told.said.own || (has_reversed_in told.said.before || has_reversed_in told.said.after)) none in
      let apart : (key == a.key) ≡ false = elim (cases_Bool (key == a.key)) [
        | inl e ↦ absurd (let starts = some-start told.starts (each-first (IsAsking a name table style) all asking key told first e) in
            let same = asks-told table document key told first in let not = parts.0 in cc)
        | inr e ↦ e
      ] in
      each-first (IsIdleWhereLacking a name table) all (each-idle a name table root_surroundings document) key told first apart
      (λ boxed. lack-it key told.said (each-first (λ (entry : ℕ × Told). HoldsOfElement HasBoxes (said entry)) all values key told first boxed) parts.1)

  -- what is kept of all elements
  abbrev full : ℕ → Option Counting
  full key = option_map counting_told (first_at all key)

  keeps-full : KeepsCounting table document full
  keeps-full key = sym (ap (λ (es : List (ℕ × Counting)). first_at es key) (sym (counting-told table root_surroundings document)) ∙ first-counting all key)

  fewer-told : (found : Option Told) → ((told : Told) → found ≡ Some told → meets_reversed told ≡ false → IsIdle a name told) → IsFewer a name (option_map counting_told found) (option_and_then reversed_counting found)
  fewer-told None quiet = record { before = refl; after = refl; own = inl refl }
  fewer-told (Some told) quiet = by (meets_reversed told) (λ none. quiet told refl none)
    where
      by : (b : Bool) → (b ≡ false → IsIdle a name told) → IsFewer a name (Some (counting_told told)) (cond b (Some (counting_told told)) None)
      by true quiet = record { before = refl; after = refl; own = inl refl }
      by false quiet = let is = quiet refl in record { before = sym is.before; after = sym is.after; own = inr (refl, is.own) }

  module _ (kept : ℕ → Option Counting) (keeps : KeepsReversed table document kept) where
    fewer : (key : ℕ) → IsFewer a name (full key) (kept key)
    fewer key = subst (IsFewer a name (full key)) (sym (keeps key)) (fewer-told (first_at all key) (λ told is none. idle key told is none))

    -- what is read of its scope is what is done to it
    read : its a name (kept_scope kept a name tree) ≡ its a name (scope_changes a name table document)
    read =
        let scope = scopes_are_kept table document distinct-document full keeps-full a name in
        let whole : its a name (kept_scope full a name document) ≡ its a name (kept_changes full document) =
        scope ∙ sym (scopes_tell_events table document distinct-document a name) ∙ sym (ap (λ (cs : List Change). its a name cs) (changes_are_kept table document distinct-document full keeps-full)) in
        sym (ap (λ (cs : List Change). its a name cs) (scope-styled style kept a name tree None)) ∙ fewer-enough a name full kept fewer document whole ∙ scope

pub others_are_idle : OthersAreIdle
others_are_idle table style tree distinct creator name asks key told first none =
    let is = idle table style tree distinct creator name asks key told first none in
    (is.before, is.after)

pub reversed_scopes_tell_starts : ReversedScopesTellStarts
reversed_scopes_tell_starts table style tree distinct creator name asks kept keeps =
    scopes_tell_starts table style tree distinct creator name ∙ ap start (sym (read table style tree distinct creator name asks kept keeps))
