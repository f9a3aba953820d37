-- The turns of a walk over siblings that gathers the events of a counter: one after the other, up to the first that lacks it.
use Rattle.std.proofs.Common.{◌≡◌, ◌<◌, ◌++◌, ℕ, Bool, true, false, not, cond, List, [], Option, Some, None, refl, sym, ap, subst, ◌∙◌, arith, append_assoc}
use Rattle.std.specs.Prelude.{is_some}
use Rattle.std.specs.Option.{option_map_or}
use Rattle.forest.specs.Forest.{Forest, Tree, size}
use Rattle.forest.specs.Keys.{Keyed, HasDistinctKeys}
use Rattle.forest.specs.Spots.{IsLink, IsLive, after_of, children_of, first_child_of, keyed, label_of, next_sibling_of, on_link}
use Rattle.forest.proofs.SpotLaws.{live-spot, on_first, on_key, on_next}
use Rattle.plain_types.specs.declared.box_id.BoxId.{BoxId}
use Rattle.plain_types.specs.declared.counter.Counter.{Counter}
use Rattle.plain_types.specs.declared.node.Node.{Node}
use Rattle.reversed_start.specs.declared.event.Event.{Event}
use Rattle.box_eval.specs.declared.change.Change.{Change}
use Rattle.box_eval.specs.Starts.{events_of}
use Rattle.scope_reading.specs.ScopeChanges.{has_it}
use Rattle.scope_deeds.specs.Counting.{Counting}
use Rattle.scope_deeds.specs.KeptScopes.{kept_after, kept_before, kept_changes, kept_own, kept_row}
use Rattle.counter_index.specs.Machinery.Rows.{boxed_changes, lacks_it}
use Rattle.counter_index.proofs.EventTurns.{events-append}

module _ (creator : BoxId) (name : List ℕ) where
  has-cases : (has : Bool) (first below last row : List Change)
      → cond has (first ++ (below ++ (last ++ row))) [] ≡ cond (not has) [] ((first ++ (below ++ last)) ++ row)
  has-cases true first below last row =
      sym (append_assoc first (below ++ last) row ∙ ap (λ read. first ++ read) (append_assoc below last row))
  has-cases false first below last row = refl

  own-cases : (own : Option (List Counter)) (first below last row : List Change)
      → option_map_or (λ (set : List Counter). cond (has_it creator name set) (first ++ (below ++ (last ++ row))) []) own row
      ≡ cond (option_map_or (λ (set : List Counter). not (has_it creator name set)) own false) [] (cond (is_some own) (first ++ (below ++ last)) [] ++ row)
  own-cases None first below last row = refl
  own-cases (Some set) first below last row = has-cases (has_it creator name set) first below last row

module _ (f : Forest (Keyed Node)) (kept : ℕ → Option Counting) (creator : BoxId) (name : List ℕ) where
  abbrev row_at : Option ℕ → List Change
  row_at link = kept_row kept creator name (on_link f link)

  -- a sibling, and those after it
  row-step : (key : ℕ) → IsLive f key
      → (row_at (Some key) ≡ cond (lacks_it kept creator name key) [] (boxed_changes kept key (children_of f key) ++ kept_row kept creator name (after_of f key)))
      × (size (after_of f key) < size (on_link f (Some key)))
  row-step key live =
      let s = live-spot f key live in
      let label : label_of f key ≡ Some s.0.label = rw s.1 refl in
      let here : on_link f (Some key) ≡ Tree (keyed key s.0.label) (children_of f key) (after_of f key) = on_key f key s.0.label live (sym label) in (
        ap (kept_row kept creator name) here
            ∙ own-cases creator name (kept_own kept key) (kept_before kept key) (kept_changes kept (children_of f key)) (kept_after kept key) (kept_row kept creator name (after_of f key)),
        rw here (omega arith),
      )

  -- the row of the children, and that of the siblings after a node
  pub row-under : HasDistinctKeys f → (key : ℕ) → IsLive f key → (events : List Event) (link : Option ℕ) → link ≡ first_child_of f key
      → events ++ events_of (row_at link) creator name ≡ events ++ events_of (kept_row kept creator name (children_of f key)) creator name
  row-under d key live events link is =
      ap (λ (l : Option ℕ). events ++ events_of (row_at l) creator name) is
      ∙ ap (λ g. events ++ events_of (kept_row kept creator name g) creator name) (on_first f key d live).0

  pub row-after : HasDistinctKeys f → (key : ℕ) → IsLive f key → (events : List Event) (link : Option ℕ) → link ≡ next_sibling_of f key
      → events ++ events_of (row_at link) creator name ≡ events ++ events_of (kept_row kept creator name (after_of f key)) creator name
  row-after d key live events link is =
      ap (λ (l : Option ℕ). events ++ events_of (row_at l) creator name) is
      ∙ ap (λ g. events ++ events_of (kept_row kept creator name g) creator name) (on_next f key d live).0

  -- where the walk stands, and what it has of all events
  pub record IsRow (all : List Event) (link : Option ℕ) (events : List Event) : Type 0 where
    pub link_is : IsLink f link
    pub to_do : events ++ events_of (row_at link) creator name ≡ all

  pub row-begins : (link : Option ℕ) (events : List Event) → IsLink f link → IsRow (events ++ events_of (row_at link) creator name) link events
  row-begins link events is = record { link_is = is; to_do = refl }

  module _ (all : List Event) (link link' : Option ℕ) (key : ℕ) (events events' : List Event) where
    -- a sibling is read, or passed
    pub row-turn : HasDistinctKeys f → IsRow all link events → link ≡ Some key → lacks_it kept creator name key ≡ false
        → events' ≡ events ++ events_of (boxed_changes kept key (children_of f key)) creator name → link' ≡ next_sibling_of f key
        → IsRow all link' events' × (size (on_link f link') < size (on_link f link))
    row-turn d turn at has grew next =
        let here = subst (λ l. IsRow all l events) at turn in
        let live : IsLive f key = here.link_is in
        let step = row-step key live in
        let beside = on_next f key d live in
        let now : List Change = boxed_changes kept key (children_of f key) in
        let rest : List Change = kept_row kept creator name (after_of f key) in
        let row : row_at (Some key) ≡ now ++ rest = step.0 ∙ ap (λ lacks. cond lacks [] (now ++ rest)) has in
        rw (next, at, grew) (
          record {
            link_is = beside.1;
            to_do =
                ap (λ g. (events ++ events_of now creator name) ++ events_of (kept_row kept creator name g) creator name) beside.0
                ∙ append_assoc events (events_of now creator name) (events_of rest creator name)
                ∙ ap (λ es. events ++ es) (sym (events-append creator name now rest))
                ∙ ap (λ read. events ++ events_of read creator name) (sym row)
                ∙ here.to_do;
          },
          omega (arith, step.1, ap size beside.0),
        )
