-- The turns of a walk that gathers the events of a counter: a node is reached, and left.
use Rattle.std.proofs.Common.{◌≡◌, ◌<◌, ◌+◌, ◌*◌, ◌&&◌, ℕ, Bool, List, [], ◌∷◌, ◌++◌, Option, Some, None, length, map, reverse, refl, sym, ap, subst, ◌∙◌, arith, append_assoc, append-nil}
use Rattle.std.specs.Prelude.{filter}
use Rattle.std.specs.Str.{bytes_eq}
use Rattle.std.proofs.lemmas.List.{map-append, reverse-append}
use Rattle.std.proofs.lemmas.List.Elements.{filter-append}
use Rattle.forest.specs.Forest.{Forest, Tree, size}
use Rattle.forest.specs.Keys.{Keyed, HasDistinctKeys}
use Rattle.forest.specs.Spots.{IsLink, IsLive, after_of, children_of, first_child_of, label_of, next_sibling_of, on_link}
use Rattle.forest.proofs.SpotLaws.{live-spot, on_first, on_key, on_next}
use Rattle.plain_types.specs.declared.box_id.BoxId.{BoxId}
use Rattle.plain_types.specs.declared.node.Node.{Node}
use Rattle.counter_sets.specs.Sets.{is_same_box}
use Rattle.reversed_start.specs.declared.event.Event.{Event}
use Rattle.box_eval.specs.declared.change.Change.{Change}
use Rattle.box_eval.specs.Starts.{events_of}
use Rattle.scope_deeds.specs.Counting.{Counting}
use Rattle.scope_deeds.specs.KeptScopes.{kept_after, kept_before, kept_changes}

pushed : (keys grown_keys : List ℕ) (key : ℕ) → grown_keys ≡ keys ++ key ∷ [] → reverse grown_keys ≡ key ∷ reverse keys
pushed keys grown_keys key e = ap reverse e ∙ reverse-append keys (key ∷ [])

-- The events of changes, one after the other.
module _ (creator : BoxId) (name : List ℕ) where
  pub events-append : (first others : List Change) → events_of (first ++ others) creator name ≡ events_of first creator name ++ events_of others creator name
  events-append first others =
      let is_its : Change → Bool = λ change. is_same_box change.creator creator && bytes_eq change.name name in
      ap (map (λ (change : Change). change.event)) (filter-append is_its first others)
      ∙ map-append (λ (change : Change). change.event) (filter is_its first) (filter is_its others)

  pub two_read : (had made all : List Event) (first others : List Change) → made ≡ had ++ events_of first creator name → all ≡ made ++ events_of others creator name
      → all ≡ had ++ events_of (first ++ others) creator name
  two_read had made all first others before after =
      after ∙ ap (λ events. events ++ events_of others creator name) before
      ∙ append_assoc had (events_of first creator name) (events_of others creator name)
      ∙ ap (λ events. had ++ events) (sym (events-append first others))

  pub three_read : (had made more all : List Event) (first others rest : List Change) → made ≡ had ++ events_of first creator name
      → more ≡ made ++ events_of others creator name → all ≡ more ++ events_of rest creator name
      → all ≡ had ++ events_of (first ++ (others ++ rest)) creator name
  three_read had made more all first others rest before between after =
      two_read had made all first (others ++ rest) before (two_read made more all others rest between after)

module _ (f : Forest (Keyed Node)) (kept : ℕ → Option Counting) where
  -- what is left to be read: what these trees do, and then, for each node that the walk is in, the innermost first, what it does
  -- after its children, and what the trees after it do
  abbrev pub changes_left : List ℕ → Forest (Keyed Node) → List Change
  changes_left [] trees = kept_changes kept trees
  changes_left (key ∷ inside) trees = kept_changes kept trees ++ (kept_after kept key ++ changes_left inside (after_of f key))

  abbrev pub nodes_left : List ℕ → Forest (Keyed Node) → ℕ
  nodes_left [] trees = size trees
  nodes_left (key ∷ inside) trees = size trees + nodes_left inside (after_of f key)

  abbrev pub AreLive : List ℕ → Type 0
  AreLive [] = Unit {0}
  AreLive (key ∷ inside) = IsLive f key × AreLive inside

  abbrev pub turns_left : List ℕ → Option ℕ → ℕ
  turns_left inside link = 2 * nodes_left inside (on_link f link) + length inside

  abbrev pub left_at : List ℕ → Option ℕ → List Change
  left_at inside link = changes_left inside (on_link f link)

  reach_changes : (inside : List ℕ) (node : Keyed Node) (children after : Forest (Keyed Node)) → after_of f node.key ≡ after
      → changes_left inside (Tree node children after) ≡ kept_before kept node.key ++ changes_left (node.key ∷ inside) children
  reach_changes [] node children after e =
      ap (λ g. kept_before kept node.key ++ (kept_changes kept children ++ (kept_after kept node.key ++ kept_changes kept g))) (sym e)
  reach_changes (key ∷ inside) node children after e =
      let rest : List Change = kept_after kept key ++ changes_left inside (after_of f key) in
      let first : List Change = kept_before kept node.key in
      let below : List Change = kept_changes kept children in
      let last : List Change = kept_after kept node.key in
      append_assoc first (below ++ (last ++ kept_changes kept after)) rest
      ∙ ap (λ cs. first ++ cs) (append_assoc below (last ++ kept_changes kept after) rest)
      ∙ ap (λ cs. first ++ (below ++ cs)) (append_assoc last (kept_changes kept after) rest)
      ∙ ap (λ g. first ++ (below ++ (last ++ (kept_changes kept g ++ rest)))) (sym e)

  reach_count : (inside : List ℕ) (node : Keyed Node) (children after : Forest (Keyed Node)) → after_of f node.key ≡ after
      → nodes_left inside (Tree node children after) ≡ nodes_left (node.key ∷ inside) children + 1
  reach_count [] node children after e = rw e (omega arith)
  reach_count (key ∷ inside) node children after e = rw e (omega arith)

  module _ (creator : BoxId) (name : List ℕ) where
    abbrev its : List Change → List Event
    its changes = events_of changes creator name

    -- where the walk stands, and what it has of all events
    pub record Gathers (all : List Event) (inside : List ℕ) (link : Option ℕ) (events : List Event) : Type 0 where
      pub link_is : IsLink f link
      pub live : AreLive inside
      pub to_do : events ++ its (left_at inside link) ≡ all

    -- events that are read next
    next_read : (all events : List Event) (now rest before : List Change) → before ≡ now ++ rest → events ++ its before ≡ all → (events ++ its now) ++ its rest ≡ all
    next_read all events now rest before e to_do =
        append_assoc events (its now) (its rest)
        ∙ ap (λ es. events ++ es) (sym (events-append creator name now rest))
        ∙ ap (λ cs. events ++ its cs) (sym e)
        ∙ to_do

    module _ (d : HasDistinctKeys f) where
      reach_at : (inside : List ℕ) (key : ℕ) → IsLive f key
          → (left_at inside (Some key) ≡ kept_before kept key ++ left_at (key ∷ inside) (first_child_of f key))
          × (nodes_left inside (on_link f (Some key)) ≡ nodes_left (key ∷ inside) (on_link f (first_child_of f key)) + 1)
      reach_at inside key live =
          let s = live-spot f key live in
          let node : Keyed Node = record { key = key; label = s.0.label } in
          let label : label_of f key ≡ Some s.0.label = rw s.1 refl in
          let here : on_link f (Some key) ≡ Tree node (children_of f key) (after_of f key) = on_key f key s.0.label live (sym label) in
          let below = (on_first f key d live).0 in (
            ap (changes_left inside) here
                ∙ reach_changes inside node (children_of f key) (after_of f key) refl
                ∙ ap (λ g. kept_before kept key ++ changes_left (key ∷ inside) g) (sym below),
            ap (nodes_left inside) here
                ∙ reach_count inside node (children_of f key) (after_of f key) refl
                ∙ ap (λ g. nodes_left (key ∷ inside) g + 1) (sym below),
          )

      leave_at : (inside : List ℕ) (key : ℕ) → IsLive f key
          → (left_at (key ∷ inside) None ≡ kept_after kept key ++ left_at inside (next_sibling_of f key))
          × (nodes_left (key ∷ inside) (on_link f None) ≡ nodes_left inside (on_link f (next_sibling_of f key)))
      leave_at inside key live =
          let beside = (on_next f key d live).0 in (
            ap (λ g. kept_after kept key ++ changes_left inside g) (sym beside),
            rw beside (omega arith),
          )

      pub begins_under : (key : ℕ) (events : List Event) → IsLive f key
          → Gathers (events ++ its (kept_changes kept (children_of f key))) [] (first_child_of f key) events
      begins_under key events live =
          let below = on_first f key d live in
          record { link_is = below.1; live = tt; to_do = ap (λ g. events ++ its (kept_changes kept g)) below.0 }

      module _ (all : List Event) (stack stack' : List ℕ) (link link' : Option ℕ) (key : ℕ) (events events' : List Event) where
        pub reach_turn : Gathers all (reverse stack) link events → link ≡ Some key → events' ≡ events ++ its (kept_before kept key)
            → stack' ≡ stack ++ key ∷ [] → link' ≡ first_child_of f key
            → Gathers all (reverse stack') link' events' × (turns_left (reverse stack') link' < turns_left (reverse stack) link)
        reach_turn gathers at grew more next =
            let here = subst (λ l. Gathers all (reverse stack) l events) at gathers in
            let turn = reach_at (reverse stack) key here.link_is in
            rw (pushed stack stack' key more, next, at, grew) (
              record {
                link_is = (on_first f key d here.link_is).1;
                live = (here.link_is, here.live);
                to_do = next_read all events (kept_before kept key) (left_at (key ∷ reverse stack) (first_child_of f key)) _ turn.0 here.to_do;
              },
              omega (arith, turn.1),
            )

        pub leave_turn : Gathers all (reverse stack) link events → link ≡ None → stack ≡ stack' ++ key ∷ [] → events' ≡ events ++ its (kept_after kept key)
            → link' ≡ next_sibling_of f key
            → Gathers all (reverse stack') link' events' × (turns_left (reverse stack') link' < turns_left (reverse stack) link)
        leave_turn gathers at more grew next =
            let here = subst (λ l. Gathers all (key ∷ reverse stack') l events) at (subst (λ keys. Gathers all keys link events) (pushed stack' stack key more) gathers) in
            let turn = leave_at (reverse stack') key here.live.0 in
            rw (pushed stack' stack key more, next, at, grew) (
              record {
                link_is = (on_next f key d here.live.0).1;
                live = here.live.1;
                to_do = next_read all events (kept_after kept key) (left_at (reverse stack') (next_sibling_of f key)) _ turn.0 here.to_do;
              },
              omega (arith, turn.1),
            )

    pub done : (all events : List Event) → Gathers all [] None events → events ≡ all
    done all events gathers = sym (append-nil events) ∙ gathers.to_do
