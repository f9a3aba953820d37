-- What the first walk of an edit makes of what is kept for it.
use Rattle.std.proofs.Common.{◌≡◌, ◌++◌, ◌∷◌, ◌≤◌, ◌+◌, ◌∙◌, ◌&&◌, ◌⊎◌, ℕ, true, not, List, [], Option, None, refl, sym, ap, subst, arith}
use Rattle.std.specs.Prelude.{All, IsSome, filter, is_some}
use Rattle.std.specs.FinMap.{get}
use Rattle.std.specs.Option.{option_or}
use Rattle.std.proofs.lemmas.Bool.{and_parts}
use Rattle.std.proofs.lemmas.List.Elements.{All-weaker, filter_passes}
use Rattle.forest.specs.Forest.{Forest}
use Rattle.forest.specs.Keys.{Keyed}
use Rattle.plain_types.specs.declared.node.Node.{Node}
use Rattle.plain_types.specs.declared.style.ElementStyle.{ElementStyle}
use Rattle.plain_types.specs.declared.style.Style.{Style}
use Rattle.node_arena.specs.Nodes.{name_of}
use Rattle.box_eval.specs.Evaluation.{StyledNode}
use Rattle.box_eval.specs.Starts.{document_starts, has_starts, no_starts}
use Rattle.generated_texts.specs.Documents.{document_style}
use Rattle.merged_walk.specs.declared.stop.Stop.{Stop}
use Rattle.merged_walk.specs.Counts.{budget}
use Rattle.merged_walk.specs.Merges.{Merge}
use Rattle.merged_walk.specs.Stops.{stops_of}
use Rattle.surroundings.specs.declared.told.Told.{Told}
use Rattle.surroundings.specs.declared.walked.Walked.{Walked}
use Rattle.surroundings.specs.StyledEvaluators.{root_surroundings, styled_evaluator}
use Rattle.document_walk.specs.Catching.{Reading}
use Rattle.edit_merge.specs.EditMerges.{is_element}
use Rattle.edit_work.specs.KeyedSources.{KeyedSource, author, is_among, table}
use Rattle.reference_reach.specs.ToldLaws.{told_with}
use Rattle.kept_elements.specs.Changes.{AreBelow}
use Rattle.start_reach.specs.Laws.{AreTurned}
use Rattle.start_reach.specs.SecondMerges.{first_merge}
use Rattle.turned_stops.specs.Coming.{coming_at_stops}
use Rattle.counter_index.specs.declared.deeds.CounterDeeds.{CounterDeeds}
use Rattle.counter_index.specs.declared.index.CounterIndex.{CounterIndex}
use Rattle.counter_index.specs.Documents.{KeepsDeeds}
use Rattle.counter_index.specs.Exchanges.{after_exchange}
use Rattle.counter_index.specs.Indexes.{asked_at, deeds_at}
use Rattle.counter_index.specs.Retold.{other_keys, told_entries}
use Rattle.counter_index.specs.Told.{TellsWithoutStarts, told_exchange}
use Rattle.counter_index.proofs.ToldLemmas.{exchanges_keep_deeds}
use Rattle.touched_starts.specs.Laws.{IsBrought, IsIndexOf, WereExchanged, turned_keys}
use Rattle.touched_starts.proofs.LawLemmas.{starts_are_brought}
use Rattle.touched_starts.proofs.MovedLemmas.{gone_are_moved}
use Rattle.touched_starts.proofs.TurnedLemmas.{turned_are_told}
use Rattle.started_walk.specs.declared.bring.WayBack.{WayBack}
use Rattle.started_walk.specs.declared.counting.Counting.{Counting}
use Rattle.started_walk.specs.Countings.{HasSomeDeeds, KeepsWalked}
use Rattle.started_walk.specs.Exchanges.{IsBroughtTo, TakesBack, asks_and_stays}
use Rattle.started_walk.specs.Twice.{CanWalkTwice, IsSomeEdit, IsWithinFirst}
use Rattle.started_walk.specs.Walks.{Finds, IsWithinTurned, StandsTurned}
use Rattle.started_walk.proofs.EditLemmas.{its-stops, tree-is, walk-zeros, zeros-plain}

module _ (from : Reading) (counting : Counting) (kept : ℕ → Option Walked) (takes : List ℕ) (stops : List Stop) (stands : CanWalkTwice from counting kept takes stops) where
  abbrev place : IsSomeEdit from takes stops
  place = stands.place

  abbrev before : KeyedSource
  before = stands.place.before

  abbrev after : KeyedSource
  after = stands.place.after

  abbrev style_in : KeyedSource → ℕ → Option Style → ElementStyle
  style_in source = document_style (author source) source.tree

  abbrev tree-same : from.tree ≡ after.tree
  tree-same = tree-is from takes stops place

  module _ (told : List (ℕ × Told)) (finds : Finds (told_with before no_starts) (told_with after no_starts) told) where
    tells : TellsWithoutStarts (table before) (table after) (style_in before) (style_in after) before.tree after.tree takes told
    tells = record {
      distinct_before = place.leads.done.before.distinct;
      distinct_after = place.leads.done.after.distinct;
      covers = finds.covers;
      among = finds.among;
      taken = place.taken;
    }

    -- what is exchanged so
    module _ (entries : List (ℕ × Option CounterDeeds)) (same : entries ≡ told_exchange takes told) where
      does : (now : CounterIndex) → ((key : ℕ) → deeds_at now key ≡ after_exchange entries (deeds_at counting.index) key) → KeepsDeeds (table after) (style_in after) after.tree now
      does now exchanged =
          exchanges_keep_deeds (table before) (table after) (style_in before) (style_in after) before.tree after.tree takes told tells counting.index now stands.counts.index.deeds
          (λ key. exchanged key ∙ ap (λ those. after_exchange those (deeds_at counting.index) key) same)

      pub some-deeds : (now : CounterIndex) → ((key : ℕ) → deeds_at now key ≡ after_exchange entries (deeds_at counting.index) key) → HasSomeDeeds from.tree now
      some-deeds now exchanged = record {
        table = table after;
        style = style_in after;
        keeps = subst (λ tree. KeepsDeeds (table after) (style_in after) tree now) (sym tree-same) (does now exchanged);
      }

      module _ (moved : List ℕ) (moved_is : moved ≡ takes ++ coming_at_stops from.tree stops) (now : CounterIndex) (back : WayBack)
          (brought : IsBroughtTo from.tree entries moved counting.index now back) (leads : TakesBack back now counting.index) where
        coming-is : coming_at_stops from.tree stops ≡ coming_at_stops after.tree (stops_of is_element 0 (first_merge place.edit before after))
        coming-is =
            ap (λ tree. coming_at_stops tree stops) tree-same ∙ ap (coming_at_stops after.tree) (its-stops place.edit before after place.leads stops place.stops_are)

        is-taken : (key : ℕ) → IsSome (name_of before.tree key) → name_of after.tree key ≡ None → is_among takes key ≡ true
        is-taken key some none = place.taken key ∙ ap (λ (o : Option (List ℕ)). is_some (name_of before.tree key) && not (is_some o)) none ∙ ap (λ b. b && true) some

        is-brought : IsBrought place.edit before after counting.index now back.deeds.items moved
        is-brought = record {
          did = stands.counts.index.deeds;
          does = does now brought.does;
          back = leads.deeds;
          gone =
              λ key goes.
              subst (λ keys. (deeds_at counting.index key ≡ None) ⊎ (is_among keys key ≡ true)) (sym (moved_is ∙ ap (λ keys. takes ++ keys) coming-is))
              (gone_are_moved place.edit before after place.leads counting.index stands.counts.index.deeds takes is-taken key goes);
        }

        pub index-is : IsIndexOf after now
        index-is =
            starts_are_brought place.edit before after place.leads place.local counting.index now back.deeds.items moved is-brought stands.counts.index.starts brought.keys brought.touched now refl
            (λ key.
            brought.starts (table after) (style_in after) (subst (λ tree. KeepsDeeds (table after) (style_in after) tree now) (sym tree-same) (does now brought.does)) key
            ∙ ap (λ tree. after_exchange (told_entries (document_starts (table after) (style_in after) tree) now brought.keys) (get counting.index.starts.held) key) tree-same)

        exchanged-are : WereExchanged back.starts.items counting.index now
        exchanged-are = record { once = leads.once; back = leads.starts }

        pub turned-are : (turned : List ℕ) → turned ≡ filter (asks_and_stays from.tree now stops) (other_keys now back.starts.items) → AreTurned place.edit before after turned
        turned-are turned is =
            subst (AreTurned place.edit before after) (sym (is ∙ ap (turned_keys now back.starts.items) coming-is))
            (turned_are_told place.edit before after place.leads place.local counting.index now stands.counts.index index-is back.starts.items exchanged-are)

  -- the walk compares with this
  abbrev pub over : ℕ → Option Walked
  over key = option_or (get counting.zeros.held key) (kept key)

  pub keeps-over : KeepsWalked before no_starts over
  keeps-over key = ap (option_or (get counting.zeros.held key)) (stands.keeps key) ∙ stands.counts.zeros key

  abbrev pub walk : StandsTurned from over stops
  walk = walk-zeros from takes stops place over keeps-over

-- The steps of the first walk.
pub first-within : (from : Reading) (counting : Counting) (kept : ℕ → Option Walked) (takes : List ℕ) (stops : List Stop) (were now : ℕ)
    → IsWithinTurned from (λ key. option_or (get counting.zeros.held key) (kept key)) stops were now → IsWithinFirst from counting kept takes stops were now
first-within from counting kept takes stops were now few stands =
    let place = stands.place in
    subst (λ (merge : Merge StyledNode). now ≤ were + budget (styled_evaluator (table place.after)) root_surroundings root_surroundings merge) (zeros-plain from takes stops place)
    (few (walk from counting kept takes stops stands))

-- The elements that are turned ask.
pub turned-ask : (tree : Forest (Keyed Node)) (index : CounterIndex) (stops : List Stop) (keys : List ℕ)
    → All (λ key. has_starts (asked_at index key) ≡ true) (filter (asks_and_stays tree index stops) keys)
turned-ask tree index stops keys =
    All-weaker (λ key. asks_and_stays tree index stops key ≡ true) (λ key. has_starts (asked_at index key) ≡ true)
    (λ key test. (and_parts (has_starts (asked_at index key)) (not (is_among (coming_at_stops tree stops) key)) test).0)
    (filter (asks_and_stays tree index stops) keys) (filter_passes (asks_and_stays tree index stops) keys)

-- Rooms: keys that are below one are below one that is no smaller.
pub below-more : {V : Type 0} (room more : ℕ) (entries : List (ℕ × V)) → AreBelow room entries → room ≤ more → AreBelow more entries
below-more room more [] below grown = tt
below-more room more (entry ∷ entries) below grown = (let here = below.0 in omega (arith, here, grown), below-more room more entries below.1 grown)
