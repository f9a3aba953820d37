-- What is kept of a document for the walks of its edits, when it is evaluated as a whole.
use Rattle.std.proofs.Common.{◌≡◌, ◌∙◌, ◌⊎◌, ℕ, Bool, true, false, cond, List, [], Option, Some, None, refl, sym, ap, inl, inr, arith}
use Rattle.std.specs.Prelude.{Contains, is_some, option_map}
use Rattle.std.specs.FinMap.{empty, get, get-empty}
use Rattle.std.specs.Option.{option_or}
use Rattle.std.specs.Ordering.{nat_cmp}
use Rattle.std.proofs.lemmas.List.Elements.{All-contains_itself, All-weaker}
use Rattle.forest.specs.Forest.{Empty}
use Rattle.forest.specs.Keys.{HasDistinctKeys}
use Rattle.plain_types.specs.declared.style.ElementStyle.{ElementStyle}
use Rattle.plain_types.specs.declared.style.Style.{Style}
use Rattle.box_eval.specs.Starts.{no_starts}
use Rattle.generated_texts.specs.Documents.{document_style}
use Rattle.merged_walk.specs.Entries.{first_at}
use Rattle.surroundings.specs.declared.told.Told.{Told}
use Rattle.surroundings.specs.declared.walked.Walked.{Walked}
use Rattle.edit_work.specs.KeyedSources.{KeyedSource, author, is_among, own_starts, table}
use Rattle.reference_reach.specs.ToldLaws.{told_with}
use Rattle.snapshot_board.specs.Records.{put_all}
use Rattle.zero_walks.specs.Told.{walked_of}
use Rattle.zero_walks.proofs.LawLemmas.{what_is_told_is_kept}
use Rattle.counter_index.specs.declared.deeds.CounterDeeds.{CounterDeeds}
use Rattle.counter_index.specs.declared.index.CounterIndex.{CounterIndex}
use Rattle.counter_index.specs.Documents.{KeepsDeeds, KeepsStarts}
use Rattle.counter_index.specs.Exchanges.{after_exchange}
use Rattle.counter_index.specs.Indexes.{asked_at, asked_by, deeds_at, starts_by, with_values}
use Rattle.counter_index.specs.Told.{TellsWithoutStarts, told_exchange}
use Rattle.counter_index.proofs.PutLemmas.{told_are_exchanged}
use Rattle.counter_index.proofs.ToldLemmas.{caught_is_put_over, new_indexes_keep_deeds}
use Rattle.touched_starts.specs.Laws.{IsIndexOf}
use Rattle.started_walk.specs.declared.bring.WayBack.{WayBack}
use Rattle.started_walk.specs.Countings.{HasSomeDeeds, KeepsZeros, walked_with}
use Rattle.started_walk.specs.Exchanges.{IsBroughtTo, TakesBack}
use Rattle.started_walk.proofs.ToldKeys.{walked-named}

module _ (source : KeyedSource) (distinct : HasDistinctKeys source.tree) where
  abbrev style : ℕ → Option Style → ElementStyle
  style = document_style (author source) source.tree

  abbrev all : List (ℕ × Told)
  all = told_with source no_starts

  -- it comes as a whole
  tells : TellsWithoutStarts (table source) (table source) style style Empty source.tree [] all
  tells = record {
    distinct_before = λ key. omega arith;
    distinct_after = distinct;
    covers = All-weaker (Contains all) (λ (its : ℕ × Told). Contains all its ⊎ (first_at [] its.0 ≡ Some its.1)) (λ its there. inl there) all (All-contains_itself all);
    among = All-contains_itself all;
    taken = λ key. refl;
  }

  -- all that is told where all starts are 0 is kept
  all-begun : (key : ℕ) → get (put_all (walked_of all) empty) key ≡ walked_with source no_starts key
  all-begun key =
      what_is_told_is_kept empty (first_at []) all [] (λ key. get-empty nat_cmp key) key
      ∙ ap (option_map (λ (told : Told). told.walked)) (caught_is_put_over (table source) (table source) style style Empty source.tree [] all tells key)

  none-over : (zero own : Option Walked) → is_some own ≡ is_some zero → option_or zero own ≡ zero
  none-over None None same = refl
  none-over None (Some own) same = absurd (cc)
  none-over (Some zero) own same = refl

  pub zeros-begun : KeepsZeros source (put_all (walked_of all) empty)
  zeros-begun key =
      ap (λ zero. option_or zero (walked_with source (own_starts source) key)) (all-begun key)
      ∙ none-over (walked_with source no_starts key) (walked_with source (own_starts source) key)
      (walked-named source distinct (own_starts source) key ∙ sym (walked-named source distinct no_starts key))

  module _ (was : CounterIndex) (none : (key : ℕ) → deeds_at was key ≡ None) (entries : List (ℕ × Option CounterDeeds)) (same : entries ≡ told_exchange [] all) where
    deeds-begun : (now : CounterIndex) → ((key : ℕ) → deeds_at now key ≡ after_exchange entries (deeds_at was) key) → KeepsDeeds (table source) style source.tree now
    deeds-begun now exchanged =
        new_indexes_keep_deeds (table source) style source.tree now distinct was none (λ key. exchanged key ∙ ap (λ those. after_exchange those (deeds_at was) key) same)

    pub some-begun : (now : CounterIndex) → ((key : ℕ) → deeds_at now key ≡ after_exchange entries (deeds_at was) key) → HasSomeDeeds source.tree now
    some-begun now exchanged = record { table = table source; style = style; keeps = deeds-begun now exchanged }

    module _ (bare : (key : ℕ) → get was.starts.held key ≡ None) (now : CounterIndex) (back : WayBack) (brought : IsBroughtTo source.tree entries [] was now back) (leads : TakesBack back now was) where
      deeds-are : KeepsDeeds (table source) style source.tree now
      deeds-are = deeds-begun now brought.does

      none-asked : (key : ℕ) → is_among brought.keys key ≡ false → asked_at now key ≡ []
      none-asked key apart = elim (brought.touched.own key) [
        | inl among ↦ absurd (cc)
        | inr same ↦ same ∙ ap asked_by (leads.deeds key ∙ none key)
      ]

      its-starts : (key : ℕ) (among : Bool) → is_among brought.keys key ≡ among
          → starts_by (cond among (Some (with_values (own_starts source) (asked_at now key))) (get was.starts.held key)) ≡ with_values (own_starts source) (asked_at now key)
      its-starts key true is = refl
      its-starts key false is = ap starts_by (bare key) ∙ sym (ap (with_values (own_starts source)) (none-asked key is))

      starts-are : KeepsStarts (table source) style source.tree now
      starts-are key =
          ap starts_by (brought.starts (table source) style deeds-are key ∙ told_are_exchanged (own_starts source) now brought.keys (get was.starts.held) key)
          ∙ its-starts key (is_among brought.keys key) refl

      pub index-begun : IsIndexOf source now
      index-begun = record { deeds = deeds-are; starts = starts-are }
