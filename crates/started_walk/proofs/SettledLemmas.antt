-- What is held where all starts are 0 is brought from the document before an edit to the one after it.
use Rattle.std.proofs.Common.{◌≡◌, ◌==◌, ◌<◌, ◌&&◌, ◌||◌, ◌⊎◌, ◌∷◌, ◌∙◌, [], ℕ, nat_eq, Bool, true, false, cond, not, List, Option, Some, None, refl, sym, ap, inl, inr, lt-ltb}
use Rattle.std.specs.Prelude.{Contains, is_some, nat_lt, option_map}
use Rattle.std.specs.Cmp.{nat_eq_equiv}
use Rattle.std.specs.FinMap.{get}
use Rattle.std.specs.List.{list_any}
use Rattle.std.specs.Option.{option_or}
use Rattle.std.proofs.lemmas.Bool.{both_ways}
use Rattle.std.proofs.lemmas.List.Elements.{All-contains, All-from_recursion}
use Rattle.std.proofs.lemmas.Option.{none-some}
use Rattle.plain_types.specs.declared.style.ElementStyle.{ElementStyle}
use Rattle.plain_types.specs.declared.style.Style.{Style}
use Rattle.node_arena.specs.Nodes.{name_of}
use Rattle.box_eval.specs.Starts.{no_starts}
use Rattle.generated_texts.specs.Documents.{document_style}
use Rattle.generated_texts.specs.References.{kept_at}
use Rattle.merged_walk.specs.Entries.{first_at, last_at}
use Rattle.snapshot_board.specs.Records.{put_all, take_all}
use Rattle.surroundings.specs.declared.told.Told.{Told}
use Rattle.surroundings.specs.declared.walked.Walked.{Walked}
use Rattle.edit_work.specs.KeyedSources.{KeyedSource, author, is_among, own_starts, table}
use Rattle.reference_reach.specs.ToldLaws.{told_of, told_with}
use Rattle.counter_index.specs.Indexes.{AsksForStarts}
use Rattle.counter_index.specs.Told.{TellsWithoutStarts}
use Rattle.counter_index.proofs.ListLemmas.{last-mapped}
use Rattle.counter_index.proofs.ToldLemmas.{caught_is_put_over}
use Rattle.zero_walks.specs.Told.{walked_of}
use Rattle.kept_elements.specs.declared.kept.Kept.{Kept}
use Rattle.kept_elements.specs.declared.kept_change.KeptChange.{KeptChange}
use Rattle.kept_elements.specs.Changes.{puts_of}
use Rattle.kept_elements.specs.Evaluations.{document_kept}
use Rattle.kept_elements.proofs.ChangeLemmas.{get-put_all, get-take_all}
use Rattle.kept_elements.proofs.RenewalLemmas.{at_first, kept_there, once_there}
use Rattle.kept_elements.proofs.ToldLemmas.{kept_keys, kept_once}
use Rattle.started_walk.specs.declared.counting.Counting.{Counting}
use Rattle.started_walk.specs.Countings.{KeepsZeros, walked_with}
use Rattle.started_walk.specs.Settled.{IsWalked, saved}
use Rattle.started_walk.specs.Walks.{Finds}
use Rattle.started_walk.proofs.SavedLemmas.{saved-is, was-comes, was-held, was-none, was_at}
use Rattle.started_walk.proofs.ToldKeys.{kept-walked, walked-named}

abbrev walked_in : Option Told → Option Walked
walked_in told = option_map (λ (told : Told). told.walked) told

no-some : {V : Type 0} (o : Option V) → is_some o ≡ false → o ≡ None
no-some None is = refl
no-some (Some it) is = absurd (cc)

-- what is put over what is held, told by what is told
put-walked : (last told : Option Told) (taken : Bool) → walked_in (option_or last (cond taken None told)) ≡ option_or (walked_in last) (cond taken None (walked_in told))
put-walked None told true = refl
put-walked None told false = refl
put-walked (Some last) told taken = refl

-- Where `zero` and `own` are what an element was handed with all starts 0 and with its document's own, `held` is what was held of it,
-- `last` what the first walk told, and `was` what was saved.
zeros-over : (last held was zero own after_own after_zero : Option Walked) (taken : Bool)
    → option_or held own ≡ zero → option_or last (cond taken None zero) ≡ after_zero
    → (taken ≡ true → option_or was after_own ≡ None) → (taken ≡ false → last ≡ None → held ≡ None → option_or was after_own ≡ own)
    → option_or (option_or (option_or last (cond taken None held)) was) after_own ≡ after_zero
zeros-over (Some last) held was zero own after_own after_zero taken kept is goes stays = is
zeros-over None held was zero own after_own after_zero true kept is goes stays = goes refl ∙ is
zeros-over None (Some held) was zero own after_own after_zero false kept is goes stays = kept ∙ is
zeros-over None None was zero own after_own after_zero false kept is goes stays = stays refl refl refl ∙ kept ∙ is

module _ (before after : KeyedSource) (counting : Counting) (takes : List ℕ) (zeros : List (ℕ × Walked)) (changes : List (ℕ × KeptChange))
    (walked : IsWalked before after counting takes zeros changes) (asks : AsksForStarts counting.index) where
  abbrev first : List (ℕ × Told)
  first = (walked.tells asks).0

  abbrev finds : Finds (told_with before no_starts) (told_with after no_starts) first
  finds = (walked.tells asks).1.0

  abbrev style_in : KeyedSource → ℕ → Option Style → ElementStyle
  style_in source = document_style (author source) source.tree

  tells : TellsWithoutStarts (table before) (table after) (style_in before) (style_in after) before.tree after.tree takes first
  tells = record {
    distinct_before = walked.distinct_before;
    distinct_after = walked.distinct_after;
    covers = finds.covers;
    among = finds.among;
    taken = walked.taken;
  }

  abbrev room : ℕ
  room = counting.zeros.room

  abbrev all : List (ℕ × Kept)
  all = document_kept (author after) after.tree

  module _ (key : ℕ) where
    abbrev taken : Bool
    taken = is_among takes key

    abbrev last : Option Walked
    last = walked_in (last_at first key)

    abbrev was : Option Walked
    was = cond (nat_lt key room) (was_at changes key) None

    -- what is held once what goes is taken and what the first walk told is put
    put-is : get (put_all zeros (take_all takes counting.zeros.held)) key ≡ option_or last (cond taken None (get counting.zeros.held key))
    put-is =
        ap (λ (puts : List (ℕ × Walked)). get (put_all puts (take_all takes counting.zeros.held)) key) (walked.tells asks).1.1
        ∙ get-put_all (walked_of first) (take_all takes counting.zeros.held) key
        ∙ ap (λ (own : Option Walked). option_or own (get (take_all takes counting.zeros.held) key)) (last-mapped (λ (told : Told). told.walked) first key)
        ∙ ap (option_or last) (get-take_all takes counting.zeros.held key ∙ ap (λ b. cond b None (get counting.zeros.held key)) (turned takes))
      where
        turned : (takes : List ℕ) → list_any (nat_eq key) takes ≡ is_among takes key
        turned [] = refl
        turned (taken ∷ takes) = ap (λ b. b || list_any (nat_eq key) takes) (nat_eq_equiv.symm key taken) ∙ ap (λ b. (taken == key) || b) (turned takes)

    -- so it is told where all starts are 0
    zero-is : option_or last (cond taken None (walked_with before no_starts key)) ≡ walked_with after no_starts key
    zero-is =
        sym (put-walked (last_at first key) (first_at (told_with before no_starts) key) taken)
        ∙ ap walked_in (caught_is_put_over (table before) (table after) (style_in before) (style_in after) before.tree after.tree takes first tells key)

    -- What is told of an element with the documents' own starts.

    abbrev own : Option Walked
    own = walked_with before (own_starts before) key

    abbrev after_own : Option Walked
    after_own = walked_with after (own_starts after) key

    -- of one that the document has no more
    gone : is_some (name_of after.tree key) ≡ false → after_own ≡ None
    gone none = no-some after_own (walked-named after walked.distinct_after (own_starts after) key ∙ none)

    gone-changes : is_some (name_of after.tree key) ≡ false → was ≡ None
    gone-changes none = in-room (nat_lt key room) (was_at changes key) (by (was_at changes key) refl)
      where
        in-room : (b : Bool) (o : Option Walked) → o ≡ None → cond b o None ≡ None
        in-room true o is = is
        in-room false o is = refl

        by : (o : Option Walked) → was_at changes key ≡ o → was_at changes key ≡ None
        by None is = is
        by (Some it) is =
            let found = was-comes key changes it is in
            let there : Contains all (key, found.0) = All-contains (Contains all) (puts_of changes) (key, found.0) walked.renews.among found.1 in
            absurd (both_ways (is_some (name_of after.tree key)) none
            (sym (kept_keys (author after) after.tree walked.distinct_after key) ∙ ap (λ (o : Option Kept). is_some o) (once_there all (kept_once (author after) after.tree walked.distinct_after) (key, found.0) there)))

    saved-was : (it : Walked) → was ≡ Some it → own ≡ Some it
    saved-was it is = sym (walked.keeps key) ∙ was-held key walked.held changes walked.were it (by (nat_lt key room) is)
      where
        by : (b : Bool) → cond b (was_at changes key) None ≡ Some it → was_at changes key ≡ Some it
        by true is = is
        by false is = absurd (none-some it is)

    -- of one that stays, and has no zero of its own
    module _ (stays : taken ≡ false) (zero_stays : walked_with after no_starts key ≡ own) where
      -- one that was not told with its starts is told as before, or the board has it as it is
      unchanged : was ≡ None → (told : Told) → kept_at (told_of after) key ≡ Some told → after_own ≡ own
      unchanged none told is =
          elim (All-contains (λ (one : ℕ × Told). Contains walked.told one ⊎ (first_at (told_of before) one.0 ≡ Some one.1)) (told_of after) (key, told) walked.finds.covers (kept_there (told_of after) key told is)) [
            | inl there ↦ on-board there
            | inr same ↦ after-is ∙ sym (ap walked_in same)
          ]
        where
          after-is : after_own ≡ Some told.walked
          after-is = ap walked_in (at_first (told_of after) key ∙ is)

          absent : own ≡ None → ⊥
          absent nothing =
              both_ways (is_some (name_of after.tree key))
              (sym (walked-named after walked.distinct_after no_starts key) ∙ ap (λ (o : Option Walked). is_some o) (zero_stays ∙ nothing))
              (sym (walked-named after walked.distinct_after (own_starts after) key) ∙ ap (λ (o : Option Walked). is_some o) after-is)

          nothing-was : key < room → was_at changes key ≡ None
          nothing-was below = sym (ap (λ b. cond b (was_at changes key) None) (lt-ltb key room below)) ∙ none

          on-board : Contains walked.told (key, told) → after_own ≡ own
          on-board there = by (kept_at all key) refl
            where
              below : key < room
              below = All-contains (λ (one : ℕ × Told). one.0 < room) walked.told (key, told) (All-from_recursion (λ (one : ℕ × Told). one.0 < room) walked.told (walked.room asks)) there

              by : (o : Option Kept) → kept_at all key ≡ o → after_own ≡ own
              by None nowhere = absurd (none-some told.walked (sym (sym (kept-walked after walked.distinct_after key) ∙ ap (option_map (λ (kept : Kept). kept.walked)) nowhere) ∙ after-is))
              by (Some kept) here =
                  elim (All-contains (λ (one : ℕ × Kept). Contains (puts_of changes) one ⊎ (get walked.held one.0 ≡ Some one.1)) all (key, kept) walked.renews.covers (kept_there all key kept here)) [
                    | inl change ↦ absurd (absent (sym (walked.keeps key) ∙ was-none key walked.held changes walked.were (nothing-was below) kept change))
                    | inr same ↦
                        sym (kept-walked after walked.distinct_after key) ∙ ap (option_map (λ (kept : Kept). kept.walked)) here
                        ∙ sym (ap (option_map (λ (kept : Kept). kept.walked)) same) ∙ walked.keeps key
                  ]

      still-own : was ≡ None → after_own ≡ own
      still-own none = by (kept_at (told_of after) key) refl
        where
          by : (o : Option Told) → kept_at (told_of after) key ≡ o → after_own ≡ own
          by (Some told) is = unchanged none told is
          by None is =
              let absent : after_own ≡ None = ap walked_in (at_first (told_of after) key ∙ is) in
              let unnamed : is_some (name_of after.tree key) ≡ false = sym (walked-named after walked.distinct_after (own_starts after) key) ∙ ap (λ (o : Option Walked). is_some o) absent in
              absent ∙ sym (no-some own (walked-named before walked.distinct_before (own_starts before) key
              ∙ never (is_some (name_of before.tree key)) (sym (ap (λ b. is_some (name_of before.tree key) && not b) unnamed) ∙ sym (walked.taken key) ∙ stays)))
            where
              never : (b : Bool) → (b && not false) ≡ false → b ≡ false
              never true is = absurd (cc)
              never false is = refl

      saved-or-own : option_or was after_own ≡ own
      saved-or-own = by was refl
        where
          by : (o : Option Walked) → was ≡ o → option_or was after_own ≡ own
          by None none = ap (λ o. option_or o after_own) none ∙ still-own none
          by (Some it) some = ap (λ o. option_or o after_own) some ∙ sym (saved-was it some)

    goes : taken ≡ true → option_or was after_own ≡ None
    goes is =
        let none : is_some (name_of after.tree key) ≡ false = gone-name (is_some (name_of before.tree key)) (is_some (name_of after.tree key)) (sym (walked.taken key) ∙ is) in
        (λ i. option_or (gone-changes none i) (gone none i))
      where
        gone-name : (b a : Bool) → (b && not a) ≡ true → a ≡ false
        gone-name true true is = absurd (cc)
        gone-name true false is = refl
        gone-name false a is = absurd (cc)

    pub brought : option_or (get (saved room changes (put_all zeros (take_all takes counting.zeros.held))) key) after_own ≡ walked_with after no_starts key
    brought =
        ap (λ (zero : Option Walked). option_or zero after_own)
        (saved-is room changes (put_all zeros (take_all takes counting.zeros.held)) key ∙ ap (λ (zero : Option Walked). option_or zero was) put-is)
        ∙ zeros-over last (get counting.zeros.held key) was (walked_with before no_starts key) own after_own (walked_with after no_starts key) taken
        (walked.counted key) zero-is goes
        (λ stays nothing none. saved-or-own stays (zero-own stays nothing none))
      where
        -- with all starts 0 it is handed what it was handed
        zero-own : taken ≡ false → last ≡ None → get counting.zeros.held key ≡ None → walked_with after no_starts key ≡ own
        zero-own stays nothing none =
            sym zero-is
            ∙ (λ i. option_or (nothing i) (cond (stays i) None (walked_with before no_starts key)))
            ∙ sym (walked.counted key)
            ∙ ap (λ (held : Option Walked). option_or held own) none

pub zeros-brought : (before after : KeyedSource) (counting : Counting) (takes : List ℕ) (zeros : List (ℕ × Walked)) (changes : List (ℕ × KeptChange))
    → IsWalked before after counting takes zeros changes → AsksForStarts counting.index
    → KeepsZeros after (saved counting.zeros.room changes (put_all zeros (take_all takes counting.zeros.held)))
zeros-brought before after counting takes zeros changes walked asks key = brought before after counting takes zeros changes walked asks key
