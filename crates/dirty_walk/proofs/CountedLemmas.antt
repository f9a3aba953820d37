-- Both walks of an edit may begin where a book stands; what is kept for them is brought to the edited document, and the work of the
-- edit pays for all.
use Rattle.std.proofs.Common.{◌≡◌, ◌≤◌, ◌+◌, ◌*◌, ◌++◌, ◌∙◌, ◌&&◌, ℕ, nat_eq, List, None, length, take, drop, not, is_some, sym, ap, subst, inl, inr, arith}
use Rattle.std.specs.FinMap.{FinMap, get}
use Rattle.std.specs.List.{list_any}
use Rattle.std.specs.Ordering.{nat_cmp}
use Rattle.forest.specs.Forest.{Forest}
use Rattle.forest.specs.Keys.{Keyed}
use Rattle.plain_types.specs.declared.edit.Edit.{Edit}
use Rattle.plain_types.specs.declared.node.Node.{Node}
use Rattle.node_arena.specs.Nodes.{name_of}
use Rattle.box_eval.specs.Evaluation.{StyledNode}
use Rattle.box_eval.specs.Starts.{no_starts}
use Rattle.generated_texts.specs.Documents.{agent_sheet}
use Rattle.merged_walk.specs.declared.stop.Stop.{Stop}
use Rattle.merged_walk.specs.Counts.{gone_count, led_count}
use Rattle.merged_walk.specs.Entries.{AreAmong, Covers}
use Rattle.merged_walk.specs.Merges.{Merge}
use Rattle.surroundings.specs.declared.told.Told.{Told}
use Rattle.surroundings.specs.declared.walked.Walked.{Walked}
use Rattle.surroundings.specs.StyledEvaluators.{is_element as is_styled_element}
use Rattle.edit_merge.specs.EditMerges.{edit_merge}
use Rattle.style_reach.specs.Reaches.{reach}
use Rattle.styled_merge.specs.Laws.{HasShape, looks_beside, style_beside}
use Rattle.styled_merge.specs.Reached.{begins_at}
use Rattle.styled_merge.proofs.LawLemmas.{styled_merges_keep_shape}
use Rattle.edit_work.specs.KeyedSources.{KeyedSource, author, is_among, own_starts, table}
use Rattle.edit_work.specs.ReachedLaws.{PaysForReachedWalks}
use Rattle.edit_work.specs.Work.{walk_work, work}
use Rattle.edit_work.proofs.ReachedLemmas.{nodes_reached_are_paid}
use Rattle.start_reach.specs.Laws.{AreTurned, plain_merge, started_merge}
use Rattle.start_reach.specs.SecondMerges.{first_merge}
use Rattle.start_reach.specs.TurnedElements.{with_ways_to}
use Rattle.counter_index.specs.declared.index.CounterIndex.{CounterIndex}
use Rattle.counter_index.specs.Indexes.{AsksForStarts, asked_by, starts_by, with_values}
use Rattle.touched_starts.specs.Laws.{IsIndexOf}
use Rattle.started_walk.specs.declared.counting.Counting.{Counting}
use Rattle.started_walk.specs.Countings.{Counts, KeepsTheSame, KeepsWalked, KeepsZeros}
use Rattle.started_walk.specs.Settled.{IsWalked, TellsZeros, without_were}
use Rattle.started_walk.specs.Twice.{CanWalkTwice, IsSomeEdit, IsWalkedTwice, IsWithinTwice}
use Rattle.started_walk.proofs.BringLemmas.{written}
use Rattle.started_walk.proofs.SavedLemmas.{length-stays, puts-stay, shown-stay}
use Rattle.started_work.specs.Laws.{walk_budget}
use Rattle.started_work.proofs.LawLemmas.{started_edits_are_paid}
use Rattle.target_index.specs.declared.index.Index.{Index}
use Rattle.kept_elements.specs.declared.kept.Kept.{Kept}
use Rattle.dirty_walk.specs.declared.read_ahead.ReadAhead.{ReadAhead}
use Rattle.dirty_walk.specs.declared.styled_arena.StyledArena.{StyledArena}
use Rattle.dirty_walk.specs.Countings.{IsSomeCountedEdit}
use Rattle.dirty_walk.specs.DocumentStyles.{document_styles}
use Rattle.dirty_walk.specs.Exchanges.{elements_in, leaving, taken_keys}
use Rattle.dirty_walk.specs.Machinery.PlaceReadings.{read_of}
use Rattle.dirty_walk.specs.Places.{IsLocalEdit, place_work}
use Rattle.kept_elements.specs.declared.kept_change.KeptChange.{KeptChange}
use Rattle.kept_elements.specs.Changes.{AreBelow, AreOthers, Renews, TellWere, walked_at}
use Rattle.kept_elements.specs.Evaluations.{document_kept}
use Rattle.dirty_walk.specs.Machinery.SecondWalks.{IsSomeSecondWalk, IsWithinSecond}
use Rattle.dirty_walk.specs.Machinery.CountedEdits.{IsWithinCounted}
use Rattle.dirty_walk.proofs.ExchangeLaws.{takes_are}
use Rattle.dirty_walk.proofs.GoneLemmas.{gone-reached, taken_gone}
use Rattle.dirty_walk.proofs.KeptReferences.{turned}
use Rattle.dirty_walk.proofs.PlaceLemmas.{reads, walked_are}
use Rattle.dirty_walk.proofs.SecondLemmas.{after, before, leads}

-- What is kept for both walks.

-- an index that keeps the same is that of the same document
same_index : (source : KeyedSource) (now was : CounterIndex) → KeepsTheSame now was → IsIndexOf source was → IsIndexOf source now
same_index source now was same is = record {
  deeds = λ key. same.deeds key ∙ is.deeds key;
  starts = λ key. ap starts_by (same.starts key) ∙ is.starts key ∙ ap (λ deeds. with_values (own_starts source) (asked_by deeds)) (sym (same.deeds key));
}

pub still_counts : (source : KeyedSource) (was now : Counting) → now.zeros.held ≡ was.zeros.held → KeepsTheSame now.index was.index → Counts source was → Counts source now
still_counts source was now zeros index counts = record {
  zeros = subst (KeepsZeros source) (sym zeros) counts.zeros;
  index = same_index source now.index was.index index counts.index;
}

-- What comes to a board, once what elements were handed before is moved out of it.

pub renews_without : (held : FinMap nat_cmp Kept) (all : List (ℕ × Kept)) (changes : List (ℕ × KeptChange)) → Renews held all changes → Renews held all (without_were changes)
renews_without held all changes renews = record {
  among = subst (λ (puts : List (ℕ × Kept)). AreAmong puts all) (sym (puts-stay changes)) renews.among;
  covers = subst (λ (puts : List (ℕ × Kept)). Covers puts (get held) all) (sym (puts-stay changes)) renews.covers;
  others = subst (AreOthers held) (sym (puts-stay changes)) renews.others;
  shown = shown-stay held changes renews.shown;
  few = let fewer : length changes ≤ length all = renews.few in omega (arith, fewer, length-stays changes);
}

module _ (len : ℕ) (items given after : List (ℕ × KeptChange)) (value : given ≡ items) (moved : after ≡ without_were given) (same : len ≡ length items) where
  pub settled_are : take len (after ++ drop (length after) items) ≡ without_were items
  settled_are =
      let is : after ≡ without_were items = moved ∙ ap without_were value in
      written len after items (omega (arith, ap length is, length-stays items, same)) ∙ is

-- Both walks may begin.

module _ (document : StyledArena) (is_agent : document.agent.now ≡ agent_sheet) (styles_are : document.styles.now ≡ document_styles document.styles.now.sheet document.arena.now.tree)
    (held : FinMap nat_cmp Kept) (stops : List Stop) (ahead : ReadAhead) (index : Index) (counting : Counting)
    (some : IsSomeCountedEdit document.styles.now.sheet held stops document.arena.now.tree ahead index counting) where
  abbrev text : List ℕ
  text = document.styles.now.sheet

  abbrev tree : Forest (Keyed Node)
  tree = document.arena.now.tree

  abbrev pub source_before : KeyedSource
  source_before = before some.edit text held some.old tree some.at

  abbrev pub source_after : KeyedSource
  source_after = after some.edit text held some.old tree some.at

  pub taken : (key : ℕ) → is_among ahead.takes.now key ≡ (is_some (name_of some.old key) && not (is_some (name_of tree key)))
  taken key =
      turned key ahead.takes.now
      ∙ ap (list_any (nat_eq key)) some.read.takes
      ∙ takes_are some.edit some.old tree some.at.done key

  abbrev place : IsSomeEdit (read_of document) ahead.takes.now stops
  place = record {
    edit = some.edit;
    before = source_before;
    after = source_after;
    leads = leads some.edit text held some.old tree some.at;
    local = some.at.local;
    reads = reads document is_agent styles_are;
    stops_are = some.stops_are;
    taken = taken;
  }

  -- the board has what was told with the starts of the document before
  pub keeps : KeepsWalked source_before (own_starts source_before) (walked_at held)
  keeps = walked_are some.edit text held some.old tree some.at

  abbrev pub can_walk : CanWalkTwice (read_of document) counting (walked_at held) ahead.takes.now stops
  can_walk = record { place = place; counts = some.counts; keeps = keeps }

  -- What both have told.
  abbrev pub AreWalked : (ways : List Stop) (told : List (ℕ × Told)) (were between : ℕ) → Type 0
  AreWalked ways told were between = IsWalkedTwice some.edit source_before source_after stops ways told were between

  abbrev pub second_walk : (ways : List Stop) (told : List (ℕ × Told)) (were between : ℕ) → AreWalked ways told were between → IsSomeSecondWalk text held ways tree ahead index told
  second_walk ways told were between walked = record {
    edit = some.edit;
    old = some.old;
    at = some.at;
    read = some.read;
    keys = walked.keys;
    turned = walked.turned;
    ways_are = walked.ways_are ∙ ap (with_ways_to tree walked.keys) some.stops_are;
    finds = walked.finds;
  }

  -- What is kept for both has the index of the edited document then, and room for what was told, and these changes come to the board.
  abbrev pub is_walked : (now : Counting) → now.zeros.held ≡ counting.zeros.held → IsIndexOf source_after now.index → (zeros : List (ℕ × Walked)) → TellsZeros source_before source_after now.index zeros
      → (ways : List Stop) (told : List (ℕ × Told)) (were between : ℕ) → AreWalked ways told were between → (AsksForStarts now.index → AreBelow now.zeros.room told)
      → (changes : List (ℕ × KeptChange)) → Renews held (document_kept (author source_after) tree) changes → TellWere held changes
      → IsWalked source_before source_after now ahead.takes.now zeros changes
  is_walked now same indexed zeros tells ways told were between walked room changes renews former = record {
    distinct_before = some.at.done.before.distinct;
    distinct_after = some.at.done.after.distinct;
    taken = taken;
    counted = subst (KeepsZeros source_before) (sym same) some.counts.zeros;
    index = indexed;
    tells = tells;
    told = told;
    finds = walked.finds;
    room = room;
    held = held;
    keeps = keeps;
    renews = renews;
    were = former;
  }

-- The work of the edit pays for all.

sum_first : (plain led gone walk work takes were now : ℕ) → (2 * (plain + 2 * led) + gone) ≤ 24 * (walk + 1) → walk ≤ work → takes ≤ gone → now ≤ were + plain → (now + takes) ≤ were + 24 * (work + 1)
sum_first plain led gone walk work takes were now paid within goes few = omega arith

sum_both : (plain started gone work takes told were between now : ℕ) → (plain + started + 3 * gone + 4 * work) ≤ 24 * (work + 1) → takes ≤ gone → (between + told) ≤ were + (plain + started)
    → now ≤ between + (told + (takes + 4 * work)) → (now + takes) ≤ were + 24 * (work + 1)
sum_both plain started gone work takes told were between now paid goes few rest = omega arith

module _ (edit : Edit) (text : List ℕ) (held : FinMap nat_cmp Kept) (old new : Forest (Keyed Node)) (at : IsLocalEdit edit text held old new) where
  abbrev its_before : KeyedSource
  its_before = before edit text held old new at

  abbrev its_after : KeyedSource
  its_after = after edit text held old new at

  abbrev first : Merge Node
  first = first_merge edit its_before its_after

  abbrev plain : Merge StyledNode
  plain = plain_merge edit its_before its_after

  walk_within : walk_work edit its_before its_after ≤ work edit its_before its_after
  unfolding work
  walk_within = omega arith

  shape : HasShape plain first
  shape = styled_merges_keep_shape (style_beside text old) (style_beside text new) no_starts no_starts None first

  takes_gone : (takes : List ℕ) → takes ≡ taken_keys edit (elements_in (leaving edit old)) → length takes ≤ gone_count is_styled_element plain
  takes_gone takes are =
      omega (
        arith,
        ap length are,
        taken_gone edit old new,
        gone-reached (begins_at (reach (looks_beside text old) old edit)) (edit_merge edit old new),
        shape.gone,
      )

  pub paid_first : (takes : List ℕ) → takes ≡ taken_keys edit (elements_in (leaving edit old)) → (were now : ℕ) → now ≤ were + walk_budget (table its_after) plain
      → (now + length takes) ≤ were + 24 * (place_work edit text old new + 1)
  paid_first takes are were now few =
      let paid : PaysForReachedWalks edit its_before its_after = nodes_reached_are_paid edit its_before its_after (leads edit text held old new at) at.local in
      sum_first (walk_budget (table its_after) plain) (led_count plain) (gone_count is_styled_element plain) (walk_work edit its_before its_after) (place_work edit text old new) (length takes) were now
      paid.plain walk_within (takes_gone takes are) few

  module _ (keys : List ℕ) (turned : AreTurned edit its_before its_after keys) (takes : List ℕ) (are : takes ≡ taken_keys edit (elements_in (leaving edit old))) where
    abbrev both : ℕ
    both = walk_budget (table its_after) plain + walk_budget (table its_after) (started_merge edit its_before its_after keys)

    pub paid_both : (told were between now : ℕ) → (between + told) ≤ were + both → now ≤ between + (told + (length takes + 4 * place_work edit text old new))
        → (now + length takes) ≤ were + 24 * (place_work edit text old new + 1)
    paid_both told were between now few rest =
        sum_both (walk_budget (table its_after) plain) (walk_budget (table its_after) (started_merge edit its_before its_after keys)) (gone_count is_styled_element plain) (place_work edit text old new)
        (length takes) told were between now (started_edits_are_paid edit its_before its_after (leads edit text held old new at) at.local keys turned) (takes_gone takes are) few rest

-- So it does in a document where this edit has been made.
module _ (document : StyledArena) (is_agent : document.agent.now ≡ agent_sheet) (styles_are : document.styles.now ≡ document_styles document.styles.now.sheet document.arena.now.tree)
    (held : FinMap nat_cmp Kept) (stops : List Stop) (ahead : ReadAhead) (index : Index) (counting : Counting) where
  abbrev sheet : List ℕ
  sheet = document.styles.now.sheet

  abbrev new : Forest (Keyed Node)
  new = document.arena.now.tree

  -- for what is taken where the walks find no memory
  pub walks_within : (were now : ℕ) → IsWithinTwice (read_of document) counting (walked_at held) ahead.takes.now stops were now → IsWithinCounted sheet held stops new ahead index counting were now
  walks_within were now within some = elim (within (can_walk document is_agent styles_are held stops ahead index counting some)) [
    | inl first ↦ paid_first some.edit sheet held some.old new some.at ahead.takes.now some.read.takes were now first
    | inr second ↦
        paid_both some.edit sheet held some.old new some.at second.0 second.1.0 ahead.takes.now some.read.takes 0 were now now (omega (arith, second.1.1)) (omega arith)
  ]

  -- Both walks have told this of each such edit.
  module _ (ways : List Stop) (told : List (ℕ × Told)) (were between : ℕ)
      (walks : (stands : CanWalkTwice (read_of document) counting (walked_at held) ahead.takes.now stops) → IsWalkedTwice stands.place.edit stands.place.before stands.place.after stops ways told were between)
      (those : List Stop) (them : List (ℕ × Told)) (same_ways : those ≡ ways) (same_told : them ≡ told) where
    pub walked_there : (some : IsSomeCountedEdit sheet held stops new ahead index counting) → AreWalked document is_agent styles_are held stops ahead index counting some those them were between
    walked_there some =
        subst (λ (at : List Stop). AreWalked document is_agent styles_are held stops ahead index counting some at them were between) (sym same_ways)
        (subst (λ (found : List (ℕ × Told)). AreWalked document is_agent styles_are held stops ahead index counting some ways found were between) (sym same_told)
        (walks (can_walk document is_agent styles_are held stops ahead index counting some)))

    abbrev pub second_there : (some : IsSomeCountedEdit sheet held stops new ahead index counting) → IsSomeSecondWalk sheet held those new ahead index them
    second_there some = second_walk document is_agent styles_are held stops ahead index counting some those them were between (walked_there some)

    -- for all that is taken behind them
    pub all_within : (now : ℕ) → IsWithinSecond sheet held those new ahead index them between now → IsWithinCounted sheet held stops new ahead index counting were now
    all_within now within some =
        let walked = walked_there some in
        paid_both some.edit sheet held some.old new some.at walked.keys walked.turned ahead.takes.now some.read.takes (length them) were between now walked.few (within (second_there some))
