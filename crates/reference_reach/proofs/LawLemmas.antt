-- The laws, from their lemmas.
use Rattle.std.proofs.Common.{◌≡◌, ◌<◌, ℕ, false, List, IsSome, refl, sym, ap, subst}
use Rattle.forest.specs.Forest.{Forest}
use Rattle.forest.specs.Keys.{Keyed, HasDistinctKeys, times}
use Rattle.forest.proofs.SpotLaws.{counted-live}
use Rattle.plain_types.specs.declared.node.Node.{Node}
use Rattle.node_arena.specs.Nodes.{name_of}
use Rattle.generated_texts.specs.References.{characters_in, first_holder}
use Rattle.merged_walk.specs.Laws.{Merges}
use Rattle.merged_walk.specs.Merges.{Merge, new_of, old_of}
use Rattle.merged_walk.specs.Stops.{stops_of}
use Rattle.edit_merge.specs.EditMerges.{is_element}
use Rattle.edit_work.specs.KeyedSources.{is_among}
use Rattle.reference_reach.specs.Laws.{EnteredAreLive, EnteredArePlaced, EntriesStay, FlatTextsStay, FullTextsStay, HasSameUnder, ReferringIsPaid, ReferringRestsOnElements, StopsTellEntered, TargetsAgree, TargetsAgreeBelow, TargetsStay, TreesUnderStay}
use Rattle.reference_reach.specs.MergedNodes.{IsLeftAlone, elements_at_stops, entered_elements}
use Rattle.reference_reach.specs.ExchangedNodes.{OthersKeepTargets}
use Rattle.reference_reach.specs.ToldLaws.{ChangesAreTold, ChangesLead, PassedAreToldTheSame, UnstartedChangesAreTold}
use Rattle.reference_reach.proofs.ExchangedNodes.{others-keep}
use Rattle.reference_reach.proofs.HolderLaws.{targets-stay}
use Rattle.reference_reach.proofs.KnownLaws.{agree-below, agree-on, entries-stay, flat-texts, full-texts}
use Rattle.reference_reach.proofs.ReachedPlaced.{entered-there}
use Rattle.reference_reach.proofs.ListedElements.{entered-counted, refers-same}
use Rattle.reference_reach.proofs.StopLaws.{stops-tell}
use Rattle.reference_reach.proofs.ToldChanges.{changes-others, own-changes, passed-same, unstarted-changes}
use Rattle.reference_reach.proofs.UnderLaws.{same-under}
use Rattle.reference_reach.proofs.WorkLaws.{referring-pays}

-- what holds of a merge's own forests
of-merge : (law : (old new : Forest (Keyed Node)) → Type 0) (merge : Merge Node) (old new : Forest (Keyed Node)) → Merges merge old new → law (old_of merge) (new_of merge) → law old new
of-merge law merge old new merges holds = subst (λ f. law f new) merges.old (subst (λ f. law (old_of merge) f) merges.new holds)

pub targets_stay : TargetsStay
targets_stay merge old new merges =
    of-merge (λ old new. (id : List ℕ) → IsLeftAlone id merge → first_holder new id ≡ first_holder old id) merge old new merges (λ id. targets-stay id merge)

pub trees_under_stay : TreesUnderStay
trees_under_stay merge old new merges =
    of-merge
    (λ old new. HasDistinctKeys old → HasDistinctKeys new → (key : ℕ) → IsSome (name_of new key) → is_among (entered_elements merge) key ≡ false → HasSameUnder old new key)
    merge old new merges
    (λ before after key element apart.
    let trees = same-under key merge before after element apart in
    record { trees = trees; characters = ap characters_in trees })

pub stops_tell_entered : StopsTellEntered
stops_tell_entered merge old new merges distinct =
    subst (λ f. entered_elements merge ≡ elements_at_stops f (stops_of is_element 0 merge)) merges.new
    (stops-tell (new_of merge) 0 merge (subst HasDistinctKeys (sym merges.new) distinct) (λ q there. refl))

pub entered_are_live : EnteredAreLive
entered_are_live merge old new merges key h =
    counted-live new key (subst (λ f. 0 < times key f) merges.new (entered-counted key merge h))

pub referring_rests_on_elements : ReferringRestsOnElements
referring_rests_on_elements before after changed listed same key = refers-same before after changed listed same key

pub targets_agree_below : TargetsAgreeBelow
targets_agree_below table merge visited before after leads id h = agree-below table merge visited before after leads trees_under_stay id h

pub targets_agree : TargetsAgree
targets_agree table merge visited before after leads id h = agree-on table merge visited before after leads trees_under_stay id h

pub flat_texts_stay : FlatTextsStay
flat_texts_stay table merge visited before after leads pieces h = flat-texts table merge visited before after leads trees_under_stay pieces h

pub full_texts_stay : FullTextsStay
full_texts_stay table merge visited before after leads pieces h = full-texts table merge visited before after leads trees_under_stay pieces h

pub entries_stay : EntriesStay
entries_stay table merge visited before after leads key element h = entries-stay table merge visited before after leads trees_under_stay key element h

pub referring_is_paid : ReferringIsPaid
referring_is_paid edit before after changed distinct points = referring-pays edit before after changed distinct points

pub entered_are_placed : EnteredArePlaced
entered_are_placed edit before after leads not key h = (entered-there edit before after leads not).holds key h

pub passed_are_told_the_same : PassedAreToldTheSame
passed_are_told_the_same edit before after leads other was_start start forests k told is passed = passed-same edit before after leads other was_start start forests k told is passed

pub changes_are_told : ChangesAreTold
changes_are_told = own-changes entered_are_placed referring_is_paid

pub unstarted_changes_are_told : UnstartedChangesAreTold
unstarted_changes_are_told = unstarted-changes entered_are_placed referring_is_paid

pub changes_lead : ChangesLead
changes_lead merge before after was_distinct distinct merges changes covers = record {
  merges = merges;
  distinct_before = was_distinct;
  distinct_after = distinct;
  others = changes-others before after was_distinct distinct changes covers;
}

pub others_keep_targets : OthersKeepTargets
others_keep_targets edit old new done id left come = others-keep id edit old new done left come
