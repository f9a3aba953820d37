-- The elements that refer to what a walk has told of.
use Rattle.std.proofs.Common.{◌≡◌, ◌==◌, ◌++◌, ◌||◌, ◌⊎◌, ◌∙◌, ℕ, Bool, true, false, List, [], Option, Some, None, arith, refl, sym, ap, subst, inl, inr}
use Rattle.std.specs.Prelude.{All, is_some, option_map}
use Rattle.std.specs.FinMap.{FinMap}
use Rattle.std.specs.List.{list_any}
use Rattle.std.specs.Option.{option_and_then, option_map_or}
use Rattle.std.specs.Ordering.{nat_cmp}
use Rattle.std.specs.Str.{bytes_eq}
use Rattle.std.proofs.lemmas.Bool.{true≢false}
use Rattle.std.proofs.lemmas.List.Folds.{list_any-append}
use Rattle.forest.specs.Forest.{Forest}
use Rattle.forest.specs.Keys.{Keyed, times}
use Rattle.forest.specs.Spots.{IsLink, IsLive, Spot, spot_of}
use Rattle.plain_types.specs.declared.counter_style.CounterStyle.{CounterStyle}
use Rattle.plain_types.specs.declared.node.Node.{Node}
use Rattle.node_arena.specs.Nodes.{node_name}
use Rattle.box_eval.specs.declared.element_record.ElementRecord.{ElementRecord}
use Rattle.generated_texts.specs.References.{kept_at}
use Rattle.merged_walk.specs.declared.stop.Stop.{Stop}
use Rattle.merged_walk.specs.Merges.{new_of}
use Rattle.surroundings.specs.declared.told.Told.{Told}
use Rattle.edit_merge.specs.EditMerges.{is_element}
use Rattle.edit_work.specs.KeyedSources.{is_among, references_of}
use Rattle.target_index.specs.declared.index.Index.{Index}
use Rattle.reference_reach.specs.ChangedTargets.{Evaluated, refers, refers_through}
use Rattle.reference_reach.specs.Laws.{RefersTheSame}
use Rattle.reference_reach.specs.MergedNodes.{elements_at_stops, entered_elements}
use Rattle.reference_reach.proofs.LawLemmas.{entered_are_live, referring_rests_on_elements, stops_tell_entered}
use Rattle.referring_elements.specs.declared.former.FormerTarget.{FormerTarget}
use Rattle.referring_elements.specs.Former.{AreFormerTargets}
use Rattle.referring_elements.specs.Indexes.{AreLive, AreReferencesLive, TellsReferences}
use Rattle.kept_elements.specs.declared.kept.Kept.{Kept}
use Rattle.kept_elements.specs.Renewals.{IsSomeEdit, IsSomeWalk, TellsOfEdit, evaluated_as, is_told}
use Rattle.kept_elements.proofs.ChangeLemmas.{some-kept, some_of}
use Rattle.kept_elements.proofs.KnownLemmas.{kept_mapped}
use Rattle.kept_elements.proofs.RenewedLemmas.{caught_there}
use Rattle.kept_elements.proofs.StopLemmas.{stops_lead}

module _ (table : List CounterStyle) (index : Index) (former : List FormerTarget) (stops : List Stop) (new : Forest (Keyed Node)) (caught : List (ℕ × Told)) (held : FinMap nat_cmp Kept)
    (w : IsSomeWalk table index former stops new caught held) where
  live_of : (o : Option (Spot Node)) → is_some (option_and_then node_name (option_map (λ (s : Spot Node). s.label) o)) ≡ true → is_some o ≡ true
  live_of None e = e
  live_of (Some spot) e = refl

  live : (key : ℕ) → is_some (kept_at w.is key) ≡ true → IsLive new key
  live key there = live_of (spot_of new key) (sym (w.tells.named key) ∙ there)

  -- the stops lead to nodes of the document
  pub links : All (λ (stop : Stop). IsLink new stop.link) stops
  links =
      subst (λ (at : List Stop). All (λ (stop : Stop). IsLink new stop.link) at) (sym w.stops_are)
      (stops_lead is_element new 0 w.merge (λ k. let same : times k (new_of w.merge) ≡ times k new = ap (times k) w.tells.merges.new in omega (arith, same)))

  -- what refers to an id is an element
  pub live_references : AreReferencesLive index new
  live_references id key e = by (kept_at w.is key) refl
    where
      by : (o : Option Told) → kept_at w.is key ≡ o → IsLive new key
      by (Some t) is = live key (ap (λ (o : Option Told). is_some o) is)
      by None none =
          absurd (true≢false (sym e ∙ w.refers id key
          ∙ ap (λ (o : Option ElementRecord). list_any (bytes_eq id) (option_map_or references_of o []))
          (kept_mapped (λ (t : Told). t.said) w.is key ∙ ap (option_map (λ (t : Told). t.said)) none)))

  module _ (visited changed : List ℕ) (visited_are : (key : ℕ) → is_among visited key ≡ is_told caught key)
      (changed_are : (key : ℕ) → is_among changed key ≡ is_among (visited ++ elements_at_stops new stops) key) where
    entered_is : elements_at_stops new stops ≡ entered_elements w.merge
    entered_is = ap (elements_at_stops new) w.stops_are ∙ sym (stops_tell_entered w.merge w.old new w.tells.merges w.tells.distinct_after)

    listed : (key : ℕ) → is_among changed key ≡ is_among (visited ++ entered_elements w.merge) key
    listed key = changed_are key ∙ ap (λ (ks : List ℕ). is_among (visited ++ ks) key) entered_is

    either : (a b : Bool) → (a || b) ≡ true → (a ≡ true) ⊎ (b ≡ true)
    either true b e = inl refl
    either false b e = inr e

    pub live_changed : AreLive new changed
    live_changed key e =
        elim (either (is_among visited key) (is_among (entered_elements w.merge) key)
        (sym (list_any-append (λ other. other == key) visited (entered_elements w.merge)) ∙ sym (listed key) ∙ e)) [
          | inl was ↦
              let t = some_of (kept_at caught key) (some-kept key caught ∙ sym (visited_are key) ∙ was) in
              live key (ap (λ (o : Option Told). is_some o) (caught_there caught w.is w.tells.once w.tells.among key t.0 t.1))
          | inr entered ↦ entered_are_live w.merge w.old new w.tells.merges key entered
        ]

    same : (key : ℕ) → RefersTheSame (evaluated_as w.old w.was) (evaluated_as new w.is) changed (visited ++ entered_elements w.merge) key
    same key = referring_rests_on_elements (evaluated_as w.old w.was) (evaluated_as new w.is) changed (visited ++ entered_elements w.merge) listed key

    module _ (first second : List ℕ)
        (first_found : (before : Evaluated) (said : List (ℕ × ElementRecord)) → AreFormerTargets former before (record { tree = new; said = said }) → TellsReferences index (record { tree = new; said = said })
        → (key : ℕ) → is_among first key ≡ refers before (record { tree = new; said = said }) changed key)
        (second_found : (before : Evaluated) (said : List (ℕ × ElementRecord)) → AreFormerTargets former before (record { tree = new; said = said }) → TellsReferences index (record { tree = new; said = said })
        → (key : ℕ) → is_among second key ≡ refers_through before (record { tree = new; said = said }) changed key) where
      pub tells_edit : TellsOfEdit table w.merge w.old new w.was w.is caught held visited first second
      tells_edit = record {
        walk = w.tells;
        visited_are = visited_are;
        first_are = λ key. first_found (evaluated_as w.old w.was) (evaluated_as new w.is).said w.former_are w.refers key ∙ (same key).first;
        second_are = λ key. second_found (evaluated_as w.old w.was) (evaluated_as new w.is).said w.former_are w.refers key ∙ (same key).second;
      }

      abbrev pub some_edit : IsSomeEdit table new caught held first second
      some_edit = record { merge = w.merge; old = w.old; was = w.was; is = w.is; visited = visited; tells = tells_edit }
