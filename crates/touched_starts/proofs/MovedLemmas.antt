-- Elements that go are taken out, or come again. Throughout, k is a key.
use Rattle.std.proofs.Common.{◌≡◌, ◌==◌, ◌||◌, ◌<◌, ◌++◌, ℕ, Bool, true, false, not, List, Option, Some, None, IsSome, ◌⊎◌, inl, inr, refl, sym, ap, subst, ◌∙◌}
use Rattle.std.proofs.lemmas.Bool.{or_left, or_right}
use Rattle.std.proofs.lemmas.List.Folds.{list_any-append}
use Rattle.forest.specs.Keys.{HasDistinctKeys, times}
use Rattle.plain_types.specs.declared.edit.Edit.{Edit}
use Rattle.plain_types.specs.declared.node.Node.{Node}
use Rattle.node_arena.specs.Nodes.{name_of}
use Rattle.generated_texts.specs.Documents.{agent_sheet, document_style}
use Rattle.merged_walk.specs.Counts.{weigh_places}
use Rattle.merged_walk.specs.Merges.{Merge, new_of, old_of}
use Rattle.merged_walk.specs.Stops.{stops_of}
use Rattle.edit_merge.specs.EditMerges.{is_element}
use Rattle.style_reach.specs.Reaches.{all_features}
use Rattle.styled_merge.proofs.KeptLaws.{new-whole, old-whole}
use Rattle.styled_merge.proofs.StopLemmas.{reaches_are_walkable}
use Rattle.edit_work.specs.KeyedSources.{KeyedSource, author, is_among, table}
use Rattle.edit_work.specs.Laws.{Leads}
use Rattle.start_reach.specs.Laws.{plain_merge}
use Rattle.start_reach.specs.SecondMerges.{first_merge}
use Rattle.start_reach.specs.TurnedElements.{stays}
use Rattle.start_reach.proofs.LawLemmas.{edits, merges}
use Rattle.turned_stops.specs.Coming.{coming_at_stops}
use Rattle.turned_stops.proofs.LawLemmas.{stays_is_not_coming}
use Rattle.touched_starts.specs.Laws.{GoneAreMoved}
use Rattle.touched_starts.proofs.GoneLemmas.{gone-not-stays, gone-styled}
use Rattle.touched_starts.proofs.IndexedDeeds.{nothing-kept}

not-false : (b : Bool) → false ≡ not b → b ≡ true
not-false true is = refl
not-false false is = absurd (cc is)

module _ (edit : Edit) (before after : KeyedSource) (leads : Leads edit before after) (k : ℕ) where
  abbrev its : Merge Node
  its = first_merge edit before after

  abbrev coming : List ℕ
  coming = coming_at_stops after.tree (stops_of is_element 0 its)

  old-is : old_of its ≡ before.tree
  old-is = old-whole edit before.tree after.tree (edits edit before after leads) (merges edit before after leads) (all_features agent_sheet (author before))

  new-is : new_of its ≡ after.tree
  new-is = new-whole edit before.tree after.tree (edits edit before after leads) (merges edit before after leads) (all_features agent_sheet (author before))

  -- an element of the document after the edit stays where it does not come
  pub stays-coming : IsSome (name_of after.tree k) → stays is_element k its ≡ not (is_among coming k)
  stays-coming there =
      stays_is_not_coming its (subst HasDistinctKeys (sym new-is) leads.done.after.distinct) k (subst (λ tree. IsSome (name_of tree k)) (sym new-is) there)
      ∙ ap (λ tree. not (is_among (coming_at_stops tree (stops_of is_element 0 its)) k)) new-is

  module _ (goes : 0 < weigh_places (times k) (λ _. 0) (plain_merge edit before after)) where
    not-stays : stays is_element k its ≡ false
    not-stays =
        let plain = reaches_are_walkable edit before.tree after.tree leads.done (all_features agent_sheet (author before)) in
        gone-not-stays k its plain.leaves (subst HasDistinctKeys (sym old-is) leads.done.before.distinct)
        (subst (λ count. 0 < count) (gone-styled k (document_style (author before) before.tree) (document_style (author after) after.tree) its None) goes)

    -- one that goes and is in the document after the edit comes
    comes : IsSome (name_of after.tree k) → is_among coming k ≡ true
    comes there = not-false (is_among coming k) (sym not-stays ∙ stays-coming there)

    module _ (takes : List ℕ) (taken : (key : ℕ) → IsSome (name_of before.tree key) → name_of after.tree key ≡ None → is_among takes key ≡ true) where
      either-has : is_among (takes ++ coming) k ≡ (is_among takes k || is_among coming k)
      either-has = list_any-append (λ (other : ℕ). other == k) takes coming

      moved-by : (was_name name : Option (List ℕ)) → name_of before.tree k ≡ was_name → name_of after.tree k ≡ name
          → (name_of before.tree k ≡ None) ⊎ (is_among (takes ++ coming) k ≡ true)
      moved-by None name was is = inl was
      moved-by (Some was_name) None was is =
          inr (either-has ∙ or_left (is_among takes k) (is_among coming k) (taken k (subst (λ (o : Option (List ℕ)). IsSome o) (sym was) refl) is))
      moved-by (Some was_name) (Some name) was is =
          inr (either-has ∙ or_right (is_among takes k) (is_among coming k) (comes (subst (λ (o : Option (List ℕ)). IsSome o) (sym is) refl)))

pub gone_are_moved : GoneAreMoved
gone_are_moved edit before after leads was did takes taken key goes =
    elim (moved-by edit before after leads key goes takes taken (name_of before.tree key) (name_of after.tree key) refl refl) [
      | inl none ↦ inl (nothing-kept (table before) (document_style (author before) before.tree) before.tree leads.done.before.distinct key was did none)
      | inr among ↦ inr among
    ]
