-- Keys of elements, each once, are no more than the elements.
use Rattle.std.proofs.Common.{◌≡◌, ◌≤◌, ◌∙◌, ℕ, nat_eq, true, List, [], ◌∷◌, length, Option, Some, None, arith, sym, subst, eqb-true, inl, inr}
use Rattle.std.specs.Prelude.{IsSome}
use Rattle.std.specs.List.{IsDistinct, list_any}
use Rattle.std.specs.Option.{option_eq}
use Rattle.std.proofs.lemmas.Bool.{cases_Bool, true≢false}
use Rattle.forest.specs.Forest.{Forest}
use Rattle.forest.specs.Keys.{HasDistinctKeys, Keyed, without_keys}
use Rattle.plain_types.specs.declared.node.Node.{Node}
use Rattle.node_arena.specs.Nodes.{name_of}
use Rattle.document_walk.specs.Elements.{element_count}
use Rattle.generated_texts.specs.Documents.{agent_sheet}
use Rattle.generated_texts.specs.References.{first_holder}
use Rattle.edit_work.specs.KeyedSources.{is_among, references_of}
use Rattle.referring_elements.specs.Found.{is_named}
use Rattle.surroundings.specs.declared.told.Told.{Told}
use Rattle.kept_elements.specs.Evaluations.{document_kept}
use Rattle.kept_elements.specs.Machinery.Renewals.{names, some_names}
use Rattle.kept_elements.proofs.AgainLemmas.{no_more_keys}
use Rattle.kept_elements.proofs.ChangeLemmas.{some-kept}
use Rattle.kept_elements.proofs.HolderNames.{holder_named}
use Rattle.kept_elements.proofs.ToldLemmas.{kept_count, kept_keys}

module _ (tree : Forest (Keyed Node)) (distinct : HasDistinctKeys tree) where
  pub few_named : (keys : List ℕ) → IsDistinct nat_eq keys → ((key : ℕ) → is_among keys key ≡ true → IsSome (name_of tree key)) → length keys ≤ element_count (without_keys tree)
  few_named keys once named =
      let few = no_more_keys keys (document_kept agent_sheet tree) once (λ key among. sym (some-kept key (document_kept agent_sheet tree)) ∙ kept_keys agent_sheet tree distinct key ∙ named key among) in
      omega (arith, few, kept_count agent_sheet tree distinct)

  -- what an element refers to is one

  is_it : (o : Option ℕ) (key : ℕ) → option_eq nat_eq o (Some key) ≡ true → o ≡ Some key
  is_it None key e = absurd (true≢false (sym e))
  is_it (Some k) key e = subst (λ (n : ℕ). Some k ≡ Some n) (eqb-true k key e) (λ i. Some k)

  by_ids : (key : ℕ) (ids : List (List ℕ)) → list_any (is_named tree key) ids ≡ true → IsSome (name_of tree key)
  by_ids key [] e = absurd (true≢false (sym e))
  by_ids key (id ∷ ids) e = elim (cases_Bool (is_named tree key id)) [
    | inl its ↦ holder_named id tree key distinct (is_it (first_holder tree id) key its)
    | inr other ↦ by_ids key ids (rw other at e)
  ]

  pub named_targets : (listed : List (ℕ × Told)) (key : ℕ) → some_names tree listed key ≡ true → IsSome (name_of tree key)
  named_targets [] key e = absurd (true≢false (sym e))
  named_targets (x ∷ listed) key e = elim (cases_Bool (names tree key x.1)) [
    | inl its ↦ by_ids key (references_of x.1.said) its
    | inr other ↦ named_targets listed key (rw other at e)
  ]
