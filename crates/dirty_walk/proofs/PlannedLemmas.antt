-- What is kept before an edit and after it, told by the plan of the edit.
use Rattle.std.proofs.Common.{◌≡◌, ◌∙◌, ℕ, nat_eq, Bool, true, false, not, ◌&&◌, cond, Option, Some, None, is_some, option_map, refl, sym, ap, ap₂, inl, inr}
use Rattle.std.specs.FinMap.{FinMap, get}
use Rattle.std.specs.List.{list_any}
use Rattle.std.specs.Option.{option_or}
use Rattle.std.specs.Ordering.{nat_cmp}
use Rattle.std.proofs.lemmas.Bool.{cases_Bool, false≢true}
use Rattle.std.proofs.lemmas.Option.{none-some}
use Rattle.forest.specs.Forest.{Forest}
use Rattle.forest.specs.Keys.{Keyed, HasDistinctKeys}
use Rattle.forest.specs.Paths.{on_path}
use Rattle.forest.specs.Spots.{IsLive, Spot, label_of}
use Rattle.forest.proofs.SpotLaws.{live-spot}
use Rattle.plain_types.specs.declared.edit.Edit.{Edit}
use Rattle.plain_types.specs.declared.edit.Edit.TheVariants.{Insert, Move, Remove, ReplaceSheet, SetAttr, UnsetAttr}
use Rattle.plain_types.specs.declared.node.Node.{Node}
use Rattle.node_arena.specs.Changes.{alone}
use Rattle.node_arena.specs.Nodes.{name_of}
use Rattle.edit_merge.specs.Laws.{IsDone}
use Rattle.generated_texts.specs.StyleElements.{author_sheet}
use Rattle.generated_texts.specs.declared.entry.NodeEntry.{NodeEntry}
use Rattle.generated_texts.proofs.EntryKeys.{elements_keys}
use Rattle.merged_walk.specs.Entries.{last_at}
use Rattle.snapshot_board.specs.Records.{take_all}
use Rattle.kept_elements.specs.declared.kept.Kept.{Kept}
use Rattle.kept_elements.specs.Changes.{entry_at, puts_of}
use Rattle.kept_elements.proofs.ChangeLemmas.{get-put_all, get-take_all}
use Rattle.dirty_walk.specs.declared.plan.Plan.{Plan}
use Rattle.dirty_walk.specs.Books.{StyledDocument, fresh_entry}
use Rattle.dirty_walk.specs.Exchanges.{elements_in, leaving, taken_keys}
use Rattle.dirty_walk.specs.PlannedEntries.{IsPlannedFrom, put_entry}
use Rattle.dirty_walk.specs.Plans.{IsPlannedBy, settled_after}
use Rattle.dirty_walk.proofs.BookLemmas.{keeps_entries}
use Rattle.dirty_walk.proofs.ExchangeLaws.{takes_are}
use Rattle.dirty_walk.proofs.ExchangedLemmas.{exchanged}
use Rattle.dirty_walk.proofs.TakenLemmas.{is_named, keys_there}

-- Elements that stay.

-- an element that is taken out is no node of the document after it
taken_gone : (edit : Edit) (old new : Forest (Keyed Node)) → IsDone edit old new → (key : ℕ) → list_any (nat_eq key) (taken_keys edit (elements_in (leaving edit old))) ≡ true → IsLive new key → ⊥
taken_gone (Insert parent index fragment) old new done key taken live = absurd (false≢true taken)
taken_gone (Remove path) old new done key taken live =
    let h = exchanged (Remove path) old new done in
    let named : is_named (label_of (alone (on_path path old)) key) ≡ true = sym (keys_there key (alone (on_path path old)) h.gone_once) ∙ taken in
    let there = live-spot new key live in
    let label : Some there.0.label ≡ h.stays_as key = sym (ap (option_map (λ (s : Spot Node). s.label)) there.1) ∙ h.is key in
    elim (h.gone_apart key) [
      | inl none ↦ absurd (false≢true (ap is_named (sym none) ∙ named))
      | inr none ↦ absurd (none-some there.0.label (sym (label ∙ none)))
    ]
taken_gone (Move from parent index) old new done key taken live = absurd (false≢true taken)
taken_gone (SetAttr path name value) old new done key taken live = absurd (false≢true taken)
taken_gone (UnsetAttr path name) old new done key taken live = absurd (false≢true taken)
taken_gone (ReplaceSheet text) old new done key taken live = absurd (false≢true taken)

-- an element that is a node of the document still is an element
stays_element : (edit : Edit) (old new : Forest (Keyed Node)) → IsDone edit old new → (key : ℕ) → IsLive new key → is_some (name_of old key) ≡ true → is_some (name_of new key) ≡ true
stays_element edit old new done key live was = elim (cases_Bool (is_some (name_of new key))) [
  | inl is ↦ is
  | inr none ↦ absurd (taken_gone edit old new done key (takes_are edit old new done key ∙ ap₂ (λ a b. a && not b) was none) live)
]

-- The entries.

-- exactly the elements have entries
entry_keys : (styled : StyledDocument) → HasDistinctKeys styled.tree → (key : ℕ) → is_some (fresh_entry styled key) ≡ is_some (name_of styled.tree key)
entry_keys styled distinct key = elements_keys (author_sheet styled.sheet styled.tree) styled.tree key distinct

-- what is kept after some went and some came, where what went is kept no longer
put_over : (put : Option Kept) (taken : Bool) (was : Option Kept) (before after : Option NodeEntry)
    → option_map (λ (kept : Kept). kept.entry) (option_or put (cond taken None was)) ≡ after → option_map (λ (kept : Kept). kept.entry) was ≡ before → (None ≡ after → None ≡ before)
    → after ≡ option_or (option_map (λ (kept : Kept). kept.entry) put) before
put_over (Some kept) taken was before after is held gone = sym is
put_over None true was before after is held gone = sym is ∙ gone is
put_over None false was before after is held gone = sym is ∙ held

module _ (edit : Edit) (old book : StyledDocument) (plan : Plan) (from : IsPlannedFrom edit old book plan) (key : ℕ) (live : IsLive book.tree key) where
  -- a node that has no entry after the edit had none before
  none_before : None ≡ fresh_entry (settled_after book plan) key → None ≡ fresh_entry old key
  unfolding settled_after
  none_before none = elim (cases_Bool (is_some (name_of old.tree key))) [
    | inl was ↦
        let is = entry_keys (settled_after book plan) from.done.after.distinct key ∙ stays_element edit old.tree book.tree from.done key live was in
        absurd (false≢true (ap (λ (o : Option NodeEntry). is_some o) none ∙ is))
    | inr was ↦ nothing (fresh_entry old key) (entry_keys old from.done.before.distinct key ∙ was)
  ]
    where
      nothing : (o : Option NodeEntry) → is_some o ≡ false → None ≡ o
      nothing None e = refl
      nothing (Some entry) e = absurd (false≢true (sym e))

  -- what the plan puts under the key is kept, and where it puts nothing what was kept before
  pub planned_entry : fresh_entry (settled_after book plan) key ≡ option_or (put_entry plan key) (fresh_entry old key)
  unfolding IsPlannedBy settled_after
  planned_entry =
      put_over
      (last_at (puts_of plan.puts.items) key)
      (list_any (nat_eq key) plan.takes)
      (get book.kept key)
      (fresh_entry old key)
      (fresh_entry (settled_after book plan) key)
      (sym
      (ap (option_map (λ (kept : Kept). kept.entry))
      (get-put_all (puts_of plan.puts.items) (take_all plan.takes book.kept) key ∙ ap (option_or (last_at (puts_of plan.puts.items) key)) (get-take_all plan.takes book.kept key)))
      ∙ keeps_entries (settled_after book plan) from.done.after.distinct from.planned.1 key)
      (ap (λ (held : FinMap nat_cmp Kept). entry_at held key) from.kept ∙ from.keeps key)
      none_before
