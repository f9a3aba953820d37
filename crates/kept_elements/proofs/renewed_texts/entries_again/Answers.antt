use Rattle.std.proofs.Common.{◌≡◌, ◌≤◌, ◌++◌, ◌||◌, ◌∙◌, ℕ, true, List, [], ◌∷◌, Option, Some, None, ap, arith, inl, inr, length, nat_eq, subst, sym, take}
use Rattle.std.specs.Prelude.{IsSome}
use Rattle.std.specs.List.{IsDistinct}
use Rattle.std.specs.Option.{option_map_or}
use Rattle.std.proofs.lemmas.Result.{IfOk-weaker}
use Rattle.forest.specs.Forest.{Forest}
use Rattle.forest.specs.Keys.{HasDistinctKeys, Keyed, without_keys}
use Rattle.plain_types.specs.declared.counter_style.CounterStyle.{CounterStyle}
use Rattle.plain_types.specs.declared.node.Node.{Node}
use Rattle.node_arena.specs.Nodes.{name_of}
use Rattle.document_walk.specs.Elements.{element_count}
use Rattle.content_eval.specs.Targets.{Known}
use Rattle.edit_work.specs.KeyedSources.{is_among}
use Rattle.generated_texts.specs.References.{kept_at}
use Rattle.surroundings.specs.declared.told.Told.{Told}
use Rattle.kept_elements.specs.declared.kept.Kept.{Kept}
use Rattle.kept_elements.specs.Changes.{AreChanges}
use Rattle.kept_elements.specs.Evaluations.{kept_of}
use Rattle.kept_elements.specs.Machinery.Renewals.{known_again, read_in, renewed_kept, some_names}
use Rattle.kept_elements.proofs.AgainLemmas.{or_right, read_there}
use Rattle.kept_elements.proofs.KeyWeights.{either_true, no_more}
use Rattle.kept_elements.proofs.NamedKeys.{few_named, named_targets}
use Rattle.kept_elements.proofs.RenewalLemmas.{renews}
use Rattle.kept_elements.proofs.renewed_texts.entries_again.Goals as goal

-- one at most is kept for each key
module _ (table : List CounterStyle) (known : Known) (told : ℕ → Option Told) where
  few_kept : (keys : List ℕ) → length (renewed_kept table known told keys) ≤ length keys
  few_kept [] = omega arith
  few_kept (key ∷ keys) = by (told key) (few_kept keys)
    where
      by : (o : Option Told) → length (renewed_kept table known told keys) ≤ length keys
          → length (option_map_or (λ (one : Told). (key, kept_of table known one) ∷ []) o [] ++ renewed_kept table known told keys) ≤ length (key ∷ keys)
      by None rest = omega (arith, rest)
      by (Some one) rest = omega (arith, rest)

-- Of the keys that were read, those of elements.
module _ (tree : Forest (Keyed Node)) (distinct : HasDistinctKeys tree) (listed : List (ℕ × Told)) (read targets : List ℕ) (live : (key : ℕ) → is_among read key ≡ true → IsSome (name_of tree key))
    (targets_are : (key : ℕ) → is_among targets key ≡ some_names tree listed key) where
  few_read : (keys : List ℕ) → IsDistinct nat_eq keys → ((key : ℕ) → is_among keys key ≡ true → (is_among read key || is_among targets key) ≡ true) → length keys ≤ element_count (without_keys tree)
  few_read keys once only =
      few_named tree distinct keys once
      (λ key among. elim (either_true (is_among read key) (is_among targets key) (only key among)) [
        | inl was ↦ live key was
        | inr named ↦ named_targets tree distinct listed key (sym (targets_are key) ∙ named)
      ])

pub returns-clause-renewal : goal.returns-clause-renewal
returns-clause-renewal g c =
    let held = c.args.board.now.held in
    let table = c.args.table.now in
    let listed = c.args.listed.now in
    let keys = c.as_slice-2.result.now in
    let read : ℕ → Option Kept = read_in c.add_all.new.self.kept in
    let named : (key : ℕ) → is_among c.as_slice.result.now key ≡ some_names c.args.arena.now.tree listed key =
    λ key. ap (λ (ks : List ℕ). is_among ks key) c.as_slice.ensures.keys ∙ (c.in_ok-targets.ensures.keys key ∙ ap (λ (tree : Forest (Keyed Node)). some_names tree listed key) c.new-lookup.ensures.tree) in
    IfOk-weaker c.changes_to.result _ _
    (λ changes are. record {
      keys = keys;
      read = read;
      once = subst (λ (ks : List ℕ). IsDistinct nat_eq ks) (sym c.as_slice-2.ensures.keys) c.as_slice-2.ensures.unique;
      keys_are = λ key. ap (λ (ks : List ℕ). is_among ks key) c.as_slice-2.ensures.keys ∙ c.in_ok-told.ensures.keys key;
      read_are = λ key does. read_there c.add_all.new.self.keys.keys read held c.in_ok-add_all.ensures.read key (c.in_ok-add_all.ensures.keys key ∙ or_right (is_among c.args.read.keys.keys key) (is_among c.as_slice.result.now key) (named key ∙ does));
      changes_are = subst (λ (tree : Forest (Keyed Node)). AreChanges held (renewed_kept table (known_again tree table (take c.args.flat_count listed) listed read) (kept_at listed) keys) changes.items)
          (c.in_ok-targets.ensures.tree ∙ c.new-lookup.ensures.tree) are;
    })
    c.changes_to.ensures.changes

pub returns-in_err-told-clause-steps : goal.returns-in_err-told-clause-steps
returns-in_err-told-clause-steps g c =
    omega (arith, few_named c.args.arena.now.tree c.arena_holds_document.ensures.document.distinct c.args.read.keys.keys c.requires.unique c.requires.live)

pub returns-in_err-targets-clause-steps : goal.returns-in_err-targets-clause-steps
returns-in_err-targets-clause-steps g c =
    omega (arith, few_named c.args.arena.now.tree c.arena_holds_document.ensures.document.distinct c.args.read.keys.keys c.requires.unique c.requires.live)

pub returns-in_err-add_all-clause-steps : goal.returns-in_err-add_all-clause-steps
returns-in_err-add_all-clause-steps g c =
    let tree = c.args.arena.now.tree in
    let read =
    few_read tree c.arena_holds_document.ensures.document.distinct c.args.listed.now c.args.read.keys.keys c.as_slice.result.now c.requires.live
    (λ key. ap (λ (ks : List ℕ). is_among ks key) c.as_slice.ensures.keys ∙ (c.in_ok-targets.ensures.keys key ∙ ap (λ (tree : Forest (Keyed Node)). some_names tree c.args.listed.now key) c.new-lookup.ensures.tree))
    c.add_all.new.self.keys.keys c.add_all.ensures.unique c.add_all.ensures.only in
    omega (arith, read, c.add_all.ensures.once)

pub returns-clause-steps : goal.returns-clause-steps
returns-clause-steps g c =
    let tree = c.args.arena.now.tree in
    let distinct = c.arena_holds_document.ensures.document.distinct in
    let told = few_named tree distinct c.as_slice-2.result.now (subst (λ (ks : List ℕ). IsDistinct nat_eq ks) (sym c.as_slice-2.ensures.keys) c.as_slice-2.ensures.unique)
    (λ key among. c.requires.elements key (sym (c.in_ok-told.ensures.keys key) ∙ sym (ap (λ (ks : List ℕ). is_among ks key) c.as_slice-2.ensures.keys) ∙ among)) in
    let read =
    few_read tree distinct c.args.listed.now c.args.read.keys.keys c.as_slice.result.now c.requires.live
    (λ key. ap (λ (ks : List ℕ). is_among ks key) c.as_slice.ensures.keys ∙ (c.in_ok-targets.ensures.keys key ∙ ap (λ (tree : Forest (Keyed Node)). some_names tree c.args.listed.now key) c.new-lookup.ensures.tree))
    c.add_all.new.self.keys.keys c.add_all.ensures.unique c.add_all.ensures.only in
    omega (arith, told, read, c.add_all.ensures.once, c.changes_to.ensures.steps)

pub returns-in_err-add_all-clause-fewer : goal.returns-in_err-add_all-clause-fewer
returns-in_err-add_all-clause-fewer g c = λ keys others told_among targets_among.
    let targets = no_more c.as_slice.result.now others (subst (λ (ks : List ℕ). IsDistinct nat_eq ks) (sym c.as_slice.ensures.keys) c.as_slice.ensures.unique)
    (λ key among. targets_among key (sym (c.in_ok-targets.ensures.keys key ∙ ap (λ (tree : Forest (Keyed Node)). some_names tree c.args.listed.now key) c.new-lookup.ensures.tree) ∙ sym (ap (λ (ks : List ℕ). is_among ks key) c.as_slice.ensures.keys) ∙ among)) in
    omega (arith, targets, c.add_all.ensures.steps)

pub returns-clause-fewer : goal.returns-clause-fewer
returns-clause-fewer g c = λ keys others told_among targets_among.
    let told = no_more c.as_slice-2.result.now keys (subst (λ (ks : List ℕ). IsDistinct nat_eq ks) (sym c.as_slice-2.ensures.keys) c.as_slice-2.ensures.unique)
    (λ key among. told_among key (sym (c.in_ok-told.ensures.keys key) ∙ sym (ap (λ (ks : List ℕ). is_among ks key) c.as_slice-2.ensures.keys) ∙ among)) in
    let targets = no_more c.as_slice.result.now others (subst (λ (ks : List ℕ). IsDistinct nat_eq ks) (sym c.as_slice.ensures.keys) c.as_slice.ensures.unique)
    (λ key among. targets_among key (sym (c.in_ok-targets.ensures.keys key ∙ ap (λ (tree : Forest (Keyed Node)). some_names tree c.args.listed.now key) c.new-lookup.ensures.tree) ∙ sym (ap (λ (ks : List ℕ). is_among ks key) c.as_slice.ensures.keys) ∙ among)) in
    omega (arith, told, targets, c.add_all.ensures.steps, c.changes_to.ensures.steps)

pub returns-clause-few : goal.returns-clause-few
returns-clause-few g c =
    let tree = c.args.arena.now.tree in
    let table = c.args.table.now in
    let held = c.args.board.now.held in
    let listed = c.args.listed.now in
    let read : ℕ → Option Kept = read_in c.add_all.new.self.kept in
    let keys = c.as_slice-2.result.now in
    let known = known_again tree table (take c.args.flat_count listed) listed read in
    IfOk-weaker c.changes_to.result _ _
    (λ changes are others told_among.
    let told = no_more keys others (subst (λ (ks : List ℕ). IsDistinct nat_eq ks) (sym c.as_slice-2.ensures.keys) c.as_slice-2.ensures.unique)
    (λ key among. told_among key (sym (c.in_ok-told.ensures.keys key) ∙ sym (ap (λ (ks : List ℕ). is_among ks key) c.as_slice-2.ensures.keys) ∙ among)) in
    let these = subst (λ (tree : Forest (Keyed Node)). AreChanges held (renewed_kept table (known_again tree table (take c.args.flat_count listed) listed read) (kept_at listed) keys) changes.items)
    (c.in_ok-targets.ensures.tree ∙ c.new-lookup.ensures.tree) are in
    let fewer : length changes.items ≤ length (renewed_kept table known (kept_at listed) keys) = (renews held (renewed_kept table known (kept_at listed) keys) changes.items these).few in
    omega (arith, told, fewer, few_kept table known (kept_at listed) keys))
    c.changes_to.ensures.changes
