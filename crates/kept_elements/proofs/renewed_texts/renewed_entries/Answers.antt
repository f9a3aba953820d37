use Rattle.std.proofs.Common.{◌≡◌, ◌==◌, ◌≤◌, ◌+◌, ◌++◌, ◌||◌, ◌⊎◌, ◌∙◌, ℕ, List, [], ◌∷◌, Option, true, ap, ap₂, arith, eq-eqb, flat_map, inl, inr, length, nat_eq, refl, subst, sym, take}
use Rattle.std.specs.Prelude.{IsSome}
use Rattle.std.specs.FinMap.{FinMap, get}
use Rattle.std.specs.List.{IsDistinct}
use Rattle.std.specs.Option.{option_map_or}
use Rattle.std.specs.Ordering.{nat_cmp}
use Rattle.std.proofs.Math.Seq.{take-append_seam}
use Rattle.std.proofs.lemmas.Result.{IfOk-weaker}
use Rattle.forest.specs.Forest.{Forest}
use Rattle.forest.specs.Keys.{HasDistinctKeys, Keyed, without_keys}
use Rattle.plain_types.specs.declared.counter_style.CounterStyle.{CounterStyle}
use Rattle.plain_types.specs.declared.node.Node.{Node}
use Rattle.node_arena.specs.Nodes.{name_of}
use Rattle.document_walk.specs.Elements.{element_count}
use Rattle.box_pieces.specs.declared.box_pieces.BoxPieces.{BoxPieces}
use Rattle.edit_work.specs.KeyedSources.{is_among}
use Rattle.surroundings.specs.declared.told.Told.{Told}
use Rattle.kept_elements.specs.declared.kept.Kept.{Kept}
use Rattle.kept_elements.specs.RenewalSteps.{renewal_weight}
use Rattle.kept_elements.specs.Renewals.{IsSomeEdit, evaluated_as, is_told}
use Rattle.kept_elements.specs.Machinery.Renewals.{AreRead, IsRenewal, IsWithinLists, ListsAll, again, again_by, held_of, read_in, told_again, with_again}
use Rattle.kept_elements.proofs.AgainLemmas.{or_right, read_there}
use Rattle.kept_elements.proofs.KeyWeights.{either_true}
use Rattle.kept_elements.proofs.NamedKeys.{few_named}
use Rattle.kept_elements.proofs.RenewalLemmas.{tell_were}
use Rattle.kept_elements.proofs.RenewedLemmas.{are_elements, named_first, named_second, renewed}
use Rattle.kept_elements.proofs.StepLemmas.{few_steps, first_is_few, target_elements, targets_are, told_are, told_elements}
use Rattle.kept_elements.proofs.renewed_texts.renewed_entries.Goals as goal

module _ (table : List CounterStyle) (tree : Forest (Keyed Node)) (distinct : HasDistinctKeys tree) (told : List (ℕ × Told)) (held : FinMap nat_cmp Kept) (first second : List ℕ)
    (edit : IsSomeEdit table tree told held first second) where
  -- what refers is no more than the elements

  few_first : (keys : List ℕ) → keys ≡ first → IsDistinct nat_eq keys → length keys ≤ element_count (without_keys tree)
  few_first keys are once =
      few_named tree distinct keys once
      (λ key among. named_first table edit.merge edit.old tree edit.was edit.is told held edit.visited first second edit.tells key (sym (ap (λ (ks : List ℕ). is_among ks key) are) ∙ among))

  few_second : (keys : List ℕ) → keys ≡ second → IsDistinct nat_eq keys → length keys ≤ element_count (without_keys tree)
  few_second keys are once =
      few_named tree distinct keys once
      (λ key among. named_second table edit.merge edit.old tree edit.was edit.is told held edit.visited first second edit.tells key (sym (ap (λ (ks : List ℕ). is_among ks key) are) ∙ among))

  named : (records : List (ℕ × Told)) → records ≡ with_again held (with_again held told first) second → (key : ℕ) → is_told records key ≡ true → IsSome (name_of tree key)
  named records are key there =
      are_elements table edit.merge edit.old tree edit.was edit.is told held edit.visited first second edit.tells key
      (sym (ap (λ (rs : List (ℕ × Told)). is_told rs key) are) ∙ there)

-- The steps for what refers, and for what is told and told again.
module _ (table : List CounterStyle) (tree : Forest (Keyed Node)) (told : List (ℕ × Told)) (held : FinMap nat_cmp Kept) (first second : List ℕ) (edit : IsSomeEdit table tree told held first second)
    (ones : List ℕ) (ones_are : ones ≡ first) (once_ones : IsDistinct nat_eq ones) where
  abbrev weight : ℕ
  weight = renewal_weight (evaluated_as edit.old edit.was) (evaluated_as tree edit.is) edit.merge told

  once_first : IsDistinct nat_eq first
  once_first = subst (λ (ks : List ℕ). IsDistinct nat_eq ks) ones_are once_ones

  few_ones : length ones ≤ weight
  few_ones =
      omega (arith, ap length ones_are, first_is_few table edit.merge edit.old tree edit.was edit.is told held edit.visited first second edit.tells once_first)

  module _ (others : List ℕ) (others_are : others ≡ second) (once_others : IsDistinct nat_eq others) where
    abbrev elements : List ℕ
    elements = told_elements table edit.merge edit.old tree edit.was edit.is told held edit.visited first second edit.tells

    abbrev named_elements : List ℕ
    named_elements = target_elements table edit.merge edit.old tree edit.was edit.is told held edit.visited first second edit.tells

    few_all : (length ones + length others) + (length elements + length named_elements) ≤ weight
    few_all =
        let all =
        few_steps table edit.merge edit.old tree edit.was edit.is told held edit.visited first second edit.tells once_first
        (subst (λ (ks : List ℕ). IsDistinct nat_eq ks) others_are once_others) in
        omega (arith, all, ap length ones_are, ap length others_are)

    few_again : (records : List (ℕ × Told)) → records ≡ with_again held (with_again held told first) second → (old new : ℕ) → IsWithinLists tree records old new → new ≤ old + (length elements + length named_elements)
    few_again records are old new within =
        subst (λ (rs : List (ℕ × Told)). IsWithinLists tree rs old new) are within elements named_elements
        (told_are table edit.merge edit.old tree edit.was edit.is told held edit.visited first second edit.tells)
        (targets_are table edit.merge edit.old tree edit.was edit.is told held edit.visited first second edit.tells)

    few_come : (records : List (ℕ × Told)) → records ≡ with_again held (with_again held told first) second → (count : ℕ) → ListsAll records count → count ≤ length elements
    few_come records are count lists =
        subst (λ (rs : List (ℕ × Told)). ListsAll rs count) are lists elements
        (told_are table edit.merge edit.old tree edit.was edit.is told held edit.visited first second edit.tells)

-- What was read of elements that refer is told again as what is held of them.
module _ (held : FinMap nat_cmp Kept) (read : ℕ → Option Kept) where
  abbrev its : ℕ → Option Kept → List (ℕ × Told)
  its key o = option_map_or (λ (kept : Kept). option_map_or (λ (pieces : BoxPieces). (key, told_again kept pieces) ∷ []) kept.pieces []) o []

  again_read : (keys : List ℕ) → ((key : ℕ) → is_among keys key ≡ true → read key ≡ get held key) → flat_map (again_by read) keys ≡ flat_map (again held) keys
  again_read [] same = refl
  again_read (key ∷ keys) same =
      ap₂ (λ (one rest : List (ℕ × Told)). one ++ rest)
      (ap (its key) (same key (ap (λ b. b || is_among keys key) (eq-eqb key key refl))))
      (again_read keys (λ other among. same other (or_right (key == other) (is_among keys other) among)))

  -- it comes behind what is told
  put : (told some : List (ℕ × Told)) (keys others : List ℕ) (new : List (ℕ × Told)) → ((key : ℕ) → is_among keys key ≡ true → read key ≡ get held key) → some ≡ told → keys ≡ others
      → new ≡ some ++ flat_map (again_by read) keys → new ≡ with_again held told others
  put told some keys others new right same are is =
      is ∙ ap (λ (rs : List (ℕ × Told)). some ++ rs) (again_read keys right)
      ∙ ap₂ (λ (rs : List (ℕ × Told)) (ks : List ℕ). rs ++ flat_map (again held) ks) same are

-- the first of them
cut : (some more records : List (ℕ × Told)) (count : ℕ) → count ≡ length some → records ≡ some ++ more → take count records ≡ some
cut some more records count is are = ap₂ take is are ∙ take-append_seam some more

none_once : IsDistinct nat_eq []
unfolding IsDistinct
none_once = tt

pub add_all-requires : goal.add_all-requires
add_all-requires g c = record {
  unique = subst (λ (ks : List ℕ). IsDistinct nat_eq ks) (sym c.new-held.ensures.none) none_once;
  read = λ key. c.new-held.ensures.nothing key ∙ sym (ap (λ (ks : List ℕ). held_of ks c.args.board.now.held key) c.new-held.ensures.none);
}

-- What was read of the first and the second elements.
module _ (held : FinMap nat_cmp Kept) (read : ℕ → Option Kept) (none some all first second : List ℕ) (none_are : none ≡ []) (right : AreRead all read held)
    (some_are : (key : ℕ) → is_among some key ≡ (is_among none key || is_among first key)) (all_are : (key : ℕ) → is_among all key ≡ (is_among some key || is_among second key)) where
  first_read : (key : ℕ) → is_among first key ≡ true → read key ≡ get held key
  first_read key among =
      read_there all read held right key (all_are key ∙ ap (λ b. b || is_among second key) (some_are key ∙ or_right (is_among none key) (is_among first key) among))

  second_read : (key : ℕ) → is_among second key ≡ true → read key ≡ get held key
  second_read key among = read_there all read held right key (all_are key ∙ or_right (is_among some key) (is_among second key) among)

  either_read : (key : ℕ) → is_among all key ≡ true → (is_among first key ≡ true) ⊎ (is_among second key ≡ true)
  either_read key among = elim (either_true (is_among some key) (is_among second key) (sym (all_are key) ∙ among)) [
    | inl one ↦ inl (sym (ap (λ (ks : List ℕ). is_among ks key || is_among first key) none_are) ∙ sym (some_are key) ∙ one)
    | inr other ↦ inr other
  ]

pub returns-in_err-add_all-clause-steps : goal.returns-in_err-add_all-clause-steps
returns-in_err-add_all-clause-steps g c =
    let distinct = c.arena_holds_document.ensures.document.distinct in
    let few_ones = few_first c.args.table.now c.args.arena.now.tree distinct c.args.told c.args.board.now.held c.args.found.now.first c.args.found.now.second c.requires.edit c.as_slice-first.result.now c.as_slice-first.ensures.keys c.as_slice-first.ensures.once in
    omega (arith, few_ones, c.add_all.ensures.steps)

pub returns-in_err-add_all-2-clause-steps : goal.returns-in_err-add_all-2-clause-steps
returns-in_err-add_all-2-clause-steps g c =
    let distinct = c.arena_holds_document.ensures.document.distinct in
    let few_ones = few_first c.args.table.now c.args.arena.now.tree distinct c.args.told c.args.board.now.held c.args.found.now.first c.args.found.now.second c.requires.edit c.as_slice-first.result.now c.as_slice-first.ensures.keys c.as_slice-first.ensures.once in
    let few_others = few_second c.args.table.now c.args.arena.now.tree distinct c.args.told c.args.board.now.held c.args.found.now.first c.args.found.now.second c.requires.edit c.as_slice-second.result.now c.as_slice-second.ensures.keys c.as_slice-second.ensures.once in
    omega (arith, few_ones, few_others, c.add_all.ensures.steps, c.add_all-2.ensures.steps)

pub returns-in_err-put_all_again-clause-steps : goal.returns-in_err-put_all_again-clause-steps
returns-in_err-put_all_again-clause-steps g c =
    let distinct = c.arena_holds_document.ensures.document.distinct in
    let few_ones = few_first c.args.table.now c.args.arena.now.tree distinct c.args.told c.args.board.now.held c.args.found.now.first c.args.found.now.second c.requires.edit c.as_slice-first.result.now c.as_slice-first.ensures.keys c.as_slice-first.ensures.once in
    let few_others = few_second c.args.table.now c.args.arena.now.tree distinct c.args.told c.args.board.now.held c.args.found.now.first c.args.found.now.second c.requires.edit c.as_slice-second.result.now c.as_slice-second.ensures.keys c.as_slice-second.ensures.once in
    omega (arith, few_ones, few_others, c.add_all.ensures.steps, c.add_all-2.ensures.steps)

pub returns-in_err-put_all_again-2-clause-steps : goal.returns-in_err-put_all_again-2-clause-steps
returns-in_err-put_all_again-2-clause-steps g c =
    let distinct = c.arena_holds_document.ensures.document.distinct in
    let few_ones = few_first c.args.table.now c.args.arena.now.tree distinct c.args.told c.args.board.now.held c.args.found.now.first c.args.found.now.second c.requires.edit c.as_slice-first.result.now c.as_slice-first.ensures.keys c.as_slice-first.ensures.once in
    let few_others = few_second c.args.table.now c.args.arena.now.tree distinct c.args.told c.args.board.now.held c.args.found.now.first c.args.found.now.second c.requires.edit c.as_slice-second.result.now c.as_slice-second.ensures.keys c.as_slice-second.ensures.once in
    omega (arith, few_ones, few_others, c.add_all.ensures.steps, c.add_all-2.ensures.steps)

pub returns-clause-steps : goal.returns-clause-steps
returns-clause-steps g c = omega (arith, ap length c.new-held.ensures.none, c.add_all.ensures.once, c.add_all-2.ensures.once, c.entries_again.ensures.steps)

pub entries_again-requires-clause-elements : goal.entries_again-requires-clause-elements
entries_again-requires-clause-elements g c =
    let held = c.args.board.now.held in
    let told = c.args.told in
    let first = c.args.found.now.first in
    let second = c.args.found.now.second in
    let ones = c.as_slice-first.result.now in
    let others = c.as_slice-second.result.now in
    let read : ℕ → Option Kept = read_in c.add_all-2.new.self.kept in
    let one = first_read held read c.new-held.result.keys.keys c.add_all.new.self.keys.keys c.add_all-2.new.self.keys.keys ones others c.new-held.ensures.none c.in_ok-add_all-2.ensures.read c.in_ok-add_all.ensures.keys c.in_ok-add_all-2.ensures.keys in
    let two = second_read held read c.new-held.result.keys.keys c.add_all.new.self.keys.keys c.add_all-2.new.self.keys.keys ones others c.new-held.ensures.none c.in_ok-add_all-2.ensures.read c.in_ok-add_all.ensures.keys c.in_ok-add_all-2.ensures.keys in
    let some = put held read told told ones first c.put_all_again.new.records one (λ i. told) c.as_slice-first.ensures.keys c.in_ok-put_all_again.ensures.ok in
    let all = put held read (with_again held told first) c.put_all_again.new.records others second c.put_all_again-2.new.records two some c.as_slice-second.ensures.keys c.in_ok-put_all_again-2.ensures.ok in
    named c.args.table.now c.args.arena.now.tree c.arena_holds_document.ensures.document.distinct told held first second c.requires.edit c.as_slice.result.now (c.as_slice.ensures.items ∙ all)

pub entries_again-requires-clause-live : goal.entries_again-requires-clause-live
entries_again-requires-clause-live g c =
    let held = c.args.board.now.held in
    let told = c.args.told in
    let first = c.args.found.now.first in
    let second = c.args.found.now.second in
    let ones = c.as_slice-first.result.now in
    let others = c.as_slice-second.result.now in
    let edit = c.requires.edit in
    λ key among.
    elim (either_read held (read_in c.add_all-2.new.self.kept) c.new-held.result.keys.keys c.add_all.new.self.keys.keys c.add_all-2.new.self.keys.keys ones others c.new-held.ensures.none c.in_ok-add_all-2.ensures.read c.in_ok-add_all.ensures.keys c.in_ok-add_all-2.ensures.keys key among) [
      | inl one ↦ named_first c.args.table.now edit.merge edit.old c.args.arena.now.tree edit.was edit.is told held edit.visited first second edit.tells key (sym (ap (λ (ks : List ℕ). is_among ks key) c.as_slice-first.ensures.keys) ∙ one)
      | inr other ↦ named_second c.args.table.now edit.merge edit.old c.args.arena.now.tree edit.was edit.is told held edit.visited first second edit.tells key (sym (ap (λ (ks : List ℕ). is_among ks key) c.as_slice-second.ensures.keys) ∙ other)
    ]

pub returns-clause-renewal : goal.returns-clause-renewal
returns-clause-renewal g c =
    let tree = c.args.arena.now.tree in
    let table = c.args.table.now in
    let held = c.args.board.now.held in
    let told = c.args.told in
    let first = c.args.found.now.first in
    let second = c.args.found.now.second in
    let ones = c.as_slice-first.result.now in
    let others = c.as_slice-second.result.now in
    let read : ℕ → Option Kept = read_in c.add_all-2.new.self.kept in
    let one = first_read held read c.new-held.result.keys.keys c.add_all.new.self.keys.keys c.add_all-2.new.self.keys.keys ones others c.new-held.ensures.none c.in_ok-add_all-2.ensures.read c.in_ok-add_all.ensures.keys c.in_ok-add_all-2.ensures.keys in
    let two = second_read held read c.new-held.result.keys.keys c.add_all.new.self.keys.keys c.add_all-2.new.self.keys.keys ones others c.new-held.ensures.none c.in_ok-add_all-2.ensures.read c.in_ok-add_all.ensures.keys c.in_ok-add_all-2.ensures.keys in
    let some = put held read told told ones first c.put_all_again.new.records one (λ i. told) c.as_slice-first.ensures.keys c.in_ok-put_all_again.ensures.ok in
    let all = put held read (with_again held told first) c.put_all_again.new.records others second c.put_all_again-2.new.records two some c.as_slice-second.ensures.keys c.in_ok-put_all_again-2.ensures.ok in
    let records = c.as_slice.result.now in
    let flat = with_again held told first in
    let listed : records ≡ with_again held flat second = c.as_slice.ensures.items ∙ all in
    let front = cut flat (flat_map (again held) second) records c.len-flat_count.result (c.len-flat_count.ensures.length ∙ ap length some) listed in
    IfOk-weaker c.entries_again.result _ _
    (λ changes is edit.
    let renewal : IsRenewal tree table held flat (with_again held flat second) changes.items =
    subst (λ (rs : List (ℕ × Told)). IsRenewal tree table held flat rs changes.items) listed
    (subst (λ (rs : List (ℕ × Told)). IsRenewal tree table held rs records changes.items) front is) in
    renewed table edit.merge edit.old tree edit.was edit.is told held edit.visited first second edit.tells
    renewal.read renewal.read_are renewal.keys renewal.keys_are renewal.once changes.items renewal.changes_are)
    c.entries_again.ensures.renewal

pub returns-in_err-add_all-clause-fewer : goal.returns-in_err-add_all-clause-fewer
returns-in_err-add_all-clause-fewer g c = λ edit.
    let one = few_ones c.args.table.now c.args.arena.now.tree c.args.told c.args.board.now.held c.args.found.now.first c.args.found.now.second edit c.as_slice-first.result.now c.as_slice-first.ensures.keys c.as_slice-first.ensures.once in
    omega (arith, one, c.add_all.ensures.steps)

pub returns-in_err-add_all-2-clause-fewer : goal.returns-in_err-add_all-2-clause-fewer
returns-in_err-add_all-2-clause-fewer g c = λ edit.
    let both =
    few_all c.args.table.now c.args.arena.now.tree c.args.told c.args.board.now.held c.args.found.now.first c.args.found.now.second edit c.as_slice-first.result.now c.as_slice-first.ensures.keys c.as_slice-first.ensures.once
    c.as_slice-second.result.now c.as_slice-second.ensures.keys c.as_slice-second.ensures.once in
    omega (arith, both, c.add_all.ensures.steps, c.add_all-2.ensures.steps)

pub returns-in_err-put_all_again-clause-fewer : goal.returns-in_err-put_all_again-clause-fewer
returns-in_err-put_all_again-clause-fewer g c = λ edit.
    let both =
    few_all c.args.table.now c.args.arena.now.tree c.args.told c.args.board.now.held c.args.found.now.first c.args.found.now.second edit c.as_slice-first.result.now c.as_slice-first.ensures.keys c.as_slice-first.ensures.once
    c.as_slice-second.result.now c.as_slice-second.ensures.keys c.as_slice-second.ensures.once in
    omega (arith, both, c.add_all.ensures.steps, c.add_all-2.ensures.steps)

pub returns-in_err-put_all_again-2-clause-fewer : goal.returns-in_err-put_all_again-2-clause-fewer
returns-in_err-put_all_again-2-clause-fewer g c = λ edit.
    let both =
    few_all c.args.table.now c.args.arena.now.tree c.args.told c.args.board.now.held c.args.found.now.first c.args.found.now.second edit c.as_slice-first.result.now c.as_slice-first.ensures.keys c.as_slice-first.ensures.once
    c.as_slice-second.result.now c.as_slice-second.ensures.keys c.as_slice-second.ensures.once in
    omega (arith, both, c.add_all.ensures.steps, c.add_all-2.ensures.steps)

pub returns-clause-fewer : goal.returns-clause-fewer
returns-clause-fewer g c = λ edit.
    let held = c.args.board.now.held in
    let told = c.args.told in
    let first = c.args.found.now.first in
    let second = c.args.found.now.second in
    let ones = c.as_slice-first.result.now in
    let others = c.as_slice-second.result.now in
    let read : ℕ → Option Kept = read_in c.add_all-2.new.self.kept in
    let one = first_read held read c.new-held.result.keys.keys c.add_all.new.self.keys.keys c.add_all-2.new.self.keys.keys ones others c.new-held.ensures.none c.in_ok-add_all-2.ensures.read c.in_ok-add_all.ensures.keys c.in_ok-add_all-2.ensures.keys in
    let two = second_read held read c.new-held.result.keys.keys c.add_all.new.self.keys.keys c.add_all-2.new.self.keys.keys ones others c.new-held.ensures.none c.in_ok-add_all-2.ensures.read c.in_ok-add_all.ensures.keys c.in_ok-add_all-2.ensures.keys in
    let some = put held read told told ones first c.put_all_again.new.records one (λ i. told) c.as_slice-first.ensures.keys c.in_ok-put_all_again.ensures.ok in
    let all = put held read (with_again held told first) c.put_all_again.new.records others second c.put_all_again-2.new.records two some c.as_slice-second.ensures.keys c.in_ok-put_all_again-2.ensures.ok in
    let few = few_all c.args.table.now c.args.arena.now.tree told held first second edit ones c.as_slice-first.ensures.keys c.as_slice-first.ensures.once others c.as_slice-second.ensures.keys c.as_slice-second.ensures.once in
    let again =
    few_again c.args.table.now c.args.arena.now.tree told held first second edit ones c.as_slice-first.ensures.keys c.as_slice-first.ensures.once others c.as_slice-second.ensures.keys c.as_slice-second.ensures.once
    c.as_slice.result.now (c.as_slice.ensures.items ∙ all) c.add_all-2.new.steps c.entries_again.new.steps c.entries_again.ensures.fewer in
    omega (arith, few, again, c.add_all.ensures.steps, c.add_all-2.ensures.steps)

pub returns-clause-few : goal.returns-clause-few
returns-clause-few g c =
    IfOk-weaker c.entries_again.result _ _
    (λ changes lists edit.
    let held = c.args.board.now.held in
    let told = c.args.told in
    let first = c.args.found.now.first in
    let second = c.args.found.now.second in
    let ones = c.as_slice-first.result.now in
    let others = c.as_slice-second.result.now in
    let read : ℕ → Option Kept = read_in c.add_all-2.new.self.kept in
    let one = first_read held read c.new-held.result.keys.keys c.add_all.new.self.keys.keys c.add_all-2.new.self.keys.keys ones others c.new-held.ensures.none c.in_ok-add_all-2.ensures.read c.in_ok-add_all.ensures.keys c.in_ok-add_all-2.ensures.keys in
    let two = second_read held read c.new-held.result.keys.keys c.add_all.new.self.keys.keys c.add_all-2.new.self.keys.keys ones others c.new-held.ensures.none c.in_ok-add_all-2.ensures.read c.in_ok-add_all.ensures.keys c.in_ok-add_all-2.ensures.keys in
    let some = put held read told told ones first c.put_all_again.new.records one (λ i. told) c.as_slice-first.ensures.keys c.in_ok-put_all_again.ensures.ok in
    let all = put held read (with_again held told first) c.put_all_again.new.records others second c.put_all_again-2.new.records two some c.as_slice-second.ensures.keys c.in_ok-put_all_again-2.ensures.ok in
    let few = few_all c.args.table.now c.args.arena.now.tree told held first second edit ones c.as_slice-first.ensures.keys c.as_slice-first.ensures.once others c.as_slice-second.ensures.keys c.as_slice-second.ensures.once in
    let come =
    few_come c.args.table.now c.args.arena.now.tree told held first second edit ones c.as_slice-first.ensures.keys c.as_slice-first.ensures.once others c.as_slice-second.ensures.keys c.as_slice-second.ensures.once
    c.as_slice.result.now (c.as_slice.ensures.items ∙ all) (length changes.items) lists in
    omega (arith, few, come))
    c.entries_again.ensures.few

pub returns-clause-were : goal.returns-clause-were
returns-clause-were g c =
    IfOk-weaker c.entries_again.result _ _ (λ changes renewal. tell_were c.args.board.now.held _ changes.items renewal.changes_are) c.entries_again.ensures.renewal
