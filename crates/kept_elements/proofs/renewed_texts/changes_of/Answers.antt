use Rattle.std.proofs.Common.{◌≡◌, ◌+◌, ◌++◌, ◌∷◌, [], ◌∙◌, ℕ, List, Option, Some, ap, sym, subst, arith, get_or, nat_eq, option_copied, take}
use Rattle.std.specs.FinMap as map
use Rattle.std.specs.HashMap.{get}
use Rattle.std.specs.Option.{option_map_or}
use Rattle.surroundings.specs.declared.told.Told.{Told}
use Rattle.kept_elements.specs.declared.kept.Kept.{Kept}
use Rattle.kept_elements.specs.declared.kept_change.KeptChange.{KeptChange}
use Rattle.kept_elements.specs.Changes.{AreChanges, change_from}
use Rattle.kept_elements.specs.Evaluations.{kept_of}
use Rattle.kept_elements.specs.Machinery.Renewals.{renewed_kept}
use Rattle.kept_elements.proofs.RenewedLoops.{held_told, new_told, none_told}
use Rattle.kept_elements.proofs.renewed_texts.changes_of.Goals as goal
use Rattle.kept_elements.proofs.renewed_texts.changes_of.Goals.{in-Some+in_ok-kept+in_ok-change+in-Some-2+in_ok-push, in-Some+in_ok-kept+in_ok-change+in_default-2, in_default}

pub loop-key-preserved : goal.loop-key-preserved
loop-key-preserved g c =
    let known = g.T.Targets.known c.args.targets.now in
    let keys = c.args.keys.now in
    let place = c.loop-key.key-index in
    let key = get_or keys place 0 in
    let held = c.args.board.now.held in
    let before = c.loop-key.changes.items in
    let told : ℕ → Option Told = λ key. option_copied (get nat_eq c.args.records.now key) in
    let made : Option Told → List (ℕ × Kept) = λ o. option_map_or (λ (one : Told). (key, kept_of c.args.table.now known one) ∷ []) o [] in
    let all = renewed_kept c.args.table.now known told (take (place + 1) keys) in
    let f : ℕ → List (ℕ × Kept) = λ key. option_map_or (λ (one : Told). (key, kept_of c.args.table.now known one) ∷ []) (told key) [] in
    elim c.match-get.branch [
      | in-Some+in_ok-kept+in_ok-change+in-Some-2+in_ok-push w ↦
          let found : (w.in-Some-2.change ≡ change_from held key w.in_ok-kept.kept) × (map.get held key ≡ Some w.in_ok-kept.kept → ⊥) = rw w.in-Some-2.is at w.in_ok-change.ensures.some in
          let its : f key ≡ (key, w.in_ok-kept.kept) ∷ [] =
          ap made (ap option_copied (sym c.get.ensures.value ∙ ap option_copied w.in-Some.is))
          ∙ ap (λ (kept : Kept). (key, kept) ∷ []) (sym w.in_ok-kept.ensures.kept) in
          let pushed : c.match-get.changes.items ≡ before ++ (key, change_from held key w.in_ok-kept.kept) ∷ [] =
          ap (λ v. v.items) w.changes-is ∙ w.in_ok-push.ensures.ok ∙ ap (λ (change : KeptChange). before ++ (key, change) ∷ []) found.0 in
          record {
            changes = subst (λ (changes : List (ℕ × KeptChange)). AreChanges held all changes) (sym pushed)
                (new_told f keys place c.loop-key-test.true held before c.loop-key.invariant.changes w.in_ok-kept.kept its found.1);
            steps = omega (arith, c.loop-key.invariant.steps, w.unless_held.ensures.step, w.steps-is);
          }
      | in-Some+in_ok-kept+in_ok-change+in_default-2 w ↦
          let there : map.get held key ≡ Some w.in_ok-kept.kept = rw w.in_default-2.is at w.in_ok-change.ensures.none in
          let its : f key ≡ (key, w.in_ok-kept.kept) ∷ [] =
          ap made (ap option_copied (sym c.get.ensures.value ∙ ap option_copied w.in-Some.is))
          ∙ ap (λ (kept : Kept). (key, kept) ∷ []) (sym w.in_ok-kept.ensures.kept) in
          record {
            changes = subst (λ (changes : List (ℕ × KeptChange)). AreChanges held all changes) (sym (ap (λ v. v.items) w.changes-is))
                (held_told f keys place c.loop-key-test.true held before c.loop-key.invariant.changes w.in_ok-kept.kept its there);
            steps = omega (arith, c.loop-key.invariant.steps, w.unless_held.ensures.step, w.steps-is);
          }
      | in_default w ↦
          let its : f key ≡ [] = ap made (ap option_copied (sym c.get.ensures.value ∙ ap option_copied w.in_default.is)) in
          record {
            changes = subst (λ (changes : List (ℕ × KeptChange)). AreChanges held all changes) (sym (ap (λ v. v.items) w.changes-is))
                (none_told f keys place c.loop-key-test.true held before c.loop-key.invariant.changes its);
            steps = omega (arith, c.loop-key.invariant.steps, w.steps-is);
          }
    ]
