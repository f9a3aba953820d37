use Rattle.std.proofs.Common.{◌≡◌, ◌∙◌, ℕ, nat_eq, slice_get, ap}
use Rattle.std.specs.List.{filter_map, list_any}
use Rattle.std.proofs.lemmas.Result.{IfOk-weaker}
use Rattle.plain_types.specs.declared.sheet.Sheet.{Sheet}
use Rattle.plain_types.specs.declared.sheet.StyleRule.{StyleRule}
use Rattle.mini_cascade.specs.Machinery.Shelves.{passes_at}
use Rattle.mini_cascade.specs.RuleTables.{candidates, is_looked_at}
use Rattle.mini_cascade.proofs.FilingLaws.{found_there}
use Rattle.mini_cascade.proofs.Places.{picked_all}
use Rattle.mini_cascade.proofs.rule_table.RuleTable.candidates.Goals as goal

pub returns : goal.returns
returns c =
    let tree = c.args.arena.now.tree in
    let key = c.args.key in
    let rules = c.self.inside.sheet.rules in
    let places = c.in_ok-places.places.items in
    let told : (place : ℕ) → list_any (nat_eq place) places ≡ passes_at (λ (rule : StyleRule). list_any (is_looked_at tree key) rule.selectors) rules place = λ place.
    c.in_ok-places.ensures.filed place ∙ found_there rules c.self.inside.shelves c.self.invariant tree key place in
    let all : filter_map (slice_get rules) places ≡ candidates tree key rules = picked_all (λ (rule : StyleRule). list_any (is_looked_at tree key) rule.selectors) rules places c.in_ok-places.ensures.ascending told in
    record {
      candidates = IfOk-weaker c.rules_at.result _ _ (λ found is.
          is
          ∙ ap (λ list. filter_map (slice_get list) c.as_slice-2.result.now) c.as_slice.ensures.items
          ∙ ap (filter_map (slice_get rules)) c.as_slice-2.ensures.value
          ∙ all
          ∙ ap (λ (sheet : Sheet). candidates tree key sheet.rules) c.self.view_is)
          c.rules_at.ensures.rules;
    }
