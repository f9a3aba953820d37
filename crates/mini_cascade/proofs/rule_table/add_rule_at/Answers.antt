use Rattle.std.proofs.Common.{◌≡◌, ◌∙◌, [], ◌∷◌, ◌++◌, Some, None, length, map, slice_get, ap, refl, sym}
use Rattle.std.specs.Map.Iter.{deref}
use Rattle.std.specs.Option.{option_to_list}
use Rattle.std.proofs.lemmas.List.{append-nil, map-append}
use Rattle.std.proofs.lemmas.Option.{slice_get_past, slice_get_read}
use Rattle.mini_cascade.proofs.rule_table.add_rule_at.Goals as goal

pub returns-in_ok-push : goal.returns-in_ok-push
returns-in_ok-push c =
    let rules = c.args.rules.now in
    let place = c.args.place in
    let before = map deref c.args.found.now.items in
    let there : slice_get rules place ≡ Some c.in-Some.rule.now = slice_get_read rules (length rules) place c.in-Some.rule.now refl c.in-Some.ensures.lookup.3.0 c.in-Some.ensures.lookup.1 in
    record {
      ok = ap (map deref) c.in_ok-push.ensures.items ∙ map-append deref c.args.found.now.items (c.in-Some.rule ∷ []) ∙ ap (λ o. before ++ option_to_list o) (sym there);
    }

pub returns-in_default : goal.returns-in_default
returns-in_default c =
    let rules = c.args.rules.now in
    let place = c.args.place in
    let before = map deref c.args.found.now.items in
    let none : slice_get rules place ≡ None = slice_get_past rules place c.in_default.ensures.lookup.3 in
    record { ok = sym (ap (λ o. before ++ option_to_list o) none ∙ append-nil before) }
