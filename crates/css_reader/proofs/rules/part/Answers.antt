use Rattle.std.proofs.Common.{◌≡◌, ap, arith, false, length, rules, ◌∙◌}
use Rattle.css_reader.specs.Blocks.{past_piece}
use Rattle.css_reader.specs.Rules.{is_between_declarations, is_semicolon, part_at}
use Rattle.css_reader.proofs.Taking.{at_rule_leaves, declaration_leaves}
use Rattle.css_reader.proofs.rules.part.Goals as goal

pub returns-in_ok-rest-in-AtKeyword-clause-fewer : goal.returns-in_ok-rest-in-AtKeyword-clause-fewer
returns-in_ok-rest-in-AtKeyword-clause-fewer c =
    let fewer = at_rule_leaves _ _ _ c.in_ok-rest-in-AtKeyword.ensures in
    omega (arith, fewer, ap length c.in-Some.ensures.cases.0)

pub returns-in_ok-part-in_default-kind : goal.returns-in_ok-part-in_default-kind
unfolding part_at
returns-in_ok-part-in_default-kind c = record {
  part = search rules;
  fewer =
      let whole = c.in-Some.ensures.cases.0 in
      let begins : is_between_declarations c.in-Some.first.now.kind ≡ false = search rules in
      let rest = c.in_ok-part-in_default-kind.ensures.rest ∙ ap (past_piece is_semicolon) whole in
      omega (arith, declaration_leaves c.in-Some.first.now c.in-Some.after.now begins, ap length rest, ap length whole);
}
