use Rattle.std.proofs.Common.{◌≡◌, List, [], map, length, sym, ap, subst, ◌∙◌}
use Rattle.std.specs.List.{fold, range_with_len}
use Rattle.std.proofs.lemmas.Result.{IfOk-weaker}
use Rattle.plain_types.specs.Table.{IsTable}
use Rattle.plain_types.specs.declared.counter_style.CounterStyle.{CounterStyle}
use Rattle.plain_types.specs.declared.counter_style.StyleDef.{StyleDef}
use Rattle.css_definitions.specs.CounterStyles.{finished_styles, rules_with}
use Rattle.counter_style_table.specs.Extends.{finished_at}
use Rattle.counter_style_table.specs.Rules.{with_rule}
use Rattle.counter_style_table.proofs.FinishedLemmas.{finished-all}
use Rattle.counter_style_table.proofs.TableLemmas.{finished-table}
use Rattle.counter_style_table.proofs.build.build.Goals as goal

-- the styles that were finished are those of the definition
finished_of : (styles given : List StyleDef) (rules : List StyleDef) (result : List CounterStyle) → given ≡ styles
    → rules ≡ fold with_rule [] (rules_with given) → result ≡ map (finished_at rules) (range_with_len 0 (length rules)) → result ≡ finished_styles styles
finished_of styles given rules result s r f =
    f ∙ ap (λ put. map (finished_at put) (range_with_len 0 (length put))) r ∙ sym (finished-all (rules_with given)) ∙ ap finished_styles s

pub of-requires : goal.of-requires
of-requires c = record {
  table =
      subst IsTable
      (sym (finished_of c.args.styles.now c.as_slice.result.now c.in_ok-rules.rules c.in_ok-finish.field-0 c.as_slice.ensures.items c.in_ok-rules.ensures.rules c.in_ok-finish.ensures.styles))
      (finished-table c.args.styles.now);
}

pub returns : goal.returns
returns c = record {
  styles =
      IfOk-weaker c.of.result (λ (table : List CounterStyle). table ≡ c.in_ok-finish.field-0) (λ (table : List CounterStyle). table ≡ finished_styles c.args.styles.now)
      (λ table e. e ∙ finished_of c.args.styles.now c.as_slice.result.now c.in_ok-rules.rules c.in_ok-finish.field-0 c.as_slice.ensures.items c.in_ok-rules.ensures.rules c.in_ok-finish.ensures.styles)
      c.of.ensures.styles;
}
