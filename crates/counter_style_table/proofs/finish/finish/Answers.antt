use Rattle.std.proofs.Common.{Option, length, ap, ◌∙◌}
use Rattle.std.specs.List.{filter_map, range_with_len}
use Rattle.std.proofs.lemmas.Result.{IfOk-weaker}
use Rattle.plain_types.specs.declared.counter_style.CounterStyle.{CounterStyle}
use Rattle.counter_style_table.specs.Extends.{finished_at}
use Rattle.counter_style_table.proofs.SettledLemmas.{filter_map-Some, written_back}
use Rattle.counter_style_table.proofs.finish.finish.Goals as goal

pub returns : goal.returns
returns c = record {
  styles =
      IfOk-weaker c.gather.result _ _
      (λ gathered e.
      e ∙ ap (filter_map (λ (style : Option CounterStyle). style)) (written_back c.finish_others.new.styles c.in_ok-styles.styles.items c.in_ok-styles.styles.len c.in_ok-styles.styles.ok.0 (c.finish_others.auto.styles ∙ ap length c.deref_mut.ensures.value) ∙ c.in_ok-finish_others.ensures.styles)
      ∙ filter_map-Some (finished_at c.args.rules.now) (range_with_len 0 (length c.args.rules.now)))
      c.gather.ensures.styles;
}
