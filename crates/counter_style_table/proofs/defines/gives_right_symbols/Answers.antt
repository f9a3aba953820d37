use Rattle.std.proofs.Common.{sym, ap, ◌∙◌}
use Rattle.std.specs.List.{fold}
use Rattle.plain_types.specs.declared.style_ref.System.TheVariants.{Symbolic}
use Rattle.css_definitions.specs.CounterStyles.{system_after, extended_by, system_of}
use Rattle.counter_style_table.specs.Counts.{symbol_count_after, tuple_count_after}
use Rattle.counter_style_table.proofs.DescribeLemmas.{right_by_counts, extends_nothing}
use Rattle.counter_style_table.proofs.defines.gives_right_symbols.Goals as goal

pub returns-in-Some : goal.returns-in-Some
returns-in-Some c = record {
  test =
      right_by_counts c.args.rule.now c.in-Some.system.now c.symbol_count-symbols.result c.tuple_count-tuples.result c.is_supplied.result
      (extends_nothing c.extended_name.result (extended_by (system_of c.args.rule.now)) c.extended_name.ensures.name (sym c.is_some.ensures ∙ c.if-is_some.false))
      (c.in-Some.ensures.system ∙ ap (fold system_after Symbolic) c.as_slice-descriptors.ensures.items)
      (c.symbol_count-symbols.ensures.count ∙ ap (fold symbol_count_after 0) c.as_slice-descriptors.ensures.items)
      (c.tuple_count-tuples.ensures.count ∙ ap (fold tuple_count_after 0) c.as_slice-descriptors.ensures.items)
      c.is_supplied.ensures.test;
}

pub returns-in-None : goal.returns-in-None
returns-in-None c = record {
  test =
      right_by_counts c.args.rule.now Symbolic c.symbol_count-symbols.result c.tuple_count-tuples.result c.is_supplied-in-None.result
      (extends_nothing c.extended_name.result (extended_by (system_of c.args.rule.now)) c.extended_name.ensures.name (sym c.is_some.ensures ∙ c.if-is_some.false))
      (c.in-None.ensures.system ∙ ap (fold system_after Symbolic) c.as_slice-descriptors.ensures.items)
      (c.symbol_count-symbols.ensures.count ∙ ap (fold symbol_count_after 0) c.as_slice-descriptors.ensures.items)
      (c.tuple_count-tuples.ensures.count ∙ ap (fold tuple_count_after 0) c.as_slice-descriptors.ensures.items)
      c.is_supplied-in-None.ensures.test;
}
