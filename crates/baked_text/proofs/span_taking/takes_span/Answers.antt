use Rattle.std.proofs.Common.{not, ap, ◌∙◌}
use Rattle.bake_definitions.specs.Insertions.{captioned_names, names_without_span, parent_names, text_names, void_names}
use Rattle.baked_text.proofs.NameLemmas.{without_span_by_bytes}
use Rattle.baked_text.proofs.span_taking.takes_span.Goals as goal

pub returns : goal.returns
unfolding names_without_span void_names text_names parent_names captioned_names
returns c = ap not (c.is_among.ensures ∙ without_span_by_bytes c.args.name.now c.utf8.name)
