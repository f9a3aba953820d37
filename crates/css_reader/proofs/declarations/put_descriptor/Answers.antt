use Rattle.std.proofs.Common.{◌++◌, ◌∷◌, [], not, List, ap, sym, ◌∙◌}
use Rattle.std.specs.List.{filter}
use Rattle.plain_types.specs.declared.counter_style.Descriptor.{Descriptor}
use Rattle.css_reader.specs.Declarations.{is_same_descriptor}
use Rattle.css_reader.proofs.Keeping.{last_of_each-append}
use Rattle.css_reader.proofs.declarations.put_descriptor.Goals as goal

pub returns : goal.returns
returns c = record {
  ok = λ found is.
      c.in_ok-push.ensures.items
      ∙ ap (λ (kept : List Descriptor). kept ++ c.args.descriptor ∷ []) (c.drop_same.ensures ∙ ap (filter (λ earlier. not (is_same_descriptor earlier c.args.descriptor))) is)
      ∙ sym (last_of_each-append c.args.descriptor found);
}
