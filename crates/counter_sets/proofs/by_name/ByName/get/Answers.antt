use Rattle.std.proofs.Common.{◌∙◌, ap, sym}
use Rattle.std.specs.Str.{chars}
use Rattle.std.specs.String.{string_bytes}
use Rattle.std.proofs.lemmas.Str.{IsUtf8-string_bytes}
use Rattle.counter_sets.specs.ByNames.{value_of}
use Rattle.counter_sets.proofs.ByNameLemmas.{seen}
use Rattle.counter_sets.proofs.by_name.ByName.get.Goals as goal

pub returns : goal.returns
returns g c = record {
  value =
      c.copied.ensures
      ∙ c.get.ensures.value
      ∙ sym (seen string_bytes IsUtf8-string_bytes c.args.name.now c.utf8.name c.self.inside.by_name.entries)
      ∙ ap (λ values. value_of values (chars c.args.name.now)) c.self.view_is;
}
