use Rattle.std.proofs.Common.{◌∙◌, ap, sym}
use Rattle.std.specs.Str.{chars}
use Rattle.std.specs.String.{string_bytes}
use Rattle.std.proofs.lemmas.Str.{IsUtf8-string_bytes}
use Rattle.referring_elements.specs.ElementsById.{element_of}
use Rattle.referring_elements.proofs.FirstHolderLemmas.{looked_up}
use Rattle.referring_elements.proofs.elements_by_id.ElementsById.get.Goals as goal

pub returns : goal.returns
returns c = record {
  element =
      c.copied.ensures
      ∙ c.get.ensures.value
      ∙ sym (looked_up string_bytes IsUtf8-string_bytes c.self.inside.by_id.entries c.args.id.now c.utf8.id)
      ∙ ap (λ elements. element_of elements (chars c.args.id.now)) c.self.view_is;
}
