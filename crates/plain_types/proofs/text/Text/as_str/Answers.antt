use Rattle.std.proofs.Common.{encode_utf8_all, sym, ◌∙◌, ap}
use Rattle.std.specs.String.{string_bytes}
use Rattle.std.proofs.lemmas.Str.{encodes-chars, IsUtf8-string_bytes}
use Rattle.plain_types.proofs.text.Text.as_str.Goals as goal

pub returns-clause-bytes : goal.returns-clause-bytes
returns-clause-bytes c =
    c.as_str.ensures.value
    ∙ sym (encodes-chars (string_bytes c.self.inside.inner) (IsUtf8-string_bytes c.self.inside.inner))
    ∙ ap encode_utf8_all c.self.view_is
