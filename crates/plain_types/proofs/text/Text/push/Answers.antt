use Rattle.std.proofs.Common.{◌≡◌, ℕ, List, [], ◌∷◌, ◌++◌, ◌∙◌, ap, sym}
use Rattle.std.specs.Char.{encode_utf8}
use Rattle.std.specs.String.{string_bytes}
use Rattle.std.specs.Str.{chars}
use Rattle.std.proofs.lemmas.List.{append-nil}
use Rattle.std.proofs.lemmas.Str.{chars-append, chars-nil, chars_past_char, IsUtf8-encode, IsUtf8-string_bytes}
use Rattle.plain_types.proofs.text.Text.push.Goals as goal

pub returns-clause-ok : goal.returns-clause-ok
returns-clause-ok c =
    let character = c.args.character in
    let one : chars (encode_utf8 character) ≡ character ∷ [] =
    chars_past_char (encode_utf8 character) [] character (IsUtf8-encode character c.ranges.character.0) (sym (append-nil (encode_utf8 character)))
    ∙ ap (λ (rest : List ℕ). character ∷ rest) chars-nil in
    ap chars c.in_ok-push.ensures.bytes
    ∙ chars-append (string_bytes c.self.inside.inner) (encode_utf8 character) (IsUtf8-string_bytes c.self.inside.inner)
    ∙ ap (λ (before : List ℕ). before ++ chars (encode_utf8 character)) c.self.view_is
    ∙ ap (λ (after : List ℕ). c.args.self.now ++ after) one
