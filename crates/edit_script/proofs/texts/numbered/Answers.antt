use Rattle.std.proofs.Common.{◌≡◌, ℕ, List, ◌++◌, ap, ◌∙◌, arith}
use Rattle.std.specs.Fmt.{decimal}
use Rattle.std.specs.Str.{chars}
use Rattle.std.proofs.lemmas.Fmt.{IsAscii-decimal}
use Rattle.std.proofs.lemmas.Str.{chars-IsAscii}
use Rattle.edit_script.proofs.texts.numbered.Goals as goal

pub returns : goal.returns
returns c =
    let digits : chars c.format.result.now ≡ decimal c.args.number = ap chars c.format.ensures.text ∙ chars-IsAscii (decimal c.args.number) (IsAscii-decimal c.args.number (omega arith)) in
    record { characters = c.in_ok-push_str.ensures.ok ∙ ap (λ (t : List ℕ). c.in_ok-text.text ++ t) digits ∙ ap (λ (t : List ℕ). t ++ decimal c.args.number) c.in_ok-text.ensures.characters }
