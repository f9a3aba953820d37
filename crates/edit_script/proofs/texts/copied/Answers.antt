use Rattle.std.proofs.Common.{◌≡◌, ℕ, List, ◌∙◌}
use Rattle.std.specs.Str.{chars}
use Rattle.std.proofs.lemmas.Result.{IfOk-weaker}
use Rattle.std.proofs.lemmas.Str.{chars-IsAscii}
use Rattle.xhtml_items.proofs.Texts.{IsAscii-from_test}
use Rattle.edit_script.proofs.texts.copied.Goals as goal

pub returns : goal.returns
returns c = record {
  characters =
      IfOk-weaker c.from_str.result (λ (copy : List ℕ). copy ≡ chars c.args.text.now) (λ (copy : List ℕ). copy ≡ c.args.text.now)
      (λ copy same. same ∙ chars-IsAscii c.args.text.now (IsAscii-from_test c.args.text.now c.requires)) c.from_str.ensures.characters;
}
