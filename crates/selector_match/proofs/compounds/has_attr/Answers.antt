use Rattle.std.proofs.Common.{ap, ◌∙◌, false}
use Rattle.std.specs.Option.{option_map_or}
use Rattle.std.specs.Str.{chars}
use Rattle.selector_match.specs.Attributes.{passes_in_case}
use Rattle.selector_match.specs.Machinery.Sides.{is_aside}
use Rattle.selector_match.proofs.compounds.has_attr.Goals as goal

pub returns-in-Some : goal.returns-in-Some
returns-in-Some c =
    c.passes.ensures
    ∙ ap (λ fold. passes_in_case fold c.args.test (chars c.in-Some.text.now) (chars c.args.value.now)) c.is_aside.ensures
    ∙ ap (λ o. option_map_or (λ text. passes_in_case (is_aside c.args.case) c.args.test text (chars c.args.value.now)) o false) c.in-Some.ensures

pub returns-in-None : goal.returns-in-None
returns-in-None c = ap (λ o. option_map_or (λ text. passes_in_case (is_aside c.args.case) c.args.test text (chars c.args.value.now)) o false) c.in-None.ensures
