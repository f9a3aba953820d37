use Rattle.std.proofs.Common.{ap}
use Rattle.std.specs.Str.{chars}
use Rattle.xml_definitions.specs.Characters.{is_character}
use Rattle.xhtml_items.proofs.PassLaws.{all_from_span}
use Rattle.xhtml_items.proofs.passing.are_characters.Goals as goal

pub returns : goal.returns
returns c =
    all_from_span (λ x. is_character x) (chars c.args.text.now) c.split_run.result.1.now c.is_empty.result c.split_run.ensures.text (ap (λ r. r.1) c.split_run.ensures.reads)
    c.is_empty.ensures
