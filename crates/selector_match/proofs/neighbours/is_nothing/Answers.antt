use Rattle.std.proofs.Common.{◌∙◌}
use Rattle.selector_match.proofs.TextLaws.{no-characters}
use Rattle.selector_match.proofs.neighbours.is_nothing.Goals as goal

pub returns-in-Some : goal.returns-in-Some
returns-in-Some c = c.is_empty.ensures ∙ no-characters c.in-Some.characters.now _ c.in-Some.ensures.characters c.in-Some.ensures.bytes
