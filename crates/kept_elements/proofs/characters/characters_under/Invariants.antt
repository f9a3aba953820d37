use Rattle.std.proofs.Common.{reverse}
use Rattle.forest.specs.Spots.{children_of}
use Rattle.generated_texts.specs.References.{characters_in}
use Rattle.kept_elements.proofs.CharactersLeft.{turns_left}
use Rattle.kept_elements.proofs.CharacterTurns.{Gathers}
use Rattle.kept_elements.proofs.characters.characters_under.Given as goal

abbrev pub invariant-walk : goal.invariant-walk
invariant-walk l = Gathers l.arena.tree (characters_in (children_of l.arena.tree l.key)) (reverse l.inside.items) l.link l.text

abbrev pub decreases-walk : goal.decreases-walk
decreases-walk l = turns_left l.arena.tree (reverse l.inside.items) l.link
