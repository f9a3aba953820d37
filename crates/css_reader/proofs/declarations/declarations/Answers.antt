use Rattle.std.proofs.Common.{[]}
use Rattle.reading.proofs.Following.{takes_shorter}
use Rattle.css_reader.specs.Declarations.{declaration, declarations}
use Rattle.css_reader.specs.Rules.{part_at, parts}
use Rattle.css_reader.proofs.Gathering.{Gathers-start, Gathers-more, Gathers-read}
use Rattle.css_reader.proofs.Taking.{part_takes}
use Rattle.css_reader.proofs.declarations.declarations.Goals as goal

pub parts-init : goal.parts-init
parts-init c = Gathers-start part_at declaration [] c.args.content.now _ c.new-found.ensures.empty

pub parts-preserved : goal.parts-preserved
parts-preserved c = let gives = rw c.in-Some.is at c.in_ok-entry.ensures.part in Gathers-more part_at declaration [] _ _ _ _ _ _ c.parts.invariant gives c.in_ok-push_declaration.ensures.ok

pub returns : goal.returns
unfolding declarations parts
returns c = let gives = rw c.in_default.is at c.in_ok-entry.ensures.part in Gathers-read part_at declaration (takes_shorter part_at part_takes) [] _ _ _ c.parts.invariant gives
