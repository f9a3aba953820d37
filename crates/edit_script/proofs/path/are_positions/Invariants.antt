use Rattle.std.proofs.Common.{ℕ, List, length}
use denote.Text.{Utf8}
use denote.Shadow.{shadow}
use Rattle.std.specs.Str.{chars}
use Rattle.edit_script.specs.Machinery.Words.{HasPositions}
use Rattle.edit_script.proofs.path.are_positions.Given as goal

abbrev pub invariant-positions : goal.invariant-positions
invariant-positions l = record { utf8 : shadow (Utf8 l.rest); read : (positions : List ℕ) × HasPositions (chars l.text) positions (chars l.rest) }

abbrev pub decreases-positions : goal.decreases-positions
decreases-positions l = length (chars l.rest)
