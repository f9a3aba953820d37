-- What a character leaves, once line ends are line feeds.
use Rattle.std.specs.Prelude.{ℕ, Bool, false, ◌&&◌, ◌==◌, if◌then◌else◌, List, [], ◌∷◌}
use Rattle.xml_definitions.specs.Normalized.{as_line_feed}

abbrev pub begins_with_line_feed : List ℕ → Bool
begins_with_line_feed [] = false
begins_with_line_feed (first ∷ rest) = first == 10

-- what a character before this text leaves
abbrev pub line_end_left : ℕ → List ℕ → List ℕ
line_end_left c after = if c == 13 && begins_with_line_feed after then [] else as_line_feed c ∷ []
