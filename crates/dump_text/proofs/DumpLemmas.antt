-- The bytes of a dump, line by line.
use Rattle.std.proofs.Common.{◌≡◌, ℕ, List, encode_utf8_all}
use Rattle.std.specs.List.{flat_map}
use Rattle.dump_definitions.specs.Dump.{Line, dump, line_text}
use Rattle.dump_text.proofs.EncodedLemmas.{encodes-flat_map}

-- the bytes of a line
abbrev pub line_piece : Line → List ℕ
line_piece line = encode_utf8_all (line_text line)

-- the bytes of a dump are those of its lines
pub dump_lines : (lines : List Line) → flat_map line_piece lines ≡ dump lines
dump_lines lines = encodes-flat_map line_text lines
