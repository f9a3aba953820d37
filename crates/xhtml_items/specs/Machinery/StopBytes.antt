-- Bytes at which passing over a run of characters stops (our own).
use Rattle.std.specs.Prelude.{◌≡◌, ℕ, ◌≤◌, Bool, false, true, ◌&&◌, ◌||◌, not, ◌==◌, List}
use Rattle.std.specs.Char.{IsScalar, encode_utf8}
use Rattle.std.specs.List.{list_any}
use Rattle.reading.specs.Characters.{is_quote}
use Rattle.xml_definitions.specs.Characters.{is_plain}
use Rattle.lane_class.specs.Ranges.{is_in}

-- one of the bytes lies in one of the ranges
abbrev pub has_stop : List (ℕ × ℕ) → List ℕ → Bool
has_stop stops bytes = list_any (is_in stops) bytes

-- a character whose bytes, in UTF-8, lie in none of the ranges passes the test
abbrev pub Tells : List (ℕ × ℕ) → (ℕ → Bool) → Type 0
Tells stops test = (c : ℕ) → IsScalar c → has_stop stops (encode_utf8 c) ≡ false → test c ≡ true

-- The Unicode Standard, table 3-6: a byte in one of the ranges is the first of its character
abbrev pub AreFirst : List (ℕ × ℕ) → Type 0
AreFirst stops = (byte : ℕ) → is_in stops byte ≡ true → 128 ≤ byte → 192 ≤ byte

-- a character that reads as itself in a value, whichever quotes are around it
abbrev pub is_straight : ℕ → Bool
is_straight c = is_plain c && not (is_quote c || (c == 9 || c == 10))
