-- Quotation marks by depth: CSS Generated Content 3, 3.
use Rattle.std.specs.Prelude.{ℕ, ◌+◌, ◌-◌, ◌==◌, List, [], ◌∷◌, Option, None, cond, length, min, slice_get}
use Rattle.std.specs.Option.{option_map}
use Rattle.plain_types.specs.declared.content.QuoteKind.{QuoteKind}
use Rattle.plain_types.specs.declared.content.QuoteKind.TheVariants.{Open, Close, NoOpen, NoClose}
use Rattle.plain_types.specs.declared.style.Pair.{Pair}
use Rattle.plain_types.specs.declared.style.Quotes.{Quotes}
use Rattle.plain_types.specs.declared.style.Quotes.TheVariants.{Nothing, Auto, Pairs}

-- 3.1 leaves the marks of `auto` to the program; they are “ ” and ‘ ’ in all languages (our own)
abbrev pub auto_pairs : List Pair
auto_pairs = record { left = 8220 ∷ []; right = 8221 ∷ [] } ∷ record { left = 8216 ∷ []; right = 8217 ∷ [] } ∷ []

-- 3.1: the pairs of a value, the outermost first. `none` has none.
abbrev pub pairs_of : Quotes → List Pair
pairs_of Nothing = []
pairs_of Auto = auto_pairs
pairs_of (Pairs pairs) = pairs

-- 3.2: the pair of a depth, from 0; beyond the last pair it is the last. Where there is no pair, there is none.
abbrev pub pair_at : Quotes → ℕ → Option Pair
pair_at quotes depth = slice_get (pairs_of quotes) (min depth (length (pairs_of quotes) - 1))

-- depths end at the greatest `u64` (our own)
abbrev pub greatest_depth : ℕ
greatest_depth = 18446744073709551615

-- 3.2: an opening raises the depth, a closing lowers it; at depth 0 it stays
abbrev pub depth_after : ℕ → QuoteKind → ℕ
depth_after depth Open = min (depth + 1) greatest_depth
depth_after depth NoOpen = min (depth + 1) greatest_depth
depth_after depth Close = depth - 1
depth_after depth NoClose = depth - 1

-- 3.2: the mark that is written. `open-quote` has that of the depth before it, `close-quote` that of the depth
-- after it, and none at depth 0; `no-open-quote` and `no-close-quote` write none.
abbrev pub mark : Quotes → ℕ → QuoteKind → Option (List ℕ)
mark quotes depth Open = option_map (λ (pair : Pair). pair.left) (pair_at quotes depth)
mark quotes depth Close = cond (depth == 0) None (option_map (λ (pair : Pair). pair.right) (pair_at quotes (depth - 1)))
mark quotes depth NoOpen = None
mark quotes depth NoClose = None
