-- References to other elements: CSS Generated Content 3, 2.6 "Cross references and the target-* functions".
use Rattle.std.specs.Prelude.{ℕ, ◌==◌, pos, List, [], ◌∷◌, Option, Some, None, cond, flat_map, is_some, unwrap_or}
use Rattle.std.specs.Option.{option_and_then, option_map_or}
use Rattle.plain_types.specs.declared.content.Part.{Part}
use Rattle.plain_types.specs.declared.content.Part.TheVariants.{Content, Before, After}
use Rattle.plain_types.specs.declared.counter.Counter.{Counter}
use Rattle.plain_types.specs.declared.counter_style.CounterStyle.{CounterStyle}
use Rattle.plain_types.specs.declared.style_ref.StyleRef.{StyleRef}
use Rattle.reading.specs.Punctuation.{number_sign}
use Rattle.css_definitions.specs.Representation.{representation}
use Rattle.counter_sets.specs.Sets.{innermost}
use Rattle.content_eval.specs.Contents.{innermost_text, joined_text}
use Rattle.content_eval.specs.declared.generated.Piece.{Piece}
use Rattle.content_eval.specs.declared.generated.Piece.TheVariants as piece

-- What urls name.

-- 2.6: a url of a fragment alone names an element of the document. Its id is what follows the `#`, as written;
-- it may be empty (our own).
abbrev pub target_id : List ℕ → Option (List ℕ)
target_id [] = None
target_id (first ∷ rest) = cond (first == number_sign) (Some rest) None

-- the id to which a piece refers
abbrev pub reference : Piece → Option (List ℕ)
reference (piece.Chars text) = None
reference (piece.TargetCounter url name style) = target_id url
reference (piece.TargetCounters url name between style) = target_id url
reference (piece.TargetText url part) = target_id url

-- What is known of the elements that ids name. The target of an id is the first element in tree order that
-- has it.
pub record Known : Type 0 where
  -- the counters of the target's own box; None exactly without a target that has a box
  pub counters : List ℕ → Option (List Counter)
  -- the characters under the target, one text after the other; none without a target
  pub characters : List ℕ → List ℕ
  -- the flat text of the target's `::before` or `::after` box; None exactly without that box
  pub flat : List ℕ → Part → Option (List ℕ)

-- The same of the target of a url.

abbrev pub counters_at : Known → List ℕ → Option (List Counter)
counters_at known url = option_and_then known.counters (target_id url)

abbrev pub characters_at : Known → List ℕ → List ℕ
characters_at known url = option_map_or known.characters (target_id url) []

abbrev pub flat_at : Known → List ℕ → Part → Option (List ℕ)
flat_at known url part = option_and_then (λ id. known.flat id part) (target_id url)

-- What the target functions write.

-- 2.6.3, `target-text()`, where the boxes of a url's target have these texts: the target's own characters, also
-- of one without a box (our own), or the text of a box
abbrev pub target_text : Known → (List ℕ → Part → List ℕ) → List ℕ → Part → List ℕ
target_text known box_text url Content = characters_at known url
target_text known box_text url Before = box_text url Before
target_text known box_text url After = box_text url After

module _ (table : List CounterStyle) where
  -- a missing counter counts as a single 0, and none is created (our own)
  abbrev pub or_zero : List Counter → List ℕ → StyleRef → List ℕ → List ℕ
  or_zero set name style text = cond (is_some (innermost set name)) text (representation table style (pos 0))

  -- 2.6.1, `target-counter()`: what `counter()` writes in the target
  abbrev pub target_counter : List ℕ → StyleRef → List Counter → List ℕ
  target_counter name style set = or_zero set name style (innermost_text table set name style)

  -- 2.6.2, `target-counters()`: what `counters()` writes in the target
  abbrev pub target_counters : List ℕ → List ℕ → StyleRef → List Counter → List ℕ
  target_counters name between style set = or_zero set name style (joined_text table set name between style)

  module _ (known : Known) where
    -- The text of a piece, where the boxes of a url's target have these texts. Without a target, and from a
    -- target without a box, counters give nothing (our own).
    abbrev pub piece_text : (List ℕ → Part → List ℕ) → Piece → List ℕ
    piece_text box_text (piece.Chars text) = text
    piece_text box_text (piece.TargetCounter url name style) =
        option_map_or (target_counter name style) (counters_at known url) []
    piece_text box_text (piece.TargetCounters url name between style) =
        option_map_or (target_counters name between style) (counters_at known url) []
    piece_text box_text (piece.TargetText url part) = target_text known box_text url part

    -- The text of a box has two layers, so that no reference is circular (our own). In its flat text the boxes
    -- of targets have no text.
    abbrev pub flat_text : List Piece → List ℕ
    flat_text pieces = flat_map (piece_text (λ url part. [])) pieces

    -- In its full text they have their flat texts, and none where there is no such box. This is the text that
    -- is shown.
    abbrev pub full_text : List Piece → List ℕ
    full_text pieces = flat_map (piece_text (λ url part. unwrap_or (flat_at known url part) [])) pieces
