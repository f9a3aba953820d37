-- The two texts of a box, by one word.
use Rattle.std.specs.Prelude.{ℕ, List, [], flat_map, unwrap_or}
use Rattle.plain_types.specs.declared.content.Part.{Part}
use Rattle.plain_types.specs.declared.counter_style.CounterStyle.{CounterStyle}
use Rattle.content_eval.specs.Targets.{Known, flat_at, piece_text}
use Rattle.content_eval.specs.declared.generated.Piece.{Piece}
use Rattle.content_eval.specs.declared.texts.Layer.{Layer}
use Rattle.content_eval.specs.declared.texts.Layer.TheVariants.{Flat, Full}

-- the text that the box of a target has in a layer
abbrev pub box_text : Layer → Known → List ℕ → Part → List ℕ
box_text Flat known url part = []
box_text Full known url part = unwrap_or (flat_at known url part) []

abbrev pub layer_text : Layer → List CounterStyle → Known → List Piece → List ℕ
layer_text layer table known pieces = flat_map (piece_text table known (box_text layer known)) pieces
