-- The texts that an element shows in its boxes: CSS Pseudo-Elements 4, 4 "Generated Content Pseudo-elements".
use Rattle.std.specs.Prelude.{ℕ, List, Option, None, option_map}
use Rattle.std.specs.Option.{option_and_then}
use Rattle.plain_types.specs.declared.box_kind.BoxKind.{BoxKind}
use Rattle.plain_types.specs.declared.box_kind.BoxKind.TheVariants.{Element, Marker, Before, After}
use Rattle.generated_texts.specs.declared.entry.BoxText.{BoxText}
use Rattle.generated_texts.specs.declared.entry.NodeEntry.{NodeEntry}

-- the text of a box of an element of which this is kept; its own box has none
abbrev pub text_of_box : BoxKind → NodeEntry → Option BoxText
text_of_box Element entry = None
text_of_box Marker entry = entry.marker
text_of_box Before entry = entry.before
text_of_box After entry = entry.after

-- the text that is shown there: the full one. A text node, of which nothing is kept, shows none.
abbrev pub shown_text : BoxKind → Option NodeEntry → Option (List ℕ)
shown_text kind kept = option_map (λ (text : BoxText). text.full) (option_and_then (text_of_box kind) kept)
