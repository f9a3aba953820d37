-- What the walk does at a node, by its name and what is kept of it.
use Rattle.std.proofs.Common.{◌≡◌, ℕ, List, [], ◌++◌, Option, Some, None, refl, sym, ap, ◌∙◌}
use Rattle.std.specs.Prelude.{true, false, if◌then◌else◌, encode_utf8_all, option_and_then, option_map}
use Rattle.node_arena.specs.Nodes.{node_characters, node_name}
use Rattle.plain_types.specs.declared.node.Node.{Node}
use Rattle.plain_types.specs.declared.node.Node.TheVariants.{Element, Text}
use Rattle.generated_texts.specs.declared.entry.NodeEntry.{NodeEntry}
use Rattle.text_view.specs.Breaks.{is_breaking}
use Rattle.text_view.specs.Views.{first_pieces, last_pieces}
use Rattle.text_view.specs.Machinery.Walking.{IsEnteredAt, entered_at, text_pieces}
use Rattle.text_view.specs.Machinery.Writing.{behind_pieces, behind_text, bytes_shown, shown}
use Rattle.text_view.specs.declared.line_state.LineState.{LineState}
use Rattle.text_view.specs.declared.open_element.OpenElement.{OpenElement}
use Rattle.text_view.proofs.PieceLaws.{text_behind, text_shown}

-- the characters of a text that is there
pub characters_shown : (state : LineState) (bytes : List ℕ) (text : Option (List ℕ)) → Some bytes ≡ option_map encode_utf8_all text → shown state bytes ≡ bytes_shown state (text_pieces text)
characters_shown state bytes None is = absurd (cc is)
characters_shown state bytes (Some text) is = let spells : bytes ≡ encode_utf8_all text = cc is in ap (shown state) spells ∙ text_shown state text

pub characters_behind : (state : LineState) (bytes : List ℕ) (text : Option (List ℕ)) → Some bytes ≡ option_map encode_utf8_all text → behind_text state bytes ≡ behind_pieces state (text_pieces text)
characters_behind state bytes None is = absurd (cc is)
characters_behind state bytes (Some text) is = let spells : bytes ≡ encode_utf8_all text = cc is in ap (behind_text state) spells ∙ text_behind state text

-- an element without a box is passed
pub passed : (kept : Option NodeEntry) (entry : NodeEntry) (node : Option Node) (name : List ℕ) (key : ℕ) → kept ≡ Some entry → option_and_then node_name node ≡ Some name → entry.has_box ≡ false
    → ([] ≡ entered_at kept node) × IsEnteredAt kept node key None
passed kept entry None name key is named without = absurd (cc named)
passed kept entry (Some (Text characters)) name key is named without = absurd (cc named)
passed kept entry (Some (Element own attrs)) name key is named without =
    rw is (
      ap (λ b. if b then first_pieces (is_breaking own) entry else []) (sym without),
      λ inside.
          ap (λ b. if b then first_pieces (is_breaking own) entry ++ (inside ++ last_pieces (is_breaking own) entry) else []) without
          ∙ ap (λ b. if b then first_pieces (is_breaking own) entry else []) (sym without),
    )
