-- What a view shows.
use Rattle.std.specs.Prelude.{◌≡◌, ℕ, List, encode_utf8_all}
use Rattle.std.specs.Str.{chars}
use Rattle.plain_types.specs.declared.node.Node.{Node}
use Rattle.plain_types.specs.declared.node.Node.TheVariants.{Element, Text}
use Rattle.plain_types.specs.declared.node.NodeView.{NodeView}
use Rattle.plain_types.specs.declared.node.NodeView.TheVariants as view

-- these bytes are the UTF-8 of these characters
pub record IsUtf8Of (bytes characters : List ℕ) : Type 0 where
  pub read : chars bytes ≡ characters
  pub written : bytes ≡ encode_utf8_all characters

-- the view shows this node
abbrev pub Shows : Node → NodeView → Type 0
Shows (Element name attrs) (view.Element shown_name shown_attrs) = IsUtf8Of shown_name.now name × (shown_attrs.now ≡ attrs)
Shows (Element name attrs) (view.Text shown) = ⊥
Shows (Text characters) (view.Element shown_name shown_attrs) = ⊥
Shows (Text characters) (view.Text shown) = IsUtf8Of shown.now characters
