-- What the walk puts where it reaches a node, and whether it goes into it.
use Rattle.std.specs.Prelude.{◌≡◌, ℕ, if◌then◌else◌, List, [], ◌∷◌, ◌++◌, Option, None, Some, IfSome}
use Rattle.std.specs.Option.{option_map_or}
use Rattle.plain_types.specs.declared.node.Node.{Node}
use Rattle.plain_types.specs.declared.node.Node.TheVariants.{Element, Text}
use Rattle.generated_texts.specs.declared.entry.NodeEntry.{NodeEntry}
use Rattle.text_view.specs.Breaks.{is_breaking}
use Rattle.text_view.specs.Lines.{Piece, Characters}
use Rattle.text_view.specs.Views.{first_pieces, last_pieces, node_pieces}
use Rattle.text_view.specs.declared.open_element.OpenElement.{OpenElement}

-- what is put where a node is reached
abbrev pub entered : Option NodeEntry → Node → List Piece
entered entry (Text characters) = Characters characters ∷ []
entered None (Element name attrs) = []
entered (Some entry) (Element name attrs) = if entry.has_box then first_pieces (is_breaking name) entry else []

abbrev pub entered_at : Option NodeEntry → Option Node → List Piece
entered_at entry node = option_map_or (entered entry) node []

-- the characters of a text
abbrev pub text_pieces : Option (List ℕ) → List Piece
text_pieces text = option_map_or (λ (characters : List ℕ). Characters characters ∷ []) text []

-- Where the walk goes into a node, what is put as it is reached is all but what its children give and what is put where it is
-- left; else that is all that the node gives.
abbrev pub IsEntered : Option NodeEntry → ℕ → Option OpenElement → Node → Type 0
IsEntered entry key None node = (inside : List Piece) → node_pieces entry node inside ≡ entered entry node
IsEntered entry key (Some element) node =
    (element.key ≡ key) × ((inside : List Piece) → node_pieces entry node inside ≡ entered entry node ++ (inside ++ last_pieces element.breaks element.entry.now))

abbrev pub IsEnteredAt : Option NodeEntry → Option Node → ℕ → Option OpenElement → Type 0
IsEnteredAt entry node key element = IfSome node (IsEntered entry key element)
