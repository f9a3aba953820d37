-- Documents that are equal but for the order of the attributes of each element. XML 1.0, 3.1 "Start-Tags, End-Tags, and
-- Empty-Element Tags": that order means nothing.
use Rattle.std.specs.Prelude.{◌≡◌, ℕ, List}
use Rattle.forest.specs.Forest.{Forest, Empty, Tree}
use Rattle.forest.specs.Keys.{Keyed}
use Rattle.plain_types.specs.Attributes.{value_of}
use Rattle.plain_types.specs.declared.attr.Attr.{Attr}
use Rattle.plain_types.specs.declared.node.Node.{Node}
use Rattle.plain_types.specs.declared.node.Node.TheVariants.{Element, Text}

-- the same attributes, in whatever order: each name has the same value in both, or none in either
abbrev pub AreSameAttrs : List Attr → List Attr → Type 0
AreSameAttrs attrs others = (name : List ℕ) → value_of name attrs ≡ value_of name others

-- the same node: an element of the same name and attributes, or a text of the same characters
abbrev pub IsSameNode : Node → Node → Type 0
IsSameNode (Element name attrs) (Element other others) = (name ≡ other) × AreSameAttrs attrs others
IsSameNode (Text characters) (Text others) = characters ≡ others
IsSameNode _ _ = ⊥

-- the same node under the same key
abbrev pub IsSameKeyedNode : Keyed Node → Keyed Node → Type 0
IsSameKeyedNode node other = (node.key ≡ other.key) × IsSameNode node.label other.label

-- forests of one shape, where the labels in each place are alike
abbrev pub AreAlike : {L : Type 0} → (L → L → Type 0) → Forest L → Forest L → Type 0
AreAlike IsAlike Empty Empty = Unit {0}
AreAlike IsAlike (Tree label children after) (Tree other inside beside) =
    IsAlike label other × AreAlike IsAlike children inside × AreAlike IsAlike after beside
AreAlike IsAlike _ _ = ⊥

-- the documents are equal but for the order of the attributes of each element
abbrev pub AreSame : Forest Node → Forest Node → Type 0
AreSame document other = AreAlike IsSameNode document other

-- and so are their nodes' keys
abbrev pub AreSameKeyed : Forest (Keyed Node) → Forest (Keyed Node) → Type 0
AreSameKeyed document other = AreAlike IsSameKeyedNode document other
