-- Insertions that have a place, and those that find none: into some elements no `span` may be put (our own).
use Rattle.std.specs.Prelude.{ℕ, ◌+◌, if◌then◌else◌, List, [], length}
use Rattle.bake_definitions.specs.Baked.{Annotated}
use Rattle.bake_definitions.specs.Insertions.{Insertion, takes_span}
use Rattle.forest.specs.Forest.{Forest, map_labels, weigh}
use Rattle.plain_types.specs.declared.node.Node.{Node}
use Rattle.plain_types.specs.declared.node.Node.TheVariants.{Element, Text}

-- those insertions into a node that have a place; a text takes none
abbrev pub with_place : Node → List Insertion → List Insertion
with_place (Text characters) insertions = []
with_place (Element name attrs) insertions = if takes_span name then insertions else []

-- a node with those of its insertions that have a place
abbrev pub with_places : Annotated → Annotated
with_places annotated = record {
  node = annotated.node;
  first = with_place annotated.node annotated.first;
  last = with_place annotated.node annotated.last;
}

-- the document with those insertions that have a place
abbrev pub placed : Forest Annotated → Forest Annotated
placed document = map_labels with_places document

-- how many insertions into an element find no place; a text has no boxes of which one could come
abbrev pub without_place : Node → List Insertion → ℕ
without_place (Text characters) insertions = 0
without_place (Element name attrs) insertions = if takes_span name then 0 else length insertions

-- how many insertions into a document find no place
abbrev pub left_out : Forest Annotated → ℕ
left_out document = weigh (λ (a : Annotated). without_place a.node a.first + without_place a.node a.last) document
