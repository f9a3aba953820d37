-- What is so of documents that are the same but for the order of attributes (our own).
use Rattle.std.specs.Prelude.{◌≡◌, ◌↔◌, List, IsPermutation}
use Rattle.forest.specs.Forest.{Forest}
use Rattle.forest.specs.Keys.{Keyed, numbered, without_keys}
use Rattle.plain_types.specs.Tree.{HasDistinctNames}
use Rattle.plain_types.specs.declared.attr.Attr.{Attr}
use Rattle.plain_types.specs.declared.edit.Edit.{Edit}
use Rattle.plain_types.specs.declared.node.Node.{Node}
use Rattle.node_arena.specs.Edits.{edited, place_fault}
use Rattle.same_documents.specs.Sameness.{AreSame, AreSameAttrs, AreSameKeyed}

-- Of attributes with distinct names, as those of an element are, the same ones are a permutation.
abbrev pub SameAttrsArePermuted : Type 0
SameAttrsArePermuted = (attrs others : List Attr) → HasDistinctNames attrs → HasDistinctNames others → AreSameAttrs attrs others ↔ IsPermutation attrs others

-- Each document is the same as itself.
abbrev pub SameAsItself : Type 0
SameAsItself = (document : Forest Node) → AreSame document document

abbrev pub SameBothWays : Type 0
SameBothWays = (document other : Forest Node) → AreSame document other → AreSame other document

abbrev pub SameThroughAnother : Type 0
SameThroughAnother = (document other third : Forest Node) → AreSame document other → AreSame other third → AreSame document third

-- Same documents are the same with their places in tree order as keys, and documents that are the same with keys are so
-- without.
abbrev pub SameWithPlacesAsKeys : Type 0
SameWithPlacesAsKeys = (document other : Forest Node) → AreSame document other → AreSameKeyed (numbered 0 document) (numbered 0 other)

abbrev pub SameWithoutKeys : Type 0
SameWithoutKeys = (document other : Forest (Keyed Node)) → AreSameKeyed document other → AreSame (without_keys document) (without_keys other)

-- An edit is refused in the one for the cause for which it is refused in the other.
abbrev pub SameAreRefusedAlike : Type 0
SameAreRefusedAlike = (edit : Edit) (document other : Forest Node) → AreSame document other → place_fault edit document ≡ place_fault edit other

-- An edit makes same documents of same documents.
abbrev pub SameAreEditedAlike : Type 0
SameAreEditedAlike = (edit : Edit) (document other : Forest Node) → AreSame document other → AreSame (edited edit document) (edited edit other)
