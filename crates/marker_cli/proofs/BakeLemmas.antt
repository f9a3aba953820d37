-- What a document bakes to, and what that takes.
use Rattle.std.proofs.Common.{◌≡◌, ◌∙◌, ℕ, ◌+◌, ◌*◌, List, ap, refl, subst, sym}
use Rattle.std.specs.Prelude.{Ok, Err}
use Rattle.bake_book.specs.Dressing.{dressed_document}
use Rattle.bake_book.specs.Laws.{DocumentsStay}
use Rattle.bake_definitions.specs.Baked.{Annotated, without_insertions}
use Rattle.bake_definitions.specs.Places.{placed}
use Rattle.bake_definitions.specs.Woven.{IsBaked}
use Rattle.document_walk.specs.Elements.{element_count}
use Rattle.forest.specs.Forest.{Forest, Empty, Tree}
use Rattle.plain_types.specs.declared.node.Node.{Node}
use Rattle.xml_definitions.specs.Texts.{IsDocumentText}
use Rattle.marker_cli.specs.Bake.{most_bake_steps}
use Rattle.marker_cli.specs.Documents.{Reading, tree_of}

-- insertions that find no place change nothing of the document
without_places : (document : Forest Annotated) → without_insertions (placed document) ≡ without_insertions document
without_places Empty = refl
without_places (Tree annotated children after) = λ i. Tree annotated.node (without_places children i) (without_places after i)

-- each document bakes to a text, as a law of baked texts has it
abbrev pub SomeOutput : Type 0
SomeOutput = (text : List ℕ) (document : Forest Annotated) → IsDocumentText text (without_insertions document) → (output : List ℕ) × IsBaked text document output

pub placed_document : DocumentsStay → (text style : List ℕ) (tree : Forest Node) → IsDocumentText text tree → IsDocumentText text (without_insertions (placed (dressed_document style tree)))
placed_document stay text style tree is = subst (λ t. IsDocumentText text t) (sym (without_places (dressed_document style tree) ∙ stay style tree)) is

-- what a text bakes to, of the same text, sheet and tree by other names
pub baked_as : {text other style styled baked : List ℕ} {tree others : Forest Node} → IsBaked text (placed (dressed_document style tree)) baked
    → text ≡ other → style ≡ styled → tree ≡ others → IsBaked other (placed (dressed_document styled others)) baked
baked_as {text} {other} {style} {styled} {baked} {tree} {others} is text_same style_same tree_same =
    subst (λ t. IsBaked t (placed (dressed_document styled others)) baked) text_same
    (subst (λ s. IsBaked text (placed (dressed_document s others)) baked) style_same
    (subst (λ f. IsBaked text (placed (dressed_document style f)) baked) tree_same is))

-- a text that has a tree reads as it
pub reads_as_tree : (reading : Reading) (tree : Forest Node) → tree_of reading ≡ Ok tree → reading ≡ Ok tree
reads_as_tree (Ok other) tree is = let same : other ≡ tree = cc is in ap Ok same
reads_as_tree (Err place) tree is = absurd (cc is)

-- a baking of the tree that a text has
pub most_of_baking : (reading : Reading) (tree : Forest Node) → tree_of reading ≡ Ok tree → 9 * element_count tree + 1 ≡ most_bake_steps reading
most_of_baking (Ok other) tree is = let same : other ≡ tree = cc is in ap (λ t. 9 * element_count t + 1) (sym same)
most_of_baking (Err place) tree is = absurd (cc is)
