-- Taking the insertions out again.
use Rattle.std.proofs.Common.{◌≡◌, Bool, true, false, not, cond, ℕ, List, [], ◌∷◌, ◌++◌, refl, sym, ap, ◌∙◌}
use Rattle.std.proofs.lemmas.Bool.{and_parts}
use Rattle.std.proofs.lemmas.List.Folds.{list_all-append}
use Rattle.std.specs.List.{list_all}
use Rattle.bake_definitions.specs.Baked.{Annotated, baked, filled, followed_by, insertions_before, is_inserted, taken_out, without_insertions}
use Rattle.bake_definitions.specs.Insertions.{Insertion, inserted_attrs, inserted_name}
use Rattle.forest.specs.Forest.{Forest, Empty, Tree, labels}
use Rattle.plain_types.specs.declared.box_kind.BoxKind.{BoxKind}
use Rattle.plain_types.specs.declared.box_kind.BoxKind.TheVariants.{Element as ElementBox, Marker, Before, After}
use Rattle.plain_types.specs.declared.node.Node.{Node}
use Rattle.plain_types.specs.declared.node.Node.TheVariants.{Element, Text}

-- each inserted element is told from its class
inserted_is : (name : List ℕ) (kind : BoxKind) → is_inserted (Element (inserted_name name) (inserted_attrs kind)) ≡ true
inserted_is name ElementBox = refl
inserted_is name Marker = refl
inserted_is name Before = refl
inserted_is name After = refl

chosen_true : {A : Type 0} (b : Bool) (x y : A) → b ≡ true → cond b x y ≡ x
chosen_true b x y h = ap (λ t. cond t x y) h

chosen_false : {A : Type 0} (b : Bool) (x y : A) → b ≡ false → cond b x y ≡ y
chosen_false b x y h = ap (λ t. cond t x y) h

negated : (b : Bool) → not b ≡ true → b ≡ false
negated true e = absurd cc
negated false e = refl

before_taken : (name : List ℕ) (insertions : List Insertion) (trees : Forest Node) → taken_out (insertions_before name insertions trees) ≡ taken_out trees
before_taken name [] trees = refl
before_taken name (insertion ∷ insertions) trees =
    chosen_true (is_inserted (Element (inserted_name name) (inserted_attrs insertion.kind))) _ _ (inserted_is name insertion.kind) ∙ before_taken name insertions trees

followed_taken : (trees others : Forest Node) → taken_out (followed_by trees others) ≡ followed_by (taken_out trees) (taken_out others)
followed_taken Empty others = refl
followed_taken (Tree node children after) others = go (is_inserted node) (followed_taken after others)
  where
    go : (b : Bool) → taken_out (followed_by after others) ≡ followed_by (taken_out after) (taken_out others)
        → cond b (taken_out (followed_by after others)) (Tree node (taken_out children) (taken_out (followed_by after others)))
        ≡ followed_by (cond b (taken_out after) (Tree node (taken_out children) (taken_out after))) (taken_out others)
    go true e = e
    go false e = ap (λ t. Tree node (taken_out children) t) e

pub followed_by-empty : {L : Type 0} (trees : Forest L) → followed_by trees Empty ≡ trees
followed_by-empty Empty = refl
followed_by-empty (Tree label children after) = ap (λ t. Tree label children t) (followed_by-empty after)

filled_taken : (node : Node) (first last : List Insertion) (content : Forest Node) → taken_out (filled node first last content) ≡ taken_out content
filled_taken (Text characters) first last content = refl
filled_taken (Element name attrs) first last content =
    before_taken name first (followed_by content (insertions_before name last Empty))
    ∙ followed_taken content (insertions_before name last Empty)
    ∙ ap (λ t. followed_by (taken_out content) t) (before_taken name last Empty)
    ∙ followed_by-empty (taken_out content)

-- Where the document has no element of their kind, taking them out gives it back.
pub taken_again : (document : Forest Annotated) → list_all (λ (node : Node). not (is_inserted node)) (labels (without_insertions document)) ≡ true → taken_out (baked document) ≡ without_insertions document
taken_again Empty h = refl
taken_again (Tree annotated children after) h =
    let p = and_parts (not (is_inserted annotated.node)) (list_all (λ (node : Node). not (is_inserted node)) (labels (without_insertions children) ++ labels (without_insertions after))) h in
    let q = and_parts (list_all (λ (node : Node). not (is_inserted node)) (labels (without_insertions children))) (list_all (λ (node : Node). not (is_inserted node)) (labels (without_insertions after)))
    (sym (list_all-append (λ (node : Node). not (is_inserted node)) (labels (without_insertions children)) (labels (without_insertions after))) ∙ p.1) in
    chosen_false (is_inserted annotated.node) _ _ (negated (is_inserted annotated.node) p.0)
    ∙ ap (λ t. Tree annotated.node t (taken_out (baked after))) (filled_taken annotated.node annotated.first annotated.last (baked children) ∙ taken_again children q.0)
    ∙ ap (λ t. Tree annotated.node (without_insertions children) t) (taken_again after q.1)
