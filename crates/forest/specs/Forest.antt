-- Ordered trees that stand side by side. Root, child and tree order are those of DOM, 1.1 "Trees"; forest
-- and label are our own words.
use Rattle.std.specs.Prelude.{◌≡◌, ℕ, ◌+◌, List, [], ◌∷◌, ◌++◌, Option, Some, None, refl}
use Rattle.std.specs.Coded.{Coded, code_by, coded_list, coded_option}
use Rattle.std.proofs.Common.{sym, ap, ◌∙◌, append_assoc, append-nil}

-- no tree; or a first tree, by its root's label and its root's children, and the trees after it
pub data Forest (L : Type 0) : Type 0 where
  Empty : Forest L
  Tree : (label : L) (children after : Forest L) → Forest L

-- the weights of all labels, added up
abbrev pub weigh : {L : Type 0} → (L → ℕ) → Forest L → ℕ
weigh weight Empty = 0
weigh weight (Tree label children after) = weight label + (weigh weight children + weigh weight after)

-- how many nodes there are
abbrev pub size : {L : Type 0} → Forest L → ℕ
size forest = weigh (λ _. 1) forest

-- there is one tree
abbrev pub IsOneTree : {L : Type 0} → Forest L → Type 0
IsOneTree Empty = ⊥
IsOneTree (Tree label children after) = after ≡ Empty

-- the labels in tree order
abbrev pub labels : {L : Type 0} → Forest L → List L
labels Empty = []
labels (Tree label children after) = label ∷ (labels children ++ labels after)

-- the forest with each label changed
abbrev pub map_labels : {L M : Type 0} → (L → M) → Forest L → Forest M
map_labels f Empty = Empty
map_labels f (Tree label children after) = Tree (f label) (map_labels f children) (map_labels f after)

-- the trees, and then one more after them
abbrev pub then_tree : {L : Type 0} → Forest L → L → Forest L → Forest L
then_tree Empty label children = Tree label children Empty
then_tree (Tree first inside after) label children = Tree first inside (then_tree after label children)

-- How a forest is stored in the logic: the list of its labels, each behind its children and the trees
-- after it, with None for each end.
module _ {L : Type 0} where
  abbrev stored : Forest L → List (Option L)
  stored Empty = None ∷ []
  stored (Tree label children after) = stored children ++ (stored after ++ Some label ∷ [])

  abbrev top : List (Forest L) → Forest L
  top [] = Empty
  top (forest ∷ forests) = forest

  abbrev joined : L → List (Forest L) → List (Forest L)
  joined label (after ∷ children ∷ forests) = Tree label children after ∷ forests
  joined label forests = forests

  abbrev restored : List (Option L) → List (Forest L) → List (Forest L)
  restored [] forests = forests
  restored (None ∷ entries) forests = restored entries (Empty ∷ forests)
  restored (Some label ∷ entries) forests = restored entries (joined label forests)

  pub restored_stored : (forest : Forest L) (entries : List (Option L)) (forests : List (Forest L)) → restored (stored forest ++ entries) forests ≡ restored entries (forest ∷ forests)
  restored_stored Empty entries forests = refl
  restored_stored (Tree label children after) entries forests =
      ap (λ all. restored all forests) (append_assoc (stored children) (stored after ++ Some label ∷ []) entries)
      ∙ restored_stored children ((stored after ++ Some label ∷ []) ++ entries) forests
      ∙ ap (λ all. restored all (children ∷ forests)) (append_assoc (stored after) (Some label ∷ []) entries)
      ∙ restored_stored after (Some label ∷ entries) (children ∷ forests)

  pub stored_whole : (forest : Forest L) → top (restored (stored forest) []) ≡ forest
  stored_whole forest = ap (λ all. top (restored all [])) (sym (append-nil (stored forest))) ∙ ap top (restored_stored forest [] [])

abbrev pub coded_forest : {L : Type 0} → Coded L → Coded (Forest L)
coded_forest {L} coded = code_by (List (Option L)) (coded_list (coded_option coded)) stored (λ all. top (restored all [])) stored_whole
