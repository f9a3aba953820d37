-- Evaluations that hand something from node to node in tree order, down and up again (our own).
use Rattle.std.specs.Prelude.{◌≡◌, ℕ, Bool, true, false, List, [], ◌∷◌, ◌++◌, if◌then◌else◌}
use Rattle.forest.specs.Forest.{Forest, Empty, Tree, weigh}
use Rattle.forest.specs.Keys.{Keyed}

-- An evaluation of nodes with labels L, which hands on what is in H and keeps what is in K of each element. A node is
-- handed something, hands something to its first child, and something is handed on behind its children.
pub record Evaluator (L K H : Type 0) : Type 0 where
  -- something is kept of a node with this label
  pub is_element : L → Bool
  -- what a node hands to its first child
  pub within : Keyed L → (handed : H) → H
  -- what it hands to the node after it
  pub past : Keyed L → (handed behind : H) → H
  -- what is kept of it
  pub kept : Keyed L → (handed behind : H) → K
  -- what it was handed, and what was handed on behind its children, told by what is kept of it
  pub handed_in : K → H
  pub behind_in : K → H
  -- the same is handed
  pub is_same : H → H → Bool

-- what is kept tells what was handed, the test is right, and a node of which nothing is kept hands on what it is handed
pub record IsSound {L K H : Type 0} (evaluator : Evaluator L K H) : Type 0 where
  pub handed : (node : Keyed L) (handed behind : H) → evaluator.handed_in (evaluator.kept node handed behind) ≡ handed
  pub behind : (node : Keyed L) (handed behind : H) → evaluator.behind_in (evaluator.kept node handed behind) ≡ behind
  pub same : (first second : H) → evaluator.is_same first second ≡ true → first ≡ second
  pub itself : (handed : H) → evaluator.is_same handed handed ≡ true
  pub text : (node : Keyed L) (handed behind : H) → evaluator.is_element node.label ≡ false → evaluator.past node handed behind ≡ handed

-- what the calls ask for that open and close an element
pub record Asks (L H : Type 0) : Type 1 where
  pub opens : Keyed L → (handed : H) → Type 0
  pub closes : Keyed L → (handed behind : H) → Type 0

module _ {L K H : Type 0} (evaluator : Evaluator L K H) where
  -- what is kept of a node, under its key
  abbrev pub told : Keyed L → (handed behind : H) → List (ℕ × K)
  told node handed behind = if evaluator.is_element node.label then (node.key, evaluator.kept node handed behind) ∷ [] else []

  -- what is handed on behind trees
  abbrev pub past_all : H → Forest (Keyed L) → H
  past_all handed Empty = handed
  past_all handed (Tree node children after) = past_all (evaluator.past node handed (past_all (evaluator.within node handed) children)) after

  -- what is kept of their elements, in the order in which these are left
  abbrev pub told_all : H → Forest (Keyed L) → List (ℕ × K)
  told_all handed Empty = []
  told_all handed (Tree node children after) =
      told_all (evaluator.within node handed) children
      ++ (told node handed (past_all (evaluator.within node handed) children)
      ++ told_all (evaluator.past node handed (past_all (evaluator.within node handed) children)) after)

  -- what a node is handed, under its key
  abbrev pub input : Keyed L → H → List (ℕ × H)
  input node handed = if evaluator.is_element node.label then (node.key, handed) ∷ [] else []

  -- what each of their elements is handed, in tree order
  abbrev pub inputs : H → Forest (Keyed L) → List (ℕ × H)
  inputs handed Empty = []
  inputs handed (Tree node children after) =
      input node handed
      ++ (inputs (evaluator.within node handed) children
      ++ inputs (evaluator.past node handed (past_all (evaluator.within node handed) children)) after)

  -- each of their nodes can be opened and closed with what it is handed
  abbrev pub AllFit : Asks L H → H → Forest (Keyed L) → Type 0
  AllFit asks handed Empty = Unit {0}
  AllFit asks handed (Tree node children after) =
      asks.opens node handed
      × AllFit asks (evaluator.within node handed) children
      × asks.closes node handed (past_all (evaluator.within node handed) children)
      × AllFit asks (evaluator.past node handed (past_all (evaluator.within node handed) children)) after

module _ {L : Type 0} (is_element : L → Bool) where
  -- the elements, each with the weight of its key
  abbrev pub weigh_elements : (ℕ → ℕ) → Forest (Keyed L) → ℕ
  weigh_elements weight trees = weigh (λ (node : Keyed L). if is_element node.label then weight node.key else 0) trees

  abbrev pub count_of_elements : Forest (Keyed L) → ℕ
  count_of_elements trees = weigh_elements (λ _. 1) trees
