-- Which elements hold an id, and which refer to one. That an element holds the id which is the value of its `id`
-- attribute is DOM, 4.9; that it refers to the ids in its urls is CSS Generated Content 3, 2.6.
use Rattle.std.specs.Prelude.{◌≡◌, ℕ, Bool, true, List}
use Rattle.forest.specs.Forest.{Forest}
use Rattle.forest.specs.Keys.{Keyed}
use Rattle.forest.specs.Order.{Precedes}
use Rattle.plain_types.specs.declared.node.Node.{Node}
use Rattle.target_index.specs.declared.index.Index.{Index}
use Rattle.target_index.specs.Pairs.{is_pair, keys_of}

abbrev pub holders_of : Index → List ℕ → List ℕ
holders_of index id = keys_of index.holders id

abbrev pub references_of : Index → List ℕ → List ℕ
references_of index id = keys_of index.references id

abbrev pub is_holder : Index → List ℕ → ℕ → Bool
is_holder index id key = is_pair index.holders id key

abbrev pub is_reference : Index → List ℕ → ℕ → Bool
is_reference index id key = is_pair index.references id key

-- the element holds the id, and none that holds it precedes it (DOM, 1.1, tree order)
pub record IsFirstHolder (tree : Forest (Keyed Node)) (index : Index) (id : List ℕ) (key : ℕ) : Type 0 where
  pub holder : is_holder index id key ≡ true
  pub first : (other : ℕ) → is_holder index id other ≡ true → Precedes tree other key → ⊥
