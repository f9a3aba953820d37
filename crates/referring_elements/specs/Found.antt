-- Which elements are found through an index (our own).
use Rattle.std.specs.Prelude.{ℕ, nat_eq, Bool, false, ◌&&◌, ◌||◌, codes, List, Some}
use Rattle.std.specs.List.{list_any}
use Rattle.std.specs.Option.{option_eq, option_map_or}
use Rattle.forest.specs.Forest.{Forest}
use Rattle.forest.specs.Keys.{Keyed}
use Rattle.plain_types.specs.declared.node.Node.{Node}
use Rattle.node_arena.specs.Nodes.{attr_of}
use Rattle.generated_texts.specs.References.{first_holder}
use Rattle.target_index.specs.declared.index.Index.{Index}
use Rattle.target_index.specs.Holders.{is_reference}
use Rattle.referring_elements.specs.declared.former.FormerTarget.{FormerTarget}
use Rattle.referring_elements.specs.Former.{is_former}

-- the id names this element, which is the first that holds it
abbrev pub is_named : Forest (Keyed Node) → ℕ → List ℕ → Bool
is_named document target id = option_eq nat_eq (first_holder document id) (Some target)

module _ (document : Forest (Keyed Node)) (index : Index) where
  -- the element refers to an id that names another one than before
  abbrev pub refers_anew : ℕ → FormerTarget → Bool
  refers_anew key target = is_former document target && is_reference index target.id key

  -- the element refers to this one by its id
  abbrev pub refers_by_id : (key target : ℕ) → Bool
  refers_by_id key target = option_map_or (λ id. is_named document target id && is_reference index id key) (attr_of document target (codes "id")) false

  -- it refers to an id that names another element than before, or to one of these
  abbrev pub is_found : List FormerTarget → (targets : List ℕ) → ℕ → Bool
  is_found former targets key = list_any (refers_anew key) former || list_any (refers_by_id key) targets
