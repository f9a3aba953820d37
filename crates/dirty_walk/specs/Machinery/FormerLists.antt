-- Former targets, as they are listed for an edit.
use Rattle.std.specs.Prelude.{ℕ, codes, flat_map, if◌then◌else◌, List, [], ◌∷◌, Option, Some}
use Rattle.std.specs.Option.{option_map_or}
use Rattle.std.specs.Str.{bytes_eq}
use Rattle.forest.specs.Forest.{Forest}
use Rattle.forest.specs.Keys.{Keyed}
use Rattle.forest.specs.Paths.{on_path}
use Rattle.plain_types.specs.Rows.{rows}
use Rattle.plain_types.specs.declared.edit.Edit.{Edit}
use Rattle.plain_types.specs.declared.edit.Edit.TheVariants.{Insert, Remove, Move, SetAttr, UnsetAttr, ReplaceSheet}
use Rattle.plain_types.specs.declared.node.Node.{Node}
use Rattle.plain_types.specs.declared.row.Row.{Row}
use Rattle.node_arena.specs.Changes.{alone}
use Rattle.generated_texts.specs.References.{first_holder}
use Rattle.referring_elements.specs.declared.former.FormerTarget.{FormerTarget}
use Rattle.dirty_walk.specs.Exchanges.{elements_in, id_of}
use Rattle.dirty_walk.specs.declared.exchange.ElementId.{ElementId}

module _ (document : Forest (Keyed Node)) where
  -- what an id names, where there is one
  abbrev pub former_of : Option (List ℕ) → List FormerTarget
  former_of id = option_map_or (λ id. record { id = id; element = first_holder document id } ∷ []) id []

  -- what the ids of elements name
  abbrev pub formers_of : List ElementId → List FormerTarget
  formers_of elements = flat_map (λ (element : ElementId). former_of element.id) elements

  -- what those of a fragment's nodes name
  abbrev pub formers_in : List Row → List FormerTarget
  formers_in rows = flat_map (λ (row : Row). former_of (id_of row.node)) rows

  -- what the value of an attribute names, where that is the id
  abbrev pub value_formers : (name value : List ℕ) → List FormerTarget
  value_formers name value = if bytes_eq name (codes "id") then former_of (Some value) else []

  -- what the ids name that an edit brings into the document, or moves in it
  abbrev pub coming_formers : Edit → List FormerTarget
  coming_formers (Insert parent index fragment) = formers_in (rows 0 fragment)
  coming_formers (Remove path) = []
  coming_formers (Move from parent index) = formers_of (elements_in (alone (on_path from document)))
  coming_formers (SetAttr path name value) = value_formers name value
  coming_formers (UnsetAttr path name) = []
  coming_formers (ReplaceSheet text) = []
