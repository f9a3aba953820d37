-- What edits make of what an engine stands for (our own).
use Rattle.std.specs.Prelude.{Some, None, Result, Ok, Err}
use Rattle.plain_types.specs.declared.edit.Edit.{Edit}
use Rattle.node_arena.specs.declared.place_fault.PlaceFault.{PlaceFault}
use Rattle.node_arena.specs.declared.place_fault.PlaceFault.TheVariants as place
use Rattle.node_arena.specs.Edits as edits
use Rattle.marker_engine.specs.declared.edit_fault.EditFault.{EditFault}
use Rattle.marker_engine.specs.declared.edit_fault.EditFault.TheVariants as fault
use Rattle.marker_engine.specs.Engines.{Source}

-- the document and the sheet as the edit leaves them, or why it is refused
abbrev pub edited : Source → Edit → Result Source PlaceFault
edited source edit = elim (edits.place_fault edit source.tree) [
  | None ↦ Ok (record { tree = edits.edited edit source.tree; sheet = edits.edited_sheet edit source.sheet })
  | Some fault ↦ Err fault
]

-- what an engine answers to an edit that is refused so
abbrev pub edit_fault : PlaceFault → EditFault
edit_fault place.NoPlace = fault.NoPlace
edit_fault place.IntoItself = fault.IntoItself
