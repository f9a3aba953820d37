use Rattle.std.proofs.Common.{◌≡◌, false, take}
use Rattle.std.specs.List.{list_any}
use Rattle.plain_types.specs.Rows.{rows}
use Rattle.plain_types.specs.declared.row.Row.{Row}
use Rattle.style_reach.specs.TouchedSheets.{is_style}
use Rattle.style_reach.proofs.style_elements.have_style.Given as goal

abbrev pub invariant-loop-place : goal.invariant-loop-place
invariant-loop-place l = list_any (λ (row : Row). is_style row.node) (take l.place (rows 0 l.tree)) ≡ false
