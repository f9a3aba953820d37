use Rattle.std.proofs.Common.{◌≡◌, Result, subst}
use Rattle.std.specs.Prelude.{IfOk}
use Rattle.css_definitions.specs.CounterStyles.{finished_styles}
use Rattle.plain_types.specs.declared.sheet.Sheet.{Sheet}
use Rattle.marker_cli.proofs.table.styles_of.Goals as goal

-- what holds of a sheet holds of it by another name
as_sheet : {T E : Type 0} (result : Result T E) (P : Sheet → T → Type 0) {sheet other : Sheet} → sheet ≡ other → IfOk result (P sheet) → IfOk result (P other)
as_sheet result P same holds = subst (λ s. IfOk result (P s)) same holds

pub returns : goal.returns
returns c = record { styles = as_sheet c.build.result (λ sheet table. table ≡ finished_styles sheet.styles) c.in_ok-sheet.ensures.sheet c.build.ensures.styles }
