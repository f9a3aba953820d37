use Rattle.std.proofs.Common.{◌≡◌, List, ℕ, take}
use Rattle.std.specs.List.{flat_map}
use Rattle.css_reader.specs.Sheets.{sheet}
use Rattle.css_reader.proofs.sheet.read_sheets.Given as goal

abbrev pub invariant-loop-text : goal.invariant-loop-text
invariant-loop-text l = record {
  rules : l.sheet.rules ≡ flat_map (λ (text : List ℕ). (sheet text).rules) (take l.text-index l.texts);
  styles : l.sheet.styles ≡ flat_map (λ (text : List ℕ). (sheet text).styles) (take l.text-index l.texts);
}
