use Rattle.std.proofs.Common.{◌≡◌}
use Rattle.css_definitions.specs.PredefinedStyles.{symbols_of}
use Rattle.counter_style_table.proofs.predefined.symbols_of.Given as goal

abbrev pub invariant-loop-character : goal.invariant-loop-character
invariant-loop-character l = l.symbols ≡ symbols_of l.yielded
