use Rattle.std.proofs.Common.{◌≡◌, ◌<◌, ◌-◌, length}
use Rattle.css_definitions.proofs.FallbackLaws.{walked}
use Rattle.representation.proofs.represent.follow_fallbacks.Given as goal

abbrev pub invariant-loop-turn : goal.invariant-loop-turn
invariant-loop-turn l = record {
  here : l.place < length l.table;
  to_do : walked l.table l.value (length l.table - l._turn) l.place ≡ walked l.table l.value (length l.table) l.start;
}
