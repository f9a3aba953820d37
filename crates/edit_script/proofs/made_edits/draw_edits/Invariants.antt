use Rattle.std.proofs.Common.{◌≡◌, ◌-◌, ◌++◌}
use Rattle.edit_script.specs.Generator.{edits}
use Rattle.edit_script.proofs.made_edits.draw_edits.Given as goal

abbrev pub invariant-loop : goal.invariant-loop
invariant-loop l = l.list ++ edits l.sections (l.count - l.counter) l.draws.state ≡ edits l.sections l.count l.initial.draws.state
