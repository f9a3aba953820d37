use Rattle.std.proofs.Common.{◌≡◌, ◌-◌}
use Rattle.edit_script.specs.Draws.{state_after}
use Rattle.edit_script.specs.Generator.{sections}
use Rattle.edit_script.specs.Machinery.Putting.{with_trees}
use Rattle.edit_script.proofs.sections.put_sections.Given as goal

abbrev pub invariant-loop-number : goal.invariant-loop-number
invariant-loop-number l = record {
  inside : l.builder.inside ≡ l.initial.builder.inside;
  built : with_trees l.builder (sections l.count (l.count - l.number) l.number l.draws.state) ≡ with_trees l.initial.builder (sections l.count l.count 0 l.initial.draws.state);
  drawn : state_after (l.count - l.number) l.draws.state ≡ state_after l.count l.initial.draws.state;
}
