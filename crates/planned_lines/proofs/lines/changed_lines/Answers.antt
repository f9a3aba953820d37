use Rattle.std.proofs.Common.{◌∙◌, List, ℕ, ap, arith, flat_map, length, subst, sym}
use Rattle.std.proofs.lemmas.Result.{IfOk-weaker}
use Rattle.forest.specs.Forest.{Forest}
use Rattle.forest.specs.Keys.{Keyed, keys}
use Rattle.plain_types.specs.declared.node.Node.{Node}
use Rattle.merged_walk.specs.Entries.{last_at}
use Rattle.kept_elements.specs.declared.kept_change.KeptChange.{KeptChange}
use Rattle.kept_elements.specs.Changes.{puts_of}
use Rattle.dirty_walk.specs.Plans.{AreOfElements, IsPlannedBy}
use Rattle.planned_lines.specs.Spans.{ShowNoOthers}
use Rattle.planned_lines.proofs.LookedUp.{few_looked, looked}
use Rattle.planned_lines.proofs.PlannedLines.{looked_have_lines, no_planned_lines, planned_lines, put_in, told}
use Rattle.planned_lines.proofs.SpanLemmas.{others_none}
use Rattle.planned_lines.proofs.lines.changed_lines.Goals as goal

pub edited_arena-arena-requires : goal.edited_arena-arena-requires
unfolding IsPlannedBy
edited_arena-arena-requires g c = record { planned = c.requires.planned.2.planned.0 }

pub span_of-requires : goal.span_of-requires
unfolding IsPlannedBy
span_of-requires g c = record {
  elements = subst (λ (tree : Forest (Keyed Node)). AreOfElements tree (puts_of c.puts-puts.result.now)) (sym c.edited_arena-arena.ensures.tree)
      (subst (λ (puts : List (ℕ × KeptChange)). AreOfElements c.args.book.now.tree (puts_of puts)) (sym c.puts-puts.ensures.puts) c.requires.planned.2.planned.2);
}

pub lines_within-requires : goal.lines_within-requires
unfolding IsPlannedBy
lines_within-requires g c = record {
  planned = c.requires.planned.2.planned.0;
  ends = c.in-Some.ensures.ends;
  others = λ key. others_none c.edited_arena-arena.result.now.tree c.in-Some.span c.puts-puts.result.now c.in-Some.ensures.puts key (c.in_ok-changes.ensures.last key);
}

pub returns-in_default : goal.returns-in_default
returns-in_default g c = record {
  lines = λ edit old from.
      c.new.ensures.items
      ∙ no_planned_lines c.plans_put_what_differs.ensures.puts edit old c.args.book.now c.args.plan.now from
      (subst (λ (puts : List (ℕ × KeptChange)). ShowNoOthers puts) c.puts-puts.ensures.puts c.in_default.ensures.none);
  line_steps = λ edit old from. omega arith;
  steps = omega arith;
}

pub returns-clause-steps : goal.returns-clause-steps
returns-clause-steps g c =
    let few = few_looked (put_in c.in_ok-changes.changes) c.edited_arena-arena.result.now.tree c.arena_holds_document.ensures.document.distinct c.puts-puts.result.now (λ key. c.in_ok-changes.ensures.last key) in
    omega (arith, few, c.lines_within.ensures.steps, ap length c.puts-puts.ensures.puts)

pub returns-clause-line_steps : goal.returns-clause-line_steps
returns-clause-line_steps g c = λ edit old from.
    let put_at = put_in c.in_ok-changes.changes in
    let lines =
    looked_have_lines c.plans_put_what_differs.ensures.puts edit old c.args.book.now c.args.plan.now from put_at
    (λ key. c.in_ok-changes.ensures.last key ∙ ap (λ (puts : List (ℕ × KeptChange)). last_at puts key) c.puts-puts.ensures.puts) in
    let same = ap (λ (tree : Forest (Keyed Node)). length (flat_map (looked put_at) (keys tree))) c.edited_arena-arena.ensures.tree in
    omega (arith, lines, same, c.lines_within.ensures.steps)

pub returns-clause-lines : goal.returns-clause-lines
returns-clause-lines g c =
    IfOk-weaker c.lines_within.result _ _
    (λ lines is edit old from.
    is
    ∙ ap (λ (tree : Forest (Keyed Node)). flat_map (told tree c.args.book.now.kept (put_in c.in_ok-changes.changes)) (keys tree)) c.edited_arena-arena.ensures.tree
    ∙ planned_lines c.plans_put_what_differs.ensures.puts edit old c.args.book.now c.args.plan.now from (put_in c.in_ok-changes.changes)
    (λ key. c.in_ok-changes.ensures.last key ∙ ap (λ (puts : List (ℕ × KeptChange)). last_at puts key) c.puts-puts.ensures.puts))
    c.lines_within.ensures.lines
