use Rattle.std.proofs.Common.{◌+◌, ◌++◌, ◌∙◌, ℕ, Option, ap, arith, flat_map, length, option_copied, sym, take}
use Rattle.forest.specs.Keys.{keys}
use Rattle.forest.specs.Order.{place_of}
use Rattle.forest.specs.Paths.{path_of}
use Rattle.referring_elements.proofs.WalkLemmas.{fewer_left}
use Rattle.dirty_walk.proofs.WalkLemmas.{last_told, next_told, told_more}
use Rattle.kept_elements.specs.declared.kept_change.KeptChange.{KeptChange}
use Rattle.planned_lines.specs.PutLines.{looked_up, put_lines}
use Rattle.planned_lines.proofs.LookedUp.{most_looked, next_looked}
use Rattle.planned_lines.proofs.PlannedLines.{put_in, told, untold}
use Rattle.planned_lines.proofs.SpanLemmas.{none_before, none_behind}
use Rattle.planned_lines.proofs.lines.lines_within.Goals as goal

pub walk-init : goal.walk-init
walk-init g c =
    let tree = c.args.arena.now.tree in
    let its = told tree c.args.book.now.kept (put_in c.args.changes.now) in
    record {
      live = c.requires.ends.first;
      gathered = c.new-lines.ensures.items
          ∙ sym (none_before its tree c.arena_holds_document.ensures.document.distinct c.args.span (untold tree c.args.book.now.kept (put_in c.args.changes.now) c.args.span c.requires.others));
      spent = omega arith;
    }

pub walk-smaller : goal.walk-smaller
walk-smaller g c = fewer_left c.args.arena.now.tree c.arena_holds_document.ensures.document.distinct c.walk.at c.walk.invariant.live c.in-Some.next (sym c.in-Some.ensures.link)

pub returns-then-at-span : goal.returns-then-at-span
returns-then-at-span g c =
    let tree = c.args.arena.now.tree in
    let held = c.args.book.now.kept in
    let distinct = c.arena_holds_document.ensures.document.distinct in
    let put_at = put_in c.args.changes.now in
    let its = told tree held put_at in
    let put = ap option_copied (c.copied-change.ensures ∙ c.get.ensures.value) in
    let most = most_looked put_at tree distinct c.walk.at c.walk.invariant.live in
    record {
      lines = c.in_ok-push_change.ensures.ok
          ∙ ap (λ (put : Option KeptChange). c.walk.lines.items ++ put_lines c.walk.at held (path_of tree c.walk.at) put) put
          ∙ ap (λ lines. lines ++ its c.walk.at) c.walk.invariant.gathered
          ∙ sym (told_more tree distinct c.walk.at c.walk.invariant.live its)
          ∙ ap (λ (key : ℕ). flat_map its (take (place_of tree key + 1) (keys tree))) c.if-at-span.true
          ∙ sym (none_behind its tree distinct c.args.span (untold tree held put_at c.args.span c.requires.others));
      steps = omega (arith, ap (λ (put : Option KeptChange). length (looked_up c.walk.at put)) put, most, c.walk.invariant.spent, c.push_change.ensures.steps);
    }

pub walk-preserved : goal.walk-preserved
walk-preserved g c =
    let tree = c.args.arena.now.tree in
    let held = c.args.book.now.kept in
    let distinct = c.arena_holds_document.ensures.document.distinct in
    let put_at = put_in c.args.changes.now in
    let its = told tree held put_at in
    let put = ap option_copied (c.copied-change.ensures ∙ c.get.ensures.value) in
    let next = next_looked put_at tree distinct c.walk.at c.walk.invariant.live c.in-Some.next (sym c.in-Some.ensures.link) in
    record {
      live = c.in-Some.ensures.live;
      gathered = c.in_ok-push_change.ensures.ok
          ∙ ap (λ (put : Option KeptChange). c.walk.lines.items ++ put_lines c.walk.at held (path_of tree c.walk.at) put) put
          ∙ ap (λ lines. lines ++ its c.walk.at) c.walk.invariant.gathered
          ∙ sym (next_told tree distinct c.walk.at c.walk.invariant.live its c.in-Some.next (sym c.in-Some.ensures.link));
      spent = omega (arith, ap (λ (put : Option KeptChange). length (looked_up c.walk.at put)) put, next, c.walk.invariant.spent, c.push_change.ensures.steps);
    }

pub returns-in_err-push_change-clause-steps : goal.returns-in_err-push_change-clause-steps
returns-in_err-push_change-clause-steps g c =
    let put = ap option_copied (c.copied-change.ensures ∙ c.get.ensures.value) in
    let most = most_looked (put_in c.args.changes.now) c.args.arena.now.tree c.arena_holds_document.ensures.document.distinct c.walk.at c.walk.invariant.live in
    omega (arith, ap (λ (put : Option KeptChange). length (looked_up c.walk.at put)) put, most, c.walk.invariant.spent, c.push_change.ensures.steps)

pub returns-in-None : goal.returns-in-None
returns-in-None g c =
    let tree = c.args.arena.now.tree in
    let held = c.args.book.now.kept in
    let distinct = c.arena_holds_document.ensures.document.distinct in
    let put_at = put_in c.args.changes.now in
    let its = told tree held put_at in
    let put = ap option_copied (c.copied-change.ensures ∙ c.get.ensures.value) in
    let most = most_looked put_at tree distinct c.walk.at c.walk.invariant.live in
    record {
      lines = c.in_ok-push_change.ensures.ok
          ∙ ap (λ (put : Option KeptChange). c.walk.lines.items ++ put_lines c.walk.at held (path_of tree c.walk.at) put) put
          ∙ ap (λ lines. lines ++ its c.walk.at) c.walk.invariant.gathered
          ∙ sym (last_told tree distinct c.walk.at c.walk.invariant.live its (sym c.in-None.ensures.link));
      steps = omega (arith, ap (λ (put : Option KeptChange). length (looked_up c.walk.at put)) put, most, c.walk.invariant.spent, c.push_change.ensures.steps);
    }
