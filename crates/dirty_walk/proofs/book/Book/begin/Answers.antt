use Rattle.std.proofs.Common.{◌≡◌, true, ap, refl, arith}
use Rattle.std.specs.Str.{chars}
use Rattle.forest.specs.Keys.{without_keys}
use Rattle.document_walk.specs.Elements.{element_count}
use Rattle.generated_texts.specs.StyleElements.{style_texts}
use Rattle.dirty_walk.proofs.PlanLemmas.{counts_where, its_text, kept_where, under_its_text}
use Rattle.dirty_walk.proofs.ReferenceLemmas.{refers_where}
use Rattle.dirty_walk.proofs.BookLemmas.{keeps_entries}
use Rattle.dirty_walk.proofs.book.Book.begin.Goals as goal

pub fresh_board-requires-clause-styles : goal.fresh_board-requires-clause-styles
fresh_board-requires-clause-styles g c = under_its_text c.in_ok-styles.styles (chars c.args.sheet.now) c.in_ok-arena.arena.tree c.in_ok-styles.ensures.styles

pub returns-in_err-board-clause-steps : goal.returns-in_err-board-clause-steps
returns-in_err-board-clause-steps g c =
    let same : element_count (without_keys c.in_ok-arena.arena.tree) ≡ element_count c.args.document = ap element_count c.in_ok-arena.ensures.tree in
    omega (arith, same, c.fresh_board.ensures.steps)

pub invariant_of-result : goal.invariant_of-result
invariant_of-result g c = record {
  agent_is = c.in_ok-agent.ensures.sheet;
  styles_are = under_its_text c.in_ok-styles.styles (chars c.args.sheet.now) c.in_ok-arena.arena.tree c.in_ok-styles.ensures.styles;
  kept = λ _.
      kept_where c.in_ok-arena.arena.tree c.in_ok-arena.arena.tree c.in_ok-styles.styles.sheet c.in_ok-styles.styles.sheet c.in_ok-board.field-0.kept.held c.in_ok-board.field-0.kept.held true true refl refl refl c.in_ok-board.ensures.keeps;
  room = c.in_ok-board.ensures.room;
  indexed = c.in_ok-board.ensures.indexed;
  refers =
      refers_where c.in_ok-arena.arena.tree c.in_ok-arena.arena.tree c.in_ok-styles.styles.sheet c.in_ok-board.field-0.index c.in_ok-board.field-0.index refl (λ id key. refl) c.in_ok-board.ensures.refers;
  counts = counts_where c.in_ok-arena.arena.tree c.in_ok-arena.arena.tree c.in_ok-styles.styles.sheet c.in_ok-board.field-0.counting refl c.in_ok-board.ensures.counts;
  back = tt;
  keys = c.in_ok-arena.ensures.settled;
}

pub returns-clause-sheet : goal.returns-clause-sheet
returns-clause-sheet g c = its_text c.in_ok-styles.styles (chars c.args.sheet.now) (style_texts c.in_ok-arena.arena.tree) c.in_ok-styles.ensures.styles

pub returns-clause-keeps : goal.returns-clause-keeps
returns-clause-keeps g c =
    keeps_entries (record { tree = c.in_ok-arena.arena.tree; sheet = c.in_ok-styles.styles.sheet; settled = true; kept = c.in_ok-board.field-0.kept.held })
    c.arena_holds_document.ensures.document.distinct c.in_ok-board.ensures.keeps

pub returns-clause-steps : goal.returns-clause-steps
returns-clause-steps g c =
    let same : element_count (without_keys c.in_ok-arena.arena.tree) ≡ element_count c.args.document = ap element_count c.in_ok-arena.ensures.tree in
    omega (arith, same, c.fresh_board.ensures.steps)
