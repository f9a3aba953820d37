use Rattle.std.proofs.Common.{◌≡◌, ◌∙◌, List, Option, ℕ, ap, subst, option_copied, unwrap_or}
use Rattle.std.specs.Borrow.{Bor}
use Rattle.forest.specs.Forest.{Forest}
use Rattle.forest.specs.Keys.{Keyed}
use Rattle.plain_types.specs.declared.node.Node.{Node}
use Rattle.generated_texts.specs.StyleElements.{author_sheet, style_texts}
use Rattle.node_arena.specs.Edits.{edited_sheet}
use Rattle.dirty_walk.specs.declared.document_styles.DocumentStyles.{DocumentStyles}
use Rattle.kept_elements.specs.Changes.{Renews}
use Rattle.started_walk.specs.Countings.{Counts}
use Rattle.dirty_walk.specs.DocumentStyles.{document_styles}
use Rattle.referring_elements.specs.Indexes.{TellsReferences}
use Rattle.kept_elements.specs.Evaluations.{document_kept, evaluated_document}
use Rattle.dirty_walk.proofs.PlanLemmas.{its_text, now-unwrap_or, under_its_text}
use Rattle.dirty_walk.proofs.planning.from_whole.Goals as goal

-- the styles that are evaluated under: the new ones, or else those from before
chosen : (new : Option DocumentStyles) (lent : Option (Bor DocumentStyles)) (before picked : Bor DocumentStyles) (text : List ℕ) (tree : Forest (Keyed Node))
    → picked ≡ unwrap_or lent before → option_copied lent ≡ new → unwrap_or new before.now ≡ document_styles text tree
    → picked.now ≡ document_styles text tree
chosen new lent before picked text tree is lends are =
    ap (λ (styles : Bor DocumentStyles). styles.now) is ∙ now-unwrap_or lent before ∙ ap (λ (new : Option DocumentStyles). unwrap_or new before.now) lends ∙ are

pub invariant_of-styled-clause-styles_are : goal.invariant_of-styled-clause-styles_are
invariant_of-styled-clause-styles_are g c =
    let text = edited_sheet c.args.document.now.edit.now c.args.document.now.styles.now.sheet in
    let tree = c.args.document.now.arena.now.tree in
    under_its_text c.unwrap_or.result.now text tree
    (chosen c.in_ok-new.new c.as_ref.result c.args.document.now.styles c.unwrap_or.result text tree c.unwrap_or.ensures c.as_ref.ensures.value c.in_ok-new.ensures.styles)

pub returns-clause-changes : goal.returns-clause-changes
returns-clause-changes g c =
    let text = edited_sheet c.args.document.now.edit.now c.args.document.now.styles.now.sheet in
    let tree = c.args.document.now.arena.now.tree in
    let are = chosen c.in_ok-new.new c.as_ref.result c.args.document.now.styles c.unwrap_or.result text tree c.unwrap_or.ensures c.as_ref.ensures.value c.in_ok-new.ensures.styles in
    subst (λ (text : List ℕ). Renews c.args.board.now.held (document_kept (author_sheet text tree) tree) c.in_ok-kept.field-0.kept.items)
    (its_text c.unwrap_or.result.now text (style_texts tree) are)
    c.in_ok-kept.ensures.changes

pub returns-clause-counts : goal.returns-clause-counts
returns-clause-counts g c =
    let text = edited_sheet c.args.document.now.edit.now c.args.document.now.styles.now.sheet in
    let tree = c.args.document.now.arena.now.tree in
    let are = chosen c.in_ok-new.new c.as_ref.result c.args.document.now.styles c.unwrap_or.result text tree c.unwrap_or.ensures c.as_ref.ensures.value c.in_ok-new.ensures.styles in
    subst (λ (text : List ℕ). Counts (record { tree = tree; sheet = text }) c.in_ok-kept.field-0.counting) (its_text c.unwrap_or.result.now text (style_texts tree) are) c.in_ok-kept.ensures.counts

pub returns-clause-index : goal.returns-clause-index
returns-clause-index g c =
    let text = edited_sheet c.args.document.now.edit.now c.args.document.now.styles.now.sheet in
    let tree = c.args.document.now.arena.now.tree in
    let are = chosen c.in_ok-new.new c.as_ref.result c.args.document.now.styles c.unwrap_or.result text tree c.unwrap_or.ensures c.as_ref.ensures.value c.in_ok-new.ensures.styles in (
      c.in_ok-kept.ensures.indexed,
      subst (λ (text : List ℕ). TellsReferences c.in_ok-kept.field-0.index (evaluated_document (author_sheet text tree) tree))
          (its_text c.unwrap_or.result.now text (style_texts tree) are)
          c.in_ok-kept.ensures.refers,
    )
