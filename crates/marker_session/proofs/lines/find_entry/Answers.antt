use Rattle.std.proofs.Common.{◌≡◌, ◌∙◌, Option, None, Some, ap, option_copied, refl, subst, sym}
use Rattle.std.proofs.lemmas.Bool.{false≢true}
use Rattle.std.specs.Prelude.{false, is_some}
use Rattle.forest.specs.Forest.{Forest}
use Rattle.forest.specs.Keys.{Keyed, HasDistinctKeys}
use Rattle.generated_texts.specs.StyleElements.{author_sheet}
use Rattle.node_arena.specs.Nodes.{name_of}
use Rattle.plain_types.specs.declared.node.Node.{Node}
use Rattle.marker_session.proofs.lines.find_entry.Goals as goal

nothing : {A : Type 0} (o : Option A) → is_some o ≡ false → None ≡ o
nothing None e = refl
nothing (Some value) e = absurd (false≢true (sym e))

-- a text has no name, and so no entry
pub returns-in_err-_name-clause-entry : goal.returns-in_err-_name-clause-entry
returns-in_err-_name-clause-entry g c =
    let distinct = subst (λ (t : Forest (Keyed Node)). HasDistinctKeys t) c.requires.tree c.arena_holds_document.ensures.document.distinct in
    let unnamed = c.in_err-_name.ensures.characters ∙ ap (λ (t : Forest (Keyed Node)). name_of t c.args.key) c.requires.tree in
    let elements = c.elements_have_entries.ensures.keys (author_sheet c.args.book.now.sheet c.args.book.now.tree) c.args.book.now.tree c.args.key distinct in
    ap option_copied c.from_residual.ensures ∙ nothing _ (elements ∙ ap is_some (sym unnamed))
