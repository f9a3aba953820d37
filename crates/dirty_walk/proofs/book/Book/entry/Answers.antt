use Rattle.std.proofs.Common.{◌≡◌, ◌∙◌, ap, subst, sym}
use Rattle.std.specs.Prelude.{is_some, option_copied, option_map}
use Rattle.forest.specs.Forest.{Forest}
use Rattle.forest.specs.Keys.{Keyed, HasDistinctKeys}
use Rattle.plain_types.specs.declared.node.Node.{Node}
use Rattle.generated_texts.specs.StyleElements.{author_sheet}
use Rattle.kept_elements.specs.declared.kept.Kept.{Kept}
use Rattle.kept_elements.specs.Changes.{entry_at}
use Rattle.dirty_walk.specs.Books.{StyledDocument, fresh_kept}
use Rattle.kept_elements.proofs.KeptLemmas.{copied_some}
use Rattle.kept_elements.proofs.ToldLemmas.{entry_in, kept_keys}
use Rattle.dirty_walk.proofs.book.Book.entry.Goals as goal

pub unwrap-requires : goal.unwrap-requires
unwrap-requires g c =
    let tree : c.self.inside.arena.tree ≡ c.args.self.now.tree = ap (λ (styled : StyledDocument). styled.tree) c.self.view_is in
    let kept =
    c.get.ensures.value
    ∙ c.self.invariant.kept (ap (λ (styled : StyledDocument). styled.settled) c.self.view_is ∙ c.requires.settled) c.args.key
    ∙ ap (λ (styled : StyledDocument). fresh_kept styled c.args.key) c.self.view_is in
    sym (copied_some c.get.result)
    ∙ ap is_some kept
    ∙ kept_keys (author_sheet c.args.self.now.sheet c.args.self.now.tree) c.args.self.now.tree
    (subst (λ (t : Forest (Keyed Node)). HasDistinctKeys t) tree c.arena_holds_document.ensures.document.distinct)
    c.args.key
    ∙ c.requires.element

pub returns-clause-entry : goal.returns-clause-entry
returns-clause-entry g c =
    let tree : c.self.inside.arena.tree ≡ c.args.self.now.tree = ap (λ (styled : StyledDocument). styled.tree) c.self.view_is in
    ap (λ o. option_map (λ (kept : Kept). kept.entry) (option_copied o)) (sym c.unwrap.ensures)
    ∙ ap (option_map (λ (kept : Kept). kept.entry))
    (c.get.ensures.value
    ∙ c.self.invariant.kept (ap (λ (styled : StyledDocument). styled.settled) c.self.view_is ∙ c.requires.settled) c.args.key
    ∙ ap (λ (styled : StyledDocument). fresh_kept styled c.args.key) c.self.view_is)
    ∙ entry_in (author_sheet c.args.self.now.sheet c.args.self.now.tree) c.args.self.now.tree
    (subst (λ (t : Forest (Keyed Node)). HasDistinctKeys t) tree c.arena_holds_document.ensures.document.distinct)
    c.args.key

pub returns-clause-held : goal.returns-clause-held
returns-clause-held g c =
    ap (λ o. option_map (λ (kept : Kept). kept.entry) (option_copied o)) (sym c.unwrap.ensures)
    ∙ ap (option_map (λ (kept : Kept). kept.entry)) c.get.ensures.value
    ∙ ap (λ (styled : StyledDocument). entry_at styled.kept c.args.key) c.self.view_is
