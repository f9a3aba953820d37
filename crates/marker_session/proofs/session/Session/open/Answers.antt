use Rattle.std.proofs.Common.{◌≡◌, ◌≤◌, ◌+◌, ◌*◌, ◌∙◌, ℕ, ap, arith, subst}
use Rattle.std.specs.Str.{chars}
use Rattle.dirty_walk.specs.Books.{StyledDocument}
use Rattle.document_walk.specs.Elements.{element_count}
use Rattle.forest.specs.Forest.{Forest}
use Rattle.forest.specs.Keys.{without_keys}
use Rattle.plain_types.specs.declared.node.Node.{Node}
use Rattle.ports.proofs.GrownLemmas.{on_err}
use Rattle.xml_definitions.specs.Texts.{IsDocumentText}
use Rattle.marker_session.proofs.session.Session.open.Goals as goal

-- as many steps as there are for one document, where a text is that document alone
of_its : (its tree : Forest Node) (before after : ℕ) → its ≡ tree → after ≤ before + 8 * element_count its → after ≤ before + 8 * element_count tree
of_its its tree before after same few = subst (λ (other : Forest Node). after ≤ before + 8 * element_count other) same few

pub returns-in_err-engine-clause-stops : goal.returns-in_err-engine-clause-stops
returns-in_err-engine-clause-stops g c =
    let few : (tree : Forest Node) → IsDocumentText (chars c.args.xhtml.now) tree → c.start.new.steps ≤ c.args.steps.now + 8 * element_count tree =
    λ tree is.
    of_its c.in_ok-tree.tree tree c.args.steps.now c.start.new.steps
    (c.one_document_tree.ensures (chars c.args.xhtml.now) c.in_ok-tree.tree tree c.in_ok-tree.ensures.found is)
    (omega (arith, c.start.ensures.steps)) in
    on_err _ few

pub returns-in_err-listed-clause-stops : goal.returns-in_err-listed-clause-stops
returns-in_err-listed-clause-stops g c =
    let count : element_count (without_keys c.book-2.result.now.tree) ≡ element_count c.in_ok-tree.tree =
    ap element_count (ap (λ (book : StyledDocument). without_keys book.tree) c.book-2.ensures.book ∙ c.in_ok-engine.ensures.tree) in
    let few : (tree : Forest Node) → IsDocumentText (chars c.args.xhtml.now) tree → c.all_lines.new.steps ≤ c.args.steps.now + 8 * element_count tree =
    λ tree is.
    of_its c.in_ok-tree.tree tree c.args.steps.now c.all_lines.new.steps
    (c.one_document_tree.ensures (chars c.args.xhtml.now) c.in_ok-tree.tree tree c.in_ok-tree.ensures.found is)
    (omega (arith, c.all_lines.ensures.steps, c.start.ensures.steps, count)) in
    on_err _ few
