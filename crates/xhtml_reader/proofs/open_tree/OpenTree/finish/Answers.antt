use Rattle.std.proofs.Common.{◌≡◌, sym, ◌∙◌, ap, subst, true, false}
use Rattle.plain_types.specs.Building.{is_whole}
use Rattle.plain_types.specs.Rows.{forest_of}
use Rattle.xhtml_reader.specs.Machinery.Keeping.{with_last_text, kept}
use Rattle.xhtml_reader.specs.Machinery.States.{IsFinal}
use Rattle.xhtml_reader.proofs.Keeps.{finished, not_finished}
use Rattle.xhtml_reader.proofs.open_tree.OpenTree.finish.Goals as goal

pub returns-then-is_whole : goal.returns-then-is_whole
returns-then-is_whole c = λ s keeps.
    let whole : is_whole (with_last_text (kept c.args.self)) ≡ true = sym (ap is_whole c.in_ok-end_text.ensures) ∙ sym c.is_whole.ensures ∙ c.if-is_whole.true in
    let tree = c.finish.ensures.tree ∙ ap (λ built. forest_of built.rows) c.in_ok-end_text.ensures in
    subst (λ t. IsFinal s t) (sym tree) (finished (kept c.args.self) s keeps whole)

pub returns : goal.returns
returns c = λ s keeps.
    let open_still : is_whole (with_last_text (kept c.args.self)) ≡ false = sym (ap is_whole c.in_ok-end_text.ensures) ∙ sym c.is_whole.ensures ∙ c.if-is_whole.false in
    not_finished (kept c.args.self) s keeps open_still
