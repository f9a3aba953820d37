use Rattle.std.proofs.Common.{◌≡◌, ◌-◌, sym, ◌∙◌, ap}
use Rattle.std.specs.Str.{chars}
use Rattle.plain_types.specs.Building.{Building}
use Rattle.xml_definitions.specs.Items.{empty_tag}
use Rattle.xhtml_reader.specs.Machinery.Keeping.{kept, with_text}
use Rattle.xhtml_reader.proofs.Keeps.{added_empty, ends_again, moved, with_element}
use Rattle.xhtml_reader.proofs.open_tree.OpenTree.add_empty.Goals as goal

pub returns-clause-adds : goal.returns-clause-adds
returns-clause-adds c = λ s keeps.
    let old = kept c.args.self.now in
    let name = chars c.args.name.now in
    let put = c.in_ok-put_text.ensures in
    let started : c.start.new.self ≡ with_element (with_text old.built old.waiting) name c.args.attrs =
    c.in_ok-start.ensures.ok ∙ (λ i. with_element (put.built i) (c.in_ok-from_str.ensures.characters i) c.args.attrs) in
    let ended : c.end.new.self ≡ record (with_element (with_text old.built old.waiting) name c.args.attrs) { inside = old.built.inside } =
    c.end.ensures.ended ∙ ap (λ (built : Building). record built { inside = built.inside - 1 }) started ∙ ends_again (with_text old.built old.waiting) name c.args.attrs in
    moved old.kind s (empty_tag name c.args.attrs) _ _
    (λ i. record { kind = put.kind i; has_doctype = put.doctype i; built = ended i; names = put.names i; waiting = put.characters i })
    (added_empty old s name c.args.attrs keeps (sym c.accepts_element.ensures ∙ c.if-not-accepts_element.false))
