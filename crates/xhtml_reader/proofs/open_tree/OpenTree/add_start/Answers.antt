use Rattle.std.proofs.Common.{◌≡◌, sym, ◌∙◌}
use Rattle.std.specs.Str.{chars}
use Rattle.xml_definitions.specs.Items.{start_tag}
use Rattle.xhtml_reader.specs.Machinery.Keeping.{kept, with_text}
use Rattle.xhtml_reader.proofs.Keeps.{added_start, moved, names_pushed, with_element}
use Rattle.xhtml_reader.proofs.open_tree.OpenTree.add_start.Goals as goal

pub returns-clause-adds : goal.returns-clause-adds
returns-clause-adds c = λ s keeps.
    let old = kept c.args.self.now in
    let name = chars c.args.name.now in
    let put = c.in_ok-put_text.ensures in
    let started : c.start.new.self ≡ with_element (with_text old.built old.waiting) name c.args.attrs =
    c.in_ok-start.ensures.ok ∙ (λ i. with_element (put.built i) (c.in_ok-from_str.ensures.characters i) c.args.attrs) in
    moved old.kind s (start_tag name c.args.attrs) _ _
    (λ i. record {
      kind = put.kind i;
      has_doctype = put.doctype i;
      built = started i;
      names = names_pushed c.put_text.new.self.names.items c.push.new.self.items c.args.self.now.names.items c.args.name c.in_ok-push.ensures.items put.names c.utf8.name i;
      waiting = put.characters i;
    })
    (added_start old s name c.args.attrs keeps (sym c.accepts_element.ensures ∙ c.if-not-accepts_element.false))
