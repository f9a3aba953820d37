use Rattle.std.proofs.Common.{◌≡◌, ◌++◌, ◌∷◌, ◌-◌, [], sym, ◌∙◌, ap, length, take}
use Rattle.std.specs.Str.{chars, encode_utf8_all}
use Rattle.std.proofs.lemmas.Str.{encodes-chars}
use Rattle.plain_types.specs.Building.{Building}
use Rattle.xml_definitions.specs.Items.{end_tag}
use Rattle.xhtml_reader.specs.Machinery.Keeping.{kept, name_bytes, with_text}
use Rattle.xhtml_reader.proofs.Keeps.{added_end, moved, names_last, names_popped, not_same, is_same, refused_end}
use Rattle.xhtml_reader.proofs.open_tree.OpenTree.add_end.Goals as goal

pub returns-then-ne-clause-adds : goal.returns-then-ne-clause-adds
returns-then-ne-clause-adds c = λ s keeps.
    let names = c.args.self.now.names.items in
    let item = rw c.deref.ensures.value at c.in-Some.ensures.item in
    let last = names_last names c.in-Some.innermost.now item.3.0 item.1 in
    let other = not_same c.in-Some.innermost.now.now c.args.name.now c.if-ne.ensures in
    refused_end (kept c.args.self.now) s (chars c.args.name.now) _ c.in-Some.innermost.now.now keeps last (λ e. other (e ∙ encodes-chars c.args.name.now c.utf8.name))

pub returns-clause-adds : goal.returns-clause-adds
returns-clause-adds c = λ s keeps.
    let old = kept c.args.self.now in
    let name = chars c.args.name.now in
    let names = c.args.self.now.names.items in
    let put = c.in_ok-put_text.ensures in
    let item = rw c.deref.ensures.value at c.in-Some.ensures.item in
    let front = name_bytes (take (length names - 1) names) in
    let same : c.in-Some.innermost.now.now ≡ encode_utf8_all name = is_same c.in-Some.innermost.now.now c.args.name.now c.if-ne.ensures ∙ sym (encodes-chars c.args.name.now c.utf8.name) in
    let last : old.names ≡ front ++ encode_utf8_all name ∷ [] = names_last names c.in-Some.innermost.now item.3.0 item.1 ∙ ap (λ t. front ++ t ∷ []) same in
    let popped = names_popped names c.put_text.new.self.names.items c.pop.new.self.items _ c.put_text.new.self.names.ok.0 put.names c.pop.ensures.rest in
    let ended : c.end.new.self ≡ record (with_text old.built old.waiting) { inside = old.built.inside - 1 } =
    c.end.ensures.ended ∙ ap (λ (built : Building). record built { inside = built.inside - 1 }) put.built in
    moved old.kind s (end_tag name) _ _
    (λ i. record { kind = put.kind i; has_doctype = put.doctype i; built = ended i; names = popped i; waiting = put.characters i })
    (added_end old s name front keeps (sym c.is_inside.ensures ∙ c.if-not-is_inside.false) last)
