use Rattle.std.proofs.Common.{not, sym, ◌∙◌, refl, ap}
use Rattle.std.specs.Str.{chars}
use Rattle.xml_definitions.specs.Items.{section}
use Rattle.xhtml_reader.specs.Machinery.Keeping.{kept}
use Rattle.xhtml_reader.proofs.Keeps.{added_left, refused_left, moved, waits_more, not_true, not_false}
use Rattle.xhtml_reader.proofs.Texts.{empty_chars, full_chars}
use Rattle.xhtml_reader.proofs.open_tree.OpenTree.add_section.Goals as goal

pub returns-then-not-accepts_characters-clause-adds : goal.returns-then-not-accepts_characters-clause-adds
returns-then-not-accepts_characters-clause-adds c = λ s keeps.
    let old = kept c.args.self.now in
    let cs = chars c.args.characters.now in
    refused_left old s (section cs) cs (not c.is_empty.result) refl
    (λ some. full_chars c.args.characters.now c.utf8.characters (sym c.is_empty.ensures ∙ not_true _ some))
    (λ kind. refl) keeps (sym c.accepts_characters.ensures ∙ c.if-not-accepts_characters.true)

pub returns-clause-adds : goal.returns-clause-adds
returns-clause-adds c = λ s keeps.
    let old = kept c.args.self.now in
    let cs = chars c.args.characters.now in
    moved old.kind s (section cs) (waits_more old cs) _ (ap (λ waiting. record old { waiting = waiting }) c.in_ok-push_str.ensures.ok)
    (added_left old s (section cs) cs (not c.is_empty.result) refl
    (λ none. empty_chars c.args.characters.now (sym c.is_empty.ensures ∙ not_false _ none))
    keeps (sym c.accepts_characters.ensures ∙ c.if-not-accepts_characters.false))
