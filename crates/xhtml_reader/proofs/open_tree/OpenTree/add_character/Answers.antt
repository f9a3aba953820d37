use Rattle.std.proofs.Common.{◌∷◌, [], true, sym, ◌∙◌, refl, ap}
use Rattle.xml_definitions.specs.Items.{plain_character}
use Rattle.xhtml_reader.specs.Machinery.Keeping.{kept}
use Rattle.xhtml_reader.proofs.Keeps.{added_left, moved, waits_more}
use Rattle.xhtml_reader.proofs.open_tree.OpenTree.add_character.Goals as goal

pub returns-clause-adds : goal.returns-clause-adds
returns-clause-adds c = λ s keeps.
    let old = kept c.args.self.now in
    let cs = c.args.character ∷ [] in
    moved old.kind s (plain_character c.args.character) (waits_more old cs) _ (ap (λ waiting. record old { waiting = waiting }) c.in_ok-push.ensures.ok)
    (added_left old s (plain_character c.args.character) cs true refl (λ bad. absurd (let h = bad in cc)) keeps (sym c.accepts_characters.ensures ∙ c.if-not-accepts_characters.false))
