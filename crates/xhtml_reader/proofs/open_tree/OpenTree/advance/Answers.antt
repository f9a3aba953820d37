use Rattle.std.proofs.Common.{sym, ◌∙◌, ap}
use Rattle.std.specs.Str.{chars}
use Rattle.xml_definitions.specs.Characters.{is_plain}
use Rattle.xhtml_items.specs.Tokens.{item_of}
use Rattle.xhtml_items.proofs.ItemLaws.{begins_shorter}
use Rattle.xhtml_reader.specs.Machinery.Keeping.{kept}
use Rattle.xhtml_reader.proofs.Advances.{spanned, after_some, run_fits, item_fits, sound_names}
use Rattle.xhtml_reader.proofs.Texts.{full_chars}
use Rattle.xhtml_reader.proofs.open_tree.OpenTree.advance.Goals as goal

pub returns-then-not-is_empty-clause-advances : goal.returns-then-not-is_empty-clause-advances
returns-then-not-is_empty-clause-advances c =
    let old = kept c.args.self.now in
    run_fits old _ (chars c.args.text.now) (chars c.split_plain.result.0.now) _ (spanned is_plain _ _ _ c.split_plain.ensures.reads)
    (sym c.accepts_characters.ensures ∙ c.if-accepts_characters.true) (ap (λ waiting. record old { waiting = waiting }) c.in_ok-push_str.ensures.ok)

pub returns-then-not-is_empty-clause-shorter : goal.returns-then-not-is_empty-clause-shorter
returns-then-not-is_empty-clause-shorter c =
    after_some _ _ _ (spanned is_plain _ _ _ c.split_plain.ensures.reads).parts
    (full_chars _ c.split_plain.ensures.front (sym c.is_empty.ensures ∙ c.if-not-is_empty.true))

pub add-requires : goal.add-requires
add-requires c = sound_names (chars c.args.text.now) c.in-Ok-Some.token (chars c.in-Ok-Some.after.now) (rw c.in-Ok-Some.field-0-is at c.in-Ok-Some.ensures.item)

pub returns-then-branch-clause-advances : goal.returns-then-branch-clause-advances
returns-then-branch-clause-advances c =
    item_fits (kept c.args.self.now) (kept c.add.new.self) (chars c.args.text.now) (item_of c.in-Ok-Some.token) (chars c.in-Ok-Some.after.now) (rw c.in-Ok-Some.field-0-is at c.in-Ok-Some.ensures.item)
    (rw c.if-branch.true at c.in_ok-add-in-Ok-Some.ensures.adds)

pub returns-then-branch-clause-shorter : goal.returns-then-branch-clause-shorter
returns-then-branch-clause-shorter c = begins_shorter (chars c.args.text.now) (item_of c.in-Ok-Some.token) (chars c.in-Ok-Some.after.now) (rw c.in-Ok-Some.field-0-is at c.in-Ok-Some.ensures.item)
