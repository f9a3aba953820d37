use Rattle.edit_script.proofs.SectionLaws.{section-put}
use Rattle.edit_script.proofs.sections.put_section.Goals as goal

pub returns : goal.returns
returns c = record {
  ok =
      section-put c.args.builder.now c.start.new.self c.put_heading.new.builder c.put_items.new.builder c.put_link.new.builder c.end.new.self c.args.number c.args.target c.in_ok-copied.field-0 c.in_ok-attrs.attrs c.in_ok-id.id
      c.in_ok-copied.ensures.characters c.in_ok-attrs.ensures.one c.in_ok-id.ensures.characters c.in_ok-start.ensures.ok c.in_ok-put_heading.ensures.ok c.in_ok-put_items.ensures.ok c.in_ok-put_link.ensures.ok c.end.ensures.ended;
}
