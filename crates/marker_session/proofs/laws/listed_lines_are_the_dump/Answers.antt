use Rattle.std.proofs.Common.{◌∙◌, List, IsPermutation, ap, filter, map, subst}
use Rattle.dump_definitions.specs.Dump.{Line}
use Rattle.changed_lines.specs.Listings.{shown_line, stands_first}
use Rattle.dirty_walk.specs.Books.{keyed_source}
use Rattle.marker_session.specs.Sessions.{all_lines}
use Rattle.marker_session.proofs.laws.listed_lines_are_the_dump.Goals as goal

pub returns : goal.returns
returns c = record {
  once = λ styled distinct.
      subst (λ (lines : List Line). IsPermutation (all_lines styled) (map shown_line lines)) (c.keys_do_not_matter.ensures.tree styled.sheet styled.tree distinct)
      (c.all_lines_are_the_dump.ensures.once (keyed_source styled));
  order = λ styled distinct.
      c.all_lines_are_the_dump.ensures.order (keyed_source styled)
      ∙ ap (λ (lines : List Line). map shown_line (filter (λ (line : Line). stands_first line.kind) lines)) (c.keys_do_not_matter.ensures.tree styled.sheet styled.tree distinct);
}
