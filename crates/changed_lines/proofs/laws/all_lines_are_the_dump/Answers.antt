use Rattle.changed_lines.proofs.ListingLemmas.{all_by_elements, all_in_order, all_once}
use Rattle.changed_lines.proofs.laws.all_lines_are_the_dump.Goals as goal

pub returns : goal.returns
returns c = record { once = all_once; order = all_in_order; elements = all_by_elements }
