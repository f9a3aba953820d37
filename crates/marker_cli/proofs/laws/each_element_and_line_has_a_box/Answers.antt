use Rattle.marker_cli.proofs.GeneratedBoxes.{boxes_counted}
use Rattle.marker_cli.proofs.laws.each_element_and_line_has_a_box.Goals as goal

pub returns : goal.returns
returns c = λ seed count. boxes_counted seed count
