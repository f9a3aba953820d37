use Rattle.std.proofs.Common.{◌≡◌, ◌∙◌}
use Rattle.std.specs.List.{position_or_len}
use Rattle.lane_class.specs.Ranges.{is_in}
use Rattle.xhtml_items.proofs.PassLaws.{first_place, no_stop_before, stop_boundary}
use Rattle.xhtml_items.proofs.passing.split_at_stop.Goals as goal

pub split_at-requires : goal.split_at-requires
split_at-requires c =
    let place : c.unwrap_or-place.result ≡ position_or_len (is_in c.args.stops.now) c.args.text.now =
    c.unwrap_or-place.ensures ∙ rw (c.first_in.ensures, c.as_bytes.ensures.value) (first_place (is_in c.args.stops.now) c.args.text.now) in
    stop_boundary c.args.stops.now c.args.text.now _ c.requires.first place

pub returns-clause-passed : goal.returns-clause-passed
returns-clause-passed c =
    let place : c.unwrap_or-place.result ≡ position_or_len (is_in c.args.stops.now) c.args.text.now =
    c.unwrap_or-place.ensures ∙ rw (c.first_in.ensures, c.as_bytes.ensures.value) (first_place (is_in c.args.stops.now) c.args.text.now) in
    rw c.split_at.ensures.front (no_stop_before c.args.stops.now c.args.text.now c.unwrap_or-place.result place)
