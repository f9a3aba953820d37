-- What is formed at a place.
use Rattle.std.specs.Prelude.{List, false}
use Rattle.plain_types.specs.declared.attr.Attr.{Attr}
use Rattle.plain_types.specs.declared.content.Item.{Item}
use Rattle.plain_types.specs.declared.counter_style.CounterStyle.{CounterStyle}
use Rattle.plain_types.specs.declared.style.Style.{Style}
use Rattle.counter_sets.specs.Sets.{is_missing_in}
use Rattle.content_eval.specs.Contents.{generated}
use Rattle.content_eval.specs.declared.place.Place.{Place}
use Rattle.box_eval.specs.declared.counting.Counted.{Counted}
use Rattle.box_eval.specs.declared.formed.Formed.{Formed}
use Rattle.box_eval.specs.declared.inputs.Start.{Start}
use Rattle.box_eval.specs.Elements.{formed_box}
use Rattle.box_eval.specs.Properties.{counted}

-- the counters of a before or after box that inherits those of the place
abbrev pub counted_at : Style → List Start → Place → Counted
counted_at style starts place = counted (is_missing_in place.parent) place.creator starts false style place.set

-- the box of these items, with that style
abbrev pub box_formed : List CounterStyle → List Item → List Attr → Style → List Start → Place → Formed
box_formed table items attrs style starts place =
    formed_box (counted_at style starts place).changes
    (generated table items attrs style.quotes place.creator (is_missing_in place.parent) (counted_at style starts place).set place.depth)
