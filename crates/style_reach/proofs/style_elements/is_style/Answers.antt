use Rattle.forest.specs.Spots.{label_of}
use Rattle.std.proofs.Common.{refl}
use Rattle.style_reach.proofs.StyleLookups.{is_style_by}
use Rattle.style_reach.proofs.style_elements.is_style.Goals as goal

pub returns : goal.returns
returns c = is_style_by (label_of c.args.arena.now.tree c.args.key) c.name.result _ c.eq.result c.name.ensures.characters c.name.ensures.bytes refl c.eq.ensures
