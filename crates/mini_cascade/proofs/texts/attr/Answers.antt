use Rattle.mini_cascade.proofs.Ascii.{chars-ascii}
use Rattle.mini_cascade.proofs.texts.attr.Goals as goal

pub returns : goal.returns
returns c = record { characters = rw (chars-ascii c.args.name.now c.requires.ascii) at c.attr.ensures.characters }
