use Rattle.std.proofs.Common.{refl}
use Rattle.mini_cascade.proofs.Ascii.{chars-ascii}
use Rattle.mini_cascade.proofs.hints.named.Goals as goal

pub returns : goal.returns
returns c = record { style = rw (c.in_ok-from_str.ensures.characters, chars-ascii c.args.name.now c.requires.ascii) refl }
