use Rattle.std.specs.Str.{chars}
use Rattle.ports.proofs.NameLemmas.{look_found, look_on}
use Rattle.ports.proofs.named_file.find.Goals as goal

pub returns-then-is_named : goal.returns-then-is_named
returns-then-is_named c = record { first = look_found c.args.files.now (chars c.args.name.now) c.as_slice.result.now c.loop-file.file-index c.file-item.result c.is_named.result c.loop-file-test.true c.file-item.is c.is_named.ensures.same c.if-is_named.true c.as_slice.ensures.items c.loop-file.invariant }

pub loop-file-preserved : goal.loop-file-preserved
loop-file-preserved c = look_on c.args.files.now (chars c.args.name.now) c.loop-file.file-index c.file-item.result c.is_named.result c.loop-file-test.true c.file-item.is c.is_named.ensures.same c.if-is_named.false c.loop-file.invariant
