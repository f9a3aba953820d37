use Rattle.std.proofs.Common.{◌≡◌, drop}
use Rattle.std.specs.Str.{chars}
use Rattle.ports.specs.Files.{look_up}
use Rattle.ports.proofs.named_file.find.Given as goal

abbrev pub invariant-loop-file : goal.invariant-loop-file
invariant-loop-file l = look_up l.files (chars l.name) ≡ look_up (drop l.file-index l.files) (chars l.name)
