use Rattle.std.proofs.Common.{◌≡◌, ◌+◌, ◌*◌, ◌++◌, false}
use Rattle.std.specs.List.{repeat}
use Rattle.std.specs.Str.{chars}
use Rattle.representation.proofs.draft.Draft.push.Given as goal

abbrev pub invariant-loop-done : goal.invariant-loop-done
invariant-loop-done l = record {
  text : l.self-inside.text ≡ l.initial.self-inside.text ++ repeat l.done (chars l.piece);
  room : l.self-inside.room + l.done * l.length ≡ l.initial.self-inside.room;
  is_over : l.self-inside.is_over ≡ false;
}
