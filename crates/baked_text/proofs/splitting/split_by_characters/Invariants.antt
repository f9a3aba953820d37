use Rattle.std.proofs.Common.{length}
use denote.Text.{Utf8}
use denote.Shadow.{shadow}
use Rattle.std.specs.Str.{chars}
use Rattle.baked_text.proofs.SplitLaws.{Splitting}
use Rattle.baked_text.proofs.splitting.split_by_characters.Given as goal

abbrev pub invariant-loop-after : goal.invariant-loop-after
invariant-loop-after l = record { utf8 : shadow (Utf8 l.rest); unread_utf8 : shadow (Utf8 l.unread); splitting : Splitting l.kept l.read l.rest l.unread }

abbrev pub decreases-loop-after : goal.decreases-loop-after
decreases-loop-after l = length (chars l.unread)
