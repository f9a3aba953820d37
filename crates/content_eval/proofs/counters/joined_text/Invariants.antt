use Rattle.std.proofs.Common.{◌≡◌, ◌++◌, drop}
use Rattle.std.specs.Prelude.{filter}
use Rattle.std.specs.List.{join_by}
use Rattle.std.specs.Str.{chars}
use Rattle.counter_sets.specs.Sets.{is_named}
use Rattle.content_eval.specs.Contents.{counter_text}
use Rattle.content_eval.proofs.JoinLemmas.{joined_from}
use Rattle.content_eval.proofs.counters.joined_text.Given as goal

abbrev pub invariant-loop-counter : goal.invariant-loop-counter
invariant-loop-counter l =
    l.text ++ joined_from (counter_text l.table l.style) (chars l.between) l.is_first (filter (is_named (chars l.name)) (drop l.counter-index l.counter-items))
    ≡ join_by (counter_text l.table l.style) (chars l.between) (filter (is_named (chars l.name)) l.counter-items)
