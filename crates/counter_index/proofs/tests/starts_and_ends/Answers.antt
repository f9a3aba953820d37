use Rattle.std.proofs.Common.{◌<◌, ℕ, List, [], Option}
use Rattle.std.specs.Prelude.{IfSome}
use Rattle.std.proofs.lemmas.List.Elements.{All-cons, All-nil}
use Rattle.box_eval.specs.declared.inputs.Start.{Start}
use Rattle.counter_index.proofs.tests.starts_and_ends.Goals as goal

abbrev IsBelow : ℕ → ℕ × Option (List Start) → Type 0
IsBelow room entry = IfSome entry.1 (λ _. entry.0 < room)

pub exchange_starts-requires : goal.exchange_starts-requires
exchange_starts-requires c =
    let room : ℕ = c.args.index.now.starts.room in
    record { room = All-cons (IsBelow room) _ [] c.requires.room (All-nil (IsBelow room)) }
