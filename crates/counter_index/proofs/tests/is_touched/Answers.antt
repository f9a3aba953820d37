use Rattle.std.proofs.Common.{◌<◌, ◌∷◌, ℕ, [], Option, arith}
use Rattle.std.specs.Prelude.{IfSome}
use Rattle.std.proofs.lemmas.List.Elements.{All-cons, All-nil}
use Rattle.counter_index.specs.declared.deeds.CounterDeeds.{CounterDeeds}
use Rattle.counter_index.proofs.tests.is_touched.Goals as goal

abbrev IsBelow : ℕ → ℕ × Option CounterDeeds → Type 0
IsBelow room entry = IfSome entry.1 (λ _. entry.0 < room)

pub exchange-requires : goal.exchange-requires
exchange-requires c =
    let room : ℕ = c.args.index.now.deeds.room in
    let item : 2 < room = c.requires.room in
    record { room = All-cons (IsBelow room) _ (_ ∷ []) (omega (arith, item)) (All-cons (IsBelow room) _ [] item (All-nil (IsBelow room))) }
