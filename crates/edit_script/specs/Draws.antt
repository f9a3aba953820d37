-- Numbers that look as if they were drawn by lot: a linear congruential generator (our own choice of one).
use Rattle.std.specs.Prelude.{ℕ, zero, suc, ◌+◌, ◌*◌, ◌/◌, ◌%◌, List, [], ◌∷◌}

-- the state after a state
abbrev pub next_state : ℕ → ℕ
next_state state = (state * 1103515245 + 12345) % 2147483648

-- the state after so many draws
unfoldable pub state_after : ℕ → ℕ → ℕ
state_after zero state = state
state_after (suc draws) state = state_after draws (next_state state)

-- what a state gives: its upper bits
abbrev pub quotient : ℕ → ℕ
quotient state = state / 65536

-- the quotients of so many draws, from this state on
unfoldable pub quotients : ℕ → ℕ → List ℕ
quotients zero state = []
quotients (suc draws) state = quotient (next_state state) ∷ quotients draws (next_state state)

-- what is drawn below a bound, once the state is this one
abbrev pub drawn : ℕ → ℕ → ℕ
drawn bound state = quotient state % bound
