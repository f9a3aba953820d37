use Rattle.std.proofs.Common.{◌≡◌, ℕ, List, map, drop}
use Rattle.std.specs.Borrow.{Bor}
use Rattle.std.specs.List.{find}
use Rattle.std.specs.Str.{str_eq_ignore_ascii_case}
use Rattle.plain_types.proofs.style_name.first_equal.Given as goal

abbrev pub invariant-loop-known : goal.invariant-loop-known
invariant-loop-known l =
    find (str_eq_ignore_ascii_case l.name) (map (λ (known : Bor (List ℕ)). known.now) (drop l.known-index l.names))
    ≡ find (str_eq_ignore_ascii_case l.name) (map (λ (known : Bor (List ℕ)). known.now) l.names)
