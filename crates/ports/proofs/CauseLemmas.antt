-- Counts over one stretch of calls after another.
use Rattle.std.proofs.Common.{◌≡◌, ℕ, ◌+◌, ◌≤◌, arith}
use Rattle.ports.specs.Causes.{Raises, Rose, RoseAbove}

-- a count that rose later, or earlier, rose over the whole stretch
pub rose_after : (before middle now : ℕ) → before ≤ middle → Rose middle now → Rose before now
rose_after before middle now later rose = omega arith

pub rose_before : (before middle now : ℕ) → middle ≤ now → Rose before middle → Rose before now
rose_before before middle now later rose = omega arith

pub rose_above_after : (most before middle now : ℕ) → before ≤ middle → RoseAbove most middle now → RoseAbove most before now
rose_above_after most before middle now later rose = omega arith

pub rose_above_before : (most before middle now : ℕ) → middle ≤ now → RoseAbove most before middle → RoseAbove most before now
rose_above_before most before middle now later rose = omega arith

-- a count that did not rise
pub raises_none : (before none : ℕ) → none ≡ 0 → Raises before before none
raises_none before none zero = record { later = omega arith; least = omega arith; most = omega arith }

-- one raise after another
pub raises_more : (before middle now some more all : ℕ)
    → Raises before middle some → Raises middle now more → all ≡ some + more → Raises before now all
raises_more before middle now some more all first second sum =
    let low = first.least in
    let high = first.most in
    let lower = second.least in
    let higher = second.most in
    record { later = omega (arith, first.later, second.later); least = omega arith; most = omega arith }
