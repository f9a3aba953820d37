-- How what went out grows (our own). `None` is a sink that doesn't tell what it holds.
use Rattle.std.specs.Prelude.{◌≡◌, ℕ, List, ◌++◌, Option, Some, None}

-- what a sink holds once these bytes went out
abbrev pub grown : Option (List ℕ) → List ℕ → Option (List ℕ)
grown None bytes = None
grown (Some held) bytes = Some (held ++ bytes)

-- a front of these bytes went out
pub record GrowsByFront (before now : Option (List ℕ)) (bytes : List ℕ) : Type 0 where
  pub front : List ℕ
  pub rest : List ℕ
  pub parts : front ++ rest ≡ bytes
  pub went_out : now ≡ grown before front
