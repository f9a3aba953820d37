-- What comes to be kept under a key under which nothing is kept yet (our own).
use Rattle.std.specs.Prelude.{◌&&◌, ℕ, Option, Some, None, if◌then◌else◌, is_none, nat_lt}
use Rattle.std.specs.FinMap.{FinMap, get, insert}
use Rattle.std.specs.Ordering.{nat_cmp}

module _ {R : Type 0} where
  -- a map once this is put under a key, where something is given, the key is below a room and nothing is held under it
  abbrev pub put_missing : (room key : ℕ) → Option R → FinMap nat_cmp R → FinMap nat_cmp R
  put_missing room key None held = held
  put_missing room key (Some kept) held = if nat_lt key room && is_none (get held key) then insert held key kept else held
