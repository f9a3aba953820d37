-- What is held, once something comes that is put where nothing is.
use Rattle.std.proofs.Common.{◌≡◌, ◌==◌, ◌&&◌, ◌∙◌, ℕ, Bool, true, false, cond, Option, Some, None, inl, inr, refl, sym, ap}
use Rattle.std.specs.Prelude.{is_none, nat_lt}
use Rattle.std.specs.Cmp.{nat_cmp_total, nat_eq_equiv, unsigned_tied}
use Rattle.std.specs.FinMap.{FinMap, get, insert, get-insert}
use Rattle.std.specs.Option.{option_or}
use Rattle.std.specs.Ordering.{nat_cmp}
use Rattle.std.proofs.lemmas.Bool.{and_parts, cases_Bool, eqb-true}
use Rattle.zero_walks.specs.Missing.{put_missing}

module _ {R : Type 0} where
  -- what is held already, or what comes under this key, where there is room
  abbrev pub or_missing : (held : Option R) (has_room here : Bool) → Option R → Option R
  or_missing held has_room here kept = option_or held (cond has_room (cond here kept None) None)

  nothing-comes : (held : Option R) (has_room here : Bool) → held ≡ or_missing held has_room here None
  nothing-comes None true true = refl
  nothing-comes None true false = refl
  nothing-comes None false here = refl
  nothing-comes (Some it) has_room here = refl

  none-there : (held : Option R) → is_none held ≡ true → held ≡ None
  none-there None is = refl
  none-there (Some it) is = absurd (cc)

  -- it is put under its key, where nothing is held
  put-here : (held : Option R) (has_room : Bool) (kept : R) → has_room ≡ true → held ≡ None → Some kept ≡ or_missing held has_room true (Some kept)
  put-here held has_room kept room none = rw (room, none) refl

  -- and else nothing changes
  not-here : (held : Option R) (has_room : Bool) (kept : Option R) → held ≡ or_missing held has_room false kept
  not-here None true kept = refl
  not-here None false kept = refl
  not-here (Some it) has_room kept = refl

  held-here : (held : Option R) (has_room : Bool) (kept : Option R) → (has_room && is_none held) ≡ false → held ≡ or_missing held has_room true kept
  held-here None true kept is = absurd (cc)
  held-here None false kept is = refl
  held-here (Some it) has_room kept is = refl

  module _ (room at : ℕ) (kept : R) (held : FinMap nat_cmp R) (key : ℕ) where
    abbrev is_put : ℕ → Bool
    is_put k = nat_lt k room && is_none (get held k)

    inserted : get (insert held at kept) key ≡ cond (at == key) (Some kept) (get held key)
    inserted = get-insert nat_cmp_total held at kept key ∙ ap (λ here. cond here (Some kept) (get held key)) (unsigned_tied key at ∙ nat_eq_equiv.symm key at)

    put : (here : Bool) → (at == key) ≡ here → is_put at ≡ true → cond here (Some kept) (get held key) ≡ or_missing (get held key) (nat_lt key room) here (Some kept)
    put true same puts =
        let parts = and_parts (nat_lt key room) (is_none (get held key)) (ap is_put (sym (eqb-true at key same)) ∙ puts) in
        put-here (get held key) (nat_lt key room) kept parts.0 (none-there (get held key) parts.1)
    put false same puts = not-here (get held key) (nat_lt key room) (Some kept)

    not-put : (here : Bool) → (at == key) ≡ here → is_put at ≡ false → get held key ≡ or_missing (get held key) (nat_lt key room) here (Some kept)
    not-put true same puts = held-here (get held key) (nat_lt key room) (Some kept) (ap is_put (sym (eqb-true at key same)) ∙ puts)
    not-put false same puts = not-here (get held key) (nat_lt key room) (Some kept)

    some-missing : get (put_missing room at (Some kept) held) key ≡ or_missing (get held key) (nat_lt key room) (at == key) (Some kept)
    some-missing = elim (cases_Bool (is_put at)) [
      | inl puts ↦ ap (λ b. get (cond b (insert held at kept) held) key) puts ∙ inserted ∙ put (at == key) refl puts
      | inr not ↦ ap (λ b. get (cond b (insert held at kept) held) key) not ∙ not-put (at == key) refl not
    ]

  pub missing-put : (room at : ℕ) (kept : Option R) (held : FinMap nat_cmp R) (key : ℕ)
      → get (put_missing room at kept held) key ≡ or_missing (get held key) (nat_lt key room) (at == key) kept
  missing-put room at None held key = nothing-comes (get held key) (nat_lt key room) (at == key)
  missing-put room at (Some kept) held key = some-missing room at kept held key
