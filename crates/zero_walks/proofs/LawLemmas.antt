-- What is kept of elements, once some go and others come.
use Rattle.std.proofs.Common.{◌≡◌, ◌==◌, ◌||◌, ℕ, Bool, true, false, cond, if◌then◌else◌, List, [], ◌∷◌, Option, Some, None, option_map, refl, ap, ◌∙◌}
use Rattle.std.specs.Cmp.{nat_cmp_total, nat_eq_equiv, unsigned_tied}
use Rattle.std.specs.FinMap.{FinMap, get, insert, remove, get-insert, get-remove}
use Rattle.std.specs.List.{list_any}
use Rattle.std.specs.Option.{option_or}
use Rattle.std.specs.Ordering.{nat_cmp}
use Rattle.merged_walk.specs.Entries.{last_at}
use Rattle.surroundings.specs.declared.told.Told.{Told}
use Rattle.surroundings.specs.declared.walked.Walked.{Walked}
use Rattle.snapshot_board.specs.Records.{put_all, take_all}
use Rattle.zero_walks.specs.Laws.{KeepsWhatIsTold}
use Rattle.zero_walks.specs.Told.{walked_of}

abbrev walked_in : Option Told → Option Walked
walked_in told = option_map (λ (told : Told). told.walked) told

-- an entry that comes before others: they are put over it
behind : (later : Option Told) (here : Bool) (told : Told) (before : Option Walked)
    → option_or (walked_in later) (cond here (Some told.walked) before) ≡ option_or (walked_in (option_or later (cond here (Some told) None))) before
behind None true told before = refl
behind None false told before = refl
behind (Some later) here told before = refl

put : (changes : List (ℕ × Told)) (held : FinMap nat_cmp Walked) (key : ℕ) → get (put_all (walked_of changes) held) key ≡ option_or (walked_in (last_at changes key)) (get held key)
put [] held key = refl
put (change ∷ changes) held key =
    put changes (insert held change.0 change.1.walked) key
    ∙ ap (option_or (walked_in (last_at changes key)))
    (get-insert nat_cmp_total held change.0 change.1.walked key ∙ ap (λ here. cond here (Some change.1.walked) (get held key)) (unsigned_tied key change.0 ∙ nat_eq_equiv.symm key change.0))
    ∙ behind (last_at changes key) (change.0 == key) change.1 (get held key)

gone : (first rest : Bool) (before : Option Walked) → cond rest None (cond first None before) ≡ cond (first || rest) None before
gone true true before = refl
gone true false before = refl
gone false rest before = refl

taken : (takes : List ℕ) (held : FinMap nat_cmp Walked) (key : ℕ) → get (take_all takes held) key ≡ cond (list_any (λ taken. taken == key) takes) None (get held key)
taken [] held key = refl
taken (take ∷ takes) held key =
    taken takes (remove held take) key
    ∙ ap (cond (list_any (λ taken. taken == key) takes) None)
    (get-remove nat_cmp_total held take key ∙ ap (λ here. cond here None (get held key)) (unsigned_tied key take ∙ nat_eq_equiv.symm key take))
    ∙ gone (take == key) (list_any (λ taken. taken == key) takes) (get held key)

-- what is kept of what is told, told by what is told
over : (last told : Option Told) (is_taken : Bool) → option_or (walked_in last) (cond is_taken None (walked_in told)) ≡ walked_in (option_or last (if is_taken then None else told))
over None told true = refl
over None told false = refl
over (Some last) told is_taken = refl

pub what_is_told_is_kept : KeepsWhatIsTold
what_is_told_is_kept held told changes takes keeps key =
    put changes (take_all takes held) key
    ∙ ap (option_or (walked_in (last_at changes key)))
    (taken takes held key ∙ ap (cond (list_any (λ taken. taken == key) takes) None) (keeps key))
    ∙ over (last_at changes key) (told key) (list_any (λ taken. taken == key) takes)
