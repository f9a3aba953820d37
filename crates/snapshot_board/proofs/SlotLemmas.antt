-- What slots keep.
use Rattle.std.proofs.Common.{◌≡◌, ◌<◌, ◌≤◌, ◌+◌, ◌==◌, ◌++◌, ◌∷◌, ℕ, suc, zero, Bool, true, false, List, [], length, get_or, set, Option, Some, None, cond, refl, sym, ap, ◌∙◌, arith, replicate}
use Rattle.std.specs.Cmp.{nat_cmp_total, unsigned_tied}
use Rattle.std.specs.FinMap.{FinMap, empty, find, get, get-empty, get-from_entries, get-insert, get-remove, insert, nat_cmp-IsAntisymmetric, remove, same_map}
use Rattle.std.specs.Ordering.{nat_cmp}
use Rattle.std.proofs.lemmas.Bool.Decides.{nat_tests}
use Rattle.std.proofs.lemmas.Grind.{common_steps}
use Rattle.std.proofs.lemmas.List.{get_or-set_other, get_or-set_same, get_or_past}
use Rattle.snapshot_board.specs.Slots.{entries_from, held_in}

-- Maps, at each key.

-- maps that have the same at each key are one
pub same_held : {R : Type 0} (map other : FinMap nat_cmp R) → ((key : ℕ) → get map key ≡ get other key) → map ≡ other
same_held map other same = same_map nat_cmp_total nat_cmp-IsAntisymmetric map other same

get_inserted : {R : Type 0} (map : FinMap nat_cmp R) (at : ℕ) (kept : R) (key : ℕ) → get (insert map at kept) key ≡ cond (key == at) (Some kept) (get map key)
get_inserted map at kept key = get-insert nat_cmp_total map at kept key ∙ ap (λ same. cond same (Some kept) (get map key)) (unsigned_tied key at)

get_removed : {R : Type 0} (map : FinMap nat_cmp R) (at key : ℕ) → get (remove map at) key ≡ cond (key == at) None (get map key)
get_removed map at key = get-remove nat_cmp_total map at key ∙ ap (λ same. cond same None (get map key)) (unsigned_tied key at)

-- Slots, at each key.

find_front : {R : Type 0} (key front : ℕ) (kept : R) (entries : List (ℕ × R)) → find nat_cmp key ((front, kept) ∷ entries) ≡ cond (key == front) (Some kept) (find nat_cmp key entries)
find_front key front kept entries = ap (λ same. cond same (Some kept) (find nat_cmp key entries)) (unsigned_tied key front)

find_below : {R : Type 0} (slots : List (Option R)) (front key : ℕ) → key < front → find nat_cmp key (entries_from front slots) ≡ None
find_below [] front key below = refl
find_below (None ∷ slots) front key below = find_below slots (front + 1) key (omega arith)
find_below (Some kept ∷ slots) front key below = find_front key front kept (entries_from (front + 1) slots) ∙ grind (arith, nat_tests, find_below slots (front + 1) key (omega arith))

find_slot : {R : Type 0} (slots : List (Option R)) (front place key : ℕ) → key ≡ front + place → find nat_cmp key (entries_from front slots) ≡ get_or slots place None
find_slot [] front place key is = refl
find_slot (None ∷ slots) front zero key is = find_below slots (front + 1) key (omega arith)
find_slot (None ∷ slots) front (suc place) key is = find_slot slots (front + 1) place key (omega arith)
find_slot (Some kept ∷ slots) front zero key is = find_front key front kept (entries_from (front + 1) slots) ∙ grind (arith, nat_tests)
find_slot (Some kept ∷ slots) front (suc place) key is = find_front key front kept (entries_from (front + 1) slots) ∙ grind (arith, nat_tests, find_slot slots (front + 1) place key (omega arith))

slot_set : {X : Type 0} (slots : List X) (at key : ℕ) (slot default : X) → at < length slots → get_or (set slots at slot) key default ≡ cond (key == at) slot (get_or slots key default)
slot_set slots at key slot default inside = grind (arith, nat_tests, common_steps, get_or-set_same slots at slot default inside, get_or-set_other slots at key slot default)

slot_added : {X : Type 0} (slots : List X) (additional key : ℕ) (default : X) → get_or (slots ++ replicate additional default) key default ≡ get_or slots key default
slot_added [] zero key default = refl
slot_added [] (suc additional) zero default = refl
slot_added [] (suc additional) (suc key) default = slot_added [] additional key default
slot_added (slot ∷ slots) additional zero default = refl
slot_added (slot ∷ slots) additional (suc key) default = slot_added slots additional key default

default_there : {X : Type 0} (there : Bool) (slot default : X) → (there ≡ true → slot ≡ default) → slot ≡ cond there default slot
default_there true slot default is = is refl
default_there false slot default is = refl

-- What the calls read and write.

-- the record of a key is what its slot has
pub get-held_in : {R : Type 0} (slots : List (Option R)) (key : ℕ) → get (held_in slots) key ≡ get_or slots key None
unfolding held_in
get-held_in slots key = get-from_entries nat_cmp_total (entries_from 0 slots) key ∙ find_slot slots 0 key key (omega arith)

pub get-held_in_past : {R : Type 0} (slots : List (Option R)) (key : ℕ) → length slots ≤ key → get (held_in slots) key ≡ None
get-held_in_past slots key past = get-held_in slots key ∙ get_or_past slots key None past

pub held_in-set : {R : Type 0} (slots : List (Option R)) (at : ℕ) (kept : R) → at < length slots → held_in (set slots at (Some kept)) ≡ insert (held_in slots) at kept
held_in-set slots at kept inside =
    same_held _ _ (λ key.
    get-held_in _ key ∙ slot_set slots at key (Some kept) None inside
    ∙ ap (cond (key == at) (Some kept)) (sym (get-held_in slots key)) ∙ sym (get_inserted (held_in slots) at kept key))

pub held_in-clear : {R : Type 0} (slots : List (Option R)) (at : ℕ) → at < length slots → held_in (set slots at None) ≡ remove (held_in slots) at
held_in-clear slots at inside =
    same_held _ _ (λ key.
    get-held_in _ key ∙ slot_set slots at key None None inside
    ∙ ap (cond (key == at) None) (sym (get-held_in slots key)) ∙ sym (get_removed (held_in slots) at key))

-- to take what has no slot changes nothing
pub held_in_without : {R : Type 0} (slots : List (Option R)) (at : ℕ) → length slots ≤ at → held_in slots ≡ remove (held_in slots) at
held_in_without slots at past =
    same_held _ _ (λ key.
    default_there (key == at) (get (held_in slots) key) None (λ same. get-held_in_past slots key (grind (arith, nat_tests)))
    ∙ sym (get_removed (held_in slots) at key))

pub held_in-added : {R : Type 0} (slots : List (Option R)) (additional : ℕ) → held_in (slots ++ replicate additional None) ≡ held_in slots
held_in-added slots additional = same_held _ _ (λ key. get-held_in _ key ∙ slot_added slots additional key None ∙ sym (get-held_in slots key))

pub held_in_none : {R : Type 0} → held_in {R = R} [] ≡ empty
held_in_none = same_held _ _ (λ key. get-held_in [] key ∙ sym (get-empty nat_cmp key))

pub ruleset held_rules = (get-held_in, get-held_in_past, held_in-set, held_in-clear, held_in_without, held_in-added, held_in_none)
