-- Exchanges, at each key.
use Rattle.std.proofs.Common.{◌≡◌, ◌<◌, ◌≤◌, ◌⊎◌, ◌+◌, ◌==◌, ◌++◌, ◌∷◌, ℕ, zero, suc, Bool, true, false, List, [], length, drop, take, reverse, get_or, set, Option, Some, None, cond, inl, inr, refl, sym, ap, subst, ◌∙◌, arith, append_assoc}
use Rattle.std.specs.Prelude.{IfSome, unwrap_or}
use Rattle.std.specs.FinMap.{get}
use Rattle.std.specs.Option.{option_or}
use Rattle.std.proofs.lemmas.Bool.{cases_Bool, eqb-true}
use Rattle.std.proofs.lemmas.Bool.Decides.{nat_tests}
use Rattle.std.proofs.lemmas.Grind.{common_steps}
use Rattle.std.proofs.lemmas.List.{drop_more, drop-set-lt, get_or-set_other, get_or-set_same, reverse-append, take_more_set}
use Rattle.std.proofs.Math.ListN.{length-set}
use Rattle.std.proofs.lemmas.List.Elements.{All-cons, All-nil, All-tail}
use Rattle.std.proofs.lemmas.List.Sorted.{All-permutation, IsPermutation-reverse}
use Rattle.merged_walk.specs.Entries.{first_at, last_at}
use Rattle.snapshot_board.specs.Records.{Records}
use Rattle.snapshot_board.specs.Slots.{held_in, records_in}
use Rattle.snapshot_board.proofs.SlotLemmas.{get-held_in, get-held_in_past, held_in-added, held_in_none}
use Rattle.counter_index.proofs.AskingLemmas.{count-added}
use Rattle.counter_index.specs.Exchanges.{HasRoomFor, IsWayBack, after_exchange, exchanged, keys_in, restored}

past_or_inside : (room at : ℕ) → (room ≤ at) ⊎ (at < room)
past_or_inside zero at = inl (omega arith)
past_or_inside (suc room) zero = inr (omega arith)
past_or_inside (suc room) (suc at) = elim (past_or_inside room at) [ inl h ↦ inl (omega (arith, h)) | inr h ↦ inr (omega (arith, h)) ]

module _ {T : Type 0} where
  -- Slots, by lists.

  slot_set : (slots : List (Option T)) (at key : ℕ) (slot : Option T) → at < length slots → get_or (set slots at slot) key None ≡ cond (at == key) slot (get_or slots key None)
  slot_set slots at key slot inside = grind (arith, nat_tests, common_steps, get_or-set_same slots at slot None inside, get_or-set_other slots at key slot None)

  -- Also where nothing is put beyond the last slot.

  put_past : (slots : List (Option T)) (at : ℕ) (slot : Option T) → length slots ≤ at → set slots at slot ≡ slots
  put_past [] at slot past = refl
  put_past (first ∷ slots) zero slot past = absurd (omega (arith, past))
  put_past (first ∷ slots) (suc at) slot past = ap (λ rest. first ∷ rest) (put_past slots at slot (omega (arith, past)))

  none_past : (slots : List (Option T)) (at : ℕ) → length slots ≤ at → get_or slots at None ≡ None
  none_past [] at past = refl
  none_past (first ∷ slots) zero past = absurd (omega (arith, past))
  none_past (first ∷ slots) (suc at) past = none_past slots at (omega (arith, past))

  beyond : (slots : List (Option T)) (at key : ℕ) → length slots ≤ at → get_or slots key None ≡ cond (at == key) None (get_or slots key None)
  beyond slots at key past = elim (cases_Bool (at == key)) [
    | inl e ↦ rw e (none_past slots key (subst (λ k. length slots ≤ k) (eqb-true at key e) past))
    | inr e ↦ rw e refl
  ]

  slot_put : (slots : List (Option T)) (at key : ℕ) (slot : Option T) → IfSome slot (λ _. at < length slots) → get_or (set slots at slot) key None ≡ cond (at == key) slot (get_or slots key None)
  slot_put slots at key (Some kept) inside = slot_set slots at key (Some kept) inside
  slot_put slots at key None inside = elim (past_or_inside (length slots) at) [
    | inl past ↦ ap (λ all. get_or all key None) (put_past slots at None past) ∙ beyond slots at key past
    | inr within ↦ slot_set slots at key None within
  ]

  -- what was in a slot was below the room
  some_inside : (slots : List (Option T)) (at : ℕ) → IfSome (get_or slots at None) (λ _. at < length slots)
  some_inside [] at = tt
  some_inside (None ∷ slots) zero = tt
  some_inside (Some kept ∷ slots) zero = omega arith
  some_inside (slot ∷ slots) (suc at) = later (get_or slots at None) (some_inside slots at)
    where
      later : (found : Option T) → IfSome found (λ _. at < length slots) → IfSome found (λ _. suc at < length (slot ∷ slots))
      later None h = tt
      later (Some kept) h = omega (arith, h)

  same_length : (slots : List (Option T)) (at : ℕ) (slot : Option T) → length (set slots at slot) ≡ length slots
  same_length slots at slot = grind (arith, common_steps)

  exchanged-length : (entries : List (ℕ × Option T)) (slots : List (Option T)) → length (exchanged entries slots).0 ≡ length slots
  exchanged-length [] slots = refl
  exchanged-length (entry ∷ entries) slots = exchanged-length entries (set slots entry.0 entry.1) ∙ same_length slots entry.0 entry.1

  exchanged-keys : (entries : List (ℕ × Option T)) (slots : List (Option T)) → keys_in (exchanged entries slots).1 ≡ keys_in entries
  exchanged-keys [] slots = refl
  exchanged-keys (entry ∷ entries) slots = ap (λ keys. entry.0 ∷ keys) (exchanged-keys entries (set slots entry.0 entry.1))

  room_of : (room other : ℕ) (entries : List (ℕ × Option T)) → other ≡ room → HasRoomFor room entries → HasRoomFor other entries
  room_of room other entries e has = rw e has

  abbrev IsBelow : ℕ → ℕ × Option T → Type 0
  IsBelow room entry = IfSome entry.1 (λ _. entry.0 < room)

  room_first : (room : ℕ) (entry : ℕ × Option T) (entries : List (ℕ × Option T)) → HasRoomFor room (entry ∷ entries) → IsBelow room entry
  room_first room entry entries has = has 0 entry (omega arith)

  -- so has what an exchange leaves
  exchanged-room : (entries : List (ℕ × Option T)) (slots : List (Option T)) → HasRoomFor (length slots) (exchanged entries slots).1
  exchanged-room [] slots = All-nil (IsBelow (length slots))
  exchanged-room (entry ∷ entries) slots =
      All-cons (IsBelow (length slots)) (entry.0, get_or slots entry.0 None) (exchanged entries (set slots entry.0 entry.1)).1 (some_inside slots entry.0)
      (room_of (length (set slots entry.0 entry.1)) (length slots) (exchanged entries (set slots entry.0 entry.1)).1 (sym (same_length slots entry.0 entry.1)) (exchanged-room entries (set slots entry.0 entry.1)))

  room_rest : (slots : List (Option T)) (entry : ℕ × Option T) (entries : List (ℕ × Option T)) → HasRoomFor (length slots) (entry ∷ entries)
      → HasRoomFor (length (set slots entry.0 entry.1)) entries
  room_rest slots entry entries has =
      room_of (length slots) _ entries (same_length slots entry.0 entry.1) (All-tail (IsBelow (length slots)) entry entries has)

  put_last : (last : Option (Option T)) (here : Bool) (new old : Option T) → unwrap_or last (cond here new old) ≡ unwrap_or (option_or last (cond here (Some new) None)) old
  put_last (Some kept) here new old = refl
  put_last None true new old = refl
  put_last None false new old = refl

  slots-exchanged : (entries : List (ℕ × Option T)) (slots : List (Option T)) → HasRoomFor (length slots) entries → (key : ℕ)
      → get_or (exchanged entries slots).0 key None ≡ after_exchange entries (λ at. get_or slots at None) key
  slots-exchanged [] slots room key = refl
  slots-exchanged (entry ∷ entries) slots room key =
      slots-exchanged entries (set slots entry.0 entry.1) (room_rest slots entry entries room) key
      ∙ ap (unwrap_or (last_at entries key)) (slot_put slots entry.0 key entry.1 (room_first (length slots) entry entries room))
      ∙ put_last (last_at entries key) (entry.0 == key) entry.1 (get_or slots key None)

  put_first : (here : Bool) (at key : ℕ) (first : Option (Option T)) (now : Option T) (slots : List (Option T)) (new : Option T) → IfSome new (λ _. at < length slots) → (at == key) ≡ here
      → unwrap_or first now ≡ get_or (set slots at new) key None → unwrap_or (cond here (Some (get_or slots at None)) first) now ≡ get_or slots key None
  put_first true at key first now slots new inside e is = ap (λ k. get_or slots k None) (grind (arith, nat_tests, e))
  put_first false at key first now slots new inside e is = is ∙ slot_put slots at key new inside ∙ ap (λ b. cond b new (get_or slots key None)) e

  slots-restored : (entries : List (ℕ × Option T)) (slots : List (Option T)) → HasRoomFor (length slots) entries → (key : ℕ)
      → restored (exchanged entries slots).1 (λ at. get_or (exchanged entries slots).0 at None) key ≡ get_or slots key None
  slots-restored [] slots room key = refl
  slots-restored (entry ∷ entries) slots room key =
      put_first (entry.0 == key) entry.0 key _ _ slots entry.1 (room_first (length slots) entry entries room) refl
      (slots-restored entries (set slots entry.0 entry.1) (room_rest slots entry entries room) key)

  -- The other way round.

  or-none : (o : Option (Option T)) → o ≡ option_or o None
  or-none None = refl
  or-none (Some kept) = refl

  or-assoc : (a b c : Option (Option T)) → option_or (option_or a b) c ≡ option_or a (option_or b c)
  or-assoc None b c = refl
  or-assoc (Some kept) b c = refl

  or-cond : (here : Bool) (kept : Option T) (o : Option (Option T)) → option_or (cond here (Some kept) None) o ≡ cond here (Some kept) o
  or-cond true kept o = refl
  or-cond false kept o = refl

  pub last-append : (first others : List (ℕ × Option T)) (key : ℕ) → last_at (first ++ others) key ≡ option_or (last_at others key) (last_at first key)
  last-append [] others key = or-none (last_at others key)
  last-append (entry ∷ first) others key =
      let here : Option (Option T) = cond (entry.0 == key) (Some entry.1) None in
      ap (λ o. option_or o here) (last-append first others key) ∙ or-assoc (last_at others key) (last_at first key) here

  last-reverse : (entries : List (ℕ × Option T)) (key : ℕ) → last_at (reverse entries) key ≡ first_at entries key
  last-reverse [] key = refl
  last-reverse (entry ∷ entries) key =
      let here : Option (Option T) = cond (entry.0 == key) (Some entry.1) None in
      ap (λ es. last_at es key) (reverse-append (entry ∷ []) entries)
      ∙ last-append (reverse entries) (entry ∷ []) key
      ∙ ap (option_or here) (last-reverse entries key)
      ∙ or-cond (entry.0 == key) entry.1 (first_at entries key)

  -- What is kept, by keys.

  held-exchanged : (entries : List (ℕ × Option T)) (slots : List (Option T)) → HasRoomFor (length slots) entries → (key : ℕ)
      → get (held_in (exchanged entries slots).0) key ≡ after_exchange entries (get (held_in slots)) key
  held-exchanged entries slots room key =
      get-held_in (exchanged entries slots).0 key ∙ slots-exchanged entries slots room key
      ∙ ap (unwrap_or (last_at entries key)) (sym (get-held_in slots key))

  module _ (slots slots' : List (Option T)) (records : Records T) (view : records_in slots ≡ records) where
    pub room_for : (entries : List (ℕ × Option T)) → HasRoomFor records.room entries → HasRoomFor (length slots) entries
    room_for entries has = room_of records.room (length slots) entries (ap (λ (r : Records T). r.room) view) has

    pub room_for_reversed : (former reversed : List (ℕ × Option T)) → reversed ≡ reverse former → HasRoomFor records.room former → HasRoomFor (length slots) reversed
    room_for_reversed former reversed is has =
        subst (HasRoomFor (length slots)) (sym is) (All-permutation (IsBelow (length slots)) former (reverse former) (IsPermutation-reverse former) (room_for former has))

    module _ (entries : List (ℕ × Option T)) (is : slots' ≡ (exchanged entries slots).0) where
      pub exchange_room : length slots' ≡ records.room
      exchange_room = ap length is ∙ exchanged-length entries slots ∙ ap (λ (r : Records T). r.room) view

      pub exchange_held : HasRoomFor records.room entries → (key : ℕ) → get (held_in slots') key ≡ after_exchange entries (get records.held) key
      exchange_held room key =
          ap (λ s. get (held_in s) key) is ∙ held-exchanged entries slots (room_for entries room) key
          ∙ ap (λ (r : Records T). after_exchange entries (get r.held) key) view

      module _ (former : List (ℕ × Option T)) (was : former ≡ (exchanged entries slots).1) where
        pub exchange_keys : keys_in former ≡ keys_in entries
        exchange_keys = ap keys_in was ∙ exchanged-keys entries slots

        pub exchange_back_room : HasRoomFor (length slots') former
        exchange_back_room =
            subst (λ (entries : List (ℕ × Option T)). HasRoomFor (length slots') entries) (sym was)
            (room_of (length slots) (length slots') (exchanged entries slots).1 (ap length is ∙ exchanged-length entries slots) (exchanged-room entries slots))

        pub exchange_back : HasRoomFor records.room entries → IsWayBack former (get (held_in slots')) (get records.held)
        exchange_back room key =
            ap (λ s. restored former (get (held_in s)) key) is
            ∙ ap (λ f. restored f (get (held_in (exchanged entries slots).0)) key) was
            ∙ ap (unwrap_or (first_at (exchanged entries slots).1 key)) (get-held_in (exchanged entries slots).0 key)
            ∙ slots-restored entries slots (room_for entries room) key
            ∙ sym (get-held_in slots key)
            ∙ ap (λ (r : Records T). get r.held key) view

    pub restore_held : (former reversed : List (ℕ × Option T)) → reversed ≡ reverse former → slots' ≡ (exchanged reversed slots).0
        → HasRoomFor records.room former → (key : ℕ) → get (held_in slots') key ≡ restored former (get records.held) key
    restore_held former reversed turned is room key =
        ap (λ s. get (held_in s) key) is
        ∙ held-exchanged reversed slots (room_for_reversed former reversed turned room) key
        ∙ ap (λ es. unwrap_or (last_at es key) (get (held_in slots) key)) turned
        ∙ ap (λ o. unwrap_or o (get (held_in slots) key)) (last-reverse former key)
        ∙ ap (λ (r : Records T). restored former (get r.held) key) view

  -- The loop: what is left to be exchanged leads to the end.
  pub record Exchanging (was : List (ℕ × Option T)) (were : List (Option T)) (entries : List (ℕ × Option T)) (slots : List (Option T)) (place : ℕ) : Type 0 where
    pub as_many : length entries ≡ length was
    pub room : HasRoomFor (length slots) (drop place entries)
    pub slots_are : (exchanged (drop place entries) slots).0 ≡ (exchanged was were).0
    pub entries_are : take place entries ++ (exchanged (drop place entries) slots).1 ≡ (exchanged was were).1

  module _ (was : List (ℕ × Option T)) (were : List (Option T)) (entries : List (ℕ × Option T)) (slots : List (Option T)) (place : ℕ) (within : place < length was) (turn : Exchanging was were entries slots place) (default : ℕ × Option T) where
    abbrev entry : ℕ × Option T
    entry = get_or entries place default

    inside : place < length entries
    inside = omega (arith, turn.as_many)

    first_left : drop place entries ≡ entry ∷ drop (place + 1) entries
    first_left = drop_more entries place default inside

    room_left : HasRoomFor (length slots) (entry ∷ drop (place + 1) entries)
    room_left = subst (HasRoomFor (length slots)) first_left turn.room

    pub slot_inside : IsBelow (length slots) entry
    slot_inside = room_first (length slots) entry (drop (place + 1) entries) room_left

    pub turned : (kept : ℕ × Option T) (slots' : List (Option T)) → kept ≡ (entry.0, get_or slots entry.0 None) → slots' ≡ set slots entry.0 entry.1
        → Exchanging was were (set entries place kept) slots' (place + 1)
    turned kept slots' former put =
        let later : List (ℕ × Option T) = drop (place + 1) entries in
        let rest : List (ℕ × Option T) = (exchanged later (set slots entry.0 entry.1)).1 in
        let left : drop (place + 1) (set entries place kept) ≡ later = drop-set-lt (place + 1) entries place kept (omega arith) in
        let go : Exchanging was were (set entries place kept) (set slots entry.0 entry.1) (place + 1) = record {
          as_many = length-set entries place kept ∙ turn.as_many;
          room = subst (HasRoomFor (length (set slots entry.0 entry.1))) (sym left) (room_rest slots entry later room_left);
          slots_are =
              ap (λ (l : List (ℕ × Option T)). (exchanged l (set slots entry.0 entry.1)).0) left
              ∙ sym (ap (λ (l : List (ℕ × Option T)). (exchanged l slots).0) first_left) ∙ turn.slots_are;
          entries_are =
              ap (λ (l : List (ℕ × Option T)). take (place + 1) (set entries place kept) ++ (exchanged l (set slots entry.0 entry.1)).1) left
              ∙ ap (λ (l : List (ℕ × Option T)). l ++ rest) (take_more_set entries place kept inside)
              ∙ append_assoc (take place entries) (kept ∷ []) rest
              ∙ ap (λ (one : ℕ × Option T). take place entries ++ (one ∷ rest)) former
              ∙ sym (ap (λ (l : List (ℕ × Option T)). take place entries ++ (exchanged l slots).1) first_left) ∙ turn.entries_are;
        } in
        subst (λ (s : List (Option T)). Exchanging was were (set entries place kept) s (place + 1)) (sym put) go

pub ruleset exchange_rules = (get-held_in, get-held_in_past, held_in-added, held_in_none, count-added)
