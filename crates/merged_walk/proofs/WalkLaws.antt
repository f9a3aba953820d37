-- A walk keeps what is known of it at each turn, and has found all changes at its end. Throughout, e is an evaluator,
-- b an open node and bs those above it.
use Rattle.std.proofs.Common.{◌≡◌, ◌+◌, ◌≤◌, ℕ, List, [], ◌∷◌, ◌++◌, Option, refl, sym, ap, subst, ◌∙◌, ◌⊎◌, inl, arith, append_assoc, append-nil}
use Rattle.std.specs.Prelude.{Contains, Some}
use Rattle.std.proofs.lemmas.List.Elements.{All-append, All-cons, All-nil, Contains-append_right}
use Rattle.forest.specs.Keys.{HasDistinctKeys}
use Rattle.merged_walk.specs.declared.stop.Stop.{Stop}
use Rattle.merged_walk.specs.Merges.{Merge, End, Kept, Turned, Gone, Come, old_of, new_of}
use Rattle.merged_walk.specs.Evaluators.{Evaluator, IsSound, told, told_all}
use Rattle.merged_walk.specs.Entries.{Covers, Holds}
use Rattle.merged_walk.specs.Counts.{budget}
use Rattle.merged_walk.specs.Walks.{GoesOn, Open, State, Walks, level_stops, news, new_past, old_past, old_told, stops_behind}
use Rattle.merged_walk.specs.WalkTurns.{IsEnded, Run, WalkTurn, begun, entering, entering_turned, entering_fresh, leaving, missing, no_turn, passing, passing_fresh, skipping, then_turn}
use Rattle.merged_walk.proofs.EntryLaws.{all-right, contains-first, covers-more, covers-new}
use Rattle.merged_walk.proofs.StopLaws.{places-stops_of}
use Rattle.merged_walk.proofs.TurnLists.{none_either}
use Rattle.merged_walk.proofs.EnterTurns.{keeps-entering, keeps-entering_turned, keeps-entering_fresh, standing}
use Rattle.merged_walk.proofs.PassTurns.{keeps-missing, keeps-passing, keeps-passing_fresh, keeps-skipping}

module _ {L K H : Type 0} (e : Evaluator L K H) (held : ℕ → Option K) (all : List (ℕ × K)) (most : ℕ) where
  pub keeps-leaving : (b : Open L H) (bs : List (Open L H)) (i j : H) (stops : List Stop) (changes : List (ℕ × K)) (spent more : ℕ)
      → Walks e held all most (standing (b ∷ bs) i j End stops changes spent)
      → more ≤ spent + 2
      → let entry : ℕ × K = (b.node.key, e.kept b.node b.handed i) in
      GoesOn e held all most (standing (b ∷ bs) i j End stops changes spent) (standing bs (new_past e b i) (old_past e b j) b.after stops (changes ++ entry ∷ []) more)
  keeps-leaving b bs i j stops changes spent more w few =
      let entry : ℕ × K = (b.node.key, e.kept b.node b.handed i) in
      let one : told e b.node b.handed i ≡ entry ∷ [] = rw w.elements.0 refl in
      let rest = news e bs (new_past e b i) b.after in
      let split : all ≡ w.done ++ (entry ∷ [] ++ rest) = w.split ∙ ap (λ its. w.done ++ (its ++ rest)) one in
      let there : Contains all entry =
      subst (λ all. Contains all entry) (sym split) (Contains-append_right w.done (entry ∷ [] ++ rest) entry (contains-first entry rest)) in
      let is_told = λ (x : ℕ × K). Contains (changes ++ entry ∷ []) x ⊎ (held x.0 ≡ Some x.1) in (
        record {
          done = w.done ++ entry ∷ [];
          split = split ∙ sym (append_assoc w.done (entry ∷ []) rest);
          covered = All-append is_told w.done (entry ∷ []) (covers-more changes (entry ∷ []) held w.done w.covered) (covers-new changes (entry ∷ []) held);
          among = All-append (Contains all) changes (entry ∷ []) w.among (All-cons (Contains all) entry [] there (All-nil (Contains all)));
          holds = all-right (λ (x : ℕ × K). held x.0 ≡ Some x.1) (old_told e b j) _ w.holds;
          waits = w.waits ∙ ap (λ level. level ++ (level_stops e.is_element bs b.after ++ stops_behind e.is_element bs)) (none_either b.fresh);
          fresh = w.fresh_behind.0;
          fresh_behind = w.fresh_behind.1;
          distinct = w.distinct_behind.0;
          distinct_behind = w.distinct_behind.1;
          elements = w.elements.3;
          credit = 2;
          rested = inl refl;
          few = omega (arith, w.few, few);
        },
        omega arith,
      )

  -- what is known of a state is known of the same state
  at : (P : State L K H → Type 0) (now : State L K H) (here : Merge L) → now.here ≡ here → P (record now { here = here }) → P now
  at P now here is h = subst (λ m. P (record now { here = m })) (sym is) h

  module _ (s : IsSound e) where
    -- each turn keeps what is known, and leaves less to walk
    pub goes_on : (now next : State L K H) → WalkTurn e now next → Walks e held all most now → GoesOn e held all most now next
    goes_on now next (entering n c r later spent is element stays one taken few) =
        at (λ x. Walks e held all most x → GoesOn e held all most x next) now (Kept n c r) is
        (λ w. keeps-entering e held all most now.above now.handed now.was_handed now.stops later now.changes now.spent spent n c r w element stays one taken few)
    goes_on now next (entering_turned was n c r later spent is element element_was one_key stays taken few) =
        at (λ x. Walks e held all most x → GoesOn e held all most x next) now (Turned was n c r) is
        (λ w. keeps-entering_turned e held all most now.above now.handed now.was_handed now.stops later now.changes now.spent spent was n c r w element element_was one_key stays taken few)
    goes_on now next (entering_fresh n c r later spent is element taken few) =
        at (λ x. Walks e held all most x → GoesOn e held all most x next) now (Come n c r) is
        (λ w. keeps-entering_fresh e held all most now.above now.handed now.was_handed now.stops later now.changes now.spent spent n c r w element taken few)
    goes_on now next (passing n r is text) =
        at (λ x. Walks e held all most x → GoesOn e held all most x next) now (Kept n End r) is
        (λ w. keeps-passing e held all most now.above now.handed now.was_handed now.stops now.stops now.changes now.spent now.spent s n r w text)
    goes_on now next (passing_fresh n r later is text taken) =
        at (λ x. Walks e held all most x → GoesOn e held all most x next) now (Come n _ r) is
        (λ w. keeps-passing_fresh e held all most now.above now.handed now.was_handed now.stops later now.changes now.spent now.spent s n r w text taken)
    goes_on now next (missing n c r stop later is stays taken) =
        at (λ x. Walks e held all most x → GoesOn e held all most x next) now (Gone n c r) is
        (λ w. keeps-missing e held all most now.above now.handed now.was_handed now.stops later now.changes now.spent now.spent n c r stop w stays taken)
    goes_on now next (skipping n c r spent is stays none same few) =
        at (λ x. Walks e held all most x → GoesOn e held all most x next) now (Kept n c r) is
        (λ w. keeps-skipping e held all most now.above now.handed now.was_handed now.stops now.stops now.changes now.spent spent s n c r w stays none same few)
    goes_on now next (leaving b bs spent above is few) =
        subst (λ bs. Walks e held all most (record now { above = bs }) → GoesOn e held all most (record now { above = bs }) next) (sym above)
        (at (λ x. Walks e held all most (record x { above = b ∷ bs }) → GoesOn e held all most (record x { above = b ∷ bs }) next) now End is
        (λ w. keeps-leaving b bs now.handed now.was_handed now.stops now.changes now.spent spent w few))

    pub walks-run : (first last : State L K H) → Run e first last → Walks e held all most first → Walks e held all most last
    walks-run first last no_turn w = w
    walks-run first last (then_turn now next run turn) w = (goes_on now last turn (walks-run first now run w)).0

  -- at the end all is covered
  pub covers-ended : (state : State L K H) → IsEnded state → Walks e held all most state → Covers state.changes held all
  covers-ended state end w =
      let none : news e state.above state.handed state.here ≡ [] =
      ap (λ m. news e state.above state.handed m) end.here ∙ ap (λ (bs : List (Open L H)). news e bs state.handed End) end.above in
      subst (Covers state.changes held) (sym (w.split ∙ ap (λ rest. w.done ++ rest) none ∙ append-nil w.done)) w.covered

  -- and no more was spent than may be
  pub spent-within : (state : State L K H) → Walks e held all most state → state.spent ≤ most
  spent-within state w = omega (arith, w.few)

module _ {L K H : Type 0} (e : Evaluator L K H) where
  -- so much is known of a walk before its first turn
  pub walks-begun : (m : Merge L) (i j : H) (held : ℕ → Option K) (spent : ℕ) → HasDistinctKeys (new_of m) → Holds held (told_all e j (old_of m))
      → Walks e held (told_all e i (new_of m)) (spent + budget e i j m) (begun e i j m spent)
  walks-begun m i j held spent distinct holds = record {
    done = [];
    split = sym (append-nil (told_all e i (new_of m)));
    covered = All-nil (λ (x : ℕ × K). Contains [] x ⊎ (held x.0 ≡ Some x.1));
    among = All-nil (Contains (told_all e i (new_of m)));
    holds = subst (Holds held) (sym (append-nil (told_all e j (old_of m)))) holds;
    waits = sym (append-nil _);
    fresh = tt;
    fresh_behind = tt;
    distinct = distinct;
    distinct_behind = tt;
    elements = tt;
    credit = 2;
    rested = inl refl;
    few = omega (arith, places-stops_of e.is_element 0 m);
  }
