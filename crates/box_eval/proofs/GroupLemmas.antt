-- The events of each counter, under the counter.
use Rattle.std.proofs.Common.{◌≡◌, ◌+◌, ◌<◌, ◌&&◌, ◌∷◌, ◌++◌, List, [], Bool, true, false, cond, Option, Some, None, Bor, ℕ, pos, length, take, get_or, map, append-nil, refl, sym, ap, subst, ◌∙◌}
use Rattle.std.proofs.Math.Path.{fun_ext}
use Rattle.std.proofs.lemmas.Bool.{and_parts}
use Rattle.std.proofs.lemmas.List.{map_push, take_more}
use Rattle.std.proofs.lemmas.List.Elements.{filter-append}
use Rattle.std.proofs.lemmas.Slice.Eq.{bytes_eq-Decides}
use Rattle.std.specs.Prelude.{filter, nat_eq, unwrap_or}
use Rattle.std.specs.Cmp.Lexicographic.{pointwise}
use Rattle.std.specs.HashMap.{HashMap, IsEmpty, get, get_by}
use Rattle.std.specs.Map.{lookup}
use Rattle.std.specs.Str.{IsUtf8, bytes_eq, chars}
use Rattle.plain_types.specs.contracts.box_kind.BoxKind.{the_type}
use Rattle.plain_types.specs.declared.box_id.BoxId.{BoxId}
use Rattle.plain_types.specs.declared.box_kind.BoxKind.{BoxKind}
use Rattle.plain_types.specs.declared.box_kind.BoxKind.TheVariants.{Element, Marker, Before, After}
use Rattle.plain_types.proofs.TextLemmas.{bytes_eq-chars}
use Rattle.counter_sets.specs.Sets.{is_same_box, is_same_kind}
use Rattle.reversed_start.specs.Starts.{start}
use Rattle.reversed_start.specs.declared.event.Event.{Event}
use Rattle.box_eval.specs.declared.change.Change.{Change}
use Rattle.box_eval.specs.declared.counter_id.CounterId.{CounterId}
use Rattle.box_eval.specs.Groups.{AreGrouped, events_under, is_change_of, is_same_counter}
use Rattle.box_eval.specs.Starts.{events_of, starts_by}
use Rattle.box_eval.proofs.BoxLemmas.{box_eq}
use denote.Enum.Bare.{sameb}

-- The test by which a map finds a counter.

same_kind : (first second : BoxKind) → sameb the_type first second ≡ is_same_kind first second
same_kind Element Element = refl
same_kind Element Marker = refl
same_kind Element Before = refl
same_kind Element After = refl
same_kind Marker Element = refl
same_kind Marker Marker = refl
same_kind Marker Before = refl
same_kind Marker After = refl
same_kind Before Element = refl
same_kind Before Marker = refl
same_kind Before Before = refl
same_kind Before After = refl
same_kind After Element = refl
same_kind After Marker = refl
same_kind After Before = refl
same_kind After After = refl

abbrev pub finds : CounterId → CounterId → Bool
finds first second = (nat_eq first.creator.key second.creator.key && sameb the_type first.creator.kind second.creator.kind) && pointwise nat_eq first.name.now second.name.now

pub finds_same : finds ≡ is_same_counter
finds_same =
    fun_ext (λ first. fun_ext (λ second.
    ap (λ kinds. (nat_eq first.creator.key second.creator.key && kinds) && bytes_eq first.name.now second.name.now) (same_kind first.creator.kind second.creator.kind)))

-- one counter under two names is found alike
same_counter : (first second : CounterId) → is_same_counter first second ≡ true → is_same_counter first ≡ is_same_counter second
same_counter first second same =
    let parts = and_parts (is_same_box first.creator second.creator) (bytes_eq first.name.now second.name.now) same in
    let boxes : first.creator ≡ second.creator = box_eq first.creator second.creator parts.0 in
    let names : first.name.now ≡ second.name.now = (bytes_eq-Decides first.name.now second.name.now).0 parts.1 in
    let test : BoxId → List ℕ → CounterId → Bool = λ box name other. is_same_box box other.creator && bytes_eq name other.name.now in
    ap (λ box. test box first.name.now) boxes ∙ ap (test second.creator) names

-- An event is put behind those of its counter.

put_back : (b : Bool) (old got mid new : Option (List Event)) (events : List Event) (event : Event) → mid ≡ cond b None old → new ≡ cond b (Some events) mid
    → events ≡ unwrap_or got [] ++ event ∷ [] → (b ≡ true → got ≡ old) → unwrap_or new [] ≡ cond b (unwrap_or old [] ++ event ∷ []) (unwrap_or old [])
put_back true old got mid new events event taken put longer same = ap (λ all. unwrap_or all []) put ∙ longer ∙ ap (λ all. unwrap_or all [] ++ event ∷ []) (same refl)
put_back false old got mid new events event taken put longer same = ap (λ all. unwrap_or all []) (put ∙ taken)

module _ {S : Type 0} (old mid new : HashMap CounterId (List Event) S) (name : Bor (List ℕ)) (change : Change) (events : List Event) where
  abbrev changed : CounterId
  changed = record { creator = change.creator; name = name }

  is_its_change : (counter : CounterId) → IsUtf8 name.now → chars name.now ≡ change.name → IsUtf8 counter.name.now → is_same_counter changed counter ≡ is_change_of counter change
  is_its_change counter text same other_text =
      ap (λ names. is_same_box change.creator counter.creator && names)
      (bytes_eq-chars name.now counter.name.now text other_text ∙ ap (λ characters. bytes_eq characters (chars counter.name.now)) same)

  pub put_behind : IsUtf8 name.now → chars name.now ≡ change.name
      → ((counter : CounterId) → get finds mid counter ≡ cond (finds changed counter) None (get finds old counter))
      → ((counter : CounterId) → get finds new counter ≡ cond (finds changed counter) (Some events) (get finds mid counter))
      → events ≡ unwrap_or (get finds old changed) [] ++ change.event ∷ []
      → (counter : CounterId) → IsUtf8 counter.name.now
      → events_under new counter ≡ cond (is_change_of counter change) (events_under old counter ++ change.event ∷ []) (events_under old counter)
  put_behind text same taken put longer counter other_text =
      let taken_by : get is_same_counter mid counter ≡ cond (is_same_counter changed counter) None (get is_same_counter old counter) =
      subst (λ test. get test mid counter ≡ cond (test changed counter) None (get test old counter)) finds_same (taken counter) in
      let put_by : get is_same_counter new counter ≡ cond (is_same_counter changed counter) (Some events) (get is_same_counter mid counter) =
      subst (λ test. get test new counter ≡ cond (test changed counter) (Some events) (get test mid counter)) finds_same (put counter) in
      let longer_by : events ≡ unwrap_or (get is_same_counter old changed) [] ++ change.event ∷ [] =
      subst (λ test. events ≡ unwrap_or (get test old changed) [] ++ change.event ∷ []) finds_same longer in
      put_back (is_same_counter changed counter) (get is_same_counter old counter) (get is_same_counter old changed) (get is_same_counter mid counter) (get is_same_counter new counter)
      events change.event taken_by put_by longer_by (λ found. ap (λ test. get_by test old) (same_counter changed counter found))
      ∙ ap (λ b. cond b (events_under old counter ++ change.event ∷ []) (events_under old counter)) (is_its_change counter text same other_text)

-- The events of one counter.

module _ (counter : CounterId) where
  abbrev its_events : List Change → List Event
  its_events changes = events_of changes counter.creator (chars counter.name.now)

  with_last : (changes : List Change) (change : Change) → its_events (changes ++ change ∷ []) ≡ cond (is_change_of counter change) (its_events changes ++ change.event ∷ []) (its_events changes)
  with_last changes change =
      ap (map (λ (one : Change). one.event)) (filter-append (is_change_of counter) changes (change ∷ []))
      ∙ kept (is_change_of counter change)
    where
      kept : (b : Bool) → map (λ (one : Change). one.event) (filter (is_change_of counter) changes ++ cond b (change ∷ []) []) ≡ cond b (its_events changes ++ change.event ∷ []) (its_events changes)
      kept true = map_push (λ (one : Change). one.event) (filter (is_change_of counter) changes) change
      kept false = ap (map (λ (one : Change). one.event)) (append-nil (filter (is_change_of counter) changes))

  pub one_more : (changes : List Change) (place : ℕ) (change : Change) → place < length changes → change ≡ get_or changes place change
      → its_events (take (place + 1) changes) ≡ cond (is_change_of counter change) (its_events (take place changes) ++ change.event ∷ []) (its_events (take place changes))
  one_more changes place change within here =
      ap its_events (take_more changes place change within ∙ ap (λ one. take place changes ++ one ∷ []) (sym here)) ∙ with_last (take place changes) change

module _ {S : Type 0} (changes : List Change) (groups : HashMap CounterId (List Event) S) where
  pub none_grouped : IsEmpty groups → AreGrouped [] groups
  none_grouped empty counter text = ap (λ entries. unwrap_or (lookup (is_same_counter counter) entries) []) empty

  -- what a map finds are the counter's events
  pub found : AreGrouped changes groups → (creator : BoxId) (name : Bor (List ℕ)) → IsUtf8 name.now → start (unwrap_or (get finds groups (record { creator = creator; name = name })) []) ≡ starts_by changes creator (chars name.now)
  found grouped creator name text =
      ap start (ap (λ test. unwrap_or (get test groups (record { creator = creator; name = name })) []) finds_same ∙ grouped (record { creator = creator; name = name }) text)

pub no_event : start [] ≡ pos 0
unfolding start
no_event = refl
