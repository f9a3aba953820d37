-- An index that is brought to another document, and back.
use Rattle.std.proofs.Common.{◌≡◌, ◌≤◌, ◌<◌, ◌++◌, ◌∷◌, ◌∙◌, ℕ, ℤ, List, [], Option, Some, None, ◌+◌, drop, get_or, length, map, take, refl, sym, ap, subst, inl, inr, arith}
use Rattle.std.specs.Prelude.{All, IfSome, option_map}
use Rattle.std.proofs.lemmas.List.{length-map, take_at, take_more}
use Rattle.std.proofs.lemmas.List.Elements.{All-append, All-cons, All-nil, All-weaker}
use Rattle.forest.specs.Forest.{Forest}
use Rattle.forest.specs.Keys.{Keyed}
use Rattle.forest.specs.Spots.{IsLive}
use Rattle.plain_types.specs.declared.box_id.BoxId.{BoxId}
use Rattle.plain_types.specs.declared.counter_style.CounterStyle.{CounterStyle}
use Rattle.plain_types.specs.declared.node.Node.{Node}
use Rattle.plain_types.specs.declared.style.ElementStyle.{ElementStyle}
use Rattle.plain_types.specs.declared.style.Style.{Style}
use Rattle.box_eval.specs.declared.inputs.Start.{Start}
use Rattle.edit_work.specs.Counters.{Identity}
use Rattle.start_reach.specs.Deeds.{AreAlike, IsIdle}
use Rattle.counter_index.specs.declared.deeds.CounterDeeds.{CounterDeeds}
use Rattle.counter_index.specs.declared.index.CounterIndex.{CounterIndex}
use Rattle.counter_index.specs.Documents.{KeepsDeeds}
use Rattle.counter_index.specs.Exchanges.{HasRoomFor, keys_in, restored}
use Rattle.scope_deeds.specs.Reversed.{is_start_of}
use Rattle.counter_index.specs.Indexes.{asked_at, asked_by, deeds_at, with_values}
use Rattle.counter_index.specs.Retold.{told_entries}
use Rattle.counter_index.specs.Touched.{AreTouched, IsUntouched, deeds_by, did}
use Rattle.counter_index.proofs.IndexLemmas.{asked_are_own}
use Rattle.kept_elements.specs.Changes.{AreBelow}
use Rattle.started_walk.specs.Countings.{HasSomeDeeds}

-- Rooms.

module _ {T : Type 0} where
  abbrev IsBelow : ℕ → ℕ × Option T → Type 0
  IsBelow room entry = IfSome entry.1 (λ _. entry.0 < room)

  -- where keys are below a room, there is room in one that is no smaller
  one-below : (key room : ℕ) (kept : Option T) → key < room → IfSome kept (λ _. key < room)
  one-below key room None below = tt
  one-below key room (Some its) below = below

  pub below-room : (room more : ℕ) (entries : List (ℕ × Option T)) → AreBelow room entries → room ≤ more → HasRoomFor more entries
  below-room room more [] below grown = All-nil (IsBelow more)
  below-room room more (entry ∷ entries) below grown =
      All-cons (IsBelow more) entry entries (one-below entry.0 more entry.1 (let here = below.0 in omega (arith, here, grown))) (below-room room more entries below.1 grown)

  one-grown : (key room more : ℕ) (kept : Option T) → room ≤ more → IfSome kept (λ _. key < room) → IfSome kept (λ _. key < more)
  one-grown key room more None grown below = tt
  one-grown key room more (Some its) grown below = omega (arith, below, grown)

  pub room-grown : (room more : ℕ) (entries : List (ℕ × Option T)) → HasRoomFor room entries → room ≤ more → HasRoomFor more entries
  room-grown room more entries has grown = All-weaker (IsBelow room) (IsBelow more) (λ entry below. one-grown entry.0 room more entry.1 grown below) entries has

  -- a turn of a loop over entries
  pub kept-turn : (entries : List (ℕ × Option T)) (place room more its : ℕ) (entry : ℕ × Option T) → place < length entries → entry ≡ get_or entries place entry
      → HasRoomFor room (take place entries) → IfSome entry.1 (λ _. entry.0 < its) → room ≤ more → its ≤ more → HasRoomFor more (take (place + 1) entries)
  kept-turn entries place room more its entry within is has below grown more_yet =
      let turned : take (place + 1) entries ≡ take place entries ++ entry ∷ [] =
      take_more entries place entry within ∙ ap (λ (one : ℕ × Option T). take place entries ++ one ∷ []) (sym is) in
      subst (HasRoomFor more) (sym turned)
      (All-append (IsBelow more) (take place entries) (entry ∷ []) (room-grown room more (take place entries) has grown)
      (All-cons (IsBelow more) entry [] (one-grown entry.0 its more entry.1 more_yet below) (All-nil (IsBelow more))))

-- Indexes with the same deeds.

module _ (former : List (ℕ × Option CounterDeeds)) (moved : List ℕ) (one other : CounterIndex) (same : (key : ℕ) → deeds_at one key ≡ deeds_at other key) where
  untouched-same : (counter : Identity) → IsUntouched former moved one counter → IsUntouched former moved other counter
  untouched-same counter untouched = record {
    alike =
        λ key.
        subst (λ (deeds : Option CounterDeeds). AreAlike counter (option_map deeds_by deeds) (option_map deeds_by (restored former (λ _. deeds) key))) (same key) (untouched.alike key);
    idle =
        All-weaker (λ key. IsIdle counter (did former moved one key)) (λ key. IsIdle counter (did former moved other key))
        (λ key idle. subst (λ (deeds : Option CounterDeeds). IsIdle counter (option_map deeds_by (restored former (λ _. deeds) key))) (same key) idle)
        moved untouched.idle;
  }

  pub touched-same : (keys : List ℕ) → AreTouched former moved one keys → AreTouched former moved other keys
  touched-same keys touched = record {
    others =
        λ counter asked.
        (elim (touched.others counter (ap (λ (deeds : Option CounterDeeds). is_start_of counter.creator counter.name (asked_by deeds)) (same counter.creator.key) ∙ asked)) [
          | inl among ↦ inl among
          | inr untouched ↦ inr (untouched-same counter untouched)
        ]);
    own =
        λ key.
        (elim (touched.own key) [
          | inl among ↦ inl among
          | inr asks ↦ inr (subst (λ (deeds : Option CounterDeeds). asked_by deeds ≡ asked_by (restored former (λ _. deeds) key)) (same key) asks)
        ]);
  }

module _ (one other : CounterIndex) (same : (key : ℕ) → deeds_at one key ≡ deeds_at other key) where
  pub told-same : (told : BoxId → List ℕ → ℤ) (keys : List ℕ) → told_entries told one keys ≡ told_entries told other keys
  told-same told keys = λ i. map (λ key. (key, Some (with_values told (asked_by (same key i))))) keys

  pub keeps-same : (table : List CounterStyle) (style : ℕ → Option Style → ElementStyle) (tree : Forest (Keyed Node)) → KeepsDeeds table style tree other → KeepsDeeds table style tree one
  keeps-same table style tree keeps key = same key ∙ keeps key

-- Starts that are told again.

-- they are told of these elements, in their order
pub told-keys : (told : BoxId → List ℕ → ℤ) (index : CounterIndex) (keys : List ℕ) → keys_in (told_entries told index keys) ≡ keys
told-keys told index [] = refl
told-keys told index (key ∷ keys) = ap (λ rest. key ∷ rest) (told-keys told index keys)

-- and the starts for which they ask are of counters that live elements create
pub asked-live : (tree : Forest (Keyed Node)) (index : CounterIndex) → HasSomeDeeds tree index → (keys : List ℕ)
    → All (λ (key : ℕ). All (λ (asked : Start). IsLive tree asked.creator.key) (asked_at index key)) keys
asked-live tree index has [] = All-nil (λ (key : ℕ). All (λ (asked : Start). IsLive tree asked.creator.key) (asked_at index key))
asked-live tree index has (key ∷ keys) =
    All-cons (λ (key : ℕ). All (λ (asked : Start). IsLive tree asked.creator.key) (asked_at index key)) key keys
    (All-weaker (λ (asked : Start). (asked.creator.key ≡ key) × IsLive tree key) (λ (asked : Start). IsLive tree asked.creator.key)
    (λ asked its. subst (IsLive tree) (sym its.0) its.1) (asked_at index key) (asked_are_own has.table has.style tree index has.keeps key))
    (asked-live tree index has keys)

-- What is written into a vector.

pub written : {T : Type 0} (len : ℕ) (new items : List T) → length new ≡ len → take len (new ++ drop (length new) items) ≡ new
written len new items same = take_at new (drop (length new) items) len same

pub keys-length : {T : Type 0} (new old : List (ℕ × Option T)) → keys_in new ≡ keys_in old → length new ≡ length old
keys-length {T} new old same =
    let key : ℕ × Option T → ℕ = λ entry. entry.0 in
    sym (length-map new key) ∙ ap length same ∙ length-map old key
