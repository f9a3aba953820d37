-- Pairs in a map from ids, after the value at an id was written.
use Rattle.std.proofs.Common.{◌≡◌, ◌≤◌, ◌+◌, ◌∙◌, ℕ, nat_eq, Bool, true, false, cond, List, [], Option, Some, None, IsSome, is_some, refl, sym, ap, subst, true≢false, arith}
use Rattle.std.specs.List.{list_any}
use Rattle.std.specs.Map.{lookup, set_value}
use Rattle.std.specs.Option.{option_map, option_map_or}
use Rattle.std.specs.Str.{bytes_eq, chars, IsUtf8}
use Rattle.std.proofs.lemmas.Slice.Eq.{bytes_eq-Decides}
use Rattle.indexmap.specs.IndexSet.{IndexSet, spare}
use Rattle.target_index.specs.Pairs.{IsEntered, Paired, is_pair, keys_of, room_of}
use Rattle.target_index.specs.Views.{paired, pairs_of}
use Rattle.target_index.specs.Changes.{is_that}
use Rattle.target_index.proofs.PairLemmas.{Puts, keys_kept, pair_put, room_kept, never_paired, room_put, room_used}
use Rattle.indexmap.specs.IndexMap.{insert_entry}
use Rattle.target_index.proofs.ViewLemmas.{inserted, is_asked, seen, written}

module _ {K S : Type 0} (bytes : K → List ℕ) (text : (k : K) → IsUtf8 (bytes k)) (query : List ℕ) (utf8 : IsUtf8 query)
    (entries : List (K × IndexSet ℕ S)) (set : IndexSet ℕ S) (found : Some set ≡ lookup (is_asked bytes query) entries) where
  had : lookup (bytes_eq (chars query)) (pairs_of bytes entries) ≡ Some (paired set)
  had = seen bytes text paired query utf8 entries ∙ ap (option_map paired) (sym found)

  pub had_keys : keys_of (pairs_of bytes entries) (chars query) ≡ set.keys
  had_keys = ap (λ p. option_map_or (λ (one : Paired). one.keys) p []) had

  pub had_room : room_of (pairs_of bytes entries) (chars query) ≡ spare set
  had_room = ap (λ p. option_map_or (λ (one : Paired). one.room) p 0) had

  module _ (after : List (K × IndexSet ℕ S)) (w : IndexSet ℕ S) (wrote : after ≡ set_value (is_asked bytes query) entries w) where
    puts : Puts (pairs_of bytes entries) (pairs_of bytes after) (chars query) (paired w)
    puts = record {
      at = λ other. ap (λ es. lookup (bytes_eq other) (pairs_of bytes es)) wrote ∙ written bytes text paired query utf8 entries w (ap is_some (sym found)) other;
    }

    pub keys_stay : w.keys ≡ set.keys → (other : List ℕ) → keys_of (pairs_of bytes after) other ≡ keys_of (pairs_of bytes entries) other
    keys_stay e = keys_kept _ _ (chars query) (paired w) puts (had_keys ∙ sym e)

    pub room_stays : spare set ≤ spare w → (other : List ℕ) → room_of (pairs_of bytes entries) other ≤ room_of (pairs_of bytes after) other
    room_stays le = room_kept _ _ (chars query) (paired w) puts (subst (λ n. n ≤ spare w) (sym had_room) le)

    pub room_falls : spare set ≤ spare w + 1 → (other : List ℕ) → room_of (pairs_of bytes entries) other ≤ room_of (pairs_of bytes after) other + cond (bytes_eq other (chars query)) 1 0
    room_falls le = room_used _ _ (chars query) (paired w) puts (subst (λ n. n ≤ spare w + 1) (sym had_room) le)

    pub has_room : room_of (pairs_of bytes after) (chars query) ≡ spare w
    has_room = room_put _ _ (chars query) (paired w) puts (chars query) ∙ ap (λ b. cond b (spare w) (room_of (pairs_of bytes entries) (chars query))) ((bytes_eq-Decides (chars query) (chars query)).1 refl)

    pub pair_is : (key : ℕ) (there : Bool) → ((element : ℕ) → list_any (nat_eq element) w.keys ≡ cond (nat_eq key element) there (list_any (nat_eq element) set.keys))
        → (other : List ℕ) (element : ℕ) → is_pair (pairs_of bytes after) other element ≡ cond (is_that (chars query) key other element) there (is_pair (pairs_of bytes entries) other element)
    pair_is key there here = pair_put _ _ (chars query) (paired w) puts key there (λ element. here element ∙ ap (λ keys. cond (nat_eq key element) there (list_any (nat_eq element) keys)) (sym had_keys))

no_some : {A : Type 0} (o : Option A) → is_some o ≡ false → None ≡ o
no_some None h = refl
no_some (Some a) h = absurd (true≢false h)

pub was_entered : {K S : Type 0} (bytes : K → List ℕ) (text : (k : K) → IsUtf8 (bytes k)) (query : List ℕ) (utf8 : IsUtf8 query) (entries : List (K × IndexSet ℕ S))
    → is_some (lookup (is_asked bytes query) entries) ≡ true → IsEntered (pairs_of bytes entries) (chars query)
was_entered bytes text query utf8 entries h = ap is_some (seen bytes text paired query utf8 entries) ∙ shown (lookup (is_asked bytes query) entries) ∙ h
  where
    shown : {S : Type 0} (o : Option (IndexSet ℕ S)) → is_some (option_map paired o) ≡ is_some o
    shown None = refl
    shown (Some set) = refl

-- where an id is not entered, nothing is paired with it
module _ {K S : Type 0} (bytes : K → List ℕ) (text : (k : K) → IsUtf8 (bytes k)) (query : List ℕ) (utf8 : IsUtf8 query)
    (entries : List (K × IndexSet ℕ S)) (missing : None ≡ lookup (is_asked bytes query) entries) where
  lacks : lookup (bytes_eq (chars query)) (pairs_of bytes entries) ≡ None
  lacks = seen bytes text paired query utf8 entries ∙ ap (option_map paired) (sym missing)

  pub not_entered : IsEntered (pairs_of bytes entries) (chars query) → ⊥
  not_entered h = true≢false (sym (subst IsSome lacks h))

  pub no_keys : keys_of (pairs_of bytes entries) (chars query) ≡ []
  no_keys = ap (λ p. option_map_or (λ (one : Paired). one.keys) p []) lacks

  pub no_room : room_of (pairs_of bytes entries) (chars query) ≡ 0
  no_room = ap (λ p. option_map_or (λ (one : Paired). one.room) p 0) lacks

  pub no_pair : (key : ℕ) (other : List ℕ) (element : ℕ) → is_pair (pairs_of bytes entries) other element ≡ cond (is_that (chars query) key other element) false (is_pair (pairs_of bytes entries) other element)
  no_pair = never_paired (pairs_of bytes entries) (chars query) no_keys

-- an id is entered, with what stands at it
module _ {K S : Type 0} (bytes : K → List ℕ) (text : (k : K) → IsUtf8 (bytes k)) (entries : List (K × IndexSet ℕ S)) (key : K) (w : IndexSet ℕ S)
    (after : List (K × IndexSet ℕ S)) (wrote : after ≡ insert_entry (λ a b. bytes_eq (bytes a) (bytes b)) entries key w) where
  enters : Puts (pairs_of bytes entries) (pairs_of bytes after) (chars (bytes key)) (paired w)
  enters = record {
    at = λ other. ap (λ es. lookup (bytes_eq other) (pairs_of bytes es)) wrote ∙ inserted bytes text paired entries key w other;
  }

  module _ (absent : is_some (lookup (is_asked bytes (bytes key)) entries) ≡ false) where
    missing : None ≡ lookup (is_asked bytes (bytes key)) entries
    missing = no_some (lookup (is_asked bytes (bytes key)) entries) absent

    pub entering_keeps : w.keys ≡ [] → (other : List ℕ) → keys_of (pairs_of bytes after) other ≡ keys_of (pairs_of bytes entries) other
    entering_keeps e = keys_kept _ _ (chars (bytes key)) (paired w) enters (no_keys bytes text (bytes key) (text key) entries missing ∙ sym e)

    pub entering_room : (other : List ℕ) → room_of (pairs_of bytes entries) other ≤ room_of (pairs_of bytes after) other
    entering_room = room_kept _ _ (chars (bytes key)) (paired w) enters (subst (λ n. n ≤ spare w) (sym (no_room bytes text (bytes key) (text key) entries missing)) (omega arith))

  pub is_entered : IsEntered (pairs_of bytes after) (chars (bytes key))
  is_entered = subst IsSome (sym (enters.at (chars (bytes key)) ∙ ap (λ b. cond b (Some (paired w)) (lookup (bytes_eq (chars (bytes key))) (pairs_of bytes entries))) ((bytes_eq-Decides (chars (bytes key)) (chars (bytes key))).1 refl))) refl
