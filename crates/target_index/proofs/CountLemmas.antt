-- How often ids come: the counts in a map, and those of changes.
use Rattle.std.proofs.Common.{◌≡◌, ◌<◌, ◌≤◌, ◌+◌, ◌∙◌, ℕ, cond, List, [], ◌∷◌, ◌++◌, Option, Some, None, is_some, count_by, drop, get_or, length, unwrap_or, sym, ap, suc, inl, inr, add-one, drop-cons, length-append, arith}
use Rattle.std.specs.Map.{lookup, set_value}
use Rattle.std.specs.Option.{option_map, option_to_list}
use Rattle.std.specs.Str.{bytes_eq, chars, IsUtf8}
use Rattle.std.proofs.lemmas.Bool.{cases_Bool}
use Rattle.std.proofs.lemmas.List.Sums.{count_by-le-length, sum_by-cons}
use Rattle.std.proofs.lemmas.Slice.Eq.{bytes_eq-Decides}
use Rattle.indexmap.specs.IndexMap.{insert_entry}
use Rattle.target_index.specs.declared.change.IndexChange.{IndexChange}
use Rattle.target_index.specs.declared.change.Relation.{Relation}
use Rattle.target_index.specs.Changes.{added_id, added_ids}
use Rattle.target_index.specs.Counts.{count_of, counts_of}
use Rattle.target_index.proofs.ViewLemmas.{inserted, is_asked, seen, written}

-- an id comes once more, and the others as often as before
module _ (old new : List (List ℕ × ℕ)) (name : List ℕ) (count : ℕ)
    (puts : (other : List ℕ) → lookup (bytes_eq other) new ≡ cond (bytes_eq other name) (Some count) (lookup (bytes_eq other) old))
    (more : count ≡ count_of old name + 1) where
  once_more : (other : List ℕ) → count_of new other ≡ count_of old other + cond (bytes_eq other name) 1 0
  once_more other = elim (cases_Bool (bytes_eq other name)) [
    | inl h ↦ rw (puts other, h) (more ∙ ap (λ id. count_of old id + 1) (sym ((bytes_eq-Decides other name).0 h)))
    | inr h ↦ rw (puts other, h) (omega arith)
  ]

module _ {K : Type 0} (bytes : K → List ℕ) (text : (k : K) → IsUtf8 (bytes k)) (entries : List (K × ℕ)) where
  module _ (query : List ℕ) (utf8 : IsUtf8 query) where
    pub count_there : (count : ℕ) → Some count ≡ lookup (is_asked bytes query) entries → count_of (counts_of bytes entries) (chars query) ≡ count
    count_there count found = ap (λ o. unwrap_or o 0) (seen bytes text (λ n. n) query utf8 entries ∙ ap (option_map (λ n. n)) (sym found))

    pub counted : (after : List (K × ℕ)) (count : ℕ) → Some count ≡ lookup (is_asked bytes query) entries → after ≡ set_value (is_asked bytes query) entries (count + 1)
        → (other : List ℕ) → count_of (counts_of bytes after) other ≡ count_of (counts_of bytes entries) other + cond (bytes_eq other (chars query)) 1 0
    counted after count found wrote =
        once_more _ _ (chars query) (count + 1)
        (λ other. ap (λ es. lookup (bytes_eq other) (counts_of bytes es)) wrote ∙ written bytes text (λ n. n) query utf8 entries (count + 1) (ap is_some (sym found)) other)
        (ap (λ n. n + 1) (sym (count_there count found)))

  pub begun : (after : List (K × ℕ)) (key : K) → None ≡ lookup (is_asked bytes (bytes key)) entries → after ≡ insert_entry (λ a b. bytes_eq (bytes a) (bytes b)) entries key 1
      → (other : List ℕ) → count_of (counts_of bytes after) other ≡ count_of (counts_of bytes entries) other + cond (bytes_eq other (chars (bytes key))) 1 0
  begun after key missing wrote =
      let none : count_of (counts_of bytes entries) (chars (bytes key)) ≡ 0 =
      ap (λ o. unwrap_or o 0) (seen bytes text (λ n. n) (bytes key) (text key) entries ∙ ap (option_map (λ n. n)) (sym missing)) in
      once_more _ _ (chars (bytes key)) 1
      (λ other. ap (λ es. lookup (bytes_eq other) (counts_of bytes es)) wrote ∙ inserted bytes text (λ n. n) entries key 1 other)
      (omega (arith, none))

module _ (relation : Relation) (changes : List IndexChange) (at : ℕ) (change : IndexChange) (below : at < length changes) (is : change ≡ get_or changes at change) where
  added_next : added_ids relation (drop at changes) ≡ option_to_list (added_id relation change) ++ added_ids relation (drop (at + 1) changes)
  added_next =
      ap (added_ids relation) (drop-cons changes at change below ∙ ap (λ first. first ∷ drop (suc at) changes) (sym is))
      ∙ ap (λ next. option_to_list (added_id relation change) ++ added_ids relation (drop next changes)) (sym (add-one at))

  pub counts_added : (id : List ℕ) → added_id relation change ≡ Some id → (other : List ℕ)
      → count_by (bytes_eq other) (added_ids relation (drop at changes)) ≡ cond (bytes_eq other id) 1 0 + count_by (bytes_eq other) (added_ids relation (drop (at + 1) changes))
  counts_added id e other =
      ap (count_by (bytes_eq other)) (added_next ∙ ap (λ o. option_to_list o ++ added_ids relation (drop (at + 1) changes)) e)
      ∙ sum_by-cons (λ x. cond (bytes_eq other x) 1 0) id (added_ids relation (drop (at + 1) changes))

  pub counts_none : added_id relation change ≡ None → (other : List ℕ)
      → count_by (bytes_eq other) (added_ids relation (drop at changes)) ≡ count_by (bytes_eq other) (added_ids relation (drop (at + 1) changes))
  counts_none e other = ap (count_by (bytes_eq other)) (added_next ∙ ap (λ o. option_to_list o ++ added_ids relation (drop (at + 1) changes)) e)

at_most_one : {A : Type 0} (o : Option A) → length (option_to_list o) ≤ 1
at_most_one None = omega arith
at_most_one (Some a) = omega arith

added_short : (relation : Relation) (changes : List IndexChange) → length (added_ids relation changes) ≤ length changes
added_short relation [] = omega arith
added_short relation (change ∷ changes) =
    omega (arith, added_short relation changes, at_most_one (added_id relation change), length-append (option_to_list (added_id relation change)) (added_ids relation changes))

-- no id comes more often than there are changes
pub few_added : (relation : Relation) (changes : List IndexChange) (id : List ℕ) → count_by (bytes_eq id) (added_ids relation changes) ≤ length changes
few_added relation changes id = omega (arith, added_short relation changes, count_by-le-length (bytes_eq id) (added_ids relation changes))
