-- The boxes that created the counters of a document's elements are those of its elements. It follows from that keys do not
-- matter: where all keys that no node has are given others, the document is the same, and so are its counters.
use Rattle.std.proofs.Common.{◌≡◌, ◌<◌, ◌+◌, ◌==◌, ◌∷◌, ℕ, true, cond, List, [], Option, Some, map, refl, sym, ap, ◌∙◌, inl, inr, arith, nat_lt, eq-eqb}
use Rattle.std.proofs.lemmas.Bool.{cases_Bool}
use Rattle.std.proofs.lemmas.Bool.Decides.{nat_tests}
use Rattle.std.specs.Prelude.{option_map}
use Rattle.std.specs.List.{AllByRecursion}
use Rattle.std.specs.Option.{option_map_or}
use Rattle.forest.specs.Forest.{Forest, Empty, Tree, weigh}
use Rattle.forest.specs.Keys.{Keyed, times}
use Rattle.forest.specs.Spots.{IsLive}
use Rattle.forest.proofs.SpotLaws.{counted-live, live-counted, some_or_none}
use Rattle.plain_types.specs.declared.counter.Counter.{Counter}
use Rattle.plain_types.specs.declared.node.Node.{Node}
use Rattle.plain_types.specs.declared.sheet.Sheet.{Sheet}
use Rattle.generated_texts.specs.declared.entry.NodeEntry.{NodeEntry}
use Rattle.generated_texts.specs.Entries.{document_entries}
use Rattle.generated_texts.specs.Keyings.{KeepsApart, rekeyed, rekeyed_entry, rekeyed_set}
use Rattle.generated_texts.specs.Laws.{EntriesFollowKeys}
use Rattle.generated_texts.specs.References.{kept_at}
use Rattle.generated_texts.proofs.Rekeyed.{tests_apart}
use Rattle.why_report.proofs.KeyLaws.{kept_rekeyed}

-- a number above all keys
abbrev above_all : Forest (Keyed Node) → ℕ
above_all trees = weigh (λ (node : Keyed Node). node.key + 1) trees

key_below : (trees : Forest (Keyed Node)) (key : ℕ) → 0 < times key trees → key < above_all trees
key_below Empty key some = absurd (omega (arith, some))
key_below (Tree node children after) key some = elim (cases_Bool (node.key == key)) [
  | inl e ↦ grind (arith, nat_tests)
  | inr e ↦
      let opened : 0 < 0 + (times key children + times key after) = rw e at some in
      elim (some_or_none (times key children)) [
        | inl none ↦ let less = key_below after key (omega (arith, opened, none)) in omega (arith, less)
        | inr below ↦ let less = key_below children key below in omega (arith, less)
      ]
]

-- the keys of the nodes stay, and the others are made greater
abbrev moved : Forest (Keyed Node) → ℕ → ℕ
moved document key = cond (nat_lt 0 (times key document)) key (key + above_all document + 1)

moved_apart : (document : Forest (Keyed Node)) → KeepsApart (moved document)
moved_apart document one other same = elim (cases_Bool (nat_lt 0 (times one document))) [
  | inl here ↦ elim (cases_Bool (nat_lt 0 (times other document))) [
    | inl there ↦ rw (here, there) at same
    | inr gone ↦ let moved_other = rw (here, gone) at same in let less = key_below document one (grind (arith, nat_tests)) in absurd (omega (arith, less, moved_other))
  ]
  | inr gone ↦ elim (cases_Bool (nat_lt 0 (times other document))) [
    | inl there ↦ let moved_one = rw (gone, there) at same in let less = key_below document other (grind (arith, nat_tests)) in absurd (omega (arith, less, moved_one))
    | inr lost ↦ let both = rw (gone, lost) at same in omega (arith, both)
  ]
]

same_trees : (rekey : ℕ → ℕ) (trees : Forest (Keyed Node)) → ((key : ℕ) → 0 < times key trees → rekey key ≡ key) → rekeyed rekey trees ≡ trees
same_trees rekey Empty stays = refl
same_trees rekey (Tree node children after) stays =
    let own : rekey node.key ≡ node.key = stays node.key (let here = eq-eqb node.key node.key refl in rw here (omega arith)) in
    let below = same_trees rekey children (λ key some. stays key (omega (arith, some))) in
    let beside = same_trees rekey after (λ key some. stays key (omega (arith, some))) in
    let make : ℕ → Forest (Keyed Node) → Forest (Keyed Node) → Forest (Keyed Node) = λ key inner others. Tree (record { key = key; label = node.label }) inner others in
    ap (λ key. make key (rekeyed rekey children) (rekeyed rekey after)) own
    ∙ ap (λ inner. make node.key inner (rekeyed rekey after)) below
    ∙ ap (make node.key children) beside

stays_live : (document : Forest (Keyed Node)) (key : ℕ) → 0 < times key document → moved document key ≡ key
stays_live document key some = let here : nat_lt 0 (times key document) ≡ true = grind (arith, nat_tests) in ap (λ b. cond b key (key + above_all document + 1)) here

live_stays : (document : Forest (Keyed Node)) (key : ℕ) → key ≡ moved document key → IsLive document key
live_stays document key same = elim (cases_Bool (nat_lt 0 (times key document))) [
  | inl here ↦ counted-live document key (grind (arith, nat_tests))
  | inr gone ↦ let moved_key = rw gone at same in absurd (omega (arith, moved_key))
]

abbrev own_of : List Counter → Option NodeEntry → List Counter
own_of none entry = option_map_or (λ (entry : NodeEntry). entry.own) entry none

abbrev key_of_first : ℕ → List Counter → ℕ
key_of_first none [] = none
key_of_first none (counter ∷ rest) = counter.creator.key

abbrev rest_of : List Counter → List Counter
rest_of [] = []
rest_of (counter ∷ rest) = rest

set_live : (document : Forest (Keyed Node)) (set : List Counter) → set ≡ rekeyed_set (moved document) set → AllByRecursion (λ (counter : Counter). IsLive document counter.creator.key) set
set_live document [] same = tt
set_live document (counter ∷ set) same = (live_stays document counter.creator.key (ap (key_of_first 0) same), set_live document set (ap rest_of same))

-- the creators of the counters of an entry that is kept
pub creators_live : EntriesFollowKeys → (author : Sheet) (document : Forest (Keyed Node)) (key : ℕ) (entry : NodeEntry) → IsLive document key
    → Some entry ≡ kept_at (document_entries author document) key → AllByRecursion (λ (counter : Counter). IsLive document counter.creator.key) entry.own
creators_live law author document key entry live is =
    let rekey = moved document in
    let apart = moved_apart document in
    let kept = document_entries author document in
    let same = same_trees rekey document (stays_live document) in
    let own_key : rekey key ≡ key = stays_live document key (live-counted document key live) in
    let all : kept ≡ map (λ (one : ℕ × NodeEntry). (rekey one.0, rekeyed_entry rekey one.1)) kept =
    ap (document_entries author) (sym same) ∙ law author document rekey apart in
    let entries : Some entry ≡ option_map (rekeyed_entry rekey) (Some entry) =
    is ∙ ap (λ some. kept_at some key) all ∙ ap (kept_at (map (λ (one : ℕ × NodeEntry). (rekey one.0, rekeyed_entry rekey one.1)) kept)) (sym own_key)
    ∙ kept_rekeyed rekey (tests_apart rekey apart) kept key ∙ ap (option_map (rekeyed_entry rekey)) (sym is) in
    set_live document entry.own (ap (own_of []) entries)
