-- Both walks of an edit: the second may begin where the first has ended, or is left out.
use Rattle.std.proofs.Common.{◌≡◌, ◌≤◌, ◌+◌, ◌∙◌, ◌∷◌, ℕ, true, List, [], Option, ap, arith, length, refl, subst}
use Rattle.std.specs.Prelude.{All}
use Rattle.std.proofs.lemmas.List.Elements.{All-head}
use Rattle.box_eval.specs.Evaluation.{StyledNode, styled}
use Rattle.box_eval.specs.Starts.{has_starts, no_starts}
use Rattle.generated_texts.specs.Documents.{document_style}
use Rattle.merged_walk.specs.declared.stop.Stop.{Stop}
use Rattle.merged_walk.specs.Counts.{budget}
use Rattle.merged_walk.specs.Merges.{Merge}
use Rattle.surroundings.specs.declared.told.Told.{Told}
use Rattle.surroundings.specs.declared.walked.Walked.{Walked}
use Rattle.surroundings.specs.StyledEvaluators.{root_surroundings, styled_evaluator}
use Rattle.document_walk.specs.Catching.{Reading}
use Rattle.edit_work.specs.KeyedSources.{author, table}
use Rattle.reference_reach.specs.ToldLaws.{told_of, told_with}
use Rattle.start_reach.specs.Laws.{AreTurned, plain_merge, started_merge}
use Rattle.start_reach.specs.TurnedElements.{with_ways_to}
use Rattle.counter_index.specs.declared.index.CounterIndex.{CounterIndex}
use Rattle.counter_index.specs.Indexes.{AsksForStarts, asked_at, value_at}
use Rattle.touched_starts.specs.Laws.{IsIndexOf}
use Rattle.touched_starts.proofs.AskedLemmas.{starts_are_asked}
use Rattle.started_walk.specs.declared.counting.Counting.{Counting}
use Rattle.started_walk.specs.Twice.{CanWalkTwice, IsWalkedTwice, IsWithinFirst}
use Rattle.started_walk.specs.Walks.{CanWalkAgain, Finds, IsWithinAgain}
use Rattle.started_walk.proofs.EditLemmas.{tree-is}
use Rattle.started_walk.proofs.UnaskedLemmas.{unasked_are_own}

-- what a walk reads that has its starts from an index
abbrev pub with_index : Reading → CounterIndex → Reading
with_index from index = record { table = from.table; style = from.style; start = value_at index; tree = from.tree }

module _ (from : Reading) (counting : Counting) (kept : ℕ → Option Walked) (takes : List ℕ) (stops : List Stop) (stands : CanWalkTwice from counting kept takes stops) where
  abbrev pub again : (index : CounterIndex) → IsIndexOf stands.place.after index → (turned : List ℕ) → AreTurned stands.place.edit stands.place.before stands.place.after turned
      → CanWalkAgain (with_index from index) kept turned stops
  again index index_is turned turned_are = record {
    edit = stands.place.edit;
    before = stands.place.before;
    after = stands.place.after;
    leads = stands.place.leads;
    local = stands.place.local;
    reads = record {
      table = ap (λ (read : Reading). read.table) stands.place.reads;
      tree = ap (λ (read : Reading). read.tree) stands.place.reads;
      document =
          ap (λ (read : Reading). styled read.style (value_at index) read.tree) stands.place.reads
          ∙ starts_are_asked (table stands.place.after) (document_style (author stands.place.after) stands.place.after.tree) stands.place.after.tree index stands.place.leads.done.after.distinct index_is;
    };
    keeps = stands.keeps;
    turned_are = turned_are;
    stops_are = stands.place.stops_are;
  }

  abbrev most : Merge StyledNode → ℕ
  most merge = budget (styled_evaluator (table stands.place.after)) root_surroundings root_surroundings merge

  -- The second walk has the starts of this index, and these elements are turned.
  module _ (index : CounterIndex) (index_is : IsIndexOf stands.place.after index) (keys : List ℕ) (turned : AreTurned stands.place.edit stands.place.before stands.place.after keys)
      (were between now : ℕ) (first : IsWithinFirst from counting kept takes stops were between) where
    pub walked : (ways : List Stop) (told : List (ℕ × Told)) → ways ≡ with_ways_to from.tree keys stops
        → ((walk : CanWalkAgain (with_index from index) kept keys stops) → Finds (told_of walk.before) (told_of walk.after) told)
        → IsWithinAgain (with_index from index) kept keys stops between (now + length told)
        → IsWalkedTwice stands.place.edit stands.place.before stands.place.after stops ways told were now
    walked ways told ways_are finds few =
        let walk : CanWalkAgain (with_index from index) kept keys stops = again index index_is keys turned in
        let one : between ≤ were + most (plain_merge stands.place.edit stands.place.before stands.place.after) = first stands in
        let other : now + length told ≤ between + most (started_merge stands.place.edit stands.place.before stands.place.after keys) = few walk in
        record {
          keys = keys;
          turned = turned;
          ways_are = ways_are ∙ ap (λ tree. with_ways_to tree keys stops) (tree-is from takes stops stands.place);
          finds = finds walk;
          few = omega (arith, one, other);
        }

    pub both-most : IsWithinAgain (with_index from index) kept keys stops between now
        → (keys : List ℕ) × (AreTurned stands.place.edit stands.place.before stands.place.after keys
        × (now ≤ were + (most (plain_merge stands.place.edit stands.place.before stands.place.after) + most (started_merge stands.place.edit stands.place.before stands.place.after keys))))
    both-most few =
        let one : between ≤ were + most (plain_merge stands.place.edit stands.place.before stands.place.after) = first stands in
        let other : now ≤ between + most (started_merge stands.place.edit stands.place.before stands.place.after keys) = few (again index index_is keys turned) in
        (keys, (turned, omega (arith, one, other)))

  -- No box asks for a start, before the edit or after it: the first walk has told all.
  module _ (index : CounterIndex) (index_is : IsIndexOf stands.place.after index) (unasked_before : AsksForStarts counting.index → ⊥) (unasked_after : AsksForStarts index → ⊥) where
    none-turned : (keys : List ℕ) → All (λ key. has_starts (asked_at index key) ≡ true) keys → keys ≡ []
    none-turned [] asking = refl
    none-turned (key ∷ keys) asking = absurd (unasked_after (key, All-head (λ key. has_starts (asked_at index key) ≡ true) key keys asking))

    pub walked-once : (turned : List ℕ) → AreTurned stands.place.edit stands.place.before stands.place.after turned → All (λ key. has_starts (asked_at index key) ≡ true) turned
        → (ways : List Stop) → ways ≡ stops → (told : List (ℕ × Told)) → Finds (told_with stands.place.before no_starts) (told_with stands.place.after no_starts) told
        → (were now : ℕ) → IsWithinFirst from counting kept takes stops were (now + length told)
        → IsWalkedTwice stands.place.edit stands.place.before stands.place.after stops ways told were now
    walked-once turned turned_are asking ways ways_are told finds were now few =
        let before_own = unasked_are_own stands.place.before counting.index stands.place.leads.done.before.distinct stands.counts.index unasked_before in
        let after_own = unasked_are_own stands.place.after index stands.place.leads.done.after.distinct index_is unasked_after in
        let one : now + length told ≤ were + most (plain_merge stands.place.edit stands.place.before stands.place.after) = few stands in
        record {
          keys = [];
          turned = subst (AreTurned stands.place.edit stands.place.before stands.place.after) (none-turned turned asking) turned_are;
          ways_are = ways_are;
          finds =
              subst (λ (was : List (ℕ × Told)). Finds was (told_of stands.place.after) told) before_own
              (subst (λ (is : List (ℕ × Told)). Finds (told_with stands.place.before no_starts) is told) after_own finds);
          few = omega (arith, one);
        }
