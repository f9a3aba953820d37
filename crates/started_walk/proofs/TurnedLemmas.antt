-- Elements that ask for starts are in the document.
use Rattle.std.proofs.Common.{◌≡◌, ◌==◌, ℕ, false, true, List, [], ◌∷◌, length, refl}
use Rattle.std.specs.Prelude.{All}
use Rattle.std.proofs.lemmas.List.Elements.{All-head}
use Rattle.forest.specs.Forest.{Forest}
use Rattle.forest.specs.Keys.{Keyed}
use Rattle.forest.specs.Spots.{IsLive}
use Rattle.plain_types.specs.declared.node.Node.{Node}
use Rattle.box_eval.specs.declared.inputs.Start.{Start}
use Rattle.box_eval.specs.Starts.{has_starts}
use Rattle.counter_index.specs.declared.index.CounterIndex.{CounterIndex}
use Rattle.counter_index.specs.Indexes.{asked_at}
use Rattle.counter_index.proofs.IndexLemmas.{asked_are_own}
use Rattle.started_walk.specs.Countings.{HasSomeDeeds}

module _ (tree : Forest (Keyed Node)) (index : CounterIndex) (has : HasSomeDeeds tree index) (key : ℕ) where
  own-live : (asked : List Start) → All (λ (start : Start). (start.creator.key ≡ key) × IsLive tree key) asked → has_starts asked ≡ true → IsLive tree key
  own-live [] own some = absurd (cc)
  own-live (start ∷ asked) own some = (All-head (λ (start : Start). (start.creator.key ≡ key) × IsLive tree key) start asked own).1

  -- one that asks for a start is in the document
  pub asking-live : has_starts (asked_at index key) ≡ true → IsLive tree key
  asking-live some = own-live (asked_at index key) (asked_are_own has.table has.style tree index has.keeps key) some

-- a list that is not empty has starts
pub some-counted : (starts : List Start) → (length starts == 0) ≡ false → has_starts starts ≡ true
some-counted [] some = absurd (cc)
some-counted (start ∷ starts) some = refl
