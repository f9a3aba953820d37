-- Laws of what is kept for both walks (our own, over CSS Lists 3, 4.4).
use Rattle.std.specs.Prelude.{◌≡◌}
use Rattle.forest.specs.Keys.{HasDistinctKeys}
use Rattle.box_eval.specs.Starts.{no_starts}
use Rattle.edit_work.specs.KeyedSources.{KeyedSource}
use Rattle.reference_reach.specs.ToldLaws.{told_of, told_with}
use Rattle.counter_index.specs.declared.index.CounterIndex.{CounterIndex}
use Rattle.counter_index.specs.Indexes.{AsksForStarts}
use Rattle.touched_starts.specs.Laws.{IsIndexOf}

-- where no box of a document asks for the start of a reversed counter, it is told the same with all starts 0 as with its own
abbrev pub UnaskedAreOwn : Type 0
UnaskedAreOwn =
    (source : KeyedSource) (index : CounterIndex) → HasDistinctKeys source.tree → IsIndexOf source index
    → (AsksForStarts index → ⊥) → told_with source no_starts ≡ told_of source
