-- Laws of the index of a document.
use Rattle.std.specs.Prelude.{◌≡◌, ◌++◌, ℕ, ℤ, pos, true, false, All, List, [], Option, Some, None, if◌then◌else◌, option_map}
use Rattle.forest.specs.Forest.{Forest}
use Rattle.forest.specs.Keys.{Keyed, HasDistinctKeys}
use Rattle.forest.specs.Spots.{IsLive}
use Rattle.plain_types.specs.declared.box_id.BoxId.{BoxId}
use Rattle.plain_types.specs.declared.counter_style.CounterStyle.{CounterStyle}
use Rattle.plain_types.specs.declared.node.Node.{Node}
use Rattle.plain_types.specs.declared.style.ElementStyle.{ElementStyle}
use Rattle.plain_types.specs.declared.style.Style.{Style}
use Rattle.box_eval.specs.declared.inputs.Start.{Start}
use Rattle.box_eval.specs.Evaluation.{StyledNode, styled}
use Rattle.box_eval.specs.Starts.{document_starts, no_starts}
use Rattle.merged_walk.specs.Entries.{first_at, put_over}
use Rattle.merged_walk.specs.Evaluators.{told_all}
use Rattle.surroundings.specs.declared.surroundings.Surroundings.{Surroundings}
use Rattle.surroundings.specs.declared.told.Told.{Told}
use Rattle.surroundings.specs.StyledEvaluators.{styled_evaluator}
use Rattle.edit_work.specs.Counters.{Identity}
use Rattle.edit_work.specs.KeyedSources.{is_among}
use Rattle.scope_deeds.specs.Reversed.{KeepsReversed}
use Rattle.start_reach.specs.Deeds.{AreAlike}
use Rattle.counter_index.specs.declared.deeds.CounterDeeds.{CounterDeeds}
use Rattle.counter_index.specs.declared.index.CounterIndex.{CounterIndex}
use Rattle.counter_index.specs.Exchanges.{after_exchange, puts_in, takes_out}
use Rattle.counter_index.specs.Documents.{KeepsDeeds, KeepsStarts, all_deeds, counter_deeds_in}
use Rattle.counter_index.specs.Indexes.{asked_at, asked_by, counting_at, deeds_at, is_asked, told_by_scope, value_at, with_values}
use Rattle.counter_index.specs.Retold.{told_entries}
use Rattle.counter_index.specs.Touched.{deeds_by}
use Rattle.counter_index.specs.Told.{TellsWithoutStarts, all_deeds_told, told_exchange, told_without_starts}

-- a law of an index and of a document
abbrev pub OfEachIndex : ((table : List CounterStyle) (style : ℕ → Option Style → ElementStyle) (tree : Forest (Keyed Node)) → CounterIndex → Type 0) → Type 0
OfEachIndex law =
    (table : List CounterStyle) (style : ℕ → Option Style → ElementStyle) (tree : Forest (Keyed Node)) (index : CounterIndex) → law table style tree index

-- where it has what the elements do that meet reversed counters, it has what tells the starts of these
abbrev pub IndexKeepsReversed : Type 0
IndexKeepsReversed = OfEachIndex (λ table style tree index. KeepsDeeds table style tree index → KeepsReversed table (styled style no_starts tree) (counting_at index))

-- so the scope of a counter for which an element asks, read by its keys, tells its start
abbrev pub ScopesTellStarts : Type 0
ScopesTellStarts =
    OfEachIndex (λ table style tree index. HasDistinctKeys tree → KeepsDeeds table style tree index
    → (creator : BoxId) (name : List ℕ) → is_asked index creator name ≡ true → document_starts table style tree creator name ≡ told_by_scope (counting_at index) tree creator name)

-- it has all for which elements ask
abbrev pub IndexKeepsWhatIsAsked : Type 0
IndexKeepsWhatIsAsked = OfEachIndex (λ table style tree index. KeepsDeeds table style tree index → (key : ℕ) → asked_at index key ≡ asked_by (all_deeds table style tree key))

-- and to a counter for which an element asks each element does what the index has of it; one of which it has nothing does nothing
abbrev pub IndexKeepsWhatIsDone : Type 0
IndexKeepsWhatIsDone =
    OfEachIndex (λ table style tree index. HasDistinctKeys tree → KeepsDeeds table style tree index
    → (counter : Identity) → is_asked index counter.creator counter.name ≡ true
    → (key : ℕ) → AreAlike counter (option_map deeds_by (all_deeds table style tree key)) (option_map deeds_by (deeds_at index key)))

-- an element asks for the starts of counters that its own boxes create, and it stands in the document
abbrev pub AskedAreOwn : Type 0
AskedAreOwn =
    OfEachIndex (λ table style tree index. KeepsDeeds table style tree index
    → (key : ℕ) → All (λ (asked : Start). (asked.creator.key ≡ key) × IsLive tree key) (asked_at index key))

-- of a counter for which an element asks it has the start
abbrev pub AskedStartsAreKept : Type 0
AskedStartsAreKept =
    OfEachIndex (λ table style tree index. KeepsStarts table style tree index
    → (creator : BoxId) (name : List ℕ) → is_asked index creator name ≡ true → value_at index creator name ≡ document_starts table style tree creator name)

-- of one for which none asks it has 0
abbrev pub OtherStartsAreZero : Type 0
OtherStartsAreZero =
    OfEachIndex (λ table style tree index. KeepsStarts table style tree index
    → (creator : BoxId) (name : List ℕ) → is_asked index creator name ≡ false → value_at index creator name ≡ pos 0)

-- What is told of elements gives what they do.
abbrev pub DeedsAreTold : Type 0
DeedsAreTold =
    (table : List CounterStyle) (handed : Option Surroundings) (trees : Forest (Keyed StyledNode))
    → all_deeds_told (told_all (styled_evaluator table) handed trees) ≡ counter_deeds_in table handed trees

-- a law of a document that an edit made of another one, and of what a walk has caught of it
abbrev pub OfEachCaught :
    ((was_table table : List CounterStyle) (was_style style : ℕ → Option Style → ElementStyle) (old new : Forest (Keyed Node)) → (takes : List ℕ) (caught : List (ℕ × Told)) → Type 0) → Type 0
OfEachCaught law =
    (was_table table : List CounterStyle) (was_style style : ℕ → Option Style → ElementStyle) (old new : Forest (Keyed Node)) (takes : List ℕ) (caught : List (ℕ × Told))
    → TellsWithoutStarts was_table table was_style style old new takes caught → law was_table table was_style style old new takes caught

-- what was told before the edit, with what is caught put over it, is what is told after it
abbrev pub CaughtIsPutOver : Type 0
CaughtIsPutOver =
    OfEachCaught (λ was_table table was_style style old new takes caught. (key : ℕ)
    → put_over caught takes (first_at (told_without_starts was_table was_style old)) key ≡ first_at (told_without_starts table style new) key)

-- so the index of the document before it, in which that is exchanged, has the deeds of the document after it
abbrev pub ExchangesKeepDeeds : Type 0
ExchangesKeepDeeds =
    OfEachCaught (λ was_table table was_style style old new takes caught. (was now : CounterIndex)
    → KeepsDeeds was_table was_style old was → ((key : ℕ) → deeds_at now key ≡ after_exchange (told_exchange takes caught) (deeds_at was) key)
    → KeepsDeeds table style new now)

-- and an empty one, in which all that is told of a document is exchanged, has the deeds of that
abbrev pub NewIndexesKeepDeeds : Type 0
NewIndexesKeepDeeds =
    OfEachIndex (λ table style tree now. HasDistinctKeys tree → (was : CounterIndex) → ((key : ℕ) → deeds_at was key ≡ None)
    → ((key : ℕ) → deeds_at now key ≡ after_exchange (told_exchange [] (told_without_starts table style tree)) (deeds_at was) key)
    → KeepsDeeds table style tree now)

-- Exchanges, by what is taken out and what is put in.
abbrev pub ExchangesArePutOver : Type 0
ExchangesArePutOver =
    (takes : List ℕ) (puts : List (ℕ × CounterDeeds)) (held : ℕ → Option CounterDeeds) (key : ℕ)
    → after_exchange (takes_out takes ++ puts_in puts) held key ≡ put_over puts takes held key

-- Starts that are told again and exchanged: each of these elements has those for which it asks, with their values.
abbrev pub ToldAreExchanged : Type 0
ToldAreExchanged =
    (told : BoxId → List ℕ → ℤ) (index : CounterIndex) (keys : List ℕ) (held : ℕ → Option (List Start)) (key : ℕ)
    → after_exchange (told_entries told index keys) held key ≡ (if is_among keys key then Some (with_values told (asked_at index key)) else held key)
