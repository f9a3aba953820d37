-- Laws of what is kept of elements: it tells what is done to a counter in its scope, and so its start.
use Rattle.std.specs.Prelude.{◌≡◌, ℕ, true, false, List, [], Option, Some, map}
use Rattle.forest.specs.Forest.{Forest}
use Rattle.forest.specs.Keys.{Keyed, HasDistinctKeys}
use Rattle.plain_types.specs.declared.box_id.BoxId.{BoxId}
use Rattle.plain_types.specs.declared.counter_style.CounterStyle.{CounterStyle}
use Rattle.plain_types.specs.declared.node.Node.{Node}
use Rattle.plain_types.specs.declared.style.ElementStyle.{ElementStyle}
use Rattle.plain_types.specs.declared.style.Style.{Style}
use Rattle.reversed_start.specs.Starts.{start}
use Rattle.box_eval.specs.Evaluation.{StyledNode, all_changes, styled}
use Rattle.box_eval.specs.Laws.{OfEachDocument}
use Rattle.box_eval.specs.Starts.{document_starts, events_of, no_starts}
use Rattle.surroundings.specs.declared.surroundings.Surroundings.{Surroundings}
use Rattle.surroundings.specs.declared.told.Told.{Told}
use Rattle.surroundings.specs.Laws.{told_document}
use Rattle.merged_walk.specs.Entries.{first_at}
use Rattle.start_reach.specs.Deeds.{deeds_in}
use Rattle.scope_reading.specs.ScopeChanges.{scope_changes}
use Rattle.scope_deeds.specs.Counting.{Counting, KeepsCounting, counting_in}
use Rattle.scope_deeds.specs.KeptScopes.{kept_changes, kept_scope}
use Rattle.scope_deeds.specs.Reversed.{KeepsReversed, asks_for, counting_told, meets_reversed}

-- what elements do is part of what is kept of them
abbrev pub DeedsAreKept : Type 0
DeedsAreKept =
    (table : List CounterStyle) (handed : Option Surroundings) (trees : Forest (Keyed StyledNode))
    → map (λ (entry : ℕ × Counting). (entry.0, entry.1.deeds)) (counting_in table handed trees) ≡ deeds_in table handed trees

-- a law of a document, and of a map that has what is kept of its elements
abbrev pub OfEachCounting : (List CounterStyle → Forest (Keyed StyledNode) → (ℕ → Option Counting) → Type 0) → Type 0
OfEachCounting law = OfEachDocument (λ table document. (kept : ℕ → Option Counting) → KeepsCounting table document kept → law table document kept)

-- all that boxes do is told by what is kept
abbrev pub ChangesAreKept : Type 0
ChangesAreKept = OfEachCounting (λ table document kept. kept_changes kept document ≡ all_changes table document)

-- and so is what is done to a counter in its scope
abbrev pub ScopesAreKept : Type 0
ScopesAreKept =
    OfEachCounting (λ table document kept. (creator : BoxId) (name : List ℕ)
    → events_of (kept_scope kept creator name document) creator name ≡ events_of (scope_changes creator name table document) creator name)

-- So the start of a reversed counter is told by what is kept of the elements with all starts 0, and by the keys of the document.
abbrev pub KeptScopesTellStarts : Type 0
KeptScopesTellStarts =
    (table : List CounterStyle) (style : ℕ → Option Style → ElementStyle) (document : Forest (Keyed Node)) → HasDistinctKeys document
    → (kept : ℕ → Option Counting) → KeepsCounting table (styled style no_starts document) kept
    → (creator : BoxId) (name : List ℕ)
    → document_starts table style document creator name ≡ start (events_of (kept_scope kept creator name document) creator name)

-- Where reversed counters alone are asked for, less is enough.

-- a law of a document with all starts 0, and of a counter for whose start an element asks
abbrev pub OfEachAsked : (List CounterStyle → (ℕ → Option Style → ElementStyle) → Forest (Keyed Node) → BoxId → List ℕ → Type 0) → Type 0
OfEachAsked law =
    (table : List CounterStyle) (style : ℕ → Option Style → ElementStyle) (document : Forest (Keyed Node)) → HasDistinctKeys document
    → (creator : BoxId) (name : List ℕ) → asks_for table (styled style no_starts document) creator name ≡ true → law table style document creator name

-- An element that meets no reversed counter does nothing to such a counter.
abbrev pub OthersAreIdle : Type 0
OthersAreIdle =
    OfEachAsked (λ table style document creator name. (key : ℕ) (told : Told)
    → first_at (told_document table (styled style no_starts document)) key ≡ Some told → meets_reversed told ≡ false
    → (events_of (counting_told told).deeds.before_children creator name ≡ []) × (events_of (counting_told told).deeds.after_children creator name ≡ []))

-- So its start is told by what is kept of the elements that meet one, and by the keys of the document.
abbrev pub ReversedScopesTellStarts : Type 0
ReversedScopesTellStarts =
    OfEachAsked (λ table style document creator name. (kept : ℕ → Option Counting) → KeepsReversed table (styled style no_starts document) kept
    → document_starts table style document creator name ≡ start (events_of (kept_scope kept creator name document) creator name))
