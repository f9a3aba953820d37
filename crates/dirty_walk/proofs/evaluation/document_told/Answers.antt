use Rattle.std.proofs.Common.{◌≡◌, ◌∙◌, ℕ, Bool, false, IsTrue, ap, length, refl, sym, List}
use Rattle.std.specs.Prelude.{◌↔◌}
use Rattle.std.proofs.lemmas.Bool.{false≢true}
use Rattle.forest.specs.Forest.{Forest}
use Rattle.forest.specs.Keys.{HasDistinctKeys, Keyed, without_keys}
use Rattle.box_eval.specs.Evaluation.{StyledNode}
use Rattle.box_eval.specs.Starts.{no_starts}
use Rattle.generated_texts.specs.Documents.{document_style}
use Rattle.document_walk.specs.Elements.{element_count}
use Rattle.surroundings.specs.Laws.{told_document}
use Rattle.surroundings.specs.declared.told.Told.{Told}
use Rattle.edit_work.specs.KeyedSources.{KeyedSource, author, table}
use Rattle.reference_reach.specs.ToldLaws.{told_with}
use Rattle.counter_index.specs.declared.index.CounterIndex.{CounterIndex}
use Rattle.counter_index.specs.Indexes.{AsksForStarts}
use Rattle.touched_starts.specs.Laws.{IsIndexOf}
use Rattle.touched_starts.proofs.AskedLemmas.{starts_are_asked}
use Rattle.started_walk.proofs.UnaskedLemmas.{unasked_are_own}
use Rattle.kept_elements.specs.Evaluations.{document_told}
use Rattle.kept_elements.proofs.ToldLemmas.{told_count}
use Rattle.dirty_walk.specs.declared.styled_arena.StyledArena.{StyledArena}
use Rattle.dirty_walk.specs.Machinery.DocumentWalks.{source_of, told_by_index, told_without_starts}
use Rattle.dirty_walk.proofs.evaluation.document_told.Goals as goal

-- the first walk has all starts 0
with_none : (document : StyledArena) (told : List (ℕ × Told)) → told ≡ told_without_starts document → told ≡ told_with (source_of document) no_starts
unfolding told_without_starts
with_none document told is = is

none_asks : (asks : Bool) (index : CounterIndex) → IsTrue asks ↔ AsksForStarts index → asks ≡ false → AsksForStarts index → ⊥
none_asks asks index tells none some = false≢true (sym none ∙ tells.1 some)

module _ (document : StyledArena) (distinct : HasDistinctKeys document.arena.now.tree) (index : CounterIndex) (indexed : IsIndexOf (source_of document) index) where
  abbrev source : KeyedSource
  source = source_of document

  -- where the index asks for none, the first walk has told all
  told_at_once : (AsksForStarts index → ⊥) → (first : List (ℕ × Told)) → first ≡ told_without_starts document → first ≡ document_told (author source) source.tree
  told_at_once none first is = with_none document first is ∙ unasked_are_own source index distinct indexed none

  -- with its starts the second one tells all
  told_again : (told : List (ℕ × Told)) → told ≡ told_by_index document index → told ≡ document_told (author source) source.tree
  unfolding told_by_index
  told_again told is =
      is
      ∙ ap (λ (trees : Forest (Keyed StyledNode)). told_document (table source) trees)
      (starts_are_asked (table source) (document_style (author source) source.tree) source.tree index distinct indexed)

  counted : (told : List (ℕ × Told)) → told ≡ document_told (author source) source.tree → length told ≡ element_count (without_keys source.tree)
  counted told is = ap length is ∙ told_count (author source) source.tree distinct

pub of-requires : goal.of-requires
of-requires g c = record { told = (source_of c.args.document.now, (refl, with_none c.args.document.now c.as_slice.result.now (c.as_slice.ensures.items ∙ c.in_ok-first.ensures.told))) }

pub returns-then-not-asks-clause-told : goal.returns-then-not-asks-clause-told
returns-then-not-asks-clause-told g c =
    let document = c.args.document.now in
    let first = with_none document c.as_slice.result.now (c.as_slice.ensures.items ∙ c.in_ok-first.ensures.told) in
    told_at_once document c.arena_holds_document.ensures.document.distinct c.in_ok-counting.counting.index (c.in_ok-counting.ensures.counts (source_of document) refl first).index
    (none_asks c.asks.result c.in_ok-counting.counting.index c.asks.ensures.test c.if-not-asks.true) c.in_ok-first.first c.in_ok-first.ensures.told

pub returns-then-not-asks-clause-count : goal.returns-then-not-asks-clause-count
returns-then-not-asks-clause-count g c =
    let document = c.args.document.now in
    let first = with_none document c.as_slice.result.now (c.as_slice.ensures.items ∙ c.in_ok-first.ensures.told) in
    let indexed = (c.in_ok-counting.ensures.counts (source_of document) refl first).index in
    counted document c.arena_holds_document.ensures.document.distinct c.in_ok-counting.counting.index indexed c.in_ok-first.first
    (told_at_once document c.arena_holds_document.ensures.document.distinct c.in_ok-counting.counting.index indexed
    (none_asks c.asks.result c.in_ok-counting.counting.index c.asks.ensures.test c.if-not-asks.true) c.in_ok-first.first c.in_ok-first.ensures.told)

pub returns-then-not-asks-clause-counts : goal.returns-then-not-asks-clause-counts
returns-then-not-asks-clause-counts g c =
    let document = c.args.document.now in
    c.in_ok-counting.ensures.counts (source_of document) refl (with_none document c.as_slice.result.now (c.as_slice.ensures.items ∙ c.in_ok-first.ensures.told))

pub returns-clause-told : goal.returns-clause-told
returns-clause-told g c =
    let document = c.args.document.now in
    let first = with_none document c.as_slice.result.now (c.as_slice.ensures.items ∙ c.in_ok-first.ensures.told) in
    told_again document c.arena_holds_document.ensures.document.distinct c.in_ok-counting.counting.index (c.in_ok-counting.ensures.counts (source_of document) refl first).index
    c.in_ok-told.told c.in_ok-told.ensures.told

pub returns-clause-count : goal.returns-clause-count
returns-clause-count g c =
    let document = c.args.document.now in
    let first = with_none document c.as_slice.result.now (c.as_slice.ensures.items ∙ c.in_ok-first.ensures.told) in
    let indexed = (c.in_ok-counting.ensures.counts (source_of document) refl first).index in
    counted document c.arena_holds_document.ensures.document.distinct c.in_ok-counting.counting.index indexed c.in_ok-told.told
    (told_again document c.arena_holds_document.ensures.document.distinct c.in_ok-counting.counting.index indexed c.in_ok-told.told c.in_ok-told.ensures.told)

pub returns-clause-counts : goal.returns-clause-counts
returns-clause-counts g c =
    let document = c.args.document.now in
    c.in_ok-counting.ensures.counts (source_of document) refl (with_none document c.as_slice.result.now (c.as_slice.ensures.items ∙ c.in_ok-first.ensures.told))
