-- Where no box asks for a start, a document is told the same with all starts 0 as with its own.
use Rattle.std.proofs.Common.{◌≡◌, ◌∙◌, ℕ, Bool, IsTrue, true, false, List, [], ◌∷◌, None, refl, sym, ap}
use Rattle.std.proofs.Math.Path.{fun_ext}
use Rattle.std.proofs.lemmas.Bool.{both_ways}
use Rattle.std.specs.FinMap.{FinMap, get}
use Rattle.std.specs.Option.{option_or}
use Rattle.std.specs.Ordering.{nat_cmp}
use Rattle.std.specs.Prelude.{◌↔◌, option_map}
use Rattle.forest.specs.Keys.{HasDistinctKeys}
use Rattle.plain_types.specs.declared.box_id.BoxId.{BoxId}
use Rattle.box_eval.specs.declared.inputs.Start.{Start}
use Rattle.box_eval.specs.Evaluation.{styled}
use Rattle.box_eval.specs.Starts.{has_starts, no_starts}
use Rattle.generated_texts.specs.Documents.{document_style}
use Rattle.merged_walk.specs.Entries.{first_at}
use Rattle.surroundings.specs.declared.told.Told.{Told}
use Rattle.surroundings.specs.declared.walked.Walked.{Walked}
use Rattle.surroundings.specs.Laws.{told_document}
use Rattle.edit_work.specs.KeyedSources.{KeyedSource, author, own_starts, table}
use Rattle.counter_index.specs.declared.index.CounterIndex.{CounterIndex}
use Rattle.counter_index.specs.Indexes.{AsksForStarts, asked_at, value_at}
use Rattle.counter_index.proofs.IndexLemmas.{other_starts_are_zero}
use Rattle.scope_deeds.specs.Reversed.{is_start_of}
use Rattle.touched_starts.specs.Laws.{IsIndexOf}
use Rattle.touched_starts.proofs.AskedLemmas.{starts_are_asked}
use Rattle.started_walk.specs.Countings.{KeepsZeros, walked_with}
use Rattle.started_walk.specs.Laws.{UnaskedAreOwn}

-- no starts are none of any counter
none-asked : (creator : BoxId) (name : List ℕ) (starts : List Start) → (has_starts starts ≡ true → ⊥) → is_start_of creator name starts ≡ false
none-asked creator name [] none = refl
none-asked creator name (start ∷ starts) none = absurd (none refl)

module _ (source : KeyedSource) (index : CounterIndex) (is : IsIndexOf source index) (none : AsksForStarts index → ⊥) where
  zero-there : (creator : BoxId) (name : List ℕ) → value_at index creator name ≡ no_starts creator name
  zero-there creator name =
      other_starts_are_zero (table source) (document_style (author source) source.tree) source.tree index is.starts creator name
      (none-asked creator name (asked_at index creator.key) (λ some. none (creator.key, some)))

  are-zero : value_at index ≡ no_starts
  are-zero = fun_ext (λ creator. fun_ext (λ name. zero-there creator name))

pub unasked_are_own : UnaskedAreOwn
unasked_are_own source index distinct is none =
    let style = document_style (author source) source.tree in
    ap (told_document (table source))
    (ap (λ start. styled style start source.tree) (sym (are-zero source index is none)) ∙ starts_are_asked (table source) style source.tree index distinct is)

-- So nothing is to be kept of it where all starts are 0.
pub unasked-zeros : (source : KeyedSource) (index : CounterIndex) → HasDistinctKeys source.tree → IsIndexOf source index → (AsksForStarts index → ⊥)
    → (held : FinMap nat_cmp Walked) → ((key : ℕ) → get held key ≡ None) → KeepsZeros source held
unasked-zeros source index distinct is none held nothing key =
    ap (λ zero. option_or zero (walked_with source (own_starts source) key)) (nothing key)
    ∙ ap (λ (told : List (ℕ × Told)). option_map (λ (told : Told). told.walked) (first_at told key)) (sym (unasked_are_own source index distinct is none))

-- The index told that none asks.
pub unasked : (index : CounterIndex) (asks : Bool) → IsTrue asks ↔ AsksForStarts index → asks ≡ false → AsksForStarts index → ⊥
unasked index asks tells none some = both_ways asks none (tells.1 some)
