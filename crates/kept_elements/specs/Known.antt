-- What is known of the elements that ids name, where what is told and flat texts are kept under keys (our own).
use Rattle.std.specs.Prelude.{◌≡◌, ℕ, List, Option, Some, None, cond, nat_eq, map, option_copied, option_map}
use Rattle.std.specs.Borrow.{Bor}
use Rattle.std.specs.HashMap.{HashMap, get}
use Rattle.std.specs.Option.{option_and_then}
use Rattle.forest.specs.Forest.{Forest}
use Rattle.forest.specs.Keys.{Keyed}
use Rattle.plain_types.specs.declared.content.Part.{Part}
use Rattle.plain_types.specs.declared.content.Part.TheVariants.{Content, Before, After}
use Rattle.plain_types.specs.declared.counter.Counter.{Counter}
use Rattle.plain_types.specs.declared.counter_style.CounterStyle.{CounterStyle}
use Rattle.plain_types.specs.declared.node.Node.{Node}
use Rattle.content_eval.specs.Targets.{Known, flat_text}
use Rattle.box_eval.specs.declared.element_record.ElementRecord.{ElementRecord}
use Rattle.box_eval.specs.declared.made.Made.{Made}
use Rattle.generated_texts.specs.References.{first_holder, kept_at, known_characters}
use Rattle.surroundings.specs.declared.told.Told.{Told}
use Rattle.kept_elements.specs.declared.flat_texts.FlatTexts.{FlatTexts}

-- the map has the values of a list under their keys
abbrev pub IsKeptIn : {V S : Type 0} → HashMap ℕ (Bor V) S → List (ℕ × V) → Type 0
IsKeptIn map kept = (key : ℕ) → option_copied (get nat_eq map key) ≡ kept_at kept key

-- the flat text of a box of an element; its own content is no box
abbrev pub flat_in : FlatTexts → Part → Option (List ℕ)
flat_in texts Content = None
flat_in texts Before = texts.before
flat_in texts After = texts.after

module _ (document : Forest (Keyed Node)) (told : List (ℕ × Told)) where
  -- what is kept under the key of an id's target
  abbrev pub kept_of_target : {V : Type 0} → List (ℕ × V) → List ℕ → Option V
  kept_of_target {V} kept id = option_and_then (kept_at kept) (first_holder document id)

  abbrev pub counters_kept : List ℕ → Option (List Counter)
  counters_kept id = option_and_then (λ (one : Told). cond one.said.has_box (Some one.said.own) None) (kept_of_target told id)

  -- all together; before flat texts are known, none are kept
  abbrev pub known_by : List (ℕ × FlatTexts) → Known
  known_by flats = record {
    counters = counters_kept;
    characters = known_characters document;
    flat = λ id part. option_and_then (λ (texts : FlatTexts). flat_in texts part) (kept_of_target flats id);
  }

module _ (table : List CounterStyle) (known : Known) where
  abbrev pub flat_text_of : Made → List ℕ
  flat_text_of made = flat_text table known made.pieces

  -- the flat texts of an element of which this is said
  abbrev pub flat_texts_of : ElementRecord → FlatTexts
  flat_texts_of element = record { before = option_map flat_text_of element.before; after = option_map flat_text_of element.after }

  -- those of all elements, under their keys
  abbrev pub all_flat_texts_of : List (ℕ × Told) → List (ℕ × FlatTexts)
  all_flat_texts_of told = map (λ (element : ℕ × Told). (element.0, flat_texts_of element.1.said)) told
