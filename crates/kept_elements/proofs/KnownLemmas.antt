-- What is known of a document's targets, by keys and by definition.
use Rattle.std.proofs.Common.{◌≡◌, ◌==◌, ℕ, Bool, true, false, cond, List, [], ◌∷◌, map, Option, Some, None, refl, sym, ap, ap₂, ◌∙◌}
use Rattle.std.proofs.Math.Path.{fun_ext}
use Rattle.std.specs.Prelude.{option_map}
use Rattle.std.specs.Option.{option_and_then}
use Rattle.forest.specs.Forest.{Forest}
use Rattle.forest.specs.Keys.{Keyed}
use Rattle.plain_types.specs.declared.content.Part.{Part}
use Rattle.plain_types.specs.declared.content.Part.TheVariants.{Content, Before, After}
use Rattle.plain_types.specs.declared.counter.Counter.{Counter}
use Rattle.plain_types.specs.declared.counter_style.CounterStyle.{CounterStyle}
use Rattle.plain_types.specs.declared.node.Node.{Node}
use Rattle.content_eval.specs.Targets.{Known, flat_text}
use Rattle.content_eval.specs.TargetLaws.{FlatTextsNeedNoFlatTexts}
use Rattle.box_eval.specs.declared.element_record.ElementRecord.{ElementRecord}
use Rattle.box_eval.specs.declared.made.Made.{Made}
use Rattle.generated_texts.specs.References.{asked_box, first_holder, kept_at, known_characters, known_counters, known_flat, known_targets, known_to_flat_texts}
use Rattle.surroundings.specs.declared.told.Told.{Told}
use Rattle.kept_elements.specs.declared.flat_texts.FlatTexts.{FlatTexts}
use Rattle.referring_elements.specs.References.{said_of}
use Rattle.kept_elements.specs.Known.{all_flat_texts_of, counters_kept, flat_in, flat_text_of, flat_texts_of, known_by}

-- What is kept of what is kept, under the same keys.
pub kept_mapped : {V W : Type 0} (f : V → W) (kept : List (ℕ × V)) (key : ℕ) → kept_at (map (λ (e : ℕ × V). (e.0, f e.1)) kept) key ≡ option_map f (kept_at kept key)
kept_mapped f [] key = refl
kept_mapped {V} {W} f (entry ∷ kept) key = by (entry.0 == key) refl (kept_mapped f kept key)
  where
    by : (b : Bool) → (entry.0 == key) ≡ b → kept_at (map (λ (e : ℕ × V). (e.0, f e.1)) kept) key ≡ option_map f (kept_at kept key)
        → kept_at ((entry.0, f entry.1) ∷ map (λ (e : ℕ × V). (e.0, f e.1)) kept) key ≡ option_map f (kept_at (entry ∷ kept) key)
    by true e rest = rw e refl
    by false e rest = rw e rest

module _ (table : List CounterStyle) (document : Forest (Keyed Node)) (told : List (ℕ × Told)) where
  abbrev records : List (ℕ × ElementRecord)
  records = said_of told

  -- what is said of a target
  said_kept : {W : Type 0} (make : ElementRecord → Option W) (o : Option ℕ)
      → option_and_then (λ (one : Told). make one.said) (option_and_then (kept_at told) o) ≡ option_and_then make (option_and_then (kept_at records) o)
  said_kept make None = refl
  said_kept make (Some key) = by (kept_at told key) ∙ ap (option_and_then make) (sym (kept_mapped (λ (one : Told). one.said) told key))
    where
      by : (o : Option Told) → option_and_then (λ (one : Told). make one.said) o ≡ option_and_then make (option_map (λ (one : Told). one.said) o)
      by None = refl
      by (Some one) = refl

  same_counters : counters_kept document told ≡ known_counters table document records
  same_counters = fun_ext (λ id. said_kept (λ (element : ElementRecord). cond element.has_box (Some element.own) None) (first_holder document id))

  -- the flat texts are those that the definition has
  same_text : FlatTextsNeedNoFlatTexts → (flats : List (ℕ × FlatTexts)) (made : Made)
      → flat_text_of table (known_by document told flats) made ≡ flat_text_of table (known_to_flat_texts table document records) made
  same_text law flats made =
      law table made.pieces (known_by document told flats) (λ id part. None)
      ∙ ap (λ (counters : List ℕ → Option (List Counter)). flat_text table (record { counters = counters; characters = known_characters document; flat = λ id part. None }) made.pieces) same_counters

  same_texts : FlatTextsNeedNoFlatTexts → (flats : List (ℕ × FlatTexts)) (element : ElementRecord)
      → flat_texts_of table (known_by document told flats) element ≡ flat_texts_of table (known_to_flat_texts table document records) element
  same_texts law flats element =
      let one : Known = known_by document told flats in
      let other : Known = known_to_flat_texts table document records in
      let make : Option (List ℕ) → Option (List ℕ) → FlatTexts = λ before after. record { before = before; after = after } in
      let same : (λ (made : Made). flat_text_of table one made) ≡ (λ (made : Made). flat_text_of table other made) = fun_ext (λ made. same_text law flats made) in
      ap₂ make (ap (λ f. option_map f element.before) same) (ap (λ f. option_map f element.after) same)

  pub all_same : FlatTextsNeedNoFlatTexts → (flats : List (ℕ × FlatTexts)) (elements : List (ℕ × Told))
      → all_flat_texts_of table (known_by document told flats) elements ≡ all_flat_texts_of table (known_to_flat_texts table document records) elements
  all_same law flats [] = refl
  all_same law flats (element ∷ elements) =
      ap₂ (λ (texts : FlatTexts) (rest : List (ℕ × FlatTexts)). (element.0, texts) ∷ rest) (same_texts law flats element.1.said) (all_same law flats elements)

  asked : (element : ElementRecord) (part : Part) → flat_in (flat_texts_of table (known_to_flat_texts table document records) element) part ≡ option_map (flat_text_of table (known_to_flat_texts table document records)) (asked_box element part)
  asked element Content = refl
  asked element Before = refl
  asked element After = refl

  same_flat : (id : List ℕ) (part : Part) → (known_by document told (all_flat_texts_of table (known_to_flat_texts table document records) told)).flat id part ≡ known_flat table document records id part
  same_flat id part = by (first_holder document id)
    where
      texts : Told → FlatTexts
      texts one = flat_texts_of table (known_to_flat_texts table document records) one.said

      said : (o : Option Told) → option_and_then (λ (t : FlatTexts). flat_in t part) (option_map texts o)
          ≡ option_map (flat_text_of table (known_to_flat_texts table document records)) (option_and_then (λ (one : Told). asked_box one.said part) o)
      said None = refl
      said (Some one) = asked one.said part

      by : (o : Option ℕ) → option_and_then (λ (t : FlatTexts). flat_in t part) (option_and_then (kept_at (all_flat_texts_of table (known_to_flat_texts table document records) told)) o)
          ≡ option_map (flat_text_of table (known_to_flat_texts table document records)) (option_and_then (λ (element : ElementRecord). asked_box element part) (option_and_then (kept_at records) o))
      by None = refl
      by (Some key) =
          ap (option_and_then (λ (t : FlatTexts). flat_in t part)) (kept_mapped texts told key)
          ∙ said (kept_at told key)
          ∙ ap (option_map (flat_text_of table (known_to_flat_texts table document records))) (said_kept (λ (element : ElementRecord). asked_box element part) (Some key))

  -- what is known by keys is what is known
  pub same_known : known_by document told (all_flat_texts_of table (known_to_flat_texts table document records) told) ≡ known_targets table document records
  same_known =
      ap₂ (λ (counters : List ℕ → Option (List Counter)) (flat : List ℕ → Part → Option (List ℕ)). record { counters = counters; characters = known_characters document; flat = flat })
      same_counters
      (fun_ext (λ id. fun_ext (λ part. same_flat id part)))
