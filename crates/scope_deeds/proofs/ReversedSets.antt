-- A set without a reversed counter lacks each counter that its creator creates reversed. Throughout, a is the box that creates the counter.
use Rattle.std.proofs.Common.{◌≡◌, ◌&&◌, ◌∷◌, ℕ, Bool, true, false, List, [], map, refl, sym, ap, subst, ◌∙◌, inl, inr}
use Rattle.std.proofs.lemmas.Bool.{cases_Bool}
use Rattle.std.specs.Prelude.{filter}
use Rattle.std.specs.List.{AllByRecursion}
use Rattle.std.specs.Str.{bytes_eq}
use Rattle.forest.specs.Forest.{Forest, labels}
use Rattle.plain_types.specs.declared.box_id.BoxId.{BoxId}
use Rattle.plain_types.specs.declared.counter.Counter.{Counter}
use Rattle.counter_sets.specs.Sets.{is_named, is_same_box}
use Rattle.counter_scopes.specs.Boxes.{DocumentBox}
use Rattle.counter_scopes.specs.Counting.{created}
use Rattle.counter_scopes.specs.Laws.{HasTheirValues}
use Rattle.counter_scopes.specs.Scopes.{creators, is_in_scope}
use Rattle.counter_scopes.specs.Values.{counter_at}
use Rattle.counter_scopes.proofs.EventLemmas.{creator_item}
use Rattle.counter_scopes.proofs.LawLemmas.{created_by}
use Rattle.counter_scopes.proofs.NameLemmas.{name_eq, name_self}
use Rattle.counter_scopes.proofs.OrderLemmas.{each_filter, each_item}
use Rattle.counter_scopes.proofs.ToldLemmas.{HasDistinctBoxes}
use Rattle.box_eval.proofs.ListLemmas.{or_parts}
use Rattle.scope_reading.proofs.OtherCounters.{IsOther}
use Rattle.scope_deeds.specs.Reversed.{has_reversed}

each-mapped : {A B : Type 0} (f : A → B) (P : B → Type 0) (xs : List A) → AllByRecursion (λ x. P (f x)) xs → AllByRecursion P (map f xs)
each-mapped f P [] h = tt
each-mapped f P (x ∷ xs) h = (h.0, each-mapped f P xs h.1)

module _ (a : BoxId) (name : List ℕ) where
  -- where the box is the one that creates the counter, it creates it reversed
  abbrev pub CreatesReversed : DocumentBox → Type 0
  CreatesReversed box = is_same_box box.id a ≡ true → (created name box).reversed ≡ true

  abbrev IsReversed : Counter → Type 0
  IsReversed counter = is_same_box counter.creator a ≡ true → counter.reversed ≡ true

  other-box : (counter : Counter) → IsReversed counter → counter.reversed ≡ false → is_same_box counter.creator a ≡ false
  other-box counter is none = elim (cases_Bool (is_same_box counter.creator a)) [
    | inl e ↦ absurd (let reversed = is e in cc)
    | inr e ↦ e
  ]

  other-name : (counter : Counter) → is_named name counter ≡ false → bytes_eq counter.name name ≡ false
  other-name counter not = elim (cases_Bool (bytes_eq counter.name name)) [
    | inl e ↦ absurd (let same : bytes_eq name counter.name ≡ true = ap (λ other. bytes_eq name other) (name_eq counter.name name e) ∙ name_self name in cc)
    | inr e ↦ e
  ]

  and-false : (b c : Bool) → c ≡ false → (b && c) ≡ false
  and-false true c h = h
  and-false false c h = refl

  others : (set : List Counter) → AllByRecursion IsReversed (filter (is_named name) set) → has_reversed set ≡ false → AllByRecursion (IsOther a name) set
  others [] all none = tt
  others (counter ∷ set) all none =
      let parts = or_parts counter.reversed (has_reversed set) none in
      elim (cases_Bool (is_named name counter)) [
        | inl e ↦
            let both : IsReversed counter × AllByRecursion IsReversed (filter (is_named name) set) = rw e at all in
            (ap (λ b. b && bytes_eq counter.name name) (other-box counter both.0 parts.0), others set both.1 parts.1)
        | inr e ↦
            let rest : AllByRecursion IsReversed (filter (is_named name) set) = rw e at all in
            (and-false (is_same_box counter.creator a) (bytes_eq counter.name name) (other-name counter e), others set rest parts.1)
      ]

  module _ (boxes : Forest DocumentBox) (distinct : HasDistinctBoxes boxes) (all : AllByRecursion CreatesReversed (labels boxes)) where
    pub lacks-it : (box : BoxId) (set : List Counter) → HasTheirValues boxes box set → has_reversed set ≡ false → AllByRecursion (IsOther a name) set
    lacks-it box set values none =
        let made : AllByRecursion (λ (creator : DocumentBox). IsReversed (counter_at boxes name box creator)) (filter (λ (creator : DocumentBox). is_in_scope name boxes creator.id box) (creators name boxes)) =
        each_filter (λ (creator : DocumentBox). IsReversed (counter_at boxes name box creator)) (λ (creator : DocumentBox). is_in_scope name boxes creator.id box) (creators name boxes)
        (λ creator is _ same.
        each_item CreatesReversed (labels boxes) all creator (creator_item name boxes distinct creator is)
        (ap (λ (id : BoxId). is_same_box id a) (sym (created_by boxes name creator)) ∙ same)) in
        others set (subst (AllByRecursion IsReversed) (sym (values name)) (each-mapped (counter_at boxes name box) IsReversed _ made)) none
