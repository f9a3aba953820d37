-- The changes that add references. Throughout, own is the key of an element, and id and key are those of a pair.
use Rattle.std.proofs.Common.{◌≡◌, ◌==◌, ◌||◌, ◌&&◌, ℕ, nat_eq, Bool, true, false, cond, List, [], ◌∷◌, ◌++◌, flat_map, Option, Some, None, refl, sym, ap, ap₂, ◌∙◌, eqb-true}
use Rattle.std.proofs.Math.Bool.{or-false}
use Rattle.std.specs.List.{cons_option, filter_map, list_any}
use Rattle.std.specs.Option.{option_map_or}
use Rattle.std.specs.Str.{bytes_eq}
use Rattle.std.proofs.lemmas.Bool.{or_parts}
use Rattle.std.proofs.lemmas.List.Folds.{list_any-append}
use Rattle.forest.specs.Forest.{Forest}
use Rattle.forest.specs.Keys.{Keyed}
use Rattle.plain_types.specs.declared.node.Node.{Node}
use Rattle.content_eval.specs.declared.generated.Piece.{Piece}
use Rattle.content_eval.specs.Targets.{reference}
use Rattle.box_eval.specs.declared.element_record.ElementRecord.{ElementRecord}
use Rattle.box_eval.specs.declared.made.Made.{Made}
use Rattle.generated_texts.specs.References.{kept_at}
use Rattle.edit_work.specs.KeyedSources.{references_in, references_of}
use Rattle.surroundings.specs.declared.told.Told.{Told}
use Rattle.target_index.specs.declared.change.IndexChange.{IndexChange}
use Rattle.target_index.specs.declared.change.IndexChange.TheVariants.{Refer}
use Rattle.target_index.specs.Changes.{holds_after_all, refers_after_all}
use Rattle.referring_elements.specs.Indexes.{refers_to}
use Rattle.referring_elements.specs.References.{AreOnce, all_changes, box_changes, element_changes, piece_changes, said_of}

-- Tests.

none-of : (e : Bool) → (e && false) ≡ false
none-of true = refl
none-of false = refl

same-either : (b e : Bool) → b ≡ (b || (e && false))
same-either true e = refl
same-either false e = sym (none-of e)

joined : (b e x y : Bool) → ((b || (e && x)) || (e && y)) ≡ (b || (e && (x || y)))
joined true e x y = refl
joined false true x y = refl
joined false false x y = refl

one-change : (x e b : Bool) → cond (x && e) true b ≡ (b || (e && x))
one-change true true true = refl
one-change true true false = refl
one-change true false true = refl
one-change true false false = refl
one-change false true true = refl
one-change false true false = refl
one-change false false true = refl
one-change false false false = refl

module _ (id : List ℕ) (key : ℕ) where
  after-append : (some more : List IndexChange) (b : Bool) → refers_after_all (some ++ more) id key b ≡ refers_after_all more id key (refers_after_all some id key b)
  after-append [] more b = refl
  after-append (change ∷ some) more b = after-append some more _

  abbrev among : List (List ℕ) → Bool
  among ids = list_any (bytes_eq id) ids

  -- each kind of changes adds the references to ids, of the element of this key
  module _ (own : ℕ) where
    abbrev Adds : List IndexChange → List (List ℕ) → Type 0
    Adds changes ids = (b : Bool) → refers_after_all changes id key b ≡ (b || ((own == key) && among ids))

    adds-both : (some more : List IndexChange) (ids others : List (List ℕ)) → Adds some ids → Adds more others → Adds (some ++ more) (ids ++ others)
    adds-both some more ids others one other b =
        after-append some more b
        ∙ ap (refers_after_all more id key) (one b)
        ∙ other (b || ((own == key) && among ids))
        ∙ joined b (own == key) (among ids) (among others)
        ∙ ap (λ x. b || ((own == key) && x)) (sym (list_any-append (bytes_eq id) ids others))

    adds-none : Adds [] []
    adds-none b = same-either b (own == key)

    adds-piece : (piece : Piece) (ids : List (List ℕ)) (more : List IndexChange) → Adds more ids → Adds (piece_changes own piece ++ more) (cons_option (reference piece) ids)
    adds-piece piece ids more rest = by (reference piece)
      where
        by : (o : Option (List ℕ)) → Adds (option_map_or (λ id. Refer id own ∷ []) o [] ++ more) (cons_option o ids)
        by None = rest
        by (Some other) = λ b.
            rest (cond (bytes_eq id other && nat_eq own key) true b)
            ∙ ap (λ x. x || ((own == key) && among ids)) (one-change (bytes_eq id other) (own == key) b)
            ∙ joined b (own == key) (bytes_eq id other) (among ids)

    adds-pieces : (pieces : List Piece) → Adds (flat_map (piece_changes own) pieces) (filter_map reference pieces)
    adds-pieces [] = adds-none
    adds-pieces (piece ∷ pieces) = adds-piece piece (filter_map reference pieces) (flat_map (piece_changes own) pieces) (adds-pieces pieces)

    adds-box : (made : Option Made) → Adds (box_changes own made) (references_in made)
    adds-box None = adds-none
    adds-box (Some made) = adds-pieces made.pieces

    adds-element : (said : ElementRecord) → Adds (element_changes own said) (references_of said)
    adds-element said =
        adds-both (box_changes own said.marker) (box_changes own said.before ++ box_changes own said.after) (references_in said.marker) (references_in said.before ++ references_in said.after)
        (adds-box said.marker)
        (adds-both (box_changes own said.before) (box_changes own said.after) (references_in said.before) (references_in said.after) (adds-box said.before) (adds-box said.after))

  -- what is told of some element
  abbrev refers_told : ℕ × Told → Bool
  refers_told element = (element.0 == key) && among (references_of element.1.said)

  or-again : (a b c : Bool) → ((a || b) || c) ≡ (a || (b || c))
  or-again true b c = refl
  or-again false b c = refl

  adds-told : (told : List (ℕ × Told)) (b : Bool) → refers_after_all (all_changes told) id key b ≡ (b || list_any refers_told told)
  adds-told [] b = sym (or-false b)
  adds-told (element ∷ told) b =
      after-append (element_changes element.0 element.1.said) (all_changes told) b
      ∙ ap (refers_after_all (all_changes told) id key) (adds-element element.0 element.1.said b)
      ∙ adds-told told (b || refers_told element)
      ∙ or-again b (refers_told element) (list_any refers_told told)

  none-told : (told : List (ℕ × Told)) → list_any (λ (other : ℕ × Told). other.0 == key) told ≡ false → list_any refers_told told ≡ false
  none-told [] h = refl
  none-told (element ∷ told) h =
      let parts = or_parts (element.0 == key) (list_any (λ (other : ℕ × Told). other.0 == key) told) h in
      ap₂ (λ a b. (a && among (references_of element.1.said)) || b) parts.0 (none-told told parts.1)

  told-once : (told : List (ℕ × Told)) → AreOnce told → list_any refers_told told ≡ among (option_map_or references_of (kept_at (said_of told) key) [])
  told-once [] once = refl
  told-once (element ∷ told) once = by (element.0 == key) refl (told-once told once.1)
    where
      by : (b : Bool) → (element.0 == key) ≡ b → list_any refers_told told ≡ among (option_map_or references_of (kept_at (said_of told) key) [])
          → list_any refers_told (element ∷ told) ≡ among (option_map_or references_of (kept_at (said_of (element ∷ told)) key) [])
      by true is rest =
          let others : list_any (λ (other : ℕ × Told). other.0 == key) told ≡ false = ap (λ k. list_any (λ (other : ℕ × Told). other.0 == k) told) (sym (eqb-true element.0 key is)) ∙ once.0 in
          rw (is, none-told told others) (or-false (among (references_of element.1.said)))
      by false is rest = rw is rest

  pub all-tell : (told : List (ℕ × Told)) → AreOnce told → (document : Forest (Keyed Node)) → refers_after_all (all_changes told) id key false ≡ refers_to (record { tree = document; said = said_of told }) id key
  all-tell told once document = adds-told told false ∙ told-once told once

  -- They change no holders.

  held-append : (some more : List IndexChange) (b : Bool) → holds_after_all (some ++ more) id key b ≡ holds_after_all more id key (holds_after_all some id key b)
  held-append [] more b = refl
  held-append (change ∷ some) more b = held-append some more _

  abbrev HoldsOn : List IndexChange → Type 0
  HoldsOn changes = (b : Bool) → holds_after_all changes id key b ≡ b

  holds-both : (some more : List IndexChange) → HoldsOn some → HoldsOn more → HoldsOn (some ++ more)
  holds-both some more one other b = held-append some more b ∙ other (holds_after_all some id key b) ∙ one b

  holds-piece : (own : ℕ) (o : Option (List ℕ)) → HoldsOn (option_map_or (λ id. Refer id own ∷ []) o [])
  holds-piece own None b = refl
  holds-piece own (Some other) b = refl

  holds-pieces : (own : ℕ) (pieces : List Piece) → HoldsOn (flat_map (piece_changes own) pieces)
  holds-pieces own [] b = refl
  holds-pieces own (piece ∷ pieces) b = holds-both (piece_changes own piece) (flat_map (piece_changes own) pieces) (holds-piece own (reference piece)) (holds-pieces own pieces) b

  holds-box : (own : ℕ) (made : Option Made) → HoldsOn (box_changes own made)
  holds-box own None b = refl
  holds-box own (Some made) b = holds-pieces own made.pieces b

  pub all-hold : (told : List (ℕ × Told)) → HoldsOn (all_changes told)
  all-hold [] b = refl
  all-hold (element ∷ told) b =
      let said = element.1.said in
      holds-both (element_changes element.0 said) (all_changes told)
      (holds-both (box_changes element.0 said.marker) (box_changes element.0 said.before ++ box_changes element.0 said.after) (holds-box element.0 said.marker)
      (holds-both (box_changes element.0 said.before) (box_changes element.0 said.after) (holds-box element.0 said.before) (holds-box element.0 said.after)))
      (all-hold told) b
