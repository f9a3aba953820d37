-- An index whose references are brought to those of an edited document, and back. Throughout, own is the key of an element, and
-- id and key are those of a pair.
use Rattle.std.proofs.Common.{◌≡◌, ◌==◌, ◌∙◌, ℕ, nat_eq, Bool, true, false, cond, ◌&&◌, ◌||◌, List, [], ◌∷◌, ◌++◌, flat_map, map, Option, Some, None, refl, sym, ap, ap₂, subst, inl, inr, eqb-true}
use Rattle.std.specs.Prelude.{All, IfOk, OnOk, Result, Ok, Err}
use Rattle.std.specs.FinMap.{FinMap, get}
use Rattle.std.specs.List.{cons_option, filter_map, list_any}
use Rattle.std.specs.Option.{option_and_then, option_map_or}
use Rattle.std.specs.Ordering.{nat_cmp}
use Rattle.std.specs.Str.{bytes_eq}
use Rattle.std.proofs.lemmas.Bool.{cases_Bool}
use Rattle.std.proofs.lemmas.List.Elements.{All-head, All-tail}
use Rattle.std.proofs.lemmas.List.Folds.{list_any-append}
use Rattle.std.proofs.lemmas.List.Sums.{fold-append}
use Rattle.plain_types.specs.declared.memory.Memory.{Memory}
use Rattle.content_eval.specs.declared.generated.Piece.{Piece}
use Rattle.content_eval.specs.Targets.{reference}
use Rattle.box_eval.specs.declared.element_record.ElementRecord.{ElementRecord}
use Rattle.box_eval.specs.declared.made.Made.{Made}
use Rattle.box_pieces.specs.declared.box_pieces.BoxPieces.{BoxPieces}
use Rattle.edit_work.specs.KeyedSources.{is_among, references_of}
use Rattle.edit_work.specs.KeyedSources.{references_in as references_made}
use Rattle.surroundings.specs.declared.told.Told.{Told}
use Rattle.target_index.specs.declared.change.IndexChange.{IndexChange}
use Rattle.target_index.specs.declared.index.Index.{Index}
use Rattle.target_index.specs.Changes.{AddsNoHolders, AddsNoReferences, AreReserved, holds_after, holds_after_all, refers_after, refers_after_all}
use Rattle.target_index.specs.Holders.{is_reference}
use Rattle.target_index.proofs.ReservedLemmas.{both_reserved, front_reserved, no_holders_both, no_references_both}
use Rattle.reference_reach.specs.ChangedTargets.{Evaluated, references_at}
use Rattle.referring_elements.specs.Indexes.{TellsReferences}
use Rattle.dirty_walk.specs.declared.exchange.ElementId.{ElementId}
use Rattle.kept_elements.specs.declared.kept.Kept.{Kept}
use Rattle.kept_elements.specs.Renewals.{is_told}
use Rattle.dirty_walk.specs.declared.reference_exchange.Reference.{Reference}
use Rattle.dirty_walk.specs.Exchanges.{exchanges, held, unheld}
use Rattle.dirty_walk.specs.Machinery.ReferenceLists.{all_kept, all_told, box_references, boxes_references, element_references, exchanged, kept_box_references, kept_references, piece_references, referred, unreferred}
use Rattle.dirty_walk.specs.Machinery.ReferenceExchanges.{ChangesReferences, LeadsBack, references_in, references_kept, references_of_boxes}

-- Tests.

cond_or : (value s t before : Bool) → cond t value (cond s value before) ≡ cond (s || t) value before
cond_or value true true before = refl
cond_or value true false before = refl
cond_or value false true before = refl
cond_or value false false before = refl

and_false : (e : Bool) → (e && false) ≡ false
and_false true = refl
and_false false = refl

and_or : (e x y : Bool) → ((e && x) || (e && y)) ≡ (e && (x || y))
and_or true x y = refl
and_or false x y = refl

turned : (x e : Bool) → (x && e) ≡ (e && x)
turned true true = refl
turned true false = refl
turned false true = refl
turned false false = refl

or_both : (a b w : Bool) → ((a && w) || (b && w)) ≡ ((a || b) && w)
or_both true true true = refl
or_both true true false = refl
or_both true false true = refl
or_both true false false = refl
or_both false b w = refl

module _ (id : List ℕ) (key : ℕ) where
  abbrev among : List (List ℕ) → Bool
  among ids = list_any (bytes_eq id) ids

  -- the reference is that pair
  abbrev is_that_pair : Reference → Bool
  is_that_pair one = bytes_eq id one.id && nat_eq one.key key

  abbrev is_listed : List Reference → Bool
  is_listed references = list_any is_that_pair references

  -- What the changes make of a pair that is there before, or not.

  all_referred : (references : List Reference) (before : Bool) → refers_after_all (map referred references) id key before ≡ cond (is_listed references) true before
  all_referred [] before = refl
  all_referred (one ∷ references) before = all_referred references (cond (is_that_pair one) true before) ∙ cond_or true (is_that_pair one) (is_listed references) before

  all_unreferred : (references : List Reference) (before : Bool) → refers_after_all (map unreferred references) id key before ≡ cond (is_listed references) false before
  all_unreferred [] before = refl
  all_unreferred (one ∷ references) before = all_unreferred references (cond (is_that_pair one) false before) ∙ cond_or false (is_that_pair one) (is_listed references) before

  exchanged_pair : (was is : List Reference) (before : Bool) → refers_after_all (exchanged was is) id key before ≡ cond (is_listed is) true (cond (is_listed was) false before)
  exchanged_pair was is before =
      fold-append (λ (b : Bool) (change : IndexChange). refers_after change id key b) before (map unreferred was) (map referred is)
      ∙ all_referred is (refers_after_all (map unreferred was) id key before)
      ∙ ap (cond (is_listed is) true) (all_unreferred was before)

  -- They touch no holder.

  referred_hold : (references : List Reference) (held : Bool) → holds_after_all (map referred references) id key held ≡ held
  referred_hold [] held = refl
  referred_hold (one ∷ references) held = referred_hold references held

  unreferred_hold : (references : List Reference) (held : Bool) → holds_after_all (map unreferred references) id key held ≡ held
  unreferred_hold [] held = refl
  unreferred_hold (one ∷ references) held = unreferred_hold references held

  pub exchanged_hold : (was is : List Reference) (held : Bool) → holds_after_all (exchanged was is) id key held ≡ held
  exchanged_hold was is held =
      fold-append (λ (b : Bool) (change : IndexChange). holds_after change id key b) held (map unreferred was) (map referred is)
      ∙ referred_hold is (holds_after_all (map unreferred was) id key held)
      ∙ unreferred_hold was held

  -- What is listed of an element.

  abbrev referring : ℕ → List ℕ → List Reference
  referring own id = record { key = own; id = id } ∷ []

  module _ (own : ℕ) where
    abbrev Lists : List Reference → List (List ℕ) → Type 0
    Lists references ids = is_listed references ≡ ((own == key) && among ids)

    lists_none : Lists [] []
    lists_none = sym (and_false (own == key))

    lists_both : (some more : List Reference) (ids others : List (List ℕ)) → Lists some ids → Lists more others → Lists (some ++ more) (ids ++ others)
    lists_both some more ids others one other =
        list_any-append is_that_pair some more
        ∙ ap₂ (λ a b. a || b) one other
        ∙ and_or (own == key) (among ids) (among others)
        ∙ ap (λ b. (own == key) && b) (sym (list_any-append (bytes_eq id) ids others))

    lists_piece : (o : Option (List ℕ)) (more : List Reference) (ids : List (List ℕ)) → Lists more ids
        → Lists (option_map_or (referring own) o [] ++ more) (cons_option o ids)
    lists_piece None more ids rest = rest
    lists_piece (Some i) more ids rest =
        ap₂ (λ a b. a || b) (turned (bytes_eq id i) (own == key)) rest ∙ and_or (own == key) (bytes_eq id i) (among ids)

    lists_pieces : (pieces : List Piece) → Lists (flat_map (piece_references own) pieces) (filter_map reference pieces)
    lists_pieces [] = lists_none
    lists_pieces (piece ∷ pieces) = lists_piece (reference piece) (flat_map (piece_references own) pieces) (filter_map reference pieces) (lists_pieces pieces)

    lists_kept_box : (pieces : Option (List Piece)) → Lists (kept_box_references own pieces) (references_in pieces)
    lists_kept_box None = lists_none
    lists_kept_box (Some pieces) = lists_pieces pieces

    lists_boxes : (boxes : BoxPieces) → Lists (boxes_references own boxes) (references_of_boxes boxes)
    lists_boxes boxes =
        lists_both (kept_box_references own boxes.marker) (kept_box_references own boxes.before ++ kept_box_references own boxes.after)
        (references_in boxes.marker) (references_in boxes.before ++ references_in boxes.after) (lists_kept_box boxes.marker)
        (lists_both (kept_box_references own boxes.before) (kept_box_references own boxes.after) (references_in boxes.before) (references_in boxes.after)
        (lists_kept_box boxes.before) (lists_kept_box boxes.after))

    lists_kept : (held : FinMap nat_cmp Kept) → Lists (kept_references held own) (references_kept held own)
    lists_kept held = by (option_and_then (λ (kept : Kept). kept.pieces) (get held own))
      where
        by : (o : Option BoxPieces) → Lists (option_map_or (boxes_references own) o []) (option_map_or references_of_boxes o [])
        by None = lists_none
        by (Some boxes) = lists_boxes boxes

    lists_box : (made : Option Made) → Lists (box_references own made) (references_made made)
    lists_box None = lists_none
    lists_box (Some made) = lists_pieces made.pieces

    lists_element : (said : ElementRecord) → Lists (element_references own said) (references_of said)
    lists_element said =
        lists_both (box_references own said.marker) (box_references own said.before ++ box_references own said.after)
        (references_made said.marker) (references_made said.before ++ references_made said.after) (lists_box said.marker)
        (lists_both (box_references own said.before) (box_references own said.after) (references_made said.before) (references_made said.after)
        (lists_box said.before) (lists_box said.after))

  -- of an element that is this one, what is so of its own key is so of this one
  at_key : (own : ℕ) (test : ℕ → Bool) → ((own == key) && test own) ≡ ((own == key) && test key)
  at_key own test = elim (cases_Bool (own == key)) [
    | inl e ↦ ap (λ k. (own == key) && test k) (eqb-true own key e)
    | inr e ↦ rw e refl
  ]

  -- one element more
  one_more : (own : ℕ) (test : ℕ → Bool) (rest : Bool) → (((own == key) && test own) || (rest && test key)) ≡ (((own == key) || rest) && test key)
  one_more own test rest = ap (λ b. b || (rest && test key)) (at_key own test) ∙ or_both (own == key) rest (test key)

  module _ (held : FinMap nat_cmp Kept) where
    listed_kept : (keys : List ℕ) → is_listed (all_kept held keys) ≡ (is_among keys key && among (references_kept held key))
    listed_kept [] = refl
    listed_kept (own ∷ keys) =
        list_any-append is_that_pair (kept_references held own) (all_kept held keys)
        ∙ ap₂ (λ a b. a || b) (lists_kept own held) (listed_kept keys)
        ∙ one_more own (λ k. among (references_kept held k)) (is_among keys key)

  listed_told : (at : ℕ → List (List ℕ)) (told : List (ℕ × Told)) → All (λ (element : ℕ × Told). at element.0 ≡ references_of element.1.said) told
      → is_listed (all_told told) ≡ (is_told told key && among (at key))
  listed_told at [] all = refl
  listed_told at (element ∷ told) all =
      list_any-append is_that_pair (element_references element.0 element.1.said) (all_told told)
      ∙ ap₂ (λ a b. a || b)
      (lists_element element.0 element.1.said ∙ ap (λ ids. (element.0 == key) && among ids) (sym (All-head (λ (one : ℕ × Told). at one.0 ≡ references_of one.1.said) element told all)))
      (listed_told at told (All-tail (λ (one : ℕ × Told). at one.0 ≡ references_of one.1.said) element told all))
      ∙ one_more element.0 (λ k. among (at k)) (is_told told key)

  -- A pair before the exchange and after it, where the element is told or not, and taken or not.

  comes : (told taken was is : Bool) → (taken ≡ true → is ≡ false) → (taken ≡ false → told ≡ false → is ≡ was)
      → cond (told && is) true (cond ((taken && was) || (told && was)) false was) ≡ is
  comes true true was true gone stays = absurd (cc (gone refl))
  comes true true true false gone stays = refl
  comes true true false false gone stays = refl
  comes true false was true gone stays = refl
  comes true false true false gone stays = refl
  comes true false false false gone stays = refl
  comes false true was true gone stays = absurd (cc (gone refl))
  comes false true true false gone stays = refl
  comes false true false false gone stays = refl
  comes false false was is gone stays = sym (stays refl refl)

  goes : (told taken was is : Bool) → (taken ≡ true → is ≡ false) → (taken ≡ false → told ≡ false → is ≡ was)
      → cond ((taken && was) || (told && was)) true (cond (told && is) false is) ≡ was
  goes true true was true gone stays = absurd (cc (gone refl))
  goes true true true false gone stays = refl
  goes true true false false gone stays = refl
  goes true false true true gone stays = refl
  goes true false true false gone stays = refl
  goes true false false true gone stays = refl
  goes true false false false gone stays = refl
  goes false true was true gone stays = absurd (cc (gone refl))
  goes false true true false gone stays = refl
  goes false true false false gone stays = refl
  goes false false was is gone stays = stays refl refl

  module _ (held : FinMap nat_cmp Kept) (takes : List ℕ) (told : List (ℕ × Told)) (keys : List ℕ) (keys_are : (k : ℕ) → is_among keys k ≡ is_told told k)
      (before after : Evaluated) (h : ChangesReferences held takes told before after) where
    abbrev was_listed : List Reference
    was_listed = all_kept held takes ++ all_kept held keys

    was_are : is_listed was_listed ≡ ((is_among takes key && among (references_at before key)) || (is_told told key && among (references_at before key)))
    was_are =
        list_any-append is_that_pair (all_kept held takes) (all_kept held keys)
        ∙ ap₂ (λ a b. a || b) (listed_kept held takes) (listed_kept held keys ∙ ap (λ b. b && among (references_kept held key)) (keys_are key))
        ∙ ap (λ ids. (is_among takes key && among ids) || (is_told told key && among ids)) (h.kept key)

    is_are : is_listed (all_told told) ≡ (is_told told key && among (references_at after key))
    is_are = listed_told (references_at after) told h.come

    gone_is : is_among takes key ≡ true → among (references_at after key) ≡ false
    gone_is taken = ap among (h.gone key taken)

    stays_is : is_among takes key ≡ false → is_told told key ≡ false → among (references_at after key) ≡ among (references_at before key)
    stays_is taken silent = ap among (h.others key taken silent)

    pub pair_comes : refers_after_all (exchanged was_listed (all_told told)) id key (among (references_at before key)) ≡ among (references_at after key)
    pair_comes =
        exchanged_pair was_listed (all_told told) (among (references_at before key))
        ∙ ap₂ (λ (i o : Bool). cond i true (cond o false (among (references_at before key)))) is_are was_are
        ∙ comes (is_told told key) (is_among takes key) (among (references_at before key)) (among (references_at after key)) gone_is stays_is

    pub pair_goes : refers_after_all (exchanged (all_told told) was_listed) id key (among (references_at after key)) ≡ among (references_at before key)
    pair_goes =
        exchanged_pair (all_told told) was_listed (among (references_at after key))
        ∙ ap₂ (λ (i o : Bool). cond o true (cond i false (among (references_at after key)))) is_are was_are
        ∙ goes (is_told told key) (is_among takes key) (among (references_at before key)) (among (references_at after key)) gone_is stays_is

-- They add no holder.

referred_none : (references : List Reference) → AddsNoHolders (map referred references)
referred_none [] = refl
referred_none (one ∷ references) = referred_none references

unreferred_none : (references : List Reference) → AddsNoHolders (map unreferred references)
unreferred_none [] = refl
unreferred_none (one ∷ references) = unreferred_none references

pub exchanged_none : (was is : List Reference) → AddsNoHolders (exchanged was is)
exchanged_none was is = no_holders_both (map unreferred was) (map referred is) (unreferred_none was) (referred_none is)

-- An index whose references are exchanged so.
module _ (held : FinMap nat_cmp Kept) (takes : List ℕ) (told : List (ℕ × Told)) (keys : List ℕ) (keys_are : (k : ℕ) → is_among keys k ≡ is_told told k) (old new : Index)
    (made : (id : List ℕ) (key : ℕ) → is_reference new id key ≡ refers_after_all (exchanged (all_kept held takes ++ all_kept held keys) (all_told told)) id key (is_reference old id key)) where
  abbrev were : List Reference
  were = all_kept held takes ++ all_kept held keys

  module _ (before after : Evaluated) (h : ChangesReferences held takes told before after) (tells : TellsReferences old before) where
    -- it tells those of the edited document
    pub index_comes : TellsReferences new after
    index_comes id key =
        made id key ∙ ap (λ b. refers_after_all (exchanged were (all_told told)) id key b) (tells id key) ∙ pair_comes id key held takes told keys keys_are before after h

    -- and on the way back those that it told before
    pub index_goes : (back : List IndexChange) → back ≡ exchanged (all_told told) were → AreReserved new back → LeadsBack back new old
    index_goes back are reserved = record {
      reserved = reserved;
      references = λ id key.
          ap (λ (changes : List IndexChange). refers_after_all changes id key (is_reference new id key)) are
          ∙ ap (λ b. refers_after_all (exchanged (all_told told) were) id key b) (index_comes id key)
          ∙ pair_goes id key held takes told keys keys_are before after h
          ∙ sym (tells id key);
      holders = λ id key held. ap (λ (changes : List IndexChange). holds_after_all changes id key held) are ∙ exchanged_hold id key (all_told told) were held;
      adds_none = subst AddsNoHolders (sym are) (exchanged_none (all_told told) were);
    }

-- What was reserved for changes and their way back, listed one behind the other.

pub appended : {A : Type 0} {start end : List A} (some : List A) → start ≡ [] → end ≡ start ++ some → end ≡ some
appended some none made = made ∙ ap (λ all. all ++ some) none

module _ (index : Index) (changes back made way both : List IndexChange) (first : made ≡ changes) (second : way ≡ back) (all : both ≡ changes ++ back) (reserved : AreReserved index both) where
  pub made_reserved : AreReserved index made
  made_reserved = subst (AreReserved index) (sym first) (front_reserved index changes back (subst (AreReserved index) all reserved))

  pub way_reserved : AreReserved index (made ++ way)
  way_reserved = subst (AreReserved index) (all ∙ sym (ap₂ (λ (a b : List IndexChange). a ++ b) first second)) reserved

-- What holds once an exchange answers the way back.

pub on_comes : (held : FinMap nat_cmp Kept) (takes : List ℕ) (told : List (ℕ × Told)) (keys : List ℕ) → ((k : ℕ) → is_among keys k ≡ is_told told k) → (was is : List Reference) (old new : Index) (result : Result (List IndexChange) Memory)
    → was ≡ all_kept held takes ++ all_kept held keys → is ≡ all_told told
    → OnOk result ((id : List ℕ) (key : ℕ) → is_reference new id key ≡ refers_after_all (exchanged was is) id key (is_reference old id key))
    → OnOk result ((before after : Evaluated) → ChangesReferences held takes told before after → TellsReferences old before → TellsReferences new after)
on_comes held takes told keys keys_are was is old new (Err memory) first second made = tt
on_comes held takes told keys keys_are was is old new (Ok back) first second made = λ before after h tells.
    index_comes held takes told keys keys_are old new
    (λ id key. made id key ∙ ap₂ (λ (w i : List Reference). refers_after_all (exchanged w i) id key (is_reference old id key)) first second)
    before after h tells

pub on_goes : (held : FinMap nat_cmp Kept) (takes : List ℕ) (told : List (ℕ × Told)) (keys : List ℕ) → ((k : ℕ) → is_among keys k ≡ is_told told k) → (was is : List Reference) (old new : Index) (result : Result (List IndexChange) Memory)
    → was ≡ all_kept held takes ++ all_kept held keys → is ≡ all_told told
    → OnOk result ((id : List ℕ) (key : ℕ) → is_reference new id key ≡ refers_after_all (exchanged was is) id key (is_reference old id key))
    → IfOk result (λ back. back ≡ exchanged is was) → IfOk result (AreReserved new)
    → IfOk result (λ back. (before after : Evaluated) → ChangesReferences held takes told before after → TellsReferences old before → LeadsBack back new old)
on_goes held takes told keys keys_are was is old new (Err memory) first second made back reserved = tt
on_goes held takes told keys keys_are was is old new (Ok back) first second made its reserved = λ before after h tells.
    index_goes held takes told keys keys_are old new
    (λ id key. made id key ∙ ap₂ (λ (w i : List Reference). refers_after_all (exchanged w i) id key (is_reference old id key)) first second)
    before after h tells back (its ∙ ap₂ (λ (i w : List Reference). exchanged i w) second first) reserved

-- The way back of the ids, which stays reserved.

unheld_none : (elements : List ElementId) → AddsNoReferences (flat_map unheld elements)
unheld_none [] = refl
unheld_none (element ∷ elements) = by element.id (unheld_none elements)
  where
    by : (o : Option (List ℕ)) → AddsNoReferences (flat_map unheld elements) → AddsNoReferences (unheld (record element { id = o }) ++ flat_map unheld elements)
    by None rest = rest
    by (Some id) rest = rest

held_none : (elements : List ElementId) → AddsNoReferences (flat_map held elements)
held_none [] = refl
held_none (element ∷ elements) = by element.id (held_none elements)
  where
    by : (o : Option (List ℕ)) → AddsNoReferences (flat_map held elements) → AddsNoReferences (held (record element { id = o }) ++ flat_map held elements)
    by None rest = rest
    by (Some id) rest = rest

pub ids_add_no_references : (gone come : List ElementId) → AddsNoReferences (exchanges gone come)
ids_add_no_references gone come = no_references_both (flat_map unheld gone) (flat_map held come) (unheld_none gone) (held_none come)

pub stays_behind : (back more : List IndexChange) (now before : Index) → LeadsBack back now before → AddsNoReferences more → AreReserved now more → AreReserved now (back ++ more)
stays_behind back more now before leads none reserved = both_reserved back more now leads.adds_none none leads.reserved reserved
