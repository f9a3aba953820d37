-- Each text has a reading, and one only.
use Rattle.std.proofs.Common.{◌≡◌, ℕ, zero, suc, ◌+◌, ◌≤◌, List, [], ◌∷◌, ◌++◌, length, take, ◌⊎◌, inl, inr, Option, Some, None, refl, sym, ap, ◌∙◌, append_assoc, append-nil, arith}
use Rattle.std.specs.Prelude.{Result, Ok, Err}
use Rattle.forest.specs.Forest.{Forest, Empty, Tree}
use Rattle.plain_types.specs.declared.node.Node.{Node}
use Rattle.plain_types.specs.declared.node.Node.TheVariants.{Text}
use Rattle.xml_definitions.specs.Faults.{FailsAt, last_line, line_feeds}
use Rattle.xml_definitions.specs.Normalized.{normalized}
use Rattle.xml_definitions.specs.Texts.{HasTree}
use Rattle.xml_definitions.specs.Items.{Item}
use Rattle.xhtml_items.specs.FirstItem.{BeginsWith}
use Rattle.xhtml_items.proofs.ItemLaws.{begins_or_not, begins_shorter}
use Rattle.xhtml_reader.specs.Machinery.Leading.{Stops}
use Rattle.xhtml_reader.specs.Machinery.States.{State, at_start, after_doctype, in_text, inside, at_end, IsFinal, allows, step}
use Rattle.xhtml_reader.specs.Readings.{ReadsAsDocument, ReadsAsFragment}
use Rattle.xhtml_reader.specs.declared.kind.Kind.{Kind}
use Rattle.xhtml_reader.specs.declared.kind.Kind.TheVariants.{Document, Fragment}
use Rattle.xhtml_reader.proofs.Places.{Leads-one, Reached, Reached-more, fails_there, found, only_tree, start_reached, stopped, unfinished}

final_or_not : (s : State) → ((tree : Forest Node) × IsFinal s tree) ⊎ ((tree : Forest Node) → IsFinal s tree → ⊥)
final_or_not at_start = inr (λ tree final. final)
final_or_not after_doctype = inr (λ tree final. final)
final_or_not (in_text characters) = inl (Tree (Text characters) Empty Empty, refl)
final_or_not (inside innermost outer here) = inr (λ tree final. final)
final_or_not (at_end tree) = inl (tree, refl)

module _ (kind : Kind) (whole : List ℕ) where
  -- the characters have a tree, or a fault
  abbrev pub Reading : Type 0
  Reading = ((tree : Forest Node) × HasTree (allows kind) whole tree) ⊎ ((line : ℕ) × (column : ℕ) × FailsAt (allows kind) whole line column)

  at_the_end : (s : State) → Reached kind whole s → Reading
  at_the_end s reached = elim (final_or_not s) [
    | inl final ↦ inl (final.0, found kind whole s final.0 reached final.1)
    | inr none ↦ inr (_, _, fails_there kind whole (length whole) (unfinished kind whole s (length whole) reached none refl))
  ]

  reading_from : (most : ℕ) (front rest : List ℕ) (s : State) → length rest ≤ most → whole ≡ front ++ rest → Reached kind front s → Reading
  reading_from most front [] s le parts reached = at_the_end s (rw (parts ∙ append-nil front) reached)
  reading_from zero front (c ∷ cs) s le parts reached = absurd (omega arith)
  reading_from (suc most) front (c ∷ cs) s le parts reached =
      elim (begins_or_not (c ∷ cs)) [ inl none ↦ stops (inl none) | inr read ↦ next (λ before rest t. reading_from most before rest t) read.0 read.1 read.2 (step kind s read.0) refl ]
    where
      stops : Stops kind (c ∷ cs) s → Reading
      stops is = inr (_, _, fails_there kind whole (length front) (stopped kind whole front (c ∷ cs) s (length front) reached parts (λ e. cc) is refl))

      next : ((before rest : List ℕ) (t : State) → length rest ≤ most → whole ≡ before ++ rest → Reached kind before t → Reading)
          → (item : Item) (after : List ℕ) → BeginsWith (c ∷ cs) item after → (o : Option State) → step kind s item ≡ o → Reading
      next go item after begins None e = stops (inr (item, after, begins, e))
      next go item after begins (Some t) e =
          let leads = Leads-one kind (c ∷ cs) s item after t begins e in
          go (front ++ leads.front) after t (omega (arith, le, begins_shorter (c ∷ cs) item after begins))
          (parts ∙ ap (λ (u : List ℕ). front ++ u) leads.parts ∙ sym (append_assoc front leads.front after))
          (Reached-more kind front (c ∷ cs) after s t reached leads)

  reading : Reading
  reading = reading_from (length whole) [] whole at_start (omega arith) refl (start_reached kind)

  same_place : (line column other next : ℕ) → FailsAt (allows kind) whole line column → FailsAt (allows kind) whole other next → ◌≡◌ {A = ℕ × ℕ} (line, column) (other, next)
  same_place line column other next is too =
      let low = is.fault.longest too.place too.fault.within too.fault.sound in
      let high = too.fault.longest is.place is.fault.within is.fault.sound in
      let place : is.place ≡ too.place = omega (arith, low, high) in
      let lines : line ≡ other = is.line_is ∙ ap (λ (n : ℕ). 1 + line_feeds (take n whole)) place ∙ sym too.line_is in
      let columns : column ≡ next = is.column_is ∙ ap (λ (n : ℕ). 1 + length (last_line (take n whole))) place ∙ sym too.column_is in
      rw (lines, columns) refl

pub some_document : (text : List ℕ) → (found : Result (Forest Node) (ℕ × ℕ)) × ReadsAsDocument text found
some_document text = elim (reading Document (normalized text)) [
  | inl tree ↦ (Ok tree.0, tree.1)
  | inr fault ↦ (Err (fault.0, fault.1), fault.2)
]

pub some_fragment : (text : List ℕ) → (found : Result (Forest Node) (ℕ × ℕ)) × ReadsAsFragment text found
some_fragment text = elim (reading Fragment (normalized text)) [
  | inl tree ↦ (Ok tree.0, tree.1)
  | inr fault ↦ (Err (fault.0, fault.1), fault.2)
]

pub one_document : (text : List ℕ) (found other : Result (Forest Node) (ℕ × ℕ)) → ReadsAsDocument text found → ReadsAsDocument text other → found ≡ other
one_document text (Ok tree) (Ok other) is too = ap Ok (only_tree Document (normalized text) tree other is too)
one_document text (Ok tree) (Err place) is too = absurd (too.none tree is)
one_document text (Err place) (Ok tree) is too = absurd (is.none tree too)
one_document text (Err (line, column)) (Err (other, next)) is too = ap Err (same_place Document (normalized text) line column other next is too)

pub one_fragment : (text : List ℕ) (found other : Result (Forest Node) (ℕ × ℕ)) → ReadsAsFragment text found → ReadsAsFragment text other → found ≡ other
one_fragment text (Ok tree) (Ok other) is too = ap Ok (only_tree Fragment (normalized text) tree other is too)
one_fragment text (Ok tree) (Err place) is too = absurd (too.none tree is)
one_fragment text (Err place) (Ok tree) is too = absurd (is.none tree too)
one_fragment text (Err (line, column)) (Err (other, next)) is too = ap Err (same_place Fragment (normalized text) line column other next is too)
