-- What is known of targets, and the texts that rest on it. Throughout, k is a key, and kb and ka are what is known before
-- and after.
use Rattle.std.proofs.Common.{◌≡◌, ◌==◌, ◌||◌, ℕ, nat_eq, Bool, true, false, not, cond, List, [], ◌∷◌, ◌++◌, Option, Some, None, IfSome, IsSome, refl, sym, ap, ◌∙◌}
use Rattle.std.specs.Prelude.{map, option_and_then, option_map}
use Rattle.std.specs.List.{cons_option, filter_map, list_any}
use Rattle.std.specs.Option.{option_eq, option_map_or}
use Rattle.std.proofs.lemmas.Bool.{or_parts}
use Rattle.std.proofs.lemmas.List.Folds.{list_any-append}
use Rattle.forest.specs.Spots.{children_of}
use Rattle.plain_types.specs.declared.content.Part.{Part}
use Rattle.plain_types.specs.declared.content.Part.TheVariants.{Content, Before, After}
use Rattle.plain_types.specs.declared.counter_style.CounterStyle.{CounterStyle}
use Rattle.plain_types.specs.declared.node.Node.{Node}
use Rattle.node_arena.specs.Nodes.{name_of}
use Rattle.node_arena.proofs.MoveLaws.{parent-same}
use Rattle.content_eval.specs.declared.generated.Piece.{Piece}
use Rattle.content_eval.specs.Targets.{flat_text, full_text, reference}
use Rattle.content_eval.specs.TargetLaws.{AgreeBelow, AgreeOn, OfEachReference}
use Rattle.content_eval.proofs.ReferenceLemmas.{flat_depends, full_depends}
use Rattle.box_eval.specs.declared.element_record.ElementRecord.{ElementRecord}
use Rattle.box_eval.specs.declared.made.Made.{Made}
use Rattle.generated_texts.specs.Entries.{box_text, node_entry}
use Rattle.generated_texts.specs.References.{asked_box, characters_in, first_holder, kept_at, known_characters, known_to_flat_texts, target_record}
use Rattle.merged_walk.specs.Merges.{Merge}
use Rattle.edit_work.specs.KeyedSources.{is_among, references_in, references_of}
use Rattle.reference_reach.specs.Laws.{HasSameUnder, KeepsTarget, LeadsBy, TreesUnderStay, is_renewed}
use Rattle.reference_reach.specs.MergedNodes.{entered_elements}
use Rattle.reference_reach.specs.ChangedTargets.{Evaluated, entries_in, has_other_target, has_target_among, has_changed_target, has_referring_target, known_in, refers, refers_through}
use Rattle.reference_reach.proofs.HolderLaws.{holder-element}
use Rattle.reference_reach.proofs.UnderLaws.{apart}

-- References of pieces, boxes and elements.

module _ (picks : List ℕ → Bool) (Holds : List ℕ → Type 0) (all : (id : List ℕ) → picks id ≡ false → Holds id) where
  one-piece : (o : Option (List ℕ)) (ids : List (List ℕ)) → list_any picks (cons_option o ids) ≡ false → IfSome o Holds × (list_any picks ids ≡ false)
  one-piece None ids h = (tt, h)
  one-piece (Some id) ids h = let parts = or_parts (picks id) (list_any picks ids) h in (all id parts.0, parts.1)

  -- what holds of the ids that are not picked holds of each reference, where none is
  pub each-reference : (pieces : List Piece) → list_any picks (filter_map reference pieces) ≡ false → OfEachReference Holds pieces
  each-reference [] h = tt
  each-reference (p ∷ pieces) h =
      let its = one-piece (reference p) (filter_map reference pieces) h in
      (its.0, each-reference pieces its.1)

-- no box of an element refers to such an id
record NoneRefers (picks : List ℕ → Bool) (element : ElementRecord) : Type 0 where
  marker : list_any picks (references_in element.marker) ≡ false
  before : list_any picks (references_in element.before) ≡ false
  after : list_any picks (references_in element.after) ≡ false

none-refers : (picks : List ℕ → Bool) (element : ElementRecord) → list_any picks (references_of element) ≡ false → NoneRefers picks element
none-refers picks element h =
    let first = or_parts (list_any picks (references_in element.marker)) (list_any picks (references_in element.before ++ references_in element.after))
    (sym (list_any-append picks (references_in element.marker) (references_in element.before ++ references_in element.after)) ∙ h) in
    let rest = or_parts (list_any picks (references_in element.before)) (list_any picks (references_in element.after))
    (sym (list_any-append picks (references_in element.before) (references_in element.after)) ∙ first.1) in
    record { marker = first.0; before = rest.0; after = rest.1 }

-- What is kept of what is kept, under the same keys.
pub kept-mapped : {V W : Type 0} (f : V → W) (kept : List (ℕ × V)) (k : ℕ) → kept_at (map (λ (e : ℕ × V). (e.0, f e.1)) kept) k ≡ option_map f (kept_at kept k)
kept-mapped f [] k = refl
kept-mapped {V} {W} f (entry ∷ kept) k = by (entry.0 == k) refl (kept-mapped f kept k)
  where
    by : (b : Bool) → (entry.0 == k) ≡ b → kept_at (map (λ (e : ℕ × V). (e.0, f e.1)) kept) k ≡ option_map f (kept_at kept k)
        → kept_at ((entry.0, f entry.1) ∷ map (λ (e : ℕ × V). (e.0, f e.1)) kept) k ≡ option_map f (kept_at (entry ∷ kept) k)
    by true e rest = rw e refl
    by false e rest = rw e rest

not-false : (b : Bool) → not b ≡ false → b ≡ true
not-false true h = refl
not-false false h = absurd (cc)

same-key : (a b : Option ℕ) → option_eq nat_eq a b ≡ true → a ≡ b
same-key None None h = refl
same-key None (Some k) h = absurd (cc)
same-key (Some k) None h = absurd (cc)
same-key (Some j) (Some k) h = parent-same (Some j) k h

module _ (table : List CounterStyle) (merge : Merge Node) (visited : List ℕ) (before after : Evaluated) (leads : LeadsBy merge visited before after) (stay : TreesUnderStay) where
  abbrev changed : List ℕ
  changed = visited ++ entered_elements merge

  abbrev touched : List ℕ → Bool
  touched = has_changed_target before after changed

  abbrev through : List ℕ → Bool
  through = has_referring_target before after changed

  -- The target of an id that is not changed.

  module _ (id : List ℕ) (untouched : touched id ≡ false) where
    parts : (has_other_target before after id ≡ false) × (has_target_among after changed id ≡ false)
    parts = or_parts (has_other_target before after id) (has_target_among after changed id) untouched

    same-holder : first_holder before.tree id ≡ first_holder after.tree id
    same-holder =
        same-key (first_holder before.tree id) (first_holder after.tree id)
        (not-false (option_eq nat_eq (first_holder before.tree id) (first_holder after.tree id)) parts.0)

    said-of : (o : Option ℕ) → first_holder after.tree id ≡ o → option_map_or (is_among changed) o false ≡ false
        → option_and_then (kept_at before.said) o ≡ option_and_then (kept_at after.said) o
    said-of None at un = refl
    said-of (Some k) at un = sym (leads.others k (holder-element id after.tree k leads.distinct_after at) (apart k visited (entered_elements merge) un).0)

    -- the same is said of it
    same-record : target_record table before.tree before.said id ≡ target_record table after.tree after.said id
    same-record = ap (option_and_then (kept_at before.said)) same-holder ∙ said-of (first_holder after.tree id) refl parts.1

    characters-under : (o : Option ℕ) → first_holder after.tree id ≡ o → option_map_or (is_among changed) o false ≡ false
        → option_map_or (λ k. characters_in (children_of before.tree k)) o [] ≡ option_map_or (λ k. characters_in (children_of after.tree k)) o []
    characters-under None at un = refl
    characters-under (Some k) at un =
        let element = holder-element id after.tree k leads.distinct_after at in
        let its : HasSameUnder before.tree after.tree k =
        stay merge before.tree after.tree leads.merges leads.distinct_before leads.distinct_after k element (apart k visited (entered_elements merge) un).1 in
        sym its.characters

    same-characters : known_characters before.tree id ≡ known_characters after.tree id
    same-characters =
        ap (λ o. option_map_or (λ k. characters_in (children_of before.tree k)) o []) same-holder
        ∙ characters-under (first_holder after.tree id) refl parts.1

    pub agree-below : AgreeBelow (known_in table before) (known_in table after) id
    agree-below = record {
      counters = ap (option_and_then (λ (element : ElementRecord). cond element.has_box (Some element.own) None)) same-record;
      characters = same-characters;
    }

    -- flat texts rest on as much
    agree-flat : AgreeBelow (known_to_flat_texts table before.tree before.said) (known_to_flat_texts table after.tree after.said) id
    agree-flat = record { counters = agree-below.counters; characters = agree-below.characters }

  -- Its flat texts.

  abbrev flat_before : Made → List ℕ
  flat_before made = flat_text table (known_to_flat_texts table before.tree before.said) made.pieces

  abbrev flat_after : Made → List ℕ
  flat_after made = flat_text table (known_to_flat_texts table after.tree after.said) made.pieces

  flat-of : (o : Option Made) → list_any touched (references_in o) ≡ false → option_map flat_before o ≡ option_map flat_after o
  flat-of None h = refl
  flat-of (Some made) h =
      ap (λ text. Some text)
      (flat_depends table made.pieces (known_to_flat_texts table before.tree before.said) (known_to_flat_texts table after.tree after.said)
      (each-reference touched (AgreeBelow (known_to_flat_texts table before.tree before.said) (known_to_flat_texts table after.tree after.said)) agree-flat made.pieces h))

  flat-asked : (element : ElementRecord) (part : Part) → NoneRefers touched element → option_map flat_before (asked_box element part) ≡ option_map flat_after (asked_box element part)
  flat-asked element Content none = refl
  flat-asked element Before none = flat-of element.before none.before
  flat-asked element After none = flat-of element.after none.after

  flat-said : (o : Option ElementRecord) (part : Part) → list_any touched (option_map_or references_of o []) ≡ false
      → option_map flat_before (option_and_then (λ (element : ElementRecord). asked_box element part) o) ≡ option_map flat_after (option_and_then (λ (element : ElementRecord). asked_box element part) o)
  flat-said None part h = refl
  flat-said (Some element) part h = flat-asked element part (none-refers touched element h)

  flat-held : (o : Option ℕ) (part : Part) → option_map_or (refers before after changed) o false ≡ false
      → option_map flat_before (option_and_then (λ (element : ElementRecord). asked_box element part) (option_and_then (kept_at after.said) o))
      ≡ option_map flat_after (option_and_then (λ (element : ElementRecord). asked_box element part) (option_and_then (kept_at after.said) o))
  flat-held None part h = refl
  flat-held (Some k) part h = flat-said (kept_at after.said k) part h

  pub agree-on : (id : List ℕ) → KeepsTarget before after changed id → AgreeOn (known_in table before) (known_in table after) id
  agree-on id its = record {
    below = agree-below id its.itself;
    flat = λ part.
        ap (λ o. option_map flat_before (option_and_then (λ (element : ElementRecord). asked_box element part) o)) (same-record id its.itself)
        ∙ flat-held (first_holder after.tree id) part its.through;
  }

  -- Texts.

  pub flat-texts : (pieces : List Piece) → OfEachReference (λ id. touched id ≡ false) pieces
      → flat_text table (known_in table before) pieces ≡ flat_text table (known_in table after) pieces
  flat-texts pieces h = flat_depends table pieces (known_in table before) (known_in table after) (weaker pieces h)
    where
      of-one : (o : Option (List ℕ)) → IfSome o (λ id. touched id ≡ false) → IfSome o (AgreeBelow (known_in table before) (known_in table after))
      of-one None h = tt
      of-one (Some id) h = agree-below id h

      weaker : (pieces : List Piece) → OfEachReference (λ id. touched id ≡ false) pieces → OfEachReference (AgreeBelow (known_in table before) (known_in table after)) pieces
      weaker [] h = tt
      weaker (p ∷ pieces) h = (of-one (reference p) h.0, weaker pieces h.1)

  pub full-texts : (pieces : List Piece) → OfEachReference (KeepsTarget before after changed) pieces
      → full_text table (known_in table before) pieces ≡ full_text table (known_in table after) pieces
  full-texts pieces h = full_depends table pieces (known_in table before) (known_in table after) (weaker pieces h)
    where
      of-one : (o : Option (List ℕ)) → IfSome o (KeepsTarget before after changed) → IfSome o (AgreeOn (known_in table before) (known_in table after))
      of-one None h = tt
      of-one (Some id) h = agree-on id h

      weaker : (pieces : List Piece) → OfEachReference (KeepsTarget before after changed) pieces → OfEachReference (AgreeOn (known_in table before) (known_in table after)) pieces
      weaker [] h = tt
      weaker (p ∷ pieces) h = (of-one (reference p) h.0, weaker pieces h.1)

  -- Entries.

  neither : (pieces : List Piece) → list_any touched (filter_map reference pieces) ≡ false → list_any through (filter_map reference pieces) ≡ false → OfEachReference (KeepsTarget before after changed) pieces
  neither pieces one other =
      joined pieces (each-reference touched (λ id. touched id ≡ false) (λ id h. h) pieces one) (each-reference through (λ id. through id ≡ false) (λ id h. h) pieces other)
    where
      of-one : (o : Option (List ℕ)) → IfSome o (λ id. touched id ≡ false) → IfSome o (λ id. through id ≡ false) → IfSome o (KeepsTarget before after changed)
      of-one None one other = tt
      of-one (Some id) one other = record { itself = one; through = other }

      joined : (pieces : List Piece) → OfEachReference (λ id. touched id ≡ false) pieces → OfEachReference (λ id. through id ≡ false) pieces → OfEachReference (KeepsTarget before after changed) pieces
      joined [] one other = tt
      joined (p ∷ pieces) one other = (of-one (reference p) one.0 other.0, joined pieces one.1 other.1)

  box-same : (o : Option Made) → list_any touched (references_in o) ≡ false → list_any through (references_in o) ≡ false
      → option_map (box_text table (known_in table after)) o ≡ option_map (box_text table (known_in table before)) o
  box-same None one other = refl
  box-same (Some made) one other =
      let flat = sym (flat-texts made.pieces (each-reference touched (λ id. touched id ≡ false) (λ id h. h) made.pieces one)) in
      let full = sym (full-texts made.pieces (neither made.pieces one other)) in
      λ i. Some (record { flat = flat i; full = full i })

  entry-same : (element : ElementRecord) → NoneRefers touched element → NoneRefers through element
      → node_entry table (known_in table after) element ≡ node_entry table (known_in table before) element
  entry-same element one other =
      let marker = box-same element.marker one.marker other.marker in
      let first = box-same element.before one.before other.before in
      let last = box-same element.after one.after other.after in
      λ i. record {
        has_box = element.has_box;
        own = element.own;
        exit = element.exit;
        depth_before = element.depth_before;
        depth_after = element.depth_after;
        marker = marker i;
        before = first i;
        after = last i;
      }

  entry-of : (o : Option ElementRecord) → list_any touched (option_map_or references_of o []) ≡ false → list_any through (option_map_or references_of o []) ≡ false
      → option_map (node_entry table (known_in table after)) o ≡ option_map (node_entry table (known_in table before)) o
  entry-of None one other = refl
  entry-of (Some element) one other = ap (λ entry. Some entry) (entry-same element (none-refers touched element one) (none-refers through element other))

  pub entries-stay : (k : ℕ) → IsSome (name_of after.tree k) → is_renewed before after visited changed k ≡ false → kept_at (entries_in table after) k ≡ kept_at (entries_in table before) k
  entries-stay k element h =
      let first = or_parts (is_among visited k) (refers before after changed k || refers_through before after changed k) h in
      let rest = or_parts (refers before after changed k) (refers_through before after changed k) first.1 in
      kept-mapped (node_entry table (known_in table after)) after.said k
      ∙ entry-of (kept_at after.said k) rest.0 rest.1
      ∙ ap (option_map (node_entry table (known_in table before))) (leads.others k element first.0)
      ∙ sym (kept-mapped (node_entry table (known_in table before)) before.said k)
