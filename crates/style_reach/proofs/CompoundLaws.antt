-- A compound selector sees no more of where its element stands than the features say.
use Rattle.std.proofs.Common.{◌≡◌, ◌==◌, ◌||◌, ◌&&◌, ◌+◌, Bool, true, false, not, cond, List, [], ◌∷◌, map, refl, sym, ap, subst, ◌∙◌}
use Rattle.std.specs.List.{count_by, fold}
use Rattle.std.proofs.lemmas.List.{length-map}
use Rattle.plain_types.specs.declared.sheet.Features.{Features}
use Rattle.plain_types.specs.declared.selector.Compound.{Compound, roll-Compound, map-Compound}
use Rattle.plain_types.specs.declared.selector.Simple.{Simple, roll-Simple, map-Simple}
use Rattle.plain_types.specs.declared.selector.Simple.TheOpen.{Simple-F, Compound-F}
use Rattle.plain_types.specs.declared.selector.Simple.TheFolds.{ind-Compound, fold-roll-Simple, fold-roll-Compound}
use Rattle.selector_match.specs.Elements.{Element, Level, Standing}
use Rattle.selector_match.specs.Matching.{matches_simple, matches_compound, simple_matches, compound_matches, one_is, all_are}
use Rattle.selector_match.specs.Positions.{is_counted, is_nth, sibling_count}
use Rattle.css_reader.specs.Features.{any_true, depends_by_simples}
use Rattle.style_reach.proofs.Seen.{FitsCompound, compound_looks, emptiness_by_choices, position_by_choices, seen, seen_element, seen_level, seen_siblings, simple_looks}
use Rattle.style_reach.proofs.TestLaws.{or-first, or-second}

-- Counting by names is the same among siblings of which only the names are seen.

fold-map : {A B C : Type 0} (g : C → B → C) (h : C → A → C) (f : A → B) → ((c : C) (x : A) → g c (f x) ≡ h c x) → (xs : List A) (c : C) → fold g c (map f xs) ≡ fold h c xs
fold-map g h f same [] c = refl
fold-map g h f same (x ∷ xs) c = ap (λ d. fold g d (map f xs)) (same c x) ∙ fold-map g h f same xs (h c x)

count-map : {A B : Type 0} (p : B → Bool) (q : A → Bool) (f : A → B) → ((x : A) → p (f x) ≡ q x) → (xs : List A) → count_by p (map f xs) ≡ count_by q xs
count-map p q f same xs = fold-map (λ n x. n + cond (p x) 1 0) (λ n x. n + cond (q x) 1 0) f (λ n x. ap (λ b. n + cond b 1 0) (same x)) xs 0

count-seen : (s p e : Bool) → p ≡ true → (same_type : Bool) (element : Element) (elements : List Element)
    → count_by (is_counted same_type (seen_element (record { siblings = s; positions = p; empties = e }) element)) (seen_siblings (record { siblings = s; positions = p; empties = e }) elements)
    ≡ count_by (is_counted same_type element) elements
count-seen true true e on same_type element elements =
    let features : Features = record { siblings = true; positions = true; empties = e } in
    count-map (is_counted same_type (seen_element features element)) (is_counted same_type element) (seen_element features) (λ x. refl) elements
count-seen false true e on same_type element elements =
    let features : Features = record { siblings = false; positions = true; empties = e } in
    count-map (is_counted same_type (seen_element features element)) (is_counted same_type element) (λ (x : Element). record { name = x.name; attrs = []; is_empty = false }) (λ x. refl) elements
count-seen s false e on same_type element elements = absurd (cc)

counted-seen : (features : Features) → features.positions ≡ true → (after same_type : Bool) (level : Level) → sibling_count after same_type (seen_level features level) ≡ sibling_count after same_type level
counted-seen features on true same_type level = count-seen features.siblings features.positions features.empties on same_type level.element level.later
counted-seen features on false same_type level = count-seen features.siblings features.positions features.empties on same_type level.element level.earlier

module _ (features : Features) (standing : Standing) where
  abbrev SeesSimple : Simple → Type 0
  SeesSimple simple =
      (simple_looks position_by_choices simple ≡ true → features.positions ≡ true) → (simple_looks emptiness_by_choices simple ≡ true → features.empties ≡ true)
      → matches_simple standing simple ≡ matches_simple (seen features standing) simple

  abbrev SeesCompound : Compound → Type 0
  SeesCompound compound =
      (compound_looks position_by_choices compound ≡ true → features.positions ≡ true) → (compound_looks emptiness_by_choices compound ≡ true → features.empties ≡ true)
      → matches_compound standing compound ≡ matches_compound (seen features standing) compound

  -- a part with a proof beside it
  abbrev KnownSimple : Type 0
  KnownSimple = (simple : Simple) × SeesSimple simple

  abbrev KnownCompound : Type 0
  KnownCompound = (compound : Compound) × SeesCompound compound

  choices-see : (choices : List KnownCompound)
      → (any_true (map (compound_looks position_by_choices) (map (λ e. e.0) choices)) ≡ true → features.positions ≡ true)
      → (any_true (map (compound_looks emptiness_by_choices) (map (λ e. e.0) choices)) ≡ true → features.empties ≡ true)
      → one_is (map (matches_compound standing) (map (λ e. e.0) choices)) ≡ one_is (map (matches_compound (seen features standing)) (map (λ e. e.0) choices))
  choices-see [] p e = refl
  choices-see (first ∷ rest) p e =
      ap (λ b. b || one_is (map (matches_compound standing) (map (λ e. e.0) rest))) (first.1 (λ h. p (or-first _ _ h)) (λ h. e (or-first _ _ h)))
      ∙ ap (λ b. matches_compound (seen features standing) first.0 || b)
      (choices-see rest (λ h. p (or-second (compound_looks position_by_choices first.0) _ h)) (λ h. e (or-second (compound_looks emptiness_by_choices first.0) _ h)))

  simples-see : (simples : List KnownSimple)
      → (any_true (map (simple_looks position_by_choices) (map (λ e. e.0) simples)) ≡ true → features.positions ≡ true)
      → (any_true (map (simple_looks emptiness_by_choices) (map (λ e. e.0) simples)) ≡ true → features.empties ≡ true)
      → all_are (map (matches_simple standing) (map (λ e. e.0) simples)) ≡ all_are (map (matches_simple (seen features standing)) (map (λ e. e.0) simples))
  simples-see [] p e = refl
  simples-see (first ∷ rest) p e =
      ap (λ b. b && all_are (map (matches_simple standing) (map (λ e. e.0) rest))) (first.1 (λ h. p (or-first _ _ h)) (λ h. e (or-first _ _ h)))
      ∙ ap (λ b. matches_simple (seen features standing) first.0 && b)
      (simples-see rest (λ h. p (or-second (simple_looks position_by_choices first.0) _ h)) (λ h. e (or-second (simple_looks emptiness_by_choices first.0) _ h)))

  abbrev opened : Simple-F KnownSimple KnownCompound → Simple-F Simple Compound
  opened part = map-Simple KnownSimple KnownCompound Simple Compound (λ e. e.0) (λ e. e.0) part

  abbrev told : (Simple-F Bool Bool → Bool) → Simple-F Simple Compound → Bool
  told by_choices part = by_choices (map-Simple Simple Compound Bool Bool (simple_looks by_choices) (compound_looks by_choices) part)

  part-sees : (part : Simple-F KnownSimple KnownCompound)
      → (told position_by_choices (opened part) ≡ true → features.positions ≡ true) → (told emptiness_by_choices (opened part) ≡ true → features.empties ≡ true)
      → simple_matches standing (map-Simple Simple Compound Bool Bool (matches_simple standing) (matches_compound standing) (opened part))
      ≡ simple_matches (seen features standing) (map-Simple Simple Compound Bool Bool (matches_simple (seen features standing)) (matches_compound (seen features standing)) (opened part))
  part-sees Simple-F.Any p e = refl
  part-sees (Simple-F.Element name) p e = refl
  part-sees (Simple-F.Id name) p e = refl
  part-sees (Simple-F.Class name) p e = refl
  part-sees Simple-F.Root p e = ap (λ n. n == 0) (sym (length-map standing.above (seen_level features)))
  part-sees Simple-F.Empty p e = ap (λ b. b && standing.level.element.is_empty) (sym (e refl))
  part-sees Simple-F.Never p e = refl
  part-sees (Simple-F.Attr name test value fold) p e = refl
  part-sees (Simple-F.Only same_type) p e =
      ap (λ n. (n == 0) && (sibling_count true same_type standing.level == 0)) (sym (counted-seen features (p refl) false same_type standing.level))
      ∙ ap (λ n. (sibling_count false same_type (seen_level features standing.level) == 0) && (n == 0)) (sym (counted-seen features (p refl) true same_type standing.level))
  part-sees (Simple-F.Nth a b from_end same_type) p e = ap (λ n. is_nth a b (n + 1)) (sym (counted-seen features (p refl) from_end same_type standing.level))
  part-sees (Simple-F.Is choices) p e = choices-see choices p e
  part-sees (Simple-F.Weightless choices) p e = choices-see choices p e
  part-sees (Simple-F.Not choices) p e = ap not (choices-see choices p e)

  simple-step : (part : Simple-F KnownSimple KnownCompound) → SeesSimple (roll-Simple (opened part))
  simple-step part p e =
      fold-roll-Simple Bool Bool (simple_matches standing) compound_matches (opened part)
      ∙ part-sees part
      (λ h. p (fold-roll-Simple Bool Bool position_by_choices depends_by_simples (opened part) ∙ h))
      (λ h. e (fold-roll-Simple Bool Bool emptiness_by_choices depends_by_simples (opened part) ∙ h))
      ∙ sym (fold-roll-Simple Bool Bool (simple_matches (seen features standing)) compound_matches (opened part))

  abbrev opened_compound : Compound-F KnownSimple KnownCompound → Compound-F Simple Compound
  opened_compound part = map-Compound KnownSimple KnownCompound Simple Compound (λ e. e.0) (λ e. e.0) part

  compound-step : (part : Compound-F KnownSimple KnownCompound) → SeesCompound (roll-Compound (opened_compound part))
  compound-step part p e =
      fold-roll-Compound Bool Bool (simple_matches standing) compound_matches (opened_compound part)
      ∙ simples-see part.simples
      (λ h. p (fold-roll-Compound Bool Bool position_by_choices depends_by_simples (opened_compound part) ∙ h))
      (λ h. e (fold-roll-Compound Bool Bool emptiness_by_choices depends_by_simples (opened_compound part) ∙ h))
      ∙ sym (fold-roll-Compound Bool Bool (simple_matches (seen features standing)) compound_matches (opened_compound part))

  pub compound-seen : (compound : Compound) → FitsCompound features compound → matches_compound standing compound ≡ matches_compound (seen features standing) compound
  compound-seen compound fits =
      ind-Compound SeesSimple SeesCompound
      (λ x part is. subst (λ z. SeesSimple (roll-Simple z)) is (simple-step part))
      (λ x part is. subst (λ z. SeesCompound (roll-Compound z)) is (compound-step part))
      compound fits.position fits.emptiness
