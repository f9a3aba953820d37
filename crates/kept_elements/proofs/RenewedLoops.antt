-- What loops have made of one item more.
use Rattle.std.proofs.Common.{◌≡◌, ◌+◌, ◌<◌, ◌||◌, ℕ, Bool, true, false, List, [], ◌∷◌, ◌++◌, Option, Some, None, append-nil, flat_map, get_or, inl, inr, length, refl, sym, ap, subst, take, ◌∙◌}
use Rattle.std.specs.FinMap.{FinMap, get}
use Rattle.std.specs.List.{filter_map, list_any}
use Rattle.std.specs.Option.{option_map_or}
use Rattle.std.specs.Ordering.{nat_cmp}
use Rattle.std.proofs.lemmas.Grind.{flat_map-append}
use Rattle.std.proofs.lemmas.List.{take_more}
use Rattle.std.proofs.lemmas.List.Elements.{filter_map-append}
use Rattle.std.proofs.lemmas.List.Folds.{list_any-append}
use Rattle.content_eval.specs.declared.generated.Piece.{Piece}
use Rattle.content_eval.specs.Targets.{reference}
use Rattle.kept_elements.specs.declared.kept.Kept.{Kept}
use Rattle.kept_elements.specs.declared.kept_change.KeptChange.{KeptChange}
use Rattle.kept_elements.specs.Changes.{AreChanges, change_from}
use Rattle.kept_elements.proofs.ChangeLemmas.{changes-append}

module _ (f : ℕ → List (ℕ × Kept)) (keys : List ℕ) (place : ℕ) (within : place < length keys) (held : FinMap nat_cmp Kept) (changes : List (ℕ × KeptChange))
    (are : AreChanges held (flat_map f (take place keys)) changes) where
  abbrev key : ℕ
  key = get_or keys place 0

  one_more : flat_map f (take (place + 1) keys) ≡ flat_map f (take place keys) ++ f key
  one_more =
      ap (flat_map f) (take_more keys place 0 within)
      ∙ flat_map-append f (take place keys) (key ∷ [])
      ∙ ap (λ more. flat_map f (take place keys) ++ more) (append-nil (f key))

  more : (entries : List (ℕ × Kept)) (others : List (ℕ × KeptChange)) → f key ≡ entries → AreChanges held entries others → AreChanges held (flat_map f (take (place + 1) keys)) (changes ++ others)
  more entries others made behind =
      subst (λ all. AreChanges held all (changes ++ others)) (sym one_more)
      (changes-append held (flat_map f (take place keys)) (f key) changes others are (subst (λ e. AreChanges held e others) (sym made) behind))

  unmoved : (entries : List (ℕ × Kept)) → f key ≡ entries → AreChanges held entries [] → AreChanges held (flat_map f (take (place + 1) keys)) changes
  unmoved entries made behind = subst (λ c. AreChanges held (flat_map f (take (place + 1) keys)) c) (append-nil changes) (more entries [] made behind)

  pub none_told : f key ≡ [] → AreChanges held (flat_map f (take (place + 1) keys)) changes
  none_told made = unmoved [] made refl

  pub held_told : (kept : Kept) → f key ≡ (key, kept) ∷ [] → get held key ≡ Some kept → AreChanges held (flat_map f (take (place + 1) keys)) changes
  held_told kept made there = unmoved ((key, kept) ∷ []) made (inl (there, refl))

  pub new_told : (kept : Kept) → f key ≡ (key, kept) ∷ [] → (get held key ≡ Some kept → ⊥) → AreChanges held (flat_map f (take (place + 1) keys)) (changes ++ (key, change_from held key kept) ∷ [])
  new_told kept made absent = more ((key, kept) ∷ []) ((key, change_from held key kept) ∷ []) made (inr (absent, ([], refl, refl)))

-- one piece more refers to what it refers to
pub names_more : (p : List ℕ → Bool) (pieces : List Piece) (place : ℕ) (piece : Piece) → place < length pieces → piece ≡ get_or pieces place piece
    → list_any p (filter_map reference (take (place + 1) pieces)) ≡ (list_any p (filter_map reference (take place pieces)) || option_map_or p (reference piece) false)
names_more p pieces place piece within is =
    ap (λ ps. list_any p (filter_map reference ps)) (take_more pieces place piece within ∙ ap (λ x. take place pieces ++ x ∷ []) (sym is))
    ∙ ap (list_any p) (filter_map-append reference (take place pieces) (piece ∷ []))
    ∙ list_any-append p (filter_map reference (take place pieces)) (filter_map reference (piece ∷ []))
    ∙ ap (λ b. list_any p (filter_map reference (take place pieces)) || b) (one (reference piece) refl)
  where
    or_false : (b : Bool) → (b || false) ≡ b
    or_false true = refl
    or_false false = refl

    one : (o : Option (List ℕ)) → reference piece ≡ o → list_any p (filter_map reference (piece ∷ [])) ≡ option_map_or p (reference piece) false
    one None e = rw e refl
    one (Some id) e = rw e (or_false (p id))

pub or_assoc : (a b c : Bool) → ((a || b) || c) ≡ (a || (b || c))
or_assoc true b c = refl
or_assoc false b c = refl
