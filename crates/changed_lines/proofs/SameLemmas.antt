-- Elements of which the same is kept.
use Rattle.std.proofs.Common.{◌≡◌, ◌∷◌, ◌++◌, ℕ, List, [], Bool, true, false, Option, Some, None, refl, ap, ◌∙◌, inl, inr}
use Rattle.std.proofs.lemmas.Bool.{cases_Bool}
use Rattle.std.proofs.lemmas.Slice.Eq.{bytes_eq-Decides}
use Rattle.std.specs.Prelude.{filter, flat_map}
use Rattle.forest.specs.Forest.{Forest}
use Rattle.forest.specs.Keys.{Keyed, keys}
use Rattle.forest.specs.Paths.{path_of}
use Rattle.plain_types.specs.declared.box_kind.BoxKind.TheVariants as kind
use Rattle.plain_types.specs.declared.node.Node.{Node}
use Rattle.generated_texts.specs.declared.entry.NodeEntry.{NodeEntry}
use Rattle.changed_lines.specs.Changes.{element_lines, is_same_text, lines_at, lines_between}
use Rattle.changed_lines.specs.ShownTexts.{shown_text}

same_self : (text : Option (List ℕ)) → is_same_text text text ≡ true
same_self None = refl
same_self (Some text) = (bytes_eq-Decides text text).1 refl

pub no_lines : (path : List ℕ) (entry : Option NodeEntry) → element_lines path entry entry ≡ []
no_lines path entry =
    rw (same_self (shown_text kind.Marker entry), same_self (shown_text kind.Before entry), same_self (shown_text kind.After entry)) refl

-- items that give nothing may be left out
flat_map_filter : {X A : Type 0} (f : X → List A) (keeps : X → Bool) → ((x : X) → keeps x ≡ false → f x ≡ []) → (xs : List X) → flat_map f xs ≡ flat_map f (filter keeps xs)
flat_map_filter f keeps gives_none [] = refl
flat_map_filter f keeps gives_none (x ∷ xs) = elim (cases_Bool (keeps x)) [
  | inl e ↦ rw e (ap (λ ys. f x ++ ys) (flat_map_filter f keeps gives_none xs))
  | inr e ↦ rw (e, gives_none x e) (flat_map_filter f keeps gives_none xs)
]

pub lines_of_others : (document : Forest (Keyed Node)) (before after : ℕ → Option NodeEntry) (is_other : ℕ → Bool)
    → ((key : ℕ) → is_other key ≡ false → before key ≡ after key)
    → lines_between document before after ≡ flat_map (lines_at document before after) (filter is_other (keys document))
lines_of_others document before after is_other same =
    flat_map_filter (lines_at document before after) is_other
    (λ key e. ap (λ (was : Option NodeEntry). element_lines (path_of document key) was (after key)) (same key e) ∙ no_lines (path_of document key) (after key))
    (keys document)
