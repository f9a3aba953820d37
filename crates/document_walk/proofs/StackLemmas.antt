-- The innermost open element is the last on the stack.
use Rattle.std.proofs.Common.{◌≡◌, ◌∷◌, ◌++◌, ◌-◌, take, ℕ, List, [], reverse, ap, ◌∙◌}
use Rattle.std.proofs.lemmas.List.{reverse-append}

pub last_first : {A : Type 0} (xs before : List A) (x : A) → xs ≡ before ++ x ∷ [] → reverse xs ≡ x ∷ reverse before
last_first xs before x e = ap reverse e ∙ reverse-append before (x ∷ [])

-- where nothing came off a stack, it was empty
pub none_left : {A : Type 0} (xs rest : List A) (count : ℕ) → xs ≡ rest ++ [] → rest ≡ take (count - 1) xs → count ≡ 0 → xs ≡ []
none_left xs rest count all front none = all ∙ ap (λ items. items ++ []) front ∙ ap (λ count. take (count - 1) xs ++ []) none
