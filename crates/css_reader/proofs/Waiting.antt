-- How the code tells where no block is open: the closing brackets that it waits for, the innermost first. In the
-- code the innermost is the last that was pushed.
use Rattle.std.proofs.Common.{◌≡◌, ℕ, Bool, true, false, eqb, ◌&&◌, ◌||◌, ◌++◌, if◌then◌else◌, List, [], ◌∷◌, length, take, drop, reverse, Option, refl, sym, ap, ◌∙◌, arith}
use Rattle.std.specs.List.{list_any}
use Rattle.std.specs.Option.{option_to_list}
use Rattle.std.proofs.lemmas.Bool.Decides.{nat_tests}
use Rattle.std.proofs.lemmas.List.{length-reverse}
use Rattle.css_tokens.specs.TokenReading.{is_sign}
use Rattle.css_tokens.specs.declared.token.TokenKind.{TokenKind}
use Rattle.css_reader.specs.Blocks.{closing_bracket}

abbrev pub opened : Option ℕ → List ℕ → List ℕ
opened bracket waiting = option_to_list bracket ++ waiting

-- after one more token
abbrev pub waiting_after : List ℕ → TokenKind → List ℕ
waiting_after [] kind = opened (closing_bracket kind) []
waiting_after (bracket ∷ waiting) kind = if is_sign bracket kind then waiting else opened (closing_bracket kind) (bracket ∷ waiting)

or-false : (b : Bool) → (b || false) ≡ b
or-false true = refl
or-false false = refl

-- the same, where the innermost is what stands at the front
pub waiting_after-is : (waiting : List ℕ) (kind : TokenKind)
    → (if list_any (λ bracket. is_sign bracket kind) (take 1 waiting) then drop 1 waiting else option_to_list (closing_bracket kind) ++ waiting) ≡ waiting_after waiting kind
waiting_after-is [] kind = refl
waiting_after-is (bracket ∷ waiting) kind = rw (or-false (is_sign bracket kind)) refl

abbrev pub is_none_waiting : List ℕ → Bool
is_none_waiting [] = true
is_none_waiting (_ ∷ _) = false

pub is_none_waiting-is : (brackets : List ℕ) (count : ℕ) → count ≡ length brackets → eqb count 0 ≡ is_none_waiting (reverse brackets)
is_none_waiting-is brackets count is = go (reverse brackets) (length-reverse brackets)
  where
    go : (turned : List ℕ) → length turned ≡ length brackets → eqb count 0 ≡ is_none_waiting turned
    go [] none = grind (arith, nat_tests, is, none)
    go (first ∷ rest) some = grind (arith, nat_tests, is, some)

pub ends_where_none_waits : (brackets : List ℕ) (count : ℕ) (ends result answer : Bool) → count ≡ length brackets → result ≡ (eqb count 0 && ends) → result ≡ answer
    → (is_none_waiting (reverse brackets) && ends) ≡ answer
ends_where_none_waits brackets count ends result answer is e a = ap (λ (none : Bool). none && ends) (sym (is_none_waiting-is brackets count is)) ∙ sym e ∙ a
