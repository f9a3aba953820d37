-- A piece of tokens, cut where no block is open.
use Rattle.std.proofs.Common.{◌≡◌, ◌↔◌, ℕ, zero, suc, ◌-◌, ◌≤◌, Bool, true, false, ◌&&◌, cond, List, [], ◌∷◌, length, drop, Option, Some, None, refl, sym, ap, ◌∙◌, arith}
use Rattle.std.proofs.lemmas.List.{drop_at, length-append}
use Rattle.reading.proofs.Following.{Follows, here, later, Follows-trans, Follows-length, Follows-front, rest_if}
use Rattle.css_tokens.specs.declared.token.Token.{Token}
use Rattle.css_tokens.specs.declared.token.TokenKind.{TokenKind}
use Rattle.css_tokens.specs.TokenReading.{is_sign}
use Rattle.css_reader.specs.Blocks.{closing_bracket, past_value, past_values, past_piece}
use Rattle.css_reader.specs.Grammar.{IsPast, nothing, ended, token, block}
use Rattle.css_reader.proofs.Waiting.{opened, waiting_after, is_none_waiting}

-- ---- what is left is an end of the tokens

pub one_follows : (tokens : List Token) → Follows tokens (drop 1 tokens)
one_follows [] = here
one_follows (first ∷ rest) = later first here

value_follows : (past : (TokenKind → Bool) → List Token → List Token) → ((ends : TokenKind → Bool) (tokens : List Token) → Follows tokens (past ends tokens)) → (bracket : Option ℕ) (rest : List Token) → Follows rest (past_value past bracket rest)
value_follows past go None rest = here
value_follows past go (Some bracket) rest = Follows-trans (go (is_sign bracket) rest) (one_follows _)

values_follow : (most : ℕ) (ends : TokenKind → Bool) (tokens : List Token) → Follows tokens (past_values most ends tokens)
unfolding past_values
values_follow zero ends tokens = here
values_follow (suc most) ends [] = here
values_follow (suc most) ends (first ∷ rest) =
    rest_if (ends first.kind) (first ∷ rest) _ here
    (later first (Follows-trans (value_follows (past_values most) (values_follow most) (closing_bracket first.kind) rest) (values_follow most ends _)))

pub piece_follows : (ends : TokenKind → Bool) (tokens : List Token) → Follows tokens (past_piece ends tokens)
piece_follows ends tokens = values_follow (length tokens) ends tokens

-- a first token that ends nothing belongs to the piece
pub piece_takes : (ends : TokenKind → Bool) (first : Token) (rest : List Token) → ends first.kind ≡ false → Follows rest (past_piece ends (first ∷ rest))
unfolding past_values
piece_takes ends first rest goes_on = rw goes_on (Follows-trans (value_follows (past_values (length rest)) (values_follow (length rest)) (closing_bracket first.kind) rest) (values_follow (length rest) ends _))

-- ---- the grammar and the function

past_follows : {ends : TokenKind → Bool} {tokens rest : List Token} → IsPast ends tokens rest → Follows tokens rest
past_follows nothing = here
past_follows (ended first rest e) = here
past_follows (token first e n p) = later first (past_follows p)
past_follows (block first bracket closing e s p q) = later first (Follows-trans (Follows-trans (past_follows p) (one_follows closing)) (past_follows q))

past_values_is : {ends : TokenKind → Bool} {tokens rest : List Token} → IsPast ends tokens rest → (most : ℕ) → length tokens ≤ most → past_values most ends tokens ≡ rest
unfolding past_values
past_values_is nothing zero le = refl
past_values_is nothing (suc most) le = refl
past_values_is (ended first rest e) zero le = refl
past_values_is (ended first rest e) (suc most) le = rw e refl
past_values_is (token first e n p) zero le = absurd (omega arith)
past_values_is (token first e n p) (suc most) le = rw (e, n) (past_values_is p most (omega arith))
past_values_is (block first bracket closing e s p q) zero le = absurd (omega arith)
past_values_is (block first bracket closing e s p q) (suc most) le =
    let inner = past_values_is p most (omega arith) in
    let shorter = Follows-length (Follows-trans (past_follows p) (one_follows closing)) in
    rw (e, s, inner) (past_values_is q most (omega (arith, shorter)))

module _ (most : ℕ) (smaller : (ends : TokenKind → Bool) (tokens : List Token) → length tokens ≤ most → IsPast ends tokens (past_values most ends tokens)) where
  first_value : (ends : TokenKind → Bool) (first : Token) (rest : List Token) → length rest ≤ most → ends first.kind ≡ false → (bracket : Option ℕ) → closing_bracket first.kind ≡ bracket
      → IsPast ends (first ∷ rest) (past_values most ends (past_value (past_values most) bracket rest))
  first_value ends first rest le e None is = token first e is (smaller ends rest le)
  first_value ends first rest le e (Some bracket) is =
      let shorter = Follows-length (value_follows (past_values most) (values_follow most) (Some bracket) rest) in
      block first bracket (past_values most (is_sign bracket) rest) e is (smaller (is_sign bracket) rest le) (smaller ends (drop 1 (past_values most (is_sign bracket) rest)) (omega (arith, shorter)))

  here_or_later : (ends : TokenKind → Bool) (first : Token) (rest : List Token) → length rest ≤ most → (ends_here : Bool) → ends first.kind ≡ ends_here
      → IsPast ends (first ∷ rest) (cond ends_here (first ∷ rest) (past_values most ends (past_value (past_values most) (closing_bracket first.kind) rest)))
  here_or_later ends first rest le true e = ended first rest e
  here_or_later ends first rest le false e = first_value ends first rest le e (closing_bracket first.kind) refl

values_are_past : (most : ℕ) (ends : TokenKind → Bool) (tokens : List Token) → length tokens ≤ most → IsPast ends tokens (past_values most ends tokens)
unfolding past_values
values_are_past zero ends [] le = nothing
values_are_past zero ends (first ∷ rest) le = absurd (omega arith)
values_are_past (suc most) ends [] le = nothing
values_are_past (suc most) ends (first ∷ rest) le = here_or_later most (values_are_past most) ends first rest (omega arith) (ends first.kind) refl

pub past_piece_is : (ends : TokenKind → Bool) (tokens rest : List Token) → IsPast ends tokens rest ↔ (rest ≡ past_piece ends tokens)
past_piece_is ends tokens rest = (λ p. sym (past_values_is p (length tokens) (omega arith)), λ e. rw e (values_are_past (length tokens) ends tokens (omega arith)))

-- ---- the loop

-- The loop has come to the rest and waits for these brackets: whatever is left after the values in the
-- innermost open block, and then in those around it, completes the piece.
abbrev pub Completes : (TokenKind → Bool) → List ℕ → List Token → List Token → Type 0
Completes ends [] whole rest = (end : List Token) → IsPast ends rest end → IsPast ends whole end
Completes ends (bracket ∷ waiting) whole rest = (end : List Token) → IsPast (is_sign bracket) rest end → Completes ends waiting whole (drop 1 end)

pub record Cuts (ends : TokenKind → Bool) (whole : List Token) (waiting : List ℕ) (rest : List Token) : Type 0 where
  pub completes : Completes ends waiting whole rest
  pub follows : Follows whole rest

pub Cuts-start : (ends : TokenKind → Bool) (whole : List Token) → Cuts ends whole [] whole
Cuts-start ends whole = record { completes = λ end p. p; follows = here }

module _ (ends : TokenKind → Bool) (whole : List Token) (first : Token) (after : List Token) where
  -- a token that ends nothing, where no block is open
  outside : (bracket : Option ℕ) → closing_bracket first.kind ≡ bracket → ends first.kind ≡ false → Completes ends [] whole (first ∷ after) → Completes ends (opened bracket []) whole after
  outside None is e g = λ end p. g end (token first e is p)
  outside (Some bracket) is e g = λ closing p end q. g end (block first bracket closing e is p q)

  -- a token in a block that does not close it
  inside : (innermost : ℕ) (waiting : List ℕ) (bracket : Option ℕ) → closing_bracket first.kind ≡ bracket → is_sign innermost first.kind ≡ false
      → Completes ends (innermost ∷ waiting) whole (first ∷ after) → Completes ends (opened bracket (innermost ∷ waiting)) whole after
  inside innermost waiting None is e g = λ end p. g end (token first e is p)
  inside innermost waiting (Some bracket) is e g = λ closing p end q. g end (block first bracket closing e is p q)

  within : (innermost : ℕ) (waiting : List ℕ) (closes : Bool) → is_sign innermost first.kind ≡ closes → Completes ends (innermost ∷ waiting) whole (first ∷ after)
      → Completes ends (cond closes waiting (opened (closing_bracket first.kind) (innermost ∷ waiting))) whole after
  within innermost waiting true e g = g (first ∷ after) (ended first after e)
  within innermost waiting false e g = inside innermost waiting (closing_bracket first.kind) refl e g

  one_more : (waiting : List ℕ) → (is_none_waiting waiting && ends first.kind) ≡ false → Completes ends waiting whole (first ∷ after) → Completes ends (waiting_after waiting first.kind) whole after
  one_more [] e g = outside (closing_bracket first.kind) refl e g
  one_more (innermost ∷ waiting) e g = within innermost waiting (is_sign innermost first.kind) refl g

pub Cuts-more : (ends : TokenKind → Bool) (whole : List Token) (waiting : List ℕ) (rest : List Token) (first : Token) (after : List Token) → Cuts ends whole waiting rest → rest ≡ first ∷ after
    → (is_none_waiting waiting && ends first.kind) ≡ false → Cuts ends whole (waiting_after waiting first.kind) after
Cuts-more ends whole waiting rest first after c is e = record {
  completes = one_more ends whole first after waiting e (rw is at c.completes);
  follows = Follows-trans c.follows (rw is (later first here));
}

-- at the end of the text every open block is closed
close_all : (ends : TokenKind → Bool) (whole : List Token) (waiting : List ℕ) → Completes ends waiting whole [] → IsPast ends whole []
close_all ends whole [] g = g [] nothing
close_all ends whole (bracket ∷ waiting) g = close_all ends whole waiting (g [] nothing)

stop_here : (ends : TokenKind → Bool) (whole : List Token) (waiting : List ℕ) (first : Token) (after : List Token) → (is_none_waiting waiting && ends first.kind) ≡ true → Completes ends waiting whole (first ∷ after) → IsPast ends whole (first ∷ after)
stop_here ends whole [] first after e g = g (first ∷ after) (ended first after e)
stop_here ends whole (bracket ∷ waiting) first after e g = absurd cc

pub Cuts-nothing : (ends : TokenKind → Bool) (whole : List Token) (waiting : List ℕ) (rest : List Token) → Cuts ends whole waiting rest → rest ≡ [] → past_piece ends whole ≡ rest
Cuts-nothing ends whole waiting rest c none = past_values_is (close_all ends whole waiting (rw none at c.completes)) (length whole) (omega arith) ∙ sym none

pub Cuts-stop : (ends : TokenKind → Bool) (whole : List Token) (waiting : List ℕ) (rest : List Token) (first : Token) (after : List Token) → Cuts ends whole waiting rest → rest ≡ first ∷ after
    → (is_none_waiting waiting && ends first.kind) ≡ true → past_piece ends whole ≡ rest
Cuts-stop ends whole waiting rest first after c is e = past_values_is (stop_here ends whole waiting first after e (rw is at c.completes)) (length whole) (omega arith) ∙ sym is

pub Cuts-drop : (ends : TokenKind → Bool) (whole : List Token) (waiting : List ℕ) (rest : List Token) → Cuts ends whole waiting rest → drop (length whole - length rest) whole ≡ rest
Cuts-drop ends whole waiting rest c =
    let front = Follows-front c.follows in
    let place : length front.0 ≡ length whole - length rest = omega (arith, ap length front.1, length-append front.0 rest) in
    ap (λ (t : List Token). drop (length whole - length rest) t) front.1 ∙ drop_at front.0 rest _ place

pub Cuts-within : (ends : TokenKind → Bool) (whole : List Token) (waiting : List ℕ) (rest : List Token) → Cuts ends whole waiting rest → length rest ≤ length whole
Cuts-within ends whole waiting rest c = Follows-length c.follows
