-- Each piece and each token takes a character.
use Rattle.std.proofs.Common.{◌≡◌, ℕ, ◌<◌, Bool, true, false, cond, eqb, ◌||◌, ◌&&◌, not, List, [], ◌∷◌, length, Option, Some, None, is_some, inl, inr, refl}
use Rattle.std.specs.Prelude.{codes}
use Rattle.std.proofs.Math.IntN.{ℤ}
use Rattle.std.proofs.lemmas.Bool.{eqb-true}
use Rattle.reading.specs.Characters.{is_blank, is_digit, is_hexadecimal_digit, is_quote}
use Rattle.reading.specs.Reading.{◌then◌, span, span_of, past_character, past_text, past_one, begins}
use Rattle.css_definitions.specs.SheetCharacters.{is_ident_start, is_ident_character}
use Rattle.css_definitions.specs.Identifiers.{hex_escape, past_blank, escape_at, is_escape, ident_character_at, ident_sequence_at, starts_letter, starts_identifier, identifier_at}
use Rattle.reading.proofs.Runs.{chosen}
use Rattle.reading.proofs.Following.{Follows, here, later, left, nothing, ended, none_ends, Follows-trans, Leaves, Ends, follow_if, rest_if, leave_if, end_if, leave_otherwise, leave_then, end_then, ends_then, leaves_end, leave_more, end_more, leave_within, one_follows, character_ends, text_ends, span_follows, span_of_follows, TakesOne, takes_shorter, run_follows, run_takes}
use Rattle.css_tokens.specs.Strings.{some_character, string_escape_at, string_piece_at, string_end, string_at}
use Rattle.css_tokens.specs.Numbers.{sign_at, digits_at, saturated_at, fraction_at, exponent_at, or_stay, number_end, after_fraction, after_digits, unsigned_at, number_at}
use Rattle.css_tokens.specs.Urls.{past_blanks, is_url_character, url_character_at, bad_url_character_at, past_bad_url, url_end, url_at, function_or_url, named_of, named_at, at_keyword_at}
use Rattle.css_tokens.specs.Tokens.{past_comment_end, comment_at, blanks_at, hash_at, fixed_at, token_at, piece_at, placed_at}
use Rattle.css_tokens.specs.declared.token.TokenKind.{TokenKind}
use Rattle.css_tokens.specs.declared.token.TokenKind.TheVariants as kind

blank_follows : (cs : List ℕ) → Follows cs (past_blank cs)
blank_follows [] = here
blank_follows (c ∷ cs) = rest_if (is_blank c) _ _ (later c here) here

pub escape_leaves : (cs : List ℕ) → Leaves cs (escape_at cs)
unfolding escape_at
escape_leaves [] = left _ here
escape_leaves (c ∷ cs) = leave_if (eqb c 10) _ _ nothing (leave_if (is_hexadecimal_digit c) _ _ (left _ (Follows-trans (span_of_follows 6 is_hexadecimal_digit (c ∷ cs)) (blank_follows (span_of 6 is_hexadecimal_digit (c ∷ cs)).1))) (left _ (later c here)))

pub ident_takes : TakesOne ident_character_at
unfolding ident_character_at
ident_takes = record { none = refl; leaves = λ c cs. leave_if (is_ident_character c) _ _ (left _ here) (leave_if (eqb c 92) _ _ (escape_leaves cs) nothing) }

string_escape_leaves : (cs : List ℕ) → Leaves cs (string_escape_at cs)
string_escape_leaves [] = left _ here
string_escape_leaves (c ∷ cs) = leave_if (eqb c 10) _ _ (left _ (later c here)) (leave_then (escape_at (c ∷ cs)) some_character (escape_leaves (c ∷ cs)) (λ y p. left _ p))

pub string_takes : (quote : ℕ) → TakesOne (string_piece_at quote)
unfolding string_piece_at
string_takes quote = record { none = refl; leaves = λ c cs. leave_if (eqb c quote || eqb c 10) _ _ nothing (leave_if (eqb c 92) _ _ (string_escape_leaves cs) (left _ here)) }

pub url_takes : TakesOne url_character_at
unfolding url_character_at
url_takes = record { none = refl; leaves = λ c cs. leave_if (eqb c 92) _ _ (escape_leaves cs) (leave_if (is_url_character c) _ _ (left _ here) nothing) }

pub bad_takes : TakesOne bad_url_character_at
unfolding bad_url_character_at
bad_takes = record { none = refl; leaves = λ c cs. leave_if (eqb c 41) _ _ nothing (leave_if (eqb c 92) _ _ (leave_otherwise (escape_at cs) _ (escape_leaves cs) (left _ here)) (left _ here)) }

pub ident_shorter : (cs : List ℕ) (x : ℕ × List ℕ) → ident_character_at cs ≡ Some x → length x.1 < length cs
ident_shorter = takes_shorter ident_character_at ident_takes

pub string_shorter : (quote : ℕ) (cs : List ℕ) (x : Option ℕ × List ℕ) → string_piece_at quote cs ≡ Some x → length x.1 < length cs
string_shorter quote = takes_shorter (string_piece_at quote) (string_takes quote)

pub url_shorter : (cs : List ℕ) (x : ℕ × List ℕ) → url_character_at cs ≡ Some x → length x.1 < length cs
url_shorter = takes_shorter url_character_at url_takes

pub bad_shorter : (cs : List ℕ) (x : ℕ × List ℕ) → bad_url_character_at cs ≡ Some x → length x.1 < length cs
bad_shorter = takes_shorter bad_url_character_at bad_takes

-- ---- tokens

blanks_follow : (cs : List ℕ) → Follows cs (past_blanks cs)
blanks_follow cs = span_follows is_blank cs

sequence_follows : (cs : List ℕ) → Follows cs (ident_sequence_at cs).1
sequence_follows cs = run_follows ident_character_at ident_takes cs

comment_follows : (cs : List ℕ) → Follows cs (past_comment_end cs)
comment_follows [] = here
comment_follows (c ∷ cs) = rest_if (eqb c 42 && begins 47 cs) _ _ (later c (one_follows cs)) (later c (comment_follows cs))

comment_ends : (c : ℕ) (cs : List ℕ) → Ends cs (comment_at (c ∷ cs))
comment_ends c cs = ends_then (past_text (codes "/*") (c ∷ cs)) _ (text_ends 47 (42 ∷ []) c cs) (λ rest p. ended (Follows-trans p (comment_follows rest)))

blanks_end : (c : ℕ) (cs : List ℕ) → Ends cs (blanks_at (c ∷ cs))
blanks_end c cs = end_if (is_blank c) _ _ (ended (blanks_follow cs)) none_ends

string_end_follows : (quote : ℕ) (value cs : List ℕ) → Follows cs (string_end quote value cs).1
string_end_follows quote value [] = here
string_end_follows quote value (c ∷ cs) = follow_if (eqb c quote) _ _ (later c here) here

string_leaves : (quote : ℕ) (cs : List ℕ) → Leaves cs (string_at (quote ∷ cs))
unfolding string_at
string_leaves quote cs = leave_if (is_quote quote) _ _ (left _ (Follows-trans (run_follows (string_piece_at quote) (string_takes quote) cs) (string_end_follows quote _ _))) nothing

hash_leaves : (c : ℕ) (cs : List ℕ) → Leaves cs (hash_at (c ∷ cs))
unfolding hash_at
hash_leaves c cs = end_then (past_character 35 (c ∷ cs)) _ (character_ends 35 c cs) (λ rest p. leave_if (is_some (ident_character_at rest)) _ _ (left _ (Follows-trans p (sequence_follows rest))) nothing)

sign_follows : (cs : List ℕ) → Follows cs (sign_at cs).1
sign_follows [] = here
sign_follows (c ∷ cs) = follow_if (eqb c 45) _ _ (later c here) (follow_if (eqb c 43) _ _ (later c here) here)

digits_leave : (c : ℕ) (cs : List ℕ) → Leaves cs (digits_at (c ∷ cs))
unfolding span
digits_leave c cs = go (is_digit c)
  where
    go : (digit : Bool) → Leaves cs (cond digit (Some (cond digit (c ∷ (span is_digit cs).0, (span is_digit cs).1) ([], c ∷ cs))) None)
    go true = left _ (span_follows is_digit cs)
    go false = nothing

digits_within : (cs : List ℕ) → Leaves cs (digits_at cs)
digits_within = leave_within digits_at refl digits_leave

fraction_ends : (c : ℕ) (cs : List ℕ) → Ends cs (fraction_at (c ∷ cs))
fraction_ends c cs = ends_then (past_character 46 (c ∷ cs)) _ (character_ends 46 c cs) (λ rest p. end_more _ p (leaves_end (digits_at rest) (digits_within rest)))

fraction_within : (cs : List ℕ) → Ends cs (fraction_at cs)
fraction_within [] = none_ends
fraction_within (c ∷ cs) = end_more _ (later c here) (fraction_ends c cs)

exponent_within : (cs : List ℕ) → Ends cs (exponent_at cs)
exponent_within [] = none_ends
exponent_within (c ∷ cs) = end_if (eqb c 101 || eqb c 69) _ _ (end_more _ (later c (sign_follows cs)) (leaves_end (digits_at (sign_at cs).1) (digits_within (sign_at cs).1))) none_ends

stay_follows : (o : Option (List ℕ)) (cs : List ℕ) → Ends cs o → Follows cs (or_stay o cs)
stay_follows o cs (ended p) = p
stay_follows o cs none_ends = here

end_follows : (whole : Bool) (value : ℤ) (cs : List ℕ) → Follows cs (number_end whole value cs).1
end_follows whole value cs = follow_if (starts_identifier cs) _ _ (sequence_follows cs) (follow_if (begins 37 cs) _ _ (one_follows cs) here)

fraction_follows : (whole : Bool) (value : ℤ) (cs : List ℕ) → Follows cs (after_fraction whole value cs).1
fraction_follows whole value cs = follow_if (is_some (exponent_at cs)) _ _ (Follows-trans (stay_follows (exponent_at cs) cs (exponent_within cs)) (end_follows _ _ _)) (end_follows _ _ _)

digits_follow : (value : ℤ) (cs : List ℕ) → Follows cs (after_digits value cs).1
digits_follow value cs = follow_if (is_some (fraction_at cs)) _ _ (Follows-trans (stay_follows (fraction_at cs) cs (fraction_within cs)) (fraction_follows _ _ _)) (fraction_follows _ _ _)

saturated_leaves : (negative : Bool) (c : ℕ) (cs : List ℕ) → Leaves cs (saturated_at negative (c ∷ cs))
saturated_leaves negative c cs = leave_then (digits_at (c ∷ cs)) _ (digits_leave c cs) (λ digits p. left _ p)

unsigned_leaves : (negative : Bool) (c : ℕ) (cs : List ℕ) → Leaves cs (unsigned_at (negative, c ∷ cs))
unsigned_leaves negative c cs = leave_otherwise (saturated_at negative (c ∷ cs) then _) _
    (leave_then (saturated_at negative (c ∷ cs)) _ (saturated_leaves negative c cs) (λ y p. left _ (Follows-trans p (digits_follow y.0 y.1))))
    (end_then (fraction_at (c ∷ cs)) _ (fraction_ends c cs) (λ rest p. left _ (Follows-trans p (fraction_follows _ _ rest))))

unsigned_within : (negative : Bool) (cs : List ℕ) → Leaves cs (unsigned_at (negative, cs))
unsigned_within negative [] = nothing
unsigned_within negative (c ∷ cs) = leave_more _ (later c here) (unsigned_leaves negative c cs)

number_leaves : (c : ℕ) (cs : List ℕ) → Leaves cs (number_at (c ∷ cs))
unfolding number_at
number_leaves c cs = go (eqb c 45) (eqb c 43)
  where
    go : (minus plus : Bool) → Leaves cs (unsigned_at (cond minus (true, cs) (cond plus (false, cs) (false, c ∷ cs))))
    go true plus = unsigned_within true cs
    go false true = unsigned_within false cs
    go false false = unsigned_leaves false c cs

bad_follows : (cs : List ℕ) → Follows cs (past_bad_url cs)
bad_follows cs = Follows-trans (run_follows bad_url_character_at bad_takes cs) (one_follows _)

url_end_follows : (value cs : List ℕ) → Follows cs (url_end value cs).1
url_end_follows value [] = here
url_end_follows value (c ∷ cs) = follow_if (eqb c 41) _ _ (later c here) (bad_follows (c ∷ cs))

url_follows : (cs : List ℕ) → Follows cs (url_at cs).1
unfolding url_at
url_follows cs = Follows-trans (blanks_follow cs) (Follows-trans (run_follows url_character_at url_takes (past_blanks cs)) (Follows-trans (blanks_follow _) (url_end_follows _ _)))

function_follows : (name cs : List ℕ) → Follows cs (function_or_url name cs).1
function_follows name cs = follow_if _ _ _ (url_follows cs) here

named_follows : (name : List ℕ × List ℕ) → Follows name.1 (named_of name).1
named_follows name = follow_if (begins 40 name.1) _ _ (Follows-trans (one_follows name.1) (function_follows name.0 (past_one name.1))) here

-- where an identifier starts, a character of one stands
escaped : (cs : List ℕ) → is_escape cs ≡ true → is_some (escape_at cs) ≡ true
unfolding escape_at
escaped [] e = refl
escaped (c ∷ cs) e = go (eqb c 10) (is_hexadecimal_digit c) (hex_escape (span_of 6 is_hexadecimal_digit (c ∷ cs))) e
  where
    go : (line_feed hex : Bool) (x : ℕ × List ℕ) → not line_feed ≡ true → is_some (cond line_feed None (cond hex (Some x) (Some (c, cs)))) ≡ true
    go true hex x e = absurd cc
    go false true x e = refl
    go false false x e = refl

some_if : {A : Type 0} (test : Bool) (x y : Option A) → (test ≡ true → is_some x ≡ true) → (test ≡ false → is_some y ≡ true) → is_some (cond test x y) ≡ true
some_if true x y p q = p refl
some_if false x y p q = q refl

started : (c : ℕ) (cs : List ℕ) → starts_letter (c ∷ cs) ≡ true → is_some (ident_character_at (c ∷ cs)) ≡ true
unfolding ident_character_at
started c cs e = some_if (is_ident_character c) _ _ (λ p. refl) (λ p. some_if (eqb c 92) _ _ (λ q. escaped cs (second (is_ident_start c) (is_digit c || eqb c 45) (eqb c 92) (is_escape cs) e p).1) (λ q. absurd (let h = (second (is_ident_start c) (is_digit c || eqb c 45) (eqb c 92) (is_escape cs) e p).0 in cc)))
  where
    second : (a b d f : Bool) → (a || (d && f)) ≡ true → (a || b) ≡ false → (d ≡ true) × (f ≡ true)
    second true b d f e p = absurd cc
    second false b true true e p = (refl, refl)
    second false b true false e p = absurd cc
    second false b false f e p = absurd cc

-- a `-` is a character of an identifier
hyphen : (c : ℕ) (cs : List ℕ) → eqb c 45 ≡ true → is_some (ident_character_at (c ∷ cs)) ≡ true
unfolding ident_character_at
hyphen c cs e = rw (eqb-true c 45 e) refl

identifier_starts : (c : ℕ) (cs : List ℕ) → starts_identifier (c ∷ cs) ≡ true → is_some (ident_character_at (c ∷ cs)) ≡ true
identifier_starts c cs e = elim (chosen (eqb c 45) _ _ _ e) [
  | inl w ↦ hyphen c cs w.0
  | inr w ↦ started c cs w.1
]

sequence_after : (c : ℕ) (cs : List ℕ) (o : Option (ℕ × List ℕ)) → ident_character_at (c ∷ cs) ≡ o → is_some o ≡ true → Follows cs (ident_sequence_at (c ∷ cs)).1
sequence_after c cs (Some x) e p = run_takes ident_character_at ident_takes c cs x e
sequence_after c cs None e p = absurd cc

identifier_leaves : (c : ℕ) (cs : List ℕ) → Leaves cs (identifier_at (c ∷ cs))
identifier_leaves c cs = go (starts_identifier (c ∷ cs)) (identifier_starts c cs)
  where
    go : (starts : Bool) → (starts ≡ true → is_some (ident_character_at (c ∷ cs)) ≡ true) → Leaves cs (cond starts (Some (ident_sequence_at (c ∷ cs))) None)
    go true p = left _ (sequence_after c cs (ident_character_at (c ∷ cs)) refl (p refl))
    go false p = nothing

identifier_within : (cs : List ℕ) → Leaves cs (identifier_at cs)
identifier_within = leave_within identifier_at refl identifier_leaves

named_leaves : (c : ℕ) (cs : List ℕ) → Leaves cs (named_at (c ∷ cs))
unfolding named_at
named_leaves c cs = leave_then (identifier_at (c ∷ cs)) _ (identifier_leaves c cs) (λ name p. left _ (Follows-trans p (named_follows name)))

at_keyword_leaves : (c : ℕ) (cs : List ℕ) → Leaves cs (at_keyword_at (c ∷ cs))
unfolding at_keyword_at
at_keyword_leaves c cs = end_then (past_character 64 (c ∷ cs)) _ (character_ends 64 c cs) (λ rest p. leave_then (identifier_at rest) _ (leave_more _ p (identifier_within rest)) (λ name q. left _ q))

fixed_leaves : (token : TokenKind) (d : ℕ) (ds : List ℕ) (c : ℕ) (cs : List ℕ) → Leaves cs (fixed_at token (d ∷ ds) (c ∷ cs))
fixed_leaves token d ds c cs = end_then (past_text (d ∷ ds) (c ∷ cs)) _ (text_ends d ds c cs) (λ rest p. left _ p)

token_leaves : (c : ℕ) (cs : List ℕ) → Leaves cs (token_at (c ∷ cs))
unfolding token_at
token_leaves c cs =
    leave_otherwise (blanks_at (c ∷ cs) then λ rest. Some (kind.Blank, rest)) _ (end_then (blanks_at (c ∷ cs)) _ (blanks_end c cs) (λ rest p. left _ p))
    (leave_otherwise (string_at (c ∷ cs)) _ (string_leaves c cs)
    (leave_otherwise (hash_at (c ∷ cs)) _ (hash_leaves c cs)
    (leave_otherwise (number_at (c ∷ cs)) _ (number_leaves c cs)
    (leave_otherwise (fixed_at kind.CommentClose (codes "-->") (c ∷ cs)) _ (fixed_leaves kind.CommentClose 45 (45 ∷ 62 ∷ []) c cs)
    (leave_otherwise (fixed_at kind.CommentOpen (codes "<!--") (c ∷ cs)) _ (fixed_leaves kind.CommentOpen 60 (33 ∷ 45 ∷ 45 ∷ []) c cs)
    (leave_otherwise (named_at (c ∷ cs)) _ (named_leaves c cs)
    (leave_otherwise (at_keyword_at (c ∷ cs)) _ (at_keyword_leaves c cs) (left _ here))))))))

pub piece_takes : TakesOne piece_at
unfolding piece_at token_at string_at hash_at number_at named_at at_keyword_at
piece_takes = record {
  none = refl;
  leaves = λ c cs.
      leave_otherwise (comment_at (c ∷ cs) then λ rest. Some (None, rest)) _ (end_then (comment_at (c ∷ cs)) _ (comment_ends c cs) (λ rest p. left _ p))
      (leave_then (token_at (c ∷ cs)) _ (token_leaves c cs) (λ x p. left _ p));
}

pub placed_takes : TakesOne placed_at
unfolding placed_at
placed_takes = record { none = (let h = piece_takes.none in rw h refl); leaves = λ c cs. leave_then (piece_at (c ∷ cs)) _ (piece_takes.leaves c cs) (λ x p. left _ p) }
