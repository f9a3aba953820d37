-- Each rule and each part of a block takes a token.
use Rattle.std.proofs.Common.{◌≡◌, ◌≤◌, ℕ, Bool, true, false, cond, ◌||◌, List, [], ◌∷◌, length, drop, Option, Some, None, refl, sym}
use Rattle.reading.proofs.Following.{Follows, here, later, left, Follows-trans, Follows-length, follow_if, Leaves, leave_if, TakesOne}
use Rattle.css_tokens.specs.declared.token.Token.{Token}
use Rattle.css_tokens.specs.TokenReading.{is_whitespace}
use Rattle.css_reader.specs.Blocks.{past_values, past_piece}
use Rattle.css_reader.specs.Rules.{Rule, is_semicolon, is_opening, is_closing, is_semicolon_or_opening, block_after, style_rule_at, at_rule_at, at_name, rule_begun, rule_at, is_between_rules, is_between_declarations, part_begun, part_at}
use Rattle.css_reader.proofs.Cutting.{one_follows, piece_follows, piece_takes}

block_follows : (tokens : List Token) → Follows tokens (drop 1 (past_piece is_closing tokens))
block_follows tokens = Follows-trans (piece_follows is_closing tokens) (one_follows _)

after_follows : (tokens : List Token) → Follows tokens (block_after tokens).1
after_follows [] = here
after_follows (first ∷ rest) = follow_if (is_opening first.kind) _ _ (later first (block_follows rest)) (later first here)

-- where a `{` stands at the front, the block begins there
opened_follows : (first : Token) (rest : List Token) → is_opening first.kind ≡ true → Follows rest (block_after (past_piece is_opening (first ∷ rest))).1
unfolding past_values
opened_follows first rest e = rw (e, e) (block_follows rest)

style_follows : (first : Token) (rest : List Token) (opens : Bool) → is_opening first.kind ≡ opens → Follows rest (style_rule_at (first ∷ rest)).1
style_follows first rest true e = opened_follows first rest e
style_follows first rest false e = Follows-trans (piece_takes is_opening first rest e) (after_follows _)

at_follows : (name : List ℕ) (tokens : List Token) → Follows tokens (at_rule_at name tokens).1
at_follows name tokens = Follows-trans (piece_follows is_semicolon_or_opening tokens) (after_follows _)

rule_follows : (name : Option (List ℕ)) (first : Token) (rest : List Token) → Follows rest (rule_begun name (first ∷ rest) rest).1
rule_follows None first rest = style_follows first rest (is_opening first.kind) refl
rule_follows (Some name) first rest = at_follows name rest

-- what is left of the tokens after an at-rule's name, after a style rule's first, and after a declaration's first
pub at_rule_leaves : (name : List ℕ) (tokens : List Token) (read : Option Rule × List Token) → at_rule_at name tokens ≡ read → length read.1 ≤ length tokens
at_rule_leaves name tokens read is = rw (sym is) (Follows-length (at_follows name tokens))

pub style_rule_leaves : (first : Token) (rest : List Token) (read : Option Rule × List Token) → style_rule_at (first ∷ rest) ≡ read → length read.1 ≤ length rest
style_rule_leaves first rest read is = rw (sym is) (Follows-length (style_follows first rest (is_opening first.kind) refl))

pub rule_takes : TakesOne rule_at
unfolding rule_at
rule_takes = record { none = refl; leaves = λ first rest. leave_if (is_between_rules first.kind) _ _ (left _ here) (left _ (rule_follows (at_name first.kind) first rest)) }

second : (a b : Bool) → (a || b) ≡ false → b ≡ false
second true b e = absurd cc
second false b e = e

part_follows : (name : Option (List ℕ)) (first : Token) (rest : List Token) → is_between_declarations first.kind ≡ false → Follows rest (part_begun name (first ∷ rest) rest).1
part_follows None first rest e = piece_takes is_semicolon first rest (second (is_whitespace first.kind) (is_semicolon first.kind) e)
part_follows (Some name) first rest e = at_follows name rest

pub declaration_leaves : (first : Token) (rest : List Token) → is_between_declarations first.kind ≡ false → length (past_piece is_semicolon (first ∷ rest)) ≤ length rest
declaration_leaves first rest e = Follows-length (piece_takes is_semicolon first rest (second (is_whitespace first.kind) (is_semicolon first.kind) e))

pub part_takes : TakesOne part_at
unfolding part_at
part_takes = record { none = refl; leaves = λ first rest. go first rest (is_between_declarations first.kind) refl }
  where
    go : (first : Token) (rest : List Token) (between : Bool) → is_between_declarations first.kind ≡ between → Leaves rest (cond between (Some (None, rest)) (Some (part_begun (at_name first.kind) (first ∷ rest) rest)))
    go first rest true e = left _ here
    go first rest false e = left _ (part_follows (at_name first.kind) first rest e)
