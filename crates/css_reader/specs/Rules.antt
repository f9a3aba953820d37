-- Rules of a sheet, and the declarations of a block: CSS Syntax 3, 5.4.1 to 5.4.6.
use Rattle.std.specs.Prelude.{ℕ, Bool, true, false, ◌||◌, if◌then◌else◌, List, [], ◌∷◌, Option, Some, None, drop}
use Rattle.std.specs.List.{filter_map}
use Rattle.std.specs.Option.{option_map}
use Rattle.reading.specs.Reading.{run_at}
use Rattle.css_tokens.specs.declared.token.Token.{Token}
use Rattle.css_tokens.specs.declared.token.TokenKind.{TokenKind}
use Rattle.css_tokens.specs.declared.token.TokenKind.TheVariants as kind
use Rattle.css_tokens.specs.TokenReading.{is_whitespace, is_sign}
use Rattle.css_reader.specs.Blocks.{left_curly_bracket, right_curly_bracket, piece, past_piece}

abbrev pub semicolon : ℕ
semicolon = 59

-- The tokens that end a prelude, a declaration or the content of a block.
abbrev pub is_semicolon : TokenKind → Bool
is_semicolon kind = is_sign semicolon kind

abbrev pub is_opening : TokenKind → Bool
is_opening kind = is_sign left_curly_bracket kind

abbrev pub is_closing : TokenKind → Bool
is_closing kind = is_sign right_curly_bracket kind

abbrev pub is_semicolon_or_opening : TokenKind → Bool
is_semicolon_or_opening kind = is_semicolon kind || is_opening kind

-- Rules.

-- a rule with its prelude and the content of its block
pub data Rule : Type 0 where
  style_rule : (prelude block : List Token) → Rule
  at_rule : (name : List ℕ) (prelude block : List Token) → Rule

-- what follows a prelude: the content of the block, and what is left. Our own: a rule without a block is
-- of no use, whether the end of the text or a `;` stands in its place
abbrev pub block_after : List Token → Option (List Token) × List Token
block_after [] = (None, [])
block_after (first ∷ rest) = if is_opening first.kind then (Some (piece is_closing rest), drop 1 (past_piece is_closing rest)) else (None, rest)

abbrev pub with_block : (List Token → Rule) → Option (List Token) × List Token → Option Rule × List Token
with_block rule block = (option_map rule block.0, block.1)

-- 5.4.3: a style rule; its prelude goes to the first `{`
abbrev pub style_rule_at : List Token → Option Rule × List Token
style_rule_at tokens = with_block (style_rule (piece is_opening tokens)) (block_after (past_piece is_opening tokens))

-- 5.4.2: an at-rule, after its name; its prelude goes to the first `;` or `{`
abbrev pub at_rule_at : List ℕ → List Token → Option Rule × List Token
at_rule_at name tokens = with_block (at_rule name (piece is_semicolon_or_opening tokens)) (block_after (past_piece is_semicolon_or_opening tokens))

abbrev pub at_name : TokenKind → Option (List ℕ)
at_name (kind.AtKeyword name) = Some name
at_name _ = None

-- the rule that these tokens begin, by their first and those after it
abbrev pub rule_begun : Option (List ℕ) → List Token → List Token → Option Rule × List Token
rule_begun None whole rest = style_rule_at whole
rule_begun (Some name) whole rest = at_rule_at name rest

-- 5.4.1: whitespace, `<!--` and `-->` between rules mean nothing
abbrev pub is_between_rules : TokenKind → Bool
is_between_rules kind.Blank = true
is_between_rules kind.CommentOpen = true
is_between_rules kind.CommentClose = true
is_between_rules _ = false

-- what stands at the front: a rule, or something that gives none
unfoldable pub rule_at : List Token → Option (Option Rule × List Token)
rule_at [] = None
rule_at (first ∷ rest) = if is_between_rules first.kind then Some (None, rest) else Some (rule_begun (at_name first.kind) (first ∷ rest) rest)

-- the rules of a sheet
unfoldable pub rules : List Token → List Rule
rules tokens = filter_map (λ found. found) (run_at rule_at tokens).0

-- The content of a block.

-- 5.4.4: whitespace and `;` between declarations mean nothing
abbrev pub is_between_declarations : TokenKind → Bool
is_between_declarations kind = is_whitespace kind || is_semicolon kind

-- What these tokens begin, by their first and those after it: an at-rule, which means nothing in a block
-- that we read, or what may be a declaration, up to the next `;`.
abbrev pub part_begun : Option (List ℕ) → List Token → List Token → Option (List Token) × List Token
part_begun None whole rest = (Some (piece is_semicolon whole), past_piece is_semicolon whole)
part_begun (Some name) whole rest = (None, (at_rule_at name rest).1)

-- what stands at the front of a block's content: what may be a declaration, or something that gives none
unfoldable pub part_at : List Token → Option (Option (List Token) × List Token)
part_at [] = None
part_at (first ∷ rest) = if is_between_declarations first.kind then Some (None, rest) else Some (part_begun (at_name first.kind) (first ∷ rest) rest)

-- what may be declarations, in a block of this content
unfoldable pub parts : List Token → List (List Token)
parts tokens = filter_map (λ found. found) (run_at part_at tokens).0
