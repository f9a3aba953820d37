use Rattle.std.specs.Str.{chars}
use Rattle.css_tokens.proofs.Keeping.{Keeps-start, Keeps-more, Keeps-read}
use Rattle.css_tokens.proofs.Shortening.{string_shorter}
use Rattle.css_tokens.specs.Strings.{string_piece_at}
use Rattle.css_tokens.proofs.strings.string_value.Goals as goal

pub pieces-init : goal.pieces-init
pieces-init c = record { utf8 = c.utf8.text; keeps = rw c.new-value.ensures.empty (Keeps-start _ (chars c.args.text.now)) }

pub pieces-smaller : goal.pieces-smaller
pieces-smaller c = string_shorter c.args.quote (chars c.pieces.rest.now) _ c.in-Some.ensures.gives

pub pieces-preserved : goal.pieces-preserved
pieces-preserved c = record { utf8 = c.in-Some.ensures.text; keeps = Keeps-more _ _ _ _ _ c.in-Some.left _ c.pieces.invariant.keeps c.in-Some.ensures.gives c.in_ok-push_left.ensures.ok }

pub returns-clause-value : goal.returns-clause-value
returns-clause-value c = rw c.in_ok-new.ensures.characters (Keeps-read (string_piece_at c.args.quote) (string_shorter c.args.quote) _ _ _ c.pieces.invariant.keeps c.in_default.ensures.gives).0

pub returns-clause-rest : goal.returns-clause-rest
returns-clause-rest c = (Keeps-read (string_piece_at c.args.quote) (string_shorter c.args.quote) _ _ _ c.pieces.invariant.keeps c.in_default.ensures.gives).1
