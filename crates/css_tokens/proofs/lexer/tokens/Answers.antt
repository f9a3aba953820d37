use Rattle.std.proofs.Common.{◌-◌, length, refl, arith}
use Rattle.std.specs.Str.{chars}
use Rattle.css_tokens.proofs.Placing.{Has-start, Has-more, Has-read, piece_shorter, piece_narrower, width_is}
use Rattle.css_tokens.proofs.Spanning.{tokens_fit}
use Rattle.css_tokens.proofs.lexer.tokens.Goals as goal

pub pieces-init : goal.pieces-init
pieces-init c = record { utf8 = c.utf8.text; has = rw c.new-tokens.ensures.empty (Has-start (chars c.args.text.now)); within = omega arith }

pub overflow_sub-end : goal.overflow_sub-end
overflow_sub-end c =
    let gives = rw c.in-Some.is at c.in_ok-kind.ensures.gives in
    let text = rw c.in-Some.is at c.in_ok-kind.ensures.text in
    omega (arith, piece_narrower (chars c.pieces.rest.now) _ gives, width_is c.pieces.rest.now c.pieces.invariant.utf8, width_is c.in-Some.after.now text)

pub pieces-smaller : goal.pieces-smaller
pieces-smaller c = let gives = rw c.in-Some.is at c.in_ok-kind.ensures.gives in piece_shorter (chars c.pieces.rest.now) _ gives

pub pieces-preserved : goal.pieces-preserved
pieces-preserved c =
    let gives = rw c.in-Some.is at c.in_ok-kind.ensures.gives in
    let text = rw c.in-Some.is at c.in_ok-kind.ensures.text in
    let whole_is = width_is c.args.text.now c.utf8.text in
    let rest_is = width_is c.pieces.rest.now c.pieces.invariant.utf8 in
    let after_is = width_is c.in-Some.after.now text in
    record {
      utf8 = text;
      has = Has-more _ _ _ _ c.in-Some.kind _ (length c.args.text.now - length c.pieces.rest.now) (length c.args.text.now - length c.in-Some.after.now) c.pieces.invariant.has gives (rw (whole_is, rest_is) refl) (rw (whole_is, after_is) refl) c.in_ok-push_token.ensures.ok;
      within = omega (arith, piece_narrower (chars c.pieces.rest.now) _ gives);
    }

pub returns-clause-tokens : goal.returns-clause-tokens
returns-clause-tokens c = let gives = rw c.in_default.is at c.in_ok-kind.ensures.gives in Has-read _ _ _ c.pieces.invariant.has gives

pub returns-clause-spans : goal.returns-clause-spans
returns-clause-spans c = let gives = rw c.in_default.is at c.in_ok-kind.ensures.gives in
    rw (Has-read _ _ _ c.pieces.invariant.has gives) (tokens_fit c.args.text.now c.utf8.text)
