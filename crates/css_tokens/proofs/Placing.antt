-- The places of tokens.
use Rattle.std.proofs.Common.{◌≡◌, ℕ, ◌-◌, ◌<◌, ◌≤◌, List, [], ◌∷◌, ◌++◌, length, Option, Some, None, refl, sym, ap, ◌∙◌, append_assoc, arith}
use Rattle.std.specs.Str.{chars, IsUtf8, encode_utf8_all}
use Rattle.std.proofs.lemmas.List.{length-append, append-nil}
use Rattle.std.proofs.lemmas.Str.{encodes-chars, encodes-append}
use Rattle.reading.proofs.Runs.{Goes, Goes-start, Goes-more, Goes-read}
use Rattle.reading.proofs.Following.{Follows, here, later, takes_shorter, takes_follows}
use Rattle.css_tokens.specs.Tokens.{piece_at, placed_at, Piece, token_from, tokens_of, tokens, width}
use Rattle.css_tokens.specs.declared.token.TokenKind.{TokenKind}
use Rattle.css_tokens.specs.declared.token.Token.{Token}
use Rattle.css_tokens.proofs.Shortening.{piece_takes, placed_takes}

pub width_is : (bytes : List ℕ) → IsUtf8 bytes → width (chars bytes) ≡ length bytes
width_is bytes utf8 = ap length (encodes-chars bytes utf8)

pub Follows-width : {cs rest : List ℕ} → Follows cs rest → width rest ≤ width cs
Follows-width here = omega arith
Follows-width (later c {whole = cs} p) = omega (arith, Follows-width p, ap length (encodes-append (c ∷ []) cs), length-append (encode_utf8_all (c ∷ [])) (encode_utf8_all cs))

pub piece_shorter : (cs : List ℕ) (x : Option TokenKind × List ℕ) → piece_at cs ≡ Some x → length x.1 < length cs
piece_shorter = takes_shorter piece_at piece_takes

pub piece_narrower : (cs : List ℕ) (x : Option TokenKind × List ℕ) → piece_at cs ≡ Some x → width x.1 ≤ width cs
piece_narrower cs x e = Follows-width (takes_follows piece_at piece_takes cs x e)

-- the loop has come to the rest, with these tokens
pub record Has (whole : List ℕ) (found : List Token) (rest : List ℕ) : Type 0 where
  pub pieces : List Piece
  pub goes : Goes placed_at whole pieces rest
  pub found_is : found ≡ tokens_of (width whole) pieces

tokens_of-push : (all : ℕ) (pieces : List Piece) (p : Piece) → tokens_of all (pieces ++ p ∷ []) ≡ tokens_of all pieces ++ token_from p.kind (all - p.from) (all - p.after)
tokens_of-push all [] p = append-nil (token_from p.kind (all - p.from) (all - p.after))
tokens_of-push all (x ∷ xs) p = ap (λ (u : List Token). token_from x.kind (all - x.from) (all - x.after) ++ u) (tokens_of-push all xs p) ∙ sym (append_assoc (token_from x.kind (all - x.from) (all - x.after)) (tokens_of all xs) _)

pub Has-start : (whole : List ℕ) → Has whole [] whole
Has-start whole = record { pieces = []; goes = Goes-start placed_at whole; found_is = refl }

pub Has-more : (whole : List ℕ) (found next : List Token) (rest : List ℕ) (k : Option TokenKind) (after : List ℕ) (start end : ℕ) → Has whole found rest → piece_at rest ≡ Some (k, after)
    → start ≡ width whole - width rest → end ≡ width whole - width after → next ≡ found ++ token_from k start end → Has whole next after
unfolding placed_at
Has-more whole found next rest k after start end h e s t n =
    let p : Piece = record { kind = k; from = width rest; after = width after } in
    record {
      pieces = h.pieces ++ p ∷ [];
      goes = Goes-more placed_at whole h.pieces rest p after h.goes (rw e refl);
      found_is = n ∙ rw (s, t, h.found_is) (sym (tokens_of-push (width whole) h.pieces p));
    }

pub Has-read : (whole : List ℕ) (found : List Token) (rest : List ℕ) → Has whole found rest → piece_at rest ≡ None → found ≡ tokens whole
unfolding tokens placed_at
Has-read whole found rest h e = let read = Goes-read placed_at (takes_shorter placed_at placed_takes) whole h.pieces rest h.goes (rw e refl) in h.found_is ∙ rw read refl
