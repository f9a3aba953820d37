-- The spans of the tokens of a text are in order, and each is its slice.
use Rattle.std.proofs.Common.{◌≡◌, ℕ, true, ◌-◌, ◌≤◌, List, [], ◌∷◌, ◌++◌, length, drop, Option, Some, None, refl, sym, ap, ◌∙◌, arith}
use Rattle.std.specs.Str.{chars, IsUtf8, IsCharBoundary, encode_utf8_all}
use Rattle.std.proofs.lemmas.List.{length-append}
use Rattle.std.proofs.lemmas.Str.{scalars-chars, encodes-chars, encodes-append, IsCharBoundary-at_seam, chars-encodes}
use lib.Utf8.{scalars}
use Rattle.std.proofs.lemmas.Bool.{and_parts}
use Rattle.reading.specs.Reading.{◌then◌, ◌otherwise◌}
use Rattle.reading.proofs.Runs.{Run, stop, more}
use Rattle.reading.proofs.Following.{Follows, here, later, Follows-trans, Follows-front, takes_follows, run_Run}
use Rattle.css_tokens.specs.Spans.{AreSpans}
use Rattle.css_tokens.specs.Tokens.{token_at, comment_at, piece_at, placed_at, Piece, token_from, tokens_of, tokens, width}
use Rattle.css_tokens.specs.declared.token.TokenKind.{TokenKind}
use Rattle.css_tokens.specs.declared.token.Token.{Token}
use Rattle.css_tokens.proofs.Placing.{width_is, Follows-width}
use Rattle.css_tokens.proofs.Shortening.{piece_takes, placed_takes}

scalars_follow : {whole cs : List ℕ} → Follows whole cs → scalars whole ≡ true → scalars cs ≡ true
scalars_follow here e = e
scalars_follow (later c {whole = mid} p) e = scalars_follow p (and_parts _ (scalars mid) e).1

drop-front : (front back : List ℕ) → drop (length front) (front ++ back) ≡ back
drop-front [] back = refl
drop-front (c ∷ front) back = drop-front front back

abbrev some_piece : Piece × List ℕ → Option (Piece × List ℕ)
some_piece x = Some x

abbrev some_read : Option TokenKind × List ℕ → Option (Option TokenKind × List ℕ)
some_read x = Some x

-- a piece that is a token was read as one
token_is : (cs mid : List ℕ) (k : TokenKind) → piece_at cs ≡ Some (Some k, mid) → token_at cs ≡ Some (k, mid)
unfolding piece_at
token_is cs mid k e = go (comment_at cs) (token_at cs) e
  where
    go : (o : Option (List ℕ)) (t : Option (TokenKind × List ℕ)) → ((o then λ rest. some_read (None, rest)) otherwise (t then λ read. some_read (Some read.0, read.1))) ≡ some_read (Some k, mid) → t ≡ Some (k, mid)
    go (Some rest) t e = let same : ◌≡◌ {A = Option TokenKind × List ℕ} (None, rest) (Some k, mid) = cc in absurd (let kinds : ◌≡◌ {A = Option TokenKind} None (Some k) = ap (λ (x : Option TokenKind × List ℕ). x.0) same in cc)
    go None (Some read) e =
        let same : ◌≡◌ {A = Option TokenKind × List ℕ} (Some read.0, read.1) (Some k, mid) = cc in
        let kinds : Some read.0 ≡ Some k = ap (λ (x : Option TokenKind × List ℕ). x.0) same in
        let kind_is : read.0 ≡ k = cc in
        let rest_is : read.1 ≡ mid = ap (λ (x : Option TokenKind × List ℕ). x.1) same in
        rw (← kind_is, ← rest_is) refl
    go None None e = absurd cc

module _ (text : List ℕ) (utf8 : IsUtf8 text) where
  abbrev whole : ℕ
  whole = width (chars text)

  -- an end of the characters is the text from a place on ..
  parts : (cs : List ℕ) → Follows (chars text) cs → (front : List ℕ) × (text ≡ front ++ encode_utf8_all cs) × (length front ≡ whole - width cs)
  parts cs p =
      let f = Follows-front p in
      let bytes : text ≡ encode_utf8_all f.0 ++ encode_utf8_all cs = sym (encodes-chars text utf8) ∙ ap encode_utf8_all f.1 ∙ encodes-append f.0 cs in
      (encode_utf8_all f.0, bytes, omega (arith, width_is text utf8, ap length bytes, length-append (encode_utf8_all f.0) (encode_utf8_all cs)))

  -- .. which is a bound of characters
  bound : (cs : List ℕ) → Follows (chars text) cs → IsCharBoundary text (whole - width cs)
  bound cs p = let f = parts cs p in rw (← f.2) (IsCharBoundary-at_seam text f.0 (encode_utf8_all cs) f.1 (cs, (scalars_follow p (scalars-chars text utf8), refl)))

  from : (cs : List ℕ) → Follows (chars text) cs → chars (drop (whole - width cs) text) ≡ cs
  from cs p =
      let f = parts cs p in
      ap chars (rw (← f.2) (ap (λ (t : List ℕ). drop (length f.0) t) f.1 ∙ drop-front f.0 (encode_utf8_all cs))) ∙ chars-encodes cs (scalars_follow p (scalars-chars text utf8))

  spanned : (k : Option TokenKind) (cs mid : List ℕ) (place : ℕ) (more_tokens : List Token) → piece_at cs ≡ Some (k, mid) → Follows (chars text) cs → Follows cs mid → place ≤ whole - width cs
      → ((from : ℕ) → from ≤ whole - width mid → AreSpans text from more_tokens) → AreSpans text place (token_from k (whole - width cs) (whole - width mid) ++ more_tokens)
  spanned None cs mid place more_tokens e p q le go = go place (omega (arith, Follows-width q))
  spanned (Some k) cs mid place more_tokens e p q le go = (
    record {
      from = le;
      forward = omega (arith, Follows-width q);
      within = omega (arith, width_is text utf8);
      starts = bound cs p;
      ends = bound mid (Follows-trans p q);
      slice = rw (from cs p, from mid (Follows-trans p q)) (token_is cs mid k e);
    },
    go (whole - width mid) (omega arith),
  )

  placed_is : (cs mid : List ℕ) (x : Piece) (o : Option (Option TokenKind × List ℕ)) → piece_at cs ≡ o → (o then λ y. some_piece (record { kind = y.0; from = width cs; after = width y.1 }, y.1)) ≡ some_piece (x, mid)
      → (k : Option TokenKind) × (piece_at cs ≡ Some (k, mid)) × (x ≡ record { kind = k; from = width cs; after = width mid })
  placed_is cs mid x None w h = absurd cc
  placed_is cs mid x (Some y) w h =
      let same : (record { kind = y.0; from = width cs; after = width y.1 }, y.1) ≡ (x, mid) = cc in
      let mid_is : y.1 ≡ mid = ap (λ (t : Piece × List ℕ). t.1) same in
      let x_is : record { kind = y.0; from = width cs; after = width y.1 } ≡ x = ap (λ (t : Piece × List ℕ). t.0) same in
      rw (← mid_is) (y.0, w, sym x_is)

  fit : {cs : List ℕ} {pieces : List Piece} {rest : List ℕ} → Run placed_at cs pieces rest → Follows (chars text) cs → (place : ℕ) → place ≤ whole - width cs → AreSpans text place (tokens_of whole pieces)
  unfolding placed_at
  fit (stop e) p place le = tt
  fit (more {whole = cs} x mid {xs = xs} e r) p place le =
      let k = placed_is cs mid x (piece_at cs) refl e in
      let q : Follows cs mid = takes_follows piece_at piece_takes cs _ k.1 in
      rw k.2 (spanned k.0 cs mid place (tokens_of whole xs) k.1 p q le (λ from within. fit r (Follows-trans p q) from within))

  pub tokens_fit : AreSpans text 0 (tokens (chars text))
  unfolding tokens
  tokens_fit = fit (run_Run placed_at placed_takes (chars text)) here 0 (omega arith)
