-- Gathering the source text of an argument, token by token.
use Rattle.std.proofs.Common.{◌≡◌, ℕ, List, [], ◌∷◌, ◌++◌, flat_map, Some, None, refl, sym, ap, ◌∙◌}
use Rattle.std.proofs.lemmas.List.{append-nil}
use Rattle.std.proofs.lemmas.Grind.{flat_map-append}
use Rattle.reading.specs.Reading.{run_at}
use Rattle.reading.proofs.Following.{takes_shorter}
use Rattle.reading.proofs.Runs.{Goes, Goes-start, Goes-more, Goes-read}
use Rattle.css_tokens.specs.declared.token.Token.{Token}
use Rattle.selectors.specs.AnPlusB.{slice, argument_token_at}
use Rattle.selectors.proofs.Shortening.{argument_token_takes}

-- the loop has come to the rest, with the source text of the tokens before it
pub record Sources (text : List ℕ) (whole : List Token) (bytes : List ℕ) (rest : List Token) : Type 0 where
  pub pieces : List Token
  pub goes : Goes argument_token_at whole pieces rest
  pub bytes_are : bytes ≡ flat_map (slice text) pieces

pub Sources-start : (text : List ℕ) (whole : List Token) (bytes : List ℕ) → bytes ≡ [] → Sources text whole bytes whole
Sources-start text whole bytes e = record { pieces = []; goes = Goes-start argument_token_at whole; bytes_are = e }

pub Sources-more : (text : List ℕ) (whole : List Token) (bytes next : List ℕ) (rest : List Token) (t : Token) (after : List Token) → Sources text whole bytes rest → argument_token_at rest ≡ Some (t, after)
    → next ≡ bytes ++ slice text t → Sources text whole next after
Sources-more text whole bytes next rest t after s e n = record {
  pieces = s.pieces ++ t ∷ [];
  goes = Goes-more argument_token_at whole s.pieces rest t after s.goes e;
  bytes_are = n ∙ ap (λ (x : List ℕ). x ++ slice text t) s.bytes_are ∙ sym (flat_map-append (slice text) s.pieces (t ∷ []) ∙ ap (λ (x : List ℕ). flat_map (slice text) s.pieces ++ x) (append-nil (slice text t)));
}

pub Sources-read : (text : List ℕ) (whole : List Token) (bytes : List ℕ) (rest : List Token) → Sources text whole bytes rest → argument_token_at rest ≡ None
    → (bytes ≡ flat_map (slice text) (run_at argument_token_at whole).0) × (rest ≡ (run_at argument_token_at whole).1)
Sources-read text whole bytes rest s e =
    let read = Goes-read argument_token_at (takes_shorter argument_token_at argument_token_takes) whole s.pieces rest s.goes e in
    (rw read s.bytes_are, rw read refl)
