-- Bytes that go out one after another. A function that puts several pieces answers its failing exits by
-- `on_err`, `front_step` for each piece that went out before, and `front_last` for the one that failed.
use Rattle.std.proofs.Common.{◌≡◌, ℕ, List, [], ◌++◌, Option, Result, OnErr, refl, sym, ◌∙◌, ap, subst, append_assoc, append-nil}
use Rattle.std.specs.Prelude.{Some, None, Ok, Err}
use Rattle.ports.specs.Grown.{grown, GrowsByFront}

-- a fact holds at an error too
pub on_err : {T E P : Type 0} (r : Result T E) → P → OnErr r P
on_err (Ok x) p = tt
on_err (Err e) p = p

-- bytes that go out after others
pub grown-grown : (before : Option (List ℕ)) (xs ys : List ℕ) → grown (grown before xs) ys ≡ grown before (xs ++ ys)
grown-grown None xs ys = refl
grown-grown (Some held) xs ys = ap Some (append_assoc held xs ys)

-- nothing went out
pub grown-nil : (before : Option (List ℕ)) → before ≡ grown before []
grown-nil None = refl
grown-nil (Some held) = ap Some (sym (append-nil held))

-- the same, of states with names
pub grown_after : (before now after : Option (List ℕ)) (xs ys : List ℕ)
    → now ≡ grown before xs → after ≡ grown now ys → after ≡ grown before (xs ++ ys)
grown_after before now after xs ys first second = second ∙ ap (λ o. grown o ys) first ∙ grown-grown before xs ys

-- nothing is a front of any bytes
pub front_none : (now : Option (List ℕ)) (bytes : List ℕ) → GrowsByFront now now bytes
front_none now bytes = record { front = []; rest = bytes; parts = refl; went_out = grown-nil now }

-- all of them are a front of them
pub front_whole : (before now : Option (List ℕ)) (bytes : List ℕ) → now ≡ grown before bytes → GrowsByFront before now bytes
front_whole before now bytes written = record { front = bytes; rest = []; parts = append-nil bytes; went_out = written }

-- the same bytes in another form
pub front_same : {before now : Option (List ℕ)} {bytes others : List ℕ}
    → bytes ≡ others → GrowsByFront before now bytes → GrowsByFront before now others
front_same {before} {now} same grows = subst (λ bs. GrowsByFront before now bs) same grows

-- a front of bytes is a front of more bytes
pub front_more : {now after : Option (List ℕ)} {bytes : List ℕ} (rest : List ℕ)
    → GrowsByFront now after bytes → GrowsByFront now after (bytes ++ rest)
front_more rest grows = record {
  front = grows.front;
  rest = grows.rest ++ rest;
  parts = sym (append_assoc grows.front grows.rest rest) ∙ ap (λ bs. bs ++ rest) grows.parts;
  went_out = grows.went_out;
}

-- a piece went out, and then a front of the rest
pub front_step : {before now after : Option (List ℕ)} {bytes piece rest : List ℕ}
    → now ≡ grown before bytes → bytes ≡ piece → GrowsByFront now after rest → GrowsByFront before after (piece ++ rest)
front_step {before} {now} {after} {bytes} {piece} {rest} grew is grows = record {
  front = piece ++ grows.front;
  rest = grows.rest;
  parts = append_assoc piece grows.front grows.rest ∙ ap (λ zs. piece ++ zs) grows.parts;
  went_out = grown_after before _ _ piece grows.front (grew ∙ ap (λ bs. grown before bs) is) grows.went_out;
}

-- a front of the last piece that was tried went out
pub front_last : {now after : Option (List ℕ)} {bytes piece : List ℕ} (rest : List ℕ)
    → GrowsByFront now after bytes → bytes ≡ piece → GrowsByFront now after (piece ++ rest)
front_last {now} {after} rest grows is = subst (λ bs. GrowsByFront now after (bs ++ rest)) is (front_more rest grows)

-- a call that put nothing, after the bytes so far
pub front_so_far : (before middle now : Option (List ℕ)) (xs rest all : List ℕ)
    → middle ≡ grown before xs → now ≡ middle → xs ++ rest ≡ all → GrowsByFront before now all
front_so_far before middle now xs rest all written same parts =
    record { front = xs; rest = rest; parts = parts; went_out = same ∙ written }

-- a call that put a front of its bytes, after the bytes so far
pub front_after : (before middle now : Option (List ℕ)) (xs ys rest all : List ℕ)
    → middle ≡ grown before xs → GrowsByFront middle now ys → (xs ++ ys) ++ rest ≡ all → GrowsByFront before now all
front_after before middle now xs ys rest all written grows parts =
    subst (λ bs. GrowsByFront before now bs) (sym (append_assoc xs ys rest) ∙ parts)
    (front_step written refl (front_last rest grows refl))
