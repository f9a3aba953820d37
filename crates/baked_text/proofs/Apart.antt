-- Line ends in texts that are put together.
use Rattle.std.proofs.Common.{◌≡◌, ℕ, ◌+◌, ◌≤◌, Bool, true, false, ◌&&◌, cond, eqb, ◌⊎◌, inl, inr, List, [], ◌∷◌, ◌++◌, length, take, drop, refl, sym, ap, ◌∙◌, append_assoc, arith}
use Rattle.std.proofs.lemmas.Grind.{flat_map-append}
use Rattle.std.proofs.lemmas.List.{length-append}
use Rattle.std.proofs.Math.Seq.{drop-append_seam, take-append_seam}
use Rattle.std.specs.List.{flat_map}
use Rattle.bake_definitions.specs.Pieces.{Piece, characters_of, read_of}
use Rattle.xml_definitions.specs.Normalized.{as_line_feed, with_line_feeds}
use Rattle.xhtml_reader.specs.Machinery.LineEnds.{begins_with_line_feed, line_end_left}
use Rattle.xhtml_reader.proofs.Prepares.{first_normalized}

-- no line end is cut between these texts
abbrev pub Joins : List ℕ → List ℕ → Type 0
Joins xs ys = with_line_feeds (xs ++ ys) ≡ with_line_feeds xs ++ with_line_feeds ys

abbrev pub ends_in_return : List ℕ → Bool
ends_in_return [] = false
ends_in_return (c ∷ []) = eqb c 13
ends_in_return (c ∷ d ∷ rest) = ends_in_return (d ∷ rest)

-- a line end of two characters lies in both texts
abbrev pub cuts : List ℕ → List ℕ → Bool
cuts xs ys = ends_in_return xs && begins_with_line_feed ys

pub no_cut : (xs ys : List ℕ) → cuts xs ys ≡ false → Joins xs ys
no_cut [] ys h = refl
no_cut (c ∷ []) ys h = first_normalized c ys ∙ ap (λ b. cond b [] (as_line_feed c ∷ []) ++ with_line_feeds ys) h
no_cut (c ∷ d ∷ xs) ys h =
    first_normalized c (d ∷ (xs ++ ys))
    ∙ ap (λ t. line_end_left c (d ∷ xs) ++ t) (no_cut (d ∷ xs) ys h)
    ∙ sym (append_assoc (line_end_left c (d ∷ xs)) (with_line_feeds (d ∷ xs)) (with_line_feeds ys))
    ∙ ap (λ t. t ++ with_line_feeds ys) (sym (first_normalized c (d ∷ xs)))

pub cut_length : (xs ys : List ℕ) → cuts xs ys ≡ true → length (with_line_feeds (xs ++ ys)) + 1 ≡ length (with_line_feeds xs) + length (with_line_feeds ys)
cut_length [] ys h = absurd cc
cut_length (c ∷ []) ys h =
    let whole : with_line_feeds (c ∷ ys) ≡ with_line_feeds ys = first_normalized c ys ∙ ap (λ b. cond b [] (as_line_feed c ∷ []) ++ with_line_feeds ys) h in
    omega (arith, ap length whole)
cut_length (c ∷ d ∷ xs) ys h =
    let more = cut_length (d ∷ xs) ys h in
    let whole = ap length (first_normalized c (d ∷ (xs ++ ys))) in
    let part = ap length (first_normalized c (d ∷ xs)) in
    let one = length-append (line_end_left c (d ∷ xs)) (with_line_feeds (d ∷ (xs ++ ys))) in
    let other = length-append (line_end_left c (d ∷ xs)) (with_line_feeds (d ∷ xs)) in
    omega (arith, more, whole, part, one, other)

pub joins_or_cut : (xs ys : List ℕ) → Joins xs ys ⊎ (length (with_line_feeds (xs ++ ys)) + 1 ≡ length (with_line_feeds xs) + length (with_line_feeds ys))
joins_or_cut xs ys = go (cuts xs ys) refl
  where
    go : (b : Bool) → cuts xs ys ≡ b → Joins xs ys ⊎ (length (with_line_feeds (xs ++ ys)) + 1 ≡ length (with_line_feeds xs) + length (with_line_feeds ys))
    go true h = inr (cut_length xs ys h)
    go false h = inl (no_cut xs ys h)

pub joins_no_cut : (xs ys : List ℕ) → Joins xs ys → cuts xs ys ≡ false
joins_no_cut xs ys joins = go (cuts xs ys) refl
  where
    go : (b : Bool) → cuts xs ys ≡ b → cuts xs ys ≡ false
    go true h =
        let one = cut_length xs ys h in
        let other = ap length joins in
        let both = length-append (with_line_feeds xs) (with_line_feeds ys) in
        absurd (omega (arith, one, other, both))
    go false h = h

and_false : (a b : Bool) → b ≡ false → (a && b) ≡ false
and_false true b h = h
and_false false b h = refl

-- before a text that begins with another character
pub joins_plain : (xs ys : List ℕ) → begins_with_line_feed ys ≡ false → Joins xs ys
joins_plain xs ys h = no_cut xs ys (and_false (ends_in_return xs) (begins_with_line_feed ys) h)

-- before a text that begins with a line feed only where the other does
pub joins_other : (xs ys zs : List ℕ) → Joins xs ys → (begins_with_line_feed zs ≡ true → begins_with_line_feed ys ≡ true) → Joins xs zs
joins_other xs ys zs joins h = no_cut xs zs (go (begins_with_line_feed zs) refl)
  where
    go : (b : Bool) → begins_with_line_feed zs ≡ b → cuts xs zs ≡ false
    go true e = ap (λ b. ends_in_return xs && b) (e ∙ sym (h e)) ∙ joins_no_cut xs ys joins
    go false e = and_false (ends_in_return xs) (begins_with_line_feed zs) e

-- without the first character
pub joins_tail : (c : ℕ) (xs ys : List ℕ) → Joins (c ∷ xs) ys → Joins xs ys
joins_tail c [] ys joins = refl
joins_tail c (d ∷ xs) ys joins = no_cut (d ∷ xs) ys (joins_no_cut (c ∷ d ∷ xs) ys joins)

pub reads_nothing : (xs : List ℕ) → with_line_feeds xs ≡ [] → xs ≡ []
reads_nothing [] e = refl
reads_nothing (c ∷ []) e = absurd cc
reads_nothing (c ∷ d ∷ xs) e = absurd (no_tail (line_end_left c (d ∷ xs)) (with_line_feeds (d ∷ xs)) (sym (first_normalized c (d ∷ xs)) ∙ e) (λ none. reads_nothing (d ∷ xs) none))
  where
    no_tail : (front rest : List ℕ) → front ++ rest ≡ [] → (rest ≡ [] → d ∷ xs ≡ []) → ⊥
    no_tail [] rest h more = let none = more h in cc
    no_tail (a ∷ front) rest h more = cc

-- Pieces.

read_bound : (ps : List Piece) → length (with_line_feeds (characters_of ps)) ≤ length (flat_map read_of ps)
read_bound [] = omega arith
read_bound (p ∷ ps) =
    let more = read_bound ps in
    let sum = length-append (read_of p) (flat_map read_of ps) in
    elim (joins_or_cut p.characters (characters_of ps)) [
      | inl joins ↦ (let both = length-append (with_line_feeds p.characters) (with_line_feeds (characters_of ps)) in let whole = ap length joins in omega (arith, more, sum, both, whole))
      | inr cut ↦ omega (arith, more, sum, cut)
    ]

-- two lists that end where two others do
pub record SameParts (us bs cs ds : List ℕ) : Type 0 where
  pub first : us ≡ cs
  pub second : bs ≡ ds

same_parts : (us bs cs ds : List ℕ) → us ++ bs ≡ cs ++ ds → length us ≡ length cs → SameParts us bs cs ds
same_parts us bs cs ds e n = record {
  first = sym (take-append_seam us bs) ∙ ap (λ t. take (length us) t) e ∙ ap (λ k. take k (cs ++ ds)) n ∙ take-append_seam cs ds;
  second = sym (drop-append_seam us bs) ∙ ap (λ t. drop (length us) t) e ∙ ap (λ k. drop k (cs ++ ds)) n ∙ drop-append_seam cs ds;
}

-- the pieces of a text in two parts
pub record PartsRead (us bs : List Piece) : Type 0 where
  pub joins : Joins (characters_of us) (characters_of bs)
  pub first : with_line_feeds (characters_of us) ≡ flat_map read_of us
  pub second : with_line_feeds (characters_of bs) ≡ flat_map read_of bs

pub parts_read : (us bs : List Piece) → with_line_feeds (characters_of (us ++ bs)) ≡ flat_map read_of (us ++ bs) → PartsRead us bs
parts_read us bs e =
    let apart : with_line_feeds (characters_of us ++ characters_of bs) ≡ flat_map read_of us ++ flat_map read_of bs =
    ap with_line_feeds (sym (flat_map-append (λ (p : Piece). p.characters) us bs)) ∙ e ∙ flat_map-append read_of us bs in
    let low = read_bound us in
    let high = read_bound bs in
    let sum = length-append (flat_map read_of us) (flat_map read_of bs) in
    let whole = ap length apart in
    elim (joins_or_cut (characters_of us) (characters_of bs)) [
      | inl joins ↦ (
          let both = length-append (with_line_feeds (characters_of us)) (with_line_feeds (characters_of bs)) in
          let parts = ap length joins in
          let same = same_parts (with_line_feeds (characters_of us)) (with_line_feeds (characters_of bs)) (flat_map read_of us) (flat_map read_of bs) (sym joins ∙ apart) (omega (arith, low, high, sum, whole, both, parts)) in
          record { joins = joins; first = same.first; second = same.second })
      | inr cut ↦ absurd (omega (arith, low, high, sum, whole, cut))
    ]
