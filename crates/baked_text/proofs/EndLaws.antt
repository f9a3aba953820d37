-- Ends of texts, as they stand and as they are read.
use Rattle.std.proofs.Common.{◌≡◌, ◌≢◌, ◌<◌, ℕ, Bool, true, false, ◌&&◌, cond, eqb, List, [], ◌∷◌, ◌++◌, length, refl, sym, ap, ◌∙◌, arith}
use Rattle.std.proofs.lemmas.Bool.{and_parts, eqb-true}
use Rattle.std.proofs.lemmas.List.{length-append}
use Rattle.baked_text.proofs.Apart.{reads_nothing}
use Rattle.xhtml_reader.specs.Machinery.LineEnds.{begins_with_line_feed, line_end_left}
use Rattle.xhtml_reader.proofs.Prepares.{first_normalized}
use Rattle.xml_definitions.specs.Normalized.{as_line_feed, with_line_feeds}

-- a text that reads as `/>` is that
solidus : (c : ℕ) → as_line_feed c ≡ 47 → c ≡ 47
solidus c e = go (eqb c 13) e
  where
    go : (b : Bool) → cond b 10 c ≡ 47 → c ≡ 47
    go true h = absurd cc
    go false h = h

greater : (c : ℕ) → as_line_feed c ≡ 62 → c ≡ 62
greater c e = go (eqb c 13) e
  where
    go : (b : Bool) → cond b 10 c ≡ 62 → c ≡ 62
    go true h = absurd cc
    go false h = h

-- the first character that is read comes of the first one, where it isn't a line feed
feed_first : (c : ℕ) (xs : List ℕ) (d : ℕ) (rest : List ℕ) → d ≢ 10 → with_line_feeds (c ∷ xs) ≡ d ∷ rest
    → ((eqb c 13 && begins_with_line_feed xs) ≡ false) × (as_line_feed c ≡ d) × (with_line_feeds xs ≡ rest)
feed_first c xs d rest other e = go (eqb c 13 && begins_with_line_feed xs) refl (sym (first_normalized c xs) ∙ e)
  where
    after_feed : (xs : List ℕ) → begins_with_line_feed xs ≡ true → with_line_feeds xs ≡ d ∷ rest → ⊥
    after_feed [] h k = cc
    after_feed (x ∷ xs) h k =
        let is : x ≡ 10 = eqb-true x 10 h in
        let one : with_line_feeds (x ∷ xs) ≡ 10 ∷ with_line_feeds xs = ap (λ y. with_line_feeds (y ∷ xs)) is ∙ first_normalized 10 xs in
        other cc

    go : (b : Bool) → (eqb c 13 && begins_with_line_feed xs) ≡ b → line_end_left c xs ++ with_line_feeds xs ≡ d ∷ rest
        → ((eqb c 13 && begins_with_line_feed xs) ≡ false) × (as_line_feed c ≡ d) × (with_line_feeds xs ≡ rest)
    go true h k =
        let none : line_end_left c xs ≡ [] = ap (λ b. cond b [] (as_line_feed c ∷ [])) h in
        absurd (after_feed xs (and_parts (eqb c 13) (begins_with_line_feed xs) h).1 (ap (λ t. t ++ with_line_feeds xs) (sym none) ∙ k))
    go false h k =
        let one : line_end_left c xs ≡ as_line_feed c ∷ [] = ap (λ b. cond b [] (as_line_feed c ∷ [])) h in
        let whole : as_line_feed c ∷ with_line_feeds xs ≡ d ∷ rest = ap (λ t. t ++ with_line_feeds xs) (sym one) ∙ k in
        (h, cc, cc)

one_greater : (xs : List ℕ) → with_line_feeds xs ≡ 62 ∷ [] → xs ≡ 62 ∷ []
one_greater [] e = absurd cc
one_greater (c ∷ xs) e =
    let f = feed_first c xs 62 [] (omega arith) e in
    let is = greater c f.1 in
    let none = reads_nothing xs f.2 in
    cc

-- A text that reads as one that ends in `/>` ends so.
pub record Ended (xs front : List ℕ) : Type 0 where
  pub before : List ℕ
  pub parts : xs ≡ before ++ 47 ∷ 62 ∷ []
  pub reads : with_line_feeds before ≡ front

ended_one : (c : ℕ) (xs front : List ℕ) → (more : Ended xs front) → (first : ℕ) → line_end_left c xs ++ with_line_feeds xs ≡ first ∷ (front ++ 47 ∷ 62 ∷ []) → with_line_feeds xs ≡ front ++ 47 ∷ 62 ∷ [] → Ended (c ∷ xs) (first ∷ front)
ended_one c xs front more first whole rest = record {
  before = c ∷ more.before;
  parts = ap (λ t. c ∷ t) more.parts;
  reads = first_normalized c more.before ∙ same more.before more.parts more.reads;
} where
  begins : (before : List ℕ) → begins_with_line_feed (before ++ 47 ∷ 62 ∷ []) ≡ begins_with_line_feed before
  begins [] = refl
  begins (b ∷ before) = refl

  cut : (front rest : List ℕ) (first : ℕ) → front ++ rest ≡ first ∷ rest → front ≡ first ∷ []
  cut [] rest first e = absurd (omega (arith, ap length e))
  cut (a ∷ []) rest first e = cc
  cut (a ∷ b ∷ front) rest first e = absurd (omega (arith, ap length e, length-append front rest))

  same : (before : List ℕ) → xs ≡ before ++ 47 ∷ 62 ∷ [] → with_line_feeds before ≡ front → line_end_left c before ++ with_line_feeds before ≡ first ∷ front
  same before parts reads =
      let left : line_end_left c xs ≡ first ∷ [] = cut (line_end_left c xs) (with_line_feeds xs) first (whole ∙ ap (λ t. first ∷ t) (sym rest)) in
      let alike : line_end_left c before ≡ line_end_left c xs = ap (λ b. cond (eqb c 13 && b) [] (as_line_feed c ∷ [])) (sym (ap begins_with_line_feed parts ∙ begins before)) in
      ap (λ t. t ++ with_line_feeds before) (alike ∙ left) ∙ ap (λ t. first ∷ t) reads

ended_none : (c : ℕ) (xs front : List ℕ) → (more : Ended xs front) → 0 < length front → (eqb c 13 && begins_with_line_feed xs) ≡ true → Ended (c ∷ xs) front
ended_none c xs front more some h = record {
  before = c ∷ more.before;
  parts = ap (λ t. c ∷ t) more.parts;
  reads = first_normalized c more.before ∙ same more.before more.parts more.reads;
} where
  same : (before : List ℕ) → xs ≡ before ++ 47 ∷ 62 ∷ [] → with_line_feeds before ≡ front → line_end_left c before ++ with_line_feeds before ≡ front
  same [] parts reads = absurd (omega (arith, ap length reads))
  same (b ∷ before) parts reads =
      let alike : (eqb c 13 && begins_with_line_feed xs) ≡ (eqb c 13 && eqb b 10) = ap (λ t. eqb c 13 && begins_with_line_feed t) parts in
      ap (λ t. cond t [] (as_line_feed c ∷ []) ++ with_line_feeds (b ∷ before)) (sym alike ∙ h) ∙ reads

pub ended : (xs front : List ℕ) → with_line_feeds xs ≡ front ++ 47 ∷ 62 ∷ [] → Ended xs front
ended [] front e = absurd (omega (arith, ap length e, length-append front (47 ∷ 62 ∷ [])))
ended (c ∷ xs) [] e =
    let f = feed_first c xs 47 (62 ∷ []) (omega arith) e in
    let is = solidus c f.1 in
    let rest = one_greater xs f.2 in
    record { before = []; parts = cc; reads = refl }
ended (c ∷ xs) (first ∷ front) e = go (eqb c 13 && begins_with_line_feed xs) refl (sym (first_normalized c xs) ∙ e) (λ h. ended xs (first ∷ front) h) (λ h. ended xs front h)
  where
    go : (b : Bool) → (eqb c 13 && begins_with_line_feed xs) ≡ b → line_end_left c xs ++ with_line_feeds xs ≡ first ∷ (front ++ 47 ∷ 62 ∷ [])
        → (with_line_feeds xs ≡ first ∷ (front ++ 47 ∷ 62 ∷ []) → Ended xs (first ∷ front)) → (with_line_feeds xs ≡ front ++ 47 ∷ 62 ∷ [] → Ended xs front) → Ended (c ∷ xs) (first ∷ front)
    go true h whole all less =
        let none : line_end_left c xs ≡ [] = ap (λ b. cond b [] (as_line_feed c ∷ [])) h in
        ended_none c xs (first ∷ front) (all (ap (λ t. t ++ with_line_feeds xs) (sym none) ∙ whole)) (omega arith) h
    go false h whole all less =
        let one : line_end_left c xs ≡ as_line_feed c ∷ [] = ap (λ b. cond b [] (as_line_feed c ∷ [])) h in
        let split : as_line_feed c ∷ with_line_feeds xs ≡ first ∷ (front ++ 47 ∷ 62 ∷ []) = ap (λ t. t ++ with_line_feeds xs) (sym one) ∙ whole in
        let rest : with_line_feeds xs ≡ front ++ 47 ∷ 62 ∷ [] = cc in
        ended_one c xs front (less rest) first whole rest
