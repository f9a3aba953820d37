-- Each document bakes to a text.
use Rattle.std.proofs.Common.{◌≡◌, ℕ, Bool, true, false, ◌&&◌, cond, eqb, List, [], ◌∷◌, ◌++◌, refl, sym, ap, subst, ◌∙◌}
use Rattle.std.proofs.lemmas.Bool.{and_parts, eqb-true}
use Rattle.bake_definitions.specs.Baked.{Annotated, without_insertions}
use Rattle.bake_definitions.specs.Pieces.{IsMadeOf, Piece, characters_of, mark_of, piece}
use Rattle.bake_definitions.specs.Woven.{IsBaked, at_tags, woven}
use Rattle.baked_text.proofs.Apart.{reads_nothing}
use Rattle.forest.specs.Forest.{Forest}
use Rattle.xhtml_reader.specs.Machinery.LineEnds.{begins_with_line_feed}
use Rattle.xhtml_reader.proofs.Prepares.{first_normalized}
use Rattle.xml_definitions.specs.Items.{ArePieces, Item}
use Rattle.xml_definitions.specs.Normalized.{as_line_feed, with_line_feeds}
use Rattle.reading.specs.Reading.{without_mark}
use Rattle.xml_definitions.specs.Spelling.{Spells}
use Rattle.xml_definitions.specs.Texts.{IsDocumentText}

-- A text, split where what is read of it is.
pub record SplitRead (text first second : List ℕ) : Type 0 where
  pub front : List ℕ
  pub rest : List ℕ
  pub parts : text ≡ front ++ rest
  pub front_reads : with_line_feeds front ≡ first
  pub rest_reads : with_line_feeds rest ≡ second

split_one : (c : ℕ) (text first second : List ℕ) (a : ℕ) → (eqb c 13 && begins_with_line_feed text) ≡ false → with_line_feeds (c ∷ text) ≡ a ∷ (first ++ second)
    → (with_line_feeds text ≡ first ++ second → SplitRead text first second) → SplitRead (c ∷ text) (a ∷ first) second
split_one c text first second a h reads more =
    let one : with_line_feeds (c ∷ text) ≡ as_line_feed c ∷ with_line_feeds text = first_normalized c text ∙ ap (λ b. cond b [] (as_line_feed c ∷ []) ++ with_line_feeds text) h in
    let rest : with_line_feeds text ≡ first ++ second = cc in
    let is : as_line_feed c ≡ a = cc in
    let s = more rest in
    let kept : (eqb c 13 && begins_with_line_feed s.front) ≡ false = still s.front s.rest (ap (λ t. eqb c 13 && begins_with_line_feed t) (sym s.parts) ∙ h) in
    record {
      front = c ∷ s.front;
      rest = s.rest;
      parts = ap (λ t. c ∷ t) s.parts;
      front_reads = first_normalized c s.front ∙ ap (λ b. cond b [] (as_line_feed c ∷ []) ++ with_line_feeds s.front) kept ∙ ap (λ d. d ∷ with_line_feeds s.front) is ∙ ap (λ t. a ∷ t) s.front_reads;
      rest_reads = s.rest_reads;
    }
  where
    never : (b : Bool) → (b && false) ≡ false
    never true = refl
    never false = refl

    still : (front rest : List ℕ) → (eqb c 13 && begins_with_line_feed (front ++ rest)) ≡ false → (eqb c 13 && begins_with_line_feed front) ≡ false
    still [] rest k = never (eqb c 13)
    still (d ∷ front) rest k = k

split_two : (c d : ℕ) (text first second : List ℕ) (a : ℕ) → (eqb c 13 && eqb d 10) ≡ true → with_line_feeds (c ∷ d ∷ text) ≡ a ∷ (first ++ second)
    → (with_line_feeds text ≡ first ++ second → SplitRead text first second) → SplitRead (c ∷ d ∷ text) (a ∷ first) second
split_two c d text first second a h reads more =
    let feed : d ≡ 10 = eqb-true d 10 (and_parts (eqb c 13) (eqb d 10) h).1 in
    let two : (t : List ℕ) → with_line_feeds (c ∷ d ∷ t) ≡ 10 ∷ with_line_feeds t =
    λ t. first_normalized c (d ∷ t) ∙ ap (λ b. cond b [] (as_line_feed c ∷ []) ++ with_line_feeds (d ∷ t)) h ∙ ap (λ e. with_line_feeds (e ∷ t)) feed ∙ first_normalized 10 t in
    let whole = two text in
    let rest : with_line_feeds text ≡ first ++ second = cc in
    let is : 10 ≡ a = cc in
    let s = more rest in
    record {
      front = c ∷ d ∷ s.front;
      rest = s.rest;
      parts = ap (λ t. c ∷ d ∷ t) s.parts;
      front_reads = two s.front ∙ ap (λ e. e ∷ with_line_feeds s.front) is ∙ ap (λ t. a ∷ t) s.front_reads;
      rest_reads = s.rest_reads;
    }

split_read : (first second text : List ℕ) → with_line_feeds text ≡ first ++ second → SplitRead text first second
split_read [] second text reads = record { front = []; rest = text; parts = refl; front_reads = refl; rest_reads = reads }
split_read (a ∷ first) second [] reads = absurd cc
split_read (a ∷ first) second (c ∷ []) reads = split_one c [] first second a (never (eqb c 13)) reads (λ rest. split_read first second [] rest)
  where
    never : (b : Bool) → (b && false) ≡ false
    never true = refl
    never false = refl
split_read (a ∷ first) second (c ∷ d ∷ text) reads = go (eqb c 13 && eqb d 10) refl (λ t rest. split_read first second t rest)
  where
    go : (b : Bool) → (eqb c 13 && eqb d 10) ≡ b → ((t : List ℕ) → with_line_feeds t ≡ first ++ second → SplitRead t first second) → SplitRead (c ∷ d ∷ text) (a ∷ first) second
    go true h more = split_two c d text first second a h reads (more text)
    go false h more = split_one c (d ∷ text) first second a h reads (more (d ∷ text))

-- The pieces of a text.
pub record SomePieces (text : List ℕ) : Type 0 where
  pub pieces : List Piece
  pub made_of : IsMadeOf text pieces

pub some_pieces : (items : List Item) (text : List ℕ) → ArePieces Spells (with_line_feeds text) items → SomePieces text
some_pieces [] text e = record { pieces = []; made_of = record { text_is = sym (reads_nothing text e); apart = e; spelled = tt } }
some_pieces (item ∷ items) text p =
    let s = split_read p.0 p.1 text p.4 in
    let more = some_pieces items s.rest (subst (λ t. ArePieces Spells t items) (sym s.rest_reads) p.3) in
    record {
      pieces = piece s.front item ∷ more.pieces;
      made_of = record {
        text_is = ap (λ t. s.front ++ t) more.made_of.text_is ∙ sym s.parts;
        apart = p.4 ∙ ap (λ t. t ++ p.1) (sym s.front_reads) ∙ ap (λ t. with_line_feeds s.front ++ t) (sym s.rest_reads ∙ more.made_of.apart);
        spelled = (subst (λ t. Spells t item) (sym s.front_reads) p.2, more.made_of.spelled);
      };
    }

pub some_baked : (text : List ℕ) (annotated : Forest Annotated) → IsDocumentText text (without_insertions annotated) → (output : List ℕ) × IsBaked text annotated output
some_baked text annotated is =
    let s = some_pieces is.items (without_mark text) is.spelled in
    (mark_of text ++ characters_of (woven s.pieces (at_tags annotated)), record { pieces = s.pieces; made_of = s.made_of; output_is = refl })
