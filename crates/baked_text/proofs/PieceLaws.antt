-- The pieces of a text, one after the other.
use Rattle.std.proofs.Common.{◌≡◌, ℕ, ◌<◌, ◌+◌, true, List, [], ◌∷◌, ◌++◌, length, drop, refl, sym, ap, ◌∙◌, append_assoc, arith}
use Rattle.std.proofs.lemmas.Bool.{and_parts}
use Rattle.std.proofs.lemmas.Grind.{flat_map-append}
use Rattle.std.proofs.lemmas.List.{append_cancel_right}
use Rattle.std.specs.List.{flat_map, list_all}
use Rattle.bake_definitions.specs.Pieces.{AreSpelled, IsMadeOf, Piece, characters_of, read_of}
use Rattle.bake_definitions.specs.Woven.{at_piece, tags_in, woven}
use Rattle.baked_text.proofs.Apart.{Joins, parts_read}
use Rattle.baked_text.specs.Machinery.{SplitsAs, tags_among}
use Rattle.xhtml_items.proofs.ItemLaws.{same_first}
use Rattle.xhtml_items.specs.FirstItem.{BeginsWithNone}
use Rattle.xml_definitions.specs.Characters.{is_plain}
use Rattle.xml_definitions.specs.Items.{Item, plain_character}
use Rattle.xml_definitions.specs.Normalized.{with_line_feeds}
use Rattle.xml_definitions.specs.Spelling.{Spells}

pub spelled_parts : (us bs : List Piece) → AreSpelled (us ++ bs) → AreSpelled us × AreSpelled bs
spelled_parts [] bs s = (tt, s)
spelled_parts (a ∷ us) bs s = let more = spelled_parts us bs s.1 in ((s.0, more.0), more.1)

-- A text in two parts, between two of its pieces.
pub record Parted (text : List ℕ) (us bs : List Piece) : Type 0 where
  pub parts : text ≡ characters_of us ++ characters_of bs
  pub joins : Joins (characters_of us) (characters_of bs)
  pub reads : with_line_feeds (characters_of us) ≡ flat_map read_of us
  pub made_of : IsMadeOf (characters_of bs) bs

pub parted : (text : List ℕ) (us bs : List Piece) → IsMadeOf text (us ++ bs) → Parted text us bs
parted text us bs made =
    let read = parts_read us bs (ap with_line_feeds made.text_is ∙ made.apart) in
    record {
      parts = sym made.text_is ∙ flat_map-append (λ (p : Piece). p.characters) us bs;
      joins = read.joins;
      reads = read.first;
      made_of = record { text_is = refl; apart = read.second; spelled = (spelled_parts us bs made.spelled).1 };
    }

-- what a text is split into between two of its pieces
pub split_there : (text : List ℕ) (us bs : List Piece) (read first second : List ℕ) → IsMadeOf text (us ++ bs) → flat_map read_of us ≡ read → SplitsAs text read first second
    → (first ≡ characters_of us) × (second ≡ characters_of bs)
split_there text us bs read first second made is splits =
    let p = parted text us bs made in splits (characters_of us) (characters_of bs) p.parts p.joins (p.reads ∙ is)

-- The first piece is the first item that is read.

pub record First (item : Item) (front after : List ℕ) (pieces : List Piece) : Type 0 where
  pub first : Piece
  pub more : List Piece
  pub pieces_are : pieces ≡ first ∷ more
  pub item_is : item ≡ first.item
  pub front_is : front ≡ read_of first
  pub after_is : after ≡ flat_map read_of more

pub first_piece : (rest : List ℕ) (item : Item) (front after : List ℕ) (pieces : List Piece) → 0 < length rest → rest ≡ flat_map read_of pieces → AreSpelled pieces
    → Spells front item → rest ≡ front ++ after → First item front after pieces
first_piece rest item front after [] some reads spelled is parts = absurd (omega (arith, ap length reads))
first_piece rest item front after (p ∷ pieces) some reads spelled is parts =
    let same = same_first item p.item front after (read_of p) (flat_map read_of pieces) is spelled.0 (sym parts ∙ reads) in
    record {
      first = p;
      more = pieces;
      pieces_are = refl;
      item_is = same.0;
      front_is = append_cancel_right front (read_of p) after (sym parts ∙ reads ∙ ap (λ t. read_of p ++ t) (sym same.1));
      after_is = same.1;
    }

-- a text in which no item stands at the front has no pieces
pub no_piece : (rest : List ℕ) (pieces : List Piece) → 0 < length rest → rest ≡ flat_map read_of pieces → AreSpelled pieces → BeginsWithNone rest → ⊥
no_piece rest [] some reads spelled none = omega (arith, ap length reads)
no_piece rest (p ∷ pieces) some reads spelled none = none p.item (flat_map read_of pieces) (record { front = read_of p; spelled = spelled.0; parts = reads })

-- A run of plain characters is so many pieces, at which nothing is put in.

pub record Run (run : List ℕ) (after : List ℕ) (puts : List (List Piece)) (pieces : List Piece) : Type 0 where
  pub first : List Piece
  pub more : List Piece
  pub pieces_are : pieces ≡ first ++ more
  pub run_is : flat_map read_of first ≡ run
  pub after_is : after ≡ flat_map read_of more
  pub weaves : characters_of (woven pieces puts) ≡ characters_of first ++ characters_of (woven more puts)
  pub counts : tags_among pieces ≡ tags_among more

plain_weaves : (p : Piece) (c : ℕ) (pieces : List Piece) (puts : List (List Piece)) → plain_character c ≡ p.item
    → characters_of (woven (p ∷ pieces) puts) ≡ p.characters ++ characters_of (woven pieces puts)
plain_weaves p c pieces puts e = ap (λ i. characters_of (at_piece i p puts ++ woven pieces (drop (tags_in i) puts))) (sym e)

none_more : (n : ℕ) → 0 + n ≡ n
none_more n = omega arith

pub run_pieces : (run after : List ℕ) (puts : List (List Piece)) (pieces : List Piece) → list_all is_plain run ≡ true → run ++ after ≡ flat_map read_of pieces → AreSpelled pieces → Run run after puts pieces
run_pieces [] after puts pieces plain reads spelled = record { first = []; more = pieces; pieces_are = refl; run_is = refl; after_is = reads; weaves = refl; counts = refl }
run_pieces (c ∷ run) after puts [] plain reads spelled = absurd cc
run_pieces (c ∷ run) after puts (p ∷ pieces) plain reads spelled =
    let test = and_parts (is_plain c) (list_all is_plain run) plain in
    let same = same_first (plain_character c) p.item (c ∷ []) (run ++ after) (read_of p) (flat_map read_of pieces) (test.0, refl) spelled.0 reads in
    let one : c ∷ [] ≡ read_of p = append_cancel_right (c ∷ []) (read_of p) (run ++ after) (reads ∙ ap (λ t. read_of p ++ t) (sym same.1)) in
    let more = run_pieces run after puts pieces test.1 same.1 spelled.1 in
    record {
      first = p ∷ more.first;
      more = more.more;
      pieces_are = ap (λ t. p ∷ t) more.pieces_are;
      run_is = ap (λ t. t ++ flat_map read_of more.first) (sym one) ∙ ap (λ t. c ∷ t) more.run_is;
      after_is = more.after_is;
      counts = ap (λ i. tags_in i + tags_among pieces) (sym same.0) ∙ none_more (tags_among pieces) ∙ more.counts;
      weaves = plain_weaves p c pieces puts same.0 ∙ ap (λ t. p.characters ++ t) more.weaves ∙ sym (append_assoc p.characters (characters_of more.first) (characters_of (woven more.more puts)));
    }
