-- The loop over the items of a text: what went out, and what is left.
use Rattle.std.proofs.Common.{◌≡◌, ◌≢◌, ℕ, ◌+◌, ◌-◌, ◌^◌, ◌<◌, eqb, min, true, false, List, [], ◌∷◌, ◌++◌, Option, Some, None, length, take, drop, map, refl, sym, ap, subst, ◌∙◌, append_assoc, append-nil, arith, encode_utf8_all}
use Rattle.std.proofs.lemmas.List.{append_cancel_right, length-append, length-drop}
use Rattle.std.specs.Borrow.{Bor}
use Rattle.std.specs.List.{flat_map, list_all}
use Rattle.std.specs.Prelude.{IfSome, MatchOption}
use Rattle.std.specs.Str.{IsUtf8, chars}
use Rattle.bake_definitions.specs.Pieces.{IsMadeOf, Piece, read_of}
use Rattle.bake_definitions.specs.Tags.{Tag}
use Rattle.bake_definitions.specs.Woven.{tags_in}
use Rattle.baked_text.proofs.ItemWriting.{item_text, woven_first}
use Rattle.baked_text.proofs.OutLemmas.{stops_first, stops_then, went_then}
use Rattle.baked_text.proofs.PieceLaws.{first_piece, no_piece, parted, run_pieces, split_there}
use Rattle.baked_text.proofs.SpanLemmas.{span_passes, span_whole}
use Rattle.baked_text.proofs.TagLaws.{left_out_past}
use Rattle.baked_text.specs.Machinery.{IsPiece, IsRead, SplitsAs, left_out_on, pieces_at, tags_among, woven_text}
use Rattle.baked_text.specs.Walks.{saturated}
use Rattle.ports.proofs.GrownLemmas.{front_same, front_whole, grown-nil}
use Rattle.ports.specs.Grown.{grown, GrowsByFront}
use Rattle.reading.specs.Reading.{span}
use Rattle.xhtml_items.proofs.ItemLaws.{item_filled}
use Rattle.xhtml_items.specs.FirstItem.{BeginsWith, BeginsWithNone}
use Rattle.xhtml_items.specs.Tokens.{item_of}
use Rattle.xhtml_items.specs.declared.token.Token.{Token}
use Rattle.xhtml_reader.proofs.Texts.{full_chars}
use Rattle.xml_definitions.specs.Characters.{is_plain}
use Rattle.xml_definitions.specs.Items.{Item}
use Rattle.xml_definitions.specs.Normalized.{with_line_feeds}

-- where the loop is in these pieces: the rest stands like this in the file, and reads like this
pub record Reached (pieces : List Piece) (all tags : List Tag) (before now : Option (List ℕ)) (kept rest : List ℕ) (left_out : ℕ) : Type 0 where
  pub front : List ℕ
  pub more : List Piece
  pub read : IsRead kept rest more
  pub went_out : now ≡ grown before (encode_utf8_all front)
  pub to_do : front ++ woven_text more tags ≡ woven_text pieces all
  pub even : length all ≡ tags_among pieces → length tags ≡ tags_among more
  pub number : ℕ
  pub saturates : left_out ≡ saturated number
  pub counted : number + left_out_on tags ≡ left_out_on all

-- in any pieces of the text
abbrev pub ReachedIn : List ℕ → List ℕ → List Tag → List Tag → Option (List ℕ) → Option (List ℕ) → List ℕ → List ℕ → ℕ → Type 0
ReachedIn text read all tags before now kept rest left_out = (pieces : List Piece) → IsRead text read pieces → Reached pieces all tags before now kept rest left_out

pub reached_first : (kept read : List ℕ) (tags : List Tag) (before : Option (List ℕ)) → ReachedIn kept read tags tags before before kept read 0
reached_first kept read tags before pieces is = record {
  front = [];
  more = pieces;
  read = is;
  went_out = grown-nil before;
  to_do = refl;
  even = λ e. e;
  number = 0;
  saturates = refl;
  counted = omega arith;
}

-- the rest, as the pieces read
rest_reads : (kept rest : List ℕ) (more : List Piece) → IsRead kept rest more → rest ≡ flat_map read_of more
rest_reads kept rest more is = sym is.read_is ∙ is.made_of.apart

-- A run of plain characters.

pub record RunPassed (kept rest run after first second : List ℕ) (tags : List Tag) (more : List Piece) : Type 0 where
  pub others : List Piece
  pub read : IsRead second after others
  pub weaves : woven_text more tags ≡ first ++ woven_text others tags
  pub counts : tags_among more ≡ tags_among others

run_passed : (kept rest run after first second : List ℕ) (tags : List Tag) (more : List Piece) → IsRead kept rest more → list_all is_plain run ≡ true → run ++ after ≡ rest → SplitsAs kept run first second
    → RunPassed kept rest run after first second tags more
run_passed kept rest run after first second tags more is plain parts splits =
    let r = run_pieces run after (map pieces_at tags) more plain (parts ∙ rest_reads kept rest more is) is.made_of.spelled in
    let made = subst (λ t. IsMadeOf kept t) r.pieces_are is.made_of in
    let cut = split_there kept r.first r.more run first second made r.run_is splits in
    let p = parted kept r.first r.more made in
    record {
      others = r.more;
      read = record {
        made_of = subst (λ t. IsMadeOf t r.more) (sym cut.1) p.made_of;
        read_is = ap with_line_feeds cut.1 ∙ p.made_of.apart ∙ sym r.after_is;
      };
      weaves = r.weaves ∙ ap (λ t. t ++ woven_text r.more tags) (sym cut.0);
      counts = r.counts;
    }

module _ (text read : List ℕ) (all tags : List Tag) (before now : Option (List ℕ)) (kept rest : List ℕ) (left_out : ℕ) (reached : ReachedIn text read all tags before now kept rest left_out) where
  -- the run went out
  pub reached_run : (run after first second : List ℕ) (next : Option (List ℕ)) → list_all is_plain run ≡ true → run ++ after ≡ rest → SplitsAs kept run first second → next ≡ grown now (encode_utf8_all first)
      → ReachedIn text read all tags before next second after left_out
  reached_run run after first second next plain parts splits grew pieces is =
      let at = reached pieces is in
      let r = run_passed kept rest run after first second tags at.more at.read plain parts splits in
      record {
        front = at.front ++ first;
        more = r.others;
        read = r.read;
        went_out = went_then before now next at.front first at.went_out grew;
        to_do = append_assoc at.front first (woven_text r.others tags) ∙ ap (λ t. at.front ++ t) (sym r.weaves) ∙ at.to_do;
        even = λ e. at.even e ∙ r.counts;
        number = at.number;
        saturates = at.saturates;
        counted = at.counted;
      }

  -- a front of it went out
  pub stops_run : (run after first second : List ℕ) (next : Option (List ℕ)) → list_all is_plain run ≡ true → run ++ after ≡ rest → SplitsAs kept run first second → GrowsByFront now next (encode_utf8_all first)
      → (pieces : List Piece) → IsRead text read pieces → GrowsByFront before next (encode_utf8_all (woven_text pieces all))
  stops_run run after first second next plain parts splits grows pieces is =
      let at = reached pieces is in
      let r = run_passed kept rest run after first second tags at.more at.read plain parts splits in
      front_same (ap encode_utf8_all (ap (λ t. at.front ++ t) (sym r.weaves) ∙ at.to_do))
      (stops_then before now next at.front (first ++ woven_text r.others tags) at.went_out (stops_first now next first (woven_text r.others tags) grows))

  -- nothing more goes out
  pub stops_here : (pieces : List Piece) → IsRead text read pieces → GrowsByFront before now (encode_utf8_all (woven_text pieces all))
  stops_here pieces is =
      let at = reached pieces is in
      front_same (ap encode_utf8_all at.to_do) (stops_first before now at.front (woven_text at.more tags) (front_whole before now _ at.went_out))

-- An item.

pub record NextItem (item : Item) (after first second : List ℕ) (more : List Piece) : Type 0 where
  pub p : Piece
  pub others : List Piece
  pub more_is : more ≡ p ∷ others
  pub is : IsPiece item first p
  pub read : IsRead second after others

next_item : (kept rest front after first second : List ℕ) (item : Item) (more : List Piece) → IsRead kept rest more → BeginsWith rest item after → front ++ after ≡ rest → SplitsAs kept front first second
    → NextItem item after first second more
next_item kept rest front after first second item more is begins parts splits =
    let same : front ≡ begins.front = append_cancel_right front begins.front after (parts ∙ begins.parts) in
    let filled = item_filled item begins.front begins.spelled in
    let f = first_piece rest item begins.front after more (omega (arith, filled, ap length begins.parts, length-append begins.front after)) (rest_reads kept rest more is) is.made_of.spelled begins.spelled begins.parts in
    let made = subst (λ t. IsMadeOf kept t) f.pieces_are is.made_of in
    let cut = split_there kept (f.first ∷ []) f.more front first second made (append-nil (read_of f.first) ∙ sym f.front_is ∙ sym same) splits in
    let p = parted kept (f.first ∷ []) f.more made in
    record {
      p = f.first;
      others = f.more;
      more_is = f.pieces_are;
      is = record { item_is = f.item_is; characters_are = sym (append-nil f.first.characters) ∙ sym cut.0; spelled = made.spelled.0 };
      read = record {
        made_of = subst (λ t. IsMadeOf t f.more) (sym cut.1) p.made_of;
        read_is = ap with_line_feeds cut.1 ∙ p.made_of.apart ∙ sym f.after_is;
      };
    }

saturated_more : (a b left_out count next : ℕ) → left_out ≡ saturated a → count ≡ saturated b → next ≡ min (left_out + count) (2 ^ 64 - 1) → next ≡ saturated (a + b)
saturated_more a b left_out count next x y z = omega arith

even_past : (n : ℕ) (tags : List Tag) (others : List Piece) → length tags ≡ n + tags_among others → length (drop n tags) ≡ tags_among others
even_past n tags others e = omega (arith, length-drop n tags)

module _ (text read : List ℕ) (all tags : List Tag) (before now : Option (List ℕ)) (kept rest : List ℕ) (left_out : ℕ) (reached : ReachedIn text read all tags before now kept rest left_out) where
  -- the item went out
  pub reached_item : (front after first second : List ℕ) (item : Item) (next : Option (List ℕ)) (later : List Tag) (count more_left_out : ℕ)
      → BeginsWith rest item after → front ++ after ≡ rest → SplitsAs kept front first second
      → ((p : Piece) → IsPiece item first p → next ≡ grown now (encode_utf8_all (item_text p tags)))
      → later ≡ drop (tags_in item) tags → count ≡ saturated (left_out_on (take (tags_in item) tags)) → more_left_out ≡ min (left_out + count) (2 ^ 64 - 1)
      → ReachedIn text read all later before next second after more_left_out
  reached_item front after first second item next later count more_left_out begins parts splits grew later_is count_is more_is pieces is =
      let at = reached pieces is in
      let n = next_item kept rest front after first second item at.more at.read begins parts splits in
      let weaves : woven_text at.more tags ≡ item_text n.p tags ++ woven_text n.others later =
      ap (λ t. woven_text t tags) n.more_is ∙ woven_first n.p n.others tags ∙ ap (λ i. item_text n.p tags ++ woven_text n.others (drop (tags_in i) tags)) (sym n.is.item_is) ∙ ap (λ t. item_text n.p tags ++ woven_text n.others t) (sym later_is) in
      record {
        front = at.front ++ item_text n.p tags;
        more = n.others;
        read = n.read;
        went_out = went_then before now next at.front (item_text n.p tags) at.went_out (grew n.p n.is);
        to_do = append_assoc at.front (item_text n.p tags) (woven_text n.others later) ∙ ap (λ t. at.front ++ t) (sym weaves) ∙ at.to_do;
        even = λ e. ap length later_is
            ∙ even_past (tags_in item) tags n.others (at.even e ∙ ap tags_among n.more_is ∙ ap (λ i. tags_in i + tags_among n.others) (sym n.is.item_is));
        number = at.number + left_out_on (take (tags_in item) tags);
        saturates = saturated_more at.number (left_out_on (take (tags_in item) tags)) left_out count more_left_out at.saturates count_is more_is;
        counted = omega (arith, at.counted, left_out_past (tags_in item) tags, ap left_out_on later_is);
      }

  -- a front of it went out
  pub stops_item : (front after first second : List ℕ) (item : Item) (next : Option (List ℕ)) → BeginsWith rest item after → front ++ after ≡ rest → SplitsAs kept front first second
      → ((p : Piece) → IsPiece item first p → GrowsByFront now next (encode_utf8_all (item_text p tags)))
      → (pieces : List Piece) → IsRead text read pieces → GrowsByFront before next (encode_utf8_all (woven_text pieces all))
  stops_item front after first second item next begins parts splits grows pieces is =
      let at = reached pieces is in
      let n = next_item kept rest front after first second item at.more at.read begins parts splits in
      let weaves : woven_text at.more tags ≡ item_text n.p tags ++ woven_text n.others (drop (tags_in n.p.item) tags) = ap (λ t. woven_text t tags) n.more_is ∙ woven_first n.p n.others tags in
      front_same (ap encode_utf8_all (ap (λ t. at.front ++ t) (sym weaves) ∙ at.to_do))
      (stops_then before now next at.front (item_text n.p tags ++ woven_text n.others (drop (tags_in n.p.item) tags)) at.went_out
      (stops_first now next (item_text n.p tags) (woven_text n.others (drop (tags_in n.p.item) tags)) (grows n.p n.is)))

  -- there is an item in each text that is left
  pub item_there : 0 < length rest → BeginsWithNone rest → (pieces : List Piece) → IsRead text read pieces → ⊥
  item_there some none pieces is = let at = reached pieces is in no_piece rest at.more some (rest_reads kept rest at.more at.read) at.read.made_of.spelled none

-- The end.

none_left : (kept : List ℕ) (more : List Piece) → IsRead kept [] more → more ≡ []
none_left kept [] is = refl
none_left kept (p ∷ more) is =
    absurd (omega (arith, item_filled p.item (read_of p) is.made_of.spelled.0, ap length (rest_reads kept [] (p ∷ more) is), length-append (read_of p) (flat_map read_of more)))

no_tags : (tags : List Tag) → length tags ≡ 0 → left_out_on tags ≡ 0
no_tags [] e = refl
no_tags (t ∷ tags) e = absurd (omega arith)

module _ (text read : List ℕ) (all tags : List Tag) (before now : Option (List ℕ)) (kept rest : List ℕ) (left_out : ℕ) (reached : ReachedIn text read all tags before now kept rest left_out) (none : rest ≡ []) where
  pub all_went : (pieces : List Piece) → IsRead text read pieces → now ≡ grown before (encode_utf8_all (woven_text pieces all))
  all_went pieces is =
      let at = reached pieces is in
      let end = none_left kept at.more (subst (λ t. IsRead kept t at.more) none at.read) in
      at.went_out ∙ ap (λ t. grown before (encode_utf8_all t)) (sym (append-nil at.front) ∙ ap (λ t. at.front ++ woven_text t tags) (sym end) ∙ at.to_do)

  pub all_counted : (pieces : List Piece) → IsRead text read pieces → length all ≡ tags_among pieces → left_out ≡ saturated (left_out_on all)
  all_counted pieces is even =
      let at = reached pieces is in
      let end = none_left kept at.more (subst (λ t. IsRead kept t at.more) none at.read) in
      let no_more = no_tags tags (at.even even ∙ ap tags_among end) in
      at.saturates ∙ ap saturated (sym (omega_zero at.number) ∙ ap (λ n. at.number + n) (sym no_more) ∙ at.counted)
    where
      omega_zero : (n : ℕ) → n + 0 ≡ n
      omega_zero n = omega arith

-- What the code finds.

pub plain_run : (rest run after : List ℕ) → span is_plain rest ≡ (run, after) → (list_all is_plain run ≡ true) × (run ++ after ≡ rest)
plain_run rest run after is =
    (ap (λ t. list_all is_plain t.0) (sym is) ∙ span_passes is_plain rest, ap (λ t. t.0 ++ t.1) (sym is) ∙ span_whole is_plain rest)

pub run_shorter : (rest run after : List ℕ) → span is_plain rest ≡ (run, after) → 0 < length run → length after < length rest
run_shorter rest run after is some = omega (arith, some, ap length (plain_run rest run after is).1, length-append run after)

pub item_found : (text : List ℕ) (found : Option (Token × Bor (List ℕ))) (x : Token × Bor (List ℕ)) → found ≡ Some x → MatchOption found (BeginsWithNone text) (λ y. BeginsWith text (item_of y.0) (chars y.1.now))
    → BeginsWith text (item_of x.0) (chars x.1.now)
item_found text found x is begins = subst (λ o. MatchOption o (BeginsWithNone text) (λ y. BeginsWith text (item_of y.0) (chars y.1.now))) is begins

pub none_found : (text : List ℕ) (found : Option (Token × Bor (List ℕ))) → found ≡ None → MatchOption found (BeginsWithNone text) (λ y. BeginsWith text (item_of y.0) (chars y.1.now)) → BeginsWithNone text
none_found text found is begins = subst (λ o. MatchOption o (BeginsWithNone text) (λ y. BeginsWith text (item_of y.0) (chars y.1.now))) is begins

pub filled_text : (bytes : List ℕ) → IsUtf8 bytes → eqb (length bytes) 0 ≡ false → 0 < length (chars bytes)
filled_text bytes utf8 some = go (chars bytes) (full_chars bytes utf8 some)
  where
    go : (cs : List ℕ) → cs ≢ [] → 0 < length cs
    go [] other = absurd (other refl)
    go (c ∷ cs) other = omega arith

pub rest_found : (found : Option (Token × Bor (List ℕ))) (x : Token × Bor (List ℕ)) → found ≡ Some x → IfSome found (λ y. IsUtf8 y.1.now) → IsUtf8 x.1.now
rest_found found x is utf8 = subst (λ o. IfSome o (λ (y : Token × Bor (List ℕ)). IsUtf8 y.1.now)) is utf8
