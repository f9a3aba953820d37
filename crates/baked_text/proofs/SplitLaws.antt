-- A text that is split where what is read of it is split.
use Rattle.std.proofs.Common.{◌≡◌, ℕ, ◌-◌, Bool, true, false, ◌&&◌, cond, eqb, nat_eq, List, [], ◌∷◌, ◌++◌, Some, None, length, take, drop, refl, sym, ap, subst, ◌∙◌, append_assoc, append-nil, arith}
use Rattle.std.proofs.Math.Seq.{take-append_seam}
use Rattle.std.proofs.lemmas.Bool.{and_parts, eqb-true}
use Rattle.std.proofs.lemmas.Bool.Decides.{Decides-eqb}
use Rattle.std.proofs.lemmas.List.{append_cancel_left, length-append}
use Rattle.std.proofs.lemmas.Slice.Eq.{starts_is}
use Rattle.std.proofs.lemmas.Str.{IsCharBoundary-from_take, chars-append, encodes-append, encodes-chars}
use Rattle.std.specs.List.{starts_with}
use Rattle.std.specs.Str.{IsCharBoundary, IsUtf8, chars, encode_utf8_all}
use Rattle.baked_text.proofs.Apart.{Joins, joins_no_cut, joins_tail, reads_nothing}
use Rattle.baked_text.specs.Machinery.{SplitsAs, past_first}
use Rattle.reading.specs.Reading.{past_text}
use Rattle.xhtml_items.proofs.Cuts.{Cut, Cut-front, Cut-rest}
use Rattle.xhtml_items.proofs.StepLaws.{past_text_takes}
use Rattle.xhtml_reader.specs.Machinery.LineEnds.{begins_with_line_feed}
use Rattle.xhtml_reader.proofs.Prepares.{first_normalized}
use Rattle.xml_definitions.specs.Normalized.{as_line_feed, with_line_feeds}

-- The first character, or line end.

no_line_end : (c : ℕ) (rest : List ℕ) → eqb c 13 ≡ true → begins_with_line_feed rest ≡ true → past_text (13 ∷ 10 ∷ []) (c ∷ rest) ≡ None → ⊥
no_line_end c [] h k none = absurd cc
no_line_end c (d ∷ rest) h k none = let some : past_text (13 ∷ 10 ∷ []) (c ∷ d ∷ rest) ≡ Some rest = rw (h, k) refl in cc

-- and none stands there
pub past_one : (cs : List ℕ) (c : ℕ) (rest : List ℕ) → past_text (13 ∷ 10 ∷ []) cs ≡ None → cs ≡ c ∷ rest → rest ≡ past_first cs
past_one cs c rest none is = go (eqb c 13 && begins_with_line_feed rest) refl ∙ sym (ap past_first is)
  where
    go : (b : Bool) → (eqb c 13 && begins_with_line_feed rest) ≡ b → rest ≡ past_first (c ∷ rest)
    go true h = (let p = and_parts (eqb c 13) (begins_with_line_feed rest) h in absurd (no_line_end c rest p.0 p.1 (sym (ap (past_text (13 ∷ 10 ∷ [])) is) ∙ none)))
    go false h = sym (ap (λ b. cond b (drop 1 rest) rest) h)

abbrev pub taken_first : List ℕ → List ℕ
taken_first [] = []
taken_first (c ∷ rest) = c ∷ cond (eqb c 13 && begins_with_line_feed rest) (take 1 rest) []

pub first_parts : (cs : List ℕ) → cs ≡ taken_first cs ++ past_first cs
first_parts [] = refl
first_parts (c ∷ rest) = ap (λ t. c ∷ t) (go (eqb c 13 && begins_with_line_feed rest) rest)
  where
    go : (b : Bool) (rest : List ℕ) → rest ≡ cond b (take 1 rest) [] ++ cond b (drop 1 rest) rest
    go true [] = refl
    go true (d ∷ rest) = refl
    go false rest = refl

pub cut_from_chars : (whole front rest : List ℕ) → IsUtf8 whole → IsUtf8 rest → chars whole ≡ front ++ chars rest → Cut whole front rest
cut_from_chars whole front rest whole_utf8 rest_utf8 e = record {
  bytes = encode_utf8_all front;
  parts = sym (encodes-chars whole whole_utf8) ∙ ap encode_utf8_all e ∙ encodes-append front (chars rest) ∙ ap (λ t. encode_utf8_all front ++ t) (encodes-chars rest rest_utf8);
  chars_are = e;
}

-- Splitting. The text is xs and ys, of which xs reads as what was to be read; the loop has come to the rest.

pub record Passed (front rest unread xs ys : List ℕ) : Type 0 where
  pub more : List ℕ
  pub xs_is : xs ≡ front ++ more
  pub rest_is : rest ≡ more ++ ys
  pub joins : Joins more ys
  pub reads : with_line_feeds more ≡ unread

pub passed_none : (xs ys kept read : List ℕ) → kept ≡ xs ++ ys → Joins xs ys → with_line_feeds xs ≡ read → Passed [] kept read xs ys
passed_none xs ys kept read parts joins reads = record { more = xs; xs_is = refl; rest_is = parts; joins = joins; reads = reads }

-- one character of what is read
record Step (first : ℕ) (more ys unread : List ℕ) : Type 0 where
  left : List ℕ
  more_is : first ∷ more ≡ taken_first (first ∷ (more ++ ys)) ++ left
  past_is : past_first (first ∷ (more ++ ys)) ≡ left ++ ys
  joins : Joins left ys
  reads : with_line_feeds left ≡ unread

step_one : (first : ℕ) (more ys unread : List ℕ) (c : ℕ) → (eqb first 13 && begins_with_line_feed (more ++ ys)) ≡ false → (eqb first 13 && begins_with_line_feed more) ≡ false
    → Joins (first ∷ more) ys → with_line_feeds (first ∷ more) ≡ c ∷ unread → Step first more ys unread
step_one first more ys unread c whole part joins reads = record {
  left = more;
  more_is = ap (λ b. (first ∷ cond b (take 1 (more ++ ys)) []) ++ more) (sym whole);
  past_is = ap (λ b. cond b (drop 1 (more ++ ys)) (more ++ ys)) whole;
  joins = joins_tail first more ys joins;
  reads =
      let one : with_line_feeds (first ∷ more) ≡ as_line_feed first ∷ with_line_feeds more =
      first_normalized first more ∙ ap (λ b. cond b [] (as_line_feed first ∷ []) ++ with_line_feeds more) part in
      cc;
}

step_two : (first second : ℕ) (more ys unread : List ℕ) (c : ℕ) → (eqb first 13 && eqb second 10) ≡ true
    → Joins (first ∷ second ∷ more) ys → with_line_feeds (first ∷ second ∷ more) ≡ c ∷ unread → Step first (second ∷ more) ys unread
step_two first second more ys unread c h joins reads = record {
  left = more;
  more_is = ap (λ b. (first ∷ cond b (second ∷ []) []) ++ more) (sym h);
  past_is = ap (λ b. cond b (more ++ ys) (second ∷ (more ++ ys))) h;
  joins = joins_tail second more ys (joins_tail first (second ∷ more) ys joins);
  reads =
      let feed : second ≡ 10 = eqb-true second 10 (and_parts (eqb first 13) (eqb second 10) h).1 in
      let two : with_line_feeds (first ∷ second ∷ more) ≡ with_line_feeds (second ∷ more) =
      first_normalized first (second ∷ more) ∙ ap (λ b. cond b [] (as_line_feed first ∷ []) ++ with_line_feeds (second ∷ more)) h in
      let one : with_line_feeds (second ∷ more) ≡ 10 ∷ with_line_feeds more = ap (λ d. with_line_feeds (d ∷ more)) feed ∙ first_normalized 10 more in
      cc;
}

step : (first : ℕ) (more ys unread : List ℕ) (c : ℕ) → Joins (first ∷ more) ys → with_line_feeds (first ∷ more) ≡ c ∷ unread → Step first more ys unread
step first [] ys unread c joins reads = step_one first [] ys unread c (joins_no_cut (first ∷ []) ys joins) (never (eqb first 13)) joins reads
  where
    never : (b : Bool) → (b && false) ≡ false
    never true = refl
    never false = refl
step first (second ∷ more) ys unread c joins reads = go (eqb first 13 && eqb second 10) refl
  where
    go : (b : Bool) → (eqb first 13 && eqb second 10) ≡ b → Step first (second ∷ more) ys unread
    go true h = step_two first second more ys unread c h joins reads
    go false h = step_one first (second ∷ more) ys unread c h h joins reads

pub passed_more : (front rest : List ℕ) (c : ℕ) (unread xs ys : List ℕ) → Passed front rest (c ∷ unread) xs ys → Passed (front ++ taken_first rest) (past_first rest) unread xs ys
passed_more front rest c unread xs ys passed = go passed.more passed.xs_is passed.rest_is passed.joins passed.reads
  where
    go : (more : List ℕ) → xs ≡ front ++ more → rest ≡ more ++ ys → Joins more ys → with_line_feeds more ≡ c ∷ unread → Passed (front ++ taken_first rest) (past_first rest) unread xs ys
    go [] xs_is rest_is joins reads = absurd cc
    go (first ∷ more) xs_is rest_is joins reads =
        let s = step first more ys unread c joins reads in
        record {
          more = s.left;
          xs_is = xs_is ∙ ap (λ t. front ++ t) (s.more_is ∙ ap (λ t. taken_first t ++ s.left) (sym rest_is)) ∙ sym (append_assoc front (taken_first rest) s.left);
          rest_is = ap past_first rest_is ∙ s.past_is;
          joins = s.joins;
          reads = s.reads;
        }

-- one character more of the front
pub front_more : (whole front rest : List ℕ) → whole ≡ front ++ rest → whole ≡ (front ++ taken_first rest) ++ past_first rest
front_more whole front rest e = e ∙ ap (λ t. front ++ t) (first_parts rest) ∙ sym (append_assoc front (taken_first rest) (past_first rest))

pub passed_all : (front rest xs ys : List ℕ) → Passed front rest [] xs ys → (front ≡ xs) × (rest ≡ ys)
passed_all front rest xs ys passed =
    let none = reads_nothing passed.more passed.reads in
    (sym (append-nil front) ∙ ap (λ t. front ++ t) (sym none) ∙ sym passed.xs_is, passed.rest_is ∙ ap (λ t. t ++ ys) none)

-- The loop.

pub record Splitting (whole read rest unread : List ℕ) : Type 0 where
  pub front : List ℕ
  pub parts : chars whole ≡ front ++ chars rest
  pub passed : (xs ys : List ℕ) → chars whole ≡ xs ++ ys → Joins xs ys → with_line_feeds xs ≡ chars read → Passed front (chars rest) (chars unread) xs ys

pub splitting_none : (whole read : List ℕ) → Splitting whole read whole read
splitting_none whole read = record { front = []; parts = refl; passed = λ xs ys parts joins reads. passed_none xs ys (chars whole) (chars read) parts joins reads }

pub splitting_more : (whole read rest unread after left : List ℕ) (c : ℕ) → Splitting whole read rest unread → chars unread ≡ c ∷ chars left → chars after ≡ past_first (chars rest) → Splitting whole read after left
splitting_more whole read rest unread after left c s is past = record {
  front = s.front ++ taken_first (chars rest);
  parts = front_more (chars whole) s.front (chars rest) s.parts ∙ ap (λ t. (s.front ++ taken_first (chars rest)) ++ t) (sym past);
  passed = λ xs ys parts joins reads.
      subst (λ t. Passed (s.front ++ taken_first (chars rest)) t (chars left) xs ys) (sym past)
      (passed_more s.front (chars rest) c (chars left) xs ys (subst (λ t. Passed s.front (chars rest) t xs ys) is (s.passed xs ys parts joins reads)));
}

pub splitting_all : (whole read rest unread first second : List ℕ) → IsUtf8 whole → IsUtf8 rest → (s : Splitting whole read rest unread) → chars unread ≡ []
    → first ≡ take (length whole - length rest) whole → second ≡ drop (length whole - length rest) whole → SplitsAs (chars whole) (chars read) (chars first) (chars second)
splitting_all whole read rest unread first second whole_utf8 rest_utf8 s none first_is second_is xs ys parts joins reads =
    let cut = cut_from_chars whole s.front rest whole_utf8 rest_utf8 s.parts in
    let all = passed_all s.front (chars rest) xs ys (subst (λ t. Passed s.front (chars rest) t xs ys) none (s.passed xs ys parts joins reads)) in
    (ap chars first_is ∙ Cut-front whole s.front rest cut rest_utf8 whole_utf8 ∙ all.0, ap chars second_is ∙ ap chars (Cut-rest whole s.front rest cut rest_utf8) ∙ all.1)

-- A text that begins with what is to be read.

heads : (a b : ℕ) (xs ys : List ℕ) → a ∷ xs ≡ b ∷ ys → a ≡ b
heads a b xs ys e = cc

fed_head : (xs : List ℕ) → begins_with_line_feed xs ≡ true → (c : ℕ) (more rest : List ℕ) → c ∷ more ≡ with_line_feeds xs ++ rest → c ≡ 10
fed_head [] h c more rest e = absurd cc
fed_head (x ∷ xs) h c more rest e =
    let one : with_line_feeds (x ∷ xs) ≡ 10 ∷ with_line_feeds xs = ap (λ d. with_line_feeds (d ∷ xs)) (eqb-true x 10 h) ∙ first_normalized 10 xs in
    heads c 10 _ _ (e ∙ ap (λ t. t ++ rest) one)

-- a carriage return doesn't read as itself
no_return : (xs ys rest : List ℕ) (b : Bool) → begins_with_line_feed xs ≡ b → 13 ∷ (xs ++ ys) ≡ with_line_feeds (13 ∷ xs) ++ rest → ⊥
no_return xs ys rest true h e =
    let none : with_line_feeds (13 ∷ xs) ≡ with_line_feeds xs = first_normalized 13 xs ∙ ap (λ b. cond b [] (10 ∷ []) ++ with_line_feeds xs) h in
    let feed : ◌≡◌ {A = ℕ} 13 10 = fed_head xs h 13 (xs ++ ys) rest (e ∙ ap (λ t. t ++ rest) none) in
    omega arith
no_return xs ys rest false h e =
    let one : with_line_feeds (13 ∷ xs) ≡ 10 ∷ with_line_feeds xs = first_normalized 13 xs ∙ ap (λ b. cond b [] (10 ∷ []) ++ with_line_feeds xs) h in
    let feed : ◌≡◌ {A = ℕ} 13 10 = heads 13 10 _ _ (e ∙ ap (λ t. t ++ rest) one) in
    omega arith

itself_one : (c : ℕ) (xs ys rest : List ℕ) → (xs ++ ys ≡ with_line_feeds xs ++ rest → with_line_feeds xs ≡ xs) → (b : Bool) → eqb c 13 ≡ b → c ∷ (xs ++ ys) ≡ with_line_feeds (c ∷ xs) ++ rest
    → with_line_feeds (c ∷ xs) ≡ c ∷ xs
itself_one c xs ys rest more true h e =
    let is = eqb-true c 13 h in
    absurd (no_return xs ys rest (begins_with_line_feed xs) refl (ap (λ d. d ∷ (xs ++ ys)) (sym is) ∙ e ∙ ap (λ d. with_line_feeds (d ∷ xs) ++ rest) is))
itself_one c xs ys rest more false h e =
    let one : with_line_feeds (c ∷ xs) ≡ c ∷ with_line_feeds xs = first_normalized c xs ∙ ap (λ b. cond (b && begins_with_line_feed xs) [] (cond b 10 c ∷ []) ++ with_line_feeds xs) h in
    let whole : c ∷ (xs ++ ys) ≡ c ∷ (with_line_feeds xs ++ rest) = e ∙ ap (λ t. t ++ rest) one in
    let less : xs ++ ys ≡ with_line_feeds xs ++ rest = cc in
    one ∙ ap (λ t. c ∷ t) (more less)

reads_itself : (xs ys rest : List ℕ) → xs ++ ys ≡ with_line_feeds xs ++ rest → with_line_feeds xs ≡ xs
reads_itself [] ys rest e = refl
reads_itself (c ∷ xs) ys rest e = itself_one c xs ys rest (λ less. reads_itself xs ys rest less) (eqb c 13) refl e

pub begins : (whole read : List ℕ) (answer : Bool) → answer ≡ starts_with nat_eq whole read → answer ≡ true → whole ≡ read ++ drop (length read) whole
begins whole read answer is told = (starts_is Decides-eqb whole read answer is).0 told

pub begins_boundary : (whole read : List ℕ) → IsUtf8 whole → IsUtf8 read → whole ≡ read ++ drop (length read) whole → IsCharBoundary whole (length read)
begins_boundary whole read whole_utf8 read_utf8 parts =
    let front : take (length read) whole ≡ read = ap (λ t. take (length read) t) parts ∙ take-append_seam read (drop (length read) whole) in
    IsCharBoundary-from_take whole (length read) whole_utf8 (omega (arith, ap length parts, length-append read (drop (length read) whole))) (subst IsUtf8 (sym front) read_utf8)

pub begins_splits : (whole read first second : List ℕ) → IsUtf8 read → whole ≡ read ++ drop (length read) whole → first ≡ take (length read) whole → second ≡ drop (length read) whole
    → SplitsAs (chars whole) (chars read) (chars first) (chars second)
begins_splits whole read first second read_utf8 parts first_is second_is xs ys is joins reads =
    let rest = drop (length read) whole in
    let front : first ≡ read = first_is ∙ ap (λ t. take (length read) t) parts ∙ take-append_seam read rest in
    let both : chars whole ≡ chars read ++ chars rest = ap chars parts ∙ chars-append read rest read_utf8 in
    let same : xs ≡ chars read = sym (reads_itself xs ys (chars rest) (sym is ∙ both ∙ ap (λ t. t ++ chars rest) (sym reads))) ∙ reads in
    (ap chars front ∙ sym same, ap chars second_is ∙ append_cancel_left xs (chars rest) ys (ap (λ t. t ++ chars rest) same ∙ sym both ∙ is))
