-- Characters that go out one part after another.
use Rattle.std.proofs.Common.{◌≡◌, ℕ, List, ◌++◌, Option, refl, sym, ap, ◌∙◌, encode_utf8_all}
use Rattle.std.proofs.lemmas.Str.{encodes-append, encodes-chars}
use Rattle.std.specs.Str.{IsUtf8, chars}
use Rattle.ports.proofs.GrownLemmas.{front_after, front_more, front_same, front_step, grown_after}
use Rattle.ports.specs.Grown.{grown, GrowsByFront}

-- more characters went out
pub went_more : (before middle now : Option (List ℕ)) (front more bytes : List ℕ)
    → middle ≡ grown before (encode_utf8_all front) → now ≡ grown middle bytes → bytes ≡ encode_utf8_all more → now ≡ grown before (encode_utf8_all (front ++ more))
went_more before middle now front more bytes so_far grew is =
    grown_after before middle now (encode_utf8_all front) bytes so_far grew
    ∙ ap (λ t. grown before t) (ap (λ t. encode_utf8_all front ++ t) is ∙ sym (encodes-append front more))

-- a front of more characters went out
pub went_front : (before middle now : Option (List ℕ)) (front more rest all bytes : List ℕ)
    → middle ≡ grown before (encode_utf8_all front) → GrowsByFront middle now bytes → bytes ≡ encode_utf8_all more → (front ++ more) ++ rest ≡ all
    → GrowsByFront before now (encode_utf8_all all)
went_front before middle now front more rest all bytes so_far grows is parts =
    front_after before middle now (encode_utf8_all front) bytes (encode_utf8_all rest) (encode_utf8_all all) so_far grows
    (ap (λ t. (encode_utf8_all front ++ t) ++ encode_utf8_all rest) is ∙ ap (λ t. t ++ encode_utf8_all rest) (sym (encodes-append front more))
    ∙ sym (encodes-append (front ++ more) rest) ∙ ap encode_utf8_all parts)

-- more characters went out, by themselves
pub went_then : (before middle now : Option (List ℕ)) (xs ys : List ℕ) → middle ≡ grown before (encode_utf8_all xs) → now ≡ grown middle (encode_utf8_all ys) → now ≡ grown before (encode_utf8_all (xs ++ ys))
went_then before middle now xs ys so_far grew = went_more before middle now xs ys (encode_utf8_all ys) so_far grew refl

-- a front of the first characters went out
pub stops_first : (before now : Option (List ℕ)) (xs ys : List ℕ) → GrowsByFront before now (encode_utf8_all xs) → GrowsByFront before now (encode_utf8_all (xs ++ ys))
stops_first before now xs ys grows = front_same (sym (encodes-append xs ys)) (front_more (encode_utf8_all ys) grows)

-- the first characters went out, and a front of the others
pub stops_then : (before middle now : Option (List ℕ)) (xs ys : List ℕ) → middle ≡ grown before (encode_utf8_all xs) → GrowsByFront middle now (encode_utf8_all ys) → GrowsByFront before now (encode_utf8_all (xs ++ ys))
stops_then before middle now xs ys so_far grows = front_same (sym (encodes-append xs ys)) (front_step so_far refl grows)

-- the bytes of a text are those of its characters
pub went_text : (before now : Option (List ℕ)) (bytes put : List ℕ) → IsUtf8 bytes → put ≡ bytes → now ≡ grown before put → now ≡ grown before (encode_utf8_all (chars bytes))
went_text before now bytes put utf8 is grew = grew ∙ ap (λ t. grown before t) (is ∙ sym (encodes-chars bytes utf8))

pub stops_text : (before now : Option (List ℕ)) (bytes put : List ℕ) → IsUtf8 bytes → put ≡ bytes → GrowsByFront before now put → GrowsByFront before now (encode_utf8_all (chars bytes))
stops_text before now bytes put utf8 is grows = front_same (is ∙ sym (encodes-chars bytes utf8)) grows
