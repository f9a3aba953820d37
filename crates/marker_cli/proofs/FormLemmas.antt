-- Words are of one form at most.
use Rattle.std.proofs.Common.{◌≡◌, ◌≢◌, ◌∙◌, ◌==◌, ◌&&◌, not, false, ℕ, ℤ, ◌^◌, ◌<◌, w64, FitsSigned, get_or, ap, Bool, List, [], ◌∷◌, length, drop, take, ◌≤◌, ◌+◌, arith, nat_lt, refl, subst, sym, true, codes, encode_utf8_all}
use lib.Signed.{mag}
use Rattle.std.specs.Fmt.{decimal, signed_decimal}
use Rattle.std.proofs.lemmas.Fmt.{decimal_injective, signed_decimal_injective}
use Rattle.std.proofs.lemmas.Int.{ints}
use Rattle.std.proofs.lemmas.Bool.{and_parts, eqb-true, false≢true, ltb-true}
use Rattle.std.proofs.lemmas.Str.{chars-IsAscii, chars-nil, encodes-IsAscii, encodes-chars}
use Rattle.std.proofs.lemmas.Str.Ascii.{IsAscii-cons, IsAscii-nil}
use Rattle.std.specs.List.{All, AllByRecursion, AllPairs, list_all}
use Rattle.std.proofs.lemmas.List.{take_all, take_more}
use Rattle.std.proofs.lemmas.List.Quantifiers.{all_pairs_push}
use Rattle.std.specs.Bool.{Decides}
use Rattle.std.specs.Prelude.{Some, None, Option, IfNone, IsTrue, ◌↔◌, Result, Ok, Err, OnErr}
use Rattle.std.specs.Str.{IsAscii, IsUtf8, bytes_eq, chars}
use Rattle.std.proofs.lemmas.Bool.Decides.{Decides-at, Decides-like}
use Rattle.std.proofs.lemmas.Slice.Eq.{bytes_eq-Decides}
use Rattle.book_definitions.specs.Chapters.{IsChapterName}
use Rattle.dump_definitions.specs.Dump.{path_text}
use Rattle.reading.specs.Punctuation.{number_sign}
use Rattle.edit_script.specs.Scripts.{IsPathText}
use Rattle.edit_script.proofs.PathLaws.{same_path}
use Rattle.marker_cli.specs.declared.aspect.Aspect.TheVariants.{Dump, Text, Why}
use Rattle.marker_cli.specs.declared.form.Form.{Form as ReadForm}
use Rattle.marker_cli.specs.Words.{AreDocumentNames, Form, IsBookCommand, IsCommand, IsCount, IsDepth, IsForm, IsRun, IsTable, IsWithin, ReadsAsForm, aspect, bake, book, edit, gen, read_form_of, table, word, words_of}

-- what `==` of two texts says of their characters
pub same_text : (answer : Bool) (xs ys cs : List ℕ) → IsUtf8 ys → xs ≡ encode_utf8_all cs → chars xs ≡ cs → answer ≡ bytes_eq xs ys
    → Decides answer (cs ≡ chars ys)
same_text answer xs ys cs utf8 bytes characters is =
    Decides-at answer (bytes_eq xs ys) is
    (Decides-like (bytes_eq xs ys) (λ e. sym characters ∙ ap chars e) (λ e. bytes ∙ ap encode_utf8_all e ∙ encodes-chars ys utf8) (bytes_eq-Decides xs ys))

-- an answer that is none
pub if_none : {T P : Type 0} (answer : Option T) → P → IfNone answer P
if_none None p = p
if_none (Some x) p = tt

-- a word, and the bytes of a number
pub number_word : (read bytes digits : List ℕ) → IsAscii digits → chars bytes ≡ read → bytes ≡ digits → read ≡ digits
number_word read bytes digits ascii characters same = sym characters ∙ ap chars same ∙ chars-IsAscii digits ascii

pub word_number : (read bytes digits : List ℕ) → IsAscii digits → bytes ≡ encode_utf8_all read → read ≡ digits → bytes ≡ digits
word_number read bytes digits ascii encoded same = encoded ∙ ap encode_utf8_all same ∙ encodes-IsAscii digits ascii

-- counts have 64 bits
pub fits_count : (number : ℤ) → IsCount number → FitsSigned w64 number
fits_count number is = let low = is.low in let high = is.high in grind (arith, ints)

pub count_fits : (number : ℤ) → FitsSigned w64 number → IsCount number
count_fits number fits = record { low = grind (arith, ints); high = grind (arith, ints) }

pub small : (number : ℤ) → IsCount number → mag number < 2 ^ 63
small number is = let fits = fits_count number is in omega (arith, ints)

-- two numbers that are written so
pub one_integer : (digits : List ℕ) (number other : ℤ) → IsCount number → IsCount other → digits ≡ signed_decimal number → digits ≡ signed_decimal other → other ≡ number
one_integer digits number other fits fits_too first second =
    signed_decimal_injective other number (small other fits_too) (small number fits) (sym second ∙ first)

pub one_natural : (digits : List ℕ) (number other : ℕ) → number < 2 ^ 32 → other < 2 ^ 32 → digits ≡ decimal number → digits ≡ decimal other → other ≡ number
one_natural digits number other fits fits_too first second = decimal_injective other number (omega arith) (omega arith) (sym second ∙ first)

abbrev first_letter : List (List ℕ) → ℕ
first_letter words = get_or (word words 0) 0 0

abbrev second_letter : List (List ℕ) → ℕ
second_letter words = get_or (word words 0) 1 0

-- words of one form are of no other
one_written : (form other : Form) → IsWithin form → IsWithin other → words_of form ≡ words_of other → other ≡ form
one_written (aspect Dump document sheet) (aspect Dump first second) within fits same =
    let one : first ≡ document = cc same in let two : second ≡ sheet = cc same in λ i. aspect Dump (one i) (two i)
one_written (aspect Text document sheet) (aspect Text first second) within fits same =
    let one : first ≡ document = cc same in let two : second ≡ sheet = cc same in λ i. aspect Text (one i) (two i)
one_written (aspect Dump document sheet) (aspect Text first second) within fits same = absurd (let letter : 100 ≡ 116 = ap first_letter same in omega (arith, letter))
one_written (aspect Text document sheet) (aspect Dump first second) within fits same = absurd (let letter : 116 ≡ 100 = ap first_letter same in omega (arith, letter))
one_written (aspect Dump document sheet) (edit first second third None) within fits same = absurd (cc same)
one_written (aspect Text document sheet) (edit first second third None) within fits same = absurd (cc same)
one_written (aspect Dump document sheet) (edit first second third (Some depth)) within fits same = absurd (cc same)
one_written (aspect Text document sheet) (edit first second third (Some depth)) within fits same = absurd (cc same)
one_written (aspect Dump document sheet) (table first second from to) within fits same = absurd (cc same)
one_written (aspect Text document sheet) (table first second from to) within fits same = absurd (cc same)
one_written (aspect Dump document sheet) (gen seed count) within fits same = absurd (cc same)
one_written (aspect Text document sheet) (gen seed count) within fits same = absurd (cc same)
one_written (edit document sheet script None) (aspect Dump first second) within fits same = absurd (cc same)
one_written (edit document sheet script None) (aspect Text first second) within fits same = absurd (cc same)
one_written (edit document sheet script None) (edit first second third None) within fits same =
    let one : first ≡ document = cc same in let two : second ≡ sheet = cc same in let three : third ≡ script = cc same in λ i. edit (one i) (two i) (three i) None
one_written (edit document sheet script None) (edit first second third (Some depth)) within fits same = absurd (cc same)
one_written (edit document sheet script None) (table first second from to) within fits same = absurd (cc same)
one_written (edit document sheet script None) (gen seed count) within fits same = absurd (cc same)
one_written (edit document sheet script (Some depth)) (aspect Dump first second) within fits same = absurd (cc same)
one_written (edit document sheet script (Some depth)) (aspect Text first second) within fits same = absurd (cc same)
one_written (edit document sheet script (Some depth)) (edit first second third None) within fits same = absurd (cc same)
one_written (edit document sheet script (Some depth)) (edit first second third (Some deep)) within fits same =
    let one : first ≡ document = cc same in
    let two : second ≡ sheet = cc same in
    let three : third ≡ script = cc same in
    let depth_same : decimal depth ≡ decimal deep = cc same in
    let four : deep ≡ depth = one_natural _ depth deep (omega (arith, within.1)) (omega (arith, fits.1)) (λ i. decimal depth) depth_same in
    λ i. edit (one i) (two i) (three i) (Some (four i))
one_written (edit document sheet script (Some depth)) (table first second from to) within fits same = absurd (cc same)
one_written (edit document sheet script (Some depth)) (gen seed count) within fits same = absurd (cc same)
one_written (table sheet style from to) (aspect Dump first second) within fits same = absurd (cc same)
one_written (table sheet style from to) (aspect Text first second) within fits same = absurd (cc same)
one_written (table sheet style from to) (edit first second third None) within fits same = absurd (cc same)
one_written (table sheet style from to) (edit first second third (Some depth)) within fits same = absurd (cc same)
one_written (table sheet style from to) (table first second low high) within fits same =
    let one : first ≡ sheet = cc same in
    let two : second ≡ style = cc same in
    let from_same : signed_decimal from ≡ signed_decimal low = cc same in
    let to_same : signed_decimal to ≡ signed_decimal high = cc same in
    let three : low ≡ from = one_integer _ from low within.from_fits fits.from_fits (λ i. signed_decimal from) from_same in
    let four : high ≡ to = one_integer _ to high within.to_fits fits.to_fits (λ i. signed_decimal to) to_same in
    λ i. table (one i) (two i) (three i) (four i)
one_written (table sheet style from to) (gen seed count) within fits same = absurd (cc same)
one_written (gen seed count) (aspect Dump first second) within fits same = absurd (cc same)
one_written (gen seed count) (aspect Text first second) within fits same = absurd (cc same)
one_written (gen seed count) (edit first second third None) within fits same = absurd (cc same)
one_written (gen seed count) (edit first second third (Some depth)) within fits same = absurd (cc same)
one_written (gen seed count) (table first second from to) within fits same = absurd (cc same)
one_written (gen seed count) (gen start edits) within fits same =
    let seed_same : decimal seed ≡ decimal start = cc same in
    let count_same : decimal count ≡ decimal edits = cc same in
    let one : start ≡ seed = one_natural _ seed start (omega (arith, within.0)) (omega (arith, fits.0)) (λ i. decimal seed) seed_same in
    let two : edits ≡ count = one_natural _ count edits (omega (arith, within.2)) (omega (arith, fits.2)) (λ i. decimal count) count_same in
    λ i. gen (one i) (two i)
one_written (aspect (Why path) document sheet) (aspect (Why other) first second) within fits same =
    let one : first ≡ document = cc same in
    let two : second ≡ sheet = cc same in
    let paths : path_text path ≡ path_text other = cc same in
    let three : path ≡ other = same_path path other within fits paths in
    λ i. aspect (Why (sym three i)) (one i) (two i)
one_written (aspect (Why path) document sheet) (aspect Dump first second) within fits same = absurd (let letter : 119 ≡ 100 = ap first_letter same in omega (arith, letter))
one_written (aspect Dump document sheet) (aspect (Why path) first second) within fits same = absurd (let letter : 100 ≡ 119 = ap first_letter same in omega (arith, letter))
one_written (aspect (Why path) document sheet) (aspect Text first second) within fits same = absurd (let letter : 119 ≡ 116 = ap first_letter same in omega (arith, letter))
one_written (aspect Text document sheet) (aspect (Why path) first second) within fits same = absurd (let letter : 116 ≡ 119 = ap first_letter same in omega (arith, letter))
one_written (aspect (Why path) document sheet) (edit first second third None) within fits same = absurd (let letter : 119 ≡ 101 = ap first_letter same in omega (arith, letter))
one_written (edit document sheet script None) (aspect (Why path) first second) within fits same = absurd (let letter : 101 ≡ 119 = ap first_letter same in omega (arith, letter))
one_written (aspect (Why path) document sheet) (edit first second third (Some depth)) within fits same = absurd (let letter : 119 ≡ 104 = ap first_letter same in omega (arith, letter))
one_written (edit document sheet script (Some depth)) (aspect (Why path) first second) within fits same = absurd (let letter : 104 ≡ 119 = ap first_letter same in omega (arith, letter))
one_written (aspect (Why path) document sheet) (table first second from to) within fits same = absurd (let letter : 119 ≡ 116 = ap first_letter same in omega (arith, letter))
one_written (table sheet style from to) (aspect (Why path) first second) within fits same = absurd (let letter : 116 ≡ 119 = ap first_letter same in omega (arith, letter))
one_written (aspect (Why path) document sheet) (gen seed count) within fits same = absurd (let letter : 119 ≡ 103 = ap first_letter same in omega (arith, letter))
one_written (gen seed count) (aspect (Why path) first second) within fits same = absurd (let letter : 103 ≡ 119 = ap first_letter same in omega (arith, letter))
one_written (bake document sheet) (bake first second) within fits same =
    let one : first ≡ document = cc same in let two : second ≡ sheet = cc same in λ i. bake (one i) (two i)
one_written (bake document sheet) (aspect Dump first second) within fits same = absurd (let letter : 98 ≡ 100 = ap first_letter same in omega (arith, letter))
one_written (aspect Dump document sheet) (bake first second) within fits same = absurd (let letter : 100 ≡ 98 = ap first_letter same in omega (arith, letter))
one_written (bake document sheet) (aspect Text first second) within fits same = absurd (let letter : 98 ≡ 116 = ap first_letter same in omega (arith, letter))
one_written (aspect Text document sheet) (bake first second) within fits same = absurd (let letter : 116 ≡ 98 = ap first_letter same in omega (arith, letter))
one_written (bake document sheet) (aspect (Why path) first second) within fits same = absurd (let letter : 98 ≡ 119 = ap first_letter same in omega (arith, letter))
one_written (aspect (Why path) document sheet) (bake first second) within fits same = absurd (let letter : 119 ≡ 98 = ap first_letter same in omega (arith, letter))
one_written (bake document sheet) (edit first second third None) within fits same = absurd (let letter : 98 ≡ 101 = ap first_letter same in omega (arith, letter))
one_written (edit document sheet script None) (bake first second) within fits same = absurd (let letter : 101 ≡ 98 = ap first_letter same in omega (arith, letter))
one_written (bake document sheet) (edit first second third (Some depth)) within fits same = absurd (let letter : 98 ≡ 104 = ap first_letter same in omega (arith, letter))
one_written (edit document sheet script (Some depth)) (bake first second) within fits same = absurd (let letter : 104 ≡ 98 = ap first_letter same in omega (arith, letter))
one_written (bake document sheet) (table first second from to) within fits same = absurd (let letter : 98 ≡ 116 = ap first_letter same in omega (arith, letter))
one_written (table sheet style from to) (bake first second) within fits same = absurd (let letter : 116 ≡ 98 = ap first_letter same in omega (arith, letter))
one_written (bake document sheet) (gen seed count) within fits same = absurd (let letter : 98 ≡ 103 = ap first_letter same in omega (arith, letter))
one_written (gen seed count) (bake first second) within fits same = absurd (let letter : 103 ≡ 98 = ap first_letter same in omega (arith, letter))
one_written (book sheet script documents) (book first second others) within fits same =
    let one : first ≡ sheet = cc same in let two : second ≡ script = cc same in let three : others ≡ documents = cc same in λ i. book (one i) (two i) (three i)
one_written (book sheet script documents) (aspect Dump first second) within fits same = absurd (let letter : 98 ≡ 100 = ap first_letter same in omega (arith, letter))
one_written (aspect Dump document sheet) (book first second documents) within fits same = absurd (let letter : 100 ≡ 98 = ap first_letter same in omega (arith, letter))
one_written (book sheet script documents) (aspect Text first second) within fits same = absurd (let letter : 98 ≡ 116 = ap first_letter same in omega (arith, letter))
one_written (aspect Text document sheet) (book first second documents) within fits same = absurd (let letter : 116 ≡ 98 = ap first_letter same in omega (arith, letter))
one_written (book sheet script documents) (aspect (Why path) first second) within fits same = absurd (let letter : 98 ≡ 119 = ap first_letter same in omega (arith, letter))
one_written (aspect (Why path) document sheet) (book first second documents) within fits same = absurd (let letter : 119 ≡ 98 = ap first_letter same in omega (arith, letter))
one_written (book sheet script documents) (bake first second) within fits same = absurd (let letter : 111 ≡ 97 = ap second_letter same in omega (arith, letter))
one_written (bake document sheet) (book first second documents) within fits same = absurd (let letter : 97 ≡ 111 = ap second_letter same in omega (arith, letter))
one_written (book sheet script documents) (edit first second third None) within fits same = absurd (let letter : 98 ≡ 101 = ap first_letter same in omega (arith, letter))
one_written (edit document sheet script None) (book first second documents) within fits same = absurd (let letter : 101 ≡ 98 = ap first_letter same in omega (arith, letter))
one_written (book sheet script documents) (edit first second third (Some depth)) within fits same = absurd (let letter : 98 ≡ 104 = ap first_letter same in omega (arith, letter))
one_written (edit document sheet script (Some depth)) (book first second documents) within fits same = absurd (let letter : 104 ≡ 98 = ap first_letter same in omega (arith, letter))
one_written (book sheet script documents) (table first second from to) within fits same = absurd (let letter : 98 ≡ 116 = ap first_letter same in omega (arith, letter))
one_written (table sheet style from to) (book first second documents) within fits same = absurd (let letter : 116 ≡ 98 = ap first_letter same in omega (arith, letter))
one_written (book sheet script documents) (gen start edits) within fits same = absurd (let letter : 98 ≡ 103 = ap first_letter same in omega (arith, letter))
one_written (gen seed count) (book first second documents) within fits same = absurd (let letter : 103 ≡ 98 = ap first_letter same in omega (arith, letter))

pub one_form : (words : List (List ℕ)) (form other : Form) → IsForm words form → IsForm words other → other ≡ form
one_form words form other is reads = one_written form other is.within reads.within (sym is.written ∙ reads.written)

-- words that are so many
pub three_words : (words : List (List ℕ)) (name first second : List ℕ) → length words ≡ 3 → word words 0 ≡ name → first ≡ get_or words 1 first → second ≡ get_or words 2 second
    → words ≡ name ∷ first ∷ second ∷ []
three_words [] name first second long begins one two = absurd (cc long)
three_words (a ∷ []) name first second long begins one two = absurd (cc long)
three_words (a ∷ b ∷ []) name first second long begins one two = absurd (cc long)
three_words (a ∷ b ∷ c ∷ []) name first second long begins one two = λ i. begins i ∷ sym one i ∷ sym two i ∷ []
three_words (a ∷ b ∷ c ∷ d ∷ rest) name first second long begins one two = absurd (omega arith)

pub four_words : (words : List (List ℕ)) (name first second third : List ℕ) → length words ≡ 4 → word words 0 ≡ name → first ≡ get_or words 1 first → second ≡ get_or words 2 second
    → third ≡ get_or words 3 third → words ≡ name ∷ first ∷ second ∷ third ∷ []
four_words [] name first second third long begins one two three = absurd (cc long)
four_words (a ∷ []) name first second third long begins one two three = absurd (cc long)
four_words (a ∷ b ∷ []) name first second third long begins one two three = absurd (cc long)
four_words (a ∷ b ∷ c ∷ []) name first second third long begins one two three = absurd (cc long)
four_words (a ∷ b ∷ c ∷ d ∷ []) name first second third long begins one two three = λ i. begins i ∷ sym one i ∷ sym two i ∷ sym three i ∷ []
four_words (a ∷ b ∷ c ∷ d ∷ e ∷ rest) name first second third long begins one two three = absurd (omega arith)

pub five_words : (words : List (List ℕ)) (name first second third fourth : List ℕ) → length words ≡ 5 → word words 0 ≡ name → first ≡ get_or words 1 first
    → second ≡ get_or words 2 second → third ≡ get_or words 3 third → fourth ≡ get_or words 4 fourth → words ≡ name ∷ first ∷ second ∷ third ∷ fourth ∷ []
five_words [] name first second third fourth long begins one two three four = absurd (cc long)
five_words (a ∷ []) name first second third fourth long begins one two three four = absurd (cc long)
five_words (a ∷ b ∷ []) name first second third fourth long begins one two three four = absurd (cc long)
five_words (a ∷ b ∷ c ∷ []) name first second third fourth long begins one two three four = absurd (cc long)
five_words (a ∷ b ∷ c ∷ d ∷ []) name first second third fourth long begins one two three four = absurd (cc long)
five_words (a ∷ b ∷ c ∷ d ∷ e ∷ []) name first second third fourth long begins one two three four = λ i. begins i ∷ sym one i ∷ sym two i ∷ sym three i ∷ sym four i ∷ []
five_words (a ∷ b ∷ c ∷ d ∷ e ∷ f ∷ rest) name first second third fourth long begins one two three four = absurd (omega arith)

pub three_listed : (words : List (List ℕ)) (name : List ℕ) → IsCommand words 3 name → words ≡ name ∷ word words 1 ∷ word words 2 ∷ []
three_listed [] name is = absurd (cc is.0)
three_listed (a ∷ []) name is = absurd (cc is.0)
three_listed (a ∷ b ∷ []) name is = absurd (cc is.0)
three_listed (a ∷ b ∷ c ∷ []) name is = λ i. is.1 i ∷ b ∷ c ∷ []
three_listed (a ∷ b ∷ c ∷ d ∷ rest) name is = absurd (omega (arith, is.0))

pub why_written : (words : List (List ℕ)) (third path : List ℕ) → IsCommand words 4 (codes "why") → third ≡ get_or words 3 third → third ≡ path_text path
    → words ≡ words_of (aspect (Why path) (word words 1) (word words 2))
why_written [] third path is third_is written = absurd (cc is.0)
why_written (a ∷ []) third path is third_is written = absurd (cc is.0)
why_written (a ∷ b ∷ []) third path is third_is written = absurd (cc is.0)
why_written (a ∷ b ∷ c ∷ []) third path is third_is written = absurd (cc is.0)
why_written (a ∷ b ∷ c ∷ d ∷ []) third path is third_is written = λ i. is.1 i ∷ b ∷ c ∷ (sym third_is ∙ written) i ∷ []
why_written (a ∷ b ∷ c ∷ d ∷ e ∷ rest) third path is third_is written = absurd (omega (arith, is.0))

pub why_form : (words : List (List ℕ)) (third path : List ℕ) → IsCommand words 4 (codes "why") → third ≡ get_or words 3 third → IsPathText third path
    → IsForm words (aspect (Why path) (word words 1) (word words 2))
why_form words third path is third_is text = record { written = why_written words third path is third_is text.written; within = text.sound }

pub same_form : {words : List (List ℕ)} {form other : Form} → other ≡ form → IsForm words form → IsForm words other
same_form {words} same is = subst (λ form. IsForm words form) (sym same) is

-- an answer that is a fault
pub on_err : {T E P : Type 0} (r : Result T E) → P → OnErr r P
on_err (Ok x) p = tt
on_err (Err e) p = p

abbrev letter_of : List ℕ → ℕ
letter_of name = get_or name 0 0

-- words of no form
pub none_read : (words : List (List ℕ)) (answer : Option ReadForm) → answer ≡ None → ((form : Form) → IsForm words form → ⊥) → ReadsAsForm words (read_form_of answer)
none_read words answer is none = rw is none

pub table_none : (words : List (List ℕ)) (from to : List ℕ) → word words 0 ≡ codes "table" → from ≡ get_or words 3 from → to ≡ get_or words 4 to
    → ((first last : ℤ) → from ≡ signed_decimal first → to ≡ signed_decimal last → IsTable first last → ⊥) → (form : Form) → IsForm words form → ⊥
table_none words from to begins third fourth none (aspect Dump document sheet) is = cc (sym begins ∙ ap (λ ws. word ws 0) is.written)
table_none words from to begins third fourth none (aspect Text document sheet) is = cc (sym begins ∙ ap (λ ws. word ws 0) is.written)
table_none words from to begins third fourth none (aspect (Why path) document sheet) is = cc (sym begins ∙ ap (λ ws. word ws 0) is.written)
table_none words from to begins third fourth none (bake document sheet) is = cc (sym begins ∙ ap (λ ws. word ws 0) is.written)
table_none words from to begins third fourth none (book sheet script documents) is = let letter : 116 ≡ 98 = ap letter_of (sym begins ∙ ap (λ ws. word ws 0) is.written) in omega (arith, letter)
table_none words from to begins third fourth none (edit document sheet script None) is = cc (sym begins ∙ ap (λ ws. word ws 0) is.written)
table_none words from to begins third fourth none (edit document sheet script (Some depth)) is = cc (sym begins ∙ ap (λ ws. word ws 0) is.written)
table_none words from to begins third fourth none (table sheet style first last) is =
    none first last (third ∙ ap (λ ws. get_or ws 3 from) is.written) (fourth ∙ ap (λ ws. get_or ws 4 to) is.written) is.within
table_none words from to begins third fourth none (gen seed count) is = cc (sym begins ∙ ap (λ ws. word ws 0) is.written)

pub gen_none : (words : List (List ℕ)) (seed count : List ℕ) → words ≡ codes "gen" ∷ seed ∷ count ∷ []
    → ((start edits : ℕ) → seed ≡ decimal start → count ≡ decimal edits → IsRun start edits → ⊥) → (form : Form) → IsForm words form → ⊥
gen_none words seed count written none (aspect Dump document sheet) is = cc (sym written ∙ is.written)
gen_none words seed count written none (aspect Text document sheet) is = cc (sym written ∙ is.written)
gen_none words seed count written none (aspect (Why path) document sheet) is = cc (sym written ∙ is.written)
gen_none words seed count written none (bake document sheet) is = cc (sym written ∙ is.written)
gen_none words seed count written none (book sheet script documents) is = let letter : 103 ≡ 98 = ap first_letter (sym written ∙ is.written) in omega (arith, letter)
gen_none words seed count written none (edit document sheet script None) is = cc (sym written ∙ is.written)
gen_none words seed count written none (edit document sheet script (Some depth)) is = cc (sym written ∙ is.written)
gen_none words seed count written none (table sheet style from to) is = cc (sym written ∙ is.written)
gen_none words seed count written none (gen start edits) is =
    let one : seed ≡ decimal start = cc (sym written ∙ is.written) in
    let two : count ≡ decimal edits = cc (sym written ∙ is.written) in
    none start edits one two is.within

pub history_none : (words : List (List ℕ)) (depth : List ℕ) → word words 0 ≡ codes "history" → depth ≡ get_or words 4 depth
    → ((deep : ℕ) → depth ≡ decimal deep → IsDepth deep → ⊥) → (form : Form) → IsForm words form → ⊥
history_none words depth begins fourth none (aspect Dump document sheet) is = cc (sym begins ∙ ap (λ ws. word ws 0) is.written)
history_none words depth begins fourth none (aspect Text document sheet) is = cc (sym begins ∙ ap (λ ws. word ws 0) is.written)
history_none words depth begins fourth none (aspect (Why path) document sheet) is = cc (sym begins ∙ ap (λ ws. word ws 0) is.written)
history_none words depth begins fourth none (bake document sheet) is = cc (sym begins ∙ ap (λ ws. word ws 0) is.written)
history_none words depth begins fourth none (book sheet script documents) is = let letter : 104 ≡ 98 = ap letter_of (sym begins ∙ ap (λ ws. word ws 0) is.written) in omega (arith, letter)
history_none words depth begins fourth none (edit document sheet script None) is = cc (sym begins ∙ ap (λ ws. word ws 0) is.written)
history_none words depth begins fourth none (edit document sheet script (Some deep)) is = none deep (fourth ∙ ap (λ ws. get_or ws 4 depth) is.written) is.within
history_none words depth begins fourth none (table sheet style from to) is = cc (sym begins ∙ ap (λ ws. word ws 0) is.written)
history_none words depth begins fourth none (gen seed count) is = cc (sym begins ∙ ap (λ ws. word ws 0) is.written)

pub why_none : (words : List (List ℕ)) (path : List ℕ) → word words 0 ≡ codes "why" → path ≡ get_or words 3 path
    → ((positions : List ℕ) → IsPathText path positions → ⊥) → (form : Form) → IsForm words form → ⊥
why_none words path begins third none (aspect Dump document sheet) is = cc (sym begins ∙ ap (λ ws. word ws 0) is.written)
why_none words path begins third none (aspect Text document sheet) is = cc (sym begins ∙ ap (λ ws. word ws 0) is.written)
why_none words path begins third none (aspect (Why positions) document sheet) is =
    none positions (record { written = third ∙ ap (λ ws. get_or ws 3 path) is.written; sound = is.within })
why_none words path begins third none (bake document sheet) is = cc (sym begins ∙ ap (λ ws. word ws 0) is.written)
why_none words path begins third none (book sheet script documents) is = let letter : 119 ≡ 98 = ap letter_of (sym begins ∙ ap (λ ws. word ws 0) is.written) in omega (arith, letter)
why_none words path begins third none (edit document sheet script None) is = cc (sym begins ∙ ap (λ ws. word ws 0) is.written)
why_none words path begins third none (edit document sheet script (Some deep)) is = cc (sym begins ∙ ap (λ ws. word ws 0) is.written)
why_none words path begins third none (table sheet style from to) is = cc (sym begins ∙ ap (λ ws. word ws 0) is.written)
why_none words path begins third none (gen seed count) is = let letter : 119 ≡ 103 = ap letter_of (sym begins ∙ ap (λ ws. word ws 0) is.written) in omega (arith, letter)

begins_book : (words : List (List ℕ)) (sheet script : List ℕ) (documents : List (List ℕ)) → IsForm words (book sheet script documents) → IsBookCommand words
begins_book words sheet script documents is =
    let long : length words ≡ length (codes "book" ∷ sheet ∷ script ∷ documents) = ap length is.written in
    let some = is.within.some in
    (omega (arith, long, some), ap (λ ws. word ws 0) is.written)

-- the words of a book
book_listed : (words : List (List ℕ)) (sheet script : List ℕ) → IsBookCommand words → sheet ≡ get_or words 1 sheet → script ≡ get_or words 2 script
    → words ≡ codes "book" ∷ sheet ∷ script ∷ drop 3 words
book_listed [] sheet script is one two = absurd (omega (arith, is.0))
book_listed (a ∷ []) sheet script is one two = absurd (omega (arith, is.0))
book_listed (a ∷ b ∷ []) sheet script is one two = absurd (omega (arith, is.0))
book_listed (a ∷ b ∷ c ∷ rest) sheet script is one two = λ i. is.1 i ∷ sym one i ∷ sym two i ∷ rest

pub book_form : (words : List (List ℕ)) (sheet script : List ℕ) (documents : List (List ℕ)) → IsBookCommand words → sheet ≡ get_or words 1 sheet → script ≡ get_or words 2 script
    → documents ≡ drop 3 words → AreDocumentNames documents → IsForm words (book sheet script documents)
book_form words sheet script documents is one two rest names = record {
  written = book_listed words sheet script is one two ∙ (λ i. codes "book" ∷ sheet ∷ script ∷ sym rest i);
  within = names;
}

pub book_none : (words documents : List (List ℕ)) → word words 0 ≡ codes "book" → documents ≡ drop 3 words → (AreDocumentNames documents → ⊥) → (form : Form) → IsForm words form → ⊥
book_none words documents begins rest none (aspect Dump document sheet) is = let letter : 98 ≡ 100 = ap letter_of (sym begins ∙ ap (λ ws. word ws 0) is.written) in omega (arith, letter)
book_none words documents begins rest none (aspect Text document sheet) is = let letter : 98 ≡ 116 = ap letter_of (sym begins ∙ ap (λ ws. word ws 0) is.written) in omega (arith, letter)
book_none words documents begins rest none (aspect (Why path) document sheet) is = let letter : 98 ≡ 119 = ap letter_of (sym begins ∙ ap (λ ws. word ws 0) is.written) in omega (arith, letter)
book_none words documents begins rest none (bake document sheet) is = let letter : 111 ≡ 97 = ap (λ name. get_or name 1 0) (sym begins ∙ ap (λ ws. word ws 0) is.written) in omega (arith, letter)
book_none words documents begins rest none (edit document sheet script None) is = let letter : 98 ≡ 101 = ap letter_of (sym begins ∙ ap (λ ws. word ws 0) is.written) in omega (arith, letter)
book_none words documents begins rest none (edit document sheet script (Some depth)) is = let letter : 98 ≡ 104 = ap letter_of (sym begins ∙ ap (λ ws. word ws 0) is.written) in omega (arith, letter)
book_none words documents begins rest none (book sheet script others) is = none (subst (λ names. AreDocumentNames names) (sym (rest ∙ ap (λ ws. drop 3 ws) is.written)) is.within)
book_none words documents begins rest none (table sheet style from to) is = let letter : 98 ≡ 116 = ap letter_of (sym begins ∙ ap (λ ws. word ws 0) is.written) in omega (arith, letter)
book_none words documents begins rest none (gen seed count) is = let letter : 98 ≡ 103 = ap letter_of (sym begins ∙ ap (λ ws. word ws 0) is.written) in omega (arith, letter)

pub no_command : (words : List (List ℕ)) → (IsCommand words 3 (codes "dump") → ⊥) → (IsCommand words 4 (codes "edit") → ⊥) → (IsCommand words 5 (codes "table") → ⊥)
    → (IsCommand words 3 (codes "gen") → ⊥) → (IsCommand words 5 (codes "history") → ⊥) → (IsCommand words 3 (codes "text") → ⊥)
    → (IsCommand words 3 (codes "bake") → ⊥) → (IsCommand words 4 (codes "why") → ⊥) → (IsBookCommand words → ⊥) → (form : Form) → IsForm words form → ⊥
no_command words first second third fourth fifth sixth seventh eighth ninth (aspect Dump document sheet) is = first (ap length is.written, ap (λ ws. word ws 0) is.written)
no_command words first second third fourth fifth sixth seventh eighth ninth (aspect Text document sheet) is = sixth (ap length is.written, ap (λ ws. word ws 0) is.written)
no_command words first second third fourth fifth sixth seventh eighth ninth (aspect (Why path) document sheet) is = eighth (ap length is.written, ap (λ ws. word ws 0) is.written)
no_command words first second third fourth fifth sixth seventh eighth ninth (bake document sheet) is = seventh (ap length is.written, ap (λ ws. word ws 0) is.written)
no_command words first second third fourth fifth sixth seventh eighth ninth (edit document sheet script None) is = second (ap length is.written, ap (λ ws. word ws 0) is.written)
no_command words first second third fourth fifth sixth seventh eighth ninth (edit document sheet script (Some depth)) is = fifth (ap length is.written, ap (λ ws. word ws 0) is.written)
no_command words first second third fourth fifth sixth seventh eighth ninth (book sheet script documents) is = ninth (begins_book words sheet script documents is)
no_command words first second third fourth fifth sixth seventh eighth ninth (table sheet style from to) is = third (ap length is.written, ap (λ ws. word ws 0) is.written)
no_command words first second third fourth fifth sixth seventh eighth ninth (gen seed count) is = fourth (ap length is.written, ap (λ ws. word ws 0) is.written)

-- Names of documents.

text_some : (bytes : List ℕ) (empty : Bool) → IsUtf8 bytes → empty ≡ (length bytes == 0) → empty ≡ false → chars bytes ≢ []
text_some bytes empty utf8 is some none =
    let gone : bytes ≡ [] = sym (encodes-chars bytes utf8) ∙ ap encode_utf8_all none in
    let yes : empty ≡ true = is ∙ ap (λ (bs : List ℕ). length bs == 0) gone in
    false≢true (sym some ∙ yes)

text_none : (bytes : List ℕ) (empty : Bool) → empty ≡ (length bytes == 0) → empty ≡ true → chars bytes ≡ []
text_none [] empty is none = chars-nil
text_none (byte ∷ bytes) empty is none =
    let there : (length (byte ∷ bytes) == 0) ≡ false = grind arith in absurd (false≢true (sym (is ∙ there) ∙ none))

no_sign : (character : ℕ) → not (character == 35) ≡ true → character ≢ 35
no_sign character differs same = false≢true (sym (ap (λ c. not (c == 35)) same) ∙ differs)

sign_no : (character : ℕ) → character ≢ 35 → not (character == 35) ≡ true
sign_no character differs = by (character == 35) refl
  where
    by : (answer : Bool) → (character == 35) ≡ answer → not (character == 35) ≡ true
    by true is = absurd (differs (eqb-true character 35 is))
    by false is = ap not is

no_signs : (characters : List ℕ) → list_all (λ c. not (c == 35)) characters ≡ true → AllByRecursion (λ character. character ≢ number_sign) characters
no_signs [] none = tt
no_signs (c ∷ characters) none =
    let parts = and_parts (not (c == 35)) (list_all (λ d. not (d == 35)) characters) none in (no_sign c parts.0, no_signs characters parts.1)

signs_no : (characters : List ℕ) → AllByRecursion (λ character. character ≢ number_sign) characters → list_all (λ c. not (c == 35)) characters ≡ true
signs_no [] none = refl
signs_no (c ∷ characters) none = λ i. sign_no c none.0 i && signs_no characters none.1 i

module _ (bytes : List ℕ) (empty : Bool) (is : empty ≡ (length bytes == 0)) where
  pub document_name : IsUtf8 bytes → empty ≡ false → (answer : Bool) → answer ≡ list_all (λ c. not (c == 35)) (chars bytes) → IsTrue answer ↔ IsChapterName (chars bytes)
  document_name utf8 some answer all = (
    λ yes. record { is_not_empty = text_some bytes empty utf8 is some; has_no_sign = no_signs (chars bytes) (sym all ∙ yes) },
    λ name. all ∙ signs_no (chars bytes) name.has_no_sign,
  )

  pub no_document_name : empty ≡ true → IsTrue (not empty) ↔ IsChapterName (chars bytes)
  no_document_name none = (λ yes. absurd (false≢true (sym (ap not none) ∙ yes)), λ name. absurd (name.is_not_empty (text_none bytes empty is none)))

-- names that tell documents apart
abbrev Apart : List (List ℕ) → Type 0
Apart names = AllPairs (λ (name other : List ℕ). name ≢ other) names

abbrev IsNew : List (List ℕ) → List ℕ → Type 0
IsNew others name = All (λ (other : List ℕ). other ≢ name) others

pub apart_more : (names : List (List ℕ)) (place : ℕ) (name : List ℕ) → place < length names → name ≡ get_or names place name → Apart (take place names) → IsNew (take place names) name
    → Apart (take (place + 1) names)
apart_more names place name below is apart new =
    subst (λ front. Apart front) (sym (take_more names place name below))
    (all_pairs_push (λ (one other : List ℕ). one ≢ other) (take place names) (get_or names place name) apart (λ k d low same. new k d low (same ∙ sym is)))

pub all_apart : (names : List (List ℕ)) (place : ℕ) → length names ≤ place → Apart (take place names) → Apart names
all_apart names place past apart = subst (λ front. Apart front) (take_all place names past) apart

-- words that begin so
pub first_word : (words : List (List ℕ)) (first : List ℕ) → 0 < length words → first ≡ get_or words 0 first → word words 0 ≡ first
first_word [] first some is = absurd (omega arith)
first_word (a ∷ words) first some is = sym is

-- the names of the commands are in ASCII
ascii : (bytes : List ℕ) → list_all (λ b. nat_lt b 128) bytes ≡ true → IsAscii bytes
ascii [] small = IsAscii-nil
ascii (b ∷ bytes) small =
    let parts = and_parts (nat_lt b 128) (list_all (λ c. nat_lt c 128) bytes) small in IsAscii-cons b bytes (ltb-true b 128 parts.0) (ascii bytes parts.1)

pub dump_name : chars (codes "dump") ≡ codes "dump"
dump_name = chars-IsAscii (codes "dump") (ascii (codes "dump") refl)

pub edit_name : chars (codes "edit") ≡ codes "edit"
edit_name = chars-IsAscii (codes "edit") (ascii (codes "edit") refl)

pub table_name : chars (codes "table") ≡ codes "table"
table_name = chars-IsAscii (codes "table") (ascii (codes "table") refl)

pub gen_name : chars (codes "gen") ≡ codes "gen"
gen_name = chars-IsAscii (codes "gen") (ascii (codes "gen") refl)

pub history_name : chars (codes "history") ≡ codes "history"
history_name = chars-IsAscii (codes "history") (ascii (codes "history") refl)

pub text_name : chars (codes "text") ≡ codes "text"
text_name = chars-IsAscii (codes "text") (ascii (codes "text") refl)

pub bake_name : chars (codes "bake") ≡ codes "bake"
bake_name = chars-IsAscii (codes "bake") (ascii (codes "bake") refl)

pub book_name : chars (codes "book") ≡ codes "book"
book_name = chars-IsAscii (codes "book") (ascii (codes "book") refl)

pub why_name : chars (codes "why") ≡ codes "why"
why_name = chars-IsAscii (codes "why") (ascii (codes "why") refl)
