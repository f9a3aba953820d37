use Rattle.std.proofs.Common.{◌≡◌, ℕ, Bool, true, false, List, sym, ◌∙◌, ap, refl, encode_utf8_all, if◌then◌else◌, ◌<◌, ◌+◌, length, get_or, drop, add-one, drop-cons}
use Rattle.std.specs.Prelude.{Some}
use Rattle.std.specs.Bool.{Decides}
use Rattle.std.specs.Str.{IsUtf8, bytes_eq, chars}
use Rattle.ports.specs.Files.{look_up}
use Rattle.ports.specs.declared.named_file.NamedFile.{NamedFile}
use Rattle.std.proofs.lemmas.Str.{encodes-chars}
use Rattle.std.proofs.lemmas.Bool.Decides.{Decides-at, Decides-like, same_from_decides}
use Rattle.std.proofs.lemmas.Slice.Eq.{bytes_eq-Decides}

-- what `==` of two texts says of their characters
pub same_text : (answer : Bool) (xs ys cs : List ℕ) → IsUtf8 ys → xs ≡ encode_utf8_all cs → chars xs ≡ cs → answer ≡ bytes_eq xs ys
    → Decides answer (cs ≡ chars ys)
same_text answer xs ys cs utf8 bytes characters is =
    Decides-at answer (bytes_eq xs ys) is
    (Decides-like (bytes_eq xs ys) (λ e. sym characters ∙ ap chars e) (λ e. bytes ∙ ap encode_utf8_all e ∙ encodes-chars ys utf8) (bytes_eq-Decides xs ys))

-- the test of two names
pub name_test : (answer : Bool) (xs ys : List ℕ) → Decides answer (xs ≡ ys) → bytes_eq xs ys ≡ answer
name_test answer xs ys both = same_from_decides (bytes_eq xs ys) answer (bytes_eq-Decides xs ys) both

-- one file of a shelf
look_next : (files : List NamedFile) (name : List ℕ) (place : ℕ) (file : NamedFile) → place < length files → file ≡ get_or files place file
    → look_up (drop place files) name ≡ (if bytes_eq file.name name then Some file.bytes else look_up (drop (place + 1) files) name)
look_next files name place file below is =
    rw (add-one, drop-cons files place file below, ← is) refl

pub look_found : (files : List NamedFile) (name bytes : List ℕ) (place : ℕ) (file : NamedFile) (answer : Bool) → place < length files → file ≡ get_or files place file
    → Decides answer (file.name ≡ name) → answer ≡ true → bytes ≡ file.bytes
    → look_up files name ≡ look_up (drop place files) name → Some bytes ≡ look_up files name
look_found files name bytes place file answer below is both found held so_far =
    let same = name_test answer file.name name both ∙ found in
    ap Some held ∙ sym (so_far ∙ look_next files name place file below is ∙ ap (λ b. if b then Some file.bytes else look_up (drop (place + 1) files) name) same)

pub look_on : (files : List NamedFile) (name : List ℕ) (place : ℕ) (file : NamedFile) (answer : Bool) → place < length files → file ≡ get_or files place file
    → Decides answer (file.name ≡ name) → answer ≡ false
    → look_up files name ≡ look_up (drop place files) name → look_up files name ≡ look_up (drop (place + 1) files) name
look_on files name place file answer below is both missed so_far =
    let other = name_test answer file.name name both ∙ missed in
    so_far ∙ look_next files name place file below is ∙ ap (λ b. if b then Some file.bytes else look_up (drop (place + 1) files) name) other
