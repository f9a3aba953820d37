use Rattle.std.proofs.Common.{◌≡◌, ℕ, ◌+◌, ◌≤◌, min, length, take, take-add, List, [], ◌++◌, Option, IfSome, refl, sym, ◌∙◌, ap, arith, length-take, length-append}
use Rattle.std.specs.Prelude.{Some, None}
use Rattle.ports.specs.Files.{Files, Reads}

-- these bytes are a front of the file; of no file nothing was read
abbrev pub HasFront : Option (List ℕ) → List ℕ → Type 0
HasFront None bytes = length bytes ≡ 0
HasFront (Some file) bytes = (bytes ≡ take (length bytes) file) × (length bytes ≤ length file)

-- one more read
pub front_more : (file : Option (List ℕ)) (bytes buffer : List ℕ) (count : ℕ) → HasFront file bytes → Reads file (length bytes) buffer count
    → count ≤ length buffer → HasFront file (bytes ++ take count buffer)
front_more None bytes buffer count front read fits = absurd read
front_more (Some file) bytes buffer count front read fits =
    let counted : length (take count buffer) ≡ count = length-take count buffer ∙ omega arith in
    let all : length (bytes ++ take count buffer) ≡ length bytes + count = length-append bytes (take count buffer) ∙ ap (λ n. length bytes + n) counted in
    let within = read.within in
    let known = front.1 in (
      ap (λ xs. xs ++ take count buffer) front.0
          ∙ ap (λ xs. take (length bytes) file ++ xs) read.front
          ∙ sym (take-add (length bytes) count file)
          ∙ ap (λ n. take n file) (sym all),
      omega arith,
    )

-- nothing was read yet
front_of_none : (file : Option (List ℕ)) → HasFront file []
front_of_none None = refl
front_of_none (Some file) = (refl, omega arith)

pub front_none : (held : Option Files) (name : List ℕ) (bytes : List ℕ) → bytes ≡ [] → IfSome held (λ files. HasFront (files name) bytes)
front_none None name bytes none = tt
front_none (Some files) name bytes none = rw none (front_of_none (files name))

-- one more read of what is told
pub told_more : (held before : Option Files) (name bytes buffer more : List ℕ) (at count : ℕ) → before ≡ held → at ≡ length bytes
    → IfSome held (λ files. HasFront (files name) bytes)
    → IfSome before (λ files. Reads (files name) at buffer count) → count ≤ length buffer
    → more ≡ bytes ++ take count buffer → IfSome held (λ files. HasFront (files name) more)
told_more None before name bytes buffer more at count same place front read fits is = tt
told_more (Some files) before name bytes buffer more at count same place front read fits is =
    let told = rw (same, place) at read in
    rw is (front_more (files name) bytes buffer count front told fits)

-- so many bytes more
pub length_more : (more bytes buffer : List ℕ) (count : ℕ) → more ≡ bytes ++ take count buffer → count ≤ length buffer → length more ≡ length bytes + count
length_more more bytes buffer count is fits =
    ap length is ∙ length-append bytes (take count buffer) ∙ ap (λ n. length bytes + n) (length-take count buffer ∙ counted)
  where
    counted : min count (length buffer) ≡ count
    counted = omega arith
