-- Lines about a file, piece by piece.
use Rattle.std.proofs.Common.{◌≡◌, ℕ, Bool, if◌then◌else◌, List, [], ◌∷◌, ◌++◌, Option, ◌∙◌, ap, subst, sym, append_assoc, codes, encode_utf8_all}
use Rattle.std.specs.Prelude.{Some, IsTrue, ◌↔◌}
use Rattle.std.specs.List.{slice_get}
use Rattle.std.specs.Str.{bytes_eq, chars}
use Rattle.std.proofs.lemmas.Bool.Decides.{Decides-like, same_from_decides}
use Rattle.std.proofs.lemmas.Slice.Eq.{bytes_eq-Decides}
use Rattle.edit_script.specs.declared.command.Command.{Command}
use Rattle.ports.specs.Grown.{grown, GrowsByFront}
use Rattle.ports.proofs.GrownLemmas.{grown_after}
use Rattle.marker_cli.specs.declared.status.FileAt.{FileAt}
use Rattle.marker_cli.specs.declared.status.FileAt.TheVariants.{Word}
use Rattle.marker_cli.specs.Lines.{about, script_word}
use Rattle.marker_cli.specs.Names.{name_at}
use Rattle.marker_cli.specs.Words.{word}
use Rattle.marker_cli.proofs.FormLemmas.{book_name}

about-append : (words : List (List ℕ)) (commands : List Command) (file : FileAt) (what more : List ℕ) → about words commands file what ++ more ≡ about words commands file (what ++ more)
about-append words commands file what more =
    append_assoc (codes "marker: ") (encode_utf8_all (name_at words commands file) ++ what) more
    ∙ ap (λ bytes. codes "marker: " ++ bytes) (append_assoc (encode_utf8_all (name_at words commands file)) what more)

pub front_about : {before now : Option (List ℕ)} (words : List (List ℕ)) (commands : List Command) (file : FileAt) (what more : List ℕ)
    → GrowsByFront before now (about words commands file what ++ more) → GrowsByFront before now (about words commands file (what ++ more))
front_about {before} {now} words commands file what more grows = subst (λ bytes. GrowsByFront before now bytes) (about-append words commands file what more) grows

pub grown_about : (before now after : Option (List ℕ)) (words : List (List ℕ)) (commands : List Command) (file : FileAt) (what more : List ℕ)
    → now ≡ grown before (about words commands file what) → after ≡ grown now more → after ≡ grown before (about words commands file (what ++ more))
grown_about before now after words commands file what more first second =
    grown_after before now after (about words commands file what) more first second ∙ ap (λ bytes. grown before bytes) (about-append words commands file what more)

-- the word that names the script

first_of : (words : List (List ℕ)) (first : List ℕ) → Some first ≡ slice_get words 0 → word words 0 ≡ first
first_of [] first is = absurd (cc is)
first_of (a ∷ words) first is = let same : first ≡ a = cc is in sym same

module _ (words : List (List ℕ)) (first : List ℕ) (is : Some first ≡ slice_get words 0) (answer : Bool) (same : IsTrue answer ↔ (first ≡ chars (codes "book"))) where
  answers : answer ≡ bytes_eq (word words 0) (codes "book")
  answers =
      same_from_decides answer (bytes_eq (word words 0) (codes "book")) same
      (Decides-like (bytes_eq (word words 0) (codes "book")) (λ e. sym (first_of words first is) ∙ e ∙ sym book_name) (λ e. first_of words first is ∙ e ∙ book_name)
      (bytes_eq-Decides (word words 0) (codes "book")))

  pub script_of : (b : Bool) → answer ≡ b → Word (if b then 2 else 3) ≡ script_word words
  script_of b e = ap (λ c. Word (if c then 2 else 3)) (sym e ∙ answers)
