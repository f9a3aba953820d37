-- The line that tells a status (our own).
use Rattle.std.specs.Prelude.{◌≡◌, ℕ, List, [], ◌++◌, Option, codes, encode_utf8_all, if◌then◌else◌}
use Rattle.std.specs.Fmt.{decimal}
use Rattle.std.specs.Str.{bytes_eq}
use Rattle.edit_script.specs.declared.command.Command.{Command}
use Rattle.ports.specs.Grown.{grown, GrowsByFront}
use Rattle.marker_cli.specs.declared.status.FileAt.{FileAt}
use Rattle.marker_cli.specs.declared.status.FileAt.TheVariants.{Word}
use Rattle.marker_cli.specs.declared.status.Status.{Status}
use Rattle.marker_cli.specs.declared.status.Status.TheVariants as status
use Rattle.marker_cli.specs.Names.{name_at}
use Rattle.marker_cli.specs.Words.{word}

-- the number with which the program exits
abbrev pub code_of : Status → ℕ
code_of status.Ok = 0
code_of status.Memory = 1
code_of status.Usage = 2
code_of (status.ReadFault file) = 3
code_of (status.TooLarge file) = 4
code_of (status.NotUtf8 file offset) = 5
code_of (status.BadDocument line column) = 6
code_of (status.BadScript number) = 7
code_of status.WriteFault = 8
code_of (status.BadPart file line column) = 10
code_of (status.LeftOut count) = 11

-- a line about a file
abbrev pub about : List (List ℕ) → List Command → FileAt → List ℕ → List ℕ
about words commands file what = codes "marker: " ++ (encode_utf8_all (name_at words commands file) ++ what)

-- the word that names the script: in those of a book it stands before the documents
abbrev pub script_word : List (List ℕ) → FileAt
script_word words = Word (if bytes_eq (word words 0) (codes "book") then 2 else 3)

-- a text is no document, and the place where it fails
abbrev pub not_well_formed : ℕ → ℕ → List ℕ
not_well_formed row column = codes ":" ++ ((decimal row ++ codes ":") ++ (decimal column ++ codes ": not well-formed\n"))

-- The bytes of the line; Ok has none. The commands of the script have the names of the files of its lines.
abbrev pub message : List (List ℕ) → List Command → Status → List ℕ
message words commands status.Ok = []
message words commands status.Memory = codes "marker: out of memory\n"
message words commands status.Usage = codes "marker: usage: dump DOC SHEET | edit DOC SHEET SCRIPT | table SHEET STYLE FROM TO | gen SEED COUNT | history DOC SHEET SCRIPT DEPTH | text DOC SHEET | why DOC SHEET PATH | bake DOC SHEET | book SHEET SCRIPT DOC...\n"
message words commands (status.ReadFault file) = about words commands file (codes ": read failed\n")
message words commands (status.TooLarge file) = about words commands file (codes ": larger than 16777216 bytes\n")
message words commands (status.NotUtf8 file offset) = about words commands file (codes ": not UTF-8 at " ++ (decimal offset ++ codes "\n"))
message words commands (status.BadDocument row column) = about words commands (Word 1) (not_well_formed row column)
message words commands (status.BadPart file row column) = about words commands file (not_well_formed row column)
message words commands (status.BadScript number) = about words commands (script_word words) (codes ":" ++ (decimal number ++ codes ": bad line\n"))
message words commands status.WriteFault = codes "marker: write failed\n"
message words commands (status.LeftOut count) = about words commands (Word 1) (codes ": texts without a place: " ++ (decimal count ++ codes "\n"))

-- all of the bytes went out, or a front of them where a call failed
pub data GoesOut (failed : Type 0) (before now : Option (List ℕ)) (bytes : List ℕ) : Type 0 where
  all_of : now ≡ grown before bytes → GoesOut failed before now bytes
  front_of : failed → GrowsByFront before now bytes → GoesOut failed before now bytes
