-- Laws of changed lines.
use Rattle.std.specs.Prelude.{◌≡◌, ℕ, Bool, false, Option, IsPermutation, filter, flat_map, map}
use Rattle.forest.specs.Forest.{Forest}
use Rattle.forest.specs.Keys.{Keyed, keys}
use Rattle.forest.specs.Paths.{path_of}
use Rattle.forest.specs.Spots.{IsLive}
use Rattle.plain_types.specs.declared.box_kind.BoxKind.{BoxKind}
use Rattle.plain_types.specs.declared.node.Node.{Node}
use Rattle.node_arena.specs.Document.{IsKeyedDocument}
use Rattle.dump_definitions.specs.Dump.{Line, dump}
use Rattle.generated_texts.specs.Lines.{keyed_lines}
use Rattle.generated_texts.specs.declared.entry.NodeEntry.{NodeEntry}
use Rattle.edit_work.specs.KeyedSources.{KeyedSource}
use Rattle.changed_lines.specs.declared.changed_line.ChangedLine.{ChangedLine}
use Rattle.changed_lines.specs.Changes.{changed_lines, entry_in, lines_at, lines_between}
use Rattle.changed_lines.specs.Dumps.{lines_with, replayed, text_in}
use Rattle.changed_lines.specs.Listings.{lines_from_nothing, listed_lines, shown_line, stands_first}
use Rattle.changed_lines.specs.Replays.{put_in}
use Rattle.changed_lines.specs.ShownTexts.{shown_text}

-- Who holds the texts of a document by their elements has those of the edited one once the changed lines are put in.
abbrev pub ChangedLinesReplay : Type 0
ChangedLinesReplay =
    (old new : KeyedSource) (key : ℕ) (kind : BoxKind) → IsKeyedDocument new.tree → IsLive new.tree key
    → put_in (changed_lines old new) (path_of new.tree key) kind (shown_text kind (entry_in old key)) ≡ shown_text kind (entry_in new key)

-- So has who holds its lines by their places: once their paths are moved by the edit and the changed lines are put in, they
-- give each box of the edited document the text that its lines give it.
abbrev pub LinesReplay : Type 0
LinesReplay =
    (old new : KeyedSource) (key : ℕ) (kind : BoxKind) → IsKeyedDocument old.tree → IsKeyedDocument new.tree → IsLive new.tree key
    → text_in (keyed_lines new.sheet new.tree) (path_of new.tree key) kind ≡ replayed old new (path_of new.tree key) kind

-- The dump before the edit, its paths moved and the changed lines put in, is the dump after it.
abbrev pub DumpsReplay : Type 0
DumpsReplay =
    (old new : KeyedSource) → IsKeyedDocument old.tree → IsKeyedDocument new.tree
    → dump (keyed_lines new.sheet new.tree) ≡ dump (lines_with new.tree (replayed old new) new.tree)

-- Where the same is kept of all elements but those of some keys, the lines are those of these keys, in tree order.
abbrev pub OthersHaveNoLines : Type 0
OthersHaveNoLines =
    (document : Forest (Keyed Node)) (before after : ℕ → Option NodeEntry) (is_other : ℕ → Bool)
    → ((key : ℕ) → is_other key ≡ false → before key ≡ after key)
    → lines_between document before after ≡ flat_map (lines_at document before after) (filter is_other (keys document))

-- All lines that are told of a document are those of its dump, each once.
abbrev pub AllLinesAreOfTheDump : Type 0
AllLinesAreOfTheDump = (source : KeyedSource) → IsPermutation (lines_from_nothing source) (map shown_line (keyed_lines source.sheet source.tree))

-- But for those of after boxes they have the order of the dump.
abbrev pub AllLinesAreInOrder : Type 0
AllLinesAreInOrder =
    (source : KeyedSource)
    → filter (λ (line : ChangedLine). stands_first line.kind) (lines_from_nothing source)
    ≡ map shown_line (filter (λ (line : Line). stands_first line.kind) (keyed_lines source.sheet source.tree))

-- And the line of an after box stands behind the others of its element, before those of the children.
abbrev pub AllLinesAreByElements : Type 0
AllLinesAreByElements = (source : KeyedSource) → lines_from_nothing source ≡ map shown_line (listed_lines source.tree (entry_in source) source.tree)
