-- A command as it is read: its keyword, and behind that its operands.
use Rattle.std.specs.Prelude.{◌≢◌, ℕ, List, [], ◌∷◌, Option, Some, None, codes}
use Rattle.std.specs.Borrow.{Bor}
use Rattle.std.specs.Fmt.{decimal}
use Rattle.std.specs.Str.{chars}
use Rattle.forest.specs.Forest.{Forest}
use Rattle.plain_types.specs.declared.edit.Edit.TheVariants as edit
use Rattle.plain_types.specs.declared.node.Node.{Node}
use Rattle.dump_definitions.specs.Dump.{path_text}
use Rattle.xml_definitions.specs.Spelling.{IsName}
use Rattle.xml_definitions.specs.Texts.{IsFragmentText}
use Rattle.reading.specs.Reading.{past_text}
use Rattle.xhtml_items.specs.Reading.{either_way}
use Rattle.edit_script.specs.declared.action.Action.{Action}
use Rattle.edit_script.specs.declared.action.Action.TheVariants as action
use Rattle.edit_script.specs.declared.keyword.Keyword.{Keyword}
use Rattle.edit_script.specs.declared.keyword.Keyword.TheVariants.{Insert, Remove, Move, Set, Unset, Sheet, Show}
use Rattle.edit_script.specs.Scripts.{IsPath, IsPosition, spaced}

-- how a keyword begins a line: with the space behind it, where operands follow
abbrev pub keyword_text : Keyword → List ℕ
keyword_text Insert = codes "insert "
keyword_text Remove = codes "remove "
keyword_text Move = codes "move "
keyword_text Set = codes "set "
keyword_text Unset = codes "unset "
keyword_text Sheet = codes "sheet "
keyword_text Show = codes "show"

abbrev pub found : Keyword → List ℕ → Option (Keyword × List ℕ)
found keyword operands = Some (keyword, operands)

-- the keyword at the front of a line, and what stands behind it
unfoldable pub keyword_at : List ℕ → Option (Keyword × List ℕ)
keyword_at line =
    either_way (past_text (codes "insert ") line) (λ rest. found Insert rest)
    (either_way (past_text (codes "remove ") line) (λ rest. found Remove rest)
    (either_way (past_text (codes "move ") line) (λ rest. found Move rest)
    (either_way (past_text (codes "set ") line) (λ rest. found Set rest)
    (either_way (past_text (codes "unset ") line) (λ rest. found Unset rest)
    (either_way (past_text (codes "sheet ") line) (λ rest. found Sheet rest)
    (either_way (past_text (codes "show") line) (λ rest. found Show rest) None))))))

abbrev pub keyword_view : Keyword × Bor (List ℕ) → Keyword × List ℕ
keyword_view x = (x.0, chars x.1.now)

-- behind this keyword these operands make this action
pub data AreOperands : Keyword → List ℕ → Action → Type 0 where
  of_insert : (parent : List ℕ) (index : ℕ) (markup : List ℕ) (fragment : Forest Node) → IsPath parent → IsPosition index → IsFragmentText markup fragment
      → AreOperands Insert (spaced (path_text parent ∷ decimal index ∷ markup ∷ [])) (action.Change (edit.Insert parent index fragment))
  of_remove : (path : List ℕ) → IsPath path → AreOperands Remove (path_text path) (action.Change (edit.Remove path))
  of_move : (from parent : List ℕ) (index : ℕ) → IsPath from → IsPath parent → IsPosition index
      → AreOperands Move (spaced (path_text from ∷ path_text parent ∷ decimal index ∷ [])) (action.Change (edit.Move from parent index))
  of_set : (path name value : List ℕ) → IsPath path → IsName name
      → AreOperands Set (spaced (path_text path ∷ name ∷ value ∷ [])) (action.Change (edit.SetAttr path name value))
  of_set_empty : (path name : List ℕ) → IsPath path → IsName name → AreOperands Set (spaced (path_text path ∷ name ∷ [])) (action.Change (edit.SetAttr path name []))
  of_unset : (path name : List ℕ) → IsPath path → IsName name → AreOperands Unset (spaced (path_text path ∷ name ∷ [])) (action.Change (edit.UnsetAttr path name))
  of_sheet : (name : List ℕ) → name ≢ [] → AreOperands Sheet name (action.SheetFile name)
  of_show : AreOperands Show [] action.Show
