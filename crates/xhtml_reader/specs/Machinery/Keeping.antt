-- What the reader keeps of a state.
use Rattle.std.specs.Prelude.{◌≡◌, ◌≢◌, ℕ, Bool, true, false, ◌||◌, ◌&&◌, ◌==◌, not, cond, MatchBool, MatchOption, Option, List, [], ◌∷◌, ◌++◌, length, map, Some, None, encode_utf8_all}
use Rattle.std.specs.Borrow.{Bor}
use Rattle.std.specs.Str.{chars}
use Rattle.forest.specs.Forest.{Forest, Empty, Tree}
use Rattle.plain_types.specs.Building.{Building, accepts_node, is_inside}
use Rattle.plain_types.specs.Rows.{row, rows}
use Rattle.plain_types.specs.declared.node.Node.{Node}
use Rattle.plain_types.specs.declared.node.Node.TheVariants.{Element, Text}
use Rattle.plain_types.specs.declared.row.Row.{Row}
use Rattle.xml_definitions.specs.Items.{Item}
use Rattle.xml_definitions.specs.Nodes.{then_characters}
use Rattle.plain_types.specs.Tree.{HasDistinctNames}
use Rattle.xhtml_items.specs.declared.token.Token.{Token}
use Rattle.xhtml_items.specs.declared.token.Token.TheVariants.{Doctype, Comment, Instruction, StartTag, EmptyTag, EndTag, Reference, Section, Character}
use Rattle.xhtml_reader.specs.Machinery.States.{Frame, State, at_start, after_doctype, in_text, inside, at_end, IsFinal, step}
use Rattle.xhtml_reader.specs.Machinery.Leading.{Leads, Stops}
use Rattle.xhtml_reader.specs.declared.kind.Kind.{Kind}
use Rattle.xhtml_reader.specs.declared.kind.Kind.TheVariants.{Document, Fragment}
use Rattle.xhtml_reader.specs.declared.open_tree.OpenTree.{OpenTree}

-- What is read, whether its doctype has come, the nodes built so far, the names of the open elements in
-- UTF-8, the outermost first, and the characters that wait for a text.
pub record Kept : Type 0 where
  pub kind : Kind
  pub has_doctype : Bool
  pub built : Building
  pub names : List (List ℕ)
  pub waiting : List ℕ

abbrev pub name_bytes : List (Bor (List ℕ)) → List (List ℕ)
name_bytes names = map (λ (name : Bor (List ℕ)). name.now) names

abbrev pub kept : OpenTree → Kept
kept tree = record { kind = tree.kind; has_doctype = tree.has_doctype; built = tree.builder; names = name_bytes tree.names.items; waiting = tree.characters }

abbrev pub built_of : List Row → ℕ → Building
built_of all begun = record { rows = all; inside = begun }

-- what is kept where no element is open
abbrev pub kept_outside : Kind → Bool → List Row → List ℕ → Kept
kept_outside kind has_doctype all waiting = record { kind = kind; has_doctype = has_doctype; built = built_of all 0; names = []; waiting = waiting }

abbrev pub ends_in_text : Forest Node → Bool
ends_in_text Empty = false
ends_in_text (Tree (Element name attrs) children Empty) = false
ends_in_text (Tree (Text characters) children Empty) = true
ends_in_text (Tree node children (Tree next inner after)) = ends_in_text (Tree next inner after)

abbrev pub names_of : List Frame → List (List ℕ)
names_of [] = []
names_of (innermost ∷ outer) = names_of outer ++ encode_utf8_all innermost.name ∷ []

-- the rows up to the start of the innermost open element
abbrev pub rows_before : List Frame → List Row
rows_before [] = []
rows_before (innermost ∷ outer) = rows_before outer ++ (rows (length outer) innermost.before ++ row (length outer) (Element innermost.name innermost.attrs) ∷ [])

-- characters as a text, if there are some
abbrev pub text_rows : ℕ → List ℕ → List Row
text_rows depth [] = []
text_rows depth (first ∷ rest) = row depth (Text (first ∷ rest)) ∷ []

abbrev pub with_text : Building → List ℕ → Building
with_text built characters = built_of (built.rows ++ text_rows built.inside characters) built.inside

abbrev pub is_fragment : Kind → Bool
is_fragment Document = false
is_fragment Fragment = true

-- an element may come: inside of an element, or as the first node
abbrev pub accepts_element : Kept → Bool
accepts_element all = is_inside all.built || (accepts_node all.built && length all.waiting == 0)

-- characters may come, some or none: inside of an element, or as the node of a fragment
abbrev pub accepts_characters : Kept → Bool → Bool
accepts_characters all are_some = is_inside all.built || (is_fragment all.kind && (not are_some || accepts_node all.built))

-- a doctype may come
abbrev pub accepts_doctype : Kept → Bool
accepts_doctype all = not (is_fragment all.kind) && (not all.has_doctype && (accepts_node all.built && not (is_inside all.built)))

-- the nodes once the characters that wait are a node of their own, where one may come
abbrev pub with_last_text : Kept → Building
with_last_text all = cond (accepts_node all.built && not (is_inside all.built)) (with_text all.built all.waiting) all.built

pub record KeepsInside (all : Kept) (frames : List Frame) (here : Forest Node) : Type 0 where
  pub done : Forest Node
  pub here_is : here ≡ then_characters done all.waiting
  pub no_text : ends_in_text done ≡ false
  pub names_are : all.names ≡ names_of frames
  pub built_is : all.built ≡ built_of (rows_before frames ++ rows (length frames) done) (length frames)

abbrev pub Keeps : Kept → State → Type 0
Keeps all at_start = all ≡ kept_outside all.kind false [] []
Keeps all after_doctype = all ≡ kept_outside Document true [] []
Keeps all (in_text characters) = (all ≡ kept_outside Fragment false [] characters) × (characters ≢ [])
Keeps all (inside innermost outer here) = KeepsInside all (innermost ∷ outer) here
Keeps all (at_end tree) = (all ≡ kept_outside all.kind all.has_doctype (rows 0 tree) []) × (tree ≢ Empty)

-- the item fits, and was added; or it does not fit
abbrev pub Adds : Kept → Item → Bool → Kept → Type 0
Adds old item fits new =
    (state : State) → Keeps old state → MatchBool fits ((next : State) × (step old.kind state item ≡ Some next) × Keeps new next) (step old.kind state item ≡ None)

-- the attributes of a tag have distinct names
abbrev pub HasSoundNames : Token → Type 0
HasSoundNames Doctype = Unit {0}
HasSoundNames Comment = Unit {0}
HasSoundNames Instruction = Unit {0}
HasSoundNames (StartTag name attrs) = HasDistinctNames attrs
HasSoundNames (EmptyTag name attrs) = HasDistinctNames attrs
HasSoundNames (EndTag name) = Unit {0}
HasSoundNames (Reference character) = Unit {0}
HasSoundNames (Section characters) = Unit {0}
HasSoundNames (Character character) = Unit {0}

abbrev pub chars_of : Option (Bor (List ℕ)) → Option (List ℕ)
chars_of None = None
chars_of (Some text) = Some (chars text.now)

-- what the text goes on with fits, and was added, and then comes the text after it; or it does not fit
abbrev pub Advances : Kept → List ℕ → Option (List ℕ) → Kept → Type 0
Advances old text result new =
    (state : State) → Keeps old state → MatchOption result (Stops old.kind text state) (λ after. (next : State) × Leads old.kind text state after next × Keeps new next)

-- the tree is this one; or it may not end here
abbrev pub Finishes : Kept → Option (Forest Node) → Type 0
Finishes all result =
    (state : State) → Keeps all state → MatchOption result ((tree : Forest Node) → IsFinal state tree → ⊥) (λ tree. IsFinal state tree)
