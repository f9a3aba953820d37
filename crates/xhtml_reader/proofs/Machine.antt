-- What elements and content do to a state.
use Rattle.std.proofs.Common.{◌≡◌, ℕ, true, List, [], ◌∷◌, ◌++◌, Option, Some, None, refl, ap, ◌∙◌}
use Rattle.std.specs.Str.{bytes_eq}
use Rattle.std.proofs.lemmas.Slice.Eq.{bytes_eq-Decides}
use Rattle.forest.specs.Forest.{Forest, Empty, Tree}
use Rattle.plain_types.specs.declared.attr.Attr.{Attr}
use Rattle.plain_types.specs.declared.node.Node.{Node}
use Rattle.plain_types.specs.declared.node.Node.TheVariants.{Element}
use Rattle.xml_definitions.specs.Documents.{left_by, IsElement, empty_element, whole_element, IsContent, no_content, and_characters, and_element}
use Rattle.xml_definitions.specs.Items.{Item, doctype, comment, instruction, start_tag, empty_tag, end_tag, reference, section, plain_character}
use Rattle.xml_definitions.specs.Nodes.{then_element, then_characters}
use Rattle.xhtml_reader.specs.declared.kind.Kind.{Kind}
use Rattle.xhtml_reader.specs.Machinery.States.{Frame, frame, State, inside, at_end, some_state, step, run}

pub same_name : (name : List ℕ) → bytes_eq name name ≡ true
same_name name = (bytes_eq-Decides name name).1 refl

pub character_steps : (kind : Kind) (item : Item) (characters : List ℕ) → left_by item ≡ Some characters → (f : Frame) (frames : List Frame) (here : Forest Node)
    → step kind (inside f frames here) item ≡ some_state (inside f frames (then_characters here characters))
character_steps kind doctype characters e f frames here = absurd cc
character_steps kind comment characters e f frames here = let is : [] ≡ characters = cc in rw (← is) refl
character_steps kind instruction characters e f frames here = let is : [] ≡ characters = cc in rw (← is) refl
character_steps kind (start_tag n a) characters e f frames here = absurd cc
character_steps kind (empty_tag n a) characters e f frames here = absurd cc
character_steps kind (end_tag n) characters e f frames here = absurd cc
character_steps kind (reference c) characters e f frames here = let is : c ∷ [] ≡ characters = cc in rw (← is) refl
character_steps kind (section cs) characters e f frames here = let is : cs ≡ characters = cc in rw (← is) refl
character_steps kind (plain_character c) characters e f frames here = let is : c ∷ [] ≡ characters = cc in rw (← is) refl

module _ (kind : Kind) where
  pub run-append : (s : Option State) (xs ys : List Item) → run kind s (xs ++ ys) ≡ run kind (run kind s xs) ys
  run-append s [] ys = refl
  run-append None (x ∷ xs) [] = refl
  run-append None (x ∷ xs) (y ∷ ys) = refl
  run-append (Some s) (x ∷ xs) ys = run-append (step kind s x) xs ys

  pub survives : (o : Option State) (items : List Item) (s : State) → run kind o items ≡ some_state s → (t : State) × (o ≡ some_state t)
  survives (Some t) items s e = (t, refl)
  survives None [] s e = absurd cc
  survives None (item ∷ items) s e = absurd cc

  mutual
    pub content_runs : {items : List Item} {nodes : Forest Node} → IsContent items nodes → (f : Frame) (frames : List Frame) → run kind (Some (inside f frames Empty)) items ≡ some_state (inside f frames nodes)
    content_runs no_content f frames = refl
    content_runs (and_characters {before} {nodes} d item characters e) f frames = rw (run-append _ before (item ∷ []), content_runs d f frames, character_steps kind item characters e f frames nodes) refl
    content_runs (and_element {before} {one} {nodes} {children} {name} {attrs} d e) f frames = rw (run-append _ before one, content_runs d f frames) (element_runs e f frames nodes)

    pub element_runs : {items : List Item} {name : List ℕ} {attrs : List Attr} {children : Forest Node} → IsElement items name attrs children → (f : Frame) (frames : List Frame) (here : Forest Node)
        → run kind (Some (inside f frames here)) items ≡ some_state (inside f frames (then_element here name attrs children))
    element_runs (empty_element name attrs) f frames here = refl
    element_runs (whole_element name attrs {inside = content} {children} d) f frames here =
        rw (run-append _ content (end_tag name ∷ []), content_runs d (frame name attrs here) (f ∷ frames), same_name name) refl

  -- the outermost element, where it may stand
  pub root_runs : {items : List Item} {name : List ℕ} {attrs : List Attr} {children : Forest Node} → IsElement items name attrs children → (s : State)
      → step kind s (start_tag name attrs) ≡ some_state (inside (frame name attrs Empty) [] Empty)
      → step kind s (empty_tag name attrs) ≡ some_state (at_end (Tree (Element name attrs) Empty Empty))
      → run kind (Some s) items ≡ some_state (at_end (Tree (Element name attrs) children Empty))
  root_runs (empty_element name attrs) s starts is_empty = ap (λ (o : Option State). run kind o []) is_empty
  root_runs (whole_element name attrs {inside = content} {children} d) s starts is_empty =
      ap (λ (o : Option State). run kind o (content ++ end_tag name ∷ [])) starts
      ∙ rw (run-append _ content (end_tag name ∷ []), content_runs d (frame name attrs Empty) [], same_name name) refl
