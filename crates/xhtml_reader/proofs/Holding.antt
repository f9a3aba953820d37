-- The items that a state has read, as the grammar has them.
use Rattle.std.proofs.Common.{◌≡◌, ◌≢◌, ℕ, ◌⊎◌, true, List, [], ◌∷◌, ◌++◌, Option, Some, None, refl, sym, ap, subst, ◌∙◌, append_assoc, append-nil, inl, inr}
use Rattle.std.specs.List.{list_all}
use Rattle.std.specs.Str.{bytes_eq}
use Rattle.std.proofs.lemmas.Bool.{and_parts}
use Rattle.std.proofs.lemmas.Slice.Eq.{bytes_eq-Decides}
use Rattle.forest.specs.Forest.{Forest, Empty, Tree}
use Rattle.plain_types.specs.declared.attr.Attr.{Attr}
use Rattle.plain_types.specs.declared.node.Node.{Node}
use Rattle.plain_types.specs.declared.node.Node.TheVariants.{Element, Text}
use Rattle.xml_definitions.specs.Documents.{is_misc, AreMisc, left_by, IsElement, empty_element, whole_element, IsContent, no_content, and_characters, and_element, IsProlog, without_doctype, with_doctype, IsDocument, document}
use Rattle.xml_definitions.specs.Items.{Item, doctype, comment, instruction, start_tag, empty_tag, end_tag, reference, section, plain_character}
use Rattle.xml_definitions.specs.Nodes.{then_element, then_characters}
use Rattle.xhtml_reader.specs.declared.kind.Kind.{Kind}
use Rattle.xhtml_reader.specs.declared.kind.Kind.TheVariants.{Document, Fragment}
use Rattle.xhtml_reader.specs.Machinery.States.{Frame, frame, State, at_start, after_doctype, in_text, inside, at_end, some_state, closed_in, outside_text, leave_text, leave_nothing, step_prolog, step_doctype, step_node, step}
use Rattle.xhtml_reader.proofs.Lists.{passed}

-- the items may stand before the outermost element
abbrev pub Before : Kind → List Item → Type 0
Before Document items = IsProlog items
Before Fragment items = IsContent items Empty

-- the tree is one element
abbrev pub IsRoot : Forest Node → Type 0
IsRoot tree = (name : List ℕ) × (attrs : List Attr) × (children : Forest Node) × (tree ≡ Tree (Element name attrs) children Empty)

abbrev pub HasDoctype : List Item → Type 0
HasDoctype items = (first : List Item) × (second : List Item) × AreMisc first × AreMisc second × (items ≡ first ++ doctype ∷ second)

-- the items lead here, where no element is open
abbrev pub Top : Kind → List Item → State → Type 0
Top Document items at_start = AreMisc items
Top Document items after_doctype = HasDoctype items
Top Document items (in_text characters) = ⊥
Top Document items (inside innermost outer here) = ⊥
Top Document items (at_end tree) = IsDocument items tree
Top Fragment items at_start = IsContent items Empty
Top Fragment items after_doctype = ⊥
Top Fragment items (in_text characters) = IsContent items (Tree (Text characters) Empty Empty) × (characters ≢ [])
Top Fragment items (inside innermost outer here) = ⊥
Top Fragment items (at_end tree) = IsContent items tree × IsRoot tree

module _ (kind : Kind) where
  -- the items lead here
  pub data Holds : List Item → State → Type 0 where
    outside : (items : List Item) (s : State) → Top kind items s → Holds items s
    opened : (before : List Item) {content : List Item} {here : Forest Node} → Before kind before → (name : List ℕ) (attrs : List Attr) → IsContent content here
        → Holds (before ++ start_tag name attrs ∷ content) (inside (frame name attrs Empty) [] here)
    deeper : {outer content : List Item} {f : Frame} {frames : List Frame} {before here : Forest Node} → Holds outer (inside f frames before) → (name : List ℕ) (attrs : List Attr) → IsContent content here
        → Holds (outer ++ start_tag name attrs ∷ content) (inside (frame name attrs before) (f ∷ frames) here)

  pub led : (items : List Item) (a s : State) → some_state a ≡ some_state s → Holds items a → Holds items s
  led items a s e h = let same : a ≡ s = cc in rw (← same) h

  pub not_inside : (items : List Item) (f : Frame) (frames : List Frame) (here : Forest Node) → Top kind items (inside f frames here) → ⊥
  not_inside items f frames here t = nowhere kind items f frames here t
    where
      nowhere : (kind : Kind) (items : List Item) (f : Frame) (frames : List Frame) (here : Forest Node) → Top kind items (inside f frames here) → ⊥
      nowhere Document items f frames here t = t
      nowhere Fragment items f frames here t = t

  adds : {outer one : List Item} {f : Frame} {frames : List Frame} {before children : Forest Node} {name : List ℕ} {attrs : List Attr} → Holds outer (inside f frames before) → IsElement one name attrs children
      → Holds (outer ++ one) (inside f frames (then_element before name attrs children))
  adds (outside items s t) e = absurd (not_inside items _ _ _ t)
  adds (opened before p n a d) e = rw append_assoc (opened before p n a (and_element d e))
  adds (deeper h n a d) e = rw append_assoc (deeper h n a (and_element d e))

  leaves : {outer : List Item} {f : Frame} {frames : List Frame} {here : Forest Node} → Holds outer (inside f frames here) → (item : Item) (characters : List ℕ) → left_by item ≡ Some characters
      → Holds (outer ++ item ∷ []) (inside f frames (then_characters here characters))
  leaves (outside items s t) item characters e = absurd (not_inside items _ _ _ t)
  leaves (opened before p n a d) item characters e = rw append_assoc (opened before p n a (and_characters d item characters e))
  leaves (deeper h n a d) item characters e = rw append_assoc (deeper h n a (and_characters d item characters e))

-- the outermost element ends
root_top : (kind : Kind) (before : List Item) {root : List Item} {name : List ℕ} {attrs : List Attr} {children : Forest Node} → Before kind before → IsElement root name attrs children
    → Top kind (before ++ root) (at_end (Tree (Element name attrs) children Empty))
root_top Document before p d = rw append-nil at (document [] p d refl)
root_top Fragment before {name} {attrs} {children} p d = (and_element p d, (name, attrs, children, refl))

-- ---- an item more, before and after the root of a document

AreMisc-push : (items : List Item) (item : Item) → AreMisc items → is_misc item ≡ true → AreMisc (items ++ item ∷ [])
AreMisc-push [] item h k = rw k refl
AreMisc-push (x ∷ xs) item h k = let p = and_parts (is_misc x) (list_all is_misc xs) h in rw (p.0, AreMisc-push xs item p.1 k) refl

extended : {items : List Item} {tree : Forest Node} → IsDocument items tree → (item : Item) → is_misc item ≡ true → IsDocument (items ++ item ∷ []) tree
extended (document after p d h) item k = rw append_assoc (document (after ++ item ∷ []) p d (AreMisc-push after item h k))

-- a tag begins the root, and other items are misc
prolog_steps : (items : List Item) (s : State) → IsProlog items → (item : Item) (t : State) → step_prolog s item ≡ some_state t → ((is_misc item ≡ true) × (s ≡ t)) ⊎ Holds Document (items ++ item ∷ []) t
prolog_steps items s p doctype t e = absurd cc
prolog_steps items s p comment t e = inl (refl, cc)
prolog_steps items s p instruction t e = inl (refl, cc)
prolog_steps items s p (start_tag n a) t e = inr (led Document _ _ t e (opened items p n a no_content))
prolog_steps items s p (empty_tag n a) t e = inr (led Document _ _ t e (outside _ _ (root_top Document items p (empty_element n a))))
prolog_steps items s p (end_tag n) t e = absurd cc
prolog_steps items s p (reference c) t e = absurd cc
prolog_steps items s p (section cs) t e = absurd cc
prolog_steps items s p (plain_character c) t e = inl (passed (is_misc (plain_character c)) s t e)

start_steps : (items : List Item) → AreMisc items → (item : Item) (t : State) → step_doctype item ≡ some_state t → Holds Document (items ++ item ∷ []) t
start_steps items h item t e = first item e
  where
    other : (item : Item) → step_prolog at_start item ≡ some_state t → Holds Document (items ++ item ∷ []) t
    other item e = elim (prolog_steps items at_start (without_doctype items h) item t e) [
      | inl w ↦ rw (← w.1) (outside (items ++ item ∷ []) at_start (AreMisc-push items item h w.0))
      | inr w ↦ w
    ]

    first : (item : Item) → step_doctype item ≡ some_state t → Holds Document (items ++ item ∷ []) t
    first doctype e = led Document _ _ t e (outside (items ++ doctype ∷ []) after_doctype (items, [], h, refl, refl))
    first comment e = other comment e
    first instruction e = other instruction e
    first (start_tag n a) e = other (start_tag n a) e
    first (empty_tag n a) e = other (empty_tag n a) e
    first (end_tag n) e = absurd cc
    first (reference c) e = absurd cc
    first (section cs) e = absurd cc
    first (plain_character c) e = other (plain_character c) e

doctype_steps : (items : List Item) → HasDoctype items → (item : Item) (t : State) → step_prolog after_doctype item ≡ some_state t → Holds Document (items ++ item ∷ []) t
doctype_steps items h item t e =
    elim (prolog_steps items after_doctype (rw h.4 (with_doctype h.0 h.1 h.2 h.3)) item t e) [
      | inl w ↦ rw (← w.1) (outside (items ++ item ∷ []) after_doctype (
        h.0,
        h.1 ++ item ∷ [],
        h.2,
        AreMisc-push h.1 item h.3 w.0,
        ap (λ (t : List Item). t ++ item ∷ []) h.4 ∙ append_assoc h.0 (doctype ∷ h.1) (item ∷ []),
      ))
      | inr w ↦ w
    ]

document_steps : (items : List Item) (s : State) → Top Document items s → (item : Item) (t : State) → step Document s item ≡ some_state t → Holds Document (items ++ item ∷ []) t
document_steps items at_start h item t e = start_steps items h item t e
document_steps items after_doctype h item t e = doctype_steps items h item t e
document_steps items (in_text cs) h item t e = absurd h
document_steps items (inside f frames here) h item t e = absurd h
document_steps items (at_end tree) d item t e = let p = passed (is_misc item) (at_end tree) t e in rw (← p.1) (outside (items ++ item ∷ []) (at_end tree) (extended d item p.0))

-- ---- an item more, round the node of a fragment

text_top : (items : List Item) (characters : List ℕ) → IsContent items (then_characters Empty characters) → Top Fragment items (outside_text characters)
text_top items [] d = d
text_top items (c ∷ cs) d = (d, λ none. cc)

node_steps : (items : List Item) → IsContent items Empty → (item : Item) (t : State) → step_node item ≡ some_state t → Holds Fragment (items ++ item ∷ []) t
node_steps items d doctype t e = absurd cc
node_steps items d comment t e = led Fragment _ _ t e (outside _ at_start (and_characters d comment [] refl))
node_steps items d instruction t e = led Fragment _ _ t e (outside _ at_start (and_characters d instruction [] refl))
node_steps items d (start_tag n a) t e = led Fragment _ _ t e (opened items d n a no_content)
node_steps items d (empty_tag n a) t e = led Fragment _ _ t e (outside _ _ (root_top Fragment items d (empty_element n a)))
node_steps items d (end_tag n) t e = absurd cc
node_steps items d (reference c) t e = led Fragment _ _ t e (outside _ (in_text (c ∷ [])) (text_top _ (c ∷ []) (and_characters d (reference c) (c ∷ []) refl)))
node_steps items d (section cs) t e = led Fragment _ _ t e (outside _ (outside_text cs) (text_top _ cs (and_characters d (section cs) cs refl)))
node_steps items d (plain_character c) t e = led Fragment _ _ t e (outside _ (in_text (c ∷ [])) (text_top _ (c ∷ []) (and_characters d (plain_character c) (c ∷ []) refl)))

more_text : (items : List Item) (characters more : List ℕ) → characters ≢ [] → IsContent items (then_characters (Tree (Text characters) Empty Empty) more) → Top Fragment items (outside_text (characters ++ more))
more_text items [] more some d = absurd (some refl)
more_text items (c ∷ cs) [] some d = subst (λ (t : List ℕ). Top Fragment items (outside_text t)) (sym (append-nil (c ∷ cs))) (d, some)
more_text items (c ∷ cs) (x ∷ more) some d = (d, λ none. cc)

text_steps : (items : List Item) (characters : List ℕ) → IsContent items (Tree (Text characters) Empty Empty) → characters ≢ [] → (item : Item) (o : Option (List ℕ)) → left_by item ≡ o → (t : State)
    → leave_text characters o ≡ some_state t → Holds Fragment (items ++ item ∷ []) t
text_steps items characters d some item None left t e = absurd cc
text_steps items characters d some item (Some more) left t e =
    led Fragment _ _ t e (outside _ (outside_text (characters ++ more)) (more_text _ characters more some (and_characters d item more left)))

end_steps : (items : List Item) (tree : Forest Node) → IsContent items tree → IsRoot tree → (item : Item) (o : Option (List ℕ)) → left_by item ≡ o → (t : State)
    → leave_nothing (at_end tree) o ≡ some_state t → Holds Fragment (items ++ item ∷ []) t
end_steps items tree d root item None left t e = absurd cc
end_steps items tree d root item (Some []) left t e = led Fragment _ _ t e (outside _ (at_end tree) (and_characters d item [] left, root))
end_steps items tree d root item (Some (c ∷ cs)) left t e = absurd cc

fragment_steps : (items : List Item) (s : State) → Top Fragment items s → (item : Item) (t : State) → step Fragment s item ≡ some_state t → Holds Fragment (items ++ item ∷ []) t
fragment_steps items at_start d item t e = node_steps items d item t e
fragment_steps items after_doctype h item t e = absurd h
fragment_steps items (in_text cs) h item t e = text_steps items cs h.0 h.1 item (left_by item) refl t e
fragment_steps items (inside f frames here) h item t e = absurd h
fragment_steps items (at_end tree) h item t e = end_steps items tree h.0 h.1 item (left_by item) refl t e

outside_steps : (kind : Kind) (items : List Item) (s : State) → Top kind items s → (item : Item) (t : State) → step kind s item ≡ some_state t → Holds kind (items ++ item ∷ []) t
outside_steps Document items s h item t e = document_steps items s h item t e
outside_steps Fragment items s h item t e = fragment_steps items s h item t e

module _ (kind : Kind) where
  root_ends : (before : List Item) {root : List Item} {name : List ℕ} {attrs : List Attr} {children : Forest Node} → Before kind before → IsElement root name attrs children
      → Holds kind (before ++ root) (at_end (Tree (Element name attrs) children Empty))
  root_ends before {root} p d = outside (before ++ root) _ (root_top kind before p d)

  pub closes : {outer : List Item} {s : State} → Holds kind outer s → (f : Frame) (frames : List Frame) (here : Forest Node) → s ≡ inside f frames here
      → Holds kind (outer ++ end_tag f.name ∷ []) (closed_in frames (then_element f.before f.name f.attrs here))
  closes (outside items s t) f frames here e = absurd (not_inside kind items f frames here (rw e at t))
  closes (opened before {content} {here} p n a d) f frames nodes e =
      let same-frame : frame n a Empty ≡ f = cc in let none : [] ≡ frames = cc in let same : here ≡ nodes = cc in
      rw (← same-frame, ← none, ← same, append_assoc) (root_ends before p (whole_element n a d))
  closes (deeper {outer} {content} {f = g} {frames = gs} {before} {here} h n a d) f frames nodes e =
      let same-frame : frame n a before ≡ f = cc in let more : (g ∷ gs) ≡ frames = cc in let same : here ≡ nodes = cc in
      rw (← same-frame, ← more, ← same, append_assoc) (adds kind h (whole_element n a d))

  deepens : {outer : List Item} {f : Frame} {frames : List Frame} {here : Forest Node} → Holds kind outer (inside f frames here) → (item : Item) (t : State) → step kind (inside f frames here) item ≡ some_state t
      → Holds kind (outer ++ item ∷ []) t
  deepens h doctype t e = absurd cc
  deepens h comment t e = led kind _ _ t e (leaves kind h comment [] refl)
  deepens h instruction t e = led kind _ _ t e (leaves kind h instruction [] refl)
  deepens h (start_tag n a) t e = led kind _ _ t e (deeper h n a no_content)
  deepens h (empty_tag n a) t e = led kind _ _ t e (adds kind h (empty_element n a))
  deepens {f = f} {frames = frames} {here = here} h (end_tag n) t e =
      let p = passed (bytes_eq f.name n) (closed_in frames (then_element f.before f.name f.attrs here)) t e in
      let same = (bytes_eq-Decides f.name n).0 p.0 in
      rw (← p.1, ← same) (closes h f frames here refl)
  deepens h (reference c) t e = led kind _ _ t e (leaves kind h (reference c) (c ∷ []) refl)
  deepens h (section cs) t e = led kind _ _ t e (leaves kind h (section cs) cs refl)
  deepens h (plain_character c) t e = led kind _ _ t e (leaves kind h (plain_character c) (c ∷ []) refl)

  -- an item more
  pub steps : {items : List Item} {s : State} → Holds kind items s → (item : Item) (t : State) → step kind s item ≡ some_state t → Holds kind (items ++ item ∷ []) t
  steps (outside items s h) item t e = outside_steps kind items s h item t e
  steps (opened before p n a d) item t e = deepens (opened before p n a d) item t e
  steps (deeper h n a d) item t e = deepens (deeper h n a d) item t e
