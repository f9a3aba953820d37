-- The items of a whole document or fragment lead to its end.
use Rattle.std.proofs.Common.{◌≡◌, ◌≢◌, ℕ, ◌⊎◌, true, List, [], ◌∷◌, ◌++◌, Option, Some, refl, sym, ap, ◌∙◌, append-nil, inl, inr}
use Rattle.std.specs.List.{list_all}
use Rattle.std.proofs.lemmas.Bool.{and_parts}
use Rattle.forest.specs.Forest.{Forest, Empty, Tree, then_tree}
use Rattle.plain_types.specs.Tree.{IsOne}
use Rattle.plain_types.specs.declared.attr.Attr.{Attr}
use Rattle.plain_types.specs.declared.node.Node.{Node}
use Rattle.plain_types.specs.declared.node.Node.TheVariants.{Element, Text}
use Rattle.xml_definitions.specs.Documents.{is_misc, AreMisc, left_by, IsElement, IsContent, no_content, and_characters, and_element, IsProlog, without_doctype, with_doctype, IsDocument, document}
use Rattle.xml_definitions.specs.Fragments.{IsFragment}
use Rattle.xml_definitions.specs.Items.{Item, doctype, comment, instruction, start_tag, empty_tag, end_tag, reference, section, plain_character}
use Rattle.xml_definitions.specs.Nodes.{then_element, then_some_characters, then_characters}
use Rattle.xhtml_reader.specs.declared.kind.Kind.{Kind}
use Rattle.xhtml_reader.specs.declared.kind.Kind.TheVariants.{Document, Fragment}
use Rattle.xhtml_reader.specs.Machinery.States.{State, at_start, after_doctype, in_text, inside, at_end, some_state, outside_text, IsFinal, allows, step, run}
use Rattle.xhtml_reader.proofs.Machine.{run-append, root_runs}

-- a whole text leads to a state whose tree is this one
abbrev pub Ends : Kind → List Item → Forest Node → Type 0
Ends kind items tree = (s : State) × (run kind (Some at_start) items ≡ some_state s) × IsFinal s tree

-- ---- documents

start_misc : (item : Item) → is_misc item ≡ true → step Document at_start item ≡ some_state at_start
start_misc doctype h = absurd cc
start_misc comment h = refl
start_misc instruction h = refl
start_misc (start_tag n a) h = absurd cc
start_misc (empty_tag n a) h = absurd cc
start_misc (end_tag n) h = absurd cc
start_misc (reference c) h = absurd cc
start_misc (section cs) h = absurd cc
start_misc (plain_character c) h = rw h refl

doctype_misc : (item : Item) → is_misc item ≡ true → step Document after_doctype item ≡ some_state after_doctype
doctype_misc doctype h = absurd cc
doctype_misc comment h = refl
doctype_misc instruction h = refl
doctype_misc (start_tag n a) h = absurd cc
doctype_misc (empty_tag n a) h = absurd cc
doctype_misc (end_tag n) h = absurd cc
doctype_misc (reference c) h = absurd cc
doctype_misc (section cs) h = absurd cc
doctype_misc (plain_character c) h = rw h refl

-- misc items leave such a state as it is
abbrev pub IsPatient : State → Type 0
IsPatient s = (item : Item) → is_misc item ≡ true → step Document s item ≡ some_state s

pub at_start_patient : IsPatient at_start
at_start_patient item h = start_misc item h

pub after_doctype_patient : IsPatient after_doctype
after_doctype_patient item h = doctype_misc item h

pub at_end_patient : (tree : Forest Node) → IsPatient (at_end tree)
at_end_patient tree item h = rw h refl

misc_runs : (items : List Item) → AreMisc items → (s : State) → IsPatient s → run Document (Some s) items ≡ some_state s
misc_runs [] h s patient = refl
misc_runs (item ∷ items) h s patient =
    let p = and_parts (is_misc item) (list_all is_misc items) h in
    ap (λ (o : Option State). run Document o items) (patient item p.0) ∙ misc_runs items p.1 s patient

abbrev IsBefore : State → Type 0
IsBefore s = (s ≡ at_start) ⊎ (s ≡ after_doctype)

prolog_runs : {items : List Item} → IsProlog items → (s : State) × (run Document (Some at_start) items ≡ some_state s) × IsBefore s
prolog_runs (without_doctype misc h) = (at_start, misc_runs misc h at_start at_start_patient, inl refl)
prolog_runs (with_doctype first second h k) = (
  after_doctype,
  run-append Document (Some at_start) first (doctype ∷ second)
      ∙ ap (λ (o : Option State). run Document o (doctype ∷ second)) (misc_runs first h at_start at_start_patient)
      ∙ misc_runs second k after_doctype after_doctype_patient,
  inr refl,
)

outermost : {items : List Item} {name : List ℕ} {attrs : List Attr} {children : Forest Node} → IsElement items name attrs children → (s : State) → IsBefore s
    → run Document (Some s) items ≡ some_state (at_end (Tree (Element name attrs) children Empty))
outermost d s before = elim before [ inl e ↦ rw e (root_runs Document d at_start refl refl) | inr e ↦ rw e (root_runs Document d after_doctype refl refl) ]

document_runs : {items : List Item} {tree : Forest Node} → IsDocument items tree → run Document (Some at_start) items ≡ some_state (at_end tree)
document_runs (document {before} {root} after {name} {attrs} {children} p d h) =
    let q = prolog_runs p in
    run-append Document (Some at_start) (before ++ root) after
    ∙ ap (λ (o : Option State). run Document o after) (run-append Document (Some at_start) before root ∙ ap (λ (o : Option State). run Document o root) q.1 ∙ outermost d q.0 q.2)
    ∙ misc_runs after h (at_end (Tree (Element name attrs) children Empty)) (at_end_patient (Tree (Element name attrs) children Empty))

-- ---- fragments

abbrev IsFew : Forest Node → Type 0
IsFew Empty = Unit {0}
IsFew (Tree root children after) = after ≡ Empty

-- where content of at most one node leads
abbrev Leads : State → Forest Node → Type 0
Leads at_start nodes = nodes ≡ Empty
Leads after_doctype nodes = ⊥
Leads (in_text characters) nodes = (nodes ≡ Tree (Text characters) Empty Empty) × (characters ≢ [])
Leads (inside innermost outer here) nodes = ⊥
Leads (at_end tree) nodes = (nodes ≡ tree) × ((name : List ℕ) × (attrs : List Attr) × (children : Forest Node) × (tree ≡ Tree (Element name attrs) children Empty))

few_characters : (nodes : Forest Node) (c : ℕ) (cs : List ℕ) → IsFew (then_some_characters nodes (c ∷ cs)) → IsFew nodes
few_characters Empty c cs few = tt
few_characters (Tree node children Empty) c cs few = refl
few_characters (Tree node children (Tree next inner after)) c cs few = absurd (let bad = few in not_none next inner after (c ∷ cs) few)
  where
    not_none : (next : Node) (inner after : Forest Node) (cs : List ℕ) → then_some_characters (Tree next inner after) cs ≢ Empty
    not_none (Element name attrs) inner Empty cs e = cc
    not_none (Text before) inner Empty cs e = cc
    not_none next inner (Tree n i a) cs e = cc

few_before : (nodes : Forest Node) (characters : List ℕ) → IsFew (then_characters nodes characters) → IsFew nodes
few_before nodes [] few = few
few_before nodes (c ∷ cs) few = few_characters nodes c cs few

none_before : (nodes : Forest Node) (name : List ℕ) (attrs : List Attr) (children : Forest Node) → IsFew (then_element nodes name attrs children) → nodes ≡ Empty
none_before Empty name attrs children few = refl
none_before (Tree node inner after) name attrs children few = absurd (not_none after few)
  where
    not_none : (after : Forest Node) → then_tree after (Element name attrs) children ≢ Empty
    not_none Empty e = cc
    not_none (Tree n i a) e = cc

-- an item that leaves characters
left_first : (item : Item) (characters : List ℕ) → left_by item ≡ Some characters → step Fragment at_start item ≡ some_state (outside_text characters)
left_first doctype cs e = absurd cc
left_first comment cs e = let is : [] ≡ cs = cc in rw (← is) refl
left_first instruction cs e = let is : [] ≡ cs = cc in rw (← is) refl
left_first (start_tag n a) cs e = absurd cc
left_first (empty_tag n a) cs e = absurd cc
left_first (end_tag n) cs e = absurd cc
left_first (reference c) cs e = let is : c ∷ [] ≡ cs = cc in rw (← is) refl
left_first (section ds) cs e = let is : ds ≡ cs = cc in rw (← is) refl
left_first (plain_character c) cs e = let is : c ∷ [] ≡ cs = cc in rw (← is) refl

pub left_start : (item : Item) (characters : List ℕ) → left_by item ≡ Some characters → step Fragment at_start item ≡ some_state (outside_text characters)
left_start item characters e = left_first item characters e

begun : (characters : List ℕ) → Leads (outside_text characters) (then_characters Empty characters)
begun [] = refl
begun (c ∷ cs) = (refl, λ none. cc)

added : (characters more : List ℕ) → characters ≢ [] → Leads (outside_text (characters ++ more)) (then_characters (Tree (Text characters) Empty Empty) more)
added [] more some = absurd (some refl)
added (c ∷ cs) [] some = (ap (λ (t : List ℕ). Tree (Text t) Empty Empty) (sym (append-nil (c ∷ cs))), λ none. some (sym (append-nil (c ∷ cs)) ∙ none))
added (c ∷ cs) (x ∷ more) some = (refl, λ none. cc)

characters_step : (s : State) (nodes : Forest Node) → Leads s nodes → (item : Item) (characters : List ℕ) → left_by item ≡ Some characters → IsFew (then_characters nodes characters)
    → (t : State) × (step Fragment s item ≡ some_state t) × Leads t (then_characters nodes characters)
characters_step at_start nodes none item characters left few = (outside_text characters, left_first item characters left, rw none (begun characters))
characters_step after_doctype nodes none item characters left few = absurd none
characters_step (in_text cs) nodes there item characters left few = (outside_text (cs ++ characters), rw left refl, rw there.0 (added cs characters there.1))
characters_step (inside f frames here) nodes none item characters left few = absurd none
characters_step (at_end tree) nodes there item [] left few = (at_end tree, rw left refl, there)
characters_step (at_end tree) nodes there item (c ∷ cs) left few = absurd (
    let root = there.1 in
    let few_here : IsFew (then_some_characters (Tree (Element root.0 root.1) root.2 Empty) (c ∷ cs)) = rw (there.0 ∙ root.3) at few in
    let bad = few_here in cc)

content_leads : {items : List Item} {nodes : Forest Node} → IsContent items nodes → IsFew nodes → (s : State) × (run Fragment (Some at_start) items ≡ some_state s) × Leads s nodes
content_leads no_content few = (at_start, refl, refl)
content_leads (and_characters {before} {nodes} d item characters left) few =
    let q = content_leads d (few_before nodes characters few) in
    let step_on = characters_step q.0 nodes q.2 item characters left few in
    (step_on.0, run-append Fragment (Some at_start) before (item ∷ []) ∙ ap (λ (o : Option State). run Fragment o (item ∷ [])) q.1 ∙ step_on.1, step_on.2)
content_leads (and_element {before} {one} {nodes} {children} {name} {attrs} d e) few =
    let none = none_before nodes name attrs children few in
    let q = content_leads d (rw none tt) in
    let start : q.0 ≡ at_start = first q.0 nodes none q.2 in (
      at_end (Tree (Element name attrs) children Empty),
      run-append Fragment (Some at_start) before one ∙ ap (λ (o : Option State). run Fragment o one) (q.1 ∙ ap some_state start) ∙ root_runs Fragment e at_start refl refl,
      (rw none refl, (name, attrs, children, refl)),
    )
  where
    first : (s : State) (nodes : Forest Node) → nodes ≡ Empty → Leads s nodes → s ≡ at_start
    first at_start nodes none there = refl
    first after_doctype nodes none there = absurd there
    first (in_text cs) nodes none there = absurd (let bad = sym none ∙ there.0 in cc)
    first (inside f frames here) nodes none there = absurd there
    first (at_end tree) nodes none there = absurd (let root = there.1 in let bad = sym none ∙ there.0 ∙ root.3 in cc)

fragment_runs : (items : List Item) (tree : Forest Node) → IsFragment items tree → Ends Fragment items tree
fragment_runs items tree d =
    let q = content_leads d.content (few tree d.one) in
    (q.0, q.1, final q.0 tree d.one q.2)
  where
    few : (tree : Forest Node) → IsOne tree → IsFew tree
    few Empty one = absurd one
    few (Tree root children after) one = one

    final : (s : State) (tree : Forest Node) → IsOne tree → Leads s tree → IsFinal s tree
    final at_start tree one there = absurd (let bad = rw there at one in bad)
    final after_doctype tree one there = absurd there
    final (in_text cs) tree one there = there.0
    final (inside f frames here) tree one there = absurd there
    final (at_end root) tree one there = there.0

pub whole_ends : (kind : Kind) (items : List Item) (tree : Forest Node) → allows kind items tree → Ends kind items tree
whole_ends Document items tree d = (at_end tree, document_runs d, refl)
whole_ends Fragment items tree d = fragment_runs items tree d
