-- What is read so far can be completed.
use Rattle.std.proofs.Common.{◌≡◌, ℕ, List, [], ◌∷◌, ◌++◌, refl, append_assoc, append-nil}
use Rattle.forest.specs.Forest.{Forest, Empty, Tree}
use Rattle.plain_types.specs.declared.attr.Attr.{Attr}
use Rattle.plain_types.specs.declared.node.Node.{Node}
use Rattle.plain_types.specs.declared.node.Node.TheVariants.{Element, Text}
use Rattle.xml_definitions.specs.Documents.{empty_element, IsContent, and_element, IsProlog, without_doctype, with_doctype, document}
use Rattle.xml_definitions.specs.Faults.{Begins}
use Rattle.xml_definitions.specs.Items.{Item, ArePieces, start_tag, empty_tag, end_tag}
use Rattle.xml_definitions.specs.Spelling.{IsName, Spells}
use Rattle.xhtml_items.proofs.ItemLaws.{start_tag_named, end_tag_spelled, empty_tag_spelled}
use Rattle.xhtml_reader.specs.declared.kind.Kind.{Kind}
use Rattle.xhtml_reader.specs.declared.kind.Kind.TheVariants.{Document, Fragment}
use Rattle.xhtml_reader.specs.Machinery.States.{Frame, frame, State, at_start, after_doctype, in_text, inside, at_end, allows}
use Rattle.xhtml_reader.proofs.Holding.{Top, Holds, outside, opened, deeper, closes, not_inside}
use Rattle.xhtml_reader.proofs.Lists.{ArePieces-append, ArePieces-one, ArePieces-parts}

abbrev AreItems : List ℕ → List Item → Type 0
AreItems characters items = ArePieces Spells characters items

-- an item more
one_more : (characters : List ℕ) (items : List Item) (front : List ℕ) (item : Item) → AreItems characters items → Spells front item → AreItems (characters ++ front) (items ++ item ∷ [])
one_more characters items front item spelled one = ArePieces-append Spells items (item ∷ []) characters front spelled (ArePieces-one Spells item front one)

-- the shortest root
a_root : List ℕ
a_root = 60 ∷ ((97 ∷ []) ++ 47 ∷ 62 ∷ [])

a_root_spelled : Spells a_root (empty_tag (97 ∷ []) [])
unfolding a_root
a_root_spelled = empty_tag_spelled (97 ∷ []) refl

abbrev Starts : Kind → List Item → Type 0
Starts kind items = (characters : List ℕ) → AreItems characters items → Begins (allows kind) items

prolog_begins : (items : List Item) → IsProlog items → Starts Document items
prolog_begins items p characters spelled = record {
  text = characters ++ a_root;
  more = empty_tag (97 ∷ []) [] ∷ [];
  tree = Tree (Element (97 ∷ []) []) Empty Empty;
  spelled = one_more characters items a_root (empty_tag (97 ∷ []) []) spelled a_root_spelled;
  allowed = rw append-nil at (document [] p (empty_element (97 ∷ []) []) refl);
}

nothing_begins : (items : List Item) → IsContent items Empty → Starts Fragment items
nothing_begins items d characters spelled = record {
  text = characters ++ a_root;
  more = empty_tag (97 ∷ []) [] ∷ [];
  tree = Tree (Element (97 ∷ []) []) Empty Empty;
  spelled = one_more characters items a_root (empty_tag (97 ∷ []) []) spelled a_root_spelled;
  allowed = record { content = and_element d (empty_element (97 ∷ []) []); one = refl };
}

-- what is whole begins itself
whole_begins : (kind : Kind) (items : List Item) (tree : Forest Node) → allows kind items tree → Starts kind items
whole_begins kind items tree d characters spelled = record { text = characters; more = []; tree = tree; spelled = rw append-nil spelled; allowed = rw append-nil d }

top_begins : (kind : Kind) (items : List Item) (s : State) → Top kind items s → Starts kind items
top_begins Document items at_start h = prolog_begins items (without_doctype items h)
top_begins Document items after_doctype h = prolog_begins items (rw h.4 (with_doctype h.0 h.1 h.2 h.3))
top_begins Document items (in_text cs) h = absurd h
top_begins Document items (inside f frames here) h = absurd h
top_begins Document items (at_end tree) d = whole_begins Document items tree d
top_begins Fragment items at_start d = nothing_begins items d
top_begins Fragment items after_doctype h = absurd h
top_begins Fragment items (in_text cs) h = whole_begins Fragment items (Tree (Text cs) Empty Empty) (record { content = h.0; one = refl })
top_begins Fragment items (inside f frames here) h = absurd h
top_begins Fragment items (at_end tree) h = whole_begins Fragment items tree (record { content = h.0; one = rw h.1.3 refl })

module _ (kind : Kind) where
  -- the name of an open element is a name
  opened_name : (before content : List Item) (name : List ℕ) (attrs : List Attr) (characters : List ℕ) → AreItems characters (before ++ start_tag name attrs ∷ content) → IsName name
  opened_name before content name attrs characters spelled =
      let parts = ArePieces-parts Spells before (start_tag name attrs ∷ content) characters spelled in
      start_tag_named parts.rest_is.0 name attrs parts.rest_is.2

  named : {items : List Item} {s : State} → Holds kind items s → (f : Frame) (frames : List Frame) (here : Forest Node) → s ≡ inside f frames here → (characters : List ℕ) → AreItems characters items → IsName f.name
  named (outside items s h) f frames here e characters spelled = absurd (not_inside kind items f frames here (rw e at h))
  named (opened before {content} p name attrs d) f frames here e characters spelled =
      let same : frame name attrs Empty ≡ f = cc in
      rw (← same) (opened_name before content name attrs characters spelled)
  named (deeper {outer} {content} {f = g} {frames = gs} {before} h name attrs d) f frames here e characters spelled =
      let same : frame name attrs before ≡ f = cc in
      rw (← same) (opened_name outer content name attrs characters spelled)

  begins_before : (items : List Item) (item : Item) → Begins (allows kind) (items ++ item ∷ []) → Begins (allows kind) items
  begins_before items item b = record {
    text = b.text;
    more = item ∷ b.more;
    tree = b.tree;
    spelled = rw append_assoc at b.spelled;
    allowed = rw append_assoc at b.allowed;
  }

  closed_begins : (items : List Item) (f : Frame) (frames : List Frame) (here : Forest Node) → Holds kind items (inside f frames here)
      → Starts kind (items ++ end_tag f.name ∷ []) → Starts kind items
  closed_begins items f frames here h after characters spelled =
      begins_before items (end_tag f.name)
      (after (characters ++ 60 ∷ 47 ∷ (f.name ++ 62 ∷ [])) (one_more characters items _ (end_tag f.name) spelled (end_tag_spelled f.name (named h f frames here refl characters spelled))))

  ended_begins : {items : List Item} {s : State} → Holds kind items s → (tree : Forest Node) → s ≡ at_end tree → Starts kind items
  ended_begins (outside items s h) tree e = top_begins kind items s h
  ended_begins (opened before p name attrs d) tree e = absurd cc
  ended_begins (deeper h name attrs d) tree e = absurd cc

  inside_begins : (frames : List Frame) (f : Frame) (here : Forest Node) (items : List Item) → Holds kind items (inside f frames here) → Starts kind items
  inside_begins [] f here items h = closed_begins items f [] here h (ended_begins (closes kind h f [] here refl) _ refl)
  inside_begins (g ∷ frames) f here items h = closed_begins items f (g ∷ frames) here h (inside_begins frames g _ (items ++ end_tag f.name ∷ []) (closes kind h f (g ∷ frames) here refl))

  pub begins : {items : List Item} {s : State} → Holds kind items s → Starts kind items
  begins (outside items s h) = top_begins kind items s h
  begins (opened before p name attrs d) = inside_begins [] (frame name attrs Empty) _ _ (opened before p name attrs d)
  begins (deeper {f} {frames} {before} {here} h name attrs d) = inside_begins (f ∷ frames) (frame name attrs before) here _ (deeper h name attrs d)
