-- What is kept of a state, when an item is added to both.
use Rattle.std.proofs.Common.{◌≡◌, ◌≢◌, ℕ, suc, ◌+◌, ◌-◌, ◌<◌, Bool, true, false, ◌||◌, ◌&&◌, not, cond, eqb, nat_lt, IsTrue, Bor, List, [], ◌∷◌, ◌++◌, length, map, take, get_or, ◌⊎◌, inl, inr, Option, Some, None, refl, sym, ap, subst, ◌∙◌, append_assoc, append-nil, arith}
use Rattle.std.specs.Str.{chars, encode_utf8_all, bytes_eq, IsUtf8}
use Rattle.std.proofs.lemmas.Bool.{cases_Bool, and_parts, eqb-true}
use Rattle.std.proofs.lemmas.Bool.Decides.{nat_tests}
use Rattle.std.proofs.lemmas.List.{length-append, nil_from_length, map-append, length-map, take-map, take_all, take_more}
use Rattle.std.proofs.lemmas.Slice.Eq.{bytes_eq-Decides}
use Rattle.std.proofs.lemmas.Str.{encodes_same, encodes-chars}
use Rattle.forest.specs.Forest.{Forest, Empty, Tree}
use Rattle.plain_types.specs.Building.{Building, accepts_node, is_inside, is_whole}
use Rattle.plain_types.specs.Rows.{row, rows, forest_of}
use Rattle.plain_types.specs.declared.attr.Attr.{Attr}
use Rattle.plain_types.specs.declared.node.Node.{Node}
use Rattle.plain_types.specs.declared.node.Node.TheVariants.{Element}
use Rattle.plain_types.specs.declared.row.Row.{Row}
use Rattle.plain_types.proofs.ForestLemmas.{forest_of-rows}
use Rattle.xml_definitions.specs.Documents.{is_misc, left_by}
use Rattle.xml_definitions.specs.Items.{Item, doctype, comment, instruction, start_tag, empty_tag, end_tag, reference, section, plain_character}
use Rattle.xml_definitions.specs.Nodes.{then_element, then_characters}
use Rattle.xhtml_reader.specs.declared.kind.Kind.{Kind}
use Rattle.xhtml_reader.specs.declared.kind.Kind.TheVariants.{Document, Fragment}
use Rattle.xhtml_reader.specs.Machinery.States.{Frame, frame, State, at_start, after_doctype, in_text, inside, at_end, some_state, closed_in, opens, stands, outside_text, leave_text, leave_nothing, IsFinal, step, run}
use Rattle.xhtml_reader.specs.Machinery.Keeping.{Kept, kept_outside, built_of, with_text, accepts_element, accepts_characters, accepts_doctype, with_last_text, is_fragment, ends_in_text, name_bytes, names_of, rows_before, text_rows, KeepsInside, Keeps}
use Rattle.xhtml_reader.proofs.Nodes.{then_characters-append, no_text_after, not_empty_after, rows-then_tree, rows-then_characters}
use Rattle.xhtml_reader.proofs.Machine.{character_steps}
use Rattle.xhtml_reader.proofs.Texts.{with_no_text}
use Rattle.xhtml_reader.proofs.Wholes.{left_start, at_start_patient, after_doctype_patient, at_end_patient}

-- ---- lists

push_some : {A : Type 0} (xs : List A) (x : A) → xs ++ x ∷ [] ≡ [] → ⊥
push_some xs x e = omega (arith, ap length e, length-append xs (x ∷ []))

-- the last of two lists that are equal
last_of : {A : Type 0} (xs ys : List A) (x y : A) → xs ++ x ∷ [] ≡ ys ++ y ∷ [] → (xs ≡ ys) × (x ≡ y)
last_of [] [] x y e = (refl, cc)
last_of [] (b ∷ ys) x y e = absurd (push_some ys y (let h = e in sym cc))
last_of (a ∷ xs) [] x y e = absurd (push_some xs x cc)
last_of (a ∷ xs) (b ∷ ys) x y e = let tails : xs ++ x ∷ [] ≡ ys ++ y ∷ [] = cc in let r = last_of xs ys x y tails in let head : a ≡ b = cc in (rw (head, r.0) refl, r.1)

-- ---- what the tests mean

pub not_true : (b : Bool) → not b ≡ true → b ≡ false
not_true true e = sym e
not_true false e = refl

pub not_false : (b : Bool) → not b ≡ false → b ≡ true
not_false true e = refl
not_false false e = sym e

or_true : (a b : Bool) → b ≡ true → (a || b) ≡ true
or_true true b e = refl
or_true false b e = e

above_none : (n : ℕ) → nat_lt 0 (suc n) ≡ true
above_none n = grind (arith, nat_tests)

whole_rows : (all : List Row) → all ≢ [] → accepts_node (built_of all 0) ≡ false
whole_rows [] some = absurd (some refl)
whole_rows (first ∷ rest) some = grind (arith, nat_tests)

rows_some : (tree : Forest Node) → tree ≢ Empty → rows 0 tree ≢ []
rows_some Empty some e = some refl
rows_some (Tree node children after) some e = cc

or_first : (a b : Bool) → a ≡ true → (a || b) ≡ true
or_first a b e = rw e refl

or_second : (a b : Bool) → a ≡ false → (a || b) ≡ true → b ≡ true
or_second a b e h = rw e at h

-- the parts of what is kept, inside of elements
inside_is : (all : Kept) (f : Frame) (frames : List Frame) (here : Forest Node) → KeepsInside all (f ∷ frames) here → is_inside all.built ≡ true
inside_is all f frames here keeps = ap is_inside keeps.built_is ∙ above_none (length frames)

-- no element may come after a text or the root
none_after_text : (all : Kept) (cs : List ℕ) → Keeps all (in_text cs) → accepts_element all ≡ false
none_after_text all [] keeps = absurd (keeps.1 refl)
none_after_text all (c ∷ cs) keeps = ap accepts_element keeps.0 ∙ not_none (length cs)
  where
    not_none : (n : ℕ) → eqb (suc n) 0 ≡ false
    not_none n = grind (arith, nat_tests)

none_after_root : (all : Kept) (tree : Forest Node) → Keeps all (at_end tree) → accepts_element all ≡ false
none_after_root all tree keeps = ap accepts_element keeps.0 ∙ and_false _ _ (whole_rows (rows 0 tree) (rows_some tree keeps.1))
  where
    and_false : (a b : Bool) → a ≡ false → (a && b) ≡ false
    and_false a b e = rw e refl

-- ---- the items

-- the rows of the nodes so far, with those of the text that waits
rows_here : (all : Kept) (frames : List Frame) (here : Forest Node) → KeepsInside all frames here
    → with_text all.built all.waiting ≡ built_of (rows_before frames ++ rows (length frames) here) (length frames)
rows_here all frames here keeps =
    let rows_are : rows_before frames ++ rows (length frames) keeps.done ++ text_rows (length frames) all.waiting ≡ rows_before frames ++ rows (length frames) here =
    append_assoc (rows_before frames) (rows (length frames) keeps.done) (text_rows (length frames) all.waiting)
    ∙ ap (λ (t : List Row). rows_before frames ++ t) (sym (rows-then_characters (length frames) keeps.done all.waiting keeps.no_text) ∙ ap (rows (length frames)) (sym keeps.here_is)) in
    ap (λ (built : Building). with_text built all.waiting) keeps.built_is ∙ ap (λ (t : List Row). built_of t (length frames)) rows_are

-- the rows of the nodes so far, and then an element's
abbrev pub with_element : Building → List ℕ → List Attr → Building
with_element built name attrs = built_of (built.rows ++ row built.inside (Element name attrs) ∷ []) (built.inside + 1)

abbrev pub kept_of : Kept → Building → List (List ℕ) → Kept
kept_of all built names = record all { built = built; names = names; waiting = [] }

abbrev pub Added : Kind → State → Item → Kept → Type 0
Added kind s item new = (next : State) × (step kind s item ≡ some_state next) × Keeps new next

starts_inside : (all : Kept) (frames : List Frame) (here : Forest Node) (name : List ℕ) (attrs : List Attr) → KeepsInside all frames here
    → KeepsInside (kept_of all (with_element (with_text all.built all.waiting) name attrs) (all.names ++ encode_utf8_all name ∷ [])) (frame name attrs here ∷ frames) Empty
starts_inside all frames here name attrs keeps = record {
  done = Empty;
  here_is = refl;
  no_text = refl;
  names_are = ap (λ (t : List (List ℕ)). t ++ encode_utf8_all name ∷ []) keeps.names_are;
  built_is =
      ap (λ (built : Building). with_element built name attrs) (rows_here all frames here keeps)
      ∙ (λ i. built_of (regroup i) (counted i));
}
  where
    regroup : rows_before frames ++ rows (length frames) here ++ row (length frames) (Element name attrs) ∷ [] ≡ rows_before (frame name attrs here ∷ frames) ++ []
    regroup = append_assoc (rows_before frames) (rows (length frames) here) (row (length frames) (Element name attrs) ∷ []) ∙ sym (append-nil _)

    counted : length frames + 1 ≡ length (frame name attrs here ∷ frames)
    counted = omega arith

first_start : (all : Kept) (name : List ℕ) (attrs : List Attr) → all.built ≡ built_of [] 0 → all.names ≡ [] → all.waiting ≡ []
    → Keeps (kept_of all (with_element (with_text all.built all.waiting) name attrs) (all.names ++ encode_utf8_all name ∷ [])) (opens name attrs)
first_start all name attrs built names waiting = record {
  done = Empty;
  here_is = refl;
  no_text = refl;
  names_are = ap (λ (t : List (List ℕ)). t ++ encode_utf8_all name ∷ []) names;
  built_is = (λ i. with_element (with_text (built i) (waiting i)) name attrs);
}

pub added_start : (all : Kept) (s : State) (name : List ℕ) (attrs : List Attr) → Keeps all s → accepts_element all ≡ true
    → Added all.kind s (start_tag name attrs) (kept_of all (with_element (with_text all.built all.waiting) name attrs) (all.names ++ encode_utf8_all name ∷ []))
added_start all at_start name attrs keeps e = (opens name attrs, opening all.kind, first_start all name attrs (ap (λ (k : Kept). k.built) keeps) (ap (λ (k : Kept). k.names) keeps) (ap (λ (k : Kept). k.waiting) keeps))
  where
    opening : (kind : Kind) → step kind at_start (start_tag name attrs) ≡ some_state (opens name attrs)
    opening Document = refl
    opening Fragment = refl
added_start all after_doctype name attrs keeps e = (opens name attrs, ap (λ (k : Kept). step k.kind after_doctype (start_tag name attrs)) keeps, first_start all name attrs (ap (λ (k : Kept). k.built) keeps) (ap (λ (k : Kept). k.names) keeps) (ap (λ (k : Kept). k.waiting) keeps))
added_start all (in_text cs) name attrs keeps e = absurd (let none = none_after_text all cs keeps in let bad : true ≡ false = sym e ∙ none in cc)
added_start all (inside f frames here) name attrs keeps e = (inside (frame name attrs here) (f ∷ frames) Empty, refl, starts_inside all (f ∷ frames) here name attrs keeps)
added_start all (at_end tree) name attrs keeps e = absurd (let none = none_after_root all tree keeps in let bad : true ≡ false = sym e ∙ none in cc)

-- an element with nothing in it
empty_inside : (all : Kept) (frames : List Frame) (here : Forest Node) (name : List ℕ) (attrs : List Attr) → KeepsInside all frames here
    → KeepsInside (kept_of all (record (with_element (with_text all.built all.waiting) name attrs) { inside = all.built.inside }) all.names) frames (then_element here name attrs Empty)
empty_inside all frames here name attrs keeps = record {
  done = then_element here name attrs Empty;
  here_is = refl;
  no_text = no_text_after here name attrs Empty;
  names_are = keeps.names_are;
  built_is =
      (λ i. built_of (with_element (rows_here all frames here keeps i) name attrs).rows (inside_here i))
      ∙ ap (λ (t : List Row). built_of t (length frames)) regroup;
}
  where
    inside_here : all.built.inside ≡ length frames
    inside_here = ap (λ (built : Building). built.inside) keeps.built_is

    regroup : rows_before frames ++ rows (length frames) here ++ row (length frames) (Element name attrs) ∷ [] ≡ rows_before frames ++ rows (length frames) (then_element here name attrs Empty)
    regroup =
        append_assoc (rows_before frames) (rows (length frames) here) (row (length frames) (Element name attrs) ∷ [])
        ∙ ap (λ (t : List Row). rows_before frames ++ t) (sym (rows-then_tree (length frames) here (Element name attrs) Empty))

first_empty : (all : Kept) (name : List ℕ) (attrs : List Attr) → all.built ≡ built_of [] 0 → all.names ≡ [] → all.waiting ≡ []
    → Keeps (kept_of all (record (with_element (with_text all.built all.waiting) name attrs) { inside = all.built.inside }) all.names) (stands name attrs)
first_empty all name attrs built names waiting =
    ((λ i. kept_of all (record (with_element (with_text (built i) (waiting i)) name attrs) { inside = (built i).inside }) (names i)), λ none. cc)

pub added_empty : (all : Kept) (s : State) (name : List ℕ) (attrs : List Attr) → Keeps all s → accepts_element all ≡ true
    → Added all.kind s (empty_tag name attrs) (kept_of all (record (with_element (with_text all.built all.waiting) name attrs) { inside = all.built.inside }) all.names)
added_empty all at_start name attrs keeps e = (stands name attrs, standing all.kind, first_empty all name attrs (ap (λ (k : Kept). k.built) keeps) (ap (λ (k : Kept). k.names) keeps) (ap (λ (k : Kept). k.waiting) keeps))
  where
    standing : (kind : Kind) → step kind at_start (empty_tag name attrs) ≡ some_state (stands name attrs)
    standing Document = refl
    standing Fragment = refl
added_empty all after_doctype name attrs keeps e = (stands name attrs, ap (λ (k : Kept). step k.kind after_doctype (empty_tag name attrs)) keeps, first_empty all name attrs (ap (λ (k : Kept). k.built) keeps) (ap (λ (k : Kept). k.names) keeps) (ap (λ (k : Kept). k.waiting) keeps))
added_empty all (in_text cs) name attrs keeps e = absurd (let none = none_after_text all cs keeps in let bad : true ≡ false = sym e ∙ none in cc)
added_empty all (inside f frames here) name attrs keeps e = (inside f frames (then_element here name attrs Empty), refl, empty_inside all (f ∷ frames) here name attrs keeps)
added_empty all (at_end tree) name attrs keeps e = absurd (let none = none_after_root all tree keeps in let bad : true ≡ false = sym e ∙ none in cc)

-- the innermost element ends
closed_rows : (all : Kept) (f : Frame) (frames : List Frame) (here : Forest Node) → KeepsInside all (f ∷ frames) here
    → with_text all.built all.waiting ≡ built_of (rows_before frames ++ rows (length frames) (then_element f.before f.name f.attrs here)) (length (f ∷ frames))
closed_rows all f frames here keeps = rows_here all (f ∷ frames) here keeps ∙ ap (λ (t : List Row). built_of t (length (f ∷ frames))) regroup
  where
    deep : length (f ∷ frames) ≡ length frames + 1
    deep = omega arith

    regroup : rows_before (f ∷ frames) ++ rows (length (f ∷ frames)) here ≡ rows_before frames ++ rows (length frames) (then_element f.before f.name f.attrs here)
    regroup =
        append_assoc (rows_before frames) (rows (length frames) f.before ++ row (length frames) (Element f.name f.attrs) ∷ []) (rows (length (f ∷ frames)) here)
        ∙ ap (λ (t : List Row). rows_before frames ++ t)
        (append_assoc (rows (length frames) f.before) (row (length frames) (Element f.name f.attrs) ∷ []) (rows (length (f ∷ frames)) here)
        ∙ ap (λ (d : ℕ). rows (length frames) f.before ++ row (length frames) (Element f.name f.attrs) ∷ rows d here) deep
        ∙ sym (rows-then_tree (length frames) f.before (Element f.name f.attrs) here))

closed_keeps : (all : Kept) (built : Building) (names : List (List ℕ)) (frames : List Frame) (nodes : Forest Node) → names ≡ names_of frames → built ≡ built_of (rows_before frames ++ rows (length frames) nodes) (length frames)
    → ends_in_text nodes ≡ false → nodes ≢ Empty → Keeps (kept_of all built names) (closed_in frames nodes)
closed_keeps all built names [] nodes e h no_text some = ((λ i. kept_of all (h i) (e i)), some)
closed_keeps all built names (f ∷ frames) nodes e h no_text some = record { done = nodes; here_is = refl; no_text = no_text; names_are = e; built_is = h }

-- no element is open
outside_built : (all : Kept) (s : State) → Keeps all s → is_inside all.built ≡ true → (f : Frame) × (frames : List Frame) × (here : Forest Node) × (s ≡ inside f frames here)
outside_built all at_start keeps e = absurd (let none : is_inside all.built ≡ false = ap (λ (k : Kept). is_inside k.built) keeps in let bad : true ≡ false = sym e ∙ none in cc)
outside_built all after_doctype keeps e = absurd (let none : is_inside all.built ≡ false = ap (λ (k : Kept). is_inside k.built) keeps in let bad : true ≡ false = sym e ∙ none in cc)
outside_built all (in_text cs) keeps e = absurd (let none : is_inside all.built ≡ false = ap (λ (k : Kept). is_inside k.built) keeps.0 in let bad : true ≡ false = sym e ∙ none in cc)
outside_built all (inside f frames here) keeps e = (f, frames, here, refl)
outside_built all (at_end tree) keeps e = absurd (let none : is_inside all.built ≡ false = ap (λ (k : Kept). is_inside k.built) keeps.0 in let bad : true ≡ false = sym e ∙ none in cc)

ends_inside : (all : Kept) (f : Frame) (frames : List Frame) (here : Forest Node) (name : List ℕ) (front : List (List ℕ)) → KeepsInside all (f ∷ frames) here → all.names ≡ front ++ encode_utf8_all name ∷ []
    → Added all.kind (inside f frames here) (end_tag name) (kept_of all (record (with_text all.built all.waiting) { inside = all.built.inside - 1 }) front)
ends_inside all f frames here name front keeps names =
    let last = last_of front (names_of frames) (encode_utf8_all name) (encode_utf8_all f.name) (sym names ∙ keeps.names_are) in
    let same : name ≡ f.name = encodes_same name f.name last.1 in
    let equal : bytes_eq f.name name ≡ true = (bytes_eq-Decides f.name name).1 (sym same) in
    let inside_was : all.built.inside ≡ length (f ∷ frames) = ap (λ (built : Building). built.inside) keeps.built_is in
    let inside_now : all.built.inside - 1 ≡ length frames = omega arith in
    let built_now : record (with_text all.built all.waiting) { inside = all.built.inside - 1 } ≡ built_of (rows_before frames ++ rows (length frames) (then_element f.before f.name f.attrs here)) (length frames)
    = (λ i. built_of (closed_rows all f frames here keeps i).rows (inside_now i)) in (
      closed_in frames (then_element f.before f.name f.attrs here),
      rw equal refl,
      closed_keeps all _ front frames (then_element f.before f.name f.attrs here) last.0 built_now (no_text_after f.before f.name f.attrs here) (not_empty_after f.before (Element f.name f.attrs) here),
    )

pub added_end : (all : Kept) (s : State) (name : List ℕ) (front : List (List ℕ)) → Keeps all s → is_inside all.built ≡ true → all.names ≡ front ++ encode_utf8_all name ∷ []
    → Added all.kind s (end_tag name) (kept_of all (record (with_text all.built all.waiting) { inside = all.built.inside - 1 }) front)
added_end all s name front keeps e names =
    let is = outside_built all s keeps e in
    let inner : KeepsInside all (is.0 ∷ is.1) is.2 = subst (λ (t : State). Keeps all t) is.3 keeps in
    subst (λ (t : State). Added all.kind t (end_tag name) (kept_of all (record (with_text all.built all.waiting) { inside = all.built.inside - 1 }) front)) (sym is.3) (ends_inside all is.0 is.1 is.2 name front inner names)

-- an end tag where no element is open
end_outside : (kind : Kind) (name : List ℕ) → (step kind at_start (end_tag name) ≡ None) × (step kind after_doctype (end_tag name) ≡ None)
    × ((cs : List ℕ) → step kind (in_text cs) (end_tag name) ≡ None) × ((tree : Forest Node) → step kind (at_end tree) (end_tag name) ≡ None)
end_outside Document name = (refl, refl, λ cs. refl, λ tree. refl)
end_outside Fragment name = (refl, refl, λ cs. refl, λ tree. refl)

-- an end tag of another name
pub refused_end : (all : Kept) (s : State) (name : List ℕ) (front : List (List ℕ)) (last : List ℕ) → Keeps all s → all.names ≡ front ++ last ∷ [] → last ≢ encode_utf8_all name → step all.kind s (end_tag name) ≡ None
refused_end all at_start name front last keeps names other = (end_outside all.kind name).0
refused_end all after_doctype name front last keeps names other = (end_outside all.kind name).1
refused_end all (in_text cs) name front last keeps names other = (end_outside all.kind name).2 cs
refused_end all (at_end tree) name front last keeps names other = (end_outside all.kind name).3 tree
refused_end all (inside f frames here) name front last keeps names other = elim (cases_Bool (bytes_eq f.name name)) [
  | inl same ↦ absurd (other ((last_of front (names_of frames) last (encode_utf8_all f.name) (sym names ∙ keeps.names_are)).1 ∙ ap encode_utf8_all ((bytes_eq-Decides f.name name).0 same)))
  | inr differs ↦ rw differs refl
]

-- ---- characters

abbrev pub waits_more : Kept → List ℕ → Kept
waits_more all cs = record all { waiting = all.waiting ++ cs }

more_inside : (all : Kept) (frames : List Frame) (here : Forest Node) (cs : List ℕ) → KeepsInside all frames here → KeepsInside (waits_more all cs) frames (then_characters here cs)
more_inside all frames here cs keeps = record {
  done = keeps.done;
  here_is = ap (λ (t : Forest Node). then_characters t cs) keeps.here_is ∙ then_characters-append keeps.done all.waiting cs;
  no_text = keeps.no_text;
  names_are = keeps.names_are;
  built_is = keeps.built_is;
}

-- what the test of characters means
taken : (all : Kept) (some : Bool) → is_inside all.built ≡ false → accepts_characters all some ≡ true → (is_fragment all.kind ≡ true) × ((not some || accepts_node all.built) ≡ true)
taken all some none e = and_parts (is_fragment all.kind) (not some || accepts_node all.built) (or_second _ _ none e)

outside_is : (all : Kept) (kind : Kind) (has_doctype : Bool) (rows_are : List Row) (waiting : List ℕ) → all ≡ kept_outside kind has_doctype rows_are waiting → is_inside all.built ≡ false
outside_is all kind has_doctype rows_are waiting keeps = ap (λ (k : Kept). is_inside k.built) keeps

as_fragment : (kind : Kind) → is_fragment kind ≡ true → kind ≡ Fragment
as_fragment Document e = absurd cc
as_fragment Fragment e = refl

as_document : (kind : Kind) → is_fragment kind ≡ false → kind ≡ Document
as_document Document e = refl
as_document Fragment e = absurd cc

waits_none : (all : Kept) → waits_more all [] ≡ all
waits_none all = ap (λ (t : List ℕ). record all { waiting = t }) (append-nil all.waiting)

text_keeps : (all : Kept) (cs : List ℕ) → all ≡ kept_outside Fragment false [] cs → Keeps all (outside_text cs)
text_keeps all [] e = e ∙ ap (λ (kind : Kind). kept_outside kind false [] []) (sym (ap (λ (k : Kept). k.kind) e))
text_keeps all (c ∷ cs) e = (e, λ none. cc)

-- an item that leaves characters, where they may stand
pub added_left : (all : Kept) (s : State) (item : Item) (cs : List ℕ) (some : Bool) → left_by item ≡ Some cs → (some ≡ false → cs ≡ []) → Keeps all s → accepts_characters all some ≡ true → Added all.kind s item (waits_more all cs)
added_left all at_start item cs some left empty keeps e =
    let kind_is = as_fragment all.kind (taken all some (outside_is all _ _ _ _ keeps) e).0 in (
      outside_text cs,
      ap (λ (kind : Kind). step kind at_start item) kind_is ∙ left_start item cs left,
      text_keeps (waits_more all cs) cs (ap (λ (k : Kept). waits_more k cs) (keeps ∙ ap (λ (kind : Kind). kept_outside kind false [] []) kind_is)),
    )
added_left all after_doctype item cs some left empty keeps e = absurd (
    let kind_is = (taken all some (outside_is all _ _ _ _ keeps) e).0 in
    let bad : true ≡ false = sym kind_is ∙ ap (λ (k : Kept). is_fragment k.kind) keeps in cc)
added_left all (in_text ds) item cs some left empty keeps e = (
  outside_text (ds ++ cs),
  ap (λ (k : Kept). step k.kind (in_text ds) item) keeps.0 ∙ ap (leave_text ds) left,
  text_keeps (waits_more all cs) (ds ++ cs) (ap (λ (k : Kept). waits_more k cs) keeps.0),
)
added_left all (inside f frames here) item cs some left empty keeps e = (inside f frames (then_characters here cs), character_steps all.kind item cs left f frames here, more_inside all (f ∷ frames) here cs keeps)
added_left all (at_end tree) item cs some left empty keeps e =
    let both = taken all some (outside_is all _ _ _ _ keeps.0) e in
    let kind_is = as_fragment all.kind both.0 in
    let no_node : accepts_node all.built ≡ false = ap (λ (k : Kept). accepts_node k.built) keeps.0 ∙ whole_rows (rows 0 tree) (rows_some tree keeps.1) in
    let none : cs ≡ [] = empty (not_some some (accepts_node all.built) no_node both.1) in (
      at_end tree,
      ap (λ (kind : Kind). step kind (at_end tree) item) kind_is ∙ ap (leave_nothing (at_end tree)) (left ∙ ap (λ (t : List ℕ). Some t) none),
      subst (λ (k : Kept). Keeps k (at_end tree)) (sym (waits_none all) ∙ ap (waits_more all) (sym none)) keeps,
    )
  where
    not_some : (some node : Bool) → node ≡ false → (not some || node) ≡ true → some ≡ false
    not_some true node e h = absurd (let bad : true ≡ false = sym h ∙ e in cc)
    not_some false node e h = refl

-- such an item, where they may not stand
pub refused_left : (all : Kept) (s : State) (item : Item) (cs : List ℕ) (some : Bool) → left_by item ≡ Some cs → (some ≡ true → cs ≢ []) → (is_fragment all.kind ≡ false → is_misc item ≡ false) → Keeps all s → accepts_characters all some ≡ false
    → step all.kind s item ≡ None
refused_left all at_start item cs some left full other keeps e = at_first all.kind refl
  where
    first : (item : Item) (cs : List ℕ) → left_by item ≡ Some cs → is_misc item ≡ false → step Document at_start item ≡ None
    first doctype cs left plain = absurd cc
    first comment cs left plain = absurd cc
    first instruction cs left plain = absurd cc
    first (start_tag n a) cs left plain = absurd cc
    first (empty_tag n a) cs left plain = absurd cc
    first (end_tag n) cs left plain = absurd cc
    first (reference c) cs left plain = refl
    first (section ds) cs left plain = refl
    first (plain_character c) cs left plain = rw plain refl

    at_first : (kind : Kind) → all.kind ≡ kind → step kind at_start item ≡ None
    at_first Document is = first item cs left (other (ap is_fragment is))
    at_first Fragment is = absurd (
        let may : accepts_characters all some ≡ true = ap (λ (k : Kept). accepts_characters k some) (keeps ∙ ap (λ (k : Kind). kept_outside k false [] []) is) ∙ or_true (not some) true refl in
        let bad : true ≡ false = sym may ∙ e in cc)
refused_left all after_doctype item cs some left full other keeps e =
    ap (λ (k : Kept). step k.kind after_doctype item) keeps ∙ second item cs left (other (ap (λ (k : Kept). is_fragment k.kind) keeps))
  where
    second : (item : Item) (cs : List ℕ) → left_by item ≡ Some cs → is_misc item ≡ false → step Document after_doctype item ≡ None
    second doctype cs left plain = absurd cc
    second comment cs left plain = absurd cc
    second instruction cs left plain = absurd cc
    second (start_tag n a) cs left plain = absurd cc
    second (empty_tag n a) cs left plain = absurd cc
    second (end_tag n) cs left plain = absurd cc
    second (reference c) cs left plain = refl
    second (section ds) cs left plain = refl
    second (plain_character c) cs left plain = rw plain refl
refused_left all (in_text ds) item cs some left full other keeps e = absurd (
    let may : accepts_characters all some ≡ true = ap (λ (k : Kept). accepts_characters k some) keeps.0 ∙ or_true (not some) true refl in
    let bad : true ≡ false = sym may ∙ e in cc)
refused_left all (inside f frames here) item cs some left full other keeps e = absurd (
    let may : accepts_characters all some ≡ true = or_first _ _ (inside_is all f frames here keeps) in
    let bad : true ≡ false = sym may ∙ e in cc)
refused_left all (at_end tree) item cs some left full other keeps e = at_last all.kind refl
  where
    at_last : (kind : Kind) → all.kind ≡ kind → step kind (at_end tree) item ≡ None
    at_last Document is = rw (other (ap is_fragment is)) refl
    at_last Fragment is =
        let some_is : some ≡ true = are_some some (or_second_false _ _ (and_second _ _ (ap is_fragment is) (or_false _ _ e))) in
        rw left (nothing cs (full some_is))
      where
        or_false : (a b : Bool) → (a || b) ≡ false → b ≡ false
        or_false true b e = absurd cc
        or_false false b e = e

        and_second : (a b : Bool) → a ≡ true → (a && b) ≡ false → b ≡ false
        and_second a b h e = rw h at e

        or_second_false : (a b : Bool) → (a || b) ≡ false → a ≡ false
        or_second_false true b e = absurd cc
        or_second_false false b e = refl

        are_some : (b : Bool) → not b ≡ false → b ≡ true
        are_some true e = refl
        are_some false e = absurd cc

        nothing : (cs : List ℕ) → cs ≢ [] → leave_nothing (at_end tree) (Some cs) ≡ None
        nothing [] some = absurd (some refl)
        nothing (c ∷ cs) some = refl

-- a run of characters
pub added_run : (cs : List ℕ) (all : Kept) (s : State) → Keeps all s → accepts_characters all true ≡ true
    → (next : State) × (run all.kind (Some s) (map plain_character cs) ≡ some_state next) × Keeps (waits_more all cs) next
added_run [] all s keeps e = (s, refl, subst (λ (k : Kept). Keeps k s) (sym (waits_none all)) keeps)
added_run (c ∷ cs) all s keeps e =
    let one = added_left all s (plain_character c) (c ∷ []) true refl (λ bad. absurd (let h = bad in cc)) keeps e in
    let more = added_run cs (waits_more all (c ∷ [])) one.0 one.2 e in (
      more.0,
      ap (λ (o : Option State). run all.kind o (map plain_character cs)) one.1 ∙ more.1,
      subst (λ (k : Kept). Keeps k more.0) (ap (λ (t : List ℕ). record all { waiting = t }) (append_assoc all.waiting (c ∷ []) cs)) more.2,
    )

-- ---- doctypes

doctype_parts : (all : Kept) → accepts_doctype all ≡ true → (is_fragment all.kind ≡ false) × (all.has_doctype ≡ false) × (accepts_node all.built ≡ true) × (is_inside all.built ≡ false)
doctype_parts all e =
    let a = and_parts (not (is_fragment all.kind)) _ e in
    let b = and_parts (not all.has_doctype) _ a.1 in
    let d = and_parts (accepts_node all.built) _ b.1 in
    (not_true _ a.0, not_true _ b.0, d.0, not_true _ d.1)

pub added_doctype : (all : Kept) (s : State) → Keeps all s → accepts_doctype all ≡ true → Added all.kind s doctype (record all { has_doctype = true })
added_doctype all at_start keeps e =
    let kind_is = as_document all.kind (doctype_parts all e).0 in
    (after_doctype, ap (λ (k : Kind). step k at_start doctype) kind_is, ap (λ (k : Kept). record k { has_doctype = true }) keeps ∙ ap (λ (k : Kind). kept_outside k true [] []) kind_is)
added_doctype all after_doctype keeps e = absurd (let bad : true ≡ false = sym (ap (λ (k : Kept). k.has_doctype) keeps) ∙ (doctype_parts all e).1 in cc)
added_doctype all (in_text cs) keeps e = absurd (let bad : true ≡ false = sym (ap (λ (k : Kept). is_fragment k.kind) keeps.0) ∙ (doctype_parts all e).0 in cc)
added_doctype all (inside f frames here) keeps e = absurd (let bad : true ≡ false = sym (inside_is all f frames here keeps) ∙ (doctype_parts all e).3 in cc)
added_doctype all (at_end tree) keeps e = absurd (
    let no_node : accepts_node all.built ≡ false = ap (λ (k : Kept). accepts_node k.built) keeps.0 ∙ whole_rows (rows 0 tree) (rows_some tree keeps.1) in
    let bad : true ≡ false = sym (doctype_parts all e).2 ∙ no_node in cc)

-- ---- the end

-- the state is final, of this tree, or of none
Settles : State → Building → Type 0
Settles s built = (is_whole built ≡ true → IsFinal s (forest_of built.rows)) × (is_whole built ≡ false → (tree : Forest Node) → IsFinal s tree → ⊥)

settled : (all : Kept) (s : State) → Keeps all s → Settles s (with_last_text all)
unfolding Settles
settled all at_start keeps = subst (λ (built : Building). Settles at_start built) (sym (ap with_last_text keeps)) (λ e. absurd cc, λ e tree final. final)
settled all after_doctype keeps = subst (λ (built : Building). Settles after_doctype built) (sym (ap with_last_text keeps)) (λ e. absurd cc, λ e tree final. final)
settled all (in_text []) keeps = absurd (keeps.1 refl)
settled all (in_text (c ∷ cs)) keeps = subst (λ (built : Building). Settles (in_text (c ∷ cs)) built) (sym (ap with_last_text keeps.0)) (λ e. refl, λ e tree final. absurd cc)
settled all (inside f frames here) keeps =
    let same : with_last_text all ≡ all.built = ap (λ (b : Bool). cond (accepts_node all.built && not b) (with_text all.built all.waiting) all.built) (inside_is all f frames here keeps) ∙ never (accepts_node all.built) in
    subst (λ (built : Building). Settles (inside f frames here) built) (sym same) (λ e. absurd (still all.built (inside_is all f frames here keeps) e), λ e tree final. final)
  where
    never : (a : Bool) → cond (a && false) (with_text all.built all.waiting) all.built ≡ all.built
    never true = refl
    never false = refl

    still : (built : Building) → is_inside built ≡ true → is_whole built ≡ true → ⊥
    still built h k = grind (arith, nat_tests)
settled all (at_end tree) keeps =
    let no_node : accepts_node (built_of (rows 0 tree) 0) ≡ false = whole_rows (rows 0 tree) (rows_some tree keeps.1) in
    let same : with_last_text all ≡ built_of (rows 0 tree) 0 = ap with_last_text keeps.0 ∙ rw no_node refl in
    subst (λ (built : Building). Settles (at_end tree) built) (sym same) (λ e. forest_of-rows tree, λ e. absurd (let bad : true ≡ false = sym (some_rows (rows 0 tree) (rows_some tree keeps.1)) ∙ e in cc))
  where
    some_rows : (all : List Row) → all ≢ [] → is_whole (built_of all 0) ≡ true
    some_rows [] some = absurd (some refl)
    some_rows (first ∷ rest) some = grind (arith, nat_tests)

pub finished : (all : Kept) (s : State) → Keeps all s → is_whole (with_last_text all) ≡ true → IsFinal s (forest_of (with_last_text all).rows)
unfolding Settles
finished all s keeps e = (settled all s keeps).0 e

pub not_finished : (all : Kept) (s : State) → Keeps all s → is_whole (with_last_text all) ≡ false → (tree : Forest Node) → IsFinal s tree → ⊥
unfolding Settles
not_finished all s keeps e = (settled all s keeps).1 e

-- ---- what is kept, put together

pub moved : (kind : Kind) (s : State) (item : Item) (new other : Kept) → other ≡ new → Added kind s item new → Added kind s item other
moved kind s item new other same added = (added.0, added.1, subst (λ (all : Kept). Keeps all added.0) (sym same) added.2)

pub ends_again : (built : Building) (name : List ℕ) (attrs : List Attr) → record (with_element built name attrs) { inside = built.inside + 1 - 1 } ≡ record (with_element built name attrs) { inside = built.inside }
ends_again built name attrs = ap (λ (n : ℕ). record (with_element built name attrs) { inside = n }) (omega arith)

-- the names, with one more
pub names_pushed : (before after old : List (Bor (List ℕ))) (name : Bor (List ℕ)) → after ≡ before ++ name ∷ [] → name_bytes before ≡ name_bytes old → IsUtf8 name.now
    → name_bytes after ≡ name_bytes old ++ encode_utf8_all (chars name.now) ∷ []
names_pushed before after old name e same utf8 =
    ap name_bytes e ∙ map-append (λ (n : Bor (List ℕ)). n.now) before (name ∷ [])
    ∙ ap (λ (t : List (List ℕ)). t ++ name.now ∷ []) same ∙ ap (λ (t : List ℕ). name_bytes old ++ t ∷ []) (sym (encodes-chars name.now utf8))

-- the names, of which this is the last
pub names_last : (names : List (Bor (List ℕ))) (last : Bor (List ℕ)) → 0 < length names → last ≡ get_or names (length names - 1) last → name_bytes names ≡ name_bytes (take (length names - 1) names) ++ last.now ∷ []
names_last names last some e = ap name_bytes (last_is names last some e) ∙ map-append (λ (n : Bor (List ℕ)). n.now) (take (length names - 1) names) (last ∷ [])
  where
    last_is : {A : Type 0} (xs : List A) (x : A) → 0 < length xs → x ≡ get_or xs (length xs - 1) x → xs ≡ take (length xs - 1) xs ++ x ∷ []
    last_is xs x lt e =
        let i : length xs - 1 + 1 ≡ length xs = omega arith in
        let whole : take (length xs - 1 + 1) xs ≡ xs = rw i (take_all (length xs) xs (omega arith)) in
        sym whole ∙ take_more xs (length xs - 1) x (omega arith) ∙ rw (← e) refl

-- the names without the last
pub names_popped : (old before after : List (Bor (List ℕ))) (n : ℕ) → n ≡ length before → name_bytes before ≡ name_bytes old → after ≡ take (n - 1) before → name_bytes after ≡ name_bytes (take (length old - 1) old)
names_popped old before after n len same e =
    let lens : length before ≡ length old = sym (length-map before (λ (n : Bor (List ℕ)). n.now)) ∙ ap length same ∙ length-map old (λ (n : Bor (List ℕ)). n.now) in
    let k : n - 1 ≡ length old - 1 = omega arith in
    ap name_bytes e ∙ sym (take-map (λ (n : Bor (List ℕ)). n.now) (n - 1) before) ∙ rw (same, k) (take-map (λ (n : Bor (List ℕ)). n.now) (length old - 1) old)

pub not_same : (xs ys : List ℕ) → true ≡ not (bytes_eq xs ys) → xs ≢ ys
not_same xs ys e same = let t : bytes_eq xs ys ≡ true = (bytes_eq-Decides xs ys).1 same in absurd (let h = rw t at e in cc)

pub is_same : (xs ys : List ℕ) → false ≡ not (bytes_eq xs ys) → xs ≡ ys
is_same xs ys e = (bytes_eq-Decides xs ys).0 (flipped (bytes_eq xs ys) e)
  where
    flipped : (b : Bool) → false ≡ not b → b ≡ true
    flipped true e = refl
    flipped false e = absurd cc
