-- Same documents have the same author's sheets, entries and lines.
use Rattle.std.proofs.Common.{◌≡◌, ◌+◌, ◌==◌, ◌&&◌, ◌∷◌, ◌++◌, ℕ, true, false, cond, List, [], codes, bytes_eq, drop, find, flat_map, option_and_then, option_map, unwrap_or, Option, Some, None, refl, sym, ap, ap₂, ◌∙◌, inl, inr}
use Rattle.std.proofs.Math.Path.{fun_ext}
use Rattle.std.proofs.lemmas.Bool.{cases_Bool}
use Rattle.std.specs.Option.{option_map_or, option_or}
use Rattle.forest.specs.Forest.{Forest, Empty, Tree, labels}
use Rattle.forest.specs.Keys.{Keyed, numbered}
use Rattle.forest.specs.Paths.{path_of, route}
use Rattle.forest.specs.Spots.{children_of}
use Rattle.plain_types.specs.declared.box_kind.BoxKind.{BoxKind}
use Rattle.plain_types.specs.declared.box_kind.BoxKind.TheVariants as kind
use Rattle.plain_types.specs.declared.content.Part.{Part}
use Rattle.plain_types.specs.declared.counter.Counter.{Counter}
use Rattle.plain_types.specs.declared.counter_style.CounterStyle.{CounterStyle}
use Rattle.plain_types.specs.declared.node.Node.{Node}
use Rattle.plain_types.specs.declared.sheet.Sheet.{Sheet}
use Rattle.css_reader.specs.Sheets.{sheets}
use Rattle.dump_definitions.specs.Dump.{Line, dump}
use Rattle.node_arena.specs.Nodes.{node_characters}
use Rattle.content_eval.specs.Targets.{Known, flat_text}
use Rattle.box_eval.specs.declared.element_record.ElementRecord.{ElementRecord}
use Rattle.box_eval.specs.declared.made.Made.{Made}
use Rattle.generated_texts.specs.Documents.{counter_styles, document_evaluation}
use Rattle.generated_texts.specs.Entries.{document_entries, node_entries}
use Rattle.generated_texts.specs.Lines.{document_lines, first_lines, fresh_dump, keyed_lines, last_lines, tree_lines}
use Rattle.generated_texts.specs.References.{asked_box, characters_in, first_holder, has_id, kept_at, known_characters, known_targets}
use Rattle.generated_texts.specs.StyleElements.{author_sheet, has_sheet, is_css, style_texts}
use Rattle.generated_texts.specs.declared.entry.BoxText.{BoxText}
use Rattle.generated_texts.specs.declared.entry.NodeEntry.{NodeEntry}
use Rattle.same_documents.specs.Sameness.{AreSame, AreSameKeyed, IsSameKeyedNode, IsSameNode}
use Rattle.same_documents.proofs.SameEdits.{same_numbered}
use Rattle.same_texts.proofs.Pairing.{AreEach, both_nodes, both_trees}
use Rattle.same_texts.proofs.SameEvaluations.{evaluation_same}
use Rattle.same_texts.proofs.SameStyles.{children_same}

-- The nodes in tree order.

each_append : (xs ys us vs : List (Keyed Node)) → AreEach IsSameKeyedNode xs ys → AreEach IsSameKeyedNode us vs → AreEach IsSameKeyedNode (xs ++ us) (ys ++ vs)
each_append [] [] us vs h g = g
each_append [] (y ∷ ys) us vs h g = absurd h
each_append (x ∷ xs) [] us vs h g = absurd h
each_append (x ∷ xs) (y ∷ ys) us vs h g = (h.0, each_append xs ys us vs h.1 g)

labels_same : (x y : Forest (Keyed Node)) → AreSameKeyed x y → AreEach IsSameKeyedNode (labels x) (labels y)
labels_same Empty Empty h = tt
labels_same Empty (Tree m d s) h = absurd h
labels_same (Tree n c r) Empty h = absurd h
labels_same (Tree n c r) (Tree m d s) h = (h.0, each_append (labels c) (labels d) (labels r) (labels s) (labels_same c d h.1) (labels_same r s h.2))

id_same : (id : List ℕ) (node other : Node) → IsSameNode node other → has_id id node ≡ has_id id other
id_same id = both_nodes (λ node other. has_id id node ≡ has_id id other) (λ name attrs others same. ap (λ value. option_map_or (bytes_eq id) value false) (same (codes "id"))) (λ characters. refl)

found_same : (id : List ℕ) (xs ys : List (Keyed Node)) → AreEach IsSameKeyedNode xs ys
    → option_map (λ (node : Keyed Node). node.key) (find (λ (node : Keyed Node). has_id id node.label) xs) ≡ option_map (λ (node : Keyed Node). node.key) (find (λ (node : Keyed Node). has_id id node.label) ys)
found_same id [] [] h = refl
found_same id [] (y ∷ ys) h = absurd h
found_same id (x ∷ xs) [] h = absurd h
found_same id (x ∷ xs) (y ∷ ys) h = elim (cases_Bool (has_id id x.label)) [
  | inl e ↦ let too : has_id id y.label ≡ true = sym (id_same id x.label y.label h.0.1) ∙ e in rw (e, too) (ap Some h.0.0)
  | inr e ↦ let too : has_id id y.label ≡ false = sym (id_same id x.label y.label h.0.1) ∙ e in rw (e, too) (found_same id xs ys h.1)
]

pub holder_same : (document other : Forest (Keyed Node)) → AreSameKeyed document other → (id : List ℕ) → first_holder document id ≡ first_holder other id
holder_same document other same id = found_same id (labels document) (labels other) (labels_same document other same)

read_same : (node other : Node) → IsSameNode node other → unwrap_or (node_characters node) [] ≡ unwrap_or (node_characters other) []
read_same = both_nodes (λ node other. unwrap_or (node_characters node) [] ≡ unwrap_or (node_characters other) []) (λ name attrs others same. refl) (λ characters. refl)

all_read_same : (xs ys : List (Keyed Node)) → AreEach IsSameKeyedNode xs ys
    → flat_map (λ (node : Keyed Node). unwrap_or (node_characters node.label) []) xs ≡ flat_map (λ (node : Keyed Node). unwrap_or (node_characters node.label) []) ys
all_read_same [] [] h = refl
all_read_same [] (y ∷ ys) h = absurd h
all_read_same (x ∷ xs) [] h = absurd h
all_read_same (x ∷ xs) (y ∷ ys) h = ap₂ (λ text rest. text ++ rest) (read_same x.label y.label h.0.1) (all_read_same xs ys h.1)

characters_same : (x y : Forest (Keyed Node)) → AreSameKeyed x y → characters_in x ≡ characters_in y
characters_same x y h = all_read_same (labels x) (labels y) (labels_same x y h)

-- Style elements.

sheet_there : (node other : Node) → IsSameNode node other → has_sheet node ≡ has_sheet other
sheet_there = both_nodes (λ node other. has_sheet node ≡ has_sheet other) (λ name attrs others same. ap (λ value. bytes_eq name (codes "style") && option_map_or is_css value true) (same (codes "type"))) (λ characters. refl)

pub texts_same : (x y : Forest (Keyed Node)) → AreSameKeyed x y → style_texts x ≡ style_texts y
texts_same Empty Empty h = refl
texts_same Empty (Tree m d s) h = absurd h
texts_same (Tree n c r) Empty h = absurd h
texts_same (Tree n c r) (Tree m d s) h =
    ap₂ (λ own rest. own ++ rest)
    (ap₂ (λ there text. cond there (text ∷ []) []) (sheet_there n.label m.label h.0.1) (characters_same c d h.1))
    (ap₂ (λ below beside. below ++ beside) (texts_same c d h.1) (texts_same r s h.2))

pub sheet_same : (document other : Forest (Keyed Node)) → AreSameKeyed document other → (text : List ℕ) → author_sheet text document ≡ author_sheet text other
sheet_same document other same text = ap (λ texts. sheets (text ∷ texts)) (texts_same document other same)

-- What is known of targets is told by the holders of ids and the characters under them.
module _ (table : List CounterStyle) (records : List (ℕ × ElementRecord)) (holder : List ℕ → Option ℕ) (characters : List ℕ → List ℕ) where
  abbrev target_by : List ℕ → Option ElementRecord
  target_by id = option_and_then (kept_at records) (holder id)

  abbrev counters_by : List ℕ → Option (List Counter)
  counters_by id = option_and_then (λ (element : ElementRecord). cond element.has_box (Some element.own) None) (target_by id)

  abbrev below_by : Known
  below_by = record { counters = counters_by; characters = characters; flat = λ id part. None }

  abbrev flat_by : List ℕ → Part → Option (List ℕ)
  flat_by id part = option_map (λ (made : Made). flat_text table below_by made.pieces) (option_and_then (λ (element : ElementRecord). asked_box element part) (target_by id))

  abbrev known_by : Known
  known_by = record { counters = counters_by; characters = characters; flat = flat_by }

module _ (document other : Forest (Keyed Node)) (same : AreSameKeyed document other) where
  under_same : (id : List ℕ) → known_characters document id ≡ known_characters other id
  under_same id =
      ap (λ (read : ℕ → List ℕ). option_map_or read (first_holder document id) []) (fun_ext (λ key. characters_same (children_of document key) (children_of other key) (children_same document other same key)))
      ∙ ap (λ holder. option_map_or (λ key. characters_in (children_of other key)) holder []) (holder_same document other same id)

  known_same : (table : List CounterStyle) (records : List (ℕ × ElementRecord)) → known_targets table document records ≡ known_targets table other records
  known_same table records = ap₂ (known_by table records) (fun_ext (holder_same document other same)) (fun_ext under_same)

  pub entries_same : (author : Sheet) → document_entries author document ≡ document_entries author other
  entries_same author =
      let table = counter_styles author in
      ap (λ records. node_entries table (known_targets table document records) records) (evaluation_same author document other same)
      ∙ ap (λ known. node_entries table known (document_evaluation author other)) (known_same table (document_evaluation author other))

-- Lines.

route_same : (x y : Forest (Keyed Node)) → AreSameKeyed x y → (position key : ℕ) → route position x key ≡ route position y key
route_same = both_trees (λ x y. (position key : ℕ) → route position x key ≡ route position y key) (λ position key. refl)
    (λ place name attrs others c d r s same down on below beside position key.
    ap₂ (λ under rest. cond (place == key) (Some (position ∷ [])) (option_or (option_map (λ steps. position ∷ steps) under) rest)) (below 0 key) (beside (position + 1) key))
    (λ place characters c d r s down on below beside position key.
    ap₂ (λ under rest. cond (place == key) (Some (position ∷ [])) (option_or (option_map (λ steps. position ∷ steps) under) rest)) (below 0 key) (beside (position + 1) key))

paths_same : (document other : Forest (Keyed Node)) → AreSameKeyed document other → path_of document ≡ path_of other
paths_same document other same = fun_ext (λ key. ap (λ steps. drop 1 (unwrap_or steps [])) (route_same document other same 0 key))

-- the lines of a box by the paths of nodes
abbrev line_by : (ℕ → List ℕ) → ℕ → BoxKind → Option BoxText → List Line
line_by path key kind box = option_map_or (λ (text : BoxText). record { path = path key; kind = kind; text = text.full } ∷ []) box []

module _ (document other : Forest (Keyed Node)) (same : AreSameKeyed document other) (entry_of : ℕ → Option NodeEntry) where
  first_same : (key : ℕ) → first_lines document entry_of key ≡ first_lines other entry_of key
  first_same key =
      ap (λ (path : ℕ → List ℕ). option_map_or (λ (entry : NodeEntry). line_by path key kind.Marker entry.marker ++ line_by path key kind.Before entry.before) (entry_of key) [])
      (paths_same document other same)

  last_same : (key : ℕ) → last_lines document entry_of key ≡ last_lines other entry_of key
  last_same key = ap (λ (path : ℕ → List ℕ). option_map_or (λ (entry : NodeEntry). line_by path key kind.After entry.after) (entry_of key) []) (paths_same document other same)

  lines_same : (x y : Forest (Keyed Node)) → AreSameKeyed x y → tree_lines document entry_of x ≡ tree_lines other entry_of y
  lines_same = both_trees (λ x y. tree_lines document entry_of x ≡ tree_lines other entry_of y) refl
      (λ key name attrs others c d r s same down on below beside. tree_lines_same key (tree_lines document entry_of c) (tree_lines other entry_of d) (tree_lines document entry_of r) (tree_lines other entry_of s) below beside)
      (λ key characters c d r s down on below beside. tree_lines_same key (tree_lines document entry_of c) (tree_lines other entry_of d) (tree_lines document entry_of r) (tree_lines other entry_of s) below beside)
    where
      tree_lines_same : (key : ℕ) (c d r s : List Line) → c ≡ d → r ≡ s
          → first_lines document entry_of key ++ (c ++ (last_lines document entry_of key ++ r)) ≡ first_lines other entry_of key ++ (d ++ (last_lines other entry_of key ++ s))
      tree_lines_same key c d r s below beside =
          ap₂ (λ own rest. own ++ rest) (first_same key) (ap₂ (λ under rest. under ++ rest) below (ap₂ (λ own rest. own ++ rest) (last_same key) beside))

pub keyed_same : (text : List ℕ) (document other : Forest (Keyed Node)) → AreSameKeyed document other → keyed_lines text document ≡ keyed_lines text other
keyed_same text document other same =
    ap (λ author. tree_lines document (kept_at (document_entries author document)) document) (sheet_same document other same text)
    ∙ ap (λ entries. tree_lines document (kept_at entries) document) (entries_same document other same (author_sheet text other))
    ∙ lines_same document other same (kept_at (document_entries (author_sheet text other) other)) document other same

pub document_lines_same : (text : List ℕ) (document other : Forest Node) → AreSame document other → document_lines text document ≡ document_lines text other
unfolding document_lines
document_lines_same text document other same = keyed_same text (numbered 0 document) (numbered 0 other) (same_numbered 0 document other same)

pub dump_same : (text : List ℕ) (document other : Forest Node) → AreSame document other → fresh_dump text document ≡ fresh_dump text other
dump_same text document other same = ap dump (document_lines_same text document other same)
