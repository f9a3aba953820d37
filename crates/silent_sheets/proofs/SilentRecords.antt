-- An element whose pseudo-elements have `content: none` has no marker, before or after box.
use Rattle.std.proofs.Common.{◌≡◌, ◌==◌, ◌&&◌, ◌++◌, ℕ, ℤ, Bool, true, false, cond, not, List, [], ◌∷◌, Option, Some, None, refl, ap, eq-eqb, inl, inr}
use Rattle.std.proofs.lemmas.Bool.{cases_Bool}
use Rattle.std.specs.Prelude.{is_some, option_map}
use Rattle.forest.specs.Forest.{Forest, Empty, Tree}
use Rattle.forest.specs.Keys.{Keyed}
use Rattle.plain_types.specs.declared.box_id.BoxId.{BoxId}
use Rattle.plain_types.specs.declared.content.Content.{Content}
use Rattle.plain_types.specs.declared.content.Content.TheVariants as content
use Rattle.plain_types.specs.declared.counter_style.CounterStyle.{CounterStyle}
use Rattle.plain_types.specs.declared.node.Node.{Node}
use Rattle.plain_types.specs.declared.node.Node.TheVariants as node
use Rattle.plain_types.specs.declared.style.ElementStyle.{ElementStyle}
use Rattle.plain_types.specs.declared.style.ListType.{ListType}
use Rattle.plain_types.specs.declared.style.Style.{Style}
use Rattle.node_arena.specs.Nodes.{node_name}
use Rattle.content_eval.specs.Targets.{Known}
use Rattle.box_eval.specs.Boxes.{has_items, has_marker, has_pseudo_box, is_absent, is_list_item, marks}
use Rattle.box_eval.specs.Elements.{Handed, Styled, by_peers, no_box}
use Rattle.box_eval.specs.Evaluation.{record_of, records, records_of, style_within, styled_node, styled_trees}
use Rattle.box_eval.specs.declared.element_record.ElementRecord.{ElementRecord}
use Rattle.box_eval.specs.declared.formed.Formed.{Formed}
use Rattle.generated_texts.specs.Entries.{box_text, node_entries}
use Rattle.generated_texts.specs.References.{kept_at}
use Rattle.generated_texts.specs.declared.entry.NodeEntry.{NodeEntry}
use Rattle.generated_texts.proofs.EntryKeys.{has_element}
use Rattle.silent_sheets.proofs.SilentStyles.{IsSilentStyle, or_true}

-- One element.

marks_nothing : (value : Content) (type : ListType) (item : Bool) → value ≡ content.Nothing → (item && marks value type) ≡ false
marks_nothing value type true is = ap (λ v. marks v type) is
marks_nothing value type false is = refl

no_pseudo_box : (style : Style) → style.content ≡ content.Nothing → has_pseudo_box style ≡ false
no_pseudo_box style is = ap (λ value. has_items value && not (is_absent style.display)) is

unformed : (has : Bool) (formed : Formed) (depth : ℕ) → has ≡ false → (cond has formed (no_box depth)).made ≡ None
unformed true formed depth none = absurd (cc)
unformed false formed depth none = refl

-- an element without these boxes
pub record IsBare (element : ElementRecord) : Type 0 where
  pub marker : element.marker ≡ None
  pub before : element.before ≡ None
  pub after : element.after ≡ None

bare_record : (table : List CounterStyle) (boxed : Bool) (key : ℕ) (element : Styled) (handed behind : Handed) → IsSilentStyle element.style → IsBare (record_of table by_peers boxed key element handed behind)
bare_record table false key element handed behind silent = record { marker = refl; before = refl; after = refl }
bare_record table true key element handed behind silent = record {
  marker = unformed (has_marker element.style) _ _ (marks_nothing element.style.marker.content element.style.own.list_type (is_list_item element.style.own.display) silent.marker);
  before = unformed (has_pseudo_box element.style.before) _ _ (no_pseudo_box element.style.before silent.before);
  after = unformed (has_pseudo_box element.style.after) _ _ (no_pseudo_box element.style.after silent.after);
}

-- Trees.

abbrev pub AreBare : List (ℕ × ElementRecord) → Type 0
AreBare [] = Unit {0}
AreBare (element ∷ rest) = IsBare element.1 × AreBare rest

bare-append : (some others : List (ℕ × ElementRecord)) → AreBare some → AreBare others → AreBare (some ++ others)
bare-append [] others bare more = more
bare-append (element ∷ some) others bare more = (bare.0, bare-append some others bare.1 more)

module _ (table : List CounterStyle) (style : ℕ → Option Style → ElementStyle) (start : BoxId → List ℕ → ℤ) where
  -- the elements in these trees are styled so
  abbrev pub AreSilent : Forest (Keyed Node) → Type 0
  AreSilent trees = (key : ℕ) (parent : Option Style) → has_element key trees ≡ true → IsSilentStyle (style key parent)

  bare_node : (boxed : Bool) (parent : Option Style) (key : ℕ) (label : Node) (handed behind : Handed) → (is_some (node_name label) ≡ true → IsSilentStyle (style key parent))
      → AreBare (records_of table by_peers boxed key (styled_node style start parent key label) handed behind)
  bare_node boxed parent key (node.Element name attrs) handed behind silent = (bare_record table boxed key _ handed behind (silent refl), tt)
  bare_node boxed parent key (node.Text characters) handed behind silent = tt

  pub all_bare : (trees : Forest (Keyed Node)) (boxed : Bool) (parent : Option Style) (handed : Handed) → AreSilent trees → AreBare (records table by_peers boxed handed (styled_trees style start parent trees))
  all_bare Empty boxed parent handed silent = tt
  all_bare (Tree first children after) boxed parent handed silent =
      let itself = eq-eqb first.key first.key refl in
      bare-append _ _
      (all_bare children _ (style_within style start parent first.key first.label) _ (λ key above has. silent key above (rw has refl)))
      (bare-append _ _
      (bare_node _ parent first.key first.label handed _ (λ named. silent first.key parent (rw (itself, named) (or_true (has_element first.key children)))))
      (all_bare after boxed parent _
      (λ key above has. silent key above (rw (has, or_true (first.key == key && is_some (node_name first.label))) (or_true (has_element key children))))))

-- What is kept.

-- nothing, or an entry without these texts
abbrev pub IsBareEntry : Option NodeEntry → Type 0
IsBareEntry None = Unit {0}
IsBareEntry (Some entry) = (entry.marker ≡ None) × (entry.before ≡ None) × (entry.after ≡ None)

pub kept_bare : (table : List CounterStyle) (known : Known) (elements : List (ℕ × ElementRecord)) (key : ℕ) → AreBare elements → IsBareEntry (kept_at (node_entries table known elements) key)
kept_bare table known [] key bare = tt
kept_bare table known (element ∷ rest) key bare = elim (cases_Bool (element.0 == key)) [
  | inl e ↦ rw e (ap (option_map (box_text table known)) bare.0.marker, ap (option_map (box_text table known)) bare.0.before, ap (option_map (box_text table known)) bare.0.after)
  | inr e ↦ rw e (kept_bare table known rest key bare.1)
]
