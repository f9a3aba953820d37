-- An untouched element keeps its styles.
use Rattle.std.proofs.Common.{◌≡◌, ◌==◌, ℕ, ℤ, true, false, cond, List, Option, Some, None, IsSome, refl, sym, ap, ◌∙◌}
use Rattle.std.specs.Prelude.{IfSome, option_and_then, option_map}
use Rattle.std.specs.List.{list_any}
use Rattle.forest.specs.Forest.{Forest}
use Rattle.forest.specs.Keys.{Keyed, HasDistinctKeys}
use Rattle.forest.specs.Spots.{Spot, IsLive, label_of, spot_of}
use Rattle.plain_types.specs.declared.box_id.BoxId.{BoxId}
use Rattle.plain_types.specs.declared.edit.Edit.{Edit}
use Rattle.plain_types.specs.declared.node.Node.{Node}
use Rattle.plain_types.specs.declared.sheet.Features.{Features}
use Rattle.plain_types.specs.declared.sheet.Sheet.{Sheet}
use Rattle.plain_types.specs.declared.style.ElementStyle.{ElementStyle}
use Rattle.plain_types.specs.declared.style.Style.{Style}
use Rattle.node_arena.specs.Nodes.{name_of, node_name}
use Rattle.mini_cascade.specs.Styles.{element_style}
use Rattle.box_eval.specs.Evaluation.{styled}
use Rattle.generated_texts.specs.Documents.{agent_sheet, document_style}
use Rattle.generated_texts.specs.StyleElements.{author_sheet}
use Rattle.node_arena.specs.Edits.{edited_sheet}
use Rattle.style_reach.specs.Ancestors.{is_within}
use Rattle.style_reach.specs.Laws.{DocumentStylesStay, Edits, IsBeyond, IsUntouched, StylesStay, edited_node}
use Rattle.style_reach.specs.Reaches.{all_features, reach, reach_in_tree}
use Rattle.style_reach.specs.TouchedSheets.{touches_sheet}
use Rattle.style_reach.specs.declared.extent.Reach.{Reach}
use Rattle.style_reach.specs.declared.extent.Reach.TheVariants.{Own, Under, Both, All}
use Rattle.style_reach.proofs.AncestorLaws.{within-above}
use Rattle.style_reach.proofs.Alike.{Alike, alike-seen}
use Rattle.style_reach.proofs.AuthorLaws.{author-stays}
use Rattle.style_reach.proofs.CascadeLaws.{style-same}
use Rattle.style_reach.proofs.DocumentLaws.{styled-same}
use Rattle.style_reach.proofs.EditLaws.{Steps, between, edit-steps}
use Rattle.style_reach.proofs.FeatureLaws.{agent-fits, author-fits}

-- what has a name is a node
named-live : (f : Forest (Keyed Node)) (q : ℕ) → IsSome (name_of f q) → IsLive f q
named-live f q some = by-spot (spot_of f q) some
  where
    by-spot : (o : Option (Spot Node)) → IsSome (option_and_then node_name (option_map (λ (s : Spot Node). s.label) o)) → IsSome o
    by-spot None some = absurd (cc)
    by-spot (Some s) some = refl

-- what does not reach everywhere touches no sheet, and reaches what it reaches in the tree
beyond-in-tree : (features : Features) (edit : Edit) (tree : Forest (Keyed Node)) (key : ℕ) → IsBeyond (reach features tree edit) tree key
    → (touches_sheet tree edit ≡ false) × IsBeyond (reach_in_tree features tree edit) tree key
beyond-in-tree features edit tree key beyond =
    elim (touches_sheet tree edit) as (λ b. IsBeyond (cond b All (reach_in_tree features tree edit)) tree key → (b ≡ false) × IsBeyond (reach_in_tree features tree edit) tree key) [
      | true ↦ λ never. absurd never
      | false ↦ λ beyond. (refl, beyond)
    ] beyond

-- Ancestors of what is outside are outside.

outside-above : (tree : Forest (Keyed Node)) (top a key : ℕ) → HasDistinctKeys tree → IsLive tree key → is_within tree a key ≡ true → is_within tree top key ≡ false → is_within tree top a ≡ false
outside-above tree top a key d live above out =
    elim (is_within tree top a) as (λ b. is_within tree top a ≡ b → b ≡ false) [
      | true ↦ λ is. absurd (let found : is_within tree top key ≡ true = (within-above tree a key d live above).1 top is in cc)
      | false ↦ λ is. refl
    ] refl

outside-any : (o : Option ℕ) (tree : Forest (Keyed Node)) (a key : ℕ) → HasDistinctKeys tree → IsLive tree key → is_within tree a key ≡ true → IfSome o (λ top. is_within tree top key ≡ false) → IfSome o (λ top. is_within tree top a ≡ false)
outside-any None tree a key d live above h = tt
outside-any (Some top) tree a key d live above h = outside-above tree top a key d live above h

beyond-above : (o : Reach) (tree : Forest (Keyed Node)) (a key : ℕ) → HasDistinctKeys tree → IsLive tree key → is_within tree a key ≡ true → IsBeyond o tree key → IsBeyond o tree a
beyond-above Own tree a key d live above h = tt
beyond-above (Under top) tree a key d live above h = outside-above tree top a key d live above h
beyond-above (Both first second) tree a key d live above h = (outside-above tree first a key d live above h.0, outside-above tree second a key d live above h.1)
beyond-above All tree a key d live above h = h

module _ (agent author : Sheet) (edit : Edit) (old new : Forest (Keyed Node)) (edits : Edits edit old new) where
  abbrev looks : Features
  looks = all_features agent author

  -- not in the edited tree, nor where the edit reaches
  record IsAway (key : ℕ) : Type 0 where
    pub live : IsLive old key
    pub outside : IfSome (edited_node edit old) (λ top. is_within old top key ≡ false)
    pub beyond : IsBeyond (reach_in_tree looks old edit) old key

  away : (key : ℕ) → IsUntouched looks edit old key → IsAway key
  away key untouched = record { live = named-live old key untouched.element; outside = untouched.outside; beyond = (beyond-in-tree looks edit old key untouched.beyond).1 }

  away-above : (key a : ℕ) → IsAway key → is_within old a key ≡ true → IsAway a
  away-above key a is above =
      let d = edits.document.distinct in
      record {
        live = (within-above old a key d is.live above).0;
        outside = outside-any (edited_node edit old) old a key d is.live above is.outside;
        beyond = beyond-above (reach_in_tree looks old edit) old a key d is.live above is.beyond;
      }

  steps : (key : ℕ) → IsAway key → Steps looks key old (between edit old) new
  steps key is = edit-steps looks key edit old new edits is.live is.outside is.beyond

  abbrev style_in : Forest (Keyed Node) → ℕ → Option Style → ElementStyle
  style_in document = element_style document agent author

  alike-style : (f g : Forest (Keyed Node)) (key : ℕ) → Alike looks key f g → (parent : Option Style) → style_in f key parent ≡ style_in g key parent
  alike-style f g key alike parent = style-same looks f g key (alike-seen looks key f g alike) agent author (agent-fits agent author) (author-fits agent author) parent

  pub style-stays : (key : ℕ) → IsUntouched looks edit old key → (parent : Option Style) → style_in new key parent ≡ style_in old key parent
  style-stays key untouched parent =
      let both = steps key (away key untouched) in
      sym (alike-style old (between edit old) key both.first parent ∙ alike-style (between edit old) new key both.second parent)

  -- told down from the roots
  pub styled-stays : (key : ℕ) → IsUntouched looks edit old key → (start : BoxId → List ℕ → ℤ)
      → label_of (styled (style_in new) start new) key ≡ label_of (styled (style_in old) start old) key
  styled-stays key untouched start =
      let is = away key untouched in
      let both = steps key is in
      let mid = between edit old in
      let same : (a : ℕ) → is_within old a key ≡ true → Steps looks a old mid new = λ a above. steps a (away-above key a is above) in
      sym (styled-same looks key start (style_in old) (style_in mid) old mid both.first (λ a above. alike-style old mid a (same a above).first)
      ∙ styled-same looks key start (style_in mid) (style_in new) mid new both.second
      (λ a above. alike-style mid new a (same a (ap (list_any (λ (n : Keyed Node). n.key == a)) (sym both.ancestors) ∙ above)).second))

pub styles-stay : StylesStay
styles-stay agent author edit old new key edits untouched parent = style-stays agent author edit old new edits key untouched parent

pub document-styles-stay : DocumentStylesStay
document-styles-stay edit old new sheet_text key edits untouched start =
    let author = author_sheet sheet_text old in
    let sheet_is : author_sheet (edited_sheet edit sheet_text) new ≡ author = author-stays edit old new sheet_text edits (beyond-in-tree (all_features agent_sheet author) edit old key untouched.beyond).0 in
    ap (λ sheet. label_of (styled (document_style sheet new) start new) key) sheet_is
    ∙ styled-stays agent_sheet author edit old new edits key untouched start
