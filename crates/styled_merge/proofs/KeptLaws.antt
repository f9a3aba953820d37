-- What the merge of an edit keeps, once what the edit reaches goes and comes in it, is untouched.
use Rattle.std.proofs.Common.{◌≡◌, ◌==◌, ◌<◌, ℕ, Bool, true, false, List, Option, Some, None, IsSome, refl, sym, ap, subst, ◌∙◌, arith, eq-eqb}
use Rattle.std.specs.Prelude.{IfSome}
use Rattle.forest.specs.Forest.{Forest}
use Rattle.forest.specs.Keys.{Keyed, HasDistinctKeys}
use Rattle.plain_types.specs.declared.edit.Edit.{Edit}
use Rattle.plain_types.specs.declared.node.Node.{Node}
use Rattle.plain_types.specs.declared.sheet.Features.{Features}
use Rattle.plain_types.specs.declared.sheet.Sheet.{Sheet}
use Rattle.node_arena.specs.Nodes.{name_of}
use Rattle.node_arena.specs.Edits.{edited_sheet}
use Rattle.mini_cascade.specs.Styles.{element_style}
use Rattle.generated_texts.specs.Documents.{agent_sheet}
use Rattle.generated_texts.specs.StyleElements.{author_sheet}
use Rattle.merged_walk.specs.Merges.{Merge, new_of, old_of}
use Rattle.merged_walk.specs.Laws.{Merges}
use Rattle.edit_merge.specs.EditMerges.{edit_merge}
use Rattle.style_reach.specs.Ancestors.{is_within}
use Rattle.style_reach.specs.Laws.{Edits, IsBeyond, IsUntouched, edited_node}
use Rattle.style_reach.specs.Reaches.{all_features, reach}
use Rattle.style_reach.specs.declared.extent.Reach.{Reach}
use Rattle.style_reach.specs.declared.extent.Reach.TheVariants.{Own, Under, Both, All}
use Rattle.style_reach.proofs.AuthorLaws.{sheets-stay}
use Rattle.style_reach.proofs.TestLaws.{or-first, or-second}
use Rattle.style_reach.proofs.UntouchedLaws.{styles-stay}
use Rattle.styled_merge.specs.Stays.{HasSameStyle, IsUnturned}
use Rattle.styled_merge.specs.Reached.{begins_at, reached, reached_merge}
use Rattle.styled_merge.specs.Laws.{IsOutside, looks_beside, style_beside}
use Rattle.styled_merge.proofs.KeptCounts.{counted, element-kept, kept-few, kept_elements, kept_times}
use Rattle.styled_merge.proofs.KeptAncestors.{outside-new, outside-old}
use Rattle.styled_merge.proofs.EditCounts.{edited-gone, unturned-edit}
use Rattle.styled_merge.proofs.ReachedLaws.{kept-reached, new-reached, none-kept, nothing-reached, old-reached, unturned-reached}

if-some : (P : ℕ → Type 0) (o : Option ℕ) → ((key : ℕ) → o ≡ Some key → P key) → IfSome o P
if-some P None h = tt
if-some P (Some key) h = h key refl

-- what is in none of the nodes of a reach is beyond it
beyond-all : (o : Reach) (tree : Forest (Keyed Node)) (q : ℕ) → ((top : ℕ) → begins_at o top ≡ true → is_within tree top q ≡ false) → (begins_at o q ≡ true → ⊥) → IsBeyond o tree q
beyond-all Own tree q out never = tt
beyond-all (Under top) tree q out never = out top (eq-eqb top top refl)
beyond-all (Both first second) tree q out never =
    (out first (or-first (first == first) (second == first) (eq-eqb first first refl)), out second (or-second (first == second) (second == second) (eq-eqb second second refl)))
beyond-all All tree q out never = absurd (never refl)

own-nothing : (key : ℕ) → begins_at Own key ≡ false
own-nothing key = refl

pub own-reached : (features : Features) (edit : Edit) (old new : Forest (Keyed Node)) → reach features old edit ≡ Own → reached_merge features edit old new ≡ edit_merge edit old new
own-reached features edit old new own =
    ap (λ o. reached (begins_at o) (edit_merge edit old new)) own ∙ nothing-reached (begins_at Own) own-nothing (edit_merge edit old new)

module _ (edit : Edit) (old new : Forest (Keyed Node)) (edits : Edits edit old new) (merges : Merges (edit_merge edit old new) old new) where
  module _ (features : Features) where
    abbrev plain : Merge Node
    plain = edit_merge edit old new

    abbrev whole : Merge Node
    whole = reached_merge features edit old new

    abbrev is_reached : ℕ → Bool
    is_reached = begins_at (reach features old edit)

    pub old-whole : old_of whole ≡ old
    old-whole = old-reached is_reached plain ∙ merges.old

    pub new-whole : new_of whole ≡ new
    new-whole = new-reached is_reached plain ∙ merges.new

    pub unturned-whole : IsUnturned whole
    unturned-whole = unturned-reached is_reached plain (unturned-edit edit old new)

    distinct-old : HasDistinctKeys (old_of whole)
    distinct-old = subst HasDistinctKeys (sym old-whole) edits.document.distinct

    -- Neither the edited node is kept nor one that the edit reaches.

    edited-goes : (top : ℕ) → edited_node edit old ≡ Some top → kept_times top whole ≡ 0
    edited-goes top at =
        let d = subst HasDistinctKeys (sym merges.old) edits.document.distinct in
        omega (arith, kept-reached is_reached top plain, counted top plain, edited-gone edit old new top at, d top)

    reached-goes : (top : ℕ) → is_reached top ≡ true → kept_times top whole ≡ 0
    reached-goes top reaches = none-kept is_reached top reaches plain

    module _ (q : ℕ) (kept : 0 < kept_elements q whole) where
      node-kept : 0 < kept_times q whole
      node-kept = omega (arith, kept-few q whole)

      not-reached : is_reached q ≡ true → ⊥
      not-reached reaches = absurd (omega (arith, node-kept, reached-goes q reaches))

      out-old : (top : ℕ) → kept_times top whole ≡ 0 → is_within old top q ≡ false
      out-old top goes = subst (λ f. is_within f top q ≡ false) old-whole (outside-old top q whole distinct-old goes node-kept)

      pub untouched : IsUntouched features edit old q
      untouched = record {
        element = subst (λ f. IsSome (name_of f q)) old-whole (element-kept q whole distinct-old kept);
        outside = if-some (λ top. is_within old top q ≡ false) (edited_node edit old) (λ top at. out-old top (edited-goes top at));
        beyond = beyond-all (reach features old edit) old q (λ top reaches. out-old top (reached-goes top reaches)) not-reached;
      }

      out-new : HasDistinctKeys new → (top : ℕ) → kept_times top whole ≡ 0 → is_within new top q ≡ false
      out-new d top goes =
          subst (λ f. is_within f top q ≡ false) new-whole
          (outside-new top q whole unturned-whole (subst HasDistinctKeys (sym new-whole) d) goes node-kept)

      pub outside : HasDistinctKeys new → IsOutside features edit old new q
      outside d = record {
        outside = if-some (λ top. is_within new top q ≡ false) (edited_node edit old) (λ top at. out-new d top (edited-goes top at));
        beyond = beyond-all (reach features old edit) new q (λ top reaches. out-new d top (reached-goes top reaches)) not-reached;
      }

  -- So it keeps its styles.

  pub same-style : (agent author : Sheet) (q : ℕ) → 0 < kept_elements q (reached_merge (all_features agent author) edit old new)
      → HasSameStyle (element_style old agent author) (element_style new agent author) q
  same-style agent author q kept parent = sym (styles-stay agent author edit old new q edits (untouched (all_features agent author) q kept) parent)

  pub same-document_style : (sheet_text : List ℕ) (q : ℕ) → 0 < kept_elements q (reached_merge (looks_beside sheet_text old) edit old new)
      → HasSameStyle (style_beside sheet_text old) (style_beside (edited_sheet edit sheet_text) new) q
  same-document_style sheet_text q kept parent =
      let looks = looks_beside sheet_text old in
      let is = untouched looks q kept in
      let sheet = sheets-stay looks edit old new sheet_text edits (λ all. subst (λ o. IsBeyond o old q) all is.beyond) in
      same-style agent_sheet (author_sheet sheet_text old) q kept parent ∙ ap (λ author. element_style new agent_sheet author q parent) (sym sheet)
