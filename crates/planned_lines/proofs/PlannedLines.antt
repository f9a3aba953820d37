-- The changed lines of a planned edit, element by element.
use Rattle.std.proofs.Common.{◌≡◌, ◌<◌, ◌≤◌, ◌∙◌, ◌++◌, ◌⊎◌, ℕ, nat_eq, Bool, true, false, cond, List, [], ◌∷◌, Option, Some, None, flat_map, length, length-append, option_copied, option_map, refl, sym, ap, ap₂, arith, eq-eqb, inl, inr}
use Rattle.std.proofs.lemmas.Grind.{flat_map-append}
use Rattle.std.specs.Borrow.{Bor}
use Rattle.std.specs.HashMap.{HashMap, get}
use Rattle.std.specs.FinMap.{FinMap}
use Rattle.std.specs.Option.{option_or}
use Rattle.std.specs.Ordering.{nat_cmp}
use Rattle.forest.specs.Forest.{Forest, Empty, Tree}
use Rattle.forest.specs.Keys.{Keyed, keys, times}
use Rattle.forest.specs.Paths.{path_of}
use Rattle.forest.specs.Spots.{IsLive}
use Rattle.forest.proofs.OrderLaws.{keys-tree}
use Rattle.forest.proofs.SpotLaws.{counted-live}
use Rattle.plain_types.specs.declared.edit.Edit.{Edit}
use Rattle.plain_types.specs.declared.node.Node.{Node}
use Rattle.generated_texts.specs.declared.entry.NodeEntry.{NodeEntry}
use Rattle.merged_walk.specs.Entries.{last_at}
use Rattle.changed_lines.specs.declared.changed_line.ChangedLine.{ChangedLine}
use Rattle.changed_lines.specs.Changes.{changed_lines, element_lines, entry_in, lines_at, shows_other}
use Rattle.changed_lines.proofs.OtherLemmas.{none_lines, some_lines}
use Rattle.changed_lines.proofs.SameLemmas.{no_lines}
use Rattle.kept_elements.specs.declared.kept.Kept.{Kept}
use Rattle.kept_elements.specs.declared.kept_change.KeptChange.{KeptChange}
use Rattle.kept_elements.specs.Changes.{TellShown, entry_at}
use Rattle.dirty_walk.specs.declared.plan.Plan.{Plan}
use Rattle.dirty_walk.specs.Books.{StyledDocument, fresh_entry, keyed_source}
use Rattle.dirty_walk.specs.PlannedEntries.{IsPlannedFrom, PlansPutWhatDiffers}
use Rattle.dirty_walk.specs.Plans.{IsPlannedBy, settled_after}
use Rattle.planned_lines.specs.declared.span.Span.{Span}
use Rattle.planned_lines.specs.PutLines.{looked_up, put_lines}
use Rattle.planned_lines.specs.Spans.{IsWithin, ShowNoOthers}
use Rattle.planned_lines.proofs.LookedUp.{looked}
use Rattle.planned_lines.proofs.PutLemmas.{last_has, last_kept}

-- what a map has under a key
abbrev pub put_in : {S : Type 0} → HashMap ℕ (Bor KeptChange) S → ℕ → Option KeptChange
put_in changes key = option_copied (get nat_eq changes key)

-- the lines of a node, by what is put under its key
abbrev pub told : Forest (Keyed Node) → FinMap nat_cmp Kept → (ℕ → Option KeptChange) → ℕ → List ChangedLine
told tree held put_at key = put_lines key held (path_of tree key) (put_at key)

-- a node of which nothing is looked up has no lines
unlooked : (key : ℕ) (held : FinMap nat_cmp Kept) (path : List ℕ) (put : Option KeptChange) → looked_up key put ≡ [] → put_lines key held path put ≡ []
unlooked key held path None none = refl
unlooked key held path (Some change) none = by change.shows_other none
  where
    by : (b : Bool) → cond b (key ∷ []) [] ≡ [] → cond b (element_lines path (entry_at held key) (Some change.kept.entry)) [] ≡ []
    by true some = absurd (omega (arith, ap length some))
    by false some = refl

-- so none has one that stands outside a span, where nothing is looked up there
pub untold : (tree : Forest (Keyed Node)) (held : FinMap nat_cmp Kept) (put_at : ℕ → Option KeptChange) (span : Span)
    → ((key : ℕ) → IsWithin tree span key ⊎ (looked_up key (put_at key) ≡ [])) → (key : ℕ) → IsWithin tree span key ⊎ (told tree held put_at key ≡ [])
untold tree held put_at span others key = elim (others key) [
  | inl within ↦ inl within
  | inr none ↦ inr (unlooked key held (path_of tree key) (put_at key) none)
]

-- what is told alike of each node of a document is told alike of all
module _ {A : Type 0} (document : Forest (Keyed Node)) (one other : ℕ → List A) (same : (key : ℕ) → IsLive document key → one key ≡ other key) where
  same_trees : (trees : Forest (Keyed Node)) → ((key : ℕ) → 0 < times key trees → IsLive document key) → flat_map one (keys trees) ≡ flat_map other (keys trees)
  same_trees Empty inside = refl
  same_trees (Tree node children rest) inside =
      ap (flat_map one) (keys-tree node children rest)
      ∙ ap₂ (λ xs ys. xs ++ ys) (same node.key (inside node.key (rw (eq-eqb node.key node.key refl) (omega arith))))
      (flat_map-append one (keys children) (keys rest)
      ∙ ap₂ (λ xs ys. xs ++ ys) (same_trees children (λ key h. inside key (omega (arith, h)))) (same_trees rest (λ key h. inside key (omega (arith, h))))
      ∙ sym (flat_map-append other (keys children) (keys rest)))
      ∙ sym (ap (flat_map other) (keys-tree node children rest))

  same_all : flat_map one (keys document) ≡ flat_map other (keys document)
  same_all = same_trees document (λ key h. counted-live document key h)

-- What is put under a key tells whether the element shows another text.
module _ (key : ℕ) (held : FinMap nat_cmp Kept) (path : List ℕ) where
  abbrev Tells : Option KeptChange → Type 0
  Tells put = (change : KeptChange) → put ≡ Some change → change.shows_other ≡ shows_other (entry_at held key) (Some change.kept.entry)

  -- the lines of the element, by what is put and what was kept before
  lines_of_put : (put : Option KeptChange) (before after : Option NodeEntry) → Tells put → entry_at held key ≡ before
      → after ≡ option_or (option_map (λ (kept : Kept). kept.entry) (option_map (λ (change : KeptChange). change.kept) put)) before
      → put_lines key held path put ≡ element_lines path before after
  lines_of_put None before after tells was is = sym (ap (element_lines path before) is ∙ no_lines path before)
  lines_of_put (Some change) before after tells was is = by change.shows_other (tells change refl) ∙ ap₂ (element_lines path) was (sym is)
    where
      by : (b : Bool) → b ≡ shows_other (entry_at held key) (Some change.kept.entry)
          → cond b (element_lines path (entry_at held key) (Some change.kept.entry)) [] ≡ element_lines path (entry_at held key) (Some change.kept.entry)
      by true shows = refl
      by false shows = sym (none_lines path (entry_at held key) (Some change.kept.entry) (sym shows))

  -- where it is looked up it has a line
  looked_has_line : (put : Option KeptChange) → Tells put → length (looked_up key put) ≤ length (put_lines key held path put)
  looked_has_line None tells = omega arith
  looked_has_line (Some change) tells = by change.shows_other (tells change refl)
    where
      by : (b : Bool) → b ≡ shows_other (entry_at held key) (Some change.kept.entry)
          → length (cond b (key ∷ []) []) ≤ length (cond b (element_lines path (entry_at held key) (Some change.kept.entry)) [])
      by true shows = let some = some_lines path (entry_at held key) (Some change.kept.entry) (sym shows) in omega (arith, some)
      by false shows = omega arith

module _ (law : PlansPutWhatDiffers) (edit : Edit) (old book : StyledDocument) (plan : Plan) (from : IsPlannedFrom edit old book plan) where
  tell_shown : TellShown book.kept plan.puts.items
  unfolding IsPlannedBy
  tell_shown = from.planned.4

  tells : (key : ℕ) → Tells key book.kept (path_of book.tree key) (last_at plan.puts.items key)
  tells key change is = last_has (λ k one. one.shows_other ≡ shows_other (entry_at book.kept k) (Some one.kept.entry)) plan.puts.items tell_shown key change is

  -- the lines of a node are those by what is put
  lines_by_put : (key : ℕ) → IsLive book.tree key → told book.tree book.kept (last_at plan.puts.items) key ≡ lines_at book.tree (entry_in (keyed_source old)) (entry_in (keyed_source book)) key
  unfolding settled_after
  lines_by_put key live =
      lines_of_put key book.kept (path_of book.tree key) (last_at plan.puts.items key) (fresh_entry old key) (fresh_entry (settled_after book plan) key) (tells key)
      (ap (λ (held : FinMap nat_cmp Kept). entry_at held key) from.kept ∙ from.keeps key)
      (law edit old book plan key from live
      ∙ ap (λ (put : Option Kept). option_or (option_map (λ (kept : Kept). kept.entry) put) (fresh_entry old key)) (last_kept plan.puts.items key))

  module _ (put_at : ℕ → Option KeptChange) (are : (key : ℕ) → put_at key ≡ last_at plan.puts.items key) where
    -- and so are all
    pub planned_lines : flat_map (told book.tree book.kept put_at) (keys book.tree) ≡ changed_lines (keyed_source old) (keyed_source book)
    unfolding changed_lines
    planned_lines =
        same_all book.tree (told book.tree book.kept put_at) (lines_at book.tree (entry_in (keyed_source old)) (entry_in (keyed_source book)))
        (λ key live. ap (put_lines key book.kept (path_of book.tree key)) (are key) ∙ lines_by_put key live)

    fewer : (ks : List ℕ) → length (flat_map (looked put_at) ks) ≤ length (flat_map (told book.tree book.kept put_at) ks)
    fewer [] = omega arith
    fewer (k ∷ ks) =
        let some = length-append (looked put_at k) (flat_map (looked put_at) ks) in
        let all = length-append (told book.tree book.kept put_at k) (flat_map (told book.tree book.kept put_at) ks) in
        let here : length (looked put_at k) ≤ length (told book.tree book.kept put_at k) =
        looked_has_line k book.kept (path_of book.tree k) (put_at k) (λ change is. tells k change (sym (are k) ∙ is)) in
        let rest = fewer ks in
        omega (arith, some, all, here, rest)

    -- no more is looked up than there are lines
    pub looked_have_lines : length (flat_map (looked put_at) (keys book.tree)) ≤ length (changed_lines (keyed_source old) (keyed_source book))
    looked_have_lines = let few = fewer (keys book.tree) in omega (arith, few, ap length planned_lines)

  -- where no other text is shown there are none
  pub no_planned_lines : ShowNoOthers plan.puts.items → [] ≡ changed_lines (keyed_source old) (keyed_source book)
  no_planned_lines none = nothing (keys book.tree) ∙ planned_lines (last_at plan.puts.items) (λ key. refl)
    where
      silent : (key : ℕ) (put : Option KeptChange) → last_at plan.puts.items key ≡ put → [] ≡ put_lines key book.kept (path_of book.tree key) put
      silent key None is = refl
      silent key (Some change) is =
          ap (λ b. cond b (element_lines (path_of book.tree key) (entry_at book.kept key) (Some change.kept.entry)) [])
          (sym (last_has (λ k one. one.shows_other ≡ false) plan.puts.items none key change is))

      nothing : (ks : List ℕ) → [] ≡ flat_map (told book.tree book.kept (last_at plan.puts.items)) ks
      nothing [] = refl
      nothing (k ∷ ks) = nothing ks ∙ ap (λ lines. lines ++ flat_map (told book.tree book.kept (last_at plan.puts.items)) ks) (silent k (last_at plan.puts.items k) refl)
