-- One element, as a walk comes to it and leaves it.
use Rattle.std.proofs.Common.{◌≡◌, ◌∷◌, ◌++◌, ◌==◌, ℕ, ℤ, List, [], Bool, true, false, cond, Option, Some, None, refl, sym, ap, subst, ◌∙◌}
use Rattle.std.specs.List.{list_any}
use Rattle.forest.specs.Forest.{Forest}
use Rattle.forest.specs.Keys.{Keyed}
use Rattle.plain_types.specs.declared.attr.Attr.{Attr}
use Rattle.plain_types.specs.declared.box_id.BoxId.{BoxId}
use Rattle.plain_types.specs.declared.box_kind.BoxKind.TheVariants as kind
use Rattle.plain_types.specs.declared.counter.Counter.{Counter}
use Rattle.plain_types.specs.declared.counter_style.CounterStyle.{CounterStyle}
use Rattle.plain_types.specs.declared.node.Node.{Node}
use Rattle.plain_types.specs.declared.style.ElementStyle.{ElementStyle}
use Rattle.plain_types.specs.declared.style.Style.{Style}
use Rattle.node_arena.specs.Nodes.{attrs_of}
use Rattle.counter_sets.specs.Sets.{is_by_peer, is_same_box}
use Rattle.box_eval.specs.declared.entry.Entry.{Entry}
use Rattle.box_eval.specs.declared.inputs.Inputs.{Inputs}
use Rattle.box_eval.specs.declared.inputs.Start.{Start}
use Rattle.box_eval.specs.Boxes.{box_of, generates_box, has_marker, has_pseudo_box}
use Rattle.box_eval.specs.Elements.{Handed, by_parent, entry_of, handed_in, styled_by}
use Rattle.box_eval.specs.Evaluation.{element_starts}
use Rattle.box_eval.specs.Scopes.{AreNew, first_boxes}
use Rattle.box_eval.proofs.ListLemmas.{each_imp}
use Rattle.document_walk.specs.declared.opened.Opened.{Opened}
use Rattle.surroundings.specs.declared.surroundings.Surroundings.{Surroundings}
use Rattle.surroundings.specs.Surroundings.{HandsOn, IsByOther, handed_by, inputs_from}
use Rattle.document_walk.specs.Walking.{opened_in, opened_with}

-- What its boxes did not create.

by_no_first : (creator : BoxId) (key : ℕ) (marker before : Bool) → (creator.key == key) ≡ false → list_any (is_same_box creator) (box_of key kind.Element ∷ (cond marker (box_of key kind.Marker ∷ []) [] ++ cond before (box_of key kind.Before ∷ []) [])) ≡ false
by_no_first creator key true true e = rw e refl
by_no_first creator key true false e = rw e refl
by_no_first creator key false true e = rw e refl
by_no_first creator key false false e = rw e refl

module _ (key : ℕ) (starts : List Start) (around : Surroundings) (style : ElementStyle) where
  pub new_first : (inputs : Inputs) → inputs ≡ inputs_from key starts around → HandsOn (IsByOther key) around → AreNew (first_boxes inputs.key style) inputs
  new_first inputs is others =
      let boxes = first_boxes key style in
      let none : (counter : Counter) → IsByOther key counter → is_by_peer boxes counter ≡ false = λ counter e. by_no_first counter.creator key (has_marker style) (has_pseudo_box style.before) e in
      subst (λ (inputs : Inputs). AreNew (first_boxes inputs.key style) inputs) (sym is) (record {
        parent = each_imp (IsByOther key) (λ counter. is_by_peer boxes counter ≡ false) none around.parent others.parent;
        sibling = each_imp (IsByOther key) (λ counter. is_by_peer boxes counter ≡ false) none _ others.sibling;
      })

-- Whether it has a box.
module _ (table : List CounterStyle) (style : ℕ → Option Style → ElementStyle) (start : BoxId → List ℕ → ℤ) (document : Forest (Keyed Node)) (key : ℕ) (parent : Option Style) (handed : Handed) (given : ElementStyle) (is : given ≡ style key parent) where
  abbrev opened_as : ElementStyle → Opened
  opened_as given = opened_with table (λ _ _. given) start document key None handed

  pub with_box : (opened : Opened) → generates_box given ≡ true → opened ≡ opened_as given → Some opened ≡ opened_in table style start document true key parent handed
  with_box opened has e =
      ap Some e ∙ sym (ap (λ b. cond b (Some (opened_as given)) None) has)
      ∙ ap (λ given. cond (generates_box given) (Some (opened_as given)) None) is

  pub without : generates_box given ≡ false → None ≡ opened_in table style start document true key parent handed
  without has =
      sym (ap (λ b. cond b (Some (opened_as given)) None) has)
      ∙ ap (λ given. cond (generates_box given) (Some (opened_as given)) None) is

-- What is made of it.
module _ (table : List CounterStyle) (start : BoxId → List ℕ → ℤ) (document : Forest (Keyed Node)) (key : ℕ) (style : ElementStyle) (around : Surroundings) where
  abbrev made_of : Inputs → Entry → Opened
  made_of inputs entry = record { parent = inputs.parent; depth = inputs.depth; style = style; starts = inputs.starts; entry = entry }

  abbrev entry_in : List Attr → Inputs → Entry
  entry_in attrs inputs = entry_of table by_parent inputs.key (styled_by inputs attrs style) (handed_in inputs [])

  pub made_opened : (starts : List Start) (attrs : List Attr) (inputs : Inputs) (entry : Entry) → starts ≡ element_starts start key style → inputs ≡ inputs_from key starts around → attrs ≡ attrs_of document key
      → entry ≡ entry_of table by_parent inputs.key (styled_by inputs attrs style) (handed_in inputs [])
      → record { parent = inputs.parent; depth = inputs.depth; style = style; starts = inputs.starts; entry = entry } ≡ opened_with table (λ _ _. style) start document key None (handed_by around)
  made_opened starts attrs inputs entry starts_are inputs_are attrs_are entry_is =
      ap (made_of inputs) entry_is
      ∙ ap (λ inputs. made_of inputs (entry_in attrs inputs)) inputs_are
      ∙ ap (λ attrs. made_of (inputs_from key starts around) (entry_in attrs (inputs_from key starts around))) attrs_are
      ∙ ap (λ starts. made_of (inputs_from key starts around) (entry_in (attrs_of document key) (inputs_from key starts around))) starts_are
