use Rattle.std.proofs.Common.{◌≢◌, List, [], ◌∷◌, ◌++◌, subst}
use Rattle.std.specs.List.{All}
use Rattle.std.proofs.lemmas.List.Quantifiers.{all_pairs_push}
use Rattle.plain_types.specs.declared.attr.Attr.{Attr}
use Rattle.plain_types.specs.Tree.{HasDistinctNames}
use Rattle.cascade_rows.proofs.documents.attrs_of.Goals as goal
use Rattle.cascade_rows.proofs.documents.attrs_of.Goals.{then-is_new+in_ok-push, else-is_new}

one_more : (attrs : List Attr) (attr : Attr) → HasDistinctNames attrs → All (λ (held : Attr). held.name ≢ attr.name) attrs → HasDistinctNames (attrs ++ attr ∷ [])
one_more attrs attr distinct new = all_pairs_push (λ (first second : Attr). first.name ≢ second.name) attrs attr distinct new

pub loop-name-preserved : goal.loop-name-preserved
loop-name-preserved c =
    elim c.if-is_new.branch [
      | then-is_new+in_ok-push w ↦
          let attr : Attr = record { name = c.in_ok-name.name; value = c.in_ok-value.value } in
          let fresh : All (λ (held : Attr). held.name ≢ attr.name) c.loop-name.attrs = subst (All (λ (held : Attr). held.name ≢ attr.name)) c.as_slice.ensures.items (c.is_new.ensures w.if-is_new.true) in
          rw (w.attrs-is, w.in_ok-push.ensures.ok) (one_more c.loop-name.attrs attr c.loop-name.invariant fresh)
      | else-is_new w ↦ rw w.attrs-is c.loop-name.invariant
    ]
