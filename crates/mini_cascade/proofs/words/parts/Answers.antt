use Rattle.std.proofs.Common.{◌≡◌, ◌∙◌, ◌+◌, [], ◌∷◌, ◌++◌, map, take, drop, ap, sym, append_assoc}
use Rattle.std.specs.Map.Iter.{deref}
use Rattle.std.proofs.lemmas.List.{map-append}
use Rattle.selector_match.specs.Attributes.{parts}
use Rattle.selector_match.proofs.AttributeLaws.{behind, first-part, one-part}
use Rattle.mini_cascade.proofs.words.parts.Goals as goal

pub parts-preserved : goal.parts-preserved
parts-preserved c =
    let rest = c.parts.rest.now in
    let end = c.in-Some.end in
    let before = map deref c.parts.found.items in
    let pushed : map deref c.push.new.self.items ≡ before ++ take end rest ∷ [] = ap (map deref) c.in_ok-push.ensures.items ∙ map-append deref c.parts.found.items (_ ∷ []) in
    ap (λ xs. map deref c.push.new.self.items ++ parts xs) (behind rest end)
    ∙ ap (λ xs. xs ++ parts (drop (end + 1) rest)) pushed
    ∙ append_assoc before (take end rest ∷ []) (parts (drop (end + 1) rest))
    ∙ ap (λ xs. before ++ xs) (sym (first-part rest end (sym c.in-Some.ensures)).0)
    ∙ c.parts.invariant

pub returns : goal.returns
returns c =
    let rest = c.parts.rest.now in
    let before = map deref c.parts.found.items in
    record {
      parts = ap (map deref) c.in_ok-push-2.ensures.items ∙ map-append deref c.parts.found.items (_ ∷ []) ∙ ap (λ xs. before ++ xs) (sym (one-part rest (sym c.in_default.ensures))) ∙ c.parts.invariant;
    }
