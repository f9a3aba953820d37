use Rattle.std.proofs.Common.{◌≡◌, ◌<◌, ◌≤◌, ◌+◌, ◌++◌, ◌∙◌, ℕ, Bool, true, false, cond, if◌then◌else◌, List, [], ◌∷◌, ap, arith, drop, get_or, length, length-append, not, refl, sym, take}
use Rattle.std.specs.Prelude.{filter}
use Rattle.std.proofs.lemmas.List.{take-append-drop, take_more}
use Rattle.std.proofs.lemmas.List.Elements.{filter-append}
use Rattle.surroundings.specs.declared.told.Told.{Told}
use Rattle.edit_work.specs.KeyedSources.{is_among}
use Rattle.kept_elements.specs.News.{passed_among}
use Rattle.kept_elements.proofs.news.news_among.Goals as goal

-- one more of what was told is passed, or entered
passed_more : (entered : List ℕ) (told : List (ℕ × Told)) (place : ℕ) (one : ℕ × Told) → place < length told → one ≡ get_or told place one
    → length (passed_among entered (take place told)) + (if is_among entered one.0 then 0 else 1) ≤ length (passed_among entered told)
passed_more entered told place one within is =
    let passes : ℕ × Told → Bool = λ (element : ℕ × Told). not (is_among entered element.0) in
    let some = take place told in
    let first = take (place + 1) told in
    let rest = drop (place + 1) told in
    let first_is : first ≡ some ++ one ∷ [] = take_more told place one within ∙ ap (λ (e : ℕ × Told). some ++ e ∷ []) (sym is) in
    let all : length (filter passes told) ≡ length (filter passes first ++ filter passes rest) =
    ap (λ (xs : List (ℕ × Told)). length (filter passes xs)) (sym (take-append-drop (place + 1) told)) ∙ ap length (filter-append passes first rest) in
    let front : length (filter passes first) ≡ length (filter passes some ++ filter passes (one ∷ [])) =
    ap (λ (xs : List (ℕ × Told)). length (filter passes xs)) first_is ∙ ap length (filter-append passes some (one ∷ [])) in
    omega (
      arith,
      all,
      front,
      length-append (filter passes first) (filter passes rest),
      length-append (filter passes some) (filter passes (one ∷ [])),
      own (is_among entered one.0),
    )
  where
    own : (b : Bool) → length (cond (not b) (one ∷ []) []) ≡ (if b then 0 else 1)
    own true = refl
    own false = refl

pub returns-in_err-share_told-clause-steps : goal.returns-in_err-share_told-clause-steps
returns-in_err-share_told-clause-steps g c =
    omega (arith, passed_more c.args.entered.now c.args.told.now c.loop-key.key-index c.loop-key-item.result c.loop-key-test.true c.loop-key-item.is, c.loop-key.invariant.steps, c.is_news.ensures.step)

pub returns-in_err-push-clause-steps : goal.returns-in_err-push-clause-steps
returns-in_err-push-clause-steps g c =
    omega (arith, passed_more c.args.entered.now c.args.told.now c.loop-key.key-index c.loop-key-item.result c.loop-key-test.true c.loop-key-item.is, c.loop-key.invariant.steps, c.is_news.ensures.step)
