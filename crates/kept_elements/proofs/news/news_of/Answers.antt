use Rattle.std.proofs.Common.{◌≡◌, ◌∙◌, ◌++◌, ℕ, Bool, List, [], ap, arith, length, not, refl, subst, sym}
use Rattle.std.proofs.lemmas.List.Filters.{length-filter_both}
use Rattle.std.proofs.lemmas.Result.{IfOk-weaker}
use Rattle.surroundings.specs.declared.told.Told.{Told}
use Rattle.edit_work.specs.KeyedSources.{is_among}
use Rattle.reference_reach.specs.MergedNodes.{elements_at_stops}
use Rattle.kept_elements.specs.News.{AreNewsOf, passed_among}
use Rattle.kept_elements.proofs.NewsLemmas.{are_news, same_filter, same_news}
use Rattle.kept_elements.proofs.news.news_of.Goals as goal

-- what was found are those that the merge enters
found : (entered none others : List ℕ) → none ≡ [] → ((key : ℕ) → is_among entered key ≡ is_among (none ++ others) key) → (key : ℕ) → is_among entered key ≡ is_among others key
found entered none others empty same key = same key ∙ ap (λ (ks : List ℕ). is_among (ks ++ others) key) empty

pub returns-clause-found : goal.returns-clause-found
returns-clause-found g c =
    let entered = elements_at_stops c.args.arena.now.tree c.args.stops.now in
    let same = found c.in_ok-entered.entered c.as_slice.result.now entered (c.as_slice.ensures.items ∙ c.new-none.ensures.empty) c.in_ok-entered.ensures.found in
    IfOk-weaker c.news_among.result _ _
    (λ news are. are ∙ same_news c.in_ok-entered.entered entered c.args.board.now.held same c.args.told.now)
    c.news_among.ensures.news

pub returns-clause-news : goal.returns-clause-news
returns-clause-news g c =
    let tree = c.args.arena.now.tree in
    let stops = c.args.stops.now in
    let told = c.args.told.now in
    let held = c.args.board.now.held in
    let entered = elements_at_stops tree stops in
    let same = found c.in_ok-entered.entered c.as_slice.result.now entered (c.as_slice.ensures.items ∙ c.new-none.ensures.empty) c.in_ok-entered.ensures.found in
    IfOk-weaker c.news_among.result _ _
    (λ news are.
    subst (λ (news : List (ℕ × Told)). AreNewsOf stops tree told held news) (sym (are ∙ same_news c.in_ok-entered.entered entered held same told))
    (are_news stops tree told held))
    c.news_among.ensures.news

pub returns-clause-steps : goal.returns-clause-steps
returns-clause-steps g c =
    let enters : ℕ × Told → Bool = λ (x : ℕ × Told). is_among c.in_ok-entered.entered x.0 in
    omega (arith, c.news_among.ensures.steps, length-filter_both enters (λ x. not (enters x)) (λ x. refl) c.args.told.now)

pub returns-clause-passed : goal.returns-clause-passed
returns-clause-passed g c =
    let entered = elements_at_stops c.args.arena.now.tree c.args.stops.now in
    let same = found c.in_ok-entered.entered c.as_slice.result.now entered (c.as_slice.ensures.items ∙ c.new-none.ensures.empty) c.in_ok-entered.ensures.found in
    let passed : passed_among c.in_ok-entered.entered c.args.told.now ≡ passed_among entered c.args.told.now =
    same_filter (λ (x : ℕ × Told). not (is_among c.in_ok-entered.entered x.0)) (λ (x : ℕ × Told). not (is_among entered x.0)) (λ x. ap not (same x.0)) c.args.told.now in
    omega (arith, c.news_among.ensures.steps, ap length passed)
