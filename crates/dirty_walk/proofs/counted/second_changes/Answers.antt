use Rattle.std.proofs.Common.{◌+◌, ◌*◌, ap, arith, length}
use Rattle.std.proofs.lemmas.List.Sums.{count_by-le-length, length-filter}
use Rattle.std.proofs.lemmas.Result.{IfOk-weaker}
use Rattle.reference_reach.specs.MergedNodes.{elements_at_stops}
use Rattle.kept_elements.specs.News.{is_news}
use Rattle.dirty_walk.specs.Machinery.SecondWalks.{IsWithinSecond}
use Rattle.dirty_walk.specs.Machinery.SomeNews.{IsWithinNews}
use Rattle.dirty_walk.proofs.SecondLemmas.{links, news_read, passed_and_taken, some_news}
use Rattle.dirty_walk.proofs.counted.second_changes.Goals as goal

pub news_of-requires : goal.news_of-requires
news_of-requires g c =
    let document = c.args.document.now in
    record { live = links document.styles.now.sheet c.args.board.now.held c.args.ways.now document.arena.now.tree c.args.ahead.now c.args.index.now c.args.told.now c.requires.walk }

pub changes_by_news-requires : goal.changes_by_news-requires
changes_by_news-requires g c =
    let document = c.args.document.now in
    record {
      indexed = c.requires.indexed;
      news = news_read document.styles.now.sheet c.args.board.now.held c.args.ways.now document.arena.now.tree c.args.ahead.now c.args.index.now c.args.told.now c.requires.walk
          c.in_ok-news.news c.in_ok-news.ensures.news;
    }

pub returns-in_err-news-clause-most : goal.returns-in_err-news-clause-most
returns-in_err-news-clause-most g c = λ walk. omega (arith, c.news_of.ensures.steps)

pub returns-clause-most : goal.returns-clause-most
returns-clause-most g c =
    let document = c.args.document.now in
    λ walk.
    omega (
      arith,
      c.news_of.ensures.steps,
      c.changes_by_news.ensures.most
          (some_news document.styles.now.sheet c.args.board.now.held c.args.ways.now document.arena.now.tree c.args.ahead.now c.args.index.now c.args.told.now walk c.in_ok-news.news c.in_ok-news.ensures.news)
          walk.read.former,
    )

pub returns-clause-few : goal.returns-clause-few
returns-clause-few g c =
    let document = c.args.document.now in
    let sheet = document.styles.now.sheet in
    let held = c.args.board.now.held in
    let ways = c.args.ways.now in
    let tree = document.arena.now.tree in
    let ahead = c.args.ahead.now in
    let index = c.args.index.now in
    let told = c.args.told.now in
    let news = c.in_ok-news.news in
    IfOk-weaker c.changes_by_news.result
    (λ changes. IsWithinNews sheet held ways tree ahead news c.news_of.new.steps (c.changes_by_news.new.steps + 2 * length changes.items))
    (λ changes. IsWithinSecond sheet held ways tree ahead index told c.args.steps.now (c.changes_by_news.new.steps + 2 * length changes.items))
    (λ changes within walk. omega (arith, c.news_of.ensures.steps, within (some_news sheet held ways tree ahead index told walk news c.in_ok-news.ensures.news) walk.read.former))
    c.changes_by_news.ensures.few

pub returns-clause-steps : goal.returns-clause-steps
returns-clause-steps g c =
    let document = c.args.document.now in
    let told = c.args.told.now in
    let test = is_news (elements_at_stops document.arena.now.tree c.args.ways.now) c.args.board.now.held in
    λ walk.
    omega (
      arith,
      c.news_of.ensures.passed,
      c.changes_by_news.ensures.steps,
      c.requires.count,
      ap length c.in_ok-news.ensures.found,
      length-filter test told,
      count_by-le-length test told,
      passed_and_taken document.styles.now.sheet c.args.board.now.held c.args.ways.now document.arena.now.tree c.args.ahead.now c.args.index.now told walk c.requires.count,
    )
