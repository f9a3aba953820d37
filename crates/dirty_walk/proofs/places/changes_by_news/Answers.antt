use Rattle.std.proofs.Common.{◌∙◌, ap, arith, length}
use Rattle.target_index.specs.Holders.{is_holder}
use Rattle.dirty_walk.proofs.NewsLemmas.{exchange_within, news_change, some_walk, walk_renews, within_news, within_told}
use Rattle.dirty_walk.proofs.ReferenceExchangeLemmas.{stays_behind}
use Rattle.dirty_walk.proofs.places.changes_by_news.Goals as goal

pub walked_changes-requires : goal.walked_changes-requires
walked_changes-requires g c =
    let document = c.args.document.now in
    let changed =
    news_change document document.styles_are c.args.board.now.held c.args.stops.now c.args.news c.requires.news.some c.as_slice-told.result.now c.as_slice-told.ensures.items c.args.ahead.now.takes.now c.requires.news.read.takes in
    let refers = c.in_ok-back.ensures.references _ _ changed c.requires.news.read.tells in
    record {
      indexed = λ id key. c.exchange_references.ensures.holders id key ∙ c.requires.indexed id key;
      walk = some_walk document document.styles_are c.args.board.now.held c.args.stops.now c.args.news c.requires.news.some c.exchange_references.new.index c.args.ahead.now.former.now c.requires.news.read.former refers;
    }

pub commit-requires : goal.commit-requires
commit-requires g c =
    let document = c.args.document.now in
    let changed =
    news_change document document.styles_are c.args.board.now.held c.args.stops.now c.args.news c.requires.news.some c.as_slice-told.result.now c.as_slice-told.ensures.items c.args.ahead.now.takes.now c.requires.news.read.takes in
    let leads = c.in_ok-back.ensures.back _ _ changed c.requires.news.read.tells in
    record { reserved = leads.reserved }

pub returns-in-Ok-clause-refers : goal.returns-in-Ok-clause-refers
returns-in-Ok-clause-refers g c =
    let document = c.args.document.now in
    let changed =
    news_change document document.styles_are c.args.board.now.held c.args.stops.now c.args.news c.requires.news.some c.as_slice-told.result.now c.as_slice-told.ensures.items c.args.ahead.now.takes.now c.requires.news.read.takes in
    c.in_ok-back.ensures.references _ _ changed c.requires.news.read.tells

pub returns-in-Ok-clause-changes : goal.returns-in-Ok-clause-changes
returns-in-Ok-clause-changes g c =
    let document = c.args.document.now in
    let changed =
    news_change document document.styles_are c.args.board.now.held c.args.stops.now c.args.news c.requires.news.some c.as_slice-told.result.now c.as_slice-told.ensures.items c.args.ahead.now.takes.now c.requires.news.read.takes in
    let refers = c.in_ok-back.ensures.references _ _ changed c.requires.news.read.tells in
    walk_renews document document.styles_are c.args.board.now.held c.args.stops.now c.args.news c.requires.news.some c.exchange_references.new.index c.args.ahead.now.former.now c.requires.news.read.former refers c.in-Ok.changes.items c.in-Ok.ensures.renewal

pub returns-in-Ok-clause-few : goal.returns-in-Ok-clause-few
returns-in-Ok-clause-few g c =
    let document = c.args.document.now in
    let changed =
    news_change document document.styles_are c.args.board.now.held c.args.stops.now c.args.news c.requires.news.some c.as_slice-told.result.now c.as_slice-told.ensures.items c.args.ahead.now.takes.now c.requires.news.read.takes in
    let refers = c.in_ok-back.ensures.references _ _ changed c.requires.news.read.tells in
    λ some former.
    within_news document document.styles_are c.args.board.now.held c.args.stops.now c.args.news some c.exchange_references.new.index c.args.ahead.now.former.now former refers c.as_slice-told.result.now c.as_slice-told.ensures.items
    (length c.args.ahead.now.takes.now) c.args.steps.now c.exchange_references.new.steps c.walked_changes.new.steps (length c.in-Ok.changes.items) c.exchange_references.ensures.most c.walked_changes.ensures.fewer c.in-Ok.ensures.few

pub returns-in-Ok-clause-most : goal.returns-in-Ok-clause-most
returns-in-Ok-clause-most g c =
    let document = c.args.document.now in
    let changed =
    news_change document document.styles_are c.args.board.now.held c.args.stops.now c.args.news c.requires.news.some c.as_slice-told.result.now c.as_slice-told.ensures.items c.args.ahead.now.takes.now c.requires.news.read.takes in
    let refers = c.in_ok-back.ensures.references _ _ changed c.requires.news.read.tells in
    λ some former.
    let all =
    within_news document document.styles_are c.args.board.now.held c.args.stops.now c.args.news some c.exchange_references.new.index c.args.ahead.now.former.now former refers c.as_slice-told.result.now c.as_slice-told.ensures.items
    (length c.args.ahead.now.takes.now) c.args.steps.now c.exchange_references.new.steps c.walked_changes.new.steps 0 c.exchange_references.ensures.most c.walked_changes.ensures.fewer (λ walk. omega arith) in
    omega (arith, all)

pub returns-in-Err-clause-most : goal.returns-in-Err-clause-most
returns-in-Err-clause-most g c =
    let document = c.args.document.now in
    let changed =
    news_change document document.styles_are c.args.board.now.held c.args.stops.now c.args.news c.requires.news.some c.as_slice-told.result.now c.as_slice-told.ensures.items c.args.ahead.now.takes.now c.requires.news.read.takes in
    let refers = c.in_ok-back.ensures.references _ _ changed c.requires.news.read.tells in
    λ some former.
    let all =
    within_news document document.styles_are c.args.board.now.held c.args.stops.now c.args.news some c.exchange_references.new.index c.args.ahead.now.former.now former refers c.as_slice-told.result.now c.as_slice-told.ensures.items
    (length c.args.ahead.now.takes.now) c.args.steps.now c.exchange_references.new.steps c.walked_changes.new.steps 0 c.exchange_references.ensures.most c.walked_changes.ensures.fewer (λ walk. omega arith) in
    omega (arith, all)

pub returns-in_err-back-clause-most : goal.returns-in_err-back-clause-most
returns-in_err-back-clause-most g c =
    let document = c.args.document.now in
    λ some former.
    exchange_within document document.styles_are c.args.board.now.held c.args.stops.now c.args.news some c.as_slice-told.result.now c.as_slice-told.ensures.items (length c.args.ahead.now.takes.now) c.args.steps.now
    c.exchange_references.new.steps c.exchange_references.ensures.most

pub returns-in-Ok-clause-steps : goal.returns-in-Ok-clause-steps
returns-in-Ok-clause-steps g c =
    omega (arith, within_told c.as_slice-told.result.now (length c.args.ahead.now.takes.now) c.args.steps.now c.exchange_references.new.steps c.exchange_references.ensures.most, c.walked_changes.ensures.steps, ap length c.as_slice-told.ensures.items)

pub returns-in-Err-clause-steps : goal.returns-in-Err-clause-steps
returns-in-Err-clause-steps g c =
    omega (arith, within_told c.as_slice-told.result.now (length c.args.ahead.now.takes.now) c.args.steps.now c.exchange_references.new.steps c.exchange_references.ensures.most, c.walked_changes.ensures.steps, ap length c.as_slice-told.ensures.items)

pub returns-in_err-back-clause-steps : goal.returns-in_err-back-clause-steps
returns-in_err-back-clause-steps g c =
    omega (arith, within_told c.as_slice-told.result.now (length c.args.ahead.now.takes.now) c.args.steps.now c.exchange_references.new.steps c.exchange_references.ensures.most, ap length c.as_slice-told.ensures.items)

pub returns-in-Err-clause-err : goal.returns-in-Err-clause-err
returns-in-Err-clause-err g c =
    let document = c.args.document.now in
    let changed =
    news_change document document.styles_are c.args.board.now.held c.args.stops.now c.args.news c.requires.news.some c.as_slice-told.result.now c.as_slice-told.ensures.items c.args.ahead.now.takes.now c.requires.news.read.takes in
    let leads = c.in_ok-back.ensures.back _ _ changed c.requires.news.read.tells in
    λ id key. c.commit.ensures.references id key ∙ leads.references id key

pub returns-in-Err-clause-holders : goal.returns-in-Err-clause-holders
returns-in-Err-clause-holders g c =
    let document = c.args.document.now in
    let changed =
    news_change document document.styles_are c.args.board.now.held c.args.stops.now c.args.news c.requires.news.some c.as_slice-told.result.now c.as_slice-told.ensures.items c.args.ahead.now.takes.now c.requires.news.read.takes in
    let leads = c.in_ok-back.ensures.back _ _ changed c.requires.news.read.tells in
    λ id key. c.commit.ensures.holders id key ∙ leads.holders id key (is_holder c.exchange_references.new.index id key) ∙ c.exchange_references.ensures.holders id key

pub returns-in-Err-clause-stay : goal.returns-in-Err-clause-stay
returns-in-Err-clause-stay g c =
    let document = c.args.document.now in
    let changed =
    news_change document document.styles_are c.args.board.now.held c.args.stops.now c.args.news c.requires.news.some c.as_slice-told.result.now c.as_slice-told.ensures.items c.args.ahead.now.takes.now c.requires.news.read.takes in
    let leads = c.in_ok-back.ensures.back _ _ changed c.requires.news.read.tells in
    λ more none there. c.commit.ensures.reserved more (stays_behind c.in_ok-back.back more c.exchange_references.new.index c.args.index.now leads none (c.exchange_references.ensures.stay more none there))
