use Rattle.std.proofs.Common.{Some, None}
use Rattle.ports.proofs.GrownLemmas.{on_err}
use Rattle.why_report.proofs.ExplainLaws.{account_is, if_some, none_if_some, some_if_none}
use Rattle.why_report.proofs.explain.explain.Goals as goal

pub returns-in_default-clause-cause : goal.returns-in_default-clause-cause
returns-in_default-clause-cause g c = none_if_some _ _ (account_is c.book-book.result.now c.args.engine.now c.arena-arena.result.now.tree c.args.path.now None c.keys_do_not_matter.ensures.keyings c.keys_do_not_matter.ensures.sheets c.keys_do_not_matter.ensures.entries c.book-book.ensures.book c.arena-arena.ensures.tree c.arena_holds_document.ensures.document.distinct c.in_default.ensures.key)

pub returns-in_err-put_account-clause-failed : goal.returns-in_err-put_account-clause-failed
returns-in_err-put_account-clause-failed g c = if_some _ _ _ (account_is c.book-book.result.now c.args.engine.now c.arena-arena.result.now.tree c.args.path.now (Some c.in-Some.key) c.keys_do_not_matter.ensures.keyings c.keys_do_not_matter.ensures.sheets c.keys_do_not_matter.ensures.entries c.book-book.ensures.book c.arena-arena.ensures.tree c.arena_holds_document.ensures.document.distinct c.in-Some.ensures.key) (on_err _ c.in_err-put_account.ensures.failed)

pub returns-clause-ok : goal.returns-clause-ok
returns-clause-ok g c = if_some _ _ _ (account_is c.book-book.result.now c.args.engine.now c.arena-arena.result.now.tree c.args.path.now (Some c.in-Some.key) c.keys_do_not_matter.ensures.keyings c.keys_do_not_matter.ensures.sheets c.keys_do_not_matter.ensures.entries c.book-book.ensures.book c.arena-arena.ensures.tree c.arena_holds_document.ensures.document.distinct c.in-Some.ensures.key) c.in_ok-put_account.ensures.ok

pub returns-in_err-put_account-clause-no_element : goal.returns-in_err-put_account-clause-no_element
returns-in_err-put_account-clause-no_element g c = some_if_none _ _ _ (account_is c.book-book.result.now c.args.engine.now c.arena-arena.result.now.tree c.args.path.now (Some c.in-Some.key) c.keys_do_not_matter.ensures.keyings c.keys_do_not_matter.ensures.sheets c.keys_do_not_matter.ensures.entries c.book-book.ensures.book c.arena-arena.ensures.tree c.arena_holds_document.ensures.document.distinct c.in-Some.ensures.key)

pub returns-in_err-put_account-clause-no_output : goal.returns-in_err-put_account-clause-no_output
returns-in_err-put_account-clause-no_output g c = some_if_none _ _ _ (account_is c.book-book.result.now c.args.engine.now c.arena-arena.result.now.tree c.args.path.now (Some c.in-Some.key) c.keys_do_not_matter.ensures.keyings c.keys_do_not_matter.ensures.sheets c.keys_do_not_matter.ensures.entries c.book-book.ensures.book c.arena-arena.ensures.tree c.arena_holds_document.ensures.document.distinct c.in-Some.ensures.key)

pub returns-in_err-put_account-clause-no_step : goal.returns-in_err-put_account-clause-no_step
returns-in_err-put_account-clause-no_step g c = some_if_none _ _ _ (account_is c.book-book.result.now c.args.engine.now c.arena-arena.result.now.tree c.args.path.now (Some c.in-Some.key) c.keys_do_not_matter.ensures.keyings c.keys_do_not_matter.ensures.sheets c.keys_do_not_matter.ensures.entries c.book-book.ensures.book c.arena-arena.ensures.tree c.arena_holds_document.ensures.document.distinct c.in-Some.ensures.key)

pub returns-clause-no_element : goal.returns-clause-no_element
returns-clause-no_element g c = some_if_none _ _ _ (account_is c.book-book.result.now c.args.engine.now c.arena-arena.result.now.tree c.args.path.now (Some c.in-Some.key) c.keys_do_not_matter.ensures.keyings c.keys_do_not_matter.ensures.sheets c.keys_do_not_matter.ensures.entries c.book-book.ensures.book c.arena-arena.ensures.tree c.arena_holds_document.ensures.document.distinct c.in-Some.ensures.key)

pub returns-clause-no_output : goal.returns-clause-no_output
returns-clause-no_output g c = some_if_none _ _ _ (account_is c.book-book.result.now c.args.engine.now c.arena-arena.result.now.tree c.args.path.now (Some c.in-Some.key) c.keys_do_not_matter.ensures.keyings c.keys_do_not_matter.ensures.sheets c.keys_do_not_matter.ensures.entries c.book-book.ensures.book c.arena-arena.ensures.tree c.arena_holds_document.ensures.document.distinct c.in-Some.ensures.key)

pub returns-clause-no_step : goal.returns-clause-no_step
returns-clause-no_step g c = some_if_none _ _ _ (account_is c.book-book.result.now c.args.engine.now c.arena-arena.result.now.tree c.args.path.now (Some c.in-Some.key) c.keys_do_not_matter.ensures.keyings c.keys_do_not_matter.ensures.sheets c.keys_do_not_matter.ensures.entries c.book-book.ensures.book c.arena-arena.ensures.tree c.arena_holds_document.ensures.document.distinct c.in-Some.ensures.key)
