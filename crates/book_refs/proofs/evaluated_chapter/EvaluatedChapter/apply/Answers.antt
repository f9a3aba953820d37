use Rattle.std.proofs.Common.{OnErr, OnOk, subst}
use Rattle.book_definitions.specs.Chapters.{Chapter}
use Rattle.dirty_walk.specs.WorkBounds.{IsWithinWork, StopsWithinWork}
use Rattle.book_refs.specs.Volumes.{evaluated_chapter, keyed_source}
use Rattle.book_refs.proofs.evaluated_chapter.EvaluatedChapter.apply.Goals as goal

pub returns-clause-within_work : goal.returns-clause-within_work
returns-clause-within_work g c =
    subst (λ (old : Chapter). OnOk c.apply-done.result (IsWithinWork c.args.edit.now (keyed_source old) (keyed_source (evaluated_chapter c.self.inside.name c.apply-done.new.self)) c.args.steps.now c.apply-done.new.steps)) c.self.view_is c.apply-done.ensures.within_work

pub returns-clause-stops_within_work : goal.returns-clause-stops_within_work
returns-clause-stops_within_work g c =
    subst (λ (old : Chapter). OnErr c.apply-done.result (StopsWithinWork c.args.edit.now (keyed_source old) c.args.steps.now c.apply-done.new.steps)) c.self.view_is c.apply-done.ensures.stops_within_work
