use Rattle.std.proofs.Common.{◌≡◌, ◌<◌, ◌≤◌, ◌+◌, ◌*◌, IfErr, IfOk, length, set, subst, sym}
use Rattle.std.proofs.lemmas.Result.{on_err_weaker, on_ok_weaker}
use Rattle.dirty_walk.specs.WorkBounds.{IsWithinWork, StopsWithinWork}
use Rattle.document_walk.specs.Elements.{element_count}
use Rattle.marker_engine.specs.Edited.{edited}
use Rattle.std.specs.List.{slice_get}
use Rattle.std.specs.Option.{IfSome}
use Rattle.book_refs.specs.Volumes.{keyed_source, source_of}
use Rattle.book_refs.proofs.VolumeLemmas.{is_there, of_chapter, set_there}
use Rattle.book_refs.proofs.volume.Volume.apply.Goals as goal

pub returns-clause-within_work : goal.returns-clause-within_work
returns-clause-within_work g c =
    let there = is_there c.self.inside.chapters.items c.args.self.now c.args.place c.index_mut-chapter.result.now c.self.view_is c.requires.within c.index_mut-chapter.ensures.value in
    let within = subst (λ chapters. c.args.place < length chapters) (sym c.self.view_is) c.requires.within in
    on_ok_weaker c.apply.result
    (λ within_work.
    of_chapter
    (λ before. IfSome (slice_get (set c.self.inside.chapters.items c.args.place c.apply.new.self) c.args.place) (λ after. IsWithinWork c.args.edit.now (keyed_source before) (keyed_source after) c.args.steps.now c.apply.new.steps))
    (slice_get c.args.self.now c.args.place) c.index_mut-chapter.result.now there
    (of_chapter
    (λ after. IsWithinWork c.args.edit.now (keyed_source c.index_mut-chapter.result.now) (keyed_source after) c.args.steps.now c.apply.new.steps)
    (slice_get (set c.self.inside.chapters.items c.args.place c.apply.new.self) c.args.place) c.apply.new.self (set_there c.self.inside.chapters.items c.args.place c.apply.new.self within) within_work))
    c.apply.ensures.within_work

pub returns-clause-stops_within_work : goal.returns-clause-stops_within_work
returns-clause-stops_within_work g c =
    let there = is_there c.self.inside.chapters.items c.args.self.now c.args.place c.index_mut-chapter.result.now c.self.view_is c.requires.within c.index_mut-chapter.ensures.value in
    on_err_weaker c.apply.result
    (of_chapter (λ before. StopsWithinWork c.args.edit.now (keyed_source before) c.args.steps.now c.apply.new.steps) (slice_get c.args.self.now c.args.place) c.index_mut-chapter.result.now there)
    c.apply.ensures.stops_within_work

pub returns-clause-steps : goal.returns-clause-steps
returns-clause-steps g c =
    let there = is_there c.self.inside.chapters.items c.args.self.now c.args.place c.index_mut-chapter.result.now c.self.view_is c.requires.within c.index_mut-chapter.ensures.value in
    of_chapter
    (λ chapter. IfOk (edited (source_of chapter) c.args.edit.now) (λ source. c.apply.new.steps ≤ c.args.steps.now + (12 * element_count source.tree + 2 * element_count (source_of chapter).tree)))
    (slice_get c.args.self.now c.args.place) c.index_mut-chapter.result.now there c.apply.ensures.steps

pub returns-clause-no_steps : goal.returns-clause-no_steps
returns-clause-no_steps g c =
    let there = is_there c.self.inside.chapters.items c.args.self.now c.args.place c.index_mut-chapter.result.now c.self.view_is c.requires.within c.index_mut-chapter.ensures.value in
    of_chapter (λ chapter. IfErr (edited (source_of chapter) c.args.edit.now) (λ _. c.apply.new.steps ≡ c.args.steps.now))
    (slice_get c.args.self.now c.args.place) c.index_mut-chapter.result.now there c.apply.ensures.no_steps
