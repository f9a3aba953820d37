use Rattle.std.proofs.Common.{subst, ◌∙◌}
use Rattle.book_definitions.specs.Chapters.{IsVolume}
use Rattle.book_refs.proofs.ShownChapters.{shown, shown_in_part, shown_within}
use Rattle.book_refs.proofs.VolumeLemmas.{is_there}
use Rattle.book_refs.proofs.volume.Volume.show.Goals as goal

pub returns-clause-ok : goal.returns-clause-ok
returns-clause-ok g c =
    let same = c.as_slice-chapters.ensures.value ∙ c.self.view_is in
    let at = is_there c.as_slice-chapters.result.now c.args.self.now c.args.place c.index-chapters-place.result same c.requires.within c.index-chapters-place.is in
    shown c.as_slice-chapters.result.now c.args.self.now c.args.place c.index-chapters-place.result same at c.put_chapter.result c.keys_do_not_matter.ensures.dump (subst IsVolume c.self.view_is c.self.invariant)
    (g.O.Sink.out c.args.out.now) (g.O.Sink.out c.put_chapter.new.out) c.put_chapter.ensures.ok

pub returns-clause-failed : goal.returns-clause-failed
returns-clause-failed g c =
    let same = c.as_slice-chapters.ensures.value ∙ c.self.view_is in
    let at = is_there c.as_slice-chapters.result.now c.args.self.now c.args.place c.index-chapters-place.result same c.requires.within c.index-chapters-place.is in
    shown_in_part c.as_slice-chapters.result.now c.args.self.now c.args.place c.index-chapters-place.result same at c.put_chapter.result c.keys_do_not_matter.ensures.dump (subst IsVolume c.self.view_is c.self.invariant)
    (g.O.Sink.out c.args.out.now) (g.O.Sink.out c.put_chapter.new.out) c.put_chapter.ensures.failed

pub returns-clause-steps : goal.returns-clause-steps
returns-clause-steps g c =
    let same = c.as_slice-chapters.ensures.value ∙ c.self.view_is in
    let at = is_there c.as_slice-chapters.result.now c.args.self.now c.args.place c.index-chapters-place.result same c.requires.within c.index-chapters-place.is in
    shown_within c.as_slice-chapters.result.now c.args.self.now c.args.place c.index-chapters-place.result same at c.args.steps.now c.put_chapter.new.steps c.put_chapter.ensures.steps
