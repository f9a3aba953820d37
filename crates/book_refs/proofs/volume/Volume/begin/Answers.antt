use Rattle.std.proofs.Common.{◌∙◌, ap, arith, refl, subst, sym}
use Rattle.std.proofs.lemmas.List.{take_all}
use Rattle.std.specs.List.{AllByRecursion}
use Rattle.book_definitions.specs.Chapters.{Chapter}
use Rattle.book_refs.specs.declared.chapter.Chapter.{Chapter as Given}
use Rattle.book_refs.specs.Given.{elements_given}
use Rattle.node_arena.specs.Document.{HasElementRoot, IsKeyedDocument}
use Rattle.book_refs.proofs.VolumeLemmas.{all_made, all_more, begun, elements_more, elements_within, its_root, made_more}
use Rattle.book_refs.proofs.volume.Volume.begin.Goals as goal

pub loop-chapter-init : goal.loop-chapter-init
loop-chapter-init g c = record {
  made = rw c.new-evaluated.ensures.items refl;
  documents = rw c.new-evaluated.ensures.items tt;
  spent = omega arith;
}

pub start-requires : goal.start-requires
start-requires g c = record {
  element =
      its_root c.as_slice-chapter-items.result.now c.loop-chapter.chapter-index c.chapter-item.result c.loop-chapter-test.true c.chapter-item.is
      (subst (AllByRecursion (λ (chapter : Given). HasElementRoot chapter.document)) (sym c.as_slice-chapter-items.ensures.items) c.requires.volume.roots);
}

pub returns-in_err-start-clause-steps : goal.returns-in_err-start-clause-steps
returns-in_err-start-clause-steps g c =
    let within = elements_within c.as_slice-chapter-items.result.now c.loop-chapter.chapter-index c.chapter-item.result c.loop-chapter-test.true c.chapter-item.is in
    let same = ap elements_given c.as_slice-chapter-items.ensures.items in
    omega (arith, within, same, c.start.ensures.steps, c.loop-chapter.invariant.spent)

pub returns-in_err-push-clause-steps : goal.returns-in_err-push-clause-steps
returns-in_err-push-clause-steps g c =
    let within = elements_within c.as_slice-chapter-items.result.now c.loop-chapter.chapter-index c.chapter-item.result c.loop-chapter-test.true c.chapter-item.is in
    let same = ap elements_given c.as_slice-chapter-items.ensures.items in
    omega (arith, within, same, c.start.ensures.steps, c.loop-chapter.invariant.spent)

pub loop-chapter-preserved : goal.loop-chapter-preserved
loop-chapter-preserved g c =
    let more = elements_more c.as_slice-chapter-items.result.now c.loop-chapter.chapter-index c.chapter-item.result c.loop-chapter-test.true c.chapter-item.is in
    record {
      made =
          made_more c.as_slice-chapter-items.result.now c.loop-chapter.chapter-index c.chapter-item.result c.loop-chapter-test.true c.chapter-item.is
          c.loop-chapter.evaluated.items c.push.new.self.items c.in_ok-start.field-0 c.loop-chapter.invariant.made c.in_ok-start.ensures.source c.in_ok-push.ensures.items;
      documents =
          all_more (λ (chapter : Chapter). IsKeyedDocument chapter.document) c.loop-chapter.evaluated.items c.push.new.self.items c.in_ok-start.field-0
          c.loop-chapter.invariant.documents c.in_ok-start.ensures.document c.in_ok-push.ensures.items;
      spent = omega (arith, more, c.start.ensures.steps, c.loop-chapter.invariant.spent);
    }

pub invariant_of-result : goal.invariant_of-result
invariant_of-result g c =
    begun c.args.chapters c.loop-chapter.evaluated.items c.requires.volume
    (all_made c.args.chapters c.as_slice-chapter-items.result.now c.loop-chapter.evaluated.items c.loop-chapter.chapter-index c.as_slice-chapter-items.ensures.items c.loop-chapter-test.false c.loop-chapter.invariant.made)
    c.loop-chapter.invariant.documents

pub returns-clause-chapters : goal.returns-clause-chapters
returns-clause-chapters g c =
    all_made c.args.chapters c.as_slice-chapter-items.result.now c.loop-chapter.evaluated.items c.loop-chapter.chapter-index c.as_slice-chapter-items.ensures.items c.loop-chapter-test.false c.loop-chapter.invariant.made

pub returns-clause-steps : goal.returns-clause-steps
returns-clause-steps g c =
    let all = ap elements_given (take_all c.loop-chapter.chapter-index c.as_slice-chapter-items.result.now c.loop-chapter-test.false ∙ c.as_slice-chapter-items.ensures.items) in
    omega (arith, all, c.loop-chapter.invariant.spent)
