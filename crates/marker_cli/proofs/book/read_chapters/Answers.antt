use Rattle.std.proofs.Common.{◌≡◌, ◌∙◌, ◌+◌, ◌++◌, [], ◌∷◌, ap, arith, drop, map, refl, sym}
use Rattle.std.proofs.lemmas.List.{take_all}
use Rattle.std.specs.Str.{chars}
use Rattle.book_refs.specs.declared.chapter.Chapter.{Chapter}
use Rattle.node_arena.specs.Document.{HasElementRoot}
use Rattle.marker_cli.specs.OpenBooks.{chapters_of}
use Rattle.marker_cli.specs.Parts.{trees_of}
use Rattle.marker_cli.proofs.PartLemmas.{after_none, after_trees, all_push, as_many, chapter_name, chapter_tree, front_more, given_not, map_push, reading_at, sources_of, trees_all, trees_more, trees_not}
use Rattle.marker_cli.proofs.book.read_chapters.Goals as goal

pub loop-place-init : goal.loop-place-init
loop-place-init c = record {
  trees = λ readings all. rw c.new-chapters.ensures.empty (sym (after_none (trees_of 3 readings)));
  names = rw c.new-chapters.ensures.empty refl;
  sheets = rw c.new-chapters.ensures.empty tt;
  roots = rw c.new-chapters.ensures.empty tt;
}

pub loop-place-preserved : goal.loop-place-preserved
loop-place-preserved c =
    let now = c.loop-place.invariant in
    let push = c.in_ok-push.ensures.ok in
    record {
      trees = λ readings all.
          let found = reading_at c.args.texts.now readings c.loop-place.place c.index-texts-place.result (omega (arith, c.loop-place-test.true, c.requires.each)) c.index-texts-place.is all in
          trees_more readings _ c.loop-place.place found.0 _ found.2 found.1 (c.in_ok-chapter.ensures.tree found.0 (rw c.as_str.ensures.characters found.3)) (now.trees readings all)
          ∙ ap (λ trees. after_trees trees (trees_of (c.loop-place.place + 1 + 3) (drop (c.loop-place.place + 1) readings)))
          (sym (ap (map chapter_tree) push ∙ map_push chapter_tree _ _ _ refl));
      names =
          ap (map chapter_name) push ∙ map_push chapter_name _ _ _ c.in_ok-chapter.ensures.name
          ∙ ap (λ front. front ++ c.index-names-place.result ∷ []) now.names
          ∙ sym (front_more c.args.names.now c.loop-place.place c.index-names-place.result c.loop-place-test.true c.index-names-place.is);
      sheets = rw push (all_push (λ (chapter : Chapter). chapter.sheet ≡ chars c.args.sheet.now) _ _ now.sheets c.in_ok-chapter.ensures.sheet);
      roots = rw push (all_push (λ (chapter : Chapter). HasElementRoot chapter.document) _ _ now.roots c.in_ok-chapter.ensures.element);
    }

pub returns-in_err-chapter-clause-trees : goal.returns-in_err-chapter-clause-trees
returns-in_err-chapter-clause-trees c readings all =
    let now = c.loop-place.invariant in
    let found = reading_at c.args.texts.now readings c.loop-place.place c.index-texts-place.result (omega (arith, c.loop-place-test.true, c.requires.each)) c.index-texts-place.is all in
    given_not _ (map chapter_tree) c.from_residual.result c.from_residual.ensures
    (trees_not readings _ c.loop-place.place found.0 _ found.2 found.1 (c.in_err-chapter.ensures.tree found.0 (rw c.as_str.ensures.characters found.3)) (now.trees readings all))

pub returns-clause-trees : goal.returns-clause-trees
returns-clause-trees c readings all =
    let many = as_many c.args.texts.now readings all in
    trees_all readings _ c.loop-place.place (omega (arith, many, c.requires.each, c.loop-place-test.false)) (c.loop-place.invariant.trees readings all)

pub returns-clause-names : goal.returns-clause-names
returns-clause-names c = c.loop-place.invariant.names ∙ take_all c.loop-place.place c.args.names.now c.loop-place-test.false

pub returns-clause-sources : goal.returns-clause-sources
returns-clause-sources c =
    sources_of (chars c.args.sheet.now) c.loop-place.chapters c.loop-place.invariant.sheets
    ∙ ap (λ names. chapters_of (chars c.args.sheet.now) names (map chapter_tree c.loop-place.chapters))
    (c.loop-place.invariant.names ∙ take_all c.loop-place.place c.args.names.now c.loop-place-test.false)
