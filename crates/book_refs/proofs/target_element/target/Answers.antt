use Rattle.std.proofs.Common.{ℕ, ap, lit<, option_copied, option_map, sym, ◌∙◌}
use Rattle.std.proofs.lemmas.Str.Pattern.{split_parts}
use Rattle.reading.specs.Punctuation.{number_sign}
use Rattle.book_definitions.specs.Chapters.{Chapter}
use Rattle.book_refs.specs.Machinery.TargetElements.{element_aimed_at}
use Rattle.book_refs.proofs.UrlLemmas.{in_chapter, no_chapter, no_target}
use Rattle.book_refs.proofs.target_element.target.Goals as goal

pub returns-in_err-name-clause-target : goal.returns-in_err-name-clause-target
returns-in_err-name-clause-target c =
    let parts = split_parts number_sign c.args.url.now c.split_once.result c.split_once.ensures.cases (lit< tt) in
    let none = rw c.in_err-name.was at parts in
    ap (option_map element_aimed_at) c.from_residual.ensures ∙ sym (no_target c.args.volume.now c.args.own.now c.args.url.now c.utf8.url none)

pub returns-in_err-chapter-clause-target : goal.returns-in_err-chapter-clause-target
returns-in_err-chapter-clause-target c =
    let parts = split_parts number_sign c.args.url.now c.split_once.result c.split_once.ensures.cases (lit< tt) in
    let cut = rw c.in_ok-name.was at parts in
    ap (option_map element_aimed_at) c.from_residual-in_err-chapter.ensures
    ∙ sym (no_chapter c.args.volume.now c.args.own.now c.args.url.now c.in_ok-name.name.now c.in_ok-name.id.now (option_copied c.chapter_at.result)
    c.utf8.url cut.0 cut.1 c.chapter_at.ensures.chapter (ap option_copied c.in_err-chapter.was))

pub returns-in_err-key-clause-target : goal.returns-in_err-key-clause-target
returns-in_err-key-clause-target c =
    let parts = split_parts number_sign c.args.url.now c.split_once.result c.split_once.ensures.cases (lit< tt) in
    let cut = rw c.in_ok-name.was at parts in
    ap (option_map element_aimed_at) c.from_residual-in_err-key.ensures
    ∙ sym (in_chapter c.args.volume.now c.args.own.now c.args.url.now c.in_ok-name.name.now c.in_ok-name.id.now (option_copied c.chapter_at.result)
    c.utf8.url cut.0 cut.1 c.chapter_at.ensures.chapter c.in_ok-chapter.chapter.now c.first.result (ap option_copied c.in_ok-chapter.was) c.first.ensures.first
    ∙ ap (option_map {U = Chapter × ℕ} (λ (key : ℕ). (c.in_ok-chapter.chapter.now, key))) c.in_err-key.was)

pub returns-clause-target : goal.returns-clause-target
returns-clause-target c =
    let parts = split_parts number_sign c.args.url.now c.split_once.result c.split_once.ensures.cases (lit< tt) in
    let cut = rw c.in_ok-name.was at parts in
    sym (in_chapter c.args.volume.now c.args.own.now c.args.url.now c.in_ok-name.name.now c.in_ok-name.id.now (option_copied c.chapter_at.result)
    c.utf8.url cut.0 cut.1 c.chapter_at.ensures.chapter c.in_ok-chapter.chapter.now c.first.result (ap option_copied c.in_ok-chapter.was) c.first.ensures.first
    ∙ ap (option_map {U = Chapter × ℕ} (λ (key : ℕ). (c.in_ok-chapter.chapter.now, key))) c.in_ok-key.was)
