use Rattle.std.proofs.Common.{None, Some, [], ap, append-nil, arith, sym, ◌∙◌, ◌++◌}
use Rattle.std.specs.Option.{option_map_or}
use Rattle.std.specs.Str.{chars}
use Rattle.book_definitions.specs.Texts.{flat_in_volume}
use Rattle.box_eval.specs.declared.made.Made.{Made}
use Rattle.book_refs.specs.Machinery.VolumeBoxes.{box_at}
use Rattle.book_refs.proofs.BoxTexts.{flat_kept, flat_told, urls_told}
use Rattle.book_refs.proofs.TargetTexts.{appended}
use Rattle.book_refs.proofs.flat_texts.push_flat_box.Goals as goal

pub returns-in-Some-clause-ok : goal.returns-in-Some-clause-ok
returns-in-Some-clause-ok g c =
    let chapter = c.args.there.now.chapter.now in
    let key = c.args.there.now.key in
    appended c.push_flat_pieces.result c.args.out.now c.push_flat_pieces.new.out
    (flat_in_volume c.args.volume.now chapter c.in-Some.pieces.now)
    (option_map_or (λ (made : Made). flat_in_volume c.args.volume.now chapter made.pieces) (box_at chapter key c.args.kind) [])
    (flat_told c.args.volume.now chapter key c.args.kind c.in-Some.pieces.now (sym c.in-Some.ensures.pieces))
    c.push_flat_pieces.ensures.ok

pub returns-in-Some-clause-steps : goal.returns-in-Some-clause-steps
returns-in-Some-clause-steps g c =
    let told = urls_told c.args.volume.now c.args.there.now.chapter.now c.args.there.now.key c.args.kind c.in-Some.pieces.now (sym c.in-Some.ensures.pieces) in
    omega (arith, told, c.pieces.ensures.steps, c.push_flat_pieces.ensures.steps)

pub returns-in-Some-box_of-clause-ok : goal.returns-in-Some-box_of-clause-ok
returns-in-Some-box_of-clause-ok g c =
    let chapter = c.args.there.now.chapter.now in
    let key = c.args.there.now.key in
    appended c.push_str.result c.args.out.now c.push_str.new.self (chars c.as_str.result.now)
    (option_map_or (λ (made : Made). flat_in_volume c.args.volume.now chapter made.pieces) (box_at chapter key c.args.kind) [])
    (c.as_str.ensures.characters
    ∙ flat_kept c.texts_are_told_piece_by_piece.ensures.boxes c.args.volume.now chapter key c.args.kind c.element_entry.result.now (Some c.in-Some-box_of.text.now)
    (sym c.in_default.ensures.pieces) c.element_entry.ensures.entry c.in-Some-box_of.ensures.text)
    c.push_str.ensures.ok

pub returns-in-None-clause-ok : goal.returns-in-None-clause-ok
returns-in-None-clause-ok g c =
    sym (append-nil c.args.out.now)
    ∙ ap (λ more. c.args.out.now ++ more)
    (flat_kept c.texts_are_told_piece_by_piece.ensures.boxes c.args.volume.now c.args.there.now.chapter.now c.args.there.now.key c.args.kind c.element_entry.result.now None
    (sym c.in_default.ensures.pieces) c.element_entry.ensures.entry c.in-None.ensures.text)
