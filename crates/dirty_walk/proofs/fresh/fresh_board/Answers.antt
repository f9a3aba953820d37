use Rattle.std.proofs.Common.{◌≡◌, ◌<◌, ◌∙◌, ℕ, List, None, ap, length, sym, subst, arith}
use Rattle.std.specs.FinMap.{FinMap, get, get-empty}
use Rattle.std.specs.Ordering.{nat_cmp}
use Rattle.generated_texts.specs.Documents.{counter_styles}
use Rattle.generated_texts.specs.References.{known_targets}
use Rattle.generated_texts.specs.StyleElements.{author_sheet}
use Rattle.snapshot_board.specs.Records.{put_all}
use Rattle.kept_elements.specs.declared.kept.Kept.{Kept}
use Rattle.referring_elements.specs.Indexes.{TellsReferences}
use Rattle.referring_elements.specs.References.{AreOnce, said_of}
use Rattle.surroundings.specs.declared.told.Told.{Told}
use Rattle.kept_elements.specs.Evaluations.{document_kept, document_told, kept_of}
use Rattle.dirty_walk.proofs.BookLemmas.{kept_are}
use Rattle.kept_elements.proofs.ChangeLemmas.{has_key, key_of, put_whole, some-kept}
use Rattle.kept_elements.proofs.RecordLemmas.{has_key-mapped}
use Rattle.dirty_walk.proofs.ReferenceLemmas.{are_once}
use Rattle.kept_elements.proofs.ToldLemmas.{kept_keys, kept_once, told_once}
use Rattle.dirty_walk.proofs.fresh.fresh_board.Goals as goal

pub returns-clause-keeps : goal.returns-clause-keeps
returns-clause-keeps g c = λ key.
    let styles = c.args.styles.now in
    let tree = c.args.arena.now.tree in
    let author = author_sheet styles.sheet tree in
    let all = document_kept author tree in
    let before : FinMap nat_cmp Kept = c.reserve.new.self.held in
    let none : (key : ℕ) → get before key ≡ None = λ key. ap (λ held. get held key) (c.in_ok-reserve.ensures.held ∙ c.new-board.ensures.held) ∙ get-empty nat_cmp key in
    ap (λ held. get held key)
    (c.in_ok-put_document_entries.ensures.held
    ∙ ap (λ (puts : List (ℕ × Kept)). put_all puts before) (kept_are tree styles c.as_slice-records.result.now styles.sheet c.requires.styles (c.as_slice-records.ensures.items ∙ c.in_ok-told.ensures.told)))
    ∙ put_whole all before (kept_once author tree c.arena_holds_document.ensures.document.distinct) none key

pub returns-clause-room : goal.returns-clause-room
returns-clause-room g c = λ key named.
    let styles = c.args.styles.now in
    let tree = c.args.arena.now.tree in
    let author = author_sheet styles.sheet tree in
    let told = document_told author tree in
    let table = counter_styles author in
    let there =
    ap (has_key key) (c.as_slice-records.ensures.items ∙ c.in_ok-told.ensures.told)
    ∙ sym (has_key-mapped (kept_of table (known_targets table tree (said_of told))) key told)
    ∙ sym (some-kept key (document_kept author tree))
    ∙ kept_keys author tree c.arena_holds_document.ensures.document.distinct key
    ∙ named in
    let low : key < c.in_ok-room.room = key_of (λ k. k < c.in_ok-room.room) c.as_slice-records.result.now c.in_ok-room.ensures.room key there in
    omega (arith, low, c.in_ok-reserve.ensures.room, c.in_ok-put_document_entries.ensures.room)

pub index_with-requires : goal.index_with-requires
index_with-requires g c =
    let tree = c.args.arena.now.tree in
    let author = author_sheet c.args.styles.now.sheet tree in
    record {
      once = subst AreOnce (sym (c.as_slice-records.ensures.items ∙ c.in_ok-told.ensures.told)) (are_once (document_told author tree) (told_once author tree c.arena_holds_document.ensures.document.distinct));
    }

pub returns-clause-refers : goal.returns-clause-refers
returns-clause-refers g c =
    let tree = c.args.arena.now.tree in
    subst (λ (told : List (ℕ × Told)). TellsReferences c.in_ok-index.index (record { tree = tree; said = said_of told }))
    (c.as_slice-records.ensures.items ∙ c.in_ok-told.ensures.told)
    (c.in_ok-index.ensures.references tree)

pub returns-in_err-put_document_entries-clause-steps : goal.returns-in_err-put_document_entries-clause-steps
returns-in_err-put_document_entries-clause-steps g c =
    omega (arith, c.document_told.ensures.steps, c.in_ok-told.ensures.count, ap length c.as_slice-records.ensures.items, c.put_document_entries.ensures.steps)

pub returns-clause-steps : goal.returns-clause-steps
returns-clause-steps g c =
    omega (arith, c.document_told.ensures.steps, c.in_ok-told.ensures.count, ap length c.as_slice-records.ensures.items, c.put_document_entries.ensures.steps)
