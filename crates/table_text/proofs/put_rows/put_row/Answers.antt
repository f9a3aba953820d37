use Rattle.std.proofs.Common.{◌∷◌, [], ◌++◌, ◌∙◌, ap, refl, encode_utf8_all, w64}
use Rattle.std.proofs.lemmas.Int.{to_z-of_z}
use Rattle.std.specs.Fmt.{signed_decimal}
use Rattle.ports.specs.Grown.{grown}
use Rattle.ports.proofs.GrownLemmas.{front_last, front_same, front_step, grown_after, on_err}
use Rattle.dump_definitions.specs.Dump.{quoted}
use Rattle.css_definitions.specs.Representation.{representation}
use Rattle.table_text.proofs.RowLemmas.{row_bytes}
use Rattle.table_text.proofs.put_rows.put_row.Goals as goal

pub returns-in_err-put_all-clause-err : goal.returns-in_err-put_all-clause-err
returns-in_err-put_all-clause-err g c =
    let shown = c.in_ok-represent.ensures.ok ∙ (λ i. c.new-text.ensures.empty i ++ representation c.args.table.now c.args.style.now (to_z-of_z w64 c.args.value c.ranges.value i)) in
    on_err _ (front_same (row_bytes c.args.table.now c.args.style.now c.args.value c.format.result.now c.represent.new.out (c.format.ensures.text ∙ ap signed_decimal (to_z-of_z w64 c.args.value c.ranges.value)) c.format.ensures.ascii shown)
    (front_last _ c.in_err-put_all.ensures.failed c.as_bytes.ensures.value))

pub returns-in_err-put_all-2-clause-err : goal.returns-in_err-put_all-2-clause-err
returns-in_err-put_all-2-clause-err g c =
    let shown = c.in_ok-represent.ensures.ok ∙ (λ i. c.new-text.ensures.empty i ++ representation c.args.table.now c.args.style.now (to_z-of_z w64 c.args.value c.ranges.value i)) in
    on_err _ (front_same (row_bytes c.args.table.now c.args.style.now c.args.value c.format.result.now c.represent.new.out (c.format.ensures.text ∙ ap signed_decimal (to_z-of_z w64 c.args.value c.ranges.value)) c.format.ensures.ascii shown)
    (front_step c.in_ok-put_all.ensures.ok c.as_bytes.ensures.value (front_last {piece = 32 ∷ []} _ c.in_err-put_all-2.ensures.failed refl)))

pub returns-in_err-put_quoted-clause-err : goal.returns-in_err-put_quoted-clause-err
returns-in_err-put_quoted-clause-err g c =
    let shown = c.in_ok-represent.ensures.ok ∙ (λ i. c.new-text.ensures.empty i ++ representation c.args.table.now c.args.style.now (to_z-of_z w64 c.args.value c.ranges.value i)) in
    on_err _ (front_same (row_bytes c.args.table.now c.args.style.now c.args.value c.format.result.now c.represent.new.out (c.format.ensures.text ∙ ap signed_decimal (to_z-of_z w64 c.args.value c.ranges.value)) c.format.ensures.ascii shown)
    (front_step c.in_ok-put_all.ensures.ok c.as_bytes.ensures.value
    (front_step {piece = 32 ∷ []} c.in_ok-put_all-2.ensures.ok refl
    (front_last _ c.in_err-put_quoted.ensures.failed (ap (λ cs. encode_utf8_all (quoted cs)) c.as_str.ensures.characters)))))

pub returns-in_err-put_all-3-clause-err : goal.returns-in_err-put_all-3-clause-err
returns-in_err-put_all-3-clause-err g c =
    let shown = c.in_ok-represent.ensures.ok ∙ (λ i. c.new-text.ensures.empty i ++ representation c.args.table.now c.args.style.now (to_z-of_z w64 c.args.value c.ranges.value i)) in
    on_err _ (front_same (row_bytes c.args.table.now c.args.style.now c.args.value c.format.result.now c.represent.new.out (c.format.ensures.text ∙ ap signed_decimal (to_z-of_z w64 c.args.value c.ranges.value)) c.format.ensures.ascii shown)
    (front_step c.in_ok-put_all.ensures.ok c.as_bytes.ensures.value
    (front_step {piece = 32 ∷ []} c.in_ok-put_all-2.ensures.ok refl
    (front_step c.in_ok-put_quoted.ensures.ok (ap (λ cs. encode_utf8_all (quoted cs)) c.as_str.ensures.characters) c.in_err-put_all-3.ensures.failed))))

pub returns-clause-ok : goal.returns-clause-ok
returns-clause-ok g c =
    let shown = c.in_ok-represent.ensures.ok ∙ (λ i. c.new-text.ensures.empty i ++ representation c.args.table.now c.args.style.now (to_z-of_z w64 c.args.value c.ranges.value i)) in
    grown_after _ _ _ _ _ (c.in_ok-put_all.ensures.ok ∙ ap (λ bs. grown (g.O.Sink.out c.args.out.now) bs) c.as_bytes.ensures.value)
    (grown_after _ _ _ (32 ∷ []) _ c.in_ok-put_all-2.ensures.ok
    (grown_after _ _ _ _ (10 ∷ []) (c.in_ok-put_quoted.ensures.ok ∙ ap (λ cs. grown (g.O.Sink.out c.put_all-2.new.out) (encode_utf8_all (quoted cs))) c.as_str.ensures.characters) c.in_ok-put_all-3.ensures.ok))
    ∙ ap (λ bs. grown (g.O.Sink.out c.args.out.now) bs)
    (row_bytes c.args.table.now c.args.style.now c.args.value c.format.result.now c.represent.new.out (c.format.ensures.text ∙ ap signed_decimal (to_z-of_z w64 c.args.value c.ranges.value)) c.format.ensures.ascii shown)
