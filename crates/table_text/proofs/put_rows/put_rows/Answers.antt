use Rattle.std.proofs.Common.{◌≡◌, ◌≤◌, ◌++◌, [], ℤ, pos, ◌+ℤ◌, ◌<ℤ◌, ◌≤ℤ◌, refl, sym, ◌∙◌, ap, arith, append-nil, append_assoc, encode_utf8_all, to_z, of_z, w64, rules}
use Rattle.std.proofs.lemmas.Int.{ints, to_z-of_z}
use Rattle.ports.specs.Grown.{grown}
use Rattle.ports.proofs.GrownLemmas.{front_after, grown_after, grown-nil, on_err}
use Rattle.table_text.specs.Rows.{row_text, rows, values_between}
use Rattle.table_text.proofs.RowLemmas.{rows-first, rows-none}
use Rattle.table_text.proofs.put_rows.put_rows.Goals as goal

pub loop-value-init : goal.loop-value-init
loop-value-init g c = record { done = []; written = grown-nil _; parts = refl; later = omega arith }

pub returns-in_err-put_row-clause-err : goal.returns-in_err-put_row-clause-err
returns-in_err-put_row-clause-err g c =
    let value : ℤ = to_z w64 c.loop-value.value-bits in
    let below : value ≤ℤ to_z w64 (of_z w64 c.args.to) = omega (arith, ints, c.loop-value-test.true) in
    on_err c.from_residual.result
    (front_after _ _ _ c.loop-value.invariant.done _ (rows c.args.table.now c.args.style.now (values_between (value +ℤ pos 1) (to_z w64 (of_z w64 c.args.to)))) _
    c.loop-value.invariant.written c.in_err-put_row.ensures.err
    (append_assoc c.loop-value.invariant.done (encode_utf8_all (row_text c.args.table.now c.args.style.now value)) _
    ∙ ap (λ bs. c.loop-value.invariant.done ++ bs) (sym (rows-first c.args.table.now c.args.style.now value (to_z w64 (of_z w64 c.args.to)) below))
    ∙ c.loop-value.invariant.parts
    ∙ (λ i. rows c.args.table.now c.args.style.now (values_between (to_z-of_z w64 c.args.from c.ranges.from i) (to_z-of_z w64 c.args.to c.ranges.to i)))))

pub returns-in_err-put_row-clause-cause : goal.returns-in_err-put_row-clause-cause
returns-in_err-put_row-clause-cause g c =
    let earlier : g.O.Sink.faults c.args.out.now ≤ g.O.Sink.faults c.loop-value.out = c.loop-value.invariant.later in
    search rules

pub loop-value-preserved : goal.loop-value-preserved
loop-value-preserved g c =
    let value : ℤ = to_z w64 c.loop-value.value-bits in
    let below : value ≤ℤ to_z w64 (of_z w64 c.args.to) = omega (arith, ints, c.loop-value-test.true) in
    let more : to_z w64 (of_z w64 (value +ℤ pos 1)) ≡ value +ℤ pos 1 = search rules in
    record {
      done = c.loop-value.invariant.done ++ encode_utf8_all (row_text c.args.table.now c.args.style.now value);
      written = grown_after _ _ _ _ _ c.loop-value.invariant.written c.in_ok-put_row.ensures.ok;
      parts =
          append_assoc c.loop-value.invariant.done (encode_utf8_all (row_text c.args.table.now c.args.style.now value)) _
          ∙ ap (λ next. c.loop-value.invariant.done ++ (encode_utf8_all (row_text c.args.table.now c.args.style.now value)
          ++ rows c.args.table.now c.args.style.now (values_between next (to_z w64 (of_z w64 c.args.to))))) more
          ∙ ap (λ bs. c.loop-value.invariant.done ++ bs) (sym (rows-first c.args.table.now c.args.style.now value (to_z w64 (of_z w64 c.args.to)) below))
          ∙ c.loop-value.invariant.parts;
      later = omega (arith, c.loop-value.invariant.later, c.in_ok-put_row.ensures.cause.later);
    }

pub returns-clause-ok : goal.returns-clause-ok
returns-clause-ok g c =
    let value : ℤ = to_z w64 c.loop-value.value-bits in
    let above : to_z w64 (of_z w64 c.args.to) <ℤ value = search rules in
    c.loop-value.invariant.written
    ∙ ap (λ bs. grown (g.O.Sink.out c.args.out.now) bs)
    (sym (append-nil c.loop-value.invariant.done)
    ∙ ap (λ bs. c.loop-value.invariant.done ++ bs) (sym (rows-none c.args.table.now c.args.style.now value (to_z w64 (of_z w64 c.args.to)) above))
    ∙ c.loop-value.invariant.parts
    ∙ (λ i. rows c.args.table.now c.args.style.now (values_between (to_z-of_z w64 c.args.from c.ranges.from i) (to_z-of_z w64 c.args.to c.ranges.to i))))

pub returns-in_ok-put_row-clause-ok : goal.returns-in_ok-put_row-clause-ok
returns-in_ok-put_row-clause-ok g c =
    let value : ℤ = to_z w64 c.loop-value.value-bits in
    let same : value ≡ to_z w64 (of_z w64 c.args.to) = search rules in
    let last : rows c.args.table.now c.args.style.now (values_between value (to_z w64 (of_z w64 c.args.to))) ≡ encode_utf8_all (row_text c.args.table.now c.args.style.now value) =
    rows-first c.args.table.now c.args.style.now value (to_z w64 (of_z w64 c.args.to)) (omega (arith, ints, same))
    ∙ ap (λ bs. encode_utf8_all (row_text c.args.table.now c.args.style.now value) ++ bs) (rows-none c.args.table.now c.args.style.now (value +ℤ pos 1) (to_z w64 (of_z w64 c.args.to)) (omega (arith, ints, same)))
    ∙ append-nil (encode_utf8_all (row_text c.args.table.now c.args.style.now value)) in
    grown_after _ _ _ _ _ c.loop-value.invariant.written c.in_ok-put_row.ensures.ok
    ∙ ap (λ bs. grown (g.O.Sink.out c.args.out.now) bs)
    (ap (λ bs. c.loop-value.invariant.done ++ bs) (sym last)
    ∙ c.loop-value.invariant.parts
    ∙ (λ i. rows c.args.table.now c.args.style.now (values_between (to_z-of_z w64 c.args.from c.ranges.from i) (to_z-of_z w64 c.args.to c.ranges.to i))))
