use Rattle.std.proofs.Common.{◌≡◌, ◌<◌, ◌-◌, ℕ, ℤ, List, Some, length, get_or, arith, ap, sym, ◌∙◌}
use Rattle.std.proofs.lemmas.Int.{to_z-of_z}
use Rattle.std.proofs.lemmas.Option.{slice_get-get_or}
use Rattle.std.proofs.lemmas.Result.{IfOk-weaker}
use Rattle.plain_types.specs.declared.counter_style.CounterStyle.{CounterStyle}
use Rattle.plain_types.specs.Table.{IsTable, place_named}
use Rattle.css_definitions.specs.Representation.{represented}
use Rattle.css_definitions.proofs.FallbackLaws.{walked, walked-writes, walked-follows, walked-ends, walked-none, walked-represented, found_within}
use Rattle.representation.proofs.represent.follow_fallbacks.Goals as goal

-- the walk from the start is what is represented
from_start : (table : List CounterStyle) (value : ℤ) (start : ℕ) → IsTable table → start < length table → (style : CounterStyle) → walked table value (length table) start ≡ represented table (get_or table start style) value
from_start table value start sound within style = walked-represented table value sound.distinct start (get_or table start style) (slice_get-get_or table start style within)

pub returns-in-Some : goal.returns-in-Some
returns-in-Some c =
    let fits = c.ranges.value in
    let wrote = simp to_z-of_z at c.in_ok-text.ensures.text in
    let to_do = simp to_z-of_z at c.loop-turn.invariant.to_do in
    record {
      text = λ style.
          sym (walked-writes c.args.table.now c.args.value (length c.args.table.now - c.loop-turn._turn) c.loop-turn.place c.style-style.result.now c.in-Some.text (omega arith) c.style-style.ensures.style (sym wrote ∙ c.in-Some.is))
          ∙ to_do ∙ from_start c.args.table.now c.args.value c.args.start c.len-turn-end.ensures.table c.requires.within style;
    }

pub returns-in-None : goal.returns-in-None
returns-in-None c =
    let fits = c.ranges.value in
    let wrote = simp to_z-of_z at c.in_ok-text.ensures.text in
    let to_do = simp to_z-of_z at c.loop-turn.invariant.to_do in
    let last = simp to_z-of_z at c.decimal.ensures.text in
    record {
      text =
          IfOk-weaker c.decimal.result _ _
          (λ text e style.
          e
          ∙ sym (walked-ends c.args.table.now c.args.value (length c.args.table.now - c.loop-turn._turn) c.loop-turn.place c.style-style.result.now (omega arith) c.style-style.ensures.style (sym wrote ∙ c.in_default.is)
          (ap (place_named c.args.table.now) (sym c.as_str.ensures.characters) ∙ sym c.find.ensures.place ∙ c.in-None.is))
          ∙ to_do ∙ from_start c.args.table.now c.args.value c.args.start c.len-turn-end.ensures.table c.requires.within style)
          last;
    }

pub loop-turn-preserved : goal.loop-turn-preserved
loop-turn-preserved c =
    let fits = c.ranges.value in
    let wrote = simp to_z-of_z at c.in_ok-text.ensures.text in
    let to_do = simp to_z-of_z at c.loop-turn.invariant.to_do in
    let found : place_named c.args.table.now c.style-style.result.now.fallback ≡ Some c.in-Some-find.next = ap (place_named c.args.table.now) (sym c.as_str.ensures.characters) ∙ sym c.find.ensures.place ∙ c.in-Some-find.is in
    simp to_z-of_z (record {
      here = found_within c.args.table.now c.args.value c.style-style.result.now.fallback c.in-Some-find.next found;
      to_do =
          ap (λ n. walked c.args.table.now c.args.value n c.in-Some-find.next) (omega arith)
          ∙ sym (walked-follows c.args.table.now c.args.value (length c.args.table.now - c.loop-turn._turn) c.loop-turn.place c.in-Some-find.next c.style-style.result.now (omega arith) c.style-style.ensures.style (sym wrote ∙ c.in_default.is) found)
          ∙ to_do;
    })

pub returns : goal.returns
returns c =
    let fits = c.ranges.value in
    let to_do = simp to_z-of_z at c.loop-turn.invariant.to_do in
    let last = simp to_z-of_z at c.decimal-2.ensures.text in
    record {
      text =
          IfOk-weaker c.decimal-2.result _ _
          (λ text e style.
          e
          ∙ sym (walked-none c.args.table.now c.args.value (length c.args.table.now - c.loop-turn._turn) c.loop-turn.place (omega arith))
          ∙ to_do ∙ from_start c.args.table.now c.args.value c.args.start c.len-turn-end.ensures.table c.requires.within style)
          last;
    }
