use Rattle.std.proofs.Common.{◌≡◌, ◌∙◌, ◌&&◌, Bool, ℤ, None, Some, ap, cond, false, rules, sym, take, true, to_z, of_z, w64}
use Rattle.std.specs.Option.{option_or}
use Rattle.std.specs.Str.{bytes_eq}
use Rattle.counter_sets.specs.ByNames.{value_of}
use Rattle.counter_sets.specs.Sets.{is_same_box}
use Rattle.box_eval.specs.declared.inputs.Start.{Start}
use Rattle.box_eval.specs.Lookups.{start_given}
use Rattle.box_eval.proofs.PlaceLemmas.{name_swapped, or_nothing, value_more}
use Rattle.box_eval.proofs.box_starts.starts_by_name.Goals.{then-eq+in_ok-put_first, else-eq}
use Rattle.box_eval.proofs.box_starts.starts_by_name.Goals as goal

pub loop-start-preserved : goal.loop-start-preserved
loop-start-preserved c name =
    let starts = c.args.starts.now in
    let start : Start = c.start-item.result in
    let old = value_of c.loop-start.by_name name in
    let own : Start → Bool = λ (start : Start). is_same_box start.creator c.args.creator && bytes_eq start.name name in
    let more = value_more (λ (start : Start). start.value) own starts c.loop-start.start-index start c.loop-start-test.true c.start-item.is in
    let same : c.eq.result ≡ is_same_box start.creator c.args.creator = search rules in
    elim c.if-eq.branch [
      | then-eq+in_ok-put_first w ↦
          let its : is_same_box start.creator c.args.creator ≡ true = sym same ∙ w.if-eq.true in
          let test : bytes_eq name start.name ≡ own start = name_swapped name start.name ∙ sym (ap (λ b. b && bytes_eq start.name name) its) in
          let value : to_z w64 (of_z w64 start.value) ≡ start.value = search rules in
          ap (λ values. value_of values name) w.by_name-is
          ∙ w.in_ok-put_first.ensures.ok name
          ∙ ap (λ given. option_or old (cond (bytes_eq name given) (Some (to_z w64 (of_z w64 start.value))) None)) w.as_str.ensures.characters
          ∙ ap (λ (value : ℤ). option_or old (cond (bytes_eq name start.name) (Some value) None)) value
          ∙ ap (λ b. option_or old (cond b (Some start.value) None)) test
          ∙ ap (λ o. option_or o (cond (own start) (Some start.value) None)) (c.loop-start.invariant name)
          ∙ sym more
      | else-eq w ↦
          let other : own start ≡ false = ap (λ b. b && bytes_eq start.name name) (sym same ∙ w.if-eq.false) in
          ap (λ values. value_of values name) w.by_name-is
          ∙ c.loop-start.invariant name
          ∙ or_nothing (start_given (take c.loop-start.start-index starts) c.args.creator name)
          ∙ sym (ap (λ b. option_or (start_given (take c.loop-start.start-index starts) c.args.creator name) (cond b (Some start.value) None)) other)
          ∙ sym more
    ]
