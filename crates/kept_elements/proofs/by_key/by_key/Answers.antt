use Rattle.std.proofs.Common.{◌≡◌, ◌==◌, ◌∙◌, ℕ, Option, nat_eq, option_copied, take, take_all, sym, ap}
use Rattle.std.specs.Prelude.{is_some}
use Rattle.std.specs.HashMap.{get}
use Rattle.std.specs.Map.{lookup}
use Rattle.generated_texts.specs.References.{kept_at}
use Rattle.kept_elements.proofs.KeptLemmas.{copied_cond, copied_some, kept-next, put_first, put_none}
use Rattle.kept_elements.proofs.by_key.by_key.Goals as goal
use Rattle.kept_elements.proofs.by_key.by_key.Goals.{then-not-contains_key+in_ok-insert, else-not-contains_key}

pub loop-key-init : goal.loop-key-init
loop-key-init g c = λ key. ap (λ entries. option_copied (lookup (nat_eq key) entries)) c.new-map.ensures.empty

pub loop-key-preserved : goal.loop-key-preserved
loop-key-preserved g c = λ key.
    let entry = c.loop-key-item.result in
    let kept = c.args.kept.now in
    let before : ℕ → Option g.row.V.Denot = kept_at (take c.loop-key.key-index kept) in
    let next = kept-next kept c.loop-key.key-index entry key c.loop-key-test.true c.loop-key-item.is in
    let was = c.loop-key.invariant key in
    let there : is_some (before entry.0) ≡ c.contains_key.result =
    ap (λ o. is_some o) (sym (c.loop-key.invariant entry.0)) ∙ copied_some (get nat_eq c.loop-key.map entry.0) ∙ sym c.contains_key.ensures in
    elim c.if-not-contains_key.branch [
      | then-not-contains_key+in_ok-insert w ↦
          ap (λ m. option_copied (get nat_eq m key)) w.map-is
          ∙ put_first (option_copied (get nat_eq c.loop-key.map key)) (option_copied (get nat_eq w.insert.new.self key)) before entry key
          (there ∙ w.if-not-contains_key.true) was
          (ap option_copied (w.in_ok-insert.ensures.updates.0 key) ∙ copied_cond (entry.0 == key) _ (get nat_eq c.loop-key.map key))
          ∙ sym next
      | else-not-contains_key w ↦
          ap (λ m. option_copied (get nat_eq m key)) w.map-is
          ∙ was
          ∙ put_none before entry key (there ∙ w.if-not-contains_key.false)
          ∙ sym next
    ]

pub returns : goal.returns
returns g c = record { kept = λ key. c.loop-key.invariant key ∙ ap (λ xs. kept_at xs key) (take_all c.loop-key.key-index c.args.kept.now c.loop-key-test.false) }
