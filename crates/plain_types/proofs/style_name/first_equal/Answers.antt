use Rattle.std.proofs.Common.{◌≡◌, ℕ, List, [], refl, sym, ◌∙◌, ap}
use Rattle.std.specs.Borrow.{Bor}
use Rattle.std.proofs.lemmas.Bool.{cond-true, cond-false, false_from_ne_true, false≢true}
use Rattle.std.proofs.lemmas.Slice.Eq.{bytes_eq-Decides}
use Rattle.std.specs.Str.{str_eq_ignore_ascii_case}
use Rattle.plain_types.specs.StyleNames.{lower_case}
use Rattle.plain_types.proofs.StyleNameLemmas.{find-drop, none_known}
use Rattle.plain_types.proofs.style_name.first_equal.Goals as goal

pub returns-then-eq_ignore_ascii_case : goal.returns-then-eq_ignore_ascii_case
returns-then-eq_ignore_ascii_case c = record {
  first =
      sym (cond-true _ _ _ ((bytes_eq-Decides (lower_case c.args.name.now) _).1 (c.if-eq_ignore_ascii_case.ensures.test.0 refl)))
      ∙ sym (find-drop (str_eq_ignore_ascii_case c.args.name.now) (λ (known : Bor (List ℕ)). known.now) c.args.names.now c.loop-known.known-index none_known c.loop-known-test.true)
      ∙ c.loop-known.invariant;
}

pub loop-known-preserved : goal.loop-known-preserved
loop-known-preserved c =
    sym (find-drop (str_eq_ignore_ascii_case c.args.name.now) (λ (known : Bor (List ℕ)). known.now) c.args.names.now c.loop-known.known-index none_known c.loop-known-test.true
    ∙ cond-false _ _ _ (false_from_ne_true _ (λ same. false≢true (c.if-eq_ignore_ascii_case.ensures.test.1 ((bytes_eq-Decides (lower_case c.args.name.now) _).0 same)))))
    ∙ c.loop-known.invariant
