-- What is put into a list, and the rest of it.
use Rattle.std.proofs.Common.{◌≡◌, ◌==◌, ◌≤◌, ◌+◌, ◌∙◌, ◌⊎◌, ℕ, cond, List, ◌++◌, None, sum_by, sym, ap, arith}
use Rattle.std.specs.Option.{option_or}
use Rattle.std.proofs.lemmas.List.Sums.{sum_by-append}
use Rattle.forest.specs.Keys.{Keyed}
use Rattle.kept_elements.proofs.SaidLemmas.{often, often-append, one-silent, said, said-append, swapped}
use Rattle.dirty_walk.proofs.SplitLemmas.{IsPut}

module _ {L : Type 0} (put rest whole : List (Keyed L)) (h : IsPut put rest whole) where
  pub put-sum : (w : Keyed L → ℕ) → sum_by w whole ≡ sum_by w put + sum_by w rest
  put-sum w =
      omega (arith, ap (sum_by w) h.whole_is, ap (sum_by w) h.rest_is, sum_by-append w h.before (put ++ h.after), sum_by-append w put h.after, sum_by-append w h.before h.after)

  module _ (once : (key : ℕ) → often key whole ≤ 1) (key : ℕ) where
    pub put-apart : (said put key ≡ None) ⊎ (said rest key ≡ None)
    put-apart = one-silent put rest key (omega (arith, once key, put-sum (λ (n : Keyed L). cond (n.key == key) 1 0)))

    pub put-said : said whole key ≡ option_or (said put key) (said rest key)
    put-said =
        ap (λ ns. said ns key) h.whole_is
        ∙ said-append h.before (put ++ h.after) key
        ∙ ap (option_or (said h.before key)) (said-append put h.after key)
        ∙ swapped (said h.before key) (said put key) (said h.after key) (one-silent put h.before key
        (omega (arith, once key, ap (often key) h.whole_is, often-append key h.before (put ++ h.after), often-append key put h.after)))
        ∙ ap (option_or (said put key)) (sym (said-append h.before h.after key) ∙ ap (λ ns. said ns key) (sym h.rest_is))
