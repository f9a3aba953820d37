use Rattle.std.proofs.Common.{◌≡◌, ℕ, ◌+◌, cond, take, drop, count_ones, sym, ap, ap₂, ◌∙◌, arith}
use Rattle.std.specs.List.{count_by}
use Rattle.std.proofs.lemmas.List.{length-take-le, take-append-drop, take_rest}
use Rattle.std.proofs.lemmas.List.Sums.{count_by-le-length, sum_by-append}
use Rattle.lane_class.specs.Ranges.{is_in}
use Rattle.lane_class.proofs.PlaceLaws.{counted_further}
use Rattle.lane_class.proofs.count_in.Goals as goal

counted : (c : goal.After-hits-hits) → c.far.count + count_ones c.hits-hits.result ≡ count_by (is_in c.args.class.now) (take (c.far.start + 32) c.args.bytes.now)
counted c =
    ap₂ (λ (n mask : ℕ). n + count_ones mask) c.far.invariant.counted c.hits-hits.ensures
    ∙ sym (counted_further (is_in c.args.class.now) c.args.bytes.now c.far.start 32)

pub overflow_add-count : goal.overflow_add-count
overflow_add-count c =
    let seen = take (c.far.start + 32) c.args.bytes.now in
    record { fits = omega (arith, counted c, count_by-le-length (is_in c.args.class.now) seen, length-take-le (c.far.start + 32) c.args.bytes.now (omega arith)) }

pub far-preserved : goal.far-preserved
far-preserved c = record { within = omega arith; counted = counted c }

pub returns : goal.returns
returns c =
    let class = c.args.class.now in
    let front = take c.far.start c.args.bytes.now in
    ap₂ (λ (n m : ℕ). n + m) c.far.invariant.counted (c.count_near.ensures ∙ ap (count_by (is_in class)) (take_rest c.args.bytes.now c.far.start))
    ∙ sym (sum_by-append (λ x. cond (is_in class x) 1 0) front (drop c.far.start c.args.bytes.now))
    ∙ ap (count_by (is_in class)) (take-append-drop c.far.start c.args.bytes.now)
