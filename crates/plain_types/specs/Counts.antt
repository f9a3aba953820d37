-- Sums and negations of counts. That they saturate, and where, is our own: CSS Lists 3, 4 lets a program
-- choose its limits.
use Rattle.std.specs.Prelude.{Bool, ℤ, ◌+ℤ◌, neg_ℤ, cond, int_lt}
use Rattle.plain_types.specs.declared.count.TheConstants.{COUNT_LOW, COUNT_HIGH}

-- the count that is nearest to a number
abbrev pub nearest_count : ℤ → ℤ
nearest_count number = cond (int_lt number COUNT_LOW) COUNT_LOW (cond (int_lt COUNT_HIGH number) COUNT_HIGH number)

abbrev pub count_sum : ℤ → ℤ → ℤ
count_sum a b = nearest_count (a +ℤ b)

abbrev pub count_negation : ℤ → ℤ
count_negation a = nearest_count (neg_ℤ a)
