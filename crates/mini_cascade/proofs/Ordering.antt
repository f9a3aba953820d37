-- The orders of specificities and of declarations are orders.
use Rattle.std.proofs.Common.{◌≡◌, ℕ, Bool, true, false, ◌&&◌, ◌||◌, ◌==◌, nat_lt, refl, arith}
use Rattle.std.proofs.lemmas.Bool.Decides.{nat_tests}
use Rattle.mini_cascade.specs.Ranks.{strength, is_weaker, is_outranked}
use Rattle.mini_cascade.specs.declared.rank.Attachment.{Attachment}
use Rattle.mini_cascade.specs.declared.rank.Attachment.TheVariants.{Rule, Direct}
use Rattle.selectors.specs.Specificity.{is_less}
use Rattle.mini_cascade.specs.Styles.{gives_way}
use Rattle.mini_cascade.specs.declared.rank.Rank.{Rank}
use Rattle.selectors.specs.declared.specificity.Specificity.{Specificity}
use Rattle.mini_cascade.proofs.GreatestLaws.{IsOrder}

less_specific : (a b c : Specificity) → is_less a b ≡ true → is_less b c ≡ true → is_less a c ≡ true
less_specific a b c h k = grind (arith, nat_tests)

not_less_specific : (a b c : Specificity) → is_less a b ≡ false → is_less b c ≡ false → is_less a c ≡ false
not_less_specific a b c h k = grind (arith, nat_tests)

pub specificity_order : IsOrder is_less
specificity_order = record { less = less_specific; not_less = not_less_specific }

weaker : (a b c : Attachment) → is_weaker a b ≡ true → is_weaker b c ≡ true → is_weaker a c ≡ true
weaker (Rule a) (Rule b) (Rule c) h k = less_specific a b c h k
weaker (Rule a) (Rule b) Direct h k = refl
weaker (Rule a) Direct c h k = absurd (cc)
weaker Direct b c h k = absurd (cc)

not_weaker : (a b c : Attachment) → is_weaker a b ≡ false → is_weaker b c ≡ false → is_weaker a c ≡ false
not_weaker (Rule a) (Rule b) (Rule c) h k = not_less_specific a b c h k
not_weaker (Rule a) (Rule b) Direct h k = absurd (cc)
not_weaker (Rule a) Direct c h k = absurd (cc)
not_weaker Direct b c h k = refl

-- first by numbers, and where they are equal by an answer
then_less : (p q r : ℕ) (ab bc ac : Bool) → (ab ≡ true → bc ≡ true → ac ≡ true)
    → (nat_lt p q || (p == q && ab)) ≡ true → (nat_lt q r || (q == r && bc)) ≡ true → (nat_lt p r || (p == r && ac)) ≡ true
then_less p q r ab bc ac less h k = grind (arith, nat_tests)

then_not_less : (p q r : ℕ) (ab bc ac : Bool) → (ab ≡ false → bc ≡ false → ac ≡ false)
    → (nat_lt p q || (p == q && ab)) ≡ false → (nat_lt q r || (q == r && bc)) ≡ false → (nat_lt p r || (p == r && ac)) ≡ false
then_not_less p q r ab bc ac not_less h k = grind (arith, nat_tests)

below : (a b c : Rank) → is_outranked a b ≡ true → is_outranked b c ≡ true → is_outranked a c ≡ true
below a b c h k =
    then_less (strength a.level) (strength b.level) (strength c.level) _ _ (is_weaker a.attachment c.attachment) (weaker a.attachment b.attachment c.attachment) h k

not_below : (a b c : Rank) → is_outranked a b ≡ false → is_outranked b c ≡ false → is_outranked a c ≡ false
not_below a b c h k =
    then_not_less (strength a.level) (strength b.level) (strength c.level) _ _ (is_weaker a.attachment c.attachment)
    (not_weaker a.attachment b.attachment c.attachment) h k

pub declaration_order : IsOrder gives_way
declaration_order = record { less = λ a b c. below a.rank b.rank c.rank; not_less = λ a b c. not_below a.rank b.rank c.rank }
