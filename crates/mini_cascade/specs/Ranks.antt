-- What decides between the declarations of one property, before the order in which they appear.
use Rattle.std.specs.Prelude.{ℕ, Bool, true, false, ◌&&◌, ◌||◌, ◌==◌, nat_lt}
use Rattle.mini_cascade.specs.declared.rank.Attachment.{Attachment}
use Rattle.mini_cascade.specs.declared.rank.Attachment.TheVariants.{Rule, Direct}
use Rattle.mini_cascade.specs.declared.rank.Level.{Level}
use Rattle.mini_cascade.specs.declared.rank.Level.TheVariants as level
use Rattle.mini_cascade.specs.declared.rank.Origin.{Origin}
use Rattle.mini_cascade.specs.declared.rank.Origin.TheVariants as origin
use Rattle.mini_cascade.specs.declared.rank.Rank.{Rank}
use Rattle.selectors.specs.Specificity.{is_less}

-- CSS Cascade 5, 6.1 and 6.3: normal declarations of the user agent, then normal ones of the author, then
-- important ones. Our own: nothing is important in the sheet of the user agent.
abbrev pub cascade_level : Origin → Bool → Level
cascade_level origin.UserAgent important = level.UserAgent
cascade_level origin.Author false = level.Author
cascade_level origin.Author true = level.Important

abbrev pub strength : Level → ℕ
strength level.UserAgent = 0
strength level.Author = 1
strength level.Important = 2

-- CSS Cascade 5, 6.1 "Element-Attached Styles": what is attached to the element itself is above what rules say of it;
-- and then 6.1 "Specificity": of rules the more specific is above
abbrev pub is_weaker : Attachment → Attachment → Bool
is_weaker (Rule first) (Rule second) = is_less first second
is_weaker (Rule first) Direct = true
is_weaker Direct second = false

-- and before both 6.1 "Origin and Importance"
abbrev pub is_outranked : Rank → Rank → Bool
is_outranked a b = nat_lt (strength a.level) (strength b.level) || (strength a.level == strength b.level && is_weaker a.attachment b.attachment)
