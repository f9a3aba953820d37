use Rattle.std.proofs.Common.{ap}
use Rattle.std.specs.Str.{chars}
use Rattle.css_definitions.specs.SheetText.{filtered}
use Rattle.reading.specs.Reading.{without_mark}
use Rattle.css_tokens.proofs.Filtering.{filtered_more, filtered_end, filtered-filtered}
use Rattle.css_tokens.proofs.sheet_text.prepare_text.Goals as goal

pub characters-init : goal.characters-init
characters-init c = record { utf8 = c.without_mark-rest.ensures.text; all_is = rw c.new-out.ensures.empty (ap filtered c.without_mark-rest.ensures.gives) }

pub characters-preserved : goal.characters-preserved
characters-preserved c = record { utf8 = c.in-Some.ensures.text; all_is = filtered_more _ _ _ _ c.in-Some.c _ c.characters.invariant.all_is c.in-Some.ensures.chars c.in_ok-push_filtered.ensures.ok }

pub returns-clause-characters : goal.returns-clause-characters
returns-clause-characters c = filtered_end _ _ _ c.characters.invariant.all_is c.in_default.ensures.chars

pub returns-clause-prepared : goal.returns-clause-prepared
returns-clause-prepared c = rw (filtered_end _ _ _ c.characters.invariant.all_is c.in_default.ensures.chars) (filtered-filtered (without_mark (chars c.args.text.now)))
