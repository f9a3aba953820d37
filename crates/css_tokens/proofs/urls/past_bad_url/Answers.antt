use Rattle.std.proofs.Common.{ap, ◌∙◌}
use Rattle.std.specs.Str.{chars}
use Rattle.reading.proofs.Runs.{Skips-start, Skips-more, Skips-read}
use Rattle.css_tokens.proofs.Shortening.{bad_shorter}
use Rattle.reading.specs.Reading.{past_one}
use Rattle.css_tokens.specs.Urls.{bad_url_character_at}
use Rattle.css_tokens.proofs.urls.past_bad_url.Goals as goal

pub pieces-init : goal.pieces-init
pieces-init c = record { utf8 = c.utf8.text; skips = Skips-start _ _ }

pub pieces-smaller : goal.pieces-smaller
pieces-smaller c = bad_shorter (chars c.pieces.rest.now) _ c.in-Some.ensures.gives

pub pieces-preserved : goal.pieces-preserved
pieces-preserved c = record { utf8 = c.in-Some.ensures.text; skips = Skips-more _ _ _ _ _ c.pieces.invariant.skips c.in-Some.ensures.gives }

pub returns-clause-gives : goal.returns-clause-gives
returns-clause-gives c = ap past_one (Skips-read bad_url_character_at bad_shorter _ _ c.pieces.invariant.skips c.in_default.ensures.gives) ∙ c.past_one.ensures.gives
