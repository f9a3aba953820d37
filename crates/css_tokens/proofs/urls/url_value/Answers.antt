use Rattle.std.specs.Str.{chars}
use Rattle.reading.proofs.Runs.{Goes-start, Goes-more, Goes-read}
use Rattle.css_tokens.proofs.Shortening.{url_shorter}
use Rattle.css_tokens.specs.Urls.{url_character_at}
use Rattle.css_tokens.proofs.urls.url_value.Goals as goal

pub pieces-init : goal.pieces-init
pieces-init c = record { utf8 = c.utf8.text; goes = rw c.new-value.ensures.empty (Goes-start _ (chars c.args.text.now)) }

pub pieces-smaller : goal.pieces-smaller
pieces-smaller c = url_shorter (chars c.pieces.rest.now) _ c.in-Some.ensures.gives

pub pieces-preserved : goal.pieces-preserved
pieces-preserved c = record { utf8 = c.in-Some.ensures.text; goes = rw c.in_ok-push.ensures.ok (Goes-more _ _ _ _ c.in-Some.c _ c.pieces.invariant.goes c.in-Some.ensures.gives) }

pub returns-clause-gives : goal.returns-clause-gives
returns-clause-gives c = rw c.in_ok-new.ensures.characters (Goes-read url_character_at url_shorter _ _ _ c.pieces.invariant.goes c.in_default.ensures.gives)
