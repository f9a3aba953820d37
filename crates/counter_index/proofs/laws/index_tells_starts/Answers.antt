use Rattle.counter_index.proofs.IndexLemmas.{asked_are_own, asked_starts_are_kept, index_keeps_reversed, index_keeps_what_is_asked, index_keeps_what_is_done, other_starts_are_zero, scopes_tell_starts}
use Rattle.counter_index.proofs.laws.index_tells_starts.Goals as goal

pub returns : goal.returns
returns c = record {
  counting = index_keeps_reversed;
  scopes = scopes_tell_starts;
  all_asked = index_keeps_what_is_asked;
  done = index_keeps_what_is_done;
  own = asked_are_own;
  asked = asked_starts_are_kept;
  others = other_starts_are_zero;
}
