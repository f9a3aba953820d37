use Rattle.std.proofs.Common.{◌≡◌, ◌∙◌, ℕ, nat_eq, List, Option, ap, arith, sym, subst}
use Rattle.std.specs.FinMap.{get}
use Rattle.std.specs.List.{IsDistinct}
use Rattle.box_eval.specs.declared.inputs.Start.{Start}
use Rattle.box_eval.specs.Starts.{document_starts}
use Rattle.counter_index.specs.Exchanges.{HasRoomFor, IsWayBack, after_exchange, keys_in}
use Rattle.started_walk.proofs.BringLemmas.{keeps-same, keys-length, told-same, touched-same, written}
use Rattle.started_walk.proofs.bring.bring_starts.Goals as goal

pub returns-clause-brought : goal.returns-clause-brought
returns-clause-brought c =
    let tree = c.args.arena.now.tree in
    let was = c.args.index.now in
    let now = c.exchange_starts.new.index in
    let starts = c.in_ok-starts.starts in
    let told = c.in_ok-starts.ensures.told in
    let after = c.exchange_starts.new.starts in
    let same = λ (key : ℕ). ap (λ held. get held key) (sym c.exchange_starts.ensures.deeds) in
    let keys : keys_in after ≡ keys_in starts.items = c.in_ok-other.ensures.keys ∙ ap keys_in c.as_mut_slice.ensures.value in
    let put = written starts.len after starts.items (omega (arith, keys-length after starts.items keys, starts.ok.0)) in
    record {
      keys = told.keys;
      touched = touched-same c.args.former.now c.args.moved.now was now same told.keys told.touched;
      starts =
          λ table style keeps key.
          c.in_ok-other.ensures.starts key
          ∙ ap (λ entries. after_exchange entries (get was.starts.held) key)
          (c.as_mut_slice.ensures.value
          ∙ told.are table style (keeps-same was now same table style tree keeps)
          ∙ told-same was now same (document_starts table style tree) told.keys);
      once = subst (IsDistinct nat_eq) (sym (ap keys_in put ∙ keys)) told.once;
      back = subst (λ (entries : List (ℕ × Option (List Start))). IsWayBack entries (get now.starts.held) (get was.starts.held)) (sym put) c.in_ok-other.ensures.back;
      room = subst (λ (entries : List (ℕ × Option (List Start))). HasRoomFor now.starts.room entries) (sym put) c.in_ok-other.ensures.room;
    }
