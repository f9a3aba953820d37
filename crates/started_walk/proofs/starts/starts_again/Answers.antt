use Rattle.std.proofs.Common.{◌∙◌, nat_eq, ap, subst, sym}
use Rattle.std.specs.List.{IsDistinct}
use Rattle.std.proofs.lemmas.Result.{IfOk-weaker}
use Rattle.box_eval.specs.Starts.{document_starts}
use Rattle.counter_index.specs.Exchanges.{keys_in}
use Rattle.counter_index.specs.Touched.{AreTouched}
use Rattle.started_walk.proofs.BringLemmas.{asked-live, told-keys}
use Rattle.started_walk.proofs.starts.starts_again.Goals as goal

pub tell-requires : goal.tell-requires
tell-requires c = record { live = asked-live c.args.arena.now.tree c.args.index.now c.requires.deeds c.as_slice.result.now }

pub returns : goal.returns
returns c =
    let tree = c.args.arena.now.tree in
    let index = c.args.index.now in
    let has = c.requires.deeds in
    let keys = c.as_slice.result.now in
    record {
      told = IfOk-weaker c.tell.result _ _
          (λ starts are. record {
            keys = keys;
            once =
                subst (IsDistinct nat_eq)
                (sym (ap keys_in (are has.table has.style has.keeps) ∙ told-keys (document_starts has.table has.style tree) index keys))
                c.as_slice.ensures.once;
            touched = subst (AreTouched c.args.former.now c.args.moved.now index) (sym c.as_slice.ensures.keys) c.in_ok-keys.ensures.enough;
            are = are;
          })
          c.tell.ensures.starts;
    }
