use Rattle.std.proofs.Common.{ℕ, Result, rules}
use Rattle.std.specs.Prelude.{Ok, Err, IfOk}
use Rattle.ports.proofs.GrownLemmas.{on_err}
use Rattle.ports.proofs.file_shelf.FileShelfShelf.TheImpl.Goals as goal

-- a shelf that tells nothing claims nothing of the bytes
on_any : {E : Type 0} (r : Result ℕ E) → IfOk r (λ _. Unit {0})
on_any (Ok count) = tt
on_any (Err e) = tt

pub read_at-tells : goal.read_at-tells
read_at-tells g c =
    record {
      bound = search rules;
      bytes = on_any c.result;
      failed = on_err c.result (λ _. tt);
      held = search rules;
      honest = search rules;
      taken = search rules;
      cause = search rules;
    }
