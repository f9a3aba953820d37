use Rattle.std.proofs.Common.{◌≡◌, ap, subst, sym, ◌⊎◌}
use Rattle.std.specs.Prelude.{Ok, Err}
use Rattle.std.specs.Str.{chars}
use Rattle.marker_cli.specs.declared.status.Status.{Status}
use Rattle.marker_cli.specs.declared.status.Status.TheVariants.{Memory}
use Rattle.marker_cli.specs.Ends.{IsCaused, IsStop}
use Rattle.marker_cli.specs.Names.{TellsOfLine}
use Rattle.marker_cli.specs.Parts.{part_of}
use Rattle.marker_cli.proofs.FaultLemmas.{no_part, part_caused, part_file, part_stops}
use Rattle.marker_cli.proofs.TreeLemmas.{document_element}
use Rattle.marker_cli.proofs.read_texts.read_part.Goals as goal

pub returns-in-Ok : goal.returns-in-Ok
returns-in-Ok c = record {
  tree = λ reading reads. ap (part_of c.args.place) (c.one_document_reading.ensures (chars c.args.text.now) reading (Ok _) reads c.in-Ok.ensures.found);
  element = document_element (chars c.args.text.now) _ c.in-Ok.ensures.found;
  cause = tt;
  file = λ tells. tells;
  stops = tt;
}

pub returns-in-Err : goal.returns-in-Err
returns-in-Err c =
    let place = c.args.place in
    let fault = c.in-Err.fault in
    let is = sym c.part_fault.ensures in
    record {
      tree = λ reading reads. subst (λ (s : Status). (s ≡ Memory) ⊎ (part_of place reading ≡ Err s)) is
          (no_part place (chars c.args.text.now) reading fault (λ there fails. c.one_document_reading.ensures (chars c.args.text.now) reading (Err there) reads fails)
          c.in-Err.ensures.fault);
      element = tt;
      cause = subst (λ s. IsCaused ⊥ ⊥ ⊥ ⊥ s) is (part_caused place fault);
      file = λ tells. part_file place fault (subst TellsOfLine c.part_fault.ensures tells);
      stops = subst IsStop is (part_stops place fault);
    }
