use Rattle.std.proofs.Common.{◌≡◌, ◌∷◌, ◌≤◌, take, encode_utf8_all}
use Rattle.std.specs.Fmt.{decimal}
use Rattle.std.specs.List.{flat_map}
use Rattle.ports.specs.Grown.{grown}
use Rattle.dump_text.proofs.put_line.put_path.Given as goal

abbrev pub invariant-loop-position : goal.invariant-loop-position
invariant-loop-position g l = record {
  written : g.O.Sink.out l.out ≡ grown (g.O.Sink.out l.initial.out) (flat_map (λ position. encode_utf8_all (47 ∷ decimal position)) (take l.position-index l.path));
  later : g.O.Sink.faults l.initial.out ≤ g.O.Sink.faults l.out;
}
