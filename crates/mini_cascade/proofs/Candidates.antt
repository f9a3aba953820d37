-- Declarations that apply, as the code holds them.
use Rattle.std.proofs.Common.{List, map}
use Rattle.mini_cascade.specs.Declarations.{Applied, ranked}
use Rattle.mini_cascade.specs.declared.candidate.Candidate.{Candidate}

abbrev pub applied_of : Candidate → Applied
applied_of candidate = ranked candidate.rank candidate.what.now

abbrev pub applied_in : List Candidate → List Applied
applied_in candidates = map applied_of candidates
