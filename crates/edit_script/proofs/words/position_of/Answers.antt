use Rattle.std.proofs.Common.{arith}
use Rattle.edit_script.proofs.WordLaws.{position-is, position-was}
use Rattle.edit_script.proofs.words.position_of.Goals as goal

pub returns-in-Some-clause-found : goal.returns-in-Some-clause-found
returns-in-Some-clause-found c = record {
  written = position-is c.args.text.now c.in-Some.number (omega arith) c.in-Some.ensures.found;
  sound = omega arith;
}

pub returns-in-None-clause-none : goal.returns-in-None-clause-none
returns-in-None-clause-none c number is =
    let sound = is.sound in
    c.in-None.ensures.none number (omega arith) (position-was c.args.text.now number c.utf8.text is.sound is.written)
