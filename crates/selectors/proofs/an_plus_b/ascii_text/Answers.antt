use Rattle.std.proofs.lemmas.Str.{IsUtf8-from_ascii}
use Rattle.selectors.proofs.Ascii.{ascii_text}
use Rattle.selectors.proofs.an_plus_b.ascii_text.Goals as goal

pub returns-in-Ok : goal.returns-in-Ok
returns-in-Ok c =
    let same = c.in-Ok.ensures.cases in
    let read = ascii_text c.args.bytes.now c.in-Ok.text.now c.if-not-is_ascii.ensures.cases same.0 in
    record { text = (read.0, read.1, rw same.0 same.1) }

pub returns-in-Err : goal.returns-in-Err
returns-in-Err c = absurd (c.in-Err.ensures.cases.0 (IsUtf8-from_ascii c.args.bytes.now c.if-not-is_ascii.ensures.cases))
