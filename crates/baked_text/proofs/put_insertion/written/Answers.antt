use Rattle.baked_text.proofs.InsertionLemmas.{replaced_bytes}
use Rattle.baked_text.proofs.put_insertion.written.Goals as goal

pub returns-else-c-eq13 : goal.returns-else-c-eq13
returns-else-c-eq13 c = replaced_bytes c.args.c c.if-c-eq38.false c.if-c-eq60.false c.if-c-eq62.false c.if-c-eq13.false c.requires
