use Rattle.std.proofs.Common.{refl, sym, ◌∙◌}
use Rattle.std.specs.Str.{chars}
use Rattle.std.proofs.lemmas.Str.{encodes-chars}
use Rattle.node_arena.proofs.NodeLaws.{same-test}
use Rattle.mini_cascade.proofs.Ascii.{chars-ascii}
use Rattle.mini_cascade.proofs.texts.is_exactly.Goals as goal

pub returns : goal.returns
returns c =
    let text = c.args.text.now in
    let word = c.args.word.now in
    let plain = chars-ascii word c.requires.ascii in
    record { word = c.eq.ensures ∙ same-test text word (chars text) word refl (sym (encodes-chars text c.utf8.text)) plain (rw plain at (sym (encodes-chars word c.utf8.word))) }
