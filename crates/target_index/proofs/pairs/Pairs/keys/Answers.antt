use Rattle.std.proofs.Common.{◌∙◌, [], ap, sym}
use Rattle.std.specs.List.{IsDistinct}
use Rattle.std.specs.Option.{option_map, option_map_or}
use Rattle.std.specs.Str.{chars}
use Rattle.std.specs.String.{string_bytes}
use Rattle.std.proofs.lemmas.Str.{IsUtf8-string_bytes}
use Rattle.target_index.specs.Pairs.{Paired, keys_of}
use Rattle.target_index.specs.Views.{paired}
use Rattle.target_index.proofs.ViewLemmas.{seen}
use Rattle.target_index.proofs.pairs.Pairs.keys.Goals as goal

pub returns-in-Some-clause-keys : goal.returns-in-Some-clause-keys
returns-in-Some-clause-keys c =
    c.as_slice.ensures.keys
    ∙ ap (λ found. option_map_or (λ (p : Paired). p.keys) (option_map paired found) []) (c.in-Some.ensures.value)
    ∙ sym (ap (λ found. option_map_or (λ (p : Paired). p.keys) found []) (seen string_bytes IsUtf8-string_bytes paired c.args.id.now c.utf8.id c.self.inside.by_id.entries))
    ∙ ap (λ pairs. keys_of pairs (chars c.args.id.now)) c.self.view_is

pub returns-in-None-clause-keys : goal.returns-in-None-clause-keys
returns-in-None-clause-keys c =
    ap (λ found. option_map_or (λ (p : Paired). p.keys) (option_map paired found) []) (c.in-None.ensures.value)
    ∙ sym (ap (λ found. option_map_or (λ (p : Paired). p.keys) found []) (seen string_bytes IsUtf8-string_bytes paired c.args.id.now c.utf8.id c.self.inside.by_id.entries))
    ∙ ap (λ pairs. keys_of pairs (chars c.args.id.now)) c.self.view_is

pub returns-in-None-clause-once : goal.returns-in-None-clause-once
unfolding IsDistinct
returns-in-None-clause-once c = tt
