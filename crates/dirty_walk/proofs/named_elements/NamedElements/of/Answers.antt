use Rattle.std.proofs.Common.{◌≡◌, ◌∙◌, Option, subst, sym}
use Rattle.std.specs.Option.{option_map_or}
use Rattle.std.specs.Str.{chars}
use Rattle.forest.specs.Spots.{IsLink}
use Rattle.generated_texts.specs.References.{first_holder}
use Rattle.referring_elements.specs.declared.first_holders.FirstHolders.{FirstHolders}
use Rattle.referring_elements.proofs.FirstHolderLemmas.{first-live}
use Rattle.dirty_walk.proofs.named_elements.NamedElements.of.Goals as goal

pub returns-in-Some : goal.returns-in-Some
returns-in-Some c =
    let named = c.args.self.now in
    let tree = named.arena.now.tree in
    let id = chars c.args.id.now in
    let first : c.of.result ≡ first_holder tree id =
    c.of.ensures.first
    ∙ subst (λ (first : Option FirstHolders). option_map_or (λ (holders : FirstHolders). first_holder holders.arena.now.tree id) first (first_holder tree id) ≡ first_holder tree id) c.in-Some.is (named.found id) in
    record {
      first = first;
      live = subst (IsLink tree) (sym first) (first-live tree c.arena_holds_document.ensures.document.distinct id);
    }
