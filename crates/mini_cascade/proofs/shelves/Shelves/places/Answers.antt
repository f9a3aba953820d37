use Rattle.std.proofs.Common.{◌≡◌, ◌∙◌, ◌||◌, Bool, List, ℕ, nat_eq, codes, encode_utf8_all, false, option_copied, option_map, ap, sym}
use Rattle.std.specs.List.{list_any}
use Rattle.std.specs.Option.{option_map_or}
use Rattle.selector_match.specs.Attributes.{parts}
use Rattle.selector_match.proofs.TextLaws.{class-characters, id-characters}
use Rattle.node_arena.specs.Nodes.{attr_of, name_of}
use Rattle.mini_cascade.specs.Machinery.Shelves.{is_filed, is_in_slot}
use Rattle.mini_cascade.specs.RuleTables.{Slot, Id, Class, Name}
use Rattle.mini_cascade.proofs.FilingLaws.{found_name, found_words}
use Rattle.mini_cascade.proofs.Members.{or_four}
use Rattle.mini_cascade.proofs.SlotLaws.{any_slot}
use Rattle.mini_cascade.proofs.shelves.Shelves.places.Goals as goal

pub returns-clause-filed : goal.returns-clause-filed
returns-clause-filed c place =
    let shelves = c.args.self.now in
    let tree = c.args.arena.now.tree in
    let key = c.args.key in
    let there : Slot → Bool = λ slot. is_in_slot shelves slot place in
    let by_name : List ℕ → Bool = λ bytes. is_filed shelves.names bytes place in
    let by_id : List ℕ → Bool = λ bytes. is_filed shelves.ids bytes place in
    let by_word : List ℕ → Bool = λ bytes. is_filed shelves.classes bytes place in
    let name = name_of tree key in
    let id = attr_of tree key (codes "id") in
    let class = attr_of tree key (codes "class") in
    let named : option_map_or by_name (option_copied c.name.result) false ≡ option_map_or (λ one. there (Name one)) name false =
    ap (λ found. option_map_or by_name found false) c.name.ensures.bytes ∙ found_name by_name name in
    let with_id : option_map_or by_id (option_copied c.attr.result) false ≡ option_map_or (λ one. there (Id one)) id false =
    ap (λ found. option_map_or by_id found false) (c.attr.ensures.bytes ∙ ap (λ one. option_map encode_utf8_all (attr_of tree key one)) id-characters) ∙ found_name by_id id in
    let worded : option_map_or (λ bytes. list_any by_word (parts bytes)) (option_copied c.attr-2.result) false ≡ option_map_or (λ text. list_any (λ word. there (Class word)) (parts text)) class false =
    ap (λ found. option_map_or (λ bytes. list_any by_word (parts bytes)) found false) (c.attr-2.ensures.bytes ∙ ap (λ one. option_map encode_utf8_all (attr_of tree key one)) class-characters) ∙ found_words by_word class in
    let words = option_map_or (λ bytes. list_any by_word (parts bytes)) (option_copied c.attr-2.result) false in
    let ids = option_map_or by_id (option_copied c.attr.result) false in
    let names = option_map_or by_name (option_copied c.name.result) false in
    c.put_in_order.ensures.members (nat_eq place)
    ∙ c.in_ok-add_words.ensures.ok place
    ∙ ap (λ b. b || words) (c.in_ok-add_named-2.ensures.ok place)
    ∙ ap (λ b. (b || ids) || words) (c.in_ok-add_named.ensures.ok place)
    ∙ ap (λ b. ((b || names) || ids) || words) (ap (list_any (nat_eq place)) (c.in_ok-places.ensures.items ∙ c.as_slice.ensures.items))
    ∙ or_four (list_any (nat_eq place) shelves.others) names ids words _ _ _ named with_id worded
    ∙ sym (any_slot there name id class)
