use Rattle.std.proofs.Common.{◌≡◌, ◌∙◌, ◌&&◌, ◌||◌, nat_eq, ap, subst, sym}
use Rattle.std.proofs.lemmas.Result.{on_ok_weaker}
use Rattle.mini_cascade.specs.Machinery.Shelves.{is_in_slot}
use Rattle.mini_cascade.specs.RuleTables.{Id, Class, Name, Other, is_same_slot, slot_of}
use Rattle.mini_cascade.proofs.FilingLaws.{IsShelved, class_slot, files_class, files_id, files_name, files_other, id_slot, name_slot, other_slot}
use Rattle.mini_cascade.proofs.shelves.Shelves.file_under.Goals as goal

pub returns-in-Id : goal.returns-in-Id
returns-in-Id c =
    let old = c.args.self.now in
    let place = c.args.place in
    let name = c.in-Id.name in
    let under : slot_of c.args.under.now ≡ Id name = ap slot_of c.in-Id.is ∙ id_slot name in
    let bytes = c.as_bytes.ensures.value ∙ c.as_str.ensures.bytes in
    record {
      ok = on_ok_weaker c.file.result (λ files slot one.
          files_id old place name c.file.new.self (subst (IsShelved old place old.ids c.file.new.self) bytes files) slot one
          ∙ ap (λ own. is_in_slot old slot one || (is_same_slot own slot && nat_eq one place)) (sym under)) c.file.ensures.ok;
    }

pub returns-in-Class : goal.returns-in-Class
returns-in-Class c =
    let old = c.args.self.now in
    let place = c.args.place in
    let name = c.in-Class.name in
    let under : slot_of c.args.under.now ≡ Class name = ap slot_of c.in-Class.is ∙ class_slot name in
    let bytes = c.as_bytes-in-Class.ensures.value ∙ c.as_str-in-Class.ensures.bytes in
    record {
      ok = on_ok_weaker c.file-in-Class.result (λ files slot one.
          files_class old place name c.file-in-Class.new.self (subst (IsShelved old place old.classes c.file-in-Class.new.self) bytes files) slot one
          ∙ ap (λ own. is_in_slot old slot one || (is_same_slot own slot && nat_eq one place)) (sym under)) c.file-in-Class.ensures.ok;
    }

pub returns-in-Element : goal.returns-in-Element
returns-in-Element c =
    let old = c.args.self.now in
    let place = c.args.place in
    let name = c.in-Element.name in
    let under : slot_of c.args.under.now ≡ Name name = ap slot_of c.in-Element.is ∙ name_slot name in
    let bytes = c.as_bytes-in-Element.ensures.value ∙ c.as_str-in-Element.ensures.bytes in
    record {
      ok = on_ok_weaker c.file-in-Element.result (λ files slot one.
          files_name old place name c.file-in-Element.new.self (subst (IsShelved old place old.names c.file-in-Element.new.self) bytes files) slot one
          ∙ ap (λ own. is_in_slot old slot one || (is_same_slot own slot && nat_eq one place)) (sym under)) c.file-in-Element.ensures.ok;
    }

pub returns-in_default : goal.returns-in_default
returns-in_default c =
    let old = c.args.self.now in
    let place = c.args.place in
    let under : slot_of c.args.under.now ≡ Other = other_slot c.args.under.now c.in_default.not-Id c.in_default.not-Class c.in_default.not-Element in
    record {
      ok = on_ok_weaker c.push.result (λ pushed slot one.
          files_other old place c.push.new.self pushed slot one ∙ ap (λ own. is_in_slot old slot one || (is_same_slot own slot && nat_eq one place)) (sym under)) c.push.ensures.ok;
    }
