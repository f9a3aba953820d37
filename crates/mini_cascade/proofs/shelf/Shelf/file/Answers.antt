use Rattle.std.proofs.Common.{◌≡◌, ◌∙◌, ◌&&◌, ◌||◌, nat_eq, None, ap, subst, sym}
use Rattle.std.specs.Str.{bytes_eq}
use Rattle.std.specs.Vec.{vec_items}
use Rattle.std.proofs.lemmas.Result.{on_ok_weaker}
use Rattle.mini_cascade.specs.Machinery.Shelves.{is_filed}
use Rattle.mini_cascade.proofs.ShelfLaws.{filed_first, filed_there, value_at}
use Rattle.mini_cascade.proofs.shelf.Shelf.file.Goals as goal

pub returns-in-Some : goal.returns-in-Some
returns-in-Some c = record {
  ok = on_ok_weaker c.push.result (λ pushed. filed_there vec_items c.args.self.now.by_name.entries _ c.args.place c.push.new.self c.args.name.now c.in-Some.places.now
      c.in-Some.ensures.value (c.get_mut.follows.holds c.push.new.self).0 pushed) c.push.ensures.ok;
}

pub returns : goal.returns
returns c =
    let key = c.in_ok-from_slice.field-0 in
    let named : vec_items key ≡ c.args.name.now = c.in_ok-from_slice.ensures.items in
    record {
      ok = λ other one.
          filed_first vec_items c.args.self.now.by_name.entries _ c.args.place c.push-2.new.self key
          (subst (λ name. None ≡ value_at vec_items c.args.self.now.by_name.entries name) (sym named) c.in_default.ensures.value)
          (rw c.get_mut.follows.holds-at-none at c.in_ok-insert.ensures.entries)
          (rw c.new-places.ensures.empty at c.in_ok-push.ensures.ok)
          other one
          ∙ ap (λ name. is_filed c.args.self.now other one || (bytes_eq other name && nat_eq one c.args.place)) named;
    }
