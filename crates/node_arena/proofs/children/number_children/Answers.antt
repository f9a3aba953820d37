use Rattle.std.proofs.Common.{◌≡◌, ◌<◌, length, get_or, slice_get, sym, ap, ◌∙◌, arith, rules}
use Rattle.std.proofs.lemmas.Option.{slice_get-get_or}
use Rattle.node_arena.specs.Entries.{links_in}
use Rattle.node_arena.specs.Children.{listed}
use Rattle.node_arena.proofs.ChildLaws.{listed-places, numbers-none, numbers-more, numbers-all}
use Rattle.node_arena.proofs.children.number_children.Goals as goal
use Rattle.node_arena.proofs.children.number_children.Goals.{in-Some, in_default}

pub loop-index-init : goal.loop-index-init
loop-index-init c =
    let at = links_in c.args.nodes.now in
    record {
      numbers = numbers-none at at at c.args.parent (listed at c.args.parent) c.args.from;
      listed = search rules;
      rooms = search rules;
      len = search rules;
    }

pub loop-index-preserved : goal.loop-index-preserved
loop-index-preserved c =
    let at = links_in c.args.nodes.now in
    let children = listed at c.args.parent in
    let shown : c.child_at.result ≡ slice_get children c.loop-index.index = c.child_at.ensures ∙ ap (λ ks. slice_get ks c.loop-index.index) c.loop-index.invariant.listed in
    elim c.match-child_at.branch [
      | in-Some w ↦
          let places = w.place.ensures.places in
          rw w.nodes-is (record {
            numbers = numbers-more at (links_in c.loop-index.nodes) (links_in w.place.new.nodes) c.args.parent children c.args.from c.loop-index.index w.in-Some.child c.requires.once c.loop-index.invariant.numbers c.loop-index.auto.index (sym shown ∙ w.in-Some.is) places;
            listed = listed-places at (links_in c.loop-index.nodes) (links_in w.place.new.nodes) c.args.parent w.in-Some.child c.loop-index.index c.args.parent places ∙ c.loop-index.invariant.listed;
            rooms = λ key. w.place.ensures.rooms key ∙ c.loop-index.invariant.rooms key;
            len = w.place.ensures.len ∙ c.loop-index.invariant.len;
          })
      | in_default w ↦
          let within : c.loop-index.index < length children = omega (arith, c.loop-index-test.true, c.count-index-end.ensures) in
          absurd (w.in_default.not-Some (get_or children c.loop-index.index 0) (shown ∙ slice_get-get_or children c.loop-index.index 0 within))
    ]

pub returns-clause-numbers : goal.returns-clause-numbers
returns-clause-numbers c =
    let at = links_in c.args.nodes.now in
    numbers-all at (links_in c.loop-index.nodes) at c.args.parent (listed at c.args.parent) c.args.from c.loop-index.index (omega (arith, c.loop-index-test.false, c.count-index-end.ensures)) c.loop-index.invariant.numbers
