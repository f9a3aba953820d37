-- Runs that are made up.
use Rattle.std.proofs.Common.{◌≡◌, ℕ, zero, suc, ◌<◌, ◌+◌, List, [], ◌∷◌, Result, arith, drop, get_or, length, refl, ◌∙◌, ap, add-one}
use Rattle.std.specs.Prelude.{Ok, Err}
use Rattle.std.proofs.Math.Seq.{drop-cons}
use Rattle.document_walk.specs.Elements.{element_count}
use Rattle.edit_script.specs.Draws.{state_after}
use Rattle.edit_script.specs.Generator.{document, draws_of, edits, edits_of, kind_drawn, section_count, sheet}
use Rattle.forest.specs.Forest.{Forest}
use Rattle.generated_texts.specs.Lines.{document_lines}
use Rattle.marker_engine.specs.Census.{box_count, saturated}
use Rattle.marker_engine.specs.Edited.{edited}
use Rattle.marker_engine.specs.Engines.{Source}
use Rattle.node_arena.specs.Document.{HasElementRoot}
use Rattle.node_arena.specs.declared.place_fault.PlaceFault.{PlaceFault}
use Rattle.plain_types.specs.declared.edit.Edit.{Edit}
use Rattle.plain_types.specs.declared.node.Node.{Node}
use Rattle.marker_cli.specs.declared.generated.Tally.{Tally}
use Rattle.marker_cli.specs.Generated.{Outcome, after_edits, generated, number_lines, numbers, unedited, with_answer}
use Rattle.marker_cli.specs.Machinery.Tallies.{tallied}

-- the next edit
pub edits_next : (edits : List Edit) (place : ℕ) (edit : Edit) (now : Outcome) → place < length edits → edit ≡ get_or edits place edit
    → after_edits (drop place edits) now ≡ after_edits (drop (place + 1) edits) (with_answer now (edited now.source edit))
edits_next edits place edit now below is = rw (add-one, drop-cons edits place edit below, ← is) refl

-- the root of the document is an element
pub generated_element : (seed count : ℕ) (tree : Forest Node) → tree ≡ document seed count → HasElementRoot tree
unfolding document
generated_element seed count tree is = rw is tt

-- all edits, from the start
pub run_is : (seed count : ℕ) (start : Source) (edits : List Edit) → start.tree ≡ document seed count → start.sheet ≡ sheet → edits ≡ edits_of seed count
    → after_edits edits (unedited start) ≡ generated seed count
run_is seed count start edits tree_is sheet_is edits_is = λ i. after_edits (edits_is i) (unedited (record { tree = tree_is i; sheet = sheet_is i }))

-- the lines about them
pub numbers_are : (source : Source) (elements boxes lines : ℕ) (tally : Tally) (outcome : Outcome) → elements ≡ saturated (element_count source.tree)
    → boxes ≡ saturated (box_count source.sheet source.tree) → lines ≡ saturated (length (document_lines source.sheet source.tree)) → tallied source tally ≡ outcome
    → number_lines elements boxes tally.accepted tally.refused lines ≡ numbers outcome
numbers_are source elements boxes lines tally outcome first second third same =
    (λ i. number_lines (first i) (second i) tally.accepted tally.refused (third i)) ∙ ap numbers same

-- each edit is counted once
abbrev sum_of : Outcome → ℕ
sum_of outcome = outcome.accepted + outcome.refused

one_counted : (outcome : Outcome) (answer : Result Source PlaceFault) → sum_of (with_answer outcome answer) ≡ sum_of outcome + 1
one_counted outcome (Ok source) = omega arith
one_counted outcome (Err fault) = omega arith

counted_sum : (script : List Edit) (outcome : Outcome) → sum_of (after_edits script outcome) ≡ sum_of outcome + length script
counted_sum [] outcome = omega arith
counted_sum (edit ∷ script) outcome =
    let first = one_counted outcome (edited outcome.source edit) in
    let later = counted_sum script (with_answer outcome (edited outcome.source edit)) in
    omega (arith, first, later)

edits_long : (sections count state : ℕ) → length (edits sections count state) ≡ count
unfolding edits
edits_long sections zero state = refl
edits_long sections (suc left) state = ap suc (edits_long sections left (state_after (draws_of (kind_drawn state)) state))

pub all_counted : (seed count : ℕ) → (generated seed count).accepted + (generated seed count).refused ≡ count
unfolding edits_of
all_counted seed count =
    let all = counted_sum (edits_of seed count) (unedited (record { tree = document seed count; sheet = sheet })) in
    let long = edits_long (section_count count) count (state_after (section_count count) seed) in
    omega (arith, all, long)
