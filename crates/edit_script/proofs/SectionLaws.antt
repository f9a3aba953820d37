-- The sections of a document that is made up, one by one.
use Rattle.std.proofs.Common.{◌≡◌, ℕ, suc, ◌+◌, ◌-◌, ◌<◌, ◌≤◌, List, [], ◌∷◌, ◌++◌, codes, refl, sym, ap, ◌∙◌, arith}
use Rattle.std.specs.Fmt.{decimal}
use Rattle.forest.specs.Forest.{Forest, Empty, Tree}
use Rattle.plain_types.proofs.ForestLemmas.{rows_same}
use Rattle.plain_types.specs.Building.{Building}
use Rattle.plain_types.specs.Rows.{rows}
use Rattle.plain_types.specs.declared.attr.Attr.{Attr}
use Rattle.plain_types.specs.declared.node.Node.{Node}
use Rattle.plain_types.specs.declared.node.Node.TheVariants.{Element, Text}
use Rattle.edit_script.specs.Draws.{drawn, next_state, state_after}
use Rattle.edit_script.specs.Generator.{attr, document_of, heading, item, item_list, link, section, sections}
use Rattle.edit_script.specs.Machinery.Putting.{with_trees}
use Rattle.edit_script.proofs.PuttingLaws.{put-inside, put-none, put-then, with_start}

-- a section is begun, filled and ended
pub section-put : (before begun one two three ended : Building) (number target : ℕ) (name : List ℕ) (attrs : List Attr) (id : List ℕ)
    → name ≡ codes "section" → attrs ≡ attr (codes "id") id ∷ [] → id ≡ codes "s" ++ decimal number → begun ≡ with_start before name attrs
    → one ≡ with_trees begun (heading number Empty) → two ≡ with_trees one (item_list Empty) → three ≡ with_trees two (link target Empty)
    → ended ≡ record { rows = three.rows; inside = three.inside - 1 } → ended ≡ with_trees before (section number target Empty)
unfolding section
section-put before begun one two three ended number target name attrs id named with_id is begins first second third ends =
    let lists : three ≡ with_trees one (item_list (link target Empty)) = put-then one two three (Element (codes "ol") []) (item (item (item Empty))) (link target Empty) second third in
    let all : three ≡ with_trees begun (heading number (item_list (link target Empty))) = put-then begun one three (Element (codes "h2") []) (Tree (Text (decimal number)) Empty Empty) (item_list (link target Empty)) first lists in
    let attributes : attrs ≡ attr (codes "id") (codes "s" ++ decimal number) ∷ [] = with_id ∙ ap (λ (value : List ℕ). attr (codes "id") value ∷ []) is in
    let begins_section : begun ≡ with_start before (codes "section") (attr (codes "id") (codes "s" ++ decimal number) ∷ []) =
    begins ∙ ap (λ (n : List ℕ). with_start before n attrs) named ∙ ap (λ (list : List Attr). with_start before (codes "section") list) attributes in
    put-inside before begun three ended (codes "section") (attr (codes "id") (codes "s" ++ decimal number) ∷ []) (heading number (item_list (link target Empty))) begins_section all ends

pub section_drawn : (before one : Building) (number target other : ℕ) → one ≡ with_trees before (section number target Empty) → target ≡ other
    → one ≡ with_trees before (section number other Empty)
section_drawn before one number target other put is = put ∙ ap (λ (t : ℕ). with_trees before (section number t Empty)) is

left_over : (count number : ℕ) → number < count → count - number ≡ suc (count - (number + 1))
left_over count number below = omega arith

put_section_first : (before one : Building) (number target : ℕ) (after : Forest Node) → one ≡ with_trees before (section number target Empty)
    → with_trees one after ≡ with_trees before (section number target after)
unfolding section
put_section_first before one number target after first =
    put-then before one (with_trees one after) (Element (codes "section") (attr (codes "id") (codes "s" ++ decimal number) ∷ [])) (heading number (item_list (link target Empty))) after first refl

-- one section more
pub sections-more : (before one : Building) (count number state next : ℕ) → number < count → next ≡ next_state state
    → one ≡ with_trees before (section number (drawn count next) Empty)
    → with_trees one (sections count (count - (number + 1)) (number + 1) next) ≡ with_trees before (sections count (count - number) number state)
unfolding sections
sections-more before one count number state next below is first =
    put_section_first before one number (drawn count next) (sections count (count - (number + 1)) (number + 1) next) first
    ∙ ap (λ (s : ℕ). with_trees before (section number (drawn count s) (sections count (count - (number + 1)) (number + 1) s))) is
    ∙ ap (λ (n : ℕ). with_trees before (sections count n number state)) (sym (left_over count number below))

pub draws-more : (count number state next : ℕ) → number < count → next ≡ next_state state → state_after (count - (number + 1)) next ≡ state_after (count - number) state
unfolding state_after
draws-more count number state next below is =
    ap (state_after (count - (number + 1))) is ∙ ap (λ (n : ℕ). state_after n state) (sym (left_over count number below))

pub sections-end : (building : Building) (count number state : ℕ) → count ≤ number → with_trees building (sections count (count - number) number state) ≡ building
unfolding sections
sections-end building count number state end = rw (none_left count number end) (put-none building)
  where
    none_left : (m n : ℕ) → m ≤ n → m - n ≡ 0
    none_left m n h = omega arith

pub draws-end : (count number state : ℕ) → count ≤ number → state_after (count - number) state ≡ state
unfolding state_after
draws-end count number state end = rw (none_left count number end) refl
  where
    none_left : (m n : ℕ) → m ≤ n → m - n ≡ 0
    none_left m n h = omega arith

-- The document.

pub document-is : (before begun filled ended : Building) (all state : ℕ) (name : List ℕ) (attrs : List Attr) (result : Forest Node)
    → before ≡ record { rows = []; inside = 0 } → name ≡ codes "body" → attrs ≡ [] → begun ≡ with_start before name attrs
    → filled ≡ with_trees begun (sections all all 0 state) → ended ≡ record { rows = filled.rows; inside = filled.inside - 1 } → rows 0 result ≡ ended.rows
    → result ≡ document_of all state
document-is before begun filled ended all state name attrs result empty named none begins fills ends spelled =
    let begins_body : begun ≡ with_start before (codes "body") [] =
    begins ∙ ap (λ (n : List ℕ). with_start before n attrs) named ∙ ap (λ (list : List Attr). with_start before (codes "body") list) none in
    let whole : ended ≡ with_trees before (document_of all state) = put-inside before begun filled ended (codes "body") [] (sections all all 0 state) begins_body fills ends in
    let same : ended.rows ≡ rows 0 (document_of all state) = ap (λ (b : Building). b.rows) (whole ∙ ap (λ (b : Building). with_trees b (document_of all state)) empty) in
    rows_same result (document_of all state) (spelled ∙ same)
