-- Where all comes, what was told and what is still told stays all. Throughout, e is an evaluator, n a node, c what is under
-- it, r what is after it, b an open node, bs those above it, and i what is handed.
use Rattle.std.proofs.Common.{◌≡◌, ℕ, Bool, true, false, List, [], ◌∷◌, ◌++◌, refl, sym, ap, ◌∙◌, append_assoc}
use Rattle.std.proofs.lemmas.Bool.{both_ways}
use Rattle.forest.specs.Forest.{Forest, Empty, Tree}
use Rattle.forest.specs.Keys.{Keyed}
use Rattle.merged_walk.specs.Evaluators.{Evaluator, IsSound, past_all, told, told_all}
use Rattle.merged_walk.specs.Merges.{Merge, End, Kept, Turned, Gone, Come, all_come, new_of}
use Rattle.merged_walk.specs.Walks.{Open, new_past, news, news_behind}

module _ {L : Type 0} where
  abbrev pub comes : Merge L → Bool
  comes End = true
  comes (Kept n c r) = false
  comes (Turned was n c r) = false
  comes (Gone n c r) = false
  comes (Come n c r) = true

  all_comes : (g : Forest (Keyed L)) → comes (all_come g) ≡ true
  all_comes Empty = refl
  all_comes (Tree n c r) = refl

  -- where all comes, nothing else does
  pub not_come : (level : Merge L) → comes level ≡ false → level ≡ all_come (new_of level) → ⊥
  not_come level stays h = both_ways (comes level) stays (ap comes h ∙ all_comes (new_of level))

  abbrev after_come : Merge L → Merge L
  after_come (Come n c r) = r
  after_come m = m

  pub come_after : (level : Merge L) (n : Keyed L) (c : Forest (Keyed L)) (r : Merge L) → level ≡ Come n c r → level ≡ all_come (new_of level) → r ≡ all_come (new_of r)
  come_after level n c r is h = ap after_come (sym is ∙ h ∙ ap (λ m. all_come (new_of m)) is)

module _ {L K H : Type 0} (e : Evaluator L K H) where
  -- a node that comes is entered
  pub news_entered : (bs : List (Open L H)) (i : H) (b : Open L H) (c : Forest (Keyed L)) (m : Merge L) → b.handed ≡ i → new_of m ≡ c
      → news e bs i (Come b.node c b.after) ≡ news e (b ∷ bs) (e.within b.node i) m
  news_entered bs i b c m handed is =
      let n = b.node in
      let g = new_of b.after in
      let x = past_all e (e.within n i) c in
      append_assoc (told_all e (e.within n i) c) (told e n i x ++ told_all e (e.past n i x) g) (news_behind e bs (past_all e (e.past n i x) g))
      ∙ ap (λ all. told_all e (e.within n i) c ++ all) (append_assoc (told e n i x) (told_all e (e.past n i x) g) (news_behind e bs (past_all e (e.past n i x) g)))
      ∙ ap (λ j. told_all e (e.within n i) c ++ (told e n j x ++ (told_all e (e.past n j x) g ++ news_behind e bs (past_all e (e.past n j x) g)))) (sym handed)
      ∙ ap (λ c. told_all e (e.within n i) c ++ news_behind e (b ∷ bs) (past_all e (e.within n i) c)) (sym is)

  -- a text that comes is passed
  pub news_passed : IsSound e → (bs : List (Open L H)) (i : H) (n : Keyed L) (r : Merge L) → e.is_element n.label ≡ false → news e bs i (Come n Empty r) ≡ news e bs i r
  news_passed s bs i n r text =
      let y = e.within n i in
      let g = new_of r in
      let none : told e n i y ≡ [] = rw text refl in
      ap (λ t. (t ++ told_all e (e.past n i y) g) ++ news_behind e bs (past_all e (e.past n i y) g)) none
      ∙ ap (λ j. told_all e j g ++ news_behind e bs (past_all e j g)) (s.text n i y text)

  -- an element is left
  pub news_left : (bs : List (Open L H)) (i : H) (b : Open L H) (before : List (ℕ × K)) → e.is_element b.node.label ≡ true
      → (before ++ (b.node.key, e.kept b.node b.handed i) ∷ []) ++ news e bs (new_past e b i) b.after ≡ before ++ news e (b ∷ bs) i End
  news_left bs i b before element =
      let own : told e b.node b.handed i ≡ (b.node.key, e.kept b.node b.handed i) ∷ [] = rw element refl in
      append_assoc before ((b.node.key, e.kept b.node b.handed i) ∷ []) (news e bs (new_past e b i) b.after)
      ∙ ap (λ own. before ++ (own ++ news e bs (new_past e b i) b.after)) (sym own)
