-- The stops on the way to a place, and those of the place. Throughout, n is a node, c what is under it, r what is after
-- it, and g trees.
use Rattle.std.proofs.Common.{◌≡◌, ◌<◌, ◌+◌, ℕ, suc, true, false, cond, List, [], ◌∷◌, ◌++◌, length, Option, Some, None, is_some, option_map, option_copied, Bor, refl, sym, ap, subst, ◌∙◌, arith, append-nil, append_assoc}
use Rattle.std.specs.Str.{chars}
use Rattle.forest.specs.Forest.{Forest, Empty, Tree, size}
use Rattle.forest.specs.Keys.{Keyed, HasDistinctKeys}
use Rattle.forest.specs.Paths.{key_at, on_path, trees_from}
use Rattle.forest.specs.Spots.{IsLink, IsLive, after_of, child_of, children_of, first_key, keyed, label_of, next_sibling_of, on_link}
use Rattle.forest.proofs.PathLaws.{first-tree, key_at-child, key_at-past}
use Rattle.forest.proofs.SpotLaws.{live-spot, on_next, root_link}
use Rattle.plain_types.specs.declared.node.Node.{Node}
use Rattle.node_arena.specs.Nodes.{name_of, node_name}
use Rattle.node_arena.proofs.KeyAtLaws.{on-link-at}
use Rattle.merged_walk.specs.declared.stop.Stop.{Stop}
use Rattle.merged_walk.specs.declared.stop.Way.TheVariants.{Past}
use Rattle.merged_walk.specs.EditStops.{changed_stops, come_stop, gone_stop, insertion_stops, on_way, relabelling_stops, removal_stops, stop_inside, stops_into}
use Rattle.merged_walk.specs.Stops.{first_element}
use Rattle.merged_walk.proofs.WayLaws.{on_way-step, stops_into-step}
use Rattle.edit_merge.specs.EditMerges.{is_element}

module _ {L : Type 0} where
  no-tree : (g : Forest (Keyed L)) → first_key g ≡ None → g ≡ Empty
  no-tree Empty is = refl
  no-tree (Tree n c r) is = absurd (cc)

  on_way-none : (path : List ℕ) (position : ℕ) (g : Forest (Keyed L)) → on_path path g ≡ Empty → on_way (path ++ position ∷ []) g ≡ on_way path g
  on_way-none [] position Empty is = refl
  on_way-none [] position (Tree m d s) is = absurd (cc)
  on_way-none (next ∷ path) position Empty is = refl
  on_way-none (next ∷ path) position (Tree m d s) is = ap (λ nodes. m ∷ nodes) (on_way-none path position (trees_from next d) is)

  pub length-stops_into : (d : ℕ) (nodes : List (Keyed L)) → length (stops_into d nodes) ≡ length nodes
  length-stops_into d [] = refl
  length-stops_into d (n ∷ nodes) = ap (λ k. suc k) (length-stops_into (suc d) nodes)

  -- a loop along a path has gone so far
  pub record IsOnWay (tree : Forest (Keyed L)) (path : List ℕ) (stops : List Stop) (link : Option ℕ) : Type 0 where
    pub stops_are : stops ≡ stops_into 0 (on_way path tree)
    pub link_is : link ≡ key_at tree path
    pub live : IsLink tree link

  pub way-begins : (tree : Forest (Keyed L)) (stops : List Stop) (link : Option ℕ) → stops ≡ [] → link ≡ first_key tree → IsOnWay tree [] stops link
  way-begins tree stops link none is = record { stops_are = none; link_is = is; live = subst (IsLink tree) (sym is) (root_link tree) }

  module _ (tree : Forest (Keyed L)) (path whole : List ℕ) (position : ℕ) (more : whole ≡ path ++ position ∷ []) (stops after : List Stop) (link next : Option ℕ) (so_far : IsOnWay tree path stops link) where
    -- the loop goes into a node
    pub way-entered : (key depth : ℕ) → HasDistinctKeys tree → link ≡ Some key → depth ≡ length stops → after ≡ stops ++ stop_inside depth key ∷ [] → next ≡ child_of tree key position → IsLink tree next
        → IsOnWay tree whole after next
    way-entered key depth distinct there long put is live =
        let at : key_at tree path ≡ Some key = sym so_far.link_is ∙ there in
        let here = first-tree (on_path path tree) key at in
        let deep : depth ≡ 0 + length (on_way path tree) = omega (arith, long, ap length so_far.stops_are, length-stops_into 0 (on_way path tree)) in
        record {
          stops_are =
              put
              ∙ ap (λ before. before ++ stop_inside depth key ∷ []) so_far.stops_are
              ∙ ap (λ d. stops_into 0 (on_way path tree) ++ stop_inside d key ∷ []) deep
              ∙ ap (λ k. stops_into 0 (on_way path tree) ++ stop_inside (0 + length (on_way path tree)) k ∷ []) (sym here.4)
              ∙ sym (stops_into-step 0 (on_way path tree) here.0)
              ∙ ap (stops_into 0) (sym (on_way-step path position tree here.0 here.1 here.2 here.3))
              ∙ ap (λ way. stops_into 0 (on_way way tree)) (sym more);
          link_is = is ∙ sym (key_at-child tree path key position distinct at) ∙ ap (key_at tree) (sym more);
          live = live;
        }

    -- it has come to the end of a level
    pub way-ended : link ≡ None → after ≡ stops → next ≡ link → IsOnWay tree whole after next
    way-ended none same is =
        let nothing : key_at tree path ≡ None = sym so_far.link_is ∙ none in
        record {
          stops_are = same ∙ so_far.stops_are ∙ ap (stops_into 0) (sym (on_way-none path position tree (no-tree (on_path path tree) nothing))) ∙ ap (λ way. stops_into 0 (on_way way tree)) (sym more);
          link_is = is ∙ none ∙ sym (key_at-past tree path (position ∷ []) nothing) ∙ ap (key_at tree) (sym more);
          live = subst (IsLink tree) (sym (is ∙ none)) tt;
        }

-- what a link to a node leads to
pub on-live : (tree : Forest (Keyed Node)) (key : ℕ) → IsLive tree key → (node : Node) × (on_link tree (Some key) ≡ Tree (keyed key node) (children_of tree key) (after_of tree key)) × (label_of tree key ≡ Some node)
on-live tree key live = let s = live-spot tree key live in (s.0.label, rw s.1 refl, rw s.1 refl)

-- The first element among later siblings.

-- a node has a name where a call that looks it up finds one
pub name-found : (o : Option (Bor (List ℕ))) (name : Option (List ℕ)) → option_map chars (option_copied o) ≡ name → is_some name ≡ is_some o
name-found None name is = ap (λ n. is_some n) (sym is)
name-found (Some found) name is = ap (λ n. is_some n) (sym is)

module _ (tree : Forest (Keyed Node)) (distinct : HasDistinctKeys tree) (key : ℕ) (live : IsLive tree key) where
  pub element-here : is_some (name_of tree key) ≡ true → first_element is_element (on_link tree (Some key)) ≡ Some key
  element-here is =
      let here = on-live tree key live in
      let named : is_element here.0 ≡ true = (let known : name_of tree key ≡ node_name here.0 = rw here.2 refl in ap (λ o. is_some o) (sym known) ∙ is) in
      ap (first_element is_element) here.1 ∙ ap (λ b. cond b (Some key) (first_element is_element (after_of tree key))) named

  pub element-later : is_some (name_of tree key) ≡ false → first_element is_element (on_link tree (Some key)) ≡ first_element is_element (on_link tree (next_sibling_of tree key))
  element-later is =
      let here = on-live tree key live in
      let named : is_element here.0 ≡ false = (let known : name_of tree key ≡ node_name here.0 = rw here.2 refl in ap (λ o. is_some o) (sym known) ∙ is) in
      ap (first_element is_element) here.1 ∙ ap (λ b. cond b (Some key) (first_element is_element (after_of tree key))) named
      ∙ ap (first_element is_element) (sym (on_next tree key distinct live).0)

  pub fewer-later : size (on_link tree (next_sibling_of tree key)) < size (on_link tree (Some key))
  fewer-later =
      let here = on-live tree key live in
      omega (arith, ap (λ g. size g) here.1, ap (λ g. size g) (on_next tree key distinct live).0)

  -- The stops of a node that goes, or is changed.

  pub gone-here : (depth : ℕ) → record { depth = depth; link = next_sibling_of tree key; way = Past; from = first_element is_element (on_link tree (Some key)) } ∷ [] ≡ gone_stop is_element depth (on_link tree (Some key))
  gone-here depth = let here = on-live tree key live in rw here.1 refl

  pub changed-here : (depth : ℕ)
      → record { depth = depth; link = Some key; way = Past; from = first_element is_element (on_link tree (Some key)) } ∷ (come_stop is_element depth key (on_link tree (next_sibling_of tree key)) ∷ [])
      ≡ changed_stops is_element depth (on_link tree (Some key))
  changed-here depth = let here = on-live tree key live in rw ((on_next tree key distinct live).0, here.1) refl

-- The stops of a place.

on-link-path : (tree : Forest (Keyed Node)) (path : List ℕ) → HasDistinctKeys tree → (link : Option ℕ) → link ≡ key_at tree path → on_path path tree ≡ on_link tree link
on-link-path tree path distinct None is = no-tree (on_path path tree) (sym is)
on-link-path tree path distinct (Some key) is = on-link-at tree path key distinct (sym is)

module _ (tree : Forest (Keyed Node)) (path : List ℕ) (distinct : HasDistinctKeys tree) (stops : List Stop) (way : stops ≡ stops_into 0 (on_way path tree)) where
  depth-is : length stops ≡ length (on_way path tree)
  depth-is = ap length way ∙ length-stops_into 0 (on_way path tree)

  pub removal-some : (key : ℕ) (stop : Stop) → Some key ≡ key_at tree path → stop ∷ [] ≡ gone_stop is_element (length stops) (on_link tree (Some key)) → stops ++ stop ∷ [] ≡ removal_stops is_element path tree
  removal-some key stop there is =
      ap (λ own. stops ++ own) (is ∙ ap (gone_stop is_element (length stops)) (sym (on-link-path tree path distinct (Some key) there)) ∙ ap (λ d. gone_stop is_element d (on_path path tree)) depth-is)
      ∙ ap (λ before. before ++ gone_stop is_element (length (on_way path tree)) (on_path path tree)) way

  pub removal-none : None ≡ key_at tree path → stops ≡ removal_stops is_element path tree
  removal-none there =
      sym (append-nil stops)
      ∙ ap (λ own. stops ++ own) (sym (ap (gone_stop is_element (length (on_way path tree))) (on-link-path tree path distinct None there)))
      ∙ ap (λ before. before ++ gone_stop is_element (length (on_way path tree)) (on_path path tree)) way

  pub relabelling-some : (key : ℕ) (gone come : Stop) → Some key ≡ key_at tree path → gone ∷ (come ∷ []) ≡ changed_stops is_element (length stops) (on_link tree (Some key))
      → (stops ++ gone ∷ []) ++ come ∷ [] ≡ relabelling_stops is_element path tree
  relabelling-some key gone come there is =
      append_assoc stops (gone ∷ []) (come ∷ [])
      ∙ ap (λ own. stops ++ own) (is ∙ ap (changed_stops is_element (length stops)) (sym (on-link-path tree path distinct (Some key) there)) ∙ ap (λ d. changed_stops is_element d (on_path path tree)) depth-is)
      ∙ ap (λ before. before ++ changed_stops is_element (length (on_way path tree)) (on_path path tree)) way

  pub relabelling-none : None ≡ key_at tree path → stops ≡ relabelling_stops is_element path tree
  relabelling-none there =
      sym (append-nil stops)
      ∙ ap (λ own. stops ++ own) (sym (ap (changed_stops is_element (length (on_way path tree))) (on-link-path tree path distinct None there)))
      ∙ ap (λ before. before ++ changed_stops is_element (length (on_way path tree)) (on_path path tree)) way

  pub insertion-is : (key : ℕ) (link : Option ℕ) (stop : Stop) → link ≡ key_at tree path → stop ≡ come_stop is_element (length stops) key (on_link tree link) → stops ++ stop ∷ [] ≡ insertion_stops is_element path key tree
  insertion-is key link stop there is =
      ap (λ own. stops ++ own ∷ []) (is ∙ ap (come_stop is_element (length stops) key) (sym (on-link-path tree path distinct link there)) ∙ ap (λ d. come_stop is_element d key (on_path path tree)) depth-is)
      ∙ ap (λ before. before ++ come_stop is_element (length (on_way path tree)) key (on_path path tree) ∷ []) way
