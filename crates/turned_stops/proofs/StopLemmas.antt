-- The loops over stops, over a way and over keys. Throughout, e tells which of two siblings comes first, and d is what is read outside of a list.
use Rattle.std.proofs.Common.{◌≡◌, ◌<◌, ◌≤◌, ◌+◌, ℕ, suc, Bool, true, false, cond, List, [], ◌∷◌, ◌++◌, length, take, drop, get_or, sym, ap, ◌∙◌, arith, append_assoc, drop-drop, length-drop}
use Rattle.std.specs.Prelude.{All}
use Rattle.std.proofs.lemmas.List.{drop_more}
use Rattle.std.proofs.lemmas.List.Elements.{All-append, All-cons, All-drop, All-head, All-nil, All-same, All-tail}
use Rattle.std.proofs.lemmas.List.Sums.{fold_more}
use Rattle.forest.specs.Forest.{Forest}
use Rattle.forest.specs.Keys.{Keyed}
use Rattle.forest.specs.Spots.{IsLink, IsLive}
use Rattle.plain_types.specs.declared.node.Node.{Node}
use Rattle.merged_walk.specs.declared.stop.Stop.{Stop}
use Rattle.merged_walk.specs.EditStops.{stop_inside}
use Rattle.merged_walk.specs.TurnedNodes.{is_stop_before, is_stop_into, stops_after, stops_before, with_way}
use Rattle.start_reach.specs.TurnedElements.{is_earlier, way_to, with_ways_to}

module _ (e : ℕ → ℕ → Bool) (depth key : ℕ) (stops : List Stop) where
  -- so many first stops come before the one into the node
  pub record ArePassed (place : ℕ) : Type 0 where
    pub before : stops_before e depth key stops ≡ take place stops ++ stops_before e depth key (drop place stops)
    pub after : stops_after e depth key stops ≡ stops_after e depth key (drop place stops)

  abbrev behind : Stop → List Stop → List Stop
  behind stop rest = cond (is_stop_into e depth key stop) rest (stop ∷ rest)

  module _ (place : ℕ) (d : Stop) (within : place < length stops) (h : ArePassed place) where
    abbrev stop : Stop
    stop = get_or stops place d

    abbrev rest : List Stop
    rest = drop (place + 1) stops

    after-by : (b : Bool) → is_stop_before e depth key stop ≡ b → stops_after e depth key stops ≡ cond b (stops_after e depth key rest) (behind stop rest)
    after-by b is =
        h.after
        ∙ ap (λ stops'. stops_after e depth key stops') (drop_more stops place d within)
        ∙ ap (λ b. cond b (stops_after e depth key rest) (behind stop rest)) is

    pub begins-behind : is_stop_before e depth key stop ≡ false → is_stop_into e depth key stop ≡ true → drop (place + 1) stops ≡ stops_after e depth key stops
    begins-behind not into = sym (after-by false not ∙ ap (λ b. cond b rest (stop ∷ rest)) into)

    pub begins-there : is_stop_before e depth key stop ≡ false → is_stop_into e depth key stop ≡ false → drop place stops ≡ stops_after e depth key stops
    begins-there not other = drop_more stops place d within ∙ sym (after-by false not ∙ ap (λ b. cond b rest (stop ∷ rest)) other)

-- what all stops say those say that come before the one into a node
before-too : (P : Stop → Type 0) (e : ℕ → ℕ → Bool) (depth key : ℕ) (stops : List Stop) → All P stops → All P (stops_before e depth key stops)
before-too P e depth key [] h = All-nil P
before-too P e depth key (first ∷ stops) h = by (is_stop_before e depth key first) (before-too P e depth key stops (All-tail P first stops h))
  where
    by : (b : Bool) → All P (stops_before e depth key stops) → All P (cond b (first ∷ stops_before e depth key stops) [])
    by true more = All-cons P first (stops_before e depth key stops) (All-head P first stops h) more
    by false more = All-nil P

module _ (f : Forest (Keyed Node)) where
  abbrev pub Link : Stop → Type 0
  Link stop = IsLink f stop.link

  module _ (way : List ℕ) (stops : List Stop) where
    -- the stops into so many nodes of the way are put among so many first stops
    pub record ArePut (depth from : ℕ) (all : List Stop) : Type 0 where
      pub within : from ≤ length stops
      pub given : All Link all
      pub put : with_way (is_earlier f) 0 way stops ≡ all ++ with_way (is_earlier f) depth (drop depth way) (drop from stops)

    pub rest-within : (from begin : ℕ) (rest : List Stop) → from ≤ length stops → rest ≡ drop from stops → begin ≤ length rest → from + begin ≤ length stops
    rest-within from begin rest within is few =
        let same : length rest ≡ length (drop from stops) = ap (λ (rest : List Stop). length rest) is in omega (arith, within, same, few, length-drop from stops)

    pub node-put : (depth d from begin : ℕ) (rest all grown : List Stop) → All Link stops → depth < length way → IsLive f (get_or way depth d) → ArePut depth from all
        → rest ≡ drop from stops → begin ≤ length rest → drop begin rest ≡ stops_after (is_earlier f) depth (get_or way depth d) rest
        → grown ≡ all ++ (stops_before (is_earlier f) depth (get_or way depth d) rest ++ stop_inside depth (get_or way depth d) ∷ []) → ArePut (depth + 1) (from + begin) grown
    node-put depth d from begin rest all grown links within live h is few after grows =
        let key : ℕ = get_or way depth d in
        let stop : Stop = stop_inside depth key in
        let more : List ℕ = drop (depth + 1) way in
        let front : List Stop = stops_before (is_earlier f) depth key rest in
        let next : List Stop = with_way (is_earlier f) (depth + 1) more (drop (from + begin) stops) in
        let one-more : suc depth ≡ depth + 1 = omega arith in
        let linked : All Link rest = All-same Link rest (drop from stops) is (All-drop Link from stops links) in
        let left : stops_after (is_earlier f) depth key rest ≡ drop (from + begin) stops = sym after ∙ ap (drop begin) is ∙ drop-drop begin from stops in
        record {
          within = rest-within from begin rest h.within is few;
          given =
              All-same Link grown (all ++ (front ++ stop ∷ [])) grows
              (All-append Link all (front ++ stop ∷ []) h.given
              (All-append Link front (stop ∷ []) (before-too Link (is_earlier f) depth key rest linked) (All-cons Link stop [] live (All-nil Link))));
          put =
              h.put
              ∙ ap (λ way. all ++ with_way (is_earlier f) depth way (drop from stops)) (drop_more way depth d within)
              ∙ ap (λ rest. all ++ with_way (is_earlier f) depth (key ∷ more) rest) (sym is)
              ∙ ap (λ n. all ++ (front ++ (stop ∷ with_way (is_earlier f) n more (stops_after (is_earlier f) depth key rest)))) one-more
              ∙ ap (λ back. all ++ (front ++ (stop ∷ with_way (is_earlier f) (depth + 1) more back))) left
              ∙ ap (λ some. all ++ some) (sym (append_assoc front (stop ∷ []) next))
              ∙ sym (append_assoc all (front ++ stop ∷ []) next)
              ∙ ap (λ all. all ++ next) (sym grows);
        }

  -- the way to a node more
  pub ways-more : (keys : List ℕ) (stops : List Stop) (place d : ℕ) (all grown : List Stop) → place < length keys → all ≡ with_ways_to f (take place keys) stops
      → grown ≡ with_way (is_earlier f) 0 (way_to f (get_or keys place d)) all → grown ≡ with_ways_to f (take (place + 1) keys) stops
  ways-more keys stops place d all grown within all-is grown-is =
      grown-is
      ∙ ap (λ all. with_way (is_earlier f) 0 (way_to f (get_or keys place d)) all) all-is
      ∙ sym (fold_more (λ stops key. with_way (is_earlier f) 0 (way_to f key) stops) stops keys place d within)
