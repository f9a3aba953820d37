-- What the loop over a text keeps.
use Rattle.std.proofs.Common.{◌≡◌, ◌≢◌, ℕ, ◌+◌, ◌-◌, ◌≤◌, List, [], ◌++◌, length, take, Some, None, refl, sym, ap, subst, ◌∙◌, append_assoc, append-nil, arith}
use Rattle.std.proofs.lemmas.List.{length-append}
use Rattle.forest.specs.Forest.{Forest}
use Rattle.plain_types.specs.declared.node.Node.{Node}
use Rattle.xml_definitions.specs.Faults.{FailsAt, line_feeds, last_line}
use Rattle.xml_definitions.specs.Texts.{HasTree}
use Rattle.xhtml_reader.specs.declared.kind.Kind.{Kind}
use Rattle.xhtml_reader.specs.Machinery.Keeping.{Kept, Keeps, Advances, Finishes}
use Rattle.xhtml_reader.specs.Machinery.States.{State, at_start, allows}
use Rattle.xhtml_reader.specs.Machinery.Leading.{Leads, Stops}
use Rattle.xhtml_reader.proofs.Places.{Reached, Reached-more, fails_there, found, start_reached, stopped, unfinished}

pub record Progress (kind : Kind) (whole rest : List ℕ) (all : Kept) : Type 0 where
  pub front : List ℕ
  pub state : State
  pub parts : whole ≡ front ++ rest
  pub reached : Reached kind front state
  pub keeps : Keeps all state
  pub kind_is : all.kind ≡ kind

pub Progress-start : (kind : Kind) (whole : List ℕ) (all : Kept) → Keeps all at_start → all.kind ≡ kind → Progress kind whole whole all
Progress-start kind whole all keeps kind_is = record {
  front = [];
  state = at_start;
  parts = refl;
  reached = start_reached kind;
  keeps = keeps;
  kind_is = kind_is;
}

module _ (kind : Kind) (whole rest : List ℕ) (all : Kept) (progress : Progress kind whole rest all) where
  pub Progress-more : (after : List ℕ) (new : Kept) → Advances all rest (Some after) new → new.kind ≡ all.kind → Progress kind whole after new
  Progress-more after new advances same =
      let more = advances progress.state progress.keeps in
      let leads = subst (λ (k : Kind). Leads k rest progress.state after more.0) progress.kind_is more.1 in
      record {
        front = progress.front ++ leads.front;
        state = more.0;
        parts = progress.parts ∙ ap (λ (t : List ℕ). progress.front ++ t) leads.parts ∙ sym (append_assoc progress.front leads.front after);
        reached = Reached-more kind progress.front rest after progress.state more.0 progress.reached leads;
        keeps = more.2;
        kind_is = same ∙ progress.kind_is;
      }

  pub Progress-length : length rest ≤ length whole
  Progress-length = omega (arith, ap length progress.parts, length-append progress.front rest)

  abbrev pub FailsHere : Type 0
  FailsHere = FailsAt (allows kind) whole (1 + line_feeds (take (length whole - length rest) whole)) (1 + length (last_line (take (length whole - length rest) whole)))

  pub none_fits : (new : Kept) → rest ≢ [] → Advances all rest None new → FailsHere
  none_fits new some advances =
      let stops = subst (λ (k : Kind). Stops k rest progress.state) progress.kind_is (advances progress.state progress.keeps) in
      fails_there kind whole (length whole - length rest)
      (stopped kind whole progress.front rest progress.state _ progress.reached progress.parts some stops (omega (arith, ap length progress.parts, length-append progress.front rest)))

  all_read : rest ≡ [] → Reached kind whole progress.state
  all_read none =
      let parts : whole ≡ progress.front = progress.parts ∙ ap (λ (t : List ℕ). progress.front ++ t) none ∙ append-nil progress.front in
      rw parts progress.reached

  pub none_ends : rest ≡ [] → Finishes all None → FailsHere
  none_ends none finishes =
      fails_there kind whole (length whole - length rest)
      (unfinished kind whole progress.state _ (all_read none) (finishes progress.state progress.keeps) (omega (arith, ap length none)))

  pub tree_found : (tree : Forest Node) → rest ≡ [] → Finishes all (Some tree) → HasTree (allows kind) whole tree
  tree_found tree none finishes = found kind whole progress.state tree (all_read none) (finishes progress.state progress.keeps)
