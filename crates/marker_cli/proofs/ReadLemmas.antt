-- How many bytes were taken from files.
use Rattle.std.proofs.Common.{◌≡◌, ℕ, zero, suc, ◌<◌, ◌≤◌, ◌+◌, List, [], ◌∷◌, length, drop, get_or, Option, Result, add-one, ap, arith, refl, subst, sym, inl, inr, ◌⊎◌}
use Rattle.std.specs.Prelude.{Some, Ok, Err, IfErr, IfSome, OnOk, Bool}
use Rattle.std.specs.Option.{option_map_or}
use Rattle.std.specs.Result.{IsErr, IsErrAnd}
use Rattle.std.proofs.Math.Seq.{drop-cons}
use Rattle.edit_script.specs.declared.command.Command.{Command}
use Rattle.ports.specs.Causes.{Raises}
use Rattle.ports.specs.Fetches.{Fetches}
use Rattle.ports.specs.Files.{Files}
use Rattle.ports.proofs.CauseLemmas.{raises_more}
use Rattle.marker_cli.specs.declared.status.Status.{Status}
use Rattle.marker_cli.specs.declared.status.Status.TheVariants as status
use Rattle.marker_cli.specs.Ends.{IsRefusal, IsStop, IsWhole, part_status}
use Rattle.marker_cli.specs.Run.{action_size, commands_size, size_of}

-- a fact holds at a value too
pub on_ok : {T E P : Type 0} (r : Result T E) → P → OnOk r P
on_ok (Ok x) p = p
on_ok (Err e) p = tt

-- no part that was done to its end stops a run
whole_stop : {P : Type 0} (status : Status) → IsStop status → IsWhole status → P
whole_stop status.Ok stops whole = absurd stops
whole_stop status.Memory stops whole = absurd whole
whole_stop status.Usage stops whole = absurd whole
whole_stop (status.ReadFault file) stops whole = absurd whole
whole_stop (status.TooLarge file) stops whole = absurd whole
whole_stop (status.NotUtf8 file offset) stops whole = absurd whole
whole_stop (status.BadDocument line column) stops whole = absurd whole
whole_stop (status.BadScript number) stops whole = absurd whole
whole_stop status.WriteFault stops whole = absurd whole
whole_stop (status.LeftOut count) stops whole = absurd stops
whole_stop (status.BadPart file line column) stops whole = absurd whole

-- what holds of a part that was done to its end
pub of_whole : {T P : Type 0} (r : Result T Status) → IfErr r IsStop → OnOk r P → IsWhole (part_status r) → P
of_whole (Ok x) stops p whole = p
of_whole (Err error) stops p whole = whole_stop error stops whole

-- what a `?` hands on wasn't done to its end
pub handed_whole : {T P : Type 0} (r : Result T Status) (told : Status) → IsErr r × IsErrAnd r (λ error. error ≡ told) → IsStop told → IsWhole (part_status r) → P
handed_whole (Ok x) told is stops whole = absurd is.1
handed_whole (Err error) told is stops whole = whole_stop error (subst IsStop (sym is.1) stops) whole

-- nor was a part that failed to write
pub put_stops : {failed : Type 0} (told : Status) → (told ≡ status.Memory) ⊎ ((told ≡ status.WriteFault) × failed) → IsStop told
put_stops told (inl memory) = subst IsStop (sym memory) tt
put_stops told (inr write) = subst IsStop (sym write.0) tt

-- nor does a part that stops the run refuse with Ok
pub stop_refuses : (told : Status) → IsStop told → IsRefusal told
stop_refuses told stops same = subst IsStop same stops

-- what a `?` hands on refuses, where it stops the run
pub handed_refuses : {T : Type 0} (r : Result T Status) (told : Status) → IsErr r × IsErrAnd r (λ error. error ≡ told) → IsStop told → IfErr r IsRefusal
handed_refuses (Ok x) told is stops = tt
handed_refuses (Err error) told is stops = stop_refuses error (subst IsStop (sym is.1) stops)

-- a file that was fetched
pub fetched_size : (held : Option Files) (files : Files) (name bytes : List ℕ) (honest : Bool) → held ≡ Some files
    → IfSome held (λ known. Fetches honest (known name) (Ok bytes)) → size_of files name ≡ length bytes
fetched_size held files name bytes honest told is =
    let known : (files name ≡ Some bytes) × (length bytes ≤ 16777216) = subst (λ h. IfSome h (λ known. Fetches honest (known name) (Ok bytes))) told is in
    ap (λ file. option_map_or length file 0) known.0

pub raised_as : {before now count other : ℕ} → other ≡ count → Raises before now count → Raises before now other
raised_as {before} {now} same raised = subst (λ n. Raises before now n) (sym same) raised

-- the next command
pub size_next : (files : Files) (commands : List Command) (place : ℕ) (command : Command) → place < length commands → command ≡ get_or commands place command
    → commands_size files (drop place commands) ≡ action_size files command.action + commands_size files (drop (place + 1) commands)
size_next files commands place command below is = rw (add-one, drop-cons commands place command below, ← is) refl

size_end : (files : Files) (commands : List Command) (place : ℕ) → length commands ≤ place → commands_size files (drop place commands) ≡ 0
size_end files [] zero end = refl
size_end files [] (suc n) end = refl
size_end files (command ∷ commands) zero end = absurd (omega arith)
size_end files (command ∷ commands) (suc n) end = size_end files commands n (omega arith)

-- the commands before this place were done
pub record HaveRead (files : Files) (commands : List Command) (place before now : ℕ) : Type 0 where
  pub so_far : ℕ
  pub raised : Raises before now so_far
  pub parts : commands_size files commands ≡ so_far + commands_size files (drop place commands)

pub read_more : (files : Files) (commands : List Command) (place : ℕ) (command : Command) (before middle now : ℕ) → place < length commands
    → command ≡ get_or commands place command → HaveRead files commands place before middle → Raises middle now (action_size files command.action)
    → HaveRead files commands (place + 1) before now
read_more files commands place command before middle now below is read more =
    let next = size_next files commands place command below is in
    let parts = read.parts in
    record {
      so_far = read.so_far + action_size files command.action;
      raised = raises_more before middle now _ _ _ read.raised more refl;
      parts = omega (arith, next, parts);
    }

pub read_all : (files : Files) (commands : List Command) (place before now : ℕ) → length commands ≤ place → HaveRead files commands place before now
    → Raises before now (commands_size files commands)
read_all files commands place before now end read =
    let none = size_end files commands place end in
    let parts = read.parts in
    let all : commands_size files commands ≡ read.so_far = omega (arith, none, parts) in
    raised_as all read.raised
