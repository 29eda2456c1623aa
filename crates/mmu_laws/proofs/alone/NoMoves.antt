-- Which events are no move of a page, nor a move that is refused a frame: all that lines tell but at the claim of a frame and at the exchange of a host word.
use Rattle.core_views.specs.declared.trace.Command.TheVariants.{ClearLog, GetLog}
use Rattle.mmu_core.proofs.forms.log.LogTold.{log_tells_so}
use Rattle.std.proofs.Common.{◌≡◌, ◌≢◌, List, [], ◌∷◌, ◌++◌, ℕ, refl}
use Rattle.std.specs.Prelude.{Bool, true, false, ◌==◌, if◌then◌else◌}
use Rattle.core_views.specs.declared.actor.Actor.{Actor}
use Rattle.core_views.specs.declared.answer.Answer.TheVariants.{Refused}
use Rattle.core_views.specs.declared.answer.Refusal.{Refusal}
use Rattle.core_views.specs.declared.answer.Refusal.TheVariants.{NoFrame, IsHuge}
use Rattle.core_views.specs.declared.event.EventKind.{EventKind}
use Rattle.core_views.specs.declared.event.EventKind.TheVariants.{BroughtIn, Exited, HostChanged, LookedAtHost, LookedAtSlots}
use Rattle.core_views.specs.declared.place.BeginPlace.TheVariants as begins
use Rattle.core_views.specs.declared.place.AccessPlace.{AccessPlace}
use Rattle.core_views.specs.declared.place.AccessPlace.TheVariants as access
use Rattle.core_views.specs.declared.place.FaultEnd.{FaultEnd}
use Rattle.core_views.specs.declared.place.FaultEnd.TheVariants as end_of
use Rattle.core_views.specs.declared.place.FaultPlace.TheVariants as fault
use Rattle.core_views.specs.declared.place.HostPlace.TheVariants as host
use Rattle.core_views.specs.declared.place.HostRunPlace.{HostRunPlace}
use Rattle.core_views.specs.declared.place.HostRunPlace.TheVariants as run
use Rattle.core_views.specs.declared.place.Place.{Place}
use Rattle.core_views.specs.declared.place.Place.TheVariants as place
use Rattle.core_views.specs.declared.sizes.Sizes.{Sizes}
use Rattle.core_views.specs.declared.trace.Command.{Command}
use Rattle.core_views.specs.declared.trace.Command.TheVariants.{Access, ChangeHost, ChangeRun}
use Rattle.core_views.specs.declared.trace.Line.{Line}
use Rattle.core_views.specs.declared.trace.Op.{Op}
use Rattle.core_views.specs.declared.trace.RunChange.{RunChange}
use Rattle.core_views.specs.Alone.{TakeLowest, TakesLowest}
use Rattle.core_views.specs.Events.{after}
use Rattle.core_views.specs.Flat.{Facts, Flat}
use Rattle.core_views.specs.Held.{Held}
use Rattle.core_views.specs.HostChanges.{is_own}
use Rattle.core_views.specs.SlotSets.{MemorySlots}
use Rattle.part_steps.specs.PartTasks.{page_looked, word_looked}
use Rattle.mmu_core.specs.declared.outcome.Outcome.{Outcome}
use Rattle.mmu_core.specs.declared.outcome.Outcome.TheVariants.{Goes, Ends}
use Rattle.mmu_core.specs.forms.access.AccessSteps.{access_tells, exiting, fault_over}
use Rattle.mmu_core.specs.lines.Forms.{first_place, outcome_at, tells_at}
use Rattle.mmu_core.specs.machine.Outcomes.{answering}
use Rattle.mmu_core.specs.machine.Steps.{beginning}
use Rattle.mmu_core.proofs.lines.EitherPlace.{either_place}
use Rattle.mmu_core.proofs.lines.Forms.{place_tells}
use Rattle.mmu_core.proofs.lines.SimplePlaces.{Told, Nothing, Arms, ArmsClean, Exit, Change, OfAccess, OfHost, OfHostRun, OfLog}
use Rattle.mmu_laws.proofs.flat.Told.{told}
use Rattle.mmu_laws.proofs.forms.host_run.RunEvents.{run_tells_so}
use Rattle.mmu_core.proofs.forms.host_run.HostRunKept.{is_change}
use Rattle.mmu_core.specs.forms.host.HostSteps.{after_look, maps_large}

abbrev pub IsNoMove : EventKind → Type 0
IsNoMove (Exited (Refused NoFrame)) = ⊥
IsNoMove (HostChanged page entry) = ⊥
IsNoMove _ = Unit {0}

abbrev pub AreNoMoves : List EventKind → Type 0
AreNoMoves [] = Unit {0}
AreNoMoves (kind ∷ kinds) = IsNoMove kind × AreNoMoves kinds

-- ---- what follows

no_move_takes : (z : Sizes) (f : Facts) (command : Command) (kind : EventKind) → IsNoMove kind → TakesLowest z f command kind
no_move_takes z f command (Exited (Refused NoFrame)) none = absurd none
no_move_takes z f command (HostChanged page entry) none = absurd none
no_move_takes z f command _ none = tt

pub no_moves_take : (z : Sizes) (f : Flat) (actor : Actor) (kinds : List EventKind) → AreNoMoves kinds → TakeLowest z f (told actor kinds)
no_moves_take z f actor [] none = tt
no_moves_take z f actor (kind ∷ kinds) none =
    (no_move_takes z f.facts (f.under actor).line.command kind none.0, no_moves_take z (after (record { actor = actor; kind = kind }) f) actor kinds none.1)

no_moves_append : (xs ys : List EventKind) → AreNoMoves xs → AreNoMoves ys → AreNoMoves (xs ++ ys)
no_moves_append [] ys one other = other
no_moves_append (x ∷ xs) ys one other = (one.0, no_moves_append xs ys one.1 other)

-- A line's begin is none, nor is its answer.
begin_no_move : (stood : Place) (line : Line) → AreNoMoves (beginning stood line)
begin_no_move place.Between line = (tt, tt)
begin_no_move _ line = tt

answer_no_move : (o : Outcome) (line : Line) → AreNoMoves (answering o line)
answer_no_move (Goes p) line = tt
answer_no_move (Ends answer) line = (tt, tt)

pub whole_no_move : (stood : Place) (line : Line) (kinds : List EventKind) (o : Outcome) → AreNoMoves kinds
    → AreNoMoves (beginning stood line ++ (kinds ++ answering o line))
whole_no_move stood line kinds o none =
    no_moves_append (beginning stood line) (kinds ++ answering o line) (begin_no_move stood line)
    (no_moves_append kinds (answering o line) none (answer_no_move o line))

-- ---- which steps tell none

-- The line stands at its claim of a frame, or at its exchange of a host word.
abbrev pub moves_at : Place → Command → Bool
moves_at (place.Host (host.Claim begun)) (ChangeHost page change) = true
moves_at (place.Host host.Change) (ChangeHost page change) = true
moves_at (place.HostRun run.Change) (ChangeRun page change) = true
moves_at _ _ = false

-- No line begins there.
pub first_moves_not : (z : Sizes) (slots : MemorySlots) (command : Command) → moves_at (first_place z slots command) command ≡ false
first_moves_not z slots (Access gfn word op) = refl
first_moves_not z slots (ChangeHost page change) = refl
first_moves_not z slots (ChangeRun page change) = refl
first_moves_not z slots (GetLog id) = refl
first_moves_not z slots (ClearLog id first count words) = refl
first_moves_not z slots _ = refl

end_no_move : (e : FaultEnd) → AreNoMoves (exiting (fault_over e))
end_no_move end_of.Installed = tt
end_no_move end_of.Mmio = (tt, tt)
end_no_move end_of.HostFault = (tt, tt)
end_no_move end_of.Starved = (tt, tt)
end_no_move (end_of.Fixed marked) = tt
end_no_move (end_of.NotFast seen) = tt
end_no_move (end_of.Retry fast cause) = tt

access_no_move : (p : AccessPlace) (h : Held) (gfn word : ℕ) (op : Op) (v : ℕ) → AreNoMoves (access_tells p h gfn word op v)
access_no_move (access.Pause again) h gfn word op v = (tt, tt)
access_no_move access.Touch h gfn word op v = (tt, tt)
access_no_move (access.Fault (fault.Find begun)) h gfn word op v = either_place AreNoMoves begun [] (LookedAtSlots ∷ []) tt (tt, tt)
access_no_move (access.Fault (fault.FastFind begun)) h gfn word op v = either_place AreNoMoves begun [] (LookedAtSlots ∷ []) tt (tt, tt)
access_no_move (access.Fault fault.Host) h gfn word op v = (tt, tt)
access_no_move (access.Fault fault.Bring) h gfn word op v =
    either_place AreNoMoves (v == word_looked h.topics.host) (BroughtIn (page_looked h.topics.host) ∷ []) [] (tt, tt) tt
access_no_move (access.Fault (fault.End e)) h gfn word op v = end_no_move e
access_no_move _ h gfn word op v = tt

pub refused_no_move : (refusal : Refusal) → refusal ≢ NoFrame → IsNoMove (Exited (Refused refusal))
refused_no_move NoFrame other = absurd (other refl)
refused_no_move _ other = tt

run_no_move : (p : HostRunPlace) (page : ℕ) (change : RunChange) (h : Held) (v : ℕ) → moves_at (place.HostRun p) (ChangeRun page change) ≡ false
    → AreNoMoves (tells_at (place.HostRun p) (ChangeRun page change) h v)
run_no_move p page change h v other =
    run_tells_so AreNoMoves tt (λ page. (tt, tt)) (λ page refusal no_frame. (tt, (refused_no_move refusal no_frame, tt))) p
    (λ at. absurd (stands_not p at other)) page change h v
  where
    stands_not : (q : HostRunPlace) → is_change q ≡ true → moves_at (place.HostRun q) (ChangeRun page change) ≡ false → ⊥
    stands_not run.Change at other = cc other
    stands_not _ at other = cc at

exit_no_move : (o : Outcome) → o ≢ Ends (Refused NoFrame) → AreNoMoves (exiting o)
exit_no_move (Goes p) other = tt
exit_no_move (Ends (Refused NoFrame)) other = absurd (other refl)
exit_no_move (Ends answer) other = (tt, tt)

pub tells_no_move : (p : Place) (command : Command) (h : Held) (v : ℕ) → moves_at p command ≡ false → AreNoMoves (tells_at p command h v)
tells_no_move p command h v = by p command (tells_at p command h v) (place_tells p command h v)
  where
    by : (q : Place) (c : Command) (kinds : List EventKind) → Told h v q c kinds → moves_at q c ≡ false → AreNoMoves kinds
    by _ _ _ Nothing other = tt
    by q c _ (Exit no_frame) other = exit_no_move (outcome_at q c h v) no_frame
    by _ _ _ (Arms id at) other = (tt, tt)
    by _ _ _ (ArmsClean range id seen last) other = (tt, tt)
    by q c _ (Change id slot at more) other = (tt, by q c _ more other)
    by _ _ _ (OfAccess q gfn word op) other = access_no_move q h gfn word op v
    by _ c _ (OfLog q) other =
        log_tells_so AreNoMoves tt (λ id. (tt, tt)) (λ id frames. (tt, tt)) (λ id frames. (tt, tt)) (λ id frames. (tt, (tt, tt))) q c h v
    by _ _ _ (OfHost (host.Claim begun) page change) other = absurd (cc other)
    by _ _ _ (OfHost host.Change page change) other = absurd (cc other)
    by _ _ _ (OfHost (host.Look moving) page change) other =
        either_place AreNoMoves (is_own h.state.sizes h.state.actor page) (LookedAtHost page ∷ exiting (after_look moving v)) [] (
          tt,
          either_place (λ o. AreNoMoves (exiting o)) (maps_large v) (Ends (Refused IsHuge))
              (Goes (place.Host (if moving then host.Claim false else host.Begin begins.Exclude))) (tt, tt) tt,
        ) tt
    by _ _ _ (OfHost q page change) other = tt
    by _ _ _ (OfHostRun q page change) other = run_no_move q page change h v other
