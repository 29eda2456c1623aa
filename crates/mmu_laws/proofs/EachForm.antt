-- What is so of the lines of every form: the one place of the laws where it is told by the form. A form of line writes a clause in each of these.
use Rattle.core_views.specs.HostRuns.{sets_run}
use Rattle.part_steps.specs.declared.part_step.PartStep.TheVariants as part
use Rattle.mmu_core.specs.lines.Forms.{tells_at}
use Rattle.mmu_core.proofs.forms.log.LogPlaces.{log_plain}
use Rattle.mmu_core.proofs.forms.split.SplitPlaces.{split_quiet}
use Rattle.mmu_core.proofs.forms.split.SplitTold.{split_tells_so}
use Rattle.mmu_laws.proofs.flat.QuietKinds.{AreQuiet, access_quiet, change_quiet, host_quiet, tells_of_logs}
use Rattle.mmu_laws.proofs.forms.host_run.RunChangers.{no_access, no_host, no_slot_change, quiet_next}
use Rattle.mmu_laws.proofs.forms.host_run.RunEvents.{run_tells_so}
use Rattle.mmu_laws.proofs.forms.log.LogQuiet.{log_quiet}
use Rattle.mmu_laws.proofs.forms.log.TakenStays.{ends_taking}
use Rattle.mmu_laws.proofs.forms.host.HostFlat.{host_goes_on}
use Rattle.mmu_laws.proofs.forms.host_run.HostRunFlat.{host_run_goes_on}
use Rattle.std.specs.Prelude.{Bool, List, Option, Some, None, false, true}
use Rattle.mmu_core.specs.forms.host.HostSteps.{host_part}
use Rattle.core_views.specs.declared.trace.Command.TheVariants.{Access, ChangeHost, ChangeRun, Split}
use Rattle.std.proofs.Common.{◌≡◌, ◌<◌, ℕ, refl}
use Rattle.core_views.specs.declared.answer.Refusal.{Refusal}
use Rattle.core_views.specs.declared.place.Place.{Place}
use Rattle.core_views.specs.declared.place.Place.TheVariants as place
use Rattle.core_views.specs.declared.sizes.Sizes.{Sizes}
use Rattle.core_views.specs.declared.topics.Topics.{Topics}
use Rattle.core_views.specs.declared.trace.Command.{Command}
use Rattle.core_views.specs.declared.trace.Line.{Line}
use Rattle.core_views.specs.Flat.{Flat, Fresh, LineUnderWay}
use Rattle.core_views.specs.Held.{Held}
use Rattle.core_views.specs.LogCommands.{read_refusal, takes_out}
use Rattle.core_views.specs.SlotCommands.{change_at_once}
use Rattle.core_views.specs.SlotSets.{MemorySlots}
use Rattle.mmu_core.specs.invariant.Invariant.{Invariant}
use Rattle.mmu_core.specs.invariant.TopicsInvariant.{TopicsInvariant}
use Rattle.mmu_core.specs.forms.access.AccessSteps.{access_part}
use Rattle.mmu_core.specs.declared.log_next.LogNext.{LogNext}
use Rattle.mmu_core.specs.declared.log_next.LogNext.TheVariants as next_of
use Rattle.mmu_core.specs.invariant.SlotSetPart.{Fits}
use Rattle.mmu_core.specs.lines.Forms.{KnowsPart, RetiresPart, first_place, steps_left, outcome_at, part_at}
use Rattle.mmu_core.specs.forms.log.LogLeft.{log_left_after}
use Rattle.mmu_core.specs.forms.log.LogOutcomes.{after_log}
use Rattle.mmu_core.specs.forms.log.LogSteps.{log_first, log_next, log_part, log_reads, slot_asked}
use Rattle.mmu_core.specs.forms.slot_change.SlotChangeSteps.{slot_change_first, slot_change_part}
use Rattle.mmu_core.specs.forms.split.SplitSteps.{split_part}
use Rattle.mmu_core.specs.machine.View.{View, answer_in}
use Rattle.mmu_core.proofs.invariant.Kept.{MakesAt}
use Rattle.mmu_core.proofs.machine.Stepping.{IsStep}
use Rattle.mmu_laws.specs.flat.FlatInvariant.{LogUnder, SlotChangeUnder}
use Rattle.mmu_laws.proofs.forms.access.AccessFlat.{access_goes}
use Rattle.mmu_laws.proofs.flat.FlatSteps.{Ready, StepGoes, UnderAt}
use Rattle.mmu_laws.proofs.flat.FlatStill.{part_or}
use Rattle.mmu_laws.proofs.forms.log.LogAnswers.{ReadsWell}
use Rattle.mmu_laws.proofs.forms.log.LogFlat.{log_goes_on}
use Rattle.mmu_laws.proofs.forms.slot_change.SlotChangeFlat.{slot_change_goes}
use Rattle.mmu_core.proofs.held.CopiedSteps.{CopiedAt}
use Rattle.mmu_core.proofs.held.UsableSteps.{UsableAt}
use Rattle.core_views.specs.Traces.{IsCommandFor}
use Rattle.mmu_core.specs.lines.PartWaits.{part_waits}
use Rattle.part_steps.specs.PartBounds.{PartRests}
use Rattle.part_steps.specs.PartTopics.{part_topics}
use Rattle.mmu_core.specs.lines.Rests.{IsUnderWay}
use Rattle.mmu_core.specs.machine.Steps.{delays_at, task_at}
use Rattle.mmu_laws.proofs.turns.Nearer.{Nearer}
use Rattle.mmu_laws.proofs.forms.host.HostNearer.{FindsStill, host_nearer}
use Rattle.mmu_core.specs.forms.host_run.HostRunSteps.{host_run_part}
use Rattle.mmu_laws.proofs.forms.host_run.HostRunNearer.{host_run_nearer}
use Rattle.mmu_laws.proofs.forms.slot_change.SlotChangeNearer.{slot_change_nearer}
use Rattle.mmu_laws.proofs.forms.split.SplitFlat.{split_goes_on}
use Rattle.mmu_laws.proofs.forms.split.SplitNearer.{split_nearer}
use Rattle.mmu_core.proofs.lines.KnowsKept.{access_vcpu}
use Rattle.mmu_core.proofs.forms.log.LogFalls.{log_falls}
use Rattle.mmu_core.proofs.forms.log.LogMakes.{log_fits}
use Rattle.core_views.specs.declared.trace.Command.TheVariants.{ClearLog, GetLog}
use Rattle.mmu_core.proofs.machine.PartStepping.{behind_part}
use Rattle.mmu_laws.proofs.forms.access.StayNearer.{access_nearer, first_of_none}

-- ---- flat memory

-- The step of each place, once its line has begun.
pub step_goes : (z : Sizes) (v : View) (a : ℕ) (line : Line) (command : Command) (p : Place) (f : Flat) (u : LineUnderWay)
    → IsStep z v a line command p → Invariant z v → TopicsInvariant z v → MakesAt z v a p command → KnowsPart p command (v.hand a) → UsableAt z v
    → CopiedAt z v → ReadsWell p (v.hand a).state.actor command (v.hand a) (answer_in (task_at p command (v.hand a)) v.words) f.facts f.past
    → Ready z v line command p (v.hand a).topics f.facts u → StepGoes z v a line command p f.facts f.past u
step_goes z v a line command place.Between f u S I P part K U C W R = absurd S.begun
step_goes z v a line (Access gfn word op) (place.Access p) f u S I P part K U C W R =
    access_goes z v a line gfn word f.facts f.past u op p S I P U (part_or z v a (access_part p gfn (v.hand a).topics) part) K R
step_goes z v a line command (place.SlotChange p) f u S I P part K U C W R =
    slot_change_goes z v a line command f.facts f.past u p K.0 S I P (part (slot_change_part p (v.hand a) command) refl) R
step_goes z v a line (ChangeHost page change) (place.Host p) f u S I P part K U C W R =
    host_goes_on z v a line page change f.facts f.past u p K S I P C (part (host_part p page change (v.hand a)) refl) R
step_goes z v a line (ChangeRun page change) (place.HostRun p) f u S I P part K U C W R =
    host_run_goes_on z v a line page change f.facts f.past u p K S I P (part (host_run_part p page change (v.hand a)) refl) R
step_goes z v a line command (place.Log p) f u S I P part K U C W R =
    log_goes_on z v a line command f.facts f.past u p S I P (part (log_part p (v.hand a) command) refl) K W R
step_goes z v a line (Split gfn) (place.Split p) f u S I P part K U C W R =
    split_goes_on z v a line gfn f.facts f.past u p S (part (split_part p gfn (v.hand a).topics) refl) P R
step_goes z v a line _ _ f u S I P part K U C W R = absurd S.holds

first_log : (command : Command) (u : LineUnderWay) (r : Option Refusal) (out : Bool) → u.stage ≡ Fresh → LogUnder (log_first r out) command u
first_log command u (Some refusal) out fresh = fresh
first_log command u None true fresh = fresh
first_log command u None false fresh = fresh

-- A line that begins is under way, and has done nothing.
pub first_at : (z : Sizes) (pool : ℕ → ℕ) (y : Sizes) (slots : MemorySlots) (line : Line) (command : Command) (t : Topics) (u : LineUnderWay)
    → IsCommandFor z line.actor command → u.stage ≡ Fresh → u.line ≡ line → UnderAt z pool (first_place y slots command) line command t u
first_at z pool y slots line (Access gfn word op) t u may fresh is = (is, fresh)
first_at z pool y slots line (ChangeHost page change) t u may fresh is = (is, fresh)
first_at z pool y slots line (ChangeRun page change) t u may fresh is = (is, fresh)
first_at z pool y slots line (GetLog id) t u may fresh is =
    (is, first_log (GetLog id) u (read_refusal (GetLog id) slots) (takes_out y.mode (GetLog id)) fresh)
first_at z pool y slots line (ClearLog id first count words) t u may fresh is =
    let c : Command = ClearLog id first count words in (is, first_log c u (read_refusal c slots) (takes_out y.mode c) fresh)
first_at z pool y slots line (Split gfn) t u may fresh is = (is, fresh)
first_at z pool y slots line command t u may fresh is = (is, first_set (change_at_once y command slots))
  where
    first_set : (r : Option (Option Refusal)) → SlotChangeUnder (slot_change_first r) z command u
    first_set None = fresh
    first_set (Some refusal) = fresh

-- The flat line under way is the hand's, from its begin on.
pub line_under : (p : Place) (z : Sizes) (pool : ℕ → ℕ) (line : Line) (command : Command) (t : Topics) (u : LineUnderWay) → IsUnderWay p
    → UnderAt z pool p line command t u → u.line ≡ line
line_under place.Between z pool line command t u begun U = absurd begun
line_under (place.Access p) z pool line (Access gfn word op) t u begun U = U.0
line_under (place.SlotChange p) z pool line command t u begun U = U.0
line_under (place.Host p) z pool line (ChangeHost page change) t u begun U = U.0
line_under (place.HostRun p) z pool line (ChangeRun page change) t u begun U = U.0
line_under (place.Log p) z pool line command t u begun U = U.0
line_under (place.Split p) z pool line (Split gfn) t u begun U = U.0
line_under _ z pool line _ t u begun U = absurd U

-- ---- how many steps are left

-- The slot that the line asks for fits the machine.
abbrev pub SlotFits : Place → Command → Held → Type 0
SlotFits (place.Log p) command h = Fits h.state.sizes (slot_asked h command)
SlotFits _ command h = Unit {0}

pub slot_fits : (z : Sizes) (v : View) (a : ℕ) (line : Line) (p : Place) → IsStep z v a line line.command p → Invariant z v
    → SlotFits p line.command (v.hand a)
slot_fits z v a line (place.Log p) S I = log_fits z v a line p line.command S I
slot_fits z v a line _ S I = tt

log_nearer : (next : LogNext) (words : List ℕ) (c : Command) (y : Sizes) (u : Topics) (n : ℕ) → log_left_after next y u < n
    → Nearer (after_log next words) c y u n
log_nearer (next_of.Goes p) words c y u n less = less
log_nearer _ words c y u n less = tt

-- Each step of a line that is no delay leaves it fewer steps, by what its hand holds alone, whatever the step finds.
pub form_nearer : (p : Place) (c : Command) (z : Sizes) (h : Held) (v : ℕ) → IsUnderWay p → IsCommandFor z h.state.actor c → PartRests h → KnowsPart p c h
    → RetiresPart p h.topics → SlotFits p c h → FindsStill (part_at p c h) h.topics v → delays_at p c h v ≡ false
    → Nearer (outcome_at p c h v) c h.state.sizes (behind_part (part_at p c h) h.topics v) (steps_left p c h.state.sizes h.topics)
form_nearer place.Between c z h v begun may rests K left fits finds on = absurd begun
form_nearer (place.Access p) (Access gfn word op) z h v begun may rests K left fits finds on =
    let V = access_vcpu z h.state.actor gfn word op may in access_nearer h gfn word op v V.1 rests p K on
form_nearer (place.SlotChange p) command z h v begun may rests K left fits finds on =
    slot_change_nearer p h command v rests K.1 (first_of_none (part_waits (slot_change_part p h command) h.topics v) false on)
form_nearer (place.Host p) (ChangeHost page change) z h v begun may rests K left fits finds on =
    host_nearer p page change h v rests K finds (first_of_none (part_waits (host_part p page change h) h.topics v) false on)
form_nearer (place.HostRun p) (ChangeRun page change) z h v begun may rests K left fits finds on =
    host_run_nearer p page change h v rests K finds (first_of_none (part_waits (host_run_part p page change h) h.topics v) false on)
form_nearer (place.Log p) command z h v begun may rests K left fits finds on =
    log_nearer (log_next p command h v) (log_reads p command h v) command h.state.sizes (part_topics (log_part p h command) h.topics v) _
    (log_falls p h command v (left.leaves refl) (left.opens refl) fits rests K (first_of_none (part_waits (log_part p h command) h.topics v) false on))
form_nearer (place.Split p) (Split gfn) z h v begun may rests K left fits finds on =
    split_nearer p gfn h v rests K (first_of_none (part_waits (split_part p gfn h.topics) h.topics v) false on)
form_nearer _ _ z h v begun may rests K left fits finds on = absurd K

-- ---- what its steps tell, and which host words they change

-- A step tells nothing of logs but at a few places.
pub tells_quiet : (p : Place) (command : Command) (h : Held) (v : ℕ) → tells_of_logs p ≡ false → ends_taking p command h ≡ false
    → AreQuiet (tells_at p command h v)
tells_quiet (place.Access p) (Access gfn word op) h v quiet on = access_quiet p h gfn word op v quiet
tells_quiet (place.Access p) _ h v quiet on = tt
tells_quiet (place.SlotChange p) command h v quiet on = change_quiet p h command v quiet
tells_quiet (place.Host p) (ChangeHost page change) h v quiet on = host_quiet p page change h v
tells_quiet (place.Host p) _ h v quiet on = tt
tells_quiet (place.HostRun p) (ChangeRun page change) h v quiet on =
    run_tells_so AreQuiet tt (λ other. (tt, tt)) (λ other refusal no_frame. (tt, (tt, tt))) p (λ at other entry. (tt, tt)) page change h v
tells_quiet (place.HostRun p) _ h v quiet on = tt
tells_quiet (place.Log p) command h v quiet on = log_quiet p command h v on
tells_quiet (place.Split p) (Split gfn) h v quiet on = split_tells_so AreQuiet tt (tt, tt) p
tells_quiet (place.Split p) _ h v quiet on = tt
tells_quiet place.Between command h v quiet on = tt

-- Only a line that sets a run changes the next page of one.
pub next_is_runs : (p : Place) (command : Command) (h : Held) → part_at p command h ≡ Some part.ChangeNext → sets_run command ≡ true
next_is_runs (place.Access p) (Access gfn word op) h at = absurd (no_access p gfn h.topics at)
next_is_runs (place.Host p) (ChangeHost page change) h at = absurd (no_host p page change h (cc at))
next_is_runs (place.SlotChange p) command h at = absurd (no_slot_change p h command (cc at))
next_is_runs (place.Log p) command h at = absurd (quiet_next (log_part p h command) (log_plain p h command).quiet at)
next_is_runs (place.HostRun p) (ChangeRun page change) h at = refl
next_is_runs (place.Split p) (Split gfn) h at = absurd (quiet_next (split_part p gfn h.topics) (split_quiet p gfn h.topics) at)
next_is_runs place.Between command h at = absurd (cc at)
next_is_runs _ _ h at = absurd (cc at)
