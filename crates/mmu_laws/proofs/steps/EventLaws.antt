-- Each event that a step tells is of its word, and of what it finds and leaves there.
use Rattle.std.proofs.Common.{◌≡◌, ◌≤◌, ◌<◌, ◌+◌, eqb-true, ℕ, List, [], ◌∷◌, refl, sym, subst, ap, arith}
use Rattle.std.proofs.lemmas.List.Elements.{All-append, All-cons, All-map, All-nil}
use Rattle.std.specs.Prelude.{All, Bool, Option, Some, true, false, ◌==◌, nat_lt, if◌then◌else◌}
use Rattle.std.proofs.lemmas.Bool.Decides.{nat_tests}
use Rattle.core_views.specs.declared.event.Event.{Event}
use Rattle.core_views.specs.declared.event.EventKind.{EventKind}
use Rattle.core_views.specs.declared.event.EventKind.TheVariants.{SlotChanged, BroughtIn, HostChanged, LookedAtHost}
use Rattle.core_views.specs.declared.kind.Kind.{Kind}
use Rattle.core_views.specs.declared.place.AccessPlace.{AccessPlace}
use Rattle.core_views.specs.declared.place.AccessPlace.TheVariants.{Fault, Pause, Touch}
use Rattle.core_views.specs.declared.place.FaultPlace.TheVariants as fault
use Rattle.core_views.specs.declared.place.HostPlace.{HostPlace}
use Rattle.core_views.specs.declared.place.HostPlace.TheVariants as host_at
use Rattle.core_views.specs.declared.place.FrameRange.{FrameRange}
use Rattle.core_views.specs.declared.place.Place.{Place}
use Rattle.core_views.specs.declared.place.SlotChangePlace.TheVariants.{WriteProtect}
use Rattle.core_views.specs.declared.place.WriteProtectPlace.TheVariants as protect
use Rattle.core_views.specs.declared.place.Place.TheVariants as place
use Rattle.core_views.specs.declared.sizes.Sizes.{Sizes}
use Rattle.core_views.specs.declared.trace.Command.{Command}
use Rattle.core_views.specs.declared.trace.Command.TheVariants.{Access, ChangeHost}
use Rattle.core_views.specs.declared.trace.HostChange.{HostChange}
use Rattle.core_views.specs.declared.trace.Op.{Op}
use Rattle.core_views.specs.declared.trace.Op.TheVariants.{Add, Read, Write}
use Rattle.core_views.specs.Held.{Held, has_line}
use Rattle.core_views.specs.HostChanges.{is_own}
use Rattle.core_views.specs.Slots.{is_write}
use Rattle.mmu_core.specs.forms.access.AccessKnows.{AccessKnows}
use Rattle.spte_words.specs.HostWords.{host_present}
use Rattle.mmu_laws.proofs.steps.AllowedWords.{words_tell}
use Rattle.mmu_core.specs.declared.outcome.Outcome.{Outcome}
use Rattle.mmu_core.specs.invariant.Laws.{IsSound}
use Rattle.part_steps.specs.PartTasks.{page_looked, word_looked}
use Rattle.mmu_core.specs.lines.Forms.{KnowsPart, note_at, outcome_at, part_at, tells_at}
use Rattle.mmu_core.specs.lines.PartAt.{touch_at}
use Rattle.mmu_core.proofs.lines.Forms.{place_tells}
use Rattle.part_steps.specs.ControlBits.{has_to_flush}
use Rattle.mmu_core.proofs.lines.SimplePlaces.{Told, Nothing, Arms, ArmsClean, Exit, Change, OfAccess, OfHost, OfHostRun, OfLog}
use Rattle.part_steps.specs.declared.part_step.PartStep.{PartStep}
use Rattle.mmu_core.specs.machine.Enabled.{mmu}
use Rattle.mmu_core.specs.machine.Machine.{May, Step, World, answered, hand_in}
use Rattle.mmu_core.specs.forms.access.AccessSteps.{fault_over, task_by, exiting}
use Rattle.mmu_core.specs.forms.host.HostKnows.{HostKnows}
use Rattle.mmu_core.specs.forms.host.HostSteps.{entry_of, host_outcome, word_put, after_look}
use Rattle.core_views.specs.declared.kind.StepKind.TheVariants as kind
use Rattle.spte_words.specs.Areas.{place as place_of}
use Rattle.spte_words.specs.declared.area.Area.TheVariants as area
use Rattle.part_steps.specs.declared.part_step.PartStep.TheVariants as part
use Rattle.part_steps.specs.Tasks.{map_of}
use Rattle.part_steps.specs.PartTasks.{own_index, part_task, page_looked}
use Rattle.core_views.specs.Sizes.{actors_of}
use Rattle.mmu_core.specs.machine.Steps.{beginning, events_by, events_of, place_at, task_at, task_of}
use Rattle.mmu_core.specs.machine.Turns.{line_of}
use Rattle.mmu_core.specs.machine.View.{view}
use Rattle.mmu_core.proofs.lines.KnowsKept.{knows_at}
use Rattle.mmu_core.proofs.machine.Which.{is_next}
use Rattle.part_steps.specs.Tasks.{kind_of_task}
use Rattle.mmu_laws.specs.steps.EventLaws.{HasAwaited, IsOfKindOn, MayTell, MayTellOf}
use Rattle.mmu_laws.proofs.steps.MayTells.{AllMay, answers_so, begins_so, exits_so, none, one}
use Rattle.mmu_laws.proofs.forms.host_run.RunTold.{host_run_told}
use Rattle.mmu_laws.proofs.forms.log.ReadingEvents.{log_told}
use Rattle.core_views.specs.declared.answer.Refusal.TheVariants.{OutOfRange}
use Rattle.core_views.specs.declared.answer.Answer.TheVariants.{Refused}
use Rattle.mmu_core.specs.declared.outcome.Outcome.TheVariants.{Ends}

module _ (h : Held) (v : ℕ) where
  abbrev z : Sizes
  z = h.state.sizes

  abbrev AllTold : Place → Command → Type 0
  AllTold p command = AllMay z h v command (outcome_at p command h v) (kind_of_task z (task_at p command h)) (tells_at p command h v)

  touch_told : (gfn word : ℕ) (op : Op) → AllTold (place.Access Touch) (Access gfn word op)
  touch_told gfn word Read = one z h v _ _ _ _ (record { at = record { kind_is = refl; on = refl }; finds = refl })
  touch_told gfn word (Write x) = one z h v _ _ _ _ (record { at = record { kind_is = refl; on = refl }; finds = refl })
  touch_told gfn word (Add x) = one z h v _ _ _ _ (record { at = record { kind_is = refl; on = refl }; finds = refl })

  find_told : (begun : Bool) (gfn word : ℕ) (op : Op) → AllTold (place.Access (Fault (fault.Find begun))) (Access gfn word op)
  find_told true gfn word op = none z h v _ _ _
  find_told false gfn word op = one z h v _ _ _ _ (record { kind_is = refl; on = refl })

  bring_told : (won : Bool) (gfn word : ℕ) (op : Op) → (v == word_looked h.topics.host) ≡ won → host_present (word_looked h.topics.host) ≡ false
      → AllMay z h v (Access gfn word op) (outcome_at (place.Access (Fault fault.Bring)) (Access gfn word op) h v)
      (kind_of_task z (task_at (place.Access (Fault fault.Bring)) (Access gfn word op) h))
      (if won then BroughtIn (page_looked h.topics.host) ∷ [] else [])
  bring_told true gfn word op is absent =
      one z h v _ _ _ _ (record {
        at = record { kind_is = refl; on = refl };
        won = eqb-true v (word_looked h.topics.host) is;
        absent = absent;
        leaves = (words_tell true 0 (word_looked h.topics.host)).presence;
      })
  bring_told false gfn word op is absent = none z h v _ _ _

  access_told : (p : AccessPlace) (gfn word : ℕ) (op : Op) → AccessKnows p gfn (is_write op) h → AllTold (place.Access p) (Access gfn word op)
  access_told (Pause again) gfn word op K = one z h v _ _ _ _ (record { kind_is = refl; on = refl })
  access_told Touch gfn word op K = touch_told gfn word op
  access_told (Fault (fault.Find begun)) gfn word op K = find_told begun gfn word op
  access_told (Fault (fault.FastFind true)) gfn word op K = none z h v _ _ _
  access_told (Fault (fault.FastFind false)) gfn word op K = one z h v _ _ _ _ (record { kind_is = refl; on = refl })
  access_told (Fault fault.Host) gfn word op K = one z h v _ _ _ _ (record { kind_is = refl; on = refl })
  access_told (Fault fault.Bring) gfn word op K = bring_told (v == word_looked h.topics.host) gfn word op refl K.1.presence
  access_told (Fault (fault.End e)) gfn word op K = exits_so z h v _ _ (fault_over e)
  access_told _ gfn word op K = none z h v _ _ _

  -- A step that publishes is of the set's word.
  publishes : (p : Place) (command : Command) → part_at p command h ≡ Some part.Publish
      → IsOfKindOn z kind.Publish area.Slots 0 (kind_of_task z (task_at p command h))
  publishes p command at =
      subst (λ (s : Option PartStep). IsOfKindOn z kind.Publish area.Slots 0 (kind_of_task z (task_by s h (note_at p command h) (touch_at command h))))
      (sym at) (record { kind_is = refl; on = refl })

  awaited_last : (range : FrameRange) (command : Command) → KnowsPart (place.SlotChange (WriteProtect range protect.Await)) command h
      → has_to_flush v ≡ false → nat_lt (h.topics.flush.awaited + 1) z.vcpus ≡ false
      → HasAwaited z h (kind_of_task z (task_at (place.SlotChange (WriteProtect range protect.Await)) command h)) v
  awaited_last range command K seen last =
      let lt = K.1.1.2 in
      let all : z.vcpus ≤ h.topics.flush.awaited + 1 = grind (arith, nat_tests) in
      record {
        flushed = record {
          at = record { kind_is = refl; on = refl };
          seen = seen;
          loose = K.1.1.0.free.loose;
          asked = K.1.1.1;
          last = omega (arith, lt, all);
        };
        watched = K.1.0;
      }

  look_told : (own : Bool) (page : ℕ) (command : Command) (o : Outcome)
      → AllMay z h v command (if own then o else Ends (Refused OutOfRange))
      (kind_of_task z (part_task (if own then part.Host page else part.Seq) (own_index h) h.topics 1)) (if own then LookedAtHost page ∷ exiting o else [])
  look_told true page command o =
      let k : Kind = kind_of_task z (part_task (part.Host page) (own_index h) h.topics 1) in
      All-cons (MayTellOf z h command o k v) (LookedAtHost page) _ (record { kind_is = refl; on = refl }) (exits_so z h v command k o)
  look_told false page command o = none z h v _ _ _

  exchange_told : (won : Bool) (page : ℕ) (change : HostChange) → (v == word_looked h.topics.host) ≡ won → page_looked h.topics.host ≡ page
      → AllMay z h v (ChangeHost page change) (outcome_at (place.Host host_at.Change) (ChangeHost page change) h v)
      (kind_of_task z (task_at (place.Host host_at.Change) (ChangeHost page change) h))
      (if won then HostChanged page (entry_of (word_put change h.topics)) ∷ [] else [])
  exchange_told true page change is at =
      one z h v _ _ _ _ (record {
        at = record { kind_is = refl; on = ap (λ (i : ℕ). place_of (map_of z) area.Host i) at };
        won = eqb-true v (word_looked h.topics.host) is;
        leaves = refl;
      })
  exchange_told false page change is at = none z h v _ _ _

  host_told : (p : HostPlace) (page : ℕ) (change : HostChange) → HostKnows p page change h → AllTold (place.Host p) (ChangeHost page change)
  host_told (host_at.Look moving) page change K = look_told (is_own z h.state.actor page) page _ (after_look moving v)
  host_told (host_at.Claim begun) page change K = exits_so z h v _ _ (host_outcome (host_at.Claim begun) page h v)
  host_told host_at.Change page change K = exchange_told (v == word_looked h.topics.host) page change refl K.0.at
  host_told _ page change K = none z h v _ _ _

  line_told : (p : Place) (command : Command) (kinds : List EventKind) → Told h v p command kinds → KnowsPart p command h
      → AllMay z h v command (outcome_at p command h v) (kind_of_task z (task_at p command h)) kinds
  line_told p command _ Nothing K = none z h v _ _ _
  line_told p command _ (Exit no_frame) K = exits_so z h v _ _ (outcome_at p command h v)
  line_told p command _ (Arms id at) K = one z h v _ _ _ _ (publishes p command at)
  line_told _ command _ (ArmsClean range id seen last) K = one z h v _ _ _ _ (awaited_last range command K seen last)
  line_told p command _ (Change id slot at more) K =
      All-cons (MayTellOf z h command (outcome_at p command h v) (kind_of_task z (task_at p command h)) v) (SlotChanged id slot) _
      (publishes p command at) (line_told p command _ more K)
  line_told _ _ _ (OfAccess p gfn word op) K = access_told p gfn word op K
  line_told _ command _ (OfLog p) K = log_told h v p command K
  line_told _ _ _ (OfHost p page change) K = host_told p page change K
  line_told _ _ _ (OfHostRun p page change) K = host_run_told h v p page change K

  -- with its line's begin and its answer
  all_told : KnowsPart (place_at h.state.place h) (line_of h).command h
      → All (λ (e : Event). MayTell z h (kind_of_task z (task_of h)) v e.kind) (events_by true h v)
  all_told K =
      let p : Place = place_at h.state.place h in
      let c : Command = (line_of h).command in
      let o : Outcome = outcome_at p c h v in
      let k : Kind = kind_of_task z (task_of h) in
      All-map (λ (e : Event). MayTell z h k v e.kind) (λ (event : EventKind). record { actor = h.state.actor; kind = event }) _
      (All-append (MayTell z h k v) (beginning h.state.place (line_of h)) _ (begins_so z h v c o k h.state.place (line_of h))
      (All-append (MayTell z h k v) (tells_at p c h v) _ (line_told p c _ (place_tells p c h v) K) (answers_so z h v c k o (line_of h))))

pub events_are_of_their_steps : (z : Sizes) (w : World Held) (s : Step Kind) → IsSound z w → May mmu w s
    → All (λ (e : Event). MayTell z (hand_in mmu w s.actor) s.kind (answered mmu w s.kind) e.kind) (events_of (hand_in mmu w s.actor) (answered mmu w s.kind))
unfolding events_of
events_are_of_their_steps z w s G may = by (has_line h) refl
  where
    h : Held
    h = hand_in mmu w s.actor

    v : ℕ
    v = answered mmu w s.kind

    there : s.actor < actors_of z
    there = omega (arith, may.there, G.hands)

    same : h.state.sizes ≡ z
    same = (G.holds.lines s.actor there).sizes

    by : (b : Bool) → has_line h ≡ b → All (λ (e : Event). MayTell z h s.kind v e.kind) (events_by b h v)
    by false is = All-nil (λ (e : Event). MayTell z h s.kind v e.kind)
    by true is =
        let N = is_next h s.kind may.enabled is in
        subst (λ (k : Kind). All (λ (e : Event). MayTell z h k v e.kind) (events_by true h v)) (sym N.is)
        (subst (λ (y : Sizes). All (λ (e : Event). MayTell y h (kind_of_task h.state.sizes (task_of h)) v e.kind) (events_by true h v)) same
        (all_told h v (knows_at z (view z w) s.actor G.holds there N.left)))
