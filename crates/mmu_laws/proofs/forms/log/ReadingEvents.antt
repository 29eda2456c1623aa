-- What the steps of a line tell that reads a dirty log: that the reading begins, with the lock or the first word, and what was read, with the answer.
use Rattle.core_views.specs.LogCommands.{log_read}
use Rattle.core_views.specs.declared.place.LogPlace.{LogPlace}
use Rattle.core_views.specs.declared.place.LogPlace.TheVariants.{Exclude, Await, Peek}
use Rattle.mmu_core.specs.declared.log_next.LogNext.TheVariants as next
use Rattle.mmu_core.specs.forms.log.LogKnows.{LogKnows}
use Rattle.mmu_core.specs.forms.log.LogOutcomes.{after_log}
use Rattle.mmu_core.specs.forms.log.LogSteps.{frames_read, read_more, slot_asked, word_end, word_read}
use Rattle.mmu_core.specs.forms.log.LogTells.{harvested, shown, taken}
use Rattle.std.proofs.Common.{◌≡◌, ◌≤◌, ◌+◌, eqb-true, inl, inr, ℕ, List, [], refl, arith}
use Rattle.std.proofs.lemmas.List.Elements.{All-append}
use Rattle.std.specs.Prelude.{Bool, Option, Some, None, true, false, ◌==◌, ◌||◌, not, nat_lt, if◌then◌else◌}
use Rattle.std.proofs.lemmas.Bool.Decides.{nat_tests}
use Rattle.core_views.specs.declared.kind.Kind.{Kind}
use Rattle.core_views.specs.declared.place.Place.TheVariants as place
use Rattle.core_views.specs.declared.sizes.Sizes.{Sizes}
use Rattle.core_views.specs.declared.trace.Command.{Command}
use Rattle.core_views.specs.Held.{Held}
use Rattle.mmu_core.specs.declared.outcome.Outcome.{Outcome}
use Rattle.mmu_core.specs.lines.Forms.{outcome_at}
use Rattle.part_steps.specs.ControlBits.{has_to_flush}
use Rattle.mmu_core.specs.machine.Steps.{task_at}
use Rattle.part_steps.specs.Tasks.{kind_of_task}
use Rattle.mmu_laws.specs.steps.EventLaws.{LoadsLogWord, MayTellOf}
use Rattle.core_views.specs.LogCommands.{takes_out}
use Rattle.mmu_core.specs.forms.log.LogTells.{log_tells}
use Rattle.mmu_laws.proofs.steps.MayTells.{AllMay, none, one}

module _ (h : Held) (v : ℕ) where
  abbrev z : Sizes
  z = h.state.sizes

  abbrev log_kind : LogPlace → Command → Kind
  log_kind p command = kind_of_task z (task_at (place.Log p) command h)

  exclude_told : (free : Bool) (reads : Option ℕ) (command : Command) (o : Outcome) → takes_out z.mode command ≡ true → (v == 0) ≡ free
      → AllMay z h v command o (log_kind Exclude command) (if free then taken reads else [])
  exclude_told true (Some id) command o takes is =
      one z h v _ _ _ _ (inl (record { at = record { kind_is = refl; on = refl }; free = eqb-true v 0 is; takes = takes }))
  exclude_told true None command o takes is = none z h v _ _ _
  exclude_told false reads command o takes is = none z h v _ _ _

  -- after the last virtual processor's flush
  abbrev frames_out : Command → List ℕ
  frames_out command = frames_read (slot_asked h command) command h.harvest

  await_told : (waits more : Bool) (reads : Option ℕ) (command : Command) → has_to_flush v ≡ waits
      → nat_lt (h.topics.flush.awaited + 1) z.vcpus ≡ more → LogKnows Await command h
      → AllMay z h v command (after_log (if waits || not (not more) then next.Goes Await else next.Reads) h.harvest) (log_kind Await command)
      (if waits || not (not more) then [] else harvested reads (frames_out command))
  await_told true more reads command waits last K = none z h v _ _ _
  await_told false true reads command waits last K = none z h v _ _ _
  await_told false false None command waits last K = none z h v _ _ _
  await_told false false (Some id) command waits last K =
      let lt = K.5 in
      let all : z.vcpus ≤ h.topics.flush.awaited + 1 = grind (arith, nat_tests) in
      one z h v _ _ _ _ (
        record {
          at = record { kind_is = refl; on = refl };
          seen = waits;
          loose = K.0.loose;
          asked = K.4;
          last = omega (arith, lt, all);
        },
        record { words = h.harvest; ends = refl; are = refl },
      )

  -- with a word that it loads
  abbrev word_at : Bool → Command → ℕ
  word_at begun command = word_read begun (slot_asked h command) command h.topics

  loads : (begun : Bool) (command : Command) → LogKnows (Peek begun) command h
      → LoadsLogWord z command (word_at begun command) (log_kind (Peek begun) command)
  loads begun command K = record { at = record { kind_is = refl; on = refl }; keeps = K.2 }

  peek_taken : (begun : Bool) (reads : Option ℕ) (command : Command) (o : Outcome) → LogKnows (Peek begun) command h
      → AllMay z h v command o (log_kind (Peek begun) command) (if begun then [] else taken reads)
  peek_taken true reads command o K = none z h v _ _ _
  peek_taken false None command o K = none z h v _ _ _
  peek_taken false (Some id) command o K = one z h v _ _ _ _ (inr (loads false command K))

  peek_shown : (begun more : Bool) (reads : Option ℕ) (command : Command) (words : List ℕ)
      → nat_lt (word_at begun command + 1) (word_end (slot_asked h command) command) ≡ more → LogKnows (Peek begun) command h
      → AllMay z h v command (after_log (if not more then next.Reads else next.Goes (Peek true)) words) (log_kind (Peek begun) command)
      (if not more then shown reads (frames_read (slot_asked h command) command words) else [])
  peek_shown begun true reads command words last K = none z h v _ _ _
  peek_shown begun false None command words last K = none z h v _ _ _
  peek_shown begun false (Some id) command words last K =
      let lt = K.3.left in
      let all : word_end (slot_asked h command) command ≤ word_at begun command + 1 = grind (arith, nat_tests) in
      one z h v _ _ _ _ (
        record { index = word_at begun command; loads = loads begun command K; last = omega (arith, lt, all) },
        record { words = words; ends = refl; are = refl },
      )

  pub log_told : (p : LogPlace) (command : Command) → LogKnows p command h → AllMay z h v command (outcome_at (place.Log p) command h v) (log_kind p command)
      (log_tells p command h v)
  log_told Exclude command K = exclude_told (v == 0) (log_read command) command _ K.1.1 refl
  log_told Await command K = await_told (has_to_flush v) (nat_lt (h.topics.flush.awaited + 1) z.vcpus) (log_read command) command refl refl K
  log_told (Peek begun) command K =
      All-append (MayTellOf z h command (outcome_at (place.Log (Peek begun)) command h v) (log_kind (Peek begun) command) v)
      (if begun then [] else taken (log_read command)) _ (peek_taken begun (log_read command) command _ K)
      (peek_shown begun (nat_lt (word_at begun command + 1) (word_end (slot_asked h command) command)) (log_read command) command
      (read_more begun (slot_asked h command) command h v) refl K)
  log_told _ command K = none z h v _ _ _
