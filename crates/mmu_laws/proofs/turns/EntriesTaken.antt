-- Each step keeps a leaf to which links lead, or takes an entry of the guest frame from the access; and what takes one away changes it.
use Rattle.core_views.specs.declared.kind.Kind.{Kind}
use Rattle.core_views.specs.declared.kind.StepKind.{StepKind}
use Rattle.core_views.specs.declared.kind.StepKind.TheVariants as kind
use Rattle.core_views.specs.declared.place.Place.{Place}
use Rattle.core_views.specs.declared.sizes.Sizes.{Sizes}
use Rattle.core_views.specs.declared.topics.Topics.{Topics}
use Rattle.core_views.specs.declared.trace.Line.{Line}
use Rattle.core_views.specs.Held.{Held}
use Rattle.core_views.specs.Kinds.{after, answer, code_of, kind_named, operation_of, word_after, word_answered}
use Rattle.spte_words.specs.declared.area.Area.{Area}
use Rattle.spte_words.specs.declared.area.Area.TheVariants as area
use Rattle.spte_words.specs.declared.spte_kind.SpteKind.TheVariants as entry_kind
use Rattle.spte_words.specs.Areas.{place as place_of, pool_index}
use Rattle.spte_words.specs.Entries.{absent_word, can_write, kind_of}
use Rattle.spte_words.proofs.ProtectedEntries.{protected_denies, protected_is}
use Rattle.spte_words.proofs.ReadsEntries.{kind_of_absent}
use Rattle.part_steps.specs.declared.part_step.PartStep.{PartStep}
use Rattle.part_steps.specs.declared.part_step.PartStep.TheVariants as part
use Rattle.part_steps.specs.declared.task.Task.{Task}
use Rattle.part_steps.specs.PartSteps.{needs_line}
use Rattle.part_steps.specs.PartTasks.{entry_index, own_index, part_task}
use Rattle.part_steps.specs.Tasks.{kind_of_task, map_of}
use Rattle.mmu_core.specs.alone.FaultAlone.{LeadsToLeaf}
use Rattle.mmu_core.specs.invariant.Laws.{IsSound}
use Rattle.mmu_core.specs.invariant.TreePart.{at, stands}
use Rattle.mmu_core.specs.lines.PartAt.{task_at}
use Rattle.mmu_core.specs.machine.Enabled.{mmu}
use Rattle.mmu_core.specs.machine.Machine.{May, Step, World, answered, effect, found, hand_in}
use Rattle.mmu_core.specs.machine.Steps.{line_at, place_at, task_of}
use Rattle.mmu_core.specs.machine.View.{View, answer_in, part_stepped, view, word_in, words_after}
use Rattle.mmu_core.proofs.lines.StepIn.{step_in, Makes}
use Rattle.mmu_core.proofs.machine.Which.{is_next}
use Rattle.mmu_core.proofs.machine.Worlds.{Takes, TakesPart, are_small, good_step, takes}
use Rattle.mmu_laws.specs.turns.Breaking.{BreakingChangesEntries, Breaks, ChangesEntry, TakesAway}
use Rattle.mmu_laws.specs.turns.Removal.{LeadsFromRoot, LeavesStay}
use Rattle.mmu_laws.proofs.turns.LeavesStay.{IsTakenAway, TakesEntry, leads_or_takes, links_by, taken_kind, takes_entries}
use Rattle.mmu_laws.proofs.turns.Removal.{stands_or_broken}
use Rattle.std.proofs.Common.{◌≡◌, ◌⊎◌, inl, inr, ◌^◌, ◌<◌, ◌≤◌, ℕ, refl, sym, subst, ap, ◌∙◌, bit_and}
use Rattle.std.specs.Prelude.{Bool, true, false, Some}
use Rattle.mmu_laws.specs.causes.Causes.{IsEntryOf}
use Rattle.mmu_core.proofs.machine.Views.{named_is}

-- ---- what zaps an entry, or forbids writes in it, takes a leaf away

answers_by : (kind_ : StepKind) (k : Kind) (n : ℕ) → kind_named k.code ≡ kind_ → answer k n ≡ word_answered (operation_of kind_) k.new n
unfolding answer
answers_by kind_ k n is = ap (λ (x : StepKind). word_answered (operation_of x) k.new n) is

leaves_by : (kind_ : StepKind) (k : Kind) (n : ℕ) → kind_named k.code ≡ kind_ → after k n ≡ word_after (operation_of kind_) k.old k.new n
unfolding after
leaves_by kind_ k n is = ap (λ (x : StepKind). word_after (operation_of x) k.old k.new n) is

none_is : 0 ≡ absent_word
unfolding absent_word
none_is = refl

-- A step of a task of this kind on an entry of the guest frame, which answers what it found.
module _ (z : Sizes) (w : World Held) (s : Step Kind) (G : IsSound z w) (gfn : ℕ) (write : Bool) (task : Task) (is : s.kind ≡ kind_of_task z task)
    (answers : answered mmu w s.kind ≡ answer_in task (word_in z w)) where
  module _ (kind_ : StepKind) (level prefix page : ℕ) (at_page : stands G.topics.up G.topics.spot page ≡ Some (at level prefix)) (kind_is : task.kind ≡ kind_)
      (area_is : task.area ≡ area.Pool) (index_is : task.index ≡ pool_index page (entry_index gfn level))
      (plain : (written n : ℕ) → word_answered (operation_of kind_) written n ≡ n) where
    there : (page < z.pool) × (1 ≤ level) × (level ≤ 4)
    there = G.topics.tree.there page (at level prefix) at_page

    named : kind_named s.kind.code ≡ kind_
    named = ap (λ (k : Kind). kind_named k.code) is ∙ ap (λ (k : StepKind). kind_named (code_of k)) kind_is ∙ named_is kind_

    finds : found mmu w s.kind ≡ word_in z w area.Pool (pool_index page (entry_index gfn level))
    finds =
        sym (answers_by kind_ s.kind (found mmu w s.kind) named ∙ plain s.kind.new (found mmu w s.kind)) ∙ answers
        ∙ ap (λ (k : StepKind). word_answered (operation_of k) task.written (word_in z w task.area task.index)) kind_is
        ∙ plain task.written (word_in z w task.area task.index) ∙ ap (λ (b : Area). word_in z w b task.index) area_is ∙ ap (word_in z w area.Pool) index_is

    abbrev entry_is : IsEntryOf z gfn s.kind.word
    entry_is = record {
      level = level;
      from = there.1;
      to = there.2;
      page = page;
      there = there.0;
      is =
          ap (λ (k : Kind). k.word) is ∙ ap (λ (b : Area). place_of (map_of z) b task.index) area_is ∙ ap (place_of (map_of z) area.Pool) index_is;
    }

  -- It zaps a leaf, or forbids writes in one.
  takes_leaf : TakesEntry write task (stands G.topics.up G.topics.spot) (word_in z w area.Pool) gfn → Breaks z gfn write w s
  takes_leaf Z = by Z.takes
    where
      by : IsTakenAway write task (word_in z w area.Pool) Z.page (at Z.level Z.prefix) (entry_index gfn Z.level) → Breaks z gfn write w s
      by (inl zaps) =
          subst (λ (k : StepKind). TakesAway k z gfn write w s)
          (sym (named kind.Zap Z.level Z.prefix Z.page Z.at_page zaps.kind_is zaps.area_is zaps.index_is (λ written n. refl))) (record {
            entry = entry_is kind.Zap Z.level Z.prefix Z.page Z.at_page zaps.kind_is zaps.area_is zaps.index_is (λ written n. refl);
            was =
                ap (kind_of Z.level) (finds kind.Zap Z.level Z.prefix Z.page Z.at_page zaps.kind_is zaps.area_is zaps.index_is (λ written n. refl)) ∙ zaps.leaf;
            is_gone =
                leaves_by kind.Zap s.kind (found mmu w s.kind)
                (named kind.Zap Z.level Z.prefix Z.page Z.at_page zaps.kind_is zaps.area_is zaps.index_is (λ written n. refl))
                ∙ ap (λ (k : Kind). k.new) is ∙ zaps.writes ∙ none_is;
          })
      by (inr protects) =
          let forbids = protects.1 in
          let of_kind = named kind.Protect Z.level Z.prefix Z.page Z.at_page forbids.kind_is forbids.area_is forbids.index_is (λ written n. refl) in
          let is_found = finds kind.Protect Z.level Z.prefix Z.page Z.at_page forbids.kind_is forbids.area_is forbids.index_is (λ written n. refl) in
          subst (λ (k : StepKind). TakesAway k z gfn write w s) (sym of_kind) (
            protects.0,
            record {
              entry = entry_is kind.Protect Z.level Z.prefix Z.page Z.at_page forbids.kind_is forbids.area_is forbids.index_is (λ written n. refl);
              was = ap (kind_of Z.level) is_found ∙ forbids.leaf;
              allowed = ap can_write is_found ∙ forbids.allowed;
              leaves =
                  leaves_by kind.Protect s.kind (found mmu w s.kind) of_kind
                  ∙ ap (bit_and (found mmu w s.kind)) (ap (λ (k : Kind). k.new) is ∙ forbids.writes)
                  ∙ protected_is (found mmu w s.kind) (subst (λ n. n < 2 ^ 64) (sym is_found) ((are_small z w G).each area.Pool _));
            },
          )

-- A step of a part that needs no line takes nothing away.
never_takes : (step : PartStep) (own_ : ℕ) (t : Topics) (note : ℕ) → needs_line step ≡ false → takes_entries (part_task step own_ t note).kind ≡ true → ⊥
never_takes (part.Zap gfn) own_ t note free is = cc free
never_takes (part.Protect gfn) own_ t note free is = cc free
never_takes (part.Fill value) own_ t note free is = cc is
never_takes _ own_ t note free is = cc is

-- ---- from world to world

module _ (z : Sizes) (w : World Held) (s : Step Kind) (gfn : ℕ) (write : Bool) (G : IsSound z w) (may : May mmu w s) (L : LeadsFromRoot z w gfn write) where
  abbrev h : Held
  h = hand_in mmu w s.actor

  abbrev line : Line
  line = line_at h.state.place h

  abbrev stood : Place
  stood = place_at h.state.place h

  abbrev Led : (Area → ℕ → ℕ) → Type 0
  Led words = LeadsToLeaf (words area.Pool) 4 (words area.Root 0) gfn write

  abbrev Taken : Task → Type 0
  Taken task = TakesEntry write task (stands G.topics.up G.topics.spot) (word_in z w area.Pool) gfn

  abbrev StaysOrBreaks : Type 0
  StaysOrBreaks = LeadsFromRoot z (effect mmu w s) gfn write ⊎ Breaks z gfn write w s

  -- a step of a line
  by_line : (T : Takes z w s h) → Led (words_after (task_at stood line.command h) (word_in z w)) ⊎ Taken (task_at stood line.command h) → StaysOrBreaks
  by_line T (inl led) = inl (subst (λ (v : View). Led v.words) (sym T.leads) led)
  by_line T (inr Z) =
      let same : h.state.sizes ≡ z = (G.holds.lines s.actor T.is_step.there).sizes in
      let is : s.kind ≡ kind_of_task z (task_of h) = (is_next h s.kind may.enabled T.has).is ∙ ap (λ (y : Sizes). kind_of_task y (task_of h)) same in
      inr (takes_leaf z w s G gfn write (task_at stood line.command h) is T.answers Z)

  -- a step of a part, with no line
  by_part : (T : TakesPart z w s h) → Led (part_stepped s.actor T.step T.note (view z w)).words ⊎ Taken (part_task T.step (own_index h) h.topics T.note)
      → StaysOrBreaks
  by_part T (inl led) = inl (subst (λ (v : View). Led v.words) (sym T.leads) led)
  by_part T (inr Z) = absurd (never_takes T.step (own_index h) h.topics T.note T.free (taken_kind _ _ _ _ _ _ Z.takes))

  by_step : Takes z w s h ⊎ TakesPart z w s h → StaysOrBreaks
  by_step (inl T) =
      let makes = step_in z (view z w) s.actor line line.command stood (are_small z w G) T.is_step G.holds G.topics in
      by_line T (leads_or_takes z w G (task_at stood line.command h) (words_after (task_at stood line.command h) (word_in z w)) gfn write
      (links_by write z (view z w) s.actor (task_at stood line.command h) makes G.holds G.topics) L)
  by_step (inr T) =
      let task : Task = part_task T.step (own_index h) h.topics T.note in
      by_part T (leads_or_takes z w G task (words_after task (word_in z w)) gfn write
      (links_by write z (view z w) s.actor task (Makes T.step T.note T.is_part) G.holds G.topics) L)

-- Each step keeps it so, or takes an entry of the guest frame from the access.
pub leaf_stays_or_breaks : (z : Sizes) (w : World Held) (s : Step Kind) (gfn : ℕ) (write : Bool) → IsSound z w → May mmu w s → LeadsFromRoot z w gfn write
    → LeadsFromRoot z (effect mmu w s) gfn write ⊎ Breaks z gfn write w s
leaf_stays_or_breaks z w s gfn write G may L = by_step z w s gfn write G may L (takes z w s G may)

pub leaves_stay : LeavesStay
leaves_stay z w ss gfn write G legal L =
    stands_or_broken (IsSound z) (λ (u : World Held). LeadsFromRoot z u gfn write) (Breaks z gfn write) (good_step z)
    (λ u s. leaf_stays_or_breaks z u s gfn write) w ss G legal L

-- ---- what such a step changes

-- A step that takes an entry of the guest frame away changes such an entry, which isn't absent: a kind that does so has its case here.
taken_changes : (kind : StepKind) (z : Sizes) (gfn : ℕ) (write : Bool) (w : World Held) (s : Step Kind) → TakesAway kind z gfn write w s
    → ChangesEntry z gfn w s
taken_changes kind.Zap z gfn write w s T = record {
  entry = T.entry;
  is_there = λ absent. let leaf = T.was in cc (absent, leaf);
  changes = λ same.
      let leaf = T.was in
      let absent : kind_of T.entry.level (found mmu w s.kind) ≡ entry_kind.Absent = ap (kind_of T.entry.level) (sym same ∙ T.is_gone)
      ∙ kind_of_absent T.entry.level in
      cc (absent, leaf);
}
taken_changes kind.Protect z gfn write w s (is, T) = record {
  entry = T.entry;
  is_there = λ absent. let leaf = T.was in cc (absent, leaf);
  changes = λ same.
      let denies : can_write (found mmu w s.kind) ≡ false = ap can_write (sym same ∙ T.leaves) ∙ protected_denies (found mmu w s.kind) in
      let allows = T.allowed in
      cc (denies, allows);
}
taken_changes _ z gfn write w s takes_ = absurd takes_

pub breaking_changes_entries : BreakingChangesEntries
breaking_changes_entries z gfn write w s G may breaks = taken_changes (kind_named s.kind.code) z gfn write w s breaks
