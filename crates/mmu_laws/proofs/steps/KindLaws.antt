-- What a hand holds that makes a step of a kind: which step of a part it is, what this needs, and so what is zapped and brought in.
use Rattle.std.proofs.Common.{◌≡◌, ◌≢◌, ◌⊎◌, inl, inr, ◌<◌, ◌/◌, ℕ, refl, sym, subst, ap, ◌∙◌, arith}
use Rattle.std.specs.Prelude.{true, Some, Option, None, is_some, false}
use Rattle.core_views.specs.declared.kind.Kind.{Kind}
use Rattle.core_views.specs.declared.kind.StepKind.{StepKind}
use Rattle.core_views.specs.declared.kind.StepKind.TheVariants as kind
use Rattle.core_views.specs.declared.place.Place.{Place}
use Rattle.core_views.specs.declared.sizes.Sizes.{Sizes}
use Rattle.core_views.specs.declared.topics.Hold.TheVariants.{Exclusive}
use Rattle.core_views.specs.declared.topics.HostLook.{HostLook}
use Rattle.core_views.specs.declared.topics.Stay.TheVariants.{Outside}
use Rattle.core_views.specs.declared.topics.Topics.{Topics}
use Rattle.core_views.specs.declared.trace.Command.{Command}
use Rattle.core_views.specs.declared.trace.Op.{Op}
use Rattle.core_views.specs.declared.trace.Op.TheVariants.{Add, Read, Write}
use Rattle.core_views.specs.Held.{Held, has_line}
use Rattle.core_views.specs.Kinds.{kind_named}
use Rattle.core_views.specs.Sizes.{actors_of}
use Rattle.spte_words.specs.HostWords.{host_present, with_presence}
use Rattle.spte_words.specs.declared.area.Area.TheVariants as area
use Rattle.spte_words.specs.declared.spte_kind.SpteKind.TheVariants as entry_kind
use Rattle.spte_words.specs.Areas.{pool_index}
use Rattle.spte_words.specs.Entries.{can_write, kind_of, level_span}
use Rattle.part_steps.specs.declared.part_step.PartStep.{PartStep}
use Rattle.part_steps.specs.declared.part_step.PartStep.TheVariants as part
use Rattle.part_steps.specs.declared.task.Task.{Task}
use Rattle.part_steps.specs.LockHoldings.{MayRelease}
use Rattle.part_steps.specs.PartHoldings.{SawEntry}
use Rattle.part_steps.specs.PartSteps.{needs_line}
use Rattle.part_steps.specs.PartTasks.{entry_index, own_index, page_looked, part_task, table_page, word_looked}
use Rattle.part_steps.specs.Tasks.{kind_of_task}
use Rattle.mmu_core.specs.alone.FaultAlone.{LeadsTo}
use Rattle.mmu_core.specs.invariant.InvalidationsPart.{IsEntryStill}
use Rattle.mmu_core.specs.invariant.Laws.{IsSound}
use Rattle.mmu_core.specs.invariant.TreePart.{at, stands}
use Rattle.mmu_core.specs.lines.Forms.{note_at, part_at}
use Rattle.mmu_core.specs.lines.PartAt.{touch_at}
use Rattle.mmu_core.specs.forms.access.AccessSteps.{task_by, touch_of}
use Rattle.mmu_core.specs.machine.Enabled.{IsPartStep, mmu}
use Rattle.mmu_core.specs.machine.Machine.{May, Step, World, hand_in}
use Rattle.mmu_core.specs.machine.Steps.{place_at}
use Rattle.mmu_core.specs.machine.Turns.{line_of}
use Rattle.mmu_core.specs.machine.View.{view, word_in}
use Rattle.mmu_core.proofs.invariant.Kept.{makes_at}
use Rattle.mmu_core.proofs.invariant.QuietKept.{MakesAt, touched}
use Rattle.mmu_core.proofs.machine.Views.{named_is}
use Rattle.mmu_core.proofs.machine.Which.{is_next, is_part}
use Rattle.mmu_core.proofs.machine.Worlds.{Takes, TakesPart, are_small, takes}
use Rattle.mmu_laws.specs.steps.InvalidationLaws.{BringsAbsentPage, BringsAreOfAbsentPages, ZapsAreOfOpenInvalidations}
use Rattle.mmu_laws.specs.steps.InvalidationLaws.{HasNoneLeft, ReleasesLeaveNothing, ZapsOwnFrame}
use Rattle.mmu_laws.proofs.steps.ReleaseLaws.{none_left}
use Rattle.mmu_laws.specs.steps.TouchLaws.{touches}
use Rattle.mmu_laws.proofs.causes.MadeSteps.{Makes, in_machine, word_on}
use Rattle.mmu_laws.proofs.leaves.LeadsDown.{leads_at, leads_linked}
use Rattle.mmu_core.proofs.pages.EntryStill.{still_leaf}
use Rattle.mmu_core.proofs.pages.Linked.{walk_linked}

-- A step of this kind is one of a part.
abbrev pub IsOfPart : StepKind → Type 0
IsOfPart k = (op : Op) (index : ℕ) → (touch_of op index).kind ≢ k

-- It is, unless a guest touches memory with it.
pub no_touch : (k : StepKind) → touches k ≡ false → IsOfPart k
no_touch k other Read index is = let touch = ap touches is in cc (touch, other)
no_touch k other (Write x) index is = let touch = ap touches is in cc (touch, other)
no_touch k other (Add x) index is = let touch = ap touches is in cc (touch, other)

module _ (z : Sizes) (w : World Held) (s : Step Kind) (G : IsSound z w) (may : May mmu w s) where
  abbrev pub h : Held
  h = hand_in mmu w s.actor

  abbrev pub t : Topics
  t = h.topics

  -- It is the next step of its actor's line, which is this step of a part.
  pub record TakesStep (step : PartStep) : Type 0 where
    pub takes_ : Takes z w s h
    pub at : part_at (place_at h.state.place h) (line_of h).command h ≡ Some step

  -- The step of a part that it is, of this kind.
  pub record Made (k : StepKind) : Type 0 where
    pub step : PartStep
    pub makes : Makes h s step
    pub kind_is : (part_task step (own_index h) t makes.note).kind ≡ k
    pub of_line : needs_line step ≡ true → TakesStep step

  of_kind : (k : StepKind) (task : Task) → s.kind ≡ kind_of_task h.state.sizes task → kind_named s.kind.code ≡ k → task.kind ≡ k
  of_kind k task is named = sym (named_is task.kind) ∙ (sym (ap (λ (x : Kind). kind_named x.code) is) ∙ named)

  -- where the line stands, and its command
  abbrev stood : Place
  stood = place_at h.state.place h

  abbrev command : Command
  command = (line_of h).command

  by_part : (k : StepKind) → IsOfPart k → kind_named s.kind.code ≡ k → Takes z w s h → MakesAt z (view z w) s.actor stood command → (o : Option PartStep)
      → part_at stood command h ≡ o → s.kind ≡ kind_of_task h.state.sizes (task_by o h (note_at stood command h) (touch_at command h)) → Made k
  by_part k other named T makes (Some step) at is = record {
    step = step;
    makes = record { note = note_at stood command h; is = is; needs = (makes step at).needs };
    kind_is = of_kind k (part_task step (own_index h) t (note_at stood command h)) is named;
    of_line = λ needs. record { takes_ = T; at = at };
  }
  by_part k other named T makes None at is =
      let touch = touched stood command h at in
      absurd (other touch.0 touch.1 (ap (λ (x : Task). x.kind) (sym touch.2) ∙ of_kind k (touch_at command h) is named))

  pub made : (k : StepKind) → IsOfPart k → kind_named s.kind.code ≡ k → Made k
  made k other named = by (takes z w s G may)
    where
      by : Takes z w s h ⊎ TakesPart z w s h → Made k
      by (inl T) =
          by_part k other named T (makes_at z (view z w) s.actor (line_of h) command stood (are_small z w G) T.is_step G.holds G.topics)
          (part_at stood command h) refl (is_next h s.kind may.enabled T.has).is
      by (inr T) =
          let P : IsPartStep h s.kind = is_part h s.kind may.enabled T.none_left in
          record {
            step = P.step;
            makes = record { note = P.note; is = P.is; needs = P.needs };
            kind_is = of_kind k (part_task P.step (own_index h) t P.note) P.is named;
            of_line = λ needs. let free = P.free in absurd (cc (needs, free));
          }

  -- ---- what is zapped

  abbrev pub pool : ℕ → ℕ
  pool = word_in z w area.Pool

  abbrev pub page : ℕ
  page = table_page t.walk

  abbrev pub entry : ℕ → ℕ
  entry gfn = pool (pool_index page (entry_index gfn t.walk.level))

  -- A leaf that was seen under the lock alone is one still, to which links lead, and what it was where it allowed writes.
  pub record SeenLeaf (gfn : ℕ) : Type 0 where
    pub leads : LeadsTo pool 4 (word_in z w area.Root 0) gfn t.walk.level (entry gfn)
    pub leaf : kind_of t.walk.level (entry gfn) ≡ entry_kind.Leaf
    pub allows : can_write t.walk.entry ≡ true → can_write (entry gfn) ≡ true

  pub seen_leaf : (gfn : ℕ) → t.hold ≡ Exclusive → t.stay ≡ Outside → SawEntry gfn t.walk → kind_of t.walk.level t.walk.entry ≡ entry_kind.Leaf → SeenLeaf gfn
  seen_leaf gfn alone outside saw leaf = record {
    leads = (leads_linked z w gfn page t.walk.level t.walk.level (entry gfn) G (walk_linked z (view z w) G.topics s.actor there saw.over.there)
        stood).above
        (leads_at pool t.walk.level page gfn (entry gfn) saw.over.there refl here);
    leaf = here;
    allows = λ writes. allowed writes still;
  }
    where
      there : s.actor < actors_of z
      there = in_machine z w s G may

      at_page : stands G.topics.up G.topics.spot page ≡ Some (at t.walk.level t.walk.prefix)
      at_page = (G.topics.held s.actor there).table saw.over.there

      stood : stands G.topics.up G.topics.spot page ≡ Some (at t.walk.level (gfn / level_span t.walk.level / 512))
      stood = at_page ∙ ap (λ p. Some (at t.walk.level p)) (sym saw.over.span)

      still : IsEntryStill t.walk.level (entry gfn) t.walk.entry
      still =
          let loaded = saw.loaded in
          subst (λ i. IsEntryStill t.walk.level (pool (pool_index page i)) t.walk.entry) loaded
          (G.topics.loaded s.actor there alone outside saw.over.there (omega (arith, loaded)))

      here : kind_of t.walk.level (entry gfn) ≡ entry_kind.Leaf
      here = still_leaf t.walk.level _ t.walk.entry still leaf

      allowed : can_write t.walk.entry ≡ true → IsEntryStill t.walk.level (entry gfn) t.walk.entry → can_write (entry gfn) ≡ true
      allowed writes (inl same) = ap can_write same ∙ writes
      allowed writes (inr fixed) = let denied = fixed.denied in absurd (cc (denied, writes))

  zaps_leaf : (gfn : ℕ) → Makes h s (part.Zap gfn) → ZapsOwnFrame z w s
  zaps_leaf gfn M =
      let L = seen_leaf gfn M.needs.alone M.needs.outside M.needs.saw M.needs.leaf in
      record {
        alone = M.needs.alone;
        opened = M.needs.opened;
        gfn = gfn;
        of_own = (M.needs.from, M.needs.to);
        level = t.walk.level;
        page = page;
        on = word_on z w s G may (part.Zap gfn) M;
        leads = L.leads;
        leaf = L.leaf;
      }

  -- ---- what is brought in

  this_look : (o : Option HostLook) → is_some o ≡ true → o ≡ Some (record { page = page_looked o; word = word_looked o })
  this_look None some = absurd (cc some)
  this_look (Some look) some = refl

  brings_page : Makes h s part.Bring → BringsAbsentPage z w s
  brings_page M = record {
    page = page_looked t.host;
    on = word_on z w s G may part.Bring M;
    section = M.needs.section;
    looked = this_look t.host M.needs.looked ∙ ap (λ x. Some (record { page = page_looked t.host; word = x })) (sym (ap (λ (k : Kind). k.old) M.is));
    absent = ap host_present (ap (λ (k : Kind). k.old) M.is) ∙ M.needs.absent;
    puts = ap (λ (k : Kind). k.new) M.is ∙ ap (with_presence true) (sym (ap (λ (k : Kind). k.old) M.is));
  }

  -- ---- by the kind

  zapping : (step : PartStep) (M : Makes h s step) → (part_task step (own_index h) t M.note).kind ≡ kind.Zap → ZapsOwnFrame z w s
  zapping (part.Zap gfn) M is = zaps_leaf gfn M
  zapping (part.Fill value) M is = absurd (cc is)
  zapping _ M is = absurd (cc is)

  bringing : (step : PartStep) (M : Makes h s step) → (part_task step (own_index h) t M.note).kind ≡ kind.Bring → BringsAbsentPage z w s
  bringing part.Bring M is = brings_page M
  bringing (part.Fill value) M is = absurd (cc is)
  bringing _ M is = absurd (cc is)

  releasing : (step : PartStep) (M : Makes h s step) → (part_task step (own_index h) t M.note).kind ≡ kind.Release
      → MayRelease h × (has_line h ≡ true → HasNoneLeft t)
  releasing part.Release M is = (M.needs, none_left h M.needs)
  releasing (part.Fill value) M is = absurd (cc is)
  releasing _ M is = absurd (cc is)

pub zaps_are_of_open_invalidations : ZapsAreOfOpenInvalidations
zaps_are_of_open_invalidations z w s G may named =
    let M = made z w s G may kind.Zap (no_touch kind.Zap refl) named in zapping z w s G may M.step M.makes M.kind_is

pub releases_leave_nothing : ReleasesLeaveNothing
releases_leave_nothing z w s G may named =
    let M = made z w s G may kind.Release (no_touch kind.Release refl) named in releasing z w s G may M.step M.makes M.kind_is

pub brings_are_of_absent_pages : BringsAreOfAbsentPages
brings_are_of_absent_pages z w s G may named =
    let M = made z w s G may kind.Bring (no_touch kind.Bring refl) named in bringing z w s G may M.step M.makes M.kind_is
