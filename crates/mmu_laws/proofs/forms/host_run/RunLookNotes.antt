-- The note of the look at a page of a run of host pages that is to be changed: it tells whether the line may be answered with this look.
use Rattle.std.proofs.Common.{◌≡◌, ◌⊎◌, inl, inr, ℕ, refl, sym, ap, subst, ◌∙◌}
use Rattle.std.specs.Prelude.{Bool, true, false, ◌&&◌, ◌||◌, not, nat_lt, if◌then◌else◌, Option, None, Some, is_some}
use Rattle.core_views.specs.declared.answer.Answer.TheVariants.{Refused}
use Rattle.core_views.specs.declared.answer.Refusal.TheVariants.{IsHuge, NotAligned, OutOfRange}
use Rattle.core_views.specs.declared.kind.Kind.{Kind}
use Rattle.core_views.specs.declared.place.BeginPlace.TheVariants as begins
use Rattle.core_views.specs.declared.place.HostPlace.TheVariants as host_at
use Rattle.core_views.specs.declared.place.HostRunPlace.{HostRunPlace}
use Rattle.core_views.specs.declared.place.HostRunPlace.TheVariants.{Begin, Look, LookOn}
use Rattle.core_views.specs.declared.place.Place.{Place}
use Rattle.core_views.specs.declared.place.Place.TheVariants as place
use Rattle.core_views.specs.declared.topics.HostLook.{HostLook}
use Rattle.core_views.specs.declared.topics.HostRow.{HostRow}
use Rattle.core_views.specs.declared.topics.Topics.{Topics}
use Rattle.core_views.specs.declared.trace.Command.{Command}
use Rattle.core_views.specs.declared.trace.Command.TheVariants.{ChangeRun}
use Rattle.core_views.specs.declared.trace.RunChange.{RunChange}
use Rattle.core_views.specs.declared.trace.RunChange.TheVariants.{Huge, Small}
use Rattle.core_views.specs.Held.{Held}
use Rattle.core_views.specs.HostRuns.{owns_run, run_count}
use Rattle.part_steps.specs.declared.part_step.PartStep.TheVariants as part
use Rattle.part_steps.specs.PageRuns.{looked_on, one_look}
use Rattle.part_steps.specs.PartTasks.{own_index, part_task}
use Rattle.part_steps.specs.PartTopics.{part_topics}
use Rattle.part_steps.specs.Tasks.{kind_of_task}
use Rattle.part_steps.specs.TopicSteps.{topics_after}
use Rattle.mmu_core.specs.declared.claim.FreeMap.{FreeMap}
use Rattle.mmu_core.specs.declared.claim.FreeMap.TheVariants.{Frames, Pages}
use Rattle.mmu_core.specs.declared.outcome.Outcome.{Outcome}
use Rattle.mmu_core.specs.declared.outcome.Outcome.TheVariants.{Ends, Goes}
use Rattle.mmu_core.specs.forms.access.AccessSteps.{ends_with}
use Rattle.mmu_core.specs.forms.host.HostSteps.{entry_of, maps_large}
use Rattle.mmu_core.specs.forms.host_run.HostRunSteps.{after_next_look, after_run_look, fits, host_run_outcome, page_after, wants_small}
use Rattle.mmu_core.specs.lines.Forms.{RestsAt, outcome_at}
use Rattle.mmu_core.specs.lines.ScanPlaces.{claim_at}
use Rattle.mmu_core.specs.machine.Steps.{task_at}
use Rattle.mmu_core.proofs.lines.LineClaims.{IsLook}
use Rattle.mmu_core.proofs.lines.StepTopics.{topics_of_step}
use Rattle.mmu_laws.specs.steps.NoteLaws.{LooksInRun, NoteTells, RunNoteTells, refuses_run}
use Rattle.mmu_laws.proofs.forms.host.LookNotes.{look_tells, looks_without}

-- ---- a line that looks claims nothing

runs_without : (p : HostRunPlace) (map : FreeMap) → claim_at map (place.HostRun p) ≡ None
runs_without p Pages = refl
runs_without p Frames = refl

pub look_claims_none : (p : Place) → IsLook p → (map : FreeMap) → claim_at map p ≡ None
look_claims_none (place.Host (host_at.Look moves)) look map = looks_without moves map
look_claims_none (place.HostRun p) look map = runs_without p map
look_claims_none _ look map = absurd look

-- ---- what a note tells

or_last : {A B C D E : Type 0} → A ⊎ E → A ⊎ B ⊎ C ⊎ D ⊎ E
or_last (inl first) = inl first
or_last (inr last) = inr (inr (inr (inr last)))

-- The note of any step at such a place.
noted : (p : HostRunPlace) (h : Held) (k : Kind) (o : Outcome) (v : ℕ) → (k.note ≡ ends_with o) ⊎ LooksInRun (place.HostRun p) k
    → NoteTells (place.HostRun p) h.state.sizes k o v
noted p h k o v tells = record {
  tells = or_last tells;
  last = λ L. let some = L.ends in let none = ap is_some (runs_without p L.map) in absurd (cc (some, none));
  awaits = λ A. let at = A.at in absurd (cc at);
  looks = λ L. let at = L.at in absurd (cc at);
}

own_look_tells : (own_ : Bool) (page : ℕ) (h : Held) (o : Outcome) (v : ℕ)
    → NoteTells (place.HostRun Look) h.state.sizes
    (kind_of_task h.state.sizes (part_task (if own_ then part.Host page else part.Seq) (own_index h) h.topics 1))
    (if own_ then o else Ends (Refused OutOfRange)) v
own_look_tells true page h o v = noted Look h _ o v (inr (record { look = Look; at = refl; is = inl refl; looks = refl }))
own_look_tells false page h o v = noted Look h _ (Ends (Refused OutOfRange)) v (inl refl)

-- The look of each line that changes host pages.
pub each_look_tells : (p : Place) → IsLook p → (command : Command) (h : Held) (v : ℕ) → RestsAt p command h
    → NoteTells p h.state.sizes (kind_of_task h.state.sizes (task_at p command h)) (outcome_at p command h v) v
each_look_tells (place.Host (host_at.Look moves)) look command h v R = look_tells (place.Host (host_at.Look moves)) moves refl command h v R
each_look_tells (place.HostRun Look) look (ChangeRun page change) h v R =
    own_look_tells (owns_run h.state.sizes h.state.actor page change) page h _ v
each_look_tells (place.HostRun LookOn) look (ChangeRun page change) h v R =
    noted LookOn h _ (host_run_outcome LookOn page change h v) v (inr (record { look = LookOn; at = refl; is = inr refl; looks = refl }))
each_look_tells (place.HostRun Look) look _ h v R = absurd R
each_look_tells (place.HostRun LookOn) look _ h v R = absurd R
each_look_tells _ look command h v R = absurd look

-- ---- when it ends

-- It ends exactly where the run is refused.
ends_so : (large more fit : Bool)
    → ends_with (if large then Ends (Refused IsHuge) else
    if more then Goes (place.HostRun LookOn) else
    if fit then Goes (place.HostRun (Begin begins.Exclude)) else
    Ends (Refused NotAligned)) ≡ (if large || (not more && not fit) then 1 else 0)
ends_so true more fit = refl
ends_so false true fit = refl
ends_so false false true = refl
ends_so false false false = refl

looked_ends : (change : RunChange) (look : HostLook) (row : HostRow) (v : ℕ)
    → ends_with (after_run_look change look row v) ≡ (if refuses_run change (Some look) row v then 1 else 0)
looked_ends change look row v =
    ends_so (wants_small change && maps_large v) (nat_lt row.looked (run_count change (entry_of look.word))) (fits change look row)

looked_on_ends : (change : RunChange) (o : Option HostLook) (row : HostRow) (page v : ℕ)
    → ends_with (after_next_look change o row page v) ≡ (if refuses_run change o (looked_on o row page v) v then 1 else 0)
looked_on_ends change None row page v = refl
looked_on_ends change (Some look) row page v = looked_ends change look (looked_on (Some look) row page v) v

-- Where the pages are to be small ones it goes on.
small_goes : (seen : Option HostLook) (row : HostRow) (v : ℕ) → is_some seen ≡ true
    → ◌≡◌ {A = ℕ} (if refuses_run Small seen row v then 1 else 0) 0
small_goes None row v some = absurd (cc some)
small_goes (Some look) row v some = by (not (nat_lt row.looked (run_count Small (entry_of look.word))))
  where
    by : (all : Bool) → ◌≡◌ {A = ℕ} (if all && false then 1 else 0) 0
    by true = refl
    by false = refl

tells_so : (change : RunChange) (seen : Topics) (k : Kind) (o : Outcome) (v : ℕ) → (k.note ≡ 1) ⊎ ((k.note ≡ 0) × (change ≡ Small))
    → ends_with o ≡ (if refuses_run change seen.host seen.row v then 1 else 0) → RunNoteTells change seen k o v
tells_so change seen k o v note ends = record { note = note; ends = ends; goes = λ none some. by note none some }
  where
    by : (k.note ≡ 1) ⊎ ((k.note ≡ 0) × (change ≡ Small)) → k.note ≡ 0 → is_some seen.host ≡ true → ends_with o ≡ 0
    by (inl one) none some = absurd (cc (one, none))
    by (inr S) none some =
        ends ∙ ap (λ (c : RunChange). if refuses_run c seen.host seen.row v then 1 else 0) S.1 ∙ small_goes seen.host seen.row v some

-- The first look, and each other one.
first_tells : (own_ : Bool) (page : ℕ) (change : RunChange) (h : Held) (v : ℕ) (seen : Topics)
    → LooksInRun (place.HostRun Look) (kind_of_task h.state.sizes (part_task (if own_ then part.Host page else part.Seq) (own_index h) h.topics 1))
    → (own_ ≡ true → (seen.host ≡ Some (record { page = page; word = v })) × (seen.row ≡ one_look))
    → RunNoteTells change seen (kind_of_task h.state.sizes (part_task (if own_ then part.Host page else part.Seq) (own_index h) h.topics 1))
    (if own_ then after_run_look change (record { page = page; word = v }) one_look v else Ends (Refused OutOfRange)) v
first_tells true page change h v seen L same =
    tells_so change seen _ _ v (inl refl)
    (looked_ends change (record { page = page; word = v }) one_look v
    ∙ ap (λ (o : Option HostLook). if refuses_run change o one_look v then 1 else 0) (sym (same refl).0)
    ∙ ap (λ (row : HostRow). if refuses_run change seen.host row v then 1 else 0) (sym (same refl).1))
first_tells false page change h v seen L same = absurd (let looks = L.looks in cc looks)

note_on : (change : RunChange)
    → ◌≡◌ {A = ℕ} (if wants_small change then 1 else 0) 1 ⊎ (◌≡◌ {A = ℕ} (if wants_small change then 1 else 0) 0 × (change ≡ Small))
note_on (Huge level) = inl refl
note_on Small = inr (refl, refl)

-- Such a look is one at a place of a line that sets a run.
abbrev IsRunLook : Place → Type 0
IsRunLook (place.HostRun Look) = Unit {0}
IsRunLook (place.HostRun LookOn) = Unit {0}
IsRunLook _ = ⊥

is_run_look : (p : Place) (k : Kind) → LooksInRun p k → IsRunLook p
is_run_look p k L = subst IsRunLook (sym L.at) (by L.is)
  where
    by : (L.look ≡ Look) ⊎ (L.look ≡ LookOn) → IsRunLook (place.HostRun L.look)
    by (inl first) = subst (λ q. IsRunLook (place.HostRun q)) (sym first) tt
    by (inr on) = subst (λ q. IsRunLook (place.HostRun q)) (sym on) tt

module _ (h : Held) (v : ℕ) where
  abbrev kind_at : Place → Command → Kind
  kind_at p command = kind_of_task h.state.sizes (task_at p command h)

  abbrev seen_at : Place → Command → Topics
  seen_at p command = topics_after h.state.sizes (kind_at p command) h.topics v

  abbrev Tells : RunChange → Place → Command → Type 0
  Tells change p command = RunNoteTells change (seen_at p command) (kind_at p command) (outcome_at p command h v) v

  tells_at_look : (p : Place) (page : ℕ) (change : RunChange) → RestsAt p (ChangeRun page change) h → LooksInRun p (kind_at p (ChangeRun page change))
      → Tells change p (ChangeRun page change)
  tells_at_look (place.HostRun Look) page change R L =
      first_tells (owns_run h.state.sizes h.state.actor page change) page change h v (seen_at (place.HostRun Look) (ChangeRun page change)) L
      (λ own_. (ap (λ (t : Topics). t.host) (seen own_), ap (λ (t : Topics). t.row) (seen own_)))
    where
      seen : owns_run h.state.sizes h.state.actor page change ≡ true
          → seen_at (place.HostRun Look) (ChangeRun page change) ≡ part_topics (part.Host page) h.topics v
      seen own_ =
          topics_of_step (place.HostRun Look) (ChangeRun page change) h v R
          ∙ ap (λ (b : Bool). part_topics (if b then part.Host page else part.Seq) h.topics v) own_
  tells_at_look (place.HostRun LookOn) page change R L =
      tells_so change _ _ _ v (note_on change)
      (looked_on_ends change h.topics.host h.topics.row (page_after page change h.topics) v
      ∙ ap (λ (t : Topics). if refuses_run change t.host t.row v then 1 else 0)
      (sym (topics_of_step (place.HostRun LookOn) (ChangeRun page change) h v R)))
  tells_at_look p page change R L = absurd (is_run_look p _ L)

  pub run_look_tells : (p : Place) (command : Command) → RestsAt p command h → (page : ℕ) (change : RunChange) → command ≡ ChangeRun page change
      → LooksInRun p (kind_at p command) → Tells change p command
  run_look_tells p command R page change is L =
      subst (λ c. RestsAt p c h → LooksInRun p (kind_at p c) → Tells change p c) (sym is) (tells_at_look p page change) R L
