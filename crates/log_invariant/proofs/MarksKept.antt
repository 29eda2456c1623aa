-- Who owes a mark stands where its access marks its page: each step keeps it. A mark comes to be owed by a leaf that is put, or fixed, for a write.
use Rattle.std.proofs.Common.{◌≡◌, ◌<◌, ◌+◌, ◌*◌, ◌==◌, ◌&&◌, ◌||◌, not, ℕ, refl, sym, subst, ap, ◌∙◌}
use Rattle.std.specs.Prelude.{◌-◌, ◌%◌, Bool, true, false, Option, Some, None, if◌then◌else◌}
use Rattle.core_views.specs.declared.place.AccessPlace.TheVariants as access
use Rattle.core_views.specs.declared.place.FaultPlace.{FaultPlace}
use Rattle.core_views.specs.declared.place.FaultPlace.TheVariants as fault
use Rattle.core_views.specs.declared.place.Place.{Place}
use Rattle.core_views.specs.declared.place.Place.TheVariants as place
use Rattle.core_views.specs.declared.sizes.Sizes.{Sizes}
use Rattle.core_views.specs.declared.topics.Topics.{Topics}
use Rattle.core_views.specs.declared.trace.Command.{Command}
use Rattle.core_views.specs.declared.trace.Command.TheVariants.{Access}
use Rattle.core_views.specs.declared.trace.Line.{Line}
use Rattle.core_views.specs.declared.trace.Op.{Op}
use Rattle.core_views.specs.Held.{Held}
use Rattle.core_views.specs.Sizes.{actors_of}
use Rattle.core_views.specs.Slots.{is_write}
use Rattle.spte_words.specs.Entries.{can_write, level_span}
use Rattle.spte_words.specs.HostWords.{host_allows_write, host_frame}
use Rattle.spte_words.proofs.ReadsEntries.{leaf_can_write}
use Rattle.part_steps.specs.declared.part_step.PartStep.{PartStep}
use Rattle.part_steps.specs.declared.part_step.PartStep.TheVariants as part
use Rattle.part_steps.specs.PartSteps.{PartNeeds, needs_line}
use Rattle.part_steps.specs.PartTasks.{entry_index, leaf_fixed, leaf_written, word_looked, own_index}
use Rattle.part_steps.specs.PartTopics.{part_topics}
use Rattle.part_steps.specs.SlotWords.{may_write}
use Rattle.part_steps.specs.WalkTopics.{owed_after}
use Rattle.mmu_core.specs.invariant.Invariant.{Invariant, KnowsPart}
use Rattle.mmu_core.specs.invariant.TopicsInvariant.{TopicsInvariant}
use Rattle.mmu_core.specs.forms.access.FaultSteps.{exchange_lost, put_next}
use Rattle.mmu_core.specs.lines.Forms.{outcome_at, part_at}
use Rattle.mmu_core.specs.lines.PartAt.{task_at}
use Rattle.mmu_core.specs.machine.Outcomes.{place_after}
use Rattle.mmu_core.specs.machine.View.{View, answer_in, part_stepped, stepped}
use Rattle.mmu_core.proofs.invariant.Kept.{makes_at}
use Rattle.mmu_core.proofs.forms.access.AccessParts.{AreSmall}
use Rattle.mmu_core.proofs.lines.KnowsKept.{step_knows}
use Rattle.mmu_core.proofs.forms.access.LeafKnown.{logged_told}
use Rattle.mmu_core.proofs.forms.access.LeafPut.{logged_lowest, lowest_frame, upper_owes_none}
use Rattle.mmu_core.proofs.machine.Columns.{at_upd}
use Rattle.mmu_core.proofs.machine.PartStepping.{IsPart, behind_part}
use Rattle.mmu_core.proofs.machine.Stepping.{IsStep}
use Rattle.mmu_core.proofs.words.PartTopics.{is_there, part_topics_is}
use Rattle.log_invariant.specs.LogInvariant.{FastWritesAt, IsMarkingAt, LogInvariant}
use Rattle.log_invariant.proofs.StepPlaces.{of_hand, step_at, topics_named}
use Rattle.log_invariant.proofs.UsualSteps.{by_test, puts_at, puts_leaf}
use Rattle.log_invariant.proofs.FastKept.{fast_here}

-- The part of the invariant, of a view.
abbrev pub MarksAt : Sizes → View → Type 0
MarksAt z v =
    (i gfn : ℕ) → i < actors_of z → (v.hand i).topics.owed ≡ Some gfn → IsMarkingAt (v.hand i).state.place (v.hand i).state.line.command gfn

-- ---- when a mark comes to be owed

record OwesNow (won logged : Bool) (new_ index gfn : ℕ) (t : Topics) : Type 0 where
  wins : won ≡ true
  logged_is : logged ≡ true
  allows : can_write new_ ≡ true
  frame : t.walk.prefix * 512 + index ≡ gfn

owes_now : (won logged : Bool) (new_ index gfn : ℕ) (t : Topics) → t.owed ≡ None → owed_after won logged t.walk index new_ t.owed ≡ Some gfn
    → OwesNow won logged new_ index gfn t
owes_now won logged new_ index gfn t none owed = by won (t.walk.level == 1) logged (can_write new_) refl refl refl owed
  where
    same : {x y : ℕ} → Some x ≡ Some y → x ≡ y
    same e = cc e

    never : t.owed ≡ Some gfn → ⊥
    never e = cc (none, e)

    by : (a b c d : Bool) → won ≡ a → logged ≡ c → can_write new_ ≡ d
        → (if a && (b && (c && d)) then Some (t.walk.prefix * 512 + index) else t.owed) ≡ Some gfn → OwesNow won logged new_ index gfn t
    by true true true true wins is allows e = record { wins = wins; logged_is = is; allows = allows; frame = same e }
    by false b c d wins is allows e = absurd (never e)
    by true false c d wins is allows e = absurd (never e)
    by true true false d wins is allows e = absurd (never e)
    by true true true false wins is allows e = absurd (never e)

-- A leaf that is put in a slot with a dirty log allows writes only for a write.
put_for_write : (gfn : ℕ) (writes : Bool) (t : Topics) → t.search.logged ≡ true → can_write (leaf_written gfn writes t) ≡ true → writes ≡ true
put_for_write gfn true t logged allows = refl
put_for_write gfn false t logged allows =
    absurd (by t.search.logged logged
    (sym (leaf_can_write t.walk.level (host_frame word - gfn % level_span t.walk.level)
    ((false || not t.search.logged) && may_write t.search.slot word) (host_allows_write word) (may_write t.search.slot word)) ∙ allows))
  where
    word : ℕ
    word = word_looked t.host

    by : (b : Bool) → b ≡ true → ((false || not b) && may_write t.search.slot word) ≡ true → ⊥
    by true is e = cc e
    by false is e = cc is

-- ---- what was owed before a step

-- What is owed after any other step was owed before it.
owed_was : (step : PartStep) (h : Held) (x gfn : ℕ) → PartNeeds step h → puts_leaf step ≡ false → (part_topics step h.topics x).owed ≡ Some gfn
    → h.topics.owed ≡ Some gfn
owed_was (part.Leaf frame write) h x gfn needs other owed = absurd (cc other)
owed_was (part.Fix frame) h x gfn needs other owed = absurd (cc other)
owed_was (part.Link frame) h x gfn needs other owed =
    sym (upper_owes_none (x == h.topics.walk.entry) h.topics (entry_index frame h.topics.walk.level) _ needs.0.upper) ∙ owed
owed_was part.Mark h x gfn needs other owed = absurd (cc owed)
owed_was _ h x gfn needs other owed = owed

idle_puts_none : (step : PartStep) → needs_line step ≡ false → puts_leaf step ≡ false
idle_puts_none (part.Leaf gfn write) free = absurd (cc free)
idle_puts_none (part.Fix gfn) free = absurd (cc free)
idle_puts_none _ free = refl

-- ---- the line's own step

-- its place after an exchange
abbrev MarksNext : Bool → Bool → Bool → FaultPlace → ℕ → ℕ → Op → ℕ → Type 0
MarksNext fast won marks lost at word op gfn =
    IsMarkingAt (place.Access (access.Fault (if won then put_next fast marks else lost))) (Access at word op) gfn

marks_next : (fast won marks : Bool) (lost : FaultPlace) (at word : ℕ) (op : Op) (gfn : ℕ) → won ≡ true → marks ≡ true → at ≡ gfn → is_write op ≡ true
    → MarksNext fast won marks lost at word op gfn
marks_next fast won marks lost at word op gfn wins is same writes =
    subst (λ b. MarksNext fast b marks lost at word op gfn) (sym wins) (subst (λ b. MarksNext fast true b lost at word op gfn) (sym is) (same, writes))

marks_after : (p : Place) (command : Command) (h : Held) (x gfn : ℕ) → KnowsPart p command h → FastWritesAt p command
    → ((step : PartStep) → part_at p command h ≡ Some step → PartNeeds step h) → (h.topics.owed ≡ Some gfn → IsMarkingAt p command gfn)
    → (behind_part (part_at p command h) h.topics x).owed ≡ Some gfn → IsMarkingAt (place_after (outcome_at p command h x)) command gfn
marks_after (place.Access (access.Fault (fault.Leaf writes))) (Access at word op) h x gfn K F needs was owed =
    let N = needs (part.Leaf at writes) refl in
    let t : Topics = h.topics in
    let W = owes_now (x == t.walk.entry) t.search.logged (leaf_written at writes t) (entry_index at t.walk.level) gfn t N.0.owes_none owed in
    let for_write : writes ≡ true = put_for_write at writes t W.logged_is W.allows in
    marks_next false (x == t.walk.entry) (writes && t.search.logged) (fault.Unshare (exchange_lost false h.state.sizes at t.walk x)) at word op gfn W.wins
    (ap (λ b. b && t.search.logged) for_write ∙ W.logged_is)
    (sym (lowest_frame at t.walk N.0.saw.over (logged_lowest at t K.3 N.0.saw.over.there W.logged_is)) ∙ W.frame) (sym K.4 ∙ for_write)
marks_after (place.Access (access.Fault fault.Fix)) (Access at word op) h x gfn K F needs was owed =
    let N = needs (part.Fix at) refl in
    let t : Topics = h.topics in
    let W = owes_now (x == t.walk.entry) t.search.logged (leaf_fixed t) (entry_index at t.walk.level) gfn t N.owes_none owed in
    marks_next true (x == t.walk.entry) t.search.logged (fault.End (exchange_lost true h.state.sizes at t.walk x)) at word op gfn W.wins W.logged_is
    (sym (lowest_frame at t.walk N.saw.over (logged_told t.walk.level t.search.logged N.told W.logged_is)) ∙ W.frame) (F refl)
marks_after (place.Access (access.Fault (fault.Mark fast))) (Access at word op) h x gfn K F needs was owed = absurd (cc owed)
marks_after (place.Access (access.Fault (fault.Leaf writes))) command h x gfn K F needs was owed = absurd K
marks_after (place.Access (access.Fault fault.Fix)) command h x gfn K F needs was owed = absurd K
marks_after (place.Access (access.Fault (fault.Mark fast))) command h x gfn K F needs was owed = absurd K
marks_after p command h x gfn K F needs was owed = absurd (was (before (part_at p command h) needs (puts_at p command h refl) owed))
  where
    before : (s : Option PartStep) → ((step : PartStep) → s ≡ Some step → PartNeeds step h) → by_test puts_leaf s ≡ false
        → (behind_part s h.topics x).owed ≡ Some gfn → h.topics.owed ≡ Some gfn
    before None needs other owed = owed
    before (Some step) needs other owed = owed_was step h x gfn (needs step refl) other owed

-- ---- each step

pub marks_kept : (z : Sizes) (v : View) (a : ℕ) (line : Line) (command : Command) (p : Place) → AreSmall v → IsStep z v a line command p → Invariant z v
    → TopicsInvariant z v → LogInvariant z v → MarksAt z (stepped a line command p v)
marks_kept z v a line command p small S I P G i gfn =
    at_upd (λ j (k : Held). j < actors_of z → k.topics.owed ≡ Some gfn → IsMarkingAt k.state.place k.state.line.command gfn) v.hand a _
    (λ lt owed. subst (λ c. IsMarkingAt (place_after (outcome_at p command h x)) c gfn) (sym S.command_is)
    (marks_after p command h x gfn (step_knows z v a line command p S I) fast (λ step is. (makes_at z v a line command p small S I P step is).needs) was
    (ap (λ (t : Topics). t.owed) (sym (topics_named z v a (part_at p command h) (task_at p command h) x (step_at z v a line command p small S I P))) ∙ owed)))
    (λ j ne lt. G.marks j gfn lt) i
  where
    h : Held
    h = v.hand a

    x : ℕ
    x = answer_in (task_at p command h) v.words

    fast : FastWritesAt p command
    fast = fast_here z v a line command p S (G.fast a S.there)

    was : h.topics.owed ≡ Some gfn → IsMarkingAt p command gfn
    was owed = of_hand z v a line command p S (λ q c. IsMarkingAt q c gfn) (λ sizes slots c never. absurd never) (G.marks a gfn S.there owed)

pub idle_marks_kept : (z : Sizes) (v : View) (a : ℕ) (step : PartStep) (note : ℕ) → IsPart z v a step → needs_line step ≡ false → MarksAt z v
    → MarksAt z (part_stepped a step note v)
idle_marks_kept z v a step note S free M i gfn =
    at_upd (λ j (k : Held). j < actors_of z → k.topics.owed ≡ Some gfn → IsMarkingAt k.state.place k.state.line.command gfn) v.hand a _
    (λ lt owed. M a gfn lt (owed_was step (v.hand a) _ gfn S.needs (idle_puts_none step free)
    (ap (λ (t : Topics). t.owed)
    (sym (part_topics_is (v.hand a).state.sizes step (own_index (v.hand a)) (v.hand a).topics note _ (is_there step (v.hand a) S.needs))) ∙ owed)))
    (λ j ne lt. M j gfn lt) i
