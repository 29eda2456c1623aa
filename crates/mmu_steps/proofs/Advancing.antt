-- What a hand must have for a step, and what its fields are after it.
use Rattle.std.proofs.Math.Nat.{div-le_self}
use Rattle.std.proofs.Common.{◌≡◌, ◌<◌, ◌^◌, ◌⊎◌, inl, inr, ℕ, length, refl, sym, subst, ap, ◌∙◌, arith}
use Rattle.std.specs.Prelude.{Bool, true, false, Some, None}
use Rattle.core_views.specs.declared.kind.Kind.{Kind}
use Rattle.core_views.specs.declared.place.Place.{Place}
use Rattle.core_views.specs.declared.topics.TableWalk.{TableWalk}
use Rattle.core_views.specs.declared.topics.Topics.{Topics}
use Rattle.core_views.specs.declared.trace.Command.{Command}
use Rattle.core_views.specs.declared.trace.Line.{Line}
use Rattle.core_views.specs.declared.trace.Op.{Op}
use Rattle.core_views.specs.declared.trace.Op.TheVariants.{Read}
use Rattle.part_steps.specs.declared.task.Task.{Task}
use Rattle.mmu_core.specs.forms.access.AccessSteps.{touch_of}
use Rattle.std.proofs.lemmas.Bool.Decides.{nat_tests}
use Rattle.core_views.specs.Held.{Held}
use Rattle.core_views.specs.Kinds.{kind_named}
use Rattle.core_views.specs.Sizes.{AreSizes}
use Rattle.core_views.specs.Traces.{IsCommandFor}
use Rattle.part_steps.specs.declared.part_step.PartStep.{PartStep}
use Rattle.part_steps.specs.declared.part_step.PartStep.TheVariants as part
use Rattle.mmu_core.specs.machine.Enabled.{Enabled, IsNext, IsPartStep}
use Rattle.spte_words.specs.Entries.{level_span}
use Rattle.part_steps.specs.PartTasks.{own_index, part_task, words_filled}
use Rattle.part_steps.specs.PartHoldings.{IsOver}
use Rattle.part_steps.specs.PartSteps.{PartNeeds}
use Rattle.mmu_core.specs.lines.Forms.{AcceptsAt, RestsAt}
use Rattle.mmu_core.specs.lines.Rests.{IsUnderWay, Rests}
use Rattle.mmu_core.proofs.machine.Stepping.{is_begun}
use Rattle.mmu_core.specs.forms.access.Cached.{flushed}
use Rattle.part_steps.specs.PartBounds.{FrameCountersPart, PartRests}
use Rattle.part_steps.specs.FrameTopics.{words_moved}
use Rattle.part_steps.proofs.PageRuns.{change_room, next_room}
use Rattle.core_views.specs.declared.topics.Frames.{Frames}
use Rattle.core_views.specs.declared.topics.OwnedPage.{OwnedPage}
use Rattle.core_views.specs.declared.sizes.Sizes.{Sizes}
use Rattle.mmu_core.proofs.lines.ByStep.{StepAt, step_at, Makes, Touches}
use Rattle.mmu_core.proofs.machine.Sized.{loads_keep_sizes}
use Rattle.mmu_core.specs.machine.Steps.{has_line, held_after, idle_after, line_after, line_at, next, next_line, place_at, standing, task_at, task_of}
use Rattle.part_steps.specs.TopicSteps.{HasRoom, topics_after}
use Rattle.mmu_core.proofs.machine.Views.{named_is}
use Rattle.mmu_core.proofs.machine.Which.{is_next, next_of_line, next_of_part}
use Rattle.mmu_core.specs.lines.Delays.{line_waits}
use Rattle.part_steps.specs.PartSteps.{needs_line}

pub enabled_sizes : (h : Held) (k : Kind) → Enabled h k → AreSizes h.state.sizes
unfolding Enabled
enabled_sizes h k (inl e) = e.rests.part.sizes
enabled_sizes h k (inr e) = e.sizes

-- Where a line is left, the hand holds what this line rests on.
pub line_rests : (h : Held) (k : Kind) → Enabled h k → has_line h ≡ true → Rests h
line_rests h k e has = (is_next h k e has).rests

-- the span of a guest frame is a small number
pub span_small : (gfn : ℕ) (walk : TableWalk) → IsOver gfn walk → walk.prefix < 2 ^ 36
span_small gfn walk O = let le = div-le_self gfn (level_span walk.level) in omega (arith, O.small, O.span, le)

-- A frame has few words, so few of them are filled.
few_moved : (z : Sizes) (f : Frames) → AreSizes z → FrameCountersPart z f → words_moved f.owned < 2 ^ 32
few_moved z f sizes few = omega (arith, few.filled, sizes.words.1)

-- An actor that owns no page fills none of its words.
no_page_room : (t : Topics) → t.owned ≡ None → (o : OwnedPage) → t.owned ≡ Some o → o.filled < 513
no_page_room t none o is = let e : None ≡ Some o = sym none ∙ is in absurd (cc e)

part_room : (step : PartStep) (h : Held) (note : ℕ) → AreSizes h.state.sizes → FrameCountersPart h.state.sizes h.topics.frames → PartNeeds step h
    → (needs_line step ≡ true → PartRests h) → HasRoom (part_task step (own_index h) h.topics note).kind h.topics
part_room (part.Fill value) h note z few N rests = (
  λ o is. let filled : words_filled h.topics.owned ≡ o.filled = ap words_filled is in omega (arith, filled, N.0.1),
  few_moved h.state.sizes h.topics.frames z few,
)
part_room (part.Role value) h note z few N rests = (
  λ o is. let filled : words_filled h.topics.owned ≡ o.filled = ap words_filled is in omega (arith, filled, N.0),
  few_moved h.state.sizes h.topics.frames z few,
)
part_room part.Slot h note z few N rests = λ some. N.1
part_room part.Claim h note z few N rests = (N.1, omega (arith, N.2, z.pool.1))
part_room (part.Walk gfn) h note z few N rests = λ from. span_small gfn h.topics.walk N.0
part_room (part.Sweep gfn) h note z few N rests = (rests refl).counters.span
part_room (part.WalkAnew gfn) h note z few N rests = (rests refl).counters.span
part_room (part.Link gfn) h note z few N rests = λ from. span_small gfn h.topics.walk N.0.saw.over
part_room (part.Leaf gfn write) h note z few N rests = λ from. span_small gfn h.topics.walk N.0.saw.over
part_room (part.Fix gfn) h note z few N rests = λ from. span_small gfn h.topics.walk N.saw.over
part_room part.Clear h note z few N rests = (no_page_room h.topics N.owns_none, few_moved h.state.sizes h.topics.frames z few)
part_room part.Frame h note z few N rests = (N.1, omega (arith, N.2, z.frames.1))
part_room (part.Store index) h note z few N rests = (no_page_room h.topics N.no_page, few_moved h.state.sizes h.topics.frames z few)
part_room (part.Change new_) h note z few N rests = change_room h N.0
part_room part.ChangeNext h note z few N rests = next_room h (rests refl) N
part_room _ h note z few N rests = tt

touch_room : (op : Op) (index : ℕ) (t : Topics) → HasRoom (touch_of op index).kind t
touch_room Read index t = tt
touch_room _ index t = tt

room_by : (command : Command) (h : Held) (t : Task) → PartRests h → StepAt command h t → HasRoom t.kind h.topics
room_by command h _ R (Makes step note N) = part_room step h note R.sizes R.counters.frames N (λ line. R)
room_by command h _ R (Touches gfn word op is N) = touch_room op _ h.topics

task_room : (p : Place) (command : Command) (h : Held) → PartRests h → RestsAt p command h → HasRoom (task_at p command h).kind h.topics
task_room p command h R at = room_by command h (task_at p command h) R (step_at p command h at)

room_of : (h : Held) (k : Kind) → IsNext h k ⊎ IsPartStep h k → HasRoom (kind_named k.code) h.topics
room_of h k (inl e) =
    subst (λ (x : Kind). HasRoom (kind_named x.code) h.topics) (sym e.is) (subst (λ x. HasRoom x h.topics) (sym (named_is (task_of h).kind))
    (task_room (place_at h.state.place h) (line_at h.state.place h).command h e.rests.part e.rests.at))
room_of h k (inr e) =
    subst (λ (x : Kind). HasRoom (kind_named x.code) h.topics) (sym e.is)
    (subst (λ x. HasRoom x h.topics) (sym (named_is (part_task e.step (own_index h) h.topics e.note).kind))
    (part_room e.step h e.note e.sizes e.counters e.needs (λ line. absurd (let free = e.free in cc (free, line)))))

pub enabled_room : (h : Held) (k : Kind) → Enabled h k → HasRoom (kind_named k.code) h.topics
unfolding Enabled
enabled_room h k e = room_of h k e

-- A hand with a line left takes the next step of this line, at this place.
module _ (h : Held) (rests : has_line h ≡ true → Rests h) (has : has_line h ≡ true) (line : Line) (next_is : line ≡ next_line h)
    (line_is : line ≡ line_at h.state.place h) (p : Place) (place_is : p ≡ standing h.state.place h.state.sizes h.slots line.command) where
  pub left_here : length h.answers < length h.lines
  left_here = grind (arith, nat_tests)

  pub part_here : PartRests h
  part_here = (rests has).part

  same_line : line_at h.state.place h ≡ next_line h
  same_line = sym line_is ∙ next_is

  place_here : place_at h.state.place h ≡ p
  place_here = sym (place_is ∙ ap (λ (l : Line). standing h.state.place h.state.sizes h.slots l.command) line_is)

  pub begun_here : IsUnderWay p
  begun_here = subst IsUnderWay (sym place_is) (is_begun h.state.place h.state.sizes h.slots line.command)

  pub command_here : IsCommandFor h.state.sizes (next_line h).actor (next_line h).command
  command_here = subst (λ (l : Line). IsCommandFor h.state.sizes l.actor l.command) same_line (rests has).line

  pub rests_at_here : RestsAt p (next_line h).command h
  rests_at_here = subst (λ q. RestsAt q (next_line h).command h) place_here
      (subst (λ (l : Line). RestsAt (place_at h.state.place h) l.command h) same_line (rests has).at)

  pub accepts_here : AcceptsAt p (next_line h).command h.state.sizes h.slots
  accepts_here =
      subst (λ q. AcceptsAt q (next_line h).command h.state.sizes h.slots) place_here
      (subst (λ (l : Line). AcceptsAt (place_at h.state.place h) l.command h.state.sizes h.slots) same_line (rests has).accepts)

  pub made_here : (x : Held) (v : ℕ) → x ≡ line_after (next_line h) p h v → x ≡ line_after (line_at h.state.place h) (place_at h.state.place h) h v
  made_here x v made =
      made ∙ ap (λ (q : Place). line_after (next_line h) q h v) (sym place_here)
      ∙ ap (λ (l : Line). line_after l (place_at h.state.place h) h v) (sym same_line)

  -- The step waits as the line does at this place.
  pub waits_here : (waits : Bool) (v : ℕ) → waits ≡ line_waits (place_at h.state.place h) (line_at h.state.place h).command h v
      → waits ≡ line_waits p (next_line h).command h v
  waits_here waits v is =
      is ∙ ap (λ (q : Place). line_waits q (line_at h.state.place h).command h v) place_here
      ∙ ap (λ (l : Line). line_waits p l.command h v) same_line

-- Behind the line's step, where a line is left, come the flush and the topics, and make the hand that the step leads to.
module _ (h g : Held) (k : Kind) (v : ℕ) (enabled : Enabled h k)
    (line : has_line h ≡ true → g ≡ line_after (line_at h.state.place h) (place_at h.state.place h) h v) (none : has_line h ≡ false → g ≡ h) where
  still : (g.state.sizes ≡ h.state.sizes) × (g.topics ≡ h.topics)
  still = by (has_line h) refl
    where
      by : (b : Bool) → has_line h ≡ b → (g.state.sizes ≡ h.state.sizes) × (g.topics ≡ h.topics)
      by true has = (
        ap (λ (y : Held). y.state.sizes) (line has) ∙ loads_keep_sizes (place_at h.state.place h) (line_at h.state.place h).command h v,
        ap (λ (y : Held). y.topics) (line has),
      )
      by false no_ = (ap (λ (y : Held). y.state.sizes) (none no_), ap (λ (y : Held). y.topics) (none no_))

  pub sizes_still : (x : Held) → x ≡ record g { cached = flushed k g.cached v } → AreSizes x.state.sizes
  sizes_still x is = subst AreSizes (sym (ap (λ (y : Held). y.state.sizes) is ∙ still.0)) (enabled_sizes h k enabled)

  pub room_still : (x : Held) → x ≡ record g { cached = flushed k g.cached v } → HasRoom (kind_named k.code) x.topics
  room_still x is = subst (HasRoom (kind_named k.code)) (sym (ap (λ (y : Held). y.topics) is ∙ still.1)) (enabled_room h k enabled)

  finished : idle_after g k v ≡ next h k v
  finished = by (has_line h) refl
    where
      by : (b : Bool) → has_line h ≡ b → idle_after g k v ≡ next h k v
      by true has =
          ap (λ (y : Held). idle_after y k v) (line has)
          ∙ ap (λ (z : Sizes). record (held_after (line_at h.state.place h) (place_at h.state.place h) h k
          v) { topics = topics_after z k h.topics v }) (loads_keep_sizes (place_at h.state.place h) (line_at h.state.place h).command h v)
          ∙ sym (next_of_line h k v has)
      by false no_ = ap (λ (y : Held). idle_after y k v) (none no_) ∙ sym (next_of_part h k v no_)

  pub advanced : (x y : Held) → x ≡ record g { cached = flushed k g.cached v } → y ≡ record x { topics = topics_after x.state.sizes k x.topics v }
      → y ≡ next h k v
  advanced x y flush_is is = is ∙ ap (λ (q : Held). record q { topics = topics_after q.state.sizes k q.topics v }) flush_is ∙ finished
