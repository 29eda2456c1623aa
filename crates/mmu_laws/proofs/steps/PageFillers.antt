-- The lines that fill pages: a fault fills a table with absent entries or a leaf's children, a split with these, and the manager a slot set.
use Rattle.std.proofs.Common.{◌≡◌, ◌+◌, ◌*◌, ◌-◌, ◌^◌, ◌<◌, ℕ, List, [], ◌++◌, refl, subst, ap, ◌∙◌, arith}
use Rattle.std.specs.Prelude.{Bool, true, false, ◌&&◌, ◌||◌, ◌==◌, nat_le, nat_lt, Option, Some, None, if◌then◌else◌, unwrap_or}
use Rattle.std.proofs.lemmas.Bool.Decides.{nat_tests}
use Rattle.core_views.specs.declared.event.Event.{Event}
use Rattle.core_views.specs.declared.place.AccessPlace.TheVariants as access
use Rattle.core_views.specs.declared.place.FaultPlace.TheVariants as fault
use Rattle.core_views.specs.declared.place.Place.{Place}
use Rattle.core_views.specs.declared.place.Place.TheVariants as place
use Rattle.core_views.specs.declared.place.SlotChangePlace.TheVariants as slot_change
use Rattle.core_views.specs.declared.place.SplitPlace.TheVariants as split
use Rattle.core_views.specs.declared.sizes.Sizes.{Sizes}
use Rattle.core_views.specs.declared.topics.OwnedPage.{OwnedPage}
use Rattle.core_views.specs.declared.topics.Topics.{Topics}
use Rattle.core_views.specs.declared.trace.Command.{Command}
use Rattle.core_views.specs.declared.trace.Command.TheVariants.{Access, Split}
use Rattle.core_views.specs.declared.trace.Op.{Op}
use Rattle.core_views.specs.Held.{Held}
use Rattle.core_views.specs.SlotCommands.{slots_after}
use Rattle.spte_words.specs.declared.area.Area.{Area}
use Rattle.spte_words.specs.declared.area.Area.TheVariants as area
use Rattle.spte_words.specs.Areas.{place, pool_index}
use Rattle.part_steps.specs.PageTopics.{filled_more}
use Rattle.part_steps.specs.SetWords.{set_word}
use Rattle.part_steps.specs.Tasks.{map_of}
use Rattle.part_steps.specs.ControlBits.{is_content}
use Rattle.part_steps.specs.TopicSteps.{topics_after, word_filled}
use Rattle.mmu_core.specs.forms.access.Cached.{flushed}
use Rattle.mmu_core.specs.lines.Delays.{one_more}
use Rattle.mmu_core.specs.lines.Forms.{outcome_at, tells_at}
use Rattle.mmu_core.specs.machine.Outcomes.{answering}
use Rattle.mmu_core.specs.machine.Steps.{beginning, line_at, place_at, task_at}
use Rattle.mmu_core.specs.machine.View.{View, answer_in, hand_after, put, upd, words_after}
use Rattle.mmu_core.proofs.words.MapTopics.{filled_topics}
use Rattle.mmu_laws.proofs.flat.Told.{told}
use Rattle.mmu_laws.proofs.steps.FilledPages.{Filler, FillsOne, at_fill, filled_with}
use Rattle.spte_words.specs.Entries.{word_below}

-- what a step makes where this hand is the actor's, and what it tells
abbrev pub turned_as : Held → ℕ → View → View
turned_as h a v = record {
  words = words_after (task_at (place_at h.state.place h) (line_at h.state.place h).command h) v.words;
  hand = upd v.hand a (hand_after (line_at h.state.place h) (line_at h.state.place h).command (place_at h.state.place h) h
      (answer_in (task_at (place_at h.state.place h) (line_at h.state.place h).command h) v.words));
}

abbrev pub tells_as : Held → (Area → ℕ → ℕ) → List Event
tells_as h words =
    let x : ℕ = answer_in (task_at (place_at h.state.place h) (line_at h.state.place h).command h) words in
    told h.state.actor (beginning h.state.place (line_at h.state.place h)
    ++ (tells_at (place_at h.state.place h) (line_at h.state.place h).command h x
    ++ answering (outcome_at (place_at h.state.place h) (line_at h.state.place h).command h x) (line_at h.state.place h)))

-- ---- what a fill makes of topics and counts

-- the hand with these topics and this count, at a place
abbrev counted_at : Place → Command → Topics → ℕ → Held → Held
counted_at p command t steps h = record {
  state = record h.state { place = p; line = record h.state.line { command = command }; steps = steps };
  topics = t;
  cached = h.cached;
  slots = h.slots;
  harvest = h.harvest;
  lines = h.lines;
  answers = h.answers;
}

pub one_step_more : (steps : ℕ) → steps < 2 ^ 64 - 1 → one_more steps ≡ steps + 1
one_step_more steps few = ap (λ (b : Bool). if b then steps + 1 else steps) less
  where
    less : nat_lt steps (2 ^ 64 - 1) ≡ true
    less = grind (arith, nat_tests)

one_word_filled : (word : ℕ → ℕ) (o : OwnedPage) → o.filled < 512 → filled_more (Some o) (word o.filled) ≡ Some (filled_with word 1 o)
one_word_filled word o few = λ s. Some (record {
  page = o.page;
  filled = o.filled + 1;
  entry = o.entry;
  level = o.level;
  below = below s;
  role = role s;
})
  where
    more : nat_le 512 o.filled ≡ false
    more = grind (arith, nat_tests)

    no_role : (o.filled == 512) ≡ false
    no_role = grind (arith, nat_tests)

    and_true : (b c : Bool) → (b && c) ≡ (b && (c && true))
    and_true true true = refl
    and_true true false = refl
    and_true false c = refl

    below : (o.below && (nat_le 512 o.filled || word o.filled == word_below o.level o.entry o.filled))
        ≡ (o.below && (word o.filled == word_below o.level o.entry o.filled && true))
    below =
        ap (λ (b : Bool). o.below && (b || word o.filled == word_below o.level o.entry o.filled)) more
        ∙ and_true o.below (word o.filled == word_below o.level o.entry o.filled)

    role : (if o.filled == 512 then word o.filled else o.role) ≡ o.role
    role = ap (λ (b : Bool). if b then word o.filled else o.role) no_role

within : (z : Sizes) (page filled : ℕ) → filled < 512 → page < z.pool → pool_index page filled < 512 * z.pool
unfolding pool_index
within z page filled few lt = omega (arith, few, lt)

topics_filled : (z : Sizes) (word : ℕ → ℕ) (o : OwnedPage) (t : Topics) → o.filled < 512 → o.page < z.pool
    → word_filled (is_content z (place (map_of z) area.Pool (pool_index o.page o.filled))) (record t { owned = Some o }) (word o.filled)
    ≡ record t { owned = Some (filled_with word 1 o) }
topics_filled z word o t few page =
    filled_topics z area.Pool (pool_index o.page o.filled) (record t { owned = Some o }) (word o.filled) (omega arith) (within z o.page o.filled few page)
    ∙ ap (λ x. record t { owned = x }) (one_word_filled word o few)

-- ---- a fault

abbrev fault_at : Bool → Place
fault_at more = place.Access (access.Fault (if more then fault.Fill else fault.Role))

-- the words of the page: absent, or the children of the leaf in whose place it is to be linked
abbrev child_word : Held → ℕ → ℕ
child_word h j = word_below h.topics.walk.level h.topics.walk.entry j

abbrev fault_filler : ℕ → ℕ → Op → OwnedPage → Held → Filler
fault_filler gfn word op o h = record { command = Access gfn word op; place = fault_at; word = child_word h; owned = o }

fault_makes : (gfn word : ℕ) (op : Op) (v : View) (a steps : ℕ) (o : OwnedPage) (h : Held) → o.filled < 512 → o.page < h.state.sizes.pool
    → steps < 2 ^ 64 - 1
    → ◌≡◌ {A = View} (turned_as (at_fill (fault_at true) (Access gfn word op) o steps h) a v) (record {
      words = put v.words area.Pool (pool_index o.page o.filled) (child_word h o.filled);
      hand = upd v.hand a (at_fill (fault_at (nat_lt (o.filled + 1) 512)) (Access gfn word op) (filled_with (child_word h) 1 o) (steps + 1) h);
    })
unfolding flushed topics_after
fault_makes gfn word op v a steps o h few page count = λ s. record {
  words = put v.words area.Pool (pool_index o.page o.filled) (child_word h o.filled);
  hand = upd v.hand a (counted_at (fault_at (nat_lt (o.filled + 1) 512)) (Access gfn word op)
      (topics_filled h.state.sizes (child_word h) o h.topics few page s) (one_step_more steps count s) h);
}

fault_tells : (gfn word : ℕ) (op : Op) (o : OwnedPage) (steps : ℕ) (h : Held) (words : Area → ℕ → ℕ)
    → tells_as (at_fill (fault_at true) (Access gfn word op) o steps h) words ≡ []
fault_tells gfn word op o steps h words = refl

fault_fills : (gfn word : ℕ) (op : Op) (o : OwnedPage) (h : Held) → FillsOne (fault_filler gfn word op o h) h
fault_fills gfn word op o h = record {
  makes = λ v a steps o is few page count. ap (λ held. turned_as held a v) is ∙ fault_makes gfn word op v a steps o h few page count;
  tells_none = λ v a steps o is. ap (λ held. tells_as held v.words) is ∙ fault_tells gfn word op o steps h v.words;
}

-- ---- a split

abbrev split_at : Bool → Place
split_at more = place.Split (if more then split.Fill else split.Role)

abbrev split_filler : ℕ → OwnedPage → Held → Filler
split_filler gfn o h = record { command = Split gfn; place = split_at; word = child_word h; owned = o }

split_makes : (gfn : ℕ) (v : View) (a steps : ℕ) (o : OwnedPage) (h : Held) → o.filled < 512 → o.page < h.state.sizes.pool
    → steps < 2 ^ 64 - 1
    → ◌≡◌ {A = View} (turned_as (at_fill (split_at true) (Split gfn) o steps h) a v) (record {
      words = put v.words area.Pool (pool_index o.page o.filled) (child_word h o.filled);
      hand = upd v.hand a (at_fill (split_at (nat_lt (o.filled + 1) 512)) (Split gfn) (filled_with (child_word h) 1 o) (steps + 1) h);
    })
unfolding flushed topics_after
split_makes gfn v a steps o h few page count = λ s. record {
  words = put v.words area.Pool (pool_index o.page o.filled) (child_word h o.filled);
  hand = upd v.hand a (counted_at (split_at (nat_lt (o.filled + 1) 512)) (Split gfn)
      (topics_filled h.state.sizes (child_word h) o h.topics few page s) (one_step_more steps count s) h);
}

split_tells : (gfn : ℕ) (o : OwnedPage) (steps : ℕ) (h : Held) (words : Area → ℕ → ℕ)
    → tells_as (at_fill (split_at true) (Split gfn) o steps h) words ≡ []
split_tells gfn o steps h words = refl

split_fills : (gfn : ℕ) (o : OwnedPage) (h : Held) → FillsOne (split_filler gfn o h) h
split_fills gfn o h = record {
  makes = λ v a steps o is few page count. ap (λ held. turned_as held a v) is ∙ split_makes gfn v a steps o h few page count;
  tells_none = λ v a steps o is. ap (λ held. tells_as held v.words) is ∙ split_tells gfn o steps h v.words;
}

-- ---- a slot line

abbrev set_at : Bool → Place
set_at more = place.SlotChange (if more then slot_change.Fill else slot_change.Role)

abbrev set_filler : Command → OwnedPage → Held → Filler
set_filler command o h = record { command = command; place = set_at; word = set_word (slots_after command h.slots); owned = o }

set_makes : (command : Command) (v : View) (a steps : ℕ) (o : OwnedPage) (h : Held) → o.filled < 512 → o.page < h.state.sizes.pool
    → steps < 2 ^ 64 - 1
    → ◌≡◌ {A = View} (turned_as (at_fill (set_at true) command o steps h) a v) (record {
      words = put v.words area.Pool (pool_index o.page o.filled) (set_word (slots_after command h.slots) o.filled);
      hand = upd v.hand a
          (at_fill (set_at (nat_lt (o.filled + 1) 512)) command (filled_with (set_word (slots_after command h.slots)) 1 o) (steps + 1) h);
    })
unfolding flushed topics_after
set_makes command v a steps o h few page count = λ s. record {
  words = put v.words area.Pool (pool_index o.page o.filled) (set_word (slots_after command h.slots) o.filled);
  hand = upd v.hand a (counted_at (set_at (nat_lt (o.filled + 1) 512)) command
      (topics_filled h.state.sizes (set_word (slots_after command h.slots)) o h.topics few page s) (one_step_more steps count s) h);
}

set_tells : (command : Command) (o : OwnedPage) (steps : ℕ) (h : Held) (words : Area → ℕ → ℕ)
    → tells_as (at_fill (set_at true) command o steps h) words ≡ []
set_tells command o steps h words = refl

set_fills : (command : Command) (o : OwnedPage) (h : Held) → FillsOne (set_filler command o h) h
set_fills command o h = record {
  makes = λ v a steps o is few page count. ap (λ held. turned_as held a v) is ∙ set_makes command v a steps o h few page count;
  tells_none = λ v a steps o is. ap (λ held. tells_as held v.words) is ∙ set_tells command o steps h v.words;
}

-- ---- which line fills

-- how a line at this place with this command fills this page, where it does
abbrev pub filler_at : Place → Command → Option OwnedPage → Held → Option Filler
filler_at (place.Access (access.Fault fault.Fill)) (Access gfn word op) (Some o) h = Some (fault_filler gfn word op o h)
filler_at (place.Split split.Fill) (Split gfn) (Some o) h = Some (split_filler gfn o h)
filler_at (place.SlotChange slot_change.Fill) command (Some o) h = Some (set_filler command o h)
filler_at _ _ _ _ = None

-- The hand is at a fill of that line.
pub record Fills (F : Filler) (h : Held) : Type 0 where
  pub is_there : h ≡ at_fill (F.place true) F.command F.owned h.state.steps h
  pub fills_one : FillsOne F h

hand_is : (p : Place) (command : Command) (o : OwnedPage) (h : Held) → h.state.place ≡ p → h.state.line.command ≡ command → h.topics.owned ≡ Some o
    → h ≡ at_fill p command o h.state.steps h
hand_is p command o h place_is command_is owned_is = λ s. record {
  state = record h.state { place = place_is s; line = record h.state.line { command = command_is s } };
  topics = record h.topics { owned = owned_is s };
  cached = h.cached;
  slots = h.slots;
  harvest = h.harvest;
  lines = h.lines;
  answers = h.answers;
}

pub filler_fills : (p : Place) (command : Command) (owned : Option OwnedPage) (h : Held) (F : Filler) → h.state.place ≡ p → h.state.line.command ≡ command
    → h.topics.owned ≡ owned → filler_at p command owned h ≡ Some F → Fills F h
filler_fills (place.Access (access.Fault fault.Fill)) (Access gfn word op) (Some o) h F place_is command_is owned_is e =
    subst (λ G. Fills G h) (ap (λ x. unwrap_or x F) e)
    (record { is_there = hand_is (fault_at true) (Access gfn word op) o h place_is command_is owned_is; fills_one = fault_fills gfn word op o h })
filler_fills (place.Split split.Fill) (Split gfn) (Some o) h F place_is command_is owned_is e =
    subst (λ G. Fills G h) (ap (λ x. unwrap_or x F) e)
    (record { is_there = hand_is (split_at true) (Split gfn) o h place_is command_is owned_is; fills_one = split_fills gfn o h })
filler_fills (place.SlotChange slot_change.Fill) command (Some o) h F place_is command_is owned_is e =
    subst (λ G. Fills G h) (ap (λ x. unwrap_or x F) e)
    (record { is_there = hand_is (set_at true) command o h place_is command_is owned_is; fills_one = set_fills command o h })
filler_fills _ _ _ h F place_is command_is owned_is e = absurd (cc e)
