-- A live slot is one that a slot line of the trace sets: so the spans of its guest frames are wanted.
use Rattle.std.proofs.Common.{◌≡◌, ◌≢◌, ◌⊎◌, inl, inr, ◌+◌, ◌-◌, ◌*◌, ◌/◌, ◌^◌, ◌<◌, ◌≤◌, ◌&&◌, ◌||◌, ℕ, zero, suc, List, [], ◌∷◌, ◌++◌, length}
use Rattle.std.proofs.Common.{get_or, refl, sym, subst, ap, ◌∙◌, arith}
use Rattle.std.proofs.Math.Bool.{or-true}
use Rattle.std.proofs.Math.Nat.{div-div-eq-div-mul, div-lt_iff_lt-mul, div-mul-le_self, pow-suc}
use Rattle.std.proofs.lemmas.Bool.Decides.{nat_tests}
use Rattle.std.proofs.lemmas.List.Elements.{All-contains, All-map, Contains-append_left, Contains-append_right}
use Rattle.std.specs.List.{Contains, list_any}
use Rattle.std.specs.Prelude.{All, Bool, true, false, map, nat_le, nat_lt, if◌then◌else◌}
use Rattle.core_views.specs.declared.actor.Actor.{Actor}
use Rattle.core_views.specs.declared.actor.Actor.TheVariants.{Manager}
use Rattle.core_views.specs.declared.sizes.Sizes.{Sizes}
use Rattle.core_views.specs.declared.memory_slot.MemorySlot.{MemorySlot}
use Rattle.core_views.specs.declared.trace.Command.{Command}
use Rattle.core_views.specs.declared.trace.Command.TheVariants.{SetSlot}
use Rattle.core_views.specs.declared.trace.Header.{Header}
use Rattle.core_views.specs.declared.trace.Line.{Line}
use Rattle.core_views.specs.declared.trace.Slot.{Slot}
use Rattle.core_views.specs.Actors.{is_same}
use Rattle.core_views.specs.Held.{Held}
use Rattle.core_views.specs.Need.{is_counted, meets, wants}
use Rattle.core_views.specs.SlotSets.{flat_slots}
use Rattle.core_views.specs.Slots.{Slots, contains}
use Rattle.core_views.specs.Sizes.{actors_of, sizes_of}
use Rattle.core_views.specs.Whole.{lines_of}
use Rattle.spte_words.specs.declared.area.Area.TheVariants as area
use Rattle.spte_words.specs.Entries.{level_span}
use Rattle.mmu_core.specs.machine.Enabled.{mmu}
use Rattle.mmu_laws.specs.pool.Enough.{some_line_wants}
use Rattle.mmu_core.specs.machine.Machine.{World, hand_in}
use Rattle.mmu_core.specs.invariant.Laws.{IsSound}
use Rattle.mmu_core.specs.invariant.SlotSetPart.{Fits, IsLiveIn}
use Rattle.part_steps.specs.SlotWords.{live_at, slot_at, slots_below}
use Rattle.mmu_core.specs.invariant.TreePart.{Position}
use Rattle.mmu_core.specs.machine.View.{word_in}
use Rattle.mmu_core.proofs.slots.Accepted.{record_flat}
use Rattle.mmu_core.proofs.machine.Columns.{same_or}

-- A live slot is on the list, as it is.
slot_is_listed : (pool : ℕ → ℕ) (set n id : ℕ) → id < n → live_at pool set id ≡ true → Contains (slots_below pool set n) (id, slot_at pool set id)
slot_is_listed pool set zero id lt live = absurd (omega arith)
slot_is_listed pool set (suc n) id lt live = by (same_or id n) (λ less. slot_is_listed pool set n id less live)
  where
    last : Bool → Slots
    last b = if b then (n, slot_at pool set n) ∷ [] else []

    here : (b : Bool) → b ≡ true → Contains (last b) (n, slot_at pool set n)
    here true on = (0, omega arith, refl)
    here false on = absurd (cc on)

    by : (id ≡ n) ⊎ (id ≢ n) → (id < n → Contains (slots_below pool set n) (id, slot_at pool set id))
        → Contains (slots_below pool set n ++ last (live_at pool set n)) (id, slot_at pool set id)
    by (inl e) before = subst (λ k. Contains (slots_below pool set n ++ last (live_at pool set n)) (k, slot_at pool set k)) (sym e)
        (Contains-append_right (slots_below pool set n) (last (live_at pool set n)) (n, slot_at pool set n)
        (here (live_at pool set n) (ap (live_at pool set) (sym e) ∙ live)))
    by (inr ne) before = Contains-append_left (slots_below pool set n) (last (live_at pool set n)) (id, slot_at pool set id) (before (omega arith))

-- What a command of the lines passes, some line does.
any_of : (test : Command → Bool) (lines : List Line) (c : Command) → Contains (map (λ (l : Line). l.command) lines) c → test c ≡ true
    → list_any (λ (l : Line). test l.command) lines ≡ true
any_of test [] c has passes = absurd (omega (arith, has.1))
any_of test (line ∷ lines) c has passes = by has.0 has.1 has.2 (any_of test lines c)
  where
    commands : List Command
    commands = map (λ (l : Line). l.command) lines

    by : (k : ℕ) → k < suc (length commands) → get_or (line.command ∷ commands) k c ≡ c
        → (Contains commands c → test c ≡ true → list_any (λ (l : Line). test l.command) lines ≡ true)
        → (test line.command || list_any (λ (l : Line). test l.command) lines) ≡ true
    by zero lt is rest = rw (is, passes) refl
    by (suc k) lt is rest = rw (rest (k, omega arith, is) passes, or-true (test line.command)) refl

-- What one of an actor's lines passes, one of all does.
any_of_all : (test : Line → Bool) (actor : Actor) (lines : List Line) → list_any test (lines_of actor lines) ≡ true → list_any test lines ≡ true
any_of_all test actor [] some = some
any_of_all test actor (line ∷ lines) some = by (is_same actor line.actor) (test line) refl some (any_of_all test actor lines)
  where
    by : (own passes : Bool) → test line ≡ passes → list_any test (if own then line ∷ lines_of actor lines else lines_of actor lines) ≡ true
        → (list_any test (lines_of actor lines) ≡ true → list_any test lines ≡ true) → (passes || list_any test lines) ≡ true
    by own true is some rest = refl
    by true false is some rest = rest (rw is at some)
    by false false is some rest = rest some

-- The manager's place is after those of the virtual processors and the hosts.
pub manager_place : (z : Sizes) → z.vcpus + z.hosts < actors_of z
manager_place z = omega arith

-- The hand at this place is the manager's, and has the lines of the trace that are its own.
pub record HasOwnLines (z : Sizes) (lines : List Line) (w : World Held) : Type 0 where
  pub actor : (hand_in mmu w (z.vcpus + z.hosts)).state.actor ≡ Manager
  pub own : (hand_in mmu w (z.vcpus + z.hosts)).lines ≡ lines_of Manager lines

-- A live slot is one that a slot line of the trace sets.
live_is_set : (z : Sizes) (lines : List Line) (w : World Held) (id : ℕ) (slot : Slot) → IsSound z w → HasOwnLines z lines w
    → IsLiveIn (word_in z w area.Pool) (word_in z w area.Slots 0) id slot
    → Contains (map (λ (l : Line). l.command) (lines_of Manager lines)) (SetSlot id slot)
live_is_set z lines w id slot G H L =
    let manager : ℕ = z.vcpus + z.hosts in
    let g : Held = hand_in mmu w manager in
    let pool : ℕ → ℕ = word_in z w area.Pool in
    let set : ℕ = word_in z w area.Slots 0 in
    let R = G.holds.recorded manager (manager_place z) H.actor in
    let IsSet : ℕ × Slot → Type 0 = λ e. Contains (map (λ (l : Line). l.command) g.lines) (SetSlot e.0 e.1) in
    let each : All IsSet (flat_slots g.slots) = All-map IsSet (λ (e : ℕ × MemorySlot). (e.0, e.1.slot)) g.slots (G.holds.lines manager (manager_place z)).set in
    let listed = slot_is_listed pool set 32 id (omega (arith, L.low)) L.live in
    let here : IsSet (id, slot_at pool set id) =
    All-contains IsSet (slots_below pool set 32) (id, slot_at pool set id)
    (subst (λ (xs : Slots). All IsSet xs) (record_flat pool set g.slots R) each) listed in
    subst (λ (xs : List Line). Contains (map (λ (l : Line). l.command) xs) (SetSlot id slot)) H.own (subst (λ (s : Slot). IsSet (id, s)) L.is here)

-- A slot that fits and holds a guest frame counts, and has a guest frame in the span that this one is in.
counts : (z : Sizes) (gfn : ℕ) (slot : Slot) → Fits z slot → contains gfn slot ≡ true → is_counted z.pages slot ≡ true
counts z gfn slot fits holds = counted slot.base slot.pages slot.host z.pages gfn fits.pages fits.frames holds
  where
    counted : (base pages host total gfn : ℕ) → host + pages ≤ total → base + pages ≤ 2 ^ 36 → (nat_le base gfn && nat_lt gfn (base + pages)) ≡ true
        → (nat_le 1 pages && nat_le pages total && nat_le (base + pages) (2 ^ 36)) ≡ true
    counted base pages host total gfn small low holds = grind (arith, nat_tests)

met : (base end from past gfn : ℕ) → from ≤ gfn → gfn < past → (nat_le base gfn && nat_lt gfn end) ≡ true → (nat_lt base past && nat_lt from end) ≡ true
met base end from past gfn le lt holds = grind (arith, nat_tests)

pub meets_span : (span gfn index : ℕ) (slot : Slot) → 0 < span → gfn / span ≡ index → contains gfn slot ≡ true → meets span index slot ≡ true
meets_span span gfn index slot pos is holds = subst (λ i. meets span i slot ≡ true) is
    (met slot.base (slot.base + slot.pages) (gfn / span * span) ((gfn / span + 1) * span) gfn (div-mul-le_self gfn span)
    ((div-lt_iff_lt-mul {k = span} {x = gfn} {y = gfn / span + 1} pos).0 (omega arith)) holds)

-- the span of 512 entries that a guest frame is in
span_at : (level gfn : ℕ) → 1 ≤ level → gfn / level_span level / 512 ≡ gfn / 512 ^ level
unfolding level_span
span_at zero gfn some = absurd (omega arith)
span_at (suc level) gfn some =
    let e : suc level - 1 ≡ level = omega arith in
    rw e (div-div-eq-div-mul gfn (512 ^ level) 512 ∙ ap (λ s. gfn / s) (sym (pow-suc 512 level)))

span_some : (level : ℕ) → 0 < 512 ^ level
span_some zero = omega arith
span_some (suc level) = let e = pow-suc 512 level in omega (arith, span_some level, e)

-- the spans of guest frames below 2 ^ 36
span_below : (level gfn : ℕ) → 1 ≤ level → level ≤ 4 → gfn < 2 ^ 36 → gfn / 512 ^ level < 2 ^ 36 / 512 ^ level
span_below zero gfn some most lt = absurd (omega arith)
span_below (suc zero) gfn some most lt = omega (arith, lt)
span_below (suc (suc zero)) gfn some most lt = omega (arith, lt)
span_below (suc (suc (suc zero))) gfn some most lt = omega (arith, lt)
span_below (suc (suc (suc (suc zero)))) gfn some most lt = omega (arith, lt)
span_below (suc (suc (suc (suc (suc level))))) gfn some most lt = absurd (omega arith)

-- A span of guest frames that tables of a level are for: some slot line of the trace wants it.
pub record IsWantedSpan (h : Header) (lines : List Line) (p : Position) : Type 0 where
  pub below : p.prefix < 2 ^ 36 / 512 ^ p.level
  pub wanted : some_line_wants h lines p.level p.prefix ≡ true

below_all : (z : Sizes) (gfn : ℕ) (slot : Slot) → Fits z slot → contains gfn slot ≡ true → gfn < 2 ^ 36
below_all z gfn slot fits holds = under slot.base (slot.base + slot.pages) gfn fits.frames holds
  where
    under : (base end gfn : ℕ) → end ≤ 2 ^ 36 → (nat_le base gfn && nat_lt gfn end) ≡ true → gfn < 2 ^ 36
    under base end gfn low holds = grind (arith, nat_tests)

-- Some guest frame of the span that tables at this place are for is in a slot that is live in this set.
pub record IsForSlot (pool : ℕ → ℕ) (set : ℕ) (p : Position) : Type 0 where
  pub gfn : ℕ
  pub id : ℕ
  pub slot : Slot
  pub live : IsLiveIn pool set id slot
  pub holds : contains gfn slot ≡ true
  pub span : gfn / level_span p.level / 512 ≡ p.prefix

-- Such a span is wanted.
pub wanted_by_line : (h : Header) (lines : List Line) (w : World Held) (p : Position) → IsSound (sizes_of h) w → HasOwnLines (sizes_of h) lines w
    → 1 ≤ p.level → p.level ≤ 4 → IsForSlot (word_in (sizes_of h) w area.Pool) (word_in (sizes_of h) w area.Slots 0) p → IsWantedSpan h lines p
wanted_by_line h lines w p G H some most W =
    let z : Sizes = sizes_of h in
    let fits : Fits z W.slot = subst (Fits z) W.live.is (G.holds.set_part.slots.fits W.id W.live.low W.live.live) in
    let run_is : W.gfn / 512 ^ p.level ≡ p.prefix = sym (span_at p.level W.gfn some) ∙ W.span in
    let is_set = live_is_set z lines w W.id W.slot G H W.live in
    let wanted : wants z.pages (512 ^ p.level) p.prefix (SetSlot W.id W.slot) ≡ true =
    ap (λ b. b && meets (512 ^ p.level) p.prefix W.slot) (counts z W.gfn W.slot fits W.holds)
    ∙ meets_span (512 ^ p.level) W.gfn p.prefix W.slot (span_some p.level) run_is W.holds in
    record {
      below = subst (λ i. i < 2 ^ 36 / 512 ^ p.level) run_is (span_below p.level W.gfn some most (below_all z W.gfn W.slot fits W.holds));
      wanted =
          any_of_all (λ (l : Line). wants z.pages (512 ^ p.level) p.prefix l.command) Manager lines
          (any_of (wants z.pages (512 ^ p.level) p.prefix) (lines_of Manager lines) (SetSlot W.id W.slot) is_set wanted);
    }
