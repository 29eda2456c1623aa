-- The invariant holds of every start, and so of every world that is reached.
use Rattle.std.proofs.Common.{◌≡◌, ◌≢◌, ◌<◌, ◌≤◌, ◌+◌, ◌-◌, ◌*◌, ◌^◌, ℕ, zero, suc, List, [], ◌∷◌, length, get_or, refl, sym, subst, ap, ◌∙◌, arith}
use Rattle.std.proofs.Math.Logic.{∥∥₁_map}
use Rattle.std.proofs.Math.Pow.{pow_mono}
use Rattle.std.proofs.lemmas.Bool.Decides.{nat_tests, Decides-eqb}
use Rattle.std.proofs.lemmas.Nat.{pow_pos}
use Rattle.std.proofs.lemmas.List.Elements.{All-nil}
use Rattle.part_steps.specs.SlotWords.{live_at, memory_slot_at}
use Rattle.mmu_core.proofs.words.SlotLists.{none_below}
use Rattle.std.specs.Prelude.{All, Bool, true, false, ◌==◌, nat_lt, if◌then◌else◌, slice_index}
use Rattle.core_views.specs.declared.actor.Actor.{Actor}
use Rattle.core_views.specs.declared.actor.Actor.TheVariants.{Vcpu, Host, Manager, Worker}
use Rattle.core_views.specs.declared.sizes.Sizes.{Sizes}
use Rattle.core_views.specs.declared.trace.Line.{Line}
use Rattle.core_views.specs.Actors.{is_same}
use Rattle.core_views.specs.Held.{Held, first_held}
use Rattle.core_views.specs.Sizes.{AreSizes, actor_at, actors_of, index_of}
use Rattle.core_views.specs.Traces.{IsCommandFor}
use Rattle.core_views.specs.Whole.{lines_of}
use Rattle.spte_words.specs.declared.area.Area.{Area}
use Rattle.spte_words.specs.declared.area.Area.TheVariants as area
use Rattle.spte_words.specs.Areas.{size_of}
use Rattle.spte_words.specs.Entries.{absent_word}
use Rattle.spte_words.specs.Flags.{flags_live}
use Rattle.spte_words.specs.Areas.{StandsSomewhere}
use Rattle.spte_words.proofs.Places.{word_stands}
use Rattle.spte_words.proofs.ReadsHost.{host_fits}
use Rattle.mmu_core.specs.invariant.Invariant.{CachedPart, Holds, IsSetBy, KnowsPart, OwnLines, RecordPart, RetiresPart}
use Rattle.mmu_core.specs.machine.Enabled.{mmu}
use Rattle.mmu_core.specs.machine.Machine.{World, hand_in}
use Rattle.mmu_core.specs.lines.Rests.{Rests}
use Rattle.part_steps.specs.SlotWords.{live_at}
use Rattle.part_steps.specs.Tasks.{map_of}
use Rattle.mmu_core.specs.machine.View.{view, word_in}
use Rattle.mmu_core.specs.machine.Worlds.{AreStartWords, HandReached, IsStart, Reachable, free_bits, least, start_word}
pub use Rattle.mmu_core.proofs.start.StartWords.{hand_is, word_at_start}
use Rattle.mmu_core.proofs.start.StartWords.{hands_count, least_low, pool_word}
use Rattle.mmu_core.proofs.start.StartTopics.{rest_first, seq_start, start_topics}
use Rattle.mmu_core.proofs.invariant.RestsKept.{hand_rests, rests_stay}
use Rattle.mmu_core.specs.invariant.Laws.{IsSound}
use Rattle.mmu_core.proofs.held.UsableSteps.{none_usable}
use Rattle.mmu_core.proofs.machine.Worlds.{good_run}
use Rattle.part_steps.specs.SetWords.{set_role}
use Rattle.mmu_core.specs.invariant.CachedPart.{FitsMachine}
use Rattle.mmu_core.proofs.held.KeptEmpty.{empty_open}

below : (a b : ℕ) → a < b → nat_lt a b ≡ true
below a b lt = grind (arith, nat_tests)

no_flags : flags_live 0 ≡ false
unfolding flags_live
no_flags = refl

absent_is_0 : absent_word ≡ 0
unfolding absent_word
absent_is_0 = refl

pub none_live : (z : Sizes) (w : World Held) (set id : ℕ) → AreStartWords z w.words → live_at (word_in z w area.Pool) set id ≡ false
none_live z w set id start = ap flags_live (pool_word z w _ start) ∙ no_flags

-- The published slot set is page 1, with its role.
slots_at_start : (z : Sizes) (w : World Held) → AreStartWords z w.words → word_in z w area.Slots 0 ≡ 1
slots_at_start z w start = word_at_start z w area.Slots 0 1 start (λ l. refl) (λ e. absurd (cc e))

role_at_start : (z : Sizes) (w : World Held) → AreSizes z → AreStartWords z w.words → word_in z w area.Role (word_in z w area.Slots 0) ≡ set_role
role_at_start z w sizes start =
    ap (word_in z w area.Role) (slots_at_start z w start)
    ∙ word_at_start z w area.Role 1 5 start (λ l. refl) (λ e. let t = below 1 z.pool (omega (arith, sizes.pool.0)) in absurd (cc (e, t)))

-- The place of the actor at a place is that place.
pub place_of_actor : (z : Sizes) (i : ℕ) → i < actors_of z → index_of z (actor_at z i) ≡ i
place_of_actor z i lt =
    by (nat_lt i z.vcpus) (nat_lt (i - z.vcpus) z.hosts) (i == z.vcpus + z.hosts) (λ e. grind (arith, nat_tests)) (λ e. grind (arith, nat_tests))
    (λ e. (Decides-eqb i (z.vcpus + z.hosts)).0 e) (λ e. grind (arith, nat_tests))
  where
    by : (v h m : Bool) → (v ≡ false → z.vcpus ≤ i) → (h ≡ false → z.hosts ≤ i - z.vcpus) → (m ≡ true → i ≡ z.vcpus + z.hosts)
        → (m ≡ false → i ≢ z.vcpus + z.hosts)
        → index_of z (if v then Vcpu i else if h then Host (i - z.vcpus) else if m then Manager else Worker (i - z.vcpus - z.hosts - 1)) ≡ i
    by true h m past behind is not = refl
    by false true m past behind is not = let p = past refl in omega (arith, p)
    by false false true past behind is not = sym (is refl)
    by false false false past behind is not = let p = past refl in let q = behind refl in let r = not refl in grind (arith, p, q, r)

pub same_actor : (x y : Actor) → is_same x y ≡ true → y ≡ x
same_actor (Vcpu m) (Vcpu n) e = ap Vcpu (sym ((Decides-eqb m n).0 e))
same_actor (Host m) (Host n) e = ap Host (sym ((Decides-eqb m n).0 e))
same_actor Manager Manager e = refl
same_actor (Worker m) (Worker n) e = ap Worker (sym ((Decides-eqb m n).0 e))
same_actor _ _ e = absurd (cc e)

-- What holds of each element by a recursion on the list, and by index.
abbrev Each : (Line → Type 0) → List Line → Type 0
Each P [] = Unit {0}
Each P (x ∷ xs) = P x × Each P xs

all_of : (P : Line → Type 0) (xs : List Line) → Each P xs → All P xs
all_of P [] e = λ k d lt. absurd (omega arith)
all_of P (x ∷ xs) e = at (all_of P xs e.1)
  where
    at : All P xs → (k : ℕ) (d : Line) → k < suc (length xs) → P (get_or (x ∷ xs) k d)
    at rest zero d lt = e.0
    at rest (suc k) d lt = rest k d (omega arith)

each_of : (P : Line → Type 0) (xs : List Line) → All P xs → Each P xs
each_of P [] all = tt
each_of P (x ∷ xs) all = (all 0 x (omega arith), each_of P xs (λ k d lt. all (suc k) d (omega arith)))

-- an actor's lines among all: what holds of all, that they are its own, and that their IDs differ
chosen_each : (P : Line → Type 0) (actor : Actor) (lines : List Line) → Each P lines → Each P (lines_of actor lines)
chosen_each P actor [] e = tt
chosen_each P actor (line ∷ lines) e = by (chosen_each P actor lines e.1) (is_same actor line.actor)
  where
    by : Each P (lines_of actor lines) → (b : Bool) → Each P (if b then line ∷ lines_of actor lines else lines_of actor lines)
    by rest true = (e.0, rest)
    by rest false = rest

chosen_own : (actor : Actor) (lines : List Line) → Each (λ line. line.actor ≡ actor) (lines_of actor lines)
chosen_own actor [] = tt
chosen_own actor (line ∷ lines) = by (chosen_own actor lines) (is_same actor line.actor) (λ e. same_actor actor line.actor e)
  where
    by : Each (λ line. line.actor ≡ actor) (lines_of actor lines) → (b : Bool) → (b ≡ true → line.actor ≡ actor)
        → Each (λ line. line.actor ≡ actor) (if b then line ∷ lines_of actor lines else lines_of actor lines)
    by rest true is = (is refl, rest)
    by rest false is = rest

-- An actor has no more lines than there are.
chosen_few : (actor : Actor) (lines : List Line) → length (lines_of actor lines) ≤ length lines
chosen_few actor [] = omega arith
chosen_few actor (line ∷ lines) = by (is_same actor line.actor) (chosen_few actor lines)
  where
    by : (b : Bool) → length (lines_of actor lines) ≤ length lines
        → length (if b then line ∷ lines_of actor lines else lines_of actor lines) ≤ suc (length lines)
    by true le = omega (arith, le)
    by false le = omega (arith, le)

first_lines : (z : Sizes) (lines : List Line) (w : World Held) (i : ℕ) → IsStart z lines w → i < actors_of z
    → OwnLines z i (first_held z (actor_at z i) (lines_of (actor_at z i) lines))
first_lines z lines w i start lt =
    let actor : Actor = actor_at z i in
    let P : Line → Type 0 = λ line. IsCommandFor z line.actor line.command in
    record {
      sizes = refl;
      index = place_of_actor z i lt;
      cache = refl;
      allowed = all_of P (lines_of actor lines) (chosen_each P actor lines (each_of P lines start.allowed));
      own = all_of (λ line. line.actor ≡ actor) (lines_of actor lines) (chosen_own actor lines);
      under = tt;
      few = omega (arith, chosen_few actor lines, start.few);
      set = All-nil (IsSetBy (lines_of actor lines));
    }

-- every word at the start is a number below 2 ^ 64
power_small : (a : ℕ) → a ≤ 64 → 2 ^ a ≤ 2 ^ 64
power_small a le = pow_mono le

bits_small : (first count i : ℕ) → free_bits first count i < 2 ^ 64
bits_small first count i =
    let a = power_small (least 64 (count - 64 * i)) (least_low 64 (count - 64 * i)) in
    let b : 1 ≤ 2 ^ least 64 (first - 64 * i) = pow_pos (least 64 (first - 64 * i)) in
    omega (arith, a, b)

role_small : (i : ℕ) → (if i == 0 then 4 else if i == 1 then 5 else 0) < 2 ^ 64
role_small i = by (i == 0) (i == 1)
  where
    by : (a b : Bool) → (if a then 4 else if b then 5 else 0) < 2 ^ 64
    by true b = omega arith
    by false true = omega arith
    by false false = omega arith

start_small : (z : Sizes) (a : Area) (i : ℕ) → AreSizes z → i < size_of (map_of z) a → start_word z a i < 2 ^ 64
start_small z area.PoolMap i sizes lt = bits_small 2 z.pool i
start_small z area.FrameMap i sizes lt = bits_small z.pages z.frames i
start_small z area.Host i sizes lt = host_fits i true true 1 (omega (arith, lt, sizes.pages.1)) (omega arith)
start_small z area.Role i sizes lt = role_small i
start_small z _ i sizes lt = omega arith

get_or_past : (words : List ℕ) (i d : ℕ) → length words ≤ i → get_or words i d ≡ d
get_or_past [] i d le = refl
get_or_past (x ∷ xs) zero d le = absurd (omega arith)
get_or_past (x ∷ xs) (suc i) d le = get_or_past xs i d (omega arith)

all_small : (z : Sizes) (words : List ℕ) → AreSizes z → AreStartWords z words → (i : ℕ) → slice_index words i < 2 ^ 64
all_small z words sizes start i = by (nat_lt i (length words)) (λ e. grind (arith, nat_tests)) (λ e. grind (arith, nat_tests))
  where
    inside : StandsSomewhere (map_of z) i → slice_index words i < 2 ^ 64
    inside s = subst (λ k. slice_index words k < 2 ^ 64) s.at (rw (start.each s.area s.i s.within) (start_small z s.area s.i sizes s.within))

    by : (b : Bool) → (b ≡ true → i < length words) → (b ≡ false → length words ≤ i) → slice_index words i < 2 ^ 64
    by true lt le = inside (word_stands (map_of z) i (subst (λ n. i < n) start.count (lt refl)))
    by false lt le = rw (get_or_past words i 0 (le refl)) (omega arith)

pub start_good : (z : Sizes) (lines : List Line) (w : World Held) → IsStart z lines w → IsSound z w
start_good z lines w start = record {
  words = start.words.count;
  hands = ap length start.hands ∙ hands_count z lines (actors_of z);
  small = all_small z w.words start.sizes start.words;
  ends = record {
    raised = let none = seq_start z lines w start in omega (arith, none);
    answered = λ i lt. subst (λ (h : Held). length h.answers ≤ length h.lines) (sym (hand_is z lines w i start lt)) (omega arith);
  };
  usable = none_usable z (view z w) (λ i lt. ap (λ (h : Held). h.cached.items) (hand_is z lines w i start lt));
  flushes = λ i v lt low emptied.
      let opened = empty_open (hand_in mmu w i).topics emptied in
      let closed : (hand_in mmu w i).topics.invalidations.opened ≡ false = ap (λ (h : Held). h.topics.invalidations.opened) (hand_is z lines w i start lt) in
      absurd (cc (closed, opened));
  copied = λ i o lt opened owned.
      let closed : (hand_in mmu w i).topics.invalidations.opened ≡ false = ap (λ (h : Held). h.topics.invalidations.opened) (hand_is z lines w i start lt) in
      absurd (cc (closed, opened));
  no_pause = word_at_start z w area.Pause 0 0 start.words (λ l. refl) (λ e. refl);
  holds = record {
    sizes = start.sizes;
    set_part = record {
      role_is = role_at_start z w start.sizes start.words;
      slots = record {
        fits = λ id low live. let e = none_live z w (word_in z w area.Slots 0) id start.words in absurd (cc (e, live));
        guest_apart = λ gfn i j low under live more holds too. let e = none_live z w (word_in z w area.Slots 0) i start.words in absurd (cc (e, live));
        host_apart = λ page i j low under live more has too. let e = none_live z w (word_in z w area.Slots 0) i start.words in absurd (cc (e, live));
      };
    };
    lines = λ i lt. subst (OwnLines z i) (sym (hand_is z lines w i start lt)) (first_lines z lines w i start lt);
    loads =
        λ i lt. subst (λ (h : Held). Holds z (word_in z w area.Pool) (word_in z w area.Slots 0) h.state.place h.state.line.command h)
        (sym (hand_is z lines w i start lt)) tt;
    knows = λ i lt. subst (λ (h : Held). KnowsPart h.state.place h.state.line.command h) (sym (hand_is z lines w i start lt)) (λ has. rest_first);
    leaves = λ i lt. subst (λ (h : Held). RetiresPart h.state.place h.topics) (sym (hand_is z lines w i start lt))
        (record { leaves = λ may. refl; opens = λ may. refl; frames = λ may. refl });
    cached = λ i lt. subst (λ (h : Held). CachedPart z h.cached.items) (sym (hand_is z lines w i start lt))
        (All-nil (FitsMachine z));
    recorded = λ i lt is. subst (λ (h : Held). RecordPart (word_in z w area.Pool) (word_in z w area.Slots 0) h.slots) (sym (hand_is z lines w i start lt))
        (record {
          same = sym (none_below (live_at (word_in z w area.Pool) (word_in z w area.Slots 0)) (memory_slot_at (word_in z w area.Pool)
              (word_in z w area.Slots 0)) 32 (λ id low. none_live z w (word_in z w area.Slots 0) id start.words));
        });
  };
  topics = start_topics z lines w start;
}

pub reached_good : (w : World Held) (r : Reachable w) → IsSound r.sizes w
reached_good w r = subst (IsSound r.sizes) r.leads.ends (good_run r.sizes r.start r.leads.steps (start_good r.sizes r.lines r.start r.is_start) r.leads.legal)

pub reached_rests : (h : Held) → ∥ HandReached h ∥₁ → length h.answers < length h.lines → Rests h
reached_rests h reached left = rests_stay h (∥∥₁_map reached rests_of)
  where
    rests_of : HandReached h → Rests h
    rests_of x =
        let G = reached_good x.world x.reached in
        let there = subst (λ n. x.actor < n) G.hands x.there in
        subst Rests x.has (hand_rests x.reached.sizes (view x.reached.sizes x.world) x.actor G.holds G.topics there
        (subst (λ (g : Held). length g.answers < length g.lines) (sym x.has) left))
