-- What the search of a fault owes flat memory: the slots that it has passed don't hold the guest frame, and where it ends with no page there is none.
use Rattle.std.proofs.Common.{◌≡◌, ◌+◌, ◌<◌, ◌≤◌, ℕ, refl, sym, subst, ap, ◌∙◌, arith}
use Rattle.std.proofs.lemmas.Bool.Decides.{Decides-eqb}
use Rattle.core_views.specs.declared.place.FaultEnd.TheVariants.{Mmio}
use Rattle.core_views.specs.declared.place.FaultPlace.TheVariants.{Find, Host, End}
use Rattle.core_views.specs.declared.place.SlotField.{SlotField}
use Rattle.core_views.specs.declared.place.SlotField.TheVariants as field
use Rattle.core_views.specs.declared.sizes.Sizes.{Sizes}
use Rattle.core_views.specs.declared.topics.SlotSearch.{SlotSearch}
use Rattle.core_views.specs.declared.topics.Topics.{Topics}
use Rattle.core_views.specs.declared.trace.Op.{Op}
use Rattle.core_views.specs.declared.trace.Slot.{Slot as SlotOf}
use Rattle.core_views.specs.Flat.{Notes}
use Rattle.core_views.specs.Slots.{contains, is_write, page_behind, page_in}
use Rattle.spte_words.specs.Flags.{flags_live}
use Rattle.mmu_core.specs.forms.access.FaultSteps.{find_next}
use Rattle.mmu_laws.specs.flat.FlatInvariant.{NotedAt, NotedSlots}
use Rattle.mmu_core.specs.invariant.SlotSetPart.{AreSlots, IsLiveIn}
use Rattle.mmu_core.specs.invariant.SearchPart.{HasLoaded}
use Rattle.part_steps.specs.PageTopics.{searched_at}
use Rattle.mmu_core.proofs.machine.Columns.{same_or}
use Rattle.std.proofs.Common.{◌⊎◌, inl, inr, ◌≢◌}
use Rattle.std.specs.Prelude.{All, Bool, true, false, ◌==◌, ◌&&◌, if◌then◌else◌, Some}
use Rattle.part_steps.specs.SlotWords.{page_of, slot_at, slot_index, slots_below}
use Rattle.mmu_core.proofs.words.SlotLists.{each_is_live, no_page_behind, only_one_holds, page_allowed}
use Rattle.part_steps.specs.PartTasks.{set_held}

-- No pause was seen, what is noted are the slots of the slot set in this page, and those with IDs below this one don't hold the guest frame.
record NotedTo (pool : ℕ → ℕ) (notes : Notes) (k id gfn : ℕ) : Type 0 where
  runs : notes.paused ≡ Some false
  noted : notes.slots ≡ Some (slots_below pool k 32)
  passed : All (λ e. e.0 < id → contains gfn e.1 ≡ false) (slots_below pool k 32)

-- A slot that doesn't hold the guest frame is passed by.
passes_one : (pool : ℕ → ℕ) (k gfn id : ℕ) (e : ℕ × SlotOf) → ((slot : SlotOf) → IsLiveIn pool k id slot → contains gfn slot ≡ false)
    → IsLiveIn pool k e.0 e.1 → (e.0 < id → contains gfn e.1 ≡ false) → e.0 < id + 1 → contains gfn e.1 ≡ false
passes_one pool k gfn id e here live before low = case (same_or e.0 id)
  where
    case : (e.0 ≡ id) ⊎ (e.0 ≢ id) → contains gfn e.1 ≡ false
    case (inl same) = here e.1 (subst (λ i. IsLiveIn pool k i e.1) same live)
    case (inr apart) = before (omega arith)

listed : (pool : ℕ → ℕ) (k : ℕ) → All (λ e. IsLiveIn pool k e.0 e.1) (slots_below pool k 32)
listed pool k = each_is_live pool k 32 (omega arith)

passing : (pool : ℕ → ℕ) (notes : Notes) (k id gfn : ℕ) → NotedTo pool notes k id gfn
    → ((slot : SlotOf) → IsLiveIn pool k id slot → contains gfn slot ≡ false) → NotedTo pool notes k (id + 1) gfn
passing pool notes k id gfn N here =
    record { runs = N.runs; noted = N.noted; passed = λ n d lt. passes_one pool k gfn id _ here (listed pool k n d lt) (N.passed n d lt) }

-- Behind the last slot no slot gives the guest frame a page.
beyond : (pool : ℕ → ℕ) (k gfn id : ℕ) (op : Op) (e : ℕ × SlotOf) → id ≡ 32 → IsLiveIn pool k e.0 e.1 → (e.0 < id → contains gfn e.1 ≡ false)
    → contains gfn e.1 ≡ true → (is_write op && e.1.read_only) ≡ true
beyond pool k gfn id op e last live not_here holds = let not_it : contains gfn e.1 ≡ false = not_here (omega (arith, live.low)) in absurd (cc)

-- The search goes on with this ID, or is over.
goes_on : (pool : ℕ → ℕ) (k gfn id : ℕ) (op : Op) (t : Topics) (notes : Notes) → t.search.set ≡ Some k → t.search.id ≡ id
    → NotedTo pool notes k id gfn → NotedAt pool (if id == 32 then End Mmio else Find true) gfn op t notes
goes_on pool k gfn id op t notes held is N = case (id == 32) (Decides-eqb id 32).0
  where
    case : (last : Bool) → (last ≡ true → id ≡ 32) → NotedAt pool (if last then End Mmio else Find true) gfn op t notes
    case true last = record {
      runs = N.runs;
      slots = slots_below pool k 32;
      noted = N.noted;
      none = no_page_behind (slots_below pool k 32) gfn op (λ n d lt. beyond pool k gfn id op _ (last refl) (listed pool k n d lt) (N.passed n d lt));
    }
    case false last = record {
      set = k;
      held = held;
      noted = N.noted;
      passed = subst (λ i. All (λ (e : ℕ × SlotOf). e.0 < i → contains gfn e.1 ≡ false) (slots_below pool k 32)) (sym is) N.passed;
    }

-- The flags are loaded: a slot that isn't live is passed.
flags_noted : (pool : ℕ → ℕ) (k gfn x : ℕ) (s : SlotSearch) (notes : Notes) → x ≡ pool (slot_index k s.id field.Flags) → NotedTo pool notes k s.id gfn
    → NotedTo pool notes k (if flags_live x then s.id else s.id + 1) gfn
flags_noted pool k gfn x s notes is N = case (flags_live x) refl
  where
    dead : flags_live x ≡ false → (slot : SlotOf) → IsLiveIn pool k s.id slot → contains gfn slot ≡ false
    dead not_live slot l = let live : flags_live x ≡ true = ap flags_live is ∙ l.live in absurd (cc (live, not_live))

    case : (live : Bool) → flags_live x ≡ live → NotedTo pool notes k (if live then s.id else s.id + 1) gfn
    case true e = N
    case false e = passing pool notes k s.id gfn N (dead e)

-- Two slots of a set that have a guest frame in common have one ID.
held_apart : (z : Sizes) (k : ℕ) (pool : ℕ → ℕ) → AreSlots z pool k → (gfn i j : ℕ) (x y : SlotOf) → IsLiveIn pool k i x → IsLiveIn pool k j y
    → contains gfn x ≡ true → contains gfn y ≡ true → i ≡ j
held_apart z k pool P gfn i j x y A B holds too =
    P.guest_apart gfn i j A.low B.low A.live B.live (ap (contains gfn) A.is ∙ holds) (ap (contains gfn) B.is ∙ too)

-- The slot is loaded whole: it holds the guest frame, and allows the operation or not, or it is passed.
whole_noted : (z : Sizes) (k : ℕ) (pool : ℕ → ℕ) (gfn x : ℕ) (op : Op) (s : SlotSearch) (t : Topics) (notes : Notes)
    → AreSlots z pool k → HasLoaded field.Host pool k s → s.id ≤ 31
    → x ≡ pool (slot_index k s.id field.Host) → t.search ≡ searched_at field.Host s x → t.search.set ≡ Some k → NotedTo pool notes k s.id gfn
    → NotedAt pool (find_next gfn (is_write op) field.Host (searched_at field.Host s x)) gfn op t notes
whole_noted z k pool gfn x op s t notes P loaded low is search held N = case (contains gfn slot) (is_write op && s.slot.read_only) refl refl
  where
    slot : SlotOf
    slot = record s.slot { host = x }

    found_slot : t.search.slot ≡ slot
    found_slot = ap (λ (r : SlotSearch). r.slot) search

    next : t.search.id ≡ s.id + 1
    next = ap (λ (r : SlotSearch). r.id) search

    is_slot : slot_at pool k s.id ≡ slot
    is_slot = λ i. record { base = sym loaded.1 i; pages = sym loaded.2 i; host = sym is i; read_only = sym loaded.0.1 i }

    -- It is the one slot of the set that holds the guest frame.
    found : contains gfn slot ≡ true → page_behind (slots_below pool k 32) gfn op ≡ page_in gfn op (Some slot)
    found holds =
        let here : contains gfn (slot_at pool k s.id) ≡ true = ap (contains gfn) is_slot ∙ holds in
        ap (page_in gfn op)
        (only_one_holds gfn pool k s.id 32 (omega (arith, low)) loaded.0.0 here (λ i lt live_i too. held_apart z k pool P gfn i s.id _ _
        (record { low = omega arith; live = live_i; is = refl }) (record { low = low; live = loaded.0.0; is = refl }) too here)
        ∙ ap Some is_slot)

    same_frames : contains gfn slot ≡ contains gfn (slot_at pool k s.id)
    same_frames = rw (loaded.1, loaded.2) refl

    here_live : IsLiveIn pool k s.id (slot_at pool k s.id)
    here_live = record { low = low; live = loaded.0.0; is = refl }

    denied_to : (e : ℕ × SlotOf) → contains gfn slot ≡ true → IsLiveIn pool k e.0 e.1 → (is_write op && s.slot.read_only) ≡ true
        → contains gfn e.1 ≡ true → (is_write op && e.1.read_only) ≡ true
    denied_to e here is_live denied holds =
        let same : e.0 ≡ s.id = held_apart z k pool P gfn e.0 s.id e.1 (slot_at pool k s.id) is_live here_live holds (sym same_frames ∙ here) in
        let is : slot_at pool k s.id ≡ e.1 = ap (slot_at pool k) (sym same) ∙ is_live.is in
        ap (λ (r : SlotOf). is_write op && r.read_only) (sym is) ∙ ap (λ b. is_write op && b) (sym loaded.0.1) ∙ denied

    case : (holds denied : Bool) → contains gfn slot ≡ holds → (is_write op && s.slot.read_only) ≡ denied
        → NotedAt pool (if holds then (if denied then End Mmio else Host) else (if s.id + 1 == 32 then End Mmio else Find true)) gfn op t notes
    case true true holds denied = record {
      runs = N.runs;
      slots = slots_below pool k 32;
      noted = N.noted;
      none = no_page_behind (slots_below pool k 32) gfn op (λ n d lt. denied_to _ holds (listed pool k n d lt) denied);
    }
    case true false holds denied = record {
      slots = slots_below pool k 32;
      noted = N.noted;
      behind = found holds ∙ page_allowed slot gfn op denied ∙ ap (λ (r : SlotOf). Some (page_of r gfn)) (sym found_slot);
    }
    case false denied holds _ =
        goes_on pool k gfn (s.id + 1) op t notes held next
        (passing pool notes k s.id gfn N (λ r l. ap (contains gfn) (sym l.is) ∙ sym same_frames ∙ holds))

-- What the line has noted after a word of a slot.
word_noted : (z : Sizes) (k : ℕ) (pool : ℕ → ℕ) (gfn x : ℕ) (op : Op) (f : SlotField) (s : SlotSearch) (t : Topics) (notes : Notes)
    → AreSlots z pool k → s.set ≡ Some k → HasLoaded f pool k s → s.id ≤ 31
    → x ≡ pool (slot_index k s.id f) → t.search ≡ searched_at f s x → NotedTo pool notes k s.id gfn
    → NotedAt pool (find_next gfn (is_write op) f (searched_at f s x)) gfn op t notes
word_noted z k pool gfn x op field.Flags s t notes P held loaded low is search N =
    goes_on pool k gfn (if flags_live x then s.id else s.id + 1) op t notes (ap (λ (r : SlotSearch). r.set) search ∙ held)
    (ap (λ (r : SlotSearch). r.id) search) (flags_noted pool k gfn x s notes is N)
word_noted z k pool gfn x op field.Host s t notes P held loaded low is search N =
    whole_noted z k pool gfn x op s t notes P loaded low is search (ap (λ (r : SlotSearch). r.set) search ∙ held) N
word_noted z k pool gfn x op _ s t notes P held loaded low is search N =
    goes_on pool k gfn s.id op t notes (ap (λ (r : SlotSearch). r.set) search ∙ held) (ap (λ (r : SlotSearch). r.id) search) N

pub find_noted : (z : Sizes) (pool : ℕ → ℕ) (gfn x : ℕ) (op : Op) (f : SlotField) (s : SlotSearch) (t : Topics) (notes : Notes)
    → ((k : ℕ) → s.set ≡ Some k → AreSlots z pool k)
    → ((k : ℕ) → s.set ≡ Some k → HasLoaded f pool k s) → s.id ≤ 31 → x ≡ pool (slot_index (set_held s.set) s.id f) → t.search ≡ searched_at f s x
    → notes.paused ≡ Some false → NotedSlots pool notes s gfn → NotedAt pool (find_next gfn (is_write op) f (searched_at f s x)) gfn op t notes
find_noted z pool gfn x op f s t notes P loaded low is search runs N =
    word_noted z N.set pool gfn x op f s t notes (P N.set N.held) N.held (loaded N.set N.held) low
    (is ∙ ap (λ o. pool (slot_index (set_held o) s.id f)) N.held) search (record { runs = runs; noted = N.noted; passed = N.passed })
