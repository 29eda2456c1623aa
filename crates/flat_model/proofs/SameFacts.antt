-- When facts are the same, and what is kept of them.
use Rattle.std.proofs.Common.{◌≡◌, ℕ, Bool, List, [], ap}
use Rattle.core_views.specs.declared.sizes.Sizes.{Sizes}
use Rattle.core_views.specs.Flat.{Facts, first_facts}
use Rattle.core_views.specs.declared.migration.Migration.TheVariants.{Unstarted}
use Rattle.core_views.specs.Host.{HostMap}
use Rattle.core_views.specs.Memory.{Memory}
use Rattle.core_views.specs.Past.{FrameSet}
use Rattle.core_views.specs.Refusals.{is_logged}
use Rattle.core_views.specs.SlotSets.{MemorySlots}
use Rattle.flat_model.specs.HostPages.{Changed, host_of}
use Rattle.flat_model.specs.Dirty.{is_dirty}
use Rattle.flat_model.specs.Kept.{ContentWords, CopiesKept, Kept, facts_of, memory_of}

-- the facts with this migration
abbrev pub facts_with : MemorySlots → HostMap → Memory → (ℕ → Bool) → FrameSet → CopiesKept → Facts
facts_with slots host memory armed pending copies = record {
  slots = slots;
  host = host;
  memory = memory;
  migration = copies.state;
  armed = armed;
  pending = pending;
  image = memory_of copies.image;
  to_copy = is_dirty copies.to_copy;
}

pub same_facts : (slots slots' : MemorySlots) (host host' : HostMap) (memory memory' : Memory) (armed armed' : ℕ → Bool) (pending pending' : FrameSet)
    (copies copies' : CopiesKept) → slots ≡ slots' → ((page : ℕ) → host page ≡ host' page) → ((page word : ℕ) → memory page word ≡ memory' page word)
    → ((id : ℕ) → armed id ≡ armed' id) → ((gfn : ℕ) → pending gfn ≡ pending' gfn)
    → copies ≡ copies' → facts_with slots host memory armed pending copies ≡ facts_with slots' host' memory' armed' pending' copies'
same_facts slots slots' host host' memory memory' armed armed' pending pending' copies copies' s h m a p c =
    λ i. record {
      slots = s i;
      host = λ page. h page i;
      memory = λ page word. m page word i;
      migration = (c i).state;
      armed = λ id. a id i;
      pending = λ gfn. p gfn i;
      image = memory_of (c i).image;
      to_copy = is_dirty (c i).to_copy;
    }

-- A line that changes host pages alone leaves all else as it was.
pub with_host : (before after : Kept) (host : HostMap) → ((other : ℕ) → host_of after.changed other ≡ host other) → after.slots ≡ before.slots
    → after.words ≡ before.words → after.dirty ≡ before.dirty → after.copies ≡ before.copies
    → facts_of after ≡ (let facts : Facts = record (facts_of before) { host = host } in facts)
with_host before after host maps slots words dirty copies =
    same_facts _ _ _ _ _ _ _ _ _ _ _ _ slots maps (λ p w. ap (λ (ws : ContentWords). memory_of ws p w) words) (λ id. ap (is_logged id) slots)
    (λ gfn. ap (λ (frames : List ℕ). is_dirty frames gfn) dirty) copies

pub same_kept : (sizes : Sizes) (slots : MemorySlots) (changed : Changed) (words words' : ContentWords) (dirty dirty' : List ℕ) (copies : CopiesKept)
    → words ≡ words' → dirty ≡ dirty'
    → (let before : Kept = record { sizes = sizes; slots = slots; changed = changed; words = words; dirty = dirty; copies = copies } in before)
    ≡ (let after : Kept = record { sizes = sizes; slots = slots; changed = changed; words = words'; dirty = dirty'; copies = copies } in after)
same_kept sizes slots changed words words' dirty dirty' copies w d =
    λ i. record { sizes = sizes; slots = slots; changed = changed; words = w i; dirty = d i; copies = copies }

-- The facts at the start.
pub start_facts : (sizes : Sizes) (slots : MemorySlots) (changed : Changed) (words : ContentWords) (dirty : List ℕ) (copies : CopiesKept) → slots ≡ []
    → changed ≡ [] → words ≡ [] → dirty ≡ [] → copies ≡ record { state = Unstarted; image = []; to_copy = [] }
    → facts_of (record { sizes = sizes; slots = slots; changed = changed; words = words; dirty = dirty; copies = copies }) ≡ first_facts
start_facts sizes slots changed words dirty copies s c w d p =
    λ i. facts_of (record { sizes = sizes; slots = s i; changed = c i; words = w i; dirty = d i; copies = p i })
