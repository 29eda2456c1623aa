-- The sizes of a machine, and its actors in their order.
use Rattle.std.specs.Prelude.{◌+◌, ◌-◌, ◌*◌, ◌≤◌, ℕ, All, Bool, List, [], ◌∷◌, ◌==◌, ◌&&◌, nat_le, nat_lt, if◌then◌else◌, length, slice_get, unwrap_or}
use Rattle.core_views.specs.declared.actor.Actor.{Actor}
use Rattle.core_views.specs.declared.actor.Actor.TheVariants.{Vcpu, Host, Manager, Worker}
use Rattle.core_views.specs.declared.sizes.LogMode.{LogMode}
use Rattle.core_views.specs.declared.sizes.LogMode.TheVariants.{Automatic, Manual, ManualAllSet}
use Rattle.core_views.specs.declared.sizes.Sizes.{Sizes}
use Rattle.core_views.specs.declared.trace.Header.{Header}

-- how dirty logs are taken, by the header's number
abbrev pub mode_of : ℕ → LogMode
mode_of manual = if manual == 0 then Automatic else if manual == 1 then Manual else ManualAllSet

-- the first page of a host thread, of those whose first pages are listed; the number of pages where there is no such thread
abbrev pub first_page_in : List ℕ → ℕ → ℕ → ℕ
first_page_in firsts pages host = unwrap_or (slice_get firsts host) pages

abbrev pub sizes_of : Header → Sizes
sizes_of h = record {
  pages = h.pages;
  frames = h.frames;
  words = h.words;
  pool = h.pool;
  cache = h.cache;
  vcpus = h.vcpus;
  hosts = length h.hosts;
  workers = h.workers;
  mode = mode_of h.manual;
  first_pages =
      first_page_in h.hosts h.pages 0 ∷ first_page_in h.hosts h.pages 1 ∷ first_page_in h.hosts h.pages 2 ∷ first_page_in h.hosts h.pages 3 ∷ [];
}

-- the sizes of no machine
abbrev pub no_sizes : Sizes
no_sizes = record { pages = 0; frames = 0; words = 0; pool = 0; cache = 0; vcpus = 0; hosts = 0; workers = 0; mode = Automatic; first_pages = [] }

-- The host page is one of this host thread's own: from the thread's first page up to the next thread's.
abbrev pub is_threads : Sizes → ℕ → ℕ → Bool
is_threads z host page = nat_le (first_page_in z.first_pages z.pages host) page && nat_lt page (first_page_in z.first_pages z.pages (host + 1))

-- how many actors there are: virtual processors, host threads, the manager, workers
abbrev pub actors_of : Sizes → ℕ
actors_of z = z.vcpus + z.hosts + 1 + z.workers

-- the place of an actor among all, in the order of the state words: v0.., h0.., vm, w0..
abbrev pub index_of : Sizes → Actor → ℕ
index_of z (Vcpu n) = n
index_of z (Host n) = z.vcpus + n
index_of z Manager = z.vcpus + z.hosts
index_of z (Worker n) = z.vcpus + z.hosts + 1 + n

-- the actor at a place
abbrev pub actor_at : Sizes → ℕ → Actor
actor_at z i =
    if nat_lt i z.vcpus then Vcpu i else
    if nat_lt (i - z.vcpus) z.hosts then Host (i - z.vcpus) else
    if i == z.vcpus + z.hosts then Manager else
    Worker (i - z.vcpus - z.hosts - 1)

-- There are no more actors than a header can declare.
pub record AreFewActors (z : Sizes) : Type 0 where
  pub vcpus : z.vcpus ≤ 16
  pub hosts : z.hosts ≤ 4
  pub workers : z.workers ≤ 4

-- The first page of each host thread isn't after that of the next one.
pub record AreInOrder (z : Sizes) : Type 0 where
  pub each : (host : ℕ) → first_page_in z.first_pages z.pages host ≤ first_page_in z.first_pages z.pages (host + 1)

-- The sizes are in the ranges of a header.
pub record AreSizes (z : Sizes) : Type 0 where
  pub actors : AreFewActors z
  pub some : 1 ≤ z.vcpus
  pub pages : (1 ≤ z.pages) × (z.pages ≤ 1048576)
  pub frames : (z.pages ≤ z.frames) × (z.frames ≤ 2097152)
  pub words : (1 ≤ z.words) × (z.words ≤ 8)
  pub content : z.frames * z.words ≤ 8388608
  pub pool : (4 ≤ z.pool) × (z.pool ≤ 16384)
  pub cache : (1 ≤ z.cache) × (z.cache ≤ 64)
  pub firsts : All (λ page. page ≤ z.pages) z.first_pages
  pub rising : AreInOrder z
