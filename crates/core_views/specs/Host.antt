-- The host's mapping of its pages to frames (mmu.rst, "Translation": a host virtual page to a page of physical memory).
use Rattle.std.specs.Prelude.{ℕ, Bool, true, ◌==◌, ◌&&◌, not, if◌then◌else◌, Option, Some, nat_lt}
use Rattle.core_views.specs.declared.host.HostEntry.{HostEntry}
use Rattle.core_views.specs.declared.trace.Op.{Op}
use Rattle.core_views.specs.Slots.{is_write}

-- The host forbids the operation on a page that it maps so.
abbrev pub is_denied : Op → HostEntry → Bool
is_denied op entry = is_write op && not entry.writable

-- The host maps the page and others of its run as one large page.
abbrev pub is_huge : HostEntry → Bool
is_huge entry = nat_lt 1 entry.level

abbrev pub HostMap : Type 0
HostMap = ℕ → HostEntry

-- the entries of some host pages, as somebody looked at them
abbrev pub HostNotes : Type 0
HostNotes = ℕ → Option HostEntry

-- the entries, with this one of the page
abbrev pub with_entry : ℕ → HostEntry → HostNotes → HostNotes
with_entry page entry noted other = if page == other then Some entry else noted other

-- At the start each page is present, writable and small, at the frame of its own number.
abbrev pub own_frames : HostMap
own_frames page = record { frame = page; present = true; writable = true; level = 1 }

-- the map that maps this page so, and each other one as before
abbrev pub mapping : ℕ → HostEntry → HostMap → HostMap
mapping page entry host other = if page == other then entry else host other

-- the entry of a page that was brought in: it is present, at its frame, and what the host allows is as before
abbrev pub brought_in : HostEntry → HostEntry
brought_in entry = record entry { present = true }
