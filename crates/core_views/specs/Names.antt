-- What the slots and the host together name (mmu.rst: the second-stage table caches the composition of the two).
use Rattle.std.specs.Prelude.{ℕ, not, ◌||◌, Option, Some, None, if◌then◌else◌}
use Rattle.core_views.specs.declared.host.HostEntry.{HostEntry}
use Rattle.core_views.specs.declared.trace.Op.{Op}
use Rattle.core_views.specs.Slots.{Slots, page_behind}
use Rattle.core_views.specs.Host.{HostMap, is_denied}

-- the frame of the page that is behind, where the page is present and the host allows the operation
abbrev pub frame_for : Op → HostEntry → Option ℕ
frame_for op entry = if is_denied op entry || not entry.present then None else Some entry.frame

abbrev pub frame_at : HostMap → Op → Option ℕ → Option ℕ
frame_at host op None = None
frame_at host op (Some page) = frame_for op (host page)

-- the frame that an operation on the guest frame reaches
abbrev pub named_frame : Slots → HostMap → ℕ → Op → Option ℕ
named_frame slots host gfn op = frame_at host op (page_behind slots gfn op)
