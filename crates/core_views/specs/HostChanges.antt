-- What a host thread changes in the host's mapping of its pages, and why it may not. KVM hears of such changes by its MMU notifiers (api.rst, KVM_CAP_SYNC_MMU;
-- mmu.rst: Linux's memory management stays in control of guest memory).
use Rattle.std.specs.Prelude.{◌≡◌, ◌<◌, ◌==◌, ℕ, Bool, true, false, not, [], ◌∷◌, Option, find}
use Rattle.std.specs.List.{list_any, range_with_len}
use Rattle.core_views.specs.declared.actor.Actor.{Actor}
use Rattle.core_views.specs.declared.actor.Actor.TheVariants.{Host}
use Rattle.core_views.specs.declared.answer.Answer.{Answer}
use Rattle.core_views.specs.declared.answer.Answer.TheVariants.{Done, Moved}
use Rattle.core_views.specs.declared.answer.Refusal.{Refusal}
use Rattle.core_views.specs.declared.answer.Refusal.TheVariants.{OutOfRange}
use Rattle.core_views.specs.declared.host.HostEntry.{HostEntry}
use Rattle.core_views.specs.declared.sizes.Sizes.{Sizes}
use Rattle.core_views.specs.declared.trace.Command.{Command}
use Rattle.core_views.specs.declared.trace.Command.TheVariants.{ChangeHost}
use Rattle.core_views.specs.declared.trace.HostChange.{HostChange}
use Rattle.core_views.specs.declared.trace.HostChange.TheVariants.{Move, Evict, Protect, Allow}
use Rattle.core_views.specs.Host.{HostMap}
use Rattle.core_views.specs.Sizes.{is_threads}
use Rattle.core_views.specs.Slots.{first_of}

-- The command is one that changes a host page.
abbrev pub changes_host : Command → Bool
changes_host (ChangeHost page change) = true
changes_host _ = false

-- The command is one that moves a host page to another frame.
abbrev pub moves_page : Command → Bool
moves_page (ChangeHost page Move) = true
moves_page _ = false

-- The host page is one of the actor's own.
abbrev pub is_own : Sizes → Actor → ℕ → Bool
is_own z (Host host) page = is_threads z host page
is_own z _ page = false

-- why the actor may not change the host page, whatever the host maps it to
abbrev pub host_refusal : Sizes → Actor → ℕ → Option Refusal
host_refusal z actor page = first_of ((not (is_own z actor page), OutOfRange) ∷ [])

-- One of the machine's pages names the frame, present or not.
abbrev pub is_taken : ℕ → HostMap → ℕ → Bool
is_taken pages host frame = list_any (λ page. (host page).frame == frame) (range_with_len 0 pages)

-- the lowest of the machine's frames that no page names, or none
abbrev pub lowest_free : Sizes → HostMap → Option ℕ
lowest_free z host = find (λ frame. not (is_taken z.pages host frame)) (range_with_len 0 z.frames)

-- The entry is what the change makes of the page's: a move gives it a frame that no page names, and each change leaves all else as it was.
abbrev pub Changes : Sizes → HostMap → ℕ → HostChange → HostEntry → Type 0
Changes z host page Move entry =
    (entry ≡ record (host page) { frame = entry.frame }) × (entry.frame < z.frames) × (is_taken z.pages host entry.frame ≡ false)
Changes z host page Evict entry = entry ≡ record (host page) { present = false }
Changes z host page Protect entry = entry ≡ record (host page) { writable = false }
Changes z host page Allow entry = entry ≡ record (host page) { writable = true }

-- The two name one frame, allow the same and are of one level. An access of a guest may bring the page in at any time, so it may be present now where it
-- was seen absent.
abbrev pub Agree : HostEntry → HostEntry → Type 0
Agree seen now = (seen.frame ≡ now.frame) × (seen.writable ≡ now.writable) × (seen.level ≡ now.level) × (seen.present ≡ true → now.present ≡ true)

-- what a host line is answered that has given its page this entry
abbrev pub host_answer : Command → HostEntry → Answer
host_answer (ChangeHost page Move) entry = Moved entry.frame
host_answer _ entry = Done
