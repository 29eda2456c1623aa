-- What an access saw of the pause, the slots and the host, and a host line of its page, by the notes of the line.
use Rattle.std.specs.Prelude.{◌≡◌, ℕ, Some, None, true, false}
use Rattle.core_views.specs.declared.host.HostEntry.{HostEntry}
use Rattle.core_views.specs.declared.trace.Op.{Op}
use Rattle.core_views.specs.Flat.{Facts, Notes}
use Rattle.core_views.specs.Host.{is_denied, is_huge}
use Rattle.core_views.specs.Slots.{Slots, page_behind}

-- The line saw no pause, and the slots that it looked at give the guest frame no page for the operation (api.rst, KVM_EXIT_MMIO).
pub record SawNoPage (notes : Notes) (gfn : ℕ) (op : Op) : Type 0 where
  pub runs : notes.paused ≡ Some false
  pub slots : Slots
  pub noted : notes.slots ≡ Some slots
  pub none : page_behind slots gfn op ≡ None

-- It saw no pause, they give it a page, and the host's entry of this page, as the line looked at it, forbids the operation (api.rst, KVM_EXIT_MEMORY_FAULT).
pub record SawForbidden (notes : Notes) (gfn : ℕ) (op : Op) : Type 0 where
  pub runs : notes.paused ≡ Some false
  pub slots : Slots
  pub noted : notes.slots ≡ Some slots
  pub page : ℕ
  pub behind : page_behind slots gfn op ≡ Some page
  pub entry : HostEntry
  pub looked : notes.host page ≡ Some entry
  pub forbids : is_denied op entry ≡ true

-- It saw no pause, they give it a page, and the host's entry of this page, as the line looked at it, allows the operation.
pub record SawPage (notes : Notes) (gfn : ℕ) (op : Op) : Type 0 where
  pub runs : notes.paused ≡ Some false
  pub slots : Slots
  pub noted : notes.slots ≡ Some slots
  pub page : ℕ
  pub behind : page_behind slots gfn op ≡ Some page
  pub entry : HostEntry
  pub looked : notes.host page ≡ Some entry
  pub allows : is_denied op entry ≡ false

-- It looked at this host page, which the host mapped as part of a large page, or by itself.
pub record SawHuge (notes : Notes) (page : ℕ) : Type 0 where
  pub entry : HostEntry
  pub looked : notes.host page ≡ Some entry
  pub huge : is_huge entry ≡ true

pub record SawSmall (notes : Notes) (page : ℕ) : Type 0 where
  pub entry : HostEntry
  pub looked : notes.host page ≡ Some entry
  pub small : is_huge entry ≡ false

-- It saw no pause, the slots that it looked at give this page, and the page is now as the line looked at it: it isn't present, and the host allows
-- the operation.
pub record SawAbsent (f : Facts) (notes : Notes) (gfn : ℕ) (op : Op) (page : ℕ) : Type 0 where
  pub runs : notes.paused ≡ Some false
  pub slots : Slots
  pub noted : notes.slots ≡ Some slots
  pub behind : page_behind slots gfn op ≡ Some page
  pub looked : notes.host page ≡ Some (f.host page)
  pub absent : (f.host page).present ≡ false
  pub allows : is_denied op (f.host page) ≡ false
