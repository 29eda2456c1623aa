-- What an exchange of a host word makes of the host's map, won or lost, and that it leaves memory.
use Rattle.std.proofs.Common.{◌≡◌, ◌⊎◌, ◌≢◌, inl, inr, ◌<◌, ℕ, refl, sym, ap, ◌∙◌, eqb-true, eq-eqb}
use Rattle.std.specs.Prelude.{Bool, true, false, ◌==◌, if◌then◌else◌}
use Rattle.core_views.specs.declared.host.HostEntry.{HostEntry}
use Rattle.core_views.specs.declared.sizes.Sizes.{Sizes}
use Rattle.core_views.specs.Host.{HostMap, mapping}
use Rattle.core_views.specs.Memory.{Memory}
use Rattle.spte_words.specs.Areas.{content_index}
use Rattle.spte_words.specs.HostWords.{host_frame}
use Rattle.part_steps.specs.Tasks.{map_of}
use Rattle.mmu_core.specs.forms.host.HostSteps.{entry_of}
use Rattle.mmu_core.specs.machine.View.{upd}
use Rattle.mmu_core.proofs.machine.Columns.{same_or, upd_other, upd_same}

pub apart_false : (a b : ℕ) → a ≢ b → (a == b) ≡ false
apart_false a b never = by (a == b) refl
  where
    by : (x : Bool) → (a == b) ≡ x → (a == b) ≡ false
    by true is = absurd (never (eqb-true a b is))
    by false is = is

-- Each page of the machine is mapped as its word says; the word of this page is to be exchanged.
module _ (z : Sizes) (hosts : ℕ → ℕ) (host : HostMap) (maps : (p : ℕ) → p < z.pages → host p ≡ entry_of (hosts p)) (page old_ new_ : ℕ) where
  abbrev pub left : ℕ → ℕ
  left = upd hosts page (if hosts page == old_ then new_ else hosts page)

  -- Where it is won the page is mapped as the new word says.
  pub won_maps : (entry : HostEntry) → hosts page ≡ old_ → entry ≡ entry_of new_ → (p : ℕ) → p < z.pages → mapping page entry host p ≡ entry_of (left p)
  won_maps entry found is p lt = by (same_or p page)
    where
      at : left page ≡ new_
      at = upd_same hosts page _ ∙ ap (λ (b : Bool). if b then new_ else hosts page) (eq-eqb (hosts page) old_ found)

      by : (p ≡ page) ⊎ (p ≢ page) → mapping page entry host p ≡ entry_of (left p)
      by (inl e) =
          ap (mapping page entry host) e
          ∙ (ap (λ (b : Bool). if b then entry else host page) (eq-eqb page page refl)
          ∙ (is ∙ (ap entry_of (sym at) ∙ ap (λ q. entry_of (left q)) (sym e))))
      by (inr ne) =
          ap (λ (b : Bool). if b then entry else host p) (apart_false page p (λ e. ne (sym e)))
          ∙ (maps p lt ∙ ap entry_of (sym (upd_other hosts page p _ ne)))

  -- Where it is lost all are mapped as before.
  pub lost_maps : (hosts page == old_) ≡ false → (p : ℕ) → p < z.pages → host p ≡ entry_of (left p)
  lost_maps lost p lt = maps p lt ∙ ap entry_of (sym (stays (same_or p page)))
    where
      stays : (p ≡ page) ⊎ (p ≢ page) → left p ≡ hosts p
      stays (inl e) =
          ap left e ∙ (upd_same hosts page _ ∙ (ap (λ (b : Bool). if b then new_ else hosts page) lost ∙ ap hosts (sym e)))
      stays (inr ne) = upd_other hosts page p _ ne

  -- The words of the frame that the new word names are those of the old one's frame: so the words of each page's frame are memory.
  pub memory_moves : (memory : Memory) (content : ℕ → ℕ)
      → (hosts page ≡ old_ → (j : ℕ) → j < z.words
      → content (content_index (map_of z) (host_frame new_) j) ≡ content (content_index (map_of z) (host_frame old_) j))
      → ((p j : ℕ) → p < z.pages → j < z.words → memory p j ≡ content (content_index (map_of z) (host_frame (hosts p)) j))
      → (p j : ℕ) → p < z.pages → j < z.words → memory p j ≡ content (content_index (map_of z) (host_frame (left p)) j)
  memory_moves memory content same is p j low below = is p j low below ∙ sym (stays (same_or p page))
    where
      named : ℕ → ℕ
      named w = content (content_index (map_of z) (host_frame w) j)

      exchanged : (won : Bool) → (won ≡ true → hosts page ≡ old_) → named (if won then new_ else hosts page) ≡ named (hosts page)
      exchanged true found = same (found refl) j below ∙ ap named (sym (found refl))
      exchanged false found = refl

      stays : (p ≡ page) ⊎ (p ≢ page) → named (left p) ≡ named (hosts p)
      stays (inl e) =
          ap (λ q. named (left q)) e
          ∙ (ap named (upd_same hosts page _)
          ∙ (exchanged (hosts page == old_) (eqb-true (hosts page) old_) ∙ ap (λ q. named (hosts q)) (sym e)))
      stays (inr ne) = ap named (upd_other hosts page p _ ne)

  -- So they are where it names the frame of the old one.
  pub memory_stays : (memory : Memory) (content : ℕ → ℕ) → host_frame new_ ≡ host_frame old_
      → ((p j : ℕ) → p < z.pages → j < z.words → memory p j ≡ content (content_index (map_of z) (host_frame (hosts p)) j))
      → (p j : ℕ) → p < z.pages → j < z.words → memory p j ≡ content (content_index (map_of z) (host_frame (left p)) j)
  memory_stays memory content same = memory_moves memory content (λ found j below. ap (λ n. content (content_index (map_of z) n j)) same)
