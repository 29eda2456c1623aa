-- The host word that is put to allow writes or forbid them, to have the page in memory or not, or at another frame, is as the one before it but for this.
use Rattle.std.proofs.Common.{◌≡◌, ◌<◌, ℕ, ap, ◌∙◌, arith}
use Rattle.std.specs.Prelude.{Bool}
use Rattle.spte_words.specs.HostWords.{host_allows_write, host_frame, host_level, host_present, host_word}
use Rattle.spte_words.proofs.ReadsHost.{host_has_frame, host_has_level, host_is_present, host_is_writable}
use Rattle.mmu_core.specs.forms.host.HostSteps.{entry_of}
use Rattle.mmu_laws.specs.steps.StepLaws.{WordsTell}

level_low : (word : ℕ) → host_level word < 4
unfolding host_level
level_low word = omega arith

-- what a host word is made of, as an entry
pub entry_made : (frame : ℕ) (present allowed : Bool) (level : ℕ) → level < 4
    → entry_of (host_word frame present allowed level) ≡ record { frame = frame; present = present; writable = allowed; level = level }
entry_made frame present allowed level low =
    let put : ℕ = host_word frame present allowed level in
    ap (λ (f : ℕ). record { frame = f; present = host_present put; writable = host_allows_write put; level = host_level put })
    (host_has_frame frame present allowed level low)
    ∙ (ap (λ (b : Bool). record { frame = frame; present = b; writable = host_allows_write put; level = host_level put })
    (host_is_present frame present allowed level)
    ∙ (ap (λ (b : Bool). record { frame = frame; present = present; writable = b; level = host_level put }) (host_is_writable frame present allowed level)
    ∙ ap (λ (l : ℕ). record { frame = frame; present = present; writable = allowed; level = l }) (host_has_level frame present allowed level low)))

pub words_tell : (one : Bool) (frame word : ℕ) → WordsTell one frame word
words_tell one frame word = record {
  frames = entry_made frame (host_present word) (host_allows_write word) (host_level word) (level_low word);
  frames_level = host_has_level frame (host_present word) (host_allows_write word) (host_level word) (level_low word);
  writes = entry_made (host_frame word) (host_present word) one (host_level word) (level_low word);
  writes_level = host_has_level (host_frame word) (host_present word) one (host_level word) (level_low word);
  presence = entry_made (host_frame word) one (host_allows_write word) (host_level word) (level_low word);
  presence_level = host_has_level (host_frame word) one (host_allows_write word) (host_level word) (level_low word);
}
