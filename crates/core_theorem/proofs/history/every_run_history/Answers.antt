use Rattle.std.proofs.Common.{ap, sym, ◌∙◌, subst, ◌<◌, ◌≤◌, ℕ, ◌≡◌, arith}
use Rattle.core_views.specs.declared.host.HostEntry.{HostEntry}
use Rattle.spte_words.specs.HostWords.{host_frame}
use Rattle.spte_words.specs.declared.area.Area.TheVariants as area
use Rattle.mmu_core.specs.machine.Enabled.{mmu}
use Rattle.mmu_core.specs.machine.Machine.{run}
use Rattle.mmu_core.specs.machine.Worlds.{history}
use Rattle.mmu_laws.proofs.flat.EveryHistory.{every_flat, every_history}
use Rattle.mmu_core.proofs.pages.FrameUses.{frames_apart}
use Rattle.mmu_core.proofs.words.HostStays.{level_low}
use Rattle.core_theorem.proofs.Runs.{sound}
use Rattle.core_theorem.specs.Runs.{word_of_entry}
use Rattle.core_views.specs.Flat.{first_flat}
use Rattle.core_views.specs.Events.{after_all}
use Rattle.mmu_core.specs.machine.View.{word_in}
use Rattle.core_theorem.proofs.history.every_run_history.Goals as goal

pub returns-clause-lawful : goal.returns-clause-lawful
returns-clause-lawful c z lines w ss R = every_history z lines w ss R.start R.legal

pub returns-clause-facts : goal.returns-clause-facts
returns-clause-facts c z lines w ss R =
    let F = (every_flat z lines w ss R.start R.legal).refines in
    let T = (sound z lines w ss R).topics in
    let frame : (page : ℕ) → page < z.pages
    → ((after_all (history w ss) first_flat).facts.host page).frame ≡ host_frame (word_in z (run mmu w ss) area.Host page)
    = λ page there. ap (λ (e : HostEntry). e.frame) (F.host page there) in record {
      refines = F;
      host = λ page there.
          (T.hosts page there).0 ∙ ap word_of_entry (sym (F.host page there));
      levels = λ page there. (
        subst (λ (e : HostEntry). 1 ≤ e.level) (sym (F.host page there)) (T.hosts page there).2,
        subst (λ (e : HostEntry). e.level ≤ 3) (sym (F.host page there))
            (let low = level_low (word_in z (run mmu w ss) area.Host page) in omega (arith, low)),
      );
      frames = λ page there. subst (λ n. n < z.frames) (sym (frame page there)) (T.hosts page there).1;
      apart = λ page other low too same. frames_apart T.frames page other low too (sym (frame page low) ∙ (same ∙ frame other too));
    }
