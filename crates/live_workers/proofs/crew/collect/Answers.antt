use Rattle.std.proofs.Common.{◌≡◌, ◌∙◌, Some, arith, false, subst, sym}
use Rattle.core_views.specs.Held.{Handful}
use Rattle.mmu_core.specs.machine.Steps.{has_line}
use Rattle.table_seats.proofs.HandLists.{at_below}
use Rattle.live_workers.proofs.Joining.{all_there, one_hand}
use Rattle.live_workers.proofs.crew.collect.Goals as goal

pub join_all-requires-clause-fits : goal.join_all-requires-clause-fits
join_all-requires-clause-fits c = c.requires.worked.1.first.fits

pub join_all-requires-clause-ran : goal.join_all-requires-clause-ran
join_all-requires-clause-ran c = (c.requires.worked.1.past, c.requires.worked.1.workers)

pub join_all-requires-clause-count : goal.join_all-requires-clause-count
join_all-requires-clause-count c = c.requires.worked.1.count ∙ sym c.requires.worked.1.wide

pub returns-clause-hands : goal.returns-clause-hands
returns-clause-hands c = c.join_all.ensures.brought

pub returns-clause-collected : goal.returns-clause-collected
returns-clause-collected c trace crew =
    let joined = c.join_all.ensures in
    let hands = c.join_all.new.pass.hands in
    let w = joined.fits.wide in
    record {
      past = crew.past;
      begun = crew.begun;
      fits = joined.fits;
      split = joined.split crew.past crew.first.split;
      count = w ∙ crew.wide;
      all = all_there hands (λ a lt. let h = joined.hands a (omega (arith, w, lt)) in (h.0, h.1));
      done = λ a h hold. let lt = at_below hands a (Some h) hold in
          let o = joined.hands a (omega (arith, w, lt)) in
          subst (λ (x : Handful). has_line x.core ≡ false) (one_hand hands a o.0 h o.1 hold) (o.2 c.if-join_all.false);
    }
