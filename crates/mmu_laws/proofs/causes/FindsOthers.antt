-- Whom a step of an actor finds in its way: who has the lock where its word isn't 0, and who is inside where its state word says so.
use Rattle.spte_words.specs.Bits.{has_bit}
use Rattle.mmu_core.specs.invariant.StatesPart.{stay_bits}
use Rattle.mmu_core.proofs.forms.access.FaultSame.{both}
use Rattle.std.specs.Prelude.{◌%◌}
use Rattle.core_views.specs.declared.topics.Stay.TheVariants.{Guest, Outside, Section}
use Rattle.std.proofs.Common.{◌≡◌, ◌≢◌, ◌⊎◌, inl, inr, ◌<◌, ◌≤◌, ◌+◌, ◌*◌, ◌^◌, ℕ, refl, sym, subst, ap, ◌∙◌, arith}
use Rattle.std.specs.Prelude.{true, false, ◌==◌, nat_le, not}
use Rattle.std.proofs.lemmas.Bool.Decides.{nat_tests}
use Rattle.core_views.specs.declared.kind.Kind.{Kind}
use Rattle.core_views.specs.declared.sizes.Sizes.{Sizes}
use Rattle.core_views.specs.declared.topics.Hold.{Hold}
use Rattle.core_views.specs.declared.topics.Hold.TheVariants.{Loose, Exclusive}
use Rattle.core_views.specs.declared.topics.Stay.{Stay}
use Rattle.core_views.specs.Held.{Held}
use Rattle.core_views.specs.Sizes.{actors_of, index_of}
use Rattle.spte_words.specs.declared.area.Area.TheVariants as area
use Rattle.part_steps.specs.declared.part_step.PartStep.TheVariants as part
use Rattle.mmu_core.specs.machine.Enabled.{mmu}
use Rattle.mmu_core.specs.invariant.Laws.{IsSound}
use Rattle.mmu_core.specs.invariant.LockPart.{readers, writers}
use Rattle.mmu_core.specs.machine.Machine.{May, Step, World, answered, hand_in}
use Rattle.part_steps.specs.PartTasks.{own_index}
use Rattle.part_steps.specs.PartSteps.{counts}
use Rattle.mmu_core.specs.machine.Sums.{one_if}
use Rattle.part_steps.specs.StayTopics.{is_alone, is_outside}
use Rattle.part_steps.specs.ControlBits.{has_writer, in_section, has_to_flush}
use Rattle.mmu_core.specs.machine.View.{word_in}
use Rattle.mmu_laws.specs.causes.Waits.{FindsLockTaken, FindsOtherInside, FindsWriter, FindsToFlush}
use Rattle.mmu_core.proofs.invariant.AloneLaws.{part_found}
use Rattle.mmu_core.proofs.machine.Columns.{same_or}
use Rattle.mmu_core.proofs.held.LockKept.{few_actors}
use Rattle.mmu_laws.proofs.causes.MadeSteps.{Makes, exchange_finds, in_machine, load_finds, own_sizes, word_on}
use Rattle.mmu_core.proofs.held.StateTells.{word_tells}
use Rattle.mmu_core.proofs.machine.SumsBelow.{Contributes, one_small, sum_le, sum_some}

-- Whose state word has bit 0 is in the guest.
in_guest : (stay : Stay) (n : ℕ) → n % 4 ≡ stay_bits stay → has_bit 0 n ≡ true → stay ≡ Guest
in_guest Guest n is odd = refl
in_guest Outside n is odd = absurd (grind (arith, nat_tests))
in_guest Section n is odd = absurd (grind (arith, nat_tests))

module _ (z : Sizes) (u : World Held) (s : Step Kind) (G : IsSound z u) (may : May mmu u s) where
  abbrev h : Held
  h = hand_in mmu u s.actor

  abbrev v : ℕ
  v = answered mmu u s.kind

  abbrev hold : ℕ → Hold
  hold i = (hand_in mmu u i).topics.hold

  there : s.actor < actors_of z
  there = in_machine z u s G may

  -- Where the lock's word isn't 0, some actor counts among its readers or is its writer.
  lock_held : word_in z u area.Lock 0 ≢ 0
      → Contributes (actors_of z) (λ i. one_if (counts (hold i))) ⊎ Contributes (actors_of z) (λ i. one_if (is_alone (hold i)))
  lock_held some = by (same_or (readers (actors_of z) hold) 0) (same_or (writers (actors_of z) hold) 0)
    where
      by : (readers (actors_of z) hold ≡ 0) ⊎ (readers (actors_of z) hold ≢ 0) → (writers (actors_of z) hold ≡ 0) ⊎ (writers (actors_of z) hold ≢ 0)
          → Contributes (actors_of z) (λ i. one_if (counts (hold i))) ⊎ Contributes (actors_of z) (λ i. one_if (is_alone (hold i)))
      by (inr read) _ = inl (sum_some (actors_of z) (λ i. one_if (counts (hold i))) read)
      by (inl none) (inr wrote) = inr (sum_some (actors_of z) (λ i. one_if (is_alone (hold i))) wrote)
      by (inl none) (inl free) =
          absurd (some (G.topics.lock_part.word ∙ ap (λ m. m + 2 ^ 63 * writers (actors_of z) hold) none ∙ ap (λ m. 0 + 2 ^ 63 * m) free))

  pub lock_taken : Makes h s part.Exclude → not (v == 0) ≡ true → FindsLockTaken z u s
  lock_taken M is = by (lock_held (λ e. some (stands ∙ e)))
    where
      some : v ≢ 0
      some = grind (arith, nat_tests)

      stands : v ≡ word_in z u area.Lock 0
      stands = ap (answered mmu u) M.is ∙ part_found z u s.actor part.Exclude M.note G there M.needs

      by_holder : (other : ℕ) → other < actors_of z → hold other ≢ Loose → FindsLockTaken z u s
      by_holder other in_ holds = record {
        on = word_on z u s G may part.Exclude M;
        taken = λ e. some (sym (exchange_finds z u s G may part.Exclude M tt) ∙ e);
        other = other;
        there = in_;
        is_other = λ e. holds (ap hold e ∙ M.needs);
        holds = holds;
      }

      by : Contributes (actors_of z) (λ i. one_if (counts (hold i))) ⊎ Contributes (actors_of z) (λ i. one_if (is_alone (hold i))) → FindsLockTaken z u s
      by (inl C) = by_holder C.at C.below (λ loose. C.more (ap (λ (x : Hold). one_if (counts x)) loose))
      by (inr C) = by_holder C.at C.below (λ loose. C.more (ap (λ (x : Hold). one_if (is_alone x)) loose))

  -- Where bit 63 of the lock's word is set, some actor has the lock alone: there are fewer readers than that.
  some_writer : has_writer (word_in z u area.Lock 0) ≡ true → writers (actors_of z) hold ≢ 0
  some_writer tells none =
      let few = few_actors z G.holds.sizes in
      let read = sum_le (actors_of z) (λ i. one_if (counts (hold i))) (λ i. one_small (counts (hold i))) in
      let high : 2 ^ 63 ≤ word_in z u area.Lock 0 = at_least (word_in z u area.Lock 0) tells in
      omega (arith, few, read, high, G.topics.lock_part.word, none)
    where
      at_least : (n : ℕ) → nat_le (2 ^ 63) n ≡ true → 2 ^ 63 ≤ n
      at_least n is = grind (arith, nat_tests)

  alone_is : (x : Hold) → one_if (is_alone x) ≢ 0 → x ≡ Exclusive
  alone_is Exclusive some = refl
  alone_is _ some = absurd (some refl)

  pub writer_found : Makes h s part.Share → has_writer v ≡ true → FindsWriter z s.actor v u s
  writer_found M tells =
      let stands : v ≡ word_in z u area.Lock 0 = ap (answered mmu u) M.is ∙ part_found z u s.actor part.Share M.note G there M.needs in
      by (sum_some (actors_of z) (λ i. one_if (is_alone (hold i))) (some_writer (ap has_writer (sym stands) ∙ tells)))
    where
      by : Contributes (actors_of z) (λ i. one_if (is_alone (hold i))) → FindsWriter z s.actor v u s
      by C =
          let alone : hold C.at ≡ Exclusive = alone_is (hold C.at) C.more in
          record {
            shares = ap (λ (k : Kind). k.code) M.is;
            finds = record { by_actor = refl; on = word_on z u s G may part.Share M; finds = exchange_finds z u s G may part.Share M tt };
            tells = tells;
            other = C.at;
            there = C.below;
            is_other = λ e. let loose : hold C.at ≡ Loose = ap hold e ∙ M.needs in cc (alone, loose);
            alone = alone;
          }

  pub other_inside : (index : ℕ) → Makes h s (part.Watch index) → in_section v ≡ true → FindsOtherInside z u s
  other_inside index M is = record {
    other = index;
    there = in_;
    is_other = λ e. M.needs.1 (e ∙ sym own_);
    on = word_on z u s G may (part.Watch index) M;
    tells = ap in_section (load_finds z u s G may (part.Watch index) M tt) ∙ is;
    inside =
        λ outside. let says : in_section (word_in z u area.State index) ≡ false = word_tells z u index G in_
        ∙ ap (λ (x : Stay). not (is_outside x)) outside in
        let inside : in_section (word_in z u area.State index) ≡ true = ap in_section (sym stands) ∙ is in cc (says, inside);
  }
    where
      same : h.state.sizes ≡ z
      same = own_sizes z u s G may

      in_ : index < actors_of z
      in_ = subst (λ (y : Sizes). index < actors_of y) same M.needs.0

      own_ : own_index h ≡ s.actor
      own_ = ap (λ (y : Sizes). index_of y h.state.actor) same ∙ (G.holds.lines s.actor there).index

      stands : v ≡ word_in z u area.State index
      stands = ap (answered mmu u) M.is ∙ part_found z u s.actor (part.Watch index) M.note G there M.needs

  pub to_flush : (index : ℕ) → Makes h s (part.Await index) → has_to_flush v ≡ true → FindsToFlush z u s
  to_flush index M is = record {
    other = index;
    there = low;
    is_other =
        λ e. let own : h.topics.stay ≡ Guest = ap (λ (i : ℕ). (hand_in mmu u i).topics.stay) (sym e) ∙ guest in let outside = M.needs.2 in
        cc (own, outside);
    on = word_on z u s G may (part.Await index) M;
    tells = ap has_to_flush (load_finds z u s G may (part.Await index) M tt) ∙ is;
    inside = guest;
  }
    where
      low : index < z.vcpus
      low = let few = (G.topics.counters s.actor there).asked in let lt = M.needs.0 in omega (arith, few, lt)

      in_ : index < actors_of z
      in_ = omega (arith, low)

      stands : v ≡ word_in z u area.State index
      stands = ap (answered mmu u) M.is ∙ part_found z u s.actor (part.Await index) M.note G there M.needs

      guest : (hand_in mmu u index).topics.stay ≡ Guest
      guest =
          in_guest (hand_in mmu u index).topics.stay (word_in z u area.State index) (G.topics.states_part index in_).1
          (both (has_bit 0 (word_in z u area.State index)) (has_bit 2 (word_in z u area.State index)) (ap has_to_flush (sym stands) ∙ is)).0
