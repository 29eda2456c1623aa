-- The example is computed.
use Rattle.std.proofs.Common.{refl}
use Rattle.core_views.specs.declared.event.EventKind.TheVariants.{Accessed}
use Rattle.core_views.specs.declared.trace.Op.TheVariants.{Read, Write}
use Rattle.core_views.specs.Flat.{first_flat}
use Rattle.core_views.specs.FlatHistory.{by}
use Rattle.core_views.specs.Lawful.{IsLawful}
use Rattle.word_laws.specs.Example.{AnAddComesBetween, TwoAccessesAreTold}
use Rattle.word_laws.specs.Example.{after_read, before_read, before_write, example_history, example_sizes, reading, writing}

-- An event may be made, and so may those after it.
first : {A B : Type 0} → A → B → A × B
first now later = (now, later)

lawful : IsLawful example_sizes first_flat example_history
lawful =
    first (refl, refl)
    (first (refl, refl, refl)
    (first (refl, (refl, refl))
    (first (refl, refl)
    (first (refl, refl)
    (first refl
    (first refl
    (first (refl, refl, refl, record { named = refl; page = 67; behind = refl; value_is = refl; goes = refl })
    (first (refl, refl, refl, record { named = refl; page = 67; behind = refl; value_is = refl; goes = refl })
    (first (refl, refl)
    (first (refl, refl)
    (first refl
    (first (refl, refl, refl, record { named = refl; page = 67; behind = refl; value_is = refl; goes = refl })
    (first (refl, refl) (first (refl, refl) tt))))))))))))))

pub an_add_comes_between : AnAddComesBetween
an_add_comes_between = (
  lawful,
  record {
    earlier = before_write;
    access = by writing (Accessed 3 1 (Write 5) 67 0);
    between = before_read;
    next = by reading (Accessed 3 1 Read 67 12);
    later = after_read;
    history_is = refl;
    touches = record { gfn = 3; at = 1; frame = 67; kind_is = refl; is_here = refl };
    ops_are = refl;
    touches_next = record { gfn = 3; at = 1; frame = 67; kind_is = refl; is_here = refl };
  },
)

pub two_accesses_are_told : TwoAccessesAreTold
two_accesses_are_told = record { begun = refl; made = refl; told = refl; still_open = refl }
