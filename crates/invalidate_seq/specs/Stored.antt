-- What an actor holds after it stored a number in a word of the invalidations.
use Rattle.std.specs.Prelude.{ℕ, Bool, true, false}
use Rattle.core_views.specs.declared.topics.Checked.TheVariants as checked
use Rattle.core_views.specs.declared.topics.Topics.{Topics}
use Rattle.part_steps.specs.ControlTopics.{end_known, start_known}
use Rattle.part_steps.specs.InvalidationRange.{run_aimed}

-- the start of the range: from then on the actor's own invalidation is of the guest frames from this first one on, and of the host pages that it is aimed at
abbrev pub started : ℕ → ℕ → Topics → Topics
started first n t = record t {
  invalidations = record t.invalidations {
    start = n;
    checked = start_known t.invalidations.checked;
    own = record { pages = run_aimed t; start = first; end = t.invalidations.own.end };
  };
}

-- its end: the own one's guest frames are those up to this last one
abbrev pub ended : ℕ → ℕ → Topics → Topics
ended end_ n t = record t {
  invalidations = record t.invalidations { end = n; checked = end_known t.invalidations.checked; own = record t.invalidations.own { end = end_ } };
}

-- the count of open ones: the actor's own is among them, or isn't, and no number was raised for it yet
abbrev pub count_stored : ℕ → Bool → Topics → Topics
count_stored n opened t = record t { invalidations = record t.invalidations { count = n; checked = checked.Nothing; opened = opened; raised = false } }

-- the sequence number
abbrev pub raised : ℕ → Topics → Topics
raised n t = record t { invalidations = record t.invalidations { seq = n; checked = checked.Nothing; raised = true } }
