-- What a line knows that stands outside, has no table and no slot set, and holds the lock in some way.
use Rattle.std.specs.Prelude.{◌≡◌, ℕ, Option, None}
use Rattle.core_views.specs.declared.topics.Hold.{Hold}
use Rattle.core_views.specs.declared.topics.Stay.{Stay}
use Rattle.core_views.specs.declared.topics.Stay.TheVariants.{Outside}
use Rattle.core_views.specs.declared.topics.Topics.{Topics}

-- It is said of no other topic than these four, so a step that leaves them leaves it.
pub record HoldsLockBy (hold : Hold) (stay : Stay) (held : Hold) (level : ℕ) (set : Option ℕ) : Type 0 where
  pub outside : stay ≡ Outside
  pub holds : held ≡ hold
  pub no_table : level ≡ 0
  pub no_set : set ≡ None

abbrev pub HoldsLock : Hold → Topics → Type 0
HoldsLock hold t = HoldsLockBy hold t.stay t.hold t.walk.level t.search.set
