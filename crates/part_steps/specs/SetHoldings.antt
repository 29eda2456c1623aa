-- What a hand holds that publishes a slot set, and that gives the retired page back.
use Rattle.std.specs.Prelude.{◌≡◌, ◌<◌, ◌≤◌, ℕ, true, false, if◌then◌else◌, None, is_some}
use Rattle.core_views.specs.declared.topics.Checked.TheVariants as checked
use Rattle.core_views.specs.declared.topics.Hold.TheVariants.{Exclusive}
use Rattle.core_views.specs.declared.topics.Invalidations.{Invalidations}
use Rattle.core_views.specs.declared.topics.Topics.{Topics}
use Rattle.core_views.specs.Held.{Held}
use Rattle.core_views.specs.Sizes.{actors_of}
use Rattle.part_steps.specs.SetWords.{set_role}
use Rattle.part_steps.specs.PartTasks.{words_filled, role_filled, own_index, page_retired}
pub use Rattle.part_steps.specs.PartHoldings.{next_watched}

-- The page that is owned is filled whole, as a slot set.
pub record OwnsSet (t : Topics) : Type 0 where
  pub whole : words_filled t.owned ≡ 513
  pub role : role_filled t.owned ≡ set_role

-- how many invalidations are open of the actor's own
abbrev pub own_open : Invalidations → ℕ
own_open n = if n.opened then 1 else 0

-- A slot set may be published: it is owned and filled whole, the actor has the lock alone, under which it has seen that no invalidation is open but its own,
-- which is of no host page, and no page is retired yet.
pub record MayPublish (t : Topics) : Type 0 where
  pub owns : OwnsSet t
  pub alone : t.hold ≡ Exclusive
  pub looked : t.invalidations.checked ≡ checked.Count
  pub none_open : t.invalidations.count ≡ own_open t.invalidations
  pub of_no_page : t.invalidations.opened ≡ true → t.invalidations.own.pages ≡ None
  pub none_retired : t.retired ≡ None

-- A page is retired, one of the pool, and each other actor was watched since; the actor owns no page, and has no invalidation open.
pub record MayGiveOld (h : Held) : Type 0 where
  pub leaves : is_some h.topics.retired ≡ true
  pub in_pool : page_retired h.topics.retired < h.state.sizes.pool
  pub owns_none : h.topics.owned ≡ None
  pub watched : actors_of h.state.sizes ≤ next_watched (own_index h) h.topics.watched
  pub closed : h.topics.invalidations.opened ≡ false
