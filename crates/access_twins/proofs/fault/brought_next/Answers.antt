use Rattle.std.proofs.Common.{◌<◌, sym, subst, ap, ◌∙◌}
use Rattle.core_views.specs.declared.progress.Progress.{Progress}
use Rattle.core_views.specs.declared.topics.HostLook.{HostLook}
use Rattle.core_views.specs.declared.topics.Topics.{Topics}
use Rattle.part_steps.specs.Tasks.{map_of}
use Rattle.spte_words.specs.declared.word_map.WordMap.{WordMap}
use Rattle.access_twins.proofs.fault.brought_next.Goals as goal

-- The host page that was looked up is one of the machine's.
pub word_of-at-requires-clause-within : goal.word_of-at-requires-clause-within
word_of-at-requires-clause-within c =
    let low = (c.requires.rests.looked c.in-Some.field-0 (sym (ap (λ (t : Topics). t.host) c.topics.ensures) ∙ c.in-Some.is)).0 in
    subst (λ (look : HostLook). look.page < c.map_of.result.pages) (sym c.in-Some.field-0-is)
    (subst (λ (m : WordMap). c.in-Some.field-0.page < m.pages) (sym (c.map_of.ensures.is ∙ ap (λ (p : Progress). map_of p.sizes) c.progress.ensures)) low)
