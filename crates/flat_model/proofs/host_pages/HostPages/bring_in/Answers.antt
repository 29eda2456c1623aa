use Rattle.std.proofs.Common.{true, sym, ap, rules, unwrap_or, Option, ◌∙◌}
use Rattle.core_views.specs.declared.host.HostEntry.{HostEntry}
use Rattle.core_views.specs.Host.{brought_in, mapping, own_frames}
use Rattle.flat_model.specs.HostPages.{host_of}
use Rattle.flat_model.proofs.HostLines.{put, same_frame, unchanged}
use Rattle.flat_model.proofs.host_pages.HostPages.bring_in.Goals as goal
use Rattle.flat_model.proofs.host_pages.HostPages.bring_in.Goals.{in-Some, in_default}

pub invariant_of-self : goal.invariant_of-self
invariant_of-self c = elim c.match-get_mut.branch [
  | in-Some w ↦
      let was : HostEntry = w.in-Some.entry.now in
      let entry : HostEntry = record { frame = was.frame; present = true; writable = was.writable; level = was.level } in
      let after = (c.get_mut.follows.lender entry).entries in
      let updates = (c.get_mut.follows.holds entry).3 (search rules) in
      let same = ap (λ (o : Option HostEntry). (unwrap_or o (own_frames c.args.page)).frame) w.in-Some.ensures.value in
      rw w.self-inside-is (same_frame c.self.inside.sizes.pages c.args.page entry c.self.inside.changed.entries after c.self.inside.free (λ _. same)
      (put c.args.page entry c.self.inside.changed.entries after updates.0) c.self.invariant)
  | in_default w ↦ rw (w.self-inside-is, c.get_mut.follows.holds-at-none) c.self.invariant
]

pub returns-clause-present : goal.returns-clause-present
returns-clause-present c = elim c.match-get_mut.branch [
  | in-Some w ↦
      let was : HostEntry = w.in-Some.entry.now in
      let entry : HostEntry = record { frame = was.frame; present = true; writable = was.writable; level = was.level } in
      let before = c.self.inside.changed.entries in
      let after = (c.get_mut.follows.lender entry).entries in
      let updates = (c.get_mut.follows.holds entry).3 (search rules) in
      let same = ap (λ (o : Option HostEntry). brought_in (unwrap_or o (own_frames c.args.page))) w.in-Some.ensures.value in
      rw (w.self-inside-is, ← c.self.view_is) (λ other. put c.args.page entry before after updates.0 other
      ∙ ap (λ (e : HostEntry). mapping c.args.page e (host_of before) other) same)
  | in_default w ↦
      rw (w.self-inside-is, ← c.self.view_is, c.get_mut.follows.holds-at-none)
      (unchanged c.args.page c.self.inside.changed.entries (sym w.in_default.ensures.value))
]
