use Rattle.std.proofs.Common.{◌≡◌, ◌++◌, ◌∷◌, [], ℕ, List, codes, string_bytes, arith, rules, sym, ap, ◌∙◌, append_assoc}
use Rattle.std.specs.Prelude.{None, Some, filter}
use Rattle.core_views.specs.Migrations.{image_words, slot_words}
use Rattle.core_views.specs.SlotSets.{MemorySlots, slot_of_id}
use Rattle.core_views.specs.Text.{image_text}
use Rattle.flat_model.specs.Copying.{is_printed}
use Rattle.flat_model.proofs.SlotsById.{all_from, are_rising, from_id}
use Rattle.closing_text.specs.MemoryText.{memory_in}
use Rattle.closing_text.proofs.ImageTexts.{pages_at, slot_missing, slot_put, slots_put}
use Rattle.closing_text.proofs.memory.push_memory.Goals as goal
use Rattle.closing_text.proofs.memory.push_memory.Goals.{in-Some+in_ok-push_slot, in_default}

pub loop-id-init : goal.loop-id-init
loop-id-init c =
    let z = c.args.sizes.now in
    let slots = c.args.slots.now in
    let old = string_bytes c.args.text.now in
    let of : MemorySlots → List ℕ = λ es. image_text (image_words z.words (memory_in z c.args.words.now) es) in
    let put : string_bytes c.write.new.self ≡ old ++ codes "memory" = search rules in (
      λ lt. absurd (omega (arith, lt)),
      ap (λ (t : List ℕ). t ++ of (from_id 0 slots)) put ∙ append_assoc old (codes "memory") (of (from_id 0 slots))
          ∙ ap (λ (es : MemorySlots). old ++ (codes "memory" ++ of es)) (all_from slots),
    )

pub push_slot-requires-clause-pages : goal.push_slot-requires-clause-pages
push_slot-requires-clause-pages c =
    let is : slot_of_id c.loop-id.id c.args.slots.now ≡ Some c.in-Some.found = sym c.in-Some.ensures.is in
    pages_at c.args.sizes.now c.args.slots.now c.loop-id.id c.in-Some.found c.requires.slots is

pub loop-id-preserved : goal.loop-id-preserved
loop-id-preserved c =
    let z = c.args.sizes.now in
    let memory = memory_in z c.args.words.now in
    let slots = c.args.slots.now in
    let id = c.loop-id.id in
    let before = string_bytes c.loop-id.text in
    let after = string_bytes c.match-get.text in
    let sound = c.get.ensures.sound in
    elim c.match-get.branch [
      | in-Some+in_ok-push_slot w ↦
          let found = w.in-Some.found in
          let there : slot_of_id id slots ≡ Some found = search rules in
          let put : after ≡ before ++ image_text (filter is_printed (slot_words z.words memory id found.slot)) = search rules in
          (λ lt. sound, slot_put z.words memory id found slots before after _ (are_rising slots sound) there put c.loop-id.invariant.1)
      | in_default w ↦
          let none : slot_of_id id slots ≡ None = search rules in
          let same : after ≡ before = search rules in
          (λ lt. sound, slot_missing z.words memory id slots before after _ none same c.loop-id.invariant.1)
    ]

pub returns : goal.returns
returns c =
    let z = c.args.sizes.now in
    let memory = memory_in z c.args.words.now in
    let slots = c.args.slots.now in
    let old = string_bytes c.args.text.now in
    let put : string_bytes c.write-2.new.self ≡ string_bytes c.loop-id.text ++ 10 ∷ [] = search rules in
    let all = slots_put z.words memory c.loop-id.id slots (string_bytes c.loop-id.text) _ (c.loop-id.invariant.0 (omega arith)) (omega arith)
    c.loop-id.invariant.1 in
    put ∙ ap (λ (t : List ℕ). t ++ 10 ∷ []) all ∙ append_assoc old (codes "memory" ++ image_text (image_words z.words memory slots)) (10 ∷ [])
    ∙ ap (λ (t : List ℕ). old ++ t) (append_assoc (codes "memory") (image_text (image_words z.words memory slots)) (10 ∷ []))
