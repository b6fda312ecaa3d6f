use Rattle.std.proofs.Common.{◌≡◌, ◌+◌, ◌-◌, ◌%◌, ◌&&◌, Bool, length, drop, eqb, sym, ap, ◌∙◌}
use Rattle.std.specs.List.{list_all}
use Rattle.std.proofs.lemmas.Bool.{eq-eqb, ne_eqb}
use Rattle.frame_walk.specs.Maps.{is_slot}
use Rattle.frame_walk.proofs.RecordLemmas.{usable_is}
use Rattle.frame_walk.proofs.records.usable.Goals as goal

pub returns-then-places-first-ne0 : goal.returns-then-places-first-ne0
returns-then-places-first-ne0 g c =
    let one = g.R.FrameRecord.entry c.args.one.now in
    let first = 3 + c.deopt_count-first.result in
    let bytes = c.frame_bytes-frame_bytes.result in
    let law = usable_is one first (ap (λ n. 3 + n) c.deopt_count-first.ensures.count) bytes c.args.left c.frame_bytes-frame_bytes.ensures
    c.if-frame_bytes-ne0.false c.if-frame_bytes-left.false (sym c.opens.ensures ∙ c.if-not-opens.false) in
    let slots = list_all (is_slot bytes) (drop first one.places) in
    let odd : (length one.places - first) % 2 ≡ 0 → ⊥ = λ e. c.if-places-first-ne0.true (ap (λ n. (n - first) % 2) c.places.ensures ∙ e) in
    sym (law ∙ ap (λ (b : Bool). b && (eqb ((length one.places - first) % 2) 0 && slots)) (sym c.all_deopt.ensures ∙ c.if-not-all_deopt.false)
    ∙ ap (λ (b : Bool). b && slots) (ne_eqb ((length one.places - first) % 2) 0 odd))

pub returns : goal.returns
returns g c =
    let one = g.R.FrameRecord.entry c.args.one.now in
    let first = 3 + c.deopt_count-first.result in
    let bytes = c.frame_bytes-frame_bytes.result in
    let law = usable_is one first (ap (λ n. 3 + n) c.deopt_count-first.ensures.count) bytes c.args.left c.frame_bytes-frame_bytes.ensures
    c.if-frame_bytes-ne0.false c.if-frame_bytes-left.false (sym c.opens.ensures ∙ c.if-not-opens.false) in
    let slots = list_all (is_slot bytes) (drop first one.places) in
    let even : (length one.places - first) % 2 ≡ 0 = ap (λ n. (n - first) % 2) (sym c.places.ensures) ∙ c.if-places-first-ne0.false in
    c.all_slots.ensures
    ∙ sym (law ∙ ap (λ (b : Bool). b && (eqb ((length one.places - first) % 2) 0 && slots)) (sym c.all_deopt.ensures ∙ c.if-not-all_deopt.false)
    ∙ ap (λ (b : Bool). b && slots) (eq-eqb ((length one.places - first) % 2) 0 even))
