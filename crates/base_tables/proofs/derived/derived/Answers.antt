use Rattle.std.proofs.Common.{◌≡◌, ◌∙◌, Bool, List, length, true, sym, ap, subst}
use Rattle.std.specs.Prelude.{map}
use Rattle.std.proofs.lemmas.List.{length-map}
use Rattle.base_tables.specs.Seen.{seen_shape}
use Rattle.base_tables.specs.Users.{closed_at, kind_steps}
use Rattle.base_tables.proofs.UserLemmas.{closed_marks, steps_sound}
use Rattle.base_tables.proofs.derived.derived.Goals as goal

pub returns-then-is_closed : goal.returns-then-is_closed
returns-then-is_closed c =
    let kinds = map seen_shape c.args.shapes.now in
    closed_marks kinds c.in_ok-marks.marks.items (ap length c.in_ok-marks.ensures ∙ length-map kinds kind_steps)
    (λ v marked. steps_sound kinds v (rw c.in_ok-marks.ensures at marked))
    (λ v kind stands. subst (λ (ms : List Bool). closed_at ms v kind ≡ true) c.as_slice.ensures.value (c.is_closed.ensures c.if-is_closed.true v kind stands))

pub spread-requires-clause-sound : goal.spread-requires-clause-sound
spread-requires-clause-sound c = λ v marked. steps_sound (map seen_shape c.args.shapes.now) v (rw c.in_ok-marks.ensures at marked)

pub returns-then-is_closed-2 : goal.returns-then-is_closed-2
returns-then-is_closed-2 c =
    closed_marks (map seen_shape c.args.shapes.now) c.spread.new.marks.items (c.spread.ensures.whole ∙ sym (length-map c.args.shapes.now seen_shape))
    c.spread.ensures.sound
    (λ v kind stands. subst (λ (ms : List Bool). closed_at ms v kind ≡ true) c.as_slice-2.ensures.value (c.is_closed-2.ensures c.if-is_closed-2.true v kind stands))
