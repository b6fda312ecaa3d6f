use Rattle.std.proofs.Common.{ℕ, ◌^◌, ap, ◌∙◌}
use mir.Syntax.{w64}
use mir.Val.{of_z}
use mir.ValLaws.{to_z-of_z}
use Rattle.sp_ids.specs.Numbers.{signed}
use Rattle.object_meaning.specs.Computing.{element_bytes, field_bytes}
use Rattle.machine_lines.proofs.accesses.stepped_word.Goals as goal
use Rattle.flat_code.proofs.SizeLemmas.{scaled}

pub returns : goal.returns
returns c =
    let times = c.cast_unsigned-times.ensures ∙ ap (of_z w64) (to_z-of_z w64 c.sign.result (record { sfits = c.sign.type_inv }) ∙ c.sign.ensures ∙ ap (λ (w : ℕ). signed w c.args.index) c.width_of.ensures.value) in
    rw (c.element_bytes.ensures, c.field_bytes.ensures, times)
    (scaled c.args.from _ (element_bytes c.args.layouts.now c.args.elem) (field_bytes c.args.layouts.now c.args.elem c.args.place) (2 ^ 64))
