use Rattle.std.proofs.Common.{ℕ, ◌^◌, ◌*◌, ap, ◌∙◌}
use mir.Syntax.{w64}
use mir.Val.{of_z}
use mir.ValLaws.{to_z-of_z}
use Rattle.sp_ids.specs.Numbers.{signed}
use Rattle.ir_ast.specs.Objects.{pointer}
use Rattle.object_store.specs.Words.{datum}
use Rattle.object_meaning.specs.Registers.{pointer_in}
use Rattle.ir_meaning.proofs.StraightLemmas.{wrapped_sum}
use Rattle.ir_meaning.proofs.computing.advanced.Goals as goal

pub returns : goal.returns
returns c =
    let from = pointer_in (datum c.args.from) in
    let times = c.cast_unsigned.ensures ∙ ap (of_z w64) (to_z-of_z w64 c.sign.result (record { sfits = c.sign.type_inv }) ∙ c.sign.ensures) in
    rw (c.to.ensures, c.object.ensures, c.offset.ensures, times)
    (ap (λ (offset : ℕ). pointer (record from { offset = offset }))
    (wrapped_sum from.offset (of_z w64 (signed c.args.width c.args.index) * c.args.scale) c.args.fixed (2 ^ 64)))
