-- The integer widths that a function names.
use Rattle.std.specs.Prelude.{ℕ, ◌≤◌, List, [], ◌∷◌, ◌++◌}
use Rattle.std.specs.List.{flat_map}
use Rattle.ir_ast.specs.declared.types.Ty.{Ty}
use Rattle.ir_ast.specs.declared.types.Ty.TheVariants.{Int}
use Rattle.ir_ast.specs.declared.ops.Elem.{Elem}
use Rattle.ir_ast.specs.declared.ops.Elem.TheVariants.{Int as Integer}
use Rattle.ir_ast.specs.declared.ops.Op.{Op}
use Rattle.ir_ast.specs.declared.ops.Op.TheVariants.{Trunc, Zext, Sext, Gep, Call, Statepoint}
use Rattle.ir_ast.specs.Insts.{Instruction}
use Rattle.ir_ast.specs.Funcs.{Function, instructions_of}

abbrev pub IsWidth : ℕ → Type 0
IsWidth width = (1 ≤ width) × (width ≤ 64)

abbrev pub type_widths : Ty → List ℕ
type_widths (Int width) = width ∷ []
type_widths _ = []

abbrev pub element_widths : Elem → List ℕ
element_widths (Integer width) = width ∷ []
element_widths _ = []

abbrev pub operator_widths : Op → List ℕ
operator_widths (Trunc width) = width ∷ []
operator_widths (Zext width) = width ∷ []
operator_widths (Sext width) = width ∷ []
operator_widths (Gep elem index_width place) = element_widths elem ++ index_width ∷ []
operator_widths (Call callee types) = flat_map type_widths types
operator_widths (Statepoint id callee types) = flat_map type_widths types
operator_widths _ = []

abbrev pub line_widths : Instruction → List ℕ
line_widths inst =
    operator_widths inst.op ++ type_widths inst.ty ++ flat_map (λ entry. type_widths entry.0) inst.bundle

abbrev pub widths_of : Function → List ℕ
widths_of func =
    type_widths func.answer ++ flat_map (λ arg. type_widths arg.ty) func.args
    ++ flat_map line_widths (instructions_of func.blocks)
