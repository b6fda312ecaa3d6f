-- The definitions at a small text, and at lines with bundles.
use Rattle.std.specs.Prelude.{◌≡◌, ℕ, Bool, true, false, List, [], ◌∷◌, map, flat_map, codes, Option, Some, None, refl}
use Rattle.sp_ids.specs.declared.ids.BlockId.{BlockId}
use Rattle.ir_ast.specs.declared.types.Ty.{Ty}
use Rattle.ir_ast.specs.declared.types.Ty.TheVariants as tys
use Rattle.ir_ast.specs.declared.modules.Form.TheVariants.{Source}
use Rattle.ir_ast.specs.declared.ops.Op.TheVariants as ops
use Rattle.ir_ast.specs.declared.ops.Operand.{Operand}
use Rattle.ir_ast.specs.declared.ops.Operand.TheVariants as operands
use Rattle.ir_ast.specs.declared.ops.Callee.TheVariants as callees
use Rattle.ir_ast.specs.Insts.{Instruction}
use Rattle.line_parts.specs.Types.{TypeWord}
use Rattle.line_parts.specs.Types as types
use Rattle.line_parts.specs.Parts as values
use Rattle.line_tokens.specs.declared.words.Binary.TheVariants.{Add}
use Rattle.line_parts.specs.Parts.{Val}
use Rattle.line_parts.specs.Lists.{given}
use Rattle.ir_lines.specs.Statements.{Statement, Line, define, declare, close, label, binary, phi, call, calling, jump, switch, switch_case, switch_end, ret, statepoint}
use Rattle.ir_lines.specs.Parts.{uses}
use Rattle.ir_lines.specs.Sections.{definitions_of}
use Rattle.ir_lines.specs.Scope.{Scope, scope_of}
use Rattle.ir_lines.specs.Modules.{instruction, keeping, known_of, instruction_said, module_of}
use Rattle.ir_lines.specs.Faults.UnknownName.{names_unknown}

abbrev pub at : ℕ → Statement → Line
at number says = record { number = number; says = says }

abbrev pub plain : ℕ → Val
plain magnitude = values.number (record { negative = false; magnitude = magnitude })

abbrev pub minus : ℕ → Val
minus magnitude = values.number (record { negative = true; magnitude = magnitude })

-- `define i64 @main() .. {`, a `switch`, a phi in the loop, and a call of a declared external
abbrev pub text : List Line
text =
    at 1 (declare types.Void (codes "print_i64") (record { ty = types.Int 64; name = None } ∷ []))
    ∷ at 2 (define (types.Int 64) (codes "main") [] (Some (codes "statepoint-example")))
    ∷ at 3 (label (codes "0"))
    ∷ at 4 (switch 8 (plain 3) (codes "a"))
    ∷ at 5 (switch_case 8 (minus 1) (codes "b"))
    ∷ at 6 switch_end
    ∷ at 7 (label (codes "a"))
    ∷ at 8 (phi (codes "x") (types.Int 64) ((plain 7, codes "0") ∷ (values.local (codes "y"), codes "a") ∷ []))
    ∷ at 9 (binary (codes "y") Add 64 (values.local (codes "x")) (minus 1))
    ∷ at 10 (call None (calling types.Void (codes "print_i64") (given (types.Int 64) (values.local (codes "y")) ∷ []) []))
    ∷ at 11 (jump (codes "a"))
    ∷ at 12 (label (codes "b"))
    ∷ at 13 (ret (types.Int 64) (plain 0))
    ∷ at 14 close
    ∷ []

abbrev pub value : ℕ → Operand
value number = operands.Value (record { 0 = number })

abbrev pub block : ℕ → BlockId
block number = record { 0 = number }

pub reads_lines : (module_of Source text).lines ≡ (4 ∷ 8 ∷ 9 ∷ 10 ∷ 11 ∷ 13 ∷ []) ∷ []
reads_lines = refl

pub reads_module : (module_of Source text).content ≡ record {
  layouts = [];
  funcs = record {
    name = codes "main";
    answer = tys.Int 64;
    args = [];
    blocks =
        record {
          name = codes "0";
          insts =
              instruction None ops.Switch (tys.Int 8) (operands.Int 3 ∷ operands.Int 255 ∷ []) (block 1 ∷ block 2 ∷ []) ∷ [];
        }
        ∷ record {
          name = codes "a";
          insts =
              instruction (Some (codes "x")) ops.Phi (tys.Int 64) (operands.Int 7 ∷ value 1 ∷ []) (block 0 ∷ block 1 ∷ [])
              ∷ instruction (Some (codes "y")) ops.Add (tys.Int 64) (value 0 ∷ operands.Int 18446744073709551615 ∷ []) []
              ∷ instruction None (ops.Call callees.Print (tys.Int 64 ∷ [])) tys.Void (value 1 ∷ []) []
              ∷ instruction None ops.Br tys.Void [] (block 1 ∷ []) ∷ [];
        }
        ∷ record {
          name = codes "b";
          insts =
              instruction None ops.Ret (tys.Int 64) (operands.Int 0 ∷ []) [] ∷ [];
        }
        ∷ [];
  } ∷ [];
  form = Source;
}
reads_module = refl

-- the answers of a test at the lines of the only function
abbrev pub found_by : (Scope → Statement → Bool) → List Statement → List Bool
found_by test whats = flat_map (λ func. map (test (scope_of text func)) whats) (definitions_of text)

abbrev pub whats : List Statement
whats =
    binary (codes "z") Add 64 (values.local (codes "x")) (values.local (codes "y"))
    ∷ binary (codes "z") Add 8 (values.local (codes "x")) (plain 1)
    ∷ binary (codes "z") Add 8 (plain 255) (minus 128)
    ∷ binary (codes "z") Add 8 (plain 256) (minus 129)
    ∷ binary (codes "z") Add 64 (values.local (codes "u")) (plain 1)
    ∷ jump (codes "0")
    ∷ jump (codes "u")
    ∷ ret (types.Int 32) (plain 0)
    ∷ call None (calling types.Void (codes "print_i64") [] [])
    ∷ call None (calling types.Void (codes "u") [] [])
    ∷ []

pub finds_unknown_names : found_by names_unknown whats
    ≡ false ∷ false ∷ false ∷ false ∷ true ∷ false ∷ true ∷ false ∷ false ∷ true ∷ []
finds_unknown_names = refl

-- ---- bundles

abbrev pub local : List ℕ → Val
local name = values.local name

-- `"deopt"(i64 %y, i8 -1, P null)`, and of a name that nothing gives
abbrev pub kept : List (Val × TypeWord)
kept = (local (codes "y"), types.Int 64) ∷ (minus 1, types.Int 8) ∷ (values.null, types.Managed) ∷ []

abbrev pub kept_unknown : List (Val × TypeWord)
kept_unknown = (plain 1, types.Int 8) ∷ (local (codes "u"), types.Int 64) ∷ []

abbrev pub bundle : List (Ty × Operand)
bundle = (tys.Int 64, value 1) ∷ (tys.Int 8, operands.Int 255) ∷ (tys.Ptr, operands.Null) ∷ []

abbrev pub calls : List ℕ → List (Val × TypeWord) → Statement
calls callee kept = call (Some (codes "z")) (calling (types.Int 64) callee [] kept)

-- its live entry is `%x`
abbrev pub point : List ℕ → List (Val × TypeWord) → Statement
point callee kept = statepoint (codes "t") (record {
  id = record { negative = false; magnitude = 7 };
  signature = record { answer = types.Int 64; parameters = [] };
  callee = callee;
  count = record { negative = false; magnitude = 0 };
  passed = [];
  kept = kept;
}) (local (codes "x") ∷ [])

abbrev pub instructions_said : List Statement → List (Option Instruction)
instructions_said whats = flat_map (λ func. map (instruction_said (known_of text func) []) whats) (definitions_of text)

-- of a call, of a leaf's call, of a statepoint and of one of a leaf
pub keeps_bundles : instructions_said (calls (codes "main") kept ∷ calls (codes "read_i64") kept ∷ point (codes "main") kept ∷ point (codes "read_i64") kept ∷ [])
    ≡ Some (keeping bundle (instruction (Some (codes "z")) (ops.Call (callees.Fun (record { 0 = 0 })) []) (tys.Int 64) [] []))
    ∷ Some (instruction (Some (codes "z")) (ops.Call callees.Read []) (tys.Int 64) [] [])
    ∷ Some (keeping bundle (instruction (Some (codes "t")) (ops.Statepoint 7 (callees.Fun (record { 0 = 0 })) []) (tys.Int 64) (value 0 ∷ []) []))
    ∷ Some (keeping bundle (instruction (Some (codes "t")) (ops.Statepoint 7 callees.Read []) (tys.Int 64) (value 0 ∷ []) []))
    ∷ []
keeps_bundles = refl

pub uses_bundles : uses (point (codes "main") kept) ≡ (local (codes "x"), types.Managed) ∷ kept
uses_bundles = refl

pub finds_unknown_names_in_bundles : found_by names_unknown (calls (codes "main") kept ∷ calls (codes "main") kept_unknown
    ∷ calls (codes "print_i64") kept_unknown ∷ point (codes "main") kept ∷ point (codes "main") kept_unknown ∷ point (codes "print_i64") kept_unknown ∷ [])
    ≡ false ∷ true ∷ false ∷ false ∷ true ∷ true ∷ []
finds_unknown_names_in_bundles = refl
