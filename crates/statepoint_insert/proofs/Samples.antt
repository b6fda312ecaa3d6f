-- A worked function: a field of an argument and a derived pointer over `null`, both used behind a call and one behind another; its groups and its
-- lines.
use Rattle.std.proofs.Common.{◌≡◌, ℕ, true, false, List, [], ◌∷◌, Option, Some, None, refl}
use Rattle.std.specs.Prelude.{codes}
use Rattle.ir_ast.specs.declared.types.Ty.{Ty}
use Rattle.ir_ast.specs.declared.types.Ty.TheVariants.{Void, Int as Integer, Ptr}
use Rattle.ir_ast.specs.declared.funcs.Arg.{Arg}
use Rattle.ir_ast.specs.declared.ops.Elem.TheVariants.{Int as Bits, Layout}
use Rattle.ir_ast.specs.declared.ops.Operand.{Operand}
use Rattle.ir_ast.specs.declared.ops.Operand.TheVariants.{Int, Null}
use Rattle.ir_ast.specs.declared.ops.Callee.TheVariants.{New, Poll, Print, Check}
use Rattle.ir_ast.specs.declared.ops.Op.{Op}
use Rattle.ir_ast.specs.declared.ops.Op.TheVariants.{Gep, Load, Call, Statepoint, GcResult, GcRelocate, Ret}
use Rattle.ir_ast.specs.Insts.{Instruction}
use Rattle.ir_ast.specs.Funcs.{Function}
use Rattle.rewriting_forms.specs.Numbered.{named}
use Rattle.rewriting_forms.specs.Names.{Name, own, relocated, token}
use Rattle.rewriting_forms.specs.Rewritten.{Piece}
use Rattle.statepoint_insert.specs.declared.groups.Relocate.{Relocate}
use Rattle.statepoint_insert.specs.Groups.{groups_of}
use Rattle.statepoint_insert.specs.Marked.{grouped}
use Rattle.statepoint_insert.specs.Calls.{calls_before}

abbrev line : Option (List ℕ) → Op → Ty → List Operand → Instruction
line result op ty operands = record { result = result; op = op; ty = ty; operands = operands; labels = []; bundle = [] }

abbrev argument : List ℕ → Arg
argument name = record { name = name; ty = Ptr }

-- values: 0 a, 1 f, 2 n, 3 s, 4 x
abbrev func : Function
func = record {
  name = codes "f";
  answer = Integer 64;
  args = argument (codes "a") ∷ [];
  blocks =
      record {
        name = codes "entry";
        insts =
            line (Some (codes "f")) (Gep (Layout 0) 64 (Some 1)) Ptr (named 0 ∷ Int 0 ∷ [])
            ∷ line (Some (codes "n")) (Gep (Bits 8) 64 None) Ptr (Null ∷ Int 8 ∷ [])
            ∷ line None (Call Print (Integer 64 ∷ [])) Void (Int 7 ∷ [])
            ∷ line (Some (codes "s")) (Call (New 0) (Integer 64 ∷ [])) Ptr (Int 1 ∷ [])
            ∷ line None (Call Check (Ptr ∷ Ptr ∷ Integer 64 ∷ [])) Void (Null ∷ named 2 ∷ Int 0 ∷ [])
            ∷ line None (Call Poll []) Void []
            ∷ line (Some (codes "x")) Load (Integer 64) (named 1 ∷ [])
            ∷ line None Ret (Integer 64) (named 4 ∷ [])
            ∷ [];
      }
      ∷ [];
}

abbrev table : List Operand
table = named 0 ∷ named 0 ∷ Null ∷ named 3 ∷ named 4 ∷ []

abbrev relocate : ℕ → ℕ → Relocate
relocate v base = record { value = record { 0 = v }; base = base }

-- `null` stands first where a listed pointer has it as its base, and moves the others' indices; a call of a leaf has no group
groups_are : groups_of func table
    ≡ record { has_null = true; relocates = relocate 0 1 ∷ relocate 1 1 ∷ relocate 2 0 ∷ [] }
    ∷ record { has_null = false; relocates = relocate 0 0 ∷ relocate 1 0 ∷ [] }
    ∷ []
groups_are = refl

before_poll : calls_before func 0 5 ≡ 1
before_poll = refl

abbrev piece : Option Name → Instruction → Piece
piece name inst = record { name = name; inst = inst }

abbrev relocates : ℕ → ℕ → Instruction
relocates base derived = line None GcRelocate Ptr (named 0 ∷ Int base ∷ Int derived ∷ [])

lines_are : grouped func table 0
    ≡ piece (Some (own 1)) (line (Some (codes "f")) (Gep (Layout 0) 64 (Some 1)) Ptr (named 0 ∷ Int 0 ∷ []))
    ∷ piece (Some (own 2)) (line (Some (codes "n")) (Gep (Bits 8) 64 None) Ptr (Null ∷ Int 8 ∷ []))
    ∷ piece None (line None (Call Print (Integer 64 ∷ [])) Void (Int 7 ∷ []))
    ∷ piece (Some (token 0 3)) (line None (Statepoint 2882400000 (New 0) (Integer 64 ∷ [])) Ptr (Int 1 ∷ Null ∷ named 0 ∷ named 1 ∷ named 2 ∷ []))
    ∷ piece (Some (own 3)) (line None GcResult Ptr (named 0 ∷ []))
    ∷ piece (Some (relocated 0 3 0)) (relocates 1 1)
    ∷ piece (Some (relocated 0 3 1)) (relocates 1 2)
    ∷ piece (Some (relocated 0 3 2)) (relocates 0 3)
    ∷ piece None (line None (Call Check (Ptr ∷ Ptr ∷ Integer 64 ∷ [])) Void (Null ∷ named 2 ∷ Int 0 ∷ []))
    ∷ piece (Some (token 0 5)) (line None (Statepoint 2882400000 Poll []) Void (named 0 ∷ named 1 ∷ []))
    ∷ piece (Some (relocated 0 5 0)) (relocates 0 0)
    ∷ piece (Some (relocated 0 5 1)) (relocates 0 1)
    ∷ piece (Some (own 4)) (line (Some (codes "x")) Load (Integer 64) (named 1 ∷ []))
    ∷ piece None (line None Ret (Integer 64) (named 4 ∷ []))
    ∷ []
lines_are = refl
