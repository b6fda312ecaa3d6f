-- A loop in which a select stands for a phi and another phi for a literal, run by the definitions: where the phi was written a second
-- time and the select not yet, its equation doesn't hold, and a path comes there without the select.
use Rattle.std.proofs.Common.{◌≡◌, ℕ, zero, suc, List, [], ◌∷◌, Option, Some, None, codes, refl, arith}
use Rattle.sp_ids.specs.declared.ends.End.{End}
use Rattle.sp_ids.specs.declared.ids.BlockId.{BlockId}
use Rattle.ir_ast.specs.declared.modules.Form.TheVariants as form
use Rattle.ir_ast.specs.declared.ops.Op.TheVariants as ops
use Rattle.ir_ast.specs.declared.ops.Pred.TheVariants as preds
use Rattle.ir_ast.specs.declared.ops.Callee.TheVariants as callees
use Rattle.ir_ast.specs.declared.ops.Op.{Op}
use Rattle.ir_ast.specs.declared.ops.Operand.{Operand}
use Rattle.ir_ast.specs.declared.ops.Operand.TheVariants as operands
use Rattle.ir_ast.specs.declared.types.Ty.{Ty}
use Rattle.ir_ast.specs.declared.types.Ty.TheVariants.{Void, Int}
use Rattle.ir_ast.specs.Blocks.{BasicBlock}
use Rattle.ir_ast.specs.Funcs.{Function}
use Rattle.ir_ast.specs.Insts.{Instruction}
use Rattle.ir_ast.specs.Objects.{Datum, number}
use Rattle.object_meaning.specs.Effects.{Progress}
use Rattle.object_meaning.specs.Outcomes.{opening, proceeds}
use Rattle.object_meaning.specs.Runs.{End as Over, Go, Next, goes}
use Rattle.object_meaning.specs.States.{Setting, State}
use Rattle.object_meaning.specs.Steps.{step}
use Rattle.object_meaning.specs.TargetRuns.{target_setting}
use Rattle.base_definite.proofs.base_paths.UndefinedLaws.{Undefined, at_first, behind_edge, behind_line}
use Rattle.known_values.specs.Meanings.{Holds, Meaning, Meanings, at_edge, register}

abbrev value : ℕ → Operand
value place = operands.Value (record { 0 = place })

abbrev literal : ℕ → Operand
literal of = operands.Int of

abbrev line : Option (List ℕ) → Op → Ty → List Operand → List BlockId → Instruction
line result op ty operands labels = record { result = result; op = op; ty = ty; operands = operands; labels = labels; bundle = [] }

abbrev gives : Op → Ty → List Operand → Instruction
gives op ty operands = line (Some []) op ty operands []

abbrev label : ℕ → BlockId
label place = record { 0 = place }

-- %v = phi i64 [ first, %0 ], [ second, %l ]
abbrev merged : Operand → Operand → Instruction
merged first second = line (Some []) ops.Phi (Int 64) (first ∷ second ∷ []) (label 0 ∷ label 1 ∷ [])

abbrev entry : BasicBlock
entry = record { name = codes "0"; insts = line None ops.Br Void [] (label 1 ∷ []) ∷ [] }

abbrev body : BasicBlock
body = record {
  name = codes "l";
  insts =
      merged (literal 0) (value 3)
      ∷ merged (literal 5) (value 1)
      ∷ gives ops.Select (Int 64) (literal 1 ∷ value 0 ∷ literal 7 ∷ [])
      ∷ gives ops.Add (Int 64) (value 2 ∷ literal 1 ∷ [])
      ∷ gives (ops.Icmp preds.Ult) (Int 64) (value 3 ∷ literal 3 ∷ [])
      ∷ line None ops.CondBr (Int 1) (value 4 ∷ []) (label 1 ∷ label 2 ∷ [])
      ∷ [];
}

abbrev last : BasicBlock
last = record {
  name = codes "d";
  insts = line None (ops.Call callees.Print (Int 64 ∷ [])) Void (value 1 ∷ []) [] ∷ line None ops.Ret (Int 64) (value 2 ∷ []) [] ∷ [];
}

abbrev loop : Function
loop = record { name = codes "main"; answer = Int 64; args = []; blocks = entry ∷ body ∷ last ∷ [] }

-- the second phi stands for 5, and the select for the first phi
abbrev five : Meaning
five = record { of = λ registers. number 5; support = [] }

abbrev the_phi : Meaning
the_phi = record { of = λ registers. register registers 0; support = 0 ∷ [] }

abbrev meanings : Meanings
meanings (suc zero) = Some five
meanings (suc (suc zero)) = Some the_phi
meanings _ = None

abbrev run : Setting
run = target_setting (record { layouts = []; funcs = loop ∷ []; form = form.Rewritten }) (λ event. None) 100

abbrev registers_in : Next End (Progress State) → List Datum
registers_in (Go progress) = progress.state.running.registers
registers_in (Over end progress) = []

abbrev registers_after : ℕ → List Datum
registers_after count = registers_in (goes (proceeds run) count (Go (opening run [])))

-- behind the phis, for the first and for the second time, and behind the select
first_time_there : registers_after 1 ≡ number 0 ∷ number 5 ∷ number 0 ∷ number 0 ∷ number 0 ∷ []
unfolding proceeds step
first_time_there = refl

second_time_there : registers_after 5 ≡ number 1 ∷ number 5 ∷ number 0 ∷ number 1 ∷ number 1 ∷ []
unfolding proceeds step
second_time_there = refl

behind_select : registers_after 6 ≡ number 1 ∷ number 5 ∷ number 1 ∷ number 1 ∷ number 1 ∷ []
unfolding proceeds step
behind_select = refl

-- the phi's equation holds behind both, and the select's behind the select
five_holds : Holds 1 five (registers_after 5)
unfolding proceeds step
five_holds = refl

phi_holds : Holds 2 the_phi (registers_after 6)
unfolding proceeds step
phi_holds = refl

-- the edge's registers are those of the run
same_at_edge : at_edge loop 1 1 2 (number 0 ∷ number 5 ∷ number 0 ∷ number 1 ∷ number 1 ∷ []) ≡ number 1 ∷ number 5 ∷ number 0 ∷ number 1 ∷ number 1 ∷ []
same_at_edge = refl

-- before the select its equation may be broken: a path comes there without it
broken : Holds 2 the_phi (number 1 ∷ number 5 ∷ number 0 ∷ number 1 ∷ number 1 ∷ []) → ⊥
broken is = cc

at_body : Undefined loop 2 1 0
at_body =
    behind_edge 0 1 entry
    (behind_line 0 0 (line None ops.Br Void [] (label 1 ∷ [])) at_first (record { block = entry; in_function = refl; in_block = refl }) (λ defines. (let is : 0 ≡ 2 = defines.numbered in omega (arith, is))))
    refl (record { number = 0; leads = refl })

undefined_there : Undefined loop 2 1 2
undefined_there =
    behind_line 1 1 (merged (literal 5) (value 1))
    (behind_line 1 0 (merged (literal 0) (value 3)) at_body (record { block = body; in_function = refl; in_block = refl }) (λ defines. (let is : 0 ≡ 2 = defines.numbered in omega (arith, is))))
    (record { block = body; in_function = refl; in_block = refl }) (λ defines. (let is : 1 ≡ 2 = defines.numbered in omega (arith, is)))
