-- A module with an unreached block, from which a phi loses an entry: both modules are run by the definitions.
use Rattle.std.proofs.Common.{◌≡◌, ℕ, true, false, List, [], ◌∷◌, map, Option, Some, None, refl, codes, pos}
use Rattle.sp_ids.specs.declared.ends.End.TheVariants as ended
use Rattle.ir_ast.specs.declared.modules.Form.TheVariants as form
use Rattle.ir_ast.specs.declared.ops.Callee.TheVariants as callees
use Rattle.ir_ast.specs.declared.ops.Op.{Op}
use Rattle.ir_ast.specs.declared.ops.Op.TheVariants as ops
use Rattle.ir_ast.specs.declared.ops.Operand.{Operand}
use Rattle.ir_ast.specs.declared.ops.Operand.TheVariants as operands
use Rattle.ir_ast.specs.declared.ops.Pred.TheVariants as preds
use Rattle.ir_ast.specs.declared.types.Ty.{Ty}
use Rattle.ir_ast.specs.declared.types.Ty.TheVariants.{Void, Int}
use Rattle.ir_ast.specs.Insts.{Instruction}
use Rattle.ir_ast.specs.Blocks.{BasicBlock}
use Rattle.ir_ast.specs.Funcs.{Function}
use Rattle.ir_ast.specs.Modules.{ModuleContent}
use Rattle.ir_cfg.specs.Unreached.{function_kept}
use Rattle.object_meaning.specs.Effects.{printed_line}
use Rattle.object_meaning.specs.Outcomes.{Outcome, proceeds}
use Rattle.object_meaning.specs.SourceRuns.{SourceGives, no_go, source_setting}
use Rattle.object_meaning.specs.Steps.{step}
use Rattle.object_meaning.specs.Traces.{at_poll}
use Rattle.object_meaning.proofs.OutcomeLaws.{gives_within}

abbrev line : Option (List ℕ) → Op → Ty → List Operand → List ℕ → Instruction
line result op ty operands labels =
    record { result = result; op = op; ty = ty; operands = operands; labels = map (λ label. record { 0 = label }) labels; bundle = [] }

abbrev value : ℕ → Operand
value number = operands.Value (record { 0 = number })

abbrev read : Instruction
read = line (Some (codes "n")) (ops.Call callees.Read []) (Int 64) [] []

abbrev print : ℕ → Instruction
print number = line None (ops.Call callees.Print (Int 64 ∷ [])) Void (value number ∷ []) []

abbrev add : List ℕ → ℕ → ℕ → Instruction
add name number more = line (Some name) ops.Add (Int 64) (value number ∷ operands.Int more ∷ []) []

abbrev below : ℕ → ℕ → Instruction
below number bound = line (Some (codes "c")) (ops.Icmp preds.Ult) (Int 64) (value number ∷ operands.Int bound ∷ []) []

abbrev jump : ℕ → Instruction
jump to = line None ops.Br Void [] (to ∷ [])

abbrev block : List ℕ → List Instruction → BasicBlock
block name insts = record { name = name; insts = insts }

abbrev main : List BasicBlock → Function
main blocks = record { name = codes "main"; answer = Int 64; args = []; blocks = blocks }

abbrev module_of : Function → ModuleContent
module_of func = record { layouts = []; funcs = func ∷ []; form = form.Source }

-- entry:  %n = call i64 @read() ; br %loop
-- dead:   %d = add i64 %n, 5 ; br %loop
-- loop:   %x = phi i64 [ %n, %entry ], [ %d, %dead ], [ %y, %loop ] ; print %x ; %y = add i64 %x, 1
--         %c = icmp ult i64 %y, 3 ; br i1 %c, %loop, %out
-- out:    ret i64 %y
abbrev whole : Function
whole =
    main (
    block (codes "entry") (read ∷ jump 2 ∷ [])
    ∷ block (codes "dead") (add (codes "d") 0 5 ∷ jump 2 ∷ [])
    ∷ block (codes "loop")
    (line (Some (codes "x")) ops.Phi (Int 64) (value 0 ∷ value 1 ∷ value 3 ∷ []) (0 ∷ 1 ∷ 2 ∷ [])
    ∷ print 2 ∷ add (codes "y") 2 1 ∷ below 3 3 ∷ line None ops.CondBr (Int 1) (value 4 ∷ []) (2 ∷ 3 ∷ []) ∷ [])
    ∷ block (codes "out") (line None ops.Ret (Int 64) (value 3 ∷ []) [] ∷ [])
    ∷ []
    )

abbrev without : Function
without =
    main (
    block (codes "entry") (read ∷ jump 1 ∷ [])
    ∷ block (codes "loop")
    (line (Some (codes "x")) ops.Phi (Int 64) (value 0 ∷ value 2 ∷ []) (0 ∷ 1 ∷ [])
    ∷ print 1 ∷ add (codes "y") 1 1 ∷ below 2 3 ∷ line None ops.CondBr (Int 1) (value 3 ∷ []) (1 ∷ 2 ∷ []) ∷ [])
    ∷ block (codes "out") (line None ops.Ret (Int 64) (value 2 ∷ []) [] ∷ [])
    ∷ []
    )

blocks_dropped : function_kept (true ∷ false ∷ true ∷ true ∷ []) whole ≡ without
blocks_dropped = refl

-- from 1 on it prints twice
abbrev outcome : Outcome
outcome = record {
  lines = printed_line 1 ∷ printed_line 2 ∷ [];
  end = ended.Return (pos 3);
  func = 0;
  steps = 4;
  events = 3;
  printed = 2;
  happened = at_poll ∷ at_poll ∷ at_poll ∷ [];
  accesses = [];
  objects = [];
}

whole_gives : SourceGives (module_of whole) (pos 1 ∷ []) no_go 1000 outcome
unfolding proceeds step
whole_gives = gives_within (source_setting (module_of whole) no_go 1000) (pos 1 ∷ []) 30 outcome refl

without_gives : SourceGives (module_of without) (pos 1 ∷ []) no_go 1000 outcome
unfolding proceeds step
without_gives = gives_within (source_setting (module_of without) no_go 1000) (pos 1 ∷ []) 30 outcome refl
