-- Lists of lines, cut where the instructions are cut.
use Rattle.std.proofs.Common.{◌≡◌, ℕ, zero, suc, ◌+◌, ◌-◌, Bool, true, false, cond, List, [], ◌∷◌, take, drop, length, refl, ap, ◌∙◌, length-drop}
use Rattle.std.specs.List.{prefix_len}
use Rattle.ir_ast.specs.declared.ops.Op.{Op}
use Rattle.ir_ast.specs.declared.ops.Op.TheVariants.{Statepoint}
use Rattle.ir_ast.specs.Insts.{Instruction}
use Rattle.ir_ast.specs.Objects.{Datum}
use Rattle.object_meaning.specs.Frames.{is_member}
use Rattle.object_meaning.specs.Lines.{Line, following, after_all}
use Rattle.object_meaning.specs.Registers.{put}
use Rattle.object_meaning.specs.States.{Frame}
use Rattle.machine_meaning.specs.Machines.{behind, gone_behind, regrouped_by}
use Rattle.machine_lines.specs.Lines.{line_of, lines_left}
use Rattle.ir_ast.specs.Ops.{is_statepoint}

pub count_lines : (next : ℕ) (insts : List Instruction) → length (lines_left next insts) ≡ length insts
count_lines next [] = refl
count_lines next (inst ∷ insts) = ap suc (count_lines (following next inst) insts)

pub prefix_lines : (test : Op → Bool) (next : ℕ) (insts : List Instruction)
    → prefix_len (λ line. test line.inst.op) (lines_left next insts) ≡ prefix_len (λ inst. test inst.op) insts
prefix_lines test next [] = refl
prefix_lines test next (inst ∷ insts) = ap (λ n. cond (test inst.op) (1 + n) 0) (prefix_lines test (following next inst) insts)

pub take_lines : (count next : ℕ) (insts : List Instruction) → take count (lines_left next insts) ≡ lines_left next (take count insts)
take_lines zero next insts = refl
take_lines (suc count) next [] = refl
take_lines (suc count) next (inst ∷ insts) = ap (λ lines. line_of next inst ∷ lines) (take_lines count (following next inst) insts)

pub drop_lines : (count next : ℕ) (insts : List Instruction)
    → drop count (lines_left next insts) ≡ lines_left (after_all next (take count insts)) (drop count insts)
drop_lines zero next insts = refl
drop_lines (suc count) next [] = refl
drop_lines (suc count) next (inst ∷ insts) = drop_lines count (following next inst) insts

-- ---- behind a call

pub behind_point : (op : Op) (next : ℕ) (rest : List Instruction) → is_statepoint op ≡ true
    → length (behind op (lines_left next rest)) ≡ length rest - prefix_len (λ inst. is_member inst.op) rest
behind_point (Statepoint id callee types) next rest e =
    length-drop (prefix_len (λ line. is_member line.inst.op) (lines_left next rest)) (lines_left next rest)
    ∙ ap (λ (n : ℕ). n - prefix_len (λ line. is_member line.inst.op) (lines_left next rest)) (count_lines next rest)
    ∙ ap (λ (n : ℕ). length rest - n) (prefix_lines is_member next rest)
behind_point _ next rest e = cc

pub behind_call : (op : Op) (next : ℕ) (rest : List Instruction) → is_statepoint op ≡ false → length (behind op (lines_left next rest)) ≡ length rest
behind_call (Statepoint id callee types) next rest e = cc
behind_call _ next rest e = count_lines next rest

pub gone_point : (stack : List ℕ) (frame : Frame) (call : Line) (rest : List Line) (answer : Datum) (op : Op) → is_statepoint op ≡ true
    → regrouped_by stack frame rest answer ≡ gone_behind stack frame call rest answer op
gone_point stack frame call rest answer (Statepoint id callee types) e = refl
gone_point stack frame call rest answer _ e = cc

pub gone_call : (stack : List ℕ) (frame : Frame) (call : Line) (rest : List Line) (answer : Datum) (op : Op) → is_statepoint op ≡ false
    → record frame { rest = rest; registers = put call.to answer frame.registers } ≡ gone_behind stack frame call rest answer op
gone_call stack frame call rest answer (Statepoint id callee types) e = cc
gone_call stack frame call rest answer _ e = refl
