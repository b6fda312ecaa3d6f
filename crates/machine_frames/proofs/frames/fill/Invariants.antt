use Rattle.std.proofs.Common.{◌≡◌, ℕ, ◌-◌, ◌≤◌, ◌++◌, length, map, take, replicate}
use Rattle.ir_ast.specs.Objects.{number}
use Rattle.object_meaning.specs.Registers.{nothing, value}
use Rattle.machine_meaning.specs.Words.{worded_operand}
use Rattle.machine_frames.proofs.frames.fill.Given as goal

abbrev pub invariant-loop-place : goal.invariant-loop-place
invariant-loop-place l = map number (take l.place l.registers) ≡ map (value (map number l.from)) (map worded_operand (take l.place l.operands))

abbrev pub invariant-loop-place-2 : goal.invariant-loop-place-2
invariant-loop-place-2 l =
    map number (take l.place l.registers) ≡ map (value (map number l.from)) (map worded_operand l.operands) ++ replicate (l.place - length l.operands) nothing
