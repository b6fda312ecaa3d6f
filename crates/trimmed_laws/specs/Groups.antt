-- Statepoints with smaller groups, behind which other lines compute what the members gave that went.
use Rattle.std.specs.Prelude.{◌≡◌, ℕ, true, false, List, [], ◌∷◌, ◌++◌, length, map, take, drop, Ok}
use Rattle.std.specs.List.{All}
use Rattle.ir_ast.specs.declared.types.Ty.{Ty}
use Rattle.ir_ast.specs.declared.ops.Callee.{Callee}
use Rattle.ir_ast.specs.declared.ops.Op.TheVariants.{Statepoint}
use Rattle.ir_ast.specs.Layouts.{ObjectLayout}
use Rattle.ir_ast.specs.Objects.{Datum}
use Rattle.ir_ast.specs.Ops.{is_member}
use Rattle.object_meaning.specs.Computing.{value_of_line}
use Rattle.object_meaning.specs.Frames.{member_write}
use Rattle.object_meaning.specs.Lines.{Line}
use Rattle.object_meaning.specs.Registers.{put, put_all}
use Rattle.object_meaning.specs.States.{Frame}
use Rattle.renaming_laws.specs.Renamed.{CalleeTakes, Renaming}
use Rattle.known_values.specs.Onward.{computes}
use Rattle.trimmed_laws.specs.Trims.{Agree, FunctionStays, IsNumbered, Trim, now_operand, starts}

-- lines that compute give values, and write these registers in the end
pub data Computes (layouts : List ObjectLayout) : List Line → List Datum → List Datum → Type 0 where
  no_more : (registers : List Datum) → Computes layouts [] registers registers
  one_more : (line : Line) (lines : List Line) (registers : List Datum) (result : Datum) (final : List Datum) → computes line.inst.op ≡ true
      → value_of_line layouts registers line.inst.op line.inst.ty line.inst.operands ≡ Ok result → Computes layouts lines (put line.to result registers) final
      → Computes layouts (line ∷ lines) registers final

-- a statepoint with its members, and what follows; the same in the other run, with the lines behind its members that are further
pub record Group : Type 0 where
  pub statepoint : Line
  pub members : List Line
  pub rest : List Line
  pub now_statepoint : Line
  pub now_members : List Line
  pub further : List Line
  pub others : List Line

abbrev pub lines_in : Group → List Line
lines_in group = group.statepoint ∷ (group.members ++ group.rest)

abbrev pub lines_now : Group → List Line
lines_now group = group.now_statepoint ∷ (group.now_members ++ (group.further ++ group.others))

-- both call the same with what stands for the arguments, and show the same
pub record IsRegrouped (calls : ℕ → Renaming) (trim : Trim) (group : Group) : Type 0 where
  pub regroups : trim.regroups ≡ true
  pub id : ℕ
  pub callee : Callee
  pub types : List Ty
  pub op : group.statepoint.inst.op ≡ Statepoint id callee types
  pub now_op : group.now_statepoint.inst.op ≡ Statepoint id callee types
  pub numbered : All (λ operand. IsNumbered trim (trim.stands operand)) (take (length types) group.statepoint.inst.operands)
  pub arguments : take (length types) group.now_statepoint.inst.operands ≡ map (now_operand trim) (take (length types) group.statepoint.inst.operands)
  pub takes : CalleeTakes calls callee (take (length types) group.statepoint.inst.operands)
  pub function : FunctionStays trim callee (take (length types) group.statepoint.inst.operands)
  pub shown : All (λ entry. IsNumbered trim (trim.stands entry.1)) group.statepoint.inst.bundle
  pub bundle : group.now_statepoint.inst.bundle ≡ map (λ entry. (entry.0, now_operand trim entry.1)) group.statepoint.inst.bundle
  pub members : All (λ line. is_member line.inst.op ≡ true) group.members
  pub now_members : All (λ line. is_member line.inst.op ≡ true) group.now_members
  pub ends : starts is_member group.rest ≡ false
  pub now_ends : starts is_member (group.further ++ group.others) ≡ false

-- the registers of both behind the members, where the statepoint has so many arguments
abbrev pub behind_members : ℕ → Line → List Line → Datum → List Datum → List Datum
behind_members count statepoint members answer registers = put_all (map (member_write registers (drop count statepoint.inst.operands) answer) members) registers

-- whatever the callee answers, the further lines give values, and in the end kept registers agree
abbrev pub GroupGives : List ObjectLayout → Trim → ℕ → Group → List Datum → List Datum → Type 0
GroupGives layouts trim count group registers now = (answer : Datum) → (final : List Datum)
    × Computes layouts group.further (behind_members count group.now_statepoint group.now_members answer now) final
    × Agree trim (behind_members count group.statepoint group.members answer registers) final

-- so it is where two frames stand at such groups
abbrev pub GroupsRead : List ObjectLayout → (ℕ → Renaming) → Trim → Frame → Frame → Type 0
GroupsRead layouts calls trim frame there = (group : Group) → frame.rest ≡ lines_in group → there.rest ≡ lines_now group → (is : IsRegrouped calls trim group)
    → Agree trim frame.registers there.registers → GroupGives layouts trim (length is.types) group frame.registers there.registers
