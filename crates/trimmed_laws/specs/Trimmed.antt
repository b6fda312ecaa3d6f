-- A run whose lines are those of another run, some of which went.
use Rattle.std.specs.Prelude.{◌≡◌, ℕ, ℤ, true, false, ◌||◌, List, [], ◌∷◌, ◌++◌, map, Option}
use Rattle.std.specs.List.{All}
use Rattle.sp_ids.specs.declared.ends.End.{End}
use Rattle.ir_ast.specs.declared.ops.Operand.{Operand}
use Rattle.ir_ast.specs.Layouts.{ObjectLayout}
use Rattle.ir_ast.specs.Objects.{Datum}
use Rattle.ir_ast.specs.Operands.{operands_of}
use Rattle.ir_ast.specs.Ops.{is_member, is_phi}
use Rattle.object_meaning.specs.BlockLines.{phis_in}
use Rattle.object_meaning.specs.Effects.{Progress}
use Rattle.object_meaning.specs.Jumps.{incoming}
use Rattle.object_meaning.specs.Lines.{Line}
use Rattle.object_meaning.specs.Outcomes.{opening, proceeds}
use Rattle.object_meaning.specs.Runs.{Reaches}
use Rattle.object_meaning.specs.States.{Frame, Setting, State}
use Rattle.renaming_laws.specs.Renamed.{Renaming}
use Rattle.known_values.specs.Onward.{LeadsTo}
use Rattle.trimmed_laws.specs.Groups.{Group, GroupsRead, IsRegrouped, lines_in, lines_now}
use Rattle.trimmed_laws.specs.Trims.{IsGone, IsStaying, IsTrim, ReadSame, Trim, calls_of, trimmed_line}

-- each line of a function stays, with what stands for its operands, or goes; or a statepoint has another group
pub data Trimmed (layouts : List ObjectLayout) (calls : ℕ → Renaming) (trim : Trim) : List Line → List Line → Type 0 where
  no_lines : Trimmed layouts calls trim [] []
  stays : (line : Line) (name : Option (List ℕ)) (rest others : List Line) → IsStaying calls trim line → Trimmed layouts calls trim rest others
      → Trimmed layouts calls trim (line ∷ rest) (trimmed_line trim name line ∷ others)
  goes : (line : Line) (rest others : List Line) → IsGone layouts trim line others → Trimmed layouts calls trim rest others
      → Trimmed layouts calls trim (line ∷ rest) others
  regroups : (group : Group) → IsRegrouped calls trim group → Trimmed layouts calls trim group.rest group.others
      → Trimmed layouts calls trim (lines_in group) (lines_now group)

-- a phi with what stands for its entries takes the same over the edge from this block
abbrev pub PhiReads : (Operand → Operand) → ℕ → List Datum → Line → Type 0
PhiReads stands from registers phi = incoming from registers (record phi.inst { operands = map stands phi.inst.operands }) ≡ incoming from registers phi.inst

-- what stands for the operands of the line at which a frame stands, those of its bundle too, reads what they read; a block to
-- which it leads is entered, and its phis take the same
pub record FrameReads (trim : Trim) (setting : Setting) (frame : Frame) : Type 0 where
  pub operands : (line : Line) (rest : List Line) → frame.rest ≡ line ∷ rest → is_phi line.inst.op || is_member line.inst.op ≡ false
      → ReadSame trim.stands frame.registers (operands_of line.inst)
  pub leads : (line : Line) (rest : List Line) (to : ℕ) → frame.rest ≡ line ∷ rest → LeadsTo line frame.registers line.inst.op to
      → (trim.renaming.entered to ≡ true)
      × All (PhiReads trim.stands frame.block frame.registers) (phis_in (setting.lines frame.func to))

-- the lines of the other setting are those of this one that stay, both from the front of each function that may be called on and
-- in each block that is entered by a jump; the settings agree in all else but the registers; and in each state to which a run of
-- this one comes the running frame reads the same; where both runs come to a statepoint with another group, it gives the same
pub record IsTrimmed (trims : ℕ → Trim) (one other : Setting) : Type 0 where
  pub trim : (func : ℕ) → IsTrim (trims func)
  pub front : (func : ℕ) → (trims func).renaming.called ≡ true
      → Trimmed one.layouts (calls_of trims) (trims func) (one.front ++ one.lines func 0) (other.front ++ other.lines func 0)
  pub blocks : (func block : ℕ) → (trims func).renaming.entered block ≡ true → Trimmed one.layouts (calls_of trims) (trims func) (one.lines func block) (other.lines func block)
  pub room : (func : ℕ) → one.registers func ≡ (trims func).renaming.room
  pub now_room : (func : ℕ) → other.registers func ≡ (trims func).renaming.now_room
  pub names : (func : ℕ) → other.names func ≡ one.names func
  pub layouts : other.layouts ≡ one.layouts
  pub main : other.main ≡ one.main
  pub main_called : (trims one.main).renaming.called ≡ true
  pub go : (event : ℕ) → other.go event ≡ one.go event
  pub bound : other.bound ≡ one.bound
  pub reads : (input : List ℤ) (now : Progress State) → Reaches {E = End} (proceeds one) (opening one input) now → FrameReads (trims (now.state.running).func) one now.state.running
  pub groups : (input : List ℤ) (now there : Progress State) → Reaches {E = End} (proceeds one) (opening one input) now
      → Reaches {E = End} (proceeds other) (opening other input) there
      → GroupsRead one.layouts (calls_of trims) (trims (now.state.running).func) now.state.running there.state.running
