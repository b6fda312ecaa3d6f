-- The equations of a table: each value that goes is what its operand in the table reads.
use Rattle.std.specs.Prelude.{◌≡◌, ℕ, ℤ, ◌<◌, ◌==◌, if◌then◌else◌, true, List, [], ◌∷◌, Option, Some, None, slice_get}
use Rattle.std.specs.List.{position}
use Rattle.sp_ids.specs.declared.ends.End.{End}
use Rattle.ir_ast.specs.declared.ops.Operand.{Operand}
use Rattle.ir_ast.specs.declared.ops.Operand.TheVariants.{Value}
use Rattle.ir_ast.specs.Funcs.{Function}
use Rattle.ir_ast.specs.Insts.{Instruction}
use Rattle.ir_ast.specs.Layouts.{ObjectLayout}
use Rattle.ir_ast.specs.Modules.{ModuleContent}
use Rattle.ir_ast.specs.Operands.{named}
use Rattle.ir_ast.specs.Ops.{is_phi}
use Rattle.ir_cfg.specs.DefiniteUses.{Stands}
use Rattle.ir_cfg.specs.Graphs.{Edge, graph_of}
use Rattle.ir_cfg.specs.SourceModules.{IsSourceModule}
use Rattle.object_meaning.specs.BlockLines.{lines_at}
use Rattle.object_meaning.specs.Jumps.{phi_count}
use Rattle.object_meaning.specs.Effects.{Progress}
use Rattle.object_meaning.specs.Outcomes.{opening, proceeds}
use Rattle.object_meaning.specs.Registers.{value}
use Rattle.object_meaning.specs.Runs.{Reaches}
use Rattle.object_meaning.specs.SourceRuns.{source_setting}
use Rattle.object_meaning.specs.States.{State}
use Rattle.base_forms.specs.Polls.{placed}
use Rattle.known_values.specs.Meanings.{AreKnown, Meaning, Meanings}
use Rattle.known_values.specs.Statements.{InEachFrame, KnowsAs}
use Rattle.known_values.specs.Texts.{UsesAreDefined}
use Rattle.folded_forms.specs.Folded.{Table, stands_for, stays}
use Rattle.folded_forms.specs.Foldings.{IsFolding}

-- what an operand reads, and the value that it names
abbrev pub meaning_of : Operand → Meaning
meaning_of (Value id) = record { of = λ registers. value registers (Value id); support = id.0 ∷ [] }
meaning_of operand = record { of = λ registers. value registers operand; support = [] }

abbrev pub meanings_of : Table → Meanings
meanings_of table value = if stays table value then None else Some (meaning_of (stands_for table (named value)))

-- the entry of a phi for an edge: the first with the label of the block that it leaves
pub record EntryFrom (from : ℕ) (phi : Instruction) : Type 0 where
  pub entry : ℕ
  pub operand : Operand
  pub first : position (λ label. label.0 == from) phi.labels ≡ Some entry
  pub at : slice_get phi.operands entry ≡ Some operand

-- phis stand at the front of blocks other than the entry, and have an entry for each edge
pub record PhisMeetEdges (func : Function) : Type 0 where
  pub front : (block place : ℕ) (phi : Instruction) → Stands func block place phi → is_phi phi.op ≡ true → (0 < block) × (place < phi_count (lines_at func block))
  pub entries : (block place : ℕ) (phi : Instruction) → Stands func block place phi → is_phi phi.op ≡ true → (from : ℕ) → Edge (graph_of func) from block → EntryFrom from phi

-- the equations of a table in which only what reads the same stands for a value are such that they hold in each run
abbrev pub FoldingsAreKnown : Type 0
FoldingsAreKnown = (layouts : List ObjectLayout) (func : Function) (table : Table) → IsFolding func table → UsesAreDefined func → PhisMeetEdges func
    → AreKnown layouts func (meanings_of table)

-- so they hold in each run of a source module, whose functions run with their polls
abbrev pub FoldingsHold : Type 0
FoldingsHold = (content : ModuleContent) → IsSourceModule content → (go : ℕ → Option ℕ) (bound number : ℕ) (func : Function) → slice_get content.funcs number ≡ Some func
    → (table : Table) → IsFolding func table → (input : List ℤ) (now : Progress State)
    → Reaches {E = End} (proceeds (source_setting content go bound)) (opening (source_setting content go bound) input) now
    → InEachFrame (KnowsAs (source_setting content go bound) number (placed func) (meanings_of table)) now.state
