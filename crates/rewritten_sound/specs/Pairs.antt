-- What is proved of the pairs of the rewritten function.
use Rattle.std.specs.Prelude.{◌≡◌, ℕ, List, Some, length, slice_get}
use Rattle.std.specs.List.{All}
use Rattle.sp_ids.specs.declared.ids.ValueId.{ValueId}
use Rattle.ir_ast.specs.declared.ops.Operand.{Operand}
use Rattle.ir_ast.specs.Bases.{IsBaseTable}
use Rattle.ir_ast.specs.Faults.PhiEdges.{PhisAreRight}
use Rattle.ir_ast.specs.Faults.TypeClash.{IsTyped}
use Rattle.ir_ast.specs.Funcs.{Function, instructions_of}
use Rattle.ir_ast.specs.Lines.{IsLine}
use Rattle.ir_ast.specs.Modules.{ModuleContent}
use Rattle.ir_ast.specs.Scope.{scope_of}
use Rattle.object_meaning.specs.Lines.{Line}
use Rattle.rewriting_forms.specs.Liveness.{live_table}
use Rattle.rewriting_forms.specs.Names.{Naming}
use Rattle.rewriting_forms.specs.Numbered.{lines_at}
use Rattle.rewriting_forms.specs.Rewritten.{Choice, names_of, place_in, rewritten_with}
use Rattle.rewriting_laws.specs.Laws.{Fits, IsNumbering, IsPlain}
use Rattle.base_forms.specs.Polls.{placed}
use Rattle.base_forms.specs.Based.{base_table, based}
use Rattle.base_definite.specs.Paths.{HasDefiniteBases}
use Rattle.rewritten_sound.specs.LeadsOut.{PhisAreBare}
use Rattle.rewritten_sound.specs.Definite.{ChoiceFits, IsReachedSource, rewritten_source, rewritten_source_by}
use Rattle.pair_facts.specs.Faults.{FaultAt, IsVerified}
use Rattle.rewritten_sound.specs.Takes.{HasPairs, Takes}
use Rattle.ir_cfg.specs.Paths.{IsReached}

-- a function before its groups that takes pointers with their bases, and a choice of inserted phis by which names fit at every edge
pub record HasFittingPairs (func : Function) (table : List Operand) (naming : Naming) (room : ℕ) : Type 0 where
  pub plain : IsPlain func room
  pub fits : Fits func table naming (live_table func table)
  pub numbers : IsNumbering func table naming.joins (place_in (names_of func table naming)) (length (names_of func table naming))
  pub pairs : HasPairs func table (live_table func table)

-- whatever phis are inserted, as long as the names fit, the rewritten function has no fault
abbrev pub FittingIsVerified : Type 0
FittingIsVerified = (func : Function) (table : List Operand) (naming : Naming) (room : ℕ) → HasFittingPairs func table naming room
    → (block place code : ℕ) → ¬ FaultAt (rewritten_with func table naming) block place code

-- a typed function before its groups with definite uses, a base for each pointer, and lines that take pointers with their bases
pub record HasTypedBases (content : ModuleContent) (func : Function) (merged : ℕ → ValueId) (table : List Operand) (room : ℕ) : Type 0 where
  pub plain : IsPlain func room
  pub reached : IsReached func
  pub bases : HasDefiniteBases func merged
  pub table_bases : IsBaseTable func merged table
  pub phis : PhisAreRight func
  pub bare : PhisAreBare func
  pub lines : All IsLine (instructions_of func.blocks)
  pub typed : All (IsTyped (scope_of content func)) (instructions_of func.blocks)
  pub takes : (b k : ℕ) (line : Line) → slice_get (lines_at func b) k ≡ Some line → Takes func table b k line

-- in it each live pointer has its base beside it
abbrev pub BasesHavePairs : Type 0
BasesHavePairs = (content : ModuleContent) (func : Function) (merged : ℕ → ValueId) (table : List Operand) (room : ℕ) → HasTypedBases content func merged table room
    → HasPairs func table (live_table func table)

-- each line of the function with polls and bases takes pointers with their bases
abbrev pub TakesBases : Function → Type 0
TakesBases func = (b k : ℕ) (line : Line) → slice_get (lines_at (based (placed func)) b) k ≡ Some line → Takes (based (placed func)) (base_table (placed func)) b k line

-- in a source module without unreached blocks each function does
abbrev pub SourceTakesBases : Type 0
SourceTakesBases = (content : ModuleContent) → IsReachedSource content → All TakesBases content.funcs

-- so its rewritten module is verified
abbrev pub SourceIsVerified : Type 0
SourceIsVerified = (content : ModuleContent) → IsReachedSource content → IsVerified (rewritten_source content)

-- and so is each under a choice of names that fit
abbrev pub FittingSourceIsVerified : Type 0
FittingSourceIsVerified = (content : ModuleContent) → IsReachedSource content → (choose : Choice) → ChoiceFits content choose
    → IsVerified (rewritten_source_by content choose)
