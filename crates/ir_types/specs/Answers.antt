-- What typing answers.
use Rattle.std.specs.Prelude.{◌≡◌, List, Result, Ok, Err}
use Rattle.std.specs.List.{All}
use Rattle.ir_ast.specs.declared.modules.Form.{Form}
use Rattle.ir_ast.specs.Modules.{LinedModule}
use Rattle.ir_cfg.specs.DefiniteUses.{UsesAreDefinite}
use Rattle.ir_types.specs.declared.faults.TypeFault.{TypeFault}
use Rattle.ir_types.specs.declared.faults.TypeFault.TheVariants as answers
use Rattle.ir_lines.specs.Statements.{Line}
use Rattle.ir_lines.specs.Modules.{module_of}
use Rattle.ir_types.specs.FaultSet.{IsLeastFault, HasNoFault}
use Rattle.ir_types.specs.FirstMissed.{IsFirstMissed}

pub record IsTypedAs (form : Form) (lines : List Line) (whole : LinedModule) : Type 0 where
  pub is : whole ≡ module_of form lines
  pub faultless : HasNoFault form lines

-- the module, or the least fault, or want of memory
abbrev pub Answers : Form → List Line → Result LinedModule TypeFault → Type 0
Answers form lines (Ok whole) = IsTypedAs form lines whole
Answers form lines (Err (answers.Fault fault)) = IsLeastFault form lines fault.line fault.code
Answers form lines (Err answers.Memory) = Unit {0}

-- the module again where its uses are definite, or the first line with one that isn't, or want of memory
abbrev pub PathsAnswer : LinedModule → Result LinedModule TypeFault → Type 0
PathsAnswer whole (Ok answered) = (answered ≡ whole) × All UsesAreDefinite whole.content.funcs
PathsAnswer whole (Err (answers.Fault fault)) = IsFirstMissed whole fault.line × (fault.code ≡ 8)
PathsAnswer whole (Err answers.Memory) = Unit {0}
