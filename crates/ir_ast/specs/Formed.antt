-- Functions and modules that can be printed and analysed, whatever they compute.
use Rattle.std.specs.Prelude.{◌<◌, length}
use Rattle.std.specs.List.{All}
use Rattle.ir_ast.specs.Funcs.{Function, instructions_of}
use Rattle.ir_ast.specs.Modules.{ModuleContent}
use Rattle.ir_ast.specs.Widths.{IsWidth, widths_of}
use Rattle.ir_ast.specs.Lines.{IsLine}
use Rattle.ir_ast.specs.Faults.UnknownName.{LocalNamesAreKnown, GlobalNamesAreKnown}
use Rattle.ir_ast.specs.Faults.TypeClash.{ModuleIsTyped}
use Rattle.ir_ast.specs.Faults.PhiEdges.{PhisAreRight}
use Rattle.ir_ast.specs.Faults.EntryHasPred.{EntryHasNoPred}
use Rattle.ir_ast.specs.Faults.BadLayout.{LayoutsHaveFields}

pub record IsFormed (func : Function) : Type 0 where
  pub has_block : 0 < length func.blocks
  pub widths : All IsWidth (widths_of func)
  pub lines : All IsLine (instructions_of func.blocks)
  pub known : LocalNamesAreKnown func
  pub phis : PhisAreRight func
  pub entry : EntryHasNoPred func

pub record IsFormedModule (content : ModuleContent) : Type 0 where
  pub formed : All IsFormed content.funcs
  pub known : All (GlobalNamesAreKnown content) content.funcs
  pub typed : ModuleIsTyped content
  pub fields : LayoutsHaveFields content
