-- Modules without a fault that a module can have. Faults of declarations, strategies and casts are
-- faults of texts, since a module has none of these; that uses are definite stands with the paths.
use Rattle.std.specs.List.{All}
use Rattle.ir_ast.specs.declared.modules.Form.{Form}
use Rattle.ir_ast.specs.declared.modules.Form.TheVariants.{Source, Rewritten}
use Rattle.ir_ast.specs.Funcs.{Function}
use Rattle.ir_ast.specs.Modules.{ModuleContent}
use Rattle.ir_ast.specs.Faults.NameTwice.{NamesAreDistinct}
use Rattle.ir_ast.specs.Faults.UnknownName.{LocalNamesAreKnown, GlobalNamesAreKnown}
use Rattle.ir_ast.specs.Faults.TypeClash.{ModuleIsTyped}
use Rattle.ir_ast.specs.Faults.EntryHasPred.{EntryHasNoPred}
use Rattle.ir_ast.specs.Faults.PhiEdges.{PhisAreRight}
use Rattle.ir_ast.specs.Faults.DerivedEscapes.{DerivedStay}
use Rattle.ir_ast.specs.Faults.NoMain.{HasMain}
use Rattle.ir_ast.specs.Faults.BadLayout.{LayoutsHaveFields}
use Rattle.ir_ast.specs.Faults.Reserved.{FunctionNamesAreFree, IsSource}
use Rattle.ir_ast.specs.Faults.PointerOrder.{PointersAreUnordered}
use Rattle.ir_ast.specs.Faults.GroupShape.{GroupsInShape}

-- what only one of the two forms asks
abbrev pub OfForm : Form → Function → Type 0
OfForm Source func = IsSource func × DerivedStay func
OfForm Rewritten func = GroupsInShape func

pub record FunctionHasNoFault (content : ModuleContent) (func : Function) : Type 0 where
  pub local : LocalNamesAreKnown func
  pub global : GlobalNamesAreKnown content func
  pub entry : EntryHasNoPred func
  pub phis : PhisAreRight func
  pub pointers : PointersAreUnordered func
  pub form : OfForm content.form func

pub record HasNoFault (content : ModuleContent) : Type 0 where
  pub names : NamesAreDistinct content
  pub typed : ModuleIsTyped content
  pub functions : All (FunctionHasNoFault content) content.funcs
  pub main : HasMain content
  pub fields : LayoutsHaveFields content
  pub free : FunctionNamesAreFree content
