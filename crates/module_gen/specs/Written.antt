-- What the code's lines and shapes stand for.
use Rattle.ir_ast.specs.Insts.{Instruction}
use Rattle.module_gen.specs.declared.lines.Line.{Line}
use Rattle.module_gen.specs.declared.lines.Line.TheVariants.{New, Field, Load, Store, Add, Below, Phi, Call, Print, Jump, Branch, Return}
use Rattle.module_gen.specs.declared.shapes.Shape.{Shape}
use Rattle.module_gen.specs.declared.shapes.Shape.TheVariants.{Making, Merging, Looping}
use Rattle.generated_forms.specs.Bodies as forms
use Rattle.generated_forms.specs.Lines.{new_line, field_line, load_line, store_line, add_line, below_line, phi_line, call_line, print_line, jump_line, branch_line, return_line}

abbrev pub written : Line → Instruction
written (New name count) = new_line name.now count
written (Field name base element) = field_line name.now base.0 element
written (Load name from) = load_line name.now from.0
written (Store what to) = store_line what to.0
written (Add name left right) = add_line name.now left.0 right
written (Below name left right) = below_line name.now left.0 right
written (Phi name ty first from second other) = phi_line name.now ty first from.0 second.0 other.0
written (Call name func object number) = call_line name.now func.0 object.0 number
written (Print number) = print_line number.0
written (Jump to) = jump_line to.0
written (Branch test taken other) = branch_line test.0 taken.0 other.0
written (Return answer) = return_line answer

abbrev pub meant : Shape → forms.Shape
meant Making = forms.Making
meant Merging = forms.Merging
meant Looping = forms.Looping
