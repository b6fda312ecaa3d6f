-- The limits of the profile that a line, a function or a module may pass.
use Rattle.std.specs.Prelude.{ℕ, Bool, true, ◌&&◌, not, List, ◌∷◌, length, ◌+◌, nat_le}
use Rattle.std.specs.List.{list_all}
use Rattle.line_forms.specs.declared.forms.Form.{Form}
use Rattle.line_forms.specs.declared.forms.Form.TheVariants as forms
use Rattle.ir_reader.specs.declared.states.Counts.{Counts}
use Rattle.ir_reader.specs.declared.states.Counted.{Counted}
use Rattle.ir_reader.specs.declared.states.Counted.TheVariants as kinds
use Rattle.ir_ast.specs.declared.modules.Form.{Form as TextForm}
use Rattle.ir_ast.specs.declared.modules.Form.TheVariants as text_forms
use Rattle.line_forms.specs.Slots.{Item, layout_name, ty, fields, defined, deopt, bundles}
use Rattle.line_forms.specs.Seen.{Said, label, line}

-- ---- what one line says

-- the name of a layout or of a defined function
abbrev pub name_fits : List ℕ → Bool
name_fits bytes = nat_le (length bytes) 4096

abbrev pub item_fits : Item → Bool
item_fits (layout_name n) = name_fits n
item_fits (fields fs) = nat_le (length fs) 64
item_fits (defined n ps) = name_fits n && nat_le (length ps) 64
item_fits (deopt kept) = nat_le (length kept) 64
item_fits (bundles kept live) = nat_le (length kept) 64 && nat_le (length live) 16384
item_fits _ = true

abbrev pub said_fits : Said → Bool
said_fits (label n) = true
said_fits (line l) = list_all item_fits l.items

-- what a line says, with whether a width or number in it passed its limit
abbrev pub line_fits : Said → Bool → Bool
line_fits what passed = not passed && said_fits what

-- ---- how much a function and the module have

-- the number of arguments of a head
abbrev pub arguments_of : List Item → ℕ
arguments_of (ty t ∷ defined n ps ∷ more) = length ps
arguments_of _ = 0

-- what a line counts as; the cases and the end of a `switch` belong to its instruction
abbrev pub counts_as : Form → List Item → Counted
counts_as forms.Layout is = kinds.Layout
counts_as forms.Define is = kinds.Function (arguments_of is)
counts_as (forms.Dropped which) is = kinds.Nothing
counts_as forms.Declare is = kinds.Nothing
counts_as forms.Close is = kinds.Nothing
counts_as forms.Case is = kinds.Nothing
counts_as forms.SwitchEnd is = kinds.Nothing
counts_as forms.GcRelocate is = kinds.Relocate
counts_as _ is = kinds.Instruction

abbrev pub said_counts_as : Said → Counted
said_counts_as (label n) = kinds.Nothing
said_counts_as (line l) = counts_as l.form l.items

-- instructions are counted in the source form
abbrev pub counted_in : TextForm → Counted → Counted
counted_in text_forms.Rewritten kinds.Instruction = kinds.Nothing
counted_in form kind = kind

-- with one more line; another line than a relocate ends the relocates that stand in a row
abbrev pub counted : Counted → Counts → Counts
counted kinds.Layout c = record c { layouts = c.layouts + 1; relocates = 0 }
counted (kinds.Function arguments) c = record c { functions = c.functions + 1; values = arguments; relocates = 0 }
counted kinds.Instruction c = record c { values = c.values + 1; instructions = c.instructions + 1; relocates = 0 }
counted kinds.Relocate c = record c { relocates = c.relocates + 1 }
counted kinds.Nothing c = record c { relocates = 0 }

-- layouts, functions, arguments and instructions of the function, instructions of the module, relocates in a row
abbrev pub counts_fit : Counts → Bool
counts_fit c = nat_le c.layouts 4096 && nat_le c.functions 4096 && nat_le c.values 4096 && nat_le c.instructions 65536 && nat_le c.relocates 16384
