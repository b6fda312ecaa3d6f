-- Where lines may stand.
use Rattle.std.specs.Prelude.{Option, Some, None}
use Rattle.line_forms.specs.declared.forms.Form.{Form}
use Rattle.line_forms.specs.declared.forms.Form.TheVariants as forms
use Rattle.ir_reader.specs.declared.states.Place.{Place}
use Rattle.ir_reader.specs.declared.states.Place.TheVariants as places

-- the place behind a line outside functions
abbrev pub behind_top : Form → Option Place
behind_top (forms.Dropped which) = Some places.Top
behind_top forms.Layout = Some places.Top
behind_top forms.Declare = Some places.Top
behind_top forms.Define = Some places.Entry
behind_top _ = None

-- the place behind an instruction; a terminator ends its block, and a `switch` opens its cases
abbrev pub behind_instruction : Form → Option Place
behind_instruction (forms.Binary op) = Some places.Block
behind_instruction forms.Compare = Some places.Block
behind_instruction (forms.Convert op) = Some places.Block
behind_instruction (forms.Cast op) = Some places.Block
behind_instruction forms.Select = Some places.Block
behind_instruction forms.Phi = Some places.Block
behind_instruction forms.ScalarElement = Some places.Block
behind_instruction forms.LayoutElement = Some places.Block
behind_instruction forms.Load = Some places.Block
behind_instruction forms.Store = Some places.Block
behind_instruction forms.ValueCall = Some places.Block
behind_instruction forms.VoidCall = Some places.Block
behind_instruction forms.Statepoint = Some places.Block
behind_instruction forms.GcResult = Some places.Block
behind_instruction forms.GcRelocate = Some places.Block
behind_instruction forms.Jump = Some places.Closed
behind_instruction forms.Branch = Some places.Closed
behind_instruction forms.ReturnVoid = Some places.Closed
behind_instruction forms.Return = Some places.Closed
behind_instruction forms.Unreachable = Some places.Closed
behind_instruction forms.Switch = Some places.Cases
behind_instruction _ = None

abbrev pub behind_closed : Form → Option Place
behind_closed forms.Close = Some places.Top
behind_closed _ = None

abbrev pub behind_case : Form → Option Place
behind_case forms.Case = Some places.Cases
behind_case forms.SwitchEnd = Some places.Closed
behind_case _ = None

-- the place behind a line of this form, if it may stand there
abbrev pub behind : Place → Form → Option Place
behind places.Top form = behind_top form
behind places.Entry form = behind_instruction form
behind places.Block form = behind_instruction form
behind places.Closed form = behind_closed form
behind places.Cases form = behind_case form

-- the place behind a label, if one may stand there
abbrev pub behind_label : Place → Option Place
behind_label places.Entry = Some places.Block
behind_label places.Closed = Some places.Block
behind_label _ = None
