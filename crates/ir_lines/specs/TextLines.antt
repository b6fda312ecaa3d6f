-- What the lines of a text that was read are like: each stands where it may and passes no limit of a line.
use Rattle.std.specs.Prelude.{◌≡◌, ◌≤◌, Bool, true, not, ◌&&◌, nat_le, List, [], ◌∷◌, length, Option, Some, None}
use Rattle.std.specs.List.{All}
use Rattle.ir_ast.specs.declared.modules.Form.{Form}
use Rattle.ir_ast.specs.declared.modules.Form.TheVariants.{Source, Rewritten}
use Rattle.ir_reader.specs.declared.states.Place.{Place}
use Rattle.ir_reader.specs.declared.states.Place.TheVariants as places
use Rattle.ir_reader.specs.Limits.{name_fits}
use Rattle.ir_lines.specs.Statements.{Statement, Line, layout, declare, define, close, label, binary, compare, convert, select, phi, scalar_step, layout_step, load, store, call, jump, branch, switch, switch_case, switch_end, ret_void, ret, unreachable, cast, statepoint, gc_result, gc_relocate}
use Rattle.ir_lines.specs.Parts.{is_of_group}
use Rattle.ir_lines.specs.ReadLines.{RelocatesAreFew}

-- ---- places

abbrev pub behind_top : Statement → Option Place
behind_top (layout name fields) = Some places.Top
behind_top (declare answer name parameters) = Some places.Top
behind_top (define answer name arguments strategy) = Some places.Entry
behind_top _ = None

-- a terminator ends its block, and a `switch` opens its cases
abbrev pub behind_instruction : Statement → Option Place
behind_instruction (binary result op width left right) = Some places.Block
behind_instruction (compare result predicate ty left right) = Some places.Block
behind_instruction (convert result op width value to) = Some places.Block
behind_instruction (select result condition left_ty left right_ty right) = Some places.Block
behind_instruction (phi result ty entries) = Some places.Block
behind_instruction (scalar_step result element address width index) = Some places.Block
behind_instruction (layout_step result named address width index place) = Some places.Block
behind_instruction (load result ty address) = Some places.Block
behind_instruction (store ty value address) = Some places.Block
behind_instruction (call result made) = Some places.Block
behind_instruction (cast result op from value to) = Some places.Block
behind_instruction (statepoint result made live) = Some places.Block
behind_instruction (gc_result result ty token) = Some places.Block
behind_instruction (gc_relocate result token base derived) = Some places.Block
behind_instruction (jump to) = Some places.Closed
behind_instruction (branch condition on_true on_false) = Some places.Closed
behind_instruction ret_void = Some places.Closed
behind_instruction (ret ty value) = Some places.Closed
behind_instruction unreachable = Some places.Closed
behind_instruction (switch width value default) = Some places.Cases
behind_instruction _ = None

abbrev pub behind_head : Statement → Option Place
behind_head (label name) = Some places.Block
behind_head what = behind_instruction what

abbrev pub behind_closed : Statement → Option Place
behind_closed (label name) = Some places.Block
behind_closed close = Some places.Top
behind_closed _ = None

abbrev pub behind_case : Statement → Option Place
behind_case (switch_case width value to) = Some places.Cases
behind_case switch_end = Some places.Closed
behind_case _ = None

-- the place behind a line, if it may stand there
abbrev pub place_behind : Place → Statement → Option Place
place_behind places.Top what = behind_top what
place_behind places.Entry what = behind_head what
place_behind places.Block what = behind_instruction what
place_behind places.Closed what = behind_closed what
place_behind places.Cases what = behind_case what

-- there is a place behind, where the rest stands
pub record Goes (behind : Option Place) (rest : Place → Type 0) : Type 0 where
  pub next : Place
  pub is : behind ≡ Some next
  pub more : rest next

-- the lines stand from this place on to the end of the text, which is outside functions
abbrev pub Stand : Place → List Line → Type 0
Stand place [] = place ≡ places.Top
Stand place (l ∷ ls) = Goes (place_behind place l.says) (λ next. Stand next ls)

-- ---- limits of a line

-- the lengths of lists and of names that it spells are within the limits
abbrev pub statement_fits : Statement → Bool
statement_fits (layout name fields) = name_fits name && nat_le (length fields) 64
statement_fits (define answer name arguments strategy) = name_fits name && nat_le (length arguments) 64
statement_fits (call result made) = nat_le (length made.kept) 64
statement_fits (statepoint result made live) = nat_le (length made.kept) 64 && nat_le (length live) 16384
statement_fits _ = true

-- ---- what only one of the two forms has or asks

-- only the rewritten form has statepoint groups
abbrev pub stands_in : Form → Statement → Bool
stands_in Source what = not (is_of_group what)
stands_in Rewritten what = true

-- ---- the lines of a text

pub record IsTextLines (form : Form) (lines : List Line) : Type 0 where
  pub placed : Stand places.Top lines
  pub fit : All (λ l. statement_fits l.says ≡ true) lines
  pub own : All (λ l. stands_in form l.says ≡ true) lines
  pub few_relocates : RelocatesAreFew lines
  -- a text within the file limit has no more lines than bytes and one
  pub few : length lines ≤ 16777217
