-- A state of a program and the state of the rewritten program at the same moment.
use Rattle.std.specs.Prelude.{◌≡◌, ℕ, ◌≤◌, Bool, true, List, [], ◌∷◌, length, map, drop, Option, Some, slice_get}
use Rattle.std.specs.Option.{option_map}
use Rattle.sp_ids.specs.declared.ends.End.{End}
use Rattle.ir_ast.specs.declared.ops.Operand.{Operand}
use Rattle.ir_ast.specs.declared.ops.Callee.{Callee}
use Rattle.ir_ast.specs.declared.ops.Callee.TheVariants.{Fun, TaskStart}
use Rattle.ir_ast.specs.declared.ops.Op.TheVariants.{Call}
use Rattle.ir_ast.specs.declared.types.Ty.{Ty}
use Rattle.ir_ast.specs.Funcs.{Function}
use Rattle.ir_ast.specs.Modules.{ModuleContent}
use Rattle.ir_ast.specs.Objects.{Datum}
use Rattle.object_meaning.specs.Lines.{Line, register_count, main_of}
use Rattle.object_meaning.specs.Registers.{nothing}
use Rattle.object_meaning.specs.States.{Frame, State, Setting}
use Rattle.object_meaning.specs.Effects.{Effect, goes_on, prints, ends}
use Rattle.object_meaning.specs.Texts.{function_name}
use Rattle.object_meaning.specs.Calls.{function_in}
use Rattle.object_meaning.specs.Jumps.{phi_count}
use Rattle.rewriting_forms.specs.Numbered.{lines_at}
use Rattle.rewriting_forms.specs.Names.{Name, Naming, names_at}
use Rattle.rewriting_forms.specs.Rewritten.{Piece, piece_inst, expanded, pieces_of}
use Rattle.rewriting_laws.specs.Laws.{IsPlain, IsClosed, IsNumbering, Fits}
use Rattle.std.specs.Prelude.{slice_index_or}

-- a function, its bases, its live values, the naming, the numbers and the spelling of names, and how many registers it has before and after
pub record Rewriting : Type 0 where
  pub func : Function
  pub table : List Operand
  pub naming : Naming
  pub live : ℕ → ℕ → ℕ → Bool
  pub number : Name → ℕ
  pub text : Name → List ℕ
  pub room : ℕ
  pub now_room : ℕ

abbrev pub ArgumentsFit : (ℕ → Rewriting) → Callee → List Operand → Type 0
ArgumentsFit all (Fun g) operands = length operands ≤ length ((all g.0).func).args
ArgumentsFit all TaskStart operands = 1 ≤ length ((all (function_in (slice_get operands 0))).func).args
ArgumentsFit all callee operands = Unit {0}

pub record IsRewriting (all : ℕ → Rewriting) (r : Rewriting) : Type 0 where
  pub fits : Fits r.func r.table r.naming r.live
  pub numbers : IsNumbering r.func r.table r.naming.joins r.number r.now_room
  pub plain : IsPlain r.func r.room
  pub closed : IsClosed r.func r.live
  pub few_arguments : length r.func.args ≤ r.room
  pub few_arguments_now : length r.func.args ≤ r.now_room
  pub arguments : (b k : ℕ) (line : Line) (callee : Callee) (types : List Ty) → slice_get (lines_at r.func b) k ≡ Some line
      → line.inst.op ≡ Call callee types → ArgumentsFit all callee line.inst.operands

-- a piece as a line with its register
abbrev pub piece_line : (Name → List ℕ) → (Name → ℕ) → Piece → Line
piece_line text number piece = record { to = option_map number piece.name; inst = piece_inst text piece }

-- the lines of a rewritten block
abbrev pub lines_now : Rewriting → ℕ → List Line
lines_now r b = map (piece_line r.text r.number) (pieces_of r.func r.table r.naming r.number b)

abbrev pub rest_now : Rewriting → ℕ → ℕ → List Line → List Line
rest_now r b k rest = map (piece_line r.text r.number) (expanded r.func r.table r.naming r.number b k rest)

-- each live value stands in the register of its name
pub record Kept (r : Rewriting) (b k : ℕ) (registers now : List Datum) : Type 0 where
  pub each : (v : ℕ) → r.live b k v ≡ true
      → slice_index_or now (r.number (names_at r.func r.table r.naming b k v)) nothing ≡ slice_index_or registers v nothing
  pub room_before : length registers ≡ r.room
  pub room_now : length now ≡ r.now_room

abbrev pub frame_now : Rewriting → Frame → ℕ → List Datum → Frame
frame_now r frame k registers = record { func = frame.func; block = frame.block; rest = rest_now r frame.block k frame.rest; registers = registers }

pub record FrameKept (r : Rewriting) (frame now : Frame) : Type 0 where
  pub k : ℕ
  pub registers : List Datum
  pub place : drop k (lines_at r.func frame.block) ≡ frame.rest
  pub behind : phi_count (lines_at r.func frame.block) ≤ k
  pub is : now ≡ frame_now r frame k registers
  pub kept : Kept r frame.block k frame.registers registers

pub data FramesKept (all : ℕ → Rewriting) : List Frame → List Frame → Type 0 where
  no_frames : FramesKept all [] []
  more_frames : (frame now : Frame) (frames others : List Frame) → FrameKept (all frame.func) frame now → FramesKept all frames others
      → FramesKept all (frame ∷ frames) (now ∷ others)

pub data TasksKept (all : ℕ → Rewriting) : List (List Frame) → List (List Frame) → Type 0 where
  no_tasks : TasksKept all [] []
  more_tasks : (task now : List Frame) (tasks others : List (List Frame)) → FramesKept all task now → TasksKept all tasks others
      → TasksKept all (task ∷ tasks) (now ∷ others)

pub record StateKept (all : ℕ → Rewriting) (state now : State) : Type 0 where
  pub running : FrameKept (all state.running.func) state.running now.running
  pub below : FramesKept all state.below now.below
  pub tasks : TasksKept all state.tasks now.tasks
  -- all else is the same
  pub is : now ≡ record state { running = now.running; below = now.below; tasks = now.tasks }

pub data EffectKept (all : ℕ → Rewriting) : Effect State → Effect State → Type 0 where
  both_go : (state now : State) → StateKept all state now → EffectKept all (goes_on state) (goes_on now)
  both_print : (word : ℕ) (state now : State) → StateKept all state now → EffectKept all (prints word state) (prints word now)
  both_end : (end : End) (state now : State) → StateKept all state now → EffectKept all (ends end state) (ends end now)

-- the run of the functions before liveness, and that of the rewritten ones
abbrev pub setting_of : ModuleContent → (ℕ → Rewriting) → (ℕ → Option ℕ) → ℕ → Setting
setting_of content all go bound = record {
  lines = λ g b. lines_at (all g).func b;
  front = [];
  registers = register_count content;
  layouts = content.layouts;
  main = main_of content;
  names = function_name content;
  go = go;
  bound = bound;
}

abbrev pub setting_now : ModuleContent → (ℕ → Rewriting) → (ℕ → Option ℕ) → ℕ → Setting
setting_now content all go bound = record {
  lines = λ g b. lines_now (all g) b;
  front = [];
  registers = register_count content;
  layouts = content.layouts;
  main = main_of content;
  names = function_name content;
  go = go;
  bound = bound;
}

-- the two modules have the same layouts, and as many registers as their functions want
pub record AreModules (all : ℕ → Rewriting) (content now : ModuleContent) : Type 0 where
  pub each : (g : ℕ) → IsRewriting all (all g)
  pub layouts : now.layouts ≡ content.layouts
  pub room : (g : ℕ) → register_count content g ≡ (all g).room
  pub room_now : (g : ℕ) → register_count now g ≡ (all g).now_room
