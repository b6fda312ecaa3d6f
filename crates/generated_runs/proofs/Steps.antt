-- One step at each line that generated functions have, from a state of the first task with no other.
use Rattle.std.proofs.Common.{◌≡◌, ℕ, zero, suc, ◌+◌, ◌%◌, ◌^◌, true, false, List, [], ◌∷◌, ◌++◌, length, Option, Some, None, refl, ap, pos}
use Rattle.std.specs.Prelude.{ℤ, nat_lt, slice_set, slice_index_or, sum_by, Ok}
use Rattle.std.specs.Option.{option_map_or}
use Rattle.sp_ids.specs.declared.ends.End.{End}
use Rattle.tool_io.specs.Counts.{raised}
use Rattle.ir_ast.specs.declared.cells.Cell.TheVariants.{I64}
use Rattle.ir_ast.specs.declared.modules.Form.TheVariants.{Source}
use Rattle.ir_ast.specs.declared.ops.Operand.{Operand}
use Rattle.ir_ast.specs.declared.ops.Operand.TheVariants.{Int}
use Rattle.ir_ast.specs.Insts.{Instruction}
use Rattle.ir_ast.specs.Funcs.{Function}
use Rattle.ir_ast.specs.Modules.{ModuleContent}
use Rattle.ir_ast.specs.Sizes.{laid, size_of}
use Rattle.ir_ast.specs.Objects.{Datum, number, pointer, Object, footprint}
use Rattle.object_meaning.specs.Lines.{Line, poll}
use Rattle.object_meaning.specs.States.{Frame, State, Setting}
use Rattle.object_meaning.specs.Registers.{nothing, value, number_in, pointer_in, is_set}
use Rattle.object_meaning.specs.Jumps.{arrived}
use Rattle.sp_ids.specs.declared.ends.End.TheVariants.{Return}
use Rattle.object_meaning.specs.Runs.{Next, Go, End as Over}
use Rattle.object_meaning.specs.Effects.{Progress, printed_line}
use Rattle.object_meaning.specs.Outcomes.{proceeds}
use Rattle.object_meaning.specs.Accesses.{Place, accessed, loaded, stored}
use Rattle.object_meaning.specs.Calls.{made}
use Rattle.object_meaning.specs.Comparisons.{bit}
use Rattle.object_meaning.specs.Tasks.{switched, with_event}
use Rattle.object_meaning.specs.Frames.{answered, entered, resumed}
use Rattle.object_meaning.specs.Steps.{step}
use Rattle.object_meaning.specs.SourceRuns.{source_setting}
use Rattle.generated_forms.specs.Lines.{new_line, field_line, load_line, store_line, add_line, below_line, call_line, print_line, jump_line, branch_line, return_line}
use Rattle.generated_forms.specs.Modules.{node}

-- the module of these functions
abbrev pub module_of : List Function → ModuleContent
module_of funcs = record { layouts = node ∷ []; funcs = funcs; form = Source }

-- what a state has besides its running frame
pub record World : Type 0 where
  pub below : List Frame
  pub objects : List Object
  pub input : List ℤ
  pub steps : ℕ
  pub events : ℕ
  pub lines : List (List ℕ)

-- the first task stands at these lines, and there is no other
abbrev pub at : Frame → World → Progress State
at frame world = record {
  state = record {
    running = frame;
    below = world.below;
    task = 0;
    tasks = [] ∷ [];
    objects = world.objects;
    input = world.input;
    steps = world.steps;
    events = world.events;
  };
  lines = world.lines;
}

-- a line with a result, and one without
abbrev pub giving : ℕ → Instruction → Line
giving to inst = record { to = Some to; inst = inst }

abbrev pub acting : Instruction → Line
acting inst = record { to = None; inst = inst }

-- a pointer to the front of an object
abbrev pub front : ℕ → Datum
front object = pointer (record { object = object; offset = 0 })

abbrev pub layouts_of : List Rattle.ir_ast.specs.Layouts.ObjectLayout
layouts_of = node ∷ []

module _ (funcs : List Function) (go : ℕ → Option ℕ) where
  abbrev pub setting : Setting
  setting = source_setting (module_of funcs) go 10000000

  abbrev pub next_of : Progress State → Next End (Progress State)
  next_of = proceeds setting

  no_switch : (state : State) (to : Option ℕ) → state.tasks ≡ [] ∷ [] → option_map_or (switched state) to state ≡ state
  no_switch state None alone = refl
  no_switch state (Some zero) alone = rw alone refl
  no_switch state (Some (suc to)) alone = rw alone refl

  pub step_poll : (func block : ℕ) (rest : List Line) (registers : List Datum) (world : World)
      → next_of (at (record { func = func; block = block; rest = poll ∷ rest; registers = registers }) world)
      ≡ Go (at (record { func = func; block = block; rest = rest; registers = registers }) (record world { events = raised world.events }))
  unfolding proceeds step
  step_poll func block rest registers world =
      let state : State = (at (record { func = func; block = block; rest = poll ∷ rest; registers = registers }) world).state in
      ap (λ (s : State). Go (record { state = resumed s nothing; lines = world.lines })) (no_switch (with_event state) (go (raised world.events)) refl)

  abbrev frame_of : ℕ → ℕ → List Line → List Datum → Frame
  frame_of func block rest registers = record { func = func; block = block; rest = rest; registers = registers }

  module _ (func block : ℕ) (rest : List Line) (registers : List Datum) (world : World) where
    pub step_new_one : (name : List ℕ) (to : ℕ) → nat_lt 67108864 (sum_by (footprint layouts_of) (world.objects ++ made layouts_of 0 1 ∷ [])) ≡ false
        → next_of (at (frame_of func block (giving to (new_line name 1) ∷ rest) registers) world)
        ≡ Go (at (frame_of func block rest (slice_set registers to (front (length world.objects + 1))))
        (record world { objects = world.objects ++ made layouts_of 0 1 ∷ []; events = raised world.events }))
    unfolding proceeds step
    step_new_one name to room = rw room refl

    pub step_new_two : (name : List ℕ) (to : ℕ) → nat_lt 67108864 (sum_by (footprint layouts_of) (world.objects ++ made layouts_of 0 2 ∷ [])) ≡ false
        → next_of (at (frame_of func block (giving to (new_line name 2) ∷ rest) registers) world)
        ≡ Go (at (frame_of func block rest (slice_set registers to (front (length world.objects + 1))))
        (record world { objects = world.objects ++ made layouts_of 0 2 ∷ []; events = raised world.events }))
    unfolding proceeds step
    step_new_two name to room = rw room refl

    pub step_field : (name : List ℕ) (base to object : ℕ) → slice_index_or registers base nothing ≡ front object
        → next_of (at (frame_of func block (giving to (field_line name base 0) ∷ rest) registers) world)
        ≡ Go (at (frame_of func block rest (slice_set registers to (front object))) world)
    unfolding proceeds step laid size_of
    step_field name base to object is = rw is refl

    pub step_second : (name : List ℕ) (base to object : ℕ) → slice_index_or registers base nothing ≡ front object
        → next_of (at (frame_of func block (giving to (field_line name base 1) ∷ rest) registers) world)
        ≡ Go (at (frame_of func block rest (slice_set registers to (pointer (record { object = object; offset = 16 })))) world)
    unfolding proceeds step laid size_of
    step_second name base to object is = rw is refl

    pub step_load : (name : List ℕ) (from to : ℕ) (place : Place) → accessed layouts_of world.objects I64 (pointer_in (slice_index_or registers from nothing)) ≡ Ok place
        → next_of (at (frame_of func block (giving to (load_line name from) ∷ rest) registers) world)
        ≡ Go (at (frame_of func block rest (slice_set registers to (loaded world.objects place))) world)
    unfolding proceeds step
    step_load name from to place is = rw is refl

    pub step_store : (what : Operand) (to : ℕ) (place : Place) → accessed layouts_of world.objects I64 (pointer_in (slice_index_or registers to nothing)) ≡ Ok place
        → next_of (at (frame_of func block (acting (store_line what to) ∷ rest) registers) world)
        ≡ Go (at (frame_of func block rest registers) (record world { objects = stored world.objects place (value registers what) }))
    unfolding proceeds step
    step_store what to place is = rw is refl

    pub step_add : (name : List ℕ) (left : ℕ) (right : Operand) (to : ℕ)
        → next_of (at (frame_of func block (giving to (add_line name left right) ∷ rest) registers) world)
        ≡ Go (at (frame_of func block rest (slice_set registers to (number ((number_in (slice_index_or registers left nothing) + number_in (value registers right)) % 2 ^ 64)))) world)
    unfolding proceeds step
    step_add name left right to = refl

    pub step_below : (name : List ℕ) (left right to : ℕ)
        → next_of (at (frame_of func block (giving to (below_line name left right) ∷ rest) registers) world)
        ≡ Go (at (frame_of func block rest (slice_set registers to (number (bit (nat_lt (number_in (slice_index_or registers left nothing)) right))))) world)
    unfolding proceeds step
    step_below name left right to = refl

    pub step_jump : (to : ℕ) (lines : List Line) → nat_lt world.steps 10000000 ≡ true → setting.lines func to ≡ lines
        → next_of (at (frame_of func block (acting (jump_line to) ∷ rest) registers) world)
        ≡ Go (at (arrived (frame_of func block (acting (jump_line to) ∷ rest) registers) to lines) (record world { steps = world.steps + 1 }))
    unfolding proceeds step
    step_jump to lines less there = rw (less, there) refl

    pub step_taken : (test taken other : ℕ) (lines : List Line) → nat_lt world.steps 10000000 ≡ true → is_set (slice_index_or registers test nothing) ≡ true → setting.lines func taken ≡ lines
        → next_of (at (frame_of func block (acting (branch_line test taken other) ∷ rest) registers) world)
        ≡ Go (at (arrived (frame_of func block (acting (branch_line test taken other) ∷ rest) registers) taken lines) (record world { steps = world.steps + 1 }))
    unfolding proceeds step
    step_taken test taken other lines less set there = rw (less, set, there) refl

    pub step_other : (test taken other : ℕ) (lines : List Line) → nat_lt world.steps 10000000 ≡ true → is_set (slice_index_or registers test nothing) ≡ false → setting.lines func other ≡ lines
        → next_of (at (frame_of func block (acting (branch_line test taken other) ∷ rest) registers) world)
        ≡ Go (at (arrived (frame_of func block (acting (branch_line test taken other) ∷ rest) registers) other lines) (record world { steps = world.steps + 1 }))
    unfolding proceeds step
    step_other test taken other lines less set there = rw (less, set, there) refl

    pub step_call : (name : List ℕ) (place object : ℕ) (passed : Operand) (to : ℕ) → nat_lt world.steps 10000000 ≡ true → nat_lt (length world.below + 1) 4096 ≡ true
        → next_of (at (frame_of func block (giving to (call_line name place object passed) ∷ rest) registers) world)
        ≡ Go (at (entered setting place (slice_index_or registers object nothing ∷ value registers passed ∷ []))
        (record world { below = frame_of func block (giving to (call_line name place object passed) ∷ rest) registers ∷ world.below; steps = world.steps + 1 }))
    unfolding proceeds step
    step_call name place object passed to less shallow = rw (less, shallow) refl

    pub step_print : (from : ℕ)
        → next_of (at (frame_of func block (acting (print_line from) ∷ rest) registers) world)
        ≡ Go (at (frame_of func block rest registers) (record world { lines = printed_line (number_in (slice_index_or registers from nothing)) ∷ world.lines }))
    unfolding proceeds step
    step_print from = refl

    pub step_return : (answer : Operand) (caller : Frame) (below : List Frame) → nat_lt world.steps 10000000 ≡ true → world.below ≡ caller ∷ below
        → next_of (at (frame_of func block (acting (return_line answer) ∷ rest) registers) world)
        ≡ Go (at (answered caller (value registers answer)) (record world { below = below; steps = world.steps + 1 }))
    unfolding proceeds step
    step_return answer caller below less waits = rw (less, waits) refl

    pub step_end : nat_lt world.steps 10000000 ≡ true → world.below ≡ []
        → next_of (at (frame_of func block (acting (return_line (Int 0)) ∷ rest) registers) world)
        ≡ Over (Return (pos 0)) (at (frame_of func block (acting (return_line (Int 0)) ∷ rest) registers) (record world { steps = world.steps + 1 }))
    unfolding proceeds step
    step_end less none = rw (less, none) refl
