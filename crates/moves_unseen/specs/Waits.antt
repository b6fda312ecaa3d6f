-- Frames that wait: how a running frame comes to wait at its statepoint, how it goes on behind the group, what a walk over the
-- stack of a task makes of its frames, and the lines that wait. Each law is proved in a crate of its own.
use Rattle.std.specs.Prelude.{◌≡◌, ⊤, ℕ, ◌<◌, true, false, List, [], ◌∷◌, ◌++◌, length, map, filter, drop, Option, Some, Ok}
use Rattle.std.specs.List.{AllZip, Contains}
use Rattle.sp_ids.specs.declared.ids.FuncId.{FuncId}
use Rattle.ir_ast.specs.declared.ops.Callee.{Callee}
use Rattle.ir_ast.specs.declared.ops.Callee.TheVariants as callees
use Rattle.ir_ast.specs.declared.ops.Op.{Op}
use Rattle.ir_ast.specs.declared.ops.Operand.{Operand}
use Rattle.ir_ast.specs.declared.ops.Op.TheVariants.{GcRelocate, GcResult, Phi, Ret, Statepoint}
use Rattle.ir_ast.specs.declared.types.Ty.{Ty}
use Rattle.ir_ast.specs.Insts.{Instruction}
use Rattle.ir_ast.specs.Modules.{ModuleContent}
use Rattle.ir_ast.specs.Objects.{Datum, Object, number}
use Rattle.ir_ast.specs.Types.{is_pointer}
use Rattle.ir_cfg.specs.TargetModules.{IsTargetModule}
use Rattle.frame_forms.specs.FrameSizes.{is_named_integer}
use Rattle.map_bytes.specs.declared.values.Place.{Place}
use Rattle.frame_walk.specs.Maps.{FrameEntry, Pair, usable, pairs_of, deopt_places as deopts_of}
use Rattle.frame_walk.specs.Walks.{frame_words}
use Rattle.move_plan.specs.declared.plan_lines.Move.{Move}
use Rattle.move_plan.specs.declared.plan_lines.PlanLine.{PlanLine}
use Rattle.move_plan.specs.Plans.{go}
use Rattle.moving_heap.specs.declared.stands.Moved.{Moved}
use Rattle.moving_heap.specs.declared.stands.Stand.{Stand}
use Rattle.moving_heap.specs.Places.{carried, group_moves}
use Rattle.moving_heap.specs.Settled.{AreSettled}
use Rattle.object_meaning.specs.Frames.{answered}
use Rattle.object_meaning.specs.Lines.{Line}
use Rattle.object_meaning.specs.Numbers.{sign_extended, width_of}
use Rattle.object_meaning.specs.Registers.{number_in, pointer_in}
use Rattle.object_meaning.specs.States.{Frame, State}
use Rattle.object_meaning.specs.Steps.{step}
use Rattle.object_meaning.specs.TargetRuns.{target_setting}
use Rattle.pair_facts.specs.Faults.{IsVerified}
use Rattle.pair_facts.specs.Lines.{lines_at, group_in}
use Rattle.stackmap_write.specs.Constants.{constants_of}
use Rattle.stackmap_write.specs.ModuleMaps.{deopt_places, map_of}
use Rattle.machine_meaning.specs.Code.{machinery_of}
use Rattle.machine_meaning.specs.Machines.{Machinery, gone_from, over, return_address, spilled}
use Rattle.machine_meaning.specs.MachineSteps.{machine_step}
use Rattle.machine_meaning.specs.Moving.{walked_task}
use Rattle.machine_meaning.specs.Relations.{word_in}
use Rattle.machine_meaning.specs.Words.{worded}
use Rattle.moves_unseen.specs.Frames.{FrameWords, IsRunning, IsWaiting, group_pairs}
use Rattle.moves_unseen.specs.Objects.{IsBase}
use Rattle.moves_unseen.specs.States.{Extra, IsRelated, machine_of, stack_of, worded_frame, worded_frames}
use Rattle.moves_unseen.specs.Steps.{StepFollows}

-- what is asked of a module
pub record IsSound (content : ModuleContent) : Type 0 where
  pub target : IsTargetModule content
  pub verified : IsVerified content

-- ---- a running frame comes to wait

-- an integer that a bundle names, sign-extended
abbrev pub kept_word : List ℕ → Ty × Operand → ℕ
kept_word words entry = sign_extended (width_of entry.0) 64 (word_in words entry.1)

-- what a frame with these words keeps at a statepoint with so many arguments: the live entries, then the integers that its
-- bundle names
abbrev pub words_kept : List ℕ → Instruction → ℕ → List ℕ
words_kept words call arguments =
    map (word_in words) (drop arguments call.operands) ++ map (kept_word words) (filter (λ entry. is_named_integer entry.0 entry.1) call.bundle)

-- the words of a frame that waits there: they are in its slots
abbrev pub spilled_words : FrameWords → Line → ℕ → FrameWords
spilled_words held line arguments = record held { slots = over (words_kept held.words line.inst arguments) held.slots }

-- a running frame that stands at a statepoint waits there, once its entries are in its slots
abbrev pub RunningFramesWait : Type 0
RunningFramesWait = (content : ModuleContent) → IsSound content → (objects : List Object) (stands : List Stand) (frame : Frame) (held : FrameWords)
    → IsRunning content objects stands frame held → (line : Line) (rest : List Line) → frame.rest ≡ line ∷ rest
    → (id : ℕ) (callee : Callee) (types : List Ty) → line.inst.op ≡ Statepoint id callee types
    → IsWaiting content stands frame (spilled_words held line (length types))

-- and that is what the machine does
abbrev pub SpillsAre : Type 0
SpillsAre = (content : ModuleContent) → IsSound content → (machinery : Machinery) (state : State) (extra : Extra)
    → IsRunning content state.objects extra.heap.stands state.running extra.running → (line : Line) (rest : List Line) → state.running.rest ≡ line ∷ rest
    → (id : ℕ) (callee : Callee) (types : List Ty) → line.inst.op ≡ Statepoint id callee types
    → spilled (machine_of machinery state extra) (worded line).inst (length types)
    ≡ machine_of machinery state (record extra { running = spilled_words extra.running line (length types) })

-- ---- a frame that waits goes on

-- the answer of a call, as a group's result takes it: the same number, or a pointer that is its own base
pub record IsAnswer (stands : List Stand) (group : List Line) (answer : Datum) (word : ℕ) : Type 0 where
  pub numbers : (member : Line) → Contains group member → member.inst.op ≡ GcResult → is_pointer member.inst.ty ≡ false → word ≡ number_in answer
  pub bases : (member : Line) → Contains group member → member.inst.op ≡ GcResult → is_pointer member.inst.ty ≡ true → IsBase stands (pointer_in answer) word

-- a frame goes on behind its group, in both meanings; the machine takes relocates from its slots, which are on top of the stack
pub record GoesOn (content : ModuleContent) (objects : List Object) (stands : List Stand) (frame : Frame) (held : FrameWords) (answer : Datum) (word : ℕ) (below : List ℕ) : Type 0 where
  pub words : List ℕ
  pub running : IsRunning content objects stands (answered frame answer) (record held { words = words })
  pub is : gone_from (held.slots ++ below) (worded_frame frame held.words) (map worded frame.rest) (number word) ≡ worded_frame (answered frame answer) words

abbrev pub WaitingFramesGoOn : Type 0
WaitingFramesGoOn = (content : ModuleContent) → IsSound content → (objects : List Object) (stands : List Stand) (frame : Frame) (held : FrameWords)
    (waiting : IsWaiting content stands frame held) (answer : Datum) (word : ℕ) → IsAnswer stands (group_in (lines_at waiting.func frame.block) waiting.place) answer word
    → (below : List ℕ) → GoesOn content objects stands frame held answer word below

-- ---- the walk

-- the record that the map of the module has of a frame that waits, with these "deopt" locations, and the name of its function
pub record IsRecorded (machinery : Machinery) (frame : Frame) (held : FrameWords) (pairs : List Pair) (deopts : List Place) (name : List ℕ) : Type 0 where
  pub entry : FrameEntry
  pub found : machinery.found (return_address machinery (worded_frame frame held.words)) ≡ Some entry
  pub returns : return_address machinery (worded_frame frame held.words) ≡ 0 → ⊥
  pub size : frame_words entry ≡ length held.slots
  pub fits : (left : ℕ) → length held.slots < left → usable left entry ≡ true
  pub pairs_are : pairs_of entry ≡ pairs
  pub deopts_are : deopts_of entry ≡ deopts
  pub named : machinery.name_at (return_address machinery (worded_frame frame held.words)) ≡ Some name

abbrev pub RecordsAreFound : Type 0
RecordsAreFound = (content : ModuleContent) → IsSound content → (plan : List PlanLine) (bound : ℕ) (stands : List Stand) (frame : Frame) (held : FrameWords)
    (waiting : IsWaiting content stands frame held)
    → IsRecorded (machinery_of content (map_of content) plan bound) frame held (group_pairs (lines_at waiting.func frame.block) waiting.place)
    (deopt_places (constants_of content) waiting.call.inst) waiting.func.name

-- the frames of a task after the walk of an event: their registers hold what they held, and their slots the words of after the moves
pub record IsWalked (content : ModuleContent) (machinery : Machinery) (moves : List Moved) (stands : List Stand) (frames : List Frame) (helds : List FrameWords) : Type 0 where
  pub after : List FrameWords
  pub is : walked_task machinery moves (worded_frames frames helds) (stack_of machinery (worded_frames frames helds) helds)
      ≡ Ok (stack_of machinery (worded_frames frames helds) after)
  pub same : worded_frames frames after ≡ worded_frames frames helds
  pub waiting : AllZip (IsWaiting content (map (carried moves) stands)) frames after

abbrev pub StacksAreWalked : Type 0
StacksAreWalked = (content : ModuleContent) → IsSound content → (plan : List PlanLine) (bound : ℕ) (stands : List Stand) → AreSettled stands
    → (lines : List Move) (flip : Option ℕ) → (group_moves stands lines flip ≡ [] → ⊥) → (frames : List Frame) (helds : List FrameWords) → AllZip (IsWaiting content stands) frames helds
    → IsWalked content (machinery_of content (map_of content) plan bound) (group_moves stands lines flip) stands frames helds

-- ---- lines

-- each line with an operator like this is one step of both, over the map of the module
abbrev pub LinesFollow : (Op → Type 0) → Type 0
LinesFollow due = (content : ModuleContent) → IsSound content → (plan : List PlanLine) (bound : ℕ) (state : State) (extra : Extra) → IsRelated content state extra
    → (line : Line) (rest : List Line) → state.running.rest ≡ line ∷ rest → due line.inst.op
    → StepFollows content (machinery_of content (map_of content) plan bound) (step (target_setting content (go plan) bound) state)
    (machine_step (machinery_of content (map_of content) plan bound) (machine_of (machinery_of content (map_of content) plan bound) state extra))

-- a statepoint of such a callee
pub data IsStatepointOf (due : Callee → Type 0) : Op → Type 0 where
  waits : (id : ℕ) (callee : Callee) (types : List Ty) → due callee → IsStatepointOf due (Statepoint id callee types)

pub data IsDefined : Callee → Type 0 where
  defined : (func : FuncId) → IsDefined (callees.Fun func)

pub data StartsTask : Callee → Type 0 where
  starts : StartsTask callees.TaskStart

pub data MakesObject : Callee → Type 0 where
  makes : (layout : ℕ) → MakesObject (callees.New layout)

pub data Polls : Callee → Type 0 where
  polls : Polls callees.Poll

-- the runtime's externals that call nothing
pub data IsHelper : Callee → Type 0 where
  checks : IsHelper callees.Check
  compares : IsHelper callees.Same
  prints : IsHelper callees.Print
  reads : IsHelper callees.Read

-- lines that took effect before: phis at the jump, and a group's members with their statepoint
pub data IsSkipped : Op → Type 0 where
  phi : IsSkipped Phi
  result : IsSkipped GcResult
  relocate : IsSkipped GcRelocate

pub data Returns : Op → Type 0 where
  returns : Returns Ret

-- a call of a defined function
abbrev pub CallsFollow : Type 0
CallsFollow = LinesFollow (IsStatepointOf IsDefined)

-- a return, to the frame below, to task 0, or from the run
abbrev pub ReturnsFollow : Type 0
ReturnsFollow = LinesFollow Returns

-- a task that starts
abbrev pub TasksFollow : Type 0
TasksFollow = LinesFollow (IsStatepointOf StartsTask)

-- events: first their moves, with the walk over the stacks of all tasks, then a new object, or the `go` line of a poll
abbrev pub NewObjectsFollow : Type 0
NewObjectsFollow = LinesFollow (IsStatepointOf MakesObject)

abbrev pub PollsFollow : Type 0
PollsFollow = LinesFollow (IsStatepointOf Polls)

-- a statepoint of a helper
abbrev pub HelpersFollow : Type 0
HelpersFollow = LinesFollow (IsStatepointOf IsHelper)

abbrev pub SkipsFollow : Type 0
SkipsFollow = LinesFollow IsSkipped

-- each line that is executed
abbrev pub AllLinesFollow : Type 0
AllLinesFollow = LinesFollow (λ op. ⊤)
