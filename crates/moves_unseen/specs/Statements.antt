-- What is proved of moves, and the law of whole runs.
use Rattle.std.specs.Prelude.{◌≡◌, ℕ, ℤ, ◌+◌, ◌==◌, ◌&&◌, nat_lt, true, false, List, [], ◌∷◌, ◌++◌, map, slice_get, Option, Some, None, Ok}
use Rattle.std.specs.List.{sum_by}
use Rattle.ir_ast.specs.declared.cells.Cell.{Cell}
use Rattle.ir_ast.specs.declared.ops.Elem.{Elem}
use Rattle.ir_ast.specs.declared.ops.Callee.TheVariants.{Check, Print, Read, Same}
use Rattle.ir_ast.specs.declared.ops.Op.TheVariants.{Call, Gep, Icmp, Load, Select, Store, Unreachable}
use Rattle.ir_ast.specs.declared.ops.Pred.{Pred}
use Rattle.ir_ast.specs.declared.types.Ty.{Ty}
use Rattle.ir_ast.specs.Cells.{type_of}
use Rattle.ir_ast.specs.Layouts.{ObjectLayout}
use Rattle.ir_ast.specs.Modules.{ModuleContent}
use Rattle.ir_ast.specs.Objects.{Datum, Object, Pointer, number}
use Rattle.ir_ast.specs.Sizes.{fields_in}
use Rattle.ir_ast.specs.Values.{value_types}
use Rattle.ir_cfg.specs.TargetModules.{IsTargetModule}
use Rattle.map_bytes.specs.Maps.{StackMap}
use Rattle.move_plan.specs.declared.plan_lines.Move.{Move}
use Rattle.move_plan.specs.declared.plan_lines.PlanLine.{PlanLine}
use Rattle.move_plan.specs.Plans.{go}
use Rattle.moving_heap.specs.Contents.{after_moves}
use Rattle.moving_heap.specs.Heaps.{HeapView, checked, footprint, stored_at, with_object}
use Rattle.moving_heap.specs.Places.{carried, group_moves, owner}
use Rattle.moving_heap.specs.Settled.{AreSettled}
use Rattle.moving_heap.specs.declared.stands.Stand.{Stand}
use Rattle.object_meaning.specs.Accesses.{Place, accessed, cell_of, stored}
use Rattle.object_meaning.specs.Calls.{made}
use Rattle.object_meaning.specs.Comparisons.{same_pointer}
use Rattle.object_meaning.specs.Frames.{entered}
use Rattle.object_meaning.specs.Lines.{Line}
use Rattle.object_meaning.specs.Outcomes.{Outcome, opening}
use Rattle.object_meaning.specs.States.{Setting, State}
use Rattle.object_meaning.specs.Steps.{step}
use Rattle.object_meaning.specs.Traces.{accesses_at}
use Rattle.object_meaning.specs.TargetRuns.{TargetGives, target_setting}
use Rattle.pair_facts.specs.declared.bases.Base.{Base}
use Rattle.pair_facts.specs.declared.bases.Base.TheVariants.{Named}
use Rattle.pair_facts.specs.Faults.{FaultAt, IsVerified}
use Rattle.pair_facts.specs.Lines.{lines_at, operand_at}
use Rattle.pair_facts.specs.Pairs.{Pairs}
use Rattle.pair_facts.specs.Paths.{At}
use Rattle.pair_facts.specs.Uses.{Use, Uses, accessed_at}
use Rattle.ir_ast.specs.declared.ops.Operand.{Operand}
use Rattle.ir_ast.specs.declared.ops.Operand.TheVariants.{Int}
use Rattle.ir_ast.specs.Faults.TypeClash.{Fits}
use Rattle.ir_ast.specs.Funcs.{Function}
use Rattle.stackmap_write.specs.ModuleMaps.{map_of}
use Rattle.machine_meaning.specs.Code.{machinery_of}
use Rattle.machine_meaning.specs.Happenings.{accesses_by}
use Rattle.machine_meaning.specs.MachineRuns.{MachineOutcome, MachineGives, machine_opening}
use Rattle.machine_meaning.specs.MachineSteps.{machine_step}
use Rattle.machine_meaning.specs.Machines.{Machinery}
use Rattle.machine_meaning.specs.Words.{worded_setting}
use Rattle.machine_meaning.specs.Relations.{addr, check_of, IsPair}
use Rattle.moves_unseen.specs.Entries.{AreArguments, entered_words}
use Rattle.moves_unseen.specs.Frames.{IsRunning}
use Rattle.moves_unseen.specs.Objects.{AreHeld, Holds, Loads}
use Rattle.moves_unseen.specs.States.{Extra, Follows, IsRelated, machine_of, worded_frame}
use Rattle.moves_unseen.specs.Types.{IsJump, IsLineOf, IsPlain}
use Rattle.moves_unseen.specs.Steps.{GivesNumber, GivesPointer, IsArithmetic, IsCheckedBefore, IsCompared, IsNumber, IsStored, StepFollows}

-- ---- proved

-- after the moves of an event each cell holds what it held
abbrev pub GroupsKeepObjects : Type 0
GroupsKeepObjects = (layouts : List ObjectLayout) (objects : List Object) (heap : HeapView) (lines : List Move) (flip : Option ℕ)
    → AreHeld layouts objects heap.stands heap.contents → (group_moves heap.stands lines flip ≡ [] → ⊥)
    → AreHeld layouts objects (map (carried (group_moves heap.stands lines flip)) heap.stands) (map (after_moves (group_moves heap.stands lines flip)) heap.contents)

-- a check of a pair answers what an access of its pointer does
abbrev pub ChecksAreAccesses : Type 0
ChecksAreAccesses = (layouts : List ObjectLayout) (objects : List Object) (heap : HeapView) → AreHeld layouts objects heap.stands heap.contents
    → (asked : Cell) (to base : Pointer) (word base_word : ℕ) → IsPair heap.stands to base word base_word
    → checked heap base_word word asked ≡ check_of (accessed layouts objects asked to)

-- an access of a cell loads what the cell holds
abbrev pub LoadsHold : Type 0
LoadsHold = (layouts : List ObjectLayout) (objects : List Object) (heap : HeapView) → AreHeld layouts objects heap.stands heap.contents
    → (asked : Cell) (to : Pointer) (word : ℕ) → word ≡ addr heap.stands to → (place : Place) → accessed layouts objects asked to ≡ Ok place
    → Loads objects heap asked word place

-- a store of what the cell's kind asks for keeps what all cells hold
abbrev pub StoresHold : Type 0
StoresHold = (layouts : List ObjectLayout) (objects : List Object) (heap : HeapView) → AreHeld layouts objects heap.stands heap.contents
    → (asked : Cell) (to : Pointer) (word : ℕ) → word ≡ addr heap.stands to → (place : Place) → accessed layouts objects asked to ≡ Ok place
    → (datum : Datum) (held : ℕ) → Holds heap.stands asked datum held
    → AreHeld layouts (stored objects place datum) heap.stands (stored_at heap.contents word held (owner heap.stands word))

-- a new object that there is room for holds zeros and null pointers, and the others what they held
abbrev pub NewObjectsHold : Type 0
NewObjectsHold = (layouts : List ObjectLayout) (objects : List Object) (heap : HeapView) → AreHeld layouts objects heap.stands heap.contents
    → (layout count : ℕ) → nat_lt 67108864 (sum_by (λ (stand : Stand). stand.size) heap.stands + footprint (fields_in layouts layout) count) ≡ false
    → AreHeld layouts (objects ++ made layouts layout count ∷ []) (with_object heap layout (fields_in layouts layout) count).stands
    (with_object heap layout (fields_in layouts layout) count).contents

-- two pairs are compared by the words of their bases and their own
abbrev pub PairsAreCompared : Type 0
PairsAreCompared = (stands : List Stand) → AreSettled stands → (one one_base two two_base : Pointer) (word base_word other_word other_base_word : ℕ)
    → IsPair stands one one_base word base_word → IsPair stands two two_base other_word other_base_word
    → (base_word == other_base_word) && (word == other_word) ≡ same_pointer one two

-- a line that computes integers is one step of both
abbrev pub IntegersFollow : Type 0
IntegersFollow = (content : ModuleContent) (machinery : Machinery) (setting : Setting) (state : State) (extra : Extra) (related : IsRelated content state extra)
    (line : Line) (rest : List Line) → state.running.rest ≡ line ∷ rest → IsArithmetic line.inst.op → GivesNumber (value_types related.running.func) line
    → StepFollows content machinery (step setting state) (machine_step machinery (machine_of machinery state extra))

-- so is `getelementptr`, with the bases of the pointer from which it goes
abbrev pub GepsFollow : Type 0
GepsFollow = (content : ModuleContent) (machinery : Machinery) (setting : Setting) → machinery.setting.layouts ≡ setting.layouts
    → (state : State) (extra : Extra) (related : IsRelated content state extra) (line : Line) (rest : List Line) → state.running.rest ≡ line ∷ rest
    → (elem : Elem) (index_width : ℕ) (field : Option ℕ) → line.inst.op ≡ Gep elem index_width field
    → IsNumber (value_types related.running.func) (operand_at line.inst.operands 1) → GivesPointer (value_types related.running.func) line
    → StepFollows content machinery (step setting state) (machine_step machinery (machine_of machinery state extra))

-- so is a check of a pair, which traps as the access of its pointer does, or makes the access behind it one of a cell
abbrev pub ChecksFollow : Type 0
ChecksFollow = (content : ModuleContent) (machinery : Machinery) (setting : Setting) → setting.layouts ≡ content.layouts
    → (state : State) (extra : Extra) (related : IsRelated content state extra) (line : Line) (rest : List Line) → state.running.rest ≡ line ∷ rest
    → (types : List Ty) → line.inst.op ≡ Call Check types → line.to ≡ None → IsNumber (value_types related.running.func) (operand_at line.inst.operands 2)
    → related.running.pairs (operand_at line.inst.operands 1) (Named (operand_at line.inst.operands 0)) ≡ true
    → StepFollows content machinery (step setting state) (machine_step machinery (machine_of machinery state extra))

-- so is a load behind its check, which is never poison, and both see the same access
abbrev pub LoadsFollow : Type 0
LoadsFollow = (content : ModuleContent) (machinery : Machinery) (setting : Setting) → setting.layouts ≡ content.layouts
    → (state : State) (extra : Extra) (related : IsRelated content state extra) (line : Line) (rest : List Line) → state.running.rest ≡ line ∷ rest
    → line.inst.op ≡ Load → (cell : Cell) → type_of cell ≡ line.inst.ty
    → IsCheckedBefore (lines_at related.running.func state.running.block) related.running.place state.running.registers (operand_at line.inst.operands 0) cell
    → (given : ℕ) → line.to ≡ Some given → slice_get (value_types related.running.func) given ≡ Some line.inst.ty
    → StepFollows content machinery (step setting state) (machine_step machinery (machine_of machinery state extra))
    × (accesses_by (machine_of machinery state extra) (machine_of machinery state extra).state.running.rest ≡ accesses_at setting state state.running.rest)

-- so is a store behind its check, of a number or of a pointer that is its own base, and both see the same access
abbrev pub StoresFollow : Type 0
StoresFollow = (content : ModuleContent) (machinery : Machinery) (setting : Setting) → setting.layouts ≡ content.layouts
    → (state : State) (extra : Extra) (related : IsRelated content state extra) (line : Line) (rest : List Line) → state.running.rest ≡ line ∷ rest
    → line.inst.op ≡ Store → (cell : Cell) → type_of cell ≡ line.inst.ty
    → IsCheckedBefore (lines_at related.running.func state.running.block) related.running.place state.running.registers (operand_at line.inst.operands 1) cell
    → line.to ≡ None → IsStored (value_types related.running.func) related.running.pairs (operand_at line.inst.operands 0) cell
    → StepFollows content machinery (step setting state) (machine_step machinery (machine_of machinery state extra))
    × (accesses_by (machine_of machinery state extra) (machine_of machinery state extra).state.running.rest ≡ accesses_at setting state state.running.rest)

-- so is a comparison of two pairs
abbrev pub ComparisonsFollow : Type 0
ComparisonsFollow = (content : ModuleContent) (machinery : Machinery) (setting : Setting)
    → (state : State) (extra : Extra) (related : IsRelated content state extra) (line : Line) (rest : List Line) → state.running.rest ≡ line ∷ rest
    → (types : List Ty) → line.inst.op ≡ Call Same types → (given : ℕ) → line.to ≡ Some given → (ty : Ty) → slice_get (value_types related.running.func) given ≡ Some ty
    → related.running.pairs (operand_at line.inst.operands 1) (Named (operand_at line.inst.operands 0)) ≡ true
    → related.running.pairs (operand_at line.inst.operands 3) (Named (operand_at line.inst.operands 2)) ≡ true
    → StepFollows content machinery (step setting state) (machine_step machinery (machine_of machinery state extra))

-- so is an `icmp` of numbers, or of pointers that are their own bases
abbrev pub IcmpsFollow : Type 0
IcmpsFollow = (content : ModuleContent) (machinery : Machinery) (setting : Setting)
    → (state : State) (extra : Extra) (related : IsRelated content state extra) (line : Line) (rest : List Line) → state.running.rest ≡ line ∷ rest
    → (pred : Pred) → line.inst.op ≡ Icmp pred → IsCompared (value_types related.running.func) related.running.pairs line pred
    → (given : ℕ) → line.to ≡ Some given → (ty : Ty) → slice_get (value_types related.running.func) given ≡ Some ty
    → StepFollows content machinery (step setting state) (machine_step machinery (machine_of machinery state extra))

-- so is a select of two operands of its type, by a condition that is a number
abbrev pub SelectsFollow : Type 0
SelectsFollow = (content : ModuleContent) (machinery : Machinery) (setting : Setting)
    → (state : State) (extra : Extra) (related : IsRelated content state extra) (line : Line) (rest : List Line) → state.running.rest ≡ line ∷ rest
    → line.inst.op ≡ Select → IsNumber (value_types related.running.func) (operand_at line.inst.operands 0)
    → Fits (value_types related.running.func) (operand_at line.inst.operands 1) line.inst.ty → Fits (value_types related.running.func) (operand_at line.inst.operands 2) line.inst.ty
    → (given : ℕ) → line.to ≡ Some given → slice_get (value_types related.running.func) given ≡ Some line.inst.ty
    → StepFollows content machinery (step setting state) (machine_step machinery (machine_of machinery state extra))

-- so is the print of a number
abbrev pub PrintsFollow : Type 0
PrintsFollow = (content : ModuleContent) (machinery : Machinery) (setting : Setting)
    → (state : State) (extra : Extra) (related : IsRelated content state extra) (line : Line) (rest : List Line) → state.running.rest ≡ line ∷ rest
    → (types : List Ty) → line.inst.op ≡ Call Print types → line.to ≡ None → IsNumber (value_types related.running.func) (operand_at line.inst.operands 0)
    → StepFollows content machinery (step setting state) (machine_step machinery (machine_of machinery state extra))

-- so is a read, which traps where the input has no more numbers
abbrev pub ReadsFollow : Type 0
ReadsFollow = (content : ModuleContent) (machinery : Machinery) (setting : Setting)
    → (state : State) (extra : Extra) (related : IsRelated content state extra) (line : Line) (rest : List Line) → state.running.rest ≡ line ∷ rest
    → (types : List Ty) → line.inst.op ≡ Call Read types → (given : ℕ) → line.to ≡ Some given → (ty : Ty) → slice_get (value_types related.running.func) given ≡ Some ty
    → StepFollows content machinery (step setting state) (machine_step machinery (machine_of machinery state extra))

-- the relation holds at the opening, whatever the map is
abbrev pub OpeningsFollow : Type 0
OpeningsFollow = (content : ModuleContent) → IsTargetModule content → (map_given : StackMap) (input : List ℤ) (plan : List PlanLine) (bound : ℕ)
    → Follows content (machinery_of content map_given plan bound) (opening (target_setting content (go plan) bound) input).state
    (machine_opening (machinery_of content map_given plan bound) input).state

-- a pair that a line without a fault uses stands along each path to where it is judged, and its base is its own
abbrev pub UsedPairsStand : Type 0
UsedPairsStand = (func : Function) (block place : ℕ) → ((code : ℕ) → ¬ FaultAt func block place code) → (code at : ℕ) (pair : Use) → Uses (lines_at func block) place code at pair
    → (pairs : Pairs) → At func block at pairs → (pairs pair.address (Named pair.base) ≡ true) × (pairs pair.base (Named pair.base) ≡ true)

-- where a path leads to an access without a fault, a check of its address and kind stands directly before it
abbrev pub AccessesAreChecked : Type 0
AccessesAreChecked = (func : Function) (block place : ℕ) → ((code : ℕ) → ¬ FaultAt func block place code) → (pairs : Pairs) → At func block place pairs
    → (line : Line) → slice_get (lines_at func block) place ≡ Some line → (address : Operand) → accessed_at line.inst.op line.inst ≡ Some address
    → (registers : List Datum) → IsCheckedBefore (lines_at func block) place registers address (cell_of line.inst.ty)

-- each line of a target module has its form, the types of its operands, and the register of its result
abbrev pub LinesAreTyped : Type 0
LinesAreTyped = (content : ModuleContent) → IsTargetModule content → (number : ℕ) (func : Function) → slice_get content.funcs number ≡ Some func
    → (block place : ℕ) (line : Line) → slice_get (lines_at func block) place ≡ Some line → IsLineOf content func line

-- a plain line of a verified module is one step of both, which see the same accesses
abbrev pub PlainLinesFollow : Type 0
PlainLinesFollow = (content : ModuleContent) → IsTargetModule content → IsVerified content → (machinery : Machinery) (setting : Setting)
    → setting.layouts ≡ content.layouts → machinery.setting.layouts ≡ setting.layouts → (state : State) (extra : Extra) → IsRelated content state extra
    → (line : Line) (rest : List Line) → state.running.rest ≡ line ∷ rest → IsPlain line.inst.op
    → StepFollows content machinery (step setting state) (machine_step machinery (machine_of machinery state extra))
    × (accesses_by (machine_of machinery state extra) (machine_of machinery state extra).state.running.rest ≡ accesses_at setting state state.running.rest)

-- a jump of a target module is one step of both, to the same block, whose phis take the same
abbrev pub JumpsFollow : Type 0
JumpsFollow = (content : ModuleContent) → IsTargetModule content → (map_given : StackMap) (plan : List PlanLine) (bound : ℕ)
    → (state : State) (extra : Extra) → IsRelated content state extra → (line : Line) (rest : List Line) → state.running.rest ≡ line ∷ rest → IsJump line.inst.op
    → StepFollows content (machinery_of content map_given plan bound) (step (target_setting content (go plan) bound) state)
    (machine_step (machinery_of content map_given plan bound) (machine_of (machinery_of content map_given plan bound) state extra))

-- both trap where they execute `unreachable`
abbrev pub UnreachablesFollow : Type 0
UnreachablesFollow = (content : ModuleContent) → IsTargetModule content → (map_given : StackMap) (plan : List PlanLine) (bound : ℕ)
    → (state : State) (extra : Extra) → IsRelated content state extra → (line : Line) (rest : List Line) → state.running.rest ≡ line ∷ rest → line.inst.op ≡ Unreachable
    → StepFollows content (machinery_of content map_given plan bound) (step (target_setting content (go plan) bound) state)
    (machine_step (machinery_of content map_given plan bound) (machine_of (machinery_of content map_given plan bound) state extra))

-- the frame of a function that is called with such arguments stands at its front, and the machine makes it of their words
abbrev pub FramesAreEntered : Type 0
FramesAreEntered = (content : ModuleContent) (place : ℕ) (func : Function) → slice_get content.funcs place ≡ Some func → (go_line : ℕ → Option ℕ) (bound : ℕ)
    → (objects : List Object) (stands : List Stand) (given : List Datum) (words : List ℕ) → AreArguments stands (map (λ arg. arg.ty) func.args) given words
    → IsRunning content objects stands (entered (target_setting content go_line bound) place given) (entered_words content place words)
    × (worded_frame (entered (target_setting content go_line bound) place given) (entered_words content place words).words
    ≡ entered (worded_setting (target_setting content go_line bound)) place (map number words))

-- literals have no pairs, so the entries of a pair that stands are values or `null`
abbrev pub LiteralsHaveNoPairs : Type 0
LiteralsHaveNoPairs = (func : Function) (block place : ℕ) (pairs : Pairs) → At func block place pairs → (literal : ℕ)
    → ((base : Base) → pairs (Int literal) base ≡ false) × ((operand : Operand) → pairs operand (Named (Int literal)) ≡ false)

-- ---- whole runs

-- the machine's run gives what the target meaning's gives: the same lines, end, function, steps, events and accesses, and
-- objects whose cells are held
pub record IsSeen (content : ModuleContent) (outcome : Outcome) (machine : MachineOutcome) : Type 0 where
  pub lines : machine.lines ≡ outcome.lines
  pub end : machine.end ≡ outcome.end
  pub func : machine.func ≡ outcome.func
  pub steps : machine.steps ≡ outcome.steps
  pub events : machine.events ≡ outcome.events
  pub printed : machine.printed ≡ outcome.printed
  pub happened : map (λ happening. happening.event) machine.happened ≡ outcome.happened
  pub accesses : machine.accesses ≡ outcome.accesses
  pub objects : AreHeld content.layouts outcome.objects machine.heap.stands machine.heap.contents

-- over the map of a verified module moves are never noticed
abbrev pub MovesAreUnseen : Type 0
MovesAreUnseen = (content : ModuleContent) → IsTargetModule content → IsVerified content
    → (input : List ℤ) (plan : List PlanLine) (bound : ℕ) (outcome : Outcome) → TargetGives content input (go plan) bound outcome
    → (machine : MachineOutcome) × (MachineGives content (map_of content) input plan bound machine × IsSeen content outcome machine)
