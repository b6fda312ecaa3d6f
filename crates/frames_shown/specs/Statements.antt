-- The laws of what frames that wait show at a trap.
use Rattle.std.specs.Prelude.{◌≡◌, ℕ, ◌+◌, ◌<◌, ◌^◌, ◌&&◌, true, List, ◌∷◌, length, map, Some, slice_get}
use Rattle.std.specs.List.{AllZip, Contains, flat_map}
use Rattle.sp_ids.specs.declared.ends.End.{End}
use Rattle.ir_ast.specs.declared.ops.Operand.{Operand}
use Rattle.ir_ast.specs.declared.types.Ty.{Ty}
use Rattle.ir_ast.specs.Insts.{Instruction}
use Rattle.ir_ast.specs.Faults.GroupShape.{entries_of, is_statepoint}
use Rattle.ir_ast.specs.Faults.TypeClash.{Fits}
use Rattle.ir_ast.specs.Funcs.{Function, instructions_of}
use Rattle.ir_ast.specs.Modules.{ModuleContent}
use Rattle.ir_ast.specs.Operands.{is_value}
use Rattle.ir_ast.specs.Types.{is_first_class, is_pointer}
use Rattle.ir_ast.specs.Objects.{Datum}
use Rattle.moving_heap.specs.declared.stands.Stand.{Stand}
use Rattle.moving_heap.specs.Settled.{AreSettled}
use Rattle.frame_forms.specs.CodeAddresses.{first_start}
use Rattle.frame_walk.specs.Maps.{FrameEntry, Pair, deopt_places, pairs_of}
use Rattle.object_meaning.specs.Lines.{Line}
use Rattle.object_meaning.specs.Registers.{pointer_in, value}
use Rattle.object_meaning.specs.States.{Frame, State}
use Rattle.object_meaning.specs.Texts.{closing_lines, shown}
use Rattle.pair_facts.specs.Uses.{is_kept}
use Rattle.stackmap_write.specs.Constants.{constants_of}
use Rattle.stackmap_write.specs.ModuleMaps.{deopt_places as deopt_places_of}
use Rattle.machine_meaning.specs.Code.{code_address, name_in, place_before}
use Rattle.machine_meaning.specs.Machines.{Machinery}
use Rattle.machine_meaning.specs.Relations.{AreSlots}
use Rattle.machine_meaning.specs.TrapLines.{closing_of, values_of}
use Rattle.moves_unseen.specs.Frames.{AreKept, FrameWords, relocated_pair}
use Rattle.moves_unseen.specs.States.{Extra, machine_of}
use Rattle.frames_shown.specs.Shown.{IsMapped, ShowsEntry}

-- the slots of a frame that waits at a call hold what it keeps: the pointers of its live entries, as pairs, whose derived slots
-- are those of live entries, and the integers that its bundle names
pub record KeepsEntries (stands : List Stand) (registers : List Datum) (call : Instruction) (slots : List ℕ) (pairs : List Pair) : Type 0 where
  pub slots_are : AreSlots stands (map (λ entry. pointer_in (value registers entry)) (entries_of call)) slots pairs
  pub within : (at : ℕ) (pair : Pair) → slice_get pairs at ≡ Some pair → pair.derived < length (entries_of call)
  pub bundle : AreKept registers call slots

-- what is shown of a frame over a record with locations for each entry of its call's bundle is what these entries are
abbrev pub ValuesAreShown : Type 0
ValuesAreShown = (machinery : Machinery) (stands : List Stand) → AreSettled stands → (registers : List Datum) (call : Instruction) (slots : List ℕ) (pairs : List Pair)
    → KeepsEntries stands registers call slots pairs → (one : FrameEntry) → pairs_of one ≡ pairs
    → AllZip (λ each place. ShowsEntry call pairs machinery.constants place each) call.bundle (deopt_places one)
    → values_of machinery stands slots one ≡ map (λ each. shown each.0 (value registers each.1)) call.bundle

-- a frame that stands at a call, keeps its entries, and is in the map
pub record IsShown (machinery : Machinery) (names : ℕ → List ℕ) (stands : List Stand) (frame : Frame) (held : FrameWords) : Type 0 where
  pub call : Line
  pub behind : List Line
  pub rest : frame.rest ≡ call ∷ behind
  pub pairs : List Pair
  pub keeps : KeepsEntries stands frame.registers call.inst held.slots pairs
  pub mapped : IsMapped machinery names call.inst pairs frame held

-- so a run that ends with such frames below the running one shows the same by both meanings
abbrev pub TrapsAreShown : Type 0
TrapsAreShown = (machinery : Machinery) (names : ℕ → List ℕ) (end : End) (state : State) (extra : Extra) → AreSettled extra.heap.stands
    → length extra.running.slots ≡ machinery.frame_words state.running.func → AllZip (IsShown machinery names extra.heap.stands) state.below extra.below
    → closing_of machinery end (machine_of machinery state extra) ≡ closing_lines names end state

-- the map's name at the code address of an instruction of a block is that of its function
abbrev pub NamesAreFound : Type 0
NamesAreFound = (content : ModuleContent) (number : ℕ) (func : Function) → slice_get content.funcs number ≡ Some func → (block place : ℕ)
    → place_before content number block + place < length (instructions_of func.blocks) → name_in first_start content.funcs (code_address content number block place) ≡ Some func.name

-- a call in a module whose bundle's entries have a form and a type, and of which each pointer is kept by a relocate of the group
pub record IsEntry (types : List Ty) (entries : List Operand) (group : List Line) (ty : Ty) (operand : Operand) : Type 0 where
  pub form : (is_first_class ty && is_value operand) ≡ true
  pub fits : Fits types operand ty
  pub kept : is_pointer ty ≡ true → is_kept entries group operand ≡ true

-- the locations that the map of a module has of such a call show its entries
abbrev pub BundlesAreLocated : Type 0
BundlesAreLocated = (content : ModuleContent) → length (constants_of content) < 2 ^ 32 → (number : ℕ) (func : Function) → slice_get content.funcs number ≡ Some func
    → (place : ℕ) (call : Instruction) → slice_get (instructions_of func.blocks) place ≡ Some call → is_statepoint call.op ≡ true → (types : List Ty) (group : List Line)
    → ((entry : Ty × Operand) → Contains call.bundle entry → IsEntry types (entries_of call) group entry.0 entry.1)
    → AllZip (λ each place. ShowsEntry call (flat_map relocated_pair group) (constants_of content) place each) call.bundle (deopt_places_of (constants_of content) call)
