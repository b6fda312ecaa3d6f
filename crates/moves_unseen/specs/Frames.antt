-- A frame of the target meaning and its words in the machine. Nothing is asked of a pointer without a pair.
use Rattle.std.specs.Prelude.{◌≡◌, ℕ, ◌+◌, true, false, if◌then◌else◌, List, [], ◌∷◌, length, drop, map, Some, slice_get, slice_index, slice_index_or, Ok}
use Rattle.std.specs.List.{filter, flat_map}
use Rattle.ir_ast.specs.declared.types.Ty.{Ty}
use Rattle.ir_ast.specs.declared.ops.Callee.TheVariants.{Check}
use Rattle.ir_ast.specs.declared.ops.Operand.{Operand}
use Rattle.ir_ast.specs.declared.ops.Op.TheVariants.{Call, Select}
use Rattle.ir_ast.specs.Layouts.{ObjectLayout}
use Rattle.ir_ast.specs.Types.{is_pointer}
use Rattle.ir_ast.specs.Values.{value_types}
use Rattle.ir_ast.specs.Funcs.{Function}
use Rattle.ir_ast.specs.Insts.{Instruction}
use Rattle.ir_ast.specs.Modules.{ModuleContent}
use Rattle.ir_ast.specs.Objects.{Datum, Object}
use Rattle.ir_ast.specs.Faults.GroupShape.{entries_of, is_statepoint}
use Rattle.moving_heap.specs.declared.stands.Stand.{Stand}
use Rattle.frame_walk.specs.Maps.{Pair}
use Rattle.frame_forms.specs.FrameSizes.{frame_words, is_named_integer}
use Rattle.object_meaning.specs.Accesses.{Place, accessed, cell_named}
use Rattle.object_meaning.specs.Lines.{Line}
use Rattle.object_meaning.specs.Numbers.{width_of, sign_extended}
use Rattle.object_meaning.specs.Registers.{nothing, value, operand, is_set, number_in, pointer_in}
use Rattle.object_meaning.specs.States.{Frame}
use Rattle.pair_facts.specs.declared.bases.Base.TheVariants.{Named}
use Rattle.pair_facts.specs.Lines.{named, lines_at, line_before, operand_at, is_relocate, group_in}
use Rattle.pair_facts.specs.Pairs.{Pairs, base_index, derived_index, is_named}
use Rattle.pair_facts.specs.Paths.{At}
use Rattle.machine_meaning.specs.Relations.{word_in, IsPair, AreSlots}

-- what the machine has of a frame: a word for each register, and the words of the frame on the stack
pub record FrameWords : Type 0 where
  pub words : List ℕ
  pub slots : List ℕ

-- a value that is no pointer is the same
abbrev pub AreNumbers : List Ty → List Datum → List ℕ → Type 0
AreNumbers types registers words = (value : ℕ) (ty : Ty) → slice_get types value ≡ Some ty → is_pointer ty ≡ false
    → slice_index words value ≡ number_in (slice_index_or registers value nothing)

-- the registers of a frame as words
pub record AreWords (stands : List Stand) (types : List Ty) (pairs : Pairs) (registers : List Datum) (words : List ℕ) : Type 0 where
  pub registers_count : length registers ≡ length types
  pub words_count : length words ≡ length types
  pub numbers : AreNumbers types registers words
  -- where a pair with a named base stands, both have one object or none has one, the base has the offset 0, and the words
  -- are their addresses
  pub pointers : (derived base : Operand) → pairs derived (Named base) ≡ true
      → IsPair stands (pointer_in (value registers derived)) (pointer_in (value registers base)) (word_in words derived) (word_in words base)

-- a frame stands before a place of its block, and a path leads there with these pairs
pub record StandsAt (content : ModuleContent) (frame : Frame) (func : Function) (place : ℕ) (pairs : Pairs) : Type 0 where
  pub defined : slice_get content.funcs frame.func ≡ Some func
  pub arrived : At func frame.block place pairs
  pub rest : frame.rest ≡ drop place (lines_at func frame.block)

-- behind a check: its access is one of a cell, and its address and base are a pair
pub record IsGuarded (layouts : List ObjectLayout) (objects : List Object) (pairs : Pairs) (registers : List Datum) (check : Line) : Type 0 where
  pub place : Place
  pub accesses : accessed layouts objects (cell_named (number_in (operand registers check.inst.operands 2)))
      (pointer_in (operand registers check.inst.operands 1)) ≡ Ok place
  pub pair : pairs (operand_at check.inst.operands 1) (Named (operand_at check.inst.operands 0)) ≡ true

-- which operand a select's condition chooses
abbrev pub chosen_place : List Datum → Line → ℕ
chosen_place registers select = if is_set (operand registers select.inst.operands 0) then 1 else 2

-- behind a select: its value is that of the operand chosen, where this isn't the value itself
pub record IsChosen (registers : List Datum) (words : List ℕ) (select : Line) (to : ℕ) : Type 0 where
  pub value : is_named to (operand_at select.inst.operands (chosen_place registers select)) ≡ false
      → value registers (named to) ≡ value registers (operand_at select.inst.operands (chosen_place registers select))
  pub word : is_named to (operand_at select.inst.operands (chosen_place registers select)) ≡ false
      → word_in words (named to) ≡ word_in words (operand_at select.inst.operands (chosen_place registers select))

-- the running frame, before the line at which it stands
pub record IsRunning (content : ModuleContent) (objects : List Object) (stands : List Stand) (frame : Frame) (held : FrameWords) : Type 0 where
  pub func : Function
  pub place : ℕ
  pub pairs : Pairs
  pub at : StandsAt content frame func place pairs
  pub words : AreWords stands (value_types func) pairs frame.registers held.words
  pub slots : length held.slots ≡ frame_words func
  pub guarded : (check : Line) (types : List Ty) → line_before (lines_at func frame.block) place ≡ Some check
      → check.inst.op ≡ Call Check types → IsGuarded content.layouts objects pairs frame.registers check
  pub chosen : (select : Line) (to : ℕ) → line_before (lines_at func frame.block) place ≡ Some select → select.inst.op ≡ Select
      → is_pointer select.inst.ty ≡ true → select.to ≡ Some to → IsChosen frame.registers held.words select to

-- ---- frames that wait

-- the base entry and the derived entry of a relocate
abbrev pub relocated_pair : Line → List Pair
relocated_pair line = if is_relocate line.inst.op then record { base = base_index line; derived = derived_index line } ∷ [] else []

abbrev pub group_pairs : List Line → ℕ → List Pair
group_pairs lines head = flat_map relocated_pair (group_in lines head)

-- the integers that the bundle of a call names, sign-extended, lie behind its live entries, so that the slots show what the
-- frame keeps of its bundle: a pointer of a bundle is an entry of a pair, and a literal has no slot
abbrev pub AreKept : List Datum → Instruction → List ℕ → Type 0
AreKept registers call slots = (place : ℕ) (entry : Ty × Operand)
    → slice_get (filter (λ entry. is_named_integer entry.0 entry.1) call.bundle) place ≡ Some entry
    → slice_index slots (length (entries_of call) + place) ≡ sign_extended (width_of entry.0) 64 (number_in (value registers entry.1))

-- a frame that waits stands at its statepoint, whose live entries are in its slots: each pair of its group has there the words
-- of the base entry and of the derived entry. Its registers hold what they held
pub record IsWaiting (content : ModuleContent) (stands : List Stand) (frame : Frame) (held : FrameWords) : Type 0 where
  pub func : Function
  pub place : ℕ
  pub pairs : Pairs
  pub at : StandsAt content frame func place pairs
  pub call : Line
  pub is : slice_get (lines_at func frame.block) place ≡ Some call
  pub statepoint : is_statepoint call.inst.op ≡ true
  pub registers_count : length frame.registers ≡ length (value_types func)
  pub words_count : length held.words ≡ length (value_types func)
  pub numbers : AreNumbers (value_types func) frame.registers held.words
  pub room : length held.slots ≡ frame_words func
  pub slots : AreSlots stands (map (λ entry. pointer_in (value frame.registers entry)) (entries_of call.inst)) held.slots
      (group_pairs (lines_at func frame.block) place)
  pub bundle : AreKept frame.registers call.inst held.slots
