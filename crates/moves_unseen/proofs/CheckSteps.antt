-- A check: the machine takes the same step, and the access behind it is one of a cell.
use Rattle.std.proofs.Common.{◌≡◌, ℕ, ◌*◌, ◌+◌, ◌%◌, ◌/◌, Bool, true, false, not, ◌||◌, List, ◌∷◌, length, get_or, map, refl, sym, ap, ◌∙◌, subst, cond, eqb, ltb, Option, Some, None, inl, inr}
use Rattle.std.specs.Prelude.{slice_get, Result, Ok, Err}
use Rattle.std.specs.Option.{option_map_or}
use Rattle.sp_ids.specs.declared.ends.End.TheVariants.{Trap as Trapped}
use Rattle.sp_ids.specs.declared.ends.Trap.{Trap}
use Rattle.sp_ids.specs.declared.ends.Trap.TheVariants.{Null, Bounds, Kind}
use Rattle.ir_ast.specs.declared.cells.Cell.{Cell}
use Rattle.ir_ast.specs.declared.cells.Cell.TheVariants.{I64}
use Rattle.ir_ast.specs.declared.ops.Callee.TheVariants.{Check}
use Rattle.ir_ast.specs.declared.ops.Op.{Op}
use Rattle.ir_ast.specs.declared.ops.Op.TheVariants.{Call, Select}
use Rattle.ir_ast.specs.declared.types.Ty.{Ty}
use Rattle.ir_ast.specs.Cells.{kind_of}
use Rattle.ir_ast.specs.Faults.GroupShape.{is_statepoint}
use Rattle.ir_ast.specs.Faults.PhiEdges.{is_phi}
use Rattle.ir_ast.specs.Layouts.{ObjectLayout}
use Rattle.ir_ast.specs.Modules.{ModuleContent}
use Rattle.ir_ast.specs.Objects.{Datum, Object, Pointer, number}
use Rattle.ir_ast.specs.Sizes.{fields_in}
use Rattle.ir_ast.specs.Values.{value_types}
use Rattle.moving_heap.specs.Heaps.{checked}
use Rattle.object_meaning.specs.Accesses.{Place, accessed, cell_named, within}
use Rattle.object_meaning.specs.Calls.{checked as checked_here}
use Rattle.object_meaning.specs.Effects.{Effect, goes_on, ends}
use Rattle.object_meaning.specs.Frames.{is_member, passed}
use Rattle.object_meaning.specs.Lines.{Line}
use Rattle.object_meaning.specs.Registers.{nothing, operand, value, number_in, pointer_in, put}
use Rattle.object_meaning.specs.States.{State, Setting}
use Rattle.object_meaning.specs.Steps.{acts, step, steps_at}
use Rattle.object_meaning.proofs.AccessLaws.{within_is}
use Rattle.pair_facts.specs.declared.bases.Base.TheVariants.{Named}
use Rattle.pair_facts.specs.Lines.{line_before, lines_at, operand_at}
use Rattle.pair_facts.specs.Pairs.{after, given_pairs, with_given, without}
use Rattle.machine_meaning.specs.Machines.{Machine, Machinery, gone_behind, gone_from, gone_on}
use Rattle.machine_meaning.specs.MachineSteps.{checking, denied, machine_acts, machine_at, machine_step, passes}
use Rattle.machine_meaning.specs.Words.{worded, worded_operand}
use Rattle.machine_meaning.specs.Relations.{check_of, deny_of, word_in, IsPair}
use Rattle.moves_unseen.specs.Frames.{AreWords, IsGuarded}
use Rattle.moves_unseen.specs.States.{Extra, Follows, IsRelated, machine_of}
use Rattle.moves_unseen.specs.Steps.{IsNumber, StepFollows, both_end, both_go}
use Rattle.moves_unseen.proofs.CellLaws.{access_of_none, access_of_object}
use Rattle.moves_unseen.proofs.MemoryLaws.{check_is_access}
use Rattle.moves_unseen.proofs.PassLaws.{pass_follows}
use Rattle.moves_unseen.proofs.StandLaws.{IsAlone}
use Rattle.moves_unseen.proofs.ValueLaws.{same_number, value_at, word_at}
use Rattle.machine_meaning.proofs.AddressLaws.{none_or}
use Rattle.moves_unseen.proofs.LastLaws.{last_of}

-- ---- the traps of accesses

pub data IsAccessTrap : Trap → Type 0 where
  null : IsAccessTrap Null
  bounds : IsAccessTrap Bounds
  kind : IsAccessTrap Kind

the_trap : (known trap : Trap) (found : Result Place Trap) → found ≡ Err known → found ≡ Err trap → known ≡ trap
the_trap known trap found one other = cc

by_tests : (past whole same : Bool) (made : Place) (trap : Trap) → cond (past || not whole) (Err Bounds) (cond same (Ok made) (Err Kind)) ≡ Err trap → IsAccessTrap trap
by_tests false true true made trap is = cc
by_tests false true false made trap is = let same : Kind ≡ trap = cc in subst IsAccessTrap same kind
by_tests false false same made trap is = let same : Bounds ≡ trap = cc in subst IsAccessTrap same bounds
by_tests true whole same made trap is = let same : Bounds ≡ trap = cc in subst IsAccessTrap same bounds

by_object : (layouts : List ObjectLayout) (asked : Cell) (to : Pointer) (found : Option Object) (trap : Trap)
    → option_map_or (λ object. within to (fields_in layouts object.layout) asked object.count) found (Err Null) ≡ Err trap → IsAccessTrap trap
by_object layouts asked to None trap is = let same : Null ≡ trap = cc in subst IsAccessTrap same null
by_object layouts asked to (Some object) trap is =
    let fields = fields_in layouts object.layout in
    by_tests (ltb (object.count * (8 * length (fields_in layouts object.layout))) (to.offset + 8)) (eqb (to.offset % 8) 0)
    (eqb (kind_of (get_or (fields_in layouts object.layout) (to.offset / 8 % length (fields_in layouts object.layout)) I64)) (kind_of asked))
    (record { object = to.object; offset = to.offset; cell = to.offset / 8 }) trap (sym (within_is to (fields_in layouts object.layout) asked object.count) ∙ is)

pub access_trap : (layouts : List ObjectLayout) (objects : List Object) (asked : Cell) (to : Pointer) (trap : Trap) → accessed layouts objects asked to ≡ Err trap → IsAccessTrap trap
access_trap layouts objects asked to trap is =
    elim (none_or to.object) [
      | inl none ↦ subst IsAccessTrap (the_trap Null trap (accessed layouts objects asked to) (access_of_none layouts objects asked to none) is) null
      | inr some ↦ by_object layouts asked to (slice_get objects some.0) trap (sym (access_of_object layouts objects asked to some.0 (slice_get objects some.0) some.1 refl) ∙ is)
    ]

pub denied_so : (machine : Machine) (trap : Trap) → IsAccessTrap trap → denied machine (deny_of trap) ≡ ends (Trapped trap) machine
denied_so machine _ null = refl
denied_so machine _ bounds = refl
denied_so machine _ kind = refl

-- ---- the step

not_select : (types : List Ty) (op : Op) → op ≡ Call Check types → op ≡ Select → ⊥
not_select types op one other = cc

module _ (content : ModuleContent) (machinery : Machinery) (setting : Setting) (layouts_are : setting.layouts ≡ content.layouts) (state : State) (extra : Extra)
    (related : IsRelated content state extra) (line : Line) (rest : List Line) (is : state.running.rest ≡ line ∷ rest)
    (types : List Ty) (op_is : line.inst.op ≡ Call Check types) (gives_none : line.to ≡ None) (named_kind : IsNumber (value_types related.running.func) (operand_at line.inst.operands 2))
    (pair : related.running.pairs (operand_at line.inst.operands 1) (Named (operand_at line.inst.operands 0)) ≡ true) where
  alone : IsAlone line
  alone = record { statepoint = ap is_statepoint op_is; member = ap is_member op_is; phi = ap is_phi op_is }

  abbrev asked : Cell
  asked = cell_named (number_in (operand state.running.registers line.inst.operands 2))

  abbrev to : Pointer
  to = pointer_in (operand state.running.registers line.inst.operands 1)

  abbrev machine : Machine
  machine = machine_of machinery state extra

  here_is : step setting state ≡ checked_here state (passed state line rest) (accessed content.layouts state.objects asked to)
  unfolding step
  here_is =
      ap (steps_at setting state) is
      ∙ (ap (acts setting state line rest) op_is
      ∙ ap (λ (layouts : List ObjectLayout). checked_here state (passed state line rest) (accessed layouts state.objects asked to)) layouts_are)

  same_kind : number_in (operand (map number extra.running.words) (map worded_operand line.inst.operands) 2) ≡ number_in (operand state.running.registers line.inst.operands 2)
  same_kind =
      word_at extra.running.words line.inst.operands 2
      ∙ (same_number (value_types related.running.func) state.running.registers extra.running.words related.running.words.numbers
      (operand_at line.inst.operands 2) named_kind.ty named_kind.fits named_kind.plain
      ∙ sym (ap number_in (value_at state.running.registers line.inst.operands 2)))

  pair_is : IsPair extra.heap.stands to (pointer_in (operand state.running.registers line.inst.operands 0))
      (number_in (operand (map number extra.running.words) (map worded_operand line.inst.operands) 1)) (number_in (operand (map number extra.running.words) (map worded_operand line.inst.operands) 0))
  pair_is =
      subst (λ (d : Datum). IsPair extra.heap.stands (pointer_in d) (pointer_in (operand state.running.registers line.inst.operands 0))
      (number_in (operand (map number extra.running.words) (map worded_operand line.inst.operands) 1)) (number_in (operand (map number extra.running.words) (map worded_operand line.inst.operands) 0)))
      (sym (value_at state.running.registers line.inst.operands 1))
      (subst (λ (d : Datum). IsPair extra.heap.stands (pointer_in (value state.running.registers (operand_at line.inst.operands 1))) (pointer_in d)
      (number_in (operand (map number extra.running.words) (map worded_operand line.inst.operands) 1)) (number_in (operand (map number extra.running.words) (map worded_operand line.inst.operands) 0)))
      (sym (value_at state.running.registers line.inst.operands 0))
      (subst (λ (w : ℕ). IsPair extra.heap.stands (pointer_in (value state.running.registers (operand_at line.inst.operands 1))) (pointer_in (value state.running.registers (operand_at line.inst.operands 0)))
      w (number_in (operand (map number extra.running.words) (map worded_operand line.inst.operands) 0)))
      (sym (word_at extra.running.words line.inst.operands 1))
      (subst (λ (w : ℕ). IsPair extra.heap.stands (pointer_in (value state.running.registers (operand_at line.inst.operands 1))) (pointer_in (value state.running.registers (operand_at line.inst.operands 0)))
      (word_in extra.running.words (operand_at line.inst.operands 1)) w)
      (sym (word_at extra.running.words line.inst.operands 0))
      (related.running.words.pointers (operand_at line.inst.operands 1) (operand_at line.inst.operands 0) pair))))

  there_is : machine_step machinery machine ≡ checking machine (check_of (accessed content.layouts state.objects asked to))
  unfolding machine_step
  there_is =
      ap (machine_at machinery machine) (ap (map worded) is)
      ∙ (ap (machine_acts machinery machine (worded line) (map worded rest)) op_is
      ∙ (ap (λ (n : ℕ). checking machine (checked extra.heap (number_in (operand (map number extra.running.words) (map worded_operand line.inst.operands) 0))
      (number_in (operand (map number extra.running.words) (map worded_operand line.inst.operands) 1)) (cell_named n))) same_kind
      ∙ ap (checking machine) (check_is_access content.layouts state.objects extra.heap related.objects asked to (pointer_in (operand state.running.registers line.inst.operands 0))
      (number_in (operand (map number extra.running.words) (map worded_operand line.inst.operands) 1)) (number_in (operand (map number extra.running.words) (map worded_operand line.inst.operands) 0)) pair_is)))

  gone_is : gone_on nothing machine ≡ passes machine (worded line) (map worded rest) 0
  gone_is =
      ap (λ (lines : List Line). record machine { state = record machine.state { running = gone_from machine.stack machine.state.running lines nothing } }) (ap (map worded) is)
      ∙ ap (λ (op : Op). record machine { state = record machine.state { running = gone_behind machine.stack machine.state.running (worded line) (map worded rest) nothing op } }) op_is

  pairs_after : after related.running.pairs (line_before (lines_at related.running.func state.running.block) related.running.place) line ≡ related.running.pairs
  pairs_after =
      ap (λ (given : Option ℕ). with_given given (λ value. given_pairs (without value related.running.pairs) (line_before (lines_at related.running.func state.running.block) related.running.place) line.inst line.inst.op value) related.running.pairs) gives_none

  registers_after : put line.to nothing state.running.registers ≡ state.running.registers
  registers_after = ap (λ (given : Option ℕ). put given nothing state.running.registers) gives_none

  passes_so : (place : Place) → accessed content.layouts state.objects asked to ≡ Ok place → Follows content machinery (passed state line rest nothing) (passes machine (worded line) (map worded rest) 0)
  passes_so place found =
      pass_follows content machinery state extra related line rest is alone nothing 0
      (subst (λ pairs. AreWords extra.heap.stands (value_types related.running.func) pairs (put line.to nothing state.running.registers) (put line.to 0 extra.running.words)) (sym pairs_after)
      (subst (λ (given : Option ℕ). AreWords extra.heap.stands (value_types related.running.func) related.running.pairs (put given nothing state.running.registers) (put given 0 extra.running.words)) (sym gives_none)
      related.running.words))
      (λ again op.
      subst (λ pairs. IsGuarded content.layouts state.objects pairs (put line.to nothing state.running.registers) line) (sym pairs_after)
      (subst (λ (registers : List Datum). IsGuarded content.layouts state.objects related.running.pairs registers line) (sym registers_after)
      (record { place = place; accesses = found; pair = pair })))
      (λ given op managed gives. absurd (not_select types line.inst.op op_is op))

  by_access : (found : Result Place Trap) → accessed content.layouts state.objects asked to ≡ found
      → StepFollows content machinery (checked_here state (passed state line rest) found) (checking machine (check_of found))
  by_access (Ok place) is_so =
      subst (λ (next : Machine). StepFollows content machinery (goes_on (passed state line rest nothing)) (goes_on next)) (sym gone_is)
      (both_go (passed state line rest nothing) (passes machine (worded line) (map worded rest) 0) (passes_so place is_so))
  by_access (Err trap) is_so =
      subst (StepFollows content machinery (ends (Trapped trap) state)) (sym (denied_so machine trap (access_trap content.layouts state.objects asked to trap is_so)))
      (both_end (Trapped trap) state machine (last_of content machinery state extra related))

  -- related before, the machine steps as the target meaning, and related after
  pub check_follows : StepFollows content machinery (step setting state) (machine_step machinery (machine_of machinery state extra))
  check_follows =
      subst (λ (here : Effect State). StepFollows content machinery here (machine_step machinery machine)) (sym here_is)
      (subst (StepFollows content machinery (checked_here state (passed state line rest) (accessed content.layouts state.objects asked to))) (sym there_is)
      (by_access (accessed content.layouts state.objects asked to) refl))
