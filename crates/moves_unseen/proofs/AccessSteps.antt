-- A load and a store behind their check: the machine takes the same step, and never ends in poison.
use Rattle.std.proofs.Common.{◌≡◌, ℕ, ◌-◌, Bool, true, ◌&&◌, List, [], ◌∷◌, map, sym, ap, ◌∙◌, subst, Option, Some}
use Rattle.std.specs.Prelude.{slice_get, Ok}
use Rattle.ir_ast.specs.declared.cells.Cell.{Cell}
use Rattle.ir_ast.specs.declared.cells.Cell.TheVariants.{I64, Ptr}
use Rattle.ir_ast.specs.declared.ops.Callee.TheVariants.{Check}
use Rattle.ir_ast.specs.declared.ops.Op.{Op}
use Rattle.ir_ast.specs.declared.ops.Op.TheVariants.{Call, Load, Select}
use Rattle.ir_ast.specs.declared.ops.Operand.{Operand}
use Rattle.ir_ast.specs.declared.types.Ty.{Ty}
use Rattle.ir_ast.specs.Cells.{type_of}
use Rattle.ir_ast.specs.Faults.GroupShape.{is_statepoint}
use Rattle.ir_ast.specs.Faults.PhiEdges.{is_phi}
use Rattle.ir_ast.specs.Layouts.{ObjectLayout}
use Rattle.ir_ast.specs.Modules.{ModuleContent}
use Rattle.ir_ast.specs.Objects.{Datum, Pointer}
use Rattle.ir_ast.specs.Types.{is_pointer}
use Rattle.ir_ast.specs.Values.{value_types}
use Rattle.moving_heap.specs.Heaps.{loaded}
use Rattle.moving_heap.specs.Places.{owner}
use Rattle.object_meaning.specs.Accesses.{accessed, cell_of}
use Rattle.object_meaning.specs.Accesses.{loaded as datum_at}
use Rattle.object_meaning.specs.Effects.{Effect, goes_on}
use Rattle.object_meaning.specs.Frames.{is_member, passed}
use Rattle.object_meaning.specs.Lines.{Line}
use Rattle.object_meaning.specs.Registers.{operand, value, pointer_in, put}
use Rattle.object_meaning.specs.States.{State, Setting}
use Rattle.object_meaning.specs.Steps.{accesses, acts, loading, step, steps_at}
use Rattle.pair_facts.specs.declared.bases.Base.TheVariants.{Named}
use Rattle.pair_facts.specs.Lines.{line_before, lines_at, operand_at}
use Rattle.pair_facts.specs.Pairs.{after, given_pairs, own_pairs, with_given, without}
use Rattle.machine_meaning.specs.Machines.{Machine, Machinery}
use Rattle.moving_heap.specs.declared.stands.Stand.{Stand}
use Rattle.object_meaning.specs.Traces.{access_of, accesses_at, reading, reads}
use Rattle.object_meaning.proofs.AccessLaws.{cell_back}
use Rattle.machine_meaning.specs.Happenings.{access_by, accesses_by, owned}
use Rattle.machine_meaning.specs.MachineSteps.{loading_word, machine_acts, machine_at, machine_step, passes}
use Rattle.machine_meaning.specs.Words.{worded}
use Rattle.machine_meaning.specs.Relations.{addr, word_in}
use Rattle.moves_unseen.specs.Frames.{AreWords, IsGuarded}
use Rattle.moves_unseen.specs.Objects.{Holds, Loads}
use Rattle.moves_unseen.specs.States.{Extra, IsRelated, machine_of}
use Rattle.moves_unseen.specs.Steps.{IsCheckedBefore, StepFollows, both_go}
use Rattle.moves_unseen.proofs.MemoryLaws.{load_is_access}
use Rattle.moves_unseen.proofs.PassLaws.{pass_follows}
use Rattle.moves_unseen.proofs.StandLaws.{IsAlone}
use Rattle.moves_unseen.proofs.ValueLaws.{base_given, number_given, value_at, word_at}

not_call : (types : List Ty) (op : Op) → op ≡ Load → op ≡ Call Check types → ⊥
not_call types op one other = cc

not_select : (op : Op) → op ≡ Load → op ≡ Select → ⊥
not_select op one other = cc

module _ (content : ModuleContent) (machinery : Machinery) (setting : Setting) (layouts_are : setting.layouts ≡ content.layouts) (state : State) (extra : Extra)
    (related : IsRelated content state extra) (line : Line) (rest : List Line) (is : state.running.rest ≡ line ∷ rest) (op_is : line.inst.op ≡ Load)
    (cell : Cell) (type_is : type_of cell ≡ line.inst.ty)
    (checked : IsCheckedBefore (lines_at related.running.func state.running.block) related.running.place state.running.registers (operand_at line.inst.operands 0) cell)
    (given : ℕ) (gives : line.to ≡ Some given) (typed : slice_get (value_types related.running.func) given ≡ Some line.inst.ty) where
  alone : IsAlone line
  alone = record { statepoint = ap is_statepoint op_is; member = ap is_member op_is; phi = ap is_phi op_is }

  abbrev machine : Machine
  machine = machine_of machinery state extra

  abbrev guard : IsGuarded content.layouts state.objects related.running.pairs state.running.registers checked.check
  guard = related.running.guarded checked.check checked.types checked.before checked.op

  abbrev to : Pointer
  to = pointer_in (value state.running.registers (operand_at line.inst.operands 0))

  abbrev word : ℕ
  word = word_in extra.running.words (operand_at line.inst.operands 0)

  -- the address of the line is that of the check
  address_is : pointer_in (operand state.running.registers checked.check.inst.operands 1) ≡ to
  address_is = ap pointer_in (value_at state.running.registers checked.check.inst.operands 1 ∙ ap (value state.running.registers) checked.same_address)

  found : accessed content.layouts state.objects cell to ≡ Ok guard.place
  found =
      sym (ap (λ (asked : Cell). accessed content.layouts state.objects asked (pointer_in (operand state.running.registers checked.check.inst.operands 1))) checked.kind
      ∙ ap (accessed content.layouts state.objects cell) address_is) ∙ guard.accesses

  word_is : word ≡ addr extra.heap.stands to
  word_is =
      let pair = related.running.words.pointers (operand_at checked.check.inst.operands 1) (operand_at checked.check.inst.operands 0) guard.pair in
      ap (word_in extra.running.words) (sym checked.same_address) ∙ (pair.derived_is ∙ ap (λ (o : Operand). addr extra.heap.stands (pointer_in (value state.running.registers o))) checked.same_address)

  abbrev loads : Loads state.objects extra.heap cell word guard.place
  loads = load_is_access content.layouts state.objects extra.heap related.objects cell to word word_is guard.place found

  abbrev datum : Datum
  datum = datum_at state.objects guard.place

  asked_is : cell_of line.inst.ty ≡ cell
  asked_is = ap cell_of (sym type_is) ∙ cell_back cell

  accesses_so : accesses setting state line 0 ≡ Ok guard.place
  accesses_so =
      ap (λ (layouts : List ObjectLayout). accessed layouts state.objects (cell_of line.inst.ty) (pointer_in (operand state.running.registers line.inst.operands 0))) layouts_are
      ∙ (ap (λ (asked : Cell). accessed content.layouts state.objects asked (pointer_in (operand state.running.registers line.inst.operands 0))) asked_is
      ∙ (ap (λ (d : Datum). accessed content.layouts state.objects cell (pointer_in d)) (value_at state.running.registers line.inst.operands 0) ∙ found))

  here_is : step setting state ≡ goes_on (passed state line rest datum)
  unfolding step
  here_is = ap (steps_at setting state) is ∙ (ap (acts setting state line rest) op_is ∙ ap (loading state line rest) accesses_so)

  there_is : machine_step machinery machine ≡ goes_on (passes machine (worded line) (map worded rest) loads.held)
  unfolding machine_step
  there_is =
      ap (machine_at machinery machine) (ap (map worded) is)
      ∙ (ap (machine_acts machinery machine (worded line) (map worded rest)) op_is
      ∙ (ap (λ (w : ℕ). loading_word machine (worded line) (map worded rest) (loaded extra.heap w)) (word_at extra.running.words line.inst.operands 0)
      ∙ ap (loading_word machine (worded line) (map worded rest)) loads.is))

  -- by the cell's kind
  words_given : (kind : Cell) → type_of kind ≡ line.inst.ty → Holds extra.heap.stands kind datum loads.held
      → AreWords extra.heap.stands (value_types related.running.func)
      (with_given (Some given) (λ value. given_pairs (without value related.running.pairs) (line_before (lines_at related.running.func state.running.block) related.running.place) line.inst Load value) related.running.pairs)
      (put (Some given) datum state.running.registers) (put (Some given) loads.held extra.running.words)
  words_given I64 ty_is holds =
      number_given extra.heap.stands (value_types related.running.func) related.running.pairs state.running.registers extra.running.words given line.inst.ty related.running.words typed
      datum loads.held holds
      (given_pairs (without given related.running.pairs) (line_before (lines_at related.running.func state.running.block) related.running.place) line.inst Load given)
      (λ base. ap (λ (ty : Ty). is_pointer ty && own_pairs given (Named base)) (sym ty_is))
  words_given Ptr ty_is holds =
      let managed : is_pointer line.inst.ty ≡ true = ap is_pointer (sym ty_is) in
      subst (λ (b : Bool). AreWords extra.heap.stands (value_types related.running.func)
      (with_given (Some given) (λ value base. b && own_pairs value base) related.running.pairs)
      (put (Some given) datum state.running.registers) (put (Some given) loads.held extra.running.words)) (sym managed)
      (base_given extra.heap.stands (value_types related.running.func) related.running.pairs state.running.registers extra.running.words given line.inst.ty related.running.words typed
      datum loads.held managed holds)

  words_after : AreWords extra.heap.stands (value_types related.running.func)
      (after related.running.pairs (line_before (lines_at related.running.func state.running.block) related.running.place) line)
      (put line.to datum state.running.registers) (put line.to loads.held extra.running.words)
  words_after =
      subst (λ (op : Op). AreWords extra.heap.stands (value_types related.running.func)
      (with_given line.to (λ value. given_pairs (without value related.running.pairs) (line_before (lines_at related.running.func state.running.block) related.running.place) line.inst op value) related.running.pairs)
      (put line.to datum state.running.registers) (put line.to loads.held extra.running.words)) (sym op_is)
      (subst (λ (to_given : Option ℕ). AreWords extra.heap.stands (value_types related.running.func)
      (with_given to_given (λ value. given_pairs (without value related.running.pairs) (line_before (lines_at related.running.func state.running.block) related.running.place) line.inst Load value) related.running.pairs)
      (put to_given datum state.running.registers) (put to_given loads.held extra.running.words)) (sym gives)
      (words_given cell type_is loads.holds))

  -- related before, the machine steps as the target meaning, and related after
  pub load_follows : StepFollows content machinery (step setting state) (machine_step machinery (machine_of machinery state extra))
  load_follows =
      subst (λ (here : Effect State). StepFollows content machinery here (machine_step machinery machine)) (sym here_is)
      (subst (StepFollows content machinery (goes_on (passed state line rest datum))) (sym there_is)
      (both_go (passed state line rest datum) (passes machine (worded line) (map worded rest) loads.held)
      (pass_follows content machinery state extra related line rest is alone datum loads.held words_after
      (λ types op. absurd (not_call types line.inst.op op_is op))
      (λ to_given op managed gives_to. absurd (not_select line.inst.op op_is op)))))

  -- and both see the same access
  pub load_seen : accesses_by machine machine.state.running.rest ≡ accesses_at setting state state.running.rest
  load_seen =
      ap (accesses_by machine) (ap (map worded) is)
      ∙ (ap (access_by machine (worded line)) op_is
      ∙ (ap (λ (w : ℕ). owned reads w (owner extra.heap.stands w) (loaded extra.heap w)) (word_at extra.running.words line.inst.operands 0)
      ∙ (ap (λ (o : Option Stand). owned reads word o (loaded extra.heap word)) loads.owned
      ∙ (ap (owned reads word (Some loads.own)) loads.is
      ∙ (ap (λ (n : ℕ). reads n (word - loads.own.address) ∷ []) loads.object
      ∙ (ap (λ (n : ℕ). reads guard.place.object n ∷ []) loads.offset
      ∙ (sym (ap reading accesses_so)
      ∙ (sym (ap (access_of setting state line) op_is) ∙ sym (ap (accesses_at setting state) is)))))))))
