-- A store behind its check: the machine takes the same step, and each cell holds what it is to hold.
use Rattle.std.proofs.Common.{◌≡◌, ℕ, ◌-◌, List, [], ◌∷◌, map, sym, ap, ◌∙◌, subst, Option, Some, None}
use Rattle.std.specs.Prelude.{Ok}
use Rattle.ir_ast.specs.declared.cells.Cell.{Cell}
use Rattle.ir_ast.specs.declared.cells.Cell.TheVariants.{I64, Ptr}
use Rattle.ir_ast.specs.declared.ops.Callee.TheVariants.{Check}
use Rattle.ir_ast.specs.declared.ops.Op.{Op}
use Rattle.ir_ast.specs.declared.ops.Op.TheVariants.{Call, Select, Store}
use Rattle.ir_ast.specs.declared.ops.Operand.{Operand}
use Rattle.ir_ast.specs.declared.types.Ty.{Ty}
use Rattle.ir_ast.specs.Cells.{type_of}
use Rattle.ir_ast.specs.Faults.GroupShape.{is_statepoint}
use Rattle.ir_ast.specs.Faults.PhiEdges.{is_phi}
use Rattle.ir_ast.specs.Layouts.{ObjectLayout}
use Rattle.ir_ast.specs.Modules.{ModuleContent}
use Rattle.ir_ast.specs.Objects.{Datum, Object, Pointer, number}
use Rattle.ir_ast.specs.Values.{value_types}
use Rattle.moving_heap.specs.Contents.{Content}
use Rattle.moving_heap.specs.Heaps.{loaded, stored_at}
use Rattle.moving_heap.specs.Places.{owner}
use Rattle.object_meaning.specs.Accesses.{accessed, cell_of, stored}
use Rattle.object_meaning.specs.Effects.{Effect, goes_on}
use Rattle.object_meaning.specs.Frames.{is_member, passed}
use Rattle.object_meaning.specs.Lines.{Line}
use Rattle.object_meaning.specs.Registers.{nothing, operand, value, number_in, pointer_in, put}
use Rattle.object_meaning.specs.States.{State, Setting}
use Rattle.object_meaning.specs.Steps.{accesses, acts, step, steps_at, storing}
use Rattle.pair_facts.specs.Lines.{line_before, lines_at, operand_at}
use Rattle.pair_facts.specs.Pairs.{after, given_pairs, with_given, without}
use Rattle.machine_meaning.specs.Machines.{Machine, Machinery}
use Rattle.moving_heap.specs.declared.stands.Stand.{Stand}
use Rattle.object_meaning.specs.Traces.{access_of, accesses_at, writes, writing}
use Rattle.object_meaning.proofs.AccessLaws.{cell_back}
use Rattle.machine_meaning.specs.Happenings.{access_by, accesses_by, owned}
use Rattle.machine_meaning.specs.MachineSteps.{machine_acts, machine_at, machine_step, passes, storing_word}
use Rattle.machine_meaning.specs.Words.{worded, worded_operand}
use Rattle.machine_meaning.specs.Relations.{addr, word_in}
use Rattle.moves_unseen.specs.Frames.{AreWords, IsGuarded}
use Rattle.moves_unseen.specs.Objects.{Holds, Loads}
use Rattle.moves_unseen.specs.States.{Extra, Follows, IsRelated, machine_of}
use Rattle.moves_unseen.specs.Steps.{IsCheckedBefore, IsStored, StepFollows, both_go}
use Rattle.moves_unseen.proofs.MemoryLaws.{load_is_access}
use Rattle.moves_unseen.proofs.PassLaws.{passes_is, with_words}
use Rattle.moves_unseen.proofs.StandLaws.{IsAlone, goes_behind}
use Rattle.moves_unseen.proofs.StoreLaws.{store_is_access}
use Rattle.moves_unseen.proofs.ValueLaws.{base_of_pair, same_number, value_at, word_at}

not_call : (types : List Ty) (op : Op) → op ≡ Store → op ≡ Call Check types → ⊥
not_call types op one other = cc

not_select : (op : Op) → op ≡ Store → op ≡ Select → ⊥
not_select op one other = cc

module _ (content : ModuleContent) (machinery : Machinery) (setting : Setting) (layouts_are : setting.layouts ≡ content.layouts) (state : State) (extra : Extra)
    (related : IsRelated content state extra) (line : Line) (rest : List Line) (is : state.running.rest ≡ line ∷ rest) (op_is : line.inst.op ≡ Store)
    (cell : Cell) (type_is : type_of cell ≡ line.inst.ty)
    (checked : IsCheckedBefore (lines_at related.running.func state.running.block) related.running.place state.running.registers (operand_at line.inst.operands 1) cell)
    (gives_none : line.to ≡ None) (fit : IsStored (value_types related.running.func) related.running.pairs (operand_at line.inst.operands 0) cell) where
  alone : IsAlone line
  alone = record { statepoint = ap is_statepoint op_is; member = ap is_member op_is; phi = ap is_phi op_is }

  abbrev machine : Machine
  machine = machine_of machinery state extra

  abbrev guard : IsGuarded content.layouts state.objects related.running.pairs state.running.registers checked.check
  guard = related.running.guarded checked.check checked.types checked.before checked.op

  abbrev to : Pointer
  to = pointer_in (value state.running.registers (operand_at line.inst.operands 1))

  abbrev word : ℕ
  word = word_in extra.running.words (operand_at line.inst.operands 1)

  abbrev datum : Datum
  datum = value state.running.registers (operand_at line.inst.operands 0)

  abbrev held : ℕ
  held = word_in extra.running.words (operand_at line.inst.operands 0)

  -- the address of the line is that of the check
  address_is : pointer_in (operand state.running.registers checked.check.inst.operands 1) ≡ to
  address_is = ap pointer_in (value_at state.running.registers checked.check.inst.operands 1 ∙ ap (value state.running.registers) checked.same_address)

  found : accessed content.layouts state.objects cell to ≡ Ok guard.place
  found =
      sym (ap (λ (asked : Cell). accessed content.layouts state.objects asked (pointer_in (operand state.running.registers checked.check.inst.operands 1))) checked.kind
      ∙ ap (accessed content.layouts state.objects cell) address_is) ∙ guard.accesses

  word_is : word ≡ addr extra.heap.stands to
  word_is =
      let pair = related.running.words.pointers (operand_at checked.check.inst.operands 1) (operand_at checked.check.inst.operands 0) guard.pair in
      ap (word_in extra.running.words) (sym checked.same_address) ∙ (pair.derived_is ∙ ap (λ (o : Operand). addr extra.heap.stands (pointer_in (value state.running.registers o))) checked.same_address)

  abbrev loads : Loads state.objects extra.heap cell word guard.place
  loads = load_is_access content.layouts state.objects extra.heap related.objects cell to word word_is guard.place found

  holds_by : (kind : Cell) → IsStored (value_types related.running.func) related.running.pairs (operand_at line.inst.operands 0) kind → Holds extra.heap.stands kind datum held
  holds_by I64 fits =
      same_number (value_types related.running.func) state.running.registers extra.running.words related.running.words.numbers (operand_at line.inst.operands 0) fits.ty fits.fits fits.plain
  holds_by Ptr own =
      base_of_pair extra.heap.stands (pointer_in datum) held (related.running.words.pointers (operand_at line.inst.operands 0) (operand_at line.inst.operands 0) own)

  abbrev next_objects : List Object
  next_objects = stored state.objects guard.place datum

  abbrev next_contents : List Content
  next_contents = stored_at extra.heap.contents word held (owner extra.heap.stands word)

  asked_is : cell_of line.inst.ty ≡ cell
  asked_is = ap cell_of (sym type_is) ∙ cell_back cell

  accesses_so : accesses setting state line 1 ≡ Ok guard.place
  accesses_so =
      ap (λ (layouts : List ObjectLayout). accessed layouts state.objects (cell_of line.inst.ty) (pointer_in (operand state.running.registers line.inst.operands 1))) layouts_are
      ∙ (ap (λ (asked : Cell). accessed content.layouts state.objects asked (pointer_in (operand state.running.registers line.inst.operands 1))) asked_is
      ∙ (ap (λ (d : Datum). accessed content.layouts state.objects cell (pointer_in d)) (value_at state.running.registers line.inst.operands 1) ∙ found))

  abbrev here : State
  here = record (passed state line rest nothing) { objects = next_objects }

  abbrev there : Machine
  there = record (passes machine (worded line) (map worded rest) 0) { heap = record extra.heap { contents = next_contents } }

  here_is : step setting state ≡ goes_on here
  unfolding step
  here_is =
      ap (steps_at setting state) is
      ∙ (ap (acts setting state line rest) op_is
      ∙ (ap (storing state line rest (operand state.running.registers line.inst.operands 0)) accesses_so
      ∙ ap (λ (d : Datum). goes_on (record (passed state line rest nothing) { objects = stored state.objects guard.place d })) (value_at state.running.registers line.inst.operands 0)))

  there_is : machine_step machinery machine ≡ goes_on there
  unfolding machine_step
  there_is =
      ap (machine_at machinery machine) (ap (map worded) is)
      ∙ (ap (machine_acts machinery machine (worded line) (map worded rest)) op_is
      ∙ (ap (λ (w : ℕ). storing_word machine (worded line) (map worded rest) (number_in (operand (map number extra.running.words) (map worded_operand line.inst.operands) 0)) w (loaded extra.heap w))
      (word_at extra.running.words line.inst.operands 1)
      ∙ (ap (λ (h : ℕ). storing_word machine (worded line) (map worded rest) h word (loaded extra.heap word)) (word_at extra.running.words line.inst.operands 0)
      ∙ ap (storing_word machine (worded line) (map worded rest) held word) loads.is)))

  abbrev next_extra : Extra
  next_extra = record (with_words extra (put line.to 0 extra.running.words)) { heap = record extra.heap { contents = next_contents } }

  made_so : there ≡ machine_of machinery here next_extra
  made_so = ap (λ (next : Machine). record next { heap = record extra.heap { contents = next_contents } }) (passes_is machinery state extra line rest nothing 0)

  words_after : AreWords extra.heap.stands (value_types related.running.func)
      (after related.running.pairs (line_before (lines_at related.running.func state.running.block) related.running.place) line)
      (put line.to nothing state.running.registers) (put line.to 0 extra.running.words)
  words_after =
      subst (λ (given : Option ℕ). AreWords extra.heap.stands (value_types related.running.func)
      (with_given given (λ value. given_pairs (without value related.running.pairs) (line_before (lines_at related.running.func state.running.block) related.running.place) line.inst line.inst.op value) related.running.pairs)
      (put given nothing state.running.registers) (put given 0 extra.running.words)) (sym gives_none) related.running.words

  follows_so : Follows content machinery here there
  follows_so = record {
    extra = next_extra;
    is = made_so;
    related = record {
      objects = store_is_access content.layouts state.objects extra.heap related.objects cell to word word_is guard.place found datum held (holds_by cell fit);
      settled = related.settled;
      running = goes_behind content state.objects extra.heap.stands state.running extra.running related.running line rest is alone
          (put line.to nothing state.running.registers) (put line.to 0 extra.running.words) next_objects words_after
          (λ types op. absurd (not_call types line.inst.op op_is op))
          (λ to_given op managed gives_to. absurd (not_select line.inst.op op_is op));
      below = related.below;
      tasks = related.tasks;
      await = related.await;
    };
  }

  -- related before, the machine steps as the target meaning, and related after
  pub store_follows : StepFollows content machinery (step setting state) (machine_step machinery (machine_of machinery state extra))
  store_follows =
      subst (λ (effect : Effect State). StepFollows content machinery effect (machine_step machinery machine)) (sym here_is)
      (subst (StepFollows content machinery (goes_on here)) (sym there_is) (both_go here there follows_so))

  -- and both see the same access
  pub store_seen : accesses_by machine machine.state.running.rest ≡ accesses_at setting state state.running.rest
  store_seen =
      ap (accesses_by machine) (ap (map worded) is)
      ∙ (ap (access_by machine (worded line)) op_is
      ∙ (ap (λ (w : ℕ). owned writes w (owner extra.heap.stands w) (loaded extra.heap w)) (word_at extra.running.words line.inst.operands 1)
      ∙ (ap (λ (o : Option Stand). owned writes word o (loaded extra.heap word)) loads.owned
      ∙ (ap (owned writes word (Some loads.own)) loads.is
      ∙ (ap (λ (n : ℕ). writes n (word - loads.own.address) ∷ []) loads.object
      ∙ (ap (λ (n : ℕ). writes guard.place.object n ∷ []) loads.offset
      ∙ (sym (ap writing accesses_so)
      ∙ (sym (ap (access_of setting state line) op_is) ∙ sym (ap (accesses_at setting state) is)))))))))
