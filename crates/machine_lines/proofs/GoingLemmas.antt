-- What a quiet line does, as a step of the machine.
use Rattle.std.proofs.Common.{◌≡◌, ℕ, suc, ◌+◌, true, false, List, [], ◌∷◌, map, drop, refl, sym, ap, subst, ◌∙◌}
use Rattle.std.specs.Prelude.{Option, Some, None, Result, Ok, is_some, slice_set, IfSome}
use Rattle.sp_ids.specs.declared.ends.Trap.{Trap}
use Rattle.ir_ast.specs.declared.cells.Cell.{Cell}
use Rattle.ir_ast.specs.declared.ops.Callee.TheVariants.{Check}
use Rattle.ir_ast.specs.declared.ops.Elem.{Elem}
use Rattle.ir_ast.specs.declared.ops.Op.{Op}
use Rattle.ir_ast.specs.declared.ops.Op.TheVariants.{Add, Sub, Mul, Udiv, Sdiv, Urem, Srem, And, Or, Xor, Shl, Lshr, Ashr, Icmp, Trunc, Zext, Sext, Select, Gep, Load, Store, Call}
use Rattle.ir_ast.specs.declared.types.Ty.{Ty}
use Rattle.ir_ast.specs.declared.types.Ty.TheVariants.{Int}
use Rattle.ir_ast.specs.Insts.{Instruction}
use Rattle.ir_ast.specs.Layouts.{ObjectLayout}
use Rattle.ir_ast.specs.Objects.{Datum, number}
use Rattle.moving_heap.specs.Heaps.{HeapView, checked, loaded, stored_at}
use Rattle.moving_heap.specs.Places.{owner}
use Rattle.object_meaning.specs.Accesses.{cell_named}
use Rattle.object_meaning.specs.Computing.{computed}
use Rattle.object_meaning.specs.Effects.{Effect, goes_on}
use Rattle.object_meaning.specs.Lines.{Line, following}
use Rattle.object_meaning.specs.Numbers.{width_of}
use Rattle.object_meaning.specs.Registers.{nothing, operand, number_in, put}
use Rattle.object_meaning.specs.Steps.{settled}
use Rattle.machine_meaning.specs.Machines.{Machine, Machinery, gone_behind, lifted}
use Rattle.machine_meaning.specs.MachineSteps.{checking, loading_word, machine_acts, machine_step, passes, storing_word, stepped_word}
use Rattle.machine_meaning.specs.Words.{worded_operand, worded_type}
use Rattle.machine_lines.specs.Decoding.{decoded_of, found_word, is_plain}
use Rattle.machine_lines.specs.Going.{Does, DoesLine, GoesOver, Passes, is_quiet, still, stood}
use Rattle.machine_lines.specs.Lines.{line_of, lines_left}
use Rattle.machine_lines.specs.declared.decoded.Decoded.{Decoded}
use Rattle.machine_lines.proofs.DecodeLemmas.{source_at_is}
use Rattle.machine_lines.proofs.WordLemmas.{put_is}
use Rattle.list_laws.proofs.Booleans.{first_true}

pub plain_acts : (machinery : Machinery) (machine : Machine) (line : Line) (rest : List Line) (op : Op) → is_plain op ≡ true
    → machine_acts machinery machine line rest op
    ≡ lifted machine (settled machine.state line rest (computed [] op line.inst.ty
    (operand machine.state.running.registers line.inst.operands 0) (operand machine.state.running.registers line.inst.operands 1) (operand machine.state.running.registers line.inst.operands 2)))
plain_acts machinery machine line rest Add e = refl
plain_acts machinery machine line rest Sub e = refl
plain_acts machinery machine line rest Mul e = refl
plain_acts machinery machine line rest Udiv e = refl
plain_acts machinery machine line rest Sdiv e = refl
plain_acts machinery machine line rest Urem e = refl
plain_acts machinery machine line rest Srem e = refl
plain_acts machinery machine line rest And e = refl
plain_acts machinery machine line rest Or e = refl
plain_acts machinery machine line rest Xor e = refl
plain_acts machinery machine line rest Shl e = refl
plain_acts machinery machine line rest Lshr e = refl
plain_acts machinery machine line rest Ashr e = refl
plain_acts machinery machine line rest (Icmp pred) e = refl
plain_acts machinery machine line rest (Trunc to) e = refl
plain_acts machinery machine line rest (Zext to) e = refl
plain_acts machinery machine line rest (Sext to) e = refl
plain_acts machinery machine line rest Select e = refl
plain_acts machinery machine line rest _ e = cc

plain_quiet : (op : Op) → is_plain op ≡ true → is_quiet op ≡ true
plain_quiet (Gep elem index_width place) e = refl
plain_quiet Load e = refl
plain_quiet Store e = refl
plain_quiet (Call callee types) e = cc
plain_quiet _ e = e

-- the operand of a line in a frame with these registers
abbrev pub held : List ℕ → Instruction → ℕ → Datum
held registers inst place = operand (map number registers) (map worded_operand inst.operands) place

module _ (layouts : List ObjectLayout) (inst : Instruction) (registers : List ℕ) (heap : HeapView) where
  pub number_does : (word : ℕ) → is_plain inst.op ≡ true
      → computed [] inst.op (worded_type inst.op inst.ty) (number (found_word registers (decoded_of inst).first)) (number (found_word registers (decoded_of inst).second))
      (number (found_word registers (decoded_of inst).third)) ≡ Ok (number word)
      → Does layouts inst registers heap word heap
  unfolding machine_step
  number_does word plain is = record { quiet = plain_quiet inst.op plain; goes = goes }
    where
      goes : (machinery : Machinery) (machine : Machine) (next : ℕ) (rest : List Instruction) → layouts ≡ machinery.setting.layouts
          → machine_step machinery (stood machine (lines_left next (inst ∷ rest)) (map number registers) heap)
          ≡ goes_on (stood machine (lines_left (following next inst) rest) (put (line_of next inst).to (number word) (map number registers)) heap)
      goes machinery machine next rest layouts_are =
          let now = stood machine (lines_left next (inst ∷ rest)) (map number registers) heap in
          let line = line_of next inst in let lines = lines_left (following next inst) rest in let ty = worded_type inst.op inst.ty in
          let first : Datum = number (found_word registers (decoded_of inst).first) in let second : Datum = number (found_word registers (decoded_of inst).second) in
          plain_acts machinery now line lines inst.op plain
          ∙ ap (λ (r : Result Datum Trap). lifted now (settled now.state line lines r))
          (ap (λ (a : Datum). computed [] inst.op ty a (held registers inst 1) (held registers inst 2)) (source_at_is registers inst.operands 0)
          ∙ ap (λ (b : Datum). computed [] inst.op ty first b (held registers inst 2)) (source_at_is registers inst.operands 1)
          ∙ ap (λ (d : Datum). computed [] inst.op ty first second d) (source_at_is registers inst.operands 2)
          ∙ is)

  pub numbers_do : (one : Decoded) (op : Op) (ty : Ty) (found : Option ℕ) → one ≡ decoded_of inst → op ≡ inst.op → ty ≡ inst.ty → IfSome found (λ word. one.plain ≡ true)
      → IfSome found (λ word. computed [] op (worded_type op ty) (number (found_word registers one.first)) (number (found_word registers one.second)) (number (found_word registers one.third)) ≡ Ok (number word))
      → IfSome found (λ word. Does layouts inst registers heap word heap)
  numbers_do one op ty None one_is op_is ty_is plain value = tt
  numbers_do one op ty (Some word) one_is op_is ty_is plain value =
      number_does word (first_true (is_plain inst.op) (is_some inst.result) (sym (ap (λ (d : Decoded). d.plain) one_is) ∙ plain)) (rw (one_is, op_is, ty_is) at value)

  pub load_does : (p word : ℕ) → inst.op ≡ Load → held registers inst 0 ≡ number p → Ok word ≡ loaded heap p → Does layouts inst registers heap word heap
  unfolding machine_step
  load_does p word is at_p found = record { quiet = ap is_quiet is; goes = goes }
    where
      goes : (machinery : Machinery) (machine : Machine) (next : ℕ) (rest : List Instruction) → layouts ≡ machinery.setting.layouts
          → machine_step machinery (stood machine (lines_left next (inst ∷ rest)) (map number registers) heap)
          ≡ goes_on (stood machine (lines_left (following next inst) rest) (put (line_of next inst).to (number word) (map number registers)) heap)
      goes machinery machine next rest layouts_are =
          let now = stood machine (lines_left next (inst ∷ rest)) (map number registers) heap in
          let line = line_of next inst in let lines = lines_left (following next inst) rest in
          ap (machine_acts machinery now line lines) is
          ∙ ap (λ (d : Datum). loading_word now line lines (loaded (still heap) (number_in d))) at_p
          ∙ ap (loading_word now line lines) (sym found)

  pub gep_does : (elem : Elem) (index_width : ℕ) (place : Option ℕ) (from index word : ℕ) → inst.op ≡ Gep elem index_width place → held registers inst 0 ≡ number from
      → held registers inst 1 ≡ number index → word ≡ stepped_word layouts elem (width_of (Int index_width)) place from index → Does layouts inst registers heap word heap
  unfolding machine_step
  gep_does elem index_width place from index word is one two word_is = record { quiet = ap is_quiet is; goes = goes }
    where
      goes : (machinery : Machinery) (machine : Machine) (next : ℕ) (rest : List Instruction) → layouts ≡ machinery.setting.layouts
          → machine_step machinery (stood machine (lines_left next (inst ∷ rest)) (map number registers) heap)
          ≡ goes_on (stood machine (lines_left (following next inst) rest) (put (line_of next inst).to (number word) (map number registers)) heap)
      goes machinery machine next rest layouts_are =
          let now = stood machine (lines_left next (inst ∷ rest)) (map number registers) heap in
          let line = line_of next inst in let lines = lines_left (following next inst) rest in let width = width_of (Int index_width) in
          let on : ℕ → Effect Machine = λ w. goes_on (passes now line lines w) in
          ap (machine_acts machinery now line lines) is
          ∙ ap on (ap (λ (d : Datum). stepped_word machinery.setting.layouts elem width place (number_in d) (number_in (held registers inst 1))) one
          ∙ ap (λ (d : Datum). stepped_word machinery.setting.layouts elem width place from (number_in d)) two
          ∙ ap (λ (ls : List ObjectLayout). stepped_word ls elem width place from index) (sym layouts_are)
          ∙ sym word_is)

  pub store_does : (p word old : ℕ) → inst.op ≡ Store → held registers inst 0 ≡ number word → held registers inst 1 ≡ number p → loaded heap p ≡ Ok old
      → Does layouts inst registers heap 0 (record heap { contents = stored_at heap.contents p word (owner heap.stands p) })
  unfolding machine_step
  store_does p word old is at_word at_p found = record { quiet = ap is_quiet is; goes = goes }
    where
      goes : (machinery : Machinery) (machine : Machine) (next : ℕ) (rest : List Instruction) → layouts ≡ machinery.setting.layouts
          → machine_step machinery (stood machine (lines_left next (inst ∷ rest)) (map number registers) heap)
          ≡ goes_on (stood machine (lines_left (following next inst) rest) (put (line_of next inst).to (number 0) (map number registers))
          (record heap { contents = stored_at heap.contents p word (owner heap.stands p) }))
      goes machinery machine next rest layouts_are =
          let now = stood machine (lines_left next (inst ∷ rest)) (map number registers) heap in
          let line = line_of next inst in let lines = lines_left (following next inst) rest in
          ap (machine_acts machinery now line lines) is
          ∙ ap (λ (d : Datum). storing_word now line lines (number_in d) (number_in (held registers inst 1)) (loaded (still heap) (number_in (held registers inst 1)))) at_word
          ∙ ap (λ (d : Datum). storing_word now line lines word (number_in d) (loaded (still heap) (number_in d))) at_p
          ∙ ap (storing_word now line lines word p) found

  pub check_does : (types : List Ty) (base p kind : ℕ) (cell : Cell) → inst.op ≡ Call Check types → held registers inst 0 ≡ number base → held registers inst 1 ≡ number p
      → held registers inst 2 ≡ number kind → cell ≡ cell_named kind → Ok tt ≡ checked heap base p cell → Does layouts inst registers heap 0 heap
  unfolding machine_step
  check_does types base p kind cell is at_base at_p at_kind cell_is found = record { quiet = ap is_quiet is; goes = goes }
    where
      goes : (machinery : Machinery) (machine : Machine) (next : ℕ) (rest : List Instruction) → layouts ≡ machinery.setting.layouts
          → machine_step machinery (stood machine (lines_left next (inst ∷ rest)) (map number registers) heap)
          ≡ goes_on (stood machine (lines_left (following next inst) rest) (put (line_of next inst).to (number 0) (map number registers)) heap)
      goes machinery machine next rest layouts_are =
          let now = stood machine (lines_left next (inst ∷ rest)) (map number registers) heap in
          let line = line_of next inst in let lines = lines_left (following next inst) rest in
          let with_all : Datum → Datum → Cell → Effect Machine = λ b q k. checking now (checked (still heap) (number_in b) (number_in q) k) in
          let runs : Op → Effect Machine = λ op. goes_on (record now { state = record now.state { running = gone_behind now.stack now.state.running line lines nothing op } }) in
          ap (machine_acts machinery now line lines) is
          ∙ ap (λ (b : Datum). with_all b (held registers inst 1) (cell_named (number_in (held registers inst 2)))) at_base
          ∙ ap (λ (q : Datum). with_all (number base) q (cell_named (number_in (held registers inst 2)))) at_p
          ∙ ap (with_all (number base) (number p)) (ap (λ (d : Datum). cell_named (number_in d)) at_kind ∙ sym cell_is)
          ∙ ap (checking now) (sym found)
          ∙ ap runs is

  -- a line with a result, which goes to a register that is there
  pub gives_line : (next word : ℕ) (more : List ℕ) (after : ℕ) → is_some inst.result ≡ true → Does layouts inst registers heap word heap → after ≡ next + 1 → more ≡ slice_set registers next word
      → DoesLine layouts inst next registers heap after more heap
  gives_line next word more after gives does after_is more_is = record { quiet = does.quiet; goes = goes }
    where
      following_is : following next inst ≡ after
      following_is = rw gives (sym after_is)

      to_is : (line_of next inst).to ≡ Some next
      to_is = rw gives refl

      goes : (machinery : Machinery) (machine : Machine) (rest : List Instruction) → layouts ≡ machinery.setting.layouts
          → machine_step machinery (stood machine (lines_left next (inst ∷ rest)) (map number registers) heap)
          ≡ goes_on (stood machine (lines_left after rest) (map number more) heap)
      goes machinery machine rest layouts_are =
          does.goes machinery machine next rest layouts_are
          ∙ ap (λ (n : ℕ). goes_on (stood machine (lines_left n rest) (put (line_of next inst).to (number word) (map number registers)) heap)) following_is
          ∙ ap (λ (to : Option ℕ). goes_on (stood machine (lines_left after rest) (put to (number word) (map number registers)) heap)) to_is
          ∙ ap (λ (rs : List Datum). goes_on (stood machine (lines_left after rest) rs heap)) (sym (ap (map number) more_is ∙ put_is (Some next) word registers))

  pub gives_lines : (next word : ℕ) (more : List ℕ) (found : Option ℕ) → is_some inst.result ≡ true → Does layouts inst registers heap word heap
      → IfSome found (λ after. (after ≡ next + 1) × (more ≡ slice_set registers next word)) → IfSome found (λ after. DoesLine layouts inst next registers heap after more heap)
  gives_lines next word more None gives does so = tt
  gives_lines next word more (Some after) gives does so = gives_line next word more after gives does so.0 so.1

  -- a line without one
  pub done_line : (next : ℕ) (later : HeapView) → is_some inst.result ≡ false → Does layouts inst registers heap 0 later → DoesLine layouts inst next registers heap next registers later
  done_line next later none does = record { quiet = does.quiet; goes = goes }
    where
      following_is : following next inst ≡ next
      following_is = rw none refl

      to_is : (line_of next inst).to ≡ None
      to_is = rw none refl

      goes : (machinery : Machinery) (machine : Machine) (rest : List Instruction) → layouts ≡ machinery.setting.layouts
          → machine_step machinery (stood machine (lines_left next (inst ∷ rest)) (map number registers) heap)
          ≡ goes_on (stood machine (lines_left next rest) (map number registers) later)
      goes machinery machine rest layouts_are =
          does.goes machinery machine next rest layouts_are
          ∙ ap (λ (n : ℕ). goes_on (stood machine (lines_left n rest) (put (line_of next inst).to (number 0) (map number registers)) later)) following_is
          ∙ ap (λ (to : Option ℕ). goes_on (stood machine (lines_left next rest) (put to (number 0) (map number registers)) later)) to_is

-- ---- one after another

pub goes_nowhere : (machinery : Machinery) (machine : Machine) → GoesOver machinery machine machine
goes_nowhere machinery machine = record { count = 0; often = refl }

pub goes_further : (machinery : Machinery) (first now new : Machine) → GoesOver machinery first now → Passes machinery now new → GoesOver machinery first new
goes_further machinery first now new over passes = record { count = suc over.count; often = (now, (over.often, passes)) }

-- one line more of a list
pub lines_further : (machinery : Machinery) (machine first : Machine) (layouts : List ObjectLayout) (next i after : ℕ) (insts : List Instruction) (inst : Instruction) (registers more : List ℕ)
    (heap later : HeapView) → layouts ≡ machinery.setting.layouts → drop i insts ≡ inst ∷ drop (i + 1) insts → DoesLine layouts inst next registers heap after more later
    → GoesOver machinery first (stood machine (lines_left next (drop i insts)) (map number registers) heap)
    → GoesOver machinery first (stood machine (lines_left after (drop (i + 1) insts)) (map number more) later)
lines_further machinery machine first layouts next i after insts inst registers more heap later layouts_are at does over =
    let rest = drop (i + 1) insts in
    goes_further machinery first (stood machine (lines_left next (inst ∷ rest)) (map number registers) heap) (stood machine (lines_left after rest) (map number more) later)
    (subst (λ (left : List Instruction). GoesOver machinery first (stood machine (lines_left next left) (map number registers) heap)) at over)
    (record { line = line_of next inst; rest = lines_left (following next inst) rest; stands = refl; quiet = does.quiet; goes = does.goes machinery machine rest layouts_are })
