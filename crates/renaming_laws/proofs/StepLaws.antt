-- One step of a run, and the one or two steps that the run of the images takes for it.
use Rattle.std.proofs.Common.{◌≡◌, ◌⊎◌, inl, inr, ℕ, zero, suc, ◌+◌, ◌<◌, ◌≤◌, Bool, true, false, not, if◌then◌else◌, List, [], ◌∷◌, ◌++◌, length, map, take, drop, refl, sym, ap, subst, ◌∙◌, arith}
use Rattle.std.specs.Prelude.{Option, Some, None, slice_get, nat_lt, Result, Ok, Err, bit_xor}
use Rattle.std.specs.List.{All, prefix_len}
use Rattle.std.specs.Option.{option_map, option_map_or}
use Rattle.std.proofs.lemmas.Bool.Decides.{nat_tests}
use Rattle.std.proofs.lemmas.List.{get_or-set_same, length-map}
use Rattle.std.proofs.lemmas.List.Elements.{All-head, All-tail, All-drop, All-take}
use Rattle.sp_ids.specs.declared.ends.End.TheVariants as ended
use Rattle.sp_ids.specs.declared.ends.Trap.{Trap}
use Rattle.sp_ids.specs.declared.ends.Trap.TheVariants as traps
use Rattle.ir_ast.specs.declared.cells.Cell.{Cell}
use Rattle.ir_ast.specs.declared.cells.Cell.TheVariants as cells
use Rattle.ir_ast.specs.declared.types.Ty.{Ty}
use Rattle.ir_ast.specs.declared.types.Ty.TheVariants as types
use Rattle.ir_ast.specs.declared.ops.Pred.TheVariants as preds
use Rattle.ir_ast.specs.declared.ops.Op.{Op}
use Rattle.ir_ast.specs.declared.ops.Op.TheVariants as ops
use Rattle.ir_ast.specs.declared.ops.Operand.{Operand}
use Rattle.ir_ast.specs.declared.ops.Operand.TheVariants as operands
use Rattle.ir_ast.specs.Cells.{kind_of}
use Rattle.ir_ast.specs.Derived.{is_merge}
use Rattle.ir_ast.specs.Faults.PhiEdges.{is_phi}
use Rattle.ir_ast.specs.Objects.{Datum, number}
use Rattle.object_meaning.specs.Accesses.{Place, accessed, cell_named, cell_of, loaded, stored}
use Rattle.object_meaning.specs.Calls.{checked, stepped}
use Rattle.object_meaning.specs.Comparisons.{bit, same_pointer}
use Rattle.object_meaning.specs.Computing.{computed, value_of_line}
use Rattle.object_meaning.specs.Effects.{Effect, goes_on, ends}
use Rattle.object_meaning.specs.Frames.{grouped, passed, regrouped}
use Rattle.object_meaning.specs.Jumps.{arrived, branch_taken, case_taken, is_case, jumped, label_at, phi_count, phi_write}
use Rattle.object_meaning.specs.Lines.{Line}
use Rattle.object_meaning.specs.Numbers.{width_of}
use Rattle.object_meaning.specs.Registers.{is_set, nothing, number_in, operand, pointer_in, put, put_all, value}
use Rattle.object_meaning.specs.States.{Frame, State, Setting}
use Rattle.object_meaning.specs.Steps.{accesses, acts, loading, returned, settled, steps_at, storing}
use Rattle.object_meaning.specs.Traces.{access_of, accesses_at, event_of, events_at, reading, writing}
use Rattle.object_meaning.proofs.AccessLaws.{cell_again}
use Rattle.renaming_laws.specs.Renamed.{ArgumentsFit, InRoom, Leads, Renaming, renamed}
use Rattle.renaming_laws.specs.Inserted.{Image, IsFresh, alone, as_negated, as_same, behind_check, behind_merge, check_line, negated_line, pointer_place, same_line}
use Rattle.renaming_laws.specs.Images.{HasImages, Images, more_lines, no_lines}
use Rattle.renaming_laws.proofs.ListLaws.{before, behind, drop_behind, take_before}
use Rattle.renaming_laws.proofs.RegisterLaws.{Kept, operand_kept, put_fresh, put_kept, read, value_kept}
use Rattle.renaming_laws.proofs.FrontLaws.{images_behind, phis_class, phis_kept, tested}
use Rattle.renaming_laws.proofs.Related.{EffectKept, FrameGoes, FramesKept, Goes, Lasts, TasksKept, WaitKept, at_line, both_end, both_go, built, frame_goes, goes, image, line_there}
use Rattle.renaming_laws.proofs.CallLaws.{called_kept, regrouped_goes, returned_kept, stepped_kept, stored_go, with_lines}
use Rattle.list_laws.proofs.Contents.{all_at}
use Rattle.list_laws.proofs.Places.{drop_map}

-- ---- jumps

-- a frame behind the phis of a block
abbrev behind_phis : Frame → ℕ → List Line → Frame
behind_phis frame block lines = record frame {
  block = block;
  rest = behind (tested is_phi) lines;
  registers = put_all (map (phi_write frame.block frame.registers) (before (tested is_phi) lines)) frame.registers;
}

pub arrived_is : (frame : Frame) (block : ℕ) (lines : List Line) → arrived frame block lines ≡ behind_phis frame block lines
arrived_is frame block lines =
    ap (λ rest. record frame { block = block; rest = rest; registers = put_all (map (phi_write frame.block frame.registers) (take (phi_count lines) lines)) frame.registers })
    (drop_behind (tested is_phi) lines)
    ∙ ap (λ phis. record frame { block = block; rest = behind (tested is_phi) lines; registers = put_all (map (phi_write frame.block frame.registers) phis) frame.registers })
    (take_before (tested is_phi) lines)

-- a case that is taken has a label
case_within : (datum : Datum) (cases : List Operand) → case_taken datum cases ≤ length cases
case_within datum cases =
    by (prefix_len (λ each. not (is_case (number_in datum) each)) cases)
    (nat_lt (prefix_len (λ each. not (is_case (number_in datum) each)) cases) (length cases)) refl
  where
    by : (place : ℕ) (b : Bool) → nat_lt place (length cases) ≡ b → option_map_or (λ (n : ℕ). n + 1) (if b then Some place else None) 0 ≤ length cases
    by place true is = grind (arith, nat_tests)
    by place false is = omega arith

same_case : (rename : ℕ → ℕ) (literal : ℕ) (each : Operand) → is_case literal (renamed rename each) ≡ is_case literal each
same_case rename literal (operands.Value id) = refl
same_case rename literal (operands.Int word) = refl
same_case rename literal operands.Null = refl
same_case rename literal (operands.Fun func) = refl

cases_before : (rename : ℕ → ℕ) (literal : ℕ) (cases : List Operand)
    → prefix_len (λ each. not (is_case literal each)) (map (renamed rename) cases) ≡ prefix_len (λ each. not (is_case literal each)) cases
cases_before rename literal [] = refl
cases_before rename literal (each ∷ cases) = rw (same_case rename literal each, cases_before rename literal cases) refl

-- the cases of a switch are literals
cases_same : (rename : ℕ → ℕ) (datum : Datum) (cases : List Operand) → case_taken datum (map (renamed rename) cases) ≡ case_taken datum cases
cases_same rename datum cases = rw (cases_before rename (number_in datum) cases, length-map cases (renamed rename)) refl

-- ---- what checks and compares of pointers do

negated : (same : Bool) → bit_xor (bit same) 1 ≡ bit (not same)
negated true = refl
negated false = refl

pub merge_is : (op : Op) → is_merge op ≡ true → (op ≡ ops.Phi) ⊎ (op ≡ ops.Select)
merge_is ops.Phi is = inl refl
merge_is ops.Select is = inr refl
merge_is op is = absurd cc

-- the step of the run from a state, and the one or two of the other run from another: what they do, and where they lead
pub data StepKept (functions : ℕ → Renaming) (one other : Setting) (state start : State) : Type 0 where
  at_once : EffectKept functions (steps_at one state state.running.rest) (steps_at other start start.running.rest)
      → events_at start.running.rest ≡ events_at state.running.rest
      → accesses_at other start start.running.rest ≡ accesses_at one state state.running.rest → StepKept functions one other state start
  after_one : (between : State) → steps_at other start start.running.rest ≡ goes_on between
      → events_at start.running.rest ≡ [] → accesses_at other start start.running.rest ≡ []
      → EffectKept functions (steps_at one state state.running.rest) (steps_at other between between.running.rest)
      → events_at between.running.rest ≡ events_at state.running.rest
      → accesses_at other between between.running.rest ≡ accesses_at one state state.running.rest → StepKept functions one other state start

module _ (functions : ℕ → Renaming) (one : Setting) (lines : ℕ → ℕ → List Line) (front : List Line) (registers : ℕ → ℕ) (names : ℕ → List ℕ)
    (law : HasImages functions one (with_lines one lines front registers names)) where
  abbrev there_setting : Setting
  there_setting = with_lines one lines front registers names

  arrived_goes : (frame : Frame) (now : List Datum) (from_lines there_lines : List Line) (block : ℕ) → (functions frame.func).entered block ≡ true
      → Kept (functions frame.func) frame.registers now
      → FrameGoes functions (arrived (record frame { rest = from_lines }) block (one.lines frame.func block)) (arrived (image frame there_lines now) block (lines frame.func block))
  arrived_goes frame now from_lines there_lines block entered kept =
      rw (arrived_is (record frame { rest = from_lines }) block (one.lines frame.func block), arrived_is (image frame there_lines now) block (lines frame.func block))
      (frame_goes (behind_phis (record frame { rest = from_lines }) block (one.lines frame.func block)) (behind (tested is_phi) (lines frame.func block))
      (put_all (map (phi_write frame.block now) (before (tested is_phi) (lines frame.func block))) now)
      (record {
        images = images_behind is_phi phis_class (one.lines frame.func block) (lines frame.func block) (law.blocks frame.func block entered);
        kept = phis_kept functions frame.func (law.renaming frame.func) frame.block frame.registers now kept (one.lines frame.func block) (lines frame.func block)
            (law.blocks frame.func block entered) frame.registers now kept;
      }))

  -- ---- a line whose image is that line alone

  module _ (state : State) (line : Line) (name : Option (List ℕ)) (rest others : List Line) (now : List Datum) (below : List Frame) (tasks : List (List Frame))
      (kept : WaitKept functions state.running line rest others now) (frames : FramesKept functions state.below below) (all : TasksKept functions state.tasks tasks) where
    abbrev func : Renaming
    func = functions state.running.func

    abbrev here : State
    here = record state { running = at_line state.running line rest }

    abbrev line_now : Line
    line_now = line_there functions state.running name line

    abbrev frame_now : Frame
    frame_now = image state.running (line_now ∷ others) now

    abbrev there : State
    there = built functions state frame_now below tasks

    lasts_here : Lasts functions here there
    lasts_here = record { func = refl; steps = refl; events = refl; objects = refl; below = frames }

    operand_same : (place : ℕ) → operand now (map (renamed func.number) line.inst.operands) place ≡ operand state.running.registers line.inst.operands place
    operand_same place = operand_kept line.inst.operands place kept.of.operands kept.kept

    passed_goes : (answer : Datum) → Goes functions (passed here line rest answer) (passed there line_now others answer)
    passed_goes answer =
        goes (record state { running = record state.running { rest = rest; registers = put line.to answer state.running.registers } })
        (image state.running others (put (option_map func.number line.to) answer now)) below tasks
        (frame_goes (record state.running { rest = rest; registers = put line.to answer state.running.registers }) others (put (option_map func.number line.to) answer now)
        (record { images = kept.images; kept = put_kept line.to answer (law.renaming state.running.func) kept.of.result kept.kept })) frames all

    skipped_goes : Goes functions (record here { running = record here.running { rest = rest } }) (record there { running = record there.running { rest = others } })
    skipped_goes =
        goes (record state { running = record state.running { rest = rest } }) (image state.running others now) below tasks
        (frame_goes (record state.running { rest = rest }) others now (record { images = kept.images; kept = kept.kept })) frames all

    settled_kept : (result : Result Datum Trap) → EffectKept functions (settled here line rest result) (settled there line_now others result)
    settled_kept (Ok word) = both_go _ _ (passed_goes word)
    settled_kept (Err trap) = both_end (ended.Trap trap) here there lasts_here

    loading_kept : (result : Result Place Trap) → EffectKept functions (loading here line rest result) (loading there line_now others result)
    loading_kept (Ok place) = both_go _ _ (passed_goes (loaded state.objects place))
    loading_kept (Err trap) = both_end (ended.Trap trap) here there lasts_here

    storing_kept : (datum : Datum) (result : Result Place Trap) → EffectKept functions (storing here line rest datum result) (storing there line_now others datum result)
    storing_kept datum (Ok place) = both_go _ _ (stored_go functions one lines front registers names law _ _ (stored state.objects place datum) (passed_goes nothing))
    storing_kept datum (Err trap) = both_end (ended.Trap trap) here there lasts_here

    accesses_same : (place : ℕ) → accesses there_setting there line_now place ≡ accesses one here line place
    accesses_same place = ap (λ (datum : Datum). accessed one.layouts state.objects (cell_of line.inst.ty) (pointer_in datum)) (operand_same place)

    value_same : (op : Op) → value_of_line one.layouts now op line.inst.ty (map (renamed func.number) line.inst.operands)
        ≡ value_of_line one.layouts state.running.registers op line.inst.ty line.inst.operands
    value_same op =
        ap (λ (datum : Datum). computed one.layouts op line.inst.ty datum (operand now line_now.inst.operands 1) (operand now line_now.inst.operands 2)) (operand_same 0)
        ∙ (ap (λ (datum : Datum). computed one.layouts op line.inst.ty (operand state.running.registers line.inst.operands 0) datum (operand now line_now.inst.operands 2)) (operand_same 1)
        ∙ ap (λ (datum : Datum). computed one.layouts op line.inst.ty (operand state.running.registers line.inst.operands 0) (operand state.running.registers line.inst.operands 1) datum) (operand_same 2))

    jump_kept : (block : ℕ) → func.entered block ≡ true → EffectKept functions (stepped one here (jumped one block)) (stepped there_setting there (jumped there_setting block))
    jump_kept block entered =
        stepped_kept functions one lines front registers names law here frame_now below tasks refl frames all (jumped one block) (jumped there_setting block)
        (both_go _ _
        (goes (record state { running = arrived (at_line state.running line rest) block (one.lines state.running.func block); steps = state.steps + 1 })
        (arrived frame_now block (lines state.running.func block)) below tasks
        (arrived_goes state.running now (line ∷ rest) (line_now ∷ others) block entered kept.kept) frames all))

    leads_as : (op : Op) → line.inst.op ≡ op → Leads func.entered op line.inst.operands line.inst.labels
    leads_as op is = subst (λ (o : Op). Leads func.entered o line.inst.operands line.inst.labels) is kept.of.leads

    fits_as : (op : Op) → line.inst.op ≡ op → ArgumentsFit functions op line.inst.operands
    fits_as op is = subst (λ (o : Op). ArgumentsFit functions o line.inst.operands) is kept.of.arguments

    branch_leads : (datum : Datum) → Leads func.entered ops.CondBr line.inst.operands line.inst.labels → func.entered (label_at line.inst.labels (branch_taken datum)) ≡ true
    branch_leads datum leads = by (nat_lt 0 (number_in datum))
      where
        by : (b : Bool) → func.entered (label_at line.inst.labels (if b then 0 else 1)) ≡ true
        by true = leads.0
        by false = leads.1

    take_map : (count : ℕ) (xs : List Operand) → take count (map (renamed func.number) xs) ≡ map (renamed func.number) (take count xs)
    take_map zero xs = refl
    take_map (suc count) [] = refl
    take_map (suc count) (x ∷ xs) = ap (λ ys. renamed func.number x ∷ ys) (take_map count xs)

    grouped_goes : (count : ℕ) (answer : Datum) → Goes functions (grouped here (drop count line.inst.operands) rest answer) (grouped there (map (renamed func.number) (drop count line.inst.operands)) others answer)
    grouped_goes count answer =
        goes (record state { running = regrouped (at_line state.running line rest) (drop count line.inst.operands) rest answer })
        (regrouped frame_now (map (renamed func.number) (drop count line.inst.operands)) others answer) below tasks
        (regrouped_goes functions one lines front registers names law (at_line state.running line rest) rest others (line_now ∷ others) now (drop count line.inst.operands) answer
        kept.images kept.kept (All-drop (InRoom func.room) count line.inst.operands kept.of.operands)) frames all

    alone_kept : (op : Op) → line.inst.op ≡ op → EffectKept functions (acts one here line rest op) (acts there_setting there line_now others op)
    alone_kept ops.Load is = rw (accesses_same 0) (loading_kept (accesses one here line 0))
    alone_kept ops.Store is = rw (accesses_same 1, operand_same 0) (storing_kept (operand state.running.registers line.inst.operands 0) (accesses one here line 1))
    alone_kept (ops.Call callee types) is =
        called_kept functions one lines front registers names law state line name rest others now below tasks kept frames all (passed here line rest) (passed there line_now others) passed_goes
        line.inst.operands kept.of.operands callee (fits_as (ops.Call callee types) is)
    alone_kept (ops.Statepoint id callee types) is =
        rw (drop_map (renamed func.number) (length types) line.inst.operands, take_map (length types) line.inst.operands)
        (called_kept functions one lines front registers names law state line name rest others now below tasks kept frames all
        (grouped here (drop (length types) line.inst.operands) rest) (grouped there (map (renamed func.number) (drop (length types) line.inst.operands)) others) (grouped_goes (length types))
        (take (length types) line.inst.operands) (All-take (InRoom func.room) (length types) line.inst.operands kept.of.operands) callee (fits_as (ops.Statepoint id callee types) is))
    alone_kept ops.Phi is = both_go _ _ skipped_goes
    alone_kept ops.GcResult is = both_go _ _ skipped_goes
    alone_kept ops.GcRelocate is = both_go _ _ skipped_goes
    alone_kept ops.Br is = jump_kept (label_at line.inst.labels 0) (leads_as ops.Br is)
    alone_kept ops.CondBr is =
        rw (operand_same 0)
        (jump_kept (label_at line.inst.labels (branch_taken (operand state.running.registers line.inst.operands 0)))
        (branch_leads (operand state.running.registers line.inst.operands 0) (leads_as ops.CondBr is)))
    alone_kept ops.Switch is =
        rw (operand_same 0, drop_map (renamed func.number) 1 line.inst.operands, cases_same func.number (operand state.running.registers line.inst.operands 0) (drop 1 line.inst.operands))
        (jump_kept (label_at line.inst.labels (case_taken (operand state.running.registers line.inst.operands 0) (drop 1 line.inst.operands)))
        (leads_as ops.Switch is (case_taken (operand state.running.registers line.inst.operands 0) (drop 1 line.inst.operands))
        (case_within (operand state.running.registers line.inst.operands 0) (drop 1 line.inst.operands))))
    alone_kept ops.Ret is =
        rw (operand_same 0)
        (stepped_kept functions one lines front registers names law here frame_now below tasks refl frames all
        (returned (width_of line.inst.ty) (operand state.running.registers line.inst.operands 0) state.below)
        (returned (width_of line.inst.ty) (operand state.running.registers line.inst.operands 0) below)
        (returned_kept functions one lines front registers names law (record here { steps = state.steps + 1 }) frame_now below tasks refl frames all
        (width_of line.inst.ty) (operand state.running.registers line.inst.operands 0) state.below below frames))
    alone_kept ops.Unreachable is =
        stepped_kept functions one lines front registers names law here frame_now below tasks refl frames all (ends (ended.Trap traps.Unreachable)) (ends (ended.Trap traps.Unreachable))
        (both_end (ended.Trap traps.Unreachable) (record here { steps = state.steps + 1 }) (record there { steps = state.steps + 1 })
        (record { func = refl; steps = refl; events = refl; objects = refl; below = frames }))
    alone_kept op is =
        subst (λ (result : Result Datum Trap). EffectKept functions (settled here line rest (value_of_line one.layouts state.running.registers op line.inst.ty line.inst.operands))
        (settled there line_now others result)) (sym (value_same op)) (settled_kept (value_of_line one.layouts state.running.registers op line.inst.ty line.inst.operands))

    access_same : (op : Op) → access_of there_setting there line_now op ≡ access_of one here line op
    access_same ops.Load = ap reading (accesses_same 0)
    access_same ops.Store = ap writing (accesses_same 1)
    access_same op = refl

    -- ---- what the images of a line do

    traps_as : (op : Op) (place : ℕ) (trap : Trap) → pointer_place op ≡ Some place → accesses one here line place ≡ Err trap
        → (acts one here line rest op ≡ ends (ended.Trap trap) here) × (access_of one here line op ≡ []) × (event_of op ≡ [])
    traps_as ops.Load place trap is fails =
        let zero_is : 0 ≡ place = cc in
        let here_fails : accesses one here line 0 ≡ Err trap = ap (accesses one here line) zero_is ∙ fails in
        (ap (loading here line rest) here_fails, ap reading here_fails, refl)
    traps_as ops.Store place trap is fails =
        let one_is : 1 ≡ place = cc in
        let here_fails : accesses one here line 1 ≡ Err trap = ap (accesses one here line) one_is ∙ fails in
        (ap (storing here line rest (operand state.running.registers line.inst.operands 0)) here_fails, ap writing here_fails, refl)
    traps_as op place trap is fails = absurd cc

    no_event : (op : Op) (place : ℕ) → pointer_place op ≡ Some place → event_of op ≡ []
    no_event ops.Load place is = refl
    no_event ops.Store place is = refl
    no_event op place is = absurd cc

    abbrev LineKept : State → Type 0
    LineKept start = StepKept functions one there_setting here start

    pub alone_line : LineKept there
    alone_line = at_once (alone_kept line.inst.op refl) refl (access_same line.inst.op)

    after_there : (start : State) → steps_at there_setting start start.running.rest ≡ goes_on there
        → events_at start.running.rest ≡ [] → accesses_at there_setting start start.running.rest ≡ [] → LineKept start
    after_there start steps events seen = after_one there steps events seen (alone_kept line.inst.op refl) refl (access_same line.inst.op)

    -- ---- checks

    module _ (passed_types : List Ty) (base address : Operand) (place : ℕ) (access : pointer_place line.inst.op ≡ Some place) (at : slice_get line.inst.operands place ≡ Some address) where
      abbrev check : Line
      check = check_line passed_types base (renamed func.number address) (kind_of (cell_of line.inst.ty))

      abbrev at_check : State
      at_check = built functions state (image state.running (check ∷ line_now ∷ others) now) below tasks

      address_same : value now (renamed func.number address) ≡ operand state.running.registers line.inst.operands place
      address_same = value_kept address (all_at (InRoom func.room) line.inst.operands place address kept.of.operands at) kept.kept
          ∙ sym (ap (λ (found : Option Operand). option_map_or (value state.running.registers) found nothing) at)

      check_is : accessed one.layouts state.objects (cell_named (kind_of (cell_of line.inst.ty))) (pointer_in (value now (renamed func.number address))) ≡ accesses one here line place
      check_is =
          ap (λ (cell : Cell). accessed one.layouts state.objects cell (pointer_in (value now (renamed func.number address)))) (cell_again (cell_of line.inst.ty))
          ∙ ap (λ (datum : Datum). accessed one.layouts state.objects (cell_of line.inst.ty) (pointer_in datum)) address_same

      pub checked_line : LineKept at_check
      checked_line = by (accesses one here line place) refl
        where
          step_is : (result : Result Place Trap) → accesses one here line place ≡ result
              → steps_at there_setting at_check (check ∷ line_now ∷ others) ≡ checked at_check (passed at_check check (line_now ∷ others)) result
          step_is result is = ap (checked at_check (passed at_check check (line_now ∷ others))) (check_is ∙ is)

          by : (result : Result Place Trap) → accesses one here line place ≡ result → LineKept at_check
          by (Ok cell) is = after_there at_check (step_is (Ok cell) is) refl refl
          by (Err trap) is =
              let does = traps_as line.inst.op place trap access is in
              at_once
              (subst (λ (effect : Effect State). EffectKept functions effect (steps_at there_setting at_check (check ∷ line_now ∷ others))) (sym does.0)
              (subst (λ (effect : Effect State). EffectKept functions (ends (ended.Trap trap) here) effect) (sym (step_is (Err trap) is))
              (both_end (ended.Trap trap) here at_check (record { func = refl; steps = refl; events = refl; objects = refl; below = frames }))))
              (sym does.2) (sym does.1)

    -- ---- compares of pointers

    module _ (passed_types : List Ty) (base other_base first second : Operand) (ty : line.inst.ty ≡ types.Ptr) (both : line.inst.operands ≡ first ∷ second ∷ []) where
      abbrev same_here : Bool
      same_here = same_pointer (pointer_in (value state.running.registers first)) (pointer_in (value state.running.registers second))

      inside : All (InRoom func.room) (first ∷ second ∷ [])
      inside = subst (All (InRoom func.room)) both kept.of.operands

      same_there : same_pointer (pointer_in (value now (renamed func.number first))) (pointer_in (value now (renamed func.number second))) ≡ same_here
      same_there =
          ap (λ (datum : Datum). same_pointer (pointer_in datum) (pointer_in (value now (renamed func.number second))))
          (value_kept first (All-head (InRoom func.room) first (second ∷ []) inside) kept.kept)
          ∙ ap (λ (datum : Datum). same_pointer (pointer_in (value state.running.registers first)) (pointer_in datum))
          (value_kept second (All-head (InRoom func.room) second [] (All-tail (InRoom func.room) first (second ∷ []) inside)) kept.kept)

      abbrev same : Option ℕ → Option (List ℕ) → Line
      same to result = same_line to result passed_types base (renamed func.number first) other_base (renamed func.number second)

      equal_here : line.inst.op ≡ ops.Icmp preds.Eq → acts one here line rest line.inst.op ≡ goes_on (passed here line rest (number (bit same_here)))
      equal_here op =
          ap (acts one here line rest) op
          ∙ (ap (λ (t : Ty). settled here line rest (value_of_line one.layouts state.running.registers (ops.Icmp preds.Eq) t line.inst.operands)) ty
          ∙ ap (λ (all : List Operand). settled here line rest (value_of_line one.layouts state.running.registers (ops.Icmp preds.Eq) types.Ptr all)) both)

      unequal_here : line.inst.op ≡ ops.Icmp preds.Ne → acts one here line rest line.inst.op ≡ goes_on (passed here line rest (number (bit (not same_here))))
      unequal_here op =
          ap (acts one here line rest) op
          ∙ (ap (λ (t : Ty). settled here line rest (value_of_line one.layouts state.running.registers (ops.Icmp preds.Ne) t line.inst.operands)) ty
          ∙ ap (λ (all : List Operand). settled here line rest (value_of_line one.layouts state.running.registers (ops.Icmp preds.Ne) types.Ptr all)) both)

      abbrev at_same : State
      at_same = built functions state (image state.running (same (option_map func.number line.to) name ∷ others) now) below tasks

      pub same_line_kept : line.inst.op ≡ ops.Icmp preds.Eq → LineKept at_same
      same_line_kept op =
          at_once
          (subst (λ (effect : Effect State). EffectKept functions effect (steps_at there_setting at_same at_same.running.rest)) (sym (equal_here op))
          (subst (λ (test : Bool). EffectKept functions (goes_on (passed here line rest (number (bit same_here))))
          (goes_on (passed at_same (same (option_map func.number line.to) name) others (number (bit test))))) (sym same_there)
          (both_go _ _ (passed_goes (number (bit same_here))))))
          (sym (ap event_of op)) (sym (ap (access_of one here line) op))

      module _ (fresh : ℕ) (result : Option (List ℕ)) (new : IsFresh func (Some fresh)) (within : fresh < func.now_room) where
        abbrev negation : Line
        negation = negated_line (option_map func.number line.to) name fresh

        abbrev at_compare : State
        at_compare = built functions state (image state.running (same (Some fresh) result ∷ negation ∷ others) now) below tasks

        abbrev written : List Datum
        written = put (Some fresh) (number (bit same_here)) now

        abbrev at_negation : State
        at_negation = built functions state (image state.running (negation ∷ others) written) below tasks

        compare_step : steps_at there_setting at_compare at_compare.running.rest ≡ goes_on at_negation
        compare_step = ap (λ (test : Bool). goes_on (passed at_compare (same (Some fresh) result) (negation ∷ others) (number (bit test)))) same_there

        fresh_is : read written fresh ≡ number (bit same_here)
        fresh_is = get_or-set_same now fresh (number (bit same_here)) nothing (let room = (kept.kept).now_room in omega arith)

        negation_step : steps_at there_setting at_negation at_negation.running.rest ≡ goes_on (passed at_negation negation others (number (bit (not same_here))))
        negation_step =
            ap (λ (datum : Datum). goes_on (passed at_negation negation others (number (bit_xor (number_in datum) 1)))) fresh_is
            ∙ ap (λ (word : ℕ). goes_on (passed at_negation negation others (number word))) (negated same_here)

        negated_goes : Goes functions (passed here line rest (number (bit (not same_here)))) (passed at_negation negation others (number (bit (not same_here))))
        negated_goes =
            goes (record state { running = record state.running { rest = rest; registers = put line.to (number (bit (not same_here))) state.running.registers } })
            (image state.running others (put (option_map func.number line.to) (number (bit (not same_here))) written)) below tasks
            (frame_goes (record state.running { rest = rest; registers = put line.to (number (bit (not same_here))) state.running.registers }) others
            (put (option_map func.number line.to) (number (bit (not same_here))) written)
            (record {
              images = kept.images;
              kept = put_kept line.to (number (bit (not same_here))) (law.renaming state.running.func) kept.of.result (put_fresh (Some fresh) (number (bit same_here)) new kept.kept);
            })) frames all

        pub negated_line_kept : line.inst.op ≡ ops.Icmp preds.Ne → LineKept at_compare
        negated_line_kept op =
            after_one at_negation compare_step refl refl
            (subst (λ (effect : Effect State). EffectKept functions effect (steps_at there_setting at_negation at_negation.running.rest)) (sym (unequal_here op))
            (subst (EffectKept functions (goes_on (passed here line rest (number (bit (not same_here)))))) (sym negation_step) (both_go _ _ negated_goes)))
            (sym (ap event_of op)) (sym (ap (access_of one here line) op))

  -- ---- phis and selects behind another one

  module _ (state : State) (line : Line) (name : Option (List ℕ)) (rest others : List Line) (now : List Datum) (below : List Frame) (tasks : List (List Frame))
      (kept : WaitKept functions state.running line rest others now) (frames : FramesKept functions state.below below) (all : TasksKept functions state.tasks tasks)
      (merge : Line) (same_op : merge.inst.op ≡ line.inst.op) (fresh : IsFresh (functions state.running.func) merge.to) where
    abbrev at_merge : State
    at_merge = built functions state (image state.running (merge ∷ line_there functions state.running name line ∷ others) now) below tasks

    abbrev base_value : Datum
    base_value = if is_set (operand now merge.inst.operands 0) then operand now merge.inst.operands 1 else operand now merge.inst.operands 2

    behind_phi : line.inst.op ≡ ops.Phi → StepKept functions one there_setting (record state { running = at_line state.running line rest }) at_merge
    behind_phi is =
        after_there state line name rest others now below tasks kept frames all at_merge
        (ap (acts there_setting at_merge merge (line_there functions state.running name line ∷ others)) (same_op ∙ is))
        (ap event_of (same_op ∙ is)) (ap (access_of there_setting at_merge merge) (same_op ∙ is))

    abbrev behind_select_registers : List Datum
    behind_select_registers = put merge.to base_value now

    behind_select_kept : WaitKept functions state.running line rest others behind_select_registers
    behind_select_kept = record { of = kept.of; images = kept.images; kept = put_fresh merge.to base_value fresh kept.kept }

    behind_select : line.inst.op ≡ ops.Select → StepKept functions one there_setting (record state { running = at_line state.running line rest }) at_merge
    behind_select is =
        after_there state line name rest others behind_select_registers below tasks behind_select_kept frames all at_merge
        (ap (acts there_setting at_merge merge (line_there functions state.running name line ∷ others)) (same_op ∙ is))
        (ap event_of (same_op ∙ is)) (ap (access_of there_setting at_merge merge) (same_op ∙ is))

    pub merged_line : is_merge line.inst.op ≡ true → StepKept functions one there_setting (record state { running = at_line state.running line rest }) at_merge
    merged_line kind = elim (merge_is line.inst.op kind) [ inl is ↦ behind_phi is | inr is ↦ behind_select is ]

  -- ---- any line

  module _ (state : State) (line : Line) (rest others : List Line) (now : List Datum) (below : List Frame) (tasks : List (List Frame))
      (kept : WaitKept functions state.running line rest others now) (frames : FramesKept functions state.below below) (all : TasksKept functions state.tasks tasks) where
    pub line_kept : (group : List Line) → Image (functions state.running.func) line group
        → StepKept functions one there_setting (record state { running = at_line state.running line rest })
        (built functions state (image state.running (group ++ others) now) below tasks)
    line_kept _ (alone name) = alone_line state line name rest others now below tasks kept frames all
    line_kept _ (behind_merge merge name kind op plain bare fresh) = merged_line state line name rest others now below tasks kept frames all merge op fresh kind
    line_kept _ (behind_check passed_types base address place name access at plain) =
        checked_line state line name rest others now below tasks kept frames all passed_types base address place access at
    line_kept _ (as_same passed_types base other_base first second name op ty both plain) =
        same_line_kept state line name rest others now below tasks kept frames all passed_types base other_base first second ty both op
    line_kept _ (as_negated passed_types base other_base first second fresh result name op ty both plain new within) =
        negated_line_kept state line name rest others now below tasks kept frames all passed_types base other_base first second ty both fresh result new within op

  lines_kept : (state : State) (from images : List Line) (now : List Datum) (below : List Frame) (tasks : List (List Frame)) → Images functions state.running.func from images
      → Kept (functions state.running.func) state.running.registers now → FramesKept functions state.below below → TasksKept functions state.tasks tasks
      → StepKept functions one there_setting (record state { running = record state.running { rest = from } }) (built functions state (image state.running images now) below tasks)
  lines_kept state _ _ now below tasks no_lines kept frames all =
      at_once
      (both_end (ended.Trap traps.Unreachable) (record state { running = record state.running { rest = [] } }) (built functions state (image state.running [] now) below tasks)
      (record { func = refl; steps = refl; events = refl; objects = refl; below = frames }))
      refl refl
  lines_kept state _ _ now below tasks (more_lines line group rest others of shape images) kept frames all =
      line_kept state line rest others now below tasks (record { of = of; images = images; kept = kept }) frames all group shape

  -- a step from any state
  pub state_kept : (state there : State) → Goes functions state there → StepKept functions one there_setting state there
  state_kept _ _ (goes state _ below tasks (frame_goes _ rest now kept) frames all) =
      lines_kept state state.running.rest rest now below tasks kept.images kept.kept frames all
