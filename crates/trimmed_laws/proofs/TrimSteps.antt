-- One step of a run, and what the run some of whose lines went does for it: one step, or none.
use Rattle.std.proofs.Common.{◌≡◌, ℕ, zero, suc, ◌+◌, Bool, true, false, ◌||◌, List, [], ◌∷◌, ◌++◌, length, map, take, drop, refl, sym, ap, subst, ◌∙◌}
use Rattle.std.specs.Prelude.{Option, Result, Ok, Err}
use Rattle.std.specs.List.{All}
use Rattle.std.specs.Option.{option_map}
use Rattle.std.proofs.lemmas.List.Elements.{All-drop, All-take}
use Rattle.sp_ids.specs.declared.ends.End.TheVariants as ended
use Rattle.sp_ids.specs.declared.ends.Trap.{Trap}
use Rattle.sp_ids.specs.declared.ends.Trap.TheVariants as traps
use Rattle.ir_ast.specs.declared.ops.Callee.{Callee}
use Rattle.ir_ast.specs.declared.ops.Callee.TheVariants as callees
use Rattle.ir_ast.specs.declared.ops.Op.{Op}
use Rattle.ir_ast.specs.declared.ops.Op.TheVariants as ops
use Rattle.ir_ast.specs.declared.ops.Operand.{Operand}
use Rattle.ir_ast.specs.Objects.{Datum}
use Rattle.ir_ast.specs.Operands.{operands_of}
use Rattle.ir_ast.specs.Ops.{is_member, is_phi}
use Rattle.object_meaning.specs.BlockLines.{phis_in}
use Rattle.object_meaning.specs.Accesses.{Place, accessed, cell_of, loaded, stored}
use Rattle.object_meaning.specs.Calls.{called, stepped}
use Rattle.object_meaning.specs.Computing.{computed, value_of_line}
use Rattle.object_meaning.specs.Effects.{Effect, goes_on, ends}
use Rattle.object_meaning.specs.Frames.{grouped, passed, regrouped}
use Rattle.object_meaning.specs.Jumps.{arrived, branch_taken, case_taken, jumped, label_at, phi_write}
use Rattle.object_meaning.specs.Lines.{Line}
use Rattle.object_meaning.specs.Numbers.{width_of}
use Rattle.object_meaning.specs.Registers.{nothing, operand, pointer_in, put, put_all, value}
use Rattle.object_meaning.specs.States.{Frame, State, Setting}
use Rattle.object_meaning.specs.Steps.{accesses, acts, loading, returned, settled as settled_line, skipped, steps_at, storing}
use Rattle.object_meaning.specs.Traces.{access_of, accesses_at, event_of, events_at, reading, writing}
use Rattle.renaming_laws.specs.Renamed.{ArgumentsFit, CalleeTakes}
use Rattle.renaming_laws.proofs.ListLaws.{before, behind, take_before}
use Rattle.renaming_laws.proofs.StepLaws.{arrived_is}
use Rattle.list_laws.proofs.Places.{drop_map}
use Rattle.known_values.specs.Onward.{LeadsTo, by_br, by_condition, by_switch, computes}
use Rattle.trimmed_laws.specs.Groups.{Computes, Group, GroupGives, GroupsRead, IsRegrouped, lines_in, lines_now, no_more, one_more}
use Rattle.trimmed_laws.specs.Trims.{Agree, FunctionStays, IsGone, IsStaying, LiteralsStay, MayGo, ReadSame, Trim, calls_of, computing, now_operand, taken_before, trimmed_line}
use Rattle.trimmed_laws.specs.Trimmed.{FrameReads, IsTrimmed, PhiReads, Trimmed, goes, no_lines, regroups, stays}
use Rattle.trimmed_laws.proofs.Pairs.{AllTasks, Goes, Lasts, Paired, SameEffect, Stacks, both_end, both_go, built, paired}
use Rattle.trimmed_laws.proofs.PairLaws.{Passes, called_same, returned_same, stepped_same, stored_go, with_lines}
use Rattle.trimmed_laws.proofs.TrimFrames.{Enters, GroupKept, Runs, Settled, Waits, ahead, at_line, grouped_runs, image, pairs, regrouped_runs, runs, settled, waits, waits_grouped}
use Rattle.trimmed_laws.proofs.TrimFronts.{behind_trimmed, phis_kept, tested}
use Rattle.trimmed_laws.proofs.TrimRegisters.{Numbered, of_bundle, of_line, operand_kept, put_kept, put_unkept, values_kept}

-- the step of the run from a state, and what the other run does for it from another
pub data StepKept (trims : ℕ → Trim) (one other : Setting) (state start : State) : Type 0 where
  at_once : SameEffect (Runs one.layouts trims) (Waits one.layouts trims) (steps_at one state state.running.rest) (steps_at other start start.running.rest)
      → events_at start.running.rest ≡ events_at state.running.rest
      → accesses_at other start start.running.rest ≡ accesses_at one state state.running.rest → StepKept trims one other state start
  silent : (next : State) → steps_at one state state.running.rest ≡ goes_on next → Goes (Runs one.layouts trims) (Waits one.layouts trims) next start
      → events_at state.running.rest ≡ [] → accesses_at one state state.running.rest ≡ [] → StepKept trims one other state start

-- some steps of the other run that do nothing but compute
pub data PassesBy (other : Setting) : State → State → Type 0 where
  at_it : (state : State) → PassesBy other state state
  by_one : (start next last : State) → steps_at other start start.running.rest ≡ goes_on next → events_at start.running.rest ≡ [] → accesses_at other start start.running.rest ≡ []
      → PassesBy other next last → PassesBy other start last

computes_plainly : (op : Op) → computes op ≡ true → is_phi op || is_member op ≡ false
computes_plainly ops.Phi is = absurd cc
computes_plainly ops.GcResult is = absurd cc
computes_plainly ops.GcRelocate is = absurd cc
computes_plainly op is = refl

-- a line that computes goes on with its value, and does nothing else
computes_acts : (setting : Setting) (state : State) (line : Line) (rest : List Line) (op : Op) → computes op ≡ true
    → (acts setting state line rest op ≡ settled_line state line rest (value_of_line setting.layouts state.running.registers op line.inst.ty line.inst.operands))
    × (event_of op ≡ []) × (access_of setting state line op ≡ [])
computes_acts setting state line rest ops.Phi is = absurd cc
computes_acts setting state line rest ops.Load is = absurd cc
computes_acts setting state line rest ops.Store is = absurd cc
computes_acts setting state line rest (ops.Call callee types) is = absurd cc
computes_acts setting state line rest (ops.Statepoint id callee types) is = absurd cc
computes_acts setting state line rest ops.GcResult is = absurd cc
computes_acts setting state line rest ops.GcRelocate is = absurd cc
computes_acts setting state line rest ops.Br is = absurd cc
computes_acts setting state line rest ops.CondBr is = absurd cc
computes_acts setting state line rest ops.Switch is = absurd cc
computes_acts setting state line rest ops.Ret is = absurd cc
computes_acts setting state line rest ops.Unreachable is = absurd cc
computes_acts setting state line rest op is = (refl, refl, refl)

-- one that took effect before is passed over
taken_acts : (setting : Setting) (state : State) (line : Line) (rest : List Line) (op : Op) → is_phi op || is_member op ≡ true
    → (acts setting state line rest op ≡ skipped state rest) × (event_of op ≡ []) × (access_of setting state line op ≡ [])
taken_acts setting state line rest ops.Phi is = (refl, refl, refl)
taken_acts setting state line rest ops.GcResult is = (refl, refl, refl)
taken_acts setting state line rest ops.GcRelocate is = (refl, refl, refl)
taken_acts setting state line rest op is = absurd cc

take_map : {A B : Type 0} (f : A → B) (count : ℕ) (xs : List A) → take count (map f xs) ≡ map f (take count xs)
take_map f zero xs = refl
take_map f (suc count) [] = refl
take_map f (suc count) (x ∷ xs) = ap (λ ys. f x ∷ ys) (take_map f count xs)

module _ (trims : ℕ → Trim) (one : Setting) (lines : ℕ → ℕ → List Line) (front : List Line) (registers : ℕ → ℕ) (names : ℕ → List ℕ)
    (law : IsTrimmed trims one (with_lines one lines front registers names)) where
  abbrev there_setting : Setting
  there_setting = with_lines one lines front registers names

  abbrev RunsSo : Frame → Frame → Type 0
  RunsSo = Runs one.layouts trims

  abbrev WaitsSo : Frame → Frame → Type 0
  WaitsSo = Waits one.layouts trims

  abbrev Same : Effect State → Effect State → Type 0
  Same = SameEffect RunsSo WaitsSo

  arrived_runs : (frame : Frame) (now : List Datum) (from_lines there_lines : List Line) (block : ℕ) → (trims frame.func).renaming.entered block ≡ true
      → All (PhiReads (trims frame.func).stands frame.block frame.registers) (phis_in (one.lines frame.func block)) → Agree (trims frame.func) frame.registers now
      → RunsSo (arrived (record frame { rest = from_lines }) block (one.lines frame.func block)) (arrived (image frame there_lines now) block (lines frame.func block))
  arrived_runs frame now from_lines there_lines block entered reads kept =
      let here = one.lines frame.func block in
      let there = lines frame.func block in
      rw (arrived_is (record frame { rest = from_lines }) block here, arrived_is (image frame there_lines now) block there)
      (runs one.layouts trims
      (record frame { block = block; rest = behind (tested is_phi) here; registers = put_all (map (phi_write frame.block frame.registers) (before (tested is_phi) here)) frame.registers })
      (behind (tested is_phi) there) (put_all (map (phi_write frame.block now) (before (tested is_phi) there)) now)
      (behind_trimmed one.layouts (calls_of trims) (trims frame.func) is_phi (λ id callee types. refl) (λ line others gone. gone.phis) here there (law.blocks frame.func block entered))
      (phis_kept one.layouts (calls_of trims) (trims frame.func) (law.trim frame.func) frame.block frame.registers now kept here there (law.blocks frame.func block entered)
      (subst (All (PhiReads (trims frame.func).stands frame.block frame.registers)) (take_before (tested is_phi) here) reads) frame.registers now kept))

  -- ---- a line that stays

  module _ (state : State) (line : Line) (name : Option (List ℕ)) (rest others : List Line) (now : List Datum) (below : List Frame) (tasks : List (List Frame))
      (of : IsStaying (calls_of trims) (trims state.running.func) line) (further : Trimmed one.layouts (calls_of trims) (trims state.running.func) rest others) (kept : Agree (trims state.running.func) state.running.registers now)
      (reads : FrameReads (trims state.running.func) one (at_line state.running line rest)) (stack : Stacks RunsSo WaitsSo state.below below) (all : AllTasks RunsSo WaitsSo state.tasks tasks) where
    abbrev trim : Trim
    trim = trims state.running.func

    abbrev here : State
    here = record state { running = at_line state.running line rest }

    abbrev line_now : Line
    line_now = trimmed_line trim name line

    abbrev frame_now : Frame
    frame_now = image state.running (line_now ∷ others) now

    abbrev there : State
    there = built state frame_now below tasks

    lasts_here : Lasts RunsSo WaitsSo here there
    lasts_here = record { func = refl; steps = refl; events = refl; objects = refl; below = stack }

    passed_goes : (answer : Datum) → Goes RunsSo WaitsSo (passed here line rest answer) (passed there line_now others answer)
    passed_goes answer =
        paired (record state { running = record state.running { rest = rest; registers = put line.to answer state.running.registers } })
        (image state.running others (put (option_map trim.renaming.number line.to) answer now)) below tasks
        (runs one.layouts trims (record state.running { rest = rest; registers = put line.to answer state.running.registers }) others (put (option_map trim.renaming.number line.to) answer now)
        further (put_kept line.to answer (law.trim state.running.func) of.result kept)) stack all

    skipped_goes : Goes RunsSo WaitsSo (record here { running = record here.running { rest = rest } }) (record there { running = record there.running { rest = others } })
    skipped_goes =
        paired (record state { running = record state.running { rest = rest } }) (image state.running others now) below tasks
        (runs one.layouts trims (record state.running { rest = rest }) others now further kept) stack all

    settled_same : (result : Result Datum Trap) → Same (settled_line here line rest result) (settled_line there line_now others result)
    settled_same (Ok word) = both_go _ _ (passed_goes word)
    settled_same (Err trap) = both_end (ended.Trap trap) here there lasts_here

    loading_same : (result : Result Place Trap) → Same (loading here line rest result) (loading there line_now others result)
    loading_same (Ok place) = both_go _ _ (passed_goes (loaded state.objects place))
    loading_same (Err trap) = both_end (ended.Trap trap) here there lasts_here

    storing_same : (datum : Datum) (result : Result Place Trap) → Same (storing here line rest datum result) (storing there line_now others datum result)
    storing_same datum (Ok place) =
        both_go _ _ (stored_go one lines front registers names (Enters trims) RunsSo WaitsSo (pairs trims one lines front registers names law) _ _ (stored state.objects place datum) (passed_goes nothing))
    storing_same datum (Err trap) = both_end (ended.Trap trap) here there lasts_here

    jump_same : (block : ℕ) → LeadsTo line state.running.registers line.inst.op block → Same (stepped one here (jumped one block)) (stepped there_setting there (jumped there_setting block))
    jump_same block leads =
        let to = reads.leads line rest block refl leads in
        stepped_same one lines front registers names (Enters trims) RunsSo WaitsSo (pairs trims one lines front registers names law) here frame_now below tasks refl stack all
        (jumped one block) (jumped there_setting block)
        (both_go _ _
        (paired (record state { running = arrived (at_line state.running line rest) block (one.lines state.running.func block); steps = state.steps + 1 })
        (arrived frame_now block (lines state.running.func block)) below tasks
        (arrived_runs state.running now (line ∷ rest) (line_now ∷ others) block to.0 to.1 kept) stack all))

    leads_as : (op : Op) (block : ℕ) → line.inst.op ≡ op → LeadsTo line state.running.registers op block → LeadsTo line state.running.registers line.inst.op block
    leads_as op block is leads = subst (λ (o : Op). LeadsTo line state.running.registers o block) (sym is) leads

    -- ---- one that isn't passed over reads the same

    module _ (whole : ReadSame trim.stands state.running.registers (operands_of line.inst)) where
      numbered : All (Numbered trim) line.inst.operands
      numbered = of_line (Numbered trim) line.inst of.operands

      same : ReadSame trim.stands state.running.registers line.inst.operands
      same = of_line (λ (o : Operand). value state.running.registers (trim.stands o) ≡ value state.running.registers o) line.inst whole

      operand_same : (place : ℕ) → operand now (map (now_operand trim) line.inst.operands) place ≡ operand state.running.registers line.inst.operands place
      operand_same place = operand_kept kept line.inst.operands place numbered same

      accesses_same : (place : ℕ) → accesses there_setting there line_now place ≡ accesses one here line place
      accesses_same place = ap (λ (datum : Datum). accessed one.layouts state.objects (cell_of line.inst.ty) (pointer_in datum)) (operand_same place)

      value_same : (op : Op) → value_of_line one.layouts now op line.inst.ty (map (now_operand trim) line.inst.operands)
          ≡ value_of_line one.layouts state.running.registers op line.inst.ty line.inst.operands
      value_same op =
          ap (λ (datum : Datum). computed one.layouts op line.inst.ty datum (operand now line_now.inst.operands 1) (operand now line_now.inst.operands 2)) (operand_same 0)
          ∙ (ap (λ (datum : Datum). computed one.layouts op line.inst.ty (operand state.running.registers line.inst.operands 0) datum (operand now line_now.inst.operands 2)) (operand_same 1)
          ∙ ap (λ (datum : Datum). computed one.layouts op line.inst.ty (operand state.running.registers line.inst.operands 0) (operand state.running.registers line.inst.operands 1) datum) (operand_same 2))

      waiting : Waits one.layouts trims here.running frame_now
      waiting = waits state.running line name rest others now (record { of = of; further = further; kept = kept; reads = whole })

      passes : (callee : Callee) (operands : List Operand) → CalleeTakes (calls_of trims) callee operands → FunctionStays trim callee operands
          → Passes (Enters trims) callee operands (map (now_operand trim) operands)
      passes (callees.Fun func) operands takes stays_so = takes
      passes callees.TaskStart operands takes stays_so = (takes, stays_so)
      passes callee operands takes stays_so = tt

      calls_same : (done done_there : Datum → State) → ((answer : Datum) → Goes RunsSo WaitsSo (done answer) (done_there answer)) → (operands : List Operand)
          → All (Numbered trim) operands → ReadSame trim.stands state.running.registers operands → (callee : Callee) → CalleeTakes (calls_of trims) callee operands
          → FunctionStays trim callee operands → Same (called one here done callee operands) (called there_setting there done_there callee (map (now_operand trim) operands))
      calls_same done done_there each operands inside same_there callee takes stays_so =
          called_same one lines front registers names (Enters trims) RunsSo WaitsSo (pairs trims one lines front registers names law) here frame_now below tasks waiting stack all done done_there each
          operands (map (now_operand trim) operands) (values_kept kept operands inside same_there) (λ place. operand_kept kept operands place inside same_there)
          callee (passes callee operands takes stays_so)

      grouped_goes : (count : ℕ) (answer : Datum) → Goes RunsSo WaitsSo (grouped here (drop count line.inst.operands) rest answer) (grouped there (map (now_operand trim) (drop count line.inst.operands)) others answer)
      grouped_goes count answer =
          paired (record state { running = regrouped (at_line state.running line rest) (drop count line.inst.operands) rest answer })
          (regrouped frame_now (map (now_operand trim) (drop count line.inst.operands)) others answer) below tasks
          (regrouped_runs trims one lines front registers names law (at_line state.running line rest) rest others (line_now ∷ others) now (drop count line.inst.operands) answer
          further kept (All-drop (Numbered trim) count line.inst.operands numbered)
          (All-drop (λ (o : Operand). value state.running.registers (trim.stands o) ≡ value state.running.registers o) count line.inst.operands same)) stack all

      fits_as : (op : Op) → line.inst.op ≡ op → ArgumentsFit (calls_of trims) op line.inst.operands
      fits_as op is = subst (λ (o : Op). ArgumentsFit (calls_of trims) o line.inst.operands) is of.arguments

      literals_as : (op : Op) → line.inst.op ≡ op → LiteralsStay trim op line.inst.operands
      literals_as op is = subst (λ (o : Op). LiteralsStay trim o line.inst.operands) is of.literals

      acts_same : (op : Op) → line.inst.op ≡ op → Same (acts one here line rest op) (acts there_setting there line_now others op)
      acts_same ops.Load is = rw (accesses_same 0) (loading_same (accesses one here line 0))
      acts_same ops.Store is = rw (accesses_same 1, operand_same 0) (storing_same (operand state.running.registers line.inst.operands 0) (accesses one here line 1))
      acts_same (ops.Call callee types) is =
          calls_same (passed here line rest) (passed there line_now others) passed_goes line.inst.operands numbered same callee
          (fits_as (ops.Call callee types) is) (literals_as (ops.Call callee types) is)
      acts_same (ops.Statepoint id callee types) is =
          rw (drop_map (now_operand trim) (length types) line.inst.operands, take_map (now_operand trim) (length types) line.inst.operands)
          (calls_same (grouped here (drop (length types) line.inst.operands) rest) (grouped there (map (now_operand trim) (drop (length types) line.inst.operands)) others) (grouped_goes (length types))
          (take (length types) line.inst.operands) (All-take (Numbered trim) (length types) line.inst.operands numbered)
          (All-take (λ (o : Operand). value state.running.registers (trim.stands o) ≡ value state.running.registers o) (length types) line.inst.operands same) callee
          (fits_as (ops.Statepoint id callee types) is) (literals_as (ops.Statepoint id callee types) is))
      acts_same ops.Phi is = both_go _ _ skipped_goes
      acts_same ops.GcResult is = both_go _ _ skipped_goes
      acts_same ops.GcRelocate is = both_go _ _ skipped_goes
      acts_same ops.Br is = jump_same (label_at line.inst.labels 0) (leads_as ops.Br (label_at line.inst.labels 0) is by_br)
      acts_same ops.CondBr is =
          let to = label_at line.inst.labels (branch_taken (operand state.running.registers line.inst.operands 0)) in
          rw (operand_same 0) (jump_same to (leads_as ops.CondBr to is by_condition))
      acts_same ops.Switch is =
          let to = label_at line.inst.labels (case_taken (operand state.running.registers line.inst.operands 0) (drop 1 line.inst.operands)) in
          rw (operand_same 0, drop_map (now_operand trim) 1 line.inst.operands, literals_as ops.Switch is) (jump_same to (leads_as ops.Switch to is by_switch))
      acts_same ops.Ret is =
          rw (operand_same 0)
          (stepped_same one lines front registers names (Enters trims) RunsSo WaitsSo (pairs trims one lines front registers names law) here frame_now below tasks refl stack all
          (returned (width_of line.inst.ty) (operand state.running.registers line.inst.operands 0) state.below)
          (returned (width_of line.inst.ty) (operand state.running.registers line.inst.operands 0) below)
          (returned_same one lines front registers names (Enters trims) RunsSo WaitsSo (pairs trims one lines front registers names law) (record here { steps = state.steps + 1 }) frame_now below tasks refl stack all
          (width_of line.inst.ty) (operand state.running.registers line.inst.operands 0) state.below below stack))
      acts_same ops.Unreachable is =
          stepped_same one lines front registers names (Enters trims) RunsSo WaitsSo (pairs trims one lines front registers names law) here frame_now below tasks refl stack all
          (ends (ended.Trap traps.Unreachable)) (ends (ended.Trap traps.Unreachable))
          (both_end (ended.Trap traps.Unreachable) (record here { steps = state.steps + 1 }) (record there { steps = state.steps + 1 })
          (record { func = refl; steps = refl; events = refl; objects = refl; below = stack }))
      acts_same op is =
          subst (λ (result : Result Datum Trap). Same (settled_line here line rest (value_of_line one.layouts state.running.registers op line.inst.ty line.inst.operands))
          (settled_line there line_now others result)) (sym (value_same op)) (settled_same (value_of_line one.layouts state.running.registers op line.inst.ty line.inst.operands))

      access_same : (op : Op) → access_of there_setting there line_now op ≡ access_of one here line op
      access_same ops.Load = ap reading (accesses_same 0)
      access_same ops.Store = ap writing (accesses_same 1)
      access_same op = refl

      reading_kept : StepKept trims one there_setting here there
      reading_kept = at_once (acts_same line.inst.op refl) refl (access_same line.inst.op)

    skipping_kept : is_phi line.inst.op || is_member line.inst.op ≡ true → StepKept trims one there_setting here there
    skipping_kept taken =
        let one_acts = taken_acts one here line rest line.inst.op taken in
        let other_acts = taken_acts there_setting there line_now others line.inst.op taken in
        at_once
        (subst (λ (effect : Effect State). Same effect (acts there_setting there line_now others line.inst.op)) (sym one_acts.0)
        (subst (λ (effect : Effect State). Same (skipped here rest) effect) (sym other_acts.0) (both_go _ _ skipped_goes)))
        refl (other_acts.2 ∙ sym one_acts.2)

    staying_kept : StepKept trims one there_setting here there
    staying_kept = by (is_phi line.inst.op || is_member line.inst.op) refl
      where
        by : (b : Bool) → is_phi line.inst.op || is_member line.inst.op ≡ b → StepKept trims one there_setting here there
        by true taken = skipping_kept taken
        by false plain = reading_kept (reads.operands line rest refl plain)

  -- ---- a line that goes

  module _ (state : State) (line : Line) (rest others : List Line) (now : List Datum) (below : List Frame) (tasks : List (List Frame))
      (gone : IsGone one.layouts (trims state.running.func) line others) (further : Trimmed one.layouts (calls_of trims) (trims state.running.func) rest others)
      (kept : Agree (trims state.running.func) state.running.registers now) (reads : FrameReads (trims state.running.func) one (at_line state.running line rest))
      (stack : Stacks RunsSo WaitsSo state.below below) (all : AllTasks RunsSo WaitsSo state.tasks tasks) where
    abbrev at_gone : State
    at_gone = record state { running = at_line state.running line rest }

    abbrev at_others : State
    at_others = built state (image state.running others now) below tasks

    gone_kept : MayGo one.layouts (trims state.running.func).stands line.inst → StepKept trims one there_setting at_gone at_others
    gone_kept (taken_before taken) =
        let does = taken_acts one at_gone line rest line.inst.op taken in
        silent (record state { running = record state.running { rest = rest } }) does.0
        (paired (record state { running = record state.running { rest = rest } }) (image state.running others now) below tasks
        (runs one.layouts trims (record state.running { rest = rest }) others now further kept) stack all)
        does.1 does.2
    gone_kept (computing kind safe) =
        let does = computes_acts one at_gone line rest line.inst.op kind in
        let gives = safe state.running.registers
        (of_line (λ (o : Operand). value state.running.registers ((trims state.running.func).stands o) ≡ value state.running.registers o) line.inst
        (reads.operands line rest refl (computes_plainly line.inst.op kind))) in
        let next = record state.running { rest = rest; registers = put line.to gives.0 state.running.registers } in
        silent (record state { running = next }) (does.0 ∙ ap (settled_line at_gone line rest) gives.1)
        (paired (record state { running = next }) (image state.running others now) below tasks
        (runs one.layouts trims next others now further (put_unkept line.to gives.0 gone.unkept kept)) stack all)
        does.1 does.2

  -- ---- a statepoint with another group

  module _ (state : State) (group : Group) (now : List Datum) (below : List Frame) (tasks : List (List Frame)) (is : IsRegrouped (calls_of trims) (trims state.running.func) group)
      (further : Trimmed one.layouts (calls_of trims) (trims state.running.func) group.rest group.others) (kept : Agree (trims state.running.func) state.running.registers now)
      (reads : FrameReads (trims state.running.func) one (record state.running { rest = lines_in group }))
      (gives : GroupGives one.layouts (trims state.running.func) (length is.types) group state.running.registers now)
      (stack : Stacks RunsSo WaitsSo state.below below) (all : AllTasks RunsSo WaitsSo state.tasks tasks) where
    abbrev its : Trim
    its = trims state.running.func

    abbrev at_group : State
    at_group = record state { running = record state.running { rest = lines_in group } }

    abbrev frame_there : Frame
    frame_there = image state.running (lines_now group) now

    abbrev group_there : State
    group_there = built state frame_there below tasks

    abbrev count : ℕ
    count = length is.types

    abbrev operands : List Operand
    operands = group.statepoint.inst.operands

    abbrev behind_it : List Line
    behind_it = group.members ++ group.rest

    abbrev behind_now : List Line
    behind_now = group.now_members ++ (group.further ++ group.others)

    abbrev Reads : Operand → Type 0
    Reads each = value state.running.registers (its.stands each) ≡ value state.running.registers each

    all_read : All Reads (operands_of group.statepoint.inst)
    all_read = reads.operands group.statepoint behind_it refl (ap (λ (o : Op). is_phi o || is_member o) is.op)

    read_passed : All Reads (take count operands)
    read_passed = All-take Reads count operands (of_line Reads group.statepoint.inst all_read)

    group_kept : GroupKept one.layouts trims state.running group now
    group_kept = record { is = is; further = further; gives = gives; kept = kept; reads = of_bundle Reads group.statepoint.inst all_read }

    group_goes : (answer : Datum) → Goes RunsSo WaitsSo (grouped at_group (drop count operands) behind_it answer)
        (grouped group_there (drop count group.now_statepoint.inst.operands) behind_now answer)
    unfolding group_kept
    group_goes answer =
        paired (record state { running = regrouped (record state.running { rest = lines_in group }) (drop count operands) behind_it answer })
        (regrouped frame_there (drop count group.now_statepoint.inst.operands) behind_now answer) below tasks
        (grouped_runs trims one lines front registers names law state.running group now answer group_kept) stack all

    may_pass : (callee : Callee) (all_passed : List Operand) → CalleeTakes (calls_of trims) callee all_passed → FunctionStays its callee all_passed
        → Passes (Enters trims) callee all_passed (map (now_operand its) all_passed)
    may_pass (callees.Fun func) all_passed takes stays_so = takes
    may_pass callees.TaskStart all_passed takes stays_so = (takes, stays_so)
    may_pass callee all_passed takes stays_so = tt

    group_called : Same (called one at_group (grouped at_group (drop count operands) behind_it) is.callee (take count operands))
        (called there_setting group_there (grouped group_there (drop count group.now_statepoint.inst.operands) behind_now) is.callee (take count group.now_statepoint.inst.operands))
    group_called =
        rw is.arguments
        (called_same one lines front registers names (Enters trims) RunsSo WaitsSo (pairs trims one lines front registers names law) at_group frame_there below tasks
        (waits_grouped state.running group now group_kept) stack all
        (grouped at_group (drop count operands) behind_it) (grouped group_there (drop count group.now_statepoint.inst.operands) behind_now) group_goes
        (take count operands) (map (now_operand its) (take count operands)) (values_kept kept (take count operands) is.numbered read_passed)
        (λ place. operand_kept kept (take count operands) place is.numbered read_passed) is.callee (may_pass is.callee (take count operands) is.takes is.function))

    group_step : StepKept trims one there_setting at_group group_there
    group_step =
        at_once
        (subst (λ (o : Op). Same (acts one at_group group.statepoint behind_it o) (acts there_setting group_there group.now_statepoint behind_now group.now_statepoint.inst.op)) (sym is.op)
        (subst (λ (o : Op). Same (acts one at_group group.statepoint behind_it (ops.Statepoint is.id is.callee is.types)) (acts there_setting group_there group.now_statepoint behind_now o)) (sym is.now_op)
        group_called))
        (ap event_of (is.now_op ∙ sym is.op))
        (ap (access_of there_setting group_there group.now_statepoint) is.now_op ∙ sym (ap (access_of one at_group group.statepoint) is.op))

  lines_kept : (state : State) (from images : List Line) (now : List Datum) (below : List Frame) (tasks : List (List Frame)) → Trimmed one.layouts (calls_of trims) (trims state.running.func) from images
      → Agree (trims state.running.func) state.running.registers now → FrameReads (trims state.running.func) one (record state.running { rest = from })
      → GroupsRead one.layouts (calls_of trims) (trims state.running.func) (record state.running { rest = from }) (image state.running images now)
      → Stacks RunsSo WaitsSo state.below below → AllTasks RunsSo WaitsSo state.tasks tasks
      → StepKept trims one there_setting (record state { running = record state.running { rest = from } }) (built state (image state.running images now) below tasks)
  lines_kept state _ _ now below tasks no_lines kept reads groups stack all =
      at_once
      (both_end (ended.Trap traps.Unreachable) (record state { running = record state.running { rest = [] } }) (built state (image state.running [] now) below tasks)
      (record { func = refl; steps = refl; events = refl; objects = refl; below = stack }))
      refl refl
  lines_kept state _ _ now below tasks (stays line name rest others of further) kept reads groups stack all =
      staying_kept state line name rest others now below tasks of further kept reads stack all
  lines_kept state _ _ now below tasks (goes line rest others gone further) kept reads groups stack all =
      gone_kept state line rest others now below tasks gone further kept reads stack all gone.may
  lines_kept state _ _ now below tasks (regroups group is further) kept reads groups stack all =
      group_step state group now below tasks is further kept reads (groups group refl refl is kept) stack all

  -- a step from any state, where no further line stands in front
  pub state_kept : (state there : State) → Paired RunsSo WaitsSo (Settled one.layouts trims) state there → FrameReads (trims state.running.func) one state.running
      → GroupsRead one.layouts (calls_of trims) (trims state.running.func) state.running there.running → StepKept trims one there_setting state there
  state_kept _ _ (paired state _ below tasks (settled _ rest now further kept) stack all) reads groups =
      lines_kept state state.running.rest rest now below tasks further kept reads groups stack all

  -- ---- further lines that compute first

  passes_through : (state : State) (lines_first rest : List Line) (now final : List Datum) (below : List Frame) (tasks : List (List Frame)) → Computes one.layouts lines_first now final
      → PassesBy there_setting (built state (image state.running (lines_first ++ rest) now) below tasks) (built state (image state.running rest final) below tasks)
  passes_through state _ rest now _ below tasks (no_more _) = at_it (built state (image state.running rest now) below tasks)
  passes_through state _ rest now final below tasks (one_more line lines_first _ result _ kind is further) =
      let start = built state (image state.running (line ∷ (lines_first ++ rest)) now) below tasks in
      let does = computes_acts there_setting start line (lines_first ++ rest) line.inst.op kind in
      by_one start (built state (image state.running (lines_first ++ rest) (put line.to result now)) below tasks) (built state (image state.running rest final) below tasks)
      (does.0 ∙ ap (settled_line start line (lines_first ++ rest)) is) does.1 does.2
      (passes_through state lines_first rest (put line.to result now) final below tasks further)

  -- the state behind them
  pub record Behind (state start : State) : Type 0 where
    pub between : State
    pub passes : PassesBy there_setting start between
    pub pair : Paired RunsSo WaitsSo (Settled one.layouts trims) state between

  pub behind_further : (state start : State) → Goes RunsSo WaitsSo state start → Behind state start
  behind_further _ _ (paired state _ below tasks (ahead _ further rest now final trimmed computes_so kept) stack all) = record {
    between = built state (image state.running rest final) below tasks;
    passes = passes_through state further rest now final below tasks computes_so;
    pair = paired state (image state.running rest final) below tasks (settled state.running rest final trimmed kept) stack all;
  }
