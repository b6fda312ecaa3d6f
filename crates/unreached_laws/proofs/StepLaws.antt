-- One step of a run, and that of the run of the kept blocks.
use Rattle.std.proofs.Common.{◌≡◌, ℕ, ◌+◌, true, false, not, List, [], ◌∷◌, map, drop, refl, sym, ap, subst, ◌∙◌}
use Rattle.std.specs.Prelude.{Result, Ok, Err}
use Rattle.std.specs.List.{All, prefix_len}
use Rattle.std.proofs.lemmas.Bool.{true≢false}
use Rattle.std.proofs.lemmas.List.{drop-map, length-map}
use Rattle.std.proofs.lemmas.List.Elements.{All-head, All-tail}
use Rattle.sp_ids.specs.declared.ends.End.TheVariants as ended
use Rattle.sp_ids.specs.declared.ends.Trap.{Trap}
use Rattle.sp_ids.specs.declared.ends.Trap.TheVariants as traps
use Rattle.graph_search.specs.Paths.{Marked}
use Rattle.ir_ast.specs.declared.ops.Op.{Op}
use Rattle.ir_ast.specs.declared.ops.Op.TheVariants as ops
use Rattle.ir_ast.specs.declared.ops.Operand.{Operand}
use Rattle.ir_ast.specs.declared.ops.Operand.TheVariants as operands
use Rattle.ir_ast.specs.Faults.PhiEdges.{is_phi}
use Rattle.ir_ast.specs.Objects.{Datum}
use Rattle.ir_cfg.specs.Unreached.{Kept, operand_kept}
use Rattle.ir_cfg.proofs.KeepsPlaces.{marks_before}
use Rattle.object_meaning.specs.Accesses.{Place, accessed, cell_of, loaded, stored}
use Rattle.object_meaning.specs.Calls.{called, stepped}
use Rattle.object_meaning.specs.Computing.{computed, value_of_line}
use Rattle.object_meaning.specs.Effects.{Effect, ends}
use Rattle.object_meaning.specs.Frames.{passed}
use Rattle.object_meaning.specs.Jumps.{arrived, branch_taken, case_taken, is_case, jumped, label_at}
use Rattle.object_meaning.specs.Lines.{Line}
use Rattle.object_meaning.specs.Numbers.{width_of}
use Rattle.object_meaning.specs.Registers.{nothing, number_in, operand, pointer_in}
use Rattle.object_meaning.specs.States.{State, Setting}
use Rattle.object_meaning.specs.Steps.{accesses, acts, loading, returned, settled, skipped, steps_at, storing}
use Rattle.object_meaning.specs.Traces.{access_of, accesses_at, events_at, reading, writing}
use Rattle.unreached_laws.proofs.RegisterLaws.{operand_same, put_kept}
use Rattle.unreached_laws.proofs.Keepings.{ArgumentsFit, Keeping, KeepsBlocks, LineStays, is_grouped, leads_same, leads_to, line_kept, numbers, plain_labels, plain_leads, plain_operands, plain_stay, with_lines}
use Rattle.unreached_laws.proofs.Related.{EffectKept, FrameStays, Goes, Stays, both_end, both_go, image, image_of}
use Rattle.unreached_laws.proofs.FrameLaws.{arrived_is_image, arrived_stays}
use Rattle.unreached_laws.proofs.CallLaws.{called_kept, itself, returned_kept, step_stays, stepped_kept}

-- ---- the cases of a switch are literals

same_case : (kept : Kept) (literal : ℕ) (each : Operand) → is_case literal (operand_kept kept each) ≡ is_case literal each
same_case kept literal (operands.Value id) = refl
same_case kept literal (operands.Int word) = refl
same_case kept literal operands.Null = refl
same_case kept literal (operands.Fun func) = refl

cases_before : (kept : Kept) (literal : ℕ) (cases : List Operand)
    → prefix_len (λ each. not (is_case literal each)) (map (operand_kept kept) cases) ≡ prefix_len (λ each. not (is_case literal each)) cases
cases_before kept literal [] = refl
cases_before kept literal (each ∷ cases) = rw (same_case kept literal each, cases_before kept literal cases) refl

cases_same : (kept : Kept) (datum : Datum) (cases : List Operand) → case_taken datum (map (operand_kept kept) cases) ≡ case_taken datum cases
cases_same kept datum cases = rw (cases_before kept (number_in datum) cases, length-map cases (operand_kept kept)) refl

-- ---- a line

module _ (keepings : ℕ → Keeping) (one : Setting) (lines : ℕ → ℕ → List Line) (registers : ℕ → ℕ) (law : KeepsBlocks keepings one lines registers) where
  abbrev pub other : Setting
  other = with_lines one lines registers

  module _ (state : State) (line : Line) (rest : List Line) (stays : Stays keepings state) (first : LineStays keepings state.running.func line)
      (further : All (LineStays keepings state.running.func) rest) where
    abbrev K : Keeping
    K = keepings state.running.func

    abbrev there : State
    there = image_of keepings state

    abbrev line_there : Line
    line_there = line_kept K line

    abbrev rest_there : List Line
    rest_there = map (line_kept K) rest

    abbrev Both : Effect State → Effect State → Type 0
    Both effect other_effect = EffectKept keepings effect other_effect

    -- it goes on behind the line
    frame_stays : (registers : List Datum) → FrameStays keepings (record state.running { rest = rest; registers = registers })
    frame_stays registers = record { entry = (stays.running).entry; block = (stays.running).block; rest = further }

    passed_goes : (answer : Datum) → Goes keepings (passed state line rest answer) (passed there line_there rest_there answer)
    passed_goes answer = record {
      stays = record { running = frame_stays _; below = stays.below; tasks = stays.tasks };
      is = ap (λ registers. record there { running = record (image keepings state.running) { rest = rest_there; registers = registers } })
          (sym (put_kept K.values line.to answer state.running.registers first.result));
    }

    skipped_kept : Both (skipped state rest) (skipped there rest_there)
    skipped_kept = both_go _ _ (record { stays = record { running = frame_stays _; below = stays.below; tasks = stays.tasks }; is = refl })

    settled_kept : (result : Result Datum Trap) → Both (settled state line rest result) (settled there line_there rest_there result)
    settled_kept (Ok word) = both_go _ _ (passed_goes word)
    settled_kept (Err trap) = both_end (ended.Trap trap) state there (itself keepings one lines registers law state stays)

    loading_kept : (result : Result Place Trap) → Both (loading state line rest result) (loading there line_there rest_there result)
    loading_kept (Ok place) = both_go _ _ (passed_goes (loaded state.objects place))
    loading_kept (Err trap) = both_end (ended.Trap trap) state there (itself keepings one lines registers law state stays)

    storing_kept : (datum : Datum) (result : Result Place Trap) → Both (storing state line rest datum result) (storing there line_there rest_there datum result)
    storing_kept datum (Ok place) =
        let goes = passed_goes nothing in
        both_go _ _
        (record {
          stays = record { running = (goes.stays).running; below = (goes.stays).below; tasks = (goes.stays).tasks };
          is = ap (λ (after : State). record after { objects = stored state.objects place datum }) goes.is;
        })
    storing_kept datum (Err trap) = both_end (ended.Trap trap) state there (itself keepings one lines registers law state stays)

    jump_kept : (block block_there : ℕ) → block_there ≡ marks_before K.blocks block → Marked K.blocks block
        → Both (stepped one state (jumped one block)) (stepped other there (jumped other block_there))
    jump_kept block block_there same marked =
        stepped_kept keepings one lines registers law state stays (jumped one block) (jumped other block_there)
        (both_go _ _
        (record {
          stays = record { running = arrived_stays keepings one lines registers law state.running block stays.running marked; below = stays.below; tasks = stays.tasks };
          is = ap (λ number. record there { running = arrived (image keepings state.running) number (lines state.running.func number); steps = state.steps + 1 }) same
              ∙ ap (λ running. record there { running = running; steps = state.steps + 1 }) (arrived_is_image keepings one lines registers law state.running block stays.running marked);
        }))

    -- ---- a line that is no phi

    module _ (plain : is_phi line.inst.op ≡ false) where
      operands_same : (place : ℕ) → operand there.running.registers line_there.inst.operands place ≡ operand state.running.registers line.inst.operands place
      operands_same place =
          ap (λ all. operand there.running.registers all place) (plain_operands keepings state.running.func line first plain)
          ∙ operand_same K.values (numbers K) refl state.running.registers line.inst.operands place (plain_stay keepings state.running.func line first plain)

      accesses_same : (place : ℕ) → accesses other there line_there place ≡ accesses one state line place
      accesses_same place = ap (λ (datum : Datum). accessed one.layouts state.objects (cell_of line.inst.ty) (pointer_in datum)) (operands_same place)

      value_same : (op : Op) → value_of_line one.layouts there.running.registers op line.inst.ty line_there.inst.operands
          ≡ value_of_line one.layouts state.running.registers op line.inst.ty line.inst.operands
      value_same op =
          ap (λ (datum : Datum). computed one.layouts op line.inst.ty datum (operand there.running.registers line_there.inst.operands 1) (operand there.running.registers line_there.inst.operands 2)) (operands_same 0)
          ∙ (ap (λ (datum : Datum). computed one.layouts op line.inst.ty (operand state.running.registers line.inst.operands 0) datum (operand there.running.registers line_there.inst.operands 2)) (operands_same 1)
          ∙ ap (λ (datum : Datum). computed one.layouts op line.inst.ty (operand state.running.registers line.inst.operands 0) (operand state.running.registers line.inst.operands 1) datum) (operands_same 2))

      label_same : (place : ℕ) → label_at line_there.inst.labels place ≡ marks_before K.blocks (label_at line.inst.labels place)
      label_same place =
          ap (λ all. label_at all place) (plain_labels keepings state.running.func line first plain)
          ∙ leads_same K line.inst.labels place (plain_leads keepings state.running.func line first plain)

      label_marked : (place : ℕ) → Marked K.blocks (label_at line.inst.labels place)
      label_marked place = leads_to K.blocks line.inst.labels place (stays.running).entry (plain_leads keepings state.running.func line first plain)

      goto_kept : (place place_there : ℕ) → place_there ≡ place
          → Both (stepped one state (jumped one (label_at line.inst.labels place))) (stepped other there (jumped other (label_at line_there.inst.labels place_there)))
      goto_kept place place_there same =
          jump_kept (label_at line.inst.labels place) (label_at line_there.inst.labels place_there)
          (ap (label_at line_there.inst.labels) same ∙ label_same place) (label_marked place)

      switch_same : case_taken (operand there.running.registers line_there.inst.operands 0) (drop 1 line_there.inst.operands)
          ≡ case_taken (operand state.running.registers line.inst.operands 0) (drop 1 line.inst.operands)
      switch_same =
          ap (λ (datum : Datum). case_taken datum (drop 1 line_there.inst.operands)) (operands_same 0)
          ∙ (ap (λ all. case_taken (operand state.running.registers line.inst.operands 0) (drop 1 all)) (plain_operands keepings state.running.func line first plain)
          ∙ (ap (case_taken (operand state.running.registers line.inst.operands 0)) (drop-map (operand_kept (numbers K)) 1 line.inst.operands)
          ∙ cases_same (numbers K) (operand state.running.registers line.inst.operands 0) (drop 1 line.inst.operands)))

      storing_there : Both (acts one state line rest ops.Store) (acts other there line_there rest_there ops.Store)
      storing_there =
          rw (accesses_same 1, operands_same 0) (storing_kept (operand state.running.registers line.inst.operands 0) (accesses one state line 1))

    fits_as : (op : Op) → line.inst.op ≡ op → ArgumentsFit keepings op line.inst.operands
    fits_as op is = subst (λ (o : Op). ArgumentsFit keepings o line.inst.operands) is first.arguments

    grouped_no : (op : Op) → line.inst.op ≡ op → is_grouped op ≡ true → Both (acts one state line rest op) (acts other there line_there rest_there op)
    grouped_no op is grouped = absurd (true≢false (sym grouped ∙ (sym (ap is_grouped is) ∙ first.ungrouped)))

    acts_kept : (op : Op) → line.inst.op ≡ op → Both (acts one state line rest op) (acts other there line_there rest_there op)
    acts_kept ops.Load is = rw (accesses_same (ap is_phi is) 0) (loading_kept (accesses one state line 0))
    acts_kept ops.Store is = storing_there (ap is_phi is)
    acts_kept (ops.Call callee types) is =
        subst (λ all. Both (called one state (passed state line rest) callee line.inst.operands) (called other there (passed there line_there rest_there) callee all))
        (sym (plain_operands keepings state.running.func line first (ap is_phi is)))
        (called_kept keepings one lines registers law state stays (passed state line rest) (passed there line_there rest_there) passed_goes
        line.inst.operands (plain_stay keepings state.running.func line first (ap is_phi is)) callee (fits_as (ops.Call callee types) is))
    acts_kept (ops.Statepoint id callee types) is = grouped_no (ops.Statepoint id callee types) is refl
    acts_kept ops.GcResult is = grouped_no ops.GcResult is refl
    acts_kept ops.GcRelocate is = grouped_no ops.GcRelocate is refl
    acts_kept ops.Phi is = skipped_kept
    acts_kept ops.Br is = goto_kept (ap is_phi is) 0 0 refl
    acts_kept ops.CondBr is =
        goto_kept (ap is_phi is) (branch_taken (operand state.running.registers line.inst.operands 0)) (branch_taken (operand there.running.registers line_there.inst.operands 0))
        (ap branch_taken (operands_same (ap is_phi is) 0))
    acts_kept ops.Switch is =
        goto_kept (ap is_phi is) (case_taken (operand state.running.registers line.inst.operands 0) (drop 1 line.inst.operands))
        (case_taken (operand there.running.registers line_there.inst.operands 0) (drop 1 line_there.inst.operands)) (switch_same (ap is_phi is))
    acts_kept ops.Ret is =
        rw (operands_same (ap is_phi is) 0)
        (stepped_kept keepings one lines registers law state stays
        (returned (width_of line.inst.ty) (operand state.running.registers line.inst.operands 0) state.below)
        (returned (width_of line.inst.ty) (operand state.running.registers line.inst.operands 0) (map (image keepings) state.below))
        (returned_kept keepings one lines registers law (record state { steps = state.steps + 1 }) (step_stays keepings one lines registers law state stays)
        (width_of line.inst.ty) (operand state.running.registers line.inst.operands 0) state.below stays.below))
    acts_kept ops.Unreachable is =
        stepped_kept keepings one lines registers law state stays (ends (ended.Trap traps.Unreachable)) (ends (ended.Trap traps.Unreachable))
        (both_end (ended.Trap traps.Unreachable) (record state { steps = state.steps + 1 }) (record there { steps = state.steps + 1 })
        (itself keepings one lines registers law (record state { steps = state.steps + 1 }) (step_stays keepings one lines registers law state stays)))
    acts_kept op is =
        subst (λ (result : Result Datum Trap). Both (settled state line rest (value_of_line one.layouts state.running.registers op line.inst.ty line.inst.operands))
        (settled there line_there rest_there result)) (sym (value_same (ap is_phi is) op))
        (settled_kept (value_of_line one.layouts state.running.registers op line.inst.ty line.inst.operands))

    access_kept : (op : Op) → line.inst.op ≡ op → access_of other there line_there op ≡ access_of one state line op
    access_kept ops.Load is = ap reading (accesses_same (ap is_phi is) 0)
    access_kept ops.Store is = ap writing (accesses_same (ap is_phi is) 1)
    access_kept op is = refl

  -- ---- lines

  module _ (state : State) (stays : Stays keepings state) where
    lines_kept : (rest : List Line) → All (LineStays keepings state.running.func) rest
        → EffectKept keepings (steps_at one state rest) (steps_at other (image_of keepings state) (map (line_kept (keepings state.running.func)) rest))
    lines_kept [] all = both_end (ended.Trap traps.Unreachable) state (image_of keepings state) (itself keepings one lines registers law state stays)
    lines_kept (line ∷ rest) all =
        acts_kept state line rest stays (All-head (LineStays keepings state.running.func) line rest all) (All-tail (LineStays keepings state.running.func) line rest all) line.inst.op refl

    seen_kept : (rest : List Line) → All (LineStays keepings state.running.func) rest
        → accesses_at other (image_of keepings state) (map (line_kept (keepings state.running.func)) rest) ≡ accesses_at one state rest
    seen_kept [] all = refl
    seen_kept (line ∷ rest) all =
        access_kept state line rest stays (All-head (LineStays keepings state.running.func) line rest all) (All-tail (LineStays keepings state.running.func) line rest all) line.inst.op refl

    happens_kept : (rest : List Line) → events_at (map (line_kept (keepings state.running.func)) rest) ≡ events_at rest
    happens_kept [] = refl
    happens_kept (line ∷ rest) = refl

    -- a step from any state
    pub step_kept : EffectKept keepings (steps_at one state state.running.rest) (steps_at other (image_of keepings state) (image_of keepings state).running.rest)
    step_kept = lines_kept state.running.rest (stays.running).rest

    pub accesses_kept : accesses_at other (image_of keepings state) (image_of keepings state).running.rest ≡ accesses_at one state state.running.rest
    accesses_kept = seen_kept state.running.rest (stays.running).rest

    pub events_kept : events_at (image_of keepings state).running.rest ≡ events_at state.running.rest
    events_kept = happens_kept state.running.rest
