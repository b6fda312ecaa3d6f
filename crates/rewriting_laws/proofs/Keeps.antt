-- The rewritten program does what the program does, step by step.
use Rattle.std.proofs.Common.{◌≡◌, ℕ, zero, suc, ◌+◌, ◌≤◌, true, false, not, eqb, List, [], ◌∷◌, ◌++◌, length, map, drop, take, refl, ap, sym, arith, inl, inr, ◌∙◌, subst, append-nil}
use Rattle.std.specs.Prelude.{Option, Some, slice_get, slice_set, Result, Ok, Err, ℤ, Bool, codes, decimal}
use Rattle.std.specs.List.{prefix_len, position, flat_map}
use Rattle.std.specs.Option.{option_map_or, option_map}
use Rattle.std.proofs.lemmas.List.{length-map}
use Rattle.std.proofs.lemmas.Bool.{cases_Bool, true≢false}
use Rattle.std.proofs.Math.Seq.{drop-append_seam, take-append_seam}
use Rattle.sp_ids.specs.declared.ends.Trap.{Trap}
use Rattle.sp_ids.specs.declared.ends.Trap.TheVariants.{Unreachable as Executed}
use Rattle.sp_ids.specs.declared.ends.End.{End}
use Rattle.sp_ids.specs.declared.ends.End.TheVariants.{Trap as Trapped, Return}
use Rattle.sp_ids.specs.Numbers.{signed}
use Rattle.ir_ast.specs.declared.types.Ty.{Ty}
use Rattle.ir_ast.specs.declared.ops.Callee.{Callee}
use Rattle.ir_ast.specs.declared.ops.Operand.{Operand}
use Rattle.ir_ast.specs.declared.ops.Operand.TheVariants.{Value, Int, Null, Fun}
use Rattle.ir_ast.specs.declared.ops.Op.{Op}
use Rattle.ir_ast.specs.declared.ops.Op.TheVariants.{Phi, Load, Store, Call, Statepoint, GcResult, GcRelocate, Br, CondBr, Switch, Ret, Unreachable}
use Rattle.ir_ast.specs.Layouts.{ObjectLayout}
use Rattle.ir_ast.specs.Ops.{is_terminator}
use Rattle.ir_ast.specs.Callees.{is_leaf}
use Rattle.ir_ast.specs.Faults.PhiEdges.{is_phi}
use Rattle.ir_ast.specs.Faults.GroupShape.{is_statepoint}
use Rattle.ir_ast.specs.Modules.{ModuleContent}
use Rattle.ir_ast.specs.Objects.{Datum, Object}
use Rattle.object_meaning.specs.Numbers.{width_of}
use Rattle.object_meaning.specs.Lines.{Line, main_of}
use Rattle.object_meaning.specs.Runs.{Next, Go, End as Over}
use Rattle.object_meaning.specs.Outcomes.{proceeds, opening}
use Rattle.object_meaning.specs.Traces.{event_of, reading, writing, access_of, events_at, accesses_at, traced}
use Rattle.object_meaning.specs.Texts.{shown, function_name, bundle_line, bundle_of, bundle_lines, closing_lines}
use Rattle.object_meaning.specs.Registers.{nothing, value, operand, put, put_all, number_in, pointer_in}
use Rattle.object_meaning.specs.States.{Frame, State, Setting}
use Rattle.object_meaning.specs.Effects.{Effect, Progress, after, printed_line, newline, goes_on, ends}
use Rattle.object_meaning.specs.Frames.{passed, is_member, regrouped, grouped, answered, resumed, entered}
use Rattle.object_meaning.specs.Tasks.{task_ended, handed_over}
use Rattle.object_meaning.specs.Computing.{value_of_line, computed}
use Rattle.object_meaning.specs.Accesses.{Place, accessed, cell_of, loaded, stored}
use Rattle.object_meaning.specs.Jumps.{phi_count, phi_write, arrived, jumped, label_at, branch_taken, case_taken, is_case}
use Rattle.object_meaning.specs.Calls.{stepped, called, function_in}
use Rattle.object_meaning.specs.Steps.{settled, loading, storing, returned, accesses, acts, steps_at, step}
use Rattle.object_meaning.proofs.RunLaws.{gone, not_over, same_over}
use Rattle.object_meaning.proofs.SimulationLaws.{happens, accessing, FollowsIn}
use Rattle.object_meaning.proofs.RegisterLaws.{puts_length}
use Rattle.rewriting_forms.specs.Numbered.{named, lines_at, is_given, is_call}
use Rattle.rewriting_forms.specs.Names.{Name, own, Names, names_at, names_at_end}
use Rattle.rewriting_forms.specs.Rewritten.{Piece, renamed, plain as plain_piece, expanded, expanded_by}
use Rattle.rewriting_laws.specs.Laws.{Edge, LeadsByEdges}
use Rattle.rewriting_laws.specs.Related.{Rewriting, IsRewriting, piece_line, Kept, FrameKept, FramesKept, no_frames, more_frames, no_tasks, more_tasks, StateKept, EffectKept, both_go, both_print, both_end, setting_of, setting_now, AreModules, frame_now, lines_now, rest_now}
use Rattle.rewriting_laws.proofs.NameLemmas.{at_rest, names_kept, is_one, is_none, call_or_not}
use Rattle.rewriting_laws.proofs.ReadLemmas.{read}
use Rattle.rewriting_laws.proofs.KeptLemmas.{value_kept, values_kept, operand_kept}
use Rattle.rewriting_laws.proofs.JumpLemmas.{one_piece, jump_each, phi_lines, lines_split, phis_count}
use Rattle.rewriting_laws.proofs.StateLemmas.{TaskKept, no_task, one_task, task_get, task_set, kept_objects, kept_frames}
use Rattle.rewriting_laws.proofs.AnswerLemmas.{answered_kept, resumed_kept}
use Rattle.rewriting_laws.proofs.CallLemmas.{entered_kept, other, built, built_kept, OperandsKept, called_kept, stepped_kept, more_steps}
use Rattle.rewriting_laws.proofs.StepLemmas.{line_kept, call_now, entries_now, after_call, rest_is_call, regrouped_kept, call_operands}
use Rattle.list_laws.proofs.Places.{drop_map}

cases_same : (number : Name → ℕ) (names : Names) (datum : Datum) (operands : List Operand) → case_taken datum (map (renamed number names) operands) ≡ case_taken datum operands
cases_same to names datum operands = ap (λ (p : Option ℕ). option_map_or (λ (place : ℕ). place + 1) p 0) (same_place operands)
  where
    same_case : (n : ℕ) (o : Operand) → is_case n (renamed to names o) ≡ is_case n o
    same_case n (Value id) = refl
    same_case n (Int word) = refl
    same_case n Null = refl
    same_case n (Fun g) = refl

    same_prefix : (operands : List Operand) → prefix_len (λ (o : Operand). not (is_case (number_in datum) o)) (map (renamed to names) operands)
        ≡ prefix_len (λ (o : Operand). not (is_case (number_in datum) o)) operands
    same_prefix [] = refl
    same_prefix (o ∷ operands) =
        let rest = same_prefix operands in
        let here = same_case (number_in datum) o in
        rw (here, rest) refl

    same_place : (operands : List Operand) → position (is_case (number_in datum)) (map (renamed to names) operands) ≡ position (is_case (number_in datum)) operands
    same_place operands = rw (same_prefix operands, length-map operands (renamed to names)) refl

function_same : (number : Name → ℕ) (names : Names) (operands : List Operand) → function_in (slice_get (map (renamed number names) operands) 0) ≡ function_in (slice_get operands 0)
function_same to names [] = refl
function_same to names (Value id ∷ operands) = refl
function_same to names (Int word ∷ operands) = refl
function_same to names (Null ∷ operands) = refl
function_same to names (Fun g ∷ operands) = refl

-- what a frame shows of a bundle
abbrev shown_of : List Datum → List (Ty × Operand) → List ℕ
shown_of registers entries = flat_map (λ (each : Ty × Operand). codes " " ++ shown each.0 (value registers each.1)) entries

abbrev shown_line : ℕ → List ℕ → List ℕ → List (List ℕ)
shown_line place name text = (codes "! " ++ decimal place ++ codes " @" ++ name ++ text ++ newline) ∷ []

entries_kept : (number : Name → ℕ) (names : Names) (live : ℕ → Bool) (registers now : List Datum)
    → ((v : ℕ) → live v ≡ true → read now (number (names v)) ≡ read registers v) → (bundle : List (Ty × Operand))
    → ((place v : ℕ) → slice_get (map (λ (entry : Ty × Operand). entry.1) bundle) place ≡ Some (named v) → live v ≡ true)
    → shown_of now (map (λ (entry : Ty × Operand). (entry.0, renamed number names entry.1)) bundle) ≡ shown_of registers bundle
entries_kept number names live registers now kept [] alive = refl
entries_kept number names live registers now kept (e ∷ es) alive =
    let first = value_kept number names live registers now kept e.1 (λ v is. alive 0 v (ap Some is)) in
    let rest = entries_kept number names live registers now kept es (λ place. alive (suc place)) in
    rw (first, rest) refl

module _ (all : ℕ → Rewriting) (content now_content : ModuleContent) (modules : AreModules all content now_content) (go : ℕ → Option ℕ) (bound : ℕ) where
  abbrev first : Setting
  first = setting_of content all go bound

  abbrev second : Setting
  second = setting_now now_content all go bound

  handed_kept : (state now : State) → StateKept all state now → (one other : Option (List Frame)) → TaskKept all one other
      → EffectKept all (handed_over state one) (handed_over now other)
  handed_kept state now kept _ _ no_task = both_end (Trapped Executed) state now kept
  handed_kept state now kept _ _ (one_task _ _ no_frames) = both_end (Trapped Executed) state now kept
  handed_kept state now kept _ _ (one_task _ _ (more_frames frame frame' below below' head rest)) =
      both_go (resumed (record state { running = frame; below = below; task = 0; tasks = slice_set state.tasks 0 [] }) nothing)
      (resumed (record now { running = frame'; below = below'; task = 0; tasks = slice_set now.tasks 0 [] }) nothing)
      (resumed_kept all modules.each (record state { running = frame; below = below; task = 0; tasks = slice_set state.tasks 0 [] })
      (record now { running = frame'; below = below'; task = 0; tasks = slice_set now.tasks 0 [] }) nothing
      (kept_frames all state now frame frame' below below' 0 (slice_set state.tasks 0 []) (slice_set now.tasks 0 []) kept head rest
      (task_set all state.tasks now.tasks 0 [] [] kept.tasks no_frames)))

  ended_kept : (state now : State) (width : ℕ) (answer : Datum) → StateKept all state now → EffectKept all (task_ended state width answer) (task_ended now width answer)
  ended_kept state now width answer kept =
      subst (λ (x : State). EffectKept all (task_ended state width answer) (task_ended x width answer)) (sym kept.is) (elim (cases_Bool (eqb state.task 0)) [
        | inl last ↦ rw last (both_end (Return (signed width (number_in answer))) state (built all content now_content modules go bound state now) (built_kept all content now_content modules go bound state now kept))
        | inr not_last ↦ rw not_last
            (handed_kept state (built all content now_content modules go bound state now) (built_kept all content now_content modules go bound state now kept) (slice_get state.tasks 0) (slice_get now.tasks 0) (task_get all state.tasks now.tasks 0 kept.tasks))
      ])

  returned_kept : (state now : State) (width : ℕ) (answer : Datum) (frames others : List Frame) → StateKept all state now → FramesKept all frames others
      → EffectKept all (returned width answer frames state) (returned width answer others now)
  returned_kept state now width answer _ _ kept no_frames = ended_kept state now width answer kept
  returned_kept state now width answer _ _ kept (more_frames caller waiting below others head rest) =
      both_go (resumed (record state { running = caller; below = below }) answer) (resumed (record now { running = waiting; below = others }) answer)
      (record {
        running = answered_kept all modules.each caller waiting answer head;
        below = rest;
        tasks = kept.tasks;
        is = ap (λ (x : State). let y : State = record x { running = answered waiting answer; below = others } in y) kept.is;
      })

  -- the running frame stands at a line
  module _ (state now : State) (state_kept : StateKept all state now) (k : ℕ) (registers : List Datum) (line : Line) (rest : List Line)
      (place : drop k (lines_at (all state.running.func).func state.running.block) ≡ line ∷ rest)
      (behind : phi_count (lines_at (all state.running.func).func state.running.block) ≤ k)
      (rest_is : state.running.rest ≡ line ∷ rest)
      (is_running : now.running ≡ frame_now (all state.running.func) state.running k registers)
      (kept : Kept (all state.running.func) state.running.block k state.running.registers registers) where
    abbrev r : Rewriting
    r = all state.running.func

    abbrev b : ℕ
    b = state.running.block

    law : IsRewriting all (all state.running.func)
    law = modules.each state.running.func

    stands : slice_get (lines_at (all state.running.func).func state.running.block) k ≡ Some line
    stands = (at_rest (lines_at (all state.running.func).func state.running.block) k line rest place).0

    next : drop (suc k) (lines_at (all state.running.func).func state.running.block) ≡ rest
    next = (at_rest (lines_at (all state.running.func).func state.running.block) k line rest place).1

    abbrev names : Names
    names = names_at r.func r.table r.naming b k

    not_phi : is_phi line.inst.op ≡ false
    not_phi = elim (cases_Bool (is_phi line.inst.op)) [
      | inr none ↦ none
      | inl phi ↦ absurd (let below = (law.plain).phis state.running.block k line stands phi in omega arith)
    ]

    registers_are : now.running.registers ≡ registers
    registers_are = ap (λ (f : Frame). f.registers) is_running

    live_operands : (at v : ℕ) → slice_get line.inst.operands at ≡ Some (named v) → r.live b k v ≡ true
    live_operands at v is = (law.closed).uses state.running.block k at v line stands not_phi is

    pub operand_same : (at : ℕ) → operand now.running.registers (map (renamed r.number names) line.inst.operands) at ≡ operand state.running.registers line.inst.operands at
    operand_same at =
        ap (λ (rs : List Datum). operand rs (map (renamed r.number names) line.inst.operands) at) registers_are
        ∙ operand_kept r.number names (r.live b k) state.running.registers registers kept.each line.inst.operands live_operands at

    pub operands_same : OperandsKept all content now_content modules go bound state.running.registers now.running.registers line.inst.operands (map (renamed r.number names) line.inst.operands)
    operands_same = record {
      words = ap (λ (rs : List Datum). map (value rs) (map (renamed r.number names) line.inst.operands)) registers_are
          ∙ values_kept r.number names (r.live b k) state.running.registers registers kept.each line.inst.operands live_operands;
      each = operand_same;
      function = function_same r.number names line.inst.operands;
    }

    -- the line that this line becomes
    abbrev pub line_now : Line
    line_now = piece_line r.text r.number (plain_piece r.func r.table r.naming r.number b k line)

    operands_now : line_now.inst.operands ≡ map (renamed r.number names) line.inst.operands
    operands_now = rw not_phi refl

    passed_same : is_call line.inst.op ≡ false → (answer : Datum)
        → StateKept all (passed state line rest answer) (passed now line_now (rest_now r b (suc k) rest) answer)
    passed_same plain answer = record {
      running = record {
        k = suc k;
        registers = put (option_map r.number (option_map own line.to)) answer registers;
        place = next;
        behind = omega (arith, behind);
        is = ap (λ (f : Frame). let g : Frame = record f { rest = rest_now r b (suc k) rest; registers = put line_now.to answer f.registers } in g) is_running;
        kept = line_kept all r law b k line state.running.registers registers answer stands plain kept;
      };
      below = state_kept.below;
      tasks = state_kept.tasks;
      is = ap (λ (x : State). let y : State = record x { running = record now.running { rest = rest_now r b (suc k) rest; registers = put line_now.to answer now.running.registers } } in y) state_kept.is;
    }

    settled_same : is_call line.inst.op ≡ false → (result : Result Datum Trap)
        → EffectKept all (settled state line rest result) (settled now line_now (rest_now r b (suc k) rest) result)
    settled_same plain (Ok word) = both_go (passed state line rest word) (passed now line_now (rest_now r b (suc k) rest) word) (passed_same plain word)
    settled_same plain (Err trap) = both_end (Trapped trap) state now state_kept

    objects_same : now.objects ≡ state.objects
    objects_same = ap (λ (x : State). x.objects) state_kept.is

    loading_same : is_call line.inst.op ≡ false → (result : Result Place Trap)
        → EffectKept all (loading state line rest result) (loading now line_now (rest_now r b (suc k) rest) result)
    loading_same plain (Err trap) = both_end (Trapped trap) state now state_kept
    loading_same plain (Ok at) =
        subst (λ (os : List Object). EffectKept all (goes_on (passed state line rest (loaded state.objects at))) (goes_on (passed now line_now (rest_now r b (suc k) rest) (loaded os at)))) (sym objects_same)
        (both_go (passed state line rest (loaded state.objects at)) (passed now line_now (rest_now r b (suc k) rest) (loaded state.objects at)) (passed_same plain (loaded state.objects at)))

    storing_same : is_call line.inst.op ≡ false → (datum : Datum) (result : Result Place Trap)
        → EffectKept all (storing state line rest datum result) (storing now line_now (rest_now r b (suc k) rest) datum result)
    storing_same plain datum (Err trap) = both_end (Trapped trap) state now state_kept
    storing_same plain datum (Ok at) =
        subst (λ (os : List Object). EffectKept all (goes_on (record (passed state line rest nothing) { objects = stored state.objects at datum }))
        (goes_on (record (passed now line_now (rest_now r b (suc k) rest) nothing) { objects = stored os at datum }))) (sym objects_same)
        (both_go (record (passed state line rest nothing) { objects = stored state.objects at datum }) (record (passed now line_now (rest_now r b (suc k) rest) nothing) { objects = stored state.objects at datum })
        (kept_objects all (passed state line rest nothing) (passed now line_now (rest_now r b (suc k) rest) nothing) (stored state.objects at datum) (passed_same plain nothing)))

    accesses_same : (at : ℕ) → accesses second now line_now at ≡ accesses first state line at
    accesses_same at =
        ap (λ (layouts : List ObjectLayout). accessed layouts now.objects (cell_of line.inst.ty) (pointer_in (operand now.running.registers line_now.inst.operands at))) modules.layouts
        ∙ ap (λ (os : List Object). accessed content.layouts os (cell_of line.inst.ty) (pointer_in (operand now.running.registers line_now.inst.operands at))) objects_same
        ∙ ap (λ (os : List Operand). accessed content.layouts state.objects (cell_of line.inst.ty) (pointer_in (operand now.running.registers os at))) operands_now
        ∙ ap (λ (d : Datum). accessed content.layouts state.objects (cell_of line.inst.ty) (pointer_in d)) (operand_same at)

    operand_now : (at : ℕ) → operand now.running.registers line_now.inst.operands at ≡ operand state.running.registers line.inst.operands at
    operand_now at = ap (λ (os : List Operand). operand now.running.registers os at) operands_now ∙ operand_same at

    end_kept : is_terminator line.inst.op ≡ true → is_call line.inst.op ≡ false → (v : ℕ) → r.live b (length (lines_at r.func b)) v ≡ true
        → read registers (r.number (names_at_end r.func r.table r.naming b v)) ≡ read state.running.registers v
    end_kept ends_block plain v alive =
        let last = (law.plain).last state.running.block k line stands ends_block in
        let none : is_given line.to v ≡ false = ap (λ (to : Option ℕ). is_given to v) last.1 in
        let here : r.live b (suc k) v ≡ true = subst (λ (x : ℕ). r.live b x v ≡ true) (sym last.0) alive in
        let name : names_at r.func r.table r.naming b (length (lines_at r.func b)) v ≡ names_at r.func r.table r.naming b k v =
        subst (λ (x : ℕ). names_at r.func r.table r.naming b x v ≡ names_at r.func r.table r.naming b k v) last.0 (names_kept r.func r.table r.naming b k line v stands none plain) in
        ap (λ (x : Name). read registers (r.number x)) name ∙ kept.each v ((law.closed).later state.running.block k v line stands none here)

    arrived_same : (to : ℕ) → is_terminator line.inst.op ≡ true → is_call line.inst.op ≡ false → Edge r.func b to
        → FrameKept r (arrived state.running to (lines_at r.func to)) (arrived now.running to (lines_now (all now.running.func) to))
    arrived_same to ends_block plain edge =
        let lines = lines_split r r.room law.plain to in
        let count = phis_count r r.room law.plain to in
        let phis = phi_lines r r.room law.plain to in
        let front = phi_count (lines_at r.func to) in
        let body = rest_now r to (phi_count (lines_at r.func to)) (drop (phi_count (lines_at r.func to)) (lines_at r.func to)) in
        let new = put_all (map (phi_write b registers) phis) registers in
        let new_before = put_all (map (phi_write b state.running.registers) (take front (lines_at r.func to))) state.running.registers in
        record {
          k = phi_count (lines_at r.func to);
          registers = put_all (map (phi_write b registers) (phi_lines r r.room law.plain to)) registers;
          place = refl;
          behind = omega arith;
          is =
              ap (λ (f : Frame). arrived f to (lines_now (all f.func) to)) is_running
              ∙ ap (λ (n : ℕ). let f : Frame = record { func = state.running.func; block = to; rest = drop n (lines_now r to); registers = put_all (map (phi_write b registers) (take n (lines_now r to))) registers } in f) count
              ∙ ap (λ (ls : List Line). let f : Frame = record { func = state.running.func; block = to; rest = drop (length phis) ls; registers = put_all (map (phi_write b registers) (take (length phis) ls)) registers } in f) lines
              ∙ ap (λ (ls : List Line). let f : Frame = record { func = state.running.func; block = to; rest = ls; registers = put_all (map (phi_write b registers) (take (length phis) (phis ++ body))) registers } in f) (drop-append_seam phis body)
              ∙ ap (λ (ls : List Line). let f : Frame = record { func = state.running.func; block = to; rest = body; registers = put_all (map (phi_write b registers) ls) registers } in f) (take-append_seam phis body);
          kept = record {
            each = jump_each r.text r.func r.table r.naming r.live law.fits r.number r.room r.now_room law.numbers law.plain law.closed b to edge state.running.registers registers
                (end_kept ends_block plain) kept.room_before kept.room_now;
            room_before = puts_length (map (phi_write b state.running.registers) (take front (lines_at r.func to))) state.running.registers ∙ kept.room_before;
            room_now = puts_length (map (phi_write b registers) phis) registers ∙ kept.room_now;
          };
        }

    jumped_same : (to : ℕ) → is_terminator line.inst.op ≡ true → is_call line.inst.op ≡ false → Edge r.func b to
        → EffectKept all (jumped first to (record state { steps = state.steps + 1 })) (jumped second to (record now { steps = now.steps + 1 }))
    jumped_same to ends_block plain edge =
        let more = more_steps all content now_content modules go bound state now state_kept in
        both_go (record state { running = arrived state.running to (lines_at r.func to); steps = state.steps + 1 })
        (record now { running = arrived now.running to (lines_now (all now.running.func) to); steps = now.steps + 1 })
        (record {
          running = arrived_same to ends_block plain edge;
          below = state_kept.below;
          tasks = state_kept.tasks;
          is = ap (λ (x : State). let y : State = record x { running = arrived now.running to (lines_now (all now.running.func) to) } in y) more.is;
        })

    jump_step : (to : ℕ) → is_terminator line.inst.op ≡ true → is_call line.inst.op ≡ false → Edge r.func b to
        → EffectKept all (stepped first state (jumped first to)) (stepped second now (jumped second to))
    jump_step to ends_block plain edge =
        stepped_kept all content now_content modules go bound state now (jumped first to) (jumped second to) state_kept (jumped_same to ends_block plain edge)

    pub plain_same : (op : Op) → line.inst.op ≡ op → is_call op ≡ false → is_phi op ≡ false → is_statepoint op ≡ false → is_member op ≡ false
        → EffectKept all (acts first state line rest op) (acts second now line_now (rest_now r b (suc k) rest) op)
    plain_same Load is other phi none member = rw (accesses_same 0) (loading_same (ap is_call is) (accesses first state line 0))
    plain_same Store is other phi none member =
        rw (accesses_same 1, operand_now 0) (storing_same (ap is_call is) (operand state.running.registers line.inst.operands 0) (accesses first state line 1))
    plain_same (Call callee types) is other phi none member =
        rw operands_now
        (called_kept all content now_content modules go bound state now (passed state line rest) (passed now line_now (rest_now r b (suc k) rest)) line.inst.operands (map (renamed r.number names) line.inst.operands)
        state_kept (passed_same (ap is_call is ∙ other)) operands_same callee (law.arguments state.running.block k line callee types stands is))
    plain_same (Statepoint id callee types) is other phi none member = absurd (true≢false none)
    plain_same Phi is other phi none member = absurd (true≢false phi)
    plain_same GcResult is other phi none member = absurd (true≢false member)
    plain_same GcRelocate is other phi none member = absurd (true≢false member)
    plain_same Br is other phi none member =
        let leads : LeadsByEdges r.func b line Br = subst (LeadsByEdges r.func b line) is ((law.plain).leads state.running.block k line stands) in
        jump_step (label_at line.inst.labels 0) (ap is_terminator is) (ap is_call is) leads
    plain_same CondBr is other phi none member =
        let leads : LeadsByEdges r.func b line CondBr = subst (LeadsByEdges r.func b line) is ((law.plain).leads state.running.block k line stands) in
        rw (operand_now 0)
        (jump_step (label_at line.inst.labels (branch_taken (operand state.running.registers line.inst.operands 0))) (ap is_terminator is) (ap is_call is) (leads (operand state.running.registers line.inst.operands 0)))
    plain_same Switch is other phi none member =
        let leads : LeadsByEdges r.func b line Switch = subst (LeadsByEdges r.func b line) is ((law.plain).leads state.running.block k line stands) in
        let cases_now : case_taken (operand state.running.registers line.inst.operands 0) (drop 1 line_now.inst.operands)
        ≡ case_taken (operand state.running.registers line.inst.operands 0) (drop 1 line.inst.operands) =
        ap (λ (os : List Operand). case_taken (operand state.running.registers line.inst.operands 0) (drop 1 os)) operands_now
        ∙ ap (case_taken (operand state.running.registers line.inst.operands 0)) (drop_map (renamed r.number names) 1 line.inst.operands)
        ∙ cases_same r.number names (operand state.running.registers line.inst.operands 0) (drop 1 line.inst.operands) in
        rw (operand_now 0, cases_now)
        (jump_step (label_at line.inst.labels (case_taken (operand state.running.registers line.inst.operands 0) (drop 1 line.inst.operands))) (ap is_terminator is) (ap is_call is) (leads (operand state.running.registers line.inst.operands 0)))
    plain_same Ret is other phi none member =
        rw (operand_now 0)
        (stepped_kept all content now_content modules go bound state now (returned (width_of line.inst.ty) (operand state.running.registers line.inst.operands 0) state.below)
        (returned (width_of line.inst.ty) (operand state.running.registers line.inst.operands 0) now.below) state_kept
        (returned_kept (record state { steps = state.steps + 1 }) (record now { steps = now.steps + 1 }) (width_of line.inst.ty) (operand state.running.registers line.inst.operands 0) state.below now.below
        (more_steps all content now_content modules go bound state now state_kept) state_kept.below))
    plain_same Unreachable is other phi none member =
        stepped_kept all content now_content modules go bound state now (ends (Trapped Executed)) (ends (Trapped Executed)) state_kept
        (both_end (Trapped Executed) (record state { steps = state.steps + 1 }) (record now { steps = now.steps + 1 }) (more_steps all content now_content modules go bound state now state_kept))
    plain_same op is other phi none member =
        let same : value_of_line now_content.layouts now.running.registers op line.inst.ty line_now.inst.operands ≡ value_of_line content.layouts state.running.registers op line.inst.ty line.inst.operands =
        ap (λ (layouts : List ObjectLayout). value_of_line layouts now.running.registers op line.inst.ty line_now.inst.operands) modules.layouts
        ∙ ap (λ (d : Datum). computed content.layouts op line.inst.ty d (operand now.running.registers line_now.inst.operands 1) (operand now.running.registers line_now.inst.operands 2)) (operand_now 0)
        ∙ ap (λ (d : Datum). computed content.layouts op line.inst.ty (operand state.running.registers line.inst.operands 0) d (operand now.running.registers line_now.inst.operands 2)) (operand_now 1)
        ∙ ap (λ (d : Datum). computed content.layouts op line.inst.ty (operand state.running.registers line.inst.operands 0) (operand state.running.registers line.inst.operands 1) d) (operand_now 2) in
        subst (λ (result : Result Datum Trap). EffectKept all (settled state line rest (value_of_line content.layouts state.running.registers op line.inst.ty line.inst.operands))
        (settled now line_now (rest_now r b (suc k) rest) result)) (sym same)
        (settled_same (ap is_call is ∙ other) (value_of_line content.layouts state.running.registers op line.inst.ty line.inst.operands))

    -- a call and its group
    call_same : (callee : Callee) (types : List Ty) (e : line.inst.op ≡ Call callee types) (not_leaf : is_leaf callee ≡ false)
        → EffectKept all (called first state (passed state line rest) callee line.inst.operands)
        (called second now (grouped now (entries_now all r law state.running k registers line rest callee types place behind kept e not_leaf)
        (after_call all r law state.running k registers line rest callee types place behind kept e not_leaf)) callee
        (take (length types) (call_now all r law state.running k registers line rest callee types place behind kept e not_leaf).inst.operands))
    call_same callee types e not_leaf =
        let call = entries_now all r law state.running k registers line rest callee types place behind kept e not_leaf in
        let after = after_call all r law state.running k registers line rest callee types place behind kept e not_leaf in
        rw (call_operands all r law state.running k registers line rest callee types place behind kept e not_leaf)
        (called_kept all content now_content modules go bound state now (passed state line rest) (grouped now call after) line.inst.operands (map (renamed r.number names) line.inst.operands)
        state_kept (λ answer. record {
          running = subst (λ (f : Frame). FrameKept r (record state.running { rest = rest; registers = put line.to answer state.running.registers }) (regrouped f call after answer)) (sym is_running)
              (regrouped_kept all r law state.running k registers line rest callee types place behind kept e not_leaf answer);
          below = state_kept.below;
          tasks = state_kept.tasks;
          is = ap (λ (x : State). let y : State = record x { running = regrouped now.running call after answer } in y) state_kept.is;
        }) operands_same callee (law.arguments state.running.block k line callee types stands e))

    pub line_same : EffectKept all (steps_at first state (line ∷ rest)) (steps_at second now (rest_now r b k (line ∷ rest)))
    line_same = elim (call_or_not line.inst.op) [
      | is_none plain ↦
          let piece = ap (λ (ps : List Piece). steps_at second now (map (piece_line r.text r.number) (ps ++ expanded r.func r.table r.naming r.number b (suc k) rest)))
          (one_piece r.func r.table r.naming r.number b k line line.inst.op plain) in
          subst (EffectKept all (steps_at first state (line ∷ rest))) (sym piece)
          (plain_same line.inst.op refl plain not_phi ((law.plain).no_statepoint state.running.block k line stands) ((law.plain).no_member state.running.block k line stands))
      | is_one callee types e not_leaf ↦
          let lines = ap (steps_at second now) (rest_is_call all r law state.running k registers line rest callee types place behind kept e not_leaf) in
          let op = ap (acts first state line rest) e in
          subst (EffectKept all (steps_at first state (line ∷ rest))) (sym lines)
          (subst (λ (effect : Effect State). EffectKept all effect (called second now (grouped now (entries_now all r law state.running k registers line rest callee types place behind kept e not_leaf)
          (after_call all r law state.running k registers line rest callee types place behind kept e not_leaf)) callee
          (take (length types) (call_now all r law state.running k registers line rest callee types place behind kept e not_leaf).inst.operands))) (sym op)
          (call_same callee types e not_leaf))
    ]

    plain_access : (op : Op) → access_of second now line_now op ≡ access_of first state line op
    plain_access Load = ap reading (accesses_same 0)
    plain_access Store = ap writing (accesses_same 1)
    plain_access _ = refl

    -- the events and accesses of a line
    pub line_traces : (events_at (rest_now r b k (line ∷ rest)) ≡ event_of line.inst.op)
        × (accesses_at second now (rest_now r b k (line ∷ rest)) ≡ access_of first state line line.inst.op)
    line_traces = elim (call_or_not line.inst.op) [
      | is_none plain ↦
          let piece = one_piece r.func r.table r.naming r.number b k line line.inst.op plain in (
            ap (λ (ps : List Piece). events_at (map (piece_line r.text r.number) (ps ++ expanded r.func r.table r.naming r.number b (suc k) rest))) piece,
            ap (λ (ps : List Piece). accesses_at second now (map (piece_line r.text r.number) (ps ++ expanded r.func r.table r.naming r.number b (suc k) rest))) piece ∙ plain_access line.inst.op,
          )
      | is_one callee types e not_leaf ↦
          let lines = rest_is_call all r law state.running k registers line rest callee types place behind kept e not_leaf in
          (ap events_at lines ∙ sym (ap event_of e), ap (accesses_at second now) lines ∙ sym (ap (access_of first state line) e))
    ]

  -- what waiting frames show
  module _ (texts : (g : ℕ) → function_name now_content g ≡ function_name content g) where
    line_bundle : (r : Rewriting) (b k : ℕ) (line : Line) (rest : List Line)
        → bundle_of (rest_now r b k (line ∷ rest)) ≡ map (λ (entry : Ty × Operand). (entry.0, renamed r.number (names_at r.func r.table r.naming b k) entry.1)) line.inst.bundle
    line_bundle r b k line rest = elim (call_or_not line.inst.op) [
      | is_none plain ↦
          ap (λ (ps : List Piece). bundle_of (map (piece_line r.text r.number) (ps ++ expanded r.func r.table r.naming r.number b (suc k) rest)))
          (one_piece r.func r.table r.naming r.number b k line line.inst.op plain)
      | is_one callee types e not_leaf ↦
          ap (λ (op : Op). bundle_of (map (piece_line r.text r.number) (expanded_by r.func r.table r.naming r.number b k line op ++ expanded r.func r.table r.naming r.number b (suc k) rest))) e
          ∙ rw not_leaf refl
    ]

    shown_same : (place g : ℕ) (registers now : List Datum) (frame waiting : Frame) (bundle others : List (Ty × Operand))
        → frame.func ≡ g → waiting.func ≡ g → frame.registers ≡ registers → waiting.registers ≡ now → length others ≡ length bundle
        → shown_of now others ≡ shown_of registers bundle
        → bundle_line (function_name now_content) place waiting others ≡ bundle_line (function_name content) place frame bundle
    shown_same place g registers now frame waiting [] [] one two three four long same = refl
    shown_same place g registers now frame waiting [] (o ∷ others) one two three four long same = absurd (omega arith)
    shown_same place g registers now frame waiting (e ∷ bundle) [] one two three four long same = absurd (omega arith)
    shown_same place g registers now frame waiting (e ∷ bundle) (o ∷ others) one two three four long same =
        ap (λ (f : ℕ). shown_line place (function_name now_content f) (shown_of waiting.registers (o ∷ others))) two
        ∙ ap (λ (name : List ℕ). shown_line place name (shown_of waiting.registers (o ∷ others))) (texts g)
        ∙ ap (λ (f : ℕ). shown_line place (function_name content f) (shown_of waiting.registers (o ∷ others))) (sym one)
        ∙ ap (λ (rs : List Datum). shown_line place (function_name content frame.func) (shown_of rs (o ∷ others))) four
        ∙ ap (λ (text : List ℕ). shown_line place (function_name content frame.func) text) same
        ∙ ap (λ (rs : List Datum). shown_line place (function_name content frame.func) (shown_of rs (e ∷ bundle))) (sym three)

    frame_shows : (place : ℕ) (frame waiting : Frame) (lines : List Line) → frame.rest ≡ lines → FrameKept (all frame.func) frame waiting
        → bundle_line (function_name now_content) place waiting (bundle_of waiting.rest) ≡ bundle_line (function_name content) place frame (bundle_of frame.rest)
    frame_shows place frame waiting [] empty kept =
        let r = all frame.func in
        let none : waiting.rest ≡ [] = ap (λ (f : Frame). f.rest) kept.is ∙ ap (λ (ls : List Line). rest_now r frame.block kept.k ls) empty in
        ap (λ (ls : List Line). bundle_line (function_name now_content) place waiting (bundle_of ls)) none
        ∙ sym (ap (λ (ls : List Line). bundle_line (function_name content) place frame (bundle_of ls)) empty)
    frame_shows place frame waiting (line ∷ rest) at kept =
        let r = all frame.func in
        let names = names_at r.func r.table r.naming frame.block kept.k in
        let stands = (at_rest (lines_at r.func frame.block) kept.k line rest (kept.place ∙ at)).0 in
        let bundle = map (λ (entry : Ty × Operand). (entry.0, renamed r.number names entry.1)) line.inst.bundle in
        let now_rest : bundle_of waiting.rest ≡ bundle = ap (λ (f : Frame). bundle_of f.rest) kept.is
        ∙ ap (λ (ls : List Line). bundle_of (rest_now r frame.block kept.k ls)) at ∙ line_bundle r frame.block kept.k line rest in
        ap (λ (es : List (Ty × Operand)). bundle_line (function_name now_content) place waiting es) now_rest
        ∙ shown_same place frame.func frame.registers kept.registers frame waiting line.inst.bundle bundle refl (ap (λ (f : Frame). f.func) kept.is) refl
        (ap (λ (f : Frame). f.registers) kept.is) (length-map line.inst.bundle (λ (entry : Ty × Operand). (entry.0, renamed r.number names entry.1)))
        (entries_kept r.number names (r.live frame.block kept.k) frame.registers kept.registers (kept.kept).each line.inst.bundle
        (λ place v is. ((modules.each frame.func).closed).held frame.block kept.k place v line stands is))
        ∙ sym (ap (λ (ls : List Line). bundle_line (function_name content) place frame (bundle_of ls)) at)

    frames_show : (place : ℕ) (frames others : List Frame) → FramesKept all frames others → bundle_lines (function_name now_content) place others ≡ bundle_lines (function_name content) place frames
    frames_show place _ _ no_frames = refl
    frames_show place _ _ (more_frames frame now frames others kept rest) =
        let here = frame_shows place frame now frame.rest refl kept in
        let behind = frames_show (place + 1) frames others rest in
        rw (here, behind) refl

    pub closing_same : (end : End) (state now : State) → StateKept all state now → closing_lines (function_name now_content) end now ≡ closing_lines (function_name content) end state
    closing_same (Trapped trap) state now kept = frames_show 1 state.below now.below kept.below
    closing_same _ state now kept = refl

  rest_traces : (state now : State) (kept : StateKept all state now) (lines : List Line) → state.running.rest ≡ lines
      → (events_at (rest_now (all state.running.func) state.running.block kept.running.k lines) ≡ events_at lines)
      × (accesses_at second now (rest_now (all state.running.func) state.running.block kept.running.k lines) ≡ accesses_at first state lines)
  rest_traces state now kept [] empty = (refl, refl)
  rest_traces state now kept (line ∷ rest) is =
      line_traces state now kept kept.running.k kept.running.registers line rest (kept.running.place ∙ is) kept.running.behind is kept.running.is kept.running.kept

  state_traces : (state now : State) → StateKept all state now
      → (events_at now.running.rest ≡ events_at state.running.rest) × (accesses_at second now now.running.rest ≡ accesses_at first state state.running.rest)
  state_traces state now kept =
      let rest : now.running.rest ≡ rest_now (all state.running.func) state.running.block kept.running.k state.running.rest = ap (λ (f : Frame). f.rest) kept.running.is in
      let both = rest_traces state now kept state.running.rest refl in
      (ap events_at rest ∙ both.0, ap (accesses_at second now) rest ∙ both.1)

  steps_same : (state now : State) (kept : StateKept all state now) (lines : List Line) → state.running.rest ≡ lines
      → EffectKept all (steps_at first state lines) (steps_at second now (rest_now (all state.running.func) state.running.block kept.running.k lines))
  steps_same state now kept [] empty = both_end (Trapped Executed) state now kept
  steps_same state now kept (line ∷ rest) is =
      line_same state now kept kept.running.k kept.running.registers line rest (kept.running.place ∙ is) kept.running.behind is kept.running.is kept.running.kept

  -- one step
  pub step_same : (state now : State) → StateKept all state now → EffectKept all (step first state) (step second now)
  unfolding step
  step_same state now kept =
      let rest : now.running.rest ≡ rest_now (all state.running.func) state.running.block kept.running.k state.running.rest = ap (λ (f : Frame). f.rest) kept.running.is in
      subst (λ (ls : List Line). EffectKept all (steps_at first state state.running.rest) (steps_at second now ls)) (sym rest)
      (steps_same state now kept state.running.rest refl)

  -- runs, with the lines that they print
  pub record ProgressKept (here there : Progress State) : Type 0 where
    pub state : StateKept all here.state there.state
    pub lines : there.lines ≡ here.lines

  pub data NextKept : Next End (Progress State) → Next End (Progress State) → Type 0 where
    next_go : (here there : Progress State) → ProgressKept here there → NextKept (Go here) (Go there)
    next_end : (end : End) (here there : Progress State) → ProgressKept here there → NextKept (Over end here) (Over end there)

  after_same : (lines : List (List ℕ)) (one other : Effect State) → EffectKept all one other → NextKept (after lines one) (after lines other)
  after_same lines _ _ (both_go state now kept) =
      next_go (record { state = state; lines = lines }) (record { state = now; lines = lines }) (record { state = kept; lines = refl })
  after_same lines _ _ (both_print word state now kept) =
      next_go (record { state = state; lines = printed_line word ∷ lines }) (record { state = now; lines = printed_line word ∷ lines }) (record { state = kept; lines = refl })
  after_same lines _ _ (both_end end state now kept) =
      next_end end (record { state = state; lines = lines }) (record { state = now; lines = lines }) (record { state = kept; lines = refl })

  proceeds_same : (here there : Progress State) → ProgressKept here there → NextKept (proceeds first here) (proceeds second there)
  unfolding proceeds
  proceeds_same here there kept =
      subst (λ (lines : List (List ℕ)). NextKept (after here.lines (step first here.state)) (after lines (step second there.state))) (sym kept.lines)
      (after_same here.lines (step first here.state) (step second there.state) (step_same here.state there.state kept.state))

  went_on : (one other : Next End (Progress State)) → NextKept one other → (next : Progress State) → one ≡ Go next
      → (there : Progress State) × (other ≡ Go there) × ProgressKept next there
  went_on _ _ (next_go here there kept) next is = (there, refl, subst (λ (p : Progress State). ProgressKept p there) (gone here next is) kept)
  went_on _ _ (next_end end here there kept) next is = absurd (not_over end here next is)

  came_out : (one other : Next End (Progress State)) → NextKept one other → (end : End) (last : Progress State) → one ≡ Over end last
      → (there : Progress State) × (other ≡ Over end there) × ProgressKept last there
  came_out _ _ (next_go here there kept) end last is = absurd (not_over end last here (sym is))
  came_out _ _ (next_end how here there kept) end last is =
      let same = same_over how end here last is in (
        there,
        ap (λ (e : End). let n : Next End (Progress State) = Over e there in n) same.end,
        subst (λ (p : Progress State). ProgressKept p there) same.last kept,
      )

  traced_once : {T : Type 0} (did : Progress State → List T) (setting : Setting) (there : Progress State)
      → traced did (proceeds setting) 1 (Go there) ≡ did there
  traced_once did setting there = append-nil (did there)

  -- the rewritten program follows the program, a step for each step
  pub follows : ((g : ℕ) → function_name now_content g ≡ function_name content g) → FollowsIn first second ProgressKept
  follows texts = record {
    on = λ now there kept next is.
        let found = went_on (proceeds first now) (proceeds second there) (proceeds_same now there kept) next is in
        let traces = state_traces now.state there.state kept.state in
        record {
          there = found.0;
          leads = record {
            count = 1;
            by = found.1;
            does_so = traced_once happens second there ∙ traces.0;
            sees_so = traced_once (accessing second) second there ∙ traces.1;
          };
          holds = found.2;
        };
    out = λ now there kept end last is.
        let found = came_out (proceeds first now) (proceeds second there) (proceeds_same now there kept) end last is in
        let traces = state_traces now.state there.state kept.state in
        record {
          there = found.0;
          leads = record {
            count = 1;
            by = found.1;
            does_so = traced_once happens second there ∙ traces.0;
            sees_so = traced_once (accessing second) second there ∙ traces.1;
          };
          holds = record {
            lines = found.2.lines;
            shown = closing_same texts end last.state found.0.state found.2.state;
            func = ap (λ (f : Frame). f.func) found.2.state.running.is;
            steps = ap (λ (s : State). s.steps) found.2.state.is;
            events = ap (λ (s : State). s.events) found.2.state.is;
            objects = ap (λ (s : State). s.objects) found.2.state.is;
          };
        };
  }

  -- the two runs begin alike
  pub begun_same : main_of now_content ≡ main_of content → (input : List ℤ) → ProgressKept (opening first input) (opening second input)
  begun_same main input = subst (λ (m : ℕ). ProgressKept (opening first input) (opened m)) (sym main) begun
    where
      opened : ℕ → Progress State
      opened m = record { state = record { running = entered second m []; below = []; task = 0; tasks = [] ∷ []; objects = []; input = input; steps = 0; events = 0 }; lines = [] }

      begun : ProgressKept (opening first input) (opened (main_of content))
      begun = record {
        state = record {
          running = entered_kept all content now_content modules go bound (main_of content) [] (omega arith);
          below = no_frames;
          tasks = more_tasks [] [] [] [] no_frames no_tasks;
          is = refl;
        };
        lines = refl;
      }
