-- Each line that is executed is one step of both, which see the same accesses: by its operator.
use Rattle.std.proofs.Common.{◌≡◌, ℕ, false, List, [], ◌∷◌, map, refl, sym, ap, ◌∙◌, subst}
use Rattle.ir_ast.specs.declared.ops.Callee.{Callee}
use Rattle.ir_ast.specs.declared.ops.Callee.TheVariants as callees
use Rattle.ir_ast.specs.declared.ops.Op.{Op}
use Rattle.ir_ast.specs.declared.ops.Op.TheVariants as ops
use Rattle.ir_ast.specs.declared.types.Ty.{Ty}
use Rattle.ir_ast.specs.Callees.{is_leaf}
use Rattle.ir_ast.specs.Modules.{ModuleContent}
use Rattle.move_plan.specs.declared.plan_lines.PlanLine.{PlanLine}
use Rattle.move_plan.specs.Plans.{go}
use Rattle.object_meaning.specs.Lines.{Line}
use Rattle.object_meaning.specs.States.{State, Setting}
use Rattle.object_meaning.specs.Steps.{step}
use Rattle.object_meaning.specs.TargetRuns.{target_setting}
use Rattle.object_meaning.specs.Traces.{access_of, accesses_at}
use Rattle.pair_facts.specs.Faults.{plain_call}
use Rattle.pair_facts.proofs.PathLaws.{arrives_reached}
use Rattle.stackmap_write.specs.ModuleMaps.{map_of}
use Rattle.machine_meaning.specs.Code.{machinery_of}
use Rattle.machine_meaning.specs.Happenings.{access_by, accesses_by}
use Rattle.machine_meaning.specs.Machines.{Machine, Machinery}
use Rattle.machine_meaning.specs.MachineSteps.{machine_step}
use Rattle.machine_meaning.specs.Words.{worded}
use Rattle.moves_unseen.specs.States.{Extra, IsRelated, machine_of}
use Rattle.moves_unseen.specs.Steps.{StepFollows, add, sub, mul, udiv, sdiv, urem, srem, conjunction, disjunction, difference, shl, lshr, ashr, trunc, zext, sext}
use Rattle.moves_unseen.specs.Types.{IsJump, IsPlain, advances, branches, checks, chooses, compares, computes, jumps, loads, orders, prints, reads, stores, switches}
use Rattle.moves_unseen.specs.Waits.{AllLinesFollow, IsDefined, IsHelper, IsSkipped, IsSound, IsStatepointOf, MakesObject, Polls, Returns, StartsTask}
use Rattle.moves_unseen.specs.Waits as dues
use Rattle.moves_unseen.proofs.BranchSteps.{jump_follows, unreachable_follows}
use Rattle.moves_unseen.proofs.PlainSteps.{plain_follows}
use Rattle.moves_unseen.proofs.StandLaws.{line_here}
use Rattle.runs_unseen.proofs.StepLaws.{calls_follow, helpers_follow, new_objects_follow, polls_follow, returns_follow, skips_follow, tasks_follow}

module _ (content : ModuleContent) (sound : IsSound content) (plan : List PlanLine) (bound : ℕ) (state : State) (extra : Extra) (related : IsRelated content state extra)
    (line : Line) (rest : List Line) (is : state.running.rest ≡ line ∷ rest) where
  abbrev machinery : Machinery
  machinery = machinery_of content (map_of content) plan bound

  abbrev setting : Setting
  setting = target_setting content (go plan) bound

  abbrev machine : Machine
  machine = machine_of machinery state extra

  abbrev Both : Type 0
  Both = StepFollows content machinery (step setting state) (machine_step machinery machine)

  abbrev SeenByBoth : Type 0
  SeenByBoth = accesses_by machine machine.state.running.rest ≡ accesses_at setting state state.running.rest

  plain_both : IsPlain line.inst.op → Both × SeenByBoth
  plain_both due = plain_follows content sound.target sound.verified machinery setting refl refl state extra related line rest is due

  plain : (op : Op) → line.inst.op ≡ op → IsPlain op → Both
  plain op op_is due = (plain_both (subst IsPlain (sym op_is) due)).0

  jump : (op : Op) → line.inst.op ≡ op → IsJump op → Both
  jump op op_is due = jump_follows content sound.target (map_of content) plan bound state extra related line rest is (subst IsJump (sym op_is) due)

  -- a plain call of what is no leaf is no line of a verified module
  no_plain_call : (callee : Callee) (types : List Ty) → line.inst.op ≡ ops.Call callee types → is_leaf callee ≡ false → ⊥
  no_plain_call callee types op_is waits =
      sound.verified state.running.func state.running.block related.running.place 6 related.running.func related.running.at.defined
      (plain_call (arrives_reached related.running.func state.running.block related.running.at.arrived.front related.running.at.arrived.arrives) (record {
        line = line;
        stands = line_here content state.running related.running.func related.running.place related.running.pairs related.running.at line rest is;
        callee = callee;
        types = types;
        op = op_is;
        waits = waits;
      }))

  -- ---- accesses

  -- neither loads nor stores
  unseen : (op : Op) → line.inst.op ≡ op → access_of setting state line op ≡ [] → access_by machine (worded line) op ≡ [] → SeenByBoth
  unseen op op_is none there_none =
      ap (accesses_by machine) (ap (map worded) is)
      ∙ (ap (access_by machine (worded line)) op_is
      ∙ (there_none ∙ (sym none ∙ (sym (ap (access_of setting state line) op_is) ∙ sym (ap (accesses_at setting state) is)))))

  seen_by_operator : (op : Op) → line.inst.op ≡ op → SeenByBoth
  seen_by_operator ops.Load op_is = (plain_both (subst IsPlain (sym op_is) loads)).1
  seen_by_operator ops.Store op_is = (plain_both (subst IsPlain (sym op_is) stores)).1
  seen_by_operator op op_is = unseen op op_is refl refl

  -- both see the same access, or none
  pub accesses_are : SeenByBoth
  accesses_are = seen_by_operator line.inst.op refl

  -- ---- steps

  by_call : (callee : Callee) (types : List Ty) → line.inst.op ≡ ops.Call callee types → Both
  by_call callees.Check types op_is = plain (ops.Call callees.Check types) op_is (checks types)
  by_call callees.Same types op_is = plain (ops.Call callees.Same types) op_is (compares types)
  by_call callees.Print types op_is = plain (ops.Call callees.Print types) op_is (prints types)
  by_call callees.Read types op_is = plain (ops.Call callees.Read types) op_is (reads types)
  by_call (callees.Fun func) types op_is = absurd (no_plain_call (callees.Fun func) types op_is refl)
  by_call (callees.New layout) types op_is = absurd (no_plain_call (callees.New layout) types op_is refl)
  by_call callees.TaskStart types op_is = absurd (no_plain_call callees.TaskStart types op_is refl)
  by_call callees.Poll types op_is = absurd (no_plain_call callees.Poll types op_is refl)

  waits_for : (due : Callee → Type 0) (id : ℕ) (callee : Callee) (types : List Ty) → line.inst.op ≡ ops.Statepoint id callee types → due callee → IsStatepointOf due line.inst.op
  waits_for due id callee types op_is is_due = subst (IsStatepointOf due) (sym op_is) (dues.waits id callee types is_due)

  helps : (id : ℕ) (callee : Callee) (types : List Ty) → line.inst.op ≡ ops.Statepoint id callee types → IsHelper callee → Both
  helps id callee types op_is due = helpers_follow content sound plan bound state extra related line rest is (waits_for IsHelper id callee types op_is due)

  by_statepoint : (id : ℕ) (callee : Callee) (types : List Ty) → line.inst.op ≡ ops.Statepoint id callee types → Both
  by_statepoint id (callees.Fun func) types op_is =
      calls_follow content sound plan bound state extra related line rest is (waits_for IsDefined id (callees.Fun func) types op_is (dues.defined func))
  by_statepoint id (callees.New layout) types op_is =
      new_objects_follow content sound plan bound state extra related line rest is (waits_for MakesObject id (callees.New layout) types op_is (dues.makes layout))
  by_statepoint id callees.TaskStart types op_is =
      tasks_follow content sound plan bound state extra related line rest is (waits_for StartsTask id callees.TaskStart types op_is dues.starts)
  by_statepoint id callees.Poll types op_is =
      polls_follow content sound plan bound state extra related line rest is (waits_for Polls id callees.Poll types op_is dues.polls)
  by_statepoint id callees.Print types op_is = helps id callees.Print types op_is dues.prints
  by_statepoint id callees.Read types op_is = helps id callees.Read types op_is dues.reads
  by_statepoint id callees.Check types op_is = helps id callees.Check types op_is dues.checks
  by_statepoint id callees.Same types op_is = helps id callees.Same types op_is dues.compares

  skip : (op : Op) → line.inst.op ≡ op → IsSkipped op → Both
  skip op op_is due = skips_follow content sound plan bound state extra related line rest is (subst IsSkipped (sym op_is) due)

  by_operator : (op : Op) → line.inst.op ≡ op → Both
  by_operator ops.Add op_is = plain ops.Add op_is (computes ops.Add add)
  by_operator ops.Sub op_is = plain ops.Sub op_is (computes ops.Sub sub)
  by_operator ops.Mul op_is = plain ops.Mul op_is (computes ops.Mul mul)
  by_operator ops.Udiv op_is = plain ops.Udiv op_is (computes ops.Udiv udiv)
  by_operator ops.Sdiv op_is = plain ops.Sdiv op_is (computes ops.Sdiv sdiv)
  by_operator ops.Urem op_is = plain ops.Urem op_is (computes ops.Urem urem)
  by_operator ops.Srem op_is = plain ops.Srem op_is (computes ops.Srem srem)
  by_operator ops.And op_is = plain ops.And op_is (computes ops.And conjunction)
  by_operator ops.Or op_is = plain ops.Or op_is (computes ops.Or disjunction)
  by_operator ops.Xor op_is = plain ops.Xor op_is (computes ops.Xor difference)
  by_operator ops.Shl op_is = plain ops.Shl op_is (computes ops.Shl shl)
  by_operator ops.Lshr op_is = plain ops.Lshr op_is (computes ops.Lshr lshr)
  by_operator ops.Ashr op_is = plain ops.Ashr op_is (computes ops.Ashr ashr)
  by_operator (ops.Icmp pred) op_is = plain (ops.Icmp pred) op_is (orders pred)
  by_operator (ops.Trunc width) op_is = plain (ops.Trunc width) op_is (computes (ops.Trunc width) (trunc width))
  by_operator (ops.Zext width) op_is = plain (ops.Zext width) op_is (computes (ops.Zext width) (zext width))
  by_operator (ops.Sext width) op_is = plain (ops.Sext width) op_is (computes (ops.Sext width) (sext width))
  by_operator ops.Select op_is = plain ops.Select op_is chooses
  by_operator ops.Phi op_is = skip ops.Phi op_is dues.phi
  by_operator (ops.Gep elem index_width field) op_is = plain (ops.Gep elem index_width field) op_is (advances elem index_width field)
  by_operator ops.Load op_is = plain ops.Load op_is loads
  by_operator ops.Store op_is = plain ops.Store op_is stores
  by_operator (ops.Call callee types) op_is = by_call callee types op_is
  by_operator (ops.Statepoint id callee types) op_is = by_statepoint id callee types op_is
  by_operator ops.GcResult op_is = skip ops.GcResult op_is dues.result
  by_operator ops.GcRelocate op_is = skip ops.GcRelocate op_is dues.relocate
  by_operator ops.Br op_is = jump ops.Br op_is jumps
  by_operator ops.CondBr op_is = jump ops.CondBr op_is branches
  by_operator ops.Switch op_is = jump ops.Switch op_is switches
  by_operator ops.Ret op_is = returns_follow content sound plan bound state extra related line rest is (subst Returns (sym op_is) dues.returns)
  by_operator ops.Unreachable op_is = unreachable_follows content sound.target (map_of content) plan bound state extra related line rest is op_is

-- each line that is executed
pub all_lines_follow : AllLinesFollow
all_lines_follow = λ content sound plan bound state extra related line rest is due. by_operator content sound plan bound state extra related line rest is line.inst.op refl
