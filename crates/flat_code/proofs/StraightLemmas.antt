-- What decoded lines do is what the lines of the module do, one step each.
use Rattle.std.proofs.Common.{◌≡◌, ℕ, zero, suc, ◌+◌, ◌*◌, ◌%◌, ◌^◌, true, inl, inr, List, [], ◌∷◌, ◌++◌, refl, sym, ap, subst, ◌∙◌, Some, None, Result, Ok, Err, arith}
use Rattle.std.specs.Prelude.{slice_get, unwrap_or}
use Rattle.std.specs.Option.{option_map_or}
use Rattle.std.specs.Int.{w64, cast_unsigned}
use Rattle.std.proofs.Math.Nat.{add-mod-mod, mod-add-mod}
use Rattle.std.proofs.lemmas.Nat.{mul-mod_second}
use Rattle.sp_ids.specs.Numbers.{signed}
use Rattle.sp_ids.specs.declared.ends.End.{End}
use Rattle.sp_ids.specs.declared.ends.End.TheVariants.{Trap as Trapped}
use Rattle.sp_ids.specs.declared.ends.Trap.{Trap}
use Rattle.ir_ast.specs.declared.types.Ty.{Ty}
use Rattle.ir_ast.specs.declared.types.Ty.TheVariants.{Void, Int as Integer, Ptr, Token}
use Rattle.ir_ast.specs.declared.ops.Op.{Op}
use Rattle.ir_ast.specs.declared.ops.Op.TheVariants.{Add, Sub, Mul, Udiv, Sdiv, Urem, Srem, And, Or, Xor, Shl, Lshr, Ashr, Icmp, Trunc, Zext, Sext, Select, Gep, Load, Store, Phi}
use Rattle.ir_ast.specs.declared.ops.Pred.{Pred}
use Rattle.ir_ast.specs.declared.ops.Operand.{Operand}
use Rattle.ir_ast.specs.declared.ops.Operand.TheVariants.{Int}
use Rattle.ir_ast.specs.Faults.PhiEdges.{is_phi}
use Rattle.ir_ast.specs.Layouts.{ObjectLayout}
use Rattle.ir_ast.specs.Objects.{Datum, pointer}
use Rattle.object_meaning.specs.Lines.{Line}
use Rattle.object_meaning.specs.Numbers.{width_of}
use Rattle.object_meaning.specs.Registers.{nothing, value, operand, pointer_in, number_in}
use Rattle.object_meaning.specs.Computing.{computed, value_of_line, element_bytes, field_bytes}
use Rattle.object_meaning.specs.Accesses.{Place}
use Rattle.object_meaning.specs.Runs.{Go, Next, goes, advance, Reaches}
use Rattle.object_meaning.specs.States.{State, Setting}
use Rattle.object_meaning.specs.Effects.{goes_on, ends, after, Progress}
use Rattle.object_meaning.specs.Outcomes.{proceeds}
use Rattle.object_meaning.specs.Steps.{step, acts, settled, loading, storing}
use Rattle.object_meaning.proofs.ListLemmas.{known}
use Rattle.object_meaning.proofs.StepLaws.{step_is}
use Rattle.flat_code.specs.Actions.{acted}
use Rattle.flat_code.specs.Flats.{is_straight, comparison, action_of, width_at, operand_at, flat_line, flat_lines, AreInner, Held, computes, loads, stores, acts_on, line_done, and_then, lines_done}
use Rattle.flat_code.specs.Straight.{held_of, stood, held_effect, Passes, IsAlike, TrapsAt}
use Rattle.object_meaning.proofs.SimulationLaws.{goes_on as goes_add}

-- ---- what an action computes

compared : (layouts : List ObjectLayout) (pred : Pred) (ty : Ty) (a b c : Datum) → acted (comparison pred ty) (width_of ty) a b c ≡ computed layouts (Icmp pred) ty a b c
compared layouts pred Void a b c = refl
compared layouts pred (Integer width) a b c = refl
compared layouts pred Ptr a b c = refl
compared layouts pred Token a b c = refl

pub reduced : (from times bytes rest m : ℕ) → (from + (times * (bytes % m) + rest)) % m ≡ (from + (times * bytes + rest)) % m
reduced from times bytes rest m =
    sym (add-mod-mod from (times * (bytes % m) + rest) m)
    ∙ ap (λ (n : ℕ). (from + n) % m) (sym (mod-add-mod (times * (bytes % m)) m rest)
    ∙ ap (λ (n : ℕ). (n + rest) % m) (mul-mod_second times bytes m) ∙ mod-add-mod (times * bytes) m rest)
    ∙ add-mod-mod from (times * bytes + rest) m

acted_is : (layouts : List ObjectLayout) (op : Op) (ty : Ty) (a b c : Datum) → acted (action_of layouts op ty) (width_at op ty) a b c ≡ computed layouts op ty a b c
acted_is layouts (Icmp pred) ty a b c = compared layouts pred ty a b c
acted_is layouts (Gep elem index_width place) ty a b c =
    ap (λ (offset : ℕ). let d : Result Datum Trap = Ok (pointer (record (pointer_in a) { offset = offset })) in d)
    (reduced (pointer_in a).offset (cast_unsigned w64 (signed (width_of (Integer index_width)) (number_in b))) (element_bytes layouts elem) (field_bytes layouts elem place) (2 ^ 64))
acted_is layouts _ ty a b c = refl

-- ---- a line

settle : (state : State) (line : Line) (rest : List Line) (one other : Result Datum Trap) → one ≡ other
    → settled state line rest other ≡ held_effect state rest (computes (held_of state) line.to one)
settle state line rest (Ok datum) other e = ap (settled state line rest) (sym e)
settle state line rest (Err trap) other e = ap (settled state line rest) (sym e)

load_effect : (state : State) (line : Line) (rest : List Line) (found : Result Place Trap)
    → loading state line rest found ≡ held_effect state rest (loads (held_of state) line.to found)
load_effect state line rest (Ok place) = refl
load_effect state line rest (Err trap) = refl

store_effect : (state : State) (line : Line) (rest : List Line) (datum : Datum) (found : Result Place Trap)
    → storing state line rest datum found ≡ held_effect state rest (stores (held_of state) line.to datum found)
store_effect state line rest datum (Ok place) = refl
store_effect state line rest datum (Err trap) = refl

abbrev computes_so : Setting → State → Line → List Line → Op → Type 0
computes_so setting state line rest op =
    settled state line rest (value_of_line setting.layouts state.running.registers op line.inst.ty line.inst.operands)
    ≡ held_effect state rest (computes (held_of state) line.to (acted (action_of setting.layouts op line.inst.ty) (width_at op line.inst.ty)
    (operand state.running.registers line.inst.operands 0) (operand state.running.registers line.inst.operands 1) (operand state.running.registers line.inst.operands 2)))

compute_effect : (setting : Setting) (state : State) (line : Line) (rest : List Line) (op : Op) → computes_so setting state line rest op
compute_effect setting state line rest op =
    let a = operand state.running.registers line.inst.operands 0 in let b = operand state.running.registers line.inst.operands 1 in
    let c = operand state.running.registers line.inst.operands 2 in
    settle state line rest (acted (action_of setting.layouts op line.inst.ty) (width_at op line.inst.ty) a b c) (computed setting.layouts op line.inst.ty a b c)
    (acted_is setting.layouts op line.inst.ty a b c)

-- both comparisons are no access
compare_effect : (setting : Setting) (state : State) (line : Line) (rest : List Line) (pred : Pred) (ty : Ty) (a b c : Datum)
    → settled state line rest (computed setting.layouts (Icmp pred) ty a b c)
    ≡ held_effect state rest (acts_on setting.layouts (held_of state) line.to (width_of ty) a b c (comparison pred ty))
compare_effect setting state line rest pred Void a b c = refl
compare_effect setting state line rest pred (Integer width) a b c = refl
compare_effect setting state line rest pred Ptr a b c = refl
compare_effect setting state line rest pred Token a b c = refl

acts_is : (setting : Setting) (state : State) (line : Line) (rest : List Line) (op : Op) → is_straight op ≡ true
    → acts setting state line rest op
    ≡ held_effect state rest (acts_on setting.layouts (held_of state) line.to (width_at op line.inst.ty)
    (operand state.running.registers line.inst.operands 0) (operand state.running.registers line.inst.operands 1)
    (operand state.running.registers line.inst.operands 2) (action_of setting.layouts op line.inst.ty))
acts_is setting state line rest Add e = compute_effect setting state line rest Add
acts_is setting state line rest Sub e = compute_effect setting state line rest Sub
acts_is setting state line rest Mul e = compute_effect setting state line rest Mul
acts_is setting state line rest Udiv e = compute_effect setting state line rest Udiv
acts_is setting state line rest Sdiv e = compute_effect setting state line rest Sdiv
acts_is setting state line rest Urem e = compute_effect setting state line rest Urem
acts_is setting state line rest Srem e = compute_effect setting state line rest Srem
acts_is setting state line rest And e = compute_effect setting state line rest And
acts_is setting state line rest Or e = compute_effect setting state line rest Or
acts_is setting state line rest Xor e = compute_effect setting state line rest Xor
acts_is setting state line rest Shl e = compute_effect setting state line rest Shl
acts_is setting state line rest Lshr e = compute_effect setting state line rest Lshr
acts_is setting state line rest Ashr e = compute_effect setting state line rest Ashr
acts_is setting state line rest (Icmp pred) e = compare_effect setting state line rest pred line.inst.ty (operand state.running.registers line.inst.operands 0)
    (operand state.running.registers line.inst.operands 1) (operand state.running.registers line.inst.operands 2)
acts_is setting state line rest (Trunc to) e = compute_effect setting state line rest (Trunc to)
acts_is setting state line rest (Zext to) e = compute_effect setting state line rest (Zext to)
acts_is setting state line rest (Sext to) e = compute_effect setting state line rest (Sext to)
acts_is setting state line rest Select e = compute_effect setting state line rest Select
acts_is setting state line rest (Gep elem index_width place) e = compute_effect setting state line rest (Gep elem index_width place)
acts_is setting state line rest Load e = load_effect state line rest _
acts_is setting state line rest Store e = store_effect state line rest (operand state.running.registers line.inst.operands 0) _
acts_is setting state line rest _ e = cc

pub value_at : (registers : List Datum) (operands : List Operand) (place : ℕ) → value registers (operand_at operands place) ≡ operand registers operands place
value_at registers operands place =
    elim (slice_get operands place) as (λ found. value registers (unwrap_or found (Int 0)) ≡ option_map_or (value registers) found nothing) [
      | None ↦ refl
      | Some one ↦ refl
    ]

-- the step at a straight line does what the decoded line does
pub step_straight : (setting : Setting) (state : State) (line : Line) (rest : List Line) → state.running.rest ≡ line ∷ rest → is_straight line.inst.op ≡ true
    → step setting state ≡ held_effect state rest (line_done setting.layouts (held_of state) (flat_line setting.layouts line))
step_straight setting state line rest there straight =
    let registers = state.running.registers in let os = line.inst.operands in
    let done : Datum → Datum → Datum → Result Held Trap = λ a b c.
    acts_on setting.layouts (held_of state) line.to (width_at line.inst.op line.inst.ty) a b c (action_of setting.layouts line.inst.op line.inst.ty) in
    step_is setting state line rest there ∙ acts_is setting state line rest line.inst.op straight
    ∙ ap (held_effect state rest)
    (ap (λ (a : Datum). done a (operand registers os 1) (operand registers os 2)) (sym (value_at registers os 0))
    ∙ ap (λ (b : Datum). done (value registers (operand_at os 0)) b (operand registers os 2)) (sym (value_at registers os 1))
    ∙ ap (λ (c : Datum). done (value registers (operand_at os 0)) (value registers (operand_at os 1)) c) (sym (value_at registers os 2)))

phi_acts : (setting : Setting) (state : State) (line : Line) (rest : List Line) (op : Op) → is_phi op ≡ true
    → acts setting state line rest op ≡ goes_on (stood state rest (held_of state))
phi_acts setting state line rest Phi e = refl
phi_acts setting state line rest _ e = cc

step_phi : (setting : Setting) (state : State) (line : Line) (rest : List Line) → state.running.rest ≡ line ∷ rest → is_phi line.inst.op ≡ true
    → step setting state ≡ goes_on (stood state rest (held_of state))
step_phi setting state line rest there phi = step_is setting state line rest there ∙ phi_acts setting state line rest line.inst.op phi

-- ---- runs

pub reaches_by : {E A : Type 0} (step : A → Next E A) (start now next : A) → Reaches {E = E} step start now → Reaches {E = E} step now next → Reaches {E = E} step start next
reaches_by step start now next one other = record {
  after = one.after + other.after;
  by = goes_add step one.after other.after (Go start) ∙ ap (goes step other.after) one.by ∙ other.by;
}

pub passes_here : (setting : Setting) (state : State) → Passes setting state state
passes_here setting state = record { by = λ lines. record { after = 0; by = refl } }

pub passes_more : (setting : Setting) (one next last : State) → step setting one ≡ goes_on next → Passes setting next last → Passes setting one last
unfolding proceeds
passes_more setting one next last e passes = record {
  by = λ lines. record {
    after = suc (passes.by lines).after;
    by = ap (λ (first : Next End (Progress State)). goes (proceeds setting) (passes.by lines).after first) (ap (after lines) e) ∙ (passes.by lines).by;
  };
}

pub alike_same : (state : State) → IsAlike state state
alike_same state = record { func = refl; below = refl; steps = refl; events = refl }

traps_more : (setting : Setting) (one next : State) (trap : Trap) → step setting one ≡ goes_on next → IsAlike next one → TrapsAt setting next trap → TrapsAt setting one trap
traps_more setting one next trap e alike traps = record {
  last = traps.last;
  passes = passes_more setting one next traps.last e traps.passes;
  ends_so = traps.ends_so;
  alike = record {
    func = traps.alike.func ∙ alike.func;
    below = traps.alike.below ∙ alike.below;
    steps = traps.alike.steps ∙ alike.steps;
    events = traps.alike.events ∙ alike.events;
  };
}

-- a straight line that is done, and the rest
line_passes : (setting : Setting) (state : State) (held : Held) (line : Line) (lines rest : List Line) (done : Result Held Trap)
    → step setting state ≡ held_effect state lines done → and_then done (λ next. lines_done setting.layouts next (flat_lines setting.layouts rest)) ≡ Ok held
    → (last : Held → State)
    → ((next : Held) → lines_done setting.layouts next (flat_lines setting.layouts rest) ≡ Ok held → Passes setting (stood state lines next) (last held))
    → Passes setting state (last held)
line_passes setting state held line lines rest (Ok next) e done last more = passes_more setting state (stood state lines next) (last held) e (more next done)
line_passes setting state held line lines rest (Err trap) e done last more = absurd (let no : Err trap ≡ Ok held = done in cc)

line_traps : (setting : Setting) (state : State) (trap : Trap) (lines rest : List Line) (done : Result Held Trap)
    → step setting state ≡ held_effect state lines done → and_then done (λ next. lines_done setting.layouts next (flat_lines setting.layouts rest)) ≡ Err trap
    → ((next : Held) → lines_done setting.layouts next (flat_lines setting.layouts rest) ≡ Err trap → TrapsAt setting (stood state lines next) trap)
    → TrapsAt setting state trap
line_traps setting state trap lines rest (Ok next) e done more =
    traps_more setting state (stood state lines next) trap e (record { func = refl; below = refl; steps = refl; events = refl }) (more next done)
line_traps setting state trap lines rest (Err other) e done more =
    let same : other ≡ trap = cc in
    record { last = state; passes = passes_here setting state; ends_so = e ∙ ap (λ (t : Trap). ends (Trapped t) state) same; alike = alike_same state }

-- what a straight part did is that the run comes behind it
pub straight_passes : (setting : Setting) (front rest : List Line) (state : State) (held : Held) → AreInner front → state.running.rest ≡ front ++ rest
    → lines_done setting.layouts (held_of state) (flat_lines setting.layouts front) ≡ Ok held → Passes setting state (stood state rest held)
straight_passes setting [] rest state held inner there done =
    let is : held_of state ≡ held = cc in
    let same : stood state rest held ≡ state =
    ap (λ (h : Held). stood state rest h) (sym is) ∙ ap (λ (lines : List Line). stood state lines (held_of state)) (sym there) in
    subst (Passes setting state) (sym same) (passes_here setting state)
straight_passes setting (line ∷ front) rest state held inner there done = elim (known (is_phi line.inst.op)) [
  | inl phi ↦
      let next = stood state (front ++ rest) (held_of state) in
      passes_more setting state next (stood state rest held) (step_phi setting state line (front ++ rest) there phi)
      (straight_passes setting front rest next held inner.1 refl (rw phi at done))
  | inr plain ↦
      line_passes setting state held line (front ++ rest) front (line_done setting.layouts (held_of state) (flat_line setting.layouts line))
      (step_straight setting state line (front ++ rest) there (rw plain at inner.0)) (rw plain at done) (λ (h : Held). stood state rest h)
      (λ next e. straight_passes setting front rest (stood state (front ++ rest) next) held inner.1 refl e)
]

pub straight_traps : (setting : Setting) (front rest : List Line) (state : State) (trap : Trap) → AreInner front → state.running.rest ≡ front ++ rest
    → lines_done setting.layouts (held_of state) (flat_lines setting.layouts front) ≡ Err trap → TrapsAt setting state trap
straight_traps setting [] rest state trap inner there done = absurd (let no : Ok (held_of state) ≡ Err trap = done in cc)
straight_traps setting (line ∷ front) rest state trap inner there done = elim (known (is_phi line.inst.op)) [
  | inl phi ↦
      let next = stood state (front ++ rest) (held_of state) in
      traps_more setting state next trap (step_phi setting state line (front ++ rest) there phi) (record { func = refl; below = refl; steps = refl; events = refl })
      (straight_traps setting front rest next trap inner.1 refl (rw phi at done))
  | inr plain ↦
      line_traps setting state trap (front ++ rest) front (line_done setting.layouts (held_of state) (flat_line setting.layouts line))
      (step_straight setting state line (front ++ rest) there (rw plain at inner.0)) (rw plain at done)
      (λ next e. straight_traps setting front rest (stood state (front ++ rest) next) trap inner.1 refl e)
]
