-- A worked function and what is left of it: `%a = add i64 2, 3`, `call void @print_i64(i64 %a)`, `ret i64 0` without the first
-- line, where 5 stands for `%a`; both are run.
use Rattle.std.proofs.Common.{◌≡◌, ℕ, true, false, List, [], ◌∷◌, ◌++◌, Option, Some, None, refl, codes, pos, arith}
use Rattle.std.proofs.lemmas.Bool.{false≢true}
use Rattle.std.proofs.lemmas.List.Elements.{All-cons, All-nil}
use Rattle.list_laws.proofs.Contents.{all_one}
use Rattle.sp_ids.specs.declared.ends.End.TheVariants as ended
use Rattle.ir_ast.specs.declared.cells.Cell.TheVariants as cells
use Rattle.ir_ast.specs.declared.ops.Callee.TheVariants as callees
use Rattle.ir_ast.specs.declared.ops.Elem.TheVariants as elems
use Rattle.ir_ast.specs.declared.ops.Op.{Op}
use Rattle.ir_ast.specs.declared.ops.Op.TheVariants as ops
use Rattle.ir_ast.specs.declared.ops.Operand.{Operand}
use Rattle.ir_ast.specs.declared.ops.Operand.TheVariants.{Int as Literal, Value}
use Rattle.ir_ast.specs.declared.types.Ty.{Ty}
use Rattle.ir_ast.specs.declared.types.Ty.TheVariants.{Int, Ptr, Void}
use Rattle.ir_ast.specs.Insts.{Instruction}
use Rattle.ir_ast.specs.Objects.{Datum, number, pointer}
use Rattle.ir_ast.specs.Ops.{is_member}
use Rattle.ir_ast.specs.Sizes.{laid, size_of}
use Rattle.object_meaning.specs.Accesses.{field_at}
use Rattle.object_meaning.specs.Effects.{printed_line}
use Rattle.object_meaning.specs.Lines.{Line}
use Rattle.object_meaning.specs.Outcomes.{Gives, Outcome, proceeds}
use Rattle.object_meaning.specs.Registers.{nothing}
use Rattle.object_meaning.specs.SourceRuns.{no_go}
use Rattle.object_meaning.specs.States.{Setting}
use Rattle.object_meaning.specs.Steps.{step}
use Rattle.object_meaning.specs.TargetRuns.{plain_lines}
use Rattle.object_meaning.specs.Traces.{at_new, at_poll, writes}
use Rattle.object_meaning.proofs.OutcomeLaws.{gives_within}
use Rattle.trimmed_laws.specs.Groups.{Group, GroupGives, IsRegrouped, no_more, one_more}
use Rattle.trimmed_laws.specs.Trims.{IsNumbered, IsTrim, Trim, calls_of, computing}
use Rattle.trimmed_laws.specs.Trimmed.{Trimmed, goes, no_lines, stays}

abbrev value : ℕ → Operand
value register = Value (record { 0 = register })

abbrev literal : ℕ → Operand
literal word = Literal word

abbrev line : Option (List ℕ) → Op → Ty → List Operand → Instruction
line result op ty operands = record { result = result; op = op; ty = ty; operands = operands; labels = []; bundle = [] }

abbrev sum : Instruction
sum = line (Some []) ops.Add (Int 64) (literal 2 ∷ literal 3 ∷ [])

abbrev print : Operand → Instruction
print operand = line None (ops.Call callees.Print (Int 64 ∷ [])) Void (operand ∷ [])

abbrev return : Operand → Instruction
return operand = line None ops.Ret (Int 64) (operand ∷ [])

abbrev whole : List Line
whole = plain_lines 0 (sum ∷ print (value 0) ∷ return (literal 0) ∷ [])

abbrev left : List Line
left = plain_lines 0 (print (literal 5) ∷ return (literal 0) ∷ [])

-- its only register isn't kept, and 5 stands for it
abbrev stands : Operand → Operand
stands (Value id) = literal 5
stands operand = operand

abbrev trim : Trim
trim = record {
  renaming = record { called = true; arguments = 0; room = 1; now_room = 0; number = λ register. register; entered = λ block. true };
  kept = λ register. false;
  stands = stands;
  regroups = false;
}

is_trim : IsTrim trim
is_trim = record {
  apart = λ one other one_has other_has same. same;
  within = λ register has. absurd (false≢true has.1);
  few_arguments = omega arith;
  arguments = λ register below. absurd (omega arith);
}

-- the first line goes, and the others stay
is_left : Trimmed [] (calls_of (λ func. trim)) trim whole left
is_left =
    goes _ _ _
    (record { may = computing refl (λ registers same. (number 5, refl)); unkept = refl; phis = λ other. refl; members = λ other. refl })
    (stays _ None _ _ (record { result = tt; operands = all_one (λ (o : Operand). IsNumbered trim (stands o)) (value 0) tt; arguments = tt; literals = tt })
    (stays _ None _ _ (record { result = tt; operands = all_one (λ (o : Operand). IsNumbered trim (stands o)) (literal 0) tt; arguments = tt; literals = tt }) no_lines))

-- a line that stays would be one with a number
no_number : IsNumbered trim (value 0) → ⊥
no_number has = false≢true has.1

abbrev setting : List Line → ℕ → Setting
setting lines registers = record {
  lines = λ func block. lines;
  front = [];
  registers = λ func. registers;
  layouts = [];
  main = 0;
  names = λ func. codes "main";
  go = no_go;
  bound = 1;
}

abbrev outcome : Outcome
outcome = record {
  lines = printed_line 5 ∷ [];
  end = ended.Return (pos 0);
  func = 0;
  steps = 1;
  events = 0;
  printed = 1;
  happened = [];
  accesses = [];
  objects = [];
}

whole_gives : Gives (setting whole 1) [] outcome
unfolding proceeds step printed_line
whole_gives = gives_within (setting whole 1) [] 5 outcome refl

-- in one step of the run less, and none of those that are counted
left_gives : Gives (setting left 0) [] outcome
unfolding proceeds step printed_line
left_gives = gives_within (setting left 0) [] 4 outcome refl

-- ---- a statepoint with another group

-- `gc.statepoint(.. @gc_poll ..) [ "gc-live"(P %o, P %d) ]` with the relocates of both, where `%d = getelementptr i8, P %o, i64 8`
abbrev statepoint : List Operand → Line
statepoint entries = record { to = Some 2; inst = line (Some []) (ops.Statepoint 0 callees.Poll []) Void entries }

abbrev relocate : ℕ → ℕ → Line
relocate to place = record { to = Some to; inst = line (Some []) ops.GcRelocate Ptr (value 2 ∷ literal 0 ∷ literal place ∷ []) }

abbrev step_of : ℕ → Operand → Line
step_of to from = record { to = Some to; inst = line (Some []) (ops.Gep (elems.Int 8) 64 None) Ptr (from ∷ literal 8 ∷ []) }

-- the derived pointer is no entry there, and is computed again behind
abbrev group : Group
group = record {
  statepoint = statepoint (value 0 ∷ value 1 ∷ []);
  members = relocate 3 0 ∷ relocate 4 1 ∷ [];
  rest = [];
  now_statepoint = statepoint (value 0 ∷ []);
  now_members = relocate 3 0 ∷ [];
  further = step_of 4 (value 3) ∷ [];
  others = [];
}

abbrev all_kept : Trim
all_kept = record {
  renaming = record { called = true; arguments = 0; room = 5; now_room = 5; number = λ register. register; entered = λ block. true };
  kept = λ register. true;
  stands = λ operand. operand;
  regroups = true;
}

is_regrouped : IsRegrouped (calls_of (λ func. all_kept)) all_kept group
is_regrouped = record {
  regroups = refl;
  id = 0;
  callee = callees.Poll;
  types = [];
  op = refl;
  now_op = refl;
  numbered = All-nil (λ (o : Operand). IsNumbered all_kept o);
  arguments = refl;
  takes = tt;
  function = tt;
  shown = All-nil (λ (entry : Ty × Operand). IsNumbered all_kept entry.1);
  bundle = refl;
  members = All-cons (λ (l : Line). is_member l.inst.op ≡ true) (relocate 3 0) (relocate 4 1 ∷ []) refl (all_one (λ (l : Line). is_member l.inst.op ≡ true) (relocate 4 1) refl);
  now_members = all_one (λ (l : Line). is_member l.inst.op ≡ true) (relocate 3 0) refl;
  ends = refl;
  now_ends = refl;
}

-- where the derived pointer is 8 bytes behind its base, both give the same
abbrev base : Datum
base = pointer (record { object = 1; offset = 16 })

abbrev derived : Datum
derived = pointer (record { object = 1; offset = 24 })

abbrev registers_there : List Datum
registers_there = base ∷ derived ∷ nothing ∷ nothing ∷ nothing ∷ []

group_gives : GroupGives [] all_kept 0 group registers_there registers_there
group_gives answer = (
  base ∷ derived ∷ nothing ∷ base ∷ derived ∷ [],
  one_more (step_of 4 (value 3)) [] (base ∷ derived ∷ nothing ∷ base ∷ nothing ∷ []) derived (base ∷ derived ∷ nothing ∷ base ∷ derived ∷ []) refl refl
      (no_more (base ∷ derived ∷ nothing ∷ base ∷ derived ∷ [])),
  record { each = λ own has. refl; room = refl; now_room = refl },
)

-- ---- both in a run

-- %o = call P @gc_new.L(i64 1), %d = getelementptr i8, P %o, i64 8, a statepoint with its group, store i64 7, P %x, ret i64 0
abbrev around : List Operand → List Instruction → List Line
around entries members =
    plain_lines 0
    (line (Some []) (ops.Call (callees.New 0) (Int 64 ∷ [])) Ptr (literal 1 ∷ [])
    ∷ (step_of 1 (value 0)).inst ∷ (statepoint entries).inst
    ∷ (members ++ line None ops.Store (Int 64) (literal 7 ∷ value 4 ∷ []) ∷ return (literal 0) ∷ []))

-- %x is the relocate of %d
abbrev with_both : List Line
with_both = around (value 0 ∷ value 1 ∷ []) ((relocate 3 0).inst ∷ (relocate 4 1).inst ∷ [])

-- and here it is computed from that of %o
abbrev with_one : List Line
with_one = around (value 0 ∷ []) ((relocate 3 0).inst ∷ (step_of 4 (value 3)).inst ∷ [])

abbrev stored : Outcome
stored = record {
  lines = [];
  end = ended.Return (pos 0);
  func = 0;
  steps = 1;
  events = 2;
  printed = 0;
  happened = at_new ∷ at_poll ∷ [];
  accesses = writes 1 8 ∷ [];
  objects = record { layout = 0; count = 1; cells = number 0 ∷ number 7 ∷ [] } ∷ [];
}

abbrev of_two : List Line → Setting
of_two lines = record (setting lines 5) { layouts = record { name = codes "L"; fields = cells.I64 ∷ cells.I64 ∷ [] } ∷ [] }

both_store : Gives (of_two with_both) [] stored
unfolding proceeds step laid size_of field_at
both_store = gives_within (of_two with_both) [] 10 stored refl

one_stores : Gives (of_two with_one) [] stored
unfolding proceeds step laid size_of field_at
one_stores = gives_within (of_two with_one) [] 10 stored refl
