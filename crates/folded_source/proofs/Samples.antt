-- A source module that the law holds of, its folding, and its folded text: `%a = add i64 2, 3`, `%b = mul i64 %a, 4`, `ret i64 %b`
-- becomes `ret i64 20`. A thinning: what nothing uses goes.
use Rattle.std.proofs.Common.{◌≡◌, ℕ, zero, suc, ◌<◌, ◌≤◌, true, false, List, [], ◌∷◌, length, map, refl, sym, ap, subst, ◌∙◌, inl, inr, arith, lit<, codes}
use Rattle.std.specs.Prelude.{Some, None, is_some, slice_get}
use Rattle.std.specs.List.{All, Contains}
use Rattle.std.proofs.lemmas.Bool.{false≢true}
use Rattle.std.proofs.lemmas.List.Elements.{All-cons, All-nil}
use Rattle.list_laws.proofs.Contents.{all_at, all_one, contains_middle, contains_none, contains_one, get_contained}
use Rattle.sp_ids.specs.declared.ids.BlockId.{BlockId}
use Rattle.ir_ast.specs.declared.types.Ty.{Ty}
use Rattle.ir_ast.specs.declared.types.Ty.TheVariants.{Int}
use Rattle.ir_ast.specs.declared.modules.Form.TheVariants.{Source}
use Rattle.ir_ast.specs.declared.funcs.Arg.{Arg}
use Rattle.ir_ast.specs.declared.ops.Op.{Op}
use Rattle.ir_ast.specs.declared.ops.Op.TheVariants as ops
use Rattle.ir_ast.specs.declared.ops.Operand.{Operand}
use Rattle.ir_ast.specs.declared.ops.Operand.TheVariants as operands
use Rattle.ir_ast.specs.Blocks.{BasicBlock, EndsAtTerminator}
use Rattle.ir_ast.specs.Derived.{Derived, by_merge, by_step, is_merge, is_step}
use Rattle.ir_ast.specs.Funcs.{Function, instructions_of}
use Rattle.ir_ast.specs.Insts.{Instruction}
use Rattle.ir_ast.specs.Layouts.{ObjectLayout}
use Rattle.ir_ast.specs.Lines.{IsLine, is_rewritten}
use Rattle.ir_ast.specs.Lists.{Distinct}
use Rattle.ir_ast.specs.Modules.{ModuleContent}
use Rattle.ir_ast.specs.Operands.{functions_named, layouts_named, named, values_used}
use Rattle.ir_ast.specs.Scope.{scope_of}
use Rattle.ir_ast.specs.Types.{is_first_class}
use Rattle.ir_ast.specs.Values.{Definition, Gives, definition_name, definitions_of, outcome, value_types}
use Rattle.ir_ast.specs.Widths.{IsWidth}
use Rattle.ir_ast.specs.Faultless.{FunctionHasNoFault}
use Rattle.ir_ast.specs.Faults.DerivedEscapes.{KeepsDerived}
use Rattle.ir_ast.specs.Faults.EntryHasPred.{LeavesEntry}
use Rattle.ir_ast.specs.Faults.GroupShape.{number_at}
use Rattle.ir_ast.specs.Faults.PhiEdges.{PhisAreRight, is_phi}
use Rattle.ir_ast.specs.Faults.PointerOrder.{orders_pointers}
use Rattle.ir_ast.specs.Faults.Reserved.{IsExternalName, IsInsertedName}
use Rattle.ir_ast.specs.Faults.TypeClash.{Fits, FunctionIsTyped, IsTyped}
use Rattle.ir_ast.specs.Faults.UnknownName.{NamesOfFunction, NamesOfModule}
use Rattle.ir_cfg.specs.DefiniteUses.{Defines, UsesAreDefinite, by_entry, by_line, in_last}
use Rattle.ir_cfg.specs.Graphs.{graph_of}
use Rattle.ir_cfg.specs.Limits.{IsName}
use Rattle.ir_cfg.specs.SourceModules.{IsSourceModule}
use Rattle.ir_cfg.specs.TypedModules.{IsTypedFunction}
use Rattle.ir_cfg.proofs.UsedLaws.{values_known}
use Rattle.ir_cfg.proofs.NameLaws.{absent, all_distinct, differ, distinct_nil, free_main, names_distinct, not_inserted}
use Rattle.definite_assign.proofs.PathLemmas.{path_ends}
use Rattle.folded_forms.specs.Folded.{Table, folded, stands_for, stays}
use Rattle.folded_forms.specs.Foldings.{Folds, IsFolding, IsThinning, by_operator}
use Rattle.folded_forms.specs.Pure.{is_pure}
use Rattle.folded_source.specs.Statements.{StaysSource}
use Rattle.folded_source.specs.Steps.{IsLeft, Steps, by_literals, by_substitute, replaced, unchanged}
use Rattle.folded_source.proofs.SettleLaws.{folded_stays_source}

abbrev value : ℕ → Operand
value number = operands.Value (record { 0 = number })

abbrev literal : ℕ → Operand
literal number = operands.Int number

abbrev gives : List ℕ → Op → List Operand → Instruction
gives name op all = record { result = Some name; op = op; ty = Int 64; operands = all; labels = []; bundle = [] }

abbrev return : Operand → Instruction
return operand = record { result = None; op = ops.Ret; ty = Int 64; operands = operand ∷ []; labels = []; bundle = [] }

abbrev main : List Instruction → Function
main insts = record { name = codes "main"; answer = Int 64; args = []; blocks = record { name = codes "entry"; insts = insts } ∷ [] }

abbrev sum : Instruction
sum = gives (codes "a") ops.Add (literal 2 ∷ literal 3 ∷ [])

abbrev product : Instruction
product = gives (codes "b") ops.Mul (value 0 ∷ literal 4 ∷ [])

abbrev end : Instruction
end = return (value 1)

abbrev before : Function
before = main (sum ∷ product ∷ end ∷ [])

abbrev entry : BasicBlock
entry = record { name = codes "entry"; insts = sum ∷ product ∷ end ∷ [] }

abbrev after : Function
after = main (return (literal 20) ∷ [])

abbrev module_of : Function → ModuleContent
module_of func = record { layouts = []; funcs = func ∷ []; form = Source }

abbrev table : Table
table = literal 5 ∷ literal 20 ∷ []

folds : folded before table ≡ after
folds = refl

-- ---- the table is a folding

no_step : (number : ℕ) (inst : Instruction) → Gives before number inst → (is_step inst.op ≡ false) × (is_merge inst.op ≡ false)
no_step zero inst given = let same : sum ≡ inst = cc in subst (λ (i : Instruction). (is_step i.op ≡ false) × (is_merge i.op ≡ false)) same (refl, refl)
no_step (suc zero) inst given = let same : product ≡ inst = cc in subst (λ (i : Instruction). (is_step i.op ≡ false) × (is_merge i.op ≡ false)) same (refl, refl)
no_step (suc (suc number)) inst given = absurd cc

not_derived : (number : ℕ) → Derived before number → ⊥
not_derived _ (by_step number inst given step) = false≢true (sym (no_step number inst given).0 ∙ step)
not_derived _ (by_merge number operand inst given merge used of) = false≢true (sym (no_step number inst given).1 ∙ merge)

closed : (number : ℕ) → stands_for table (stands_for table (named number)) ≡ stands_for table (named number)
closed zero = refl
closed (suc zero) = refl
closed (suc (suc number)) = refl

typed : (number : ℕ) (ty : Ty) → slice_get (value_types before) number ≡ Some ty → Fits (value_types before) (stands_for table (named number)) ty
typed zero ty at = (64, (let same : Int 64 ≡ ty = cc in sym same), lit< tt)
typed (suc zero) ty at = (64, (let same : Int 64 ≡ ty = cc in sym same), lit< tt)
typed (suc (suc number)) ty at = absurd cc

each : (number : ℕ) (inst : Instruction) → Gives before number inst → stays table number ≡ false → Folds table number inst (stands_for table (named number))
each zero inst given gone = let same : sum ≡ inst = cc in subst (λ (i : Instruction). Folds table 0 i (literal 5)) same (by_operator 5 refl refl refl)
each (suc zero) inst given gone = let same : product ≡ inst = cc in subst (λ (i : Instruction). Folds table 1 i (literal 20)) same (by_operator 20 refl refl refl)
each (suc (suc number)) inst given gone = absurd cc

folding : IsFolding before table
folding = record {
  whole = refl;
  arguments = λ number below. absurd (omega (arith, below));
  closed = closed;
  each = each;
  typed = typed;
  derived = λ number to is derived. absurd (not_derived to derived);
}

-- ---- the table is found one value at a time

first_step : Steps (unchanged before) 0 sum (literal 5)
first_step = by_literals 5 refl refl refl

second_step : Steps (replaced (unchanged before) 0 (literal 5)) 1 product (literal 20)
second_step = by_literals 20 refl refl refl

table_found : replaced (replaced (unchanged before) 0 (literal 5)) 1 (literal 20) ≡ table
table_found = refl

-- a phi over itself and `null`, and a select of what stands for another value
phi_step : Steps (value 0 ∷ []) 0 (record sum { op = ops.Phi; operands = value 0 ∷ operands.Null ∷ [] }) operands.Null
phi_step = by_substitute operands.Null refl

select_step : Steps (value 0 ∷ value 0 ∷ value 2 ∷ []) 2 (record sum { op = ops.Select; operands = literal 1 ∷ value 1 ∷ value 2 ∷ [] }) (value 0)
select_step = by_substitute (value 0) refl

-- ---- the lines are those of a source module

width_64 : IsWidth 64
width_64 = (omega arith, omega arith)

no_blocks : All (λ (label : BlockId). label.0 < 1) []
no_blocks = All-nil (λ (label : BlockId). label.0 < 1)

no_bundle : All (λ (one : Ty × Operand). Fits (value_types before) one.1 one.0) []
no_bundle = All-nil (λ (one : Ty × Operand). Fits (value_types before) one.1 one.0)

small : (number : ℕ) → number < 100 → Fits (value_types before) (literal number) (Int 64)
small number few = (64, refl, few_enough)
  where
    few_enough : number < 18446744073709551616
    few_enough = omega (arith, few)

record IsWell (inst : Instruction) : Type 0 where
  pub line : IsLine inst
  pub typed : IsTyped (scope_of (module_of before) before) inst
  pub labels : inst.labels ≡ []
  pub layouts : layouts_named inst ≡ []
  pub functions : functions_named inst ≡ []

sum_well : IsWell sum
sum_well = record {
  line = record { result = refl; type = refl; operand_count = refl; values = refl; label_count = refl; no_bundle = refl };
  typed = record { operands = (small 2 (omega arith), (small 3 (omega arith), tt)); bundle = no_bundle; rule = tt };
  labels = refl;
  layouts = refl;
  functions = refl;
}

product_well : IsWell product
product_well = record {
  line = record { result = refl; type = refl; operand_count = refl; values = refl; label_count = refl; no_bundle = refl };
  typed = record { operands = (refl, (small 4 (omega arith), tt)); bundle = no_bundle; rule = tt };
  labels = refl;
  layouts = refl;
  functions = refl;
}

end_well : IsWell end
end_well = record {
  line = record { result = refl; type = refl; operand_count = refl; values = refl; label_count = refl; no_bundle = refl };
  typed = record { operands = (refl, tt); bundle = no_bundle; rule = refl };
  labels = refl;
  layouts = refl;
  functions = refl;
}

each_of : (P : Instruction → Type 0) → P sum → P product → P end → All P (instructions_of before.blocks)
each_of P a b c = All-cons P sum (product ∷ end ∷ []) a (All-cons P product (end ∷ []) b (All-cons P end [] c (All-nil P)))

each_line : (P : Instruction → Type 0) → ((inst : Instruction) → IsWell inst → P inst) → All P (instructions_of before.blocks)
each_line P holds = each_of P (holds sum sum_well) (holds product product_well) (holds end end_well)

each_definition : (P : Definition → Type 0) → P (outcome sum) → P (outcome product) → All P (definitions_of before)
each_definition P a b = All-cons P (outcome sum) (outcome product ∷ []) a (All-cons P (outcome product) [] b (All-nil P))

-- ---- no phi, and definite uses

home : (number : ℕ) (found : BasicBlock) → slice_get before.blocks number ≡ Some found → (number ≡ 0) × (found ≡ entry)
home zero found at = (refl, (let is : Some entry ≡ Some found = at in cc))
home (suc number) found at = absurd (let none : None ≡ Some found = at in cc)

never_phi : (place : ℕ) (phi : Instruction) → slice_get entry.insts place ≡ Some phi → is_phi phi.op ≡ true → ⊥
never_phi place phi at is =
    false≢true (sym (all_at (λ (inst : Instruction). is_phi inst.op ≡ false) entry.insts place phi (each_of (λ (inst : Instruction). is_phi inst.op ≡ false) refl refl refl) at) ∙ is)

phis : PhisAreRight before
phis number found front back phi at whole is =
    let here = home number found at in
    let inside = subst (λ (insts : List Instruction). Contains insts phi) (sym whole ∙ ap (λ (b : BasicBlock). b.insts) here.1) (contains_middle front phi back) in
    let stands = get_contained entry.insts phi inside in
    absurd (never_phi stands.0 phi stands.1 is)

late : (place number : ℕ) (inst : Instruction) → slice_get entry.insts place ≡ Some inst → Contains (values_used inst) number → (number < 2) × (number < place)
late zero number inst at used = let same : sum ≡ inst = cc in absurd (contains_none number (subst (λ (i : Instruction). Contains (values_used i) number) (sym same) used))
late (suc zero) number inst at used =
    let same : product ≡ inst = cc in
    let is = contains_one 0 number (subst (λ (i : Instruction). Contains (values_used i) number) (sym same) used) in
    (omega (arith, is), omega (arith, is))
late (suc (suc zero)) number inst at used =
    let same : end ≡ inst = cc in
    let is = contains_one 1 number (subst (λ (i : Instruction). Contains (values_used i) number) (sym same) used) in
    (omega (arith, is), omega (arith, is))
late (suc (suc (suc place))) number inst at used = absurd (let none : None ≡ Some inst = at in cc)

defined : (number : ℕ) → number < 2 → Defines before number 0 number
defined zero few = record { inst = sum; stands = record { block = entry; in_function = refl; in_block = refl }; named = refl; numbered = refl }
defined (suc zero) few = record { inst = product; stands = record { block = entry; in_function = refl; in_block = refl }; named = refl; numbered = refl }
defined (suc (suc number)) few = absurd (omega (arith, few))

definite : UsesAreDefinite before
definite _ _ _ _ (by_line number place used_value inst stands plain used) = λ path leads.
    let here = home number stands.block stands.in_function in
    let at = subst (λ (b : BasicBlock). slice_get b.insts place ≡ Some inst) here.1 stands.in_block in
    let earlier = late place used_value inst at used in
    let ends = path_ends (graph_of before) path number leads in
    in_last ends.front number used_value ends.whole (subst (λ (n : ℕ). Defines before used_value n used_value) (sym here.0) (defined used_value earlier.0)) earlier.1
definite _ _ _ _ (by_entry number place k used_value phi operand label from stands is labelled found of left) =
    let here = home number stands.block stands.in_function in
    absurd (never_phi place phi (subst (λ (b : BasicBlock). slice_get b.insts place ≡ Some phi) here.1 stands.in_block) is)

-- ---- the module

no_fault : FunctionHasNoFault (module_of before) before
no_fault = record {
  local = each_line (NamesOfFunction before) (λ inst is. record {
    values = values_known (module_of before) before inst is.typed;
    blocks = subst (λ (labels : List BlockId). All (λ (label : BlockId). label.0 < 1) labels) (sym is.labels) no_blocks;
  });
  global = each_line (NamesOfModule (module_of before)) (λ inst is. record {
    layouts = subst (λ (numbers : List ℕ). All (λ (number : ℕ). number < 0) numbers) (sym is.layouts) (All-nil (λ (number : ℕ). number < 0));
    functions = subst (λ (numbers : List ℕ). All (λ (number : ℕ). number < 1) numbers) (sym is.functions) (All-nil (λ (number : ℕ). number < 1));
  });
  entry = each_line LeavesEntry (λ inst is ends. subst (λ (labels : List BlockId). All (λ (label : BlockId). label.0 ≡ 0 → ⊥) labels) (sym is.labels) (All-nil (λ (label : BlockId). label.0 ≡ 0 → ⊥)));
  phis = phis;
  pointers = each_of (λ inst. orders_pointers inst.op inst.ty ≡ false) refl refl refl;
  form = (
    record {
      values = each_definition (λ given. IsInsertedName (definition_name given) → ⊥) (not_inserted 97 [] (differ 97 115 refl)) (not_inserted 98 [] (differ 98 115 refl));
      labels = all_one (λ (b : BasicBlock). IsInsertedName b.name → ⊥) entry (not_inserted 101 (codes "ntry") (differ 101 115 refl));
      lines = each_of (λ inst. is_rewritten inst.op ≡ false) refl refl refl;
    },
    each_of (KeepsDerived before) (All-nil (λ number. Derived before number → ⊥)) (All-nil (λ number. Derived before number → ⊥)) (all_one (λ number. Derived before number → ⊥) 1 (not_derived 1)),
  );
}

typed_function : IsTypedFunction Source before
typed_function = record {
  has_block = omega arith;
  ends = all_one (λ (b : BasicBlock). EndsAtTerminator b.insts) entry (record { before = sum ∷ product ∷ []; last = end; whole = refl; ends = refl; inside = refl });
  lines = each_line IsLine (λ inst is. is.line);
  names = record {
    own = refl;
    values = each_definition (λ given. IsName (definition_name given)) refl refl;
    labels = all_one (λ (b : BasicBlock). IsName b.name) entry refl;
  };
  widths = All-cons IsWidth 64 (64 ∷ 64 ∷ 64 ∷ []) width_64 (All-cons IsWidth 64 (64 ∷ 64 ∷ []) width_64 (All-cons IsWidth 64 (64 ∷ []) width_64 (All-cons IsWidth 64 [] width_64 (All-nil IsWidth))));
  bundles = each_of (λ inst. length inst.bundle ≤ 64) (omega arith) (omega arith) (omega arith);
  small = omega arith;
}

worked_source : IsSourceModule (module_of before)
unfolding all_distinct absent
worked_source = record {
  typed = record {
    of_form = refl;
    no_fault = record {
      names = record {
        layouts = distinct_nil;
        functions = names_distinct (codes "main" ∷ []) refl;
        labels = all_one (λ (func : Function). Distinct (map (λ (b : BasicBlock). b.name) func.blocks)) before (names_distinct (codes "entry" ∷ []) refl);
        values = all_one (λ (func : Function). Distinct (map definition_name (definitions_of func))) before (names_distinct (codes "a" ∷ codes "b" ∷ []) refl);
      };
      typed = all_one (λ (func : Function). FunctionIsTyped (scope_of (module_of before) func) func) before (record {
        answer = refl;
        args = All-nil (λ (arg : Arg). is_first_class arg.ty ≡ true);
        lines = each_line (IsTyped (scope_of (module_of before) before)) (λ inst is. is.typed);
      });
      functions = all_one (FunctionHasNoFault (module_of before)) before no_fault;
      main = record { earlier = []; main = before; later = []; whole = refl; first = All-nil (λ (func : Function). func.name ≡ codes "main" → ⊥); name = refl; args = refl; answer = inr refl };
      fields = All-nil (λ (layout : ObjectLayout). 0 < length layout.fields);
      free = all_one (λ (func : Function). IsExternalName func.name → ⊥) before free_main;
    };
    functions = all_one (IsTypedFunction Source) before typed_function;
    layout_names = All-nil (λ (layout : ObjectLayout). IsName layout.name);
    limits = record {
      layouts = omega arith;
      functions = omega arith;
      layout_names = All-nil (λ (layout : ObjectLayout). length layout.name ≤ 4096);
      function_names = all_one (λ (func : Function). length func.name ≤ 4096) before (omega arith);
      fields = All-nil (λ (layout : ObjectLayout). length layout.fields ≤ 64);
      arguments = all_one (λ (func : Function). length func.args ≤ 64) before (omega arith);
    };
    small = omega arith;
  };
  definite = all_one UsesAreDefinite before definite;
}

-- so the module with the folded text is a source module
folded_source : StaysSource (module_of before) (module_of after)
folded_source = folded_stays_source (module_of before) (module_of after) worked_source (record {
  layouts = refl;
  form = refl;
  functions = (record { table = table; holds = folding; is = sym folds }, tt);
})

-- ---- a thinning

-- %a = add i64 2, 3 / %b = mul i64 %a, 4 / ret i64 20
abbrev idle : Function
idle = main (sum ∷ product ∷ return (literal 20) ∷ [])

-- whatever stands for them
abbrev dropped : Table
dropped = operands.Null ∷ operands.Null ∷ []

drops : folded idle dropped ≡ after
drops = refl

pure_there : (number : ℕ) (inst : Instruction) → Gives idle number inst → is_pure inst ≡ true
pure_there zero inst given = let same : sum ≡ inst = cc in subst (λ (i : Instruction). is_pure i ≡ true) same refl
pure_there (suc zero) inst given = let same : product ≡ inst = cc in subst (λ (i : Instruction). is_pure i ≡ true) same refl
pure_there (suc (suc number)) inst given = absurd cc

-- what uses a value is `%b`, which uses `%a`
user_there : (place number : ℕ) (user : Instruction) → slice_get (instructions_of idle.blocks) place ≡ Some user → Contains (values_used user) number → (place ≡ 1) × (number ≡ 0) × (is_some user.result ≡ true)
user_there zero number user at used = let same : sum ≡ user = cc in absurd (contains_none number (subst (λ (i : Instruction). Contains (values_used i) number) (sym same) used))
user_there (suc zero) number user at used =
    let same : product ≡ user = cc in
    (refl, sym (contains_one 0 number (subst (λ (i : Instruction). Contains (values_used i) number) (sym same) used)), ap (λ (i : Instruction). is_some i.result) (sym same))
user_there (suc (suc zero)) number user at used =
    let same : return (literal 20) ≡ user = cc in absurd (contains_none number (subst (λ (i : Instruction). Contains (values_used i) number) (sym same) used))
user_there (suc (suc (suc place))) number user at used = absurd (let none : None ≡ Some user = at in cc)

thinning : IsThinning idle dropped
thinning = record {
  whole = refl;
  arguments = λ number below. absurd (omega (arith, below));
  pure = λ number inst given gone. pure_there number inst given;
  unused = λ number gone place user at used.
      let there = user_there place number user at used in
      (there.2, ap (λ (n : ℕ). stays dropped (number_at idle n)) there.0);
}

-- first `%b`, which nothing uses, and then `%a`
last_left : IsLeft idle (unchanged idle) 1
last_left place user at used = let there = user_there place 1 user at used in absurd (omega (arith, there.1))

first_left : IsLeft idle (replaced (unchanged idle) 1 operands.Null) 0
first_left place user at used =
    let there = user_there place 0 user at used in (there.2, inl (ap (λ (n : ℕ). stays (replaced (unchanged idle) 1 operands.Null) (number_at idle n)) there.0))

found_dropped : replaced (replaced (unchanged idle) 1 operands.Null) 0 operands.Null ≡ dropped
found_dropped = refl
