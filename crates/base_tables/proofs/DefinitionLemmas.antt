-- What the definitions of a function say of its derived pointers, and its marks.
use Rattle.std.proofs.Common.{◌≡◌, ◌∙◌, ℕ, ◌<◌, ◌^◌, Bool, ◌&&◌, List, [], ◌∷◌, ◌++◌, length, is_some, refl, ap, sym, subst, arith, append-nil, inl, inr}
use Rattle.std.specs.Prelude.{map}
use Rattle.std.specs.List.{list_any, filter, filter_map, All}
use Rattle.std.proofs.lemmas.Bool.{cases_Bool}
use Rattle.std.proofs.lemmas.List.{length-map, length-append}
use Rattle.std.proofs.lemmas.List.Elements.{All-nil, All-cons, All-head, All-tail, All-append}
use Rattle.std.proofs.lemmas.List.Sums.{length-filter, count_by-le-length}
use Rattle.list_laws.proofs.Contents.{all_at}
use Rattle.ir_ast.specs.declared.funcs.Arg.{Arg}
use Rattle.ir_ast.specs.declared.types.Ty.{Ty}
use Rattle.ir_ast.specs.declared.ops.Pred.TheVariants.{Ne}
use Rattle.ir_ast.specs.declared.ops.Operand.{Operand}
use Rattle.ir_ast.specs.declared.ops.Op.{Op}
use Rattle.ir_ast.specs.declared.ops.Op.TheVariants.{Icmp, Select, Phi, Gep}
use Rattle.ir_ast.specs.Insts.{Instruction}
use Rattle.ir_ast.specs.Funcs.{Function, IsSmall, instructions_of}
use Rattle.ir_ast.specs.Values.{Definition, argument, outcome, definitions_of, Gives}
use Rattle.ir_ast.specs.Operands.{values_used, value_in}
use Rattle.ir_ast.specs.Lines.{IsLine, LineOf}
use Rattle.ir_ast.specs.Derived.{is_merge}
use Rattle.base_forms.specs.DerivedMarks.{has_mark, uses_marked, derived_marks}
use Rattle.base_forms.specs.Inserted.{by_line, is_merged, is_negated, is_unequal, has_inserted}
use Rattle.base_forms.specs.Bases.{source_of}
use Rattle.base_forms.proofs.DerivedLaws.{only_marks}
use Rattle.base_tables.specs.Kinds.{Kind, kind_by, kind_of, any_marked, kind_merged, kind_negated, kind_source}
use Rattle.base_tables.specs.Flags.{kind_inserted}
use Rattle.base_tables.specs.Users.{AreMarks, given_kind}
use Rattle.derived_values.specs.Givens.{Given, merge, given_by, given_of}
use Rattle.derived_values.specs.Deriveds as deriveds
use Rattle.derived_values.proofs.FunctionLemmas.{in_derived, derived_in}

-- ---- all definitions

abbrev pub OfLine : (Instruction → Type 0) → Definition → Type 0
OfLine P (argument arg) = Unit {0}
OfLine P (outcome inst) = P inst

abbrev results : List Instruction → List Definition
results insts = map outcome (filter (λ inst. is_some inst.result) insts)

args_all : (P : Instruction → Type 0) (args : List Arg) → All (OfLine P) (map argument args)
args_all P [] = All-nil (OfLine P)
args_all P (arg ∷ args) = All-cons (OfLine P) (argument arg) (map argument args) tt (args_all P args)

results_all : (P : Instruction → Type 0) (insts : List Instruction) → All P insts → All (OfLine P) (results insts)
results_all P [] all = All-nil (OfLine P)
results_all P (inst ∷ insts) all =
    let rest = results_all P insts (All-tail P inst insts all) in
    elim (cases_Bool (is_some inst.result)) [
      | inl gives ↦ rw gives (All-cons (OfLine P) (outcome inst) (results insts) (All-head P inst insts all) rest)
      | inr none ↦ rw none rest
    ]

pub definitions_all : (P : Instruction → Type 0) (func : Function) → All P (instructions_of func.blocks) → All (OfLine P) (definitions_of func)
definitions_all P func all =
    All-append (OfLine P) (map argument func.args) (results (instructions_of func.blocks)) (args_all P func.args) (results_all P (instructions_of func.blocks) all)

pub line_at : (P : Instruction → Type 0) (func : Function) → All P (instructions_of func.blocks) → (value : ℕ) (inst : Instruction) → Gives func value inst → P inst
line_at P func all value inst gives = all_at (OfLine P) (definitions_of func) value (outcome inst) (definitions_all P func all) gives

pub few_definitions : (func : Function) → IsSmall func.args func.blocks → length (definitions_of func) < 2 ^ 31
few_definitions func small =
    omega (
      arith,
      small.few_arguments,
      small.few_instructions,
      length-append (map argument func.args) (results (instructions_of func.blocks)),
      length-map func.args argument,
      length-map (filter (λ (inst : Instruction). is_some inst.result) (instructions_of func.blocks)) outcome,
      length-filter (λ (inst : Instruction). is_some inst.result) (instructions_of func.blocks),
      count_by-le-length (λ (inst : Instruction). is_some inst.result) (instructions_of func.blocks),
    )

-- ---- what a line says by its kind

quiet : (inst : Instruction) → inst.bundle ≡ [] → values_used inst ≡ filter_map value_in inst.operands
quiet inst none =
    ap (λ (bundle : List (Ty × Operand)). filter_map value_in (inst.operands ++ map (λ entry. entry.1) bundle)) none
    ∙ ap (filter_map value_in) (append-nil inst.operands)

pub marked_by : (marks : List Bool) (inst : Instruction) → inst.bundle ≡ [] → uses_marked marks inst ≡ any_marked marks inst.operands
marked_by marks inst none = ap (list_any (has_mark marks)) (quiet inst none)

merged_by : (marks : List Bool) (op : Op) (inst : Instruction) → LineOf op inst → (is_merge op && uses_marked marks inst) ≡ kind_merged marks (kind_by op inst.operands)
merged_by marks Phi inst line = marked_by marks inst line.0.no_bundle
merged_by marks Select inst line = marked_by marks inst line.no_bundle
merged_by marks (Icmp Ne) inst line = refl
merged_by marks (Icmp pred) inst line = refl
merged_by marks op inst line = refl

negated_by : (marks : List Bool) (op : Op) (inst : Instruction) → LineOf op inst → (is_unequal op && uses_marked marks inst) ≡ kind_negated marks (kind_by op inst.operands)
negated_by marks (Icmp Ne) inst line = marked_by marks inst line.no_bundle
negated_by marks (Icmp pred) inst line = refl
negated_by marks op inst line = refl

pub merged_kind : (marks : List Bool) (given : Definition) → OfLine IsLine given → by_line (is_merged marks) given ≡ kind_merged marks (kind_of given)
merged_kind marks (argument arg) line = refl
merged_kind marks (outcome inst) line = merged_by marks inst.op inst line

pub negated_kind : (marks : List Bool) (given : Definition) → OfLine IsLine given → by_line (is_negated marks) given ≡ kind_negated marks (kind_of given)
negated_kind marks (argument arg) line = refl
negated_kind marks (outcome inst) line = negated_by marks inst.op inst line

pub inserted_kind : (marks : List Bool) (given : Definition) → OfLine IsLine given → has_inserted marks given ≡ kind_inserted marks (kind_of given)
inserted_kind marks (argument arg) line = refl
inserted_kind marks (outcome inst) line = rw (merged_by marks inst.op inst line, negated_by marks inst.op inst line) refl

-- tables by definition and by kind
pub same_flags : (f : Definition → Bool) (g : Kind → Bool) (P : Definition → Type 0) → ((given : Definition) → P given → f given ≡ g (kind_of given))
    → (all : List Definition) → All P all → map g (map kind_of all) ≡ map f all
same_flags f g P same [] every = refl
same_flags f g P same (given ∷ all) every =
    rw (← same given (All-head P given all every)) (ap (λ zs. f given ∷ zs) (same_flags f g P same all (All-tail P given all every)))

source_by : (op : Op) (inst : Instruction) → inst.op ≡ op → source_of (outcome inst) ≡ kind_source (kind_by op inst.operands)
source_by (Gep elem index_width place) inst is = rw is refl
source_by (Icmp Ne) inst is = rw is refl
source_by (Icmp pred) inst is = rw is refl
source_by op inst is = rw is refl

pub source_kind : (given : Definition) → source_of given ≡ kind_source (kind_of given)
source_kind (argument arg) = refl
source_kind (outcome inst) = source_by inst.op inst refl

-- ---- the marks

-- what gives a value is told by the kind of its line, whose bundle is empty
given_by_kind : (op : Op) (inst : Instruction) → LineOf op inst → given_kind (kind_by op inst.operands) ≡ given_by op (values_used inst)
given_by_kind Phi inst line = ap merge (sym (quiet inst line.0.no_bundle))
given_by_kind Select inst line = ap merge (sym (quiet inst line.no_bundle))
given_by_kind (Icmp Ne) inst line = refl
given_by_kind (Icmp pred) inst line = refl
given_by_kind op inst line = refl

given_same : (one : Definition) → OfLine IsLine one → given_kind (kind_of one) ≡ given_of one
given_same (argument arg) line = refl
given_same (outcome inst) line = given_by_kind inst.op inst line

givens_are : (all : List Definition) → All (OfLine IsLine) all → map given_kind (map kind_of all) ≡ map given_of all
givens_are [] every = refl
givens_are (one ∷ all) every =
    ap (λ (given : Given). given ∷ map given_kind (map kind_of all)) (given_same one (All-head (OfLine IsLine) one all every))
    ∙ ap (λ (rest : List Given). given_of one ∷ rest) (givens_are all (All-tail (OfLine IsLine) one all every))

-- the marks are those of the derived values
pub marks_are : (func : Function) → All IsLine (instructions_of func.blocks) → (marks : List Bool) → AreMarks (map kind_of (definitions_of func)) marks
    → marks ≡ derived_marks func
marks_are func lines marks found =
    let given : deriveds.AreMarks (map given_of (definitions_of func)) marks
    = subst (λ (gs : List Given). deriveds.AreMarks gs marks) (givens_are (definitions_of func) (definitions_all IsLine func lines)) found in
    only_marks func marks (record {
      whole = given.whole ∙ length-map (definitions_of func) given_of;
      sound = λ value marked. in_derived func value (given.sound value marked);
      complete = λ value derived. given.complete value (derived_in func value derived);
    })
