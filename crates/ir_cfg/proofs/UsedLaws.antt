-- What an instruction uses: its types, what leaves the registers, and where a use is judged.
use Rattle.std.proofs.Common.{◌≡◌, ℕ, zero, suc, ◌<◌, ◌≤◌, List, [], ◌∷◌, length, map, sym, subst, inl, inr, arith}
use Rattle.std.specs.Prelude.{Some, slice_get}
use Rattle.std.specs.List.{All, AllZip}
use Rattle.std.proofs.lemmas.List.{length-map}
use Rattle.std.proofs.lemmas.Option.{none-some, slice_get_within}
use Rattle.list_laws.proofs.Contents.{all_at, all_from_at}
use Rattle.list_laws.proofs.Places.{filter_map_back, map_back, get_joined, take_back}
use Rattle.ir_ast.specs.declared.types.Ty.{Ty}
use Rattle.ir_ast.specs.declared.ops.Op.{Op}
use Rattle.ir_ast.specs.declared.ops.Op.TheVariants.{Store, Call, Ret}
use Rattle.ir_ast.specs.declared.ops.Operand.{Operand}
use Rattle.ir_ast.specs.declared.ops.Operand.TheVariants as operands
use Rattle.ir_ast.specs.Blocks.{BasicBlock}
use Rattle.ir_ast.specs.Insts.{Instruction}
use Rattle.ir_ast.specs.Funcs.{Function}
use Rattle.ir_ast.specs.Modules.{ModuleContent}
use Rattle.ir_ast.specs.Operands.{operands_of, value_in, values_used}
use Rattle.ir_ast.specs.Scope.{Scope, scope_of}
use Rattle.ir_ast.specs.Values.{definition_type, definitions_of}
use Rattle.ir_ast.specs.Faults.DerivedEscapes.{leaving}
use Rattle.ir_ast.specs.Faults.TypeClash.{Fits, IsTyped, asked}
use Rattle.ir_ast.proofs.OpLaws.{value_typed}
use Rattle.ir_cfg.specs.DefiniteUses.{Uses, by_entry, by_line}

-- ---- what a typed instruction uses has a type

fits_at : (values : List Ty) (given : List Operand) (types : List Ty) (k : ℕ) (o : Operand) → AllZip (Fits values) given types → slice_get given k ≡ Some o → (ty : Ty) × Fits values o ty
fits_at values [] types k o fits at = absurd cc
fits_at values (first ∷ given) [] k o fits at = absurd fits
fits_at values (first ∷ given) (ty ∷ types) zero o fits at = let same : first ≡ o = cc in (ty, subst (λ (x : Operand). Fits values x ty) same fits.0)
fits_at values (first ∷ given) (ty ∷ types) (suc k) o fits at = fits_at values given types k o fits.1 at

-- where an operand stands that a typed line uses it has a type
pub used_type : (scope : Scope) (inst : Instruction) → IsTyped scope inst → (k : ℕ) (o : Operand) → slice_get (operands_of inst) k ≡ Some o → (ty : Ty) × Fits scope.values o ty
used_type scope inst typed k o at = elim (get_joined inst.operands (map (λ (entry : Ty × Operand). entry.1) inst.bundle) k o at) [
  | inl own ↦ fits_at scope.values inst.operands (asked inst.op inst.ty (length inst.operands)) k o typed.operands own
  | inr there ↦
      let before = map_back (λ (entry : Ty × Operand). entry.1) inst.bundle there.0 o there.2 in (
        (before.before).0,
        subst (λ (x : Operand). Fits scope.values x (before.before).0) (sym before.is)
            (all_at (λ (entry : Ty × Operand). Fits scope.values entry.1 entry.0) inst.bundle there.0 before.before typed.bundle before.stands),
      )
]

pub used_value : (scope : Scope) (inst : Instruction) → IsTyped scope inst → (k v : ℕ) → slice_get (values_used inst) k ≡ Some v → (ty : Ty) × (slice_get scope.values v ≡ Some ty)
used_value scope inst typed k v at =
    let from = filter_map_back value_in (operands_of inst) v k at in
    let type = used_type scope inst typed from.place from.item from.stands in
    (type.0, value_typed scope.values from.item v type.0 from.gives type.1)

pub values_known : (content : ModuleContent) (func : Function) (inst : Instruction) → IsTyped (scope_of content func) inst → All (λ value. value < length (definitions_of func)) (values_used inst)
values_known content func inst typed =
    all_from_at (λ value. value < length (definitions_of func)) (values_used inst) (λ k v at.
    let type = used_value (scope_of content func) inst typed k v at in
    let within = slice_get_within (scope_of content func).values v type.0 type.1 in
    let long = length-map (definitions_of func) definition_type in
    omega (arith, within, long))

-- ---- what is stored, passed or returned

pub leaving_at : (op : Op) (all : List Operand) (k : ℕ) (operand : Operand) → slice_get (leaving op all) k ≡ Some operand → slice_get all k ≡ Some operand
leaving_at Store all k operand at = (take_back 1 all k operand at).1
leaving_at (Call callee types) all k operand at = at
leaving_at Ret all k operand at = at
leaving_at op all k operand at = absurd (none-some operand at)

-- ---- a use is judged in a block

pub use_within : (func : Function) (line value number place : ℕ) → Uses func line value number place
    → (block : BasicBlock) × (slice_get func.blocks number ≡ Some block) × (place ≤ length block.insts)
use_within func _ _ _ _ (by_line number place value line stands no_phi used) =
    let within = slice_get_within stands.block.insts place line stands.in_block in (stands.block, stands.in_function, omega arith)
use_within func _ _ _ _ (by_entry number place entry value phi operand label block stands one label_at operand_at value_at found) = (block, found, omega arith)
