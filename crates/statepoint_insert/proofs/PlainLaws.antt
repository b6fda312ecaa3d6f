-- In a marked function each operand names its value.
use Rattle.std.proofs.Common.{◌≡◌, ℕ, zero, suc, Bool, true, false, ◌&&◌, if◌then◌else◌, List, refl}
use Rattle.ir_ast.specs.declared.ops.Operand.{Operand}
use Rattle.ir_ast.specs.declared.ops.Operand.TheVariants.{Value, Int, Null, Fun}
use Rattle.ir_ast.specs.Funcs.{Function}
use Rattle.rewriting_forms.specs.Numbered.{among, line_at, gives, calls}
use Rattle.rewriting_forms.specs.Liveness.{live_list}
use Rattle.rewriting_forms.specs.Names.{Name, own, relocated, names_at}
use Rattle.rewriting_forms.specs.Rewritten.{renamed}
use Rattle.statepoint_insert.specs.Marked.{plain_naming, value_named}

module _ (func : Function) (table : List Operand) where
  kept : (given listed : Bool) (b k v : ℕ) (name : Name) → value_named name ≡ v
      → value_named (if given then own v else (if listed then relocated b k v else name)) ≡ v
  kept true listed b k v name is = refl
  kept false true b k v name is = refl
  kept false false b k v name is = is

  pub value_kept : (b k v : ℕ) → value_named (names_at func table plain_naming b k v) ≡ v
  value_kept b zero v = refl
  value_kept b (suc k) v =
      kept (gives (line_at func b k) v) (calls (line_at func b k) && among v (live_list func table b k)) b k v (names_at func table plain_naming b k v) (value_kept b k v)

  pub operand_kept : (b k : ℕ) (operand : Operand) → renamed value_named (names_at func table plain_naming b k) operand ≡ operand
  operand_kept b k (Value v) = rw (value_kept b k v.0) refl
  operand_kept b k (Int word) = refl
  operand_kept b k Null = refl
  operand_kept b k (Fun other) = refl
