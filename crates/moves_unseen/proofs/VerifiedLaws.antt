-- What a verified module gives a run: the pairs that a line uses stand along its path, and each access has its check before it.
use Rattle.std.proofs.Common.{◌≡◌, ℕ, ◌&&◌, Bool, true, false, List, [], refl, ap, ◌∙◌, Option, Some, None, inl, inr, ◌⊎◌}
use Rattle.std.specs.Prelude.{slice_get}
use Rattle.std.specs.Option.{option_map_or}
use Rattle.std.proofs.lemmas.Bool.{and_parts}
use Rattle.ir_ast.specs.declared.ops.Callee.TheVariants as callees
use Rattle.ir_ast.specs.declared.ops.Op.{Op}
use Rattle.ir_ast.specs.declared.ops.Op.TheVariants as ops
use Rattle.ir_ast.specs.declared.ops.Operand.{Operand}
use Rattle.ir_ast.specs.declared.ops.Operand.TheVariants as operands
use Rattle.ir_ast.specs.declared.types.Ty.{Ty}
use Rattle.ir_ast.specs.Cells.{kind_of}
use Rattle.ir_ast.specs.Funcs.{Function}
use Rattle.pair_facts.specs.declared.bases.Base.TheVariants.{Any, Named}
use Rattle.object_meaning.specs.Accesses.{cell_named, cell_of}
use Rattle.object_meaning.specs.Lines.{Line}
use Rattle.object_meaning.specs.Registers.{operand, value, number_in}
use Rattle.object_meaning.proofs.AccessLaws.{cell_again}
use Rattle.ir_ast.specs.Objects.{Datum}
use Rattle.pair_facts.specs.Faults.{FaultAt, IsStale, loose, stale, unchecked}
use Rattle.pair_facts.specs.Lines.{line_before, lines_at, operand_at, same_operand}
use Rattle.pair_facts.specs.Pairs.{Pairs}
use Rattle.pair_facts.specs.Paths.{At, Misses, Stands, pairs_at}
use Rattle.pair_facts.specs.Uses.{Use, Uses, accessed_at, checks_access, is_checked}
use Rattle.pair_facts.proofs.PathLaws.{arrives_reached}
use Rattle.moves_unseen.specs.Steps.{IsCheckedBefore}
use Rattle.moves_unseen.proofs.ValueLaws.{value_at}
use Rattle.ir_ast.proofs.OpLaws.{same_is}

module _ (func : Function) (block place : ℕ) (none : (code : ℕ) → ¬ FaultAt func block place code) (code at : ℕ) (pair : Use) (uses : Uses (lines_at func block) place code at pair) where
  fresh_by : (operand : Operand) → (Misses func block at operand Any → IsStale func block at pair) → Stands func block at operand Any
  fresh_by operand as_stale front arrives = by (pairs_at (lines_at func block) front at operand Any) refl
    where
      by : (b : Bool) → pairs_at (lines_at func block) front at operand Any ≡ b → pairs_at (lines_at func block) front at operand Any ≡ true
      by true is = is
      by false is = absurd (none 1 (stale code at pair uses (as_stale (record { front = front; arrives = arrives; misses = is }))))

  address_fresh : Stands func block at pair.address Any
  address_fresh = fresh_by pair.address (λ misses. inl misses)

  base_fresh : Stands func block at pair.base Any
  base_fresh = fresh_by pair.base (λ misses. inr misses)

  named_by : (operand : Operand) → (Misses func block at operand (Named pair.base) → Misses func block at pair.address (Named pair.base) ⊎ Misses func block at pair.base (Named pair.base))
      → Stands func block at operand (Named pair.base)
  named_by operand as_loose front arrives = by (pairs_at (lines_at func block) front at operand (Named pair.base)) refl
    where
      by : (b : Bool) → pairs_at (lines_at func block) front at operand (Named pair.base) ≡ b → pairs_at (lines_at func block) front at operand (Named pair.base) ≡ true
      by true is = is
      by false is =
          absurd (none code (loose code at pair uses (record {
            address_fresh = address_fresh;
            base_fresh = base_fresh;
            misses = as_loose (record { front = front; arrives = arrives; misses = is });
          })))

  -- the pair that a line without a fault uses stands along each path
  pub pair_stands : (pairs : Pairs) → At func block at pairs → pairs pair.address (Named pair.base) ≡ true
  pair_stands pairs arrived =
      ap (λ (all : Pairs). all pair.address (Named pair.base)) arrived.is ∙ named_by pair.address (λ misses. inl misses) arrived.front arrived.arrives

  -- and its base is its own
  pub base_stands : (pairs : Pairs) → At func block at pairs → pairs pair.base (Named pair.base) ≡ true
  base_stands pairs arrived =
      ap (λ (all : Pairs). all pair.base (Named pair.base)) arrived.is ∙ named_by pair.base (λ misses. inr misses) arrived.front arrived.arrives

-- ---- checks before accesses

-- an operator for which a check is asked is one
abbrev checks : Op → Bool
checks (ops.Call callees.Check types) = true
checks _ = false

record IsCheck (op : Op) : Type 0 where
  pub types : List Ty
  pub is : op ≡ ops.Call callees.Check types

a_check : (op : Op) → checks op ≡ true → IsCheck op
a_check (ops.Call callees.Check types) is = record { types = types; is = refl }
a_check (ops.Call callees.Print types) is = cc
a_check (ops.Call callees.Read types) is = cc
a_check (ops.Call callees.TaskStart types) is = cc
a_check (ops.Call callees.Poll types) is = cc
a_check (ops.Call callees.Same types) is = cc
a_check (ops.Call (callees.Fun func) types) is = cc
a_check (ops.Call (callees.New layout) types) is = cc
a_check ops.Add is = cc
a_check ops.Sub is = cc
a_check ops.Mul is = cc
a_check ops.Udiv is = cc
a_check ops.Sdiv is = cc
a_check ops.Urem is = cc
a_check ops.Srem is = cc
a_check ops.And is = cc
a_check ops.Or is = cc
a_check ops.Xor is = cc
a_check ops.Shl is = cc
a_check ops.Lshr is = cc
a_check ops.Ashr is = cc
a_check ops.Select is = cc
a_check ops.Phi is = cc
a_check ops.Load is = cc
a_check ops.Store is = cc
a_check ops.GcResult is = cc
a_check ops.GcRelocate is = cc
a_check ops.Br is = cc
a_check ops.CondBr is = cc
a_check ops.Switch is = cc
a_check ops.Ret is = cc
a_check ops.Unreachable is = cc
a_check (ops.Icmp pred) is = cc
a_check (ops.Trunc width) is = cc
a_check (ops.Zext width) is = cc
a_check (ops.Sext width) is = cc
a_check (ops.Gep elem index_width place) is = cc
a_check (ops.Statepoint id callee types) is = cc

checked_by : (lines : List Line) (place : ℕ) (registers : List Datum) (address : Operand) (ty : Ty) (found : Option Line) → line_before lines place ≡ found
    → option_map_or (checks_access address ty) found false ≡ true → IsCheckedBefore lines place registers address (cell_of ty)
checked_by lines place registers address ty None before is = cc
checked_by lines place registers address ty (Some check) before is =
    let first = and_parts (checks check.inst.op) (same_operand (operand_at check.inst.operands 1) address && same_operand (operand_at check.inst.operands 2) (operands.Int (kind_of (cell_of ty)))) is in
    let second = and_parts (same_operand (operand_at check.inst.operands 1) address) (same_operand (operand_at check.inst.operands 2) (operands.Int (kind_of (cell_of ty)))) first.1 in
    let op = a_check check.inst.op first.0 in
    record {
      check = check;
      types = op.types;
      before = before;
      op = op.is;
      same_address = same_is (operand_at check.inst.operands 1) address second.0;
      kind = ap (λ (d : Datum). cell_named (number_in d)) (value_at registers check.inst.operands 2)
          ∙ (ap (λ (o : Operand). cell_named (number_in (value registers o))) (same_is (operand_at check.inst.operands 2) (operands.Int (kind_of (cell_of ty))) second.1)
          ∙ cell_again (cell_of ty));
    }

-- each access has a check of its address and kind directly before it
pub check_before : (func : Function) (block place : ℕ) → ((code : ℕ) → ¬ FaultAt func block place code) → (pairs : Pairs) → At func block place pairs
    → (line : Line) → slice_get (lines_at func block) place ≡ Some line → (address : Operand) → accessed_at line.inst.op line.inst ≡ Some address
    → (registers : List Datum) → IsCheckedBefore (lines_at func block) place registers address (cell_of line.inst.ty)
check_before func block place none pairs arrived line stands address accesses registers =
    by (is_checked (lines_at func block) place address line.inst.ty) refl
  where
    by : (b : Bool) → is_checked (lines_at func block) place address line.inst.ty ≡ b → IsCheckedBefore (lines_at func block) place registers address (cell_of line.inst.ty)
    by true is = checked_by (lines_at func block) place registers address line.inst.ty (line_before (lines_at func block) place) refl is
    by false is =
        absurd (none 3 (unchecked (arrives_reached func block arrived.front arrived.arrives) (record { line = line; stands = stands; address = address; accesses = accesses; unchecked = is })))
