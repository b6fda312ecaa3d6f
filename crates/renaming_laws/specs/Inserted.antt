-- Lines that are inserted before a line, or take its place: what they do is what the line does, and a register that they write
-- besides was no register before.
use Rattle.std.specs.Prelude.{◌≡◌, ◌≢◌, ℕ, ◌<◌, true, List, [], ◌∷◌, Option, Some, None, slice_get}
use Rattle.std.specs.Option.{option_map, IfSome}
use Rattle.ir_ast.specs.declared.types.Ty.{Ty}
use Rattle.ir_ast.specs.declared.types.Ty.TheVariants.{Void, Int, Ptr}
use Rattle.ir_ast.specs.declared.ops.Operand.{Operand}
use Rattle.ir_ast.specs.declared.ops.Operand.TheVariants.{Value, Int as Literal}
use Rattle.ir_ast.specs.declared.ops.Callee.TheVariants.{Check, Same}
use Rattle.ir_ast.specs.declared.ops.Pred.TheVariants.{Eq, Ne}
use Rattle.ir_ast.specs.declared.ops.Op.{Op}
use Rattle.ir_ast.specs.declared.ops.Op.TheVariants.{Load, Store, Icmp, Call, Xor}
use Rattle.ir_ast.specs.Cells.{kind_of}
use Rattle.ir_ast.specs.Derived.{is_merge}
use Rattle.object_meaning.specs.Accesses.{cell_of}
use Rattle.object_meaning.specs.Lines.{Line}
use Rattle.renaming_laws.specs.Renamed.{Renaming, renamed, renamed_line}

-- a register that has no number of an old one
abbrev pub IsFresh : Renaming → Option ℕ → Type 0
IsFresh function to = IfSome to (λ fresh. (register : ℕ) → register < function.room → function.number register ≢ fresh)

-- `call void @gc_check(P base, P address, i64 kind)`
abbrev pub check_line : List Ty → Operand → Operand → ℕ → Line
check_line types base address kind = record {
  to = None;
  inst = record {
    result = None;
    op = Call Check types;
    ty = Void;
    operands = base ∷ address ∷ Literal kind ∷ [];
    labels = [];
    bundle = [];
  };
}

-- `%x = call i1 @gc_same(P base, P address, P base, P address)`
abbrev pub same_line : Option ℕ → Option (List ℕ) → List Ty → Operand → Operand → Operand → Operand → Line
same_line to name types base address other_base other_address = record {
  to = to;
  inst = record {
    result = name;
    op = Call Same types;
    ty = Int 1;
    operands = base ∷ address ∷ other_base ∷ other_address ∷ [];
    labels = [];
    bundle = [];
  };
}

-- `%x = xor i1 %y, true`
abbrev pub negated_line : Option ℕ → Option (List ℕ) → ℕ → Line
negated_line to name from = record {
  to = to;
  inst = record {
    result = name;
    op = Xor;
    ty = Int 1;
    operands = Value (record { 0 = from }) ∷ Literal 1 ∷ [];
    labels = [];
    bundle = [];
  };
}

-- the place of the pointer among the operands of an access
abbrev pub pointer_place : Op → Option ℕ
pointer_place Load = Some 0
pointer_place Store = Some 1
pointer_place op = None

-- what a line becomes
pub data Image (function : Renaming) (line : Line) : List Line → Type 0 where
  -- itself under other numbers
  alone : (name : Option (List ℕ)) → Image function line (renamed_line function.number name line ∷ [])
  -- a phi or a select, behind another one
  behind_merge : (merge : Line) (name : Option (List ℕ)) → is_merge line.inst.op ≡ true → merge.inst.op ≡ line.inst.op
      → line.inst.bundle ≡ [] → merge.inst.bundle ≡ [] → IsFresh function merge.to
      → Image function line (merge ∷ renamed_line function.number name line ∷ [])
  -- a load or store, behind the check of its pointer and of its cell's kind
  behind_check : (types : List Ty) (base address : Operand) (place : ℕ) (name : Option (List ℕ))
      → pointer_place line.inst.op ≡ Some place → slice_get line.inst.operands place ≡ Some address → line.inst.bundle ≡ []
      → Image function line
      (check_line types base (renamed function.number address) (kind_of (cell_of line.inst.ty)) ∷ renamed_line function.number name line ∷ [])
  -- `icmp eq` of two pointers
  as_same : (types : List Ty) (base other_base first second : Operand) (name : Option (List ℕ))
      → line.inst.op ≡ Icmp Eq → line.inst.ty ≡ Ptr → line.inst.operands ≡ first ∷ second ∷ [] → line.inst.bundle ≡ []
      → Image function line
      (same_line (option_map function.number line.to) name types base (renamed function.number first) other_base (renamed function.number second) ∷ [])
  -- `icmp ne` of two pointers
  as_negated : (types : List Ty) (base other_base first second : Operand) (fresh : ℕ) (same_name name : Option (List ℕ))
      → line.inst.op ≡ Icmp Ne → line.inst.ty ≡ Ptr → line.inst.operands ≡ first ∷ second ∷ [] → line.inst.bundle ≡ []
      → IsFresh function (Some fresh) → fresh < function.now_room
      → Image function line
      (same_line (Some fresh) same_name types base (renamed function.number first) other_base (renamed function.number second)
      ∷ negated_line (option_map function.number line.to) name fresh ∷ [])
