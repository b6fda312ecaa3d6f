-- The lines that stand for an instruction where bases and checks are put in, by what is known of the values.
use Rattle.std.specs.Prelude.{ℕ, Bool, ◌&&◌, if◌then◌else◌, List, [], ◌∷◌, ◌++◌, map, codes, Option, Some, None, slice_index_or}
use Rattle.std.specs.Fmt.{decimal}
use Rattle.ir_ast.specs.declared.types.Ty.TheVariants.{Void, Int as Integer, Ptr}
use Rattle.ir_ast.specs.declared.ops.Pred.{Pred}
use Rattle.ir_ast.specs.declared.ops.Pred.TheVariants.{Eq, Ne}
use Rattle.ir_ast.specs.declared.ops.Callee.TheVariants.{Check, Same}
use Rattle.ir_ast.specs.declared.ops.Operand.{Operand}
use Rattle.ir_ast.specs.declared.ops.Operand.TheVariants.{Value, Int, Null}
use Rattle.ir_ast.specs.declared.ops.Op.{Op}
use Rattle.ir_ast.specs.declared.ops.Op.TheVariants.{Xor, Icmp, Select, Phi, Load, Store, Call}
use Rattle.ir_ast.specs.Cells.{kind_of}
use Rattle.ir_ast.specs.Insts.{Instruction}
use Rattle.ir_ast.specs.Blocks.{BasicBlock}
use Rattle.ir_ast.specs.Derived.{is_merge}
use Rattle.object_meaning.specs.Lines.{following, after_all}
use Rattle.object_meaning.specs.Accesses.{cell_of}

-- what is known of the values of a function: among it an operand with its new number, and its base
pub record Insertion : Type 0 where
  pub now : Operand → Operand
  pub base : Operand → Operand
  -- whether an instruction uses a derived value
  pub uses_derived : Instruction → Bool
  -- before a value: how many derived phis and selects stand, how many negated compares, and the number of the line
  -- that is inserted directly before it
  pub base_rank : ℕ → ℕ
  pub same_rank : ℕ → ℕ
  pub inserted : ℕ → ℕ

abbrev pub operand_at : Instruction → ℕ → Operand
operand_at inst place = slice_index_or inst.operands place Null

abbrev pub numbered_name : List ℕ → ℕ → List ℕ
numbered_name front rank = front ++ decimal rank

module _ (given : Insertion) where
  -- the instruction itself, over the new numbers
  abbrev pub kept_line : Instruction → Instruction
  kept_line inst = record inst { operands = map given.now inst.operands; bundle = map (λ entry. (entry.0, given.now entry.1)) inst.bundle }

  -- the operands of a phi or select over the bases; the condition of a select stays
  abbrev pub merged_bases : Op → List Operand → List Operand
  merged_bases Select (condition ∷ operands) = given.now condition ∷ map given.base operands
  merged_bases op operands = map given.base operands

  -- `%sp.bN = phi P ..` or `%sp.bN = select i1 .., P .., P ..`
  abbrev pub base_line : ℕ → Instruction → Instruction
  base_line next inst = record {
    result = Some (numbered_name (codes "sp.b") (given.base_rank next));
    op = inst.op;
    ty = inst.ty;
    operands = merged_bases inst.op inst.operands;
    labels = inst.labels;
    bundle = [];
  }

  -- `call void @gc_check(P base, P address, i64 kind)`
  abbrev pub check : Instruction → Operand → Instruction
  check inst address = record {
    result = None;
    op = Call Check (Ptr ∷ Ptr ∷ Integer 64 ∷ []);
    ty = Void;
    operands = given.base address ∷ given.now address ∷ Int (kind_of (cell_of inst.ty)) ∷ [];
    labels = [];
    bundle = [];
  }

  -- `%x = call i1 @gc_same(P base 1, P address 1, P base 2, P address 2)`
  abbrev pub same_call : Option (List ℕ) → Operand → Operand → Instruction
  same_call result first second = record {
    result = result;
    op = Call Same (Ptr ∷ Ptr ∷ Ptr ∷ Ptr ∷ []);
    ty = Integer 1;
    operands = given.base first ∷ given.now first ∷ given.base second ∷ given.now second ∷ [];
    labels = [];
    bundle = [];
  }

  -- `%x = xor i1 %sp.sN, true`
  abbrev pub negated_line : ℕ → Option (List ℕ) → Instruction
  negated_line next result = record {
    result = result;
    op = Xor;
    ty = Integer 1;
    operands = Value (record { 0 = given.inserted next }) ∷ Int 1 ∷ [];
    labels = [];
    bundle = [];
  }

  abbrev pub negation : ℕ → Instruction → Instruction
  negation next inst = negated_line next inst.result

  abbrev pub compared_equal : Instruction → List Instruction
  compared_equal inst = same_call inst.result (operand_at inst 0) (operand_at inst 1) ∷ []

  abbrev pub compared_unequal : ℕ → Instruction → List Instruction
  compared_unequal next inst =
      same_call (Some (numbered_name (codes "sp.s") (given.same_rank next))) (operand_at inst 0) (operand_at inst 1)
      ∷ negation next inst ∷ []

  -- a compare with a derived operand
  abbrev pub compared : ℕ → Instruction → Pred → List Instruction
  compared next inst Eq = compared_equal inst
  compared next inst Ne = compared_unequal next inst
  compared next inst pred = kept_line inst ∷ []

  -- a phi or select
  abbrev pub merged : ℕ → Instruction → List Instruction
  merged next inst =
      (if is_merge inst.op && given.uses_derived inst then base_line next inst ∷ [] else []) ++ kept_line inst ∷ []

  -- the lines for an instruction with this operator; its own result or the next one is the value `next`
  abbrev pub lines_for : ℕ → Instruction → Op → List Instruction
  lines_for next inst Phi = merged next inst
  lines_for next inst Select = merged next inst
  lines_for next inst (Icmp pred) = if given.uses_derived inst then compared next inst pred else kept_line inst ∷ []
  lines_for next inst Load = check inst (operand_at inst 0) ∷ kept_line inst ∷ []
  lines_for next inst Store = check inst (operand_at inst 1) ∷ kept_line inst ∷ []
  lines_for next inst op = kept_line inst ∷ []

  -- the lines for these instructions, of which the first result is the value `next`
  abbrev pub based_insts : ℕ → List Instruction → List Instruction
  based_insts next [] = []
  based_insts next (inst ∷ insts) = lines_for next inst inst.op ++ based_insts (following next inst) insts

  abbrev pub based_blocks : ℕ → List BasicBlock → List BasicBlock
  based_blocks next [] = []
  based_blocks next (block ∷ blocks) =
      record block { insts = based_insts next block.insts } ∷ based_blocks (after_all next block.insts) blocks
