-- Which line a line for an instruction is, where bases and checks are put in.
use Rattle.std.proofs.Common.{◌≡◌, ℕ, zero, suc, ◌+◌, ◌<◌, Bool, true, false, if◌then◌else◌, List, [], ◌∷◌, ◌++◌, length, map, take, drop, refl, sym, ap, subst, ◌∙◌, ◌⊎◌, inl, inr, arith}
use Rattle.std.specs.Prelude.{Option, Some, slice_get, slice_index_or}
use Rattle.std.specs.List.{All}
use Rattle.std.specs.Option.{option_map_or}
use Rattle.std.proofs.lemmas.Bool.{false≢true, true≢false}
use Rattle.std.proofs.lemmas.Option.{none-some}
use Rattle.list_laws.proofs.Contents.{all_at}
use Rattle.list_laws.proofs.Places.{get_front, get_past, split_at}
use Rattle.ir_ast.specs.declared.ops.Pred.{Pred}
use Rattle.ir_ast.specs.declared.ops.Pred.TheVariants as preds
use Rattle.ir_ast.specs.declared.ops.Op.{Op}
use Rattle.ir_ast.specs.declared.ops.Op.TheVariants as ops
use Rattle.ir_ast.specs.declared.ops.Operand.{Operand}
use Rattle.ir_ast.specs.declared.ops.Operand.TheVariants as operands
use Rattle.ir_ast.specs.Blocks.{BasicBlock}
use Rattle.ir_ast.specs.Derived.{is_merge}
use Rattle.ir_ast.specs.Insts.{Instruction}
use Rattle.ir_ast.specs.Funcs.{Function}
use Rattle.ir_ast.specs.Lines.{IsLine, LineOf}
use Rattle.ir_ast.specs.Faults.PointerOrder.{is_order}
use Rattle.object_meaning.specs.Lines.{after_all, following}
use Rattle.base_forms.specs.Based.{based_blocks, based_insts, check, compared, kept_line, lines_for, same_call}
use Rattle.base_forms.specs.DerivedMarks.{derived_marks, uses_marked}
use Rattle.base_forms.specs.Inserted.{renumbered}
use Rattle.base_laws.proofs.FormLaws.{based_append, each_line}
use Rattle.pair_facts.specs.Lines.{operand_at}
use Rattle.pair_facts.specs.Uses.{accessed_at}

abbrev pub is_compare : Op → Bool
is_compare (ops.Icmp pred) = true
is_compare op = false

abbrev is_access : Op → Bool
is_access ops.Load = true
is_access ops.Store = true
is_access op = false

accessed_is : (op : Op) (line : Instruction) (address : Operand) → accessed_at op line ≡ Some address → is_access op ≡ true
accessed_is ops.Load line address is = refl
accessed_is ops.Store line address is = refl
accessed_is op line address is = absurd (none-some address is)

operand_kept : (f : Operand → Operand) (xs : List Operand) (place : ℕ) → place < length xs → operand_at (map f xs) place ≡ f (slice_index_or xs place operands.Null)
operand_kept f [] place within = absurd (omega (arith, within))
operand_kept f (x ∷ xs) zero within = refl
operand_kept f (x ∷ xs) (suc place) within = operand_kept f xs place (omega (arith, within))

module _ (func : Function) (marks : List Bool) (value : ℕ) (inst : Instruction) where
  pub data MadeLine (line : Instruction) : Type 0 where
    kept : line ≡ kept_line func marks inst → MadeLine line
    merging : is_merge inst.op ≡ true → line.op ≡ inst.op → MadeLine line
    checking : (address : Operand) → line ≡ check func marks inst address → MadeLine line
    comparing : (result : Option (List ℕ)) (first second : Operand) → line ≡ same_call func marks result first second → MadeLine line
    negating : line.op ≡ ops.Xor → MadeLine line

  pub made_lines : All MadeLine (lines_for func marks value inst inst.op)
  made_lines =
      each_line MadeLine func marks value inst (kept refl) (λ kind. merging kind refl) (λ address. checking address refl)
      (λ result first second. comparing result first second refl) (negating refl)

  -- a compare that stays has no derived operand, or is one of order
  pub plain_compare : (pred : Pred) (index : ℕ) (line : Instruction) → slice_get (lines_for func marks value inst (ops.Icmp pred)) index ≡ Some line → is_compare line.op ≡ true
      → (uses_marked marks inst ≡ false) ⊎ (is_order pred ≡ true)
  plain_compare pred index line at compares = by (uses_marked marks inst) refl pred at
    where
      equal : (k : ℕ) → slice_get (compared func marks value inst preds.Eq) k ≡ Some line → is_compare line.op ≡ false
      equal zero at = sym (ap (λ (found : Option Instruction). option_map_or (λ (each : Instruction). is_compare each.op) found false) at)
      equal (suc k) at = absurd (none-some line at)

      unequal : (k : ℕ) → slice_get (compared func marks value inst preds.Ne) k ≡ Some line → is_compare line.op ≡ false
      unequal zero at = sym (ap (λ (found : Option Instruction). option_map_or (λ (each : Instruction). is_compare each.op) found false) at)
      unequal (suc zero) at = sym (ap (λ (found : Option Instruction). option_map_or (λ (each : Instruction). is_compare each.op) found false) at)
      unequal (suc (suc k)) at = absurd (none-some line at)

      by : (b : Bool) → uses_marked marks inst ≡ b → (pred : Pred) → slice_get (if b then compared func marks value inst pred else kept_line func marks inst ∷ []) index ≡ Some line
          → (uses_marked marks inst ≡ false) ⊎ (is_order pred ≡ true)
      by false same pred at = inl same
      by true same preds.Eq at = absurd (true≢false (sym compares ∙ equal index at))
      by true same preds.Ne at = absurd (true≢false (sym compares ∙ unequal index at))
      by true same pred at = inr refl

  -- an access stands behind its check
  pub record Accesses (index : ℕ) (line : Instruction) (address : Operand) : Type 0 where
    pub from : Operand
    pub behind : index ≡ 1
    pub before : slice_get (lines_for func marks value inst inst.op) 0 ≡ Some (check func marks inst from)
    pub address_is : address ≡ renumbered func marks from
    pub type_is : line.ty ≡ inst.ty

  two : (place : ℕ) → lines_for func marks value inst inst.op ≡ check func marks inst (slice_index_or inst.operands place operands.Null) ∷ kept_line func marks inst ∷ [] → place < length inst.operands
      → ((a : Operand) → accessed_at inst.op (kept_line func marks inst) ≡ Some a → operand_at (map (renumbered func marks) inst.operands) place ≡ a)
      → (index : ℕ) (line : Instruction) (address : Operand) → slice_get (lines_for func marks value inst inst.op) index ≡ Some line → accessed_at line.op line ≡ Some address → Accesses index line address
  two place group within takes index line address at accessed = by index refl (ap (λ (lines : List Instruction). slice_get lines index) (sym group) ∙ at)
    where
      by : (k : ℕ) → index ≡ k → slice_get (check func marks inst (slice_index_or inst.operands place operands.Null) ∷ kept_line func marks inst ∷ []) k ≡ Some line → Accesses index line address
      by zero is at =
          let same : line ≡ check func marks inst (slice_index_or inst.operands place operands.Null) = cc in
          absurd (none-some address (subst (λ (l : Instruction). accessed_at l.op l ≡ Some address) same accessed))
      by (suc zero) is at =
          let same : line ≡ kept_line func marks inst = cc in
          record {
            from = slice_index_or inst.operands place operands.Null;
            behind = is;
            before = ap (λ (lines : List Instruction). slice_get lines 0) group;
            address_is = sym (takes address (subst (λ (l : Instruction). accessed_at l.op l ≡ Some address) same accessed)) ∙ operand_kept (renumbered func marks) inst.operands place within;
            type_is = ap (λ (l : Instruction). l.ty) same;
          }
      by (suc (suc k)) is at = absurd (none-some line at)

  pub accesses : IsLine inst → (index : ℕ) (line : Instruction) (address : Operand) → slice_get (lines_for func marks value inst inst.op) index ≡ Some line → accessed_at line.op line ≡ Some address
      → Accesses index line address
  accesses form index line address at accessed =
      let kinds = each_line (λ (each : Instruction). is_access each.op ≡ true → is_access inst.op ≡ true) func marks value inst (λ is. is) (λ kind is. is) (λ address is. absurd (false≢true is))
      (λ result first second is. absurd (false≢true is)) (λ is. absurd (false≢true is)) in
      by inst.op refl
      (all_at (λ (each : Instruction). is_access each.op ≡ true → is_access inst.op ≡ true) (lines_for func marks value inst inst.op) index line kinds at (accessed_is line.op line address accessed))
    where
      by : (op : Op) → inst.op ≡ op → is_access op ≡ true → Accesses index line address
      by ops.Load same kind =
          let long = (subst (λ (o : Op). LineOf o inst) same form).operand_count in
          two 0 (ap (lines_for func marks value inst) same) (omega (arith, long))
          (λ a is. let both : Some (operand_at (map (renumbered func marks) inst.operands) 0) ≡ Some a = subst (λ (o : Op). accessed_at o (kept_line func marks inst) ≡ Some a) same is in cc) index line address at
          accessed
      by ops.Store same kind =
          let long = (subst (λ (o : Op). LineOf o inst) same form).operand_count in
          two 1 (ap (lines_for func marks value inst) same) (omega (arith, long))
          (λ a is. let both : Some (operand_at (map (renumbered func marks) inst.operands) 1) ≡ Some a = subst (λ (o : Op). accessed_at o (kept_line func marks inst) ≡ Some a) same is in cc) index line address at
          accessed
      by op same kind = absurd (false≢true kind)

-- ---- one block

-- a block with bases is made of the block at the same place
pub record MadeBlock (func : Function) (blocks : List BasicBlock) (b : ℕ) (block : BasicBlock) : Type 0 where
  pub next : ℕ
  pub from : BasicBlock
  pub stands : slice_get blocks b ≡ Some from
  pub is : block.insts ≡ based_insts func (derived_marks func) next from.insts

pub block_made : (func : Function) (next : ℕ) (blocks : List BasicBlock) (b : ℕ) (block : BasicBlock) → slice_get (based_blocks func (derived_marks func) next blocks) b ≡ Some block
    → MadeBlock func blocks b block
block_made func next [] b block at = absurd (none-some block at)
block_made func next (first ∷ blocks) zero block at =
    let same : block ≡ record first { insts = based_insts func (derived_marks func) next first.insts } = cc in
    record { next = next; from = first; stands = refl; is = ap (λ (each : BasicBlock). each.insts) same }
block_made func next (first ∷ blocks) (suc b) block at =
    let rest = block_made func (after_all next first.insts) blocks b block at in
    record { next = rest.next; from = rest.from; stands = rest.stands; is = rest.is }

-- a line for an instruction stands in the lines for all
pub group_stands : (func : Function) (next : ℕ) (insts : List Instruction) (from : ℕ) (inst : Instruction) → slice_get insts from ≡ Some inst → (index : ℕ) (line : Instruction)
    → slice_get (lines_for func (derived_marks func) (after_all next (take from insts)) inst inst.op) index ≡ Some line
    → slice_get (based_insts func (derived_marks func) next insts) (length (based_insts func (derived_marks func) next (take from insts)) + index) ≡ Some line
group_stands func next insts from inst at index line in_group =
    let front = based_insts func (derived_marks func) next (take from insts) in
    let group = lines_for func (derived_marks func) (after_all next (take from insts)) inst inst.op in
    let behind = based_insts func (derived_marks func) (following (after_all next (take from insts)) inst) (drop (from + 1) insts) in
    let split : based_insts func (derived_marks func) next insts ≡ front ++ (group ++ behind) =
    ap (based_insts func (derived_marks func) next) (split_at insts from inst at) ∙ based_append func (derived_marks func) next (take from insts) (inst ∷ drop (from + 1) insts) in
    ap (λ (lines : List Instruction). slice_get lines (length front + index)) split ∙ (get_past front (group ++ behind) index ∙ get_front group behind index line in_group)
