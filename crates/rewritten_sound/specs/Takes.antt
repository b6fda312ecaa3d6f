-- A function before its groups whose lines take pointers with their bases, as the verifier asks of the rewritten one.
use Rattle.std.specs.Prelude.{◌≡◌, ◌≢◌, ◌⊎◌, ℕ, suc, ◌<◌, Bool, true, false, List, length, Some, None, slice_get}
use Rattle.std.specs.List.{Contains}
use Rattle.ir_ast.specs.declared.ops.Callee.TheVariants.{Check}
use Rattle.ir_ast.specs.declared.ops.Op.{Op}
use Rattle.ir_ast.specs.declared.ops.Op.TheVariants.{Call, Gep, Load, Select}
use Rattle.ir_ast.specs.declared.ops.Operand.{Operand}
use Rattle.ir_ast.specs.declared.ops.Operand.TheVariants.{Value, Null}
use Rattle.ir_ast.specs.declared.types.Ty.{Ty}
use Rattle.ir_ast.specs.Callees.{is_leaf}
use Rattle.ir_ast.specs.Faults.PhiEdges.{is_phi}
use Rattle.ir_ast.specs.Funcs.{Function}
use Rattle.ir_ast.specs.Types.{is_pointer}
use Rattle.object_meaning.specs.Jumps.{phi_count}
use Rattle.object_meaning.specs.Lines.{Line}
use Rattle.rewriting_forms.specs.Numbered.{among, base_at, gives, lines_at, named, pointers}
use Rattle.rewriting_laws.specs.Laws.{Edge}
use Rattle.pair_facts.specs.Lines.{operand_at, phis_in, same_operand}
use Rattle.pair_facts.specs.Pairs.{along}
use Rattle.pair_facts.specs.Uses.{Use, accessed_at, checked, compared, escaping, is_checked}

-- what a bundle holds is another pointer than the line gives
abbrev pub HoldsOthers : Function → Type 0
HoldsOthers func = (b k v : ℕ) (line : Line) (entry : Ty × Operand) → slice_get (lines_at func b) k ≡ Some line → Contains line.inst.bundle entry
    → is_pointer entry.0 ≡ true → entry.1 ≡ named v → (among v (pointers func) ≡ true) × (gives line v ≡ false)

module _ (func : Function) (table : List Operand) where
  abbrev pub base_of : Operand → Operand
  base_of (Value value) = base_at table value.0
  base_of operand = operand

  -- `null` or a pointer
  abbrev pub IsPointer : Operand → Type 0
  IsPointer (Value value) = among value.0 (pointers func) ≡ true
  IsPointer Null = Unit {0}
  IsPointer operand = ⊥

  -- its own base
  abbrev pub IsOwn : Operand → Type 0
  IsOwn operand = IsPointer operand × (base_of operand ≡ operand)

  -- a pointer and its base
  abbrev pub IsBased : Use → Type 0
  IsBased pair = IsPointer pair.address × (pair.base ≡ base_of pair.address)

  -- the select directly before is the same over the bases
  pub record Merges (b k v : ℕ) (line : Line) : Type 0 where
    pub before : ℕ
    pub next : suc before ≡ k
    pub given : Line
    pub stands : slice_get (lines_at func b) before ≡ Some given
    pub select : given.inst.op ≡ Select
    pub type : is_pointer given.inst.ty ≡ true
    pub other : ℕ
    pub gives_other : given.to ≡ Some other
    pub apart : other ≢ v
    pub base : base_at table v ≡ named other
    pub is_condition : same_operand (operand_at line.inst.operands 0) (operand_at line.inst.operands 0) ≡ true
    pub condition : operand_at given.inst.operands 0 ≡ operand_at line.inst.operands 0
    pub first : operand_at given.inst.operands 1 ≡ base_of (operand_at line.inst.operands 1)
    pub second : operand_at given.inst.operands 2 ≡ base_of (operand_at line.inst.operands 2)
    pub first_pointer : IsPointer (operand_at line.inst.operands 1)
    pub second_pointer : IsPointer (operand_at line.inst.operands 2)
    -- it doesn't take what it gives
    pub condition_kept : operand_at line.inst.operands 0 ≢ named other
    pub first_kept : base_of (operand_at line.inst.operands 1) ≢ named other
    pub second_kept : base_of (operand_at line.inst.operands 2) ≢ named other

  -- where the base of a line's result comes from
  abbrev pub Derives : ℕ → ℕ → ℕ → Line → Op → Type 0
  Derives b k v line Load = (is_pointer line.inst.ty ≡ true) × (base_at table v ≡ named v)
  Derives b k v line (Gep elem index_width place) =
      IsPointer (operand_at line.inst.operands 0) × (base_at table v ≡ base_of (operand_at line.inst.operands 0)) × (base_at table v ≢ named v)
  Derives b k v line Select = (is_pointer line.inst.ty ≡ true)
      × (((base_at table v ≡ named v) × IsOwn (operand_at line.inst.operands 1) × IsOwn (operand_at line.inst.operands 2)) ⊎ Merges b k v line)
  Derives b k v line (Call callee types) = (is_leaf callee ≡ false) × (is_pointer line.inst.ty ≡ true) × (base_at table v ≡ named v)
  Derives b k v line op = ⊥

  -- what the line takes
  pub record Takes (b k : ℕ) (line : Line) : Type 0 where
    pub own : (operand : Operand) → Contains (escaping line.inst.op line.inst) operand → IsOwn operand
    pub checks : (pair : Use) → Contains (checked line.inst.op line.inst) pair → IsBased pair
    pub compares : (pair : Use) → Contains (compared line.inst.op line.inst) pair → IsBased pair
    pub checked_before : (address : Operand) → accessed_at line.inst.op line.inst ≡ Some address
        → is_checked (lines_at func b) k address line.inst.ty ≡ true

  -- each pointer has its base, which stays beside it while it is live
  pub record HasPairs (live : ℕ → ℕ → ℕ → Bool) : Type 0 where
    pub base_is : (v : ℕ) → among v (pointers func) ≡ true → IsOwn (base_at table v)
    pub base_live : (b k v w : ℕ) → among v (pointers func) ≡ true → live b k v ≡ true → base_at table v ≡ named w → live b k w ≡ true
    pub steady : (b k v w : ℕ) (line : Line) → slice_get (lines_at func b) k ≡ Some line → among v (pointers func) ≡ true → live b (suc k) v ≡ true
        → gives line v ≡ false → base_at table v ≡ named w → gives line w ≡ false
    pub at_entry : (v : ℕ) → among v (pointers func) ≡ true → live 0 0 v ≡ true → (v < length func.args) × (base_at table v ≡ named v)
    -- the base of what comes over an edge comes over it too
    pub on_edges : (from to v : ℕ) → Edge func from to → among v (pointers func) ≡ true → live to (phi_count (lines_at func to)) v ≡ true
        → IsPointer (along from (phis_in (lines_at func to)) (named v))
        × (along from (phis_in (lines_at func to)) (base_at table v) ≡ base_of (along from (phis_in (lines_at func to)) (named v)))
    -- no line uses its own result
    pub others : (b k place v : ℕ) (line : Line) → slice_get (lines_at func b) k ≡ Some line → is_phi line.inst.op ≡ false
        → slice_get line.inst.operands place ≡ Some (named v) → gives line v ≡ false
    pub derives : (b k v : ℕ) (line : Line) → slice_get (lines_at func b) k ≡ Some line → is_phi line.inst.op ≡ false → gives line v ≡ true
        → among v (pointers func) ≡ true → Derives b k v line line.inst.op
    pub takes : (b k : ℕ) (line : Line) → slice_get (lines_at func b) k ≡ Some line → Takes b k line
    -- a check gives nothing
    pub silent : (b k : ℕ) (line : Line) (types : List Ty) → slice_get (lines_at func b) k ≡ Some line → line.inst.op ≡ Call Check types → line.to ≡ None
    pub held : HoldsOthers func
