-- The slots of a function's blocks: what its lines use and give, in the order of the rewritten text.
use Rattle.std.specs.Prelude.{◌≡◌, ℕ, suc, ◌<◌, ◌+◌, ◌==◌, if◌then◌else◌, List, [], ◌∷◌, ◌++◌, length, map, Option, Some, None, slice_index_or}
use Rattle.std.specs.List.{flat_map, range_with_len}
use Rattle.std.specs.Global.{Vec}
use Rattle.sp_ids.specs.declared.ids.BlockId.{BlockId}
use Rattle.sp_ids.specs.declared.ids.ValueId.{ValueId}
use Rattle.ir_ast.specs.declared.types.Ty.{Ty}
use Rattle.ir_ast.specs.declared.ops.Operand.{Operand}
use Rattle.ir_ast.specs.declared.ops.Operand.TheVariants.{Value, Int, Null, Fun}
use Rattle.ir_ast.specs.Insts.{Instruction}
use Rattle.ir_ast.specs.Blocks.{BasicBlock}
use Rattle.ir_ast.specs.Funcs.{Function}
use Rattle.ir_ast.specs.Faults.PhiEdges.{is_phi}
use Rattle.object_meaning.specs.Lines.{Line, after_all}
use Rattle.object_meaning.specs.TargetRuns.{plain_lines}
use Rattle.rewriting_forms.specs.Numbered.{lines_at, calls, preds}
use Rattle.rewriting_forms.specs.Liveness.{live_list}
use Rattle.rewriting_forms.specs.Names.{Name, own, joined, Naming, names_at, names_at_end}
use Rattle.rewriting_forms.specs.Rewritten.{joined_at, line_names, block_names}
use Rattle.statepoint_insert.specs.Groups.{GroupContent}
use Rattle.version_walk.specs.Slots.{next_behind}
use Rattle.version_walk.specs.Forest.{list_at}
use Rattle.version_walk.specs.declared.slots.Slot.{Slot}
use Rattle.version_walk.specs.declared.slots.Slot.TheVariants.{Use, Own, Give, Token, Number}
use Rattle.ir_ast.specs.Operands.{valued}

abbrev pub use_slot : ℕ → Slot
use_slot v = Use (valued v)

abbrev pub give_slot : ℕ → Slot
give_slot v = Give (valued v)

abbrev pub uses_of : List Operand → List Slot
uses_of [] = []
uses_of (Value value ∷ operands) = Use value ∷ uses_of operands
uses_of (Int word ∷ operands) = uses_of operands
uses_of (Null ∷ operands) = uses_of operands
uses_of (Fun func ∷ operands) = uses_of operands

abbrev pub held_in : List (Ty × Operand) → List Operand
held_in bundle = map (λ entry. entry.1) bundle

abbrev pub own_slots : Option ℕ → List Slot
own_slots None = []
own_slots (Some x) = Own (valued x) ∷ []

-- what a line that is kept uses where it stands
abbrev pub own_uses : Instruction → List Operand
own_uses inst = if is_phi inst.op then [] else inst.operands

abbrev pub plain_slots : Line → List Slot
plain_slots line = uses_of (own_uses line.inst) ++ (uses_of (held_in line.inst.bundle) ++ own_slots line.to)

-- a call's operands, its "gc-live" entries and its bundle; its token, its result and its relocates
abbrev pub call_slots : List ℕ → Line → List Slot
call_slots list line =
    uses_of line.inst.operands ++ (map use_slot list ++ (uses_of (held_in line.inst.bundle) ++ (Token ∷ (own_slots line.to ++ map give_slot list))))

abbrev pub line_slots : Function → List Operand → ℕ → ℕ → Line → List Slot
line_slots func table b k line = if calls line then call_slots (live_list func table b k) line else plain_slots line

abbrev pub lines_slots : Function → List Operand → ℕ → ℕ → List Line → List Slot
lines_slots func table b k [] = []
lines_slots func table b k (line ∷ lines) = line_slots func table b k line ++ lines_slots func table b (suc k) lines

-- the operands that a phi's entries for a block use
abbrev pub entries_for : ℕ → List BlockId → List Operand → List Operand
entries_for from (label ∷ labels) (o ∷ operands) = (if label.0 == from then o ∷ [] else []) ++ entries_for from labels operands
entries_for from labels operands = []

abbrev pub phi_entries : ℕ → Instruction → List Operand
phi_entries from inst = if is_phi inst.op then entries_for from inst.labels inst.operands else []

-- an inserted phi has an entry for each edge into its block
abbrev pub inserted_entries : ℕ → List ℕ → ℕ → List Operand
inserted_entries from preds v = flat_map (λ p. if p == from then Value (valued v) ∷ [] else []) preds

abbrev pub entries_into : Function → Naming → ℕ → ℕ → List Operand
entries_into func naming from to =
    flat_map (inserted_entries from (preds func to)) (joined_at func naming to) ++ flat_map (λ line. phi_entries from line.inst) (lines_at func to)

-- all entries for a block, in the order of the text
abbrev pub entries_from : Function → Naming → ℕ → List Operand
entries_from func naming from = flat_map (entries_into func naming from) (range_with_len 0 (length func.blocks))

abbrev pub block_slots : Function → List Operand → Naming → ℕ → List Slot
block_slots func table naming b =
    map give_slot (joined_at func naming b) ++ (lines_slots func table b 0 (lines_at func b) ++ uses_of (entries_from func naming b))

-- the number of the first definition of a block
abbrev pub start_of : Function → List Operand → Naming → ℕ → ℕ
start_of func table naming b =
    length (map own (range_with_len 0 (length func.args)) ++ flat_map (block_names func table naming) (range_with_len 0 b))

-- the only predecessor of a block
abbrev pub only : List ℕ → Option ℕ
only (p ∷ []) = Some p
only _ = None

-- ---- the same over lists that are given

-- the slots of lines, where the list of each call is the next of these
abbrev pub listed_slots : List (List ℕ) → ℕ → List Line → List Slot
listed_slots lists call [] = []
listed_slots lists call (line ∷ lines) =
    if calls line then call_slots (slice_index_or lists call []) line ++ listed_slots lists (call + 1) lines
    else plain_slots line ++ listed_slots lists call lines

abbrev pub count_of_call : Line → ℕ
count_of_call line = if calls line then 1 else 0

abbrev pub calls_of : ℕ → List Line → ℕ
calls_of call [] = call
calls_of call (line ∷ lines) = calls_of (call + count_of_call line) lines

abbrev pub one_slots : List (List ℕ) → ℕ → Line → List Slot
one_slots lists call line = if calls line then call_slots (slice_index_or lists call []) line else plain_slots line

-- the rows of these blocks without their entries: the inserted phis of each, and its lines
abbrev pub body_rows : List (List ℕ) → List (List ℕ) → (call next : ℕ) → List BasicBlock → List (List Slot)
body_rows lists joins call next [] = []
body_rows lists [] call next (block ∷ blocks) =
    listed_slots lists call (plain_lines next block.insts)
    ∷ body_rows lists [] (calls_of call (plain_lines next block.insts)) (after_all next block.insts) blocks
body_rows lists (join ∷ joins) call next (block ∷ blocks) =
    (map give_slot join ++ listed_slots lists call (plain_lines next block.insts))
    ∷ body_rows lists joins (calls_of call (plain_lines next block.insts)) (after_all next block.insts) blocks

-- the pointers of a group
abbrev pub group_list : GroupContent → List ℕ
group_list group = map (λ relocate. relocate.value.0) group.relocates

-- rows to which uses of operands are added
pub record Grows (old new : List (Vec Slot)) (added : ℕ → List Operand) : Type 0 where
  pub whole : length new ≡ length old
  pub each : (p : ℕ) → p < length old → list_at new p ≡ list_at old p ++ uses_of (added p)

-- the entries into these blocks, of which the first has this number
abbrev pub entries_all : (ℕ → List ℕ) → List (List ℕ) → ℕ → List BasicBlock → ℕ → List Operand
entries_all before joins to [] from = []
entries_all before [] to (block ∷ blocks) from = flat_map (phi_entries from) block.insts ++ entries_all before [] (suc to) blocks from
entries_all before (join ∷ joins) to (block ∷ blocks) from =
    (flat_map (inserted_entries from (before to)) join ++ flat_map (phi_entries from) block.insts) ++ entries_all before joins (suc to) blocks from

abbrev pub only_preds : Function → List (Option ℕ)
only_preds func = map (λ b. only (preds func b)) (range_with_len 0 (length func.blocks))

-- ---- the numbers that answer them

abbrev pub use_numbers : (ℕ → ℕ) → List Operand → List ℕ
use_numbers here [] = []
use_numbers here (Value value ∷ operands) = here value.0 ∷ use_numbers here operands
use_numbers here (Int word ∷ operands) = use_numbers here operands
use_numbers here (Null ∷ operands) = use_numbers here operands
use_numbers here (Fun func ∷ operands) = use_numbers here operands

-- each value of the operands is below the bound
abbrev pub AreKnown : ℕ → List Operand → Type 0
AreKnown count [] = Unit {0}
AreKnown count (Value value ∷ operands) = (value.0 < count) × AreKnown count operands
AreKnown count (Int word ∷ operands) = AreKnown count operands
AreKnown count (Null ∷ operands) = AreKnown count operands
AreKnown count (Fun func ∷ operands) = AreKnown count operands

module _ (func : Function) (table : List Operand) (naming : Naming) (number : Name → ℕ) where
  abbrev pub number_at : ℕ → ℕ → ℕ → ℕ
  number_at b k v = number (names_at func table naming b k v)

  abbrev pub line_numbers : ℕ → ℕ → Line → List ℕ
  line_numbers b k line =
      if calls line then
      use_numbers (number_at b k) line.inst.operands ++ (map (number_at b k) (live_list func table b k)
      ++ (use_numbers (number_at b k) (held_in line.inst.bundle) ++ map number (line_names func table b k)))
      else use_numbers (number_at b k) (own_uses line.inst) ++ (use_numbers (number_at b k) (held_in line.inst.bundle) ++ map number (line_names func table b k))

  abbrev pub lines_numbers : ℕ → ℕ → List Line → List ℕ
  lines_numbers b k [] = []
  lines_numbers b k (line ∷ lines) = line_numbers b k line ++ lines_numbers b (suc k) lines

  abbrev pub number_behind : ℕ → ℕ → ℕ
  number_behind b v = number (names_at_end func table naming b v)

  -- the numbers of a block's inserted phis and of its lines
  abbrev pub body_numbers : ℕ → List ℕ
  body_numbers b = map number (map (joined b) (joined_at func naming b)) ++ lines_numbers b 0 (lines_at func b)

  -- and those of the entries of phis that stand for it
  abbrev pub block_numbers : ℕ → List ℕ
  block_numbers b = body_numbers b ++ use_numbers (number_behind b) (entries_from func naming b)

-- ---- numbers in the order of the text

-- the numbers of the values that these slots define
abbrev pub owns : ℕ → List Slot → List ℕ
owns next [] = []
owns next (Use value ∷ slots) = owns next slots
owns next (Own value ∷ slots) = next ∷ owns (next + 1) slots
owns next (Give value ∷ slots) = owns (next + 1) slots
owns next (Token ∷ slots) = owns (next + 1) slots
owns next (Number number ∷ slots) = owns next slots

abbrev pub starts_of : ℕ → List (List Slot) → List ℕ
starts_of next [] = []
starts_of next (row ∷ rows) = next ∷ starts_of (next_behind next row) rows

abbrev pub all_owns : ℕ → List (List Slot) → List ℕ
all_owns next [] = []
all_owns next (row ∷ rows) = owns next row ++ all_owns (next_behind next row) rows

abbrev pub slots_in : List (Vec Slot) → List (List Slot)
slots_in rows = map (λ row. row.items) rows
