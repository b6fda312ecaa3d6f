-- Lines of the final text over numbers that are taken one after another.
use Rattle.std.specs.Prelude.{ℕ, suc, ◌+◌, false, if◌then◌else◌, List, [], ◌∷◌, ◌++◌, length, map, take, drop, Option, Some, None, slice_index, slice_index_or, codes, decimal, replicate}
use Rattle.std.specs.Global.{Vec}
use Rattle.sp_ids.specs.declared.ids.BlockId.{BlockId}
use Rattle.sp_ids.specs.declared.ids.ValueId.{ValueId}
use Rattle.ir_ast.specs.declared.types.Ty.{Ty}
use Rattle.ir_ast.specs.declared.types.Ty.TheVariants.{Ptr}
use Rattle.ir_ast.specs.declared.ops.Callee.{Callee}
use Rattle.ir_ast.specs.declared.ops.Operand.{Operand}
use Rattle.ir_ast.specs.declared.ops.Operand.TheVariants.{Value, Int, Null, Fun}
use Rattle.ir_ast.specs.declared.ops.Op.{Op}
use Rattle.ir_ast.specs.declared.ops.Op.TheVariants.{Phi, Call}
use Rattle.ir_ast.specs.Insts.{Instruction}
use Rattle.ir_ast.specs.Blocks.{BasicBlock}
use Rattle.ir_ast.specs.Funcs.{Function, instructions_of}
use Rattle.ir_ast.specs.Faults.PhiEdges.{is_phi}
use Rattle.ir_cfg.specs.Graphs.{preds_of}
use Rattle.rewriting_forms.specs.Numbered.{named, is_call}
use Rattle.statepoint_insert.specs.declared.texts.Counts.{Counts}
use Rattle.statepoint_insert.specs.Groups.{GroupContent}
use Rattle.statepoint_insert.specs.Texts.{statepoint_line, result_lines, relocate_lines, first_rank}
use Rattle.version_walk.specs.declared.slots.Slot.{Slot}
use Rattle.ssa_rebuild.specs.declared.writing.Writing.{Writing}
use Rattle.version_walk.specs.Forest.{list_at}
use Rattle.ssa_rebuild.specs.Answers.{number_of}
use Rattle.ssa_rebuild.specs.Rows.{own_uses, held_in}

-- an operand with the next of these numbers, where it is a value
abbrev pub put : List ℕ → Operand → Operand
put numbers (Value value) = named (slice_index numbers 0)
put numbers (Int word) = Int word
put numbers Null = Null
put numbers (Fun func) = Fun func

abbrev pub put_left : List ℕ → Operand → List ℕ
put_left numbers (Value value) = drop 1 numbers
put_left numbers (Int word) = numbers
put_left numbers Null = numbers
put_left numbers (Fun func) = numbers

abbrev pub filled : List ℕ → List Operand → List Operand
filled numbers [] = []
filled numbers (o ∷ operands) = put numbers o ∷ filled (put_left numbers o) operands

-- the numbers behind those of these operands
abbrev pub left : List ℕ → List Operand → List ℕ
left numbers [] = numbers
left numbers (o ∷ operands) = left (put_left numbers o) operands

abbrev pub filled_bundle : List ℕ → List (Ty × Operand) → List (Ty × Operand)
filled_bundle numbers [] = []
filled_bundle numbers (entry ∷ bundle) = (entry.0, put numbers entry.1) ∷ filled_bundle (put_left numbers entry.1) bundle

abbrev pub results_in : Option (List ℕ) → ℕ
results_in None = 0
results_in (Some name) = 1

-- ---- a line that is kept

-- the operands of a phi that have labels
abbrev pub phi_uses : Instruction → List Operand
phi_uses inst = take (length inst.labels) inst.operands

abbrev pub entries_left : List ℕ → Instruction → List ℕ
entries_left entries inst = if is_phi inst.op then left entries (phi_uses inst) else entries

abbrev pub operands_written : (body entries : List ℕ) → Instruction → List Operand
operands_written body entries inst = if is_phi inst.op then filled entries (phi_uses inst) else filled body inst.operands

abbrev pub plain_written : (body entries : List ℕ) → Instruction → Instruction
plain_written body entries inst = record inst {
  operands = operands_written body entries inst;
  bundle = filled_bundle (left body (own_uses inst)) inst.bundle;
}

abbrev pub plain_left : List ℕ → Instruction → List ℕ
plain_left body inst = drop (results_in inst.result) (left (left body (own_uses inst)) (held_in inst.bundle))

-- the line over these numbers, but for its bundle
abbrev pub with_filled : List ℕ → Instruction → Instruction
with_filled numbers inst = record inst { operands = filled numbers inst.operands }

-- ---- a call

-- the numbers from the token on, behind the operands, so many "gc-live" entries, and the bundle
abbrev pub token_on : ℕ → List ℕ → Instruction → List ℕ
token_on count body inst = left (drop count (left body inst.operands)) (held_in inst.bundle)

abbrev pub call_left : ℕ → List ℕ → Instruction → List ℕ
call_left count body inst = drop count (drop (results_in inst.result) (drop 1 (token_on count body inst)))

abbrev pub call_lines : Counts → GroupContent → List ℕ → Instruction → Callee → List Ty → List Instruction
call_lines counts group body inst callee types =
    statepoint_line counts.tokens group.has_null (take (length group.relocates) (left body inst.operands)) callee types inst.ty
    (filled body inst.operands) (filled_bundle (drop (length group.relocates) (left body inst.operands)) inst.bundle)
    ∷ (result_lines (slice_index (token_on (length group.relocates) body inst) 0) inst.ty inst.result
    ++ relocate_lines (slice_index (token_on (length group.relocates) body inst) 0) counts.relocates (first_rank group.has_null) group.relocates)

abbrev pub call_written : Counts → GroupContent → List ℕ → Instruction → Op → List Instruction
call_written counts group body inst (Call callee types) = call_lines counts group body inst callee types
call_written counts group body inst _ = []

abbrev pub no_group : GroupContent
no_group = record { has_null = false; relocates = [] }

-- the group of the next call
abbrev pub group_at : List GroupContent → Counts → GroupContent
group_at groups counts = slice_index_or groups counts.tokens no_group

abbrev pub counts_with : Counts → ℕ → Counts
counts_with counts relocates = record { tokens = counts.tokens + 1; relocates = counts.relocates + relocates }

-- ---- lines

abbrev pub line_written : List GroupContent → Writing → Instruction → List Instruction
line_written groups writing inst =
    if is_call inst.op then call_written writing.counts (group_at groups writing.counts) writing.body inst inst.op
    else plain_written writing.body writing.entries inst ∷ []

abbrev pub kept_after : Writing → Instruction → Writing
kept_after writing inst = record writing { body = plain_left writing.body inst; entries = entries_left writing.entries inst }

abbrev pub after : List GroupContent → Writing → Instruction → Writing
after groups writing inst =
    if is_call inst.op then record writing {
      counts = counts_with writing.counts (length (group_at groups writing.counts).relocates);
      body = call_left (length (group_at groups writing.counts).relocates) writing.body inst;
    }
    else kept_after writing inst

abbrev pub written : List GroupContent → Writing → List Instruction → List Instruction
written groups writing [] = []
written groups writing (inst ∷ insts) = line_written groups writing inst ++ written groups (after groups writing inst) insts

abbrev pub behind : List GroupContent → Writing → List Instruction → Writing
behind groups writing [] = writing
behind groups writing (inst ∷ insts) = behind groups (after groups writing inst) insts

-- ---- inserted phis

abbrev pub phi_line : List BlockId → Writing → Instruction
phi_line preds writing = record {
  result = Some (codes "sp.m" ++ decimal writing.joined);
  op = Phi;
  ty = Ptr;
  operands = map (λ number. named number) (take (length preds) writing.entries);
  labels = preds;
  bundle = [];
}

abbrev pub phi_after : List BlockId → Writing → Writing
phi_after preds writing = record writing { joined = writing.joined + 1; body = drop 1 writing.body; entries = drop (length preds) writing.entries }

abbrev pub phi_lines : List BlockId → Writing → List ValueId → List Instruction
phi_lines preds writing [] = []
phi_lines preds writing (value ∷ values) = phi_line preds writing ∷ phi_lines preds (phi_after preds writing) values

abbrev pub phis_behind : List BlockId → Writing → List ValueId → Writing
phis_behind preds writing [] = writing
phis_behind preds writing (value ∷ values) = phis_behind preds (phi_after preds writing) values

-- ---- blocks

abbrev pub begun : List (Vec Slot) → ℕ → Writing → Writing
begun rows number writing = record writing { body = map number_of (list_at rows number) }

abbrev pub block_phis : List (List BlockId) → List (Vec ValueId) → List (Vec Slot) → ℕ → Writing → Writing
block_phis graph joins rows number writing = phis_behind (preds_of graph number) (begun rows number writing) (list_at joins number)

abbrev pub block_lines : List (List BlockId) → List GroupContent → List (Vec ValueId) → List (Vec Slot) → ℕ → Writing → List Instruction → List Instruction
block_lines graph groups joins rows number writing insts =
    phi_lines (preds_of graph number) (begun rows number writing) (list_at joins number)
    ++ written groups (block_phis graph joins rows number writing) insts

abbrev pub block_after : List (List BlockId) → List GroupContent → List (Vec ValueId) → List (Vec Slot) → ℕ → Writing → List Instruction → Writing
block_after graph groups joins rows number writing insts = behind groups (block_phis graph joins rows number writing) insts

abbrev pub blocks_written : List (List BlockId) → List GroupContent → List (Vec ValueId) → List (Vec Slot) → ℕ → Writing → List BasicBlock → List BasicBlock
blocks_written graph groups joins rows number writing [] = []
blocks_written graph groups joins rows number writing (block ∷ blocks) =
    record { name = block.name; insts = block_lines graph groups joins rows number writing block.insts }
    ∷ blocks_written graph groups joins rows (suc number) (block_after graph groups joins rows number writing block.insts) blocks
