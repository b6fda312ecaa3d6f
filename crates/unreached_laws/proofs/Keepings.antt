-- A function and those of its blocks and registers that are kept; its lines under their new numbers, and what a line asks for.
use Rattle.std.proofs.Common.{◌≡◌, ℕ, zero, suc, ◌<◌, ◌≤◌, Bool, true, false, List, [], ◌∷◌, length, map, refl, sym, subst}
use Rattle.std.specs.Prelude.{⊤, slice_get}
use Rattle.std.specs.List.{All}
use Rattle.std.specs.Option.{option_map, IfSome}
use Rattle.std.proofs.lemmas.Bool.{true≢false}
use Rattle.std.proofs.lemmas.List.Elements.{All-head, All-tail}
use Rattle.sp_ids.specs.declared.ids.BlockId.{BlockId}
use Rattle.graph_search.specs.Paths.{Marked}
use Rattle.ir_ast.specs.declared.ops.Callee.{Callee}
use Rattle.ir_ast.specs.declared.ops.Callee.TheVariants.{Fun, TaskStart}
use Rattle.ir_ast.specs.declared.ops.Op.{Op}
use Rattle.ir_ast.specs.declared.ops.Op.TheVariants.{Call, Phi, Statepoint, GcResult, GcRelocate}
use Rattle.ir_ast.specs.declared.ops.Operand.{Operand}
use Rattle.ir_ast.specs.Faults.PhiEdges.{is_phi}
use Rattle.ir_cfg.specs.Unreached.{Kept, label_kept, labels_kept, new_numbers, operand_kept, operands_kept, inst_kept}
use Rattle.ir_cfg.proofs.KeepsPlaces.{marks_before, number_of_marked}
use Rattle.ir_cfg.proofs.KeepsLines.{labels_left, operands_left}
use Rattle.object_meaning.specs.Calls.{function_in}
use Rattle.object_meaning.specs.Jumps.{label_at}
use Rattle.object_meaning.specs.Lines.{Line}
use Rattle.object_meaning.specs.States.{Setting}
use Rattle.unreached_laws.proofs.RegisterLaws.{OperandStays, before_none}
use Rattle.ir_cfg.proofs.KeepsUses.{plain_operands as left_of, plain_labels as labels_left_of}

-- how many arguments a function has, and which of its blocks and of its registers are kept
pub record Keeping : Type 0 where
  pub arguments : ℕ
  pub blocks : List Bool
  pub values : List Bool

abbrev pub numbers : Keeping → Kept
numbers keeping = record { marks = keeping.blocks; blocks = new_numbers keeping.blocks; values = new_numbers keeping.values }

-- a line under the new numbers; a phi has lost its entries of blocks that aren't kept
abbrev pub line_kept : Keeping → Line → Line
line_kept keeping line = record { to = option_map (marks_before keeping.values) line.to; inst = inst_kept (numbers keeping) line.inst }

-- ---- what a line asks for

-- the function is there, and has so many arguments or more
pub record Takes (keeping : Keeping) (count : ℕ) : Type 0 where
  pub entry : Marked keeping.blocks 0
  pub few : count ≤ keeping.arguments

-- a call passes no more arguments than its callee has
abbrev pub CalleeTakes : (ℕ → Keeping) → Callee → List Operand → Type 0
CalleeTakes keepings (Fun func) operands = Takes (keepings func.0) (length operands)
CalleeTakes keepings TaskStart operands = Takes (keepings (function_in (slice_get operands 0))) 1
CalleeTakes keepings callee operands = ⊤

abbrev pub ArgumentsFit : (ℕ → Keeping) → Op → List Operand → Type 0
ArgumentsFit keepings (Call callee types) operands = CalleeTakes keepings callee operands
ArgumentsFit keepings op operands = ⊤

-- a statepoint, or a member of its group
abbrev pub is_grouped : Op → Bool
is_grouped (Statepoint id callee types) = true
is_grouped GcResult = true
is_grouped GcRelocate = true
is_grouped _ = false

-- the registers and the labels that the line has left are kept, its calls pass what is taken, and it is no statepoint
pub record LineStays (keepings : ℕ → Keeping) (func : ℕ) (line : Line) : Type 0 where
  pub result : IfSome line.to (Marked (keepings func).values)
  pub operands : All (OperandStays (keepings func).values) (operands_left (numbers (keepings func)) line.inst.op line.inst.labels line.inst.operands)
  pub bundle : All (λ entry. OperandStays (keepings func).values entry.1) line.inst.bundle
  pub labels : All (λ label. Marked (keepings func).blocks label.0) (labels_left (numbers (keepings func)) line.inst.op line.inst.labels)
  pub ungrouped : is_grouped line.inst.op ≡ false
  pub arguments : ArgumentsFit keepings line.inst.op line.inst.operands

-- ---- the settings

-- the same setting with other lines and other registers
abbrev pub with_lines : Setting → (ℕ → ℕ → List Line) → (ℕ → ℕ) → Setting
with_lines setting lines registers = record setting { lines = lines; registers = registers }

-- these are the lines of the kept blocks under their new numbers, and the kept registers; what a kept block asks for is kept
pub record KeepsBlocks (keepings : ℕ → Keeping) (setting : Setting) (there : ℕ → ℕ → List Line) (registers : ℕ → ℕ) : Type 0 where
  pub arguments : (func register : ℕ) → register < (keepings func).arguments → Marked (keepings func).values register
  pub room : (func : ℕ) → setting.registers func ≡ length (keepings func).values
  pub now_room : (func : ℕ) → registers func ≡ marks_before (keepings func).values (length (keepings func).values)
  pub lines : (func block : ℕ) → Marked (keepings func).blocks block
      → there func (marks_before (keepings func).blocks block) ≡ map (line_kept (keepings func)) (setting.lines func block)
  pub stay : (func block : ℕ) → Marked (keepings func).blocks block → All (LineStays keepings func) (setting.lines func block)
  pub front : (func : ℕ) → map (line_kept (keepings func)) setting.front ≡ setting.front
  pub front_stays : (func : ℕ) → All (LineStays keepings func) setting.front
  pub main : Marked (keepings setting.main).blocks 0

-- ---- lines that are no phis

operands_of : (kept : Kept) (op : Op) (labels : List BlockId) (operands : List Operand) → is_phi op ≡ false
    → operands_kept kept op labels operands ≡ map (operand_kept kept) operands
operands_of kept Phi labels operands plain = absurd (true≢false plain)
operands_of kept op labels operands plain = refl

labels_of : (kept : Kept) (op : Op) (labels : List BlockId) → is_phi op ≡ false → labels_kept kept op labels ≡ map (label_kept kept) labels
labels_of kept Phi labels plain = absurd (true≢false plain)
labels_of kept op labels plain = refl

module _ (keepings : ℕ → Keeping) (func : ℕ) (line : Line) (stays : LineStays keepings func line) (plain : is_phi line.inst.op ≡ false) where
  pub plain_operands : (line_kept (keepings func) line).inst.operands ≡ map (operand_kept (numbers (keepings func))) line.inst.operands
  plain_operands = operands_of (numbers (keepings func)) line.inst.op line.inst.labels line.inst.operands plain

  pub plain_stay : All (OperandStays (keepings func).values) line.inst.operands
  plain_stay = subst (All (OperandStays (keepings func).values)) (left_of (numbers (keepings func)) line.inst.op line.inst.labels line.inst.operands plain) stays.operands

  pub plain_labels : (line_kept (keepings func) line).inst.labels ≡ map (label_kept (numbers (keepings func))) line.inst.labels
  plain_labels = labels_of (numbers (keepings func)) line.inst.op line.inst.labels plain

  pub plain_leads : All (λ (label : BlockId). Marked (keepings func).blocks label.0) line.inst.labels
  plain_leads = subst (All (λ (label : BlockId). Marked (keepings func).blocks label.0)) (labels_left_of (numbers (keepings func)) line.inst.op line.inst.labels plain) stays.labels

-- ---- where a label leads

pub leads_to : (blocks : List Bool) (labels : List BlockId) (place : ℕ) → Marked blocks 0 → All (λ (label : BlockId). Marked blocks label.0) labels
    → Marked blocks (label_at labels place)
leads_to blocks [] place entry marked = entry
leads_to blocks (label ∷ labels) zero entry marked = All-head (λ (each : BlockId). Marked blocks each.0) label labels marked
leads_to blocks (label ∷ labels) (suc place) entry marked = leads_to blocks labels place entry (All-tail (λ (each : BlockId). Marked blocks each.0) label labels marked)

pub leads_same : (keeping : Keeping) (labels : List BlockId) (place : ℕ) → All (λ (label : BlockId). Marked keeping.blocks label.0) labels
    → label_at (map (label_kept (numbers keeping)) labels) place ≡ marks_before keeping.blocks (label_at labels place)
leads_same keeping [] place marked = sym (before_none keeping.blocks)
leads_same keeping (label ∷ labels) zero marked = number_of_marked keeping.blocks label.0 (All-head (λ (each : BlockId). Marked keeping.blocks each.0) label labels marked)
leads_same keeping (label ∷ labels) (suc place) marked = leads_same keeping labels place (All-tail (λ (each : BlockId). Marked keeping.blocks each.0) label labels marked)
