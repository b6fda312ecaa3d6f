-- How many calls, terminators and lines the passes leave or add: what stands for the unreached blocks' rest, the polls and
-- the bases.
use Rattle.std.proofs.Common.{◌≡◌, ◌∙◌, ℕ, suc, ◌+◌, ◌≤◌, Bool, true, false, ◌&&◌, if◌then◌else◌, List, [], ◌∷◌, ◌++◌, length, map, refl, sym, ap, arith}
use Rattle.std.specs.Prelude.{sum, sum_by, slice_get, slice_index}
use Rattle.std.specs.List.{flat_map, list_any, range_with_len}
use Rattle.std.specs.Option.{option_map_or}
use Rattle.std.proofs.lemmas.List.{length-append}
use Rattle.std.proofs.lemmas.List.Sums.{sum_by-append, sum_by-cons}
use Rattle.ir_ast.specs.declared.ops.Pred.{Pred}
use Rattle.ir_ast.specs.declared.ops.Pred.TheVariants.{Eq, Ne}
use Rattle.ir_ast.specs.declared.ops.Op.{Op}
use Rattle.ir_ast.specs.declared.ops.Op.TheVariants.{Icmp, Phi, Select, Load, Store}
use Rattle.ir_ast.specs.Insts.{Instruction}
use Rattle.ir_ast.specs.Blocks.{BasicBlock}
use Rattle.ir_ast.specs.Funcs.{Function, instructions_of}
use Rattle.ir_ast.specs.Ops.{is_terminator}
use Rattle.ir_ast.specs.Derived.{is_merge}
use Rattle.ir_cfg.specs.Unreached.{Kept, kept_of, inst_kept, block_kept, kept_by, function_kept}
use Rattle.object_meaning.specs.Lines.{retreats, following, after_all}
use Rattle.base_forms.specs.Polls.{poll_call, polled, placed, placed_from}
use Rattle.base_forms.specs.Lines as lines
use Rattle.base_forms.specs.Lines.{Insertion}
use Rattle.base_forms.specs.DerivedMarks.{derived_marks}
use Rattle.base_forms.specs.Based.{based, insertion}
use Rattle.rewriting_forms.specs.Numbered.{is_call}

abbrev pub measured : (Op → ℕ) → List Instruction → ℕ
measured measure insts = sum_by (λ inst. measure inst.op) insts

pub measured_append : (measure : Op → ℕ) (xs ys : List Instruction) → measured measure (xs ++ ys) ≡ measured measure xs + measured measure ys
measured_append measure xs ys = sum_by-append (λ (inst : Instruction). measure inst.op) xs ys

pub measured_cons : (measure : Op → ℕ) (inst : Instruction) (insts : List Instruction) → measured measure (inst ∷ insts) ≡ measure inst.op + measured measure insts
measured_cons measure inst insts = sum_by-cons (λ (one : Instruction). measure one.op) inst insts

-- a call that gets a statepoint; a terminator; the lines that bases and checks make of a line, at most
abbrev pub one_if : Bool → ℕ
one_if true = 1
one_if false = 0

abbrev pub a_call : Op → ℕ
a_call op = one_if (is_call op)

abbrev pub an_end : Op → ℕ
an_end op = one_if (is_terminator op)

abbrev pub size : Op → ℕ
size Phi = 2
size Select = 2
size (Icmp pred) = 2
size Load = 2
size Store = 2
size _ = 1

-- ---- without unreached blocks

insts_kept : (measure : Op → ℕ) (kept : Kept) (insts : List Instruction) → measured measure (map (inst_kept kept) insts) ≡ measured measure insts
insts_kept measure kept [] = refl
insts_kept measure kept (inst ∷ insts) =
    measured_cons measure (inst_kept kept inst) (map (inst_kept kept) insts) ∙ ap (λ (n : ℕ). measure inst.op + n) (insts_kept measure kept insts) ∙ sym (measured_cons measure inst insts)

blocks_kept : (measure : Op → ℕ) (kept : Kept) (marks : List Bool) (blocks : List BasicBlock)
    → measured measure (instructions_of (map (block_kept kept) (kept_of marks blocks))) ≤ measured measure (instructions_of blocks)
blocks_kept measure kept [] [] = omega arith
blocks_kept measure kept (mark ∷ marks) [] = omega arith
blocks_kept measure kept [] (block ∷ blocks) = omega arith
blocks_kept measure kept (true ∷ marks) (block ∷ blocks) =
    omega (
      arith,
      measured_append measure (map (inst_kept kept) block.insts) (instructions_of (map (block_kept kept) (kept_of marks blocks))),
      measured_append measure block.insts (instructions_of blocks),
      insts_kept measure kept block.insts,
      blocks_kept measure kept marks blocks,
    )
blocks_kept measure kept (false ∷ marks) (block ∷ blocks) =
    omega (arith, measured_append measure block.insts (instructions_of blocks), blocks_kept measure kept marks blocks)

pub kept_low : (measure : Op → ℕ) (marks : List Bool) (func : Function)
    → measured measure (instructions_of (function_kept marks func).blocks) ≤ measured measure (instructions_of func.blocks)
kept_low measure marks func = blocks_kept measure (kept_by marks func) marks func.blocks

-- ---- with polls

poll_low : (measure : Op → ℕ) (ends any : Bool) → measure poll_call.op ≡ 1 → measured measure (if ends && any then poll_call ∷ [] else []) ≤ one_if ends
poll_low measure true true one = omega (arith, measured_cons measure poll_call [])
poll_low measure true false one = omega arith
poll_low measure false any one = omega arith

insts_polled : (measure : Op → ℕ) (number : ℕ) (insts : List Instruction) → measure poll_call.op ≡ 1
    → measured measure (flat_map (polled number) insts) ≤ measured measure insts + measured an_end insts
insts_polled measure number [] one = omega arith
insts_polled measure number (inst ∷ insts) one =
    let polls : List Instruction = if retreats number inst then poll_call ∷ [] else [] in
    omega (
      arith,
      measured_append measure (polls ++ inst ∷ []) (flat_map (polled number) insts),
      measured_append measure polls (inst ∷ []),
      measured_cons measure inst [],
      measured_cons measure inst insts,
      measured_cons an_end inst insts,
      poll_low measure (is_terminator inst.op) (list_any (λ label. Rattle.std.specs.Prelude.nat_le label.0 number) inst.labels) one,
      insts_polled measure number insts one,
    )

blocks_polled : (measure : Op → ℕ) (number : ℕ) (blocks : List BasicBlock) → measure poll_call.op ≡ 1
    → measured measure (instructions_of (placed_from (suc number) blocks)) ≤ measured measure (instructions_of blocks) + measured an_end (instructions_of blocks)
blocks_polled measure number [] one = omega arith
blocks_polled measure number (block ∷ blocks) one =
    omega (
      arith,
      measured_append measure (flat_map (polled (suc number)) block.insts) (instructions_of (placed_from (suc (suc number)) blocks)),
      measured_append measure block.insts (instructions_of blocks),
      measured_append an_end block.insts (instructions_of blocks),
      insts_polled measure (suc number) block.insts one,
      blocks_polled measure (suc number) blocks one,
    )

all_polled : (measure : Op → ℕ) (blocks : List BasicBlock) → measure poll_call.op ≡ 1
    → measured measure (instructions_of (placed_from 0 blocks)) ≤ measured measure (instructions_of blocks) + measured an_end (instructions_of blocks) + 1
all_polled measure [] one = omega arith
all_polled measure (block ∷ blocks) one =
    omega (
      arith,
      measured_append measure (poll_call ∷ flat_map (polled 0) block.insts) (instructions_of (placed_from 1 blocks)),
      measured_cons measure poll_call (flat_map (polled 0) block.insts),
      measured_append measure block.insts (instructions_of blocks),
      measured_append an_end block.insts (instructions_of blocks),
      insts_polled measure 0 block.insts one,
      blocks_polled measure 0 blocks one,
    )

pub placed_low : (measure : Op → ℕ) (func : Function) → measure poll_call.op ≡ 1
    → measured measure (instructions_of (placed func).blocks) ≤ measured measure (instructions_of func.blocks) + measured an_end (instructions_of func.blocks) + 1
placed_low measure func one = all_polled measure func.blocks one

-- ---- with bases and checks

-- what the lines that stand for one have in the end
pub record IsLow (after : List Instruction) (op : Op) : Type 0 where
  pub count : length after ≤ size op
  pub calls : measured a_call after ≤ a_call op

module _ (given : Insertion) where
  compared_low : (next : ℕ) (inst : Instruction) (pred : Pred) → inst.op ≡ Icmp pred → IsLow (lines.compared given next inst pred) (Icmp pred)
  compared_low next inst Eq is = record { count = omega arith; calls = omega arith }
  compared_low next inst Ne is = record { count = omega arith; calls = omega arith }
  compared_low next inst pred is = record { count = omega arith; calls = rw is (omega arith) }

  merged_by : (derived : Bool) (next : ℕ) (inst : Instruction) (op : Op) → inst.op ≡ op → size op ≡ 2 → is_call op ≡ false
      → IsLow ((if derived then lines.base_line given next inst ∷ [] else []) ++ lines.kept_line given inst ∷ []) op
  merged_by true next inst op is two plain = record { count = omega (arith, two); calls = rw (is, plain) (omega arith) }
  merged_by false next inst op is two plain = record { count = omega (arith, two); calls = rw (is, plain) (omega arith) }

  merged_low : (next : ℕ) (inst : Instruction) (op : Op) → inst.op ≡ op → size op ≡ 2 → is_call op ≡ false → IsLow (lines.merged given next inst) op
  merged_low next inst op is two plain = merged_by (is_merge inst.op && given.uses_derived inst) next inst op is two plain

  icmp_by : (derived : Bool) (next : ℕ) (inst : Instruction) (pred : Pred) → inst.op ≡ Icmp pred
      → IsLow (if derived then lines.compared given next inst pred else lines.kept_line given inst ∷ []) (Icmp pred)
  icmp_by true next inst pred is = compared_low next inst pred is
  icmp_by false next inst pred is = record { count = omega arith; calls = rw is (omega arith) }

  lines_low : (next : ℕ) (inst : Instruction) (op : Op) → inst.op ≡ op → IsLow (lines.lines_for given next inst op) op
  lines_low next inst Phi is = merged_low next inst Phi is refl refl
  lines_low next inst Select is = merged_low next inst Select is refl refl
  lines_low next inst (Icmp pred) is = icmp_by (given.uses_derived inst) next inst pred is
  lines_low next inst Load is = record { count = omega arith; calls = rw is (omega arith) }
  lines_low next inst Store is = record { count = omega arith; calls = rw is (omega arith) }
  lines_low next inst op is = record { count = omega arith; calls = rw is (omega arith) }

  insts_based : (next : ℕ) (insts : List Instruction)
      → (length (lines.based_insts given next insts) ≤ measured size insts) × (measured a_call (lines.based_insts given next insts) ≤ measured a_call insts)
  insts_based next [] = (omega arith, omega arith)
  insts_based next (inst ∷ insts) =
      let here = lines_low next inst inst.op refl in
      let rest = insts_based (following next inst) insts in
      let count = here.count in
      let calls = here.calls in (
        omega (arith, count, rest.0, length-append (lines.lines_for given next inst inst.op) (lines.based_insts given (following next inst) insts), measured_cons size inst insts),
        omega (arith, calls, rest.1, measured_append a_call (lines.lines_for given next inst inst.op) (lines.based_insts given (following next inst) insts), measured_cons a_call inst insts),
      )

  blocks_based : (next : ℕ) (blocks : List BasicBlock)
      → (length (instructions_of (lines.based_blocks given next blocks)) ≤ measured size (instructions_of blocks))
      × (measured a_call (instructions_of (lines.based_blocks given next blocks)) ≤ measured a_call (instructions_of blocks))
  blocks_based next [] = (omega arith, omega arith)
  blocks_based next (block ∷ blocks) =
      let here = insts_based next block.insts in
      let rest = blocks_based (after_all next block.insts) blocks in (
        omega (arith, here.0, rest.0, length-append (lines.based_insts given next block.insts) (instructions_of (lines.based_blocks given (after_all next block.insts) blocks)), measured_append size block.insts (instructions_of blocks)),
        omega (arith, here.1, rest.1, measured_append a_call (lines.based_insts given next block.insts) (instructions_of (lines.based_blocks given (after_all next block.insts) blocks)), measured_append a_call block.insts (instructions_of blocks)),
      )

pub based_length : (func : Function) → length (instructions_of (based func).blocks) ≤ measured size (instructions_of func.blocks)
based_length func = (blocks_based (insertion func (derived_marks func)) (length func.args) func.blocks).0

pub based_calls : (func : Function) → measured a_call (instructions_of (based func).blocks) ≤ measured a_call (instructions_of func.blocks)
based_calls func = (blocks_based (insertion func (derived_marks func)) (length func.args) func.blocks).1
