-- The registers of lines, and the lines of a block by their places.
use Rattle.std.proofs.Common.{◌≡◌, ◌∙◌, ℕ, zero, suc, ◌+◌, ◌-◌, ◌<◌, ◌≤◌, Bool, true, false, if◌then◌else◌, List, [], ◌∷◌, ◌++◌, length, take, Option, Some, None, is_some, refl, ap, sym, arith, slice_get, subst}
use Rattle.std.specs.Prelude.{slice_index}
use Rattle.std.proofs.lemmas.Bool.{eqb-true, false≢true}
use Rattle.std.proofs.lemmas.Option.{get_or_from_slice_get, none-some, same_Some}
use Rattle.ir_ast.specs.Insts.{Instruction}
use Rattle.ir_ast.specs.Blocks.{BasicBlock}
use Rattle.ir_ast.specs.Funcs.{instructions_of, phis_of}
use Rattle.ir_ast.specs.Ops.{is_phi}
use Rattle.ir_ast.specs.Objects.{Datum}
use Rattle.object_meaning.specs.Lines.{Line, numbered, following, after_all, first_registers}
use Rattle.object_meaning.specs.TargetRuns.{plain_lines}
use Rattle.object_meaning.specs.BlockLines.{is_given, line_in, no_line}
use Rattle.object_meaning.specs.Jumps.{phi_count, branch_taken}
use Rattle.object_meaning.specs.Registers.{is_set}

-- ---- registers

pub following_few : (next : ℕ) (inst : Instruction) → following next inst ≤ next + 1
following_few next inst = by (is_some inst.result)
  where
    by : (gives : Bool) → (if gives then next + 1 else next) ≤ next + 1
    by true = omega arith
    by false = omega arith

pub after_few : (start : ℕ) (insts : List Instruction) → after_all start insts ≤ start + length insts
after_few start [] = omega arith
after_few start (inst ∷ insts) = omega (arith, after_few (following start inst) insts, following_few start inst)

pub after_up : (start : ℕ) (insts : List Instruction) → start ≤ after_all start insts
after_up start [] = omega arith
after_up start (inst ∷ insts) = omega (arith, after_up (following start inst) insts, up_by (is_some inst.result) start)
  where
    up_by : (gives : Bool) (next : ℕ) → next ≤ (if gives then next + 1 else next)
    up_by true next = omega arith
    up_by false next = omega arith

pub after_append : (start : ℕ) (front back : List Instruction) → after_all start (front ++ back) ≡ after_all (after_all start front) back
after_append start [] back = refl
after_append start (inst ∷ front) back = after_append (following start inst) front back

pub after_push : (start : ℕ) (insts : List Instruction) (inst : Instruction) → after_all start (insts ++ inst ∷ []) ≡ following (after_all start insts) inst
after_push start insts inst = after_append start insts (inst ∷ [])

pub some_registers : (next : ℕ) (blocks : List BasicBlock) → 0 < length (first_registers next blocks)
some_registers next [] = omega arith
some_registers next (block ∷ blocks) = omega arith

pub count_registers : (next : ℕ) (blocks : List BasicBlock) → length (first_registers next blocks) ≡ length blocks + 1
count_registers next [] = refl
count_registers next (block ∷ blocks) = let rest = count_registers (after_all next block.insts) blocks in omega (arith, rest)

-- the register of the first result of a block
pub registers_at : (next : ℕ) (blocks : List BasicBlock) (number : ℕ) (block : BasicBlock) → slice_get blocks number ≡ Some block
    → slice_index (first_registers next blocks) number ≡ after_all next (instructions_of (take number blocks))
registers_at next [] number block is = absurd (none-some block is)
registers_at next (first ∷ blocks) zero block is = refl
registers_at next (first ∷ blocks) (suc number) block is =
    registers_at (after_all next first.insts) blocks number block is ∙ sym (after_append next first.insts (instructions_of (take number blocks)))

pub last_after : (next : ℕ) (registers : List ℕ) → 0 < length registers → slice_index (next ∷ registers) (length (next ∷ registers) - 1) ≡ slice_index registers (length registers - 1)
last_after next [] some = absurd (omega arith)
last_after next (first ∷ registers) some =
    let longer : suc (suc (length registers)) - 1 ≡ suc (length registers) = omega arith in
    let shorter : suc (length registers) - 1 ≡ length registers = omega arith in
    ap (λ place. slice_index (next ∷ first ∷ registers) place) longer ∙ sym (ap (λ place. slice_index (first ∷ registers) place) shorter)

pub last_register : (next : ℕ) (blocks : List BasicBlock)
    → slice_index (first_registers next blocks) (length (first_registers next blocks) - 1) ≡ after_all next (instructions_of blocks)
last_register next [] = refl
last_register next (block ∷ blocks) =
    last_after next (first_registers (after_all next block.insts) blocks) (some_registers (after_all next block.insts) blocks)
    ∙ (last_register (after_all next block.insts) blocks ∙ sym (after_append next block.insts (instructions_of blocks)))

-- ---- lines

pub plain_count : (next : ℕ) (insts : List Instruction) → length (plain_lines next insts) ≡ length insts
plain_count next [] = refl
plain_count next (inst ∷ insts) = ap suc (plain_count (following next inst) insts)

pub plain_at : (next : ℕ) (insts : List Instruction) (place : ℕ) (inst : Instruction) → slice_get insts place ≡ Some inst
    → slice_get (plain_lines next insts) place ≡ Some (numbered (after_all next (take place insts)) inst)
plain_at next [] place inst at = absurd (none-some inst at)
plain_at next (first ∷ insts) zero inst at = ap (λ (i : Instruction). Some (numbered next i)) (same_Some first inst at)
plain_at next (first ∷ insts) (suc place) inst at = plain_at (following next first) insts place inst at

-- the register that the result of an instruction goes to
abbrev pub given_from : ℕ → Instruction → Option ℕ
given_from next inst = if is_some inst.result then Some next else None

-- a line by its place: which instruction it is, and which register it gives
pub plain_from : (next : ℕ) (insts : List Instruction) (place : ℕ) (line : Line) → slice_get (plain_lines next insts) place ≡ Some line
    → (slice_get insts place ≡ Some line.inst) × (line.to ≡ given_from (after_all next (take place insts)) line.inst)
plain_from next [] place line is = absurd (none-some line is)
plain_from next (inst ∷ insts) zero line is =
    let same = same_Some (numbered next inst) line is in
    (ap (λ (l : Line). Some l.inst) same, subst (λ (l : Line). l.to ≡ given_from next l.inst) same refl)
plain_from next (inst ∷ insts) (suc place) line is = plain_from (following next inst) insts place line is

pub phi_count_is : (next : ℕ) (insts : List Instruction) → phi_count (plain_lines next insts) ≡ phis_of insts
phi_count_is next [] = refl
phi_count_is next (inst ∷ insts) = ap (λ n. if is_phi inst.op then 1 + n else 0) (phi_count_is (following next inst) insts)

pub line_is : (lines : List Line) (place : ℕ) (line : Line) → slice_get lines place ≡ Some line → line_in lines place ≡ line
line_is lines place line stands = get_or_from_slice_get lines place line no_line stands

pub given_is : (to : Option ℕ) (value : ℕ) → is_given to value ≡ true → to ≡ Some value
given_is None value is = absurd (false≢true is)
given_is (Some own) value is = ap Some (eqb-true own value is)

-- a branch takes its first label or its second
pub branch_within : (datum : Datum) → branch_taken datum < 2
branch_within datum = by (is_set datum)
  where
    by : (t : Bool) → (if t then 0 else 1) < 2
    by true = omega arith
    by false = omega arith
