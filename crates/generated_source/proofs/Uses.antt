-- Uses that are definite at once: of an argument, of a value that the same block gives before, or of one of the entry
-- block in a later block. For functions whose lines stand in place this is a test that computes.
use Rattle.std.proofs.Common.{◌≡◌, ◌≢◌, ℕ, zero, suc, ◌+◌, ◌<◌, Bool, true, false, if◌then◌else◌, ◌==◌, ◌&&◌, ◌||◌, List, [], ◌∷◌, ◌++◌, length, Option, Some, None, refl, sym, ap, subst, ◌∙◌, inl, inr, arith}
use Rattle.std.specs.Prelude.{is_some, not, nat_lt, slice_get}
use Rattle.std.specs.List.{list_all}
use Rattle.std.specs.Option.{option_map_or}
use Rattle.std.proofs.lemmas.Bool.{false≢true, or_cases, eqb-true, ltb-true, and_parts}
use Rattle.list_laws.proofs.Contents.{get_contained}
use Rattle.sp_ids.specs.declared.ids.BlockId.{BlockId}
use Rattle.ir_ast.specs.declared.ops.Operand.{Operand}
use Rattle.ir_ast.specs.Insts.{Instruction}
use Rattle.ir_ast.specs.Blocks.{BasicBlock}
use Rattle.ir_ast.specs.Funcs.{Function}
use Rattle.ir_ast.specs.Operands.{values_used, value_in}
use Rattle.ir_ast.specs.Faults.PhiEdges.{is_phi}
use Rattle.ir_ast.specs.Faults.GroupShape.{number_at}
use Rattle.ir_cfg.specs.Graphs.{Graph, graph_of}
use Rattle.ir_cfg.specs.Paths.{Path, at_entry, along}
use Rattle.ir_cfg.specs.DefiniteUses.{Stands, Defines, by_line, by_entry, in_arguments, in_earlier, in_last, IsDefinite, UsesAreDefinite, text_place}
use Rattle.list_laws.proofs.Tests.{all_passes}

pub found : {A : Type 0} (o : Option A) (p : A → Bool) → option_map_or p o false ≡ true → (x : A) × (o ≡ Some x) × (p x ≡ true)
found None p e = absurd (false≢true e)
found (Some x) p e = (x, refl, e)

-- ---- where a value is given

unfoldable pub is_home : Function → ℕ → ℕ → ℕ → Bool
is_home func value number place =
    option_map_or (λ (block : BasicBlock). option_map_or (λ (inst : Instruction). is_some inst.result && (number_at func (text_place func number place) == value))
    (slice_get block.insts place) false) (slice_get func.blocks number) false

home_defines : (func : Function) (value number place : ℕ) → is_home func value number place ≡ true → Defines func value number place
unfolding is_home
home_defines func value number place is =
    let block = found (slice_get func.blocks number) (λ (block : BasicBlock). option_map_or (λ (inst : Instruction). is_some inst.result && (number_at func (text_place func number place) == value)) (slice_get block.insts place) false) is in
    let inst = found (slice_get block.0.insts place) (λ (inst : Instruction). is_some inst.result && (number_at func (text_place func number place) == value)) block.2 in
    let parts = and_parts (is_some inst.0.result) (number_at func (text_place func number place) == value) inst.2 in
    record {
      inst = inst.0;
      stands = record { block = block.0; in_function = block.1; in_block = inst.1 };
      named = parts.0;
      numbered = eqb-true (number_at func (text_place func number place)) value parts.1;
    }

-- the block gives it before this place
unfoldable pub given_before : Function → ℕ → ℕ → ℕ → Bool
given_before func value number zero = false
given_before func value number (suc place) = is_home func value number place || given_before func value number place

pub record GivenBefore (func : Function) (value number place : ℕ) : Type 0 where
  pub at : ℕ
  pub before : at < place
  pub defines : Defines func value number at

before_given : (func : Function) (value number place : ℕ) → given_before func value number place ≡ true → GivenBefore func value number place
unfolding given_before
before_given func value number zero is = absurd (false≢true is)
before_given func value number (suc place) is = elim (or_cases (is_home func value number place) (given_before func value number place) is) [
  | inl here ↦ record { at = place; before = omega arith; defines = home_defines func value number place here }
  | inr earlier ↦
      let rest = before_given func value number place earlier in
      record { at = rest.at; before = omega (arith, rest.before); defines = rest.defines }
]

unfoldable pub entry_length : Function → ℕ
entry_length func = option_map_or (λ (block : BasicBlock). length block.insts) (slice_get func.blocks 0) 0

-- ---- paths

path_last : (graph : Graph) (path : List ℕ) (block : ℕ) → Path graph path block → (front : List ℕ) × (path ≡ front ++ block ∷ [])
path_last graph _ _ at_entry = ([], refl)
path_last graph _ _ (along blocks from to path edge) = (blocks, refl)

path_first : (graph : Graph) (path : List ℕ) (block : ℕ) → Path graph path block → (rest : List ℕ) × (path ≡ 0 ∷ rest)
path_first graph _ _ at_entry = ([], refl)
path_first graph _ _ (along blocks from to path edge) =
    let first = path_first graph blocks from path in (first.0 ++ to ∷ [], ap (λ (xs : List ℕ). xs ++ to ∷ []) first.1)

longer : (path rest front : List ℕ) (block : ℕ) → path ≡ 0 ∷ rest → path ≡ front ++ block ∷ [] → block ≢ 0
    → (next : ℕ) × (back : List ℕ) × (path ≡ 0 ∷ next ∷ back)
longer path [] [] block first last later = absurd (later (let same : block ∷ [] ≡ 0 ∷ [] = sym last ∙ first in cc))
longer path [] (x ∷ []) block first last later = let same : x ∷ block ∷ [] ≡ 0 ∷ [] = sym last ∙ first in cc
longer path [] (x ∷ y ∷ ys) block first last later = let same : x ∷ y ∷ (ys ++ block ∷ []) ≡ 0 ∷ [] = sym last ∙ first in cc
longer path (next ∷ back) front block first last later = (next, back, first)

pub before_definite : (func : Function) (value number place : ℕ) → GivenBefore func value number place → IsDefinite func value number place
before_definite func value number place given path is =
    let last = path_last (graph_of func) path number is in in_last last.0 number given.at last.1 given.defines given.before

entry_definite : (func : Function) (value number place before : ℕ) → GivenBefore func value 0 before → number ≢ 0 → IsDefinite func value number place
entry_definite func value number place before given later path is =
    let first = path_first (graph_of func) path number is in
    let last = path_last (graph_of func) path number is in
    let whole = longer path first.0 last.0 number first.1 last.1 later in
    in_earlier [] whole.1 0 whole.0 given.at whole.2 given.defines

-- ---- the test

unfoldable pub settles : Function → ℕ → ℕ → ℕ → Bool
settles func value number place =
    nat_lt value (length func.args) || (given_before func value number place || (not (number == 0) && given_before func value 0 (entry_length func)))

not_zero : (number : ℕ) → not (number == 0) ≡ true → number ≢ 0
not_zero zero is same = absurd (false≢true is)
not_zero (suc number) is same = cc

settled : (func : Function) (value number place : ℕ) → settles func value number place ≡ true → IsDefinite func value number place
unfolding settles
settled func value number place is = elim (or_cases (nat_lt value (length func.args)) (given_before func value number place || (not (number == 0) && given_before func value 0 (entry_length func))) is) [
  | inl argument ↦ λ path along. in_arguments (ltb-true value (length func.args) argument)
  | inr other ↦ elim (or_cases (given_before func value number place) (not (number == 0) && given_before func value 0 (entry_length func)) other) [
    | inl here ↦ before_definite func value number place (before_given func value number place here)
    | inr entry ↦
        let parts = and_parts (not (number == 0)) (given_before func value 0 (entry_length func)) entry in
        entry_definite func value number place (entry_length func) (before_given func value 0 (entry_length func) parts.1) (not_zero number parts.0)
  ]
]

unfoldable pub entry_settles : Function → BlockId → Option ℕ → Bool
entry_settles func label None = true
entry_settles func label (Some value) = option_map_or (λ (from : BasicBlock). settles func value label.0 (length from.insts)) (slice_get func.blocks label.0) true

unfoldable pub entries_settle : Function → List BlockId → List Operand → Bool
entries_settle func [] operands = true
entries_settle func (label ∷ labels) [] = true
entries_settle func (label ∷ labels) (operand ∷ operands) = entry_settles func label (value_in operand) && entries_settle func labels operands

unfoldable pub line_settles : Function → ℕ → ℕ → Instruction → Bool
line_settles func number place inst =
    if is_phi inst.op then entries_settle func inst.labels inst.operands
    else list_all (λ value. settles func value number place) (values_used inst)

unfoldable pub lines_settle : Function → ℕ → ℕ → List Instruction → Bool
lines_settle func number place [] = true
lines_settle func number place (inst ∷ insts) = line_settles func number place inst && lines_settle func number (place + 1) insts

unfoldable pub blocks_settle : Function → ℕ → List BasicBlock → Bool
blocks_settle func number [] = true
blocks_settle func number (block ∷ blocks) = lines_settle func number 0 block.insts && blocks_settle func (number + 1) blocks

line_at : (func : Function) (number place : ℕ) (insts : List Instruction) (k : ℕ) (inst : Instruction) → lines_settle func number place insts ≡ true → slice_get insts k ≡ Some inst
    → line_settles func number (place + k) inst ≡ true
unfolding lines_settle
line_at func number place [] k inst all at = cc
line_at func number place (first ∷ insts) zero inst all at =
    let same : first ≡ inst = cc in
    let here = (and_parts (line_settles func number place first) (lines_settle func number (place + 1) insts) all).0 in
    subst (λ (n : ℕ). line_settles func number n inst ≡ true) (omega arith) (rw same at here)
line_at func number place (first ∷ insts) (suc k) inst all at =
    let rest = line_at func number (place + 1) insts k inst (and_parts (line_settles func number place first) (lines_settle func number (place + 1) insts) all).1 at in
    subst (λ (n : ℕ). line_settles func number n inst ≡ true) (omega arith) rest

block_at : (func : Function) (start : ℕ) (blocks : List BasicBlock) (k : ℕ) (block : BasicBlock) → blocks_settle func start blocks ≡ true → slice_get blocks k ≡ Some block
    → lines_settle func (start + k) 0 block.insts ≡ true
unfolding blocks_settle
block_at func start [] k block all at = cc
block_at func start (first ∷ blocks) zero block all at =
    let same : first ≡ block = cc in
    let here = (and_parts (lines_settle func start 0 first.insts) (blocks_settle func (start + 1) blocks) all).0 in
    subst (λ (n : ℕ). lines_settle func n 0 block.insts ≡ true) (omega arith) (rw same at here)
block_at func start (first ∷ blocks) (suc k) block all at =
    let rest = block_at func (start + 1) blocks k block (and_parts (lines_settle func start 0 first.insts) (blocks_settle func (start + 1) blocks) all).1 at in
    subst (λ (n : ℕ). lines_settle func n 0 block.insts ≡ true) (omega arith) rest

entry_at : (func : Function) (labels : List BlockId) (operands : List Operand) (k : ℕ) (label : BlockId) (operand : Operand) → entries_settle func labels operands ≡ true
    → slice_get labels k ≡ Some label → slice_get operands k ≡ Some operand → entry_settles func label (value_in operand) ≡ true
unfolding entries_settle
entry_at func [] operands k label operand all at_label at_operand = cc
entry_at func (first ∷ labels) [] k label operand all at_label at_operand = cc
entry_at func (first ∷ labels) (one ∷ operands) zero label operand all at_label at_operand =
    let same : first ≡ label = cc in
    let same_operand : one ≡ operand = cc in
    let here = (and_parts (entry_settles func first (value_in one)) (entries_settle func labels operands) all).0 in
    subst (λ (l : BlockId). entry_settles func l (value_in operand) ≡ true) same (subst (λ (o : Operand). entry_settles func first (value_in o) ≡ true) same_operand here)
entry_at func (first ∷ labels) (one ∷ operands) (suc k) label operand all at_label at_operand =
    entry_at func labels operands k label operand (and_parts (entry_settles func first (value_in one)) (entries_settle func labels operands) all).1 at_label at_operand

unfoldable pub uses_settle : Function → Bool
uses_settle func = blocks_settle func 0 func.blocks

stands_settled : (func : Function) (number place : ℕ) (inst : Instruction) → uses_settle func ≡ true → Stands func number place inst → line_settles func number place inst ≡ true
unfolding uses_settle
stands_settled func number place inst all stands =
    let block : lines_settle func number 0 stands.block.insts ≡ true =
    subst (λ (n : ℕ). lines_settle func n 0 stands.block.insts ≡ true) (omega arith) (block_at func 0 func.blocks number stands.block all stands.in_function) in
    subst (λ (n : ℕ). line_settles func number n inst ≡ true) (omega arith) (line_at func number 0 stands.block.insts place inst block stands.in_block)

plain_settled : (func : Function) (number place : ℕ) (inst : Instruction) → line_settles func number place inst ≡ true → is_phi inst.op ≡ false
    → list_all (λ value. settles func value number place) (values_used inst) ≡ true
unfolding line_settles
plain_settled func number place inst is plain = rw plain at is

phi_settled : (func : Function) (number place : ℕ) (inst : Instruction) → line_settles func number place inst ≡ true → is_phi inst.op ≡ true → entries_settle func inst.labels inst.operands ≡ true
unfolding line_settles
phi_settled func number place inst is phi = rw phi at is

value_settled : (func : Function) (label : BlockId) (value : ℕ) (named : Option ℕ) (from : BasicBlock) → entry_settles func label named ≡ true → named ≡ Some value → slice_get func.blocks label.0 ≡ Some from
    → settles func value label.0 (length from.insts) ≡ true
unfolding entry_settles
value_settled func label value None from is same at = cc
value_settled func label value (Some other) from is same at =
    let equal : other ≡ value = cc in rw (at, equal) at is

-- a function that all_passes the test has definite uses
pub uses_settled : (func : Function) → uses_settle func ≡ true → UsesAreDefinite func
uses_settled func all _ _ _ _ (by_line number place value inst stands plain uses) =
    let found = get_contained (values_used inst) value uses in
    settled func value number place
    (all_passes (λ v. settles func v number place) (values_used inst) found.0 value (plain_settled func number place inst (stands_settled func number place inst all stands) plain) found.1)
uses_settled func all _ _ _ _ (by_entry number place entry value phi operand label from stands is at_label at_operand names at) =
    settled func value label.0 (length from.insts)
    (value_settled func label value (value_in operand) from
    (entry_at func phi.labels phi.operands entry label operand (phi_settled func number place phi (stands_settled func number place phi all stands) is) at_label at_operand) names at)
