-- The lines of a folded function: those of the function that stay, under the table.
use Rattle.std.proofs.Common.{◌≡◌, ℕ, zero, suc, ◌+◌, ◌<◌, ◌≤◌, Bool, true, false, not, ◌&&◌, if◌then◌else◌, List, [], ◌∷◌, ◌++◌, length, map, take, refl, sym, ap, ◌∙◌, append_assoc, arith}
use Rattle.std.specs.Prelude.{Some, is_some, slice_get}
use Rattle.std.specs.List.{All, list_all}
use Rattle.std.proofs.lemmas.Bool.{and_from, and_parts, false≢true}
use Rattle.std.proofs.lemmas.List.Elements.{All-cons, All-nil}
use Rattle.std.proofs.lemmas.Option.{none-some, same_Some}
use Rattle.list_laws.proofs.Places.{take_none}
use Rattle.ir_ast.specs.Blocks.{BasicBlock}
use Rattle.ir_ast.specs.Funcs.{instructions_of}
use Rattle.ir_ast.specs.Insts.{Instruction}
use Rattle.graph_search.specs.Paths.{Marked}
use Rattle.ir_cfg.specs.Unreached.{kept_of}
use Rattle.ir_cfg.proofs.KeepsPlaces.{marks_before}
use Rattle.object_meaning.specs.Lines.{after_all, following}
use Rattle.folded_forms.specs.Folded.{Table, folded_blocks, folded_insts, folded_line, folded_lines, stays}

-- ---- marks

pub before_append : (one other : List Bool) (place : ℕ) → marks_before (one ++ other) (length one + place) ≡ marks_before one (length one) + marks_before other place
before_append [] other place = let e : 0 + place ≡ place = omega arith in rw e (omega arith)
before_append (true ∷ one) other place =
    let e : suc (length one) + place ≡ suc (length one + place) = omega arith in
    let rest = before_append one other place in
    rw e (omega arith)
before_append (false ∷ one) other place =
    let e : suc (length one) + place ≡ suc (length one + place) = omega arith in
    rw e (before_append one other place)

-- a marked place adds one
pub before_less : (marks : List Bool) (one other : ℕ) → Marked marks one → one < other → marks_before marks one < marks_before marks other
before_less [] one other marked less = absurd (none-some true marked)
before_less (mark ∷ marks) one zero marked less = absurd (omega arith)
before_less (true ∷ marks) zero (suc other) marked less = omega arith
before_less (false ∷ marks) zero (suc other) marked less = absurd (false≢true (same_Some false true marked))
before_less (true ∷ marks) (suc one) (suc other) marked less = let rest = before_less marks one other marked (omega arith) in omega arith
before_less (false ∷ marks) (suc one) (suc other) marked less = before_less marks one other marked (omega arith)

-- ---- lines

-- the line of a result with this number stays
abbrev pub line_stays : Table → ℕ → Instruction → Bool
line_stays table next inst = not (is_some inst.result && not (stays table next))

abbrev pub line_marks : Table → ℕ → List Instruction → List Bool
line_marks table next [] = []
line_marks table next (inst ∷ insts) = line_stays table next inst ∷ line_marks table (following next inst) insts

pub marks_whole : (table : Table) (next : ℕ) (insts : List Instruction) → length (line_marks table next insts) ≡ length insts
marks_whole table next [] = refl
marks_whole table next (inst ∷ insts) = ap suc (marks_whole table (following next inst) insts)

pub marks_append : (table : Table) (next : ℕ) (front back : List Instruction)
    → line_marks table next (front ++ back) ≡ line_marks table next front ++ line_marks table (after_all next front) back
marks_append table next [] back = refl
marks_append table next (inst ∷ front) back = ap (λ (rest : List Bool). line_stays table next inst ∷ rest) (marks_append table (following next inst) front back)

pub mark_at : (table : Table) (next : ℕ) (insts : List Instruction) (place : ℕ) (inst : Instruction) → slice_get insts place ≡ Some inst
    → slice_get (line_marks table next insts) place ≡ Some (line_stays table (after_all next (take place insts)) inst)
mark_at table next [] place inst at = absurd (none-some inst at)
mark_at table next (first ∷ insts) zero inst at = ap (λ (i : Instruction). Some (line_stays table next i)) (same_Some first inst at)
mark_at table next (first ∷ insts) (suc place) inst at = mark_at table (following next first) insts place inst at

pub folded_kept : (table : Table) (next : ℕ) (insts : List Instruction) → folded_insts table next insts ≡ map (folded_line table) (kept_of (line_marks table next insts) insts)
folded_kept table next [] = refl
folded_kept table next (inst ∷ insts) = by (is_some inst.result && not (stays table next)) (folded_kept table (following next inst) insts)
  where
    by : (goes : Bool) → folded_insts table (following next inst) insts ≡ map (folded_line table) (kept_of (line_marks table (following next inst) insts) insts)
        → (if goes then [] else folded_line table inst ∷ []) ++ folded_insts table (following next inst) insts
        ≡ map (folded_line table) (kept_of (not goes ∷ line_marks table (following next inst) insts) (inst ∷ insts))
    by true rest = rest
    by false rest = ap (λ (more : List Instruction). folded_line table inst ∷ more) rest

pub folded_append : (table : Table) (next : ℕ) (front back : List Instruction)
    → folded_insts table next (front ++ back) ≡ folded_insts table next front ++ folded_insts table (after_all next front) back
folded_append table next [] back = refl
folded_append table next (inst ∷ front) back =
    ap (λ (rest : List Instruction). folded_lines table next inst ++ rest) (folded_append table (following next inst) front back)
    ∙ sym (append_assoc (folded_lines table next inst) (folded_insts table (following next inst) front) (folded_insts table (after_all (following next inst) front) back))

pub folded_text : (table : Table) (next : ℕ) (blocks : List BasicBlock) → instructions_of (folded_blocks table next blocks) ≡ folded_insts table next (instructions_of blocks)
folded_text table next [] = refl
folded_text table next (block ∷ blocks) =
    ap (λ (rest : List Instruction). folded_insts table next block.insts ++ rest) (folded_text table (after_all next block.insts) blocks)
    ∙ sym (folded_append table next block.insts (instructions_of blocks))

-- the first lines, as far as those of the lines before a place
pub folded_front : (table : Table) (next : ℕ) (insts : List Instruction) (place : ℕ)
    → take (marks_before (line_marks table next insts) place) (folded_insts table next insts) ≡ folded_insts table next (take place insts)
folded_front table next [] zero = refl
folded_front table next [] (suc place) = refl
folded_front table next (inst ∷ insts) zero = take_none (folded_insts table next (inst ∷ insts))
folded_front table next (inst ∷ insts) (suc place) = by (is_some inst.result && not (stays table next)) (folded_front table (following next inst) insts place)
  where
    by : (goes : Bool)
        → take (marks_before (line_marks table (following next inst) insts) place) (folded_insts table (following next inst) insts) ≡ folded_insts table (following next inst) (take place insts)
        → take (marks_before (not goes ∷ line_marks table (following next inst) insts) (suc place)) ((if goes then [] else folded_line table inst ∷ []) ++ folded_insts table (following next inst) insts)
        ≡ (if goes then [] else folded_line table inst ∷ []) ++ folded_insts table (following next inst) (take place insts)
    by true rest = rest
    by false rest = ap (λ (more : List Instruction). folded_line table inst ∷ more) rest

pub folded_length : (table : Table) (next : ℕ) (insts : List Instruction) → length (folded_insts table next insts) ≡ marks_before (line_marks table next insts) (length insts)
folded_length table next [] = refl
folded_length table next (inst ∷ insts) = by (is_some inst.result && not (stays table next)) (folded_length table (following next inst) insts)
  where
    by : (goes : Bool) → length (folded_insts table (following next inst) insts) ≡ marks_before (line_marks table (following next inst) insts) (length insts)
        → length ((if goes then [] else folded_line table inst ∷ []) ++ folded_insts table (following next inst) insts)
        ≡ marks_before (not goes ∷ line_marks table (following next inst) insts) (suc (length insts))
    by true rest = rest
    by false rest = ap suc rest

pub folded_fewer : (table : Table) (next : ℕ) (insts : List Instruction) → length (folded_insts table next insts) ≤ length insts
folded_fewer table next [] = omega arith
folded_fewer table next (inst ∷ insts) = by (is_some inst.result && not (stays table next)) (folded_fewer table (following next inst) insts)
  where
    by : (goes : Bool) → length (folded_insts table (following next inst) insts) ≤ length insts
        → length ((if goes then [] else folded_line table inst ∷ []) ++ folded_insts table (following next inst) insts) ≤ suc (length insts)
    by true rest = omega arith
    by false rest = omega arith

-- ---- what holds of all lines

-- a property of each line under the table, where it stays with this number
pub folded_all : (P : Instruction → Type 0) (table : Table) (next : ℕ) (insts : List Instruction)
    → ((place : ℕ) (inst : Instruction) → slice_get insts place ≡ Some inst → line_stays table (after_all next (take place insts)) inst ≡ true → P (folded_line table inst))
    → All P (folded_insts table next insts)
folded_all P table next [] each = All-nil P
folded_all P table next (inst ∷ insts) each =
    by (is_some inst.result && not (stays table next)) (each 0 inst refl) (folded_all P table (following next inst) insts (λ place one at. each (suc place) one at))
  where
    by : (goes : Bool) → (not goes ≡ true → P (folded_line table inst)) → All P (folded_insts table (following next inst) insts)
        → All P ((if goes then [] else folded_line table inst ∷ []) ++ folded_insts table (following next inst) insts)
    by true first rest = rest
    by false first rest = All-cons P (folded_line table inst) (folded_insts table (following next inst) insts) (first refl) rest

-- a test that doesn't look at operands
pub folded_test : (test : Instruction → Bool) (table : Table) → ((inst : Instruction) → test (folded_line table inst) ≡ test inst) → (next : ℕ) (insts : List Instruction)
    → list_all test insts ≡ true → list_all test (folded_insts table next insts) ≡ true
folded_test test table same next [] all = refl
folded_test test table same next (inst ∷ insts) all =
    let parts = and_parts (test inst) (list_all test insts) all in
    by (is_some inst.result && not (stays table next)) parts.0 (folded_test test table same (following next inst) insts parts.1)
  where
    by : (goes : Bool) → test inst ≡ true → list_all test (folded_insts table (following next inst) insts) ≡ true
        → list_all test ((if goes then [] else folded_line table inst ∷ []) ++ folded_insts table (following next inst) insts) ≡ true
    by true first rest = rest
    by false first rest = and_from (test (folded_line table inst)) (list_all test (folded_insts table (following next inst) insts)) (same inst ∙ first) rest
