-- Registers of which the marked are kept: what is read and written, and those of a new frame.
use Rattle.std.proofs.Common.{◌≡◌, ℕ, zero, suc, ◌+◌, ◌-◌, ◌<◌, ◌≤◌, Bool, true, false, List, [], ◌∷◌, ◌++◌, length, map, replicate, refl, ap, ◌∙◌, arith}
use Rattle.std.specs.Prelude.{⊤, Option, Some, None, slice_get, slice_set, slice_index_or}
use Rattle.std.specs.List.{All}
use Rattle.std.specs.Option.{option_map, IfSome}
use Rattle.std.proofs.lemmas.Bool.{false≢true}
use Rattle.std.proofs.lemmas.Option.{none-some, same_Some}
use Rattle.std.proofs.lemmas.List.Elements.{All-head, All-tail}
use Rattle.graph_search.specs.Paths.{Marked}
use Rattle.ir_ast.specs.declared.ops.Operand.{Operand}
use Rattle.ir_ast.specs.declared.ops.Operand.TheVariants.{Value, Int, Null, Fun}
use Rattle.ir_ast.specs.Objects.{Datum}
use Rattle.ir_cfg.specs.Unreached.{Kept, kept_of, new_numbers, operand_kept}
use Rattle.ir_cfg.proofs.KeepsPlaces.{before_le, marks_before, number_of_marked}
use Rattle.object_meaning.specs.Calls.{function_in}
use Rattle.object_meaning.specs.Registers.{nothing, operand, put, value}

abbrev pub read : List Datum → ℕ → Datum
read registers register = slice_index_or registers register nothing

unmarked : {A : Type 0} → Some false ≡ Some true → A
unmarked is = absurd (false≢true (same_Some false true is))

pub before_none : (marks : List Bool) → marks_before marks 0 ≡ 0
before_none marks = let le = before_le marks 0 in omega arith

-- ---- one register

pub read_kept : (marks : List Bool) (registers : List Datum) (register : ℕ) → Marked marks register
    → read (kept_of marks registers) (marks_before marks register) ≡ read registers register
read_kept [] registers register marked = absurd (none-some true marked)
read_kept (mark ∷ marks) [] register marked = refl
read_kept (true ∷ marks) (x ∷ registers) zero marked = refl
read_kept (false ∷ marks) (x ∷ registers) zero marked = unmarked marked
read_kept (true ∷ marks) (x ∷ registers) (suc register) marked = read_kept marks registers register marked
read_kept (false ∷ marks) (x ∷ registers) (suc register) marked = read_kept marks registers register marked

pub set_kept : {A : Type 0} (marks : List Bool) (registers : List A) (register : ℕ) (word : A) → Marked marks register
    → kept_of marks (slice_set registers register word) ≡ slice_set (kept_of marks registers) (marks_before marks register) word
set_kept [] registers register word marked = absurd (none-some true marked)
set_kept (mark ∷ marks) [] register word marked = refl
set_kept (true ∷ marks) (x ∷ registers) zero word marked = refl
set_kept (false ∷ marks) (x ∷ registers) zero word marked = unmarked marked
set_kept (true ∷ marks) (x ∷ registers) (suc register) word marked = ap (λ rest. x ∷ rest) (set_kept marks registers register word marked)
set_kept (false ∷ marks) (x ∷ registers) (suc register) word marked = set_kept marks registers register word marked

pub put_kept : (marks : List Bool) (to : Option ℕ) (word : Datum) (registers : List Datum) → IfSome to (Marked marks)
    → kept_of marks (put to word registers) ≡ put (option_map (marks_before marks) to) word (kept_of marks registers)
put_kept marks None word registers inside = refl
put_kept marks (Some to) word registers inside = set_kept marks registers to word inside

-- ---- what operands read

-- the register of an operand is one of the marked
abbrev pub OperandStays : List Bool → Operand → Type 0
OperandStays marks (Value id) = Marked marks id.0
OperandStays marks each = ⊤

module _ (marks : List Bool) (kept : Kept) (numbers : kept.values ≡ new_numbers marks) (registers : List Datum) where
  pub value_kept : (each : Operand) → OperandStays marks each → value (kept_of marks registers) (operand_kept kept each) ≡ value registers each
  value_kept (Value id) stays =
      ap (λ (values : List ℕ). read (kept_of marks registers) (slice_index_or values id.0 0)) numbers
      ∙ (ap (read (kept_of marks registers)) (number_of_marked marks id.0 stays) ∙ read_kept marks registers id.0 stays)
  value_kept (Int literal) stays = refl
  value_kept Null stays = refl
  value_kept (Fun func) stays = refl

  pub operand_same : (operands : List Operand) (place : ℕ) → All (OperandStays marks) operands
      → operand (kept_of marks registers) (map (operand_kept kept) operands) place ≡ operand registers operands place
  operand_same [] place stay = refl
  operand_same (each ∷ operands) zero stay = value_kept each (All-head (OperandStays marks) each operands stay)
  operand_same (each ∷ operands) (suc place) stay = operand_same operands place (All-tail (OperandStays marks) each operands stay)

  pub values_same : (operands : List Operand) → All (OperandStays marks) operands
      → map (value (kept_of marks registers)) (map (operand_kept kept) operands) ≡ map (value registers) operands
  values_same [] stay = refl
  values_same (each ∷ operands) stay =
      ap (λ first. first ∷ map (value (kept_of marks registers)) (map (operand_kept kept) operands)) (value_kept each (All-head (OperandStays marks) each operands stay))
      ∙ ap (λ rest. value registers each ∷ rest) (values_same operands (All-tail (OperandStays marks) each operands stay))

-- ---- what has no register stays

pub function_same : (kept : Kept) (operands : List Operand) → function_in (slice_get (map (operand_kept kept) operands) 0) ≡ function_in (slice_get operands 0)
function_same kept [] = refl
function_same kept (Value id ∷ operands) = refl
function_same kept (Int literal ∷ operands) = refl
function_same kept (Null ∷ operands) = refl
function_same kept (Fun func ∷ operands) = refl

-- ---- a new frame

pub kept_blank : {A : Type 0} (marks : List Bool) (x : A) → kept_of marks (replicate (length marks) x) ≡ replicate (marks_before marks (length marks)) x
kept_blank [] x = refl
kept_blank (true ∷ marks) x = ap (λ rest. x ∷ rest) (kept_blank marks x)
kept_blank (false ∷ marks) x = kept_blank marks x

-- arguments come first and are kept, and every other register starts as 0
filled_kept : (marks : List Bool) (arguments : List Datum) (count now : ℕ) → ((register : ℕ) → register < length arguments → Marked marks register)
    → count + length arguments ≡ length marks → now + length arguments ≡ marks_before marks (length marks)
    → kept_of marks (arguments ++ replicate count nothing) ≡ arguments ++ replicate now nothing
filled_kept marks [] count now first all some =
    let same : count ≡ length marks = omega arith in
    let fewer : marks_before marks (length marks) ≡ now = omega arith in
    ap (λ n. kept_of marks (replicate n nothing)) same ∙ (kept_blank marks nothing ∙ ap (λ n. replicate n nothing) fewer)
filled_kept [] (x ∷ arguments) count now first all some = absurd (none-some true (first 0 (omega arith)))
filled_kept (false ∷ marks) (x ∷ arguments) count now first all some = unmarked (first 0 (omega arith))
filled_kept (true ∷ marks) (x ∷ arguments) count now first all some =
    ap (λ rest. x ∷ rest) (filled_kept marks arguments count now (λ register below. first (suc register) (omega arith)) (omega arith) (omega arith))

few_marked : (marks : List Bool) (count : ℕ) → ((register : ℕ) → register < count → Marked marks register) → count ≤ marks_before marks (length marks)
few_marked marks zero first = omega arith
few_marked [] (suc count) first = absurd (none-some true (first 0 (omega arith)))
few_marked (false ∷ marks) (suc count) first = unmarked (first 0 (omega arith))
few_marked (true ∷ marks) (suc count) first = let rest = few_marked marks count (λ register below. first (suc register) (omega arith)) in omega arith

pub entered_kept : (marks : List Bool) (arguments : List Datum) (room now_room : ℕ) → ((register : ℕ) → register < length arguments → Marked marks register)
    → room ≡ length marks → now_room ≡ marks_before marks (length marks)
    → kept_of marks (arguments ++ replicate (room - length arguments) nothing) ≡ arguments ++ replicate (now_room - length arguments) nothing
entered_kept marks arguments room now_room first all some =
    let few = few_marked marks (length arguments) first in
    let fewer = before_le marks (length marks) in
    filled_kept marks arguments (room - length arguments) (now_room - length arguments) first (omega arith) (omega arith)
