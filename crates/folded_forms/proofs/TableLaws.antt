-- What stands for a value, and the meanings of a table.
use Rattle.std.proofs.Common.{◌≡◌, ℕ, zero, suc, ◌≤◌, Bool, true, false, ◌&&◌, if◌then◌else◌, List, [], ◌∷◌, map, length, refl, sym, ap, ◌∙◌, inl, inr}
use Rattle.std.specs.Prelude.{Some, None, slice_get}
use Rattle.std.specs.List.{Contains, list_all}
use Rattle.std.proofs.lemmas.Bool.{cases_lt, eq-eqb, false≢true}
use Rattle.std.proofs.lemmas.List.{get_or-set_other}
use Rattle.std.proofs.lemmas.Option.{none-some, same_Some}
use Rattle.list_laws.proofs.Contents.{contains_get, contains_none, contains_one}
use Rattle.list_laws.proofs.Places.{filter_map_forth, get_front}
use Rattle.sp_ids.specs.declared.ids.ValueId.{ValueId}
use Rattle.ir_ast.specs.declared.ops.Operand.{Operand}
use Rattle.ir_ast.specs.declared.ops.Operand.TheVariants.{Fun, Int, Null, Value}
use Rattle.ir_ast.specs.Funcs.{Function}
use Rattle.ir_ast.specs.Insts.{Instruction}
use Rattle.ir_ast.specs.Objects.{Datum}
use Rattle.ir_ast.specs.Operands.{is_literal, named, operands_of, same_operand, value_in, valued, values_used}
use Rattle.ir_ast.proofs.OpLaws.{same_is}
use Rattle.object_meaning.specs.Registers.{nothing, operand, put, value}
use Rattle.known_values.specs.Meanings.{Meaning, register}
use Rattle.folded_forms.specs.Folded.{Table, stands_for, stays}
use Rattle.folded_forms.specs.Foldings.{IsFolding}
use Rattle.folded_forms.specs.Known.{meaning_of, meanings_of}

-- ---- operands

pub same_number : (one other : ℕ) → named one ≡ named other → one ≡ other
same_number one other same = let ids : valued one ≡ valued other = cc in ap (λ (id : ValueId). id.0) ids

pub is_same : (own : ℕ) (other : Operand) → other ≡ named own → same_operand (named own) other ≡ true
is_same own other is = ap (λ (o : Operand). same_operand (named own) o) is ∙ eq-eqb own own refl

-- what names no value stands for itself
pub names_value : (table : Table) (each : Operand) (value : ℕ) → stands_for table each ≡ named value → (own : ℕ) × (each ≡ named own)
names_value table (Value id) value is = (id.0, refl)
names_value table (Int literal) value is = absurd cc
names_value table Null value is = absurd cc
names_value table (Fun func) value is = absurd cc

pub value_other : (each : Operand) (own : ℕ) (datum : Datum) (registers : List Datum) → (each ≡ named own → ⊥) → value (put (Some own) datum registers) each ≡ value registers each
value_other (Value id) own datum registers apart = get_or-set_other registers own id.0 datum nothing (λ same. apart (ap (λ (n : ℕ). named n) same))
value_other (Int literal) own datum registers apart = refl
value_other Null own datum registers apart = refl
value_other (Fun func) own datum registers apart = refl

-- an operand that names a value uses it
pub operand_used : (inst : Instruction) (place : ℕ) (own : ℕ) → slice_get inst.operands place ≡ Some (named own) → Contains (values_used inst) own
operand_used inst place own at =
    let there = filter_map_forth value_in (operands_of inst) place (named own) own (get_front inst.operands (map (λ entry. entry.1) inst.bundle) place (named own) at) refl in
    contains_get (values_used inst) there.0 own there.1

-- ---- tables

pub stays_is : (table : Table) (own : ℕ) → stays table own ≡ true → stands_for table (named own) ≡ named own
stays_is table own stays_here = sym (same_is (named own) (stands_for table (named own)) stays_here)

pub gone_apart : (table : Table) (own : ℕ) → stays table own ≡ false → stands_for table (named own) ≡ named own → ⊥
gone_apart table own gone is = false≢true (sym gone ∙ is_same own (stands_for table (named own)) is)

pub gone_high : (func : Function) (table : Table) → IsFolding func table → (own : ℕ) → stays table own ≡ false → length func.args ≤ own
gone_high func table folding own gone = elim (cases_lt own (length func.args)) [
  | inr above ↦ above
  | inl below ↦ absurd (false≢true (sym gone ∙ folding.arguments own below))
]

-- ---- meanings

pub meaning_value : (each : Operand) (registers : List Datum) → (meaning_of each).of registers ≡ value registers each
meaning_value (Value id) registers = refl
meaning_value (Int literal) registers = refl
meaning_value Null registers = refl
meaning_value (Fun func) registers = refl

pub meaning_reads : (each : Operand) (one other : List Datum) → ((read : ℕ) → Contains (meaning_of each).support read → register one read ≡ register other read)
    → (meaning_of each).of one ≡ (meaning_of each).of other
meaning_reads (Value id) one other same = same id.0 (contains_get (id.0 ∷ []) 0 id.0 refl)
meaning_reads (Int literal) one other same = refl
meaning_reads Null one other same = refl
meaning_reads (Fun func) one other same = refl

pub meaning_names : (each : Operand) (read : ℕ) → Contains (meaning_of each).support read → each ≡ named read
meaning_names (Value id) read inside = ap (λ (n : ℕ). named n) (contains_one id.0 read inside)
meaning_names (Int literal) read inside = absurd (contains_none read inside)
meaning_names Null read inside = absurd (contains_none read inside)
meaning_names (Fun func) read inside = absurd (contains_none read inside)

-- a value with a meaning is one that goes
pub record Goes (table : Table) (own : ℕ) (meaning : Meaning) : Type 0 where
  pub gone : stays table own ≡ false
  pub is : meaning_of (stands_for table (named own)) ≡ meaning

pub goes : (table : Table) (own : ℕ) (meaning : Meaning) → meanings_of table own ≡ Some meaning → Goes table own meaning
goes table own meaning is = by (stays table own) refl is
  where
    by : (b : Bool) → stays table own ≡ b → (if b then None else Some (meaning_of (stands_for table (named own)))) ≡ Some meaning → Goes table own meaning
    by true stays_here is = absurd (none-some meaning is)
    by false gone is = record { gone = gone; is = same_Some (meaning_of (stands_for table (named own))) meaning is }

pub meaning_at : (table : Table) (own : ℕ) → stays table own ≡ false → meanings_of table own ≡ Some (meaning_of (stands_for table (named own)))
meaning_at table own gone = ap (λ (b : Bool). if b then None else Some (meaning_of (stands_for table (named own)))) gone

-- ---- literals

literal_value : (each : Operand) (registers : List Datum) → is_literal each ≡ true → value registers each ≡ value [] each
literal_value (Int literal) registers is = refl
literal_value (Value id) registers is = absurd cc
literal_value Null registers is = absurd cc
literal_value (Fun func) registers is = absurd cc

pub literal_operands : (table : Table) (registers : List Datum) (all : List Operand)
    → ((place : ℕ) (each : Operand) → slice_get all place ≡ Some each → value registers each ≡ value registers (stands_for table each))
    → list_all is_literal (map (stands_for table) all) ≡ true → (place : ℕ) → operand registers all place ≡ operand [] (map (stands_for table) all) place
literal_operands table registers [] reads literals place = refl
literal_operands table registers (first ∷ all) reads literals place =
    by (is_literal (stands_for table first)) refl literals place (λ rest k. literal_operands table registers all (λ number each at. reads (suc number) each at) rest k)
  where
    by : (b : Bool) → is_literal (stands_for table first) ≡ b → b && list_all is_literal (map (stands_for table) all) ≡ true → (place : ℕ)
        → (list_all is_literal (map (stands_for table) all) ≡ true → (k : ℕ) → operand registers all k ≡ operand [] (map (stands_for table) all) k)
        → operand registers (first ∷ all) place ≡ operand [] (map (stands_for table) (first ∷ all)) place
    by false none literals place later = absurd cc
    by true literal rest zero later = reads 0 first refl ∙ literal_value (stands_for table first) registers literal
    by true literal rest (suc place) later = later rest place
