-- Tables under which what a line that stays uses stays.
use Rattle.std.proofs.Common.{◌≡◌, ℕ, ◌<◌, true, List, ◌++◌, length, map, refl, sym, ap, ◌∙◌}
use Rattle.std.specs.Prelude.{Some, slice_get}
use Rattle.std.specs.List.{Contains, filter_map}
use Rattle.std.proofs.lemmas.List.{map-append}
use Rattle.std.proofs.lemmas.Option.{none-some, same_Some}
use Rattle.list_laws.proofs.Contents.{contains_get, get_contained}
use Rattle.list_laws.proofs.Places.{filter_map_back, filter_map_forth, map_back}
use Rattle.ir_ast.specs.declared.types.Ty.{Ty}
use Rattle.ir_ast.specs.declared.ops.Operand.{Operand}
use Rattle.ir_ast.specs.declared.ops.Operand.TheVariants.{Fun, Int, Null, Value}
use Rattle.ir_ast.specs.Derived.{Derived}
use Rattle.ir_ast.specs.Funcs.{Function, instructions_of}
use Rattle.ir_ast.specs.Insts.{Instruction}
use Rattle.ir_ast.specs.Operands.{named, operands_of, value_in, values_used}
use Rattle.ir_ast.specs.Values.{value_types}
use Rattle.ir_ast.specs.Faults.GroupShape.{number_at}
use Rattle.ir_ast.specs.Faults.TypeClash.{Fits}
use Rattle.ir_cfg.specs.DefiniteUses.{IsDefinite, Uses}
use Rattle.ir_cfg.proofs.KeepsPlaces.{map_through}
use Rattle.folded_forms.specs.Folded.{Table, folded_line, folded_operand, numbered, stands_for, stays}
use Rattle.folded_forms.proofs.TableLaws.{names_value}
use Rattle.folded_source.proofs.LineLaws.{line_stays}
use Rattle.folded_source.proofs.ValueLaws.{counted}

-- what stands for an operand
pub record IsSettledOperand (func : Function) (table : Table) (operand : Operand) : Type 0 where
  -- stays, if it is a value
  pub stays_here : (to : ℕ) → stands_for table operand ≡ named to → stays table to ≡ true
  pub fits : (ty : Ty) → Fits (value_types func) operand ty → Fits (value_types func) (stands_for table operand) ty
  pub derived : (to : ℕ) → stands_for table operand ≡ named to → Derived func to → (own : ℕ) × (operand ≡ named own) × Derived func own

-- the instruction at this place of the text stays
abbrev pub StaysThere : Function → Table → ℕ → Type 0
StaysThere func table place = (inst : Instruction) → slice_get (instructions_of func.blocks) place ≡ Some inst → line_stays table (number_at func place) inst ≡ true

pub record IsSettled (func : Function) (table : Table) : Type 0 where
  pub arguments : (value : ℕ) → value < length func.args → stays table value ≡ true
  pub operands : (place : ℕ) (inst : Instruction) → slice_get (instructions_of func.blocks) place ≡ Some inst → line_stays table (number_at func place) inst ≡ true
      → (operand : Operand) → Contains (operands_of inst) operand → IsSettledOperand func table operand
  pub definite : (line value block place : ℕ) → Uses func line value block place → StaysThere func table line
      → (to : ℕ) → stands_for table (named value) ≡ named to → IsDefinite func to block place

-- ---- operands of a folded line

pub operands_folded : (table : Table) (inst : Instruction) → operands_of (folded_line table inst) ≡ map (folded_operand table) (operands_of inst)
operands_folded table inst =
    let new : (Ty × Operand) → (Ty × Operand) = λ entry. (entry.0, folded_operand table entry.1) in
    let second : (Ty × Operand) → Operand = λ entry. entry.1 in
    ap (λ (os : List Operand). map (folded_operand table) inst.operands ++ os)
    (map_through second new (λ entry. folded_operand table entry.1) (λ entry. refl) inst.bundle
    ∙ sym (map_through (folded_operand table) second (λ entry. folded_operand table entry.1) (λ entry. refl) inst.bundle))
    ∙ sym (map-append (folded_operand table) inst.operands (map second inst.bundle))

-- an operand for which a value stands names one
pub record Stood (table : Table) (operand : Operand) (value : ℕ) : Type 0 where
  pub own : ℕ
  pub names : operand ≡ named own
  pub to : ℕ
  pub stands : stands_for table operand ≡ named to
  pub number : value ≡ counted table to

number_of : (table : Table) (operand : Operand) (value : ℕ) → value_in (numbered table operand) ≡ Some value → (to : ℕ) × (operand ≡ named to) × (value ≡ counted table to)
number_of table (Value id) value is = (id.0, refl, sym (same_Some (counted table id.0) value is))
number_of table (Int literal) value is = absurd (none-some value is)
number_of table Null value is = absurd (none-some value is)
number_of table (Fun called) value is = absurd (none-some value is)

pub stood : (table : Table) (operand : Operand) (value : ℕ) → value_in (folded_operand table operand) ≡ Some value → Stood table operand value
stood table operand value is =
    let there = number_of table (stands_for table operand) value is in
    let here = names_value table operand there.0 there.1 in
    record { own = here.0; names = here.1; to = there.0; stands = there.1; number = there.2 }

-- what a folded line uses stands for what the line uses
pub record UsedFrom (table : Table) (inst : Instruction) (value : ℕ) : Type 0 where
  pub operand : Operand
  pub inside : Contains (operands_of inst) operand
  pub from : Stood table operand value
  pub used : Contains (values_used inst) from.own

pub operand_used : (inst : Instruction) (operand : Operand) (own : ℕ) → Contains (operands_of inst) operand → operand ≡ named own → Contains (values_used inst) own
operand_used inst operand own inside names =
    let at = get_contained (operands_of inst) operand inside in
    let there = filter_map_forth value_in (operands_of inst) at.0 operand own at.1 (ap value_in names) in
    contains_get (values_used inst) there.0 own there.1

pub used_from : (table : Table) (inst : Instruction) (value : ℕ) → Contains (values_used (folded_line table inst)) value → UsedFrom table inst value
used_from table inst value used =
    let at = get_contained (values_used (folded_line table inst)) value used in
    let item = filter_map_back value_in (map (folded_operand table) (operands_of inst)) value at.0
    (ap (λ (os : List Operand). slice_get (filter_map value_in os) at.0) (sym (operands_folded table inst)) ∙ at.1) in
    let image = map_back (folded_operand table) (operands_of inst) item.place item.item item.stands in
    let from = stood table image.before value (ap value_in (sym image.is) ∙ item.gives) in
    let inside = contains_get (operands_of inst) item.place image.before image.stands in
    record { operand = image.before; inside = inside; from = from; used = operand_used inst image.before from.own inside from.names }
