-- What a line says, by its parts.
use Rattle.line_forms.specs.declared.forms.Form.TheVariants as forms
use Rattle.std.specs.Prelude.{ℕ, Bool, ◌||◌, List, [], map, codes, Option, Some, None, slice_get, false, if◌then◌else◌}
use Rattle.std.specs.Str.{bytes_eq}
use Rattle.line_forms.specs.declared.forms.Form.{Form}
use Rattle.line_tokens.specs.declared.words.Binary.{Binary}
use Rattle.line_tokens.specs.declared.words.Conversion.{Conversion}
use Rattle.line_tokens.specs.declared.words.Cast.{Cast}
use Rattle.ir_ast.specs.declared.ops.Pred.{Pred}
use Rattle.ir_ast.specs.declared.ops.Pred.TheVariants as preds
use Rattle.line_parts.specs.Types.{TypeWord}
use Rattle.line_parts.specs.Types as types
use Rattle.line_tokens.specs.declared.literals.Literal.{Literal}
use Rattle.line_parts.specs.Parts.{Val, null}
use Rattle.line_parts.specs.Lists.{Named, Given}
use Rattle.line_forms.specs.Slots.{Item}
use Rattle.line_forms.specs.Slots as items
use Rattle.line_forms.specs.Seen.{Said}
use Rattle.line_forms.specs.Seen as readings
use Rattle.ir_reader.specs.Text.{Numbered}

-- a function type `R (A, ..)`
pub record Signature : Type 0 where
  pub answer : TypeWord
  pub parameters : List TypeWord

-- a call: the type of what it answers, the function's name, the arguments, and the values that its "deopt" bundle spells,
-- each with its type
pub record Called : Type 0 where
  pub answer : TypeWord
  pub callee : List ℕ
  pub passed : List Given
  pub kept : List (Val × TypeWord)

-- a statepoint's call: its id, the function's type and name, the number of arguments that it tells, the arguments, and the
-- values of its "deopt" bundle
pub record Guarded : Type 0 where
  pub id : Literal
  pub signature : Signature
  pub callee : List ℕ
  pub count : Literal
  pub passed : List Given
  pub kept : List (Val × TypeWord)

-- the externals that reach no safepoint
abbrev pub is_leaf_name : List ℕ → Bool
is_leaf_name name =
    bytes_eq name (codes "print_i64") || bytes_eq name (codes "read_i64") || bytes_eq name (codes "gc_check") || bytes_eq name (codes "gc_same")

-- what a call keeps of its bundle: a leaf, which is told by the name that the call spells, nothing
abbrev pub kept_by : Called → List (Val × TypeWord)
kept_by made = if is_leaf_name made.callee then [] else made.kept

-- what a line says; `%T = type { F, F, .. }` is a layout
pub data Statement : Type 0 where
  layout : (name : List ℕ) → (fields : List TypeWord) → Statement
  -- `declare R @name(A, A, ..)`
  declare : (answer : TypeWord) → (name : List ℕ) → (parameters : List Named) → Statement
  -- `define R @name(T %a, T %b, ..) gc "S" {`
  define : (answer : TypeWord) → (name : List ℕ) → (arguments : List Named) → (strategy : Option (List ℕ)) → Statement
  close : Statement
  label : (name : List ℕ) → Statement
  binary : (result : List ℕ) → (op : Binary) → (width : ℕ) → (left right : Val) → Statement
  compare : (result : List ℕ) → (predicate : Pred) → (ty : TypeWord) → (left right : Val) → Statement
  convert : (result : List ℕ) → (op : Conversion) → (width : ℕ) → (value : Val) → (to : ℕ) → Statement
  select : (result : List ℕ) → (condition : Val) → (left_ty : TypeWord) → (left : Val) → (right_ty : TypeWord) → (right : Val) → Statement
  phi : (result : List ℕ) → (ty : TypeWord) → (entries : List (Val × List ℕ)) → Statement
  -- `%x = getelementptr E, P V, iN V`
  scalar_step : (result : List ℕ) → (element : TypeWord) → (address : Val) → (width : ℕ) → (index : Val) → Statement
  -- `%x = getelementptr %T, P V, iN V`, and maybe the place of a field
  layout_step : (result named : List ℕ) → (address : Val) → (width : ℕ) → (index : Val) → (place : Option Literal) → Statement
  load : (result : List ℕ) → (ty : TypeWord) → (address : Val) → Statement
  store : (ty : TypeWord) → (value address : Val) → Statement
  -- `%x = call T @f(T V, ..)`, `call void @f(T V, ..)`, and maybe `[ "deopt"(T V, ..) ]`
  call : (result : Option (List ℕ)) → (made : Called) → Statement
  jump : (to : List ℕ) → Statement
  branch : (condition : Val) → (on_true on_false : List ℕ) → Statement
  -- `switch iN V, label %l [`, whose cases and end are the next lines
  switch : (width : ℕ) → (value : Val) → (default : List ℕ) → Statement
  switch_case : (width : ℕ) → (value : Val) → (to : List ℕ) → Statement
  switch_end : Statement
  -- `ret void`, `ret T V`
  ret_void : Statement
  ret : (ty : TypeWord) → (value : Val) → Statement
  unreachable : Statement
  -- `%x = CAST T V to U`
  cast : (result : List ℕ) → (op : Cast) → (from : TypeWord) → (value : Val) → (to : TypeWord) → Statement
  -- `%t = call token (..) @llvm.experimental.gc.statepoint.p0(.. @f, .. T V, .. ) [ "deopt"(T V, ..), "gc-live"(P V, ..) ]`,
  -- what it calls and its live entries; this and the next two stand in the rewritten form alone
  statepoint : (result : List ℕ) → (made : Guarded) → (live : List Val) → Statement
  -- `%x = call T @llvm.experimental.gc.result.S(token %t)`
  gc_result : (result : List ℕ) → (ty : TypeWord) → (token : List ℕ) → Statement
  -- `%x = call P @llvm.experimental.gc.relocate.p1(token %t, i32 B, i32 D)`
  gc_relocate : (result token : List ℕ) → (base derived : Literal) → Statement

-- a line of a text: its number and what it says
pub record Line : Type 0 where
  pub number : ℕ
  pub says : Statement

-- ---- what stands at a slot of a form

abbrev pub name_of : Option Item → List ℕ
name_of (Some (items.name n)) = n
name_of (Some (items.layout_name n)) = n
name_of (Some (items.layout n)) = n
name_of _ = []

abbrev pub width_of : Option Item → ℕ
width_of (Some (items.width n)) = n
width_of _ = 0

abbrev pub type_of : Option Item → TypeWord
type_of (Some (items.ty t)) = t
type_of (Some (items.scalar t)) = t
type_of _ = types.Void

abbrev pub value_of : Option Item → Val
value_of (Some (items.value v)) = v
value_of _ = null

abbrev pub predicate_of : Option Item → Pred
predicate_of (Some (items.pred p)) = p
predicate_of _ = preds.Eq

abbrev pub place_of : Option Item → Option Literal
place_of (Some (items.place p)) = p
place_of _ = None

abbrev pub fields_of : Option Item → List TypeWord
fields_of (Some (items.fields fs)) = fs
fields_of _ = []

abbrev pub entries_of : Option Item → List (Val × List ℕ)
entries_of (Some (items.entries es)) = es
entries_of _ = []

abbrev pub head_of : Option Item → List ℕ × List Named
head_of (Some (items.declared n ps)) = (n, ps)
head_of (Some (items.defined n ps)) = (n, ps)
head_of _ = ([], [])

abbrev pub called_of : Option Item → List ℕ × List Given
called_of (Some (items.called n ps)) = (n, ps)
called_of _ = ([], [])

abbrev pub literal_of : Option Item → Literal
literal_of (Some (items.literal n)) = n
literal_of _ = record { negative = false; magnitude = 0 }

abbrev pub types_of : Option Item → List TypeWord
types_of (Some (items.types ts)) = ts
types_of _ = []

abbrev pub handed_of : Option Item → List Given
handed_of (Some (items.handed ps)) = ps
handed_of _ = []

-- the "deopt" bundle of a call
abbrev pub kept_of : Option Item → List (Val × TypeWord)
kept_of (Some (items.deopt us)) = us
kept_of _ = []

-- that of a statepoint, and its live entries
abbrev pub bundles_of : Option Item → List (Val × TypeWord) × List Val
bundles_of (Some (items.bundles us vs)) = (us, vs)
bundles_of _ = ([], [])

abbrev pub strategy_of : Option Item → Option (List ℕ)
strategy_of (Some (items.strategy s)) = s
strategy_of _ = None

abbrev pub calling : TypeWord → List ℕ → List Given → List (Val × TypeWord) → Called
calling answer callee passed kept = record { answer = answer; callee = callee; passed = passed; kept = kept }

-- a line of a form, with what stands at its slots; a dropped line says nothing and is none of the readings
abbrev pub of_form : Form → (ℕ → Option Item) → Statement
of_form (forms.Dropped which) at = close
of_form forms.Layout at = layout (name_of (at 0)) (fields_of (at 1))
of_form forms.Declare at = declare (type_of (at 0)) (head_of (at 1)).0 (head_of (at 1)).1
of_form forms.Define at = define (type_of (at 0)) (head_of (at 1)).0 (head_of (at 1)).1 (strategy_of (at 2))
of_form forms.Close at = close
of_form (forms.Binary op) at = binary (name_of (at 0)) op (width_of (at 1)) (value_of (at 2)) (value_of (at 3))
of_form forms.Compare at = compare (name_of (at 0)) (predicate_of (at 1)) (type_of (at 2)) (value_of (at 3)) (value_of (at 4))
of_form (forms.Convert op) at = convert (name_of (at 0)) op (width_of (at 1)) (value_of (at 2)) (width_of (at 3))
of_form forms.Select at = select (name_of (at 0)) (value_of (at 1)) (type_of (at 2)) (value_of (at 3)) (type_of (at 4)) (value_of (at 5))
of_form forms.Phi at = phi (name_of (at 0)) (type_of (at 1)) (entries_of (at 2))
of_form forms.ScalarElement at = scalar_step (name_of (at 0)) (type_of (at 1)) (value_of (at 2)) (width_of (at 3)) (value_of (at 4))
of_form forms.LayoutElement at = layout_step (name_of (at 0)) (name_of (at 1)) (value_of (at 2)) (width_of (at 3)) (value_of (at 4)) (place_of (at 5))
of_form forms.Load at = load (name_of (at 0)) (type_of (at 1)) (value_of (at 2))
of_form forms.Store at = store (type_of (at 0)) (value_of (at 1)) (value_of (at 2))
of_form forms.ValueCall at = call (Some (name_of (at 0))) (calling (type_of (at 1)) (called_of (at 2)).0 (called_of (at 2)).1 (kept_of (at 3)))
of_form forms.VoidCall at = call None (calling types.Void (called_of (at 0)).0 (called_of (at 0)).1 (kept_of (at 1)))
of_form forms.Jump at = jump (name_of (at 0))
of_form forms.Branch at = branch (value_of (at 0)) (name_of (at 1)) (name_of (at 2))
of_form forms.Switch at = switch (width_of (at 0)) (value_of (at 1)) (name_of (at 2))
of_form forms.Case at = switch_case (width_of (at 0)) (value_of (at 1)) (name_of (at 2))
of_form forms.SwitchEnd at = switch_end
of_form forms.ReturnVoid at = ret_void
of_form forms.Return at = ret (type_of (at 0)) (value_of (at 1))
of_form forms.Unreachable at = unreachable
of_form (forms.Cast op) at = cast (name_of (at 0)) op (type_of (at 1)) (value_of (at 2)) (type_of (at 3))
of_form forms.Statepoint at = statepoint (name_of (at 0)) (record {
  id = literal_of (at 1);
  signature = record { answer = type_of (at 2); parameters = types_of (at 3) };
  callee = name_of (at 4);
  count = literal_of (at 5);
  passed = handed_of (at 6);
  kept = (bundles_of (at 7)).0;
}) (bundles_of (at 7)).1
of_form forms.GcResult at = gc_result (name_of (at 0)) (type_of (at 1)) (name_of (at 2))
of_form forms.GcRelocate at = gc_relocate (name_of (at 0)) (name_of (at 1)) (literal_of (at 2)) (literal_of (at 3))

-- what a reading says
abbrev pub stated : Said → Statement
stated (readings.label n) = label n
stated (readings.line l) = of_form l.form (slice_get l.items)

-- the lines that readings stand for
abbrev pub line_of : Numbered → Line
line_of reading = record { number = reading.line; says = stated reading.said }

abbrev pub lines_of : List Numbered → List Line
lines_of readings = map line_of readings
