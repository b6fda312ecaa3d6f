-- A reading as its form and what it says at the slots of that form.
use Rattle.std.specs.Prelude.{◌≡◌, ℕ, Bool, List, [], ◌∷◌, drop, map, is_some, Option, Some, None, option_map, Result, Ok, Err}
use Rattle.line_forms.specs.declared.forms.DroppedLine.{DroppedLine}
use Rattle.line_forms.specs.declared.forms.DroppedLine.TheVariants as drop_lines
use Rattle.line_forms.specs.declared.forms.Form.{Form}
use Rattle.line_forms.specs.declared.forms.Form.TheVariants as forms
use Rattle.line_forms.specs.declared.readings.Reading.{Reading}
use Rattle.line_forms.specs.declared.readings.Reading.TheVariants as readings
use Rattle.line_forms.specs.declared.kept.KeptEntry.{KeptEntry}
use Rattle.std.specs.Option.{option_copied}
use Rattle.sp_text.specs.Tokens.{Tok}
use Rattle.line_parts.specs.Types.{TypeWord}
use Rattle.line_parts.specs.Parts.{Val}
use Rattle.line_parts.specs.declared.faults.Stop.{Stop}
use Rattle.line_parts.specs.declared.faults.Stop.TheVariants as stops
use Rattle.line_parts.specs.Gives.{Found, after, end_of}
use Rattle.line_parts.specs.Seen.{seen_type, seen_value, seen_argument, seen_passed, seen_entry}
use Rattle.ir_ast.specs.declared.modules.Form.{Form as TextForm}
use Rattle.line_forms.specs.Forms.{slots, fit, form_in, is_operator_form}
use Rattle.line_forms.specs.Slots.{Item, parse, name, layout_name, width, ty, value, pred, scalar, layout, place, fields, entries, declared, defined, called, strategy, types, handed, deopt, bundles, literal, family_answer}

-- what a frame keeps
abbrev pub seen_kept : KeptEntry → Val × TypeWord
seen_kept entry = (seen_value entry.value, seen_type entry.ty)

-- a line that is made of tokens: its form, and what it says at the form's slots
pub record Line : Type 0 where
  pub form : Form
  pub items : List Item

-- what a reading is: a label, or a line of tokens
pub data Said : Type 0 where
  label : List ℕ → Said
  line : Line → Said

abbrev pub of_form : Form → List Item → Said
of_form f is = line (record { form = f; items = is })

abbrev pub seen : Reading → Said
seen (readings.Layout n fs) = of_form forms.Layout (layout_name n.bytes.now ∷ fields (map seen_type fs.items) ∷ [])
seen (readings.Declare answer n ps) = of_form forms.Declare (ty (seen_type answer) ∷ declared n.bytes.now (map seen_argument ps.items) ∷ [])
seen (readings.Define answer n args s) = of_form forms.Define (ty (seen_type answer) ∷ defined n.bytes.now (map seen_argument args.items) ∷ strategy (option_copied s) ∷ [])
seen readings.Close = of_form forms.Close []
seen (readings.Label n) = label n.bytes.now
seen (readings.Binary x op n l r) = of_form (forms.Binary op) (name x.bytes.now ∷ width n.bits ∷ value (seen_value l) ∷ value (seen_value r) ∷ [])
seen (readings.Compare x p t l r) = of_form forms.Compare (name x.bytes.now ∷ pred p ∷ ty (seen_type t) ∷ value (seen_value l) ∷ value (seen_value r) ∷ [])
seen (readings.Convert x op n v to) = of_form (forms.Convert op) (name x.bytes.now ∷ width n.bits ∷ value (seen_value v) ∷ width to.bits ∷ [])
seen (readings.Select x c lt l rt r) = of_form forms.Select (name x.bytes.now ∷ value (seen_value c) ∷ ty (seen_type lt) ∷ value (seen_value l) ∷ ty (seen_type rt) ∷ value (seen_value r) ∷ [])
seen (readings.Phi x t es) = of_form forms.Phi (name x.bytes.now ∷ ty (seen_type t) ∷ entries (map seen_entry es.items) ∷ [])
seen (readings.ScalarElement x e a n i) = of_form forms.ScalarElement (name x.bytes.now ∷ scalar (seen_type e) ∷ value (seen_value a) ∷ width n.bits ∷ value (seen_value i) ∷ [])
seen (readings.LayoutElement x l a n i p) = of_form forms.LayoutElement (name x.bytes.now ∷ layout l.bytes.now ∷ value (seen_value a) ∷ width n.bits ∷ value (seen_value i) ∷ place p ∷ [])
seen (readings.Load x t a) = of_form forms.Load (name x.bytes.now ∷ ty (seen_type t) ∷ value (seen_value a) ∷ [])
seen (readings.Store t v a) = of_form forms.Store (ty (seen_type t) ∷ value (seen_value v) ∷ value (seen_value a) ∷ [])
seen (readings.ValueCall x t f ps kept) = of_form forms.ValueCall (name x.bytes.now ∷ ty (seen_type t) ∷ called f.bytes.now (map seen_passed ps.items) ∷ deopt (map seen_kept kept.items) ∷ [])
seen (readings.VoidCall f ps kept) = of_form forms.VoidCall (called f.bytes.now (map seen_passed ps.items) ∷ deopt (map seen_kept kept.items) ∷ [])
seen (readings.Jump l) = of_form forms.Jump (name l.bytes.now ∷ [])
seen (readings.Branch c l r) = of_form forms.Branch (value (seen_value c) ∷ name l.bytes.now ∷ name r.bytes.now ∷ [])
seen (readings.Switch n v d) = of_form forms.Switch (width n.bits ∷ value (seen_value v) ∷ name d.bytes.now ∷ [])
seen (readings.Case n v l) = of_form forms.Case (width n.bits ∷ value (seen_value v) ∷ name l.bytes.now ∷ [])
seen readings.SwitchEnd = of_form forms.SwitchEnd []
seen readings.ReturnVoid = of_form forms.ReturnVoid []
seen (readings.Return t v) = of_form forms.Return (ty (seen_type t) ∷ value (seen_value v) ∷ [])
seen readings.Unreachable = of_form forms.Unreachable []
seen (readings.Cast x op t v u) = of_form (forms.Cast op) (name x.bytes.now ∷ ty (seen_type t) ∷ value (seen_value v) ∷ ty (seen_type u) ∷ [])
seen (readings.Statepoint x c vs) = of_form forms.Statepoint (name x.bytes.now ∷ literal c.value.id ∷ ty (seen_type c.value.function_type.answer) ∷ types (map seen_type c.value.function_type.parameters.items) ∷ name c.value.callee.bytes.now ∷ literal c.value.count ∷ handed (map seen_passed c.value.passed.items) ∷ bundles (map seen_kept c.value.kept.items) (map seen_value vs.items) ∷ [])
seen (readings.GcResult x t token) = of_form forms.GcResult (name x.bytes.now ∷ ty (seen_type t) ∷ name token.bytes.now ∷ [])
seen (readings.GcRelocate x token b d) = of_form forms.GcRelocate (name x.bytes.now ∷ name token.bytes.now ∷ literal b ∷ literal d ∷ [])

-- a front of this form
unfoldable pub line_at : Form → List Tok → Found Said
line_at form ts = after (fit form ts) (λ items rest. Some (of_form form items, rest))

-- a front of an operator's form, of which `%x =` and the word, the first five slots, stand before these tokens
abbrev pub behind_operator : Form → List ℕ → List Tok → Found Said
behind_operator form x ts = after (parse (drop 5 (slots form)) ts) (λ items rest. Some (of_form form (name x ∷ items), rest))

-- a front of this form, from its first token on, or from behind the operator where the result is known
abbrev pub opened_at : Form → Option (List ℕ) → List Tok → Found Said
opened_at form None ts = line_at form ts
opened_at form (Some x) ts = behind_operator form x ts

-- The line has this form, and what it says is told from these tokens on, which stand behind the operator if it has one.
abbrev pub Opens : TextForm → List Tok → Form → Option (List ℕ) → List Tok → Type 0
Opens text ts form x rest = (form_in text ts ≡ Some form) × (is_some x ≡ is_operator_form form) × (line_at form ts ≡ opened_at form x rest)

-- what a whole line says, and whether a limit was passed in it: nothing else stands behind it
abbrev pub ended : Found Said → Option (Said × Bool)
ended None = None
ended (Some (what, rest)) = option_map (λ passed. (what, passed)) (end_of rest)

-- what a dropped line says: what a function of a statepoint group answers
abbrev pub dropped_says : DroppedLine → Option TypeWord → List Item
dropped_says drop_lines.Family answer = family_answer answer ∷ []
dropped_says _ answer = []

-- what a function returned for a whole line, seen by view
abbrev pub Reads : {X : Type 0} → (X → Said) → Result (X × Bool) Stop → Option (Said × Bool) → Type 0
Reads view (Ok x) found = found ≡ Some (view x.0, x.1)
Reads view (Err stops.NoReading) found = found ≡ None
Reads view (Err stops.Memory) found = Unit {0}
