-- The counts that are kept line by line are the quantities of all lines.
use Rattle.std.proofs.Common.{◌≡◌, ℕ, ◌+◌, Bool, true, false, cond, ◌||◌, List, [], ◌∷◌, ◌++◌, refl, sym, ap, ◌∙◌, arith}
use Rattle.std.specs.Prelude.{length, reverse, sum_by}
use Rattle.std.specs.List.{list_any, take_while}
use Rattle.std.proofs.lemmas.List.{reverse-append}
use Rattle.std.proofs.lemmas.List.Folds.{list_any-append}
use Rattle.std.proofs.lemmas.List.Sums.{sum_by-append, sum_by-cons, take_while-cons}
use Rattle.ir_ast.specs.declared.modules.Form.{Form as TextForm}
use Rattle.ir_ast.specs.declared.modules.Form.TheVariants as text_forms
use Rattle.line_forms.specs.declared.forms.Form.{Form}
use Rattle.line_forms.specs.declared.forms.Form.TheVariants as forms
use Rattle.line_forms.specs.Slots.{Item}
use Rattle.line_forms.specs.Seen.{Said, label, line}
use Rattle.ir_reader.specs.declared.states.Counts.{Counts}
use Rattle.ir_reader.specs.declared.states.Counted.{Counted}
use Rattle.ir_reader.specs.declared.states.Counted.TheVariants as kinds
use Rattle.ir_reader.specs.Limits.{said_counts_as, counts_as, counted, counted_in, counts_fit}
use Rattle.ir_reader.specs.Quantities.{is_layout, is_definition, is_relocate, is_instruction, has_form, arguments_in, layouts_in, functions_in, instructions_in, last_function, function_values_in, last_relocates_in, quantities_fit}

-- ---- one line more

abbrev one : Bool → ℕ
one b = cond b 1 0

sum_by-last : {A : Type 0} (f : A → ℕ) (xs : List A) (x : A) → sum_by f (xs ++ x ∷ []) ≡ sum_by f xs + f x
sum_by-last f xs x = omega (arith, sum_by-append f xs (x ∷ []), sum_by-cons f x [])

abbrev instruction_of : TextForm → Bool → ℕ
instruction_of text_forms.Source b = one b
instruction_of text_forms.Rewritten b = 0

instructions_in-last : (text : TextForm) (says : List Said) (what : Said) → instructions_in text (says ++ what ∷ []) ≡ instructions_in text says + instruction_of text (has_form is_instruction what)
instructions_in-last text_forms.Source says what = sum_by-last (λ (x : Said). one (has_form is_instruction x)) says what
instructions_in-last text_forms.Rewritten says what = refl

last_function-by : (b d : Bool) (says : List Said) (what first : Said)
    → last_function (says ++ what ∷ []) ≡ cond d (what ∷ []) (last_function says ++ what ∷ []) → list_any (has_form is_definition) says ≡ b
    → cond (b || d) (last_function (says ++ what ∷ [])) (first ∷ (says ++ what ∷ [])) ≡ cond d (what ∷ []) (cond b (last_function says) (first ∷ says) ++ what ∷ [])
last_function-by true true says what first rest e = rest
last_function-by true false says what first rest e = rest
last_function-by false true says what first rest e = rest
last_function-by false false says what first rest e = refl

any-last : (says : List Said) (what : Said) → list_any (has_form is_definition) (says ++ what ∷ []) ≡ (list_any (has_form is_definition) says || has_form is_definition what)
any-last says what = list_any-append (has_form is_definition) says (what ∷ []) ∙ ap (λ (b : Bool). list_any (has_form is_definition) says || b) (or_false (has_form is_definition what))
  where
    or_false : (b : Bool) → (b || false) ≡ b
    or_false true = refl
    or_false false = refl

last_function-last : (says : List Said) (what : Said) → last_function (says ++ what ∷ []) ≡ cond (has_form is_definition what) (what ∷ []) (last_function says ++ what ∷ [])
unfolding last_function
last_function-last [] what = same (has_form is_definition what)
  where
    same : (d : Bool) → what ∷ [] ≡ cond d (what ∷ []) (what ∷ [])
    same true = refl
    same false = refl
last_function-last (first ∷ says) what =
    ap (λ (b : Bool). cond b (last_function (says ++ what ∷ [])) (first ∷ (says ++ what ∷ []))) (any-last says what) ∙ (last_function-by (list_any (has_form is_definition) says) (has_form is_definition what) says what first (last_function-last says what) refl)

relocates-by : (b : Bool) (what : Said) (says : List Said) → length (cond b (what ∷ says) []) ≡ cond b (length says + 1) 0
relocates-by true what says = omega arith
relocates-by false what says = refl

last_relocates_in-last : (says : List Said) (what : Said) → last_relocates_in (says ++ what ∷ []) ≡ cond (has_form is_relocate what) (last_relocates_in says + 1) 0
last_relocates_in-last says what =
    ap (λ (xs : List Said). length (take_while (has_form is_relocate) xs)) (reverse-append says (what ∷ []))
    ∙ ap (λ (xs : List Said). length xs) (take_while-cons (has_form is_relocate) what (reverse says))
    ∙ relocates-by (has_form is_relocate what) what (take_while (has_form is_relocate) (reverse says))

-- what a line adds, by what it is
record Added (text : TextForm) (says : List Said) (what : Said) (layout definition instruction relocate : Bool) (arguments : ℕ) : Type 0 where
  layouts : layouts_in (says ++ what ∷ []) ≡ layouts_in says + one layout
  functions : functions_in (says ++ what ∷ []) ≡ functions_in says + one definition
  instructions : instructions_in text (says ++ what ∷ []) ≡ instructions_in text says + instruction_of text instruction
  values : function_values_in text (says ++ what ∷ []) ≡ cond definition 0 (function_values_in text says) + arguments + instruction_of text instruction
  relocates : last_relocates_in (says ++ what ∷ []) ≡ cond relocate (last_relocates_in says + 1) 0

values_of : TextForm → List Said → ℕ
values_of text lines = sum_by arguments_in lines + instructions_in text lines

values_of-last : (text : TextForm) (lines : List Said) (what : Said) → values_of text (lines ++ what ∷ []) ≡ values_of text lines + arguments_in what + instruction_of text (has_form is_instruction what)
unfolding values_of
values_of-last text lines what = omega (arith, sum_by-last arguments_in lines what, instructions_in-last text lines what)

values_of-none : (text : TextForm) → values_of text [] ≡ 0
unfolding values_of
values_of-none text_forms.Source = refl
values_of-none text_forms.Rewritten = refl

values-by : (text : TextForm) (d : Bool) (lines : List Said) (what : Said)
    → values_of text (cond d (what ∷ []) (lines ++ what ∷ [])) ≡ cond d 0 (values_of text lines) + arguments_in what + instruction_of text (has_form is_instruction what)
values-by text true lines what = omega (arith, values_of-last text [] what, values_of-none text)
values-by text false lines what = values_of-last text lines what

function_values_in-last : (text : TextForm) (says : List Said) (what : Said)
    → function_values_in text (says ++ what ∷ []) ≡ cond (has_form is_definition what) 0 (function_values_in text says) + arguments_in what + instruction_of text (has_form is_instruction what)
unfolding values_of
function_values_in-last text says what =
    ap (λ (lines : List Said). values_of text lines) (last_function-last says what) ∙ values-by text (has_form is_definition what) (last_function says) what

added : (text : TextForm) (says : List Said) (what : Said) → Added text says what (has_form is_layout what) (has_form is_definition what) (has_form is_instruction what) (has_form is_relocate what) (arguments_in what)
added text says what = record {
  layouts = sum_by-last (λ (x : Said). one (has_form is_layout x)) says what;
  functions = sum_by-last (λ (x : Said). one (has_form is_definition x)) says what;
  instructions = instructions_in-last text says what;
  values = function_values_in-last text says what;
  relocates = last_relocates_in-last says what;
}

-- ---- what a line counts as

abbrev of_layout : Counted → Bool
of_layout kinds.Layout = true
of_layout _ = false

abbrev of_definition : Counted → Bool
of_definition (kinds.Function arguments) = true
of_definition _ = false

abbrev of_instruction : Counted → Bool
of_instruction kinds.Instruction = true
of_instruction _ = false

abbrev of_relocate : Counted → Bool
of_relocate kinds.Relocate = true
of_relocate _ = false

abbrev arguments_counted : Counted → ℕ
arguments_counted (kinds.Function arguments) = arguments
arguments_counted _ = 0

abbrev AddedAs : TextForm → List Said → Said → Counted → Type 0
AddedAs text says what kind = Added text says what (of_layout kind) (of_definition kind) (of_instruction kind) (of_relocate kind) (arguments_counted kind)

added_by_form : (text : TextForm) (says : List Said) (form : Form) (items : List Item) → AddedAs text says (line (record { form = form; items = items })) (counts_as form items)
added_by_form text says (forms.Dropped which) items = added text says (line (record { form = forms.Dropped which; items = items }))
added_by_form text says form items = added text says (line (record { form = form; items = items }))

added_as : (text : TextForm) (says : List Said) (what : Said) → AddedAs text says what (said_counts_as what)
added_as text says (label name) = added text says (label name)
added_as text says (line l) = added_by_form text says l.form l.items

-- ---- the counts

pub record IsCounted (text : TextForm) (c : Counts) (says : List Said) : Type 0 where
  pub layouts : c.layouts ≡ layouts_in says
  pub functions : c.functions ≡ functions_in says
  pub values : c.values ≡ function_values_in text says
  pub instructions : c.instructions ≡ instructions_in text says
  pub relocates : c.relocates ≡ last_relocates_in says

pub fits-are : (text : TextForm) (c : Counts) (says : List Said) → IsCounted text c says → counts_fit c ≡ quantities_fit text says
fits-are text c says h = rw (h.layouts, h.functions, h.values, h.instructions, h.relocates) refl

counted_by : (text : TextForm) (kind : Counted) (c : Counts) (says : List Said) (what : Said) → AddedAs text says what kind → IsCounted text c says
    → IsCounted text (counted (counted_in text kind) c) (says ++ what ∷ [])
counted_by text_forms.Source kinds.Layout c says what a h = record {
  layouts = omega (arith, h.layouts, a.layouts);
  functions = omega (arith, h.functions, a.functions);
  values = omega (arith, h.values, a.values);
  instructions = omega (arith, h.instructions, a.instructions);
  relocates = sym a.relocates;
}
counted_by text_forms.Source (kinds.Function arguments) c says what a h = record {
  layouts = omega (arith, h.layouts, a.layouts);
  functions = omega (arith, h.functions, a.functions);
  values = omega (arith, a.values);
  instructions = omega (arith, h.instructions, a.instructions);
  relocates = sym a.relocates;
}
counted_by text_forms.Source kinds.Instruction c says what a h = record {
  layouts = omega (arith, h.layouts, a.layouts);
  functions = omega (arith, h.functions, a.functions);
  values = omega (arith, h.values, a.values);
  instructions = omega (arith, h.instructions, a.instructions);
  relocates = sym a.relocates;
}
counted_by text_forms.Source kinds.Relocate c says what a h = record {
  layouts = omega (arith, h.layouts, a.layouts);
  functions = omega (arith, h.functions, a.functions);
  values = omega (arith, h.values, a.values);
  instructions = omega (arith, h.instructions, a.instructions);
  relocates = omega (arith, h.relocates, a.relocates);
}
counted_by text_forms.Source kinds.Nothing c says what a h = record {
  layouts = omega (arith, h.layouts, a.layouts);
  functions = omega (arith, h.functions, a.functions);
  values = omega (arith, h.values, a.values);
  instructions = omega (arith, h.instructions, a.instructions);
  relocates = sym a.relocates;
}
counted_by text_forms.Rewritten kinds.Layout c says what a h = record {
  layouts = omega (arith, h.layouts, a.layouts);
  functions = omega (arith, h.functions, a.functions);
  values = omega (arith, h.values, a.values);
  instructions = omega (arith, h.instructions, a.instructions);
  relocates = sym a.relocates;
}
counted_by text_forms.Rewritten (kinds.Function arguments) c says what a h = record {
  layouts = omega (arith, h.layouts, a.layouts);
  functions = omega (arith, h.functions, a.functions);
  values = omega (arith, a.values);
  instructions = omega (arith, h.instructions, a.instructions);
  relocates = sym a.relocates;
}
counted_by text_forms.Rewritten kinds.Instruction c says what a h = record {
  layouts = omega (arith, h.layouts, a.layouts);
  functions = omega (arith, h.functions, a.functions);
  values = omega (arith, h.values, a.values);
  instructions = omega (arith, h.instructions, a.instructions);
  relocates = sym a.relocates;
}
counted_by text_forms.Rewritten kinds.Relocate c says what a h = record {
  layouts = omega (arith, h.layouts, a.layouts);
  functions = omega (arith, h.functions, a.functions);
  values = omega (arith, h.values, a.values);
  instructions = omega (arith, h.instructions, a.instructions);
  relocates = omega (arith, h.relocates, a.relocates);
}
counted_by text_forms.Rewritten kinds.Nothing c says what a h = record {
  layouts = omega (arith, h.layouts, a.layouts);
  functions = omega (arith, h.functions, a.functions);
  values = omega (arith, h.values, a.values);
  instructions = omega (arith, h.instructions, a.instructions);
  relocates = sym a.relocates;
}

-- a line that is kept
pub counted-kept : (text : TextForm) (c : Counts) (says : List Said) (what : Said) → IsCounted text c says → IsCounted text (counted (counted_in text (said_counts_as what)) c) (says ++ what ∷ [])
counted-kept text c says what h = counted_by text (said_counts_as what) c says what (added_as text says what) h

pub nothing-in : (text : TextForm) → counted_in text kinds.Nothing ≡ kinds.Nothing
nothing-in text_forms.Source = refl
nothing-in text_forms.Rewritten = refl

-- a line that counts as nothing, outside the functions
pub counted-dropped : (text : TextForm) (c : Counts) (says : List Said) (what : Said) → said_counts_as what ≡ kinds.Nothing → c.relocates ≡ 0 → IsCounted text c says → IsCounted text c (says ++ what ∷ [])
counted-dropped text c says what nothing none h =
    let is : counted (counted_in text (said_counts_as what)) c ≡ c = rw (nothing, nothing-in text) (ap (λ (n : ℕ). record c { relocates = n }) (sym none)) in
    rw (← is) (counted-kept text c says what h)

-- before the first line
pub counted-none : (text : TextForm) (c : Counts) → c.layouts ≡ 0 → c.functions ≡ 0 → c.values ≡ 0 → c.instructions ≡ 0 → c.relocates ≡ 0 → IsCounted text c []
unfolding last_function
counted-none text_forms.Source c layouts functions values instructions relocates =
    record { layouts = layouts; functions = functions; values = values; instructions = instructions; relocates = relocates }
counted-none text_forms.Rewritten c layouts functions values instructions relocates =
    record { layouts = layouts; functions = functions; values = values; instructions = instructions; relocates = relocates }
