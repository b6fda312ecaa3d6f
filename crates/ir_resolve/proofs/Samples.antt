-- For each code a text that has it, computed; and what resolves of a cast and of unknown names.
use Rattle.std.proofs.Common.{◌≡◌, ℕ, ◌+◌, Bool, true, false, ◌||◌, List, [], ◌∷◌, ◌++◌, map, refl, ap, sym, subst, arith, ◌∙◌}
use Rattle.std.specs.Prelude.{Some, None, Option, slice_get, codes}
use Rattle.std.specs.List.{Contains, list_any}
use Rattle.std.specs.Str.{bytes_eq}
use Rattle.std.proofs.lemmas.Option.{same_Some}
use Rattle.sp_ids.specs.declared.ids.ValueId.{ValueId}
use Rattle.ir_lines.proofs.PlaceLemmas.{bytes_eq-self}
use Rattle.list_laws.proofs.Contents.{contains_get, contains_first, contains_none, contains_cons}
use Rattle.ir_ast.specs.declared.modules.Form.TheVariants.{Source, Rewritten}
use Rattle.ir_ast.specs.declared.types.Ty.TheVariants as tys
use Rattle.ir_ast.specs.declared.ops.Operand.TheVariants as operands
use Rattle.ir_ast.specs.declared.ops.Pred.TheVariants.{Ult}
use Rattle.ir_ast.specs.Insts.{Instruction}
use Rattle.ir_ast.specs.Funcs.{Function, instructions_of}
use Rattle.ir_ast.specs.Values.{value_types}
use Rattle.ir_ast.specs.Derived.{by_step}
use Rattle.ir_ast.specs.Faults.GroupShape.{Group, entries_of}
use Rattle.line_tokens.specs.declared.literals.Literal.{Literal}
use Rattle.line_tokens.specs.declared.words.Binary.TheVariants.{Add}
use Rattle.line_tokens.specs.declared.words.Cast.TheVariants.{PtrToInt}
use Rattle.line_parts.specs.Types as types
use Rattle.line_parts.specs.Parts.{Val}
use Rattle.line_parts.specs.Parts as values
use Rattle.line_parts.specs.Lists.{given}
use Rattle.ir_lines.specs.Statements.{Statement, Line, layout, declare, define, close, label, binary, compare, phi, scalar_step, store, call, calling, jump, switch, switch_case, switch_end, ret, cast, statepoint, gc_result, gc_relocate}
use Rattle.ir_lines.specs.Sections.{Definition, Naming, definitions_of, layouts_of, cases_of}
use Rattle.ir_lines.specs.Scope.{Scope, scope_of}
use Rattle.ir_lines.specs.InBody.{InBody, InText}
use Rattle.ir_lines.specs.Externals.{External, external, externals_of}
use Rattle.ir_lines.specs.Faults.NameTwice.{value_again}
use Rattle.ir_lines.specs.Faults.UnknownName.{names_unknown}
use Rattle.ir_lines.specs.Faults.NoStrategy.{lacks_strategy}
use Rattle.ir_lines.specs.Faults.BadLayout.{is_bad_layout}
use Rattle.ir_lines.specs.Faults.Reserved.{names_value}
use Rattle.ir_lines.specs.Faults.PointerCast.{is_cast}
use Rattle.ir_resolve.specs.Resolved.{Resolved, resolved}
use Rattle.ir_resolve.specs.TextFaults.{HasTextFault, misspells, miscounts, name_twice, unknown_name, misspelled, case_width, no_strategy, unknown_extern, bad_layout, reserved, pointer_cast, miscounted}
use Rattle.ir_resolve.specs.ModuleFaults.{Stands, HasModuleFault, type_clash, case_again, entry_has_pred, phi_edges, derived_escapes, no_main, pointer_order, group_shape}
use Rattle.ir_resolve.proofs.Mains.{main_resolved}

-- ---- texts

abbrev numbered : ℕ → List Statement → List Line
numbered n [] = []
numbered n (s ∷ ss) = record { number = n; says = s } ∷ numbered (n + 1) ss

-- a text whose only function is `@main`, with these lines from line 3 on
abbrev text_of : List Statement → List Line
text_of body =
    numbered 1 (define (types.Int 64) (codes "main") [] (Some (codes "statepoint-example")) ∷ label (codes "entry") ∷ body ++ close ∷ [])

abbrev plain : ℕ → Literal
plain magnitude = record { negative = false; magnitude = magnitude }

abbrev number : ℕ → Val
number magnitude = values.number (plain magnitude)

abbrev named : List ℕ → Val
named name = values.local name

abbrev end : Statement
end = ret (types.Int 64) (number 0)

-- ---- faults of a text

in_body : (text : List Line) (test : Scope → Statement → Bool) (func : Definition) (place : ℕ) (l : Line) → slice_get (definitions_of text) 0 ≡ Some func
    → slice_get func.body place ≡ Some l → test (scope_of text func) l.says ≡ true → InBody text l.number test
in_body text test func place l defined inside faulty = record {
  func = func;
  defined = contains_get (definitions_of text) 0 func defined;
  found = l;
  inside = contains_get func.body place l inside;
  number = refl;
  faulty = faulty;
}

in_text : (text : List Line) (test : Statement → Bool) (place : ℕ) (l : Line) → slice_get text place ≡ Some l → test l.says ≡ true → InText text l.number test
in_text text test place l inside faulty = record { found = l; inside = contains_get text place l inside; number = refl; faulty = faulty }

abbrev stood : (text : Resolved) (func : Function) → slice_get text.whole.content.funcs 0 ≡ Some func → (place : ℕ) (inst : Instruction)
    → slice_get (instructions_of func.blocks) place ≡ Some inst → Stands text
stood text func defined place inst stands =
    record { number = 0; func = func; is_function = defined; place = place; inst = inst; is_instruction = stands }

-- two values `%x`
abbrev twice : List Line
twice = text_of (binary (codes "x") Add 64 (number 1) (number 2) ∷ binary (codes "x") Add 64 (number 1) (number 2) ∷ end ∷ [])

has_3 : HasTextFault Source twice 4 3
has_3 = name_twice (value_again _ (contains_get (definitions_of twice) 0 _ refl) (record {
  before = (3, codes "x") ∷ [];
  what = codes "x";
  after = [];
  whole = refl;
  again = contains_first (codes "x") [];
}))

-- a jump to a label that there isn't
abbrev unknown : List Line
unknown = text_of (jump (codes "u") ∷ [])

has_4 : HasTextFault Source unknown 3 4
has_4 = unknown_name (in_body unknown names_unknown _ 1 _ refl refl refl)

-- 256 is no `i8`
abbrev outside : List Line
outside = text_of (binary (codes "x") Add 8 (number 256) (number 1) ∷ end ∷ [])

has_5 : HasTextFault Source outside 3 5
has_5 = misspelled (in_body outside (misspells Source) _ 1 _ refl refl refl)

-- a case of `i8` in a `switch` of `i64`, and behind it one that repeats its value
abbrev behind_switch : List Statement
behind_switch =
    switch_case 8 (number 7) (codes "out")
    ∷ switch_case 64 (number 7) (codes "entry")
    ∷ switch_end
    ∷ label (codes "out")
    ∷ end
    ∷ []

abbrev cases : List Line
cases = text_of (switch 64 (number 1) (codes "out") ∷ behind_switch)

has_5_by_width : HasTextFault Source cases 4 5
has_5_by_width = case_width (record {
  func = _;
  defined = contains_get (definitions_of cases) 0 _ refl;
  before = record { number = 2; says = label (codes "entry") } ∷ [];
  number = 3;
  width = 64;
  value = number 1;
  default = codes "out";
  behind = numbered 4 behind_switch;
  whole = refl;
  other = 8;
  case = number 7;
  to = codes "out";
  is_case = contains_get (cases_of (numbered 4 behind_switch)) 0 _ refl;
  differs = λ same. omega arith;
})

-- a definition without a strategy
abbrev without : List Line
without = numbered 1 (define (types.Int 64) (codes "main") [] None ∷ end ∷ close ∷ [])

has_10 : HasTextFault Source without 1 10
has_10 = no_strategy (in_text without lacks_strategy 0 _ refl refl)

not_among : (all : List External) (one : External) → list_any (λ other. bytes_eq other.name one.name) all ≡ false → ¬ Contains all one
not_among [] one none within = contains_none one within
not_among (e ∷ es) one none within = by (bytes_eq e.name one.name) refl none (not_among es one) (contains_cons e one es within)
  where
    by : (b : Bool) → bytes_eq e.name one.name ≡ b → (b || list_any (λ other. bytes_eq other.name one.name) es) ≡ false
        → (list_any (λ other. bytes_eq other.name one.name) es ≡ false → ¬ Contains es one)
        → Rattle.std.specs.Prelude.◌⊎◌ (e ≡ one) (Contains es one) → ⊥
    by true is f ih c = let bad : true ≡ false = f in cc
    by false is f ih (Rattle.std.proofs.Common.inl same) =
        let bad : true ≡ false = sym (bytes_eq-self one.name) ∙ sym (ap (λ (x : External). bytes_eq x.name one.name) same) ∙ is in cc
    by false is f ih (Rattle.std.proofs.Common.inr c) = ih f c

-- a declaration that is no external
abbrev declares : List Line
declares = numbered 1 (declare types.Void (codes "g") [] ∷ [])

has_12 : HasTextFault Source declares 1 12
has_12 = unknown_extern (record {
  answer = types.Void;
  name = codes "g";
  parameters = [];
  stands = contains_first _ [];
  unknown = not_among (externals_of (map (λ one. one.name) (layouts_of declares))) (external (codes "g") types.Void []) refl;
})

-- a layout without fields
abbrev empty : List Line
empty = numbered 1 (layout (codes "T") [] ∷ [])

has_13 : HasTextFault Source empty 1 13
has_13 = bad_layout (in_text empty is_bad_layout 0 _ refl refl)

-- a value named as one that the rewriting inserts
abbrev inserted : List Line
inserted = text_of (binary (codes "sp.x") Add 64 (number 1) (number 2) ∷ end ∷ [])

has_14 : HasTextFault Source inserted 3 14
has_14 =
    let one : Naming = record { line = 3; name = codes "sp.x"; ty = types.Int 64 } in
    reserved (names_value refl _ one (contains_get (definitions_of inserted) 0 _ refl) (contains_first one []) refl (codes "x", refl))

-- a cast between two values
abbrev casts : List Line
casts = text_of (
    cast (codes "c") PtrToInt types.Managed values.null (types.Int 64)
    ∷ binary (codes "x") Add 64 (named (codes "c")) (number 1)
    ∷ ret (types.Int 64) (named (codes "x"))
    ∷ []
    )

has_16 : HasTextFault Source casts 3 16
has_16 = pointer_cast (in_body casts (λ scope. is_cast) _ 1 _ refl refl refl)

-- the result of the cast keeps its number and its type, so that no line beside it clashes
casts_keep_types : map value_types (resolved Source casts).whole.content.funcs ≡ (tys.Int 64 ∷ tys.Int 64 ∷ []) ∷ []
casts_keep_types = refl

-- nor does a line before it, which names a value behind the cast
abbrev shifted : List Line
shifted = text_of (
    jump (codes "b")
    ∷ label (codes "a")
    ∷ binary (codes "y") Add 64 (named (codes "z")) (number 1)
    ∷ ret (types.Int 64) (named (codes "y"))
    ∷ label (codes "b")
    ∷ cast (codes "c") PtrToInt types.Managed values.null (types.Int 64)
    ∷ scalar_step (codes "p") (types.Int 64) values.null 64 (number 1)
    ∷ binary (codes "z") Add 64 (number 1) (number 2)
    ∷ jump (codes "a")
    ∷ []
    )

shifts_nothing : map value_types (resolved Source shifted).whole.content.funcs ≡ (tys.Int 64 ∷ tys.Int 64 ∷ tys.Ptr ∷ tys.Int 64 ∷ []) ∷ []
shifts_nothing = refl

-- a call is judged by its declaration, which is wrong and stands behind it
abbrev declared_behind : List Line
declared_behind =
    text_of (call None (calling types.Void (codes "print_i64") (given (types.Int 64) (number 5) ∷ []) []) ∷ end ∷ [])
    ++ numbered 6 (declare types.Void (codes "print_i64") (record { ty = types.Int 32; name = None } ∷ []) ∷ [])

has_5_by_call : HasTextFault Source declared_behind 3 5
has_5_by_call = misspelled (in_body declared_behind (misspells Source) _ 1 _ refl refl refl)

-- a statepoint that says that it has an argument, and one of whose results stands before it
abbrev grouped : List Line
grouped = text_of (
    gc_result (codes "x") (types.Int 64) (codes "t")
    ∷ statepoint (codes "t") (record {
      id = plain 0;
      signature = record { answer = types.Int 64; parameters = [] };
      callee = codes "main";
      count = plain 1;
      passed = [];
      kept = [];
    }) []
    ∷ end
    ∷ []
    )

has_18 : HasTextFault Rewritten grouped 4 18
has_18 = miscounted refl (in_body grouped miscounts _ 2 _ refl refl refl)

-- ---- faults of a module

-- a pointer where an `i64` is asked
abbrev clashing : List Line
clashing = text_of (scalar_step (codes "p") (types.Int 64) values.null 64 (number 1) ∷ binary (codes "x") Add 64 (named (codes "p")) (number 1) ∷ end ∷ [])

breaks_5 : HasModuleFault (resolved Source clashing) 4 5
breaks_5 = type_clash (record {
  at = stood (resolved Source clashing) _ refl 1 _ refl;
  its = refl;
  breaks = λ typed. (let bad : Some tys.Ptr ≡ Some (tys.Int 64) = typed.operands.0 in cc);
})

breaks_5_by_case : HasModuleFault (resolved Source cases) 5 5
breaks_5_by_case = case_again (record {
  at = stood (resolved Source cases) _ refl 0 _ refl;
  switch = refl;
  earlier = 1;
  later = 2;
  behind_tested = omega arith;
  in_order = omega arith;
  value = _;
  is_earlier = refl;
  is_later = refl;
  its = refl;
})

-- a case has its own line
breaks_6 : HasModuleFault (resolved Source cases) 5 6
breaks_6 = entry_has_pred (record {
  at = stood (resolved Source cases) _ refl 0 _ refl;
  ends = refl;
  part = 2;
  label = _;
  is_label = refl;
  first = refl;
  its = refl;
})

-- a phi that lacks the entry of its own block
abbrev merging : List Line
merging = text_of (
    jump (codes "a")
    ∷ label (codes "a")
    ∷ phi (codes "x") (types.Int 64) ((number 7, codes "entry") ∷ [])
    ∷ jump (codes "a")
    ∷ []
    )

breaks_7 : HasModuleFault (resolved Source merging) 5 7
breaks_7 = phi_edges (record {
  number = 0;
  func = _;
  is_function = refl;
  at = 1;
  block = _;
  is_block = refl;
  before = [];
  phi = _;
  after = _;
  whole = refl;
  merges = refl;
  its = refl;
  wrong = λ right. (let bad : 0 ≡ 1 = right.counted 1 in omega arith);
})

-- a stored address of a field
abbrev escaping : List Line
escaping = text_of (scalar_step (codes "p") (types.Int 64) values.null 64 (number 1) ∷ store types.Managed (named (codes "p")) values.null ∷ end ∷ [])

breaks_9 : HasModuleFault (resolved Source escaping) 4 9
breaks_9 = derived_escapes refl (record {
  at = stood (resolved Source escaping) _ refl 1 _ refl;
  its = refl;
  breaks = λ keeps. keeps 0 0 (omega arith) (by_step 0 _ refl refl);
})

breaks_11 : HasModuleFault (resolved Source declares) 0 11
breaks_11 = no_main refl (main_resolved Source declares 0 (record { at_no_line = refl; lacks = refl }))

-- pointers in an order
abbrev ordering : List Line
ordering = text_of (compare (codes "c") Ult types.Managed values.null values.null ∷ end ∷ [])

breaks_15 : HasModuleFault (resolved Source ordering) 3 15
breaks_15 = pointer_order (record {
  at = stood (resolved Source ordering) _ refl 0 _ refl;
  its = refl;
  breaks = λ none. (let bad : true ≡ false = none in cc);
})

breaks_18 : HasModuleFault (resolved Rewritten grouped) 3 18
breaks_18 = group_shape refl (record {
  at = stood (resolved Rewritten grouped) _ refl 0 _ refl;
  its = refl;
  breaks = λ shape. before_all shape.group.head shape.group.before;
})
  where
    before_all : (head : ℕ) → Rattle.std.specs.Prelude.◌<◌ head 0 → ⊥
    before_all head less = omega arith

-- `null` isn't relocated
abbrev moving : List Line
moving = text_of (
    statepoint (codes "t") (record {
      id = plain 0;
      signature = record { answer = types.Void; parameters = [] };
      callee = codes "main";
      count = plain 0;
      passed = [];
      kept = [];
    }) (values.null ∷ [])
    ∷ gc_relocate (codes "p") (codes "t") (plain 0) (plain 0)
    ∷ end
    ∷ []
    )

no_entry : (func : Function) (point : Instruction) → slice_get (instructions_of func.blocks) 0 ≡ Some point → slice_get (entries_of point) 0 ≡ Some operands.Null
    → (token : ℕ) (group : Group func token 1) (derived : ℕ) → 0 ≡ derived → (value : ValueId)
    → slice_get (entries_of group.statepoint) derived ≡ Some (operands.Value value) → ⊥
no_entry func point first null token group derived is value entry =
    let head : 0 ≡ group.head = (let below = group.before in omega arith) in
    let same : point ≡ group.statepoint = same_Some point group.statepoint (sym first ∙ ap (slice_get (instructions_of func.blocks)) head ∙ group.stands) in
    let bad : operands.Null ≡ operands.Value value = same_Some operands.Null (operands.Value value)
    (sym null ∙ ap (λ (inst : Instruction). slice_get (entries_of inst) 0) same ∙ ap (slice_get (entries_of group.statepoint)) is ∙ entry) in
    cc

breaks_18_by_null : HasModuleFault (resolved Rewritten moving) 4 18
breaks_18_by_null = group_shape refl (record {
  at = stood (resolved Rewritten moving) _ refl 1 _ refl;
  its = refl;
  breaks = λ shape. (let given : 0 ≡ shape.derived = (let os = shape.operands in cc) in
      no_entry _ _ refl refl shape.token.0 shape.group shape.derived given shape.derived_entry.0 shape.derived_entry.1);
})
