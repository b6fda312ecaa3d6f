-- A call of faultless lines calls what there is to call, by its types.
use Rattle.std.proofs.Common.{◌≡◌, ◌≢◌, ◌∙◌, ◌⊎◌, inl, inr, ℕ, suc, ◌<◌, ◌-◌, ◌^◌, Bool, true, false, cond, ◌&&◌, List, [], ◌∷◌, ◌++◌, map, length, min, refl, ap, sym, subst, arith}
use Rattle.std.specs.Prelude.{Option, Some, None, is_none, find, slice_get, option_map, filter_map, ⊤, codes}
use Rattle.std.specs.List.{All, AllByRecursion, AllZip, Contains, list_any, cons_option}
use Rattle.std.specs.Str.{bytes_eq}
use Rattle.std.proofs.lemmas.List.{length-map}
use Rattle.std.proofs.lemmas.List.Elements.{All-nil, All-cons, All-contains, All-from_recursion, recursion_from_All}
use Rattle.std.proofs.lemmas.Option.{slice_get-map, slice_get_within, same_Some}
use Rattle.std.proofs.lemmas.Slice.Eq.{bytes_eq-Decides}
use Rattle.ir_ast.specs.declared.types.Ty.{Ty}
use Rattle.ir_ast.specs.declared.types.Ty.TheVariants as tys
use Rattle.ir_ast.specs.declared.funcs.Arg.{Arg}
use Rattle.ir_ast.specs.declared.ops.Op.TheVariants as ops
use Rattle.ir_ast.specs.declared.ops.Operand.{Operand}
use Rattle.ir_ast.specs.declared.ops.Operand.TheVariants as operands
use Rattle.ir_ast.specs.declared.ops.Callee.{Callee}
use Rattle.ir_ast.specs.declared.ops.Callee.TheVariants as callees
use Rattle.ir_ast.specs.Callees.{is_helper}
use Rattle.ir_ast.specs.Insts.{Instruction}
use Rattle.ir_ast.specs.Funcs.{Function}
use Rattle.ir_ast.specs.Types.{is_first_class}
use Rattle.ir_ast.specs.Lines.{is_argument, Arguments}
use Rattle.ir_ast.specs.Operands.{is_value, functions_named as functions_in, layouts_named as layouts_in}
use Rattle.ir_ast.specs.Scope.{Signature, signature_of, called_in, scope_of as module_scope}
use Rattle.ir_ast.specs.Faults.TypeClash.{TakesOperands}
use Rattle.ir_ast.specs.declared.modules.Form.{Form}
use Rattle.ir_ast.specs.declared.modules.Form.TheVariants.{Source}
use Rattle.line_parts.specs.Types.{TypeWord}
use Rattle.line_parts.specs.Types.{Void, Int, Managed, Plain}
use Rattle.line_parts.specs.Parts.{Val}
use Rattle.line_parts.specs.Parts as values
use Rattle.line_parts.specs.Lists.{Named, Given, given, function}
use Rattle.ir_lines.specs.Statements.{Line}
use Rattle.ir_lines.specs.Sections.{Definition, types_of, definitions_of, arguments_named}
use Rattle.ir_lines.specs.Places.{place_in, number_of}
use Rattle.ir_lines.specs.Types.{same_type, same_types}
use Rattle.ir_lines.specs.Externals.{External, external}
use Rattle.ir_lines.specs.Modules.{Known, known_of, type_of, argument_of, operand_in, passed_operand, passed_type, given_type, callee_at, callee_of, instruction, function_of, module_of}
use Rattle.ir_resolve.specs.FaultSet.{HasNoResolvedFault}
use Rattle.ir_lines.specs.ReadLines.{IsReadLines, SaysRead, IsReadHead, IsReadArgument, IsValueType}
use Rattle.ir_lines.proofs.LawNames.{stands, contains_get, get_contained, contains_first, contains_later, contains_cons, same_by_name, position-cons}
use Rattle.module_laws.proofs.LawFacts.{same_type-is, same_types-is}
use Rattle.module_laws.proofs.LawHeads.{definitions-distinct, SaysOf, says-defined}
use Rattle.module_laws.proofs.LawLines.{InLaw, made, is_value_in}
use Rattle.list_laws.proofs.Booleans.{true_and_false}

-- ---- names that are found or not

found_at : {X : Type 0} (f : X → List ℕ) (xs : List X) (k : ℕ) (x : X) (name : List ℕ) → slice_get xs k ≡ Some x → f x ≡ name
    → is_none (find (λ y. bytes_eq name (f y)) xs) ≡ false
found_at f [] k x name at e = absurd (let bad : None ≡ Some x = at in cc)
found_at {X} f (y ∷ ys) k x name at e = by (bytes_eq name (f y)) refl k at (λ j f2. found_at f ys j x name f2 e)
  where
    by : (b : Bool) → bytes_eq name (f y) ≡ b → (j : ℕ) → slice_get (y ∷ ys) j ≡ Some x
        → ((j : ℕ) → slice_get ys j ≡ Some x → is_none (find (λ z. bytes_eq name (f z)) ys) ≡ false)
        → is_none (find (λ z. bytes_eq name (f z)) (y ∷ ys)) ≡ false
    by true is j at ih = ap (λ (b : Bool). is_none (cond b (Some y) (find (λ z. bytes_eq name (f z)) ys))) is
    by false is Rattle.std.specs.Prelude.zero at ih =
        let same : name ≡ f y = sym e ∙ ap f (sym (same_Some y x at)) in
        absurd (true_and_false (bytes_eq name (f y)) ((bytes_eq-Decides name (f y)).1 same) is)
    by false is (suc j) at ih = ap (λ (b : Bool). is_none (cond b (Some y) (find (λ z. bytes_eq name (f z)) ys))) is ∙ ih j at

pub found_by_name : {X : Type 0} (f : X → List ℕ) (xs : List X) (x : X) (name : List ℕ) → Contains xs x → f x ≡ name
    → is_none (find (λ y. bytes_eq name (f y)) xs) ≡ false
found_by_name f xs x name c e = let g = get_contained xs x c in found_at f xs g.0 x name g.1 e

pub unplaced : {X : Type 0} (f : X → List ℕ) (xs : List X) (name : List ℕ) → is_none (find (λ y. bytes_eq name (f y)) xs) ≡ true
    → place_in (map f xs) name ≡ None
unplaced f [] name e = refl
unplaced {X} f (y ∷ ys) name e = by (bytes_eq name (f y)) refl (unplaced f ys name)
  where
    by : (b : Bool) → bytes_eq name (f y) ≡ b → (is_none (find (λ z. bytes_eq name (f z)) ys) ≡ true → place_in (map f ys) name ≡ None)
        → place_in (map f (y ∷ ys)) name ≡ None
    by true is ih =
        absurd (true_and_false (is_none (find (λ z. bytes_eq name (f z)) (y ∷ ys))) e
        (ap (λ (b : Bool). is_none (cond b (Some y) (find (λ z. bytes_eq name (f z)) ys))) is))
    by false is ih =
        position-cons (bytes_eq name) (f y) (map f ys)
        ∙ ap (λ (b : Bool). cond b (Some 0) (option_map suc (place_in (map f ys) name))) is
        ∙ ap (option_map suc) (ih (sym (ap (λ (b : Bool). is_none (cond b (Some y) (find (λ z. bytes_eq name (f z)) ys))) is) ∙ e))

pub contains_mapped : {A B : Type 0} (f : A → B) (xs : List A) (y : B) → Contains (map f xs) y → (x : A) × Contains xs x × (f x ≡ y)
contains_mapped {A} {B} f xs y c = by (get_contained (map f xs) y c).0 (slice_get xs (get_contained (map f xs) y c).0) refl (get_contained (map f xs) y c).1
  where
    by : (k : ℕ) (o : Option A) → slice_get xs k ≡ o → slice_get (map f xs) k ≡ Some y → (x : A) × Contains xs x × (f x ≡ y)
    by k None none e = absurd (let bad : None ≡ Some y = sym (slice_get-map f xs k ∙ ap (option_map f) none) ∙ e in cc)
    by k (Some x) some e = (x, contains_get xs k x some, same_Some (f x) y (sym (slice_get-map f xs k ∙ ap (option_map f) some) ∙ e))

-- ---- a definition that is named

abbrev pub funcs_of : List Line → List Function
funcs_of lines = map (λ func. function_of (known_of lines func) func) (definitions_of lines)

params-are : (line : ℕ) (before more : List Named) → map (λ (arg : Arg). arg.ty) (map argument_of (arguments_named line before more)) ≡ map type_of (types_of more)
params-are line before [] = refl
params-are line before (one ∷ more) = ap (λ (ts : List Ty). type_of one.ty ∷ ts) (params-are line (before ++ one ∷ []) more)

abbrev pub names_defined : List Line → List (List ℕ)
names_defined lines = map (λ one. one.name) (definitions_of lines)

pub record Called (lines : List Line) (name : List ℕ) (d : Definition) : Type 0 where
  pub place : ℕ
  pub placed : place_in (names_defined lines) name ≡ Some place
  pub number : number_of (Some place) ≡ place
  pub below : place < length (definitions_of lines)
  pub signature : called_in (funcs_of lines) (callees.Fun (record { 0 = number_of (Some place) }))
      ≡ Some (record { answer = type_of d.answer; params = map type_of (types_of d.arguments) })

pub called : (form : Form) (lines : List Line) → IsReadLines form lines → HasNoResolvedFault form lines → (d : Definition) (name : List ℕ) → Contains (definitions_of lines) d → d.name ≡ name → Called lines name d
called form lines read none d name c e =
    let s = stands (λ (one : Definition). one.name) (definitions_of lines) name (found_by_name (λ (one : Definition). one.name) (definitions_of lines) d name c e) in
    let is : s.one ≡ d = same_by_name (λ (one : Definition). one.name) (definitions_of lines) s.one d (definitions-distinct form lines none)
    (contains_get (definitions_of lines) s.place s.one s.there) c (s.same ∙ sym e) in
    let within = slice_get_within (definitions_of lines) s.place s.one s.there in
    let few = read.few_functions in
    let number : number_of (Some s.place) ≡ s.place = (let m : min s.place (2 ^ 32 - 1) ≡ s.place = omega arith in m) in
    let F : Definition → Function = λ func. function_of (known_of lines func) func in
    record {
      place = s.place;
      placed = s.placed;
      number = number;
      below = within;
      signature = ap (λ (n : ℕ). option_map signature_of (slice_get (funcs_of lines) n)) number
          ∙ ap (option_map signature_of) (slice_get-map F (definitions_of lines) s.place ∙ ap (option_map F) (s.there ∙ ap Some is))
          ∙ ap (λ (ts : List Ty). let sig : Signature = record { answer = type_of d.answer; params = ts } in Some sig) (params-are d.line [] d.arguments);
    }

-- ---- what is passed

abbrev pub IsGiven : Given → Type 0
IsGiven (given ty value) = IsValueType ty
IsGiven (function name) = ⊥

pub given_from_types : (passed : List Given) → AllByRecursion IsValueType (map passed_type passed) → AllByRecursion IsGiven passed
given_from_types [] all = tt
given_from_types (given ty v ∷ passed) all = (all.0, given_from_types passed all.1)
given_from_types (function name ∷ passed) all = absurd all.0

pub types-given : (passed : List Given) → map given_type passed ≡ map type_of (map passed_type passed)
types-given [] = refl
types-given (one ∷ passed) = ap (λ (ts : List Ty). given_type one ∷ ts) (types-given passed)

pub argument-value : (callee : Callee) (op : Operand) (ty : Ty) → is_value op ≡ true → is_argument callee op ty ≡ is_first_class ty
argument-value callees.TaskStart (operands.Fun f) ty e = absurd (let bad : false ≡ true = e in cc)
argument-value callees.TaskStart op ty e = refl
argument-value callee (operands.Fun f) ty e = absurd (let bad : false ≡ true = e in cc)
argument-value callee op ty e = refl

pub first_class : (ty : TypeWord) → IsValueType ty → is_first_class (type_of ty) ≡ true
first_class (Int width) read = refl
first_class Managed read = refl
first_class Void read = absurd read
first_class Plain read = absurd read

pub args_fit : (known : Known) (callee : Callee) (passed : List Given) → AllByRecursion IsGiven passed
    → Arguments callee (map (passed_operand known) passed) (map given_type passed)
args_fit known callee [] all = tt
args_fit known callee (given ty v ∷ passed) all =
    (argument-value callee (operand_in known.values ty v) (type_of ty) (is_value_in known.values ty v) ∙ first_class ty all.0, args_fit known callee passed all.1)
args_fit known callee (function name ∷ passed) all = absurd all.0

-- a line over these operands that calls nothing
abbrev pub over : List Operand → Instruction
over operands = instruction None ops.Br tys.Void operands []

pub no_function : (P : ℕ → Type 0) (known : Known) (ty : TypeWord) (v : Val) (rest : List Operand) → AllByRecursion P (functions_in (over rest))
    → AllByRecursion P (functions_in (over (operand_in known.values ty v ∷ rest)))
no_function P known ty (values.local name) rest all = all
no_function P known ty (values.number literal) rest all = all
no_function P known ty (values.truth said) rest all = all
no_function P known ty values.null rest all = all

pub no_functions : (P : ℕ → Type 0) (known : Known) (passed : List Given) → AllByRecursion IsGiven passed
    → AllByRecursion P (functions_in (over (map (passed_operand known) passed)))
no_functions P known [] all = tt
no_functions P known (given ty v ∷ passed) all = no_function P known ty v (map (passed_operand known) passed) (no_functions P known passed all.1)
no_functions P known (function name ∷ passed) all = absurd all.0

-- ---- the call

abbrev pub call_made : Callee → TypeWord → List Given → Known → Instruction
call_made callee answer passed known =
    instruction None (ops.Call callee (map given_type passed)) (type_of answer) (map (passed_operand known) passed) []

pub record IsGoodCall (form : Form) (lines : List Line) (func : Definition) (name : List ℕ) (answer : TypeWord) (passed : List Given) : Type 0 where
  pub callee : Callee
  pub is : callee_of (known_of lines func) name ≡ callee
  pub signature : called_in (funcs_of lines) callee ≡ Some (record { answer = type_of answer; params = map given_type passed })
  pub takes : TakesOperands (module_scope (module_of form lines).content (made lines func)) callee (map (passed_operand (known_of lines func)) passed)
  pub helper : form ≡ Source → is_helper callee ≡ false
  pub arguments : Arguments callee (map (passed_operand (known_of lines func)) passed) (map given_type passed)
  pub layouts : All (λ layout. layout < length (module_of form lines).content.layouts) (layouts_in (call_made callee answer passed (known_of lines func)))
  pub functions : All (λ named. named < length (funcs_of lines)) (functions_in (call_made callee answer passed (known_of lines func)))

-- by what a head says of the call
pub signed : (an answer : TypeWord) (ps : List TypeWord) (passed : List Given) → answer ≡ an → map passed_type passed ≡ ps
    → (let sig : Signature = record { answer = type_of an; params = map type_of ps } in sig) ≡ record { answer = type_of answer; params = map given_type passed }
signed an answer ps passed e f =
    ap (λ (t : TypeWord). let sig : Signature = record { answer = type_of t; params = map type_of ps } in sig) (sym e)
    ∙ ap (λ (ts : List TypeWord). let sig : Signature = record { answer = type_of answer; params = map type_of ts } in sig) (sym f)
    ∙ ap (λ (ts : List Ty). let sig : Signature = record { answer = type_of answer; params = ts } in sig) (sym (types-given passed))

types_read : (arguments : List Named) → AllByRecursion IsReadArgument arguments → AllByRecursion IsValueType (types_of arguments)
types_read [] all = tt
types_read (one ∷ more) all = (all.0.0, types_read more all.1)

pub head_read : (form : Form) (lines : List Line) → IsReadLines form lines → (d : Definition) → Contains (definitions_of lines) d → IsReadHead d.answer d.name d.arguments
head_read form lines read d c = (All-contains (SaysOf SaysRead) (definitions_of lines) d (says-defined SaysRead lines read.says) c).head

pub calls_definition : (form : Form) (lines : List Line) (func : Definition) → InLaw form lines func → (name : List ℕ) (answer : TypeWord) (passed : List Given)
    (d : Definition) → Contains (definitions_of lines) d → d.name ≡ name → answer ≡ d.answer → map passed_type passed ≡ types_of d.arguments
    → IsGoodCall form lines func name answer passed
calls_definition form lines func law name answer passed d c e same_answer same_params =
    let known = known_of lines func in
    let at = called form lines law.read law.none d name c e in
    let head = head_read form lines law.read d c in
    let value_types : AllByRecursion IsValueType (map passed_type passed) =
    subst (AllByRecursion IsValueType) (sym same_params) (types_read d.arguments (recursion_from_All IsReadArgument d.arguments head.each)) in
    let all_given = given_from_types passed value_types in
    let within : number_of (Some at.place) < length (funcs_of lines) =
    (let b = at.below in let n = at.number in omega (arith, length-map (definitions_of lines) (λ (one : Definition). function_of (known_of lines one) one))) in
    record {
      callee = callees.Fun (record { 0 = number_of (Some at.place) });
      is = ap (callee_at known name) at.placed;
      signature = at.signature ∙ ap Some (signed d.answer answer (types_of d.arguments) passed same_answer same_params);
      takes = tt;
      helper = λ is. refl;
      arguments = args_fit known (callees.Fun (record { 0 = number_of (Some at.place) })) passed all_given;
      layouts = All-nil (λ layout. layout < length (module_of form lines).content.layouts);
      functions = All-cons (λ named. named < length (funcs_of lines)) (number_of (Some at.place)) (functions_in (over (map (passed_operand known) passed))) within
          (All-from_recursion (λ named. named < length (funcs_of lines)) (functions_in (over (map (passed_operand known) passed)))
          (no_functions (λ named. named < length (funcs_of lines)) known passed all_given));
    }

-- ---- externals

same_type-refl : (a : TypeWord) → same_type a a ≡ true
same_type-refl Void = refl
same_type-refl (Int width) = (Rattle.std.proofs.lemmas.Bool.Decides.Decides-eqb width width).1 refl
same_type-refl Managed = refl
same_type-refl Plain = refl

same_types-refl : (xs : List TypeWord) → same_types xs xs ≡ true
same_types-refl [] = refl
same_types-refl (x ∷ xs) = ap (λ (b : Bool). b && same_types xs xs) (same_type-refl x) ∙ same_types-refl xs

same_external : (a b : External) → (a ≡ b) ⊎ (a ≢ b)
same_external a b = by (bytes_eq a.name b.name) refl (same_type a.answer b.answer) refl (same_types a.parameters b.parameters) refl
  where
    by : (x : Bool) → bytes_eq a.name b.name ≡ x → (y : Bool) → same_type a.answer b.answer ≡ y → (z : Bool) → same_types a.parameters b.parameters ≡ z
        → (a ≡ b) ⊎ (a ≢ b)
    by true e true f true g =
        let n : a.name ≡ b.name = (bytes_eq-Decides a.name b.name).0 e in
        let t : a.answer ≡ b.answer = same_type-is a.answer b.answer f in
        let p : a.parameters ≡ b.parameters = same_types-is a.parameters b.parameters g in
        inl (ap (λ (x : List ℕ). external x a.answer a.parameters) n ∙ ap (λ (x : TypeWord). external b.name x a.parameters) t
        ∙ ap (λ (x : List TypeWord). external b.name b.answer x) p)
    by false e y f z g = inr (λ same. true_and_false (bytes_eq a.name b.name) ((bytes_eq-Decides a.name b.name).1 (ap (λ (x : External). x.name) same)) e)
    by true e false f z g = inr (λ same. true_and_false (same_type a.answer b.answer)
        (sym (ap (λ (x : External). same_type a.answer x.answer) same) ∙ same_type-refl a.answer) f)
    by true e true f false g = inr (λ same. true_and_false (same_types a.parameters b.parameters)
        (sym (ap (λ (x : External). same_types a.parameters x.parameters) same) ∙ same_types-refl a.parameters) g)

pub contains_external : (xs : List External) (x : External) → Contains xs x ⊎ (¬ (Contains xs x))
contains_external [] x = inr (λ c. let g = get_contained [] x c in let bad : None ≡ Some x = g.1 in cc)
contains_external (y ∷ ys) x = by (same_external y x) (contains_external ys x)
  where
    neither : (y ≡ x) ⊎ Contains ys x → y ≢ x → (¬ (Contains ys x)) → ⊥
    neither (inl e) f g = f e
    neither (inr c) f g = g c

    by : (y ≡ x) ⊎ (y ≢ x) → Contains ys x ⊎ (¬ (Contains ys x)) → Contains (y ∷ ys) x ⊎ (¬ (Contains (y ∷ ys) x))
    by (inl e) later = inl (subst (λ (z : External). Contains (y ∷ ys) z) e (contains_first y ys))
    by (inr f) (inl c) = inl (contains_later y x ys c)
    by (inr f) (inr g) = inr (λ c. neither (contains_cons y x ys c) f g)
