-- The relocates of a token stand in one row, so they are few.
use Rattle.std.proofs.Common.{◌≡◌, ◌∙◌, ◌⊎◌, inl, inr, ℕ, suc, ◌<◌, ◌≤◌, ◌+◌, ◌^◌, Bool, true, false, cond, ◌&&◌, ◌==◌, List, [], ◌∷◌, ◌++◌, map, length, refl, ap, sym, subst, arith, append_assoc, length-append}
use Rattle.std.specs.Prelude.{Option, Some, None, IfSome, is_none, slice_get, filter, count_by, take_while}
use Rattle.std.specs.List.{All, Contains, list_all}
use Rattle.std.proofs.lemmas.List.{length-map, map-append}
use Rattle.std.proofs.lemmas.Grind.{flat_map-append}
use Rattle.std.proofs.lemmas.List.Elements.{filter-append, All-contains}
use Rattle.std.proofs.lemmas.List.Folds.{list_all-append}
use Rattle.std.proofs.lemmas.List.Sums.{sum_by-cons, take_while-cons}
use Rattle.std.proofs.lemmas.Option.{same_Some}
use Rattle.std.proofs.lemmas.Bool.Decides.{Decides-eqb}
use Rattle.list_laws.proofs.Contents.{get_contained, all_at, first_same}
use Rattle.list_laws.proofs.Places.{get_map, get_middle}
use Rattle.ir_ast.specs.declared.modules.Form.TheVariants.{Rewritten}
use Rattle.ir_ast.specs.declared.ops.Op.{Op}
use Rattle.ir_ast.specs.declared.ops.Op.TheVariants as ops
use Rattle.ir_ast.specs.declared.ops.Operand.TheVariants as operands
use Rattle.ir_ast.specs.Insts.{Instruction}
use Rattle.ir_ast.specs.Funcs.{instructions_of}
use Rattle.ir_ast.specs.Faults.GroupShape.{Group as ModuleGroup, is_statepoint, is_part as is_part_made, entries_of, number_at, ResultInShape, RelocateInShape, ShapeOf}
use Rattle.ir_cfg.specs.Statepoints.{is_relocate as is_relocate_op, relocates_of, StatepointsAreSmall, IdIsWord}
use Rattle.line_tokens.specs.declared.literals.Literal.{Literal}
use Rattle.ir_lines.specs.Statements.{Guarded, Line, Statement, statepoint, gc_result, gc_relocate}
use Rattle.line_parts.specs.Types.{TypeWord}
use Rattle.line_parts.specs.Parts.{Val}
use Rattle.ir_lines.specs.Parts.{gives, token_type, live_use}
use Rattle.ir_lines.specs.Sections.{Definition, Naming, definitions_of, arguments_named, result_named, values_before, values_of}
use Rattle.ir_lines.specs.Scope.{scope_of, value_named}
use Rattle.ir_lines.specs.Places.{number_in}
use Rattle.ir_lines.specs.Modules.{Known, known_of, wrapped, function_of, instruction_said, insts_of, used_operand}
use Rattle.ir_lines.specs.ReadLines.{SaysRead, is_relocate, relocates_first}
use Rattle.ir_lines.specs.Faults.GroupShape.{Group, is_part}
use Rattle.ir_lines.proofs.LawNames.{stands, number-is, contains_middle}
use Rattle.ir_resolve.specs.Resolved.{resolved}
use Rattle.ir_resolve.specs.FaultSet.{of_module}
use Rattle.ir_resolve.proofs.Values.{made_of, token_numbered}
use Rattle.ir_resolve.proofs.Fronts.{said_at, insts, front, insts-cons as insts_cons, insts_split, insts_said as insts_told}
use Rattle.ir_resolve.proofs.Groups.{are_parts, point, GroupSaid, group_said}
use Rattle.ir_resolve.proofs.Standing.{BodyStands}
use Rattle.ir_resolve.proofs.Unbroken.{unbroken_shapes}
use Rattle.module_laws.proofs.LawFacts.{or-left}
use Rattle.module_laws.proofs.LawBodies.{insts_said, insts-cons, body_insts, func_insts}
use Rattle.module_laws.proofs.LawValues.{given_by}
use Rattle.module_laws.proofs.LawLines.{InLaw, LineFacts, line_facts, made, read_function, said_function, few_numbers, wrapped_below}
use Rattle.module_laws.proofs.LawFunctions.{if_some}
use Rattle.module_laws.proofs.LawGroups.{live_made, dropped_first, is_group_op, group_said as plain_said}
use Rattle.list_laws.proofs.Booleans.{true_and_false, first_true, second_true}

-- ---- what passes a test stands in a row

abbrev rest_of : {A : Type 0} → List A → List A
rest_of [] = []
rest_of (x ∷ xs) = xs

count-cons : {A : Type 0} (p : A → Bool) (x : A) (xs : List A) → count_by p (x ∷ xs) ≡ cond (p x) 1 0 + count_by p xs
count-cons p x xs = sum_by-cons (λ y. cond (p y) 1 0) x xs

skipped : {A : Type 0} (p : A → Bool) (x : A) (xs : List A) → p x ≡ false → count_by p (x ∷ xs) ≡ count_by p xs
skipped p x xs e = let none : cond {A = ℕ} (p x) 1 0 ≡ 0 = ap (λ (b : Bool). cond b 1 0) e in omega (arith, count-cons p x xs, none)

none_counted : {A : Type 0} (p : A → Bool) (xs : List A) → ((mid : List A) (y : A) (more : List A) → xs ≡ mid ++ y ∷ more → p y ≡ true → ⊥) → count_by p xs ≡ 0
none_counted p [] h = refl
none_counted {A} p (x ∷ xs) h = by (p x) refl (none_counted p xs (λ mid y more e t. h (x ∷ mid) y more (ap (λ (zs : List A). x ∷ zs) e) t))
  where
    by : (b : Bool) → p x ≡ b → count_by p xs ≡ 0 → count_by p (x ∷ xs) ≡ 0
    by true e ih = absurd (h [] x xs refl e)
    by false e ih = skipped p x xs e ∙ ih

-- all that stands before what passes p passes r, and so does this
abbrev InRow : {A : Type 0} → (A → Bool) → (A → Bool) → List A → Type 0
InRow {A} p r xs = (mid : List A) (y : A) (more : List A) → xs ≡ mid ++ y ∷ more → p y ≡ true → (list_all r mid ≡ true) × (r y ≡ true)

in_row : {A : Type 0} (p r : A → Bool) (xs : List A) → InRow p r xs → count_by p xs ≤ length (take_while r xs)
in_row p r [] h = omega arith
in_row {A} p r (x ∷ xs) h = by (r x) refl (p x) refl (in_row p r xs (λ mid y more e t.
    let k = h (x ∷ mid) y more (ap (λ (zs : List A). x ∷ zs) e) t in (second_true (r x) (list_all r mid) k.0, k.1)))
  where
    fails : r x ≡ false → (mid : List A) (y : A) (more : List A) → x ∷ xs ≡ mid ++ y ∷ more → list_all r mid ≡ true → r y ≡ true → ⊥
    fails f [] y more e all t = true_and_false (r x) (ap r (first_same x y xs more e) ∙ t) f
    fails f (m ∷ ms) y more e all t =
        true_and_false (r x) (ap r (first_same x m xs (ms ++ y ∷ more) e) ∙ first_true (r m) (list_all r ms) all) f

    by : (a : Bool) → r x ≡ a → (b : Bool) → p x ≡ b → count_by p xs ≤ length (take_while r xs) → count_by p (x ∷ xs) ≤ length (take_while r (x ∷ xs))
    by true e b f ih =
        let taken : length (take_while r (x ∷ xs)) ≡ suc (length (take_while r xs)) =
        ap length (take_while-cons r x xs) ∙ ap (λ (c : Bool). length (cond c (x ∷ take_while r xs) [])) e in
        let one : cond b 1 0 ≤ 1 = at_most b in
        let counted : count_by p (x ∷ xs) ≡ cond b 1 0 + count_by p xs = count-cons p x xs ∙ ap (λ (c : Bool). cond c 1 0 + count_by p xs) f in
        omega (arith, taken, one, counted)
      where
        at_most : (c : Bool) → cond c 1 0 ≤ 1
        at_most true = omega arith
        at_most false = omega arith
    by false e b f ih =
        let nothing : count_by p (x ∷ xs) ≡ 0 = none_counted p (x ∷ xs) (λ mid y more g t. let k = h mid y more g t in fails e mid y more g k.0 k.1) in
        omega (arith, nothing)

-- nothing passes, or something is the first that does
record FirstOf {A : Type 0} (p : A → Bool) (xs : List A) : Type 0 where
  before : List A
  one : A
  after : List A
  whole : xs ≡ before ++ one ∷ after
  passes : p one ≡ true
  count : count_by p xs ≡ count_by p (one ∷ after)

first_of_all : {A : Type 0} (p : A → Bool) (xs : List A) → (count_by p xs ≡ 0) ⊎ FirstOf p xs
first_of_all p [] = inl refl
first_of_all {A} p (x ∷ xs) = by (p x) refl (first_of_all p xs)
  where
    by : (b : Bool) → p x ≡ b → (count_by p xs ≡ 0) ⊎ FirstOf p xs → (count_by p (x ∷ xs) ≡ 0) ⊎ FirstOf p (x ∷ xs)
    by true e ih = inr (record { before = []; one = x; after = xs; whole = refl; passes = e; count = refl })
    by false e (inl nothing) = inl (skipped p x xs e ∙ nothing)
    by false e (inr f) = inr (record {
      before = x ∷ f.before;
      one = f.one;
      after = f.after;
      whole = ap (λ (zs : List A). x ∷ zs) f.whole;
      passes = f.passes;
      count = skipped p x xs e ∙ f.count;
    })

-- ---- where a line stands in a split of the lines before another

data Sides {A : Type 0} (pre : List A) (x : A) (post earlier : List A) (y : A) (parts : List A) : Type 0 where
  in_earlier : (more : List A) → earlier ≡ pre ++ x ∷ more → Sides pre x post earlier y parts
  is_head : x ≡ y → Sides pre x post earlier y parts
  in_parts : (some : List A) → parts ≡ some ++ x ∷ post → Sides pre x post earlier y parts

sides : {A : Type 0} (pre : List A) (x : A) (post earlier : List A) (y : A) (parts : List A) → pre ++ x ∷ post ≡ earlier ++ y ∷ parts
    → Sides pre x post earlier y parts
sides [] x post [] y parts e = is_head (first_same x y post parts e)
sides {A} [] x post (z ∷ zs) y parts e =
    let same = first_same x z post (zs ++ y ∷ parts) e in
    in_earlier zs (ap (λ (w : A). w ∷ zs) (sym same))
sides (p ∷ ps) x post [] y parts e = in_parts ps (sym (ap rest_of e))
sides {A} (p ∷ ps) x post (z ∷ zs) y parts e = later (sides ps x post zs y parts (ap rest_of e))
  where
    later : Sides ps x post zs y parts → Sides (p ∷ ps) x post (z ∷ zs) y parts
    later (in_earlier more f) =
        in_earlier more (ap (λ (w : A). w ∷ zs) (sym (first_same p z (ps ++ x ∷ post) (zs ++ y ∷ parts) e)) ∙ ap (λ (ws : List A). p ∷ ws) f)
    later (is_head f) = is_head f
    later (in_parts some f) = in_parts some f

-- ---- relocates of one number

-- the value of this number is the token of the relocate
abbrev pub relocates : Known → ℕ → Statement → Bool
relocates known n (gc_relocate result token base derived) = number_in known.values token == n
relocates known n _ = false

abbrev relocates_line : Known → ℕ → Line → Bool
relocates_line known n l = relocates known n l.says

record IsRelocate (known : Known) (n : ℕ) (s : Statement) : Type 0 where
  result : List ℕ
  token : List ℕ
  base : Literal
  derived : Literal
  says : s ≡ gc_relocate result token base derived
  number : number_in known.values token ≡ n

relocate_is : (known : Known) (n : ℕ) (s : Statement) → relocates known n s ≡ true → IsRelocate known n s
relocate_is known n (gc_relocate result token base derived) e = record {
  result = result;
  token = token;
  base = base;
  derived = derived;
  says = refl;
  number = (Decides-eqb (number_in known.values token) n).0 e;
}
relocate_is known n _ e = absurd (let bad : false ≡ true = e in cc)

-- as many instructions as lines

no_relocate : (op : Op) → is_group_op op ≡ false → is_relocate_op op ≡ false
no_relocate ops.GcRelocate e = absurd (let bad : true ≡ false = e in cc)
no_relocate _ e = refl

counted_said : (n : ℕ) (o : Option Instruction) → IfSome o (λ inst. is_group_op inst.op ≡ false)
    → length (filter (λ inst. is_relocate_op inst.op && is_part_made n inst) (insts_said o)) ≡ 0
counted_said n None e = refl
counted_said n (Some inst) e =
    ap (λ (b : Bool). length (cond (b && is_part_made n inst) (inst ∷ []) [])) (no_relocate inst.op e)

one_or_none : {X : Type 0} (x : X) (b : Bool) → length (cond b (x ∷ []) []) ≡ cond b 1 0
one_or_none x true = refl
one_or_none x false = refl

one_counted : (known : Known) (n : ℕ) (behind : List Line) (s : Statement)
    → length (filter (λ inst. is_relocate_op inst.op && is_part_made n inst) (insts_said (instruction_said known behind s))) ≡ cond (relocates known n s) 1 0
one_counted known n behind (gc_relocate result token base derived) = one_or_none _ (number_in known.values token == n)
one_counted known n behind (statepoint result called live) = refl
one_counted known n behind (gc_result result ty token) = refl
one_counted known n behind s = counted_said n (instruction_said known behind s) (plain_said known behind s refl)

all_counted : (known : Known) (n : ℕ) (ls : List Line)
    → length (filter (λ inst. is_relocate_op inst.op && is_part_made n inst) (insts_of known ls)) ≡ count_by (relocates_line known n) ls
all_counted known n [] = refl
all_counted known n (l ∷ ls) =
    let test : Instruction → Bool = λ inst. is_relocate_op inst.op && is_part_made n inst in
    let here = insts_said (instruction_said known ls l.says) in
    ap (λ (is : List Instruction). length (filter test is)) (insts-cons known l ls)
    ∙ ap length (filter-append test here (insts_of known ls))
    ∙ length-append (filter test here) (filter test (insts_of known ls))
    ∙ ap (λ (k : ℕ). k + length (filter test (insts_of known ls))) (one_counted known n ls l.says)
    ∙ ap (λ (k : ℕ). cond (relocates known n l.says) 1 0 + k) (all_counted known n ls)
    ∙ sym (count-cons (relocates_line known n) l ls)

-- ---- the group of a part, which the module has

abbrev names_before : Definition → List Line → List (List ℕ)
names_before func ls = map (λ (one : Naming). one.name) (values_before func ls)

-- the token stands among the values of lines behind those of the lines before its statepoint
names-at : (func : Definition) (earlier : List Line) (number : ℕ) (token : List ℕ) (called : Guarded) (live : List Val) (more : List Line)
    → names_before func (earlier ++ point number token called live ∷ more) ≡ names_before func earlier ++ token ∷ map (λ (one : Naming). one.name) (given_by more)
names-at func earlier number token called live more =
    let args = arguments_named func.line [] func.arguments in
    let name : Naming → List ℕ = λ one. one.name in
    let r : Naming = record { line = number; name = token; ty = token_type } in
    let f : Line → List Naming = λ l. result_named l.number (gives l.says) in
    ap (λ (xs : List Naming). map name (args ++ xs)) (flat_map-append f earlier (point number token called live ∷ more))
    ∙ ap (map name) (sym (append_assoc args (given_by earlier) (r ∷ given_by more)))
    ∙ map-append name (args ++ given_by earlier) (r ∷ given_by more)

-- a function of a text without a fault, whose body goes on until it is closed
record InPlace (lines : List Line) (func : Definition) : Type 0 where
  law : InLaw Rewritten lines func
  stand : BodyStands func

-- the group of a token that has a name
group_lined : (lines : List Line) (func : Definition) → InPlace lines func → (before : List Line) (l : Line) (after : List Line) → func.body ≡ before ++ l ∷ after
    → (token : List ℕ) → is_none (value_named (scope_of lines func) token) ≡ false
    → (group : ModuleGroup (made_of lines func) (number_in (known_of lines func).values token) (length (front (known_of lines func) before (l ∷ after))))
    → GroupSaid lines func before (l ∷ after) token group
group_lined lines func text before l after whole token known group =
    let few : length (values_of func) < 2 ^ 32 = (let f = few_numbers Rewritten lines func text.law in omega arith) in
    group_said lines func few text.stand before (l ∷ after) whole token (token_numbered lines func few token known) group

-- the shape of a part's instruction
shaped : (lines : List Line) (func : Definition) → InPlace lines func → (before : List Line) (l : Line) (after : List Line) → func.body ≡ before ++ l ∷ after
    → (inst : Instruction) → said_at (known_of lines func) l after ≡ Some inst
    → ShapeOf (made_of lines func) (length (front (known_of lines func) before (l ∷ after))) inst inst.op
shaped lines func text before l after whole inst said =
    let known = known_of lines func in
    let all = insts_split lines func before (l ∷ after) whole in
    let d = get_contained (definitions_of lines) func text.law.defined in
    unbroken_shapes (resolved Rewritten lines) (λ line code fault. text.law.none line code (of_module fault)) d.0 (made_of lines func)
    (get_map (λ (one : Definition). function_of (known_of lines one) one) (definitions_of lines) d.0 func d.1) refl
    (length (front known before (l ∷ after))) inst
    (ap (λ (is : List Instruction). slice_get is (length (front known before (l ∷ after)))) all
    ∙ ap (λ (is : List Instruction). slice_get (front known before (l ∷ after) ++ is) (length (front known before (l ∷ after)))) (first_inst known l after inst said)
    ∙ get_middle (front known before (l ∷ after)) inst (insts known after))
  where
    first_inst : (known : Known) (l : Line) (after : List Line) (inst : Instruction) → said_at known l after ≡ Some inst → insts known (l ∷ after) ≡ inst ∷ insts known after
    first_inst known l after inst said = insts_cons known l after ∙ ap (λ (o : Option Instruction). insts_told o ++ insts known after) said

relocate_group : (lines : List Line) (func : Definition) → InPlace lines func → (before : List Line) (n : ℕ) (result token : List ℕ) (base derived : Literal) (after : List Line)
    → func.body ≡ before ++ (record { number = n; says = gc_relocate result token base derived }) ∷ after → is_none (value_named (scope_of lines func) token) ≡ false
    → Group func before token
relocate_group lines func text before n result token base derived after whole known =
    let l : Line = record { number = n; says = gc_relocate result token base derived } in
    let number = number_in (known_of lines func).values token in
    let shape : RelocateInShape (made_of lines func) (length (front (known_of lines func) before (l ∷ after))) _ = shaped lines func text before l after whole _ refl in
    let given : operands.Value (record { 0 = number }) ∷ operands.Int (wrapped 32 base) ∷ operands.Int (wrapped 32 derived) ∷ []
    ≡ operands.Value shape.token ∷ operands.Int shape.base ∷ operands.Int shape.derived ∷ [] = shape.operands in
    let at : shape.token.0 ≡ number = cc in
    (group_lined lines func text before l after whole token known
    (subst (λ (t : ℕ). ModuleGroup (made_of lines func) t (length (front (known_of lines func) before (l ∷ after)))) at shape.group)).lined

-- a result stands directly behind its statepoint
record ResultGroup (func : Definition) (before : List Line) (token : List ℕ) : Type 0 where
  group : Group func before token
  directly : group.parts ≡ []

result_group : (lines : List Line) (func : Definition) → InPlace lines func → (before : List Line) (n : ℕ) (result : List ℕ) (ty : TypeWord) (token : List ℕ) (after : List Line)
    → func.body ≡ before ++ (record { number = n; says = gc_result result ty token }) ∷ after → is_none (value_named (scope_of lines func) token) ≡ false
    → ResultGroup func before token
result_group lines func text before n result ty token after whole known =
    let l : Line = record { number = n; says = gc_result result ty token } in
    let number = number_in (known_of lines func).values token in
    let shape : ResultInShape (made_of lines func) (length (front (known_of lines func) before (l ∷ after))) _ = shaped lines func text before l after whole _ refl in
    let given : operands.Value (record { 0 = number }) ∷ [] ≡ operands.Value shape.token ∷ [] = shape.operands in
    let at : shape.token.0 ≡ number = cc in
    with_group l whole shape.token.0 at shape.group shape.directly
  where
    empty : (ls : List Line) → length ls ≡ 0 → ls ≡ []
    empty [] e = refl
    empty (x ∷ xs) e = absurd (omega arith)

    with_group : (l : Line) → func.body ≡ before ++ l ∷ after → (t : ℕ) → t ≡ number_in (known_of lines func).values token
        → (g : ModuleGroup (made_of lines func) t (length (front (known_of lines func) before (l ∷ after))))
        → g.head + 1 ≡ length (front (known_of lines func) before (l ∷ after)) → ResultGroup func before token
    with_group l split t at g directly =
        let P : (number : ℕ) → Type 0 = λ number. (h : ModuleGroup (made_of lines func) number (length (front (known_of lines func) before (l ∷ after))))
        × (h.head + 1 ≡ length (front (known_of lines func) before (l ∷ after))) in
        let moved : P (number_in (known_of lines func).values token) = subst P at (g, directly) in
        let said = group_lined lines func text before l after split token known moved.0 in
        let place = said.place_is in
        let next = moved.1 in
        record { group = said.lined; directly = empty said.lined.parts (omega arith) }

-- ---- in faultless lines

-- relocates of one number have one token
same_token : (lines : List Line) (func : Definition) → InPlace lines func → (a b : List ℕ)
    → is_none (value_named (scope_of lines func) a) ≡ false → is_none (value_named (scope_of lines func) b) ≡ false
    → number_in (known_of lines func).values a ≡ number_in (known_of lines func).values b → a ≡ b
same_token lines func text a b known_a known_b same =
    let name : Naming → List ℕ = λ one. one.name in
    let few : length (values_of func) < 2 ^ 32 = (let f = few_numbers Rewritten lines func text.law in omega arith) in
    let s = stands name (values_of func) a known_a in
    let t = stands name (values_of func) b known_b in
    let place : s.place ≡ t.place = sym (number-is name (values_of func) a s few) ∙ same ∙ number-is name (values_of func) b t few in
    let one : s.one ≡ t.one = same_Some s.one t.one (sym s.there ∙ ap (slice_get (values_of func)) place ∙ t.there) in
    sym s.same ∙ ap name one ∙ t.same

-- what is known of a relocate of the function
record Placed (lines : List Line) (func : Definition) (n : ℕ) (before : List Line) (l : Line) (after : List Line) : Type 0 where
  is : IsRelocate (known_of lines func) n l.says
  split : func.body ≡ before ++ (record { number = l.number; says = gc_relocate is.result is.token is.base is.derived }) ∷ after
  known : is_none (value_named (scope_of lines func) is.token) ≡ false
  group : Group func before is.token

placed : (lines : List Line) (func : Definition) → InPlace lines func → (n : ℕ) (before : List Line) (l : Line) (after : List Line)
    → func.body ≡ before ++ l ∷ after → relocates (known_of lines func) n l.says ≡ true → Placed lines func n before l after
placed lines func text n before l after whole e =
    let r = relocate_is (known_of lines func) n l.says e in
    let s = gc_relocate r.result r.token r.base r.derived in
    let split : func.body ≡ before ++ (record { number = l.number; says = s }) ∷ after =
    whole ∙ ap (λ (x : Statement). before ++ (let one : Line = record { number = l.number; says = x } in one) ∷ after) r.says in
    let facts = subst (LineFacts Rewritten (scope_of lines func)) r.says
    (line_facts Rewritten lines func text.law l (subst (λ (xs : List Line). Contains xs l) (sym whole) (contains_middle before l after))) in
    let known = or-left (is_none (value_named (scope_of lines func) r.token)) false facts.values in
    record {
      is = r;
      split = split;
      known = known;
      group = relocate_group lines func text before l.number r.result r.token r.base r.derived after split known;
    }

-- behind a relocate, all that ends with a group of its token has the relocate among its parts
within_parts : (lines : List Line) (func : Definition) → InPlace lines func → (n : ℕ) (pre : List Line) (x : Line) (rest : List Line)
    → (p : Placed lines func n pre x rest) → (post : List Line) (token : List ℕ) → p.is.token ≡ token → (g : Group func (pre ++ x ∷ post) token)
    → (some : List Line) × (g.parts ≡ some ++ x ∷ post)
within_parts lines func text n pre x rest p post token same g =
    by (sides pre x post g.earlier (point g.number token g.made g.live) g.parts g.whole)
  where
    h : Group func pre p.is.token
    h = p.group

    again : (more : List Line) → g.earlier ≡ pre ++ x ∷ more → Contains (names_before func g.earlier) token
    again more e =
        let sp = point h.number p.is.token h.made h.live in
        let whole : g.earlier ≡ h.earlier ++ sp ∷ (h.parts ++ x ∷ more) =
        e ∙ ap (λ (xs : List Line). xs ++ x ∷ more) h.whole ∙ append_assoc h.earlier (sp ∷ h.parts) (x ∷ more) in
        let names : names_before func g.earlier ≡ names_before func h.earlier ++ p.is.token ∷ map (λ (one : Naming). one.name) (given_by (h.parts ++ x ∷ more)) =
        ap (names_before func) whole ∙ names-at func h.earlier h.number p.is.token h.made h.live (h.parts ++ x ∷ more) in
        subst (λ (t : List ℕ). Contains (names_before func g.earlier) t) same
        (subst (λ (ns : List (List ℕ)). Contains ns p.is.token) (sym names)
        (contains_middle (names_before func h.earlier) p.is.token (map (λ (one : Naming). one.name) (given_by (h.parts ++ x ∷ more)))))

    by : Sides pre x post g.earlier (point g.number token g.made g.live) g.parts → (some : List Line) × (g.parts ≡ some ++ x ∷ post)
    by (in_earlier more e) = absurd (g.first (again more e))
    by (is_head e) =
        let bad : is_relocate (statepoint token g.made g.live) ≡ true =
        ap is_relocate (sym (ap (λ (l : Line). l.says) e) ∙ p.is.says) in
        absurd (let worse : false ≡ true = bad in cc)
    by (in_parts some e) = (some, e)

-- parts of a group of which none is a result are relocates
only_relocates : (token : List ℕ) (ls : List Line) → are_parts token ls ≡ true
    → ((mid : List Line) (m : ℕ) (result : List ℕ) (ty : TypeWord) (more : List Line)
    → ls ≡ mid ++ (record { number = m; says = gc_result result ty token }) ∷ more → ⊥)
    → list_all (λ (l : Line). is_relocate l.says) ls ≡ true
only_relocates token [] e h = refl
only_relocates token (l ∷ ls) e h =
    by l.number l.says (first_true (is_part token l.says) (are_parts token ls) e) (λ result ty is. h [] l.number result ty ls (ap (λ (x : Statement). (let one : Line = record { number = l.number; says = x } in one) ∷ ls) is))
    (only_relocates token ls (second_true (is_part token l.says) (are_parts token ls) e) (λ mid m result ty more f. h (l ∷ mid) m result ty more (ap (λ (xs : List Line). l ∷ xs) f)))
  where
    by : (k : ℕ) (s : Statement) → is_part token s ≡ true
        → ((result : List ℕ) (ty : TypeWord) → s ≡ gc_result result ty token → ⊥)
        → list_all (λ (one : Line). is_relocate one.says) ls ≡ true → (is_relocate s && list_all (λ (one : Line). is_relocate one.says) ls) ≡ true
    by k (gc_result result ty other) t not_result ih =
        absurd (not_result result ty (ap (λ (x : List ℕ). gc_result result ty x) (sym ((Rattle.std.proofs.lemmas.Slice.Eq.bytes_eq-Decides token other).0 t))))
    by k (gc_relocate result other base derived) t not_result ih = ih
    by k _ t not_result ih = absurd (let bad : false ≡ true = t in cc)

-- relocates of one number stand in a row
row : (lines : List Line) (func : Definition) → InPlace lines func → (n : ℕ) (pre : List Line) (x : Line) (rest : List Line) → func.body ≡ pre ++ x ∷ rest
    → relocates (known_of lines func) n x.says ≡ true
    → InRow (relocates_line (known_of lines func) n) (λ (l : Line). is_relocate l.says) (x ∷ rest)
row lines func text n pre x rest whole passes mid y more e t = (by mid e, relocate y.says t)
  where
    relocate : (s : Statement) → relocates (known_of lines func) n s ≡ true → is_relocate s ≡ true
    relocate s f = ap is_relocate (relocate_is (known_of lines func) n s f).says

    tail : (ms : List Line) → rest ≡ ms ++ y ∷ more → list_all (λ (l : Line). is_relocate l.says) ms ≡ true
    tail ms f =
        let p = placed lines func text n pre x rest whole passes in
        let all : func.body ≡ (pre ++ x ∷ ms) ++ y ∷ more =
        whole ∙ ap (λ (zs : List Line). pre ++ x ∷ zs) f ∙ sym (append_assoc pre (x ∷ ms) (y ∷ more)) in
        let q = placed lines func text n (pre ++ x ∷ ms) y more all t in
        let same : p.is.token ≡ q.is.token = same_token lines func text p.is.token q.is.token p.known q.known (p.is.number ∙ sym q.is.number) in
        let there = within_parts lines func text n pre x rest p ms q.is.token same q.group in
        let own : are_parts q.is.token (there.0 ++ x ∷ ms) ≡ true = ap (are_parts q.is.token) (sym there.1) ∙ q.group.own in
        let parts : (are_parts q.is.token there.0 && are_parts q.is.token (x ∷ ms)) ≡ true =
        sym (list_all-append (λ (l : Line). is_part q.is.token l.says) there.0 (x ∷ ms)) ∙ own in
        only_relocates q.is.token ms (second_true (is_part q.is.token x.says) (are_parts q.is.token ms) (second_true (are_parts q.is.token there.0) (are_parts q.is.token (x ∷ ms)) parts))
        (λ first m result ty later g.
        let r : Line = record { number = m; says = gc_result result ty q.is.token } in
        let at : func.body ≡ (pre ++ x ∷ first) ++ r ∷ (later ++ y ∷ more) =
        whole ∙ ap (λ (zs : List Line). pre ++ x ∷ zs) (f ∙ ap (λ (zs : List Line). zs ++ y ∷ more) g ∙ append_assoc first (r ∷ later) (y ∷ more))
        ∙ sym (append_assoc pre (x ∷ first) (r ∷ (later ++ y ∷ more))) in
        let right = result_group lines func text (pre ++ x ∷ first) m result ty q.is.token (later ++ y ∷ more) at q.known in
        let inside = within_parts lines func text n pre x rest p first q.is.token same right.group in
        let nothing : length (inside.0 ++ x ∷ first) ≡ 0 = ap length (sym inside.1 ∙ right.directly) in
        absurd (omega (arith, nothing, length-append inside.0 (x ∷ first))))

    by : (mid : List Line) → x ∷ rest ≡ mid ++ y ∷ more → list_all (λ (l : Line). is_relocate l.says) mid ≡ true
    by [] f = refl
    by (m ∷ ms) f =
        let same : x ≡ m = first_same x m rest (ms ++ y ∷ more) f in
        ap (λ (l : Line). is_relocate l.says && list_all (λ (one : Line). is_relocate one.says) ms) (sym same)
        ∙ ap (λ (b : Bool). b && list_all (λ (one : Line). is_relocate one.says) ms) (relocate x.says passes)
        ∙ tail ms (ap rest_of f)

few_lines_of : (lines : List Line) (func : Definition) → InPlace lines func → (n : ℕ) → count_by (relocates_line (known_of lines func) n) func.body ≤ 16384
few_lines_of lines func text n = by (first_of_all (relocates_line (known_of lines func) n) func.body)
  where
    by : (count_by (relocates_line (known_of lines func) n) func.body ≡ 0) ⊎ FirstOf (relocates_line (known_of lines func) n) func.body
        → count_by (relocates_line (known_of lines func) n) func.body ≤ 16384
    by (inl nothing) = omega (arith, nothing)
    by (inr f) =
        let few : relocates_first (f.one ∷ f.after) ≤ 16384 = (read_function Rewritten lines func text.law).few_relocates f.before (f.one ∷ f.after) f.whole in
        let bound = in_row (relocates_line (known_of lines func) n) (λ (l : Line). is_relocate l.says) (f.one ∷ f.after)
        (row lines func text n f.before f.one f.after f.whole f.passes) in
        omega (arith, few, bound, f.count)

few_relocates : (lines : List Line) (func : Definition) → InPlace lines func → (n : ℕ) → relocates_of (made lines func) n ≤ 16384
few_relocates lines func text n =
    let known = known_of lines func in
    let counted : relocates_of (made lines func) n ≡ count_by (relocates_line known n) func.body =
    ap (λ (is : List Instruction). length (filter (λ inst. is_relocate_op inst.op && is_part_made n inst) is)) (body_insts known func) ∙ all_counted known n func.body in
    let few = few_lines_of lines func text n in
    omega (arith, counted)

-- ---- live entries

no_statepoint : (op : Op) → is_group_op op ≡ false → is_statepoint op ≡ false
no_statepoint (ops.Statepoint id callee types) e = e
no_statepoint _ e = refl

plain_few : (o : Option Instruction) → IfSome o (λ inst. is_group_op inst.op ≡ false)
    → IfSome o (λ inst. is_statepoint inst.op ≡ true → length (entries_of inst) ≤ 16384)
plain_few None e = tt
plain_few (Some inst) e = λ is. absurd (true_and_false (is_statepoint inst.op) is (no_statepoint inst.op e))

few_said : (known : Known) (behind : List Line) (s : Statement) → SaysRead s
    → IfSome (instruction_said known behind s) (λ inst. is_statepoint inst.op ≡ true → length (entries_of inst) ≤ 16384)
few_said known behind (statepoint result called live) read = λ is.
    let few = read.few in
    let e = ap length (dropped_first called.passed known (live_made known live)) in
    omega (arith, e, length-map (map live_use live) (used_operand known), length-map live live_use)
few_said known behind (gc_result result ty token) read = λ is. absurd (let bad : false ≡ true = is in cc)
few_said known behind (gc_relocate result token base derived) read = λ is. absurd (let bad : false ≡ true = is in cc)
few_said known behind s read = plain_few (instruction_said known behind s) (plain_said known behind s refl)

few_live : (lines : List Line) (func : Definition) → InLaw Rewritten lines func
    → All (λ inst. is_statepoint inst.op ≡ true → length (entries_of inst) ≤ 16384) (instructions_of (made lines func).blocks)
few_live lines func law =
    func_insts (known_of lines func) (λ inst. is_statepoint inst.op ≡ true → length (entries_of inst) ≤ 16384) func (λ before l after whole inst is.
    let read : SaysRead l.says =
    All-contains (λ (one : Line). SaysRead one.says) func.body l (said_function Rewritten lines func law).body
    (subst (λ (xs : List Line). Contains xs l) (sym whole) (contains_middle before l after)) in
    if_some (λ one. is_statepoint one.op ≡ true → length (entries_of one) ≤ 16384) (instruction_said (known_of lines func) after l.says)
    (few_said (known_of lines func) after l.says read) inst is)

pub small : (lines : List Line) (func : Definition) → InLaw Rewritten lines func → BodyStands func → StatepointsAreSmall (made lines func)
small lines func law stand place inst stands op = (
  all_at (λ (one : Instruction). is_statepoint one.op ≡ true → length (entries_of one) ≤ 16384) (instructions_of (made lines func).blocks) place inst
      (few_live lines func law) stands op,
  few_relocates lines func (record { law = law; stand = stand }) (number_at (made lines func) place),
)

-- ---- ids

no_id : (op : Op) → is_group_op op ≡ false → IdIsWord op
no_id (ops.Statepoint id callee types) e = absurd (let bad : true ≡ false = e in cc)
no_id _ e = tt

plain_id : (o : Option Instruction) → IfSome o (λ inst. is_group_op inst.op ≡ false) → IfSome o (λ inst. IdIsWord inst.op)
plain_id None e = tt
plain_id (Some inst) e = no_id inst.op e

-- an id is read modulo 2^64
id_said : (known : Known) (behind : List Line) (s : Statement) → IfSome (instruction_said known behind s) (λ inst. IdIsWord inst.op)
id_said known behind (statepoint result called live) = wrapped_below 64 called.id
id_said known behind (gc_result result ty token) = tt
id_said known behind (gc_relocate result token base derived) = tt
id_said known behind s = plain_id (instruction_said known behind s) (plain_said known behind s refl)

pub id_words : (lines : List Line) (func : Definition) → All (λ inst. IdIsWord inst.op) (instructions_of (made lines func).blocks)
id_words lines func =
    func_insts (known_of lines func) (λ inst. IdIsWord inst.op) func (λ before l after whole inst is.
    if_some (λ one. IdIsWord one.op) (instruction_said (known_of lines func) after l.says) (id_said (known_of lines func) after l.says) inst is)
