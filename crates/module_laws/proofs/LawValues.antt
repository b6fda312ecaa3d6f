-- The values of a function are the names that its lines give.
use Rattle.std.proofs.Common.{◌≡◌, ◌∙◌, ℕ, ◌≤◌, ◌+◌, Bool, cond, List, [], ◌∷◌, ◌++◌, map, length, refl, ap, sym, arith, length-append}
use Rattle.std.specs.Prelude.{Some, None, is_some, flat_map, filter, unwrap_or, decimal}
use Rattle.std.proofs.lemmas.List.{map-append}
use Rattle.std.proofs.lemmas.List.Elements.{filter-append}
use Rattle.std.proofs.lemmas.List.Sums.{sum_by-cons}
use Rattle.ir_ast.specs.Insts.{Instruction}
use Rattle.ir_ast.specs.Funcs.{instructions_of}
use Rattle.ir_ast.specs.Values.{argument, outcome, definitions_of, definition_name}
use Rattle.line_parts.specs.Lists.{Named}
use Rattle.ir_lines.specs.Statements.{Line, Statement, call}
use Rattle.ir_lines.specs.Parts.{gives}
use Rattle.ir_lines.specs.Sections.{Definition, Naming, arguments_named, result_named, values_of, blocks_of, count_numbered}
use Rattle.ir_lines.specs.Modules.{Known, argument_of, instruction_said, insts_of, block_of, function_of}
use Rattle.ir_lines.specs.ReadLines.{is_instruction, instruction_count}
use Rattle.module_laws.proofs.LawBodies.{insts_said, insts-cons, body_insts}
use Rattle.ir_lines.proofs.TableLemmas.{length-arguments}

abbrev pub given_by : List Line → List Naming
given_by ls = flat_map (λ (l : Line). result_named l.number (gives l.says)) ls

abbrev names_of : List Naming → List (List ℕ)
names_of values = map (λ one. one.name) values

-- of the results of these instructions
abbrev names_made : List Instruction → List (List ℕ)
names_made insts = map definition_name (map outcome (filter (λ inst. is_some inst.result) insts))

one_result : (known : Known) (rest : List Line) (n : ℕ) (s : Statement)
    → names_made (insts_said (instruction_said known rest s)) ≡ names_of (result_named n (gives s))
one_result known rest n (call None made) = refl
one_result known rest n (call (Some result) made) = refl
one_result known rest n _ = refl

all_results : (known : Known) (ls : List Line) → names_made (insts_of known ls) ≡ names_of (given_by ls)
all_results known [] = refl
all_results known (l ∷ ls) =
    let test : Instruction → Bool = λ inst. is_some inst.result in
    let here = insts_said (instruction_said known ls l.says) in
    ap names_made (insts-cons known l ls)
    ∙ ap (λ (is : List Instruction). map definition_name (map outcome is)) (filter-append test here (insts_of known ls))
    ∙ ap (map definition_name) (map-append outcome (filter test here) (filter test (insts_of known ls)))
    ∙ map-append definition_name (map outcome (filter test here)) (map outcome (filter test (insts_of known ls)))
    ∙ ap (λ (ns : List (List ℕ)). ns ++ names_made (insts_of known ls)) (one_result known ls l.number l.says)
    ∙ ap (λ (ns : List (List ℕ)). names_of (result_named l.number (gives l.says)) ++ ns) (all_results known ls)
    ∙ sym (map-append (λ (one : Naming). one.name) (result_named l.number (gives l.says)) (given_by ls))

all_arguments : (line : ℕ) (before more : List Named)
    → map definition_name (map argument (map argument_of (arguments_named line before more))) ≡ names_of (arguments_named line before more)
all_arguments line before [] = refl
all_arguments line before (one ∷ more) =
    ap (λ (ns : List (List ℕ)). unwrap_or one.name (decimal (count_numbered before)) ∷ ns) (all_arguments line (before ++ one ∷ []) more)

pub names_given : (known : Known) (func : Definition)
    → map definition_name (definitions_of (function_of known func)) ≡ map (λ one. one.name) (values_of func)
names_given known func =
    let args = arguments_named func.line [] func.arguments in
    map-append definition_name (map argument (map argument_of args)) (map outcome (filter (λ inst. is_some inst.result) (instructions_of (map (block_of known) (blocks_of func)))))
    ∙ ap (λ (ns : List (List ℕ)). ns ++ names_made (instructions_of (map (block_of known) (blocks_of func)))) (all_arguments func.line [] func.arguments)
    ∙ ap (λ (is : List Instruction). names_of args ++ names_made is) (body_insts known func)
    ∙ ap (λ (ns : List (List ℕ)). names_of args ++ ns) (all_results known func.body)
    ∙ sym (map-append (λ (one : Naming). one.name) args (given_by func.body))

-- ---- how many

one_count : (n : ℕ) (s : Statement) → length (result_named n (gives s)) ≤ cond (is_instruction s) 1 0
one_count n (call None made) = omega arith
one_count n (call (Some result) made) = omega arith
one_count n _ = omega arith

inst_count : (known : Known) (rest : List Line) (s : Statement) → length (insts_said (instruction_said known rest s)) ≤ cond (is_instruction s) 1 0
inst_count known rest (call result made) = omega arith
inst_count known rest _ = omega arith

count-cons : (l : Line) (ls : List Line) → instruction_count (l ∷ ls) ≡ cond (is_instruction l.says) 1 0 + instruction_count ls
count-cons l ls = sum_by-cons (λ (one : Line). cond (is_instruction one.says) 1 0) l ls

pub few_results : (ls : List Line) → length (given_by ls) ≤ instruction_count ls
few_results [] = omega arith
few_results (l ∷ ls) =
    let here = one_count l.number l.says in
    let more = few_results ls in
    omega (arith, length-append (result_named l.number (gives l.says)) (given_by ls), count-cons l ls)

pub few_insts : (known : Known) (ls : List Line) → length (insts_of known ls) ≤ instruction_count ls
few_insts known [] = omega arith
few_insts known (l ∷ ls) =
    let here = inst_count known ls l.says in
    let more = few_insts known ls in
    omega (arith, ap length (insts-cons known l ls), length-append (insts_said (instruction_said known ls l.says)) (insts_of known ls), count-cons l ls)

pub few_values : (func : Definition) → length (values_of func) ≤ length func.arguments + instruction_count func.body
few_values func =
    let more = few_results func.body in
    omega (arith, length-append (arguments_named func.line [] func.arguments) (given_by func.body), length-arguments func.line [] func.arguments)
