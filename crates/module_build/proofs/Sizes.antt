-- There are at most as many layouts, functions, blocks and instructions as lines.
use Rattle.std.proofs.Common.{◌≡◌, ◌∙◌, ℕ, ◌+◌, ◌≤◌, suc, refl, sym, ap, subst, Bool, true, false, cond, List, [], ◌∷◌, ◌++◌, length, Option, Some, None, arith}
use Rattle.std.specs.Prelude.{map, not, decimal, is_none, if◌then◌else◌}
use Rattle.std.proofs.lemmas.List.{length-map, length-append}
use Rattle.std.proofs.lemmas.List.Sums.{take_while-cons}
use Rattle.ir_ast.specs.Insts.{Instruction}
use Rattle.ir_ast.specs.Funcs.{instructions_of}
use Rattle.line_parts.specs.Lists.{Named}
use Rattle.ir_lines.specs.Statements.{Statement, Line, layout, define, label}
use Rattle.ir_lines.specs.Sections.{Definition, BlockLines, is_label, label_said, until_label, block_at, labelled_blocks, first_block, blocks_of, layout_said, layouts_of, definition_said, definitions_of, arguments_named, count_numbered}
use Rattle.ir_lines.specs.Modules.{Known, block_of, instruction_said, with_line, instructions_of as lined_instructions, insts_of}
use Rattle.module_build.proofs.Bodies.{in_block}

few-layout : (line : ℕ) (what : Statement) → length (layout_said line what) ≤ 1
few-layout line (layout name fields) = omega arith
few-layout line what = omega arith

pub few-layouts : (ls : List Line) → length (layouts_of ls) ≤ length ls
few-layouts [] = omega arith
few-layouts (l ∷ ls) =
    let a = length-append (layout_said l.number l.says) (layouts_of ls) in
    let b = few-layout l.number l.says in
    let c = few-layouts ls in omega (arith, a, b, c)

few-definition : (line : ℕ) (what : Statement) (after : List Line) → length (definition_said line what after) ≤ 1
few-definition line (define answer name arguments strategy) after = omega arith
few-definition line what after = omega arith

pub few-definitions : (ls : List Line) → length (definitions_of ls) ≤ length ls
few-definitions [] = omega arith
few-definitions (l ∷ ls) =
    let a = length-append (definition_said l.number l.says ls) (definitions_of ls) in
    let b = few-definition l.number l.says ls in
    let c = few-definitions ls in omega (arith, a, b, c)

-- ---- blocks

few-block : (line : ℕ) (name : Option (List ℕ)) (after : List Line) → length (block_at line name after) ≤ 1
few-block line None after = omega arith
few-block line (Some name) after = omega arith

few-labelled : (ls : List Line) → length (labelled_blocks ls) ≤ length ls
few-labelled [] = omega arith
few-labelled (l ∷ ls) =
    let a = length-append (block_at l.number (label_said l.says) ls) (labelled_blocks ls) in
    let b = few-block l.number (label_said l.says) ls in
    let c = few-labelled ls in omega (arith, a, b, c)

one-first : (first : BlockLines) (b : Bool) → length (if b then [] else first ∷ []) ≤ 1
one-first first true = omega arith
one-first first false = omega arith

few-first : (func : Definition) (ls : List Line) → length (first_block func ls) ≤ 1
few-first func [] = omega arith
few-first func (l ∷ ls) =
    one-first (record { line = func.line; name = decimal (count_numbered func.arguments); lines = until_label (l ∷ ls) }) (is_label l.says)

pub few-blocks : (func : Definition) → length (blocks_of func) ≤ 1 + length func.body
few-blocks func =
    let a = length-append (first_block func func.body) (labelled_blocks func.body) in
    let b = few-first func func.body in
    let c = few-labelled func.body in omega (arith, a, b, c)

-- ---- instructions

few-with_line : (number : ℕ) (inst : Option Instruction) → length (with_line number inst) ≤ 1
few-with_line number None = omega arith
few-with_line number (Some inst) = omega arith

few-insts-more : (known : Known) (l : Line) (rest : List Line) → length (insts_of known (l ∷ rest)) ≤ 1 + length (insts_of known rest)
few-insts-more known l rest =
    let one = with_line l.number (instruction_said known rest l.says) in
    let a = length-map (one ++ lined_instructions known rest) (λ (x : ℕ × Instruction). x.1) in
    let b = length-append one (lined_instructions known rest) in
    let c = few-with_line l.number (instruction_said known rest l.says) in
    let d = length-map (lined_instructions known rest) (λ (x : ℕ × Instruction). x.1) in
    omega (arith, a, b, c, d)

abbrev in_blocks : Known → List BlockLines → ℕ
in_blocks known blocks = length (instructions_of (map (block_of known) blocks))

length-block : (known : Known) (block : BlockLines) (blocks : List BlockLines)
    → in_blocks known (block ∷ blocks) ≡ length (insts_of known block.lines) + in_blocks known blocks
length-block known block blocks = length-append (insts_of known block.lines) (instructions_of (map (block_of known) blocks))

line-few : (known : Known) (l : Line) (ls : List Line) (name : Option (List ℕ)) (n : ℕ)
    → in_blocks known (labelled_blocks ls) + length (insts_of known (until_label ls)) ≤ n
    → in_blocks known (block_at l.number name ls ++ labelled_blocks ls) + length (insts_of known (cond (is_none name) (l ∷ until_label ls) [])) ≤ suc n
line-few known l ls None n few = let a = few-insts-more known l (until_label ls) in omega (arith, a)
line-few known l ls (Some name) n few =
    let a = length-block known (record { line = l.number; name = name; lines = until_label ls }) (labelled_blocks ls) in omega (arith, a)

same-label : (what : Statement) → not (is_label what) ≡ is_none (label_said what)
same-label (label name) = refl
same-label what = refl

labelled-few : (known : Known) (ls : List Line)
    → in_blocks known (labelled_blocks ls) + length (insts_of known (until_label ls)) ≤ length ls
labelled-few known [] = omega arith
labelled-few known (l ∷ ls) =
    subst (λ (xs : List Line). in_blocks known (labelled_blocks (l ∷ ls)) + length (insts_of known xs) ≤ suc (length ls))
    (sym (take_while-cons in_block l ls ∙ ap (λ (b : Bool). cond b (l ∷ until_label ls) []) (same-label l.says)))
    (line-few known l ls (label_said l.says) (length ls) (labelled-few known ls))

first-few : (known : Known) (first : BlockLines) (b : Bool) (blocks : List BlockLines) (n : ℕ)
    → in_blocks known blocks + length (insts_of known first.lines) ≤ n
    → in_blocks known ((if b then [] else first ∷ []) ++ blocks) ≤ n
first-few known first true blocks n few = omega (arith, few)
first-few known first false blocks n few = let a = length-block known first blocks in omega (arith, a, few)

body-few : (known : Known) (func : Definition) (ls : List Line) → in_blocks known (first_block func ls ++ labelled_blocks ls) ≤ length ls
body-few known func [] = omega arith
body-few known func (l ∷ ls) =
    first-few known (record { line = func.line; name = decimal (count_numbered func.arguments); lines = until_label (l ∷ ls) })
    (is_label l.says) (labelled_blocks (l ∷ ls)) (suc (length ls)) (labelled-few known (l ∷ ls))

pub few-instructions : (known : Known) (func : Definition) → length (instructions_of (map (block_of known) (blocks_of func))) ≤ length func.body
few-instructions known func = body-few known func func.body
