-- The instructions of a function, their lines and the lines of their cases are those of its body, line by line.
use Rattle.std.proofs.Common.{◌≡◌, ◌∙◌, ℕ, Bool, true, false, not, cond, if◌then◌else◌, List, [], ◌∷◌, ◌++◌, map, refl, ap, sym, append_assoc}
use Rattle.std.specs.Prelude.{Option, Some, None, flat_map, filter_map, decimal}
use Rattle.std.proofs.lemmas.List.{map-append}
use Rattle.std.proofs.lemmas.List.Sums.{take_while-cons}
use Rattle.std.proofs.lemmas.List.Folds.{flat_map-map}
use Rattle.ir_ast.specs.declared.types.Ty.TheVariants as tys
use Rattle.ir_ast.specs.declared.ops.Op.TheVariants as ops
use Rattle.ir_ast.specs.Insts.{Instruction}
use Rattle.ir_ast.specs.Blocks.{BasicBlock}
use Rattle.ir_ast.specs.Funcs as funcs
use Rattle.line_parts.specs.Types as types
use Rattle.line_parts.specs.Parts.{Val}
use Rattle.ir_lines.specs.Statements.{Line, Statement, label, switch}
use Rattle.ir_lines.specs.Sections.{Definition, BlockLines, is_label, label_said, until_label, block_at, labelled_blocks, first_block, blocks_of, count_numbered, is_case, cases_of}
use Rattle.ir_lines.specs.Modules.{Known, with_line, instruction, instruction_said, instructions_of, block_of, function_of, operand_of, label_of, case_value, case_label}
use Rattle.ir_resolve.specs.Resolved.{Spot, case_lines, spot_said, spots_of}
use Rattle.list_laws.proofs.Places.{map_map}

-- ---- up to a label

until-cons : (l : Line) (ls : List Line) → until_label (l ∷ ls) ≡ cond (not (is_label l.says)) (l ∷ until_label ls) []
until-cons l ls = take_while-cons (λ (one : Line). not (is_label one.says)) l ls

pub until-label : (l : Line) (ls : List Line) → is_label l.says ≡ true → until_label (l ∷ ls) ≡ []
until-label l ls e = until-cons l ls ∙ ap (λ (b : Bool). cond (not b) (l ∷ until_label ls) []) e

pub until-other : (l : Line) (ls : List Line) → is_label l.says ≡ false → until_label (l ∷ ls) ≡ l ∷ until_label ls
until-other l ls e = until-cons l ls ∙ ap (λ (b : Bool). cond (not b) (l ∷ until_label ls) []) e

label_no_case : (s : Statement) → is_label s ≡ true → is_case s ≡ false
label_no_case (label name) e = refl
label_no_case _ e = absurd (let bad : false ≡ true = e in cc)

cases-until : (ls : List Line) → cases_of (until_label ls) ≡ cases_of ls
cases-until [] = refl
cases-until (l ∷ ls) = by (is_label l.says) refl (cases-until ls)
  where
    by : (b : Bool) → is_label l.says ≡ b → cases_of (until_label ls) ≡ cases_of ls → cases_of (until_label (l ∷ ls)) ≡ cases_of (l ∷ ls)
    by true e ih =
        ap cases_of (until-label l ls e)
        ∙ sym (ap (λ (b : Bool). if b then l ∷ cases_of ls else []) (label_no_case l.says e))
    by false e ih =
        ap cases_of (until-other l ls e) ∙ ap (λ (cs : List Line). if is_case l.says then l ∷ cs else []) ih

said-by_cases : (known : Known) (width : ℕ) (value : Val) (default : List ℕ) (a b : List Line) → cases_of a ≡ cases_of b
    → instruction_said known a (switch width value default) ≡ instruction_said known b (switch width value default)
said-by_cases known width value default a b e =
    ap (λ (cs : List Line). Some (instruction None ops.Switch (tys.Int width)
    (operand_of known (types.Int width) value ∷ filter_map (λ (l : Line). case_value known.values width l.says) cs)
    (label_of known default ∷ filter_map (λ (l : Line). case_label known.blocks l.says) cs))) e

said-until : (known : Known) (ls : List Line) (s : Statement) → instruction_said known (until_label ls) s ≡ instruction_said known ls s
said-until known ls (switch width value default) = said-by_cases known width value default (until_label ls) ls (cases-until ls)
said-until known ls _ = refl

-- ---- the blocks of a body

abbrev lined_blocks : Known → List BlockLines → List (ℕ × Instruction)
lined_blocks known blocks = flat_map (λ (b : BlockLines). instructions_of known b.lines) blocks

part_other : (known : Known) (l : Line) (ls : List Line) → is_label l.says ≡ false → label_said l.says ≡ None
    → instructions_of known (until_label ls) ++ lined_blocks known (labelled_blocks ls) ≡ instructions_of known ls
    → instructions_of known (until_label (l ∷ ls)) ++ lined_blocks known (labelled_blocks (l ∷ ls)) ≡ instructions_of known (l ∷ ls)
part_other known l ls e none ih =
    let here = with_line l.number (instruction_said known ls l.says) in
    ap (λ (xs : List Line). instructions_of known xs ++ lined_blocks known (labelled_blocks (l ∷ ls))) (until-other l ls e)
    ∙ ap (λ (o : Option (List ℕ)). instructions_of known (l ∷ until_label ls) ++ lined_blocks known (block_at l.number o ls ++ labelled_blocks ls)) none
    ∙ ap (λ (o : Option Instruction). (with_line l.number o ++ instructions_of known (until_label ls)) ++ lined_blocks known (labelled_blocks ls)) (said-until known ls l.says)
    ∙ append_assoc here (instructions_of known (until_label ls)) (lined_blocks known (labelled_blocks ls))
    ∙ ap (λ (xs : List (ℕ × Instruction)). here ++ xs) ih

part : (known : Known) (n : ℕ) (s : Statement) (ls : List Line)
    → instructions_of known (until_label ls) ++ lined_blocks known (labelled_blocks ls) ≡ instructions_of known ls
    → instructions_of known (until_label (record { number = n; says = s } ∷ ls)) ++ lined_blocks known (labelled_blocks (record { number = n; says = s } ∷ ls))
    ≡ instructions_of known (record { number = n; says = s } ∷ ls)
part known n (label name) ls ih = ih
part known n s ls ih = part_other known (record { number = n; says = s }) ls refl refl ih

parts : (known : Known) (ls : List Line) → instructions_of known (until_label ls) ++ lined_blocks known (labelled_blocks ls) ≡ instructions_of known ls
parts known [] = refl
parts known (l ∷ ls) = part known l.number l.says ls (parts known ls)

pub body_lined : (known : Known) (func : Definition) (body : List Line) → lined_blocks known (first_block func body ++ labelled_blocks body) ≡ instructions_of known body
body_lined known func [] = refl
body_lined known func (l ∷ ls) = by (is_label l.says) refl
  where
    by : (b : Bool) → is_label l.says ≡ b
        → lined_blocks known ((if is_label l.says then [] else record { line = func.line; name = decimal (count_numbered func.arguments); lines = until_label (l ∷ ls) } ∷ []) ++ labelled_blocks (l ∷ ls)) ≡ instructions_of known (l ∷ ls)
    by true e =
        ap (λ (b : Bool). lined_blocks known ((if b then [] else record { line = func.line; name = decimal (count_numbered func.arguments); lines = until_label (l ∷ ls) } ∷ []) ++ labelled_blocks (l ∷ ls))) e
        ∙ sym (ap (λ (xs : List Line). instructions_of known xs ++ lined_blocks known (labelled_blocks (l ∷ ls))) (until-label l ls e))
        ∙ parts known (l ∷ ls)
    by false e =
        ap (λ (b : Bool). lined_blocks known ((if b then [] else record { line = func.line; name = decimal (count_numbered func.arguments); lines = until_label (l ∷ ls) } ∷ []) ++ labelled_blocks (l ∷ ls))) e
        ∙ parts known (l ∷ ls)

-- ---- one by one

pub mapped_flat : {A B C : Type 0} (f : B → C) (g : A → List B) (xs : List A) → flat_map (λ x. map f (g x)) xs ≡ map f (flat_map g xs)
mapped_flat f g [] = refl
mapped_flat {A} {B} {C} f g (x ∷ xs) = ap (λ (ys : List C). map f (g x) ++ ys) (mapped_flat f g xs) ∙ sym (map-append f (g x) (flat_map g xs))

spots-lined : (known : Known) (ls : List Line) → instructions_of known ls ≡ map (λ (spot : Spot). (spot.line, spot.inst)) (spots_of known ls)
spots-lined known [] = refl
spots-lined known (l ∷ ls) = by (instruction_said known ls l.says) (spots-lined known ls)
  where
    by : (o : Option Instruction) → instructions_of known ls ≡ map (λ (spot : Spot). (spot.line, spot.inst)) (spots_of known ls)
        → with_line l.number o ++ instructions_of known ls
        ≡ map (λ (spot : Spot). (spot.line, spot.inst)) (spot_said l.number (case_lines ls l.says) o ++ spots_of known ls)
    by None ih = ih
    by (Some inst) ih = ap (λ (xs : List (ℕ × Instruction)). (l.number, inst) ∷ xs) ih

pub function_insts : (known : Known) (func : Definition) → funcs.instructions_of (function_of known func).blocks ≡ map (λ (spot : Spot). spot.inst) (spots_of known func.body)
function_insts known func =
    flat_map-map (λ (block : BasicBlock). block.insts) (block_of known) (blocks_of func)
    ∙ mapped_flat (λ (one : ℕ × Instruction). one.1) (λ (b : BlockLines). instructions_of known b.lines) (blocks_of func)
    ∙ ap (map (λ (one : ℕ × Instruction). one.1)) (body_lined known func func.body ∙ spots-lined known func.body)
    ∙ map_map (λ (one : ℕ × Instruction). one.1) (λ (spot : Spot). (spot.line, spot.inst)) (spots_of known func.body)
