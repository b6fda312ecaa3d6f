-- The instructions of a function's blocks are those of its body.
use Rattle.std.proofs.Common.{◌≡◌, ◌∙◌, ℕ, List, [], ◌∷◌, ◌++◌, map, refl, ap}
use Rattle.std.specs.Prelude.{Option, Some, None, ⊤}
use Rattle.std.specs.List.{All}
use Rattle.std.proofs.lemmas.List.Folds.{flat_map-map}
use Rattle.std.proofs.lemmas.List.Elements.{All-nil, All-cons, All-append, All-same}
use Rattle.ir_ast.specs.Insts.{Instruction}
use Rattle.ir_ast.specs.Blocks.{BasicBlock}
use Rattle.ir_ast.specs.Funcs.{instructions_of}
use Rattle.ir_lines.specs.Statements.{Line}
use Rattle.ir_lines.specs.Sections.{Definition, BlockLines, blocks_of}
use Rattle.ir_lines.specs.Modules.{Known, with_line, instruction_said, insts_of, block_of, function_of}
use Rattle.ir_lines.specs.Modules as modules
use Rattle.ir_resolve.proofs.Bodies.{mapped_flat, body_lined}

abbrev pub insts_said : Option Instruction → List Instruction
insts_said None = []
insts_said (Some inst) = inst ∷ []

pub insts-cons : (known : Known) (l : Line) (ls : List Line)
    → insts_of known (l ∷ ls) ≡ insts_said (instruction_said known ls l.says) ++ insts_of known ls
insts-cons known l ls = go (instruction_said known ls l.says)
  where
    go : (o : Option Instruction)
        → map (λ (one : ℕ × Instruction). one.1) (with_line l.number o ++ modules.instructions_of known ls) ≡ insts_said o ++ insts_of known ls
    go None = refl
    go (Some inst) = refl

pub body_insts : (known : Known) (func : Definition)
    → instructions_of (map (block_of known) (blocks_of func)) ≡ insts_of known func.body
body_insts known func =
    flat_map-map (λ (block : BasicBlock). block.insts) (block_of known) (blocks_of func)
    ∙ mapped_flat (λ (one : ℕ × Instruction). one.1) (λ (b : BlockLines). modules.instructions_of known b.lines) (blocks_of func)
    ∙ ap (map (λ (one : ℕ × Instruction). one.1)) (body_lined known func func.body)

-- ---- what holds of each line with the lines behind it

abbrev pub Every : (Line → List Line → Type 0) → List Line → Type 0
Every R [] = ⊤
Every R (l ∷ ls) = R l ls × Every R ls

pub every_split : (R : Line → List Line → Type 0) (lines : List Line)
    → ((before : List Line) (l : Line) (after : List Line) → lines ≡ before ++ l ∷ after → R l after) → Every R lines
every_split R [] h = tt
every_split R (l ∷ ls) h =
    (h [] l ls refl, every_split R ls (λ before one after e. h (l ∷ before) one after (ap (λ xs. l ∷ xs) e)))

one_said : (P : Instruction → Type 0) (o : Option Instruction) → ((inst : Instruction) → o ≡ Some inst → P inst) → All P (insts_said o)
one_said P None h = All-nil P
one_said P (Some inst) h = All-cons P inst [] (h inst refl) (All-nil P)

abbrev pub Says : Known → (Instruction → Type 0) → Line → List Line → Type 0
Says known P l rest = (inst : Instruction) → instruction_said known rest l.says ≡ Some inst → P inst

pub every_inst : (known : Known) (P : Instruction → Type 0) (lines : List Line) → Every (Says known P) lines → All P (insts_of known lines)
every_inst known P [] h = All-nil P
every_inst known P (l ∷ ls) h =
    All-same P (insts_of known (l ∷ ls)) (insts_said (instruction_said known ls l.says) ++ insts_of known ls) (insts-cons known l ls)
    (All-append P (insts_said (instruction_said known ls l.says)) (insts_of known ls) (one_said P (instruction_said known ls l.says) h.0) (every_inst known P ls h.1))

-- each instruction of a function is that of a line of its body
pub func_insts : (known : Known) (P : Instruction → Type 0) (func : Definition)
    → ((before : List Line) (l : Line) (after : List Line) → func.body ≡ before ++ l ∷ after → Says known P l after)
    → All P (instructions_of (function_of known func).blocks)
func_insts known P func h =
    All-same P (instructions_of (map (block_of known) (blocks_of func))) (insts_of known func.body) (body_insts known func)
    (every_inst known P func.body (every_split (Says known P) func.body h))
