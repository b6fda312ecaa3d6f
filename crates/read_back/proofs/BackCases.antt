-- The cases that a module is printed with have the width of their `switch`, the last one before them.
use Rattle.std.proofs.Common.{◌≡◌, ℕ, List, [], ◌∷◌, ◌++◌, map, drop, refl, sym, subst, append_assoc}
use Rattle.std.specs.Prelude.{Option, flat_map, ⊤}
use Rattle.std.specs.List.{AllByRecursion, zip}
use Rattle.std.proofs.lemmas.List.Elements.{All-contains, All-from_recursion}
use Rattle.sp_ids.specs.declared.ids.BlockId.{BlockId}
use Rattle.ir_ast.specs.declared.types.Ty.{Ty}
use Rattle.ir_ast.specs.declared.types.Ty.TheVariants as tys
use Rattle.ir_ast.specs.declared.ops.Op.{Op}
use Rattle.ir_ast.specs.declared.ops.Op.TheVariants as ops
use Rattle.ir_ast.specs.declared.ops.Elem.{Elem}
use Rattle.ir_ast.specs.declared.ops.Elem.TheVariants as elements
use Rattle.ir_ast.specs.declared.ops.Operand.{Operand}
use Rattle.ir_ast.specs.Insts.{Instruction}
use Rattle.ir_ast.specs.Blocks.{BasicBlock}
use Rattle.ir_ast.specs.Modules.{ModuleContent}
use Rattle.ir_printer.specs.Names.{Names}
use Rattle.ir_lines.specs.Statements.{Line, Statement, switch, switch_case, switch_end}
use Rattle.ir_lines.specs.Sections.{cases_of}
use Rattle.ir_resolve.specs.TextFaults.{CaseOfOtherWidth}
use Rattle.read_back.specs.Said.{width_in, step_says, return_says, case_says, block_says, operator_says, instruction_says, said_by}
use Rattle.read_back.proofs.BackLines.{said}
use Rattle.read_back.proofs.BackModules.{names_in}
use Rattle.read_back.proofs.BackFaults.{printed_from}

abbrev IfCase : Statement → ℕ → Type 0
IfCase (switch_case other value to) width = other ≡ width
IfCase _ width = ⊤

abbrev width_after : ℕ → Statement → ℕ
width_after width (switch other value default) = other
width_after width _ = width

abbrev CaseWidths : ℕ → List Statement → Type 0
CaseWidths width [] = ⊤
CaseWidths width (s ∷ ss) = IfCase s width × CaseWidths (width_after width s) ss

cases_widths : (names : Names) (ty : Ty) (es : List (Operand × BlockId)) (rest : List Statement) → ((w : ℕ) → CaseWidths w rest)
    → CaseWidths (width_in ty) ((map (case_says names ty) es ++ switch_end ∷ []) ++ rest)
cases_widths names ty [] rest k = (tt, k (width_in ty))
cases_widths names ty (e ∷ es) rest k = (refl, cases_widths names ty es rest k)

step_widths : (names : Names) (elem : Elem) (index : ℕ) (place : Option ℕ) (inst : Instruction) (rest : List Statement) → ((w : ℕ) → CaseWidths w rest)
    → (w : ℕ) → CaseWidths w (step_says names elem index place inst ∷ rest)
step_widths names (elements.Int n) index place inst rest k w = (tt, k w)
step_widths names elements.Ptr index place inst rest k w = (tt, k w)
step_widths names (elements.Layout l) index place inst rest k w = (tt, k w)

return_widths : (names : Names) (ty : Ty) (inst : Instruction) (rest : List Statement) → ((w : ℕ) → CaseWidths w rest)
    → (w : ℕ) → CaseWidths w (return_says names ty inst ∷ rest)
return_widths names tys.Void inst rest k w = (tt, k w)
return_widths names (tys.Int n) inst rest k w = (tt, k w)
return_widths names tys.Ptr inst rest k w = (tt, k w)
return_widths names tys.Token inst rest k w = (tt, k w)

inst_widths : (names : Names) (op : Op) (inst : Instruction) (rest : List Statement) → ((w : ℕ) → CaseWidths w rest)
    → (w : ℕ) → CaseWidths w (operator_says names op inst ++ rest)
inst_widths names (ops.Gep elem index place) inst rest k w = step_widths names elem index place inst rest k w
inst_widths names ops.Ret inst rest k w = return_widths names inst.ty inst rest k w
inst_widths names ops.Switch inst rest k w = (tt, cases_widths names inst.ty (zip (drop 1 inst.operands) (drop 1 inst.labels)) rest k)
inst_widths names _ inst rest k w = (tt, k w)

insts_widths : (names : Names) (insts : List Instruction) (rest : List Statement) → ((w : ℕ) → CaseWidths w rest)
    → (w : ℕ) → CaseWidths w (flat_map (instruction_says names) insts ++ rest)
insts_widths names [] rest k w = k w
insts_widths names (i ∷ is) rest k w =
    subst (CaseWidths w) (sym (append_assoc (instruction_says names i) (flat_map (instruction_says names) is) rest))
    (inst_widths names i.op i (flat_map (instruction_says names) is ++ rest) (insts_widths names is rest k) w)

blocks_widths : (names : Names) (blocks : List BasicBlock) → (w : ℕ) → CaseWidths w (flat_map (block_says names) blocks)
blocks_widths names [] w = tt
blocks_widths names (b ∷ bs) w = (tt, insts_widths names b.insts (flat_map (block_says names) bs) (blocks_widths names bs) w)

behind_widths : (before : List Line) (l : Line) (behind : List Line) (w : ℕ) → CaseWidths w (said (before ++ l ∷ behind))
    → (v : ℕ) × CaseWidths v (l.says ∷ said behind)
behind_widths [] l behind w h = (w, h)
behind_widths (b ∷ bs) l behind w h = behind_widths bs l behind (width_after w b.says) h.1

cases_same : (w : ℕ) (ls : List Line) → CaseWidths w (said ls) → AllByRecursion (λ l. IfCase l.says w) (cases_of ls)
cases_same w [] h = tt
cases_same w (l ∷ ls) h = by l.says h (λ k. cases_same w ls k)
  where
    by : (s : Statement) → CaseWidths w (s ∷ said ls) → (CaseWidths w (said ls) → AllByRecursion (λ l. IfCase l.says w) (cases_of ls))
        → AllByRecursion (λ l. IfCase l.says w) (cases_of (record { number = l.number; says = s } ∷ ls))
    by (switch_case other value to) k more = (k.0, more k.1)
    by _ k more = tt

pub case_width-clear : (content : ModuleContent) (lines : List Line) → said lines ≡ said_by content → (line : ℕ) → ¬ (CaseOfOtherWidth lines line)
case_width-clear content lines e line f =
    let o = printed_from content lines e f.func f.defined in
    let all : CaseWidths 0 (said f.func.body) = subst (CaseWidths 0) (sym o.says.body) (blocks_widths (names_in content o.func) o.func.blocks 0) in
    let behind = behind_widths f.before (record { number = f.number; says = switch f.width f.value f.default }) f.behind 0
    (subst (λ (body : List Line). CaseWidths 0 (said body)) f.whole all) in
    f.differs
    (All-contains (λ (l : Line). IfCase l.says f.width) (cases_of f.behind) (record { number = line; says = switch_case f.other f.case f.to })
    (All-from_recursion (λ (l : Line). IfCase l.says f.width) (cases_of f.behind) (cases_same f.width f.behind behind.1.1)) f.is_case)
