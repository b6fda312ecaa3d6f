-- The end of a block, and the phis at the front of another.
use Rattle.std.proofs.Common.{◌≡◌, ℕ, zero, suc, ◌+◌, ◌<◌, ◌≤◌, Bool, true, false, not, List, [], ◌∷◌, ◌++◌, length, refl, sym, ap, ◌∙◌, arith, cond, Option, Some, None}
use Rattle.std.specs.Prelude.{slice_get, slice_index}
use Rattle.std.specs.List.{list_all}
use Rattle.std.specs.Option.{option_map_or}
use Rattle.std.proofs.lemmas.Bool.{true≢false}
use Rattle.std.proofs.lemmas.List.{length-append}
use Rattle.std.proofs.lemmas.Option.{none-some, same_Some}
use Rattle.list_laws.proofs.Contents.{all_at}
use Rattle.ir_ast.specs.declared.modules.Form.TheVariants.{Rewritten}
use Rattle.ir_ast.specs.declared.ops.Op.TheVariants as ops
use Rattle.ir_ast.specs.Blocks.{BasicBlock, EndsAtTerminator}
use Rattle.ir_ast.specs.Edges.{targets}
use Rattle.ir_ast.specs.Faults.PhiEdges.{is_phi}
use Rattle.ir_ast.specs.Funcs.{Function}
use Rattle.ir_ast.specs.Insts.{Instruction}
use Rattle.ir_ast.specs.Modules.{ModuleContent}
use Rattle.ir_ast.specs.Ops.{is_terminator}
use Rattle.ir_ast.proofs.BlockLemmas.{targets-last}
use Rattle.ir_cfg.specs.TargetModules.{IsTargetModule}
use Rattle.ir_cfg.specs.TypedModules.{IsTypedFunction}
use Rattle.object_meaning.specs.Jumps.{phi_count}
use Rattle.object_meaning.specs.Lines.{Line, insts_in, registers_of}
use Rattle.object_meaning.specs.TargetRuns.{plain_lines}
use Rattle.pair_facts.specs.Lines.{line_before, lines_at}
use Rattle.object_meaning.proofs.LineLaws.{plain_from, plain_count}

-- ---- the end of a block

last_is : (before : List Instruction) (last inst : Instruction) (place : ℕ) → list_all (λ inst. not (is_terminator inst.op)) before ≡ true
    → slice_get (before ++ last ∷ []) place ≡ Some inst → is_terminator inst.op ≡ true → (inst ≡ last) × (place ≡ length before)
last_is [] last inst zero inside is ends = (sym (same_Some last inst is), refl)
last_is [] last inst (suc place) inside is ends = absurd (none-some inst is)
last_is (first ∷ before) last inst zero inside is ends =
    let quiet : is_terminator first.op ≡ false = grind arith in
    absurd (true≢false (sym ends ∙ (ap (λ (i : Instruction). is_terminator i.op) (sym (same_Some first inst is)) ∙ quiet)))
last_is (first ∷ before) last inst (suc place) inside is ends =
    let rest : list_all (λ inst. not (is_terminator inst.op)) before ≡ true = grind arith in
    let found = last_is before last inst place rest is ends in (found.0, ap suc found.1)

-- a terminator is the last line of its block, and its labels are the edges
pub record IsEnd (func : Function) (block place : ℕ) (line : Line) : Type 0 where
  pub defined : BasicBlock
  pub in_function : slice_get func.blocks block ≡ Some defined
  pub edges : targets defined ≡ line.inst.labels
  pub count : length (lines_at func block) ≡ suc place

pub end_of : (content : ModuleContent) → IsTargetModule content → (number : ℕ) (func : Function) → slice_get content.funcs number ≡ Some func
    → (block place : ℕ) (line : Line) → slice_get (lines_at func block) place ≡ Some line → is_terminator line.inst.op ≡ true → IsEnd func block place line
end_of content target number func found block place line stands ends = by (slice_get func.blocks block) refl
  where
    by : (in_block : Option BasicBlock) → slice_get func.blocks block ≡ in_block → IsEnd func block place line
    by None is =
        absurd (none-some line (sym (ap (λ (one : Option BasicBlock). slice_get (plain_lines (slice_index (registers_of func) block) (option_map_or (λ (b : BasicBlock). b.insts) one [])) place) is) ∙ stands))
    by (Some defined) is =
        let own = all_at (IsTypedFunction Rewritten) content.funcs number func target.typed.functions found in
        let ended = all_at (λ (b : BasicBlock). EndsAtTerminator b.insts) func.blocks block defined own.ends is in
        let whole = ap (λ (one : Option BasicBlock). option_map_or (λ (b : BasicBlock). b.insts) one []) is ∙ ended.whole in
        let one = last_is ended.before ended.last line.inst place ended.inside
        (sym (ap (λ (insts : List Instruction). slice_get insts place) whole) ∙ (plain_from (slice_index (registers_of func) block) (insts_in func block) place line stands).0) ends in
        let count = length-append ended.before (ended.last ∷ []) in
        let all = plain_count (slice_index (registers_of func) block) (insts_in func block) ∙ ap length whole in
        let at = one.1 in
        record {
          defined = defined;
          in_function = is;
          edges = targets-last defined ended ∙ ap (λ (i : Instruction). i.labels) (sym one.0);
          count = omega arith;
        }

-- ---- phis at the front of a block

pub phi_lower : (lines : List Line) (place : ℕ) (line : Line) → place < phi_count lines → slice_get lines place ≡ Some line → is_phi line.inst.op ≡ true
phi_lower [] place line lower is = absurd (none-some line is)
phi_lower (first ∷ lines) zero line lower is = by (is_phi first.inst.op) refl
  where
    by : (b : Bool) → is_phi first.inst.op ≡ b → is_phi line.inst.op ≡ true
    by true here = ap (λ (l : Line). is_phi l.inst.op) (sym (same_Some first line is)) ∙ here
    by false here = let none : phi_count (first ∷ lines) ≡ 0 = ap (λ (t : Bool). cond t (1 + phi_count lines) 0) here in absurd (omega arith)
phi_lower (first ∷ lines) (suc place) line lower is = by (is_phi first.inst.op) refl (λ less. phi_lower lines place line less is)
  where
    by : (b : Bool) → is_phi first.inst.op ≡ b → (place < phi_count lines → is_phi line.inst.op ≡ true) → is_phi line.inst.op ≡ true
    by true here rest = let more : phi_count (first ∷ lines) ≡ 1 + phi_count lines = ap (λ (t : Bool). cond t (1 + phi_count lines) 0) here in rest (omega arith)
    by false here rest = let none : phi_count (first ∷ lines) ≡ 0 = ap (λ (t : Bool). cond t (1 + phi_count lines) 0) here in absurd (omega arith)

-- the line before the first that is no phi is one
pub before_phis : (lines : List Line) (count : ℕ) → count ≤ phi_count lines → (line : Line) → line_before lines count ≡ Some line → is_phi line.inst.op ≡ true
before_phis lines zero lower line before = absurd (none-some line before)
before_phis lines (suc place) lower line before = phi_lower lines place line (omega arith) before
