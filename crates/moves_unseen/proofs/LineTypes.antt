-- Each line of a function has the register of its result, of the type of it.
use Rattle.std.proofs.Common.{◌≡◌, ℕ, zero, suc, ◌+◌, Bool, true, false, List, [], ◌∷◌, ◌++◌, length, map, refl, ap, ◌∙◌, subst, arith, Option, Some, None}
use Rattle.std.specs.Prelude.{slice_get, slice_index, is_some, if◌then◌else◌}
use Rattle.std.specs.List.{filter}
use Rattle.std.specs.Option.{option_map_or}
use Rattle.std.proofs.lemmas.List.{length-map}
use Rattle.std.proofs.lemmas.Option.{none-some}
use Rattle.list_laws.proofs.Contents.{all_at}
use Rattle.list_laws.proofs.Places.{get_map, get_past}
use Rattle.ir_ast.specs.Blocks.{BasicBlock}
use Rattle.ir_ast.specs.Faultless.{FunctionHasNoFault}
use Rattle.ir_ast.specs.Faults.PointerOrder.{orders_pointers}
use Rattle.ir_ast.specs.Faults.TypeClash.{FunctionIsTyped, IsTyped}
use Rattle.ir_ast.specs.Funcs.{Function, instructions_of}
use Rattle.ir_ast.specs.Insts.{Instruction}
use Rattle.ir_ast.specs.Lines.{IsLine}
use Rattle.ir_ast.specs.Modules.{ModuleContent}
use Rattle.ir_ast.specs.Scope.{scope_of}
use Rattle.ir_ast.specs.Values.{Definition, argument, definition_type, definitions_of, outcome, outcome_type, value_types}
use Rattle.ir_ast.specs.declared.modules.Form.TheVariants.{Rewritten}
use Rattle.ir_cfg.specs.TargetModules.{IsTargetModule}
use Rattle.ir_cfg.specs.TypedModules.{IsTypedFunction}
use Rattle.object_meaning.specs.Lines.{Line, after_all, first_registers, following, numbered}
use Rattle.object_meaning.specs.TargetRuns.{plain_lines}
use Rattle.pair_facts.specs.Lines.{lines_at}
use Rattle.moves_unseen.specs.Types.{IsLineOf}

-- what the results of these instructions are
abbrev given_by : List Instruction → List Definition
given_by insts = map outcome (filter (λ inst. is_some inst.result) insts)

-- the line is one of these instructions, of which the first result has this number
record IsNumbered (next : ℕ) (insts : List Instruction) (line : Line) : Type 0 where
  pub place : ℕ
  pub inst : slice_get insts place ≡ Some line.inst
  pub gives : is_some line.to ≡ is_some line.inst.result
  pub given : (to : ℕ) → line.to ≡ Some to → (before : ℕ) × (to ≡ next + before) × (slice_get (given_by insts) before ≡ Some (outcome line.inst))

none_given : (to : ℕ) → ◌≡◌ {A = Option ℕ} None (Some to) → ⊥
none_given to is = none-some to is

the_number : (one other : ℕ) → Some one ≡ Some other → one ≡ other
the_number one other is = cc

numbered_first : (next : ℕ) (first : Instruction) (insts : List Instruction) → IsNumbered next (first ∷ insts) (numbered next first)
numbered_first next first insts = record { place = 0; inst = refl; gives = by_gives (is_some first.result); given = by (is_some first.result) }
  where
    by_gives : (b : Bool) → is_some (if b then Some next else None) ≡ b
    by_gives true = refl
    by_gives false = refl

    by : (b : Bool) (to : ℕ) → ◌≡◌ {A = Option ℕ} (if b then Some next else None) (Some to)
        → (before : ℕ) × (to ≡ next + before) × (slice_get (map outcome (if b then first ∷ filter (λ inst. is_some inst.result) insts else filter (λ inst. is_some inst.result) insts)) before ≡ Some (outcome first))
    by true to is = (0, (let same = the_number next to is in omega arith), refl)
    by false to is = absurd (none_given to is)

numbered_more : (next : ℕ) (first : Instruction) (insts : List Instruction) (line : Line) → IsNumbered (following next first) insts line → IsNumbered next (first ∷ insts) line
numbered_more next first insts line more = record { place = suc more.place; inst = more.inst; gives = more.gives; given = λ to is. by (is_some first.result) to (more.given to is) }
  where
    by : (b : Bool) (to : ℕ) → (before : ℕ) × (to ≡ (if b then next + 1 else next) + before) × (slice_get (given_by insts) before ≡ Some (outcome line.inst))
        → (before : ℕ) × (to ≡ next + before) × (slice_get (map outcome (if b then first ∷ filter (λ inst. is_some inst.result) insts else filter (λ inst. is_some inst.result) insts)) before ≡ Some (outcome line.inst))
    by true to found = let same : to ≡ (next + 1) + found.0 = found.1 in (suc found.0, (omega arith), found.2)
    by false to found = found

numbered_in : (next : ℕ) (insts more : List Instruction) (place : ℕ) (line : Line) → slice_get (plain_lines next insts) place ≡ Some line → IsNumbered next (insts ++ more) line
numbered_in next [] more place line is = absurd (none-some line is)
numbered_in next (first ∷ insts) more zero line is =
    let same : numbered next first ≡ line = cc in
    subst_line same (numbered_first next first (insts ++ more))
  where
    subst_line : numbered next first ≡ line → IsNumbered next (first ∷ (insts ++ more)) (numbered next first) → IsNumbered next (first ∷ (insts ++ more)) line
    subst_line same one = subst (λ (l : Line). IsNumbered next (first ∷ (insts ++ more)) l) same one
numbered_in next (first ∷ insts) more (suc place) line is = numbered_more next first (insts ++ more) line (numbered_in (following next first) insts more place line is)

numbered_past : (next : ℕ) (insts more : List Instruction) (line : Line) → IsNumbered (after_all next insts) more line → IsNumbered next (insts ++ more) line
numbered_past next [] more line is = is
numbered_past next (first ∷ insts) more line is = numbered_more next first (insts ++ more) line (numbered_past (following next first) insts more line is)

-- a line of a block is one of all instructions
numbered_block : (next : ℕ) (blocks : List BasicBlock) (number place : ℕ) (line : Line)
    → slice_get (plain_lines (slice_index (first_registers next blocks) number) (option_map_or (λ (block : BasicBlock). block.insts) (slice_get blocks number) [])) place ≡ Some line
    → IsNumbered next (instructions_of blocks) line
numbered_block next [] number place line is = absurd (none-some line is)
numbered_block next (block ∷ blocks) zero place line is = numbered_in next block.insts (instructions_of blocks) place line is
numbered_block next (block ∷ blocks) (suc number) place line is =
    numbered_past next block.insts (instructions_of blocks) line (numbered_block (after_all next block.insts) blocks number place line is)

type_of_result : (func : Function) (line : Line) → IsNumbered (length func.args) (instructions_of func.blocks) line → (to : ℕ) → line.to ≡ Some to
    → slice_get (value_types func) to ≡ Some (outcome_type line.inst.op line.inst.ty)
type_of_result func line one to is =
    let found = one.given to is in
    let count = length-map func.args argument in
    let place : to ≡ length (map argument func.args) + found.0 = (let same = found.1 in omega arith) in
    get_map definition_type (definitions_of func) to (outcome line.inst)
    (ap (slice_get (definitions_of func)) place ∙ (get_past (map argument func.args) (given_by (instructions_of func.blocks)) found.0 ∙ found.2))

-- each line of a target module
pub lines_are_typed : (content : ModuleContent) → IsTargetModule content → (number : ℕ) (func : Function) → slice_get content.funcs number ≡ Some func
    → (block place : ℕ) (line : Line) → slice_get (lines_at func block) place ≡ Some line → IsLineOf content func line
lines_are_typed content target number func found block place line stands =
    let one = numbered_block (length func.args) func.blocks block place line stands in
    let own = all_at (IsTypedFunction Rewritten) content.funcs number func target.typed.functions found in
    let faultless = all_at (FunctionHasNoFault content) content.funcs number func target.typed.no_fault.functions found in
    let typed = all_at (λ each. FunctionIsTyped (scope_of content each) each) content.funcs number func target.typed.no_fault.typed found in
    record {
      form = all_at IsLine (instructions_of func.blocks) one.place line.inst own.lines one.inst;
      typed = all_at (IsTyped (scope_of content func)) (instructions_of func.blocks) one.place line.inst typed.lines one.inst;
      unordered = all_at (λ each. orders_pointers each.op each.ty ≡ false) (instructions_of func.blocks) one.place line.inst faultless.pointers one.inst;
      gives = one.gives;
      type = type_of_result func line one;
    }
