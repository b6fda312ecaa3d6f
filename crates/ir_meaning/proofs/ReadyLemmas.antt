-- The lines of source modules are what the interpreter asks for.
use Rattle.std.proofs.Common.{◌≡◌, ℕ, zero, suc, List, [], ◌∷◌, get_or, subst}
use Rattle.std.specs.Prelude.{slice_get}
use Rattle.std.specs.List.{All}
use Rattle.std.specs.Option.{option_map_or}
use Rattle.std.proofs.lemmas.List.Elements.{All-nil, All-head, All-tail}
use Rattle.ir_ast.specs.declared.modules.Form.{Form}
use Rattle.ir_ast.specs.declared.modules.Form.TheVariants.{Source}
use Rattle.ir_ast.specs.Faultless.{OfForm}
use Rattle.ir_ast.specs.Blocks.{BasicBlock}
use Rattle.ir_ast.specs.Funcs.{Function, instructions_of}
use Rattle.ir_ast.specs.Modules.{ModuleContent}
use Rattle.ir_cfg.specs.SourceModules.{IsSourceModule}
use Rattle.object_meaning.specs.Lines.{insts_in}
use Rattle.flat_code.specs.Codes.{IsReadyModule}
use Rattle.flat_code.specs.Spots.{IsReady, AllReady}
use Rattle.list_laws.proofs.Contents.{all_front, all_back}

block_ready : (blocks : List BasicBlock) → AllReady (instructions_of blocks) → (number : ℕ)
    → AllReady (option_map_or (λ block. block.insts) (slice_get blocks number) [])
block_ready [] all number = All-nil IsReady
block_ready (block ∷ blocks) all zero = all_front IsReady block.insts (instructions_of blocks) all
block_ready (block ∷ blocks) all (suc number) = block_ready blocks (all_back IsReady block.insts (instructions_of blocks) all) number

-- what a function's lines are
abbrev FunctionIsReady : Function → Type 0
FunctionIsReady func = AllReady (instructions_of func.blocks)

func_ready : (funcs : List Function) → All FunctionIsReady funcs → (func number : ℕ)
    → AllReady (option_map_or (λ defined. insts_in defined number) (slice_get funcs func) [])
func_ready [] all func number = All-nil IsReady
func_ready (first ∷ funcs) all zero number = block_ready first.blocks (All-head FunctionIsReady first funcs all) number
func_ready (first ∷ funcs) all (suc func) number = func_ready funcs (All-tail FunctionIsReady first funcs all) func number

ready_function : (content : ModuleContent) (func : Function) → content.form ≡ Source → OfForm content.form func → FunctionIsReady func
ready_function content func form of_form = λ k d h. record { source = (subst (λ (f : Form). OfForm f func) form of_form).0.lines k d h }

pub ready_module : (content : ModuleContent) → IsSourceModule content → IsReadyModule content
ready_module content source = λ func block.
    func_ready content.funcs (λ k d h. ready_function content (get_or content.funcs k d) source.typed.of_form (source.typed.no_fault.functions k d h).form) func block
