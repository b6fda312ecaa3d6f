-- Lines of the source form, found by their function and block.
use Rattle.std.proofs.Common.{ℕ, zero, suc, List, [], ◌∷◌, map}
use Rattle.std.specs.Prelude.{slice_get}
use Rattle.std.specs.List.{All}
use Rattle.std.specs.Option.{option_map_or}
use Rattle.std.proofs.lemmas.List.Elements.{All-nil, All-head, All-tail}
use Rattle.ir_ast.specs.Blocks.{BasicBlock}
use Rattle.ir_ast.specs.Funcs.{LinedFunction, content_of}
use Rattle.object_meaning.specs.Lines.{insts_in}
use Rattle.flat_code.specs.Spots.{IsReady, AllReady}
use Rattle.test_traps.specs.Forms.{BlockIsReady, FunctionIsReady}

block_at : (blocks : List BasicBlock) → All BlockIsReady blocks → (number : ℕ) → AllReady (option_map_or (λ block. block.insts) (slice_get blocks number) [])
block_at [] all number = All-nil IsReady
block_at (block ∷ blocks) all zero = All-head BlockIsReady block blocks all
block_at (block ∷ blocks) all (suc number) = block_at blocks (All-tail BlockIsReady block blocks all) number

pub func_at : (funcs : List LinedFunction) → All (λ func. FunctionIsReady func.content) funcs → (func number : ℕ)
    → AllReady (option_map_or (λ defined. insts_in defined number) (slice_get (map content_of funcs) func) [])
func_at [] all func number = All-nil IsReady
func_at (first ∷ funcs) all zero number = block_at first.content.blocks (All-head (λ func. FunctionIsReady func.content) first funcs all) number
func_at (first ∷ funcs) all (suc func) number = func_at funcs (All-tail (λ func. FunctionIsReady func.content) first funcs all) func number
