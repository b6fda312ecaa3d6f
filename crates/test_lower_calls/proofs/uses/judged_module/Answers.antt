use Rattle.std.proofs.Common.{◌≡◌, ℕ, ◌<◌, List, length, map, get_or, ap, sym, subst, arith, ◌∙◌}
use Rattle.std.specs.List.{All}
use Rattle.std.proofs.lemmas.List.{length-map, get_or-map}
use Rattle.ir_ast.specs.Funcs.{Function, LinedFunction, content_of}
use Rattle.ir_ast.specs.Modules.{ModuleContent}
use Rattle.ir_ast.specs.Formed.{IsFormed, IsFormedModule}
use Rattle.test_lower_calls.proofs.uses.judged_module.Goals as goal

-- each function of a formed module is formed
formed_at : (content : ModuleContent) (funcs : List LinedFunction) (place : ℕ) (func : LinedFunction) → IsFormedModule content
    → map content_of funcs ≡ content.funcs → place < length funcs → func ≡ get_or funcs place func → IsFormed func.content
formed_at content funcs place func formed same below read =
    let all : All IsFormed (map content_of funcs) = rw same formed.formed in
    let within : place < length (map content_of funcs) = omega (arith, below, length-map funcs content_of) in
    subst (λ (f : Function). IsFormed f) (get_or-map content_of funcs place func (content_of func) below ∙ sym (ap content_of read))
    (all place (content_of func) within)

pub judged_often-requires : goal.judged_often-requires
judged_often-requires c =
    formed_at c.args.whole.now.content c.funcs-func-items.result.now c.loop-func.func-index c.func-item.result c.requires c.funcs-func-items.ensures.content (omega arith) c.func-item.is
