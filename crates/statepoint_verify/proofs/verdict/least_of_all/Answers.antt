use Rattle.std.proofs.Common.{◌≡◌, ◌+◌, Option, Some, refl, ap, arith, sym, subst, length, ℕ, slice_get}
use Rattle.std.proofs.lemmas.List.{length-map}
use Rattle.std.proofs.lemmas.Option.{slice_get_read}
use Rattle.list_laws.proofs.Contents.{all_at}
use Rattle.ir_ast.specs.Funcs.{content_of}
use Rattle.ir_ast.specs.Formed.{IsFormed}
use Rattle.statepoint_verify.specs.declared.faults.Fault.{Fault}
use Rattle.statepoint_verify.specs.Least.{IsLeastOf, IsFaultBelow}
use Rattle.statepoint_verify.proofs.LeastLemmas.{below_none, below_more, func_content, func_lines}
use Rattle.statepoint_verify.proofs.verdict.least_of_all.Goals as goal

pub loop-func-init : goal.loop-func-init
loop-func-init c = below_none c.args.target.now

pub loop-func-preserved : goal.loop-func-preserved
loop-func-preserved c =
    let whole = c.args.target.now in
    let items = c.funcs-func-items.result.now in
    let k = c.loop-func.func-index in
    let func = c.func-item.result in
    let at : slice_get items k ≡ Some func = slice_get_read items (length items) k func refl c.loop-func-test.true c.func-item.is in
    subst (λ (found : Option Fault). IsLeastOf (IsFaultBelow whole (k + 1)) found) (sym c.earlier-least.ensures)
    (below_more whole k func c.loop-func.least c.in_ok-own.own
    (func_content items whole.content.funcs k func c.funcs-func-items.ensures.content at)
    (func_lines items whole.lines k func c.funcs-func-items.ensures.lines at) c.loop-func.invariant c.in_ok-own.ensures)

pub least_in-requires : goal.least_in-requires
least_in-requires c =
    let whole = c.args.target.now in
    let items = c.funcs-func-items.result.now in
    let k = c.loop-func.func-index in
    let func = c.func-item.result in
    let at : slice_get items k ≡ Some func = slice_get_read items (length items) k func refl c.loop-func-test.true c.func-item.is in
    all_at IsFormed whole.content.funcs k func.content c.requires (func_content items whole.content.funcs k func c.funcs-func-items.ensures.content at)

pub returns : goal.returns
returns c =
    let whole = c.args.target.now in
    let items = c.funcs-func-items.result.now in
    let all : c.loop-func.func-index ≡ length whole.content.funcs = omega (arith, ap length c.funcs-func-items.ensures.content, length-map items content_of) in
    subst (λ (n : ℕ). IsLeastOf (IsFaultBelow whole n) c.loop-func.least) all c.loop-func.invariant
