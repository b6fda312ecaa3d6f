use Rattle.std.proofs.Common.{◌≡◌, ◌∙◌, List, take, true, false, sym, subst, ap, arith}
use Rattle.std.specs.Prelude.{map, slice_get, Some, length}
use Rattle.std.specs.List.{All}
use Rattle.std.proofs.lemmas.List.{length-map}
use Rattle.ir_ast.specs.Funcs.{Function, content_of}
use Rattle.ir_verify.proofs.Zips.{all_taken, all_next}
use Rattle.ir_verify.proofs.MainLemmas.{IsOther, main_at, main_is, main_none}
use Rattle.ir_verify.proofs.mains.has_main.Goals as goal
use Rattle.list_laws.proofs.Places.{seen_at}

pub returns-then-is_named_main : goal.returns-then-is_named_main
returns-then-is_named_main c =
    let content = c.args.module.now.content in
    let i = c.loop-func.func-index in
    let func = content_of c.func-item.result in
    let funcs = map content_of c.funcs-func-items.result.now in
    let whole : funcs ≡ content.funcs = c.funcs-func-items.ensures.content in
    let at : slice_get content.funcs i ≡ Some func
    = ap (λ (fs : List Function). slice_get fs i) (sym whole) ∙ seen_at content_of c.funcs-func-items.result.now i c.func-item.result c.loop-func-test.true c.func-item.is in
    let others : All IsOther (take i content.funcs) = subst (λ (fs : List Function). All IsOther (take i fs)) whole c.loop-func.invariant in
    let name = c.is_named_main.ensures.0 c.if-is_named_main.true in (
      (λ is. main_at content i func at others name (c.is_main.ensures.0 is)),
      (λ has. c.is_main.ensures.1 (main_is content i func at others name has)),
    )

pub loop-func-preserved : goal.loop-func-preserved
loop-func-preserved c =
    let i = c.loop-func.func-index in
    all_next IsOther (map content_of c.funcs-func-items.result.now) i (content_of c.func-item.result) c.loop-func.invariant
    (seen_at content_of c.funcs-func-items.result.now i c.func-item.result c.loop-func-test.true c.func-item.is)
    (λ name. let bad : false ≡ true = sym c.if-is_named_main.false ∙ c.is_named_main.ensures.1 name in cc)

pub returns : goal.returns
returns c =
    let content = c.args.module.now.content in
    let funcs = map content_of c.funcs-func-items.result.now in
    let whole : funcs ≡ content.funcs = c.funcs-func-items.ensures.content in
    let size : length funcs ≡ length c.funcs-func-items.result.now = length-map c.funcs-func-items.result.now content_of in
    let others : All IsOther content.funcs = subst (All IsOther) whole (all_taken IsOther funcs c.loop-func.func-index (omega arith) c.loop-func.invariant) in (
      (λ is. absurd (let bad : false ≡ true = is in cc)),
      (λ has. absurd (main_none content others has)),
    )
