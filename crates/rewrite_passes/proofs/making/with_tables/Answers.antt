use Rattle.std.proofs.Common.{◌≡◌, ℕ, ◌+◌, ◌<◌, List, length, map, ap, subst, ◌∙◌}
use Rattle.std.specs.Prelude.{IfNone, IfSome, sum}
use Rattle.sp_ids.specs.declared.ids.ValueId.{ValueId}
use Rattle.ir_ast.specs.declared.ops.Operand.{Operand}
use Rattle.ir_ast.specs.Funcs.{Function}
use Rattle.base_forms.specs.Based.{based}
use Rattle.rewriting_forms.specs.Liveness.{live_lists}
use Rattle.rewrite_passes.proofs.SumLaws.{sizes_valued}
use Rattle.rewrite_passes.proofs.making.with_tables.Goals as goal

pub returns-clause-within : goal.returns-clause-within
returns-clause-within c =
    let size = ap (λ (lists : List (List ValueId)). sum (map length lists)) c.in_ok-lists.ensures
    ∙ sizes_valued (live_lists c.in_ok-based.based.content c.in_ok-based.bases)
    ∙ ap (λ (func : Function). sum (map length (live_lists func c.in_ok-based.bases))) c.in_ok-based.ensures.based
    ∙ ap (λ (table : List Operand). sum (map length (live_lists (based c.args.polled.content) table))) c.in_ok-based.ensures.table in
    subst (λ (n : ℕ). IfSome c.left_after-rest.result (λ rest. rest + n ≡ c.args.left)) size c.left_after-rest.ensures.within

pub returns-clause-past : goal.returns-clause-past
returns-clause-past c =
    let size = ap (λ (lists : List (List ValueId)). sum (map length lists)) c.in_ok-lists.ensures
    ∙ sizes_valued (live_lists c.in_ok-based.based.content c.in_ok-based.bases)
    ∙ ap (λ (func : Function). sum (map length (live_lists func c.in_ok-based.bases))) c.in_ok-based.ensures.based
    ∙ ap (λ (table : List Operand). sum (map length (live_lists (based c.args.polled.content) table))) c.in_ok-based.ensures.table in
    subst (λ (n : ℕ). IfNone c.left_after-rest.result (c.args.left < n)) size c.left_after-rest.ensures.past
