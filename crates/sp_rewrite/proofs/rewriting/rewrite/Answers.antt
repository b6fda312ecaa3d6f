use Rattle.std.proofs.Common.{◌≡◌, ◌<◌, ◌≤◌, map, sym, subst}
use Rattle.std.specs.Prelude.{IfNone, IfSome, sum}
use Rattle.ir_ast.specs.Funcs.{content_of}
use Rattle.ir_ast.specs.Modules.{LinedModule}
use Rattle.ir_ast.specs.declared.modules.Form.TheVariants.{Rewritten}
use Rattle.ir_cfg.proofs.TypedLemmas.{formed_module}
use Rattle.base_forms.specs.Polls.{placed}
use Rattle.rewrite_passes.specs.Before.{CanBegin, made_of, relocates_of}
use Rattle.sp_rewrite.specs.Statements.{IsRewritten}
use Rattle.sp_rewrite.proofs.CallLaws.{can_begin, can_have_groups, few_relocates, is_rewritten, many_relocates}
use Rattle.sp_rewrite.proofs.RewrittenLaws as laws
use Rattle.sp_rewrite.proofs.rewriting.rewrite.Goals as goal
use Rattle.list_laws.proofs.Contents.{all_under}

pub before_groups-requires : goal.before_groups-requires
before_groups-requires c =
    all_under content_of CanBegin c.into_parts-layouts.result.1.items
    (can_begin c.args.source.content c.in_ok-reached.reached.content c.in_ok-reached.ensures.drops c.requires (map content_of c.into_parts-layouts.result.1.items) c.into_parts-layouts.ensures.funcs)

pub with_groups-requires : goal.with_groups-requires
with_groups-requires c =
    let funcs = map content_of c.into_parts-layouts.result.1.items in
    let funcs_are = c.into_parts-layouts.ensures.funcs in
    let made_are = subst (λ made. IfSome made (λ all. all.items ≡ map (λ func. made_of (placed func)) funcs)) c.in-Some.is c.in_ok-before_groups.ensures.made in
    can_have_groups c.args.source.content c.in_ok-reached.reached.content c.in_ok-reached.ensures.drops c.requires funcs c.in-Some.all.items funcs_are made_are

pub proved-requires-clause-target : goal.proved-requires-clause-target
proved-requires-clause-target c =
    let funcs = map content_of c.into_parts-layouts.result.1.items in
    let funcs_are = c.into_parts-layouts.ensures.funcs in
    let layouts_are = c.into_parts-layouts.ensures.layouts in
    let made_are = subst (λ made. IfSome made (λ all. all.items ≡ map (λ func. made_of (placed func)) funcs)) c.in-Some.is c.in_ok-before_groups.ensures.made in
    let made : IsRewritten c.args.source.content c.of-target.result.content =
    is_rewritten c.args.source.content c.in_ok-reached.reached.content c.in_ok-reached.ensures.drops funcs (map content_of c.in_ok-after-in-Some.after.items) c.in-Some.all.items c.into_parts-layouts.result.0.items
    c.of-target.result.content funcs_are made_are c.in_ok-after-in-Some.ensures.content layouts_are c.of-target.ensures.content in
    laws.rewriting_is_target c.args.source.content c.of-target.result.content c.requires made

pub proved-requires-clause-verified : goal.proved-requires-clause-verified
proved-requires-clause-verified c =
    let funcs = map content_of c.into_parts-layouts.result.1.items in
    let funcs_are = c.into_parts-layouts.ensures.funcs in
    let layouts_are = c.into_parts-layouts.ensures.layouts in
    let made_are = subst (λ made. IfSome made (λ all. all.items ≡ map (λ func. made_of (placed func)) funcs)) c.in-Some.is c.in_ok-before_groups.ensures.made in
    let made : IsRewritten c.args.source.content c.of-target.result.content =
    is_rewritten c.args.source.content c.in_ok-reached.reached.content c.in_ok-reached.ensures.drops funcs (map content_of c.in_ok-after-in-Some.after.items) c.in-Some.all.items c.into_parts-layouts.result.0.items
    c.of-target.result.content funcs_are made_are c.in_ok-after-in-Some.ensures.content layouts_are c.of-target.ensures.content in
    laws.rewriting_is_verified c.args.source.content c.of-target.result.content c.requires made

pub returns-in_ok-after-in-Some-clause-rewritten : goal.returns-in_ok-after-in-Some-clause-rewritten
returns-in_ok-after-in-Some-clause-rewritten c =
    let funcs = map content_of c.into_parts-layouts.result.1.items in
    let funcs_are = c.into_parts-layouts.ensures.funcs in
    let layouts_are = c.into_parts-layouts.ensures.layouts in
    let made_are = subst (λ made. IfSome made (λ all. all.items ≡ map (λ func. made_of (placed func)) funcs)) c.in-Some.is c.in_ok-before_groups.ensures.made in
    let made : IsRewritten c.args.source.content c.of-target.result.content =
    is_rewritten c.args.source.content c.in_ok-reached.reached.content c.in_ok-reached.ensures.drops funcs (map content_of c.in_ok-after-in-Some.after.items) c.in-Some.all.items c.into_parts-layouts.result.0.items
    c.of-target.result.content funcs_are made_are c.in_ok-after-in-Some.ensures.content layouts_are c.of-target.ensures.content in
    subst (λ (after : LinedModule). IsRewritten c.args.source.content after.content) (sym c.proved.ensures) made

pub returns-in_ok-after-in-Some-clause-target : goal.returns-in_ok-after-in-Some-clause-target
returns-in_ok-after-in-Some-clause-target c = laws.rewriting_is_target c.args.source.content c.proved.result.content c.requires (returns-in_ok-after-in-Some-clause-rewritten c)

pub returns-in_ok-after-in-Some-clause-verified : goal.returns-in_ok-after-in-Some-clause-verified
returns-in_ok-after-in-Some-clause-verified c = laws.rewriting_is_verified c.args.source.content c.proved.result.content c.requires (returns-in_ok-after-in-Some-clause-rewritten c)

pub returns-in_ok-after-in-Some-clause-formed : goal.returns-in_ok-after-in-Some-clause-formed
returns-in_ok-after-in-Some-clause-formed c = formed_module Rewritten c.proved.result.content (returns-in_ok-after-in-Some-clause-target c).typed

pub returns-in_ok-after-in-Some-clause-few : goal.returns-in_ok-after-in-Some-clause-few
returns-in_ok-after-in-Some-clause-few c =
    let funcs = map content_of c.into_parts-layouts.result.1.items in
    let funcs_are = c.into_parts-layouts.ensures.funcs in
    let few = subst (λ made. IfSome made (λ _. sum (map (λ func. relocates_of (placed func)) funcs) ≤ 4194304)) c.in-Some.is c.in_ok-before_groups.ensures.few in
    few_relocates c.args.source.content c.in_ok-reached.reached.content c.in_ok-reached.ensures.drops funcs funcs_are few

pub returns-in-None-clause-many : goal.returns-in-None-clause-many
returns-in-None-clause-many c = λ _.
    let funcs = map content_of c.into_parts-layouts.result.1.items in
    let funcs_are = c.into_parts-layouts.ensures.funcs in
    let many = subst (λ made. IfNone made (4194304 < sum (map (λ func. relocates_of (placed func)) funcs))) c.in-None.is c.in_ok-before_groups.ensures.many in
    many_relocates c.args.source.content c.in_ok-reached.reached.content c.in_ok-reached.ensures.drops funcs funcs_are many
