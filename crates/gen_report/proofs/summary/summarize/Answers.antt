use Rattle.std.proofs.Common.{◌≡◌, ◌∙◌, sym, subst, ap, length, vec_len}
use Rattle.std.proofs.lemmas.List.{length-map}
use Rattle.ir_ast.specs.Funcs.{content_of}
use Rattle.ir_ast.specs.Modules.{ModuleContent}
use Rattle.ir_cfg.specs.SourceModules.{IsSourceModule}
use Rattle.generated_relocates.proofs.Whole.{generated_is_never_refused}
use Rattle.generated_source.proofs.Whole as source
use Rattle.sp_rewrite.specs.Relocates.{HasManyRelocates}
use Rattle.gen_report.proofs.SummaryLaws.{summarized}
use Rattle.gen_report.proofs.summary.summarize.Goals as goal

pub rewritten-requires-clause-source : goal.rewritten-requires-clause-source
rewritten-requires-clause-source c = subst IsSourceModule (sym c.in_ok-made.ensures.content) (source.generated_is_source c.args.seed c.args.size c.requires.few)

pub rewritten-requires-clause-few : goal.rewritten-requires-clause-few
rewritten-requires-clause-few c =
    subst (λ (content : ModuleContent). ¬ HasManyRelocates content) (sym c.in_ok-made.ensures.content) (generated_is_never_refused c.args.seed c.args.size c.requires.few)

pub returns : goal.returns
returns c =
    let bytes = c.in_ok-bytes.bytes in
    let kept : vec_len bytes ≡ length bytes.items = bytes.ok.0 in
    let content = c.in_ok-made.made.content in
    let after = c.in_ok-after.after.content in
    summarized c.args.seed c.args.size c.args.steps content after c.in_ok-ran.ran _ _ _ _ c.in_ok-made.ensures.content
    (subst IsSourceModule (sym c.in_ok-made.ensures.content) (source.generated_is_source c.args.seed c.args.size c.requires.few))
    c.in_ok-after.ensures.is c.in_ok-after.ensures.target c.in_ok-ran.ensures
    (sym (length-map c.funcs.result.now content_of) ∙ ap length c.funcs.ensures.content)
    (rw c.module-2.ensures.value at c.count-statepoints.ensures) (rw c.module-3.ensures.value at c.count-relocates.ensures)
    (c.len.ensures ∙ (kept ∙ ap length (rw c.«module».ensures.value at c.in_ok-bytes.ensures.value)))
