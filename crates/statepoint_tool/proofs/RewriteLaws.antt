-- What rewriting a module comes to.
use Rattle.std.proofs.Common.{refl, ap}
use Rattle.ir_ast.specs.Modules.{ModuleContent, LinedModule}
use Rattle.sp_rewrite.proofs.RewrittenLaws.{rewriting_is_one}
use Rattle.statepoint_tool.specs.Steps.{Go}
use Rattle.statepoint_tool.specs.Work.{Rewriting, rewritten, too_many, after_rewriting, rewrite_phase, written_of}
use Rattle.tool_words.specs.declared.request.Part.{Part}
use Rattle.statepoint_tool.proofs.StepLaws.{Once, Once-comes_to, Once-Then}

pub Once-Rewriting : (content : ModuleContent) → Once (Rewriting content)
Once-Rewriting content _ _ (rewritten one is few) (rewritten other also few_too) = ap Go (rewriting_is_one content one other is also)
Once-Rewriting content _ _ (rewritten after is few) (too_many many) = absurd (few many)
Once-Rewriting content _ _ (too_many many) (rewritten after is few) = absurd (few many)
Once-Rewriting content _ _ (too_many one) (too_many other) = refl

pub Once-rewrite_phase : (part : Part) (whole : LinedModule) → Once (rewrite_phase part whole)
Once-rewrite_phase part whole =
    Once-Then (Rewriting whole.content) (after_rewriting part) (Once-Rewriting whole.content) (λ (after : ModuleContent). Once-comes_to (Go (written_of part after)))
