-- The rewritten module of a source module is a target module.
use Rattle.ir_ast.specs.Modules.{ModuleContent}
use Rattle.base_forms.specs.Based.{based_module}
use Rattle.rewritten_sound.specs.Definite.{IsReachedSource, base_tables}
use Rattle.rewritten_sound.specs.Shape.{IsTypedBefore, RewrittenIsTarget}
use Rattle.rewritten_sound.proofs.definite.Instance.{based_is_before, rewritten_is_definite}
use Rattle.rewritten_sound.proofs.pairs.SourceFacts.{all_hold_others}
use Rattle.rewritten_sound.proofs.shape.BasedModule.{all_room, based_typed, lines_few}
use Rattle.rewritten_sound.proofs.shape.ModuleLaws.{rewritten_is_typed}

typed_before : (content : ModuleContent) → IsReachedSource content → IsTypedBefore (based_module content) (base_tables content)
typed_before content is = record {
  typed = based_typed content is.source;
  before = based_is_before content is (base_tables content);
  room = all_room content is.source;
  lines = lines_few content is.source;
  held = all_hold_others content is;
}

pub rewritten_is_target : RewrittenIsTarget
rewritten_is_target content is = record {
  typed = rewritten_is_typed (based_module content) (base_tables content) (typed_before content is);
  definite = rewritten_is_definite content is;
}
