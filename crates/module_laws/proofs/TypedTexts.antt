-- The law of the typer: a text that has readings, without a fault, stands for a typed module of its form.
use Rattle.std.proofs.Common.{◌≡◌, ◌≤◌, ℕ, List, length, map, Ok, subst, sym}
use Rattle.std.specs.List.{All}
use Rattle.ir_ast.specs.Modules.{LinedModule}
use Rattle.ir_ast.specs.declared.modules.Form.{Form}
use Rattle.ir_cfg.specs.TypedModules.{IsTypedModule}
use Rattle.ir_reader.specs.Raws.{Readings, IsRead, seen_numbered}
use Rattle.ir_reader.specs.Text.{Numbered, readings_in}
use Rattle.ir_lines.specs.Statements.{Line, lines_of}
use Rattle.ir_lines.specs.Views.{seen_lines}
use Rattle.ir_lines.specs.Modules.{module_of}
use Rattle.ir_resolve.specs.FaultSet.{HasNoResolvedFault}
use Rattle.module_laws.specs.TextFunctions.{HasFewInstructions}
use Rattle.module_laws.proofs.LawForms.{typed_module, text_functions}
use Rattle.module_laws.proofs.ReadTexts.{text-lines, seen-again}
use Rattle.module_laws.proofs.ReadLaw.{read_law}

module _ (form : Form) (text : List ℕ) (readings : List Numbered) (small : length text ≤ 16777216) (read : readings_in form text ≡ Ok readings)
    (none : HasNoResolvedFault form (lines_of readings)) where
  -- what it stands for is a typed module
  pub text_typed : IsTypedModule form (module_of form (lines_of readings)).content
  text_typed = typed_module form (lines_of readings) (read_law form text readings small read) (text-lines form text readings small read) none

  -- and each of its functions has few instructions
  pub text_made : All HasFewInstructions (module_of form (lines_of readings)).content.funcs
  text_made = text_functions form (lines_of readings) (read_law form text readings small read) none

-- and so of what a reader gave
pub whole_typed : (r : Readings) → IsRead r → (whole : LinedModule) → whole ≡ module_of r.form (seen_lines r.lines) → HasNoResolvedFault r.form (seen_lines r.lines)
    → IsTypedModule r.form whole.content
whole_typed r read whole is =
    subst (λ (one : LinedModule). HasNoResolvedFault r.form (seen_lines r.lines) → IsTypedModule r.form one.content) (sym is)
    (subst (λ (ls : List Line). HasNoResolvedFault r.form ls → IsTypedModule r.form (module_of r.form ls).content) (seen-again r.lines)
    (text_typed r.form r.text (map seen_numbered r.lines) read.small read.lines))

pub whole_functions : (r : Readings) → IsRead r → (whole : LinedModule) → whole ≡ module_of r.form (seen_lines r.lines) → HasNoResolvedFault r.form (seen_lines r.lines)
    → All HasFewInstructions whole.content.funcs
whole_functions r read whole is =
    subst (λ (one : LinedModule). HasNoResolvedFault r.form (seen_lines r.lines) → All HasFewInstructions one.content.funcs) (sym is)
    (subst (λ (ls : List Line). HasNoResolvedFault r.form ls → All HasFewInstructions (module_of r.form ls).content.funcs) (seen-again r.lines)
    (text_made r.form r.text (map seen_numbered r.lines) read.small read.lines))
