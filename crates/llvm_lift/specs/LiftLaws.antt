-- What is known of each answer.
use Rattle.std.specs.Prelude.{◌≡◌, ◌≤◌, ℕ, List, length, Result, Ok, Err}
use Rattle.ir_ast.specs.declared.modules.Form.{Form}
use Rattle.ir_ast.specs.declared.modules.Form.TheVariants.{Source}
use Rattle.ir_ast.specs.Modules.{ModuleContent}
use Rattle.ir_cfg.specs.TypedModules.{IsModuleOf}
use Rattle.ir_printer.specs.Texts.{text_of}
use Rattle.llvm_lift.specs.Texts.{StandsFor}
use Rattle.llvm_lift.specs.Lifted.{Answers}
use Rattle.llvm_lift.specs.declared.refusals.Refusal.{Refusal}
use Rattle.llvm_lift.specs.declared.refusals.Refusal.TheVariants.{Memory}

-- this answer, or want of memory
abbrev pub IsAnswer : List ℕ → Result (List ℕ) Refusal → Type 0
IsAnswer out (Ok answered) = answered ≡ out
IsAnswer out (Err refusal) = refusal ≡ Memory

-- Texts of the profile are left alone: of a text that stands for a source module the answer is what `show` writes of it.
abbrev pub ProfileIsLeft : Type 0
ProfileIsLeft = (text : List ℕ) (content : ModuleContent) (answer : Result (List ℕ) Refusal)
    → StandsFor Source text content → Answers (λ given. given) text answer → IsAnswer (text_of content) answer

-- What `show` writes of a source module comes out as it went in.
abbrev pub ShownIsLeft : Type 0
ShownIsLeft = (content : ModuleContent) (answer : Result (List ℕ) Refusal)
    → IsModuleOf Source content → length (text_of content) ≤ 16777216
    → Answers (λ given. given) (text_of content) answer → IsAnswer (text_of content) answer

-- an answer is the printed text of a module of its form, for which it stands
pub record IsReadAndTyped (out : List ℕ) : Type 0 where
  pub form : Form
  pub content : ModuleContent
  pub is_module : IsModuleOf form content
  pub stands : StandsFor form out content
  pub is : out ≡ text_of content

abbrev pub AnswersAreTyped : Type 0
AnswersAreTyped = (text out : List ℕ) → length text ≤ 16777216 → length out ≤ 16777216 → Answers (λ given. given) text (Ok out) → IsReadAndTyped out

-- What was answered is given again.
abbrev pub AnswersAreLeft : Type 0
AnswersAreLeft = (text out : List ℕ) (answer : Result (List ℕ) Refusal)
    → length text ≤ 16777216 → length out ≤ 16777216 → Answers (λ given. given) text (Ok out) → Answers (λ given. given) out answer → IsAnswer out answer
