-- Instructions that are all that stands for them.
use Rattle.std.proofs.Common.{◌≡◌, ◌∙◌, ℕ, Bool, true, false, not, ◌&&◌, if◌then◌else◌, List, [], ◌∷◌, ◌++◌, refl, ap}
use Rattle.std.specs.Prelude.{map}
use Rattle.std.specs.List.{list_all}
use Rattle.std.proofs.lemmas.Bool.{false≢true}
use Rattle.ir_ast.specs.declared.ops.Pred.{Pred}
use Rattle.ir_ast.specs.declared.ops.Op.{Op}
use Rattle.ir_ast.specs.declared.ops.Op.TheVariants.{Icmp, Select, Phi, Load, Store}
use Rattle.ir_ast.specs.Insts.{Instruction}
use Rattle.ir_ast.specs.Derived.{is_merge}
use Rattle.object_meaning.specs.Lines.{following}
use Rattle.base_forms.specs.Lines.{Insertion, kept_line, compared, lines_for, based_insts}
use Rattle.base_infer.specs.Before.{stands_alone}

module _ (given : Insertion) where
  no_base : (merges derived : Bool) (line kept : Instruction) → not derived ≡ true
      → (if merges && derived then line ∷ [] else []) ++ kept ∷ [] ≡ kept ∷ []
  no_base true true line kept is = absurd (false≢true is)
  no_base true false line kept is = refl
  no_base false derived line kept is = refl

  plain_alone : (next : ℕ) (inst : Instruction) (pred : Pred) (derived : Bool) → not derived ≡ true
      → (if derived then compared given next inst pred else kept_line given inst ∷ []) ≡ kept_line given inst ∷ []
  plain_alone next inst pred true is = absurd (false≢true is)
  plain_alone next inst pred false is = refl

  alone_line : (next : ℕ) (inst : Instruction) (op : Op) → stands_alone given inst op ≡ true
      → lines_for given next inst op ≡ kept_line given inst ∷ []
  alone_line next inst Phi is = no_base (is_merge inst.op) (given.uses_derived inst) _ (kept_line given inst) is
  alone_line next inst Select is = no_base (is_merge inst.op) (given.uses_derived inst) _ (kept_line given inst) is
  alone_line next inst (Icmp pred) is = plain_alone next inst pred (given.uses_derived inst) is
  alone_line next inst Load is = absurd (false≢true is)
  alone_line next inst Store is = absurd (false≢true is)
  alone_line next inst op is = refl

  both_parts : (first rest : Bool) → (first && rest) ≡ true → (first ≡ true) × (rest ≡ true)
  both_parts true rest is = (refl, is)
  both_parts false rest is = absurd (false≢true is)

  -- instructions that all stand alone
  pub alone_insts : (next : ℕ) (insts : List Instruction) → list_all (λ inst. stands_alone given inst inst.op) insts ≡ true
      → based_insts given next insts ≡ map (kept_line given) insts
  alone_insts next [] all = refl
  alone_insts next (inst ∷ insts) all =
      let both = both_parts (stands_alone given inst inst.op) (list_all (λ inst. stands_alone given inst inst.op) insts) all in
      ap (λ (lines : List Instruction). lines ++ based_insts given (following next inst) insts) (alone_line next inst inst.op both.0)
      ∙ ap (λ (lines : List Instruction). kept_line given inst ∷ lines) (alone_insts (following next inst) insts both.1)
