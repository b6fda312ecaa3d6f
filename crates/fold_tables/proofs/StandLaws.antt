-- What can stand for the result of an instruction.
use Rattle.std.proofs.Common.{◌≡◌, ◌∙◌, ℕ, Bool, true, false, if◌then◌else◌, List, [], ◌∷◌, map, refl, sym, ap, subst}
use Rattle.std.specs.Prelude.{Some, None, nat_lt}
use Rattle.std.proofs.lemmas.Option.{none-some}
use Rattle.ir_ast.specs.declared.ops.Op.TheVariants as ops
use Rattle.ir_ast.specs.declared.ops.Operand.{Operand}
use Rattle.ir_ast.specs.declared.ops.Operand.TheVariants.{Fun, Int, Null, Value}
use Rattle.ir_ast.specs.Insts.{Instruction}
use Rattle.object_meaning.specs.Registers.{value}
use Rattle.folded_forms.specs.Foldable.{chosen}
use Rattle.folded_forms.specs.Folded.{Table, stands_for}
use Rattle.folded_forms.specs.Foldings.{Folds, by_choice, by_operator}
use Rattle.fold_tables.specs.Actions.{GivesLiteral}

-- ---- literals

pub literal_folds : (table : Table) (value : ℕ) (inst : Instruction) (literal : ℕ) → GivesLiteral inst.op inst.ty (map (stands_for table) inst.operands) literal
    → Folds table value inst (Int literal)
literal_folds table value inst literal given = by_operator literal given.computing given.literals given.gives

-- ---- choices

chosen_by : (table : Table) (value : ℕ) (inst : Instruction) (asked first second : Operand) → inst.op ≡ ops.Select → inst.operands ≡ asked ∷ first ∷ second ∷ []
    → (under : Operand) → stands_for table asked ≡ under → (to : Operand) → chosen (under ∷ stands_for table first ∷ stands_for table second ∷ []) ≡ Some to
    → Folds table value inst to
chosen_by table value inst asked first second op operands (Int condition) is to chooses =
    let by : (b : Bool) → (if b then stands_for table first else stands_for table second) ≡ stands_for table (if b then first else second) =
    λ b. elim b as (λ v. (if v then stands_for table first else stands_for table second) ≡ stands_for table (if v then first else second)) [ true ↦ refl | false ↦ refl ] in
    let same : stands_for table (if nat_lt 0 condition then first else second) ≡ to = sym (by (nat_lt 0 condition)) ∙ some_same _ _ chooses in
    subst (Folds table value inst) same (by_choice asked first second condition op operands is)
  where
    some_same : (one other : Operand) → Some one ≡ Some other → one ≡ other
    some_same one other same = cc
chosen_by table value inst asked first second op operands (Value id) is to chooses = absurd cc
chosen_by table value inst asked first second op operands Null is to chooses = absurd cc
chosen_by table value inst asked first second op operands (Fun func) is to chooses = absurd cc

none_of_one : (a : Operand) → chosen (a ∷ []) ≡ None
none_of_one (Int condition) = refl
none_of_one (Value id) = refl
none_of_one Null = refl
none_of_one (Fun func) = refl

none_of_two : (a b : Operand) → chosen (a ∷ b ∷ []) ≡ None
none_of_two (Int condition) b = refl
none_of_two (Value id) b = refl
none_of_two Null b = refl
none_of_two (Fun func) b = refl

not_chosen : (a b c d : Operand) (rest : List Operand) → chosen (a ∷ b ∷ c ∷ d ∷ rest) ≡ None
not_chosen (Int condition) b c d rest = refl
not_chosen (Value id) b c d rest = refl
not_chosen Null b c d rest = refl
not_chosen (Fun func) b c d rest = refl

pub chosen_folds : (table : Table) (value : ℕ) (inst : Instruction) (to : Operand) → inst.op ≡ ops.Select
    → chosen (map (stands_for table) inst.operands) ≡ Some to → Folds table value inst to
chosen_folds table value inst to op chooses = by inst.operands refl
  where
    by : (operands : List Operand) → inst.operands ≡ operands → Folds table value inst to
    by (asked ∷ first ∷ second ∷ []) are =
        let under : chosen (stands_for table asked ∷ stands_for table first ∷ stands_for table second ∷ []) ≡ Some to =
        ap (λ (os : List Operand). chosen (map (stands_for table) os)) (sym are) ∙ chooses in
        chosen_by table value inst asked first second op are (stands_for table asked) refl to under
    by [] are = absurd (none-some to (ap (λ (os : List Operand). chosen (map (stands_for table) os)) (sym are) ∙ chooses))
    by (asked ∷ []) are = absurd (none-some to (sym (none_of_one (stands_for table asked)) ∙ (ap (λ (os : List Operand). chosen (map (stands_for table) os)) (sym are) ∙ chooses)))
    by (asked ∷ first ∷ []) are =
        absurd (none-some to (sym (none_of_two (stands_for table asked) (stands_for table first)) ∙ (ap (λ (os : List Operand). chosen (map (stands_for table) os)) (sym are) ∙ chooses)))
    by (asked ∷ first ∷ second ∷ more ∷ rest) are =
        absurd (none-some to (sym (not_chosen (stands_for table asked) (stands_for table first) (stands_for table second) (stands_for table more) (map (stands_for table) rest))
        ∙ (ap (λ (os : List Operand). chosen (map (stands_for table) os)) (sym are) ∙ chooses)))
