-- Foldings and thinnings of a source module's functions are settled tables.
use Rattle.std.proofs.Common.{◌≡◌, ℕ, suc, Bool, true, false, not, ◌&&◌, List, [], ◌∷◌, length, map, refl, sym, ap, subst, ◌∙◌, inl, inr}
use Rattle.std.specs.Prelude.{Some, slice_get}
use Rattle.std.specs.List.{AllZip, Contains}
use Rattle.std.proofs.lemmas.Bool.{cases_Bool, cases_lt, false≢true}
use Rattle.list_laws.proofs.Contents.{contains_get}
use Rattle.list_laws.proofs.Places.{get_front}
use Rattle.ir_ast.specs.declared.ops.Operand.{Operand}
use Rattle.ir_ast.specs.declared.ops.Operand.TheVariants.{Fun, Int, Null, Value}
use Rattle.ir_ast.specs.declared.types.Ty.{Ty}
use Rattle.ir_ast.specs.Blocks.{BasicBlock}
use Rattle.ir_ast.specs.Funcs.{Function, instructions_of}
use Rattle.ir_ast.specs.Insts.{Instruction}
use Rattle.ir_ast.specs.Modules.{ModuleContent}
use Rattle.ir_ast.specs.Operands.{named, operands_of, value_in, values_used}
use Rattle.ir_ast.specs.Values.{value_types}
use Rattle.ir_ast.specs.Faults.GroupShape.{number_at}
use Rattle.ir_ast.specs.Faults.TypeClash.{Fits}
use Rattle.ir_cfg.specs.DefiniteUses.{IsDefinite, Uses, UsesAreDefinite, by_entry, by_line, in_arguments}
use Rattle.ir_cfg.specs.SourceModules.{IsSourceModule}
use Rattle.ir_cfg.proofs.UsedLaws.{use_within}
use Rattle.definite_assign.proofs.TextLemmas.{stands_in_text}
use Rattle.base_definite.proofs.MeetLaws.{meets_or_not}
use Rattle.base_definite.proofs.base_paths.UndefinedLaws.{undefined_unused}
use Rattle.known_values.specs.Texts.{UsesAreDefined}
use Rattle.folded_forms.specs.Folded.{Table, stands_for, stays}
use Rattle.folded_forms.specs.Foldings.{IsFolding, IsThinning}
use Rattle.folded_forms.specs.Known.{PhisMeetEdges}
use Rattle.folded_forms.proofs.PhiLaws.{phis_meet_edges}
use Rattle.folded_forms.proofs.SupportLaws.{without}
use Rattle.folded_forms.proofs.TableLaws.{gone_high, is_same, names_value, same_number, stays_is}
use Rattle.folded_forms.specs.Simplified.{SameBlock, SameFunction}
use Rattle.folded_source.specs.Statements.{FoldedAndThinnedStaysSource, FoldedStaysSource, IsUnder, ModuleIsUnder, ThinnedStaysSource}
use Rattle.folded_source.proofs.FunctionLaws.{IsOfSource}
use Rattle.folded_source.proofs.LineLaws.{line_stays}
use Rattle.folded_source.proofs.ModuleLaws.{of_source, stays_source}
use Rattle.folded_source.proofs.Settled.{IsSettled, IsSettledOperand, operand_used}

-- the line of a use, which uses the value
record UserOf (func : Function) (line value : ℕ) : Type 0 where
  pub inst : Instruction
  pub at : slice_get (instructions_of func.blocks) line ≡ Some inst
  pub used : Contains (values_used inst) value

user_of : (func : Function) (line value block place : ℕ) → Uses func line value block place → UserOf func line value
user_of func _ _ _ _ (by_line number place value inst stands no_phi used) = record { inst = inst; at = stands_in_text func number place inst stands; used = used }
user_of func _ _ _ _ (by_entry number place entry value phi operand label from stands is_one label_at operand_at value_at found) =
    let inside = contains_get (operands_of phi) entry operand (get_front phi.operands (map (λ (each : Ty × Operand). each.1) phi.bundle) entry operand operand_at) in
    record { inst = phi; at = stands_in_text func number place phi stands; used = operand_used phi operand value inside (names operand value value_at) }
  where
    names : (operand : Operand) (value : ℕ) → value_in operand ≡ Some value → operand ≡ named value
    names (Value id) value is = (let same : id.0 ≡ value = cc in ap (λ (n : ℕ). named n) same)
    names (Int literal) value is = absurd cc
    names Null value is = absurd cc
    names (Fun called) value is = absurd cc

-- ---- foldings

module _ (func : Function) (table : Table) (folding : IsFolding func table) (definite : UsesAreDefinite func) (phis : PhisMeetEdges func) where
  defined : UsesAreDefined func
  defined line value block place used high undefined = undefined_unused func definite value high line block place used undefined

  typed_there : (operand : Operand) (ty : Ty) → Fits (value_types func) operand ty → Fits (value_types func) (stands_for table operand) ty
  typed_there (Value id) ty fits = folding.typed id.0 ty fits
  typed_there (Int literal) ty fits = fits
  typed_there Null ty fits = fits
  typed_there (Fun called) ty fits = fits

  settled_operand : (operand : Operand) → IsSettledOperand func table operand
  settled_operand operand = record {
    stays_here = λ to is.
        let own = names_value table operand to is in
        let there : stands_for table (named own.0) ≡ named to = ap (stands_for table) (sym own.1) ∙ is in
        is_same to (stands_for table (named to)) (ap (stands_for table) (sym there) ∙ (folding.closed own.0 ∙ there));
    fits = typed_there operand;
    derived = λ to is derived.
        let own = names_value table operand to is in
        (own.0, own.1, folding.derived own.0 to (ap (stands_for table) (sym own.1) ∙ is) derived);
  }

  -- what stands for a used value is defined on each path to the use
  settled_use : (line value block place : ℕ) → Uses func line value block place → (to : ℕ) → stands_for table (named value) ≡ named to → IsDefinite func to block place
  settled_use line value block place used to is = λ path leads. elim (cases_lt to (length func.args)) [
    | inl below ↦ in_arguments below
    | inr high ↦
        let own = use_within func line value block place used in
        elim (meets_or_not func to path block place own.0 leads own.1 own.2) [
          | inl meets ↦ meets
          | inr undefined ↦ absurd (elim (cases_Bool (stays table value)) [
            | inl stay ↦
                let same : value ≡ to = same_number value to (sym (stays_is table value stay) ∙ is) in
                defined line to block place (subst (λ (v : ℕ). Uses func line v block place) same used) high undefined
            | inr gone ↦
                let others = (without func table folding defined phis to high block place undefined).others in
                defined line value block place used (gone_high func table folding value gone) (others value gone is)
          ])
        ]
  ]

  settled_folding : IsSettled func table
  settled_folding = record {
    arguments = folding.arguments;
    operands = λ place inst at stay operand inside. settled_operand operand;
    definite = λ line value block place used stay to is. settled_use line value block place used to is;
  }

-- ---- thinnings

module _ (func : Function) (table : Table) (thinning : IsThinning func table) (definite : UsesAreDefinite func) where
  used_stays : (place : ℕ) (user : Instruction) → slice_get (instructions_of func.blocks) place ≡ Some user → line_stays table (number_at func place) user ≡ true
      → (value : ℕ) → Contains (values_used user) value → stays table value ≡ true
  used_stays place user at stay value used = elim (cases_Bool (stays table value)) [
    | inl here ↦ here
    | inr gone ↦
        let goes = thinning.unused value gone place user at used in
        let none : line_stays table (number_at func place) user ≡ false =
        ap (λ (given : Bool). not (given && not (stays table (number_at func place)))) goes.0 ∙ ap (λ (mark : Bool). not (not mark)) goes.1 in
        absurd (false≢true (sym none ∙ stay))
  ]

  -- what a line that stays uses stands for itself
  itself : (operand : Operand) → ((own : ℕ) → operand ≡ named own → stays table own ≡ true) → stands_for table operand ≡ operand
  itself (Value id) stay = stays_is table id.0 (stay id.0 refl)
  itself (Int literal) stay = refl
  itself Null stay = refl
  itself (Fun called) stay = refl

  thinned_operand : (operand : Operand) → ((own : ℕ) → operand ≡ named own → stays table own ≡ true) → IsSettledOperand func table operand
  thinned_operand operand stay =
      let same = itself operand stay in
      record {
        stays_here = λ to is. stay to (sym same ∙ is);
        fits = λ ty fits. subst (λ (o : Operand). Fits (value_types func) o ty) (sym same) fits;
        derived = λ to is derived. (to, sym same ∙ is, derived);
      }

  settled_thinning : IsSettled func table
  settled_thinning = record {
    arguments = thinning.arguments;
    operands = λ place inst at stay operand inside. thinned_operand operand (λ own names. used_stays place inst at stay own (operand_used inst operand own inside names));
    definite = λ line value block place used stay to is.
        let user = user_of func line value block place used in
        let here = used_stays line user.inst user.at (stay user.inst user.at) value user.used in
        let same : value ≡ to = same_number value to (sym (stays_is table value here) ∙ is) in
        subst (λ (v : ℕ). IsDefinite func v block place) same (definite line value block place used);
  }

-- ---- the module

-- tables of functions of a source module are settled where these are
settled_each : (Holds : Function → Table → Type 0) (content : ModuleContent) → ((func : Function) (table : Table) → IsOfSource content func → Holds func table → IsSettled func table)
    → (funcs after : List Function) → ((place : ℕ) (func : Function) → slice_get funcs place ≡ Some func → IsOfSource content func)
    → AllZip (IsUnder Holds) funcs after → AllZip (IsUnder (λ func table. IsSettled func table)) funcs after
settled_each Holds content settle [] [] of zip = tt
settled_each Holds content settle [] (new ∷ after) of zip = absurd zip
settled_each Holds content settle (func ∷ funcs) [] of zip = absurd zip
settled_each Holds content settle (func ∷ funcs) (new ∷ after) of zip = (
  record { table = (zip.0).table; holds = settle func (zip.0).table (of 0 func refl) (zip.0).holds; is = (zip.0).is },
  settled_each Holds content settle funcs after (λ place each at. of (suc place) each at) zip.1,
)

settled_module : (Holds : Function → Table → Type 0) (content after : ModuleContent) (source : IsSourceModule content)
    → ((func : Function) (table : Table) → IsOfSource content func → Holds func table → IsSettled func table)
    → ModuleIsUnder Holds content after → ModuleIsUnder (λ func table. IsSettled func table) content after
settled_module Holds content after source settle under = record {
  layouts = under.layouts;
  form = under.form;
  functions = settled_each Holds content settle content.funcs after.funcs (λ place func at. of_source content source place func at) under.functions;
}

pub folded_stays_source : FoldedStaysSource
folded_stays_source content after source under =
    stays_source content after source (settled_module IsFolding content after source (λ func table of folding.
    settled_folding func table folding of.definite (phis_meet_edges func of.typed (of.faultless).entry (of.faultless).phis)) under)

pub thinned_stays_source : ThinnedStaysSource
thinned_stays_source content after source under =
    stays_source content after source (settled_module IsThinning content after source (λ func table of thinning. settled_thinning func table thinning of.definite) under)

-- ---- one after the other

zip_through : {A : Type 0} (R : A → A → Type 0) → ((one two three : A) → R one two → R two three → R one three) → (xs ys zs : List A) → AllZip R xs ys → AllZip R ys zs → AllZip R xs zs
zip_through R through [] [] [] first second = tt
zip_through R through [] [] (z ∷ zs) first second = absurd second
zip_through R through [] (y ∷ ys) zs first second = absurd first
zip_through R through (x ∷ xs) [] zs first second = absurd first
zip_through R through (x ∷ xs) (y ∷ ys) [] first second = absurd second
zip_through R through (x ∷ xs) (y ∷ ys) (z ∷ zs) first second = (through x y z first.0 second.0, zip_through R through xs ys zs first.1 second.1)

block_through : (one two three : BasicBlock) → SameBlock one two → SameBlock two three → SameBlock one three
block_through one two three first second = record { name = second.name ∙ first.name; labels = second.labels ∙ first.labels }

function_through : (one two three : Function) → SameFunction one two → SameFunction two three → SameFunction one three
function_through one two three first second = record {
  name = second.name ∙ first.name;
  answer = second.answer ∙ first.answer;
  args = second.args ∙ first.args;
  blocks = zip_through SameBlock block_through one.blocks two.blocks three.blocks first.blocks second.blocks;
}

pub folded_and_thinned_stays_source : FoldedAndThinnedStaysSource
folded_and_thinned_stays_source content between after source folds thins =
    let first = folded_stays_source content between source folds in
    let second = thinned_stays_source between after first.source thins in
    record { source = second.source; functions = zip_through SameFunction function_through content.funcs between.funcs after.funcs first.functions second.functions }
