-- What lifting answers.
use Rattle.std.specs.Prelude.{◌≡◌, ◌≤◌, ◌<◌, ℕ, List, ◌++◌, length, Result, Ok, Err, ⊤, ◌⊎◌}
use Rattle.std.specs.List.{All}
use Rattle.ir_ast.specs.declared.modules.Form.{Form}
use Rattle.ir_ast.specs.declared.modules.Form.TheVariants.{Source, Rewritten}
use Rattle.llvm_features.specs.declared.features.Reason.{Reason}
use Rattle.llvm_features.specs.declared.features.Feature.TheVariants.{NoLayout}
use Rattle.llvm_features.specs.Features.{reasons_of}
use Rattle.llvm_lift.specs.Texts.{IsNone, IsPrinted, HasFault}
use Rattle.llvm_lift.specs.declared.front.Judged.{Judged}
use Rattle.llvm_lift.specs.declared.front.Judged.TheVariants.{Printed, Faulty}
use Rattle.llvm_lift.specs.declared.refusals.Refusal.{Refusal}
use Rattle.llvm_lift.specs.declared.refusals.Refusal.TheVariants as refusals

-- What a text of the profile becomes: its module's printed text, and where that is of the source form too, what it is printed as there.
pub data Settles (text out : List ℕ) : Type 0 where
  source : IsPrinted Source text out → Settles text out
  rewritten : IsNone Source text → IsPrinted Rewritten text out → length out ≤ 16777216 → IsNone Source out → Settles text out
  both : IsNone Source text → (shown : List ℕ) → IsPrinted Rewritten text shown → length shown ≤ 16777216 → IsPrinted Source shown out → Settles text out

-- a text that is of neither form
pub record IsOutside (text : List ℕ) : Type 0 where
  pub source : IsNone Source text
  pub rewritten : IsNone Rewritten text

-- a text of the rewritten form alone whose printed text is longer than the limit
pub record IsTooLong (text : List ℕ) : Type 0 where
  pub source : IsNone Source text
  pub shown : List ℕ
  pub printed : IsPrinted Rewritten text shown
  pub long : 16777216 < length shown

abbrev pub IsSettled : List ℕ → Result Judged Refusal → Type 0
IsSettled text (Ok (Printed out)) = Settles text out.items
IsSettled text (Ok (Faulty fault)) = IsOutside text × HasFault Rewritten text fault.line fault.code
IsSettled text (Err refusals.Memory) = ⊤
IsSettled text (Err refusals.TooLong) = IsTooLong text
IsSettled text (Err _) = ⊥

-- what a text outside the profile was lifted to, which is one of the profile
pub record IsLiftedTo (text out : List ℕ) : Type 0 where
  pub outside : IsOutside text
  pub lifted : List ℕ
  pub small : length lifted ≤ 16777216
  pub settles : Settles lifted out

pub data IsLift (text out : List ℕ) : Type 0 where
  left : Settles text out → IsLift text out
  lifted : IsLiftedTo text out → IsLift text out

-- a fault of what a text outside the profile was lifted to
pub record FaultOfLifted (text : List ℕ) (code : ℕ) : Type 0 where
  pub outside : IsOutside text
  pub form : Form
  pub lifted : List ℕ
  pub line : ℕ
  pub fault : HasFault form lifted line code

-- the text as it stands, or in a plainer spelling, without quotes around names
pub data IsSpelling (text : List ℕ) : List ℕ → Type 0 where
  as_it_stands : IsSpelling text text
  plainer : (plain : List ℕ) → IsSpelling text plain

-- Why a text isn't lifted: all lines that tell a feature by their words, and then declarations of objects whose layout is nowhere.
pub record AreReasons (text : List ℕ) (reasons : List Reason) : Type 0 where
  pub plain : List ℕ
  pub spelling : IsSpelling text plain
  pub missing : List Reason
  pub is : reasons ≡ reasons_of plain ++ missing
  pub lack : All (λ reason. reason.feature ≡ NoLayout) missing
  pub some : 0 < length reasons

-- what was returned, seen by view
abbrev pub Answers : {X : Type 0} → (X → List ℕ) → List ℕ → Result X Refusal → Type 0
Answers view text (Ok out) = IsLift text (view out)
Answers view text (Err (refusals.Outside reasons)) = IsOutside text × AreReasons text reasons.items
Answers view text (Err (refusals.Fault fault)) = FaultOfLifted text fault.code
Answers view text (Err refusals.TooLong) = IsTooLong text ⊎ IsOutside text
Answers view text (Err refusals.Memory) = ⊤

-- ---- the parts of the work

-- the printed text of a text of the rewritten form, or of the module of the source form that it stands for as well
abbrev pub IsAgain : List ℕ → Result Judged Refusal → Type 0
IsAgain shown (Ok (Printed out)) = (length shown ≤ 16777216) × (((out.items ≡ shown) × IsNone Source shown) ⊎ IsPrinted Source shown out.items)
IsAgain shown (Ok (Faulty fault)) = ⊥
IsAgain shown (Err refusals.Memory) = ⊤
IsAgain shown (Err refusals.TooLong) = 16777216 < length shown
IsAgain shown (Err _) = ⊥

-- what is made of a text outside the profile
pub record IsMade (out : List ℕ) : Type 0 where
  pub lifted : List ℕ
  pub small : length lifted ≤ 16777216
  pub settles : Settles lifted out

pub record IsFaultOfMade (code : ℕ) : Type 0 where
  pub form : Form
  pub lifted : List ℕ
  pub line : ℕ
  pub fault : HasFault form lifted line code

-- these reasons are told, the missing ones behind the others
abbrev pub IsRefusal : List Reason → List Reason → Refusal → Type 0
IsRefusal reasons missing (refusals.Outside all) = (all.items ≡ reasons ++ missing) × (0 < length all.items)
IsRefusal reasons missing refusals.Memory = ⊤
IsRefusal reasons missing _ = ⊥

abbrev pub IsMaking : {X : Type 0} → (X → List ℕ) → Result X Refusal → Type 0
IsMaking view (Ok out) = IsMade (view out)
IsMaking view (Err (refusals.Outside reasons)) = ⊥
IsMaking view (Err (refusals.Fault fault)) = IsFaultOfMade fault.code
IsMaking view (Err refusals.TooLong) = ⊤
IsMaking view (Err refusals.Memory) = ⊤

abbrev pub IsLifting : {X : Type 0} → (X → List ℕ) → List ℕ → Result X Refusal → Type 0
IsLifting view text (Ok out) = IsMade (view out)
IsLifting view text (Err (refusals.Outside reasons)) = AreReasons text reasons.items
IsLifting view text (Err (refusals.Fault fault)) = IsFaultOfMade fault.code
IsLifting view text (Err refusals.TooLong) = ⊤
IsLifting view text (Err refusals.Memory) = ⊤

-- what is said of a lifted text
abbrev pub IsJudgedLifted : List ℕ → Result Judged Refusal → Type 0
IsJudgedLifted text (Ok (Printed out)) = Settles text out.items
IsJudgedLifted text (Ok (Faulty fault)) = IsFaultOfMade fault.code
IsJudgedLifted text (Err refusals.Memory) = ⊤
IsJudgedLifted text (Err refusals.TooLong) = ⊤
IsJudgedLifted text (Err _) = ⊥

-- this refusal is a fault of the code
abbrev pub IsFaultOf : ℕ → Refusal → Type 0
IsFaultOf code (refusals.Fault fault) = fault.code ≡ code
IsFaultOf code _ = ⊥
