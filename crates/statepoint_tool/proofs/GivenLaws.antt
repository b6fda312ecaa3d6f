-- What files may give, over the parts of a call.
use Rattle.std.proofs.Common.{◌≡◌, ℕ, Bool, true, false, cond, List, [], length, Option, Some, None, refl, arith}
use Rattle.std.specs.Prelude.{nat_le}
use Rattle.std.proofs.lemmas.Bool.Decides.{nat_tests}
use Rattle.tool_io.specs.Counts.{NoneFell}
use Rattle.tool_io.proofs.CountLaws.{Rose-then-none_fell, Rose-after-none_fell}
use Rattle.statepoint_tool.specs.Work.{MayGiveFile, MayGiveMap, MayGiveFromPlan, MayGiveFromInput, map_named}
use Rattle.statepoint_tool.specs.declared.engine.Engine.{Engine}
use Rattle.statepoint_tool.specs.Taken.{Taken, Bytes, Longer, Faulty, FilesSeen, files_seen, MayGive}

-- what told contents give
abbrev pub given_within : List ℕ → Taken
given_within told = cond (nat_le (length told) 16777216) (Bytes told) Longer

-- what a file gives by its contents where they are told, and else no bytes
abbrev pub given_by : Option (List ℕ) → Taken
given_by None = Bytes []
given_by (Some told) = given_within told

abbrev pub as_told : FilesSeen → List ℕ → Taken
as_told files name = given_by (files.contents name)

MayGive-within : (files : FilesSeen) (name told : List ℕ) → files.contents name ≡ Some told →
    (fits : Bool) → nat_le (length told) 16777216 ≡ fits → MayGive files name (cond fits (Bytes told) Longer)
MayGive-within files name told is true fits = (grind (arith, nat_tests), rw is refl)
MayGive-within files name told is false fits = rw is (grind (arith, nat_tests))

MayGive-given_by : (files : FilesSeen) (name : List ℕ) (contents : Option (List ℕ)) → files.contents name ≡ contents →
    MayGive files name (given_by contents)
MayGive-given_by files name None is = (omega arith, rw is tt)
MayGive-given_by files name (Some told) is = MayGive-within files name told is (nat_le (length told) 16777216) refl

-- a file may give what is told of it
pub MayGive-as_told : (files : FilesSeen) (name : List ℕ) → MayGive files name (as_told files name)
MayGive-as_told files name = MayGive-given_by files name (files.contents name) refl

-- what a file gave in a part of a call it gave in the whole call: no count fell after that part
pub MayGive-later : (contents : List ℕ → Option (List ℕ)) (before mid after : List ℕ → ℕ) (name : List ℕ) (given : Taken) →
    MayGive (files_seen contents before mid) name given → NoneFell mid after → MayGive (files_seen contents before after) name given
MayGive-later contents before mid after name (Bytes bytes) may stayed = may
MayGive-later contents before mid after name Longer may stayed = may
MayGive-later contents before mid after name Faulty may stayed = Rose-then-none_fell (before name) name may stayed

-- and none fell before it, nor did the contents change
pub MayGive-earlier : (contents others : List ℕ → Option (List ℕ)) (before mid after : List ℕ → ℕ) (name : List ℕ) (given : Taken) →
    others ≡ contents → NoneFell before mid → MayGive (files_seen others mid after) name given → MayGive (files_seen contents before after) name given
MayGive-earlier contents others before mid after name (Bytes bytes) kept stayed may = rw kept at may
MayGive-earlier contents others before mid after name Longer kept stayed may = rw kept at may
MayGive-earlier contents others before mid after name Faulty kept stayed may = Rose-after-none_fell (after name) name stayed may

-- ---- the files of a run

-- what a file gives, where one is named
abbrev pub file_as_told : FilesSeen → Option (List ℕ) → Taken
file_as_told files None = Bytes []
file_as_told files (Some name) = as_told files name

pub MayGiveFile-as_told : (files : FilesSeen) (file : Option (List ℕ)) → MayGiveFile files file (file_as_told files file)
MayGiveFile-as_told files None = tt
MayGiveFile-as_told files (Some name) = MayGive-as_told files name

-- what the stack map gives that a run takes
abbrev pub map_as_told : FilesSeen → Engine → Taken
map_as_told files engine = file_as_told files (map_named engine)

pub MayGiveMap-as_told : (files : FilesSeen) (engine : Engine) → MayGiveMap files engine (map_as_told files engine)
MayGiveMap-as_told files engine = MayGiveFile-as_told files (map_named engine)

abbrev pub from_plan_as_told : FilesSeen → List ℕ → Engine → Taken × Taken
from_plan_as_told files plan engine = (as_told files plan, map_as_told files engine)

pub MayGiveFromPlan-as_told : (files : FilesSeen) (plan : List ℕ) (engine : Engine) → MayGiveFromPlan files plan engine (from_plan_as_told files plan engine)
MayGiveFromPlan-as_told files plan engine = (MayGive-as_told files plan, MayGiveMap-as_told files engine)

abbrev pub from_input_as_told : FilesSeen → List ℕ → List ℕ → Engine → Taken × (Taken × Taken)
from_input_as_told files input plan engine = (as_told files input, from_plan_as_told files plan engine)

pub MayGiveFromInput-as_told : (files : FilesSeen) (input plan : List ℕ) (engine : Engine) → MayGiveFromInput files input plan engine (from_input_as_told files input plan engine)
MayGiveFromInput-as_told files input plan engine = (MayGive-as_told files input, MayGiveFromPlan-as_told files plan engine)

module _ (contents others : List ℕ → Option (List ℕ)) (before mid after : List ℕ → ℕ) (kept : others ≡ contents) (stayed : NoneFell before mid) where
  MayGiveFile-earlier : (file : Option (List ℕ)) (given : Taken) → MayGiveFile (files_seen others mid after) file given → MayGiveFile (files_seen contents before after) file given
  MayGiveFile-earlier None given may = tt
  MayGiveFile-earlier (Some name) given may = MayGive-earlier contents others before mid after name given kept stayed may

  pub MayGiveMap-earlier : (engine : Engine) (given : Taken) → MayGiveMap (files_seen others mid after) engine given → MayGiveMap (files_seen contents before after) engine given
  MayGiveMap-earlier engine given may = MayGiveFile-earlier (map_named engine) given may

  pub MayGiveFromPlan-earlier : (plan : List ℕ) (engine : Engine) (given : Taken × Taken) → MayGiveFromPlan (files_seen others mid after) plan engine given
      → MayGiveFromPlan (files_seen contents before after) plan engine given
  MayGiveFromPlan-earlier plan engine given may =
      (MayGive-earlier contents others before mid after plan given.0 kept stayed may.0, MayGiveMap-earlier engine given.1 may.1)

  pub MayGiveFromInput-earlier : (input plan : List ℕ) (engine : Engine) (given : Taken × (Taken × Taken)) → MayGiveFromInput (files_seen others mid after) input plan engine given
      → MayGiveFromInput (files_seen contents before after) input plan engine given
  MayGiveFromInput-earlier input plan engine given may =
      (MayGive-earlier contents others before mid after input given.0 kept stayed may.0, MayGiveFromPlan-earlier plan engine given.1 may.1)
