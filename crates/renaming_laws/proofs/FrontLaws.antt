-- The phis that stand first in a block, and the members that stand first behind a statepoint: their images stand first too, and
-- what they write together is the same.
use Rattle.std.proofs.Common.{◌≡◌, ◌==◌, ℕ, Bool, true, false, if◌then◌else◌, List, [], ◌∷◌, ◌++◌, map, refl, ap, ◌∙◌}
use Rattle.std.specs.Prelude.{Option, Some, None}
use Rattle.std.specs.List.{All, position}
use Rattle.std.specs.Option.{option_map, option_map_or}
use Rattle.ir_ast.specs.declared.types.Ty.{Ty}
use Rattle.ir_ast.specs.declared.ops.Callee.{Callee}
use Rattle.ir_ast.specs.declared.ops.Callee.TheVariants as callees
use Rattle.ir_ast.specs.declared.ops.Op.{Op}
use Rattle.ir_ast.specs.declared.ops.Op.TheVariants as ops
use Rattle.ir_ast.specs.declared.ops.Operand.{Operand}
use Rattle.ir_ast.specs.declared.ops.Pred.{Pred}
use Rattle.ir_ast.specs.Derived.{is_merge}
use Rattle.ir_ast.specs.Faults.PhiEdges.{is_phi}
use Rattle.ir_ast.specs.Objects.{Datum}
use Rattle.object_meaning.specs.Frames.{is_member, member_value, member_write}
use Rattle.object_meaning.specs.Jumps.{incoming, phi_write}
use Rattle.object_meaning.specs.Lines.{Line}
use Rattle.object_meaning.specs.Registers.{nothing, operand, put, put_all}
use Rattle.renaming_laws.specs.Renamed.{InRoom, IsLineOf, IsRenaming, Renaming, renamed, renamed_line}
use Rattle.renaming_laws.specs.Inserted.{Image, alone, as_negated, as_same, behind_check, behind_merge, pointer_place}
use Rattle.renaming_laws.specs.Images.{Images, more_lines, no_lines}
use Rattle.renaming_laws.proofs.ListLaws.{before, behind}
use Rattle.renaming_laws.proofs.RegisterLaws.{Kept, index_same, operand_kept, put_fresh, put_kept}

-- a class of lines of which no access, compare or call is one
pub record IsClass (test : Op → Bool) : Type 0 where
  pub call : (callee : Callee) (types : List Ty) → test (ops.Call callee types) ≡ false
  pub compare : (pred : Pred) → test (ops.Icmp pred) ≡ false
  pub load : test ops.Load ≡ false
  pub store : test ops.Store ≡ false

pub phis_class : IsClass is_phi
phis_class = record { call = λ callee types. refl; compare = λ pred. refl; load = refl; store = refl }

pub members_class : IsClass is_member
members_class = record { call = λ callee types. refl; compare = λ pred. refl; load = refl; store = refl }

abbrev pub tested : (Op → Bool) → Line → Bool
tested test line = test line.inst.op

access_fails : (test : Op → Bool) → IsClass test → (op : Op) (place : ℕ) → pointer_place op ≡ Some place → test op ≡ false
access_fails test class ops.Load place is = class.load
access_fails test class ops.Store place is = class.store
access_fails test class op place is = absurd cc

no_merge : (op : Op) → is_member op ≡ true → is_merge op ≡ true → ⊥
no_merge ops.GcResult member merge = cc
no_merge ops.GcRelocate member merge = cc
no_merge op member merge = cc

unlike : {A : Type 0} (b : Bool) → b ≡ true → b ≡ false → A
unlike b passes fails = absurd cc

module _ (test : Op → Bool) (class : IsClass test) (function : Renaming) (line : Line) (others : List Line) where
  passes_before : (group : List Line) → test line.inst.op ≡ true → Image function line group → before (tested test) (group ++ others) ≡ group ++ before (tested test) others
  passes_before _ is (alone name) = rw is refl
  passes_before _ is (behind_merge merge name kind op plain bare fresh) = rw (ap test op ∙ is) (rw is refl)
  passes_before _ is (behind_check types base address place name access at plain) = unlike (test line.inst.op) is (access_fails test class line.inst.op place access)
  passes_before _ is (as_same types base other_base first second name op ty operands plain) = unlike (test line.inst.op) is (ap test op ∙ class.compare _)
  passes_before _ is (as_negated types base other_base first second fresh same_name name op ty operands plain new within) = unlike (test line.inst.op) is (ap test op ∙ class.compare _)

  passes_behind : (group : List Line) → test line.inst.op ≡ true → Image function line group → behind (tested test) (group ++ others) ≡ behind (tested test) others
  passes_behind _ is (alone name) = rw is refl
  passes_behind _ is (behind_merge merge name kind op plain bare fresh) = rw (ap test op ∙ is) (rw is refl)
  passes_behind _ is (behind_check types base address place name access at plain) = unlike (test line.inst.op) is (access_fails test class line.inst.op place access)
  passes_behind _ is (as_same types base other_base first second name op ty operands plain) = unlike (test line.inst.op) is (ap test op ∙ class.compare _)
  passes_behind _ is (as_negated types base other_base first second fresh same_name name op ty operands plain new within) = unlike (test line.inst.op) is (ap test op ∙ class.compare _)

  fails_before : (group : List Line) → test line.inst.op ≡ false → Image function line group → before (tested test) (group ++ others) ≡ []
  fails_before _ is (alone name) = rw is refl
  fails_before _ is (behind_merge merge name kind op plain bare fresh) = rw (ap test op ∙ is) refl
  fails_before _ is (behind_check types base address place name access at plain) = rw (class.call callees.Check types) refl
  fails_before _ is (as_same types base other_base first second name op ty operands plain) = rw (class.call callees.Same types) refl
  fails_before _ is (as_negated types base other_base first second fresh same_name name op ty operands plain new within) = rw (class.call callees.Same types) refl

  fails_behind : (group : List Line) → test line.inst.op ≡ false → Image function line group → behind (tested test) (group ++ others) ≡ group ++ others
  fails_behind _ is (alone name) = rw is refl
  fails_behind _ is (behind_merge merge name kind op plain bare fresh) = rw (ap test op ∙ is) refl
  fails_behind _ is (behind_check types base address place name access at plain) = rw (class.call callees.Check types) refl
  fails_behind _ is (as_same types base other_base first second name op ty operands plain) = rw (class.call callees.Same types) refl
  fails_behind _ is (as_negated types base other_base first second fresh same_name name op ty operands plain new within) = rw (class.call callees.Same types) refl

-- what follows the lines of the class
pub images_behind : {functions : ℕ → Renaming} {func : ℕ} (test : Op → Bool) → IsClass test → (lines images : List Line) → Images functions func lines images
    → Images functions func (behind (tested test) lines) (behind (tested test) images)
images_behind test class _ _ no_lines = no_lines
images_behind {functions} {func} test class _ _ (more_lines line group rest others of image images) =
    by (test line.inst.op) refl (images_behind test class rest others images)
  where
    by : (b : Bool) → test line.inst.op ≡ b → Images functions func (behind (tested test) rest) (behind (tested test) others)
        → Images functions func (if b then behind (tested test) rest else line ∷ rest) (behind (tested test) (group ++ others))
    by true is further = rw (passes_behind test class (functions func) line others group is image) further
    by false is further = rw (fails_behind test class (functions func) line others group is image) (more_lines line group rest others of image images)

-- ---- phis

incoming_kept : {function : Renaming} {registers now : List Datum} (from : ℕ) (name : Option (List ℕ)) (line : Line) → All (InRoom function.room) line.inst.operands
    → Kept function registers now → incoming from now (renamed_line function.number name line).inst ≡ incoming from registers line.inst
incoming_kept {function} {registers} {now} from name line inside kept = by (position (λ label. label.0 == from) line.inst.labels)
  where
    by : (place : Option ℕ) → option_map_or (operand now (map (renamed function.number) line.inst.operands)) place nothing
        ≡ option_map_or (operand registers line.inst.operands) place nothing
    by None = refl
    by (Some place) = operand_kept line.inst.operands place inside kept

module _ (functions : ℕ → Renaming) (func : ℕ) (law : IsRenaming (functions func)) (from : ℕ) (registers now : List Datum) (kept : Kept (functions func) registers now) where
  abbrev PhisKept : List Line → List Line → Type 0
  PhisKept lines images = (old new : List Datum) → Kept (functions func) old new
      → Kept (functions func) (put_all (map (phi_write from registers) (before (tested is_phi) lines)) old) (put_all (map (phi_write from now) (before (tested is_phi) images)) new)

  phi_kept : (line : Line) (group rest others : List Line) → IsLineOf functions func line → is_phi line.inst.op ≡ true → Image (functions func) line group → PhisKept rest others
      → (old new : List Datum) → Kept (functions func) old new
      → Kept (functions func) (put_all (map (phi_write from registers) (line ∷ before (tested is_phi) rest)) old) (put_all (map (phi_write from now) (group ++ before (tested is_phi) others)) new)
  phi_kept line _ rest others of is (alone name) further old new both =
      rw (incoming_kept from name line of.operands kept)
      (further (put line.to (incoming from registers line.inst) old) (put (option_map (functions func).number line.to) (incoming from registers line.inst) new)
      (put_kept line.to (incoming from registers line.inst) law of.result both))
  phi_kept line _ rest others of is (behind_merge merge name kind op plain bare fresh) further old new both =
      rw (incoming_kept from name line of.operands kept)
      (further (put line.to (incoming from registers line.inst) old)
      (put (option_map (functions func).number line.to) (incoming from registers line.inst) (put merge.to (incoming from now merge.inst) new))
      (put_kept line.to (incoming from registers line.inst) law of.result (put_fresh merge.to (incoming from now merge.inst) fresh both)))
  phi_kept line _ rest others of is (behind_check types base address place name access at plain) further old new both =
      unlike (is_phi line.inst.op) is (access_fails is_phi phis_class line.inst.op place access)
  phi_kept line _ rest others of is (as_same types base other_base first second name op ty operands plain) further old new both =
      unlike (is_phi line.inst.op) is (ap is_phi op)
  phi_kept line _ rest others of is (as_negated types base other_base first second fresh same_name name op ty operands plain new_one within) further old new both =
      unlike (is_phi line.inst.op) is (ap is_phi op)

  -- the phis of a block take effect together
  pub phis_kept : (lines images : List Line) → Images functions func lines images → PhisKept lines images
  phis_kept _ _ no_lines = λ old new both. both
  phis_kept _ _ (more_lines line group rest others of image images) = by (is_phi line.inst.op) refl (phis_kept rest others images)
    where
      by : (b : Bool) → is_phi line.inst.op ≡ b → PhisKept rest others → (old new : List Datum) → Kept (functions func) old new
          → Kept (functions func) (put_all (map (phi_write from registers) (if b then line ∷ before (tested is_phi) rest else [])) old)
          (put_all (map (phi_write from now) (before (tested is_phi) (group ++ others))) new)
      by true is further old new both =
          rw (passes_before is_phi phis_class (functions func) line others group is image) (phi_kept line group rest others of is image further old new both)
      by false is further old new both = rw (fails_before is_phi phis_class (functions func) line others group is image) both

-- ---- members of a statepoint's group

module _ (functions : ℕ → Renaming) (func : ℕ) (law : IsRenaming (functions func)) (registers now : List Datum) (kept : Kept (functions func) registers now)
    (entries : List Operand) (inside : All (InRoom (functions func).room) entries) (answer : Datum) where
  value_same : (name : Option (List ℕ)) (line : Line) (op : Op)
      → member_value now (map (renamed (functions func).number) entries) answer (renamed_line (functions func).number name line) op ≡ member_value registers entries answer line op
  value_same name line ops.GcRelocate =
      ap (λ place. operand now (map (renamed (functions func).number) entries) place) (index_same (functions func).number line.inst.operands 2)
      ∙ operand_kept entries _ inside kept
  value_same name line op = refl

  abbrev MembersKept : List Line → List Line → Type 0
  MembersKept lines images = (old new : List Datum) → Kept (functions func) old new
      → Kept (functions func) (put_all (map (member_write registers entries answer) (before (tested is_member) lines)) old)
      (put_all (map (member_write now (map (renamed (functions func).number) entries) answer) (before (tested is_member) images)) new)

  member_kept : (line : Line) (group rest others : List Line) → IsLineOf functions func line → is_member line.inst.op ≡ true → Image (functions func) line group → MembersKept rest others
      → (old new : List Datum) → Kept (functions func) old new
      → Kept (functions func) (put_all (map (member_write registers entries answer) (line ∷ before (tested is_member) rest)) old)
      (put_all (map (member_write now (map (renamed (functions func).number) entries) answer) (group ++ before (tested is_member) others)) new)
  member_kept line _ rest others of is (alone name) further old new both =
      rw (value_same name line line.inst.op)
      (further (put line.to (member_value registers entries answer line line.inst.op) old)
      (put (option_map (functions func).number line.to) (member_value registers entries answer line line.inst.op) new)
      (put_kept line.to (member_value registers entries answer line line.inst.op) law of.result both))
  member_kept line _ rest others of is (behind_merge merge name kind op plain bare fresh) further old new both = absurd (no_merge line.inst.op is kind)
  member_kept line _ rest others of is (behind_check types base address place name access at plain) further old new both =
      unlike (is_member line.inst.op) is (access_fails is_member members_class line.inst.op place access)
  member_kept line _ rest others of is (as_same types base other_base first second name op ty operands plain) further old new both =
      unlike (is_member line.inst.op) is (ap is_member op)
  member_kept line _ rest others of is (as_negated types base other_base first second fresh same_name name op ty operands plain new_one within) further old new both =
      unlike (is_member line.inst.op) is (ap is_member op)

  pub members_kept : (lines images : List Line) → Images functions func lines images → MembersKept lines images
  members_kept _ _ no_lines = λ old new both. both
  members_kept _ _ (more_lines line group rest others of image images) = by (is_member line.inst.op) refl (members_kept rest others images)
    where
      by : (b : Bool) → is_member line.inst.op ≡ b → MembersKept rest others → (old new : List Datum) → Kept (functions func) old new
          → Kept (functions func) (put_all (map (member_write registers entries answer) (if b then line ∷ before (tested is_member) rest else [])) old)
          (put_all (map (member_write now (map (renamed (functions func).number) entries) answer) (before (tested is_member) (group ++ others))) new)
      by true is further old new both =
          rw (passes_before is_member members_class (functions func) line others group is image) (member_kept line group rest others of is image further old new both)
      by false is further old new both = rw (fails_before is_member members_class (functions func) line others group is image) both
