-- The phis at the front of a block and the members behind a statepoint that stay stand at the front of what stays, and write the same.
use Rattle.std.proofs.Common.{◌≡◌, ◌==◌, ℕ, Bool, true, false, if◌then◌else◌, List, [], ◌∷◌, ◌++◌, map, refl, ap, ◌∙◌}
use Rattle.std.specs.Prelude.{Option, Some, None}
use Rattle.std.specs.List.{All, position}
use Rattle.std.specs.Option.{option_map, option_map_or}
use Rattle.std.proofs.lemmas.List.Elements.{All-head, All-tail}
use Rattle.ir_ast.specs.declared.types.Ty.{Ty}
use Rattle.ir_ast.specs.declared.ops.Callee.{Callee}
use Rattle.ir_ast.specs.declared.ops.Op.{Op}
use Rattle.ir_ast.specs.declared.ops.Op.TheVariants as ops
use Rattle.ir_ast.specs.declared.ops.Operand.{Operand}
use Rattle.ir_ast.specs.Layouts.{ObjectLayout}
use Rattle.ir_ast.specs.Objects.{Datum}
use Rattle.ir_ast.specs.Ops.{is_member, is_phi}
use Rattle.object_meaning.specs.Frames.{member_value, member_write}
use Rattle.object_meaning.specs.Jumps.{incoming, phi_write}
use Rattle.object_meaning.specs.Lines.{Line}
use Rattle.object_meaning.specs.Registers.{nothing, operand, put, put_all}
use Rattle.renaming_laws.specs.Renamed.{Renaming}
use Rattle.renaming_laws.proofs.ListLaws.{before, behind}
use Rattle.trimmed_laws.specs.Trims.{Agree, IsGone, IsTrim, LiteralsStay, ReadSame, Trim, now_operand, starts, trimmed_line}
use Rattle.trimmed_laws.specs.Trimmed.{PhiReads, Trimmed, goes, no_lines, regroups, stays}
use Rattle.trimmed_laws.proofs.TrimRegisters.{Numbered, of_line, operand_kept, put_kept, put_unkept, standing_kept}

abbrev pub tested : (Op → Bool) → Line → Bool
tested test line = test line.inst.op

-- where lines don't start with one of the class, none stands in front
no_front : (test : Op → Bool) (lines : List Line) → starts test lines ≡ false → before (tested test) lines ≡ []
no_front test [] none = refl
no_front test (line ∷ lines) none = rw none refl

all_behind : (test : Op → Bool) (lines : List Line) → starts test lines ≡ false → behind (tested test) lines ≡ lines
all_behind test [] none = refl
all_behind test (line ∷ lines) none = rw none refl

-- where all of some lines are of a class, and what follows doesn't start with one
pub front_before : (test : Op → Bool) (lines rest : List Line) → All (λ line. test line.inst.op ≡ true) lines → starts test rest ≡ false → before (tested test) (lines ++ rest) ≡ lines
front_before test [] rest all none = no_front test rest none
front_before test (line ∷ lines) rest all none =
    rw (All-head (λ (l : Line). test l.inst.op ≡ true) line lines all) (ap (λ (ls : List Line). line ∷ ls) (front_before test lines rest (All-tail (λ (l : Line). test l.inst.op ≡ true) line lines all) none))

pub front_behind : (test : Op → Bool) (lines rest : List Line) → All (λ line. test line.inst.op ≡ true) lines → starts test rest ≡ false → behind (tested test) (lines ++ rest) ≡ rest
front_behind test [] rest all none = all_behind test rest none
front_behind test (line ∷ lines) rest all none =
    rw (All-head (λ (l : Line). test l.inst.op ≡ true) line lines all) (front_behind test lines rest (All-tail (λ (l : Line). test l.inst.op ≡ true) line lines all) none)

module _ (layouts : List ObjectLayout) (calls : ℕ → Renaming) (trim : Trim) where
  -- what follows the lines of a class, of which none that stays comes to the front where others go
  pub behind_trimmed : (test : Op → Bool) → ((id : ℕ) (callee : Callee) (types : List Ty) → test (ops.Statepoint id callee types) ≡ false)
      → ((line : Line) (others : List Line) → IsGone layouts trim line others → test line.inst.op ≡ false → starts test others ≡ false)
      → (lines images : List Line) → Trimmed layouts calls trim lines images → Trimmed layouts calls trim (behind (tested test) lines) (behind (tested test) images)
  behind_trimmed test head apart _ _ no_lines = no_lines
  behind_trimmed test head apart _ _ (stays line name rest others of further) = by (test line.inst.op) (behind_trimmed test head apart rest others further)
    where
      by : (b : Bool) → Trimmed layouts calls trim (behind (tested test) rest) (behind (tested test) others)
          → Trimmed layouts calls trim (if b then behind (tested test) rest else line ∷ rest) (if b then behind (tested test) others else trimmed_line trim name line ∷ others)
      by true later = later
      by false later = stays line name rest others of further
  behind_trimmed test head apart _ _ (goes line rest others gone further) = by (test line.inst.op) refl (behind_trimmed test head apart rest others further)
    where
      by : (b : Bool) → test line.inst.op ≡ b → Trimmed layouts calls trim (behind (tested test) rest) (behind (tested test) others)
          → Trimmed layouts calls trim (if b then behind (tested test) rest else line ∷ rest) (behind (tested test) others)
      by true is later = later
      by false is later = rw (all_behind test others (apart line others gone is)) (goes line rest others gone further)
  behind_trimmed test head apart _ _ (regroups group is further) =
      rw (ap test is.op ∙ head is.id is.callee is.types, ap test is.now_op ∙ head is.id is.callee is.types) (regroups group is further)

  -- ---- phis

  module _ (law : IsTrim trim) (from : ℕ) (registers now : List Datum) (kept : Agree trim registers now) where
    abbrev Reads : Line → Type 0
    Reads = PhiReads trim.stands from registers

    incoming_kept : (name : Option (List ℕ)) (line : Line) → All (Numbered trim) line.inst.operands → Reads line
        → incoming from now (trimmed_line trim name line).inst ≡ incoming from registers line.inst
    incoming_kept name line inside reads = by (position (λ label. label.0 == from) line.inst.labels) ∙ reads
      where
        by : (place : Option ℕ) → option_map_or (operand now (map (now_operand trim) line.inst.operands)) place nothing
            ≡ option_map_or (operand registers (map trim.stands line.inst.operands)) place nothing
        by None = refl
        by (Some place) = standing_kept kept line.inst.operands place inside

    abbrev PhisKept : List Line → List Line → Type 0
    PhisKept lines images = All Reads (before (tested is_phi) lines) → (old new : List Datum) → Agree trim old new
        → Agree trim (put_all (map (phi_write from registers) (before (tested is_phi) lines)) old) (put_all (map (phi_write from now) (before (tested is_phi) images)) new)

    -- the phis of a block take effect together
    pub phis_kept : (lines images : List Line) → Trimmed layouts calls trim lines images → PhisKept lines images
    phis_kept _ _ no_lines = λ reads old new both. both
    phis_kept _ _ (stays line name rest others of further) = by (is_phi line.inst.op) (phis_kept rest others further)
      where
        by : (b : Bool) → PhisKept rest others → All Reads (if b then line ∷ before (tested is_phi) rest else []) → (old new : List Datum) → Agree trim old new
            → Agree trim (put_all (map (phi_write from registers) (if b then line ∷ before (tested is_phi) rest else [])) old)
            (put_all (map (phi_write from now) (if b then trimmed_line trim name line ∷ before (tested is_phi) others else [])) new)
        by true later reads old new both =
            rw (incoming_kept name line (of_line (Numbered trim) line.inst of.operands) (All-head Reads line (before (tested is_phi) rest) reads))
            (later (All-tail Reads line (before (tested is_phi) rest) reads)
            (put line.to (incoming from registers line.inst) old) (put (option_map trim.renaming.number line.to) (incoming from registers line.inst) new)
            (put_kept line.to (incoming from registers line.inst) law of.result both))
        by false later reads old new both = both
    phis_kept _ _ (goes line rest others gone further) = by (is_phi line.inst.op) refl (phis_kept rest others further)
      where
        by : (b : Bool) → is_phi line.inst.op ≡ b → PhisKept rest others → All Reads (if b then line ∷ before (tested is_phi) rest else []) → (old new : List Datum) → Agree trim old new
            → Agree trim (put_all (map (phi_write from registers) (if b then line ∷ before (tested is_phi) rest else [])) old)
            (put_all (map (phi_write from now) (before (tested is_phi) others)) new)
        by true is later reads old new both =
            later (All-tail Reads line (before (tested is_phi) rest) reads) (put line.to (incoming from registers line.inst) old) new
            (put_unkept line.to (incoming from registers line.inst) gone.unkept both)
        by false is later reads old new both = rw (no_front is_phi others (gone.phis is)) both
    phis_kept _ _ (regroups group is further) = λ reads old new both. rw (ap is_phi is.op, ap is_phi is.now_op) both

  -- ---- members of a statepoint's group

  module _ (law : IsTrim trim) (registers now : List Datum) (kept : Agree trim registers now) (entries : List Operand)
      (inside : All (Numbered trim) entries) (same : ReadSame trim.stands registers entries) (answer : Datum) where
    abbrev entries_now : List Operand
    entries_now = map (now_operand trim) entries

    value_same : (name : Option (List ℕ)) (line : Line) (op : Op) → LiteralsStay trim op line.inst.operands
        → member_value now entries_now answer (trimmed_line trim name line) op ≡ member_value registers entries answer line op
    value_same name line ops.GcRelocate literals =
        ap (λ place. operand now entries_now place) literals
        ∙ operand_kept kept entries _ inside same
    value_same name line op literals = refl

    abbrev MembersKept : List Line → List Line → Type 0
    MembersKept lines images = (old new : List Datum) → Agree trim old new
        → Agree trim (put_all (map (member_write registers entries answer) (before (tested is_member) lines)) old)
        (put_all (map (member_write now entries_now answer) (before (tested is_member) images)) new)

    pub members_kept : (lines images : List Line) → Trimmed layouts calls trim lines images → MembersKept lines images
    members_kept _ _ no_lines = λ old new both. both
    members_kept _ _ (stays line name rest others of further) = by (is_member line.inst.op) (members_kept rest others further)
      where
        by : (b : Bool) → MembersKept rest others → (old new : List Datum) → Agree trim old new
            → Agree trim (put_all (map (member_write registers entries answer) (if b then line ∷ before (tested is_member) rest else [])) old)
            (put_all (map (member_write now entries_now answer) (if b then trimmed_line trim name line ∷ before (tested is_member) others else [])) new)
        by true later old new both =
            rw (value_same name line line.inst.op of.literals)
            (later (put line.to (member_value registers entries answer line line.inst.op) old)
            (put (option_map trim.renaming.number line.to) (member_value registers entries answer line line.inst.op) new)
            (put_kept line.to (member_value registers entries answer line line.inst.op) law of.result both))
        by false later old new both = both
    members_kept _ _ (goes line rest others gone further) = by (is_member line.inst.op) refl (members_kept rest others further)
      where
        by : (b : Bool) → is_member line.inst.op ≡ b → MembersKept rest others → (old new : List Datum) → Agree trim old new
            → Agree trim (put_all (map (member_write registers entries answer) (if b then line ∷ before (tested is_member) rest else [])) old)
            (put_all (map (member_write now entries_now answer) (before (tested is_member) others)) new)
        by true is later old new both =
            later (put line.to (member_value registers entries answer line line.inst.op) old) new
            (put_unkept line.to (member_value registers entries answer line line.inst.op) gone.unkept both)
        by false is later old new both = rw (no_front is_member others (gone.members is)) both
    members_kept _ _ (regroups group is further) = λ old new both. rw (ap is_member is.op, ap is_member is.now_op) both
