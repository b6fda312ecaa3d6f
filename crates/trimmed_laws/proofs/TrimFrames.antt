-- Frames of a run, and those of the run some of whose lines went: they are pairs.
use Rattle.std.proofs.Common.{◌≡◌, ℕ, true, false, List, [], ◌∷◌, ◌++◌, length, map, drop, refl, sym, ap, subst, ◌∙◌}
use Rattle.std.specs.Prelude.{Option}
use Rattle.std.specs.List.{All}
use Rattle.std.specs.Option.{option_map}
use Rattle.std.proofs.lemmas.List.Elements.{All-drop}
use Rattle.ir_ast.specs.declared.ops.Op.{Op}
use Rattle.ir_ast.specs.declared.ops.Op.TheVariants as ops
use Rattle.ir_ast.specs.declared.ops.Operand.{Operand}
use Rattle.ir_ast.specs.Layouts.{ObjectLayout}
use Rattle.ir_ast.specs.Objects.{Datum}
use Rattle.ir_ast.specs.Operands.{operands_of}
use Rattle.ir_ast.specs.Ops.{is_member}
use Rattle.object_meaning.specs.Frames.{answered, answered_by, entered, member_write, regrouped}
use Rattle.object_meaning.specs.Lines.{Line}
use Rattle.object_meaning.specs.Registers.{put, put_all, value}
use Rattle.object_meaning.specs.States.{Frame, Setting}
use Rattle.renaming_laws.specs.Renamed.{Takes}
use Rattle.renaming_laws.proofs.ListLaws.{before, behind}
use Rattle.renaming_laws.proofs.CallLaws.{regrouped_is, behind_group}
use Rattle.list_laws.proofs.Places.{drop_map}
use Rattle.trimmed_laws.specs.Groups.{Computes, Group, GroupGives, IsRegrouped, behind_members, lines_in, lines_now, no_more}
use Rattle.trimmed_laws.specs.Trims.{Agree, IsStaying, ReadSame, Trim, calls_of, now_operand, starts, trimmed_line}
use Rattle.trimmed_laws.specs.Trimmed.{IsTrimmed, Trimmed}
use Rattle.trimmed_laws.proofs.PairLaws.{Pairs, with_lines}
use Rattle.trimmed_laws.proofs.TrimFronts.{behind_trimmed, front_before, front_behind, members_kept, tested}
use Rattle.trimmed_laws.proofs.TrimRegisters.{Numbered, entered_kept, of_line, put_kept}

-- the frame at other lines, with other registers
abbrev pub image : Frame → List Line → List Datum → Frame
image frame rest now = record frame { rest = rest; registers = now }

abbrev pub at_line : Frame → Line → List Line → Frame
at_line frame line rest = record frame { rest = line ∷ rest }

module _ (layouts : List ObjectLayout) (trims : ℕ → Trim) where
  abbrev pub trim_of : Frame → Trim
  trim_of frame = trims frame.func

  -- a frame that runs, wherever it stands
  pub data Settled : Frame → Frame → Type 0 where
    settled : (frame : Frame) (rest : List Line) (now : List Datum) → Trimmed layouts (calls_of trims) (trims frame.func) frame.rest rest → Agree (trims frame.func) frame.registers now
        → Settled frame (image frame rest now)

  -- or one behind which further lines stand that compute first
  pub data Runs : Frame → Frame → Type 0 where
    ahead : (frame : Frame) (further rest : List Line) (now final : List Datum) → Trimmed layouts (calls_of trims) (trims frame.func) frame.rest rest
        → Computes layouts further now final → Agree (trims frame.func) frame.registers final → Runs frame (image frame (further ++ rest) now)

  pub runs : (frame : Frame) (rest : List Line) (now : List Datum) → Trimmed layouts (calls_of trims) (trims frame.func) frame.rest rest → Agree (trims frame.func) frame.registers now
      → Runs frame (image frame rest now)
  runs frame rest now trimmed agree = ahead frame [] rest now now trimmed (no_more now) agree

  -- a frame that stands at a line that stays: a call, a poll or a `task_start`
  pub record StandsKept (frame : Frame) (line : Line) (rest others : List Line) (now : List Datum) : Type 0 where
    pub of : IsStaying (calls_of trims) (trims frame.func) line
    pub further : Trimmed layouts (calls_of trims) (trims frame.func) rest others
    pub kept : Agree (trims frame.func) frame.registers now
    pub reads : ReadSame (trims frame.func).stands frame.registers (operands_of line.inst)

  -- one that stands at a statepoint with another group
  pub record GroupKept (frame : Frame) (group : Group) (now : List Datum) : Type 0 where
    pub is : IsRegrouped (calls_of trims) (trims frame.func) group
    pub further : Trimmed layouts (calls_of trims) (trims frame.func) group.rest group.others
    pub gives : GroupGives layouts (trims frame.func) (length is.types) group frame.registers now
    pub kept : Agree (trims frame.func) frame.registers now
    pub reads : All (λ entry. value frame.registers ((trims frame.func).stands entry.1) ≡ value frame.registers entry.1) group.statepoint.inst.bundle

  pub data Waits : Frame → Frame → Type 0 where
    waits : (frame : Frame) (line : Line) (name : Option (List ℕ)) (rest others : List Line) (now : List Datum) → StandsKept frame line rest others now
        → Waits (at_line frame line rest) (image frame (trimmed_line (trims frame.func) name line ∷ others) now)
    waits_grouped : (frame : Frame) (group : Group) (now : List Datum) → GroupKept frame group now
        → Waits (record frame { rest = lines_in group }) (image frame (lines_now group) now)

-- a call may pass so many arguments
abbrev pub Enters : (ℕ → Trim) → ℕ → ℕ → Type 0
Enters trims func count = Takes (trims func).renaming count

-- behind the members of a group
regrouped_front : (frame : Frame) (entries : List Operand) (members rest : List Line) (answer : Datum) → All (λ line. is_member line.inst.op ≡ true) members → starts is_member rest ≡ false
    → regrouped frame entries (members ++ rest) answer ≡ record frame { rest = rest; registers = put_all (map (member_write frame.registers entries answer) members) frame.registers }
regrouped_front frame entries members rest answer all none =
    regrouped_is frame entries (members ++ rest) answer
    ∙ (ap (λ (lines : List Line). record frame { rest = lines; registers = put_all (map (member_write frame.registers entries answer) (before (tested is_member) (members ++ rest))) frame.registers })
    (front_behind is_member members rest all none)
    ∙ ap (λ (front : List Line). record frame { rest = rest; registers = put_all (map (member_write frame.registers entries answer) front) frame.registers }) (front_before is_member members rest all none))

module _ (trims : ℕ → Trim) (one : Setting) (lines : ℕ → ℕ → List Line) (front : List Line) (registers : ℕ → ℕ) (names : ℕ → List ℕ)
    (law : IsTrimmed trims one (with_lines one lines front registers names)) where
  abbrev there_setting : Setting
  there_setting = with_lines one lines front registers names

  enters_runs : (func : ℕ) (arguments : List Datum) → Takes (trims func).renaming (length arguments)
      → Runs one.layouts trims (entered one func arguments) (entered there_setting func arguments)
  enters_runs func arguments takes =
      runs one.layouts trims (entered one func arguments) (entered there_setting func arguments).rest (entered there_setting func arguments).registers
      (law.front func takes.called) (rw (law.room func, law.now_room func) (entered_kept arguments (law.trim func) takes.few))

  pub regrouped_runs : (frame : Frame) (rest others lines_there : List Line) (now : List Datum) (entries : List Operand) (answer : Datum)
      → Trimmed one.layouts (calls_of trims) (trims frame.func) rest others → Agree (trims frame.func) frame.registers now → All (Numbered (trims frame.func)) entries
      → ReadSame (trims frame.func).stands frame.registers entries
      → Runs one.layouts trims (regrouped frame entries rest answer)
      (regrouped (image frame lines_there now) (map (now_operand (trims frame.func)) entries) others answer)
  regrouped_runs frame rest others lines_there now entries answer further kept inside same =
      let entries_now = map (now_operand (trims frame.func)) entries in
      rw (regrouped_is frame entries rest answer, regrouped_is (image frame lines_there now) entries_now others answer)
      (runs one.layouts trims (behind_group frame entries rest answer) (behind (tested is_member) others) (put_all (map (member_write now entries_now answer) (before (tested is_member) others)) now)
      (behind_trimmed one.layouts (calls_of trims) (trims frame.func) is_member (λ id callee types. refl) (λ line lines_behind gone. gone.members) rest others further)
      (members_kept one.layouts (calls_of trims) (trims frame.func) (law.trim frame.func) frame.registers now kept entries inside same answer rest others further frame.registers now kept))

  answered_runs : (frame : Frame) (line : Line) (name : Option (List ℕ)) (rest others : List Line) (now : List Datum) (answer : Datum)
      → StandsKept one.layouts trims frame line rest others now → (op : Op)
      → Runs one.layouts trims (answered_by (at_line frame line rest) line rest answer op)
      (answered_by (image frame (trimmed_line (trims frame.func) name line ∷ others) now) (trimmed_line (trims frame.func) name line) others answer op)
  answered_runs frame line name rest others now answer kept (ops.Statepoint id callee types) =
      let trim = trims frame.func in
      rw (drop_map (now_operand trim) (length types) line.inst.operands)
      (regrouped_runs (at_line frame line rest) rest others (trimmed_line trim name line ∷ others) now (drop (length types) line.inst.operands) answer kept.further kept.kept
      (All-drop (Numbered trim) (length types) line.inst.operands (of_line (Numbered trim) line.inst kept.of.operands))
      (All-drop (λ (o : Operand). value frame.registers (trim.stands o) ≡ value frame.registers o) (length types) line.inst.operands
      (of_line (λ (o : Operand). value frame.registers (trim.stands o) ≡ value frame.registers o) line.inst kept.reads)))
  answered_runs frame line name rest others now answer kept op =
      runs one.layouts trims (record frame { rest = rest; registers = put line.to answer frame.registers }) others (put (option_map (trims frame.func).renaming.number line.to) answer now)
      kept.further (put_kept line.to answer (law.trim frame.func) kept.of.result kept.kept)

  pub grouped_runs : (frame : Frame) (group : Group) (now : List Datum) (answer : Datum) (kept : GroupKept one.layouts trims frame group now)
      → Runs one.layouts trims (regrouped (record frame { rest = lines_in group }) (drop (length kept.is.types) group.statepoint.inst.operands) (group.members ++ group.rest) answer)
      (regrouped (image frame (lines_now group) now) (drop (length kept.is.types) group.now_statepoint.inst.operands) (group.now_members ++ (group.further ++ group.others)) answer)
  grouped_runs frame group now answer kept =
      let count = length kept.is.types in
      let gives = kept.gives answer in
      rw (
        regrouped_front (record frame { rest = lines_in group }) (drop count group.statepoint.inst.operands) group.members group.rest answer kept.is.members kept.is.ends,
        regrouped_front (image frame (lines_now group) now) (drop count group.now_statepoint.inst.operands) group.now_members (group.further ++ group.others) answer kept.is.now_members kept.is.now_ends,
      )
      (ahead (record frame { rest = group.rest; registers = behind_members count group.statepoint group.members answer frame.registers }) group.further group.others
      (behind_members count group.now_statepoint group.now_members answer now) gives.0 kept.further gives.1 gives.2)

  group_answered : (frame : Frame) (group : Group) (now : List Datum) (answer : Datum) (op now_op : Op) → op ≡ now_op
      → (kept : GroupKept one.layouts trims frame group now) → op ≡ ops.Statepoint kept.is.id kept.is.callee kept.is.types
      → Runs one.layouts trims (answered_by (record frame { rest = lines_in group }) group.statepoint (group.members ++ group.rest) answer op)
      (answered_by (image frame (lines_now group) now) group.now_statepoint (group.now_members ++ (group.further ++ group.others)) answer now_op)
  group_answered frame group now answer op now_op same kept is =
      subst (λ (o : Op). Runs one.layouts trims (answered_by (record frame { rest = lines_in group }) group.statepoint (group.members ++ group.rest) answer op)
      (answered_by (image frame (lines_now group) now) group.now_statepoint (group.now_members ++ (group.further ++ group.others)) answer o)) same
      (subst (λ (o : Op). Runs one.layouts trims (answered_by (record frame { rest = lines_in group }) group.statepoint (group.members ++ group.rest) answer o)
      (answered_by (image frame (lines_now group) now) group.now_statepoint (group.now_members ++ (group.further ++ group.others)) answer o)) (sym is)
      (grouped_runs frame group now answer kept))

  answers_run : (frame there : Frame) (answer : Datum) → Waits one.layouts trims frame there → Runs one.layouts trims (answered frame answer) (answered there answer)
  answers_run _ _ answer (waits frame line name rest others now kept) = answered_runs frame line name rest others now answer kept line.inst.op
  answers_run _ _ answer (waits_grouped frame group now kept) =
      group_answered frame group now answer group.statepoint.inst.op group.now_statepoint.inst.op (kept.is.op ∙ sym kept.is.now_op) kept kept.is.op

  same_func : (frame there : Frame) → Waits one.layouts trims frame there → there.func ≡ frame.func
  same_func _ _ (waits frame line name rest others now kept) = refl
  same_func _ _ (waits_grouped frame group now kept) = refl

  pub pairs : Pairs one there_setting (Enters trims) (Runs one.layouts trims) (Waits one.layouts trims)
  pairs = record { func_waits = same_func; enters = enters_runs; answers = answers_run }
