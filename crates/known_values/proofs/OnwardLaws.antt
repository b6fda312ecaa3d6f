-- Each step keeps what a frame of the function knows, and a new frame knows it.
use Rattle.std.proofs.Common.{◌≡◌, ℕ, suc, ◌+◌, ◌-◌, ◌<◌, true, ◌||◌, List, ◌∷◌, ◌++◌, length, map, take, drop, replicate, refl, sym, ap, subst, ◌∙◌, inl, inr, ◌⊎◌, arith}
use Rattle.std.specs.Prelude.{Option, Some, Ok, slice_get}
use Rattle.std.proofs.lemmas.List.{drop-drop, length-append, length-replicate, length-take-le, take-take}
use Rattle.std.proofs.lemmas.List.Sums.{prefix_len-le-length}
use Rattle.list_laws.proofs.Tests.{prefix_passes}
use Rattle.list_laws.proofs.Places.{drop_first, drop_none, get_dropped, take_back}
use Rattle.ir_ast.specs.declared.ops.Op.{Op}
use Rattle.ir_ast.specs.declared.ops.Op.TheVariants as ops
use Rattle.ir_ast.specs.declared.ops.Operand.{Operand}
use Rattle.ir_ast.specs.Blocks.{BasicBlock}
use Rattle.ir_ast.specs.Funcs.{Function}
use Rattle.ir_ast.specs.Insts.{Instruction}
use Rattle.ir_ast.specs.Layouts.{ObjectLayout}
use Rattle.ir_ast.specs.Objects.{Datum}
use Rattle.ir_ast.specs.Ops.{is_member, is_phi, is_terminator}
use Rattle.ir_cfg.specs.DefiniteUses.{Defines}
use Rattle.ir_cfg.specs.Graphs.{Edge, graph_of}
use Rattle.object_meaning.specs.BlockLines.{lines_at}
use Rattle.object_meaning.specs.Computing.{value_of_line}
use Rattle.object_meaning.specs.Frames.{answered_by, entered, group_length, member_value, regrouped}
use Rattle.object_meaning.specs.Jumps.{arrived, incoming, phi_count}
use Rattle.object_meaning.specs.Lines.{Line}
use Rattle.object_meaning.specs.Registers.{nothing, operand, put, put_all}
use Rattle.object_meaning.specs.States.{Frame, Setting}
use Rattle.object_meaning.proofs.RegisterLaws.{put_length, puts_length}
use Rattle.base_definite.specs.Comings.{Comes, over_edge, past_line, to_entry}
use Rattle.base_definite.proofs.base_paths.UndefinedLaws.{at_first, behind_edge}
use Rattle.base_definite.proofs.LinePlaces.{LineFrom, line_from}
use Rattle.known_values.specs.Meanings.{AllHold, AreKnown, Holds, IsGiven, Meaning, Meanings, by_line, by_phi}
use Rattle.known_values.specs.Onward.{LeadsTo, Onward, accessed, accesses_cell, answered, behind, by_br, by_condition, by_switch, computed, computes, is_calling, jumped, skipped}
use Rattle.known_values.specs.Statements.{Knows, KnowsAs}
use Rattle.known_values.specs.Texts.{LeadsAlong, RunsText}
use Rattle.known_values.proofs.FrameLaws.{IsKept}
use Rattle.known_values.proofs.PlaceLaws.{own_written}
use Rattle.known_values.proofs.WriteLaws.{Behind, Further, further, one_further, put_behind, write_of}

-- ---- lines that give no value with a meaning

abbrev IsGiving : Op → Type 0
IsGiving op = (computes op ≡ true) ⊎ (is_phi op ≡ true)

given_giving : {layouts : List ObjectLayout} {func : Function} {meanings : Meanings} {value : ℕ} {meaning : Meaning} {block place : ℕ} {inst : Instruction}
    → IsGiven layouts func meanings value meaning block place inst → IsGiving inst.op
given_giving (by_line kind gives) = inl kind
given_giving (by_phi phi inside front gives) = inr phi

phi_no_line : (op : Op) → is_phi op ≡ true → computes op ≡ true → ⊥
phi_no_line ops.Phi phi line = cc
phi_no_line op phi line = cc

access_gives_none : (op : Op) → accesses_cell op ≡ true → IsGiving op → ⊥
access_gives_none ops.Load access giving = elim giving [ inl line ↦ cc | inr phi ↦ cc ]
access_gives_none ops.Store access giving = elim giving [ inl line ↦ cc | inr phi ↦ cc ]
access_gives_none op access giving = cc

calling_gives_none : (op : Op) → is_calling op ≡ true → IsGiving op → ⊥
calling_gives_none (ops.Call callee types) calling giving = elim giving [ inl line ↦ cc | inr phi ↦ cc ]
calling_gives_none (ops.Statepoint id callee types) calling giving = elim giving [ inl line ↦ cc | inr phi ↦ cc ]
calling_gives_none op calling giving = cc

member_gives_none : (op : Op) → is_member op ≡ true → IsGiving op → ⊥
member_gives_none ops.GcResult member giving = elim giving [ inl line ↦ cc | inr phi ↦ cc ]
member_gives_none ops.GcRelocate member giving = elim giving [ inl line ↦ cc | inr phi ↦ cc ]
member_gives_none op member giving = cc

leading_gives_none : (line : Line) (registers : List Datum) (op : Op) (to : ℕ) → LeadsTo line registers op to → IsGiving op → ⊥
leading_gives_none line registers _ _ by_br giving = elim giving [ inl line ↦ cc | inr phi ↦ cc ]
leading_gives_none line registers _ _ by_condition giving = elim giving [ inl line ↦ cc | inr phi ↦ cc ]
leading_gives_none line registers _ _ by_switch giving = elim giving [ inl line ↦ cc | inr phi ↦ cc ]

pub leading_ends : (line : Line) (registers : List Datum) (op : Op) (to : ℕ) → LeadsTo line registers op to → is_terminator op ≡ true
leading_ends line registers _ _ by_br = refl
leading_ends line registers _ _ by_condition = refl
leading_ends line registers _ _ by_switch = refl

pub leads_over : (func : Function) (block : ℕ) (line : Line) (registers : List Datum) (op : Op) (to : ℕ) → LeadsTo line registers op to → LeadsAlong func block line.inst op
    → Edge (graph_of func) block to
leads_over func block line registers _ _ by_br along = along
leads_over func block line registers _ _ by_condition along = along (operand registers line.inst.operands 0)
leads_over func block line registers _ _ by_switch along = along (operand registers line.inst.operands 0)

-- a skipped line is a phi or a member
skipped_phi : (op : Op) → is_phi op || is_member op ≡ true → IsGiving op → is_phi op ≡ true
skipped_phi ops.Phi passes giving = refl
skipped_phi ops.GcResult passes giving = elim giving [ inl line ↦ absurd cc | inr phi ↦ absurd cc ]
skipped_phi ops.GcRelocate passes giving = elim giving [ inl line ↦ absurd cc | inr phi ↦ absurd cc ]
skipped_phi op passes giving = absurd cc

module _ (setting : Setting) (number : ℕ) (func : Function) (meanings : Meanings) (text : RunsText setting number func) (known : AreKnown setting.layouts func meanings) where
  abbrev KnowsHere : Frame → Type 0
  KnowsHere frame = Knows setting func meanings frame

  new : (called : ℕ) (arguments : List Datum) → KnowsAs setting number func meanings (entered setting called arguments)
  new called arguments same = record {
    place = 0;
    stands = ap (λ (n : ℕ). setting.front ++ setting.lines n 0) same ∙ (text.front ∙ sym (drop_none (lines_at func 0)));
    comes = to_entry;
    behind_phis = λ below. absurd (omega arith);
    room =
        let long = length-append arguments (replicate (setting.registers called - length arguments) nothing) in
        let filled = length-replicate (setting.registers called - length arguments) nothing in
        omega (arith, long, filled);
    holds = λ value meaning is. inl at_first;
  }

  -- ---- a frame at a line

  module _ (frame : Frame) (same : frame.func ≡ number) (knows : KnowsHere frame) (line : Line) (rest : List Line) (is : frame.rest ≡ line ∷ rest) where
    abbrev block : ℕ
    block = frame.block

    abbrev place : ℕ
    place = knows.place

    first : (slice_get (lines_at func block) place ≡ Some line) × (drop (place + 1) (lines_at func block) ≡ rest)
    first = drop_first (lines_at func block) place line rest (sym knows.stands ∙ is)

    from : LineFrom func block place line
    from = line_from func block place line first.0

    rest_is : rest ≡ drop (suc place) (lines_at func block)
    rest_is = let next : place + 1 ≡ suc place = omega arith in sym first.1 ∙ ap (λ (n : ℕ). drop n (lines_at func block)) next

    giving : (value : ℕ) (meaning : Meaning) → meanings value ≡ Some meaning → Defines func value block place → IsGiving line.inst.op
    giving value meaning is_known defines =
        subst (λ (i : Instruction). IsGiving i.op) (own_written func block place line from value defines).1 (given_giving (known.given value meaning is_known block place defines))

    has_room : (value : ℕ) → Defines func value block place → value < length frame.registers
    has_room value defines =
        let below = text.room value block place defines in
        let few = knows.room in
        let count : setting.registers frame.func ≡ setting.registers number = ap (λ (n : ℕ). setting.registers n) same in
        omega arith

    -- a path comes behind it, and there the equations hold
    passes_there : (now : List Datum) → Behind setting.layouts func meanings known block place frame.registers now → Further setting.layouts func meanings known block (suc place) now
    passes_there now behind_line = record {
      comes = past_line block place line.inst knows.comes from.stands;
      holds = one_further setting.layouts func meanings known block place line from knows.comes frame.registers now behind_line knows.holds;
    }

    passes : (now : List Datum) → length now ≡ length frame.registers → Behind setting.layouts func meanings known block place frame.registers now
        → KnowsHere (record frame { rest = rest; registers = now })
    passes now long behind_line = record {
      place = suc place;
      stands = rest_is;
      comes = (passes_there now behind_line).comes;
      behind_phis = λ inside. (let front = knows.behind_phis inside in omega arith);
      room = (let few = knows.room in omega arith);
      holds = (passes_there now behind_line).holds;
    }

    -- a line that gives no value with a meaning
    gives_none : (datum : Datum) → (IsGiving line.inst.op → ⊥) → KnowsHere (behind frame line rest datum)
    gives_none datum none =
        passes (put line.to datum frame.registers) (put_length line.to datum frame.registers)
        (put_behind setting.layouts func meanings known block place line from frame.registers datum (λ value meaning is_known defines. absurd (none (giving value meaning is_known defines))))

    writes_none : (IsGiving line.inst.op → ⊥) → Further setting.layouts func meanings known block (suc place) frame.registers
    writes_none none =
        passes_there frame.registers (record {
          others = λ value apart. refl;
          own = λ value meaning is_known defines. absurd (none (giving value meaning is_known defines));
        })

    -- ---- a line that computes

    knows_computed : (result : Datum) → computes line.inst.op ≡ true → value_of_line setting.layouts frame.registers line.inst.op line.inst.ty line.inst.operands ≡ Ok result
        → KnowsHere (behind frame line rest result)
    knows_computed result kind value_is =
        passes (put line.to result frame.registers) (put_length line.to result frame.registers)
        (put_behind setting.layouts func meanings known block place line from frame.registers result own)
      where
        own : (value : ℕ) (meaning : Meaning) → meanings value ≡ Some meaning → Defines func value block place → Holds value meaning (put line.to result frame.registers)
        own value meaning is_known defines =
            let written = own_written func block place line from value defines in
            by written.0 written.1 (known.given value meaning is_known block place defines)
          where
            by : line.to ≡ Some value → defines.inst ≡ line.inst → IsGiven setting.layouts func meanings value meaning block place defines.inst
                → Holds value meaning (put line.to result frame.registers)
            by to_is inst_is (by_phi phi inside front gives) = absurd (phi_no_line line.inst.op (ap (λ (i : Instruction). is_phi i.op) (sym inst_is) ∙ phi) kind)
            by to_is inst_is (by_line its_kind gives) =
                subst (λ (to : Option ℕ). Holds value meaning (put to result frame.registers)) (sym to_is)
                (gives frame.registers result (has_room value defines) knows.comes knows.holds
                (ap (λ (i : Instruction). value_of_line setting.layouts frame.registers i.op i.ty i.operands) inst_is ∙ value_is))

    -- ---- a call that has its answer

    knows_regrouped : (entries : List Operand) (answer : Datum) → (IsGiving line.inst.op → ⊥) → KnowsHere (regrouped frame entries rest answer)
    knows_regrouped entries answer none =
        let count = group_length rest in
        let members = take count rest in
        let long : length members ≡ count = length-take-le count rest (prefix_len-le-length (λ (l : Line). is_member l.inst.op) rest) in
        let value_of : Line → Datum = λ member. member_value frame.registers entries answer member member.inst.op in
        let all = further setting.layouts func meanings known value_of block (suc place) members frame.registers stands_there own (writes_none none) in
        let end : suc place + length members ≡ suc place + count = ap (λ (n : ℕ). suc place + n) long in
        record {
          place = suc place + count;
          stands = ap (drop count) rest_is ∙ drop-drop count (suc place) (lines_at func block);
          comes = subst (λ (n : ℕ). Comes func block n) end all.comes;
          behind_phis = λ inside. (let front = knows.behind_phis inside in omega arith);
          room = (let few = knows.room in let kept = puts_length (map (write_of value_of) members) frame.registers in omega arith);
          holds = subst (λ (n : ℕ). AllHold func meanings block n (put_all (map (write_of value_of) members) frame.registers)) end all.holds;
        }
      where
        stands_there : (index : ℕ) (member : Line) → slice_get (take (group_length rest) rest) index ≡ Some member → slice_get (lines_at func block) (suc place + index) ≡ Some member
        stands_there index member at =
            let inside = take_back (group_length rest) rest index member at in
            sym (get_dropped (lines_at func block) (suc place) index) ∙ (ap (λ (lines : List Line). slice_get lines index) (sym rest_is) ∙ inside.1)

        own : (index : ℕ) (member : Line) → slice_get (take (group_length rest) rest) index ≡ Some member → (value : ℕ) (meaning : Meaning) → meanings value ≡ Some meaning
            → Defines func value block (suc place + index)
            → Holds value meaning (put_all (map (write_of (λ each. member_value frame.registers entries answer each each.inst.op)) (take (suc index) (take (group_length rest) rest))) frame.registers)
        own index member at value meaning is_known defines =
            let its = line_from func block (suc place + index) member (stands_there index member at) in
            let same_inst = (own_written func block (suc place + index) member its value defines).1 in
            let gives = subst (λ (i : Instruction). IsGiving i.op) same_inst (given_giving (known.given value meaning is_known block (suc place + index) defines)) in
            absurd (member_gives_none member.inst.op (prefix_passes (λ (l : Line). is_member l.inst.op) rest index member at) gives)

    knows_answered : (answer : Datum) (op : Op) → line.inst.op ≡ op → is_calling op ≡ true → KnowsHere (answered_by frame line rest answer op)
    knows_answered answer (ops.Call callee types) kind calling =
        gives_none answer (λ gives. calling_gives_none (ops.Call callee types) refl (subst IsGiving kind gives))
    knows_answered answer (ops.Statepoint id callee types) kind calling =
        knows_regrouped (drop (length types) line.inst.operands) answer (λ gives. calling_gives_none (ops.Statepoint id callee types) refl (subst IsGiving kind gives))
    knows_answered answer op kind calling = absurd cc

    -- ---- a line that was taken before

    knows_skipped : is_phi line.inst.op || is_member line.inst.op ≡ true → KnowsHere (record frame { rest = rest })
    knows_skipped passes_test =
        passes frame.registers refl (record {
          others = λ value apart. refl;
          own = λ value meaning is_known defines. absurd (none value meaning is_known defines (known.given value meaning is_known block place defines));
        })
      where
        none : (value : ℕ) (meaning : Meaning) → meanings value ≡ Some meaning → (defines : Defines func value block place)
            → IsGiven setting.layouts func meanings value meaning block place defines.inst → ⊥
        none value meaning is_known defines (by_phi phi inside front gives) = let past = knows.behind_phis inside in omega arith
        none value meaning is_known defines (by_line kind gives) =
            let same_inst = (own_written func block place line from value defines).1 in
            let kind_here : computes line.inst.op ≡ true = ap (λ (i : Instruction). computes i.op) (sym same_inst) ∙ kind in
            phi_no_line line.inst.op (skipped_phi line.inst.op passes_test (inl kind_here)) kind_here

    -- ---- a jump

    module _ (to : ℕ) (leads : LeadsTo line frame.registers line.inst.op to) where
      abbrev own_block : BasicBlock
      own_block = from.stands.block

      edge : Edge (graph_of func) block to
      edge = leads_over func block line frame.registers line.inst.op to leads (text.leads block place line.inst from.stands)

      behind_last : Further setting.layouts func meanings known block (suc place) frame.registers
      behind_last = writes_none (leading_gives_none line frame.registers line.inst.op to leads)

      at_end : suc place ≡ length own_block.insts
      at_end = text.last block place line.inst own_block from.stands (leading_ends line frame.registers line.inst.op to leads) from.stands.in_function

      comes_end : Comes func block (length own_block.insts)
      comes_end = subst (λ (n : ℕ). Comes func block n) at_end behind_last.comes

      holds_end : AllHold func meanings block (length own_block.insts) frame.registers
      holds_end = subst (λ (n : ℕ). AllHold func meanings block n frame.registers) at_end behind_last.holds

      -- at the front of the block
      there : Further setting.layouts func meanings known to 0 frame.registers
      there = record {
        comes = over_edge block to own_block comes_end from.stands.in_function edge;
        holds = λ value meaning is_known. elim (holds_end value meaning is_known) [
          | inl undefined ↦ inl (behind_edge block to own_block undefined from.stands.in_function edge)
          | inr holds ↦ inr holds
        ];
      }

      abbrev lines : List Line
      lines = lines_at func to

      abbrev value_of : Line → Datum
      value_of phi = incoming block frame.registers phi.inst

      stands_front : (index : ℕ) (phi : Line) → slice_get (take (phi_count lines) lines) index ≡ Some phi → slice_get lines (0 + index) ≡ Some phi
      stands_front index phi at =
          let inside = take_back (phi_count lines) lines index phi at in
          let here : index ≡ 0 + index = omega arith in
          subst (λ (n : ℕ). slice_get lines n ≡ Some phi) here inside.1

      own_phi : (index : ℕ) (phi : Line) → slice_get (take (phi_count lines) lines) index ≡ Some phi → (value : ℕ) (meaning : Meaning) → meanings value ≡ Some meaning
          → Defines func value to (0 + index) → Holds value meaning (put_all (map (write_of value_of) (take (suc index) (take (phi_count lines) lines))) frame.registers)
      own_phi index phi at value meaning is_known defines = by (known.given value meaning is_known to (0 + index) defines)
        where
          inside : index < phi_count lines
          inside = (take_back (phi_count lines) lines index phi at).0

          its : LineFrom func to (0 + index) phi
          its = line_from func to (0 + index) phi (stands_front index phi at)

          taken : take (suc (0 + index)) lines ≡ take (suc index) (take (phi_count lines) lines)
          taken =
              let here : 0 + index ≡ index = omega arith in
              ap (λ (n : ℕ). take (suc n) lines) here ∙ sym (take-take (suc index) (phi_count lines) lines (omega (arith, inside)))

          its_room : value < length frame.registers
          its_room =
              let below = text.room value to (0 + index) defines in
              let few = knows.room in
              let count : setting.registers frame.func ≡ setting.registers number = ap (λ (n : ℕ). setting.registers n) same in
              omega arith

          by : IsGiven setting.layouts func meanings value meaning to (0 + index) defines.inst
              → Holds value meaning (put_all (map (write_of value_of) (take (suc index) (take (phi_count lines) lines))) frame.registers)
          by (by_line kind gives) =
              let same_inst = (own_written func to (0 + index) phi its value defines).1 in
              absurd (phi_no_line phi.inst.op (prefix_passes (λ (l : Line). is_phi l.inst.op) lines index phi at) (ap (λ (i : Instruction). computes i.op) (sym same_inst) ∙ kind))
          by (by_phi is_one later front gives) =
              subst (λ (front : List Line). Holds value meaning (put_all (map (write_of value_of) front) frame.registers)) taken
              (gives block own_block frame.registers its_room from.stands.in_function edge comes_end holds_end)

      knows_arrived : KnowsHere (arrived frame to lines)
      knows_arrived =
          let phis = take (phi_count lines) lines in
          let long : length phis ≡ phi_count lines = length-take-le (phi_count lines) lines (prefix_len-le-length (λ (l : Line). is_phi l.inst.op) lines) in
          let all = further setting.layouts func meanings known value_of to 0 phis frame.registers stands_front own_phi there in
          let end : 0 + length phis ≡ phi_count lines = omega (arith, long) in
          record {
            place = phi_count lines;
            stands = refl;
            comes = subst (λ (n : ℕ). Comes func to n) end all.comes;
            behind_phis = λ inside. omega arith;
            room = (let few = knows.room in let kept = puts_length (map (write_of value_of) phis) frame.registers in omega arith);
            holds = subst (λ (n : ℕ). AllHold func meanings to n (put_all (map (write_of value_of) phis) frame.registers)) end all.holds;
          }

      knows_jumped : KnowsHere (arrived frame to (setting.lines frame.func to))
      knows_jumped =
          let lines_are : setting.lines frame.func to ≡ lines_at func to = ap (λ (n : ℕ). setting.lines n to) same ∙ text.blocks block to edge in
          subst (λ (there : List Line). KnowsHere (arrived frame to there)) (sym lines_are) knows_arrived

  answered_func : (frame : Frame) (line : Line) (rest : List Line) (answer : Datum) (op : Op) → (answered_by frame line rest answer op).func ≡ frame.func
  answered_func frame line rest answer (ops.Statepoint id callee types) = refl
  answered_func frame line rest answer op = refl

  onward : (frame next : Frame) → KnowsAs setting number func meanings frame → Onward setting frame next → KnowsAs setting number func meanings next
  onward frame _ knows (computed line rest result is kind value_is) same = knows_computed frame same (knows same) line rest is result kind value_is
  onward frame _ knows (accessed line rest datum is kind) same = gives_none frame same (knows same) line rest is datum (access_gives_none line.inst.op kind)
  onward frame _ knows (answered line rest answer is kind) same =
      let here = sym (answered_func frame line rest answer line.inst.op) ∙ same in
      knows_answered frame here (knows here) line rest is answer line.inst.op refl kind
  onward frame _ knows (skipped line rest is kind) same = knows_skipped frame same (knows same) line rest is kind
  onward frame _ knows (jumped line rest to is leads) same = knows_jumped frame same (knows same) line rest is to leads

  -- each step keeps what a frame of the function knows
  pub knows_kept : IsKept setting (KnowsAs setting number func meanings)
  knows_kept = record { new = new; onward = onward }
