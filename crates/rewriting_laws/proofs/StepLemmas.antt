-- A line of the program and its lines in the rewritten one.
use Rattle.std.proofs.Common.{◌≡◌, ℕ, zero, suc, ◌≤◌, Bool, true, false, if◌then◌else◌, List, [], ◌∷◌, ◌++◌, length, map, drop, take, refl, ap, sym, arith, ◌∙◌}
use Rattle.std.specs.Prelude.{Option, Some, None, slice_get}
use Rattle.std.specs.Option.{option_map}
use Rattle.std.proofs.lemmas.List.{length-map, map-append}
use Rattle.std.proofs.Math.Seq.{drop-append_seam, take-append_seam}
use Rattle.ir_ast.specs.declared.types.Ty.{Ty}
use Rattle.ir_ast.specs.declared.ops.Callee.{Callee}
use Rattle.ir_ast.specs.declared.ops.Operand.{Operand}
use Rattle.ir_ast.specs.declared.ops.Op.{Op}
use Rattle.ir_ast.specs.declared.ops.Op.TheVariants.{Call}
use Rattle.ir_ast.specs.Callees.{is_leaf}
use Rattle.ir_ast.specs.Objects.{Datum}
use Rattle.object_meaning.specs.Lines.{Line}
use Rattle.object_meaning.specs.Registers.{put, put_all}
use Rattle.object_meaning.specs.States.{Frame}
use Rattle.object_meaning.specs.Frames.{is_member, member_write, group_length, regrouped}
use Rattle.object_meaning.specs.Jumps.{phi_count}
use Rattle.rewriting_forms.specs.Numbered.{lines_at, is_call, calls}
use Rattle.rewriting_forms.specs.Liveness.{live_list}
use Rattle.rewriting_forms.specs.Names.{own, names_at}
use Rattle.rewriting_forms.specs.Rewritten.{Piece, renamed, entries, statepoint, result_of, relocate_of, group, plain as plain_piece, expanded_by, expanded}
use Rattle.rewriting_laws.specs.Related.{Rewriting, IsRewriting, piece_line, Kept, FrameKept, frame_now, rest_now}
use Rattle.rewriting_laws.proofs.NameLemmas.{at_rest, prefix_append, is_one, is_none, call_or_not}
use Rattle.rewriting_laws.proofs.KeptLemmas.{Kept as OldKept, put_kept, group_kept}
use Rattle.rewriting_laws.proofs.JumpLemmas.{one_piece}

same_first : {x y : Line} → Some x ≡ Some y → x ≡ y
same_first e = cc

-- one relation in its two spellings
module _ (all : ℕ → Rewriting) (r : Rewriting) (law : IsRewriting all r) where
  to_old : (b k : ℕ) (registers now : List Datum) → Kept r b k registers now
      → OldKept r.text r.func r.table r.naming r.live law.fits r.number r.room r.now_room law.numbers law.plain law.closed b k registers now
  to_old b k registers now kept = record { each = kept.each; room_before = kept.room_before; room_now = kept.room_now }

  from_old : (b k : ℕ) (registers now : List Datum)
      → OldKept r.text r.func r.table r.naming r.live law.fits r.number r.room r.now_room law.numbers law.plain law.closed b k registers now → Kept r b k registers now
  from_old b k registers now kept = record { each = kept.each; room_before = kept.room_before; room_now = kept.room_now }

  pub line_kept : (b k : ℕ) (line : Line) (registers now : List Datum) (word : Datum) → slice_get (lines_at r.func b) k ≡ Some line → calls line ≡ false
      → Kept r b k registers now → Kept r b (suc k) (put line.to word registers) (put (option_map r.number (option_map own line.to)) word now)
  line_kept b k line registers now word stands other kept =
      from_old b (suc k) (put line.to word registers) (put (option_map r.number (option_map own line.to)) word now)
      (put_kept r.text r.func r.table r.naming r.live law.fits r.number r.room r.now_room law.numbers law.plain law.closed b k line registers now word stands other (to_old b k registers now kept))

  -- the members of a group are what stands first after its statepoint
  result_members : (b k : ℕ) (line : Line) (to : Option ℕ) (i : ℕ) (l : Line)
      → slice_get (map (piece_line r.text r.number) (result_of r.func r.table r.naming r.number b k line to)) i ≡ Some l → is_member l.inst.op ≡ true
  result_members b k line None i l is = absurd (cc)
  result_members b k line (Some x) zero l is = ap (λ (y : Line). is_member y.inst.op) (sym (same_first is))
  result_members b k line (Some x) (suc i) l is = absurd (cc)

  relocate_members : (b k : ℕ) (vs : List ℕ) (i : ℕ) (l : Line)
      → slice_get (map (piece_line r.text r.number) (map (relocate_of r.func r.table r.naming r.number b k) vs)) i ≡ Some l → is_member l.inst.op ≡ true
  relocate_members b k [] i l is = absurd (cc)
  relocate_members b k (v ∷ vs) zero l is =
      let e : piece_line r.text r.number (relocate_of r.func r.table r.naming r.number b k v) ≡ l = cc in
      ap (λ (y : Line). is_member y.inst.op) (sym e)
  relocate_members b k (v ∷ vs) (suc i) l is = relocate_members b k vs i l is

  -- what follows a group begins with no member
  rest_apart : (b k : ℕ) (lines : List Line) → ((line : Line) (rest : List Line) → lines ≡ line ∷ rest → is_member line.inst.op ≡ false)
      → group_length (rest_now r b k lines) ≡ 0
  rest_apart b k [] none = refl
  rest_apart b k (line ∷ rest) none = elim (call_or_not line.inst.op) [
    | is_one callee types e other ↦
        ap (λ (op : Op). group_length (map (piece_line r.text r.number) (expanded_by r.func r.table r.naming r.number b k line op ++ expanded r.func r.table r.naming r.number b (suc k) rest))) e
        ∙ rw other refl
    | is_none plain ↦
        ap (λ (pieces : List Piece). group_length (map (piece_line r.text r.number) (pieces ++ expanded r.func r.table r.naming r.number b (suc k) rest))) (one_piece r.func r.table r.naming r.number b k line line.inst.op plain)
        ∙ rw (none line rest refl) refl
  ]

  abbrev pub members_now : ℕ → ℕ → Line → List Line
  members_now b k line = map (piece_line r.text r.number) (group r.func r.table r.naming r.number b k line)

  all_members : (b k : ℕ) (line : Line) (i : ℕ) (l : Line) → slice_get (members_now b k line) i ≡ Some l → is_member l.inst.op ≡ true
  all_members b k line i l is =
      let split = map-append (piece_line r.text r.number) (result_of r.func r.table r.naming r.number b k line line.to) (map (relocate_of r.func r.table r.naming r.number b k) (live_list r.func r.table b k)) in
      either (map (piece_line r.text r.number) (result_of r.func r.table r.naming r.number b k line line.to))
      (map (piece_line r.text r.number) (map (relocate_of r.func r.table r.naming r.number b k) (live_list r.func r.table b k))) i
      (ap (λ (ls : List Line). slice_get ls i) (sym split) ∙ is) (result_members b k line line.to) (relocate_members b k (live_list r.func r.table b k))
    where
      either : (xs ys : List Line) (i : ℕ) → slice_get (xs ++ ys) i ≡ Some l → ((i : ℕ) (l : Line) → slice_get xs i ≡ Some l → is_member l.inst.op ≡ true)
          → ((i : ℕ) (l : Line) → slice_get ys i ≡ Some l → is_member l.inst.op ≡ true) → is_member l.inst.op ≡ true
      either [] ys i is first second = second i l is
      either (x ∷ xs) ys zero is first second = first 0 l is
      either (x ∷ xs) ys (suc i) is first second = either xs ys i is (λ j. first (suc j)) second

  drop_entries : (types : List Ty) (xs ys : List Operand) → length types ≡ length xs → drop (length types) (xs ++ ys) ≡ ys
  drop_entries [] [] ys e = refl
  drop_entries [] (x ∷ xs) ys e = absurd (omega arith)
  drop_entries (type ∷ types) [] ys e = absurd (omega arith)
  drop_entries (type ∷ types) (x ∷ xs) ys e = drop_entries types xs ys (omega arith)

  take_operands : (types : List Ty) (xs ys : List Operand) → length types ≡ length xs → take (length types) (xs ++ ys) ≡ xs
  take_operands [] [] ys e = refl
  take_operands [] (x ∷ xs) ys e = absurd (omega arith)
  take_operands (type ∷ types) [] ys e = absurd (omega arith)
  take_operands (type ∷ types) (x ∷ xs) ys e = ap (λ (zs : List Operand). x ∷ zs) (take_operands types xs ys (omega arith))

  -- a frame goes on behind a call, and behind its group
  module _ (frame : Frame) (k : ℕ) (registers : List Datum) (line : Line) (rest : List Line) (callee : Callee) (types : List Ty)
      (place : drop k (lines_at r.func frame.block) ≡ line ∷ rest) (behind : phi_count (lines_at r.func frame.block) ≤ k)
      (kept : Kept r frame.block k frame.registers registers) (is_one : line.inst.op ≡ Call callee types) (not_leaf : is_leaf callee ≡ false) where
    abbrev pub call_now : Line
    call_now = piece_line r.text r.number (statepoint r.func r.table r.naming r.number frame.block k callee types line.inst)

    stands : slice_get (lines_at r.func frame.block) k ≡ Some line
    stands = (at_rest (lines_at r.func frame.block) k line rest place).0

    next : drop (suc k) (lines_at r.func frame.block) ≡ rest
    next = (at_rest (lines_at r.func frame.block) k line rest place).1

    pub lengths : length types ≡ length (map (renamed r.number (names_at r.func r.table r.naming frame.block k)) line.inst.operands)
    lengths = (law.plain).arguments frame.block k line callee types stands is_one
        ∙ sym (length-map line.inst.operands (renamed r.number (names_at r.func r.table r.naming frame.block k)))

    operands_split : call_now.inst.operands ≡ map (renamed r.number (names_at r.func r.table r.naming frame.block k)) line.inst.operands
        ++ map (renamed r.number (names_at r.func r.table r.naming frame.block k)) (entries r.func r.table frame.block k)
    operands_split = map-append (renamed r.number (names_at r.func r.table r.naming frame.block k)) line.inst.operands (entries r.func r.table frame.block k)

    abbrev pub entries_now : List Operand
    entries_now = drop (length types) call_now.inst.operands

    call_entries : entries_now ≡ map (renamed r.number (names_at r.func r.table r.naming frame.block k)) (entries r.func r.table frame.block k)
    call_entries = ap (λ (os : List Operand). drop (length types) os) operands_split
        ∙ drop_entries types (map (renamed r.number (names_at r.func r.table r.naming frame.block k)) line.inst.operands)
        (map (renamed r.number (names_at r.func r.table r.naming frame.block k)) (entries r.func r.table frame.block k)) lengths

    pub call_operands : take (length types) call_now.inst.operands ≡ map (renamed r.number (names_at r.func r.table r.naming frame.block k)) line.inst.operands
    call_operands = ap (λ (os : List Operand). take (length types) os) operands_split
        ∙ take_operands types (map (renamed r.number (names_at r.func r.table r.naming frame.block k)) line.inst.operands)
        (map (renamed r.number (names_at r.func r.table r.naming frame.block k)) (entries r.func r.table frame.block k)) lengths

    abbrev pub after_call : List Line
    after_call = members_now frame.block k line ++ rest_now r frame.block (suc k) rest

    -- the lines that a call becomes
    pub rest_is_call : rest_now r frame.block k (line ∷ rest) ≡ call_now ∷ after_call
    rest_is_call =
        ap (λ (op : Op). map (piece_line r.text r.number) (expanded_by r.func r.table r.naming r.number frame.block k line op ++ expanded r.func r.table r.naming r.number frame.block (suc k) rest)) is_one
        ∙ ap (λ (t : Bool). map (piece_line r.text r.number)
        ((if t then plain_piece r.func r.table r.naming r.number frame.block k line ∷ []
        else statepoint r.func r.table r.naming r.number frame.block k callee types line.inst ∷ group r.func r.table r.naming r.number frame.block k line)
        ++ expanded r.func r.table r.naming r.number frame.block (suc k) rest)) not_leaf
        ∙ ap (λ (ls : List Line). call_now ∷ ls) (map-append (piece_line r.text r.number) (group r.func r.table r.naming r.number frame.block k line) (expanded r.func r.table r.naming r.number frame.block (suc k) rest))

    long : group_length after_call ≡ length (members_now frame.block k line)
    long =
        let apart = rest_apart frame.block (suc k) rest (λ after others is.
        (law.plain).no_member frame.block (suc k) after ((at_rest (lines_at r.func frame.block) (suc k) after others (next ∙ is)).0)) in
        let sum = prefix_append (λ (l : Line). is_member l.inst.op) (members_now frame.block k line) (rest_now r frame.block (suc k) rest) (all_members frame.block k line) in
        omega (arith, sum, apart)

    pub regrouped_kept : (answer : Datum)
        → FrameKept r (record frame { rest = rest; registers = put line.to answer frame.registers }) (regrouped (frame_now r frame k registers) entries_now after_call answer)
    regrouped_kept answer =
        let lines = take-append_seam (members_now frame.block k line) (rest_now r frame.block (suc k) rest) in
        let others = drop-append_seam (members_now frame.block k line) (rest_now r frame.block (suc k) rest) in
        record {
          k = suc k;
          registers = put_all (map (member_write registers entries_now answer) (members_now frame.block k line)) registers;
          place = next;
          behind = omega arith;
          is =
              ap (λ (n : ℕ). let f : Frame = record frame { rest = drop n after_call; registers = put_all (map (member_write registers entries_now answer) (take n after_call)) registers } in f) long
              ∙ ap (λ (ls : List Line). let f : Frame = record frame { rest = drop (length (members_now frame.block k line)) after_call; registers = put_all (map (member_write registers entries_now answer) ls) registers } in f) lines
              ∙ ap (λ (ls : List Line). let f : Frame = record frame { rest = ls; registers = put_all (map (member_write registers entries_now answer) (members_now frame.block k line)) registers } in f) others;
          kept = from_old frame.block (suc k) (put line.to answer frame.registers) (put_all (map (member_write registers entries_now answer) (members_now frame.block k line)) registers)
              (group_kept r.text r.func r.table r.naming r.live law.fits r.number r.room r.now_room law.numbers law.plain law.closed frame.block k line stands
              (ap is_call is_one ∙ rw not_leaf refl) frame.registers registers (to_old frame.block k frame.registers registers kept) answer entries_now call_entries);
        }
