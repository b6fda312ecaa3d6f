-- What a frame becomes: at the front of a function, behind a group, at a jump.
use Rattle.std.proofs.Common.{◌≡◌, ℕ, ◌+◌, ◌-◌, ◌<◌, List, [], ◌∷◌, ◌++◌, length, map, take, drop, replicate, get_or, sym, ap, ◌∙◌, append_assoc}
use Rattle.std.specs.List.{prefix_len}
use Rattle.std.proofs.lemmas.List.{map-append, length-map}
use Rattle.ir_ast.specs.Insts.{Instruction}
use Rattle.ir_ast.specs.Objects.{Datum, number}
use Rattle.ir_ast.specs.Faults.PhiEdges.{is_phi}
use Rattle.object_meaning.specs.Frames.{is_member}
use Rattle.object_meaning.specs.Jumps.{arrived, phi_write}
use Rattle.object_meaning.specs.Lines.{Line, following, after_all}
use Rattle.object_meaning.specs.Registers.{nothing, Write, put, put_all}
use Rattle.object_meaning.specs.States.{Frame}
use Rattle.machine_meaning.specs.Machines.{slot_put, regrouped_by}
use Rattle.flat_code.proofs.RegisterLemmas.{rest_at}
use Rattle.machine_lines.specs.Lines.{line_of, lines_left}
use Rattle.machine_lines.proofs.WordLemmas.{zeros_are}
use Rattle.machine_frames.proofs.LineLemmas.{prefix_lines, take_lines, drop_lines}

pub entered_are : (arguments : List ℕ) (count : ℕ)
    → map number (arguments ++ replicate (count - length arguments) 0) ≡ map number arguments ++ replicate (count - length (map number arguments)) nothing
entered_are arguments count =
    map-append number arguments (replicate (count - length arguments) 0)
    ∙ ap (λ rest. map number arguments ++ rest) (zeros_are (count - length arguments))
    ∙ ap (λ (n : ℕ). map number arguments ++ replicate (count - n) nothing) (sym (length-map arguments number))

pub regroup_is : (stack : List ℕ) (frame : Frame) (first : ℕ) (rest : List Instruction) (answer : Datum) (registers : List Datum) (count : ℕ)
    → count ≡ prefix_len (λ inst. is_member inst.op) rest
    → registers ≡ put_all (map (slot_put stack answer) (lines_left first (take count rest))) frame.registers
    → record frame { rest = lines_left (after_all first (take count rest)) (drop count rest); registers = registers } ≡ regrouped_by stack frame (lines_left first rest) answer
regroup_is stack frame first rest answer registers count counted is =
    let lines = lines_left first rest in
    let whole : ℕ → Frame = λ n. record frame { rest = drop n lines; registers = put_all (map (slot_put stack answer) (take n lines)) frame.registers } in
    ap (λ (rs : List Datum). record frame { rest = lines_left (after_all first (take count rest)) (drop count rest); registers = rs }) is
    ∙ ap (λ (ls : List Line). record frame { rest = lines_left (after_all first (take count rest)) (drop count rest); registers = put_all (map (slot_put stack answer) ls) frame.registers }) (sym (take_lines count first rest))
    ∙ ap (λ (ls : List Line). record frame { rest = ls; registers = put_all (map (slot_put stack answer) (take count lines)) frame.registers }) (sym (drop_lines count first rest))
    ∙ ap whole (counted ∙ sym (prefix_lines is_member first rest))

pub arrive_is : (frame : Frame) (block first : ℕ) (insts : List Instruction) (registers : List Datum) (count : ℕ)
    → count ≡ prefix_len (λ inst. is_phi inst.op) insts
    → registers ≡ put_all (map (phi_write frame.block frame.registers) (lines_left first (take count insts))) frame.registers
    → record frame { block = block; rest = lines_left (after_all first (take count insts)) (drop count insts); registers = registers } ≡ arrived frame block (lines_left first insts)
arrive_is frame block first insts registers count counted is =
    let lines = lines_left first insts in
    let writes : List Line → List Datum = λ ls. put_all (map (phi_write frame.block frame.registers) ls) frame.registers in
    let whole : ℕ → Frame = λ n. record frame { block = block; rest = drop n lines; registers = writes (take n lines) } in
    ap (λ (rs : List Datum). record frame { block = block; rest = lines_left (after_all first (take count insts)) (drop count insts); registers = rs }) is
    ∙ ap (λ (ls : List Line). record frame { block = block; rest = lines_left (after_all first (take count insts)) (drop count insts); registers = writes ls }) (sym (take_lines count first insts))
    ∙ ap (λ (ls : List Line). record frame { block = block; rest = ls; registers = writes (take count lines) }) (sym (drop_lines count first insts))
    ∙ ap whole (counted ∙ sym (prefix_lines is_phi first insts))

-- the steps of the loops that go over lines
pub puts_more : (write : Line → Write) (next after : ℕ) (insts : List Instruction) (i : ℕ) (inst : Instruction) (registers more all : List Datum) → i < length insts
    → inst ≡ get_or insts i inst → after ≡ following next inst → more ≡ put (write (line_of next inst)).to (write (line_of next inst)).value registers
    → put_all (map write (lines_left next (drop i insts))) registers ≡ all
    → put_all (map write (lines_left after (drop (i + 1) insts))) more ≡ all
puts_more write next after insts i inst registers more all below read is put_so so_far =
    ap (λ (n : ℕ). put_all (map write (lines_left n (drop (i + 1) insts))) more) is
    ∙ ap (λ (rs : List Datum). put_all (map write (lines_left (following next inst) (drop (i + 1) insts))) rs) put_so
    ∙ ap (λ (rest : List Instruction). put_all (map write (lines_left next rest)) registers) (sym (rest_at insts i inst below read))
    ∙ so_far

pub writes_more : (write : Line → Write) (next after : ℕ) (insts : List Instruction) (i : ℕ) (inst : Instruction) (writes all : List Write) (one : Write) → i < length insts
    → inst ≡ get_or insts i inst → after ≡ following next inst → one ≡ write (line_of next inst)
    → writes ++ map write (lines_left next (drop i insts)) ≡ all
    → (writes ++ one ∷ []) ++ map write (lines_left after (drop (i + 1) insts)) ≡ all
writes_more write next after insts i inst writes all one below read is one_is so_far =
    append_assoc writes (one ∷ []) (map write (lines_left after (drop (i + 1) insts)))
    ∙ ap (λ (w : Write). writes ++ w ∷ map write (lines_left after (drop (i + 1) insts))) one_is
    ∙ ap (λ (n : ℕ). writes ++ write (line_of next inst) ∷ map write (lines_left n (drop (i + 1) insts))) is
    ∙ ap (λ (rest : List Instruction). writes ++ map write (lines_left next rest)) (sym (rest_at insts i inst below read)) ∙ so_far
