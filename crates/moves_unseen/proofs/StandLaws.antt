-- A frame goes on behind a line: where it stands, and which pairs stand there.
use Rattle.std.proofs.Common.{◌≡◌, ℕ, zero, suc, ◌+◌, ◌≤◌, Bool, true, false, List, [], ◌∷◌, drop, refl, sym, ap, ◌∙◌, subst, arith, cond, ltb, Option, Some, None}
use Rattle.std.specs.Prelude.{slice_get, if◌then◌else◌}
use Rattle.std.specs.Option.{option_map_or}
use Rattle.std.proofs.lemmas.Bool.{le-ltb}
use Rattle.ir_ast.specs.declared.ops.Callee.TheVariants.{Check}
use Rattle.ir_ast.specs.declared.ops.Op.TheVariants.{Call, Select}
use Rattle.ir_ast.specs.declared.ops.Op.{Op}
use Rattle.ir_ast.specs.declared.types.Ty.{Ty}
use Rattle.ir_ast.specs.Faults.GroupShape.{entries_of, is_statepoint}
use Rattle.ir_ast.specs.Faults.PhiEdges.{is_phi}
use Rattle.ir_ast.specs.Funcs.{Function}
use Rattle.ir_ast.specs.Modules.{ModuleContent}
use Rattle.ir_ast.specs.Objects.{Datum, Object}
use Rattle.ir_ast.specs.Types.{is_pointer}
use Rattle.ir_ast.specs.Values.{value_types}
use Rattle.moving_heap.specs.declared.stands.Stand.{Stand}
use Rattle.object_meaning.specs.Frames.{is_member}
use Rattle.object_meaning.specs.Jumps.{phi_count}
use Rattle.object_meaning.specs.Lines.{Line}
use Rattle.object_meaning.specs.States.{Frame}
use Rattle.pair_facts.specs.Lines.{group_in, head_at, head_here, line_before, line_in, lines_at}
use Rattle.pair_facts.specs.Pairs.{Pairs, after, after_group}
use Rattle.pair_facts.specs.Paths.{behind}
use Rattle.moves_unseen.specs.Frames.{AreWords, FrameWords, IsChosen, IsGuarded, IsRunning, StandsAt}
use Rattle.object_meaning.proofs.LineLaws.{line_is}
use Rattle.pair_facts.proofs.OwnLaws.{head_none}

-- a line that is no phi and no part of a group
pub record IsAlone (line : Line) : Type 0 where
  pub statepoint : is_statepoint line.inst.op ≡ false
  pub member : is_member line.inst.op ≡ false
  pub phi : is_phi line.inst.op ≡ false

-- ---- lists

first_of_rest : (lines : List Line) (place : ℕ) (line : Line) (rest : List Line) → drop place lines ≡ line ∷ rest → slice_get lines place ≡ Some line
first_of_rest [] zero line rest is = cc
first_of_rest [] (suc place) line rest is = cc
first_of_rest (first ∷ lines) zero line rest is = let same : first ≡ line = cc in ap (λ (l : Line). Some l) same
first_of_rest (first ∷ lines) (suc place) line rest is = first_of_rest lines place line rest is

pub rest_of_rest : (lines : List Line) (place : ℕ) (line : Line) (rest : List Line) → drop place lines ≡ line ∷ rest → rest ≡ drop (suc place) lines
rest_of_rest [] zero line rest is = cc
rest_of_rest [] (suc place) line rest is = cc
rest_of_rest (first ∷ lines) zero line rest is = let same : lines ≡ rest = cc in sym same
rest_of_rest (first ∷ lines) (suc place) line rest is = rest_of_rest lines place line rest is

no_phi_here : (first : Line) (lines : List Line) (b : Bool) → is_phi first.inst.op ≡ b → b ≡ false → phi_count (first ∷ lines) ≡ 0
no_phi_here first lines b is none = ap (λ (t : Bool). cond t (1 + phi_count lines) 0) (is ∙ none)

behind_phis : (lines : List Line) (place : ℕ) (line : Line) → slice_get lines place ≡ Some line → is_phi line.inst.op ≡ false → phi_count lines ≤ place
behind_phis [] place line is none = cc
behind_phis (first ∷ lines) zero line is none =
    let same : first ≡ line = cc in
    let count = no_phi_here first lines (is_phi first.inst.op) refl (ap (λ (l : Line). is_phi l.inst.op) same ∙ none) in omega arith
behind_phis (first ∷ lines) (suc place) line is none =
    let more = behind_phis lines place line is none in by (is_phi first.inst.op) refl more
  where
    by : (b : Bool) → is_phi first.inst.op ≡ b → phi_count lines ≤ place → phi_count (first ∷ lines) ≤ suc place
    by true first_is more = let count : phi_count (first ∷ lines) ≡ 1 + phi_count lines = ap (λ (t : Bool). cond t (1 + phi_count lines) 0) first_is in omega arith
    by false first_is more = let count = no_phi_here first lines (is_phi first.inst.op) refl first_is in omega arith

-- ---- pairs

-- behind a line that stands alone the pairs are those that it gives and keeps
pub behind_alone : (lines : List Line) (place : ℕ) (pairs : Pairs) (line : Line) → slice_get lines place ≡ Some line → IsAlone line
    → behind lines place pairs ≡ after pairs (line_before lines place) line
behind_alone lines place pairs line is alone =
    let here = line_is lines place line is in
    let none = head_none lines place (ap (λ (l : Line). is_statepoint l.inst.op) here ∙ alone.statepoint) (ap (λ (l : Line). is_member l.inst.op) here ∙ alone.member) in
    let past = behind_phis lines place line is alone.phi in
    ap (λ (head : Option ℕ). option_map_or (λ (at : ℕ). after_group (entries_of (line_in lines at).inst) (group_in lines at)) head
    (if ltb place (phi_count lines) then pairs else after pairs (line_before lines place) (line_in lines place))) none
    ∙ (ap (λ (b : Bool). if b then pairs else after pairs (line_before lines place) (line_in lines place)) (le-ltb place (phi_count lines) past)
    ∙ ap (after pairs (line_before lines place)) here)

-- ---- frames

module _ (content : ModuleContent) (frame : Frame) (func : Function) (place : ℕ) (pairs : Pairs) (at : StandsAt content frame func place pairs) (line : Line) (rest : List Line)
    (is : frame.rest ≡ line ∷ rest) where
  pub line_here : slice_get (lines_at func frame.block) place ≡ Some line
  line_here = first_of_rest (lines_at func frame.block) place line rest (sym at.rest ∙ is)

  pub stands_behind : IsAlone line → (registers : List Datum)
      → StandsAt content (record frame { rest = rest; registers = registers }) func (suc place) (after pairs (line_before (lines_at func frame.block) place) line)
  stands_behind alone registers = record {
    defined = at.defined;
    arrived = record {
      front = at.arrived.front;
      arrives = at.arrived.arrives;
      is = sym (behind_alone (lines_at func frame.block) place pairs line line_here alone) ∙ ap (behind (lines_at func frame.block) place) at.arrived.is;
    };
    rest = rest_of_rest (lines_at func frame.block) place line rest (sym at.rest ∙ is);
  }

pub the_line : (one other : Line) (found : Option Line) → found ≡ Some one → found ≡ Some other → one ≡ other
the_line one other found first second = cc

module _ (content : ModuleContent) (objects : List Object) (stands : List Stand) (frame : Frame) (held : FrameWords) (running : IsRunning content objects stands frame held)
    (line : Line) (rest : List Line) (is : frame.rest ≡ line ∷ rest) (alone : IsAlone line) (registers : List Datum) (words : List ℕ) where
  -- the running frame behind a line, whose registers and words are these: the relation holds there
  pub goes_behind : (after_objects : List Object)
      → AreWords stands (value_types running.func) (after running.pairs (line_before (lines_at running.func frame.block) running.place) line) registers words
      → ((types : List Ty) → line.inst.op ≡ Call Check types
      → IsGuarded content.layouts after_objects (after running.pairs (line_before (lines_at running.func frame.block) running.place) line) registers line)
      → ((to : ℕ) → line.inst.op ≡ Select → is_pointer line.inst.ty ≡ true → line.to ≡ Some to → IsChosen registers words line to)
      → IsRunning content after_objects stands (record frame { rest = rest; registers = registers }) (record held { words = words })
  goes_behind after_objects are check select = record {
    func = running.func;
    place = suc running.place;
    pairs = after running.pairs (line_before (lines_at running.func frame.block) running.place) line;
    at = stands_behind content frame running.func running.place running.pairs running.at line rest is alone registers;
    words = are;
    slots = running.slots;
    guarded = λ one types found op.
        let same = the_line one line (slice_get (lines_at running.func frame.block) running.place) found
        (line_here content frame running.func running.place running.pairs running.at line rest is) in
        subst (λ (l : Line). IsGuarded content.layouts after_objects (after running.pairs (line_before (lines_at running.func frame.block) running.place) line) registers l) (sym same)
        (check types (sym (ap (λ (l : Line). l.inst.op) same) ∙ op));
    chosen = λ one to found op managed gives.
        let same = the_line one line (slice_get (lines_at running.func frame.block) running.place) found
        (line_here content frame running.func running.place running.pairs running.at line rest is) in
        subst (λ (l : Line). IsChosen registers words l to) (sym same)
        (select to (sym (ap (λ (l : Line). l.inst.op) same) ∙ op) (sym (ap (λ (l : Line). is_pointer l.inst.ty) same) ∙ managed) (sym (ap (λ (l : Line). l.to) same) ∙ gives));
  }
