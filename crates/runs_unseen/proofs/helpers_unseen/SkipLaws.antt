-- Phis, results and relocates: both step over them, and no pair is new behind them.
use Rattle.std.proofs.Common.{◌≡◌, ℕ, zero, suc, Bool, true, false, List, [], ◌∷◌, drop, map, refl, sym, ap, ◌∙◌, subst, ltb, Option, Some, None}
use Rattle.std.specs.Prelude.{slice_get, if◌then◌else◌}
use Rattle.std.specs.Option.{option_map_or}
use Rattle.std.proofs.lemmas.Bool.{true≢false}
use Rattle.std.proofs.lemmas.Option.{none-some}
use Rattle.ir_ast.specs.declared.ops.Callee.TheVariants.{Check}
use Rattle.ir_ast.specs.declared.ops.Op.{Op}
use Rattle.ir_ast.specs.declared.ops.Op.TheVariants as ops
use Rattle.ir_ast.specs.declared.ops.Operand.{Operand}
use Rattle.ir_ast.specs.declared.types.Ty.{Ty}
use Rattle.ir_ast.specs.Faults.GroupShape.{entries_of, is_statepoint}
use Rattle.ir_ast.specs.Insts.{Instruction}
use Rattle.ir_ast.specs.Modules.{ModuleContent}
use Rattle.object_meaning.specs.Effects.{Effect, goes_on}
use Rattle.object_meaning.specs.Frames.{is_member}
use Rattle.object_meaning.specs.Jumps.{phi_count}
use Rattle.object_meaning.specs.Lines.{Line}
use Rattle.object_meaning.specs.States.{Setting, State}
use Rattle.object_meaning.specs.Steps.{acts, skipped, step, steps_at}
use Rattle.pair_facts.specs.declared.bases.Base.{Base}
use Rattle.pair_facts.specs.declared.bases.Base.TheVariants.{Named}
use Rattle.pair_facts.specs.Lines.{group_in, head_at, line_before, line_in, lines_at}
use Rattle.pair_facts.specs.Pairs.{Pairs, after, after_group, given_pairs, is_base_named, is_named, with_given, without}
use Rattle.pair_facts.specs.Paths.{behind, pairs_at}
use Rattle.machine_meaning.specs.Machines.{Machine, Machinery}
use Rattle.machine_meaning.specs.MachineSteps.{machine_acts, machine_at, machine_step}
use Rattle.machine_meaning.specs.Words.{worded}
use Rattle.moves_unseen.specs.Frames.{IsRunning}
use Rattle.moves_unseen.specs.States.{Extra, IsRelated, machine_of}
use Rattle.moves_unseen.specs.Steps.{StepFollows, both_go}
use Rattle.moves_unseen.specs.Waits.{IsSkipped, phi, relocate, result}
use Rattle.moves_unseen.proofs.StandLaws.{line_here, rest_of_rest, the_line}
use Rattle.object_meaning.proofs.LineLaws.{line_is}

-- ---- lines that are stepped over

no_statepoint : (op : Op) → IsSkipped op → is_statepoint op ≡ false
no_statepoint _ phi = refl
no_statepoint _ result = refl
no_statepoint _ relocate = refl

gives_no_pair : (pairs : Pairs) (last : Option Line) (inst : Instruction) (op : Op) → IsSkipped op → (value : ℕ) (base : Base) → given_pairs pairs last inst op value base ≡ false
gives_no_pair pairs last inst _ phi value base = refl
gives_no_pair pairs last inst _ result value base = refl
gives_no_pair pairs last inst _ relocate value base = refl

no_check : (op : Op) → IsSkipped op → (types : List Ty) → op ≡ ops.Call Check types → ⊥
no_check _ phi types is = cc
no_check _ result types is = cc
no_check _ relocate types is = cc

no_select : (op : Op) → IsSkipped op → op ≡ ops.Select → ⊥
no_select _ phi is = cc
no_select _ result is = cc
no_select _ relocate is = cc

acts_so : (setting : Setting) (state : State) (line : Line) (rest : List Line) (op : Op) → IsSkipped op → acts setting state line rest op ≡ skipped state rest
acts_so setting state line rest _ phi = refl
acts_so setting state line rest _ result = refl
acts_so setting state line rest _ relocate = refl

machine_acts_so : (machinery : Machinery) (machine : Machine) (line : Line) (rest : List Line) (op : Op) → IsSkipped op
    → machine_acts machinery machine line rest op ≡ goes_on (record machine { state = record machine.state { running = record machine.state.running { rest = rest } } })
machine_acts_so machinery machine line rest _ phi = refl
machine_acts_so machinery machine line rest _ result = refl
machine_acts_so machinery machine line rest _ relocate = refl

-- ---- pairs

left_of : (one two : Bool) (own stood : Bool) → own ≡ false → (if one then own else (if one then false else (if two then false else stood))) ≡ true → stood ≡ true
left_of true two own stood none is = absurd (true≢false (sym is ∙ none))
left_of false true own stood none is = absurd (true≢false (sym is))
left_of false false own stood none is = is

-- a line without pairs of its own only takes pairs away
after_fewer : (pairs : Pairs) (last : Option Line) (line : Line) → IsSkipped line.inst.op → (derived : Operand) (base : Base) → after pairs last line derived base ≡ true → pairs derived base ≡ true
after_fewer pairs last line due derived base = by line.to
  where
    by : (to : Option ℕ) → with_given to (λ value. given_pairs (without value pairs) last line.inst line.inst.op value) pairs derived base ≡ true → pairs derived base ≡ true
    by None is = is
    by (Some value) is =
        left_of (is_named value derived) (is_base_named value base) (given_pairs (without value pairs) last line.inst line.inst.op value base) (pairs derived base)
        (gives_no_pair (without value pairs) last line.inst line.inst.op due value base) is

-- a line of a group has the statepoint of the line before it
head_before : (lines : List Line) (place head : ℕ) → is_statepoint (line_in lines place).inst.op ≡ false → head_at lines place ≡ Some head
    → (before : ℕ) × (place ≡ suc before) × (head_at lines before ≡ Some head)
head_before lines zero head apart is = absurd (by (is_statepoint (line_in lines 0).inst.op) (is_member (line_in lines 0).inst.op) apart is)
  where
    by : (one two : Bool) → one ≡ false → ◌≡◌ {A = Option ℕ} (if one then Some 0 else (if two then None else None)) (Some head) → ⊥
    by true two apart is = true≢false apart
    by false true apart is = none-some head is
    by false false apart is = none-some head is
head_before lines (suc place) head apart is = (place, refl, by (is_statepoint (line_in lines (suc place)).inst.op) (is_member (line_in lines (suc place)).inst.op) apart is)
  where
    by : (one two : Bool) → one ≡ false → ◌≡◌ {A = Option ℕ} (if one then Some (suc place) else (if two then head_at lines place else None)) (Some head) → head_at lines place ≡ Some head
    by true two apart is = absurd (true≢false apart)
    by false true apart is = is
    by false false apart is = absurd (none-some head is)

abbrev behind_by : List Line → ℕ → Pairs → Option ℕ → Bool → Pairs
behind_by lines place pairs head early =
    option_map_or (λ (head : ℕ). after_group (entries_of (line_in lines head).inst) (group_in lines head)) head
    (if early then pairs else after pairs (line_before lines place) (line_in lines place))

-- behind a member of a group the pairs are those behind its group, which stood before it
pub fewer_behind : (lines : List Line) (front : Pairs) (place : ℕ) (line : Line) → slice_get lines place ≡ Some line → IsSkipped line.inst.op
    → (derived : Operand) (base : Base) → behind lines place (pairs_at lines front place) derived base ≡ true → pairs_at lines front place derived base ≡ true
fewer_behind lines front place line here due derived base stood = by (head_at lines place) (ltb place (phi_count lines)) refl stood
  where
    by : (head : Option ℕ) (early : Bool) → head_at lines place ≡ head → behind_by lines place (pairs_at lines front place) head early derived base ≡ true
        → pairs_at lines front place derived base ≡ true
    by (Some head) early found is =
        let before = head_before lines place head (ap (λ (l : Line). is_statepoint l.inst.op) (line_is lines place line here) ∙ no_statepoint line.inst.op due) found in
        ap (λ (k : ℕ). pairs_at lines front k derived base) before.1
        ∙ (ap (λ (one : Option ℕ). behind_by lines before.0 (pairs_at lines front before.0) one (ltb before.0 (phi_count lines)) derived base) before.2 ∙ is)
    by None true found is = is
    by None false found is =
        after_fewer (pairs_at lines front place) (line_before lines place) (line_in lines place) (subst (λ (l : Line). IsSkipped l.inst.op) (sym (line_is lines place line here)) due) derived base is

-- ---- frames and states

module _ (content : ModuleContent) (machinery : Machinery) (setting : Setting) (state : State) (extra : Extra) (related : IsRelated content state extra)
    (line : Line) (rest : List Line) (is : state.running.rest ≡ line ∷ rest) (due : IsSkipped line.inst.op) where
  abbrev lines : List Line
  lines = lines_at related.running.func state.running.block

  abbrev place : ℕ
  place = related.running.place

  abbrev machine : Machine
  machine = machine_of machinery state extra

  abbrev after_state : State
  after_state = record state { running = record state.running { rest = rest } }

  here : slice_get lines place ≡ Some line
  here = line_here content state.running related.running.func place related.running.pairs related.running.at line rest is

  fewer : (derived : Operand) (base : Base) → behind lines place related.running.pairs derived base ≡ true → related.running.pairs derived base ≡ true
  fewer derived base stood =
      let at_is = related.running.at.arrived.is in
      ap (λ (pairs : Pairs). pairs derived base) at_is
      ∙ fewer_behind lines related.running.at.arrived.front place line here due derived base (sym (ap (λ (pairs : Pairs). behind lines place pairs derived base) at_is) ∙ stood)

  running_behind : IsRunning content state.objects extra.heap.stands after_state.running extra.running
  running_behind = record {
    func = related.running.func;
    place = suc place;
    pairs = behind lines place related.running.pairs;
    at = record {
      defined = related.running.at.defined;
      arrived = record {
        front = related.running.at.arrived.front;
        arrives = related.running.at.arrived.arrives;
        is = ap (behind lines place) related.running.at.arrived.is;
      };
      rest = rest_of_rest lines place line rest (sym related.running.at.rest ∙ is);
    };
    words = record {
      registers_count = related.running.words.registers_count;
      words_count = related.running.words.words_count;
      numbers = related.running.words.numbers;
      pointers = λ derived base stood. related.running.words.pointers derived base (fewer derived (Named base) stood);
    };
    slots = related.running.slots;
    guarded = λ one types found op.
        absurd (no_check line.inst.op due types (ap (λ (l : Line). l.inst.op) (sym (the_line one line (slice_get lines place) found here)) ∙ op));
    chosen = λ one to found op managed gives.
        absurd (no_select line.inst.op due (ap (λ (l : Line). l.inst.op) (sym (the_line one line (slice_get lines place) found here)) ∙ op));
  }

  -- related before, both step over the line, and related after
  pub skip_follows : StepFollows content machinery (step setting state) (machine_step machinery machine)
  unfolding step machine_step
  skip_follows =
      let here_is : step setting state ≡ goes_on after_state = ap (steps_at setting state) is ∙ acts_so setting state line rest line.inst.op due in
      let there_is : machine_step machinery machine ≡ goes_on (machine_of machinery after_state extra) =
      ap (machine_at machinery machine) (ap (map worded) is) ∙ machine_acts_so machinery machine (worded line) (map worded rest) line.inst.op due in
      subst (λ (effect : Effect State). StepFollows content machinery effect (machine_step machinery machine)) (sym here_is)
      (subst (StepFollows content machinery (goes_on after_state)) (sym there_is)
      (both_go after_state (machine_of machinery after_state extra) (record {
        extra = extra;
        is = refl;
        related = record {
          objects = related.objects;
          settled = related.settled;
          running = running_behind;
          below = related.below;
          tasks = related.tasks;
          await = related.await;
        };
      })))
