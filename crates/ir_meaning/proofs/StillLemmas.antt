-- Straight lines make no object: each keeps its footprint.
use Rattle.std.proofs.Common.{◌≡◌, ℕ, true, false, ◌||◌, inl, inr, List, [], ◌∷◌, ◌++◌, Option, Result, Ok, Err, refl, sym, ap, ◌∙◌}
use Rattle.sp_ids.specs.declared.ends.Trap.{Trap}
use Rattle.ir_ast.specs.Faults.PhiEdges.{is_phi}
use Rattle.ir_ast.specs.Layouts.{ObjectLayout}
use Rattle.ir_ast.specs.Objects.{Datum}
use Rattle.object_meaning.specs.Accesses.{Place, accessed}
use Rattle.object_meaning.specs.Lines.{Line}
use Rattle.object_meaning.specs.Registers.{pointer_in, value}
use Rattle.object_meaning.proofs.ListLemmas.{known}
use Rattle.object_meaning.specs.Outcomes.{sizes_in}
use Rattle.flat_code.specs.declared.lines.Action.{Action}
use Rattle.flat_code.specs.declared.lines.Action.TheVariants.{Load, Store}
use Rattle.flat_code.specs.declared.lines.FlatLine.{FlatLine}
use Rattle.flat_code.specs.Actions.{acted}
use Rattle.flat_code.specs.Flats.{AreInner, Held, acts_on, and_then, computes, flat_line, flat_lines, is_straight, line_done, lines_done, loads, stores}
use Rattle.made_objects.proofs.StepLaws.{sizes_stored}

module _ (layouts : List ObjectLayout) where
  abbrev sizes : Held → List ℕ
  sizes held = sizes_in layouts held.objects

  same_held : (one other : Held) → ◌≡◌ {A = Result Held Trap} (Ok one) (Ok other) → one ≡ other
  same_held one other is = cc

  computes_still : (held next : Held) (to : Option ℕ) (found : Result Datum Trap) → computes held to found ≡ Ok next → sizes next ≡ sizes held
  computes_still held next to (Ok datum) is = ap sizes (sym (same_held _ next is))
  computes_still held next to (Err trap) is = cc

  loads_still : (held next : Held) (to : Option ℕ) (found : Result Place Trap) → loads held to found ≡ Ok next → sizes next ≡ sizes held
  loads_still held next to (Ok place) is = ap sizes (sym (same_held _ next is))
  loads_still held next to (Err trap) is = cc

  stores_still : (held next : Held) (to : Option ℕ) (datum : Datum) (found : Result Place Trap) → stores held to datum found ≡ Ok next → sizes next ≡ sizes held
  stores_still held next to datum (Ok place) is = ap sizes (sym (same_held _ next is)) ∙ sizes_stored layouts held.objects place datum
  stores_still held next to datum (Err trap) is = cc

  acts_still : (held next : Held) (to : Option ℕ) (width : ℕ) (first second third : Datum) (action : Action) → acts_on layouts held to width first second third action ≡ Ok next
      → sizes next ≡ sizes held
  acts_still held next to width first second third (Load cell) is = loads_still held next to (accessed layouts held.objects cell (pointer_in first)) is
  acts_still held next to width first second third (Store cell) is = stores_still held next to first (accessed layouts held.objects cell (pointer_in second)) is
  acts_still held next to width first second third action is = computes_still held next to (acted action width first second third) is

  line_still : (held next : Held) (line : FlatLine) → line_done layouts held line ≡ Ok next → sizes next ≡ sizes held
  line_still held next line is =
      acts_still held next line.to line.width (value held.registers line.first) (value held.registers line.second) (value held.registers line.third) line.action is

  then_still : (held last : Held) (lines : List FlatLine) (done : Result Held Trap) → ((next : Held) → done ≡ Ok next → sizes next ≡ sizes held)
      → ((next : Held) → lines_done layouts next lines ≡ Ok last → sizes last ≡ sizes next) → and_then done (λ next. lines_done layouts next lines) ≡ Ok last → sizes last ≡ sizes held
  then_still held last lines (Ok next) here later is = later next is ∙ here next refl
  then_still held last lines (Err trap) here later is = cc

  pub lines_still : (held last : Held) (lines : List FlatLine) → lines_done layouts held lines ≡ Ok last → sizes last ≡ sizes held
  lines_still held last [] is = ap sizes (sym (same_held held last is))
  lines_still held last (line ∷ lines) is =
      then_still held last lines (line_done layouts held line) (λ next. line_still held next line) (λ next. lines_still next last lines) is

  -- ---- where straight lines trap

  -- the lines up to the one that traps
  pub record TrapsIn (held : Held) (front : List Line) (trap : Trap) : Type 0 where
    pub before : List Line
    pub line : Line
    pub behind : List Line
    pub splits : front ≡ before ++ line ∷ behind
    pub inner : AreInner before
    pub straight : is_straight line.inst.op ≡ true
    pub now : Held
    pub done : lines_done layouts held (flat_lines layouts before) ≡ Ok now
    pub traps : line_done layouts now (flat_line layouts line) ≡ Err trap

  traps_here : (held : Held) (line : Line) (front : List Line) (trap : Trap) (done : Result Held Trap) → is_phi line.inst.op ≡ false → is_straight line.inst.op ≡ true
      → line_done layouts held (flat_line layouts line) ≡ done → and_then done (λ next. lines_done layouts next (flat_lines layouts front)) ≡ Err trap
      → ((next : Held) → lines_done layouts next (flat_lines layouts front) ≡ Err trap → TrapsIn next front trap) → (is_phi line.inst.op || is_straight line.inst.op ≡ true)
      → TrapsIn held (line ∷ front) trap
  traps_here held line front trap (Ok next) plain straight does is later inner =
      let rest = later next is in
      record {
        before = line ∷ rest.before;
        line = rest.line;
        behind = rest.behind;
        splits = ap (λ (lines : List Line). line ∷ lines) rest.splits;
        inner = (inner, rest.inner);
        straight = rest.straight;
        now = rest.now;
        done = rw (plain, does) rest.done;
        traps = rest.traps;
      }
  traps_here held line front trap (Err other) plain straight does is later inner = record {
    before = [];
    line = line;
    behind = front;
    splits = refl;
    inner = tt;
    straight = straight;
    now = held;
    done = refl;
    traps = does ∙ is;
  }

  pub traps_in : (held : Held) (front : List Line) (trap : Trap) → AreInner front → lines_done layouts held (flat_lines layouts front) ≡ Err trap → TrapsIn held front trap
  traps_in held [] trap inner is = absurd (let no : Ok held ≡ Err trap = is in cc)
  traps_in held (line ∷ front) trap inner is = elim (known (is_phi line.inst.op)) [
    | inl phi ↦
        let rest = traps_in held front trap inner.1 (rw phi at is) in
        record {
          before = line ∷ rest.before;
          line = rest.line;
          behind = rest.behind;
          splits = ap (λ (lines : List Line). line ∷ lines) rest.splits;
          inner = (inner.0, rest.inner);
          straight = rest.straight;
          now = rest.now;
          done = rw phi rest.done;
          traps = rest.traps;
        }
    | inr plain ↦
        traps_here held line front trap (line_done layouts held (flat_line layouts line)) plain (rw plain at inner.0) refl (rw plain at is)
        (λ next. traps_in next front trap inner.1) inner.0
  ]
