-- Each value has one version behind the first line of a function that waits there alone and whose edges lead forward, for the inserted phis go.
use Rattle.std.proofs.Common.{◌≡◌, ◌≢◌, ◌∙◌, ℕ, zero, suc, cond, ◌<◌, ◌≤◌, ◌+◌, inl, inr, ◌⊎◌, Bool, true, false, not, eqb, ◌&&◌, if◌then◌else◌, List, [], ◌∷◌, ◌++◌, length, map, take, Option, Some, None, slice_get, refl, ap, sym, arith, subst}
use Rattle.std.specs.Prelude.{slice_index, count_by}
use Rattle.std.specs.List.{Contains, range_with_len, sum_by}
use Rattle.std.specs.Option.{option_map_or}
use Rattle.std.proofs.lemmas.Bool.{cases_Bool, cases_eq, cases_lt, eq-eqb, false≢true, or_right, true≢false}
use Rattle.std.proofs.lemmas.List.{get_or_past}
use Rattle.std.proofs.lemmas.List.Sums.{sum_by-cons}
use Rattle.std.proofs.lemmas.Option.{slice_get_within}
use Rattle.list_laws.proofs.Contents.{contains_first, contains_image, contains_map}
use Rattle.list_laws.proofs.Places.{get_some, split_at}
use Rattle.sp_ids.specs.declared.ids.BlockId.{BlockId}
use Rattle.ir_ast.specs.declared.types.Ty.{Ty}
use Rattle.ir_ast.specs.declared.funcs.Arg.{Arg}
use Rattle.ir_ast.specs.declared.ops.Callee.{Callee}
use Rattle.ir_ast.specs.declared.ops.Op.TheVariants.{Call}
use Rattle.ir_ast.specs.declared.ops.Operand.{Operand}
use Rattle.ir_ast.specs.Callees.{is_leaf}
use Rattle.ir_ast.specs.Insts.{Instruction}
use Rattle.ir_ast.specs.Blocks.{BasicBlock}
use Rattle.ir_ast.specs.Funcs.{Function}
use Rattle.ir_ast.specs.Faults.PhiEdges.{PhisAreRight}
use Rattle.object_meaning.specs.Lines.{Line, numbered, after_all, first_registers, registers_of, insts_in}
use Rattle.object_meaning.specs.TargetRuns.{plain_lines}
use Rattle.phi_webs.specs.Webs.{IsTrivial, Phi}
use Rattle.phi_webs.specs.Becomes.{becomes}
use Rattle.phi_webs.proofs.BecomesLaws.{becomes_is_minimal, becomes_is_removal}
use Rattle.phi_webs.proofs.RemovalLaws.{outside_stays}
use Rattle.rewriting_forms.specs.Numbered.{among, lines_at, line_at, no_line, gives, calls, pointers, preds}
use Rattle.rewriting_forms.specs.Liveness.{Live, PhisAgree, is_live, live_list, live_lists, live_table}
use Rattle.rewriting_forms.specs.Liveness as lives
use Rattle.rewriting_forms.specs.Names.{Name, own, relocated, joined, Names, Naming, names_at, names_at_end, is_many, joins_of, arriving, full_naming, naming_of, phi_at, phis_of, same_name}
use Rattle.rewriting_laws.specs.Laws.{Edge, Fits, Reached, at_first, over, IsReached}
use Rattle.rewriting_laws.proofs.LiveExact.{live_complete, live_sound}
use Rattle.rewriting_laws.proofs.NameLemmas.{line_is}
use Rattle.rewriting_laws.proofs.NameTests.{tells_names}
use Rattle.rewriting_laws.proofs.NamingLaws.{naming_fits}
use Rattle.rewriting_laws.proofs.RemovalLaws.{names_become, own_outside, removal_solves, web_has}
use Rattle.rewriting_laws.proofs.VersionLaws.{front_is, join_parts, no_lines, versions_fit}
use Rattle.live_sets.proofs.EdgeLemmas.{among_has, has_among, pred_succ}
use Rattle.live_sets.proofs.UseLemmas.{line_back, given_between}
use Rattle.statepoint_insert.specs.Calls.{calls_in, calls_before}
use Rattle.statepoint_insert.proofs.CallLaws.{call_list, count_cons}
use Rattle.ssa_rebuild.proofs.TaskLaws.{after_is}
use Rattle.object_meaning.proofs.LineLaws.{given_is}

-- a function that begins with a call without a result, operands and a bundle
pub record Parts : Type 0 where
  pub name : List ℕ
  pub answer : Ty
  pub args : List Arg
  pub front : List ℕ
  pub callee : Callee
  pub types : List Ty
  pub ty : Ty
  pub labels : List BlockId
  pub insts : List Instruction
  pub blocks : List BasicBlock

abbrev pub first_of : Parts → Instruction
first_of parts = record { result = None; op = Call parts.callee parts.types; ty = parts.ty; operands = []; labels = parts.labels; bundle = [] }

abbrev pub entry_of : Parts → BasicBlock
entry_of parts = record { name = parts.front; insts = first_of parts ∷ parts.insts }

abbrev pub whole : Parts → Function
whole parts = record { name = parts.name; answer = parts.answer; args = parts.args; blocks = entry_of parts ∷ parts.blocks }

-- its first line is the only call that isn't of a leaf, what lives across it are arguments, and each edge leads to a later block
pub record WaitsFirst (parts : Parts) (table : List Operand) : Type 0 where
  pub reached : IsReached (whole parts)
  pub phis : PhisAreRight (whole parts)
  pub other : is_leaf parts.callee ≡ false
  pub one : length (live_lists (whole parts) table) ≡ 1
  pub arguments : (v : ℕ) → among v (live_list (whole parts) table 0 0) ≡ true → v < length parts.args
  pub forward : (from to : ℕ) → Edge (whole parts) from to → from < to

-- ---- lists

count_at : (line : Line) (lines : List Line) → calls line ≡ true → 1 ≤ count_by calls (line ∷ lines)
count_at line lines is =
    let one = count_cons line lines in
    let e : ◌≡◌ {A = ℕ} (cond (calls line) 1 0) 1 = ap (λ (t : Bool). let n : ℕ = cond t 1 0 in n) is in
    omega (arith, one, e)

register_up : (next : ℕ) (blocks : List BasicBlock) (b : ℕ) → b < length blocks → next ≤ slice_index (first_registers next blocks) b
register_up next [] b below = absurd (omega arith)
register_up next (x ∷ blocks) zero below = (let e : slice_index (first_registers next (x ∷ blocks)) 0 ≡ next = refl in omega (arith, e))
register_up next (x ∷ blocks) (suc b) below =
    let rest = register_up (after_all next x.insts) blocks b (omega arith) in
    let more = after_is next x.insts in
    omega (arith, rest, more)

one_of_many : (ps : List ℕ) → is_many ps ≡ true → (p : ℕ) × Contains ps p
one_of_many [] many = absurd (false≢true many)
one_of_many (p ∷ []) many = absurd (false≢true many)
one_of_many (p ∷ q ∷ ps) many = (p, contains_first p (q ∷ ps))

entered : (func : Function) (b : ℕ) → Reached func b → (b ≡ 0) ⊎ ((from : ℕ) × Edge func from b)
entered func _ at_first = inl refl
entered func _ (over from to reached edge) = inr (from, edge)

module _ (parts : Parts) (table : List Operand) (waits : WaitsFirst parts table) where
  abbrev func : Function
  func = whole parts

  abbrev full : Naming
  full = full_naming func table

  abbrev now : Name → Name
  now = becomes same_name (phis_of func table)

  abbrev naming : Naming
  naming = naming_of func table

  abbrev list : List ℕ
  list = live_list func table 0 0

  abbrev pub first_line : Line
  first_line = record { to = None; inst = first_of parts }

  abbrev rest : List Line
  rest = plain_lines (length parts.args) parts.insts

  pub calls_first : calls first_line ≡ true
  calls_first = ap not waits.other

  -- ---- no other call waits

  none_before : (b k : ℕ) → (b ≡ 0 → k ≡ 0 → ⊥) → 1 ≤ calls_before func b k
  none_before zero zero behind = absurd (behind refl refl)
  none_before zero (suc k) behind =
      let c : 1 ≤ count_by calls (take (suc k) (lines_at func 0)) = count_at first_line (take k rest) calls_first in
      omega (arith, c)
  none_before (suc b) k behind =
      let s : sum_by (calls_in func) (range_with_len 0 (suc b)) ≡ calls_in func 0 + sum_by (calls_in func) (range_with_len 1 b) = sum_by-cons (calls_in func) 0 (range_with_len 1 b) in
      let c : 1 ≤ calls_in func 0 = count_at first_line rest calls_first in
      omega (arith, s, c)

  pub others : (b k : ℕ) (line : Line) → b < length func.blocks → slice_get (lines_at func b) k ≡ Some line → (b ≡ 0 → k ≡ 0 → ⊥) → calls line ≡ false
  others b k line below stands behind = elim (cases_Bool (calls line)) [
    | inr plain ↦ plain
    | inl is ↦
        let found = call_list func table b k line below stands is in
        let within = slice_get_within (live_lists func table) (calls_before func b k) (live_list func table b k) found in
        let before = none_before b k behind in
        let one = waits.one in
        absurd (omega (arith, within, before, one))
  ]

  pub block_below : (b k : ℕ) (line : Line) → slice_get (lines_at func b) k ≡ Some line → b < length func.blocks
  block_below b k line stands = elim (cases_lt b (length func.blocks)) [
    | inl below ↦ below
    | inr past ↦
        let h : slice_get [] k ≡ Some line = ap (λ (ls : List Line). slice_get ls k) (sym (no_lines func table b past)) ∙ stands in
        absurd cc
  ]

  pub calls_no : (b k : ℕ) → (b ≡ 0 → k ≡ 0 → ⊥) → calls (line_at func b k) ≡ false
  calls_no b k behind = elim (cases_lt k (length (lines_at func b))) [
    | inr past ↦ ap (λ (l : Line). calls l) (get_or_past (lines_at func b) k no_line past)
    | inl within ↦
        let found = get_some (lines_at func b) k within in
        ap (λ (l : Line). calls l) (line_is func b k found.0 found.1) ∙ others b k found.0 (block_below b k found.0 found.1) found.1 behind
  ]

  -- ---- no line gives an argument

  given_up : (b k x : ℕ) (line : Line) → slice_get (lines_at func b) k ≡ Some line → line.to ≡ Some x → length parts.args ≤ x
  given_up b k x line stands to =
      let n = slice_index (registers_of func) b in
      let insts = insts_in func b in
      let from = line_back n insts k line stands in
      let within = slice_get_within insts k from.inst from.at in
      let given : gives (numbered (after_all n (take k insts)) from.inst) x ≡ true =
      ap (λ (l : Line). gives l x) (sym from.is) ∙ ap (λ (o : Option ℕ). option_map_or (λ y. eqb y x) o false) to ∙ eq-eqb x x refl in
      let between = given_between n insts k (length insts) x from.inst within from.at given in
      let up = register_up (length parts.args) func.blocks b (block_below b k line stands) in
      omega (arith, between.0, up)

  given_place : (b k v : ℕ) → gives (line_at func b k) v ≡ true → length parts.args ≤ v
  given_place b k v given = elim (cases_lt k (length (lines_at func b))) [
    | inl within ↦
        let found = get_some (lines_at func b) k within in
        given_up b k v found.0 found.1 (given_is found.0.to v (ap (λ (l : Line). gives l v) (sym (line_is func b k found.0 found.1)) ∙ given))
    | inr past ↦ absurd (false≢true (ap (λ (l : Line). gives l v) (sym (get_or_past (lines_at func b) k no_line past)) ∙ given))
  ]

  abbrev pub settled : ℕ → Name
  settled v = if among v list then relocated 0 0 v else own v

  pub settled_own : (v : ℕ) → length parts.args ≤ v → settled v ≡ own v
  settled_own v past = elim (cases_Bool (among v list)) [
    | inl is ↦ (let below = waits.arguments v is in absurd (omega (arith, below, past)))
    | inr none ↦ ap (λ (t : Bool). if t then relocated 0 0 v else own v) none
  ]

  settled_apart : (b v : ℕ) → settled v ≢ joined b v
  settled_apart b v = by (among v list)
    where
      by : (listed : Bool) → (if listed then relocated 0 0 v else own v) ≢ joined b v
      by true same = cc
      by false same = cc

  -- ---- where values live

  -- a line's instruction in the text
  pub record InBlock (b k : ℕ) (line : Line) : Type 0 where
    pub block : BasicBlock
    pub in_function : slice_get func.blocks b ≡ Some block
    pub in_block : slice_get block.insts k ≡ Some line.inst

  pub line_in : (b k : ℕ) (line : Line) → slice_get (lines_at func b) k ≡ Some line → InBlock b k line
  line_in b k line stands =
      let from = line_back (slice_index (registers_of func) b) (insts_in func b) k line stands in
      let found = get_some func.blocks b (block_below b k line stands) in
      let insts : insts_in func b ≡ found.0.insts = ap (λ (o : Option BasicBlock). option_map_or (λ (block : BasicBlock). block.insts) o []) found.1 in
      record {
        block = found.0;
        in_function = found.1;
        in_block = ap (λ (is : List Instruction). slice_get is k) (sym insts) ∙ from.at ∙ sym (ap (λ (l : Line). Some l.inst) from.is);
      }

  agree : PhisAgree func
  agree b place phi at is =
      let here = line_in b place phi at in
      (waits.phis b here.block _ _ phi.inst here.in_function (split_at here.block.insts place phi.inst here.in_block) is).agree

  -- what lives behind a line that doesn't give it lives before it
  earlier : (b k v : ℕ) → k < length (lines_at func b) → gives (line_at func b k) v ≡ false → Live func table v b (suc k) → Live func table v b k
  earlier b k v within none live =
      let found = get_some (lines_at func b) k within in
      lives.later b k found.0 found.1 (ap (λ (l : Line). gives l v) (sym (line_is func b k found.0 found.1)) ∙ none) live

  -- what lives at the front of a block lives at the end of each before it
  at_end_before : (from to v : ℕ) → Edge func from to → Live func table v to 0 → Live func table v from (length (lines_at func from))
  at_end_before from to v edge live = lives.crosses from (length (lines_at func from)) to refl (pred_succ func from to (has_among (preds func to) from edge)) live

  -- ---- the names before the first line, and those behind it

  own_stays : (v : ℕ) → now (own v) ≡ own v
  own_stays v = outside_stays same_name tells_names (phis_of func table) now (becomes_is_removal same_name tells_names (phis_of func table)) (own v) (own_outside func table full v)

  pub enters : (v : ℕ) → naming.front 0 v ≡ own v
  enters v =
      ap now (front_is func table waits.reached 0 v at_first
      ∙ ap (λ (t : Bool). if t then joined 0 v else arriving (preds func 0) (names_at_end func table full) v) ((versions_fit func table waits.reached).no_join v)
      ∙ ap (λ (ps : List ℕ). arriving ps (names_at_end func table full) v) waits.reached.entry)
      ∙ own_stays v

  behind_first : (v : ℕ) → names_at func table naming 0 (suc zero) v ≡ settled v
  behind_first v =
      ap (λ (t : Bool). if t && among v list then relocated 0 0 v else naming.front 0 v) calls_first
      ∙ ap (λ (x : Name). if among v list then relocated 0 0 v else x) (enters v)

  onwards : (b k v : ℕ) → (b ≡ 0 → k ≡ 0 → ⊥) → (gives (line_at func b k) v ≡ false → names_at func table naming b k v ≡ settled v)
      → names_at func table naming b (suc k) v ≡ settled v
  onwards b k v behind before = elim (cases_Bool (gives (line_at func b k) v)) [
    | inl given ↦
        ap (λ (t : Bool). if t then own v else (if calls (line_at func b k) && among v (live_list func table b k) then relocated b k v else names_at func table naming b k v)) given
        ∙ sym (settled_own v (given_place b k v given))
    | inr none ↦
        ap (λ (t : Bool). if t then own v else (if calls (line_at func b k) && among v (live_list func table b k) then relocated b k v else names_at func table naming b k v)) none
        ∙ ap (λ (t : Bool). if t && among v (live_list func table b k) then relocated b k v else names_at func table naming b k v) (calls_no b k behind)
        ∙ before none
  ]

  -- a live value has its one version at the front of a block, if not of the first
  abbrev HasOne : ℕ → Type 0
  HasOne b = (b ≡ 0) ⊎ ((v : ℕ) → Live func table v b 0 → naming.front b v ≡ settled v)

  place : (b k : ℕ) → HasOne b → (b ≡ 0 → k ≡ 0 → ⊥) → k ≤ length (lines_at func b) → (v : ℕ) → Live func table v b k → names_at func table naming b k v ≡ settled v
  place b zero (inl e) behind within v live = absurd (behind e refl)
  place b zero (inr is) behind within v live = is v live
  place b (suc k) one behind within v live = elim (cases_eq k 0) [
    | inr past ↦ onwards b k v (λ z e. past e) (λ none. place b k one (λ z e. past e) (omega arith) v (earlier b k v (omega arith) none live))
    | inl first ↦ elim (cases_eq b 0) [
      | inr past ↦ onwards b k v (λ z e. past z) (λ none. place b k one (λ z e. past z) (omega arith) v (earlier b k v (omega arith) none live))
      | inl entry ↦ subst (λ (c : ℕ). names_at func table naming c (suc k) v ≡ settled v) (sym entry)
          (subst (λ (j : ℕ). names_at func table naming 0 (suc j) v ≡ settled v) (sym first) (behind_first v))
    ]
  ]

  long : (b : ℕ) → b ≡ 0 → length (lines_at func b) ≡ 0 → ⊥
  long b z none =
      let e : suc (length rest) ≡ 0 = ap (λ (c : ℕ). length (lines_at func c)) (sym z) ∙ none in
      omega (arith, e)

  ends : (b : ℕ) → HasOne b → (v : ℕ) → Live func table v b (length (lines_at func b)) → names_at_end func table naming b v ≡ settled v
  ends b one v live = place b (length (lines_at func b)) one (λ z none. long b z none) (omega arith) v live

  -- ---- block after block

  record Settles (b : ℕ) : Type 0 where
    no_join : (v : ℕ) → naming.joins b v ≡ false
    one : HasOne b

  -- where that is so of all earlier blocks, an inserted phi is trivial
  join_goes : (b v : ℕ) → b < length func.blocks → ((p : ℕ) → p < b → Settles p) → joins_of func table b v ≡ true → now (joined b v) ≡ joined b v → ⊥
  join_goes b v below before joins kept =
      let has = join_parts func table b v joins in
      let live = live_sound func table v b 0 has.3 in
      let removal = becomes_is_removal same_name tells_names (phis_of func table) in
      let each : (p : ℕ) → Contains (preds func b) p → now (names_at_end func table full p v) ≡ settled v =
      λ p within.
      let edge : Edge func p b = among_has (preds func b) p within in
      sym (names_become func table full now (removal_solves func table waits.reached now removal) p (full.front p) v (length (lines_at func p)))
      ∙ ends p (before p (waits.forward p b edge)).one v (at_end_before p b v edge live) in
      let some = one_of_many (preds func b) has.0 in
      becomes_is_minimal same_name tells_names (phis_of func table) (phi_at func table full b v) (settled v) (record {
        stands = web_has func table full b v below has.1 joins;
        kept = kept;
        other = settled_apart b v;
        some = (names_at_end func table full some.0 v, contains_map (λ p. names_at_end func table full p v) (preds func b) some.0 some.1, each some.0 some.1);
        all = λ o within.
            let from = contains_image (λ p. names_at_end func table full p v) (preds func b) o within in
            inr (ap now (sym from.is) ∙ each from.of from.inside);
      })

  settles : (b : ℕ) → b < length func.blocks → ((p : ℕ) → p < b → Settles p) → Settles b
  settles b below before = record { no_join = no_join; one = from_before (waits.reached.blocks b below) }
    where
      no_join : (v : ℕ) → naming.joins b v ≡ false
      no_join v = by (joins_of func table b v) refl (same_name (joined b v) (now (joined b v))) refl
        where
          by : (joins : Bool) → joins_of func table b v ≡ joins → (kept : Bool) → same_name (joined b v) (now (joined b v)) ≡ kept → (joins && kept) ≡ false
          by false is kept same = refl
          by true is false same = refl
          by true is true same = absurd (join_goes b v below before is (sym ((tells_names (joined b v) (now (joined b v))).0 same)))

      fits : Fits func table naming (live_table func table)
      fits = naming_fits func table waits.reached

      from_before : Reached func b → HasOne b
      from_before reached = elim (entered func b reached) [
        | inl first ↦ inl first
        | inr way ↦ inr (λ v live.
            fits.at_edge way.0 b v way.1 (or_right (not (among v (pointers func))) (is_live func table b 0 v) (live_complete func table v agree b 0 live)) (no_join v)
            ∙ ends way.0 (before way.0 (waits.forward way.0 b way.1)).one v (at_end_before way.0 b v way.1 live))
      ]

  settles_below : (bound b : ℕ) → b < bound → b < length func.blocks → Settles b
  settles_below zero b under below = absurd (omega arith)
  settles_below (suc bound) b under below = settles b below (λ p before. settles_below bound p (omega (arith, under, before)) (omega (arith, below, before)))

  all_settle : (b : ℕ) → b < length func.blocks → Settles b
  all_settle b below = settles_below (suc b) b (omega arith) below

  pub no_joins : (b v : ℕ) → b < length func.blocks → naming.joins b v ≡ false
  no_joins b v below = (all_settle b below).no_join v

  pub settled_at : (b k v : ℕ) → b < length func.blocks → (b ≡ 0 → k ≡ 0 → ⊥) → k ≤ length (lines_at func b) → Live func table v b k
      → names_at func table naming b k v ≡ settled v
  settled_at b k v below behind within live = place b k (all_settle b below).one behind within v live

  pub settled_end : (b v : ℕ) → b < length func.blocks → Live func table v b (length (lines_at func b)) → names_at_end func table naming b v ≡ settled v
  settled_end b v below live = ends b (all_settle b below).one v live
