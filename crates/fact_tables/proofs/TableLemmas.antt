-- What is found in the tables.
use Rattle.std.proofs.Common.{◌≡◌, ◌∙◌, ◌⊎◌, inl, inr, ℕ, zero, suc, ◌+◌, ◌-◌, ◌<◌, ◌≤◌, cond, Bool, true, false, List, [], ◌∷◌, ◌++◌, Option, Some, None, refl, ap, sym, subst, slice_get, length, arith, get_or, nat_lt}
use Rattle.std.specs.Prelude.{◌==◌, ◌&&◌, nat_le, slice_index}
use Rattle.std.specs.Option.{option_map_or}
use Rattle.std.proofs.lemmas.Bool.{false≢true, cases_lt, cases_Bool, eqb-true, eq-eqb, ltb-true, lt-ltb, leb-true, le-leb, and_parts, and_from}
use Rattle.std.proofs.lemmas.List.{length_push}
use Rattle.std.proofs.lemmas.Option.{none-some, same_Some, slice_get_read, slice_get-get_or}
use Rattle.ir_ast.specs.Insts.{Instruction}
use Rattle.ir_ast.specs.Blocks.{BasicBlock}
use Rattle.ir_ast.specs.Funcs.{Function}
use Rattle.object_meaning.specs.Lines.{Line, registers_of, insts_in}
use Rattle.pair_facts.specs.Lines.{lines_at, line_in, line_before, no_line, head_at, gives}
use Rattle.pair_facts.specs.Segments.{start_at}
use Rattle.pair_facts.proofs.GroupLaws.{gives_is, given_is}
use Rattle.fact_tables.specs.declared.homes.Home.{Home}
use Rattle.fact_tables.specs.declared.notes.Notes.{Notes}
use Rattle.fact_tables.specs.declared.tables.Tables.{Tables}
use Rattle.fact_tables.specs.Homes.{GivesAt, home_at, home_in, KnowsHomes}
use Rattle.fact_tables.specs.Notes.{IsNotes}
use Rattle.fact_tables.specs.Groups.{is_based}
use Rattle.fact_tables.specs.Tables.{AreNotes, AreTables, first_of, IsWithin, FindsWithin, place_between}
use Rattle.fact_tables.proofs.LineLemmas.{plain_none}
use Rattle.fact_tables.proofs.NoteLemmas.{told_at, length-told}
use Rattle.list_laws.proofs.Booleans.{same_tests}

-- ---- notes

pub notes_pushed : (func : Function) (block : ℕ) (notes : List Notes) (one : Notes) → AreNotes func block notes → IsNotes (lines_at func block) one
    → AreNotes func (block + 1) (notes ++ one ∷ [])
notes_pushed func block notes one are is = record {
  whole = length_push notes one ∙ ap (λ (n : ℕ). n + 1) are.whole;
  each = λ other found at. elim (pushed notes one other found at) [
    | inl earlier ↦ are.each other found earlier
    | inr last ↦ subst (λ (n : Notes). IsNotes (lines_at func other) n) (sym last.1)
        (subst (λ (b : ℕ). IsNotes (lines_at func b) one) (sym (last.0 ∙ are.whole)) is)
  ];
}
  where
    pushed : (notes : List Notes) (one : Notes) (k : ℕ) (found : Notes) → slice_get (notes ++ one ∷ []) k ≡ Some found
        → (slice_get notes k ≡ Some found) ⊎ ((k ≡ length notes) × (found ≡ one))
    pushed [] one zero found at = inr (refl, sym (same_Some one found at))
    pushed [] one (suc k) found at = absurd (none-some found at)
    pushed (first ∷ notes) one zero found at = inl at
    pushed (first ∷ notes) one (suc k) found at = elim (pushed notes one k found at) [
      | inl earlier ↦ inl earlier
      | inr last ↦ inr (ap suc last.0, last.1)
    ]

pub notes_read : (func : Function) (tables : Tables) (block : ℕ) (one : Notes) → AreTables func tables → block < length func.blocks
    → one ≡ get_or tables.notes.items block one → IsNotes (lines_at func block) one
notes_read func tables block one are inside is =
    are.notes.each block one (slice_get_read tables.notes.items (length tables.notes.items) block one refl (omega (arith, are.notes.whole)) is)

pub start_read : (lines : List Line) (one : Notes) (place found : ℕ) → IsNotes lines one → place ≤ length lines → found ≡ get_or one.starts.items place found
    → found ≡ start_at lines place
start_read lines one place found is within read =
    let count : length one.starts.items ≡ suc (length lines) = ap length is.starts ∙ length-told (start_at lines) (suc (length lines)) in
    let at = slice_get_read one.starts.items (length one.starts.items) place found refl (omega arith) read in
    same_Some found (start_at lines place)
    (sym at ∙ ap (λ (xs : List ℕ). slice_get xs place) is.starts ∙ told_at (start_at lines) (suc (length lines)) place (omega arith))

pub head_read : (lines : List Line) (one : Notes) (place : ℕ) (found : Option ℕ) → IsNotes lines one → place < length lines → found ≡ get_or one.heads.items place found
    → found ≡ head_at lines place
head_read lines one place found is within read =
    let count : length one.heads.items ≡ length lines = ap length is.heads ∙ length-told (head_at lines) (length lines) in
    let at = slice_get_read one.heads.items (length one.heads.items) place found refl (omega arith) read in
    same_Some found (head_at lines place)
    (sym at ∙ ap (λ (xs : List (Option ℕ)). slice_get xs place) is.heads ∙ told_at (head_at lines) (length lines) place within)

pub based_read : (lines : List Line) (one : Notes) (place : ℕ) (found : Bool) → IsNotes lines one → place < length lines → found ≡ get_or one.based.items place found
    → found ≡ is_based lines place
based_read lines one place found is within read =
    let count : length one.based.items ≡ length lines = ap length is.based ∙ length-told (is_based lines) (length lines) in
    let at = slice_get_read one.based.items (length one.based.items) place found refl (omega arith) read in
    same_Some found (is_based lines place)
    (sym at ∙ ap (λ (xs : List Bool). slice_get xs place) is.based ∙ told_at (is_based lines) (length lines) place within)

-- ---- homes

pub gives_inside : (func : Function) (block place value : ℕ) → GivesAt func block place value → block < length func.blocks
gives_inside func block place value gives = elim (cases_lt block (length func.blocks)) [
  | inl inside ↦ inside
  | inr past ↦
      (let none : insts_in func block ≡ [] = ap (λ (found : Option BasicBlock). option_map_or (λ (b : BasicBlock). b.insts) found []) (past_end func.blocks block past) in
      let empty : slice_get (insts_in func block) place ≡ None = ap (λ (insts : List Instruction). slice_get insts place) none ∙ nothing_at place in
      absurd (none-some value (sym (ap (λ (line : Line). line.to) (plain_none (slice_index (registers_of func) block) (insts_in func block) place empty)) ∙ gives)))
]
  where
    past_end : (blocks : List BasicBlock) (place : ℕ) → length blocks ≤ place → slice_get blocks place ≡ None
    past_end [] place past = refl
    past_end (block ∷ blocks) zero past = absurd (omega arith)
    past_end (block ∷ blocks) (suc place) past = past_end blocks place (omega arith)

    nothing_at : (place : ℕ) → slice_get {X = Instruction} [] place ≡ None
    nothing_at place = refl

-- the home of a value that a line gives
pub home_found : (func : Function) (homes : List (Option Home)) (block place value : ℕ) → KnowsHomes func (length func.blocks) 0 homes → GivesAt func block place value
    → home_in homes value ≡ Some (home_at block place)
home_found func homes block place value knows gives = knows.complete block place value (inl (gives_inside func block place value gives)) gives

-- only one line gives a value
pub given_once : (func : Function) (homes : List (Option Home)) (block place other value : ℕ) → KnowsHomes func (length func.blocks) 0 homes
    → GivesAt func block place value → GivesAt func block other value → other ≡ place
given_once func homes block place other value knows gives again =
    let same = same_Some (home_at block other) (home_at block place) (sym (home_found func homes block other value knows again) ∙ home_found func homes block place value knows gives) in
    ap (λ (home : Home). home.place) same

pub finds_within : (func : Function) (homes : List (Option Home)) (block place value first : ℕ) (home : Home) → KnowsHomes func (length func.blocks) 0 homes
    → home_in homes value ≡ Some home → first ≡ first_of (lines_at func block) place
    → FindsWithin (lines_at func block) place value (place_between home block first place)
finds_within func homes block place value first home knows found is = elim (cases_Bool test) [
  | inl holds ↦
      (let outer = and_parts (home.block == block && nat_le first home.place) (nat_lt home.place place) holds in
      let inner = and_parts (home.block == block) (nat_le first home.place) outer.0 in
      let gives : GivesAt func block home.place value = subst (λ (b : ℕ). GivesAt func b home.place value) (eqb-true home.block block inner.0) (knows.sound value home found) in
      let low : first ≤ home.place = leb-true first home.place inner.1 in
      let here : IsWithin (lines_at func block) place value home.place = record {
        low = omega (arith, low, is);
        high = ltb-true home.place place outer.1;
        gives = gives;
        only = λ other again. given_once func homes block home.place other value knows gives again;
      } in
      subst (λ (b : Bool). FindsWithin (lines_at func block) place value (cond b (Some home.place) None)) (sym holds) here)
  | inr fails ↦ subst (λ (b : Bool). FindsWithin (lines_at func block) place value (cond b (Some home.place) None)) (sym fails)
      (λ at low high gives.
      let same = same_Some home (home_at block at) (sym found ∙ home_found func homes block at value knows gives) in
      let own : home.block ≡ block = ap (λ (h : Home). h.block) same in
      let place_is : home.place ≡ at = ap (λ (h : Home). h.place) same in
      let found_too : test ≡ true = and_from (home.block == block && nat_le first home.place) (nat_lt home.place place)
      (and_from (home.block == block) (nat_le first home.place) (eq-eqb home.block block own) (le-leb first home.place (omega (arith, is, low, place_is))))
      (lt-ltb home.place place (omega (arith, high, place_is))) in
      false≢true (sym fails ∙ found_too))
]
  where
    test : Bool
    test = (home.block == block && nat_le first home.place) && nat_lt home.place place

pub finds_none : (func : Function) (homes : List (Option Home)) (block place value : ℕ) → KnowsHomes func (length func.blocks) 0 homes
    → home_in homes value ≡ None → FindsWithin (lines_at func block) place value None
finds_none func homes block place value knows none = λ at low high gives.
    none-some (home_at block at) (sym none ∙ home_found func homes block at value knows gives)

-- whether the line at a place gives a value, by its home
pub home_gives : (func : Function) (homes : List (Option Home)) (block place value : ℕ) (home : Home) → KnowsHomes func (length func.blocks) 0 homes
    → home_in homes value ≡ Some home → gives (line_in (lines_at func block) place) value ≡ (home.block == block && home.place == place)
home_gives func homes block place value home knows found =
    same_tests (gives (line_in (lines_at func block) place) value) (home.block == block && home.place == place)
    (λ given.
    let same = same_Some home (home_at block place) (sym found ∙ home_found func homes block place value knows (given_is (line_in (lines_at func block) place) value given)) in
    and_from (home.block == block) (home.place == place) (eq-eqb home.block block (ap (λ (h : Home). h.block) same)) (eq-eqb home.place place (ap (λ (h : Home). h.place) same)))
    (λ here.
    let two = and_parts (home.block == block) (home.place == place) here in
    let own : GivesAt func block home.place value = subst (λ (b : ℕ). GivesAt func b home.place value) (eqb-true home.block block two.0) (knows.sound value home found) in
    gives_is (line_in (lines_at func block) place) value (subst (λ (k : ℕ). GivesAt func block k value) (eqb-true home.place place two.1) own))

pub no_home_gives : (func : Function) (homes : List (Option Home)) (block place value : ℕ) → KnowsHomes func (length func.blocks) 0 homes
    → home_in homes value ≡ None → gives (line_in (lines_at func block) place) value ≡ false
no_home_gives func homes block place value knows none = elim (cases_Bool (gives (line_in (lines_at func block) place) value)) [
  | inl given ↦ absurd (none-some (home_at block place) (sym none ∙ home_found func homes block place value knows (given_is (line_in (lines_at func block) place) value given)))
  | inr other ↦ other
]

-- the line before a place that isn't the first
pub last_line : (lines : List Line) (at : ℕ) → 0 < at → at < length lines → line_before lines at ≡ Some (line_in lines (at - 1))
last_line lines zero some within = absurd (omega arith)
last_line lines (suc at) some within =
    let same : suc at - 1 ≡ at = omega arith in
    slice_get-get_or lines at no_line (omega arith) ∙ ap (λ (k : ℕ). Some (line_in lines k)) (sym same)
