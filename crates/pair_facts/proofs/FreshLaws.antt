-- What has a base is fresh, literals and functions have no pair, and `null` has itself: kept by lines, groups and edges.
use Rattle.std.proofs.Common.{◌≡◌, ◌∙◌, inl, inr, ℕ, zero, suc, cond, Bool, true, false, List, Option, Some, None, refl, ap, sym, nat_lt, slice_get}
use Rattle.std.specs.Prelude.{◌&&◌}
use Rattle.std.specs.Option.{option_map_or}
use Rattle.std.proofs.lemmas.Bool.{false≢true, and_parts, or_cases, or_left, and_from, or_right}
use Rattle.sp_ids.specs.declared.ids.FuncId.{FuncId}
use Rattle.ir_ast.specs.declared.ops.Operand.{Operand}
use Rattle.ir_ast.specs.declared.ops.Operand.TheVariants.{Value, Int, Null, Fun}
use Rattle.ir_ast.specs.declared.ops.Op.{Op}
use Rattle.ir_ast.specs.declared.ops.Op.TheVariants.{Select, Gep, Load, GcResult, GcRelocate}
use Rattle.ir_ast.specs.Insts.{Instruction}
use Rattle.ir_ast.specs.Funcs.{Function}
use Rattle.ir_ast.specs.Types.{is_pointer}
use Rattle.ir_ast.specs.Faults.GroupShape.{entries_of}
use Rattle.object_meaning.specs.Lines.{Line}
use Rattle.object_meaning.specs.Jumps.{phi_count}
use Rattle.pair_facts.specs.declared.bases.Base.{Base}
use Rattle.pair_facts.specs.declared.bases.Base.TheVariants.{Any, Named}
use Rattle.pair_facts.specs.Lines.{lines_at, line_in, line_before, phis_in, head_at, group_in, gives, operand_at, is_null, is_select, same_operand}
use Rattle.pair_facts.specs.Pairs.{Pairs, is_named, is_base_named, own_pairs, at_entry, without, with_own, with_given, are_own, follows, follows_named, selected, given_pairs, after, base_index, relocates_base, has_base, relocated_pairs, member_pairs, after_group, along, base_along, on_edge}
use Rattle.pair_facts.specs.Paths.{behind, pairs_at, pairs_at_end, Arrives, start, went}
use Rattle.list_laws.proofs.Booleans.{and_false}
use Rattle.list_laws.proofs.Tests.{any_never, any_weaker}

abbrev pub Fresh : Pairs → Type 0
Fresh pairs = (operand : Operand) (base : Base) → pairs operand base ≡ true → pairs operand Any ≡ true

-- a literal or a function
pub data IsLiteral : Operand → Type 0 where
  int : (number : ℕ) → IsLiteral (Int number)
  function : (func : FuncId) → IsLiteral (Fun func)

pub record IsSound (pairs : Pairs) : Type 0 where
  pub null_any : pairs Null Any ≡ true
  pub null_own : pairs Null (Named Null) ≡ true
  pub no_literal : (operand : Operand) (base : Base) → IsLiteral operand → pairs operand base ≡ false
  pub no_literal_base : (operand base : Operand) → IsLiteral base → pairs operand (Named base) ≡ false
  pub fresh : Fresh pairs

-- ---- definitions

without_fresh : (value : ℕ) (pairs : Pairs) → Fresh pairs → Fresh (without value pairs)
without_fresh value pairs fresh operand base h = by (is_named value operand) (is_base_named value base) h
  where
    by : (b c : Bool) → cond b false (cond c false (pairs operand base)) ≡ true → cond b false (pairs operand Any) ≡ true
    by true c h = absurd (false≢true h)
    by false true h = absurd (false≢true h)
    by false false h = fresh operand base h

with_own_fresh : (value : ℕ) (own : Base → Bool) (pairs : Pairs) → ((base : Base) → own base ≡ true → own Any ≡ true) → Fresh pairs → Fresh (with_own value own pairs)
with_own_fresh value own pairs own_fresh fresh operand base h = by (is_named value operand) h (without_fresh value pairs fresh operand base)
  where
    by : (b : Bool) → cond b (own base) (without value pairs operand base) ≡ true → (without value pairs operand base ≡ true → without value pairs operand Any ≡ true)
        → cond b (own Any) (without value pairs operand Any) ≡ true
    by true h rest = own_fresh base h
    by false h rest = rest h

-- ---- selects

own_fresh : (pairs : Pairs) (operands : List Operand) → Fresh pairs → are_own pairs operands ≡ true
    → (pairs (operand_at operands 1) Any && pairs (operand_at operands 2) Any) ≡ true
own_fresh pairs operands fresh h =
    let two = and_parts (pairs (operand_at operands 1) (Named (operand_at operands 1))) (pairs (operand_at operands 2) (Named (operand_at operands 2))) h in
    and_from (pairs (operand_at operands 1) Any) (pairs (operand_at operands 2) Any) (fresh _ _ two.0) (fresh _ _ two.1)

-- what a select that follows another says of the operands
pub follows_pairs : (pairs : Pairs) (operands : List Operand) (line : Line) → follows pairs operands line ≡ true
    → (pairs (operand_at operands 1) (Named (operand_at line.inst.operands 1)) ≡ true)
    × (pairs (operand_at operands 2) (Named (operand_at line.inst.operands 2)) ≡ true)
follows_pairs pairs operands line h =
    let first = pairs (operand_at operands 1) (Named (operand_at line.inst.operands 1)) in
    let second = pairs (operand_at operands 2) (Named (operand_at line.inst.operands 2)) in
    let same = same_operand (operand_at line.inst.operands 0) (operand_at operands 0) in
    let outer = and_parts (is_select line.inst.op && is_pointer line.inst.ty) (same && (first && second)) h in
    let inner = and_parts same (first && second) outer.1 in
    and_parts first second inner.1

follows_fresh : (pairs : Pairs) (last : Option Line) (operands : List Operand) (operand : Operand) → Fresh pairs → follows_named pairs last operands operand ≡ true
    → (pairs (operand_at operands 1) Any && pairs (operand_at operands 2) Any) ≡ true
follows_fresh pairs None operands (Value value) fresh h = absurd (false≢true h)
follows_fresh pairs (Some line) operands (Value value) fresh h =
    let two = and_parts (gives line value.0) (follows pairs operands line) h in
    let each = follows_pairs pairs operands line two.1 in
    and_from (pairs (operand_at operands 1) Any) (pairs (operand_at operands 2) Any) (fresh _ _ each.0) (fresh _ _ each.1)
follows_fresh pairs last operands (Int number) fresh h = absurd (false≢true h)
follows_fresh pairs last operands Null fresh h = absurd (false≢true h)
follows_fresh pairs last operands (Fun func) fresh h = absurd (false≢true h)

selected_fresh : (pairs : Pairs) (last : Option Line) (operands : List Operand) (value : ℕ) (base : Base) → Fresh pairs → selected pairs last operands value base ≡ true
    → selected pairs last operands value Any ≡ true
selected_fresh pairs last operands value Any fresh h = h
selected_fresh pairs last operands value (Named operand) fresh h =
    elim (or_cases (is_named value operand && are_own pairs operands) (follows_named pairs last operands operand) h) [
      | inl own ↦ own_fresh pairs operands fresh (and_parts (is_named value operand) (are_own pairs operands) own).1
      | inr next ↦ follows_fresh pairs last operands operand fresh next
    ]

-- ---- lines

given_fresh : (pairs : Pairs) (last : Option Line) (inst : Instruction) (op : Op) (value : ℕ) → Fresh pairs
    → (base : Base) → given_pairs pairs last inst op value base ≡ true → given_pairs pairs last inst op value Any ≡ true
given_fresh pairs last inst Load value fresh base h =
    let two = and_parts (is_pointer inst.ty) (own_pairs value base) h in
    and_from (is_pointer inst.ty) true two.0 refl
given_fresh pairs last inst (Gep elem index_width place) value fresh base h = fresh (operand_at inst.operands 0) base h
given_fresh pairs last inst Select value fresh base h =
    let two = and_parts (is_pointer inst.ty) (selected pairs last inst.operands value base) h in
    and_from (is_pointer inst.ty) (selected pairs last inst.operands value Any) two.0 (selected_fresh pairs last inst.operands value base fresh two.1)
given_fresh pairs last inst op value fresh base h = absurd (false≢true h)

after_fresh : (pairs : Pairs) (last : Option Line) (line : Line) → Fresh pairs → Fresh (after pairs last line)
after_fresh pairs last line fresh = by line.to
  where
    by : (to : Option ℕ) → Fresh (with_given to (λ value. given_pairs (without value pairs) last line.inst line.inst.op value) pairs)
    by None = fresh
    by (Some value) =
        with_own_fresh value (given_pairs (without value pairs) last line.inst line.inst.op value) pairs
        (given_fresh (without value pairs) last line.inst line.inst.op value (without_fresh value pairs fresh)) fresh

-- ---- groups

relocated_fresh : (entries : List Operand) (group : List Line) (entry : ℕ) (base : Base) → relocated_pairs entries group entry base ≡ true
    → relocated_pairs entries group entry Any ≡ true
relocated_fresh entries group entry Any h = h
relocated_fresh entries group entry (Named (Value value)) h =
    or_left (has_base group entry) (is_null (operand_at entries entry))
    (any_weaker (λ line. gives line value.0 && relocates_base entry line) (relocates_base entry) group
    (λ line both_hold. (and_parts (gives line value.0) (relocates_base entry line) both_hold).1) h)
relocated_fresh entries group entry (Named Null) h = or_right (has_base group entry) (is_null (operand_at entries entry)) h
relocated_fresh entries group entry (Named (Int number)) h = absurd (false≢true h)
relocated_fresh entries group entry (Named (Fun func)) h = absurd (false≢true h)

member_fresh : (entries : List Operand) (group : List Line) (value : ℕ) (line : Line) (op : Op) (base : Base) → member_pairs entries group value line op base ≡ true
    → member_pairs entries group value line op Any ≡ true
member_fresh entries group value line GcResult base h =
    let two = and_parts (is_pointer line.inst.ty) (own_pairs value base) h in
    and_from (is_pointer line.inst.ty) true two.0 refl
member_fresh entries group value line GcRelocate base h = relocated_fresh entries group (base_index line) base h
member_fresh entries group value line op base h = absurd (false≢true h)

group_fresh : (entries : List Operand) (group : List Line) → Fresh (after_group entries group)
group_fresh entries group Null base h = refl
group_fresh entries group (Value value) base h =
    any_weaker (λ line. gives line value.0 && member_pairs entries group value.0 line line.inst.op base)
    (λ line. gives line value.0 && member_pairs entries group value.0 line line.inst.op Any) group
    (λ line holds. let two = and_parts (gives line value.0) (member_pairs entries group value.0 line line.inst.op base) holds in
    and_from (gives line value.0) (member_pairs entries group value.0 line line.inst.op Any) two.0 (member_fresh entries group value.0 line line.inst.op base two.1)) h
group_fresh entries group (Int number) base h = absurd (false≢true h)
group_fresh entries group (Fun func) base h = absurd (false≢true h)

-- ---- literals

without_literal : (value : ℕ) (pairs : Pairs) (operand : Operand) (base : Base) → pairs operand base ≡ false → without value pairs operand base ≡ false
without_literal value pairs operand base none = by (is_named value operand) (is_base_named value base)
  where
    by : (b c : Bool) → cond b false (cond c false (pairs operand base)) ≡ false
    by true c = refl
    by false true = refl
    by false false = none

-- a definition keeps what has no pair without it, where it gives none
pub with_own_none : (value : ℕ) (own : Base → Bool) (pairs : Pairs) (operand : Operand) (base : Base) → (is_named value operand ≡ true → own base ≡ false)
    → pairs operand base ≡ false → with_own value own pairs operand base ≡ false
with_own_none value own pairs operand base own_none none = by (is_named value operand) own_none
  where
    by : (b : Bool) → (b ≡ true → own base ≡ false) → cond b (own base) (without value pairs operand base) ≡ false
    by true own_none = own_none refl
    by false own_none = without_literal value pairs operand base none

literal_unnamed : (value : ℕ) (operand : Operand) → IsLiteral operand → is_named value operand ≡ false
literal_unnamed value _ (int number) = refl
literal_unnamed value _ (function func) = refl

after_literal : (pairs : Pairs) (last : Option Line) (line : Line) (operand : Operand) (base : Base) → IsLiteral operand → pairs operand base ≡ false
    → after pairs last line operand base ≡ false
after_literal pairs last line operand base literal none = by line.to
  where
    by : (to : Option ℕ) → with_given to (λ value. given_pairs (without value pairs) last line.inst line.inst.op value) pairs operand base ≡ false
    by None = none
    by (Some value) = with_own_none value (given_pairs (without value pairs) last line.inst line.inst.op value) pairs operand base
        (λ named. absurd (false≢true (sym (literal_unnamed value operand literal) ∙ named))) none

own_literal : (test : Bool) (value : ℕ) (base : Operand) → IsLiteral base → (test && own_pairs value (Named base)) ≡ false
own_literal test value _ (int number) = and_false test
own_literal test value _ (function func) = and_false test

selected_literal : (test : Bool) (pairs : Pairs) (last : Option Line) (operands : List Operand) (value : ℕ) (base : Operand) → IsLiteral base
    → (test && selected pairs last operands value (Named base)) ≡ false
selected_literal test pairs last operands value _ (int number) = and_false test
selected_literal test pairs last operands value _ (function func) = and_false test

given_literal : (pairs : Pairs) (last : Option Line) (inst : Instruction) (op : Op) (value : ℕ) (base : Operand) → IsLiteral base
    → ((operand : Operand) → pairs operand (Named base) ≡ false) → given_pairs pairs last inst op value (Named base) ≡ false
given_literal pairs last inst Load value base literal none = own_literal (is_pointer inst.ty) value base literal
given_literal pairs last inst (Gep elem index_width place) value base literal none = none (operand_at inst.operands 0)
given_literal pairs last inst Select value base literal none = selected_literal (is_pointer inst.ty) pairs last inst.operands value base literal
given_literal pairs last inst op value base literal none = refl

after_literal_base : (pairs : Pairs) (last : Option Line) (line : Line) (operand base : Operand) → IsLiteral base
    → ((operand : Operand) → pairs operand (Named base) ≡ false) → after pairs last line operand (Named base) ≡ false
after_literal_base pairs last line operand base literal none = by line.to
  where
    by : (to : Option ℕ) → with_given to (λ value. given_pairs (without value pairs) last line.inst line.inst.op value) pairs operand (Named base) ≡ false
    by None = none operand
    by (Some value) = with_own_none value (given_pairs (without value pairs) last line.inst line.inst.op value) pairs operand (Named base)
        (λ named. given_literal (without value pairs) last line.inst line.inst.op value base literal
        (λ other. without_literal value pairs other (Named base) (none other))) (none operand)

relocated_literal : (entries : List Operand) (group : List Line) (entry : ℕ) (base : Operand) → IsLiteral base → relocated_pairs entries group entry (Named base) ≡ false
relocated_literal entries group entry _ (int number) = refl
relocated_literal entries group entry _ (function func) = refl

member_literal : (entries : List Operand) (group : List Line) (value : ℕ) (line : Line) (op : Op) (base : Operand) → IsLiteral base
    → member_pairs entries group value line op (Named base) ≡ false
member_literal entries group value line GcResult base literal = own_literal (is_pointer line.inst.ty) value base literal
member_literal entries group value line GcRelocate base literal = relocated_literal entries group (base_index line) base literal
member_literal entries group value line op base literal = refl

null_literal : (base : Operand) → IsLiteral base → is_null base ≡ false
null_literal _ (int number) = refl
null_literal _ (function func) = refl

group_literal_base : (entries : List Operand) (group : List Line) (operand base : Operand) → IsLiteral base → after_group entries group operand (Named base) ≡ false
group_literal_base entries group Null base literal = null_literal base literal
group_literal_base entries group (Value value) base literal =
    any_never (λ line. gives line value.0 && member_pairs entries group value.0 line line.inst.op (Named base)) group
    (λ line. ap (λ b. gives line value.0 && b) (member_literal entries group value.0 line line.inst.op base literal) ∙ and_false (gives line value.0))
group_literal_base entries group (Int number) base literal = refl
group_literal_base entries group (Fun func) base literal = refl

group_literal : (entries : List Operand) (group : List Line) (operand : Operand) (base : Base) → IsLiteral operand → after_group entries group operand base ≡ false
group_literal entries group _ base (int number) = refl
group_literal entries group _ base (function func) = refl

-- ---- `null` has itself

null_after : (pairs : Pairs) (last : Option Line) (line : Line) (base : Base) → ((value : ℕ) → is_base_named value base ≡ false)
    → pairs Null base ≡ true → after pairs last line Null base ≡ true
null_after pairs last line base unnamed stands = by line.to
  where
    by : (to : Option ℕ) → with_given to (λ value. given_pairs (without value pairs) last line.inst line.inst.op value) pairs Null base ≡ true
    by None = stands
    by (Some value) = ap (λ b. cond b false (pairs Null base)) (unnamed value) ∙ stands

-- ---- all together

after_sound : (pairs : Pairs) (last : Option Line) (line : Line) → IsSound pairs → IsSound (after pairs last line)
after_sound pairs last line sound = record {
  null_any = null_after pairs last line Any (λ value. refl) sound.null_any;
  null_own = null_after pairs last line (Named Null) (λ value. refl) sound.null_own;
  no_literal = λ operand base literal. after_literal pairs last line operand base literal (sound.no_literal operand base literal);
  no_literal_base = λ operand base literal. after_literal_base pairs last line operand base literal (λ other. sound.no_literal_base other base literal);
  fresh = after_fresh pairs last line sound.fresh;
}

group_sound : (entries : List Operand) (group : List Line) → IsSound (after_group entries group)
group_sound entries group = record {
  null_any = refl;
  null_own = refl;
  no_literal = group_literal entries group;
  no_literal_base = group_literal_base entries group;
  fresh = group_fresh entries group;
}

behind_sound : (lines : List Line) (place : ℕ) (pairs : Pairs) → IsSound pairs → IsSound (behind lines place pairs)
behind_sound lines place pairs sound = by (head_at lines place) (nat_lt place (phi_count lines))
  where
    by : (head : Option ℕ) (phi : Bool) → IsSound (option_map_or (λ head. after_group (entries_of (line_in lines head).inst) (group_in lines head)) head
        (cond phi pairs (after pairs (line_before lines place) (line_in lines place))))
    by (Some head) phi = group_sound (entries_of (line_in lines head).inst) (group_in lines head)
    by None true = sound
    by None false = after_sound pairs (line_before lines place) (line_in lines place) sound

pub pairs_sound : (lines : List Line) (front : Pairs) (place : ℕ) → IsSound front → IsSound (pairs_at lines front place)
pairs_sound lines front zero sound = sound
pairs_sound lines front (suc place) sound = behind_sound lines place (pairs_at lines front place) (pairs_sound lines front place sound)

along_literal : (from : ℕ) (phis : List Line) (operand : Operand) → IsLiteral operand → IsLiteral (along from phis operand)
along_literal from phis _ (int number) = int number
along_literal from phis _ (function func) = function func

edge_sound : (from : ℕ) (phis : List Line) (pairs : Pairs) → IsSound pairs → IsSound (on_edge from phis pairs)
edge_sound from phis pairs sound = record {
  null_any = sound.null_any;
  null_own = sound.null_own;
  no_literal = λ operand base literal. sound.no_literal (along from phis operand) (base_along from phis base) (along_literal from phis operand literal);
  no_literal_base = λ operand base literal. sound.no_literal_base (along from phis operand) (along from phis base) (along_literal from phis base literal);
  fresh = λ operand base h. sound.fresh (along from phis operand) (base_along from phis base) h;
}

entry_fresh : (func : Function) → Fresh (at_entry func)
entry_fresh func Null base h = refl
entry_fresh func (Value value) base h =
    let pointer = option_map_or (λ arg. is_pointer arg.ty) (slice_get func.args value.0) false in
    let two = and_parts pointer (own_pairs value.0 base) h in
    and_from pointer true two.0 refl
entry_fresh func (Int number) base h = absurd (false≢true h)
entry_fresh func (Fun other) base h = absurd (false≢true h)

entry_literal : (func : Function) (operand : Operand) (base : Base) → IsLiteral operand → at_entry func operand base ≡ false
entry_literal func _ base (int number) = refl
entry_literal func _ base (function other) = refl

entry_literal_base : (func : Function) (operand base : Operand) → IsLiteral base → at_entry func operand (Named base) ≡ false
entry_literal_base func Null base literal = null_literal base literal
entry_literal_base func (Value value) base literal = own_literal (option_map_or (λ arg. is_pointer arg.ty) (slice_get func.args value.0) false) value.0 base literal
entry_literal_base func (Int number) base literal = refl
entry_literal_base func (Fun other) base literal = refl

entry_sound : (func : Function) → IsSound (at_entry func)
entry_sound func = record {
  null_any = refl;
  null_own = refl;
  no_literal = entry_literal func;
  no_literal_base = entry_literal_base func;
  fresh = entry_fresh func;
}

pub arrives_sound : (func : Function) (block : ℕ) (front : Pairs) → Arrives func block front → IsSound front
arrives_sound func _ _ start = entry_sound func
arrives_sound func _ _ (went from to front arrives edge) =
    edge_sound from (phis_in (lines_at func to)) (pairs_at_end (lines_at func from) front)
    (pairs_sound (lines_at func from) front _ (arrives_sound func from front arrives))
