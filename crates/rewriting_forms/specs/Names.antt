-- The names of relocated pointers, and which of them each use takes: the last one before it.
use Rattle.std.specs.Prelude.{ℕ, zero, suc, ◌==◌, ◌&&◌, Bool, true, false, if◌then◌else◌, List, [], ◌∷◌, length, map, filter}
use Rattle.std.specs.List.{list_any, flat_map, range_with_len}
use Rattle.ir_ast.specs.declared.ops.Operand.{Operand}
use Rattle.ir_ast.specs.Funcs.{Function}
use Rattle.phi_webs.specs.Webs.{Phi}
use Rattle.phi_webs.specs.Becomes.{becomes}
use Rattle.rewriting_forms.specs.Numbered.{among, lines_at, line_at, gives, calls, pointers, preds}
use Rattle.rewriting_forms.specs.Liveness.{is_live, live_list}

-- a value by itself, a relocate of a pointer behind the call at a place of a block, an inserted phi of a pointer, and the
-- token of the call at a place
pub data Name : Type 0 where
  own : ℕ → Name
  relocated : ℕ → ℕ → ℕ → Name
  joined : ℕ → ℕ → Name
  token : ℕ → ℕ → Name

abbrev pub same_name : Name → Name → Bool
same_name (own v) (own w) = v == w
same_name (relocated b k v) (relocated c j w) = (b == c && k == j) && v == w
same_name (joined b v) (joined c w) = b == c && v == w
same_name (token b k) (token c j) = b == c && k == j
same_name _ _ = false

abbrev pub Names : Type 0
Names = ℕ → Name

-- which phis are inserted, and the names at the start of each block, where they stand
pub record Naming : Type 0 where
  pub joins : ℕ → ℕ → Bool
  pub front : ℕ → Names

-- the pointers that have an inserted phi at the start of a block, in their order
abbrev pub joined_at : Function → Naming → ℕ → List ℕ
joined_at func naming b = filter (naming.joins b) (pointers func)

-- the names behind an instruction; a call's relocates and its result come together
abbrev pub after_line : Function → List Operand → ℕ → ℕ → Names → Names
after_line func table b k names v =
    if gives (line_at func b k) v then own v
    else (if calls (line_at func b k) && among v (live_list func table b k) then relocated b k v else names v)

abbrev pub names_from : Function → List Operand → ℕ → Names → ℕ → Names
names_from func table b names zero = names
names_from func table b names (suc k) = after_line func table b k (names_from func table b names k)

-- the version of each value before an instruction of a block
abbrev pub names_at : Function → List Operand → Naming → ℕ → ℕ → Names
names_at func table naming b k = names_from func table b (naming.front b) k

abbrev pub names_at_end : Function → List Operand → Naming → ℕ → Names
names_at_end func table naming b = names_at func table naming b (length (lines_at func b))

abbrev pub listed : Function → List Operand → ℕ → ℕ → ℕ → Bool
listed func table v b k = calls (line_at func b k) && among v (live_list func table b k)

-- the pointer stands in the live list of some call
abbrev pub stands_in_list : Function → List Operand → ℕ → Bool
stands_in_list func table v =
    list_any (λ b. list_any (listed func table v b) (range_with_len 0 (length (lines_at func b)))) (range_with_len 0 (length func.blocks))

abbrev pub is_many : List ℕ → Bool
is_many (p ∷ q ∷ ps) = true
is_many _ = false

-- an inserted phi stands at each block with two or more edges into it at whose start the pointer is live
abbrev pub joins_of : Function → List Operand → ℕ → ℕ → Bool
joins_of func table b v = is_many (preds func b) && (among v (pointers func) && (stands_in_list func table v && is_live func table b 0 v))

abbrev pub arriving : List ℕ → (ℕ → Names) → Names
arriving (p ∷ []) at_end = at_end p
arriving _ at_end = own

-- the names at the start of a block: its inserted phis, or else those at the end of the only predecessor; the walk backwards
-- goes through at most so many
abbrev pub front_within : Function → List Operand → (ℕ → ℕ → Bool) → ℕ → ℕ → Names
front_within func table joins zero b v = if joins b v then joined b v else own v
front_within func table joins (suc bound) b v =
    if joins b v then joined b v
    else arriving (preds func b) (λ p. names_from func table p (front_within func table joins bound p) (length (lines_at func p))) v

-- before any inserted phi is removed
abbrev pub full_naming : Function → List Operand → Naming
full_naming func table = record {
  joins = joins_of func table;
  front = front_within func table (joins_of func table) (suc (length func.blocks));
}

-- an inserted phi, and what it takes over each edge into its block
abbrev pub phi_at : Function → List Operand → Naming → ℕ → ℕ → Phi Name
phi_at func table naming b v = record {
  name = joined b v;
  operands = map (λ p. names_at_end func table naming p v) (preds func b);
}

abbrev pub phis_with : Function → List Operand → Naming → List (Phi Name)
phis_with func table naming =
    flat_map (λ b. map (phi_at func table naming b) (joined_at func naming b)) (range_with_len 0 (length func.blocks))

-- the inserted phis of a function, before any is removed
abbrev pub phis_of : Function → List Operand → List (Phi Name)
phis_of func table = phis_with func table (full_naming func table)

-- a naming where each name is what it becomes; an inserted phi that becomes another name is gone
abbrev pub naming_after : Naming → (Name → Name) → Naming
naming_after naming now = record {
  joins = λ b v. naming.joins b v && same_name (joined b v) (now (joined b v));
  front = λ b v. now (naming.front b v);
}

-- while an inserted phi has no operand but itself and one other name, it goes and that name takes its place
abbrev pub least_naming : Function → List Operand → Naming
least_naming func table = naming_after (full_naming func table) (becomes same_name (phis_of func table))

-- the names that the rewritten function takes
abbrev pub naming_of : Function → List Operand → Naming
naming_of = least_naming
