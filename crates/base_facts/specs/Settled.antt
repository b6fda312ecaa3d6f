-- What a fact comes to in its block.
use Rattle.std.specs.Prelude.{◌≡◌, ◌⊎◌, ℕ, suc, ◌<◌, ◌≤◌, Bool, true, false, nat_lt, List, length, Option, Some, None, if◌then◌else◌}
use Rattle.ir_ast.specs.Funcs.{Function}
use Rattle.object_meaning.specs.Lines.{Line}
use Rattle.object_meaning.specs.Jumps.{phi_count}
use Rattle.pair_facts.specs.Lines.{lines_at, line_in, head_at, group_in}
use Rattle.pair_facts.specs.Pairs.{Pairs, is_named, after_group}
use Rattle.pair_facts.specs.Segments.{start_at}
use Rattle.pair_facts.specs.Uses.{entries_at}
use Rattle.pair_facts.proofs.FreshLaws.{IsSound}
use Rattle.base_facts.specs.declared.facts.Pointer.TheVariants as pointers
use Rattle.base_facts.specs.declared.facts.Wanted.{Wanted}
use Rattle.base_facts.specs.declared.facts.Wanted.TheVariants as bases
use Rattle.base_facts.specs.declared.facts.Fact.{Fact}
use Rattle.base_facts.specs.declared.settle.Answer.{Answer}
use Rattle.base_facts.specs.declared.settle.Answer.TheVariants.{Always, Never, Asks}
use Rattle.base_facts.specs.Facts.{operand_in, base_in, holds}
use Rattle.fact_tables.specs.Tables.{first_of, FindsWithin}
use Rattle.base_facts.specs.Members.{member_named}

-- whatever stands behind the phis of its block, the fact has this answer
abbrev pub Decides : Function → Fact → Bool → Type 0
Decides func asked answer = (front : Pairs) → IsSound front → holds func front asked ≡ answer

-- only the line at `at`, which is no phi and in no group, gives the pointer, and the fact stands directly behind it
pub record IsDefined (func : Function) (fact : Fact) : Type 0 where
  pub at : ℕ
  pub value : ℕ
  pub pointer : fact.pointer ≡ pointers.Value value
  pub behind : fact.place ≡ suc at
  pub inside : at < length (lines_at func fact.block)
  pub past : phi_count (lines_at func fact.block) ≤ at
  pub plain : head_at (lines_at func fact.block) at ≡ None
  pub gives : (line_in (lines_at func fact.block) at).to ≡ Some value
  pub only : (other : ℕ) → (line_in (lines_at func fact.block) other).to ≡ Some value → other ≡ at

-- the fact stands behind the phis of its block, or behind the definition of its pointer
pub record IsSettled (func : Function) (fact : Fact) : Type 0 where
  pub block_inside : fact.block < length func.blocks
  pub kind : (fact.place ≡ phi_count (lines_at func fact.block)) ⊎ IsDefined func fact

-- the fact holds where this one does
pub record SettlesBy (func : Function) (asked fact : Fact) : Type 0 where
  pub settled : IsSettled func fact
  pub block : fact.block ≡ asked.block
  pub up : fact.place ≤ asked.place ⊎ (fact.place ≡ phi_count (lines_at func fact.block))
  pub same : (front : Pairs) → IsSound front → holds func front asked ≡ holds func front fact

abbrev pub Settles : Function → Fact → Answer → Type 0
Settles func asked Always = Decides func asked true
Settles func asked Never = Decides func asked false
Settles func asked (Asks fact) = SettlesBy func asked fact

-- no line behind the last statepoint gives the pointer
abbrev pub IsNotGiven : List Line → Fact → Type 0
IsNotGiven lines asked = (at : ℕ) → first_of lines asked.place ≤ at → at < asked.place
    → (value : ℕ) → (line_in lines at).to ≡ Some value → is_named value (operand_in asked.pointer) ≡ false

-- no pair of it stands behind the last statepoint's group
abbrev pub IsLostBehind : List Line → Fact → Type 0
IsLostBehind lines asked = (head : ℕ) → start_at lines asked.place ≡ suc head
    → after_group (entries_at lines head) (group_in lines head) (operand_in asked.pointer) (base_in asked.base) ≡ false

abbrev pub finds_wanted : List Line → ℕ → Wanted → Option ℕ → Type 0
finds_wanted lines place (bases.Value base) found = FindsWithin lines place base found
finds_wanted lines place wanted found = found ≡ None

-- where the base is given behind the last statepoint
abbrev pub FindsBase : List Line → Fact → Option ℕ → Type 0
FindsBase lines asked found = finds_wanted lines asked.place asked.base found

abbrev pub known : Bool → Answer
known holds = if holds then Always else Never

abbrev pub settled_defined : Fact → ℕ → Option ℕ → Answer
settled_defined asked at None = Asks (record asked { place = suc at })
settled_defined asked at (Some given) = if nat_lt at given then Never else Asks (record asked { place = suc at })

abbrev pub named_under : Option ℕ → ℕ → Line → ℕ → Line → Bool
named_under None value line base given = false
named_under (Some head) value line base given = member_named value line line.inst.op base given

abbrev pub with_base : List Line → ℕ → ℕ → ℕ → ℕ → Bool
with_base lines value at base given = named_under (head_at lines given) value (line_in lines at) base (line_in lines given)
