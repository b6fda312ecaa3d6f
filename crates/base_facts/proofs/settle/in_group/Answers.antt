use Rattle.std.proofs.Common.{◌∙◌, sym, subst, Option, arith, ℕ}
use Rattle.pair_facts.specs.Lines.{lines_at}
use Rattle.base_facts.specs.declared.facts.Wanted.{Wanted}
use Rattle.base_facts.specs.declared.facts.Wanted.TheVariants as bases
use Rattle.base_facts.specs.Settled.{finds_wanted}
use Rattle.base_facts.proofs.SettleLemmas.{head_stands, decides_by, group_any, group_null, group_without, group_with}
use Rattle.base_facts.proofs.settle.in_group.Goals as goal

pub is_fresh_member-requires-clause-head : goal.is_fresh_member-requires-clause-head
is_fresh_member-requires-clause-head c =
    omega (arith, (head_stands (lines_at c.args.func.now.content c.args.asked.block) c.args.at c.args.head c.requires.head).1, c.requires.given.high, c.requires.place.place_inside)

pub is_null_member-requires-clause-head : goal.is_null_member-requires-clause-head
is_null_member-requires-clause-head c =
    omega (arith, (head_stands (lines_at c.args.func.now.content c.args.asked.block) c.args.at c.args.head c.requires.head).1, c.requires.given.high, c.requires.place.place_inside)

pub returns-in-Any : goal.returns-in-Any
returns-in-Any c =
    let func = c.args.func.now.content in
    decides_by func c.args.asked c.args.value bases.Any c.is_fresh_member.result c.requires.pointer c.in-Any.is
    (λ front. group_any (lines_at func c.args.asked.block) front c.args.asked.place c.args.value c.args.at c.args.head c.requires.given c.requires.head ∙ sym c.is_fresh_member.ensures)

pub returns-in-Null : goal.returns-in-Null
returns-in-Null c =
    let func = c.args.func.now.content in
    decides_by func c.args.asked c.args.value bases.Null c.is_null_member.result c.requires.pointer c.in-Null.is
    (λ front. group_null (lines_at func c.args.asked.block) front c.args.asked.place c.args.value c.args.at c.args.head c.requires.given c.requires.head ∙ sym c.is_null_member.ensures)

pub returns-in-None : goal.returns-in-None
returns-in-None c =
    let func = c.args.func.now.content in
    let lines = lines_at func c.args.asked.block in
    let found = subst (λ (b : Wanted). finds_wanted lines c.args.asked.place b c.args.base_at) c.in-Value.is c.requires.base in
    let none = subst (λ (o : Option ℕ). finds_wanted lines c.args.asked.place (bases.Value c.in-Value.base) o) c.in-None.is found in
    decides_by func c.args.asked c.args.value (bases.Value c.in-Value.base) _ c.requires.pointer c.in-Value.is
    (λ front. group_without lines front c.args.asked.place c.args.value c.args.at c.args.head c.in-Value.base c.requires.outside c.requires.given c.requires.head none)

pub returns-in-Some : goal.returns-in-Some
returns-in-Some c =
    let func = c.args.func.now.content in
    let lines = lines_at func c.args.asked.block in
    let found = subst (λ (b : Wanted). finds_wanted lines c.args.asked.place b c.args.base_at) c.in-Value.is c.requires.base in
    let within = subst (λ (o : Option ℕ). finds_wanted lines c.args.asked.place (bases.Value c.in-Value.base) o) c.in-Some.is found in
    decides_by func c.args.asked c.args.value (bases.Value c.in-Value.base) c.with_base.result c.requires.pointer c.in-Value.is
    (λ front. group_with lines front c.args.asked.place c.args.value c.args.at c.args.head c.in-Value.base c.in-Some.given c.requires.given c.requires.head within ∙ sym c.with_base.ensures)
