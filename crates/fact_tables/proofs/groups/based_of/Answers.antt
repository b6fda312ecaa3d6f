use Rattle.std.proofs.Common.{◌≡◌, ◌∙◌, ap, arith, sym, subst, ℕ, length, add-one}
use Rattle.std.proofs.lemmas.Option.{slice_get_within}
use Rattle.pair_facts.specs.Lines.{lines_at}
use Rattle.fact_tables.specs.Notes.{told, head_before}
use Rattle.fact_tables.specs.Groups.{IsGroupOf, is_based}
use Rattle.fact_tables.proofs.InstLemmas.{count_lines}
use Rattle.fact_tables.proofs.GroupLemmas.{based_more}
use Rattle.fact_tables.proofs.groups.based_of.Goals as goal

pub group_here-requires-clause-block : goal.group_here-requires-clause-block
group_here-requires-clause-block c = slice_get_within c.args.func.now.content.blocks c.args.number c.args.block.now c.requires.block

pub group_here-requires-clause-place : goal.group_here-requires-clause-place
group_here-requires-clause-place c =
    omega (arith, count_lines c.args.func.now.content c.args.number c.args.block.now c.requires.block, ap length c.insts-place-end.ensures.value)

pub is_based-requires-clause-block : goal.is_based-requires-clause-block
is_based-requires-clause-block c = slice_get_within c.args.func.now.content.blocks c.args.number c.args.block.now c.requires.block

pub is_based-requires-clause-place : goal.is_based-requires-clause-place
is_based-requires-clause-place c =
    omega (arith, count_lines c.args.func.now.content c.args.number c.args.block.now c.requires.block, ap length c.insts-place-end.ensures.value)

pub loop-place-preserved : goal.loop-place-preserved
loop-place-preserved c =
    let lines = lines_at c.args.func.now.content c.args.number in
    let place = c.loop-place.place in
    record {
      based = based_more lines place c.loop-place.based.items _ c.is_based.result c.is_based.ensures c.in_ok-push.ensures.items c.loop-place.invariant.based;
      group = subst (λ (n : ℕ). IsGroupOf lines (head_before lines n) c.in_ok-group.group) (sym (add-one place)) c.in_ok-group.ensures;
    }

pub returns : goal.returns
returns c =
    let lines = lines_at c.args.func.now.content c.args.number in
    let all : c.loop-place.place ≡ length lines =
    omega (arith, count_lines c.args.func.now.content c.args.number c.args.block.now c.requires.block, ap length c.insts-place-end.ensures.value) in
    c.loop-place.invariant.based ∙ ap (told (is_based lines)) all
