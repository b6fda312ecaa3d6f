use Rattle.std.proofs.Common.{◌≡◌, ◌+◌, ◌++◌, length, ap, arith}
use Rattle.std.proofs.lemmas.Result.{IfOk-weaker}
use Rattle.ir_cfg.specs.Graphs.{block_at}
use Rattle.definite_assign.specs.Asked.{asked_by}
use Rattle.definite_assign.specs.FarUses.{AreFarUses}
use Rattle.definite_assign.proofs.TextLemmas.{place_within}
use Rattle.definite_assign.proofs.UseLemmas.{far_uses_added, IsReady}
use Rattle.definite_assign.proofs.uses.add_line.Goals as goal

pub overflow_cast-place : goal.overflow_cast-place
overflow_cast-place c =
    let within = place_within c.args.func.now.content c.args.number c.args.index c.args.inst.now c.requires.stands in
    omega (arith, within, c.requires.place, c.requires.small.few_instructions)

pub returns : goal.returns
returns c =
    let ready : IsReady c.args.func.now.content c.args.homes.now =
    record { known = c.requires.formed.known; few = c.requires.small.few_instructions; table = c.requires.homes } in
    IfOk-weaker c.ask_line.result
    (λ _. c.ask_line.new.uses.items ≡ c.args.uses.now.items ++ asked_by c.args.homes.now (length c.args-arguments.result.now) (block_at c.args.number) c.args.place c.args.inst.now)
    (λ _. AreFarUses c.args.func.now.content (c.args.place + 1) c.ask_line.new.uses.items)
    (λ _ same. far_uses_added c.args.func.now.content c.args.homes.now c.args.number c.args.index c.args.place (length c.args-arguments.result.now) c.args.inst.now
    c.args.uses.now.items c.ask_line.new.uses.items ready c.requires.place c.requires.stands c.requires.uses (ap length c.args-arguments.ensures.value) same)
    c.ask_line.ensures
