use Rattle.std.proofs.Common.{◌∙◌, sym}
use Rattle.print_tables.proofs.NameLemmas.{value_name-argument, value_name-result}
use Rattle.print_tables.proofs.names.name_of_value.Goals as goal

pub returns-in-Some : goal.returns-in-Some
returns-in-Some c =
    let one = c.in-Some.ensures.lookup in
    c.bytes.ensures ∙ sym (value_name-argument c.args.func.now.content c.args.value.0 c.in-Some.arg.now
    (rw c.args-args.ensures.value at one.3.0) (rw c.args-args.ensures.value at one.1))

pub returns-in-None : goal.returns-in-None
returns-in-None c =
    let one = c.in-None.ensures.lookup in
    rw (
      value_name-result c.args.func.now.content c.args.value.0 (rw c.args-args.ensures.value at one.3),
      ← c.args-args.ensures.value,
      ← c.blocks-in-None.ensures.value,
    ) c.result_name.ensures
