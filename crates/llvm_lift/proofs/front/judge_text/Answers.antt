use Rattle.llvm_lift.proofs.JudgeLaws.{judged_lines, judged_unread}
use Rattle.llvm_lift.proofs.front.judge_text.Goals as goal

pub returns-in-Ok : goal.returns-in-Ok
returns-in-Ok c = judged_lines c.args.form c.args.text.now c.in-Ok.raw.lines c.judge_raw.result c.in-Ok.ensures.exact c.judge_raw.ensures

pub returns-in-Err : goal.returns-in-Err
returns-in-Err c = judged_unread c.args.form c.args.text.now c.in-Err.fault c.unread.result c.in-Err.ensures.exact c.unread.ensures
