-- The work where no file was taken.
use Rattle.std.proofs.Common.{◌≡◌, ℕ, List, [], Option, Some, None, Result, Err, inl, refl, sym, subst}
use Rattle.tool_io.proofs.AppendLaws.{append_known-nil}
use Rattle.piece_writer.specs.LinePuts.{SinkTold}
use Rattle.statepoint_tool.specs.Answers.{Came, SinkSeen, Works, sink_seen}
use Rattle.statepoint_tool.specs.Steps.{Step, Stop}
use Rattle.statepoint_tool.specs.Taken.{FilesSeen, Bytes}
use Rattle.tool_words.specs.Words.{command_of}
use Rattle.statepoint_tool.specs.Work.{Output, Given, Generating, MayGiveAll, MayGiveNamed, command_work, showing, work}
use Rattle.statepoint_tool.specs.declared.refusal.Cause.TheVariants.{Words}
use Rattle.statepoint_tool.specs.declared.refusal.Refusal.{Refusal}
use Rattle.statepoint_tool.specs.declared.refusal.Refusal.TheVariants.{Defined, Memory}
use Rattle.statepoint_tool.specs.declared.status.Status.{Status}
use Rattle.statepoint_tool.specs.declared.engine.Engine.{Engine}
use Rattle.statepoint_tool.specs.declared.engine.Engine.TheVariants.{Meaning, Rewriter, Machine}
use Rattle.tool_words.specs.declared.request.RunRequest.{RunRequest}
use Rattle.tool_words.specs.declared.request.Command.{Command}
use Rattle.tool_words.specs.declared.request.Command.TheVariants.{Show, Rewrite, Check, Source, Run, Exec, Gen}
use Rattle.statepoint_tool.proofs.GivenLaws.{as_told, MayGive-as_told, map_as_told, MayGiveFromInput-as_told}

-- what told files give
abbrev pub run_as_told : FilesSeen → Engine → RunRequest → Given
run_as_told files engine request = record {
  module_file = as_told files request.code;
  input = as_told files request.input;
  plan = as_told files request.plan;
  map_file = map_as_told files engine;
}

abbrev pub all_as_told : FilesSeen → Option Command → Given
all_as_told files None = record { module_file = Bytes []; input = Bytes []; plan = Bytes []; map_file = Bytes [] }
all_as_told files (Some (Show module_file)) =
    record { module_file = as_told files module_file; input = Bytes []; plan = Bytes []; map_file = Bytes [] }
all_as_told files (Some (Rewrite module_file part)) =
    record { module_file = as_told files module_file; input = Bytes []; plan = Bytes []; map_file = Bytes [] }
all_as_told files (Some (Check module_file)) =
    record { module_file = as_told files module_file; input = Bytes []; plan = Bytes []; map_file = Bytes [] }
all_as_told files (Some (Source request)) = run_as_told files Meaning request
all_as_told files (Some (Run request map_file places trace)) = run_as_told files (Rewriter map_file (showing places trace)) request
all_as_told files (Some (Exec request map_file trust places trace)) = run_as_told files (Machine map_file trust (showing places trace)) request
all_as_told files (Some (Gen seed size steps)) = record { module_file = Bytes []; input = Bytes []; plan = Bytes []; map_file = Bytes [] }

MayGiveAll-as_told : (files : FilesSeen) (engine : Engine) (request : RunRequest) → MayGiveAll files engine request (run_as_told files engine request)
MayGiveAll-as_told files engine request =
    (MayGive-as_told files request.code, MayGiveFromInput-as_told files request.input request.plan engine)

pub MayGiveNamed-as_told : (files : FilesSeen) (command : Option Command) → MayGiveNamed files command (all_as_told files command)
MayGiveNamed-as_told files None = tt
MayGiveNamed-as_told files (Some (Show module_file)) = MayGive-as_told files module_file
MayGiveNamed-as_told files (Some (Rewrite module_file part)) = MayGive-as_told files module_file
MayGiveNamed-as_told files (Some (Check module_file)) = MayGive-as_told files module_file
MayGiveNamed-as_told files (Some (Source request)) = MayGiveAll-as_told files Meaning request
MayGiveNamed-as_told files (Some (Run request map_file places trace)) = MayGiveAll-as_told files (Rewriter map_file (showing places trace)) request
MayGiveNamed-as_told files (Some (Exec request map_file trust places trace)) = MayGiveAll-as_told files (Machine map_file trust (showing places trace)) request
MayGiveNamed-as_told files (Some (Gen seed size steps)) = tt

-- want of memory before anything was written
pub Works-memory : (files : FilesSeen) (command : Option Command) (phases : Given → Step Output → Type 0) (old : SinkTold) (faults : ℕ) →
    Works (MayGiveNamed files command) phases (Err Memory) (sink_seen old old faults faults)
Works-memory files command phases old faults =
    record {
      given = all_as_told files command;
      may = MayGiveNamed-as_told files command;
      came = inl (sym (append_known-nil old.written));
    }

-- words that give no command
pub Works-no_command : (words : List (List ℕ)) (files : FilesSeen) (old : SinkTold) (faults : ℕ) → command_of words ≡ None →
    Works (MayGiveNamed files (command_of words)) (work words) (Err (Defined Words)) (sink_seen old old faults faults)
Works-no_command words files old faults none =
    let given = all_as_told files (command_of words) in
    record {
      given = given;
      may = MayGiveNamed-as_told files (command_of words);
      came = record { defined = subst (λ (command : Option Command). command_work command given (Stop Words)) (sym none) refl; unwritten = sym (append_known-nil old.written) };
    }

-- a generated module takes no file
pub Works-generated : (words : List (List ℕ)) (files : FilesSeen) (seed size steps : ℕ) (result : Result Status Refusal) (out : SinkSeen) → command_of words ≡ Some (Gen seed size steps)
    → Came result (Generating seed size steps) out → Works (MayGiveNamed files (command_of words)) (work words) result out
Works-generated words files seed size steps result out is came =
    let given = all_as_told files (command_of words) in
    record {
      given = given;
      may = MayGiveNamed-as_told files (command_of words);
      came = subst (λ (command : Option Command). Came result (command_work command given) out) (sym is) came;
    }
