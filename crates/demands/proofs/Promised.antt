-- All that is promised, from the theorems beside this file.
use Rattle.script.proofs.RoomLaws as Room
use Rattle.demands.specs.Promised.{Promised}
use Rattle.demands.proofs.RepliesProof.{run_demand1, judge_demand1, write_trace_demand1, slice_trace_demand1, write_script_demand1}
use Rattle.demands.proofs.ExpressionProof as Wording
use Rattle.demands.proofs.RefusalsProof as Rest
use Rattle.demands.proofs.Demand3Proof as Third
use Rattle.demands.proofs.SolverProof as Asked
use Rattle.demands.proofs.RaisingProof as Raised

pub promised : Promised
promised = record {
  run_replies = run_demand1;
  judge_replies = judge_demand1;
  trace_replies = write_trace_demand1;
  slice_replies = slice_trace_demand1;
  script_replies = write_script_demand1;
  keeps_or_breaks = Wording.decides;
  keeps_not_breaks = Wording.unbroken;
  breaks-once = Wording.breaks-once;
  run-rest = Rest.run-rest;
  judge-rest = Rest.judge-rest;
  trace_rest = Rest.write_trace_rest;
  slice-rest = Rest.slice_trace_rest;
  script_rest = Rest.write_script_rest;
  trace_gives_rest = Rest.trace_gives_rest;
  slice_gives_rest = Rest.slice_gives_rest;
  script_gives_rest = Rest.script_gives_rest;
  demand3 = Third.demand3;
  script_room = Room.script_room;
  posed = Asked.posed;
  solver = Asked.solver;
  runs-raised = Raised.runs-raised;
  traces_raised = Raised.traces_raised;
  settled = Raised.settled;
}
