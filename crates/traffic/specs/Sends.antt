-- Send at both ends: number, end, header, count and output together (01, Keys; 'When the reader says no': 14, 1, 2, 5, 12, 13).
-- p is the payload, out the output as it was lent. Assumes nothing.
use Rattle.std.specs.Prelude.{List, ℕ}
use Rattle.octets.specs.Output.{WithOutput}
use Rattle.refusal.specs.Number.{verdict_number}
use Rattle.envelope.specs.ControlMask.{eqs_of}
use Rattle.protocol.specs.Replies.{Reply}
use Rattle.protocol.specs.OltTraffic.{sending_olt}
use Rattle.protocol.specs.OnuTraffic.{sending_onu}
use Rattle.ends.specs.declared.Olt.{Olt}
use Rattle.ends.specs.declared.Onu.{Onu}
use Rattle.protocol.specs.declared.Sending.{Sending}
use Rattle.traffic.specs.Passages.{misfit, passed, passed_count, passed_runs, output_after}
use Rattle.traffic.specs.declared.OltSent.{OltSent}
use Rattle.traffic.specs.declared.OnuSent.{OnuSent}

unfoldable pub olt_sent : Reply Olt Sending → ℕ → List ℕ → List ℕ → WithOutput OltSent
olt_sent r channel p out =
    record {
      answer =
          record {
            number = verdict_number r.verdict;
            olt = r.end;
            header = r.handed.header;
            count = passed_count r.handed.passage p;
            runs = passed_runs r.handed.passage p;
          };
      output = output_after r.verdict (passed channel r.handed.passage p) out;
    }

unfoldable pub olt_send_of : Olt → ℕ → ℕ → List ℕ → List ℕ → WithOutput OltSent
olt_send_of o llid channel p out = olt_sent (sending_olt o (misfit p out) llid channel (eqs_of p)) channel p out

unfoldable pub onu_sent : Reply Onu Sending → ℕ → List ℕ → List ℕ → WithOutput OnuSent
onu_sent r channel p out =
    record {
      answer =
          record {
            number = verdict_number r.verdict;
            onu = r.end;
            header = r.handed.header;
            count = passed_count r.handed.passage p;
            runs = passed_runs r.handed.passage p;
          };
      output = output_after r.verdict (passed channel r.handed.passage p) out;
    }

unfoldable pub onu_send_of : Onu → ℕ → ℕ → List ℕ → List ℕ → WithOutput OnuSent
onu_send_of o llid channel p out = onu_sent (sending_onu o (misfit p out) llid channel (eqs_of p)) channel p out
