-- Receive at both ends: number, end, count and output together (01, Keys; 'When the reader says no': 14, 1, 2, 10, 5, 11, 9).
-- h is the header, p the payload as it came, out the output as it was lent. Assumes nothing.
use Rattle.std.specs.Prelude.{List, ℕ}
use Rattle.octets.specs.Output.{WithOutput}
use Rattle.refusal.specs.Number.{number_of, verdict_number}
use Rattle.refusal.specs.declared.Refusal.{Refusal}
use Rattle.protocol.specs.Replies.{Reply}
use Rattle.protocol.specs.OltTraffic.{receiving_olt}
use Rattle.protocol.specs.OnuTraffic.{receiving_onu}
use Rattle.protocol.specs.declared.Header.{Header}
use Rattle.ends.specs.declared.Olt.{Olt}
use Rattle.ends.specs.declared.Onu.{Onu}
use Rattle.protocol.specs.declared.Passage.{Passage}
use Rattle.traffic.specs.Passages.{misfit, passed, passed_count, passed_runs, output_after}
use Rattle.traffic.specs.declared.OltReceived.{OltReceived}
use Rattle.traffic.specs.declared.OnuReceived.{OnuReceived}

unfoldable pub olt_received : Reply Olt Passage → ℕ → List ℕ → List ℕ → WithOutput OltReceived
olt_received r channel p out =
    record {
      answer = record { number = verdict_number r.verdict; olt = r.end; count = passed_count r.handed p; runs = passed_runs r.handed p };
      output = output_after r.verdict (passed channel r.handed p) out;
    }

unfoldable pub olt_receive_of : Olt → Header → List ℕ → List ℕ → WithOutput OltReceived
olt_receive_of o h p out = olt_received (receiving_olt o (misfit p out) h) h.channel p out

unfoldable pub onu_received : Reply Onu Passage → ℕ → List ℕ → List ℕ → WithOutput OnuReceived
onu_received r channel p out =
    record {
      answer = record { number = verdict_number r.verdict; onu = r.end; count = passed_count r.handed p; runs = passed_runs r.handed p };
      output = output_after r.verdict (passed channel r.handed p) out;
    }

-- refused: the end as it was lent, nothing counted
unfoldable pub onu_not_received : Onu → Refusal → OnuReceived
onu_not_received o r = record { number = number_of r; onu = o; count = 0; runs = 0 }

unfoldable pub onu_receive_of : Onu → Header → List ℕ → List ℕ → WithOutput OnuReceived
onu_receive_of o h p out = onu_received (receiving_onu o (misfit p out) h) h.channel p out
