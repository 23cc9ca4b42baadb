-- `recordings::partners::match_up` meets its contract. The loop's invariant: the partners of the records of a before i are listed,
-- and each record of b has met its partner among them, if it is there. Assumes nothing.
use mathlib.Core.Path.{◌≡◌}
use Prim.Native.Nat.{ℕ, ◌<◌}
use lib.ListN.{length, get_or}
use Rattle.records.specs.Block.{most_records, records_in, record_of}
use Rattle.recordings.specs.Duties.{Listed, Met}
use Rattle.recordings.proofs.partners.match_up.Given as goal

abbrev pub invariant-loop-i : goal.invariant-loop-i
invariant-loop-i l =
    record {
      listed : Listed l.first l.a l.b l.i;
      met : (j : ℕ) → j < records_in l.b → Met (record_of l.b j) l.a l.i (get_or l.second j 0);
      first_size : length l.first ≡ most_records;
      second_size : length l.second ≡ most_records;
    }
