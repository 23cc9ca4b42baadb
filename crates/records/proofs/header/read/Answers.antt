-- `records::header::read` meets its contract: each field is read at its place. Assumes nothing.
use Rattle.records.specs.Record.{record_header}
use Rattle.records.proofs.header.read.Goals as goal

pub returns : goal.returns
unfolding record_header
returns c = record { value = cc; clock_lt_six_octets = c.number48.ensures.1 }
