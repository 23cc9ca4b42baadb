-- `octets::lowest` meets its contract: its octets are the last of eight. Assumes nothing.
use mathlib.Core.Path.{◌≡◌, ◌∙◌}
use Prim.Native.Nat.{◌+◌, ◌-◌, ◌/◌}
use native.Mathlib.Omega.{arith}
use Rattle.octets.specs.BigEndian.{octets_of}
use Rattle.octets.proofs.BigEndian.{octets_last}
use Rattle.octets.proofs.lowest.Goals as goal

pub returns : goal.returns
returns g c =
    let n = c.args.n in
    let k = g.row.K in
    let one : n / 1 ≡ n = omega arith in
    let all : c.to_be_bytes-octets.result ≡ octets_of 8 n = rw one c.to_be_bytes-octets.ensures in
    let last = rw c.unwrap.ensures at c.last_chunk.ensures.cases in
    let eight : 8 - k + k ≡ 8 = omega arith in
    last.1.same ∙ rw all (rw eight at (octets_last k (8 - k) n))
