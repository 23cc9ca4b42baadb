-- Counter blocks that differ in a field differ. Assumes nothing.
use mathlib.Core.Path.{◌≡◌, ap}
use mathlib.Core.List.{List}
use Prim.Native.Nat.{ℕ, ◌<◌, ◌^◌}
use lib.ListN.{get_or, take, drop}
use Rattle.octets.specs.BigEndian.{octets_of}
use Rattle.octets.proofs.BigEndian.{octets_injective}
use Rattle.envelope.specs.CounterBlock.{counter_block}
use Rattle.envelope.specs.declared.Nonce.{Nonce}

-- equal counter blocks have equal fields, each field in its range
pub counter_block_injective : (n m : Nonce) (j k : ℕ)
    → n.mac < 2 ^ 48 → m.mac < 2 ^ 48 → n.clock < 2 ^ 48 → m.clock < 2 ^ 48 → j < 2 ^ 24 → k < 2 ^ 24
    → counter_block n j ≡ counter_block m k
    → (n.channel ≡ m.channel) × (n.mac ≡ m.mac) × (n.clock ≡ m.clock) × (j ≡ k)
unfolding counter_block
counter_block_injective n m j k a b c d hj hk e =
    let channel : n.channel ≡ m.channel = ap (λ (l : List ℕ). get_or l 0 0) e in
    let mac : octets_of 6 n.mac ≡ octets_of 6 m.mac = ap (λ (l : List ℕ). take 6 (drop 1 l)) e in
    let clock : octets_of 6 n.clock ≡ octets_of 6 m.clock = ap (λ (l : List ℕ). take 6 (drop 7 l)) e in
    let index : octets_of 3 j ≡ octets_of 3 k = ap (λ (l : List ℕ). drop 13 l) e in
    (channel, octets_injective 6 _ _ a b mac, octets_injective 6 _ _ c d clock, octets_injective 3 _ _ hj hk index)
