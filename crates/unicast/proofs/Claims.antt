-- The claim follows from the invariant. Assumes nothing.
use mathlib.Core.Path.{◌≡◌, refl, sym, ◌∙◌, ap, subst}
use mathlib.Core.Bool.{true}
use mathlib.Core.List.{Memᴰ}
use Prim.Native.Nat.{ℕ, ◌+◌, ◌-◌, ◌%◌, ◌<◌, ◌≤◌, ◌^◌}
use native.Mathlib.Nat.{mod-lt}
use native.Mathlib.Omega.{arith}
use lib.ListN.{length, get_or}
use borrow.Author.Tests.{ltb-true}
use Rattle.octets.proofs.Choice.{both_left}
use Rattle.octets.proofs.Members.{mem_at}
use Rattle.clock.specs.Ticks.{clock_turn}
use Rattle.clock.proofs.Ticks.{clocks_differ}
use Rattle.envelope.specs.CounterBlock.{counter_block}
use Rattle.envelope.proofs.CounterBlock.{counter_block_injective}
use Rattle.ends.specs.Identities.{valid_mac, valid_identity}
use Rattle.ends.specs.declared.Onu.{Onu}
use Rattle.ends.specs.declared.Shared.{Shared}
use Rattle.ends.specs.declared.UnitRecord.{UnitRecord}
use Rattle.envelope.proofs.Channels.{downstream_below, upstream_between}
use Rattle.ends.proofs.Validity.{shared_in_range, olt_in_range, onu_in_range}
use Rattle.unicast.specs.Setting.{Site, Setting}
use Rattle.unicast.specs.History.{Direction, downward, upward, Envelope, Lane}
use Rattle.unicast.specs.Run.{State, lane_at, onu_at, sent_at, no_envelope}
use Rattle.unicast.specs.Claim.{sender_mac, sender_clock, nonce_for, index_turn, BlocksApart, LastKeyHeld, Claim}
use Rattle.unicast.proofs.Cases.{below_or_not}
use Rattle.unicast.proofs.Invariant.{count_up, Joined, Common, Invariant}
use Rattle.unicast.proofs.Alive.{Alive, sent_alive, arrived_alive}
use Rattle.unicast.proofs.Past.{sent_most}
use Rattle.unicast.proofs.OverheardSteps.{overheard_refused}

---- (2) counter blocks

-- the sender's MAC and clock are in their ranges
mac_below : (m : ℕ) → valid_mac m ≡ true → m < 2 ^ 48
unfolding valid_mac
mac_below m e = ltb-true _ _ e

pub olt_mac_below : (w : Setting) (s : State) → Invariant w s → w.mac < 2 ^ 48
olt_mac_below w s inv =
    rw inv.shared.mac at (mac_below s.olt.shared.mac (shared_in_range s.olt.shared (olt_in_range s.olt inv.valid).shared).mac)

pub onu_mac_below : (w : Setting) (now : ℕ) (l : Lane) (o : Onu) → Common w now l o → l.site.identity.mac < 2 ^ 48
unfolding valid_identity
onu_mac_below w now l o c = rw c.mac at (mac_below o.identity.mac (both_left _ _ (onu_in_range o c.valid).identity))

sender_mac_below : (w : Setting) (s : Site) (x : Direction) → w.mac < 2 ^ 48 → s.identity.mac < 2 ^ 48 → sender_mac w s x < 2 ^ 48
sender_mac_below w s downward a b = a
sender_mac_below w s upward a b = b

sender_clock_below : (w : Setting) (up : ℕ) (x : Direction) (tick : ℕ) → sender_clock w up x tick < 2 ^ 48
sender_clock_below w up downward tick = mod-lt (w.first + tick) (omega arith)
sender_clock_below w up upward tick = mod-lt (w.first + tick + up) (omega arith)

module _ (w : Setting) (sh : Shared) (now : ℕ) (l : Lane) (u : UnitRecord) (o : Onu) (jn : Joined w sh now l u o) where
  -- the ith that was sent, and its clock
  abbrev nth : ℕ → Envelope
  nth i = get_or l.past.sent i no_envelope

  abbrev clock_of : Envelope → ℕ
  clock_of e = sender_clock w e.up e.direction e.left

  -- of two sends of a unit or to it under one key, the later has another channel index or clock
  later_differs : (i j : ℕ) → i < j → j < length l.past.sent → 1 ≤ (nth i).number → (nth i).number ≡ (nth j).number
      → (nth i).channel ≡ (nth j).channel → clock_of (nth i) ≡ clock_of (nth j) → ⊥
  later_differs i j before below sealed number channel = by (nth i).direction (nth j).direction refl refl where
    at_i : Memᴰ (nth i) l.past.sent
    at_i = mem_at l.past.sent i no_envelope (omega (arith, before, below))

    at_j : Memᴰ (nth j) l.past.sent
    at_j = mem_at l.past.sent j no_envelope below

    by : (x y : Direction) → (nth i).direction ≡ x → (nth j).direction ≡ y
        → sender_clock w (nth i).up x (nth i).left ≡ sender_clock w (nth j).up y (nth j).left → ⊥
    by downward downward p q e =
        let t = jn.spending.spaced.down i j before below p q sealed number channel in
        clocks_differ w.first (nth i).left (nth i).left (nth j).left (omega arith) t.0 t.1 e
    by upward upward p q e =
        let t = jn.spending.spaced.up i j before below p q sealed number channel in
        clocks_differ w.first (count_up (nth i)) (count_up (nth i)) (count_up (nth j)) (omega arith) t.0 t.1
        (ap (λ (x : ℕ). x % clock_turn) (omega arith) ∙ e ∙ ap (λ (x : ℕ). x % clock_turn) (omega arith))
    by downward upward p q e =
        let low = downstream_below (nth i).channel (jn.spending.downs (nth i) at_i p).0 in
        let high = upstream_between (nth j).channel (jn.spending.ups (nth j) at_j q).0 in
        omega (arith, channel, low, high.0)
    by upward downward p q e =
        let high = upstream_between (nth i).channel (jn.spending.ups (nth i) at_i p).0 in
        let low = downstream_below (nth j).channel (jn.spending.downs (nth j) at_j q).0 in
        omega (arith, channel, low, high.0)

  one_send : w.mac < 2 ^ 48 → l.site.identity.mac < 2 ^ 48 → (i j a b : ℕ) → i < length l.past.sent → j < length l.past.sent
      → 1 ≤ (nth i).number → (nth i).number ≡ (nth j).number → a < index_turn → b < index_turn
      → counter_block (nonce_for w l.site (nth i)) a ≡ counter_block (nonce_for w l.site (nth j)) b → (i ≡ j) × (a ≡ b)
  one_send olt onu i j a b hi hj sealed number ha hb e =
      let mac : (x : Envelope) → sender_mac w l.site x.direction < 2 ^ 48 = λ x. sender_mac_below w l.site x.direction olt onu in
      let clock : (x : Envelope) → clock_of x < 2 ^ 48 = λ x. sender_clock_below w x.up x.direction x.left in
      let fields =
      counter_block_injective (nonce_for w l.site (nth i)) (nonce_for w l.site (nth j)) a b (mac (nth i)) (mac (nth j)) (clock (nth i)) (clock (nth j))
      ha hb e in
      let same : i ≡ j =
      below_or_not i j (λ before. absurd (later_differs i j before hj sealed number fields.0 fields.2))
      (λ after.
      below_or_not j i
      (λ before. absurd (later_differs j i before hi (omega (arith, sealed, number)) (sym number) (sym fields.0) (sym fields.2)))
      (λ last. omega arith)) in
      (same, fields.3)

-- a sealed envelope's number is that of an offer
pub offer_below : (w : Setting) (s : State) (u i : ℕ) → Alive w s u → i < length (lane_at s u).past.sent → 1 ≤ (sent_at s u i).number
    → (sent_at s u i).number - 1 < length (lane_at s u).keys.offers
offer_below w s u i v h sealed =
    let n = v.joined.numbers in
    let most = sent_most (lane_at s u) s.olt.shared.channels _ (onu_at s u) v.joined.spending n.mid (sent_at s u i) (mem_at _ i no_envelope h) in
    omega (arith, sealed, most, n.high, n.top, n.listed)

blocks_apart : (w : Setting) (s : State) → Invariant w s → BlocksApart w s
blocks_apart w s inv u v i j a b hi hj pi pj key ha hb e =
    let x = sent_alive w s u inv (sent_at s u i) (mem_at _ i no_envelope hi) in
    let y = sent_alive w s v inv (sent_at s v j) (mem_at _ j no_envelope hj) in
    let q = inv.keys u v ((sent_at s u i).number - 1) ((sent_at s v j).number - 1) (offer_below w s u i x hi pi) (offer_below w s v j y hj pj) key in
    let number : (sent_at s u i).number ≡ (sent_at s v j).number = omega (arith, pi, pj, q.1) in (
      q.0,
      subst
          (λ (z : ℕ). j < length (lane_at s z).past.sent → (sent_at s u i).number ≡ (sent_at s z j).number
          → counter_block (nonce_for w (lane_at s u).site (sent_at s u i)) a ≡ counter_block (nonce_for w (lane_at s z).site (sent_at s z j)) b
          → (i ≡ j) × (a ≡ b))
          q.0
          (λ k n f. one_send w s.olt.shared s.history.now (lane_at s u) _ (onu_at s u) x.joined (olt_mac_below w s inv)
          (onu_mac_below w s.history.now (lane_at s u) (onu_at s u) (inv.lane u x.known).common) i j a b hi k pi n ha hb f)
          hj number e,
    )

---- (3) the last key

both_hold : (w : Setting) (s : State) → Invariant w s → LastKeyHeld s
both_hold w s inv u n some switches down up =
    let jn = (arrived_alive w s u inv up.arrival up.among).joined in
    let m = jn.numbers in
    let least = jn.passing.up up.arrival up.among up.that_way in
    record {
      llids = jn.llids;
      active = m.counted ∙ switches;
      confirmed = omega (arith, switches, least, up.numbered, m.low, m.mid, m.counted);
      unit = omega (arith, switches, least, up.numbered, m.low, m.mid, m.counted);
      olt_key =
          jn.stored.olt n some (omega (arith, switches, m.low, m.mid, m.counted)) (omega (arith, switches, m.counted, m.high, m.top));
      onu_key =
          jn.stored.onu n some (omega (arith, switches, m.mid, m.counted)) (omega (arith, switches, m.high, m.counted));
    }

pub claim_holds : (w : Setting) (s : State) → Invariant w s → Claim w s
claim_holds w s inv =
    record {
      sent = λ u e m. (sent_alive w s u inv e m).joined.passing.sent e m;
      arrived = λ u r m. (arrived_alive w s u inv r m).joined.passing.arrived r m;
      blocks = blocks_apart w s inv;
      held = both_hold w s inv;
      overheard = overheard_refused w s inv;
    }
