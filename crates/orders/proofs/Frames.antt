-- What a call touches: of the channels a send reads and takes its own, every other call none; and nobody's LLIDs. Assumes nothing.
use Rattle.std.specs.Prelude.{Ok, Err}
use mathlib.Core.Path.{◌≡◌, refl, sym, ap}
use mathlib.Core.Bool.{Bool, true, false, not}
use Prim.Native.Nat.{ℕ, zero, suc, ◌+◌, ◌%◌, ◌≤◌}
use native.Mathlib.Omega.{arith}
use lib.Dec.{eqb}
use borrow.Author.Tests.{eqb-false, leb-true, ne_eqb, not-false}
use Rattle.octets.specs.Choice.{pick}
use Rattle.octets.proofs.Choice.{true_false}
use Rattle.refusal.specs.Order.{and_then}
use Rattle.refusal.specs.declared.Refusal.TheVariants.{NothingOutstanding}
use Rattle.refusal.proofs.Order.{refuse_accepted, refused_accepts, then_accepted}
use Rattle.envelope.specs.Channels.{downstream, max_channel, on_zero, upstream_bit}
use Rattle.ends.specs.Occupancy.{free_from, occupied, taken}
use Rattle.ends.specs.Records.{with_channels, with_clock, with_keys}
use Rattle.ends.specs.declared.Channels.{Channels}
use Rattle.ends.specs.declared.Shared.{Shared}
use Rattle.ends.specs.declared.UnitRecord.{UnitRecord}
use Rattle.protocol.specs.Lift.{Outcome, outcome}
use Rattle.protocol.specs.Messages.{clock_kind, key_kind}
use Rattle.protocol.specs.Replies.{Silence, silent}
use Rattle.protocol.specs.UnitCalls.{acknowledge_unit, capture_unit, clock_acknowledged_unit, clock_message_of, clock_send_unit, key_acknowledged_unit, measure_unit, offer_unit, retry_unit}
use Rattle.protocol.specs.UnitTraffic.{receive_unit, send_unit, unit_receive_verdict, unit_send_verdict}
use Rattle.protocol.specs.declared.Acknowledgement.{Acknowledgement}
use Rattle.protocol.proofs.UnitCalls.{acknowledge_keeps, capture_keeps, clock_send_keeps, offer_keeps, retry_keeps}
use Rattle.protocol.proofs.UnitTraffic.{receive_keeps}
use Rattle.unit.specs.Reached.{if_accepted}
use Rattle.group_protocol.specs.GroupCalls.{acknowledge_group, group_marked, group_offered, group_outcome, offer_group, retry_group, send_group}
use Rattle.group_protocol.specs.Head.{with_group_keys, with_members}
use Rattle.group_protocol.proofs.GroupSteps.{marked_llid}
use Rattle.headend.specs.HeadCalls.{own_acknowledgement}
use Rattle.orders.specs.Calls.{Call, capture, measure, clock_send, offer, retry, acknowledge, send, receive}
use Rattle.orders.specs.Parties.{Party, Taking, channel_for, group, nobody, nothing, one_channel, taking_of, unit}
use Rattle.orders.proofs.Decisions.{Decided, Own, Seen, asked, by_verdict, decided, shape}
use Rattle.refusal.specs.Verdict.{Verdict, no_refusal}

abbrev pub seen_with : Seen → Channels → Seen
seen_with s e = record { shared = with_channels s.shared e; set = s.set; member = s.member }

---- of the channels

-- the channels after a call at that tick that takes so much
unfoldable pub taken_by : Taking → ℕ → Channels → Channels
taken_by nothing tick c = c
taken_by (channel_for channel eqs) tick c = occupied c channel tick eqs

unfoldable pub taken_if : Bool → Taking → ℕ → Channels → Channels
taken_if t k tick c = pick t (taken_by k tick c) c

-- the channels are the same to a call that takes so much
unfoldable pub alike : Taking → Channels → Channels → Type 0
alike nothing c d = Unit {0}
alike (channel_for channel eqs) c d = downstream channel ≡ true → free_from d channel ≡ free_from c channel

-- under other channels that are the same to it a party decides the same, and takes the same
pub record Framed (c : Call) (p : Party) (s : Seen) (o : Own p) (e : Channels) : Type 0 where
  pub verdict : (asked c p (seen_with s e) o).verdict ≡ (asked c p s o).verdict
  pub own : (asked c p (seen_with s e) o).own ≡ (asked c p s o).own
  pub handed : (asked c p (seen_with s e) o).handed ≡ (asked c p s o).handed
  pub channels : (asked c p s o).verdict ≡ no_refusal → (asked c p (seen_with s e) o).channels ≡ taken_by (taking_of c) s.shared.tick e

acknowledge_framed : (a : Acknowledgement) (s : Shared) (u : UnitRecord) (e : Channels)
    → let x = acknowledge_unit a s u in
    acknowledge_unit a (with_channels s e) u ≡ record { verdict = x.verdict; unit = x.unit; channels = e; handed = x.handed }
unfolding acknowledge_unit clock_acknowledged_unit key_acknowledged_unit outcome with_channels pick
acknowledge_framed a s u e = by_kind (eqb a.kind clock_kind) (eqb a.kind key_kind) where
  by_kind : (t k : Bool)
      → let x = pick t (clock_acknowledged_unit s u) (pick k (key_acknowledged_unit a.number s u) (outcome s (Err NothingOutstanding) u silent)) in
      let w = with_channels s e in
      pick t (clock_acknowledged_unit w u) (pick k (key_acknowledged_unit a.number w u) (outcome w (Err NothingOutstanding) u silent))
      ≡ record { verdict = x.verdict; unit = x.unit; channels = e; handed = x.handed }
  by_kind true k = refl
  by_kind false true = refl
  by_kind false false = refl

asked_framed : (c : Call) (p : Party) (s : Seen) (own : Own p) (e : Channels) → (shape c).ahead ≡ no_refusal
    → alike (taking_of c) s.shared.channels e → Framed c p s own e
unfolding
    asked taken_by alike with_channels taken
    outcome capture_unit measure_unit clock_send_unit clock_message_of offer_unit retry_unit receive_unit unit_receive_verdict send_unit unit_send_verdict
    group_outcome offer_group retry_group acknowledge_group send_group
asked_framed (capture llid) (unit i) s own e a k = record { verdict = refl; own = refl; handed = refl; channels = λ v. refl }
asked_framed (measure llid trip) (unit i) s own e a k = record { verdict = refl; own = refl; handed = refl; channels = λ v. refl }
asked_framed (clock_send llid) (unit i) s own e a k = record { verdict = refl; own = refl; handed = refl; channels = λ v. refl }
asked_framed (offer llid key) (unit i) s own e a k = record { verdict = refl; own = refl; handed = refl; channels = λ v. refl }
asked_framed (retry llid) (unit i) s own e a k = record { verdict = refl; own = refl; handed = refl; channels = λ v. refl }
asked_framed (acknowledge llid answer) (unit i) s own e a k =
    let f = acknowledge_framed (own_acknowledgement answer) s.shared own e in
    record {
      verdict = ap (λ (x : Outcome Silence). x.verdict) f;
      own = ap (λ (x : Outcome Silence). x.unit) f;
      handed = ap (λ (x : Outcome Silence). x.handed) f;
      channels = λ v. ap (λ (x : Outcome Silence). x.channels) f;
    }
asked_framed (send llid channel payload output) (unit i) s own e a k =
    let down = not-false _ (refuse_accepted _ _ _ (refuse_accepted _ _ _ a).1).0 in
    record { verdict = rw (k down); own = refl; handed = refl; channels = λ v. refl }
asked_framed (receive header payload output) (unit i) s own e a k = record { verdict = refl; own = refl; handed = refl; channels = λ v. refl }
asked_framed (capture llid) (group i) s own e a k = record { verdict = refl; own = refl; handed = refl; channels = λ v. refl }
asked_framed (measure llid trip) (group i) s own e a k = record { verdict = refl; own = refl; handed = refl; channels = λ v. refl }
asked_framed (clock_send llid) (group i) s own e a k = record { verdict = refl; own = refl; handed = refl; channels = λ v. refl }
asked_framed (offer llid key) (group i) s own e a k = record { verdict = refl; own = refl; handed = refl; channels = λ v. refl }
asked_framed (retry llid) (group i) s own e a k = record { verdict = refl; own = refl; handed = refl; channels = λ v. refl }
asked_framed (acknowledge llid answer) (group i) s own e a k = record { verdict = refl; own = refl; handed = refl; channels = λ v. refl }
asked_framed (send llid channel payload output) (group i) s own e a k =
    let down = not-false _ (refuse_accepted _ _ _ (refuse_accepted _ _ _ a).1).0 in
    record { verdict = rw (k down); own = refl; handed = refl; channels = λ v. refl }
asked_framed (receive header payload output) (group i) s own e a k = record { verdict = refl; own = refl; handed = refl; channels = λ v. refl }
asked_framed c nobody s own e a k = record { verdict = refl; own = refl; handed = refl; channels = λ v. refused_accepts _ v }

---- so does what the call makes of it

abbrev pub accepts : Verdict → Bool
accepts (Ok tt) = true
accepts (Err r) = false

settled : {A H : Type 0} (w : Verdict) (none : H) (own : A) (x y : Decided A H) (e t : Channels) → y.own ≡ x.own → y.handed ≡ x.handed
    → (w ≡ no_refusal → y.channels ≡ t)
    → by_verdict w none e own y
    ≡ record { verdict = w; own = if_accepted w x.own own; channels = pick (accepts w) t e; handed = if_accepted w x.handed none }
unfolding by_verdict if_accepted pick
settled (Ok tt) none own x y e t p q r = rw (p, q, r refl)
settled (Err z) none own x y e t p q r = refl

module _ (c : Call) (p : Party) (s : Seen) (own : Own p) where
  pub decided_framed : (e : Channels) → alike (taking_of c) s.shared.channels e → let d = decided c p s own in
      decided c p (seen_with s e) own
      ≡ record {
        verdict = d.verdict;
        own = d.own;
        channels = taken_if (accepts d.verdict) (taking_of c) s.shared.tick e;
        handed = d.handed;
      }
  unfolding by_verdict and_then if_accepted taken_if with_channels pick
  decided_framed e k = by_ahead (shape c).ahead refl where
    x : Decided (Own p) (shape c).Handed
    x = asked c p s own

    y : Decided (Own p) (shape c).Handed
    y = asked c p (seen_with s e) own

    by_ahead : (a : Verdict) → (shape c).ahead ≡ a
        → by_verdict (and_then a y.verdict) (shape c).nothing e own y
        ≡ record {
          verdict = and_then a x.verdict;
          own = if_accepted (and_then a x.verdict) x.own own;
          channels = pick (accepts (and_then a x.verdict)) (taken_by (taking_of c) s.shared.tick e) e;
          handed = if_accepted (and_then a x.verdict) x.handed (shape c).nothing;
        }
    by_ahead (Ok tt) a =
        let f = asked_framed c p s own e a k in
        rw f.verdict (settled x.verdict (shape c).nothing own x y e _ f.own f.handed f.channels)
    by_ahead (Err r) a = refl

---- the identities stay

abbrev pub Kept : (p : Party) → Own p → Own p → Type 0
Kept (unit i) u v = u.identity ≡ v.identity
Kept (group i) g k = g.llid ≡ k.llid
Kept nobody n m = Unit {0}

asked_kept : (c : Call) (p : Party) (s : Seen) (own : Own p) → Kept p (asked c p s own).own own
unfolding
    asked
    outcome measure_unit send_unit with_clock with_keys
    group_outcome offer_group group_offered retry_group acknowledge_group group_marked send_group with_group_keys with_members
asked_kept (capture llid) (unit i) s own = capture_keeps.identity s.shared own
asked_kept (measure llid trip) (unit i) s own = refl
asked_kept (clock_send llid) (unit i) s own = clock_send_keeps.identity s.shared own
asked_kept (offer llid key) (unit i) s own = (offer_keeps llid key).identity s.shared own
asked_kept (retry llid) (unit i) s own = (retry_keeps llid).identity s.shared own
asked_kept (acknowledge llid answer) (unit i) s own = (acknowledge_keeps (own_acknowledgement answer)).identity s.shared own
asked_kept (send llid channel payload output) (unit i) s own = refl
asked_kept (receive header payload output) (unit i) s own = (receive_keeps header).identity s.shared own
asked_kept (capture llid) (group i) s own = refl
asked_kept (measure llid trip) (group i) s own = refl
asked_kept (clock_send llid) (group i) s own = refl
asked_kept (offer llid key) (group i) s own = refl
asked_kept (retry llid) (group i) s own = refl
asked_kept (acknowledge llid answer) (group i) s own = marked_llid own s.member
asked_kept (send llid channel payload output) (group i) s own = refl
asked_kept (receive header payload output) (group i) s own = refl
asked_kept c nobody s own = tt

kept_itself : (p : Party) (own : Own p) → Kept p own own
kept_itself (unit i) own = refl
kept_itself (group i) own = refl
kept_itself nobody own = tt

pub decided_kept : (c : Call) (p : Party) (s : Seen) (own : Own p) → Kept p (decided c p s own).own own
unfolding by_verdict if_accepted
decided_kept c p s own = by_verdict-holds (and_then (shape c).ahead (asked c p s own).verdict) where
  by_verdict-holds : (w : Verdict) → Kept p (if_accepted w (asked c p s own).own own) own
  by_verdict-holds (Ok tt) = asked_kept c p s own
  by_verdict-holds (Err r) = kept_itself p own

---- a call takes a channel of the OLT's own direction

abbrev pub fits : Taking → Bool
fits nothing = true
fits (channel_for channel eqs) = downstream channel

ahead_fits : (c : Call) → (shape c).ahead ≡ no_refusal → fits (taking_of c) ≡ true
ahead_fits (capture llid) a = refl
ahead_fits (measure llid trip) a = refl
ahead_fits (clock_send llid) a = refl
ahead_fits (offer llid key) a = refl
ahead_fits (retry llid) a = refl
ahead_fits (acknowledge llid answer) a = refl
ahead_fits (send llid channel payload output) a = not-false _ (refuse_accepted _ _ _ (refuse_accepted _ _ _ a).1).0
ahead_fits (receive header payload output) a = refl

accepts_true : (v : Verdict) → accepts v ≡ true → v ≡ no_refusal
accepts_true (Ok tt) e = refl
accepts_true (Err r) e = true_false (sym e)

pub decided_fits : (c : Call) (p : Party) (s : Seen) (own : Own p) → accepts (decided c p s own).verdict ≡ true → fits (taking_of c) ≡ true
unfolding by_verdict
decided_fits c p s own e = ahead_fits c (then_accepted _ _ (accepts_true _ e)).0

---- two that take different channels

apart_zero : (a b : ℕ) → downstream a ≡ true → downstream b ≡ true → eqb a b ≡ false → on_zero b ≡ not (on_zero a)
unfolding downstream on_zero
apart_zero a b d f e = by_value a b (leb-true _ _ d) (leb-true _ _ f) (eqb-false a b e) where
  by_value : (a b : ℕ) → a ≤ max_channel → b ≤ max_channel → (a ≡ b → ⊥) → eqb (b % upstream_bit) 0 ≡ not (eqb (a % upstream_bit) 0)
  by_value zero zero h k n = absurd (n refl)
  by_value zero (suc zero) h k n = refl
  by_value (suc zero) zero h k n = refl
  by_value (suc zero) (suc zero) h k n = absurd (n refl)
  by_value zero (suc (suc b)) h k n = absurd (omega arith)
  by_value (suc zero) (suc (suc b)) h k n = absurd (omega arith)
  by_value (suc (suc a)) b h k n = absurd (omega arith)

free_apart : (c : Channels) (a b tick eqs : ℕ) → on_zero b ≡ not (on_zero a) → free_from (occupied c a tick eqs) b ≡ free_from c b
unfolding free_from occupied pick
free_apart c a b tick eqs e = rw e (by_channel (on_zero a)) where
  by_channel : (t : Bool)
      → pick (not t) (pick t (tick + eqs + 1) c.zero) (pick t c.one (tick + eqs + 1)) ≡ pick (not t) c.zero c.one
  by_channel true = refl
  by_channel false = refl

occupied_apart : (c : Channels) (a b tick m n : ℕ) → on_zero b ≡ not (on_zero a)
    → occupied (occupied c a tick m) b tick n ≡ occupied (occupied c b tick n) a tick m
unfolding occupied pick
occupied_apart c a b tick m n e = rw e (by_channel (on_zero a)) where
  by_channel : (t : Bool) → let x = tick + m + 1 in let y = tick + n + 1 in let d : Channels =
      record { zero = pick (not t) y (pick t x c.zero); one = pick (not t) (pick t c.one x) y } in
      d ≡ record { zero = pick t x (pick (not t) y c.zero); one = pick t (pick (not t) c.one y) x }
  by_channel true = refl
  by_channel false = refl

pub alike_itself : (k : Taking) (c : Channels) → alike k c c
unfolding alike
alike_itself nothing c = tt
alike_itself (channel_for channel eqs) c = λ d. refl

module _ (tick : ℕ) (c : Channels) where
  -- what the one takes the other does not see
  pub taken_alike : (t : Bool) (k l : Taking) → (t ≡ true → fits k ≡ true) → one_channel k l ≡ false → alike l c (taken_if t k tick c)
  unfolding taken_if taken_by pick one_channel alike
  taken_alike false k l f e = alike_itself l c
  taken_alike true nothing l f e = alike_itself l c
  taken_alike true (channel_for a m) nothing f e = tt
  taken_alike true (channel_for a m) (channel_for b n) f e = λ d. free_apart c a b tick m (apart_zero a b (f refl) d e)

  pub taken_apart : (t u : Bool) (k l : Taking) → (t ≡ true → fits k ≡ true) → (u ≡ true → fits l ≡ true) → one_channel k l ≡ false
      → taken_if u l tick (taken_if t k tick c) ≡ taken_if t k tick (taken_if u l tick c)
  unfolding taken_if taken_by pick one_channel
  taken_apart false u k l f g e = refl
  taken_apart true false k l f g e = refl
  taken_apart true true nothing l f g e = refl
  taken_apart true true (channel_for a m) nothing f g e = refl
  taken_apart true true (channel_for a m) (channel_for b n) f g e = occupied_apart c a b tick m n (apart_zero a b (f refl) (g refl) e)

pub channel_sym : (k l : Taking) → one_channel k l ≡ false → one_channel l k ≡ false
unfolding one_channel
channel_sym nothing nothing e = refl
channel_sym nothing (channel_for b n) e = refl
channel_sym (channel_for a m) nothing e = refl
channel_sym (channel_for a m) (channel_for b n) e = ne_eqb b a (λ q. eqb-false a b e (sym q))
